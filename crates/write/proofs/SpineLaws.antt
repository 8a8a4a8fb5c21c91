-- The first children of a tree, one below the other: where they stand, and what is written of them from the last one up.
use Prim.Native.Nat.{ℕ, zero, suc, ◌+◌, ◌-◌, ◌*◌, ◌%◌, ◌^◌, ◌≤◌, ◌<◌, min, max}
use mathlib.Core.{Path.{◌≡◌, refl, ap, ap₂, sym, ◌∙◌}, Bool.{Bool, true, false}, List.{List, ◌++◌, append_assoc}}
use native.Mathlib.{Omega.{arith}, Nat.{add-zero}}
use lib.{Dec.{eqb}, ListN.{length, take, drop, get_or, length-drop, length-append}, Seq.{get_or-drop, drop-drop}}
use Rattle.molang.specs.{Words.{low_of}, WriteEntry.{trees_of}}
use Rattle.words.specs.{Tokens.{node_length}, Fields.{operator_of}}
use Rattle.words.specs.{Extents.{wider, first_extent}, declared.extent.Extent.{Extent}, Records.{laid_at}}
use Rattle.words.proofs.{TreeLaws.{Fits, from_nothing, first_fits, extent-taken}, RecordLaws.{laid-before}}
use Rattle.shape.{specs.Shaped.{count_index, first_five, Shaped}, proofs.RowLaws.{Opened, opened, shaped-room}}
use Rattle.write.specs.declared.plain.Seat.{Seat}
use Rattle.write.specs.Spelling.{pair_opener, pair_closer, closer_words, nothing_seen, seen_with, first_size, node_written, operand_written}
use Rattle.write.specs.{Spelling.{node_tokens, operand_of, filled_words, Room}, Reading.{operator_at, children_at}}
use Rattle.write.specs.Seats.{is_paired, if_true, first_seat, left_seat, right_seat, only_seat}
use Rattle.write.specs.Spine.{has_pair, front_of, front_at, with_pair, span_taken, Opens, Spine, the_root, first_child}
use Rattle.write.proofs.StepLaws.{Puts, Writes, puts-more, puts-length, pair-writes, part_length, tail, tail-part}
use Rattle.write.proofs.StepLaws.{one_left, nodes_left, fewer-nodes}
use Rattle.write.proofs.SpellLaws.{OneBelow, one_below, TwoBelow, two-below, only_words, left_words, left_size, right_part, right_words}
use Rattle.write.proofs.SpellLaws.{paired_words, unpaired-words, first-within}
use borrow.Author.Tests.{eq-eqb, ne_eqb}

-- The seat of the first child, by the number of children.
pub first-of-two : (op n : ℕ) → n ≡ 2 → first_seat op n ≡ left_seat op
first-of-two op n e = unfold first_seat in rw (eq-eqb n 2 e, first_seat)

pub first-of-one : (op n : ℕ) → (n ≡ 2 → ⊥) → first_seat op n ≡ only_seat op
first-of-one op n e = unfold first_seat in rw (ne_eqb n 2 e, first_seat)

if-few : (b : Bool) → if_true b 5 ≤ 5
if-few true = omega arith
if-few false = omega arith

-- No more than two tokens stand before a first child.
pub front-few : (n : ℕ) (b : Bool) → front_of n b ≤ 10
front-few n b = unfold front_of in omega (arith, if-few (eqb n 1), if-few b)

-- The children of the node that the words after `at` open with.
pub children-here : (W : List ℕ) (at : ℕ) → low_of (get_or (drop at W) count_index 0) ≡ children_at W at
children-here W at = ap low_of (get_or-drop at W count_index 0)

-- The words open with a node.
pub opens-with : {W : List ℕ} (s : Opens W) → Opened 2 (suc s.others) W
opens-with s = opened s.shaped (omega (arith, shaped-room s.shaped))

-- A node that has children has its first behind it.
pub first-opens : {W : List ℕ} → Opens W → (low_of (get_or W count_index 0) ≡ 0 → ⊥) → Opens (drop node_length W)
first-opens {W = W} s nz = go (low_of (get_or W count_index 0)) refl
  where
    go : (n : ℕ) → low_of (get_or W count_index 0) ≡ n → Opens (drop node_length W)
    go zero e = absurd (nz e)
    go (suc zero) e = record { others = s.others; shaped = (one_below (opens-with s) e).shaped }
    go (suc (suc zero)) e = record { others = suc s.others; shaped = (two-below (opens-with s) e).left }
    go (suc (suc (suc n))) e = absurd (omega (arith, (opens-with s).few))

-- So the words after any of them open with it.
pub spine-opens : {W : List ℕ} {at front : ℕ} → Opens W → Spine W at front → Opens (drop at W)
spine-opens s the_root = s
spine-opens {W = W} s (first_child {at = at} t nz) =
    rw (← drop-drop node_length at W) (first-opens (spine-opens s t) (λ e. nz (sym (children-here W at) ∙ e)))

-- They stand within the words, a node that has children before its first.
pub spine-long : {W : List ℕ} {at front : ℕ} → Opens W → Spine W at front → at + node_length ≤ length W
spine-long {W = W} {at = at} s t = omega (arith, (opens-with (spine-opens s t)).long, length-drop at W)

pub spine-longer : {W : List ℕ} {at front : ℕ} → Opens W → Spine W at front → (children_at W at ≡ 0 → ⊥)
    → at + node_length + node_length ≤ length W
spine-longer s t nz = spine-long s (first_child t nz)

-- At most ten words stand before each.
pub spine-front : {W : List ℕ} {at front : ℕ} → Spine W at front → node_length * front ≤ 10 * at
spine-front the_root = omega arith
spine-front {W = W} (first_child {at = at} t nz) = omega (arith, spine-front t, front-few (children_at W at) (has_pair W at))

operator-here : (W : List ℕ) (at : ℕ) → operator_of (get_or (drop at W) 0 0) ≡ operator_at W at
operator-here W at = ap operator_of (get_or-drop at W 0 0 ∙ ap (λ (n : ℕ). get_or W n 0) (add-zero at))

-- The seat of the first child of the node that words open with, and whether it gets a pair.
abbrev pub seat_in : List ℕ → Seat
seat_in X = first_seat (operator_of (get_or X 0 0)) (low_of (get_or X count_index 0))

abbrev pub pair_in : List ℕ → Bool
pair_in X = is_paired (seat_in X) (operator_of (get_or (drop node_length X) 0 0)) (low_of (get_or (drop node_length X) count_index 0))

pub pair-here : (W : List ℕ) (at : ℕ) → has_pair W at ≡ pair_in (drop at W)
unfolding has_pair
pair-here W at =
    rw (
      drop-drop node_length at W,
      operator-here W at,
      children-here W at,
      operator-here W (at + node_length),
      children-here W (at + node_length),
    )

-- An operand's words are as long as its node's, with the opener.
operand-longer : {X : List ℕ} (s : Opens X) (p : Seat) (b : Bool) → is_paired p (operator_of (get_or X 0 0)) (low_of (get_or X count_index 0)) ≡ b
    → if_true b 5 + length (node_written X) ≤ length (operand_written p X)
operand-longer {X = X} s p true e =
    let opener = pair_opener (first_extent (trees_of X)).start (first_extent (trees_of X)).end in
    let closer = pair_closer (first_extent (trees_of X)).end in
    rw (paired_words (opens-with s) p e) (omega (
      arith,
      length-append opener (node_written X ++ closer),
      length-append (node_written X)
          closer,
    ))
operand-longer s p false e = rw (unpaired-words (opens-with s) p e) (omega arith)

front-one : (n : ℕ) (b : Bool) → n ≡ 1 → front_of n b ≡ 5 + if_true b 5
front-one n b e = unfold front_of in rw (eq-eqb n 1 e)

front-two : (n : ℕ) (b : Bool) → n ≡ 2 → front_of n b ≡ if_true b 5
front-two n b e = unfold front_of in rw (ne_eqb n 1 (λ h. absurd (omega (arith, e, h)))) (omega arith)

-- A node with children has one or two.
pub data Few (n : ℕ) : Type 0 where
  one : n ≡ 1 → Few n
  two : n ≡ 2 → Few n

pub few-children : {X : List ℕ} → Opens X → (low_of (get_or X count_index 0) ≡ 0 → ⊥) → Few (low_of (get_or X count_index 0))
few-children {X = X} s nz = go (low_of (get_or X count_index 0)) refl
  where
    go : (n : ℕ) → low_of (get_or X count_index 0) ≡ n → Few (low_of (get_or X count_index 0))
    go zero e = absurd (nz e)
    go (suc zero) e = one e
    go (suc (suc zero)) e = two e
    go (suc (suc (suc n))) e = absurd (omega (arith, (opens-with s).few))

-- A node's words are as long as its first child's, with what stands before them.
first-shorter : {X : List ℕ} → Opens X → (low_of (get_or X count_index 0) ≡ 0 → ⊥)
    → front_of (low_of (get_or X count_index 0)) (pair_in X) + length (node_written (drop node_length X)) ≤ length (node_written X)
unfolding first_five
first-shorter {X = X} s nz = go (few-children s nz)
  where
    go : Few (low_of (get_or X count_index 0)) → front_of (low_of (get_or X count_index 0)) (pair_in X) + length (node_written (drop node_length X))
        ≤ length (node_written X)
    go (one e) =
        let is = first-of-one (operator_of (get_or X 0 0)) (low_of (get_or X count_index 0)) (λ h. absurd (omega (arith, e, h))) in
        let operand = operand-longer (first-opens s nz) (seat_in X) (pair_in X) refl in
        let same : length (operand_written (seat_in X) (drop node_length X)) ≡ length (only_words X) = rw is refl in
        let all : length (node_written X) ≡ length (first_five X ++ (only_words X ++ closer_words X)) = rw (one_below (opens-with s) e).words
        refl
        in
        omega (
          arith,
          front-one (low_of (get_or X count_index 0)) (pair_in X) e,
          operand,
          same,
          all,
          length-append (first_five X) (only_words X ++ closer_words X),
          length-append (only_words X) (closer_words X),
        )
    go (two e) =
        let is = first-of-two (operator_of (get_or X 0 0)) (low_of (get_or X count_index 0)) e in
        let operand = operand-longer (first-opens s nz) (seat_in X) (pair_in X) refl in
        let same : length (operand_written (seat_in X) (drop node_length X)) ≡ length (left_words X) = rw is refl in
        let all : length (node_written X) ≡ length (left_words X ++ (first_five X ++ right_words X)) = rw (two-below (opens-with s) e).words
        refl
        in
        omega (
          arith,
          front-two (low_of (get_or X count_index 0)) (pair_in X) e,
          operand,
          same,
          all,
          length-append (left_words X) (first_five X
              ++ right_words X),
        )

-- So there is room for each of the first children where there is for the tree.
pub spine-room : {W : List ℕ} {at front : ℕ} → Opens W → Spine W at front
    → front + length (node_written (drop at W)) ≤ length (node_written W)
spine-room s the_root = omega arith
spine-room {W = W} s (first_child {at = at} {front = front} t nz) =
    let X = drop at W in
    let shorter = first-shorter (spine-opens s t) (λ e. nz (sym (children-here W at) ∙ e)) in
    let same : front_of (low_of (get_or X count_index 0)) (pair_in X) ≡ front_at W at = rw (pair-here W at, ← children-here W at) refl in
    let there : length (node_written (drop node_length X)) ≡ length (node_written (drop (at + node_length) W)) = rw (drop-drop node_length at
    W) refl
    in
    omega (arith, spine-room s t, shorter, same, there)

-- A step up: the node above one of the first children.
pub record Up (W : List ℕ) (node front : ℕ) : Type 0 where
  pub above : ℕ
  pub spine : Spine W (node - node_length) above
  pub some : children_at W (node - node_length) ≡ 0 → ⊥
  pub is_front : front ≡ above + front_at W (node - node_length)
  pub is_node : node - node_length + node_length ≡ node

pub spine-up : {W : List ℕ} {node front : ℕ} → Spine W node front → 0 < node → Up W node front
spine-up the_root h = absurd (omega arith)
spine-up {W = W} (first_child {at = at} {front = front} t nz) h =
    let e : at + node_length - node_length ≡ at = omega arith in
    record { above = front; spine = rw e t; some = rw e nz; is_front = rw e refl; is_node = omega arith }

-- The root has nothing before it.
pub spine-root : {W : List ℕ} {node front : ℕ} → Spine W node front → node ≤ 0 → (node ≡ 0) × (front ≡ 0)
spine-root the_root h = (refl, refl)
spine-root (first_child t nz) h = absurd (omega (arith, h))

-- THE LOOP'S INVARIANT, on the way up: the tree of the node that was come to is written from `place` on, its words end at `next`, and its
-- extent is known.
pub record Climbing (W L : List ℕ) (from node place next : ℕ) (list : List ℕ) (to : ℕ) (seen : Extent) : Type 0 where
  pub front : ℕ
  pub spine : Spine W node front
  pub is_place : place ≡ from + front
  pub puts : Puts (node_written (drop node W)) L place list to
  pub is_next : next ≡ node + node_length * first_size (trees_of (drop node W))
  pub spans : seen ≡ seen_with nothing_seen (drop node W)

-- A span is taken in before a tree or after it.
exchanged : (e : Extent) (b c : ℕ) → Fits e → wider e b c ≡ wider (wider nothing_seen b c) e.start e.end
unfolding wider low_of
exchanged e b c h =
    let extent : ℕ → ℕ → Extent = λ s t. record { start = s; end = t } in
    let starts : min e.start (b % 2 ^ 29) ≡ min (min (2 ^ 29 - 1) (b % 2 ^ 29)) (e.start % 2 ^ 29) = omega (arith, h.0) in
    let ends : max e.end (c % 2 ^ 29) ≡ max (max 0 (c % 2 ^ 29)) (e.end % 2 ^ 29) = omega (arith, h.1) in
    ap₂ extent starts ends

taken-after : (X : List ℕ) (b c : ℕ) → node_length ≤ length X → wider (seen_with nothing_seen X) b c ≡ seen_with (wider nothing_seen b c) X
taken-after X b c long =
    ap (λ (e : Extent). wider e b c) (from_nothing X)
    ∙ (exchanged (first_extent (trees_of X)) b c (first_fits X) ∙ extent-taken X (wider nothing_seen b c) long)

-- An operand in its pair, if it gets one.
paired-step : {X L list list1 : List ℕ} {q to to1 : ℕ} {seen : Extent} (p : Seat) (r : Room (operand_of p) X L q) (b : Bool)
    → is_paired p (operator_of (get_or X 0 0)) (low_of (get_or X count_index 0)) ≡ b
    → Puts (node_written X) L (q + if_true b 5) list to
    → seen ≡ seen_with nothing_seen X
    → list1 ≡ with_pair b seen (q + if_true b 5) to list
    → to1 ≡ to + if_true b 5
    → Puts (operand_written p X) L q list1 to1
paired-step {X = X} {L = L} {list = list} {list1 = list1} {q = q} {to = to} {to1 = to1} {seen = seen} p r true e w sp laid on =
    let back : q + 5 - 5 ≡ q = omega arith in
    (pair-writes p r e (filled_words X) list to (refl, w) seen sp list1 to1
    (laid ∙ ap (λ (n : ℕ). laid_at to (pair_closer seen.end) (laid_at n (pair_opener seen.start seen.end) list)) back) on).1
paired-step {X = X} {L = L} {list1 = list1} {q = q} {to = to} {to1 = to1} p r false e w sp laid on =
    let same : q + 0 ≡ q = omega arith in
    rw (unpaired-words (opens-with (record { others = r.others; shaped = r.shaped })) p e)
    (laid ∙ (w.0 ∙ ap (λ (n : ℕ). laid_at n (node_written X) L) same), omega (arith, on, w.1))

module _ {W L : List ℕ} {from node place next : ℕ} {list : List ℕ} {to : ℕ} {seen : Extent} (s : Opens W)
    (fits : from + length (node_written W) ≤ length L) (c : Climbing W L from node place next list to seen) where
  -- There is room for the tree that is written.
  climbing-room : place + length (node_written (drop node W)) ≤ length L
  climbing-room = omega (arith, spine-room s c.spine, c.is_place)

  pub climbing-length : length list ≡ length L
  climbing-length = puts-length place (node_written (drop node W)) L climbing-room c.puts

-- A turn of the loop: the tree that was come to is not the root.
pub record Turn (W L : List ℕ) (from node place next : ℕ) (list : List ℕ) (to : ℕ) (seen : Extent) : Type 0 where
  pub opens : Opens W
  pub fits : from + length (node_written W) ≤ length L
  pub climbed : Climbing W L from node place next list to seen
  pub below : 0 < node

module _ {W L : List ℕ} {from node place next : ℕ} {list : List ℕ} {to : ℕ} {seen : Extent}
    (v : Turn W L from node place next list to seen) where
  up : Up W node v.climbed.front
  up = spine-up v.climbed.spine v.below

  pub up-longer : node - node_length + node_length + node_length ≤ length W
  up-longer = spine-longer v.opens up.spine up.some

  pub up-opens : Opens (drop (node - node_length) W)
  up-opens = spine-opens v.opens up.spine

  pub own-long : node_length ≤ length (tail (node - node_length) W)
  own-long = rw (tail-part (node - node_length) W) (opens-with up-opens).long

  up-some : low_of (get_or (drop (node - node_length) W) count_index 0) ≡ 0 → ⊥
  up-some e = up.some (sym (children-here W (node - node_length)) ∙ e)

  child-words : drop node W ≡ drop node_length (drop (node - node_length) W)
  child-words = ap (λ (n : ℕ). drop n W) (sym up.is_node) ∙ sym (drop-drop node_length (node - node_length) W)

  pub up-front : front_at W (node - node_length) ≤ place
  up-front = omega (arith, v.climbed.is_place, up.is_front)

  up-place : place - front_at W (node - node_length) ≡ from + up.above
  up-place = unfold up in omega (arith, v.climbed.is_place, up.is_front)

  -- The room of the node above.
  pub up_room : place - front_at W (node - node_length) + length (node_written (drop (node - node_length) W)) ≤ length L
  up_room = omega (arith, up-place, spine-room v.opens up.spine, v.fits)

  -- Where the words of the first child begin with its pair, and the room that they have.
  begins : ℕ
  begins = place - if_true (has_pair W (node - node_length)) 5

  front-parts : front_at W (node - node_length)
      ≡ if_true (eqb (children_at W (node - node_length)) 1) 5 + if_true (has_pair W (node - node_length)) 5
  front-parts = unfold front_of in refl

  pub pair-within : if_true (has_pair W (node - node_length)) 5 ≤ place
  pair-within = omega (arith, up-front, front-parts)

  begins-behind : begins ≡ place - front_at W (node - node_length) + if_true (eqb (children_at W (node - node_length)) 1) 5
  begins-behind = unfold begins in omega (arith, up-front, front-parts)

  operand-fits : begins + length (operand_written (seat_in (drop (node - node_length) W)) (drop node_length (drop (node - node_length) W)))
      ≤ length L
  unfolding first_five
  operand-fits = go (few-children up-opens up-some)
    where
      go : Few (low_of (get_or (drop (node - node_length) W) count_index 0))
          → begins + length (operand_written (seat_in (drop (node - node_length) W)) (drop node_length (drop (node - node_length) W))) ≤
          length L
      go (one e) =
          let X = drop (node - node_length) W in
          let is = first-of-one (operator_of (get_or X 0 0)) (low_of (get_or X count_index 0)) (λ h. absurd (omega (arith, e, h))) in
          let same : length (operand_written (seat_in X) (drop node_length X)) ≡ length (only_words X) = rw is refl in
          let all : length (node_written X) ≡ length (first_five X ++ (only_words X ++ closer_words X)) =
          rw (one_below (opens-with up-opens) e).words refl
          in
          let own : if_true (eqb (children_at W (node - node_length)) 1) 5 ≡ 5 =
          rw (eq-eqb (children_at W (node - node_length)) 1 (sym (children-here W (node - node_length)) ∙ e)) refl
          in
          omega (
            arith,
            begins-behind,
            own,
            up_room,
            same,
            all,
            length-append (first_five X) (only_words X ++ closer_words X),
            length-append (only_words X) (closer_words X),
          )
      go (two e) =
          let X = drop (node - node_length) W in
          let is = first-of-two (operator_of (get_or X 0 0)) (low_of (get_or X count_index 0)) e in
          let same : length (operand_written (seat_in X) (drop node_length X)) ≡ length (left_words X) = rw is refl in
          let all : length (node_written X) ≡ length (left_words X ++ (first_five X ++ right_words X)) =
          rw (two-below (opens-with up-opens) e).words refl
          in
          let two_here : children_at W (node - node_length) ≡ 2 = sym (children-here W (node - node_length)) ∙ e in
          let own : if_true (eqb (children_at W (node - node_length)) 1) 5 ≡ 0 =
          rw (ne_eqb (children_at W (node - node_length)) 1 (λ h. absurd (omega (arith, two_here, h)))) refl
          in
          omega (arith, begins-behind, own, up_room, same, all, length-append (left_words X) (first_five X ++ right_words X))

  first-here : Opens (drop node_length (drop (node - node_length) W))
  first-here = first-opens up-opens up-some

  operand-room : Room (operand_of (seat_in (drop (node - node_length) W))) (drop node_length (drop (node - node_length) W)) L begins
  operand-room = record { others = first-here.others; shaped = first-here.shaped; room = operand-fits }

  child-put : Puts (node_written (drop node_length (drop (node - node_length) W))) L place list to
  child-put = rw child-words at v.climbed.puts

  child-spans : seen ≡ seen_with nothing_seen (drop node_length (drop (node - node_length) W))
  child-spans = rw child-words at v.climbed.spans

  -- What the pair of the first child asks.
  pub pair-asked : has_pair W (node - node_length) ≡ true → (5 ≤ place) × (place ≤ length list) × (to + 5 ≤ length list)
  unfolding begins
  pair-asked e =
      let X = drop node_length (drop (node - node_length) W) in
      let opener = pair_opener (first_extent (trees_of X)).start (first_extent (trees_of X)).end in
      let closer = pair_closer (first_extent (trees_of X)).end in
      let all : length (operand_written (seat_in (drop (node - node_length) W)) X) ≡ length (opener ++ (node_written X ++ closer)) =
      rw (paired_words (opens-with first-here) (seat_in (drop (node - node_length) W)) (sym (pair-here W (node - node_length)) ∙ e)) refl
      in
      let five : if_true (has_pair W (node - node_length)) 5 ≡ 5 = rw e refl in
      let front = length-append opener (node_written X ++ closer) in
      let back = length-append (node_written X) closer in (
        omega (arith, five, pair-within),
        omega (arith, climbing-length v.opens v.fits v.climbed, climbing-room v.opens v.fits v.climbed),
        omega (arith, five, pair-within, operand-fits, all, front, back, climbing-length v.opens v.fits v.climbed, child-put.1),
      )

  module _ {list1 : List ℕ} {to1 : ℕ} (laid1 : list1 ≡ with_pair (has_pair W (node - node_length)) seen place to list)
      (on1 : to1 ≡ to + if_true (has_pair W (node - node_length)) 5) where
    pair_put : Puts (operand_written (seat_in (drop (node - node_length) W)) (drop node_length (drop (node - node_length) W))) L begins list1
        to1
    unfolding begins
    pair_put =
        let there : place - if_true (has_pair W (node - node_length)) 5 + if_true (has_pair W (node - node_length)) 5 ≡ place =
        omega (arith, pair-within)
        in
        paired-step {list = list} {to = to} {seen = seen} (seat_in (drop (node - node_length) W)) operand-room (has_pair W
        (node - node_length)) (sym (pair-here W (node - node_length)))
        (rw there child-put) child-spans (rw there laid1) on1

    pub pair-list : length list1 ≡ length L
    pair-list =
        puts-length begins (operand_written (seat_in (drop (node - node_length) W)) (drop node_length (drop (node - node_length) W))) L
        operand-fits
        pair_put

    -- ONE CHILD: the token before it, a bracket's closer behind.
    module _ (a : low_of (get_or (drop (node - node_length) W) count_index 0) ≡ 2 → ⊥) where
      is_one : low_of (get_or (drop (node - node_length) W) count_index 0) ≡ 1
      is_one = one_left (low_of (get_or (drop (node - node_length) W) count_index 0)) (opens-with up-opens).few a up-some

      below_one : OneBelow up-opens.others (drop (node - node_length) W)
      below_one = one_below (opens-with up-opens) is_one

      begins-one : begins ≡ place - front_at W (node - node_length) + 5
      begins-one =
          begins-behind
          ∙ ap (λ (b : Bool). place - front_at W (node - node_length) + if_true b 5)
          (eq-eqb (children_at W (node - node_length)) 1 (sym (children-here W (node - node_length)) ∙ is_one))

      only-put : Puts (only_words (drop (node - node_length) W)) L (place - front_at W (node - node_length) + 5) list1 to1
      only-put =
          let X = drop (node - node_length) W in
          rw (first-of-one (operator_of (get_or X 0 0)) (low_of (get_or X count_index 0)) a, begins-one) at pair_put

      one-fits : place - front_at W (node - node_length)
          + length (first_five (drop (node - node_length) W)
          ++ (only_words (drop (node - node_length) W) ++ closer_words (drop (node - node_length) W)))
          ≤ length L
      one-fits = rw below_one.words at up_room

      pub token-room : place - front_at W (node - node_length) + 5 ≤ length list1
      unfolding first_five
      token-room =
          let X = drop (node - node_length) W in
          omega (arith, pair-list, one-fits, length-append (first_five X) (only_words X ++ closer_words X))

      -- The token before the child's words.
      token-put : Puts (first_five (drop (node - node_length) W) ++ only_words (drop (node - node_length) W)) L
          (place - front_at W (node - node_length))
          (laid_at (place - front_at W (node - node_length)) (first_five (drop (node - node_length) W)) list1)
          to1
      unfolding first_five
      token-put =
          let X = drop (node - node_length) W in
          let q = place - front_at W (node - node_length) in (
            ap (laid_at q (first_five X)) only-put.0
                ∙ laid-before q (first_five X) (only_words X) L (omega (arith, token-room, pair-list)),
            omega (arith, only-put.1, length-append (first_five X) (only_words X)),
          )

      pub closer-room : to1 + length (closer_words (drop (node - node_length) W)) ≤ length list1
      unfolding first_five
      closer-room =
          let X = drop (node - node_length) W in
          omega (
            arith,
            pair-list,
            one-fits,
            only-put.1,
            length-append (first_five X) (only_words X ++ closer_words X),
            length-append (only_words X) (closer_words X),
          )

      module _ {list3 : List ℕ} {to3 : ℕ}
          (w3 : Puts (closer_words (drop (node - node_length) W))
          (laid_at (place - front_at W (node - node_length)) (first_five (drop (node - node_length) W)) list1) to1 list3 to3) where
        node-put : Puts (node_written (drop (node - node_length) W)) L (place - front_at W (node - node_length)) list3 to3
        node-put =
            let X = drop (node - node_length) W in
            let q = place - front_at W (node - node_length) in
            rw (below_one.words, ← append_assoc (first_five X) (only_words X) (closer_words X))
            (puts-more q (first_five X ++ only_words X) (closer_words X) L
            (rw (append_assoc (first_five X) (only_words X) (closer_words X)) one-fits) token-put w3)

        pub climbed-one : {seen1 : Extent} → seen1 ≡ span_taken seen (drop (node - node_length) W)
            → Climbing W L from (node - node_length) (place - front_at W (node - node_length)) next list3 to3 seen1
        climbed-one own =
            let X = drop (node - node_length) W in
            let same : node_length * first_size (trees_of (drop node W)) ≡ node_length * first_size (trees_of (drop node_length X)) = rw
            child-words refl
            in
            record {
              front = up.above;
              spine = up.spine;
              is_place = up-place;
              puts = node-put;
              is_next = omega (arith, v.climbed.is_next, same, below_one.fills, up.is_node);
              spans =
                  own
                  ∙ (ap (λ (e : Extent). wider e (get_or X 1 0) (get_or X 2 0)) child-spans
                  ∙ (taken-after (drop node_length X) (get_or X 1 0) (get_or X 2 0) (opens-with first-here).long ∙ below_one.spans
                  nothing_seen));
            }

    -- TWO CHILDREN: the token behind the left one, then the right one.
    module _ (a : low_of (get_or (drop (node - node_length) W) count_index 0) ≡ 2) where
      below_two : TwoBelow up-opens.others (drop (node - node_length) W)
      below_two = two-below (opens-with up-opens) a

      begins-two : begins ≡ place - front_at W (node - node_length)
      begins-two =
          let two_here : children_at W (node - node_length) ≡ 2 = sym (children-here W (node - node_length)) ∙ a in
          let none : if_true (eqb (children_at W (node - node_length)) 1) 5 ≡ 0 =
          rw (ne_eqb (children_at W (node - node_length)) 1 (λ h. absurd (omega (arith, two_here, h)))) refl
          in
          omega (arith, begins-behind, none)

      left-put : Puts (left_words (drop (node - node_length) W)) L (place - front_at W (node - node_length)) list1 to1
      left-put =
          let X = drop (node - node_length) W in
          rw (first-of-two (operator_of (get_or X 0 0)) (low_of (get_or X count_index 0)) a, begins-two) at pair_put

      two_fits : place - front_at W (node - node_length)
          + length (left_words (drop (node - node_length) W)
          ++ (first_five (drop (node - node_length) W) ++ right_words (drop (node - node_length) W)))
          ≤ length L
      two_fits = rw below_two.words at up_room

      pub between-room : to1 + 5 ≤ length list1
      unfolding first_five
      between-room =
          let X = drop (node - node_length) W in
          omega (
            arith,
            pair-list,
            two_fits,
            left-put.1,
            length-append (left_words X) (first_five X ++ right_words X),
            length-append (first_five X) (right_words X),
          )

      is-next : next ≡ node - node_length + (node_length + left_size (drop (node - node_length) W))
      is-next =
          let X = drop (node - node_length) W in
          let same : node_length * first_size (trees_of (drop node W)) ≡ left_size X = rw child-words refl in
          omega (arith, v.climbed.is_next, same, up.is_node)

      there : tail next W ≡ right_part (drop (node - node_length) W)
      there =
          let X = drop (node - node_length) W in
          tail-part next W
          ∙ (ap (λ (n : ℕ). drop n W) is-next ∙ sym (drop-drop (node_length + left_size X) (node - node_length) W))

      pub next-within : next ≤ length W
      next-within =
          let X = drop (node - node_length) W in
          omega (
            arith,
            is-next,
            below_two.fills,
            first-within up-opens.shaped,
            length-drop (node - node_length) W,
            (opens-with up-opens).long,
          )

      pub right-fewer : nodes_left (tail next W) < nodes_left W
      right-fewer = fewer-nodes next W (omega (arith, is-next)) (opens-with v.opens).long

      module _ {list2 : List ℕ} {to2 : ℕ} (w2 : Puts (first_five (drop (node - node_length) W)) list1 to1 list2 to2) {q : Seat}
          (is_right : q ≡ right_seat (operator_of (get_or (drop (node - node_length) W) 0 0))) where
        both-fit : place - front_at W (node - node_length)
            + length (left_words (drop (node - node_length) W) ++ first_five (drop (node - node_length) W))
            + length (right_words (drop (node - node_length) W))
            ≤ length L
        both-fit =
            let X = drop (node - node_length) W in
            omega (
              arith,
              two_fits,
              length-append (left_words X) (first_five X ++ right_words X),
              length-append (first_five X) (right_words X),
              length-append (left_words X) (first_five X),
            )

        both-put : Puts (left_words (drop (node - node_length) W) ++ first_five (drop (node - node_length) W)) L
            (place - front_at W (node - node_length)) list2 to2
        both-put =
            let X = drop (node - node_length) W in
            puts-more (place - front_at W (node - node_length)) (left_words X) (first_five X) L (omega (arith, both-fit)) left-put w2

        right-words : operand_written q (tail next W) ≡ right_words (drop (node - node_length) W)
        right-words = rw (is_right, there)

        pub right-room : Room (operand_of q) (tail next W) list2 to2
        right-room =
            let X = drop (node - node_length) W in
            let list = puts-length (place - front_at W (node - node_length)) (left_words X ++ first_five X) L (omega (arith, both-fit))
            both-put in
            record {
              others = up-opens.others;
              shaped = rw there below_two.right;
              room = rw right-words (omega (arith, both-fit, both-put.1, list));
            }

        module _ {m list3 : List ℕ} {to3 : ℕ} (w3 : Writes (operand_written q (tail next W)) (tail next W) list2 to2 m list3 to3) where
          right-part : length m ≡ node_length * first_size (trees_of (right_part (drop (node - node_length) W)))
          right-part =
              let X = drop (node - node_length) W in
              let shape : Shaped 2 (suc up-opens.others) (tail next W) = rw there below_two.right in
              let same : node_length * first_size (trees_of (tail next W)) ≡ node_length * first_size (trees_of (right_part X)) = rw there refl
              in
              omega (arith, part_length shape w3.0, same)

          pub climbed-two : {seen1 seen2 : Extent} → seen1 ≡ span_taken seen (drop (node - node_length) W)
              → seen2 ≡ seen_with seen1 (tail next W)
              → Climbing W L from (node - node_length) (place - front_at W (node - node_length)) (next + length m) list3 to3 seen2
          climbed-two own right =
              let X = drop (node - node_length) W in
              let q1 = place - front_at W (node - node_length) in
              let first =
              own
              ∙ (ap (λ (e : Extent). wider e (get_or X 1 0) (get_or X 2 0)) child-spans
              ∙ taken-after (drop node_length X) (get_or X 1 0) (get_or X 2 0) (opens-with first-here).long)
              in
              record {
                front = up.above;
                spine = up.spine;
                is_place = up-place;
                puts =
                    rw (below_two.words, ← append_assoc (left_words X) (first_five X) (right_words X))
                    (puts-more q1 (left_words X ++ first_five X) (right_words X) L
                    (omega (arith, both-fit, length-append (left_words X ++ first_five X) (right_words X))) both-put
                    (rw right-words at w3.1));
                is_next = omega (arith, is-next, right-part, below_two.fills);
                spans =
                    right
                    ∙ (ap (λ (e : Extent). seen_with e (tail next W)) first
                    ∙ (ap (λ (Y : List ℕ). seen_with (seen_with (wider nothing_seen (get_or X 1 0) (get_or X 2 0)) (drop node_length X)) Y) there
                    ∙ below_two.spans nothing_seen));
              }

-- What is read of the part of the words from a node on.
pub count-here : (n : ℕ) (W : List ℕ) → low_of (get_or (tail n W) count_index 0) ≡ low_of (get_or (drop n W) count_index 0)
count-here n W = ap (λ (l : List ℕ). low_of (get_or l count_index 0)) (tail-part n W)

pub operator-in : (n : ℕ) (W : List ℕ) → operator_of (get_or (tail n W) 0 0) ≡ operator_of (get_or (drop n W) 0 0)
operator-in n W = ap (λ (l : List ℕ). operator_of (get_or l 0 0)) (tail-part n W)

-- At the leaf the climb begins: there is room for it, and when it is written it is the tree that was come to.
module _ {W L : List ℕ} {from node front : ℕ} (r : Room node_tokens W L from) (t : Spine W node front) where
  pub room-opens : Opens W
  room-opens = record { others = r.others; shaped = r.shaped }

  pub leaf-within : node + node_length ≤ length W
  leaf-within = spine-long room-opens t

  pub leaf-place : from + front ≤ length L
  leaf-place = omega (arith, r.room, spine-room room-opens t)

  pub leaf_room : children_at W node ≡ 0 → Room node_tokens (tail node W) L (from + front) × (low_of (get_or (tail node W) count_index 0) ≡ 0)
  leaf_room e =
      let o = spine-opens room-opens t in
      rw (tail-part node W) (
        record { others = o.others; shaped = o.shaped; room = omega (arith, r.room, spine-room room-opens t) },
        children-here W node ∙ e,
      )

  pub climbing-begins : (l list : List ℕ) (to : ℕ) (seen : Extent)
      → Writes (node_written (tail node W)) (tail node W) L (from + front) l list to
      → seen ≡ seen_with nothing_seen (tail node W)
      → Climbing W L from node (from + front) (node + length l) list to seen
  climbing-begins l list to seen w sp =
      let o = spine-opens room-opens t in
      let v = rw (tail-part node W) at w in
      record {
        front = front;
        spine = t;
        is_place = refl;
        puts = v.1;
        is_next = omega (arith, part_length o.shaped v.0);
        spans = rw (tail-part node W) at sp;
      }

-- At the root it ends: all is written.
module _ {W L : List ℕ} {from node place next : ℕ} {list : List ℕ} {to : ℕ} {seen : Extent} (r : Room node_tokens W L from)
    (c : Climbing W L from node place next list to seen) (h : node ≤ 0) where
  climbed-next : next ≡ node_length * first_size (trees_of W)
  climbed-next =
      let e = spine-root c.spine h in
      let same : node_length * first_size (trees_of (drop node W)) ≡ node_length * first_size (trees_of W) = rw e.0 refl in
      omega (arith, c.is_next, e.0, same)

  pub climbed-within : next ≤ length W
  climbed-within = omega (arith, climbed-next, first-within r.shaped)

  pub climbed-writes : Writes (node_written W) W L from (take next W) list to
  climbed-writes =
      let e = spine-root c.spine h in
      let here : place ≡ from = omega (arith, c.is_place, e.1) in
      (ap (λ (n : ℕ). take n W) climbed-next, rw (e.0, here) at c.puts)

  pub climbed-spans : (e e1 : Extent) → e1 ≡ wider e seen.start seen.end → e1 ≡ seen_with e W
  climbed-spans e e1 w =
      let root = spine-root c.spine h in
      let covered : seen ≡ first_extent (trees_of W) = rw root.0 at c.spans ∙ from_nothing W in
      w
      ∙ (ap (λ (x : Extent). wider e x.start x.end) covered
      ∙ extent-taken W e (opens-with (record { others = r.others; shaped = r.shaped })).long)
