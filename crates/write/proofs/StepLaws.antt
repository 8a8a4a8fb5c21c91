-- The steps of writing a node or an operand: before each call there is room, and after the last one all is written.
use Prim.Native.Nat.{ℕ, zero, suc, ◌+◌, ◌-◌, ◌*◌, ◌≤◌, ◌/◌, ◌<◌}
use mathlib.Core.{Path.{◌≡◌, refl, ap, ◌∙◌}, Bool.{true, false}, List.{List, ◌++◌, append_assoc}}
use native.Mathlib.Omega.{arith}
use lib.{ListN.{length, take, drop, get_or, length-append, length-drop}, Seq.{take_all, length-take-le}}
use Rattle.molang.specs.{Words.{low_of}, WriteEntry.{trees_of}}
use Rattle.words.specs.{Fields.{operator_of}, Records.{laid_at}, Extents.{wider, first_extent}, declared.extent.Extent.{Extent}}
use Rattle.words.specs.Tokens.{node_length}
use Rattle.words.proofs.{RecordLaws.{laid-length, laid-laid, laid-before}, TreeLaws.{from_nothing, extent-taken}}
use Rattle.write.specs.{declared.plain.Seat.{Seat}, Seats.{is_paired}}
use Rattle.write.specs.Spelling.{pair_opener, pair_closer, closer_words, nothing_seen, seen_with, first_size, node_tokens, operand_of, filled_words}
use Rattle.write.specs.Spelling.{node_written, operand_written, Room}
use Rattle.shape.{specs.Shaped.{count_index, first_five, Shaped}, proofs.RowLaws.{Opened, opened, shaped-room}}
use borrow.Author.Tests.{eq-eqb}
use Rattle.write.proofs.SpellLaws.{first-within, none_below, paired_words, unpaired-words}

-- The part from a word on.
abbrev pub tail : ℕ → List ℕ → List ℕ
tail n W = take (length W - n) (drop n W)

pub tail-part : (n : ℕ) (W : List ℕ) → tail n W ≡ drop n W
tail-part n W = take_all (length W - n) (drop n W) (omega (arith, length-drop n W))

tail-length : (n : ℕ) (W : List ℕ) → length (tail n W) ≡ length W - n
tail-length n W = rw tail-part (length-drop n W)

-- The nodes that the words still hold, seven words each: document 01's remaining node count, which falls with a node's own words.
abbrev pub nodes_left : List ℕ → ℕ
nodes_left W = length W / node_length

pub fewer-nodes : (n : ℕ) (W : List ℕ) → node_length ≤ n → node_length ≤ length W → nodes_left (tail n W) < nodes_left W
fewer-nodes n W enough long = omega (arith, tail-length n W)

-- Words laid into the list from `to` on, which goes on behind them.
abbrev pub Puts : List ℕ → List ℕ → ℕ → List ℕ → ℕ → Type 0
Puts ws L to L' to' = (L' ≡ laid_at to ws L) × (to' ≡ to + length ws)

-- What a call of `write_node` or `write_operand` leaves: the part of the words, the list and where it goes on.
abbrev pub Writes : List ℕ → List ℕ → List ℕ → ℕ → List ℕ → List ℕ → ℕ → Type 0
Writes ws W L to part L' to' = (part ≡ filled_words W) × Puts ws L to L' to'

pub puts-more : (to : ℕ) (xs ys L : List ℕ) {L1 L2 : List ℕ} {to1 to2 : ℕ} → to + length (xs ++ ys) ≤ length L → Puts xs L to L1 to1
    → Puts ys L1 to1 L2 to2
    → Puts (xs ++ ys) L to L2 to2
puts-more to xs ys L room a b =
    let both = length-append xs ys in
    (b.0 ∙ rw (a.0, a.1) (laid-laid to xs ys L (omega arith)), omega (arith, a.1, b.1))

pub puts-length : (to : ℕ) (xs L : List ℕ) {L1 : List ℕ} {to1 : ℕ} → to + length xs ≤ length L → Puts xs L to L1 to1 → length L1 ≡ length L
puts-length to xs L room a = rw a.0 (laid-length to xs L room)

pub part_length : {most p : ℕ} {W l : List ℕ} → Shaped most p W → l ≡ take (node_length * first_size (trees_of W)) W
    → length l ≡ node_length * first_size (trees_of W)
part_length {W = W} s e = rw e (length-take-le (node_length * first_size (trees_of W)) W (first-within s))

-- One of three numbers.
pub one_left : (n : ℕ) → n ≤ 2 → (n ≡ 2 → ⊥) → (n ≡ 0 → ⊥) → n ≡ 1
one_left zero h a b = absurd (b refl)
one_left (suc zero) h a b = refl
one_left (suc (suc zero)) h a b = absurd (a refl)
one_left (suc (suc (suc n))) h a b = absurd (omega arith)

-- No leaf is in an added pair.
pub leaf-unpaired : (p : Seat) (op children : ℕ) → children ≡ 0 → is_paired p op children ≡ false
leaf-unpaired p op children e = unfold is_paired in rw (eq-eqb children 0 e)

-- A node that is to be written.
module _ {W L : List ℕ} {to : ℕ} (r : Room node_tokens W L to) where
  here : Opened 2 (suc r.others) W
  here = opened r.shaped (omega (arith, shaped-room r.shaped))

  pub node-long : node_length ≤ length W
  node-long = here.long

  -- NO CHILDREN: the token, then a bracket's closer.
  none-room : low_of (get_or W count_index 0) ≡ 0 → to + length (first_five W ++ closer_words W) ≤ length L
  none-room e = rw (none_below here e).words at r.room

  pub none-token : low_of (get_or W count_index 0) ≡ 0 → to + 5 ≤ length L
  none-token e = unfold first_five in omega (arith, none-room e, length-append (first_five W) (closer_words W))

  module _ (e : low_of (get_or W count_index 0) ≡ 0) (L1 : List ℕ) (to1 : ℕ) (w1 : Puts (first_five W) L to L1 to1) where
    pub none-closer : to1 + length (closer_words W) ≤ length L1
    none-closer =
        let all = none-room e in
        let both = length-append (first_five W) (closer_words W) in
        omega (arith, w1.1, puts-length to (first_five W) L (omega arith) w1)

    pub none-writes : (L2 : List ℕ) (to2 : ℕ) → Puts (closer_words W) L1 to1 L2 to2
        → Writes (node_written W) W L to (take node_length W) L2 to2
    none-writes L2 to2 w2 =
        rw ((none_below here e).words, (none_below here e).fills) (refl, puts-more to (first_five W) (closer_words W) L (none-room e) w1 w2)

  -- The spans that are taken in: e at first, e1 with the node's own.
  module _ (e e1 : Extent) (own : e1 ≡ wider e (get_or W 1 0) (get_or W 2 0)) where
    pub none-spans : low_of (get_or W count_index 0) ≡ 0 → e1 ≡ seen_with e W
    none-spans z = own ∙ (none_below here z).spans e

-- An operand that is to be written in its seat.
module _ {W L : List ℕ} {to : ℕ} (p : Seat) (r : Room (operand_of p) W L to) where
  operand : Opened 2 (suc r.others) W
  operand = opened r.shaped (omega (arith, shaped-room r.shaped))

  pub operand-long : node_length ≤ length W
  operand-long = operand.long

  -- As it is.
  module _ (alone : is_paired p (operator_of (get_or W 0 0)) (low_of (get_or W count_index 0)) ≡ false) where
    pub alone-room : Room node_tokens W L to
    alone-room = record { others = r.others; shaped = r.shaped; room = rw (← unpaired-words operand p alone) r.room }

    pub alone-writes : (l L1 : List ℕ) (to1 : ℕ) → Writes (node_written W) W L to l L1 to1
        → Writes (operand_written p W) W L to l L1 to1
    alone-writes l L1 to1 w1 = rw (unpaired-words operand p alone) w1

  -- In an added pair: the operand is written behind the five words of the opener, which are laid after it.
  module _ (paired : is_paired p (operator_of (get_or W 0 0)) (low_of (get_or W count_index 0)) ≡ true) where
    inner : List ℕ
    inner = node_written W

    covered : Extent
    covered = first_extent (trees_of W)

    opens : List ℕ
    opens = pair_opener covered.start covered.end

    closes : List ℕ
    closes = pair_closer covered.end

    pair-words : operand_written p W ≡ opens ++ (inner ++ closes)
    pair-words = unfold inner covered opens closes in paired_words operand p paired

    pair-room : to + length (opens ++ (inner ++ closes)) ≤ length L
    pair-room = rw pair-words at r.room

    pub open-room : to + 5 ≤ length L
    open-room = unfold opens in omega (arith, pair-room, length-append opens (inner ++ closes))

    pub inner_room : Room node_tokens W L (to + 5)
    unfolding inner opens closes
    inner_room =
        let front = length-append opens (inner ++ closes) in
        let back = length-append inner closes in
        record { others = r.others; shaped = r.shaped; room = omega (arith, pair-room) }

    module _ (l L1 : List ℕ) (to1 : ℕ) (w1 : Writes (node_written W) W L (to + 5) l L1 to1) where
      inner-length : length L1 ≡ length L
      inner-length = unfold inner in puts-length (to + 5) inner L inner_room.room w1.1

      pub close-room : (to + 5 ≤ length L1) × (to1 + 5 ≤ length L1)
      unfolding inner opens closes
      close-room =
          let front = length-append opens (inner ++ closes) in
          let back = length-append inner closes in
          (omega (arith, pair-room, inner-length), omega (arith, pair-room, inner-length, w1.1.1))

      module _ (seen : Extent) (spans : seen ≡ seen_with nothing_seen W) where
        is-covered : seen ≡ covered
        is-covered = unfold covered in spans ∙ from_nothing W

        pub pair-spans : (e e1 : Extent) → e1 ≡ wider e seen.start seen.end → e1 ≡ seen_with e W
        unfolding covered
        pair-spans e e1 w =
            w
            ∙ (ap (λ (x : Extent). wider e x.start x.end) is-covered ∙ extent-taken W e operand.long)

        module _ (L2 : List ℕ) (to2 : ℕ) (laid : L2 ≡ laid_at to1 (pair_closer seen.end) (laid_at to (pair_opener seen.start seen.end) L1)) (on : to2 ≡ to1 + 5) where
          opened-puts : Puts (opens ++ inner) L to (laid_at to opens L1) to1
          unfolding inner opens
          opened-puts =
              let both = length-append opens inner in
              (rw w1.1.0 (laid-before to opens inner L open-room), omega (arith, w1.1.1))

          closed-puts : Puts closes (laid_at to opens L1) to1 L2 to2
          unfolding opens closes
          closed-puts = (
            laid ∙ ap (λ (x : Extent). laid_at to1 (pair_closer x.end) (laid_at to (pair_opener x.start x.end) L1)) is-covered,
            on,
          )

          pair-all : Puts (opens ++ (inner ++ closes)) L to L2 to2
          pair-all =
              rw (← append_assoc opens inner closes)
              (puts-more to (opens ++ inner) closes L (rw (append_assoc opens inner closes) pair-room) opened-puts closed-puts)

          pub pair-writes : Writes (operand_written p W) W L to l L2 to2
          pair-writes = rw pair-words (w1.0, pair-all)
