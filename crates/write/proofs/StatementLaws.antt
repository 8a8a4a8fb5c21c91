-- The steps of writing a script: a statement's words, and the statements one after the other.
use Prim.Native.Nat.{ℕ, suc, ◌+◌, ◌-◌, ◌*◌, ◌≤◌, ◌<◌}
use mathlib.Core.{Path.{◌≡◌, refl, ap, sym, ◌∙◌}, Bool.{true, ◌&&◌}, List.{List, [], ◌∷◌, ◌++◌}}
use native.Mathlib.Omega.{arith}
use lib.{Dec.{eqb}, ListN.{length, drop, get_or, length-append, length-drop, drop_of_length-le}, Seq.{drop-drop}}
use borrow.Author.Tests.{eqb-true}
use Rattle.molang.specs.Operator
use Rattle.molang.specs.{Forest.{Token, Forest, nil, node, bare, count, size}, Words.{low_of, word, operator_bits, token_words, list_words}}
use Rattle.molang.specs.{Write.{written_statements}, WriteEntry.{first_trees, other_trees, trees_of}}
use Rattle.molang.proofs.{Trees.{both}, Words.{beside}, Writing.{written-before}}
use Rattle.words.specs.{Records.{laid_at}, Tokens.{token_words_at, bare_words, five_words, node_length}}
use Rattle.words.proofs.RecordLaws.{none-laid, laid-laid}
use Rattle.shape.{specs.Shaped.{count_index, first_five, Shaped}, proofs.RowLaws.{Opened, opened, shaped-room, after-trees, OneKid, one-kid}}
use Rattle.write.specs.Spelling.{first_size, node_tokens, node_written, Room}
use Rattle.write.specs.Scripts.{each_holds_one, statement_tokens, statement_written, statements_written, StatementRoom, ScriptRoom}
use Rattle.write.proofs.JudgeLaws.{statements-split}
use Rattle.write.proofs.SpellLaws.{list-words-append, list-words-one, list-words-none, first-tree, first-within}
use Rattle.write.proofs.StepLaws.{tail, tail-part, Puts, Writes, puts-more, puts-length, part_length}

-- The words of a semicolon: the span of the node that the words open with, payload 0.
abbrev semicolon_words : List ℕ → List ℕ
semicolon_words H = five_words (bare_words Operator.semicolon (token_words_at H 0))

module _ (k : Token) (H : List ℕ) (five : token_words k ≡ first_five H) where
  start_word : word 2 k.start ≡ get_or H 1 0
  start_word = unfold token_words first_five in ap (λ (l : List ℕ). get_or l 1 0) five

  end-word : word 3 k.end ≡ get_or H 2 0
  end-word = unfold token_words first_five in ap (λ (l : List ℕ). get_or l 2 0) five

  semicolon-words : token_words (bare Operator.semicolon k) ≡ semicolon_words H
  semicolon-words = unfold token_words operator_bits bare in rw (start_word, end-word)

-- A statement that is to be written.
module _ {W L : List ℕ} {to : ℕ} (r : StatementRoom W L to) where
  here : Opened 2 (suc r.others) W
  here = opened r.shaped (omega (arith, shaped-room r.shaped))

  pub statement-long : node_length ≤ length W
  statement-long = here.long

  kid : OneKid here.cs
  kid = one-kid here.cs (here.children ∙ r.one)

  trees : trees_of W ≡ node here.k (node kid.x kid.xs nil) here.rest
  trees = rw (← kid.is) here.trees

  below : trees_of (drop node_length W) ≡ node kid.x kid.xs here.rest
  unfolding beside
  below = here.below ∙ ap (λ (f : Forest). beside f here.rest) kid.is

  held-shaped : Shaped 2 (suc r.others) (drop node_length W)
  held-shaped =
      let same : low_of (get_or W count_index 0) + here.others ≡ suc r.others = omega (arith, here.is_top, r.one) in
      rw same at here.shaped

  held : Opened 2 (suc r.others) (drop node_length W)
  held = opened held-shaped (omega (arith, shaped-room held-shaped))

  five : token_words kid.x ≡ first_five (drop node_length W)
  five =
      let one : node kid.x kid.xs here.rest ≡ node held.k held.cs held.rest = sym below ∙ held.trees in
      let same : kid.x ≡ held.k = cc in
      ap token_words same ∙ held.five

  statement-words : statement_written W ≡ node_written (drop node_length W) ++ semicolon_words (drop node_length W)
  unfolding statement_tokens first_trees written_statements node_tokens
  statement-words =
      rw (
        trees,
        below,
        written-before kid.x kid.xs (bare Operator.semicolon kid.x ∷ []),
        list-words-append,
        list-words-one,
        semicolon-words kid.x (drop node_length W) five,
      )
      refl

  all_room : to + length (node_written (drop node_length W) ++ semicolon_words (drop node_length W)) ≤ length L
  all_room = rw statement-words at r.room

  fills : node_length * first_size (trees_of W) ≡ node_length + node_length * first_size (trees_of (drop node_length W))
  fills = unfold first_size size in rw (trees, below) (omega arith)

  pub held-room : Room node_tokens (tail node_length W) L to
  held-room =
      let parts = length-append (node_written (drop node_length W)) (semicolon_words (drop node_length W)) in
      let room : to + length (node_written (drop node_length W)) ≤ length L = omega (arith, all_room) in
      record {
        others = r.others;
        shaped = rw (tail-part node_length W) held-shaped;
        room = rw (tail-part node_length W) room;
      }

  pub semicolon-long : 5 ≤ length (tail node_length W)
  semicolon-long = rw (tail-part node_length W) (omega (arith, shaped-room held-shaped))

  module _ {l L1 : List ℕ} {to1 : ℕ} (w1 : Writes (node_written (tail node_length W)) (tail node_length W) L to l L1 to1) where
    held-puts : Puts (node_written (drop node_length W)) L to L1 to1
    held-puts = rw (tail-part node_length W) at w1.1

    pub semicolon-room : to1 + 5 ≤ length L1
    semicolon-room =
        let parts = length-append (node_written (drop node_length W)) (semicolon_words (drop node_length W)) in
        omega (
          arith,
          all_room,
          held-puts.1,
          puts-length to (node_written (drop node_length W)) L (omega (arith, all_room)) held-puts,
        )

    pub statement-end : node_length + length l ≡ node_length * first_size (trees_of W)
    statement-end =
        let s : Shaped 2 (suc r.others) (tail node_length W) = rw (tail-part node_length W) held-shaped in
        let part : length l ≡ node_length * first_size (trees_of (drop node_length W)) =
        (rw (tail-part node_length W) at (part_length s w1.0))
        in
        omega (arith, part, fills)

    pub statement-within : node_length + length l ≤ length W
    statement-within = omega (arith, statement-end, first-within r.shaped)

    module _ {L2 : List ℕ} {to2 : ℕ} (w2 : Puts (semicolon_words (tail node_length W)) L1 to1 L2 to2) where
      statement-puts : Puts (node_written (drop node_length W) ++ semicolon_words (drop node_length W)) L to L2 to2
      statement-puts =
          puts-more to (node_written (drop node_length W)) (semicolon_words (drop node_length W)) L all_room held-puts
          (rw (tail-part node_length W) at w2)

      pub statement-writes : (node_length + length l ≡ node_length * first_size (trees_of W)) × Puts (statement_written W) L to L2 to2
      statement-writes = (statement-end, rw statement-words statement-puts)

-- THE LOOP'S INVARIANT: the statements from `at` on are to be laid into the list from `to` on.
pub record Stating (tree list₀ list : List ℕ) (to at : ℕ) : Type 0 where
  pub left : ℕ
  pub within : at ≤ length tree
  pub shaped : Shaped 2 left (drop at tree)
  pub ones : each_holds_one (trees_of (drop at tree)) ≡ true
  pub kept : length list ≡ length list₀
  pub room : to + length (statements_written (drop at tree)) ≤ length list
  pub same : laid_at to (statements_written (drop at tree)) list ≡ laid_at 0 (statements_written (drop node_length tree)) list₀

pub stating-begins : {tree list : List ℕ} → ScriptRoom tree list → Stating tree list list 0 node_length
stating-begins r =
    record {
      left = r.statements;
      within = r.long;
      shaped = r.shaped;
      ones = r.ones;
      kept = refl;
      room = omega (arith, r.room);
      same = refl;
    }

-- After the last.
pub stating-ends : {tree list₀ list : List ℕ} {to at : ℕ} → Stating tree list₀ list to at → length tree ≤ at
    → list ≡ laid_at 0 (statements_written (drop node_length tree)) list₀
unfolding trees_of written_statements
stating-ends {tree = tree} {list₀ = list₀} {list = list} {to = to} {at = at} s left =
    let last : drop at tree ≡ [] = drop_of_length-le tree left in
    let done : laid_at to (list_words []) list ≡ laid_at 0 (statements_written (drop node_length tree)) list₀ = (rw last at s.same) in
    none-laid to list ∙ (rw list-words-none at done)

module _ {tree list₀ list : List ℕ} {to at : ℕ} (s : Stating tree list₀ list to at) (taken : at < length tree) where
  first : Opened 2 s.left (drop at tree)
  first = opened s.shaped (rw length-drop (omega arith))

  next : ℕ
  next = node_length * first_size (trees_of (drop at tree))

  behind : drop next (drop at tree) ≡ drop (at + next) tree
  behind = drop-drop next at tree

  shaped-here : Shaped 2 (suc first.others) (drop at tree)
  shaped-here = rw first.is_top at s.shaped

  others-shaped : Shaped 2 first.others (drop (at + next) tree)
  unfolding next
  others-shaped =
      rw (← behind, ← first-tree (trees_of (drop at tree))) (after-trees shaped-here first.others 1 (omega arith)).shaped

  others-trees : trees_of (drop (at + next) tree) ≡ first.rest
  unfolding next other_trees
  others-trees =
      rw (← behind, ← first-tree (trees_of (drop at tree)))
      ((after-trees shaped-here first.others 1 (omega arith)).trees ∙ ap (other_trees 1) first.trees)

  ones-here : (count first.cs ≡ 1) × (each_holds_one first.rest ≡ true)
  unfolding each_holds_one
  ones-here =
      let all : (eqb (count first.cs) 1 && each_holds_one first.rest) ≡ true = (rw first.trees at s.ones) in
      let each = both (eqb (count first.cs) 1) (each_holds_one first.rest) all in
      (eqb-true (count first.cs) 1 each.0, each.1)

  words-here : statements_written (drop at tree) ≡ statement_written (drop at tree) ++ statements_written (drop (at + next) tree)
  unfolding statement_tokens first_trees
  words-here =
      rw (first.trees, others-trees, statements-split first.k first.cs first.rest, list-words-append) refl

  room-here : to + length (statement_written (drop at tree) ++ statements_written (drop (at + next) tree)) ≤ length list
  room-here = rw words-here at s.room

  pub stating-room : StatementRoom (tail at tree) list to
  stating-room =
      let parts = length-append (statement_written (drop at tree)) (statements_written (drop (at + next) tree)) in
      let room : to + length (statement_written (drop at tree)) ≤ length list = omega (arith, room-here) in
      record {
        others = first.others;
        shaped = rw (tail-part at tree) shaped-here;
        one = rw (tail-part at tree) (sym first.children ∙ ones-here.0);
        room = rw (tail-part at tree) room;
      }

  within-tree : at + next ≤ length tree
  within-tree = unfold next in omega (arith, first-within s.shaped, length-drop at tree)

  -- The statement is written: so many words on, the next one stands.
  module _ {n to1 : ℕ} {list1 : List ℕ} (fills : n ≡ node_length * first_size (trees_of (tail at tree)))
      (puts : Puts (statement_written (tail at tree)) list to list1 to1) where
    on : n ≡ next
    on = unfold next in rw (tail-part at tree) at fills

    pub stating-within : at + n ≤ length tree
    stating-within = omega (arith, on, within-tree)

    pub stating-falls : length tree - (at + n) < length tree - at
    unfolding next first_size
    stating-falls = omega (arith, positive)
      where
        positive : 7 ≤ n
        positive = rw (on, first.trees) (omega arith)

    pub stating-on : Stating tree list₀ list1 to1 (at + n)
    stating-on =
        let here : Puts (statement_written (drop at tree)) list to list1 to1 = (rw (tail-part at tree) at puts) in
        let parts = length-append (statement_written (drop at tree)) (statements_written (drop (at + next) tree)) in
        let kept = puts-length to (statement_written (drop at tree)) list (omega (arith, room-here)) here in
        let front : to ≤ length list = omega (arith, room-here) in
        let both-laid = laid-laid to (statement_written (drop at tree)) (statements_written (drop (at + next) tree)) list front in
        record {
          left = first.others;
          within = stating-within;
          shaped = rw on others-shaped;
          ones = rw (on, others-trees) ones-here.1;
          kept = kept ∙ s.kept;
          room = rw on (omega (arith, room-here, kept, here.1));
          same = rw (on, here.0, here.1) (both-laid ∙ (rw words-here at s.same));
        }
