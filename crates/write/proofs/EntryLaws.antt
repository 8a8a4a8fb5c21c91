-- The entry's answers: what each of the three judgements makes of a call, and of the list that it lends.
use Prim.Native.Nat.{ℕ, suc, ◌+◌, ◌*◌, ◌≤◌, ◌<◌}
use mathlib.Core.{Path.{◌≡◌, refl, ap, sym, ◌∙◌}, Bool.{true, false, true≢false}, List.{List, [], ◌∷◌, ◌++◌}, Option.{Option, none, some}}
use native.Mathlib.Omega.{arith}
use lib.{Dec.{eqb, leb}, ListN.{length, length-append, drop, get_or, replicate, length-replicate}}
use borrow.Author.Tests.{le-leb, lt-leb, eq-eqb, ne_eqb}
use Rattle.molang.specs.{Forest.{Token, Forest, nil, node, count, size}, Plain.{seat_of, semicolon_form, plain_form, unplain, unplain_at}}
use Rattle.molang.specs.{FirstFailure.{must, first_of}, Words.{operator_field, low_of, node_of, list_words, row}, Parse.{most_tokens}}
use Rattle.molang.specs.Write.{written_statements, written_tree}
use Rattle.molang.specs.WriteEntry.{tree_fault, first_trees, other_trees, trees_of, forest_refusal, write_refusal, written_tokens, unwritten}
use Rattle.molang.specs.WriteEntry.{tokens, write_told, write_answered, list_in, list_after}
use Rattle.molang.proofs.{FirstFailure.{passed, with_number-none}, HandedTree.{whole-tree}, ListWords.{list_words-length}}
use Rattle.molang.proofs.PlainTrees.{PlainStatements, ended, statement, PlainTree, expression, script, plain-parts, plain-tree}
use Rattle.molang.proofs.{Words.{beside}, Writing.{written_tree-expression, written_tree-script}}
use Rattle.molang.specs.Operator
use Rattle.molang.specs.Plain as plain
use Rattle.words.{specs.Records.{laid_at}, proofs.RecordLaws.{laid-front}, specs.Tokens.{node_length}}
use Rattle.write.specs.{declared.plain.Seat.{Seat}, declared.plain.Seat.TheVariants.{Enclosed, UnderSemicolon}}
use Rattle.write.specs.{Answers.{call, judgement, filling, filled}, Seats.{form_seat}}
use Rattle.write.specs.{Spelling.{node_tokens, node_written, Room, Writable}, Reading.{operator_at}}
use Rattle.write.specs.Scripts.{each_holds_one, statements_written, ScriptRoom}
use Rattle.shape.specs.{Answers.{shape, tree_refusal}, Shaped.{count_index, Shaped, no_trees, a_node, most_children, OneTree}}
use Rattle.shape.proofs.RowLaws.{Opened, opened, shaped-room, shaped-count, count-first, beside-split}
use Rattle.write.proofs.JudgeLaws.{row_unplain, judged_by, judgement-by, Stand, on_none, on_one, on-two, row-beside, plain_by_lem}
use Rattle.write.proofs.{JudgeLaws.{plain-at-most, first_operator, root-form, semicolon-form, script-row}, RootLaws.{children-row}}

-- What a judgement says.
plain-says : (o : Option ℕ) (m n : ℕ) → tokens n ≡ judged_by o m → (o ≡ none) × (n ≡ m)
unfolding judged_by
plain-says none m n e = (refl, cc)
plain-says (some i) m n e = let z : ◌≡◌ {A = ℕ} 0 1 = cc in absurd (omega arith)

unplain-says : (o : Option ℕ) (m n i : ℕ) → unwritten n i ≡ judged_by o m → (n ≡ 13) × (o ≡ some i)
unfolding judged_by
unplain-says none m n i e = let z : ◌≡◌ {A = ℕ} 0 1 = cc in absurd (omega arith)
unplain-says (some j) m n i e = (cc, cc)

module _ {most : ℕ} {tree : List ℕ} (o : Opened most 1 tree) where
  judged-by : judgement (trees_of tree) ≡ judged_by (unplain_at o.k o.cs) (length (written_tree o.k o.cs))
  judged-by = unfold judgement written_tokens in rw o.trees (judgement-by (unplain_at o.k o.cs) (node o.k o.cs o.rest))

  is_plain : {n : ℕ} → tokens n ≡ judgement (trees_of tree) → (unplain_at o.k o.cs ≡ none) × (n ≡ length (written_tree o.k o.cs))
  is_plain {n} e = plain-says (unplain_at o.k o.cs) _ n (e ∙ judged-by)

-- A PLAIN TREE has at most two children a node.
few-plain : (p : Seat) (k : Token) (cs : Forest) → plain_form (form_seat p) k cs ≡ true → count cs ≤ 2
few-plain p k cs e = plain-at-most p k.op (count cs) (first_operator (beside cs nil)) (sym (plain_by_lem p k cs nil) ∙ e)

-- The children of a plain node stand at as many seats.
record Standing (k : Token) (cs : Forest) : Type 0 where
  seats : List Seat
  stand : Stand k 0 seats cs
  all : length seats ≡ count cs

standing : (p : Seat) (k : Token) (cs : Forest) → plain_form (form_seat p) k cs ≡ true → Standing k cs
unfolding count
standing p k nil e = record { seats = _; stand = (on_none p k nil e refl).0; all = refl }
standing p k (node x xs nil) e = record { seats = _; stand = (on_one p k (node x xs nil) e refl).0; all = refl }
standing p k (node x xs (node y ys nil)) e = record { seats = _; stand = (on-two p k (node x xs (node y ys nil)) e refl).0; all = refl }
standing p k (node x xs (node y ys (node z zs r))) e = absurd (omega (arith, few-plain p k (node x xs (node y ys (node z zs r))) e))

slim : {p : ℕ} {ws : List ℕ} → Shaped most_children p ws → (ps : List Seat) → length ps ≡ p → (n : ℕ) → row_unplain ps n (trees_of ws) ≡ none
    → Shaped 2 p ws
unfolding trees_of row_unplain
slim no_trees ps h n e = no_trees
slim (a_node five few later) [] h n e = absurd (omega arith)
slim (a_node {trees = trees} {a = a} {b = b} {c = c} {d = d} {e = f} {n = m} {g = w} {ws = ws} five few later) (q ∷ ps) h n e =
    let g = trees_of ws in
    let k = node_of a b c d f w in
    let cs = first_trees (low_of m) g in
    let rest = other_trees (low_of m) g in
    let x = passed (plain_form (form_seat q) k cs) n (unplain (some k) 0 (suc n) cs ∷ row_unplain ps (suc n + size cs) rest ∷ []) e in
    let counts : count cs ≡ low_of m = count-first (low_of m) g (omega (arith, shaped-count later)) in
    let st = standing q k cs x.0 in
    let row : row_unplain (st.seats ++ ps) (suc n) g ≡ none =
    ap (row_unplain (st.seats ++ ps) (suc n)) (sym (beside-split (low_of m) g)) ∙ (row-beside st.stand ps (suc n) rest ∙ x.1)
    in
    let small : low_of m ≤ 2 = omega (arith, few-plain q k cs x.0) in
    a_node five small
    (slim later (st.seats ++ ps) (omega (arith, length-append st.seats ps, st.all)) (suc n) row)

-- The statements of a plain script hold one tree each.
ones-of : {cs : Forest} → PlainStatements cs → each_holds_one cs ≡ true
unfolding each_holds_one count
ones-of ended = refl
ones-of (statement s n x e h later) = ones-of later

script-ones : {k : Token} {cs : Forest} → PlainTree k cs → eqb k.op Operator.semicolon ≡ true → each_holds_one cs ≡ true
script-ones (expression h) e = absurd (true≢false (sym e ∙ h.other))
script-ones (script f later) e = ones-of later

-- FILLING THE LIST with a plain tree.
module _ {tree : List ℕ} {n : ℕ} (w : Writable tree n) (list : List ℕ) where
  root : Opened most_children 1 tree
  root = opened w.one.shaped (omega (arith, shaped-room w.one.shaped))

  root-plain : (unplain_at root.k root.cs ≡ none) × (n ≡ length (written_tree root.k root.cs))
  root-plain = is_plain root w.judged

  counted : n ≡ length (written_tokens (trees_of tree))
  unfolding written_tokens
  counted = rw root.trees root-plain.1

  too_long : forest_refusal (trees_of tree) (length list)
      ≡ first_of (must (leb n most_tokens) (row 14 0) ∷ must (leb (5 * n) (length list)) (row 15 0) ∷ [])
  too_long = unfold forest_refusal first_of in rw (root.trees, root-plain.0, ← root-plain.1) refl

  pub too_many : 4096 < n → (unwritten 14 0 ≡ filling (trees_of tree) list) × (list ≡ filled (trees_of tree) list)
  too_many h = unfold filling filled write_told list_in must first_of in let e = lt-leb n 4096 h in (rw (too_long, e), rw (too_long, e))

  pub too_short : n ≤ 4096 → length list < 5 * n → (unwritten 15 0 ≡ filling (trees_of tree) list) × (list ≡ filled (trees_of tree) list)
  unfolding filling filled write_told list_in must first_of
  too_short a b =
      let e = le-leb n 4096 a in
      let f = lt-leb (5 * n) (length list) b in
      (rw (too_long, e, f), rw (too_long, e, f))

  module _ (a : n ≤ 4096) (b : 5 * n ≤ length list) where
    words-room : length (list_words (written_tokens (trees_of tree))) ≤ length list
    words-room = omega (arith, list_words-length (written_tokens (trees_of tree)), counted)

    list-filled : (list' : List ℕ) → list' ≡ laid_at 0 (list_words (written_tokens (trees_of tree))) list
        → (tokens n ≡ filling (trees_of tree) list) × (list' ≡ filled (trees_of tree) list)
    unfolding filling filled write_told list_in must first_of
    list-filled list' e =
        let f = le-leb n 4096 a in
        let g = le-leb (5 * n) (length list) b in
        (rw (too_long, f, g, ← counted), rw (too_long, f, g) (e ∙ laid-front (list_words (written_tokens (trees_of tree))) list))

    -- An expression.
    module _ (other : operator_at tree 0 ≡ Operator.semicolon → ⊥) where
      no-semicolon : eqb root.k.op Operator.semicolon ≡ false
      no-semicolon = ne_eqb root.k.op Operator.semicolon (λ e. other (sym root.op ∙ e))

      slim-tree : Shaped 2 1 tree
      unfolding row_unplain unplain_at unplain seat_of
      slim-tree =
          let row : row_unplain (Enclosed ∷ []) 0 (trees_of tree) ≡ none =
          rw (root.trees, root-form root.k root.cs no-semicolon) root-plain.0
          in
          slim w.one.shaped (Enclosed ∷ []) refl 0 row

      one_written : node_tokens (trees_of tree) ≡ written_tokens (trees_of tree)
      one_written = unfold node_tokens written_tokens in rw root.trees (sym (written_tree-expression root.k root.cs no-semicolon))

      pub expression-room : Room node_tokens tree list 0
      expression-room = record { others = 0; shaped = slim-tree; room = rw one_written (omega (arith, words-room)) }

      pub expression-filled : (list' : List ℕ) → list' ≡ laid_at 0 (node_written tree) list
          → (tokens n ≡ filling (trees_of tree) list) × (list' ≡ filled (trees_of tree) list)
      expression-filled list' e = list-filled list' (rw one_written at e)

    -- A script.
    module _ (is : operator_at tree 0 ≡ Operator.semicolon) where
      semicolon : eqb root.k.op Operator.semicolon ≡ true
      semicolon = eq-eqb root.k.op Operator.semicolon (root.op ∙ is)

      row-behind : trees_of (drop node_length tree) ≡ root.cs
      row-behind = children-row w.one.shaped root

      root-holds : semicolon_form plain.at_root root.cs ≡ true
      unfolding unplain_at seat_of
      root-holds =
          sym (semicolon-form plain.at_root root.k root.cs semicolon)
          ∙ (plain-parts none 0 0 root.k root.cs nil root-plain.0).here

      statements-shaped : Shaped most_children (low_of (get_or tree count_index 0)) (drop node_length tree)
      statements-shaped =
          let trees : low_of (get_or tree count_index 0) + root.others ≡ low_of (get_or tree count_index 0) = omega (arith, root.is_top) in
          rw trees at root.shaped

      slim-statements : Shaped 2 (low_of (get_or tree count_index 0)) (drop node_length tree)
      slim-statements =
          let row : row_unplain (replicate (count root.cs) UnderSemicolon) 1 (trees_of (drop node_length tree)) ≡ none =
          rw root.below (script-row root.k root.cs root.rest semicolon root-holds ∙ root-plain.0)
          in
          slim statements-shaped (replicate (count root.cs) UnderSemicolon)
          (length-replicate (count root.cs) UnderSemicolon ∙ root.children) 1 row

      all-written : written_statements (trees_of (drop node_length tree)) [] ≡ written_tokens (trees_of tree)
      all-written = unfold written_tokens in rw (row-behind, root.trees) (sym (written_tree-script root.k root.cs semicolon))

      pub script-room : ScriptRoom tree list
      script-room =
          record {
            statements = low_of (get_or tree count_index 0);
            long = root.long;
            shaped = slim-statements;
            ones = rw row-behind (script-ones (plain-tree root.k root.cs root-plain.0) semicolon);
            room = rw all-written words-room;
          }

      pub script-filled : (list' : List ℕ) → list' ≡ laid_at 0 (statements_written (drop node_length tree)) list
          → (tokens n ≡ filling (trees_of tree) list) × (list' ≡ filled (trees_of tree) list)
      script-filled list' e = list-filled list' (rw all-written at e)

-- THE ANSWERS, the first that holds.
pub fault-answer : (tree list : List ℕ) (i : ℕ) → some (row 12 i) ≡ tree_refusal tree
    → (unwritten 12 i ≡ write_answered (call tree list)) × (list ≡ list_after (call tree list))
fault-answer tree list i e = unfold write_answered list_after write_refusal first_of write_told list_in in (rw (← e), rw (← e))

pub no-fault : (tree : List ℕ) → none ≡ tree_refusal tree → none ≡ tree_fault 0 operator_field 0 (shape 1 0) tree
no-fault tree e = sym (with_number-none 12 (tree_fault 0 operator_field 0 (shape 1 0) tree) (sym e))

pub tree-answer : (tree list : List ℕ) → none ≡ tree_fault 0 operator_field 0 (shape 1 0) tree
    → (filling (trees_of tree) list ≡ write_answered (call tree list)) × (filled (trees_of tree) list ≡ list_after (call tree list))
unfolding write_answered list_after filling filled
tree-answer tree list whole =
    let refused = whole-tree (call tree list) (sym whole) in
    (rw refused, rw refused)

module _ {tree : List ℕ} (list : List ℕ) (whole : none ≡ tree_fault 0 operator_field 0 (shape 1 0) tree) (one : OneTree tree) where
  top : Opened most_children 1 tree
  top = opened one.shaped (omega (arith, shaped-room one.shaped))

  pub unplain-answer : (n i : ℕ) → unwritten n i ≡ judgement (trees_of tree)
      → (unwritten n i ≡ write_answered (call tree list)) × (list ≡ list_after (call tree list))
  unfolding write_answered list_after forest_refusal first_of write_told list_in
  unplain-answer n i e =
      let u = unplain-says _ _ n i (e ∙ judged-by top) in
      let refused = whole-tree (call tree list) (sym whole) in
      (rw (refused, top.trees, u.0, u.1), rw (refused, top.trees, u.1))

  pub plain-writable : (n : ℕ) → tokens n ≡ judgement (trees_of tree) → Writable tree n
  plain-writable n e = record { one = one; judged = e }
