-- Answer 13 and the written count over a row of pending trees, each with its seat: what the loop over the nodes keeps.
use Prim.Native.Nat.{ℕ, zero, suc, ◌+◌, ◌-◌, ◌*◌, ◌/◌, ◌≤◌, ◌<◌}
use mathlib.Core.Path.{◌≡◌, refl, ap, sym, ◌∙◌}
use mathlib.Core.Bool.{Bool, true, false, ◌||◌, ◌&&◌, not, true≢false, false≢true, or-true, or-false, and-true, and-false, not-not}
use mathlib.Core.{List.{List, [], ◌∷◌, ◌++◌, append-nil, append_assoc}, Option.{Option, none, some}}
use native.Mathlib.{Nat.{add-zero}, Numerals.{add-one}, Omega.{arith}}
use Rattle.molang.specs.Words.{low_of, number_in, token_of, node_of, with_number}
use Rattle.molang.specs.Operator.{any, is_one_of, between, is_math_call, is_host, is_bracket}
use Rattle.molang.specs.Forest.{Token, Forest, nil, node, bare, count, size}
use Rattle.molang.specs.Plain.{is_right_of_question, is_under_math_call, is_under_semicolon, seat_under, seat_of, is_plain_leaf, is_plain_binary, is_call}
use Rattle.molang.specs.{Plain.{expression_form, all_semicolons, semicolon_form, plain_form, unplain, unplain_at}, FirstFailure.{must, first_of}}
use Rattle.molang.specs.Write.{closer_for, closer_of, stands_alone, stands_left, stands_right, operand_tokens, written, written_statements}
use Rattle.molang.specs.WriteEntry.{most_nodes, trees_of, written_tokens, WriteTold, tokens, unwritten, write_told}
use Rattle.molang.proofs.{OperatorNumbers.{no-math}, FirstFailure.{after_none, last_one, in_parts, behind}, Words.{beside}}
use Rattle.molang.proofs.Writing.{written_none, written_one, written-two, operand-length, written-length, written-before}
use Rattle.molang.proofs.{Writing.{written_tree-expression, written_tree-script}, PlainTrees.{semicolon-seat, other-seat}}
use Rattle.molang.proofs.Trees.{decided, either, both}
use Rattle.words.specs.{Fields.{operator_of}, Tokens.{node_length}}
use lib.Dec.{T, eqb, leb}
use lib.ListN.{length, length-append, get_or, drop, drop_of_length-le, length-drop, set, length-set, replicate, length-replicate}
use lib.{ListN.{get_or-replicate}, Seq.{get_or-set_same, get_or-set_other, get_or-drop, drop-drop}}
use borrow.Author.Tests.{eqb-true, eq-eqb, ne_eqb, not-true, leb-true, leb-false}
use Rattle.ops.proofs.OperatorLaws.{passes_at}
use Rattle.molang.specs.Operator
use Rattle.molang.specs.Plain as plain
use Rattle.molang.proofs.Booleans as booleans
use Rattle.write.specs.declared.plain.Seat.{Seat}
use Rattle.write.specs.declared.plain.Seat.TheVariants.{Enclosed, UnderMathCall, LeftOfComma, RightOfQuestion, Operand}
use Rattle.write.specs.{declared.plain.Seat.TheVariants.{UnderSemicolon}, Answers.{judgement}, Reading.{operator_at}}
use Rattle.write.specs.{declared.reader.NodeView.{NodeView}, declared.reader.TreeReader.{TreeReader}}
use Rattle.write.proofs.ReaderLaws.{Passes}
use Rattle.write.specs.Seats.{form_seat, only_seat, below_seat, left_seat, right_seat, is_prefix, holds_one, plain_by, is_spared, is_paired}
use Rattle.write.specs.{Seats.{if_true, tokens_for}, Scripts.{holds_statements, Begins, an_expression, a_script}}
use Rattle.shape.proofs.RowLaws.{Opened, opened, shaped-room, shaped-length}
use Rattle.shape.specs.Shaped.{count_index, Shaped, no_trees, a_node, most_children, OneTree}

-- The number of the first node that is not plain in a row of trees at these seats, numbered from n.
unfoldable pub row_unplain : List Seat → ℕ → Forest → Option ℕ
row_unplain [] n f = none
row_unplain (p ∷ ps) n nil = none
row_unplain (p ∷ ps) n (node k cs rest) =
    first_of (must (plain_form (form_seat p) k cs) n ∷ unplain (some k) 0 (suc n) cs ∷ row_unplain ps (suc n + size cs) rest ∷ [])

-- The tokens of an operand at a seat.
abbrev operand_length : Seat → Token → Forest → ℕ
operand_length p k cs = length (operand_tokens (not (is_paired p k.op (count cs))) k cs (written k cs) [])

-- The tokens of a tree at a seat: of a statement what it holds and its semicolon.
unfoldable pub tree_length : Seat → Token → Forest → ℕ
tree_length p k cs =
    elim (eqb k.op Operator.semicolon && is_under_semicolon (form_seat p)) [
      | true ↦ length (written_statements (node k cs nil) [])
      | false ↦ operand_length p k cs
    ]

tree-statement : (p : Seat) (k : Token) (cs : Forest) → (eqb k.op Operator.semicolon && is_under_semicolon (form_seat p)) ≡ true
    → tree_length p k cs ≡ length (written_statements (node k cs nil) [])
tree-statement p k cs e = unfold tree_length in rw (e, tree_length) refl

tree-operand : (p : Seat) (k : Token) (cs : Forest) → (eqb k.op Operator.semicolon && is_under_semicolon (form_seat p)) ≡ false
    → tree_length p k cs ≡ operand_length p k cs
tree-operand p k cs e = unfold tree_length in rw (e, tree_length) refl

-- The tokens that such a row is written with.
unfoldable pub row_count : List Seat → Forest → ℕ
row_count [] f = 0
row_count (p ∷ ps) nil = 0
row_count (p ∷ ps) (node k cs rest) = tree_length p k cs + row_count ps rest

-- What is told where this place of answer 13 is found, or so many tokens are written.
unfoldable pub judged_by : Option ℕ → ℕ → WriteTold
judged_by none count = tokens count
judged_by (some n) count = unwritten 13 n

-- What is answered where so many tokens and nodes are behind and the row is to come.
unfoldable pub judging : List Seat → ℕ → ℕ → Forest → WriteTold
judging ps count n f = judged_by (row_unplain ps n f) (count + row_count ps f)

-- The children of k from the i-th on stand at these seats.
pub data Stand (k : Token) : ℕ → List Seat → Forest → Type 0 where
  nowhere : {i : ℕ} → Stand k i [] nil
  stands : {i : ℕ} {q : Seat} {qs : List Seat} {x : Token} {xs rest : Forest} → form_seat q ≡ seat_under k i → Stand k (suc i) qs rest
      → Stand k i (q ∷ qs) (node x xs rest)

-- The children first, then the trees after them.
pub row-beside : {k : Token} {i : ℕ} {qs : List Seat} {cs : Forest} → Stand k i qs cs → (ps : List Seat) (n : ℕ) (rest : Forest)
    → row_unplain (qs ++ ps) n (beside cs rest) ≡ first_of (unplain (some k) i n cs ∷ row_unplain ps (n + size cs) rest ∷ [])
unfolding row_unplain beside size seat_of unplain
row-beside nowhere ps n rest = rw add-zero (sym (after_none none (row_unplain ps n rest) refl))
row-beside {k = k} {i = i} (stands {q = q} {qs = qs} {x = x} {xs = xs} {rest = more} here later) ps n rest =
    let nodes : n + (1 + size xs + size more) ≡ suc n + size xs + size more = omega arith in
    let root : Option ℕ = must (plain_form (seat_under k i) x xs) n in
    let below = unplain (some x) 0 (suc n) xs in
    let beside-it = unplain (some k) (suc i) (suc n + size xs) more in
    let after = row_unplain ps (suc n + size xs + size more) rest in
    rw (here, row-beside later ps (suc n + size xs) rest, nodes)
    (behind root (below ∷ first_of (beside-it ∷ after ∷ []) ∷ []) (below ∷ beside-it ∷ after ∷ [])
    (behind below (first_of (beside-it ∷ after ∷ []) ∷ []) (beside-it ∷ after ∷ []) (last_one (first_of (beside-it ∷ after ∷ []))))
    ∙ in_parts (root ∷ below ∷ beside-it ∷ []) (after ∷ []))

count-beside : {k : Token} {i : ℕ} {qs : List Seat} {cs : Forest} → Stand k i qs cs → (ps : List Seat) (rest : Forest)
    → row_count (qs ++ ps) (beside cs rest) ≡ row_count qs cs + row_count ps rest
unfolding row_count beside
count-beside nowhere ps rest = omega arith
count-beside (stands here later) ps rest = omega (arith, count-beside later ps rest)

-- A plain node is behind: its children come next, each at its seat.
judged-on : (p : Seat) (ps qs : List Seat) (sum n : ℕ) (k : Token) (cs rest : Forest) → plain_form (form_seat p) k cs ≡ true
    → Stand k 0 qs cs
    → tree_length p k cs ≡ tokens_for p k.op (count cs) + row_count qs cs
    → judging (p ∷ ps) sum n (node k cs rest)
    ≡ judging (qs ++ ps) (sum + tokens_for p k.op (count cs)) (suc n) (beside cs rest)
unfolding judging row_unplain row_count first_of must
judged-on p ps qs sum n k cs rest plain stand counted =
    let later = row-beside stand ps (suc n) rest in
    let all : sum + (tree_length p k cs + row_count ps rest)
    ≡ sum + tokens_for p k.op (count cs) + row_count (qs ++ ps) (beside cs rest) = omega (arith, count-beside stand ps rest)
    in
    rw (plain, ← later, all) refl

-- After the last.
pub judging-done : (count n : ℕ) → judging [] count n nil ≡ tokens count
judging-done count n = unfold judging row_unplain row_count judged_by in rw add-zero refl

-- At a node that is not plain.
pub judging-unplain : (p : Seat) (ps : List Seat) (sum n : ℕ) (k : Token) (cs rest : Forest) → plain_form (form_seat p) k cs ≡ false
    → judging (p ∷ ps) sum n (node k cs rest) ≡ unwritten 13 n
judging-unplain p ps sum n k cs rest e = unfold judging row_unplain first_of must judged_by in rw e refl

-- The first tree's operator, 0 where there is none.
unfoldable pub first_operator : Forest → ℕ
first_operator nil = 0
first_operator (node k cs rest) = k.op

first-operator : {most p : ℕ} {ws : List ℕ} → Shaped most p ws → first_operator (trees_of ws) ≡ operator_of (get_or ws 0 0)
unfolding first_operator trees_of operator_of low_of number_in token_of node_of
first-operator no_trees = refl
first-operator (a_node five few later) = refl

-- The plain forms by numbers: of what is no semicolon, and of a semicolon.
expression-by : (p : Seat) (k : Token) (cs rest : Forest) → eqb k.op Operator.semicolon ≡ false
    → plain_form (form_seat p) k cs ≡ plain_by p k.op (count cs) (first_operator (beside cs rest))
unfolding plain_form expression_form plain_by is_prefix holds_one count first_operator beside
expression-by p k nil rest e = rw (e, plain_form)
expression-by p k (node x xs nil) rest e = rw (e, or-false, plain_form)
expression-by p k (node x xs (node y ys nil)) rest e = rw (e, plain_form)
expression-by p k (node x xs (node y ys (node z zs more))) rest e = rw (e, plain_form)

one-by : (p : Seat) (first : ℕ)
    → plain_by p Operator.semicolon 1 first ≡ (not (eqb first Operator.semicolon) && is_under_semicolon (form_seat p))
one-by p first = unfold plain_by holds_one is_prefix is_one_of any is_call is_math_call between in refl

many_by : (p : Seat) (children first : ℕ) → (children ≡ 1 → ⊥) → plain_by p Operator.semicolon children first ≡ false
unfolding plain_by is_plain_leaf is_host is_plain_binary is_bracket between
many_by p zero first h = refl
many_by p (suc zero) first h = absurd (h refl)
many_by p (suc (suc zero)) first h = refl
many_by p (suc (suc (suc n))) first h = refl

not-under : (p : Seat) (children first : ℕ) → is_under_semicolon (form_seat p) ≡ false → false ≡ plain_by p Operator.semicolon children first
not-under p zero first e = sym (many_by p 0 first (λ h. omega arith))
not-under p (suc zero) first e = sym (rw (one-by p first, e) (and-false (not (eqb first Operator.semicolon))))
not-under p (suc (suc n)) first e = sym (many_by p (suc (suc n)) first (λ h. omega arith))

semicolon-by : (p : Seat) (cs rest : Forest)
    → semicolon_form (form_seat p) cs ≡ plain_by p Operator.semicolon (count cs) (first_operator (beside cs rest))
unfolding semicolon_form is_under_semicolon count first_operator beside
semicolon-by Enclosed cs rest = not-under Enclosed (count cs) (first_operator (beside cs rest)) refl
semicolon-by UnderMathCall cs rest = not-under UnderMathCall (count cs) (first_operator (beside cs rest)) refl
semicolon-by LeftOfComma cs rest = not-under LeftOfComma (count cs) (first_operator (beside cs rest)) refl
semicolon-by RightOfQuestion cs rest = not-under RightOfQuestion (count cs) (first_operator (beside cs rest)) refl
semicolon-by Operand cs rest = not-under Operand (count cs) (first_operator (beside cs rest)) refl
semicolon-by UnderSemicolon nil rest = sym (many_by UnderSemicolon 0 (first_operator rest) (λ e. omega arith))
semicolon-by UnderSemicolon (node x xs nil) rest = sym (one-by UnderSemicolon x.op ∙ and-true (not (eqb x.op Operator.semicolon)))
semicolon-by UnderSemicolon (node x xs (node y ys r)) rest = sym (many_by UnderSemicolon (suc (suc (count r))) x.op (λ e. omega arith))

pub semicolon-form : (s : plain.Seat) (k : Token) (cs : Forest) → eqb k.op Operator.semicolon ≡ true
    → plain_form s k cs ≡ semicolon_form s cs
semicolon-form s k cs e = unfold plain_form in rw (e, plain_form)

pub plain_by_lem : (p : Seat) (k : Token) (cs rest : Forest)
    → plain_form (form_seat p) k cs ≡ plain_by p k.op (count cs) (first_operator (beside cs rest))
plain_by_lem p k cs rest =
    booleans.either (eqb k.op Operator.semicolon)
    (λ e. semicolon-form (form_seat p) k cs e
    ∙ (semicolon-by p cs rest
    ∙ ap (λ (op : ℕ). plain_by p op (count cs) (first_operator (beside cs rest))) (sym (eqb-true k.op Operator.semicolon e))))
    (expression-by p k cs rest)

pub plain-at-most : (p : Seat) (op children first : ℕ) → plain_by p op children first ≡ true → children ≤ 2
unfolding plain_by
plain-at-most p op zero first e = omega arith
plain-at-most p op (suc zero) first e = omega arith
plain-at-most p op (suc (suc zero)) first e = omega arith
plain-at-most p op (suc (suc (suc n))) first e = absurd (false≢true e)

-- A plain node that has not one child is no semicolon.
other-op : (p : Seat) (k : Token) (cs : Forest) → plain_form (form_seat p) k cs ≡ true → (count cs ≡ 1 → ⊥)
    → eqb k.op Operator.semicolon ≡ false
other-op p k cs plain h =
    booleans.never (eqb k.op Operator.semicolon)
    (λ e. false≢true (sym (many_by p (count cs) (first_operator (beside cs nil)) h)
    ∙ (sym (semicolon-by p cs nil) ∙ (sym (semicolon-form (form_seat p) k cs e) ∙ plain))))

plain-few : (p : Seat) (op children first : ℕ) → plain_by p op children first ≡ true → (children ≡ 1 → ⊥) → (children ≡ 2 → ⊥) → children ≡ 0
unfolding plain_by
plain-few p op zero first e a b = refl
plain-few p op (suc zero) first e a b = absurd (a refl)
plain-few p op (suc (suc zero)) first e a b = absurd (b refl)
plain-few p op (suc (suc (suc n))) first e a b = absurd (false≢true e)

-- An operand gets no pair where it stands alone or its seat spares it.
unpaired-by : (p : Seat) (x : Token) (xs : Forest) → not (is_paired p x.op (count xs)) ≡ (stands_alone x xs || is_spared p x.op)
unfolding is_paired stands_alone count
unpaired-by p x nil = refl
unpaired-by p x (node y ys r) = rw (ne_eqb (suc (count r)) 0 (λ e. omega arith), not-not) refl

module _ (x : Token) (xs : Forest) where
  unpaired-enclosed : not (is_paired Enclosed x.op (count xs)) ≡ true
  unpaired-enclosed = unpaired-by Enclosed x xs ∙ or-true (stands_alone x xs)

  unpaired-alone : (p : Seat) → is_spared p x.op ≡ false → not (is_paired p x.op (count xs)) ≡ stands_alone x xs
  unpaired-alone p e = unpaired-by p x xs ∙ (ap (λ (b : Bool). stands_alone x xs || b) e ∙ or-false (stands_alone x xs))

  pub unpaired-only : (k : Token) → is_bracket k.op ≡ false → not (is_paired (only_seat k.op) x.op (count xs)) ≡ stands_alone x xs
  unfolding only_seat
  unpaired-only k e =
      unpaired-alone (only_seat k.op)
      (rw (e, only_seat) (either (λ p. is_spared p x.op ≡ false) (is_math_call k.op) UnderMathCall Operand refl refl))

  pub unpaired-bracket : (k : Token) → is_bracket k.op ≡ true → not (is_paired (only_seat k.op) x.op (count xs)) ≡ true
  unpaired-bracket k e = unfold only_seat in rw (e, only_seat) unpaired-enclosed

  pub unpaired-left : (k : Token) → not (is_paired (left_seat k.op) x.op (count xs)) ≡ stands_left k x xs
  unfolding left_seat stands_left
  unpaired-left k =
      unpaired-by (left_seat k.op) x xs
      ∙ ap (λ (b : Bool). stands_alone x xs || b)
      (decided (λ p. is_spared p x.op ≡ (eqb k.op Operator.comma && eqb x.op Operator.comma)) (eqb k.op Operator.comma)
      LeftOfComma Operand (λ e. rw e refl) (λ e. rw e refl))

  pub unpaired-right : (k : Token) → not (is_paired (right_seat k.op) x.op (count xs)) ≡ stands_right k x xs
  unfolding right_seat stands_right
  unpaired-right k =
      unpaired-by (right_seat k.op) x xs
      ∙ ap (λ (b : Bool). stands_alone x xs || b)
      (decided (λ p. is_spared p x.op ≡ (eqb k.op Operator.conditional && eqb x.op Operator.conditional_else))
      (eqb k.op Operator.conditional) RightOfQuestion Operand (λ e. rw e refl) (λ e. rw e refl))

-- Before the first node.
pub judgement-by : (o : Option ℕ) (f : Forest) → write_told (with_number 13 o) f ≡ judged_by o (length (written_tokens f))
unfolding write_told judged_by
judgement-by none f = refl
judgement-by (some n) f = refl

-- The root of an expression has the forms of a node elsewhere.
pub root-form : (k : Token) (cs : Forest) → eqb k.op Operator.semicolon ≡ false
    → plain_form plain.elsewhere k cs ≡ plain_form plain.at_root k cs
unfolding plain_form expression_form is_right_of_question is_under_math_call is_under_semicolon
root-form k nil e = rw (e, plain_form)
root-form k (node x xs nil) e = rw (e, plain_form)
root-form k (node x xs (node y ys nil)) e = rw (e, plain_form)
root-form k (node x xs (node y ys (node z zs more))) e = rw (e, plain_form)

pub judging-start : (k : Token) (cs rest : Forest) → eqb k.op Operator.semicolon ≡ false
    → judging (Enclosed ∷ []) 0 0 (node k cs rest) ≡ judgement (node k cs rest)
unfolding judging row_unplain row_count judgement unplain_at seat_of unplain operand_tokens written_tokens
judging-start k cs rest e =
    let own : tree_length Enclosed k cs ≡ operand_length Enclosed k cs = tree-operand Enclosed k cs (rw e) in
    let all : 0 + (tree_length Enclosed k cs + 0) ≡ length (written_tokens (node k cs rest)) =
    rw (own, unpaired-enclosed k cs, written_tree-expression k cs e) (omega arith)
    in
    rw (all, root-form k cs e) (sym (judgement-by (unplain_at k cs) (node k cs rest)))

-- What stands over two children in a plain tree is no bracket and no math call.
abbrev over_two : ℕ → Bool
over_two n = is_plain_binary n || (eqb n Operator.conditional_else || eqb n Operator.assignment)

abbrev none_over : ℕ → Bool
none_over n = not (over_two n) || (not (is_bracket n) && not (is_math_call n))

none_over_lem : (a b c : Bool) → a ≡ true → T (not a || (not b && not c)) → (b ≡ false) × (c ≡ false)
none_over_lem true false false e t = (refl, refl)
none_over_lem true false true e t = absurd t
none_over_lem true true c e t = absurd t
none_over_lem false b c e t = absurd (true≢false (sym e))

over_by : (n : ℕ) (b : Bool) → leb n 110 ≡ b → over_two n ≡ true → (is_bracket n ≡ false) × (is_math_call n ≡ false)
unfolding is_plain_binary is_bracket is_math_call between
over_by n true h e =
    none_over_lem (over_two n) (is_bracket n) (is_math_call n) e (passes_at none_over 0 111 tt n (omega arith) (omega (arith, leb-true n 110 h)))
over_by n false h e = (ne_eqb n 4 (λ q. omega (arith, leb-false n 110 h)), no-math n (omega (arith, leb-false n 110 h)))

two-or-else : (a b c d e : Bool) → ((a || (b && c)) || (d && e)) ≡ true → (a || (b || d)) ≡ true
two-or-else true b c d e h = refl
two-or-else false true c d e h = refl
two-or-else false false c true e h = refl
two-or-else false false c false e h = h

over-two-by : (p : Seat) (op first : ℕ) → plain_by p op 2 first ≡ true → over_two op ≡ true
unfolding plain_by
over-two-by p op first e =
    two-or-else (is_plain_binary op) (eqb op Operator.conditional_else) (is_right_of_question (form_seat p)) (eqb op Operator.assignment)
    (is_under_semicolon (form_seat p)) e

pub over-two : (p : Seat) (k : Token) (cs : Forest) → plain_form (form_seat p) k cs ≡ true → count cs ≡ 2
    → (is_bracket k.op ≡ false) × (is_math_call k.op ≡ false)
over-two p k cs plain two =
    let first = first_operator (beside cs nil) in
    over_by k.op (leb k.op 110) refl
    (over-two-by p k.op first
    (ap (λ (n : ℕ). plain_by p k.op n first) (sym two) ∙ (sym (plain_by_lem p k cs nil) ∙ plain)))

-- The children stand at the seats of the definition.
never-right : (a : Bool)
    → ◌≡◌ {A = plain.Seat} plain.elsewhere (elim (a && false) [ true ↦ plain.right_of_question | false ↦ plain.elsewhere ])
never-right true = refl
never-right false = refl

right_by : (a : Bool)
    → ◌≡◌ {A = plain.Seat} (form_seat (elim a [ true ↦ RightOfQuestion | false ↦ Operand ]))
    (elim (a && true) [ true ↦ plain.right_of_question | false ↦ plain.elsewhere ])
right_by true = refl
right_by false = refl

first-elsewhere : (k : Token) → is_math_call k.op ≡ false → eqb k.op Operator.semicolon ≡ false → plain.elsewhere ≡ seat_under k 0
first-elsewhere k e f = unfold seat_under in rw (e, f, seat_under) (never-right (eqb k.op Operator.conditional))

under-math : (k : Token) → is_math_call k.op ≡ true → plain.under_math_call ≡ seat_under k 0
under-math k e = unfold seat_under in rw (e, seat_under) refl

bracket-no-math : (n : ℕ) → is_bracket n ≡ true → is_math_call n ≡ false
bracket-no-math n e = unfold is_bracket is_math_call between in rw (eqb-true n 4 e) refl

below-seat : (k : Token) → form_seat (below_seat k.op) ≡ seat_under k 0
unfolding below_seat only_seat
below-seat k =
    let stands : Seat → Type 0 = λ p. form_seat p ≡ seat_under k 0 in
    decided stands (eqb k.op Operator.semicolon) UnderSemicolon (only_seat k.op)
    (λ e. sym (semicolon-seat k 0 e))
    (λ f. decided stands (is_bracket k.op) Enclosed (elim (is_math_call k.op) [ true ↦ UnderMathCall | false ↦ Operand ])
    (λ e. first-elsewhere k (bracket-no-math k.op e) f)
    (λ _. decided stands (is_math_call k.op) UnderMathCall Operand (under-math k) (λ e. first-elsewhere k e f)))

left-seat : (k : Token) → is_math_call k.op ≡ false → eqb k.op Operator.semicolon ≡ false
    → form_seat (left_seat k.op) ≡ seat_under k 0
unfolding left_seat
left-seat k e f =
    let here = first-elsewhere k e f in
    either (λ p. form_seat p ≡ seat_under k 0) (eqb k.op Operator.comma) LeftOfComma Operand here here

right-seat : (k : Token) → is_math_call k.op ≡ false → eqb k.op Operator.semicolon ≡ false
    → form_seat (right_seat k.op) ≡ seat_under k 1
right-seat k e f = unfold right_seat seat_under in rw (e, f, seat_under) (right_by (eqb k.op Operator.conditional))

other-below : (op : ℕ) → eqb op Operator.semicolon ≡ false → below_seat op ≡ only_seat op
other-below op f = unfold below_seat in rw (f, below_seat) refl

-- No child of another node is counted as a statement.
child-operand : (k : Token) (i : ℕ) (q : Seat) (x : Token) (xs : Forest) → eqb k.op Operator.semicolon ≡ false
    → form_seat q ≡ seat_under k i
    → tree_length q x xs ≡ operand_length q x xs
child-operand k i q x xs f h =
    tree-operand q x xs (rw (h, other-seat k i f) (and-false (eqb x.op Operator.semicolon)))

-- The tokens of a node are its own and its children's.
pair-length : (b : Bool) (k : Token) (cs : Forest)
    → length (operand_tokens (not b) k cs (written k cs) []) ≡ length (written k cs []) + if_true b 2
unfolding operand_tokens
pair-length true k cs = omega (arith, written-length k cs (closer_for k cs ∷ []))
pair-length false k cs = omega arith

module _ (p : Seat) (k : Token) where
  -- A node's tokens with its pair, where so many stand inside it.
  with-own : (cs : Forest) (inside : ℕ) → eqb k.op Operator.semicolon ≡ false
      → length (written k cs []) ≡ 1 + if_true (is_bracket k.op) 1 + inside
      → tree_length p k cs ≡ tokens_for p k.op (count cs) + inside
  unfolding tokens_for
  with-own cs inside f e =
      let own : tree_length p k cs ≡ operand_length p k cs = tree-operand p k cs (rw f) in
      omega (arith, own, pair-length (is_paired p k.op (count cs)) k cs)

  counted-leaf : length (written k nil []) ≡ 1 + if_true (is_bracket k.op) 1 + row_count [] nil
  unfolding row_count
  counted-leaf = split (is_bracket k.op) refl
    where
      split : (b : Bool) → is_bracket k.op ≡ b → length (written k nil []) ≡ 1 + if_true (is_bracket k.op) 1 + 0
      split true e = rw (written_none true k [] e, e) refl
      split false e = rw (written_none false k [] e, e) refl

  counted-only : (x : Token) (xs : Forest) → eqb k.op Operator.semicolon ≡ false
      → length (written k (node x xs nil) []) ≡ 1 + if_true (is_bracket k.op) 1 + row_count (below_seat k.op ∷ []) (node x xs nil)
  unfolding row_count operand_tokens
  counted-only x xs f =
      rw (child-operand k 0 (below_seat k.op) x xs f (below-seat k), other-below k.op f) (split (is_bracket k.op) refl)
    where
      split : (b : Bool) → is_bracket k.op ≡ b
          → length (written k (node x xs nil) []) ≡ 1 + if_true (is_bracket k.op) 1 + (operand_length (only_seat k.op) x xs + 0)
      split true e =
          rw (written_one true k x xs [] e, unpaired-bracket x xs k e, e) (omega (arith, written-length x xs (closer_of k ∷ [])))
      split false e = rw (written_one false k x xs [] e, unpaired-only x xs k e, e) (omega arith)

  counted-two : (x y : Token) (xs ys : Forest) → is_bracket k.op ≡ false → is_math_call k.op ≡ false
      → eqb k.op Operator.semicolon ≡ false
      → length (written k (node x xs (node y ys nil)) [])
      ≡ 1 + if_true (is_bracket k.op) 1 + row_count (left_seat k.op ∷ right_seat k.op ∷ []) (node x xs (node y ys nil))
  unfolding row_count
  counted-two x y xs ys e m f =
      rw (
        child-operand k 0 (left_seat k.op) x xs f (left-seat k m f),
        child-operand k 1 (right_seat k.op) y ys f (right-seat k m f),
        written-two k x xs y ys [],
        unpaired-left x xs k,
        unpaired-right y ys k,
        e,
      )
      (omega (arith, operand-length (stands_left k x xs) x xs (k ∷ operand_tokens (stands_right k y ys) y ys (written y ys) [])))

  -- Where the children of a plain node stand, by their number, and that their tokens and its own are all.
  abbrev pub Goes : List Seat → Forest → Type 0
  Goes qs cs =
      Stand k 0 qs cs
      × (tree_length p k cs ≡ tokens_for p k.op (count cs) + row_count qs cs)

  pub on_none : (cs : Forest) → plain_form (form_seat p) k cs ≡ true → count cs ≡ 0 → Goes [] cs
  unfolding count
  on_none nil plain e = (nowhere, with-own nil _ (other-op p k nil plain (λ h. omega arith)) counted-leaf)
  on_none (node x xs r) plain e = absurd (omega arith)

  pub on-two : (cs : Forest) → plain_form (form_seat p) k cs ≡ true → count cs ≡ 2 → Goes (left_seat k.op ∷ right_seat k.op ∷ []) cs
  unfolding count
  on-two nil plain e = absurd (omega arith)
  on-two (node x xs nil) plain e = absurd (omega arith)
  on-two (node x xs (node y ys nil)) plain e =
      let over = over-two p k (node x xs (node y ys nil)) plain refl in
      let other = other-op p k (node x xs (node y ys nil)) plain (λ h. omega arith) in (
        stands (left-seat k over.1 other) (stands (right-seat k over.1 other) nowhere),
        with-own (node x xs (node y ys nil)) _ other (counted-two x y xs ys over.0 over.1 other),
      )
  on-two (node x xs (node y ys (node z zs r))) plain e = absurd (omega arith)

-- Of a statement: what it holds and its semicolon.
statement-count : (k x : Token) (xs : Forest) → eqb k.op Operator.semicolon ≡ true → eqb x.op Operator.semicolon ≡ false
    → tree_length UnderSemicolon k (node x xs nil) ≡ tokens_for UnderSemicolon k.op 1 + row_count (below_seat k.op ∷ []) (node x xs nil)
unfolding row_count tokens_for is_paired is_bracket below_seat is_under_semicolon written_statements operand_tokens
statement-count k x xs e f =
    let op : k.op ≡ Operator.semicolon = eqb-true k.op Operator.semicolon e in
    let own : tree_length UnderSemicolon k (node x xs nil) ≡ length (written_statements (node k (node x xs nil) nil) []) =
    tree-statement UnderSemicolon k (node x xs nil) (rw e)
    in
    let held : tree_length UnderSemicolon x xs ≡ length (written x xs []) =
    tree-operand UnderSemicolon x xs (rw f) ∙ rw (unpaired-by UnderSemicolon x xs ∙ or-true (stands_alone x xs))
    in
    rw (own, op, below_seat, held) (omega (arith, written-length x xs (bare Operator.semicolon x ∷ [])))

under-is : (p : Seat) → is_under_semicolon (form_seat p) ≡ true → p ≡ UnderSemicolon
unfolding is_under_semicolon
under-is Enclosed e = absurd (false≢true e)
under-is UnderMathCall e = absurd (false≢true e)
under-is LeftOfComma e = absurd (false≢true e)
under-is RightOfQuestion e = absurd (false≢true e)
under-is Operand e = absurd (false≢true e)
under-is UnderSemicolon e = refl

-- A plain semicolon over one child is a statement.
holds-other : (p : Seat) (first : ℕ) → plain_by p Operator.semicolon 1 first ≡ true
    → (not (eqb first Operator.semicolon) ≡ true) × (is_under_semicolon (form_seat p) ≡ true)
holds-other p first e = both (not (eqb first Operator.semicolon)) (is_under_semicolon (form_seat p)) (sym (one-by p first) ∙ e)

pub on_one : (p : Seat) (k : Token) (cs : Forest) → plain_form (form_seat p) k cs ≡ true → count cs ≡ 1
    → Goes p k (below_seat k.op ∷ []) cs
unfolding count first_operator beside
on_one p k nil plain e = absurd (omega arith)
on_one p k (node x xs nil) plain e = (
  stands (below-seat k) nowhere,
  booleans.either (eqb k.op Operator.semicolon) statement (λ f. with-own p k (node x xs nil) _ f
      (counted-only p k x xs f)),
)
  where
    statement : eqb k.op Operator.semicolon ≡ true
        → tree_length p k (node x xs nil) ≡ tokens_for p k.op 1 + row_count (below_seat k.op ∷ []) (node x xs nil)
    statement f =
        let form = semicolon-form (form_seat p) k (node x xs nil) f in
        let h = holds-other p x.op (sym (semicolon-by p (node x xs nil) nil) ∙ (sym form ∙ plain)) in
        rw (under-is p h.1) (statement-count k x xs f (not-true (eqb x.op Operator.semicolon) h.0))
on_one p k (node x xs (node y ys r)) plain e = absurd (omega arith)

pub few-tokens : (p : Seat) (op children : ℕ) → tokens_for p op children ≤ 4
unfolding tokens_for
few-tokens p op children = omega (arith, at-most (is_bracket op) 1, at-most (is_paired p op children) 2)
  where
    at-most : (b : Bool) (n : ℕ) → if_true b n ≤ n
    at-most true n = omega arith
    at-most false n = omega arith

-- The seats on the stack, the next one first.
unfoldable pub pending : List Seat → ℕ → List Seat
pending waiting zero = []
pending waiting (suc top) = get_or waiting top Enclosed ∷ pending waiting top

-- THE LOOP'S INVARIANT: the n nodes before `at` are plain, and the seats of the trees that are still called for are on the stack.
pub record Judging (tree : List ℕ) (waiting : List Seat) (top sum n at : ℕ) : Type 0 where
  pub within : at ≤ length tree
  pub stands : at ≡ node_length * n
  pub shaped : Shaped most_children top (drop at tree)
  pub few : sum ≤ 4 * n
  pub room : length waiting ≡ most_nodes
  pub same : judging (pending waiting top) sum n (trees_of (drop at tree)) ≡ judgement (trees_of tree)

pending-set : (waiting : List Seat) (top i : ℕ) (p : Seat) → top ≤ i → pending (set waiting i p) top ≡ pending waiting top
unfolding pending
pending-set waiting zero i p h = refl
pending-set waiting (suc top) i p h =
    rw (get_or-set_other waiting i top p Enclosed (λ e. omega arith), pending-set waiting top i p (omega arith))

pushed : (waiting : List Seat) (top : ℕ) (p : Seat) → top < length waiting → pending (set waiting top p) (suc top) ≡ p ∷ pending waiting top
pushed waiting top p h = unfold pending in rw (get_or-set_same waiting top p Enclosed h, pending-set waiting top top p (omega arith))

-- BEFORE THE FIRST NODE of an expression.
expression-begins : (tree : List ℕ) (waiting : List Seat) → OneTree tree → (operator_at tree 0 ≡ Operator.semicolon → ⊥)
    → length waiting ≡ most_nodes
    → get_or waiting 0 Enclosed ≡ Enclosed
    → Judging tree waiting 1 0 0 0
unfolding pending
expression-begins tree waiting one other room e =
    let o = opened one.shaped (omega (arith, shaped-room one.shaped)) in
    let no-semicolon = ne_eqb o.k.op Operator.semicolon (λ h. other (sym o.op ∙ h)) in
    record {
      within = omega arith;
      stands = refl;
      shaped = one.shaped;
      few = omega arith;
      room = room;
      same = rw (e, o.trees) (judging-start o.k o.cs o.rest no-semicolon);
    }

-- BEFORE THE FIRST STATEMENT of a script: each statement waits under its semicolon.
all-pending : (waiting : List Seat) (n : ℕ) → ((i : ℕ) → i < n → get_or waiting i Enclosed ≡ UnderSemicolon)
    → pending waiting n ≡ replicate n UnderSemicolon
unfolding pending
all-pending waiting zero h = refl
all-pending waiting (suc n) h =
    rw (h n (omega arith), all-pending waiting n (λ i less. h i (omega arith)))

all-stand : (k : Token) (i : ℕ) (cs : Forest) → eqb k.op Operator.semicolon ≡ true → Stand k i (replicate (count cs) UnderSemicolon) cs
unfolding count
all-stand k i nil e = nowhere
all-stand k i (node x xs rest) e = stands (sym (semicolon-seat k i e)) (all-stand k (suc i) rest e)

-- The first statement's tokens, then those of the others.
pub statements-split : (s : Token) (ss rest : Forest)
    → written_statements (node s ss rest) [] ≡ written_statements (node s ss nil) [] ++ written_statements rest []
unfolding written_statements
statements-split s nil rest = refl
statements-split s (node x xs more) rest =
    let semicolon = bare Operator.semicolon x in
    written-before x xs (semicolon ∷ written_statements rest [])
    ∙ (sym (append_assoc (written x xs []) (semicolon ∷ []) (written_statements rest []))
    ∙ ap (λ (l : List Token). l ++ written_statements rest []) (sym (written-before x xs (semicolon ∷ []))))

statements-apart : (s : Token) (ss rest : Forest)
    → length (written_statements (node s ss rest) []) ≡ length (written_statements (node s ss nil) []) + length (written_statements rest [])
statements-apart s ss rest =
    ap length (statements-split s ss rest) ∙ length-append (written_statements (node s ss nil) []) (written_statements rest [])

statements-count : (cs : Forest) → all_semicolons cs ≡ true
    → row_count (replicate (count cs) UnderSemicolon) cs ≡ length (written_statements cs [])
unfolding row_count all_semicolons count is_under_semicolon
statements-count nil e = unfold written_statements in refl
statements-count (node s ss rest) e =
    let semi = both (eqb s.op Operator.semicolon) (all_semicolons rest) e in
    omega (arith, tree-statement UnderSemicolon s ss (rw semi.0), statements-count rest semi.1, statements-apart s ss rest)

script-all : (cs : Forest) → semicolon_form plain.at_root cs ≡ true → all_semicolons cs ≡ true
unfolding semicolon_form
script-all nil e = absurd (false≢true e)
script-all (node x xs rest) e = e

pub script-row : (k : Token) (cs rest : Forest) → eqb k.op Operator.semicolon ≡ true → semicolon_form plain.at_root cs ≡ true
    → row_unplain (replicate (count cs) UnderSemicolon) 1 (beside cs rest) ≡ unplain_at k cs
unfolding row_unplain unplain_at seat_of unplain must first_of
script-row k cs rest e form =
    let seats = replicate (count cs) UnderSemicolon in
    rw (semicolon-form plain.at_root k cs e, form)
    (ap (λ (l : List Seat). row_unplain l 1 (beside cs rest)) (sym (append-nil seats)) ∙ row-beside (all-stand k 0 cs e) [] 1 rest)

judging-script : (k : Token) (cs rest : Forest) → eqb k.op Operator.semicolon ≡ true → semicolon_form plain.at_root cs ≡ true
    → judging (replicate (count cs) UnderSemicolon) 0 1 (beside cs rest) ≡ judgement (node k cs rest)
unfolding judging row_unplain row_count judgement unplain_at seat_of unplain written_tokens must first_of
judging-script k cs rest e form =
    let seats = replicate (count cs) UnderSemicolon in
    let st = all-stand k 0 cs e in
    let all : 0 + row_count seats (beside cs rest) ≡ length (written_tokens (node k cs rest)) =
    rw (written_tree-script k cs e)
    (omega (
      arith,
      ap (λ (l : List Seat). row_count l (beside cs rest)) (append-nil seats),
      count-beside st [] rest,
      statements-count cs (script-all cs form),
    ))
    in
    rw (all, script-row k cs rest e form) (sym (judgement-by (unplain_at k cs) (node k cs rest)))

script-begins : (tree : List ℕ) (waiting : List Seat) → OneTree tree → operator_at tree 0 ≡ Operator.semicolon
    → holds_statements (trees_of tree) ≡ true
    → length waiting ≡ most_nodes
    → ((i : ℕ) → i < most_nodes → get_or waiting i Enclosed ≡ UnderSemicolon)
    → Judging tree waiting (low_of (get_or tree count_index 0)) 0 1 node_length
unfolding holds_statements
script-begins tree waiting one semicolon holds room e =
    let o = opened one.shaped (omega (arith, shaped-room one.shaped)) in
    let root : eqb o.k.op Operator.semicolon ≡ true = eq-eqb o.k.op Operator.semicolon (o.op ∙ semicolon) in
    let form : semicolon_form plain.at_root o.cs ≡ true = rw o.trees at holds in
    let c = low_of (get_or tree count_index 0) in
    let trees : c + o.others ≡ c = omega (arith, o.is_top) in
    let shaped : Shaped most_children c (drop node_length tree) = rw trees at o.shaped in
    let few : c ≤ most_nodes = omega (arith, shaped-room shaped, length-drop node_length tree, one.small) in
    record {
      within = o.long;
      stands = refl;
      shaped = shaped;
      few = omega arith;
      room = room;
      same =
          rw (all-pending waiting c (λ i less. e i (omega arith)), o.below, o.trees, ← o.children)
          (judging-script o.k o.cs o.rest root form);
    }

-- The stack at the start: all seats under a semicolon, but for the first.
filled-room : (p : Seat) → length (set (replicate most_nodes UnderSemicolon) 0 p) ≡ most_nodes
filled-room p = length-set (replicate most_nodes UnderSemicolon) 0 p ∙ length-replicate most_nodes UnderSemicolon

filled-first : (p : Seat) → get_or (set (replicate most_nodes UnderSemicolon) 0 p) 0 Enclosed ≡ p
filled-first p =
    get_or-set_same (replicate most_nodes UnderSemicolon) 0 p Enclosed (omega (arith, length-replicate most_nodes UnderSemicolon))

filled-all : (i : ℕ) → i < most_nodes → get_or (set (replicate most_nodes UnderSemicolon) 0 UnderSemicolon) i Enclosed ≡ UnderSemicolon
filled-all zero h = filled-first UnderSemicolon
filled-all (suc i) h =
    get_or-set_other (replicate most_nodes UnderSemicolon) 0 (suc i) UnderSemicolon Enclosed (λ e. omega arith)
    ∙ get_or-replicate most_nodes (suc i) UnderSemicolon Enclosed h

pub judging-begins : {tree : List ℕ} {first : Seat} {trees begin at : ℕ} → OneTree tree → Begins tree first trees begin
    → at ≡ node_length * begin
    → Judging tree (set (replicate most_nodes UnderSemicolon) 0 first) trees 0 (at / node_length) at
judging-begins {tree = tree} one (an_expression other) here =
    rw here (expression-begins tree _ one other (filled-room Enclosed) (filled-first Enclosed))
judging-begins {tree = tree} one (a_script semicolon holds) here =
    rw here (script-begins tree _ one semicolon holds (filled-room UnderSemicolon) filled-all)

-- A ROOT THAT IS NOT PLAIN.
pub root-refused : {tree : List ℕ} → OneTree tree → operator_at tree 0 ≡ Operator.semicolon → holds_statements (trees_of tree) ≡ false
    → unwritten 13 0 ≡ judgement (trees_of tree)
unfolding holds_statements judgement unplain_at seat_of unplain must first_of write_told
root-refused one semicolon fails =
    let o = opened one.shaped (omega (arith, shaped-room one.shaped)) in
    let root : eqb o.k.op Operator.semicolon ≡ true = eq-eqb o.k.op Operator.semicolon (o.op ∙ semicolon) in
    let form : semicolon_form plain.at_root o.cs ≡ false = rw o.trees at fails in
    rw (o.trees, semicolon-form plain.at_root o.k o.cs root, form)

-- After the last.
pub judging-ends : {tree : List ℕ} {waiting : List Seat} {top sum n at : ℕ} → Judging tree waiting top sum n at → length tree < at + node_length
    → tokens sum ≡ judgement (trees_of tree)
unfolding pending trees_of
judging-ends {tree = tree} {waiting = waiting} {top = top} {sum = sum} {n = n} {at = at} j h =
    let end : length tree ≤ at = omega (arith, shaped-length j.shaped, length-drop at tree) in
    let here : drop at tree ≡ [] = drop_of_length-le tree end in
    let last : top ≡ 0 = omega (arith, shaped-room j.shaped, ap length here) in
    sym (judging-done sum n) ∙ (rw (here, last) at j.same)

-- At a node: what stands there, and the ways on.
module _ {tree : List ℕ} {waiting : List Seat} {top sum n at : ℕ} (one : OneTree tree) (j : Judging tree waiting top sum n at)
    (h : at + node_length ≤ length tree) where
  node_at : Opened most_children top (drop at tree)
  node_at = opened j.shaped (rw length-drop (omega arith))

  pub judging-room : (1 ≤ top) × (top + n ≤ most_nodes)
  judging-room =
      let room = length-drop at tree in
      (omega (arith, node_at.is_top), omega (arith, shaped-room j.shaped, one.small))

-- A turn of the loop: a node was passed, whose seat is on top of the stack.
pub record Turn (tree : List ℕ) (waiting : List Seat) (top sum at : ℕ) (v : NodeView) (new : TreeReader) (p : Seat) : Type 0 where
  pub one : OneTree tree
  pub inv : Judging tree waiting top sum (at / node_length) at
  pub passed : Passes tree at v new
  pub is_seat : p ≡ get_or waiting (top - 1) Enclosed

module _ {tree : List ℕ} {waiting : List Seat} {top sum at : ℕ} {v : NodeView} {new : TreeReader} {p : Seat}
    (t : Turn tree waiting top sum at v new p) where
  here : Opened most_children top (drop at tree)
  here = node_at t.one t.inv t.passed.whole

  pub bounds : (1 ≤ top) × (top + at / node_length ≤ most_nodes)
  bounds = judging-room t.one t.inv t.passed.whole

  next : drop node_length (drop at tree) ≡ drop (at + node_length) tree
  next = drop-drop node_length at tree

  here-op : here.k.op ≡ v.op
  here-op =
      here.op
      ∙ (ap operator_of (get_or-drop at tree 0 0 ∙ ap (λ (m : ℕ). get_or tree m 0) (add-zero at))
      ∙ sym (ap (λ (w : NodeView). w.op) t.passed.is_seen))

  here-count : count here.cs ≡ v.children
  here-count =
      here.children
      ∙ (ap low_of (get_or-drop at tree count_index 0) ∙ sym (ap (λ (w : NodeView). w.children) t.passed.is_seen))

  here-first : first_operator (beside here.cs here.rest) ≡ v.next
  here-first =
      ap first_operator (sym here.below)
      ∙ (first-operator here.shaped
      ∙ (ap operator_of (get_or-drop node_length (drop at tree) 0 0 ∙ get_or-drop at tree node_length 0)
      ∙ sym (ap (λ (w : NodeView). w.next) t.passed.is_seen)))

  here-plain : plain_form (form_seat p) here.k here.cs ≡ plain_by p v.op v.children v.next
  here-plain = plain_by_lem p here.k here.cs here.rest ∙ rw (here-op, here-count, here-first)

  still : judging (p ∷ pending waiting (top - 1)) sum (at / node_length) (node here.k here.cs here.rest) ≡ judgement (trees_of tree)
  unfolding pending
  still =
      let left : top ≡ suc (top - 1) = omega (arith, here.is_top) in
      let seats : pending waiting top ≡ p ∷ pending waiting (top - 1) =
      ap (pending waiting) left ∙ ap (λ (q : Seat). q ∷ pending waiting (top - 1)) (sym t.is_seat)
      in
      rw (seats, here.trees) at t.inv.same

  pub judging-refused : plain_by p v.op v.children v.next ≡ false → unwritten 13 (v.at / node_length) ≡ judgement (trees_of tree)
  judging-refused e =
      rw (ap (λ (w : NodeView). w.at) t.passed.is_seen)
      (sym (judging-unplain p (pending waiting (top - 1)) sum (at / node_length) here.k here.cs here.rest (here-plain ∙ e)) ∙ still)

  later-shaped : {m : ℕ} → Shaped most_children m (drop node_length (drop at tree)) → m ≡ v.children + (top - 1)
      → Shaped most_children (v.children + (top - 1)) (drop node_length (drop at tree))
  later-shaped s e = rw e at s

  -- The state after a plain node whose children stand at these seats.
  passed : {waiting' : List Seat} {top' : ℕ} (qs : List Seat) → plain_by p v.op v.children v.next ≡ true → Goes p here.k qs here.cs
      → length waiting' ≡ most_nodes
      → top' ≡ v.children + (top - 1)
      → pending waiting' top' ≡ qs ++ pending waiting (top - 1)
      → Judging tree waiting' top' (sum + tokens_for p v.op v.children) (new.at / node_length) new.at
  passed {waiting' = waiting'} qs plain goes room height seats =
      let on = judged-on p (pending waiting (top - 1)) qs sum (at / node_length) here.k here.cs here.rest (here-plain ∙ plain) goes.0
      goes.1 in
      let number : (at + node_length) / node_length ≡ suc (at / node_length) = omega arith in
      record {
        within = omega (arith, t.passed.whole, t.passed.behind);
        stands = omega (arith, t.inv.stands, t.passed.behind);
        shaped = rw (height, t.passed.behind, ← next) (later-shaped here.shaped (omega (arith, here.is_top, here.children, here-count)));
        few = omega (arith, t.inv.few, t.passed.behind, few-tokens p v.op v.children);
        room = room;
        same = rw (seats, t.passed.behind, number, ← next, here.below) (rw (here-op, here-count) at (sym on) ∙ still);
      }

  pub judging-none : plain_by p v.op v.children v.next ≡ true → (v.children ≡ 1 → ⊥) → (v.children ≡ 2 → ⊥)
      → Judging tree waiting (top - 1) (sum + tokens_for p v.op v.children) (new.at / node_length) new.at
  judging-none plain a b =
      let zero-children = plain-few p v.op v.children v.next plain a b in
      passed [] plain (on_none p here.k here.cs (here-plain ∙ plain) (here-count ∙ zero-children)) t.inv.room (omega arith) refl

  pub judging-one : plain_by p v.op v.children v.next ≡ true → v.children ≡ 1
      → Judging tree (set waiting (top - 1) (below_seat v.op)) (top - 1 + 1) (sum + tokens_for p v.op v.children) (new.at / node_length) new.at
  judging-one plain e =
      let below : top - 1 < length waiting = omega (arith, t.inv.room, bounds.0, bounds.1) in
      passed (below_seat here.k.op ∷ []) plain (on_one p here.k here.cs (here-plain ∙ plain) (here-count ∙ e))
      (length-set waiting (top - 1) (below_seat v.op) ∙ t.inv.room) (omega arith)
      (rw (add-one, here-op) (pushed waiting (top - 1) (below_seat v.op) below))

  pub judging-room-two : v.children ≡ 2 → top - 1 + 1 < most_nodes
  judging-room-two e =
      omega (
        arith,
        shaped-room here.shaped,
        here.is_top,
        here.children,
        here-count,
        length-drop node_length (drop at tree),
        length-drop at tree,
        t.one.small,
      )

  pub judging-two : plain_by p v.op v.children v.next ≡ true → v.children ≡ 2
      → Judging tree (set (set waiting (top - 1) (right_seat v.op)) (top - 1 + 1) (left_seat v.op)) (top - 1 + 2)
      (sum + tokens_for p v.op v.children) (new.at / node_length) new.at
  judging-two plain e =
      let bottom = set waiting (top - 1) (right_seat v.op) in
      let room : length bottom ≡ most_nodes = length-set waiting (top - 1) (right_seat v.op) ∙ t.inv.room in
      let left : top - 1 < length waiting = omega (arith, t.inv.room, bounds.0, bounds.1) in
      let right : suc (top - 1) < length bottom = omega (arith, room, judging-room-two e) in
      let height : top - 1 + 2 ≡ suc (suc (top - 1)) = omega arith in
      passed (left_seat here.k.op ∷ right_seat here.k.op ∷ []) plain
      (on-two p here.k here.cs (here-plain ∙ plain) (here-count ∙ e))
      (length-set bottom (top - 1 + 1) (left_seat v.op) ∙ room) (omega arith)
      (rw (height, add-one, here-op, pushed bottom (suc (top - 1)) (left_seat v.op) right, pushed waiting (top - 1) (right_seat v.op) left))
