-- Laws of writing: what is written before tokens, and that each token of the tree is put in once, with nothing added but brackets and the
-- statements' semicolons.
use Prim.Native.Nat.{ℕ, suc, ◌+◌}
use mathlib.Core.{Path.{◌≡◌, refl, ap, sym, ◌∙◌}, Bool.{Bool, true, false, true≢false, false≢true}}
use mathlib.Core.{List.{List, [], ◌∷◌, ◌++◌, append_assoc}, Option.{none}}
use native.Mathlib.Omega.{arith}
use lib.{Dec.{eqb}, ListN.{length, length-append}}
use Rattle.molang.specs.Operator
use Rattle.molang.specs.{Operator.{is_bracket}, Forest.{Token, Forest, nil, node, size, bare, unclosed}}
use Rattle.molang.specs.Plain.{Seat, at_root, under_semicolon, seat_under, expression_form, unplain_at}
use Rattle.molang.specs.Write.{opener_for, closer_for, closer_of, stands_alone, stands_left, stands_right, operand_tokens, written}
use Rattle.molang.specs.Write.{written_statements, written_tree}
use Rattle.molang.proofs.PlainTrees.{PlainExpression, PlainStatements, ended, statement, PlainTree, expression, script, inner}
use Rattle.molang.proofs.PlainTrees.{plain-tree}

-- The writing of a node without children and with one, by whether it is a bracket.
pub written_none : (b : Bool) (k : Token) (r : List Token) → is_bracket k.op ≡ b
    → written k nil r ≡ (elim b as (λ t. List Token) [ true ↦ unclosed k ∷ closer_of k ∷ r | false ↦ k ∷ r ])
written_none b k r h = unfold written in rw (← h) refl

pub written_one : (b : Bool) (k x : Token) (xs : Forest) (r : List Token) → is_bracket k.op ≡ b
    → written k (node x xs nil) r ≡ (elim b as (λ t. List Token) [
      | true ↦ unclosed k ∷ written x xs (closer_of k ∷ r)
      | false ↦ k ∷ operand_tokens (stands_alone x xs) x xs (written x xs) r
    ])
written_one b k x xs r h = unfold written in rw (← h) refl

pub written-two : (k x : Token) (xs : Forest) (y : Token) (ys : Forest) (r : List Token)
    → written k (node x xs (node y ys nil)) r ≡ operand_tokens (stands_left k x xs) x xs (written x xs)
    (k ∷ operand_tokens (stands_right k y ys) y ys (written y ys) r)
written-two k x xs y ys r = unfold written in refl

pub written-more : (k x : Token) (xs : Forest) (y : Token) (ys : Forest) (z : Token) (zs more : Forest) (r : List Token)
    → written k (node x xs (node y ys (node z zs more))) r ≡ k ∷ r
written-more k x xs y ys z zs more r = unfold written in refl

-- The writing of a tree, by whether its root is a semicolon.
pub written_tree-expression : (k : Token) (cs : Forest) → eqb k.op Operator.semicolon ≡ false → written_tree k cs ≡ written k cs []
written_tree-expression k cs h = unfold written_tree in rw (h, written_tree) refl

pub written_tree-script : (k : Token) (cs : Forest) → eqb k.op Operator.semicolon ≡ true → written_tree k cs ≡ written_statements cs []
written_tree-script k cs h = unfold written_tree in rw (h, written_tree) refl

-- What is written before some tokens is what is written, and then these.
pub operand-before : (b : Bool) (k : Token) (cs : Forest) (tokens : List Token → List Token) (r : List Token)
    → ((s : List Token) → tokens s ≡ tokens [] ++ s)
    → operand_tokens b k cs tokens r ≡ operand_tokens b k cs tokens [] ++ r
unfolding operand_tokens
operand-before true k cs tokens r h = h r
operand-before false k cs tokens r h =
    ap (λ (l : List Token). opener_for k cs ∷ l)
    (h (closer_for k cs ∷ r) ∙ (sym (append_assoc (tokens []) (closer_for k cs ∷ []) r) ∙ ap (λ (l : List Token). l ++ r)
    (sym (h (closer_for k cs ∷ [])))))

pub written-before : (k : Token) (cs : Forest) (r : List Token) → written k cs r ≡ written k cs [] ++ r
written-before k nil r = split (is_bracket k.op) refl
  where
    split : (b : Bool) → is_bracket k.op ≡ b → written k nil r ≡ written k nil [] ++ r
    split true h = rw (written_none true k r h, written_none true k [] h) refl
    split false h = rw (written_none false k r h, written_none false k [] h) refl
written-before k (node x xs nil) r = split (is_bracket k.op) refl (written-before x xs)
  where
    split : (b : Bool) → is_bracket k.op ≡ b → ((r : List Token) → written x xs r ≡ written x xs [] ++ r)
        → written k (node x xs nil) r ≡ written k (node x xs nil) [] ++ r
    split true h i =
        rw (written_one true k x xs r h, written_one true k x xs [] h, i (closer_of k ∷ r), i (closer_of k ∷ []), append_assoc) refl
    split false h i =
        rw (written_one false k x xs r h, written_one false k x xs [] h) (ap (λ (l : List Token). k ∷ l)
        (operand-before (stands_alone x xs) x xs (written x xs) r i))
written-before k (node x xs (node y ys nil)) r =
    let right = operand_tokens (stands_right k y ys) y ys (written y ys) in
    let left = operand_tokens (stands_left k x xs) x xs (written x xs) in
    let hr : right r ≡ right [] ++ r = operand-before (stands_right k y ys) y ys (written y ys) r (written-before y ys) in
    let hl : (s : List Token) → left s ≡ left [] ++ s =
    λ s. operand-before (stands_left k x xs) x xs (written x xs) s (written-before x xs) in
    written-two k x xs y ys r
    ∙ (ap (λ (l : List Token). left (k ∷ l)) hr
    ∙ (hl (k ∷ (right [] ++ r))
    ∙ (sym (append_assoc (left []) (k ∷ right []) r)
    ∙ ap (λ (l : List Token). l ++ r) (sym (hl (k ∷ right [])) ∙ sym (written-two k x xs y ys [])))))
written-before k (node x xs (node y ys (node z zs more))) r =
    written-more k x xs y ys z zs more r ∙ ap (λ (l : List Token). l ++ r) (sym (written-more k x xs y ys z zs more []))

pub statements-before : (cs : Forest) (r : List Token) → written_statements cs r ≡ written_statements cs [] ++ r
unfolding written_statements
statements-before nil r = refl
statements-before (node s nil rest) r = statements-before rest r
statements-before (node s (node x xs more) rest) r =
    let semi = bare Operator.semicolon x in
    ap (λ (l : List Token). written x xs (semi ∷ l)) (statements-before rest r)
    ∙ (written-before x xs (semi ∷ (written_statements rest [] ++ r))
    ∙ (sym (append_assoc (written x xs []) (semi ∷ written_statements rest []) r)
    ∙ ap (λ (l : List Token). l ++ r) (sym (written-before x xs (semi ∷ written_statements rest [])))))

-- So the lengths add up.
pub operand-length : (b : Bool) (k : Token) (cs : Forest) (r : List Token)
    → length (operand_tokens b k cs (written k cs) r) ≡ length (operand_tokens b k cs (written k cs) []) + length r
operand-length b k cs r =
    ap length (operand-before b k cs (written k cs) r (written-before k cs)) ∙ length-append (operand_tokens b k cs (written k cs) []) r

pub written-length : (k : Token) (cs : Forest) (r : List Token) → length (written k cs r) ≡ length (written k cs []) + length r
written-length k cs r = ap length (written-before k cs r) ∙ length-append (written k cs []) r

-- The tree's own tokens, in the order of writing: each operator between or before its operands. (No plain node has three children.)
unfoldable pub own_tokens : Token → Forest → List Token → List Token
own_tokens k nil r = k ∷ r
own_tokens k (node x xs nil) r = k ∷ own_tokens x xs r
own_tokens k (node x xs (node y ys nil)) r = own_tokens x xs (k ∷ own_tokens y ys r)
own_tokens k (node x xs (node y ys (node z zs more))) r = k ∷ r

-- The second list is the first, token by token, with brackets added: openers and closers over some tree's extent with payload 0. A
-- section's opener closes at its own end in the list; where the section closes, its closer stands.
pub data Adds : List Token → List Token → Type 0 where
  nothing : Adds [] []
  own : (k : Token) {ks ls : List Token} → Adds ks ls → Adds (k ∷ ks) (k ∷ ls)
  section : (k : Token) {ks ls : List Token} → Adds ks ls → Adds (k ∷ ks) (unclosed k ∷ ls)
  section_end : (k : Token) {ks ls : List Token} → Adds ks ls → Adds ks (closer_of k ∷ ls)
  opener : (k : Token) (cs : Forest) {ks ls : List Token} → Adds ks ls → Adds ks (opener_for k cs ∷ ls)
  closer : (k : Token) (cs : Forest) {ks ls : List Token} → Adds ks ls → Adds ks (closer_for k cs ∷ ls)

adds-operand : (b : Bool) (k : Token) (cs : Forest) (F G : List Token → List Token) → ((r r' : List Token) → Adds r r' → Adds (F r) (G r'))
    → (r r' : List Token) → Adds r r' → Adds (F r) (operand_tokens b k cs G r')
unfolding operand_tokens
adds-operand true k cs F G f r r' a = f r r' a
adds-operand false k cs F G f r r' a = opener k cs (f r (closer_for k cs ∷ r') (closer k cs a))

adds : (k : Token) (cs : Forest) (r r' : List Token) → Adds r r' → Adds (own_tokens k cs r) (written k cs r')
unfolding own_tokens
adds k nil r r' a = split (is_bracket k.op) refl
  where
    split : (b : Bool) → is_bracket k.op ≡ b → Adds (k ∷ r) (written k nil r')
    split true h = rw (written_none true k r' h) (section k (section_end k a))
    split false h = rw (written_none false k r' h) (own k a)
adds k (node x xs nil) r r' a = split (is_bracket k.op) refl (adds x xs)
  where
    split : (b : Bool) → is_bracket k.op ≡ b → ((r r' : List Token) → Adds r r' → Adds (own_tokens x xs r) (written x xs r'))
        → Adds (k ∷ own_tokens x xs r) (written k (node x xs nil) r')
    split true h i = rw (written_one true k x xs r' h) (section k (i r (closer_of k ∷ r') (section_end k a)))
    split false h i =
        rw (written_one false k x xs r' h) (own k (adds-operand (stands_alone x xs) x xs (own_tokens x xs) (written x xs) i r r' a))
adds k (node x xs (node y ys nil)) r r' a =
    rw (written-two k x xs y ys r')
    (adds-operand (stands_left k x xs) x xs (own_tokens x xs) (written x xs) (adds x xs) (k ∷ own_tokens y ys r)
    (k ∷ operand_tokens (stands_right k y ys) y ys (written y ys) r')
    (own k (adds-operand (stands_right k y ys) y ys (own_tokens y ys) (written y ys) (adds y ys) r r' a)))
adds k (node x xs (node y ys (node z zs more))) r r' a = rw (written-more k x xs y ys z zs more r') (own k a)

-- How many tokens of a list, and how many nodes of trees, pass a test.
one : Bool → ℕ
one true = 1
one false = 0

unfoldable pub in_list : (Token → Bool) → List Token → ℕ
unfolding one
in_list test [] = 0
in_list test (k ∷ ks) = one (test k) + in_list test ks

unfoldable pub in_trees : (Token → Bool) → Forest → ℕ
unfolding one
in_trees test nil = 0
in_trees test (node k cs rest) = one (test k) + in_trees test cs + in_trees test rest

own-once : (test : Token → Bool) (p : Seat) (n : ℕ) (k : Token) (cs : Forest) → PlainExpression p n k cs → (r : List Token)
    → in_list test (own_tokens k cs r) ≡ one (test k) + in_trees test cs + in_list test r
unfolding own_tokens in_list in_trees
own-once test p n k nil e r = omega arith
own-once test p n k (node x xs nil) e r =
    let a = inner k 0 n x xs nil e.other e.below in
    let i = own-once test (seat_under k 0) (suc n) x xs a.0 r in omega arith
own-once test p n k (node x xs (node y ys nil)) e r =
    let a = inner k 0 n x xs (node y ys nil) e.other e.below in
    let b = inner k 1 (suc n + size xs) y ys nil e.other a.1 in
    let i = own-once test (seat_under k 0) (suc n) x xs a.0 (k ∷ own_tokens y ys r) in
    let j = own-once test (seat_under k 1) (suc (suc n + size xs)) y ys b.0 r in omega arith
own-once test p n k (node x xs (node y ys (node z zs more))) e r = absurd (false≢true (unfold expression_form in e.form))

-- NO TOKEN IS LOST OR INVENTED: the writing of a plain expression, or of what a statement holds, is its own tokens in order with added
-- brackets between them, and its own tokens are those of its nodes, each as often as it stands in the tree (any test is passed by as many
-- of the one as of the other).
pub record PutInOnce (k : Token) (cs : Forest) : Type 0 where
  pub brackets_added : Adds (own_tokens k cs []) (written k cs [])
  pub each_once : (test : Token → Bool) → in_list test (own_tokens k cs []) ≡ in_trees test (node k cs nil)

expression-once : (p : Seat) (n : ℕ) (k : Token) (cs : Forest) → PlainExpression p n k cs → PutInOnce k cs
unfolding in_list in_trees
expression-once p n k cs e = record {
  brackets_added = adds k cs [] [] nothing;
  each_once = λ test. let i = own-once test p n k cs e [] in omega arith;
}

-- The list is what is written of each statement, one after another: of what it holds, and then a semicolon with the span of that child and
-- payload 0. The semicolons of the tree are not written.
pub data StatementsOnce : Forest → List Token → Type 0 where
  no_statement : StatementsOnce nil []
  statement_once : (s x : Token) {xs rest : Forest} {ls : List Token} → PutInOnce x xs → StatementsOnce rest ls
      → StatementsOnce (node s (node x xs nil) rest) (written x xs [] ++ (bare Operator.semicolon x ∷ ls))

statements-once : (cs : Forest) → PlainStatements cs → StatementsOnce cs (written_statements cs [])
unfolding written_statements
statements-once nil ended = no_statement
statements-once (node s nil rest) x3 = elim x3 [ ]
statements-once (node s (node x xs (node _ _ _)) rest) x10 = elim x10 [ ]
statements-once (node s (node x xs nil) rest) (statement _ n _ h e later) =
    rw (written-before x xs (bare Operator.semicolon x ∷ written_statements rest []))
    (statement_once s x (expression-once under_semicolon n x xs e) (statements-once rest later))

-- The writing of a plain tree: of an expression it is put in once, of a script each statement is.
pub put-in-once : (k : Token) (cs : Forest) → unplain_at k cs ≡ none → eqb k.op Operator.semicolon ≡ false → PutInOnce k cs
put-in-once k cs plain other = split cs (plain-tree k cs plain)
  where
    split : (cs : Forest) → PlainTree k cs → PutInOnce k cs
    split cs (expression e) = expression-once at_root 1 k cs e
    split cs (script h s) = absurd (true≢false (sym h ∙ other))

pub statements-put-in-once : (k : Token) (cs : Forest) → unplain_at k cs ≡ none → eqb k.op Operator.semicolon ≡ true
    → StatementsOnce cs (written_tree k cs)
statements-put-in-once k cs plain semicolon = split cs (plain-tree k cs plain)
  where
    split : (cs : Forest) → PlainTree k cs → StatementsOnce cs (written_tree k cs)
    split cs (expression e) = absurd (true≢false (sym semicolon ∙ e.other))
    split cs (script h s) = rw (written_tree-script k cs semicolon) (statements-once cs s)

-- A test that passes none of these brackets and does not look at where a token closes, which the list does not say.
pub record Unbracketing (test : Token → Bool) : Type 0 where
  pub opener : (k : Token) (cs : Forest) → test (opener_for k cs) ≡ false
  pub closer : (k : Token) (cs : Forest) → test (closer_for k cs) ≡ false
  pub section_end : (k : Token) → test (closer_of k) ≡ false
  pub unclosing : (k : Token) → test (unclosed k) ≡ test k

-- So a token that is no such bracket stands in the writing as often as in the tree.
others-once : (test : Token → Bool) → Unbracketing test → {ks ls : List Token} → Adds ks ls → in_list test ls ≡ in_list test ks
unfolding in_list one
others-once test t nothing = refl
others-once test t (own k a) = ap (λ (n : ℕ). one (test k) + n) (others-once test t a)
others-once test t (section k a) = let i = others-once test t a in rw (t.unclosing k) (omega arith)
others-once test t (section_end k a) = let i = others-once test t a in rw (t.section_end k) (omega arith)
others-once test t (opener k cs a) = let i = others-once test t a in rw (t.opener k cs) (omega arith)
others-once test t (closer k cs a) = let i = others-once test t a in rw (t.closer k cs) (omega arith)

pub written_once : (k : Token) (cs : Forest) → unplain_at k cs ≡ none → eqb k.op Operator.semicolon ≡ false → (test : Token → Bool)
    → Unbracketing test
    → in_list test (written_tree k cs) ≡ in_trees test (node k cs nil)
written_once k cs plain other test t =
    let p = put-in-once k cs plain other in
    ap (in_list test) (written_tree-expression k cs other) ∙ (others-once test t p.brackets_added ∙ p.each_once test)
