-- What only a script has: its semicolons, and the assignments and `return`s of its statements. The writing of any other plain expression
-- has none of their tokens.
use Prim.Native.Nat.{ℕ, suc, ◌+◌}
use mathlib.Core.{Path.{◌≡◌, refl, ap, ◌∙◌}, Bool.{Bool, true, false, ◌&&◌, ◌||◌, not, false≢true, and-false}, List.{List, [], ◌∷◌}}
use lib.Dec.{eqb, leb}
use Rattle.molang.specs.Operator
use Rattle.molang.specs.{Operator.{any, is_one_of, is_bracket}, Forest.{Token, Forest, nil, node, size, closed_by, unclosed}}
use Rattle.molang.specs.Plain.{Seat, is_right_of_question, is_under_math_call, is_under_semicolon, seat_under, is_plain_leaf, is_plain_binary}
use Rattle.molang.specs.{Write.{spanning, opener_for, closer_for, closer_of, stands_alone, stands_left, stands_right}, Read.{uses}}
use Rattle.molang.specs.{Plain.{is_call, expression_form}, Write.{operand_tokens, written}}
use Rattle.molang.proofs.{Computed.{computed}, PlainTrees.{other-seat, PlainExpression, inner}, OperatorNumbers.{none_of}}
use Rattle.molang.proofs.{Booleans.{either}, Writing.{written_none, written_one, written-two}, Grammar.Numbers.{apart}}

abbrev stated : List ℕ
stated = Operator.assignment ∷ Operator.semicolon ∷ Operator.return ∷ []

-- One of the three.
abbrev pub is_stated : ℕ → Bool
is_stated n = is_one_of stated n

-- A node that is not under a semicolon is none of them.
unstated : (p : Seat) (k : Token) (cs : Forest) → is_under_semicolon p ≡ false → expression_form p k cs ≡ true → is_stated k.op ≡ false
unfolding computed
unstated p k nil s f = none_of (λ n. is_plain_leaf n || (is_bracket n && is_under_math_call p)) stated k.op f refl
unstated p k (node x xs nil) s f =
    none_of (λ n. is_one_of (Operator.left_parenthesis ∷ Operator.negate ∷ Operator.logical_not ∷ []) n || (is_call n && is_bracket x.op)
    || (eqb n Operator.return && is_under_semicolon p)) stated k.op f (rw s refl)
unstated p k (node x xs (node y ys nil)) s f =
    none_of (λ n. is_plain_binary n || (eqb n Operator.conditional_else && is_right_of_question p)
    || (eqb n Operator.assignment && is_under_semicolon p)) stated k.op f (rw s refl)
unstated p k (node x xs (node y ys (node z zs r))) s f = absurd (false≢true f)

module _ (m : ℕ) (h : is_stated m ≡ true) where
  -- Another token adds none of them.
  uses-other : (k : Token) (r : List Token) → is_stated k.op ≡ false → uses (k ∷ r) m ≡ uses r m
  unfolding uses
  uses-other k r o = rw (apart (λ n. not (is_stated n)) k.op m (ap not o) (ap not h), and-false (leb m Operator.host_math_volatile)) refl

  pub operand-unstated : (b : Bool) (k : Token) (cs : Forest) → ((r : List Token) → uses (written k cs r) m ≡ uses r m) → (r : List Token)
      → uses (operand_tokens b k cs (written k cs) r) m ≡ uses r m
  unfolding operand_tokens opener_for closer_for spanning is_one_of any
  operand-unstated true k cs i r = i r
  operand-unstated false k cs i r = uses-other (opener_for k cs) _ refl ∙ i (closer_for k cs ∷ r) ∙ uses-other (closer_for k cs) r refl

  pub written-unstated : (p : Seat) (n : ℕ) (k : Token) (cs : Forest) → PlainExpression p n k cs → is_under_semicolon p ≡ false
      → (r : List Token)
      → uses (written k cs r) m ≡ uses r m
  unfolding unclosed closed_by closer_of spanning is_one_of any
  written-unstated p n k nil e s r =
      let o = unstated p k nil s e.form in
      either (is_bracket k.op)
      (λ b. rw (written_none true k r b) (uses-other (unclosed k) _ o ∙ uses-other (closer_of k) r refl))
      (λ b. rw (written_none false k r b) (uses-other k r o))
  written-unstated p n k (node x xs nil) e s r =
      let o = unstated p k (node x xs nil) s e.form in
      let a = inner k 0 n x xs nil e.other e.below in
      let i : (r : List Token) → uses (written x xs r) m ≡ uses r m =
      written-unstated (seat_under k 0) (suc n) x xs a.0 (other-seat k 0 e.other) in
      either (is_bracket k.op)
      (λ b. rw (written_one true k x xs r b) (uses-other (unclosed k) _ o ∙ i (closer_of k ∷ r) ∙ uses-other (closer_of k) r refl))
      (λ b. rw (written_one false k x xs r b) (uses-other k _ o ∙ operand-unstated (stands_alone x xs) x xs i r))
  written-unstated p n k (node x xs (node y ys nil)) e s r =
      let a = inner k 0 n x xs (node y ys nil) e.other e.below in
      let b = inner k 1 (suc n + size xs) y ys nil e.other a.1 in
      let i : (r : List Token) → uses (written x xs r) m ≡ uses r m =
      written-unstated (seat_under k 0) (suc n) x xs a.0 (other-seat k 0 e.other) in
      let j : (r : List Token) → uses (written y ys r) m ≡ uses r m =
      written-unstated (seat_under k 1) (suc (suc n + size xs)) y ys b.0 (other-seat k 1 e.other) in
      rw (written-two k x xs y ys r)
      (operand-unstated (stands_left k x xs) x xs i _ ∙ uses-other k _ (unstated p k (node x xs (node y ys nil)) s e.form)
      ∙ operand-unstated (stands_right k y ys) y ys j r)
  written-unstated p n k (node x xs (node y ys (node z zs more))) e s r = absurd (false≢true (unfold expression_form in e.form))
