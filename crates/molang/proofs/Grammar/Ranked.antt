-- Ranked expressions: what the lists of a well-formed text look like from the first binary pass on. Every operator stands between two
-- operands, that on its left bound at least as tightly, that on its right more tightly. Where conditionals pair to the right, a `?` and a
-- `:`
-- are no such operators.
use Prim.Native.Nat.{ℕ, suc, ◌<◌}
use mathlib.Core.{Path.{◌≡◌}, Bool.{Bool, true, false}}
use lib.Dec.{leb}
use Rattle.molang.specs.Operator
use Rattle.molang.specs.Forest.{Token, Forest, nil, node}

-- A leaf; a node over a list (a section, a call, an array, a prefix, a statement); two lists side by side (statements, a `return` before
-- its
-- operand); an operator between its operands; `c ? t`; `c ? t : e`.
pub data Exp : Type 0 where
  leaf : Token → Exp
  over : Token → Exp → Exp
  beside : Exp → Exp → Exp
  between : Token → Exp → Exp → Exp
  choice : Token → Exp → Exp → Exp
  chosen : Token → Token → Exp → Exp → Exp → Exp

-- The list becomes one node, and every operator of it outside its nodes has the rank m or a higher one.
unfoldable pub is_tight : (ℕ → ℕ) → ℕ → Exp → Bool
is_tight rank m (leaf k) = true
is_tight rank m (over k x) = true
is_tight rank m (beside x y) = false
is_tight rank m (between k x y) = leb m (rank k.op)
is_tight rank m (choice q c t) = leb m (rank q.op)
is_tight rank m (chosen q k c t e) = leb m (rank q.op)

-- Where conditionals pair to the right at rank p: a `:` after the list could not belong to a `?` in it.
unfoldable pub is_closed : (ℕ → ℕ) → ℕ → Exp → Bool
is_closed rank p (leaf k) = true
is_closed rank p (over k x) = true
is_closed rank p (beside x y) = false
is_closed rank p (between k x y) = leb (suc p) (rank k.op)
is_closed rank p (choice q c t) = false
is_closed rank p (chosen q k c t e) = is_closed rank p e

-- Operators have ranks from 1 on, everything else has rank 0; p is the rank of a conditional that pairs to the right, if there is one. What
-- stands beside an operator is bound tightly enough.
abbrev pub Ranked : (ℕ → ℕ) → ℕ → Exp → Type 0
Ranked rank p (leaf k) = rank k.op ≡ 0
Ranked rank p (over k x) = (rank k.op ≡ 0) × Ranked rank p x
Ranked rank p (beside x y) = Ranked rank p x × Ranked rank p y
Ranked rank p (between k x y) =
    (0 < rank k.op) × (rank k.op ≡ p → ⊥) × (is_tight rank (rank k.op) x ≡ true) × (is_tight rank (suc (rank k.op)) y ≡ true)
    × Ranked rank p x × Ranked rank p y
Ranked rank p (choice q c t) =
    (q.op ≡ Operator.conditional) × (rank q.op ≡ p) × (is_tight rank (suc p) c ≡ true) × (is_tight rank p t ≡ true) × Ranked rank p c
    × Ranked rank p t
Ranked rank p (chosen q k c t e) =
    (q.op ≡ Operator.conditional) × (rank q.op ≡ p) × (k.op ≡ Operator.conditional_else) × (rank k.op ≡ p)
    × (is_tight rank (suc p) c ≡ true) × (is_tight rank p t ≡ true) × (is_closed rank p t ≡ true) × (is_tight rank p e ≡ true)
    × Ranked rank p c × Ranked rank p t × Ranked rank p e

-- An operator between its operands: folded, or flat.
unfoldable pub amid : Bool → Token → (Forest → Forest) → (Forest → Forest) → Forest → Forest
amid true k X Y r = node k (X (Y nil)) r
amid false k X Y r = X (node k nil (Y r))

-- The list of an expression, before r, in which the operators of σ are folded and the others stand flat.
unfoldable pub form : (ℕ → Bool) → Exp → Forest → Forest
form σ (leaf k) r = node k nil r
form σ (over k x) r = node k (form σ x nil) r
form σ (beside x y) r = form σ x (form σ y r)
form σ (between k x y) r = amid (σ k.op) k (form σ x) (form σ y) r
form σ (choice q c t) r = amid (σ q.op) q (form σ c) (form σ t) r
form σ (chosen q k c t e) r = amid (σ q.op) q (form σ c) (amid (σ k.op) k (form σ t) (form σ e)) r
