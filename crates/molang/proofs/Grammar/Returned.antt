-- What the return pass finds and leaves: everything else is folded.
use Prim.Native.Nat.{ℕ}
use mathlib.Core.{Path.{◌≡◌}, Bool.{Bool, true, false}}
use lib.Dec.{eqb}
use Rattle.molang.specs.Operator
use Rattle.molang.specs.Forest.{Token, Forest, nil, node}
use Rattle.molang.proofs.Grammar.Ranked.{Exp, leaf, over, beside, between, choice, chosen, is_tight, amid}

-- A `return` token.
unfoldable pub is_return_leaf : Exp → Bool
is_return_leaf (leaf k) = eqb k.op Operator.return
is_return_leaf (over k x) = false
is_return_leaf (beside x y) = false
is_return_leaf (between k x y) = false
is_return_leaf (choice q c t) = false
is_return_leaf (chosen q k c t e) = false

unfoldable pub label_of : Exp → Token
label_of (leaf k) = k
label_of (over k x) = k
label_of (beside x y) = label_of x
label_of (between k x y) = k
label_of (choice q c t) = q
label_of (chosen q k c t e) = q

-- A `return` over what follows it, or two lists side by side.
unfoldable pub returning : Bool → Token → (Forest → Forest) → (Forest → Forest) → Forest → Forest
returning true k X Y r = node k (Y nil) r
returning false k X Y r = X (Y r)

-- The list of an expression, before r, in which a `return` holds what follows it.
unfoldable pub returned : (ℕ → Bool) → Exp → Forest → Forest
returned σ (leaf k) r = node k nil r
returned σ (over k x) r = node k (returned σ x nil) r
returned σ (beside x y) r = returning (is_return_leaf x) (label_of x) (returned σ x) (returned σ y) r
returned σ (between k x y) r = amid (σ k.op) k (returned σ x) (returned σ y) r
returned σ (choice q c t) r = amid (σ q.op) q (returned σ c) (returned σ t) r
returned σ (chosen q k c t e) r = amid (σ q.op) q (returned σ c) (amid (σ k.op) k (returned σ t) (returned σ e)) r

-- No `return` in it.
abbrev pub Returnless : Exp → Type 0
Returnless (leaf k) = eqb k.op Operator.return ≡ false
Returnless (over k x) = (eqb k.op Operator.return ≡ false) × Returnless x
Returnless (beside x y) = Returnless x × Returnless y
Returnless (between k x y) = (eqb k.op Operator.return ≡ false) × Returnless x × Returnless y
Returnless (choice q c t) = (eqb q.op Operator.return ≡ false) × Returnless c × Returnless t
Returnless (chosen q k c t e) = (eqb q.op Operator.return ≡ false) × (eqb k.op Operator.return ≡ false) × Returnless c × Returnless t
    × Returnless e

-- A `return` stands before one operand, in which there is none.
abbrev pub Once : Bool → (ℕ → ℕ) → Exp → Type 0 → Type 0 → Type 0
Once true rank y A B = (is_tight rank 1 y ≡ true) × Returnless y
Once false rank y A B = A × B

abbrev pub Returning : (ℕ → ℕ) → Exp → Type 0
Returning rank (leaf k) = eqb k.op Operator.return ≡ false
Returning rank (over k x) = (eqb k.op Operator.return ≡ false) × Returning rank x
Returning rank (beside x y) = Once (is_return_leaf x) rank y (Returning rank x) (Returning rank y)
Returning rank (between k x y) = (eqb k.op Operator.return ≡ false) × Returning rank x × Returning rank y
Returning rank (choice q c t) = (eqb q.op Operator.return ≡ false) × Returning rank c × Returning rank t
Returning rank (chosen q k c t e) =
    (eqb q.op Operator.return ≡ false) × (eqb k.op Operator.return ≡ false) × Returning rank c × Returning rank t × Returning rank e
