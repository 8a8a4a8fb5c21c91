-- The count of open brackets is the definition's: for as long as the section walk goes on, as many sections are open as `open_after` says.
use Prim.Native.Nat.{ℕ, suc, ◌+◌, ◌-◌}
use mathlib.Core.{Path.{◌≡◌, refl, subst}, Bool.{Bool, true, false}, Option.{Option, none, some}}
use native.Mathlib.Omega.{arith}
use lib.Dec.{eqb}
use Rattle.molang.specs.{Operator.{closing_of, is_closer}, Forest.{Token, Forest, nil, in_order, closed_by}, Message.{closer}}
use Rattle.molang.specs.{Sections.{Open, outside, section, placed, Walked, going, mismatch, closing, bracket}, Nesting.{open_after}}
use Rattle.molang.proofs.Trees.{either}

-- How many sections are open.
unfoldable pub depth_of : Open → ℕ
depth_of (outside d) = 0
depth_of (section o i d s) = suc (depth_of s)

-- If the walk goes on, n sections are open.
abbrev Leaves : ℕ → Walked → Type 0
Leaves n (going t) = depth_of t ≡ n
Leaves n (mismatch m) = Unit {0}

placed-depth : (k : Token) (cs : Forest) (s : Open) → depth_of (placed k cs s) ≡ depth_of s
unfolding depth_of placed
placed-depth k cs (outside d) = refl
placed-depth k cs (section o i d s) = refl

closing-depth : (k : Token) (cs : Forest) (i : ℕ) (s : Open) → Leaves (depth_of s - 1) (closing k cs i s)
unfolding depth_of closing
closing-depth k cs i (outside d) = refl
closing-depth k cs i (section o j d s) =
    either (Leaves (suc (depth_of s) - 1)) (eqb (closer o) k.op) _ _ (omega (arith, placed-depth (closed_by k o) (in_order d) s)) tt

bracket-leaves : (k : Token) (cs : Forest) (i : ℕ) (s : Open) → Leaves (open_after (depth_of s) k.op) (bracket k cs i s)
unfolding open_after bracket depth_of
bracket-leaves k cs i s = choice (closing_of k.op) (is_closer k.op)
  where
    choice : (o : Option ℕ) (b : Bool)
        → Leaves (elim o [ some c ↦ suc (depth_of s) | none ↦ elim b [ true ↦ depth_of s - 1 | false ↦ depth_of s ] ])
        (elim o [ some c ↦ going (section k (i + 1) nil s) | none ↦ elim b [ true ↦ closing k cs i s | false ↦ going (placed k cs s) ] ])
    choice (some c) b = refl
    choice none true = closing-depth k cs i s
    choice none false = placed-depth k cs s

-- An opener adds one section, a closer takes one unless none is open, and anything else leaves them.
pub bracket-depth : (k : Token) (cs : Forest) (i : ℕ) (s t : Open) → bracket k cs i s ≡ going t
    → depth_of t ≡ open_after (depth_of s) k.op
bracket-depth k cs i s t e = subst (Leaves (open_after (depth_of s) k.op)) e (bracket-leaves k cs i s)
