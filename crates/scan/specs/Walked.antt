-- What each answer of `walk` says.
use Rattle.std.specs.Prelude.{ℕ, ◌≡◌, Bool, List, Option, Some, None, ℤ}
use Rattle.scan.specs.Walk.{TreeRead}

-- A tree is read; or the tree buffer is as it was.
abbrev pub HasWalked : List ℕ → (ℕ → Bool) → ℤ → List ℕ → List ℕ → Option ℕ → Type 0
HasWalked list used version tree tree' (Some nodes) = TreeRead list used version tree nodes tree'
HasWalked list used version tree tree' None = tree' ≡ tree
