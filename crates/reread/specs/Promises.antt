-- What the functions ask and ensure, by the definition of the three calls (molang's `Reread`).
use Rattle.std.specs.Prelude.{ℕ, ◌≡◌, List}
use Rattle.molang.specs.Parse.{Call, Told, answered, tree_after}
use Rattle.molang.specs.Reread.{Rereading, RereadLeft, reread, Demand3}

-- `write_and_read` is given what some first call told, and its tree buffer as that call left it.
pub record CanGoOn (told : Told) (tree : List ℕ) : Type 0 where
  pub first : Call
  pub says : answered first ≡ told
  pub left : tree ≡ tree_after first

-- THE THREE CALLS: what the caller is told and what each lent buffer holds after them is the definition's; and so demand 3 holds of it.
pub record HasReread (c : Rereading) (l : RereadLeft) : Type 0 where
  pub left : l ≡ reread c
  pub demand3 : Demand3 c l
