-- A pass that may be left out. A pass whose tokens are nowhere in the list is not run, and the result is the same as if it had run.
use Rattle.std.specs.Prelude.{◌≡◌, List, ℕ, Option, None, Some, Result, Ok}
use Rattle.levels.specs.declared.failure.Failure.{Failure}
use Rattle.levels.specs.declared.turns.Pass.{Pass}
use Rattle.grouping.specs.Driver.{CanRun, HasRun}

-- What a choice asks: what its pass asks.
abbrev pub CanChoose : List ℕ → ℕ → ℕ → Option Pass → Type 0
CanChoose W base n (Some p) = CanRun W base n p
CanChoose W base n None = Unit {0}

-- What a choice comes to: what its pass leaves, or nothing.
abbrev pub Chosen : List ℕ → ℕ → ℕ → Option Pass → Result ℕ Failure → List ℕ → Type 0
Chosen W base n (Some p) r W' = HasRun W base n p r W'
Chosen W base n None r W' = (r ≡ Ok n) × (W' ≡ W)
