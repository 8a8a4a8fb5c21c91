-- Where the run stands between two chunks, and between two words of one.
use Prim.Native.Nat.{ℕ, ◌%◌, ◌≤◌}
use mathlib.Core.{Path.{◌≡◌}, List.{List, ◌++◌}}
use lib.ListN.{length}
use Rattle.liftlists.specs.{declared.step.Stage.{Stage}, Steps.{Fine, held_in}, Going.{FileGoes, yet, PlaceReached}}

-- Between two chunks: what is laid and held is a place that the run reaches.
pub record BetweenChunks (to : ℕ) (list out : List ℕ) (stage : Stage) (at : ℕ) : Type 0 where
  pub laid : at ≤ 147463
  pub fine : Fine stage list
  pub reached : PlaceReached (yet to (held_in stage list) out at)

-- Between two words: the chunk's bytes before those that are left, which are whole words, lead from where the chunk began to here.
pub record BetweenWords (to : ℕ) (here : List ℕ → List ℕ) (chunk left list out : List ℕ) (then : Stage) (end : ℕ) : Type 0 where
  pub came : List ℕ
  pub split : chunk ≡ came ++ left
  pub whole : length left % 4 ≡ 0
  pub outs : length out ≡ 262144
  pub laid : end ≤ 147463
  pub fine : Fine then list
  pub goes : FileGoes here came (yet to (held_in then list) out end)
