-- What each case of the outcome says, what the functions' parameters are as the definition takes them, and what the functions ask and
-- promise.
use Rattle.std.specs.Prelude.{ℕ, ◌≡◌, List, ℤ, Result, Ok, Err}
use Rattle.molang.specs.Parse.{Call, Told, answered, tree_after}
use Rattle.molang.specs.Lift.{Engine}
use Rattle.lift.specs.declared.Outcome.{Outcome}
use Rattle.lift.specs.declared.Outcome.TheVariants.{Same, Lifted, Messages}
use Rattle.words.specs.Refusals.{reason_number}
use Rattle.words.specs.declared.refusals.Refusal.{Refusal}
use Rattle.lift.specs.Lifting.{LiftCall, Handed, LiftTold, stays_same, comes_out, has_messages, stays_behind, OutputLeft, LiftLeft}
use Rattle.lift.specs.Lifting.{lift_left, tree_left, IsLift}

-- What the caller is told.
abbrev pub lift_told : Result Outcome Refusal → LiftTold
lift_told (Ok (Same nodes)) = stays_same nodes
lift_told (Ok (Lifted tokens)) = comes_out tokens
lift_told (Ok (Messages records)) = has_messages records
lift_told (Err r) = stays_behind (reason_number r.reason) r.place

-- The outcome, and what the output holds.
abbrev pub output_of : Result Outcome Refusal → List ℕ → OutputLeft
output_of r output = record { told = lift_told r; output = output }

-- The outcome, and what each buffer holds.
abbrev pub left_of : Result Outcome Refusal → List ℕ → List ℕ → List ℕ → List ℕ → LiftLeft
left_of r again messages work output = record { told = lift_told r; again = again; messages = messages; work = work; output = output }

-- An engine, by its parts.
abbrev pub engine : ℤ → ℕ → Engine
engine version limit = record { version = version; limit = limit }

-- What `after_first` is lent and given.
abbrev pub handed_of : List ℕ → List ℕ → List ℕ → List ℕ → List ℕ → List ℕ → Engine → Handed
handed_of list tree again messages work output to =
    record { list = list; tree = tree; again = again; messages = messages; work = work; output = output; to = to }

-- What `lift` is lent and given, in the order of its parameters.
abbrev pub lift_call : List ℕ → List ℕ → List ℕ → List ℕ → List ℕ → List ℕ → Engine → Engine → LiftCall
lift_call list tree again messages work output from to =
    record { list = list; tree = tree; again = again; messages = messages; work = work; output = output; from = from; to = to }

-- A reading told this and left its tree buffer so.
pub record WasRead (told : Told) (tree : List ℕ) : Type 0 where
  pub call : Call
  pub says : answered call ≡ told
  pub left : tree ≡ tree_after call

-- THE LIFT'S PROMISE: what the caller is told, and what each lent buffer holds after the call; and that this is the definition's lift.
pub record HasLifted (c : LiftCall) (r : Result Outcome Refusal) (tree' again' messages' work' output' : List ℕ) : Type 0 where
  pub left : left_of r again' messages' work' output' ≡ lift_left c
  pub tree : tree' ≡ tree_left c
  pub lift : IsLift c (lift_told r) output'
