-- What the code's parts come to: a list by what becomes of it, and a word by what is given for it and what is held after it.
use Rattle.std.specs.Prelude.{ℕ, ◌+◌, ◌*◌, ◌≤◌, ◌<◌, ◌≡◌, false, List, [], ◌∷◌, ◌++◌, length, take}
use Rattle.molang.specs.Lift.{Lifted, same, lifted, behind}
use Rattle.text.specs.Text.{Wrote}
use Rattle.lift.specs.Lifting.{LiftTold, stays_same, comes_out, has_messages, stays_behind}
use Rattle.liftlists.specs.declared.judge.Fate.{Fate}
use Rattle.liftlists.specs.declared.judge.Fate.TheVariants.{Same, Lifted as Fate-as-Lifted, Behind}
use Rattle.liftlists.specs.declared.step.Stage.{Stage}
use Rattle.liftlists.specs.declared.step.Stage.TheVariants.{Passing, InList}
use Rattle.liftlists.specs.declared.step.Step.{Step}
use Rattle.liftlists.specs.LiftedFile.{opens_list, bytes_of, lifted_words}

-- ---- A list

-- The fate that the lift tells.
abbrev pub fate_told : LiftTold → Fate
fate_told (stays_same nodes) = Same
fate_told (comes_out count) = Fate-as-Lifted count
fate_told (has_messages records) = Behind
fate_told (stays_behind number place) = Behind

-- The list stays behind, for some reason.
pub record IsBehind (l : Lifted) : Type 0 where
  pub number : ℕ
  pub place : ℕ
  pub is : l ≡ behind number place

-- WHAT BECOMES OF A LIST, by its fate; what comes out stands in front of the output.
abbrev pub HasFate : Lifted → Fate → List ℕ → Type 0
HasFate l Same output = l ≡ same
HasFate l (Fate-as-Lifted count) output = (l ≡ lifted (take (5 * count) output)) × (5 * count ≤ length output)
HasFate l Behind output = IsBehind l

-- ---- A word

-- Words that open no list.
pub data OpenNone : List ℕ → Type 0 where
  none_kept : OpenNone []
  one_kept : {w : ℕ} {words : List ℕ} → opens_list w ≡ false → OpenNone words → OpenNone (w ∷ words)

-- A list that is kept, by its opener and how many words it has: they lie in front of a buffer.
pub record ListHeld (opener n : ℕ) (list : List ℕ) : Type 0 where
  pub version : opener < 65536
  pub few : n ≤ 20480
  pub kept : OpenNone (take n list)

-- What a stage says of the buffer.
abbrev pub Fine : Stage → List ℕ → Type 0
Fine Passing list = Unit {0}
Fine (InList opener n) list = ListHeld opener n list

-- The words that are held: they came, and nothing is given for them yet.
abbrev pub held_in : Stage → List ℕ → List ℕ
held_in Passing list = []
held_in (InList opener n) list = opener ∷ take n list

-- A WORD BEHIND OTHERS THAT ARE HELD: what is given for them is laid behind what was, in at most so many bytes, and what the file gives on
-- the whole is what is given now and what it gives from what is held now on, whatever words follow.
pub record Took (to : ℕ) (before : List ℕ) (w most : ℕ) (out : List ℕ) (at : ℕ) (step : Step) (list out' : List ℕ) : Type 0 where
  pub gave : List ℕ
  pub few : step.at ≤ at + most
  pub wrote : Wrote out at (bytes_of gave) step.at out'
  pub fine : Fine step.stage list
  pub on : (rest : List ℕ) → lifted_words to (before ++ (w ∷ rest)) ≡ gave ++ lifted_words to (held_in step.stage list ++ rest)
