-- Calls of the functions one after another, each getting the held numbers and the slice as the last one left them: by what they promise,
-- whatever they answered.
use Rattle.std.specs.Prelude.{ℕ, ◌≡◌, List, [], ◌∷◌, ℤ, Result}
use Rattle.molang.specs.Parse.{Told, refused}
use Rattle.parse.specs.declared.Answer.{Answer}
use Rattle.held.specs.declared.Held.{Held}
use Rattle.held.specs.declared.Change.{Change}
use Rattle.words.specs.declared.refusals.Refusal as code
use Rattle.held.specs.Held.{State, Edit, Lent, Left, Act, asks, commits, adopts, count_row, with_version}
use Rattle.held.specs.Answers.{Outcome, holds, turned_back, AdoptOutcome, changes, is_refused, outcome_of, adopt_of, adopt_outcome, state}
use Rattle.held.specs.Answers.{HasAsked, HasCommitted}

-- What is told by an outcome.
abbrev pub told_by : Outcome → Told
told_by (holds told held) = told
told_by (turned_back number place) = refused number place

-- What a function tells and leaves in the lent buffers.
abbrev pub left : Told → List ℕ → List ℕ → List ℕ → Left
left told tree messages work = record { told = told; tree = tree; messages = messages; work = work }

-- The held numbers that the caller has after it, `before` being those before it.
abbrev pub held_by : Outcome → Held → Held
held_by (holds told held) before = held
held_by (turned_back number place) before = before

-- Those after a version change.
abbrev pub held_by_adopting : AdoptOutcome → Held → Held
held_by_adopting (changes held) before = held
held_by_adopting (is_refused number) before = before

-- THE CALLS OF A SEQUENCE, from a state to a state.
pub data Ran : State → List Act → State → Type 0 where
  ends : (s : State) → Ran s [] s
  then_asks : (s : State) (e : Edit) (l : Lent) (r : Result Answer code.Refusal) (tree' messages' work' : List ℕ) → HasAsked s e l r tree' messages' work'
      → {later : List Act} {last : State} → Ran s later last
      → Ran s (asks e l ∷ later) last
  then_commits : (s : State) (seen : ℕ) (e : Edit) (l : Lent) (r : Result Change code.Refusal) (slice' tree' messages' work' : List ℕ)
      → HasCommitted s seen e l r slice' tree' messages' work'
      → {later : List Act} {last : State} → Ran (state (held_by (outcome_of r) s.held) slice') later last
      → Ran s (commits seen e l ∷ later) last
  then_adopts : (s : State) (version : ℤ) (r : Result Held code.Refusal) → adopt_of r ≡ adopt_outcome (count_row s.held) (with_version s.held version)
      → {later : List Act} {last : State} → Ran (state (held_by_adopting (adopt_of r) s.held) s.slice) later last
      → Ran s (adopts version ∷ later) last
