-- What each case of the answers says, and THE PROMISE OF EACH FUNCTION: what is told, what is held after it, and what each lent slice
-- holds.
use Rattle.std.specs.Prelude.{ℕ, ◌≡◌, List, ℤ, Result, Ok, Err}
use Rattle.std.proofs.Math.Option.{Option, none, some}
use Rattle.molang.specs.Words.{Refusal}
use Rattle.molang.specs.Parse.{Told}
use Rattle.words.specs.Refusals.{reason_number}
use Rattle.words.specs.declared.refusals.Refusal as code
use Rattle.parse.specs.declared.Answer.{Answer}
use Rattle.parse.specs.Answers.{told_of}
use Rattle.held.specs.declared.Held.{Held}
use Rattle.held.specs.declared.Change.{Change}
use Rattle.held.specs.Held.{State, Edit, Lent, open_refusal, commit_refusal, open_left, ask_left, commit_left, opened, with_edit}
use Rattle.held.specs.Held.{committed}

-- What an opening or a commit comes to: what is told, with the held numbers after it, or a refusal's number and place.
pub data Outcome : Type 0 where
  holds : Told → Held → Outcome
  turned_back : ℕ → ℕ → Outcome

-- The answer of `open_list` and `commit_edit`.
abbrev pub outcome_of : Result Change code.Refusal → Outcome
outcome_of (Ok change) = holds (told_of (Ok change.answer)) change.held
outcome_of (Err r) = turned_back (reason_number r.reason) r.place

-- By where the call is turned back.
unfoldable pub outcome : Option Refusal → Told → Held → Outcome
outcome none told held = holds told held
outcome (some r) told held = turned_back r.number r.place

-- What a version change comes to: the held numbers after it, or a refusal's number.
pub data AdoptOutcome : Type 0 where
  changes : Held → AdoptOutcome
  is_refused : ℕ → AdoptOutcome

-- The answer of `adopt_version`.
abbrev pub adopt_of : Result Held code.Refusal → AdoptOutcome
adopt_of (Ok held) = changes held
adopt_of (Err r) = is_refused (reason_number r.reason)

-- By where it is turned back.
unfoldable pub adopt_outcome : Option Refusal → Held → AdoptOutcome
adopt_outcome none held = changes held
adopt_outcome (some r) held = is_refused r.number

-- What a reading is lent, in the order of the parameters.
abbrev pub lent : List ℕ → List ℕ → List ℕ → ℕ → Lent
lent tree messages work limit = record { tree = tree; messages = messages; work = work; limit = limit }

-- An edit, in the order of the parameters.
abbrev pub edit : ℕ → ℕ → List ℕ → Edit
edit place removed put = record { place = place; removed = removed; put = put }

-- A state: the held numbers and the slice for the words.
abbrev pub state : Held → List ℕ → State
state held slice = record { held = held; slice = slice }

-- The slice after an opening: a refused one leaves it as it was.
unfoldable pub open_slice : List ℕ → List ℕ → Lent → ℤ → List ℕ
open_slice slice list l version = elim (open_refusal slice list l version) [ some r ↦ slice | none ↦ (opened slice list version).slice ]

-- THE PROMISE OF `open_list`.
pub record HasOpened (before list : List ℕ) (l : Lent) (version : ℤ) (r : Result Change code.Refusal) (slice' tree' messages' work' : List ℕ) : Type 0 where
  pub outcomes : outcome_of r
      ≡ outcome (open_refusal before list l version) (open_left before list l version).told (opened before list version).held
  pub slice : slice' ≡ open_slice before list l version
  pub tree : tree' ≡ (open_left before list l version).tree
  pub messages : messages' ≡ (open_left before list l version).messages
  pub work : work' ≡ (open_left before list l version).work

-- THE PROMISE OF `ask_edit`, which has the slice to read only.
pub record HasAsked (s : State) (e : Edit) (l : Lent) (r : Result Answer code.Refusal) (tree' messages' work' : List ℕ) : Type 0 where
  pub told : told_of r ≡ (ask_left s e l).told
  pub tree : tree' ≡ (ask_left s e l).tree
  pub messages : messages' ≡ (ask_left s e l).messages
  pub work : work' ≡ (ask_left s e l).work

-- THE PROMISE OF `commit_edit`.
pub record HasCommitted (s : State) (seen : ℕ) (e : Edit) (l : Lent) (r : Result Change code.Refusal) (slice' tree' messages' work' : List ℕ) : Type 0 where
  pub outcomes : outcome_of r ≡ outcome (commit_refusal s seen e l) (commit_left s seen e l).told (with_edit s e).held
  pub slice : slice' ≡ (committed s seen e l).slice
  pub tree : tree' ≡ (commit_left s seen e l).tree
  pub messages : messages' ≡ (commit_left s seen e l).messages
  pub work : work' ≡ (commit_left s seen e l).work
