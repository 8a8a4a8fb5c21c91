-- The exports of an open list: the held numbers as they are lent, what a version change comes to as a number, and THE PROMISE OF EACH.
use Rattle.std.specs.Prelude.{ℕ, ◌≡◌, List, ℤ}
use Rattle.std.proofs.Math.Option.{Option, none, some}
use Rattle.molang.specs.Words.{Refusal}
use Rattle.held.specs.declared.Held.{Held}
use Rattle.held.specs.Held.{State, Edit, Lent, open_refusal, open_left, ask_left, commit_left, opened, committed, count_row, with_version}
use Rattle.held.specs.Held.{adopted}
use Rattle.held.specs.Answers.{AdoptOutcome, changes, is_refused, adopt_outcome, open_slice}
use Rattle.sorbrudder.specs.Numbers.{packed, told_number}

-- The held numbers, each of which is lent by itself.
abbrev pub held_of : ℕ → ℤ → ℕ → Held
held_of tokens version edits = record { tokens = tokens; version = version; edits = edits }

-- The held numbers after an opening: a refused one leaves them as they were.
unfoldable pub open_held : Option Refusal → Held → Held → Held
open_held none before held = held
open_held (some r) before held = before

-- The answer of a version change as a number.
abbrev pub adopt_number : AdoptOutcome → ℕ
adopt_number (changes held) = packed 0 0 0
adopt_number (is_refused number) = packed 2 number 0

-- THE PROMISE OF `sorbrudder_open`.
pub record HasOpenedTo (before : Held) (words list : List ℕ) (l : Lent) (version : ℤ) (number : ℕ) (after : Held)
    (slice' tree' messages' work' : List ℕ) : Type 0 where
  pub told : number ≡ told_number (open_left words list l version).told
  pub held : after ≡ open_held (open_refusal words list l version) before (opened words list version).held
  pub slice : slice' ≡ open_slice words list l version
  pub tree : tree' ≡ (open_left words list l version).tree
  pub messages : messages' ≡ (open_left words list l version).messages
  pub work : work' ≡ (open_left words list l version).work

-- THE PROMISE OF `sorbrudder_ask`, which has the slice to read only.
pub record HasAskedTo (s : State) (e : Edit) (l : Lent) (number : ℕ) (tree' messages' work' : List ℕ) : Type 0 where
  pub told : number ≡ told_number (ask_left s e l).told
  pub tree : tree' ≡ (ask_left s e l).tree
  pub messages : messages' ≡ (ask_left s e l).messages
  pub work : work' ≡ (ask_left s e l).work

-- THE PROMISE OF `sorbrudder_commit`.
pub record HasCommittedTo (s : State) (seen : ℕ) (e : Edit) (l : Lent) (number : ℕ) (after : State) (tree' messages' work' : List ℕ)
    : Type 0 where
  pub told : number ≡ told_number (commit_left s seen e l).told
  pub state : after ≡ committed s seen e l
  pub tree : tree' ≡ (commit_left s seen e l).tree
  pub messages : messages' ≡ (commit_left s seen e l).messages
  pub work : work' ≡ (commit_left s seen e l).work

-- THE PROMISE OF `sorbrudder_adopt`.
pub record HasAdoptedTo (before : Held) (to : ℤ) (number : ℕ) (after : Held) : Type 0 where
  pub told : number ≡ adopt_number (adopt_outcome (count_row before) (with_version before to))
  pub held : after ≡ adopted before to
