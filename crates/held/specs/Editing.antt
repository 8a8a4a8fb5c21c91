-- What the functions under the four ask and promise: faults, and the list with an edit made.
use Rattle.std.specs.Prelude.{ℕ, suc, ◌+◌, ◌*◌, ◌-◌, ◌/◌, ◌%◌, ◌≤◌, ◌<◌, List, [], ◌∷◌, ◌≡◌, length}
use Rattle.std.proofs.Math.Option.{Option}
use Rattle.molang.specs.FirstFailure.{first_of}
use Rattle.molang.specs.Words.{Refusal}
use Rattle.held.specs.declared.Held.{Held}
use Rattle.held.specs.Held.{State, Edit, slice_row, claim_row, seen_row, edit_row, count_row, edited}
use Rattle.held.specs.Answers.{state, edit}

-- Answers 15 and 2.
unfoldable pub claim_fault : State → Option Refusal
claim_fault s = first_of (slice_row s.slice ∷ claim_row s ∷ [])

-- Answer 22, which looks at the count of tokens, at the place and at how many are removed.
unfoldable pub edit_fault : Held → ℕ → ℕ → Option Refusal
edit_fault h place removed = edit_row (state h []) (edit place removed [])

-- Answers 15, 2 and 22.
unfoldable pub ask_fault : State → ℕ → ℕ → Option Refusal
ask_fault s place removed = first_of (claim_fault s ∷ edit_fault s.held place removed ∷ [])

-- Answers 15, 2, 21, 22 and 23.
unfoldable pub commit_fault : State → ℕ → ℕ → ℕ → Option Refusal
commit_fault s seen place removed =
    first_of (claim_fault s ∷ seen_row s seen ∷ edit_fault s.held place removed ∷ count_row s.held ∷ [])

-- An edit within a list, and room for the list that it makes.
pub record CanSplice (new list : List ℕ) (e : Edit) : Type 0 where
  pub within : 5 * (e.place + e.removed) ≤ length list
  pub room : length (edited e list) ≤ length new

-- An edit within a list of whole tokens, of which there are at most 4,096, and an array for that many.
pub record CanEdit (new list : List ℕ) (e : Edit) : Type 0 where
  pub within : 5 * (e.place + e.removed) ≤ length list
  pub whole : length list % 5 ≡ 0
  pub few : length list ≤ 20480
  pub room : length new ≡ 20480

-- What a commit's own rows leave of the held numbers: few tokens, as many as are removed, and a next edit count.
pub record CanCount (h : Held) (removed : ℕ) : Type 0 where
  pub few : h.tokens ≤ 4096
  pub within : removed ≤ h.tokens
  pub next : h.edits < 4294967295

-- The held numbers with an edit made that removes so many tokens and puts in so many words.
unfoldable pub counted : Held → ℕ → ℕ → Held
counted h removed words = record { tokens = h.tokens - removed + words / 5; version = h.version; edits = suc h.edits }
