-- An open list (document 02, card 11): what is held, when each call is turned back, what it answers, what it leaves, and any sequence of
-- calls from an opening on.
use Rattle.std.specs.Prelude.{ℕ, suc, ◌+◌, ◌*◌, ◌-◌, ◌/◌, ◌&&◌, List, [], ◌∷◌, ◌++◌, eqb, leb, ltb, ℤ, length, take, drop}
use Rattle.std.proofs.Math.Option.{Option, none, some}
use Rattle.molang.specs.FirstFailure.{must, first_of}
use Rattle.molang.specs.Words.{Refusal, row}
use Rattle.molang.specs.Parse.{Call, Told, most_tokens, refusal, reading, told, in_front, tree_in, messages_in, work_in}
use Rattle.own.specs.Own.{own_call}
use Rattle.held.specs.declared.Held.{Held}

-- What is held: three numbers, and the words in front of a slice.
pub record State : Type 0 where
  pub held : Held
  pub slice : List ℕ

-- An edit: from a token on, so many tokens are removed, and words are put in.
pub record Edit : Type 0 where
  pub place : ℕ
  pub removed : ℕ
  pub put : List ℕ

-- What a reading is lent, and its nesting limit.
pub record Lent : Type 0 where
  pub tree : List ℕ
  pub messages : List ℕ
  pub work : List ℕ
  pub limit : ℕ

-- The held words.
unfoldable pub held_list : State → List ℕ
held_list s = take (5 * s.held.tokens) s.slice

-- THE EDIT of a list.
unfoldable pub edited : Edit → List ℕ → List ℕ
edited e words = take (5 * e.place) words ++ (e.put ++ drop (5 * (e.place + e.removed)) words)

-- ---- When a call is turned back before the entry's own checks

-- Answer 15: the slice for the words has fewer than 20,480.
unfoldable pub slice_row : List ℕ → Option Refusal
slice_row slice = must (leb 20480 (length slice)) (row 15 0)

-- Answer 2: the state claims more than 4,096 tokens.
unfoldable pub claim_row : State → Option Refusal
claim_row s = must (leb s.held.tokens most_tokens) (row 2 0)

-- Answer 21: another edit count than the one seen.
unfoldable pub seen_row : State → ℕ → Option Refusal
seen_row s seen = must (eqb seen s.held.edits) (row 21 0)

-- Answer 22: place or removal past the end.
unfoldable pub edit_row : State → Edit → Option Refusal
edit_row s e = must (leb e.place s.held.tokens && leb e.removed (s.held.tokens - e.place)) (row 22 0)

-- Answer 23: the edit count has no next one.
unfoldable pub count_row : Held → Option Refusal
count_row h = must (ltb h.edits 4294967295) (row 23 0)

-- ---- What a call comes to

-- The call of the entry for a list, at its own used set and source length.
unfoldable pub lent_call : List ℕ → Lent → ℤ → Call
lent_call list l version = own_call list l.tree l.messages l.work version l.limit

-- The call that reads the held list with an edit made.
unfoldable pub edit_call : State → Edit → Lent → Call
edit_call s e l = lent_call (edited e (held_list s)) l s.held.version

-- What a call is told and leaves in the lent buffers, by where it is turned back and by the entry's call.
pub record Left : Type 0 where
  pub told : Told
  pub tree : List ℕ
  pub messages : List ℕ
  pub work : List ℕ

-- As the entry leaves them.
unfoldable pub left_by : Option Refusal → Call → Left
left_by fault c =
    record {
      told = told fault (reading c);
      tree = tree_in fault (reading c) c.tree;
      messages = messages_in fault (reading c) c.messages;
      work = work_in fault c.work;
    }

-- WHERE AN OPENING is turned back: 15, then as the entry turns the list back.
unfoldable pub open_refusal : List ℕ → List ℕ → Lent → ℤ → Option Refusal
open_refusal slice list l version = first_of (slice_row slice ∷ refusal (lent_call list l version) ∷ [])

-- WHERE AN ASK is: 15, 2, 22, then as the entry turns the new list back.
unfoldable pub ask_refusal : State → Edit → Lent → Option Refusal
ask_refusal s e l = first_of (slice_row s.slice ∷ claim_row s ∷ edit_row s e ∷ refusal (edit_call s e l) ∷ [])

-- WHERE A COMMIT is: 15, 2, 21, 22, 23, then as the entry turns the new list back.
unfoldable pub commit_refusal : State → ℕ → Edit → Lent → Option Refusal
commit_refusal s seen e l =
    first_of
    (slice_row s.slice ∷ claim_row s ∷ seen_row s seen ∷ edit_row s e ∷ count_row s.held ∷ refusal (edit_call s e l) ∷ [])

-- WHAT AN OPENING is told and leaves.
unfoldable pub open_left : List ℕ → List ℕ → Lent → ℤ → Left
open_left slice list l version = left_by (open_refusal slice list l version) (lent_call list l version)

-- WHAT AN ASK is told and leaves.
unfoldable pub ask_left : State → Edit → Lent → Left
ask_left s e l = left_by (ask_refusal s e l) (edit_call s e l)

-- WHAT A COMMIT is told and leaves.
unfoldable pub commit_left : State → ℕ → Edit → Lent → Left
commit_left s seen e l = left_by (commit_refusal s seen e l) (edit_call s e l)

-- ---- What is held after it

-- A list as it is opened at a version: the edit count starts at 0, and words past the list are unchanged.
unfoldable pub opened : List ℕ → List ℕ → ℤ → State
opened slice list version = record { held = record { tokens = length list / 5; version = version; edits = 0 }; slice = in_front list slice }

-- THE STATE after an opening; there is none if it is turned back.
unfoldable pub open_state : List ℕ → List ℕ → Lent → ℤ → Option State
open_state slice list l version = elim (open_refusal slice list l version) [ some r ↦ none | none ↦ some (opened slice list version) ]

-- The state with an edit made.
unfoldable pub with_edit : State → Edit → State
with_edit s e =
    let new = edited e (held_list s) in
    record {
      held = record { tokens = length new / 5; version = s.held.version; edits = suc s.held.edits };
      slice = in_front new s.slice;
    }

-- THE STATE after a commit.
unfoldable pub committed : State → ℕ → Edit → Lent → State
committed s seen e l = elim (commit_refusal s seen e l) [ some r ↦ s | none ↦ with_edit s e ]

-- The held numbers with another version.
unfoldable pub with_version : Held → ℤ → Held
with_version h version = record { tokens = h.tokens; version = version; edits = suc h.edits }

-- THE HELD NUMBERS after a version change, which takes no slice.
unfoldable pub adopted : Held → ℤ → Held
adopted h version = elim (count_row h) [ some r ↦ h | none ↦ with_version h version ]

-- ---- Any sequence of calls

-- A call after the opening.
pub data Act : Type 0 where
  asks : Edit → Lent → Act
  commits : ℕ → Edit → Lent → Act
  adopts : ℤ → Act

-- The state after it.
unfoldable pub stepped : State → Act → State
stepped s (asks e l) = s
stepped s (commits seen e l) = committed s seen e l
stepped s (adopts version) = record { held = adopted s.held version; slice = s.slice }

-- THE STATE after a sequence of calls, each of which gets it as the last one left it.
unfoldable pub after : State → List Act → State
after s [] = s
after s (a ∷ later) = after (stepped s a) later

-- THE OPENED WORDS with the accepted edits made in order.
unfoldable pub edits_made : State → List Act → List ℕ → List ℕ
edits_made s [] words = words
edits_made s (asks e l ∷ later) words = edits_made s later words
edits_made s (commits seen e l ∷ later) words =
    edits_made (committed s seen e l) later (elim (commit_refusal s seen e l) [ some r ↦ words | none ↦ edited e words ])
edits_made s (adopts version ∷ later) words = edits_made (stepped s (adopts version)) later words

-- THE VERSION LAST SET, `now` being the one before.
unfoldable pub version_set : State → List Act → ℤ → ℤ
version_set s [] now = now
version_set s (asks e l ∷ later) now = version_set s later now
version_set s (commits seen e l ∷ later) now = version_set (committed s seen e l) later now
version_set s (adopts version ∷ later) now =
    version_set (stepped s (adopts version)) later (elim (count_row s.held) [ some r ↦ now | none ↦ version ])
