-- THE PREMISES OF CARD 11 CAN BE MET: an opening, calls after it, and an ask and a commit of the same edit, computed. The list is a script
-- with a host's leaf, the author's bracket, `sin ( )`, a start above its end and payloads on both semicolons; the slice for the words and
-- the lent buffers have no word to spare; the two lent sets hold other words; the version changes in between.
use Prim.Native.Nat.{ℕ, ◌+◌}
use mathlib.Core.{Path.{◌≡◌, refl}, List.{List, [], ◌∷◌}, Option.{none, some}}
use lib.{IntN.{pos}, ListN.{length, replicate}}
use Rattle.molang.{specs.Forest.{Token}, specs.Words.{row, list_words}, proofs.Computed.{computed}}
use Rattle.derived.specs.Derived.{names, named, end_after, highest}
use Rattle.own.specs.Own.{named_call, own_call}
use Rattle.held.specs.Held.{State, Edit, Lent, held_list, edited, slice_row, claim_row, seen_row, edit_row, count_row, lent_call, edit_call}
use Rattle.held.specs.Held.{open_refusal, commit_refusal, ask_left, commit_left, opened, with_edit, committed, with_version, adopted, Act}
use Rattle.held.specs.{Held.{asks, commits, adopts, stepped, after, edits_made, version_set}, Histories.{nothing, SameLent, AsAsked}}
use Rattle.held.proofs.History.{words-held, as-asked}

-- A token without a payload, and one with.
abbrev at : ℕ → ℕ → Token
at o i = record { op = o; variant = 0; value = 0; start = i; end = i + 1; close = i + 1 }

abbrev carrying : ℕ → ℕ → ℕ → ℕ → ℕ → Token
carrying o variant value start end = record { op = o; variant = variant; value = value; start = start; end = end; close = end }

-- `v = ( a + 300 ) * sin ( ) ; return a ;`, of 15 tokens.
list : List ℕ
list =
    list_words
    (carrying 44 5 1 0 1 ∷ at 71 1 ∷ at 4 2 ∷ carrying 61 1 1065353216 9 3 ∷ at 9 4 ∷ carrying 300 12 70001 5 6 ∷ at 5 6 ∷ at 31 7
    ∷ at 36 8 ∷ at 4 9 ∷ at 5 10 ∷ carrying 73 3 70000 11 12 ∷ at 74 12 ∷ at 61 13 ∷ carrying 73 12 7 14 15 ∷ [])

-- Just the slice that is asked for, and buffers for 15 tokens.
slice : List ℕ
slice = replicate 20480 9

abbrev lent : ℕ → Lent
lent word = record { tree = replicate 315 word; messages = replicate 16 word; work = replicate 1024 word; limit = 1 }

-- The host is replaced by another one.
edit : Edit
edit = record { place = 5; removed = 1; put = list_words (carrying 301 2 9 5 6 ∷ []) }

-- `unfolding calls` opens every definition of a call and of what it leads to.
readings : Unit {0}
unfolding computed names named end_after highest named_call own_call list slice edit
readings = tt

rows : Unit {0}
unfolding readings held_list edited slice_row claim_row seen_row edit_row count_row lent_call edit_call open_refusal commit_refusal
rows = tt

calls : Unit {0}
unfolding rows opened with_edit committed with_version adopted stepped after edits_made version_set nothing
calls = tt

open-accepted : open_refusal slice list (lent 1) (pos 4) ≡ none
open-accepted = unfold calls in refl

-- The list is opened at 4, and the version rises to 6; then an ask, a commit that names an old edit count, and the commit.
asked : State
asked = stepped (opened slice list (pos 4)) (adopts (pos 6))

abbrev between : List Act
between = asks nothing (lent 2) ∷ commits 0 edit (lent 2) ∷ []

seen : 1 ≡ asked.held.edits
seen = unfold calls asked in refl

same-work : length (lent 1).work ≡ length (lent 3).work
same-work = refl

same-lent : SameLent (lent 1) (lent 3)
same-lent = search same-work

commit-accepted : commit_refusal (after asked between) 1 edit (lent 3) ≡ none
commit-accepted = unfold calls asked in refl

old-count : commit_refusal asked 0 edit (lent 2) ≡ some (row 21 0)
old-count = unfold calls asked in refl

-- What card 11 then says: the commit answers as asked, the words are those with the edit made, and nothing is answered as reading afresh.
answers : AsAsked (ask_left asked edit (lent 1)) (commit_left (after asked between) 1 edit (lent 3))
answers = as-asked asked edit (lent 1) between 1 (lent 3) seen same-lent commit-accepted

abbrev all : List Act
all = adopts (pos 6) ∷ asks nothing (lent 2) ∷ commits 0 edit (lent 2) ∷ commits 1 edit (lent 3) ∷ []

words : held_list (after (opened slice list (pos 4)) all) ≡ edited edit list
words = unfold calls in words-held slice list (lent 1) (pos 4) open-accepted all

version : version_set (opened slice list (pos 4)) all (pos 4) ≡ pos 6
version = unfold calls in refl
