-- Where an ask or a commit is turned back before the new list is looked at, row by row; what an edit has that these rows let through; and
-- that the definition's rows are these and then the entry's. Assumes nothing.
use Prim.Native.Nat.{ℕ, ◌-◌, ◌≤◌, ◌<◌}
use mathlib.Core.{Bool.{Bool, true, false}, Path.{◌≡◌, refl, ap, sym, ◌∙◌}, List.{List, [], ◌∷◌}, Option.{Option, none, some}}
use lib.{Dec.{ltb}, ListN.{length}}
use borrow.Author.Tests.{leb-true, ltb-true, le-leb, lt-leb, lt-ltb, le-ltb, eq-eqb, ne_eqb}
use Rattle.molang.specs.{FirstFailure.{must, first_of}, Words.{Refusal, row}, Parse.{refusal}}
use Rattle.molang.proofs.{FirstFailure.{must-none, first-none, then-none, found, last_one, after_none, in_parts}, Trees.{both}}
use Rattle.held.specs.declared.Held.{Held}
use Rattle.held.specs.Held.{State, Edit, Lent, slice_row, claim_row, seen_row, edit_row, count_row, edit_call, ask_refusal, commit_refusal}
use Rattle.held.specs.Editing.{claim_fault, edit_fault, ask_fault, commit_fault}

-- ---- Row by row

-- Answers 15 and 2.
module _ (s : State) where
  pub claim-short : length s.slice < 20480 → some (row 15 0) ≡ claim_fault s
  claim-short h = unfold claim_fault slice_row must first_of in rw (lt-leb 20480 (length s.slice) h) refl

  pub claim-many : 20480 ≤ length s.slice → 4096 < s.held.tokens → some (row 2 0) ≡ claim_fault s
  unfolding claim_fault slice_row claim_row must first_of
  claim-many h k = rw (le-leb 20480 (length s.slice) h, lt-leb s.held.tokens 4096 k) refl

  pub claim-right : 20480 ≤ length s.slice → s.held.tokens ≤ 4096 → none ≡ claim_fault s
  unfolding claim_fault slice_row claim_row must first_of
  claim-right h k = rw (le-leb 20480 (length s.slice) h, le-leb s.held.tokens 4096 k) refl

-- Answer 22.
module _ (h : Held) (place removed : ℕ) where
  pub place-past : h.tokens < place → some (row 22 0) ≡ edit_fault h place removed
  place-past p = unfold edit_fault edit_row must in rw (lt-leb place h.tokens p) refl

  pub removal-past : place ≤ h.tokens → h.tokens - place < removed → some (row 22 0) ≡ edit_fault h place removed
  removal-past p q = unfold edit_fault edit_row must in rw (le-leb place h.tokens p, lt-leb removed (h.tokens - place) q) refl

  pub edit-right : place ≤ h.tokens → removed ≤ h.tokens - place → none ≡ edit_fault h place removed
  edit-right p q = unfold edit_fault edit_row must in rw (le-leb place h.tokens p, le-leb removed (h.tokens - place) q) refl

-- Answer 21.
module _ (s : State) (seen : ℕ) where
  pub seen_other : (seen ≡ s.held.edits → ⊥) → some (row 21 0) ≡ seen_row s seen
  seen_other e = unfold seen_row must in rw (ne_eqb seen s.held.edits e) refl

  pub seen-right : seen ≡ s.held.edits → none ≡ seen_row s seen
  seen-right e = unfold seen_row must in rw (eq-eqb seen s.held.edits e) refl

-- Answer 23.
module _ (h : Held) where
  pub count-last : 4294967295 ≤ h.edits → some (row 23 0) ≡ count_row h
  count-last p = unfold count_row must in rw (le-ltb h.edits 4294967295 p) refl

  pub count_next : h.edits < 4294967295 → none ≡ count_row h
  count_next p = unfold count_row must in rw (lt-ltb h.edits 4294967295 p) refl

  pub count-place : {number place : ℕ} → some (row number place) ≡ count_row h → place ≡ 0
  unfolding count_row must
  count-place e = by (ltb h.edits 4294967295) e
    where
      place-of : Option Refusal → ℕ
      place-of none = 0
      place-of (some r) = r.place

      by : (b : Bool) {number place : ℕ} → some (row number place) ≡ must b (row 23 0) → place ≡ 0
      by true k = ap place-of k
      by false k = ap place-of k

  pub next-count : none ≡ count_row h → h.edits < 4294967295
  next-count e = unfold count_row in ltb-true _ _ (must-none _ _ (sym e))

-- ---- One row after another

-- A row that answers, and one that does not.
pub stops : {o : Option Refusal} {r : Refusal} (later : List (Option Refusal)) → some r ≡ o → some r ≡ first_of (o ∷ later)
stops later h = sym (found _ _ later (sym h))

pub goes-on : {o x : Option Refusal} (later : List (Option Refusal)) → none ≡ o → x ≡ first_of later → x ≡ first_of (o ∷ later)
goes-on later h e = unfold first_of in rw (← h) e

-- The last row.
pub at-last : {o x : Option Refusal} → x ≡ o → x ≡ first_of (o ∷ [])
at-last e = e ∙ sym (last_one _)

-- ---- What is let through

-- A state that can be held, and an edit within its list.
pub record Within (s : State) (from count : ℕ) : Type 0 where
  pub room : 20480 ≤ length s.slice
  pub few : s.held.tokens ≤ 4096
  pub place : from ≤ s.held.tokens
  pub removed : count ≤ s.held.tokens - from

-- No row of an ask answers.
pub ask-within : (s : State) (place removed : ℕ) → none ≡ ask_fault s place removed → Within s place removed
unfolding ask_fault claim_fault slice_row claim_row edit_fault edit_row
ask-within s place removed e =
    let rows = first-none _ _ (sym e) in
    let claims = first-none _ _ rows.0 in
    let edit = both _ _ (must-none _ _ (first-none _ _ rows.1).0) in
    record {
      room = leb-true _ _ (must-none _ _ claims.0);
      few = leb-true _ _ (must-none _ _ (first-none _ _ claims.1).0);
      place = leb-true _ _ edit.0;
      removed = leb-true _ _ edit.1;
    }

-- No row of a commit does: none of an ask, and there is a next count.
pub commit-within : (s : State) (seen place removed : ℕ) → none ≡ commit_fault s seen place removed
    → Within s place removed × (s.held.edits < 4294967295)
unfolding commit_fault ask_fault
commit-within s seen place removed e =
    let claim = first-none _ _ (sym e) in
    let counts = first-none _ _ claim.1 in
    let edit = first-none _ _ counts.1 in
    let asked = sym (then-none (claim_fault s) (edit_fault s.held place removed ∷ []) claim.0 (last_one _ ∙ edit.0)) in
    (ask-within s place removed asked, next-count s.held (sym (first-none _ _ edit.1).0))

-- ---- The definition's rows

module _ (s : State) (e : Edit) (l : Lent) where
  ask-rows : ask_refusal s e l ≡ first_of (ask_fault s e.place e.removed ∷ refusal (edit_call s e l) ∷ [])
  unfolding ask_refusal ask_fault claim_fault edit_fault edit_row
  ask-rows =
      let entry = refusal (edit_call s e l) ∷ [] in
      in_parts (slice_row s.slice ∷ claim_row s ∷ edit_row s e ∷ []) entry
      ∙ ap (λ (o : Option Refusal). first_of (o ∷ entry)) (in_parts (slice_row s.slice ∷ claim_row s ∷ []) (edit_row s e ∷ []))

  pub ask-refused : {r : Refusal} → some r ≡ ask_fault s e.place e.removed → ask_refusal s e l ≡ some r
  ask-refused {r} h = ask-rows ∙ found _ r _ (sym h)

  pub ask-entry : none ≡ ask_fault s e.place e.removed → ask_refusal s e l ≡ refusal (edit_call s e l)
  ask-entry h = ask-rows ∙ after_none _ _ (sym h)

module _ (s : State) (seen : ℕ) (e : Edit) (l : Lent) where
  commit-rows : commit_refusal s seen e l ≡ first_of (commit_fault s seen e.place e.removed ∷ refusal (edit_call s e l) ∷ [])
  unfolding commit_refusal commit_fault claim_fault edit_fault edit_row
  commit-rows =
      let entry = refusal (edit_call s e l) ∷ [] in
      let later = seen_row s seen ∷ edit_row s e ∷ count_row s.held ∷ [] in
      in_parts (slice_row s.slice ∷ claim_row s ∷ later) entry
      ∙ ap (λ (o : Option Refusal). first_of (o ∷ entry)) (in_parts (slice_row s.slice ∷ claim_row s ∷ []) later)

  pub commit-refused : {r : Refusal} → some r ≡ commit_fault s seen e.place e.removed → commit_refusal s seen e l ≡ some r
  commit-refused {r} h = commit-rows ∙ found _ r _ (sym h)

  pub commit-entry : none ≡ commit_fault s seen e.place e.removed → commit_refusal s seen e l ≡ refusal (edit_call s e l)
  commit-entry h = commit-rows ∙ after_none _ _ (sym h)
