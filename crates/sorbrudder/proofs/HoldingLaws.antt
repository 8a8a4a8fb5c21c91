-- The exports of an open list: the values of their answers fit its number's fields, and what held promises is what they promise. Assumes
-- nothing.
use Prim.Native.Nat.{ℕ, ◌^◌, ◌<◌}
use mathlib.Core.{Path.{◌≡◌, refl, ap, sym, ◌∙◌}, Bool.{Bool, true, false}, List.{List}, Option.{Option, none, some}}
use native.Mathlib.Omega.{arith}
use lib.{Dec.{ltb}, IntN.{ℤ}}
use Rattle.std.specs.Prelude.{Result}
use Rattle.words.specs.declared.refusals.Refusal as code
use Rattle.molang.specs.{FirstFailure.{must}, Words.{Refusal, row}, Parse.{Told, refusal}}
use Rattle.molang.proofs.{FirstFailure.{first-none, last_one, all_first, all-last, all-must}, Refusals.{Within}}
use Rattle.parse.specs.{declared.Answer.{Answer}, Answers.{told_of}}
use Rattle.held.{specs.declared.Held.{Held}, specs.declared.Change.{Change}}
use Rattle.held.specs.Held.{State, Edit, Lent, held_list, slice_row, claim_row, seen_row, edit_row, count_row, lent_call, edit_call, left_by}
use Rattle.held.specs.Held.{open_refusal, ask_refusal, commit_refusal, open_left, ask_left, commit_left, with_edit, committed, stepped}
use Rattle.held.specs.Held.{with_version, adopted}
use Rattle.held.specs.Answers.{outcome, outcome_of, changes, is_refused, adopt_outcome, state, HasOpened, HasAsked, HasCommitted}
use Rattle.held.{specs.Runs.{told_by, held_by}, proofs.Running.{open_told, commit-told, commit-steps}}
use Rattle.sorbrudder.specs.Numbers.{packed, told_number, FitsTold}
use Rattle.sorbrudder.specs.Holding.{held_of, open_held, adopt_number, HasOpenedTo, HasAskedTo, HasCommittedTo, HasAdoptedTo}
use Rattle.sorbrudder.proofs.Bounds.{answer-fits, entry-within}

-- ---- Bounds

abbrev Few : Refusal → Type 0
Few = Within 23 20480

pub open-fits : (slice list : List ℕ) (l : Lent) (version : ℤ) → FitsTold (open_left slice list l version).told
unfolding open_left left_by open_refusal slice_row
open-fits slice list l version =
    let c = lent_call list l version in
    answer-fits c _ (λ e. sym (last_one (refusal c)) ∙ (first-none _ _ e).1)
    (all_first Few _ _ (all-must Few _ (row 15 0) (omega arith, omega arith)) (all-last Few _ (entry-within c)))

pub ask-fits : (s : State) (e : Edit) (l : Lent) → FitsTold (ask_left s e l).told
unfolding ask_left left_by ask_refusal slice_row claim_row edit_row
ask-fits s e l =
    let c = edit_call s e l in
    answer-fits c _ (λ h. sym (last_one (refusal c)) ∙ (first-none _ _ (first-none _ _ (first-none _ _ h).1).1).1)
    (all_first Few _ _ (all-must Few _ (row 15 0) (omega arith, omega arith))
    (all_first Few _ _ (all-must Few _ (row 2 0) (omega arith, omega arith))
    (all_first Few _ _ (all-must Few _ (row 22 0) (omega arith, omega arith)) (all-last Few _ (entry-within c)))))

pub commit-fits : (s : State) (seen : ℕ) (e : Edit) (l : Lent) → FitsTold (commit_left s seen e l).told
unfolding commit_left left_by commit_refusal slice_row claim_row seen_row edit_row count_row
commit-fits s seen e l =
    let c = edit_call s e l in
    answer-fits c _
    (λ h.
    let edits = first-none _ _ (first-none _ _ (first-none _ _ h).1).1 in
    sym (last_one (refusal c)) ∙ (first-none _ _ (first-none _ _ edits.1).1).1)
    (all_first Few _ _ (all-must Few _ (row 15 0) (omega arith, omega arith))
    (all_first Few _ _ (all-must Few _ (row 2 0) (omega arith, omega arith))
    (all_first Few _ _ (all-must Few _ (row 21 0) (omega arith, omega arith))
    (all_first Few _ _ (all-must Few _ (row 22 0) (omega arith, omega arith))
    (all_first Few _ _ (all-must Few _ (row 23 0) (omega arith, omega arith)) (all-last Few _ (entry-within c)))))))

-- ---- Promises

-- The held numbers after an opening.
open-held : (o : Option Refusal) (t : Told) (held before : Held) → held_by (outcome o t held) before ≡ open_held o before held
unfolding outcome open_held
open-held none t held before = refl
open-held (some r) t held before = refl

pub opened-to : {slice list : List ℕ} {l : Lent} {version : ℤ} {r : Result Change code.Refusal} {slice' tree' messages' work' : List ℕ}
    → HasOpened slice list l version r slice' tree' messages' work'
    → {number : ℕ} → number ≡ told_number (told_by (outcome_of r))
    → {before after : Held} → after ≡ held_by (outcome_of r) before
    → HasOpenedTo before slice list l version number after slice' tree' messages' work'
opened-to h told {before} held =
    record {
      told = told ∙ ap told_number (open_told h);
      held = held ∙ (ap (λ x. held_by x before) h.outcomes ∙ open-held _ _ _ before);
      slice = h.slice;
      tree = h.tree;
      messages = h.messages;
      work = h.work;
    }

-- A commit leaves the version.
committed-version : (s : State) (seen : ℕ) (e : Edit) (l : Lent) → (committed s seen e l).held.version ≡ s.held.version
unfolding committed
committed-version s seen e l = by (commit_refusal s seen e l)
  where
    by : (o : Option Refusal) → (elim o as (λ o. State) [ some r ↦ s | none ↦ with_edit s e ]).held.version ≡ s.held.version
    by none = unfold with_edit in refl
    by (some r) = refl

pub committed-to : {s : State} {seen : ℕ} {e : Edit} {l : Lent} {r : Result Change code.Refusal} {slice' tree' messages' work' : List ℕ}
    → HasCommitted s seen e l r slice' tree' messages' work'
    → {number : ℕ} → number ≡ told_number (told_by (outcome_of r))
    → {tokens edits : ℕ} {version : ℤ} → held_of tokens version edits ≡ held_by (outcome_of r) s.held
    → HasCommittedTo s seen e l number (state (held_of tokens s.held.version edits) slice') tree' messages' work'
unfolding stepped
committed-to {s} {seen} {e} {l} {slice' = slice'} h told {tokens} {edits} held =
    let left = ap (λ (x : Held). state x slice') held ∙ commit-steps h in
    let version = ap (λ (x : State). x.held.version) left ∙ committed-version s seen e l in
    record {
      told = told ∙ ap told_number (commit-told h);
      state = ap (λ (v : ℤ). state (held_of tokens v edits) slice') (sym version) ∙ left;
      tree = h.tree;
      messages = h.messages;
      work = h.work;
    }

-- An ask looks at no edit count.
pub asked-to : (tokens : ℕ) (version : ℤ) (words : List ℕ) (e : Edit) (l : Lent) {r : Result Answer code.Refusal} {tree' messages' work' : List ℕ}
    → HasAsked (state (held_of tokens version 0) words) e l r tree' messages' work'
    → {number : ℕ} → number ≡ told_number (told_of r)
    → (edits : ℕ) → HasAskedTo (state (held_of tokens version edits) words) e l number tree' messages' work'
unfolding ask_left ask_refusal claim_row edit_row edit_call held_list
asked-to tokens version words e l h told edits =
    record { told = told ∙ ap told_number h.told; tree = h.tree; messages = h.messages; work = h.work }

-- ---- A version change, which looks at no count of tokens

-- It is turned back, or it is made, whatever else is held.
module _ (h k before after : Held) where
  not_made : (o : Option Refusal) (number : ℕ) → is_refused number ≡ adopt_outcome o h
      → (is_refused number ≡ adopt_outcome o k) × (before ≡ (elim o as (λ o. Held) [ some r ↦ before | none ↦ after ]))
  unfolding adopt_outcome
  not_made none number e = absurd (let z : ◌≡◌ {A = ℕ} 0 1 = cc in omega arith)
  not_made (some r) number e = (e, refl)

  made : (o : Option Refusal) (next : Held) → changes next ≡ adopt_outcome o h
      → (changes k ≡ adopt_outcome o k) × ((next ≡ h) × (after ≡ (elim o as (λ o. Held) [ some r ↦ before | none ↦ after ])))
  unfolding adopt_outcome
  made none next e = (refl, (cc, refl))
  made (some r) next e = absurd (let z : ◌≡◌ {A = ℕ} 0 1 = cc in omega arith)

-- The refusal's number is 23.
pub adopt-fits : (h k : Held) (number : ℕ) → is_refused number ≡ adopt_outcome (count_row h) k → number < 2 ^ 8
unfolding count_row
adopt-fits h k number e = by (ltb h.edits 4294967295) e
  where
    by : (b : Bool) → is_refused number ≡ adopt_outcome (must b (row 23 0)) k → number < 2 ^ 8
    by true e = let z : ◌≡◌ {A = ℕ} 0 1 = unfold must adopt_outcome in cc in absurd (omega arith)
    by false e = let n : number ≡ 23 = unfold must adopt_outcome in cc in omega arith

module _ (version : ℤ) (edits : ℕ) (to : ℤ) (tokens : ℕ) where
  abbrev read : Held
  read = held_of 0 version edits

  abbrev before : Held
  before = held_of tokens version edits

  pub adopt-refused : (number : ℕ) → is_refused number ≡ adopt_outcome (count_row read) (with_version read to)
      → {n : ℕ} → n ≡ packed 2 number 0
      → HasAdoptedTo before to n before
  unfolding adopted count_row
  adopt-refused number e told =
      let h = not_made (with_version read to) (with_version before to) before (with_version before to) (count_row read) number e in
      record { told = told ∙ ap adopt_number h.0; held = h.1 }

  pub adopt-made : (next : Held) → changes next ≡ adopt_outcome (count_row read) (with_version read to) → {v : ℤ} → v ≡ next.version
      → HasAdoptedTo before to 0 (held_of tokens v next.edits)
  unfolding adopted count_row with_version
  adopt-made next e same =
      let h = made (with_version read to) (with_version before to) before (with_version before to) (count_row read) next e in
      record {
        told = ap adopt_number h.0;
        held = (λ i. held_of tokens ((same ∙ ap (λ (x : Held). x.version) h.1.0) i) (h.1.0 i).edits) ∙ h.1.1;
      }
