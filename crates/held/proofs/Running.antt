-- The functions take the steps of a history: by their promises alone, calls one after another from an accepted opening on hold the words,
-- answer afresh and answer as asked. Assumes nothing.
use Prim.Native.Nat.{ℕ, ◌*◌}
use mathlib.Core.{Path.{◌≡◌, refl, ap, sym, subst, ◌∙◌}, List.{List}, Option.{Option, none, some}}
use native.Mathlib.Omega.{arith}
use lib.{IntN.{ℤ}, ListN.{take}}
use Rattle.molang.specs.{Words.{Refusal}, Read.{Answer}, Parse.{Told, reading, told, answered, tree_after, messages_after, work_after}}
use Rattle.parse.specs.{declared.Answer.{Answer as Answered}, Answers.{told_of, HasParsed}}
use Rattle.std.specs.Prelude.{Result}
use Rattle.words.specs.declared.refusals.Refusal as code
use Rattle.held.specs.{declared.Held.{Held}, declared.Change.{Change}}
use Rattle.held.specs.Held.{State, Edit, Lent, Act, held_list, lent_call, left_by, open_refusal, commit_refusal, open_left, ask_left}
use Rattle.held.specs.Held.{commit_left, count_row, edit_call, opened, with_edit, committed, with_version, adopted, commits, adopts}
use Rattle.held.specs.{Held.{stepped, after, edits_made, version_set}, Histories.{nothing, SameLent, AsAsked}}
use Rattle.held.specs.Answers.{holds, outcome, outcome_of, adopt_of, adopt_outcome, state, open_slice, HasOpened, HasAsked, HasCommitted}
use Rattle.held.specs.Runs.{told_by, left, held_by, held_by_adopting, Ran, ends, then_asks, then_commits, then_adopts}
use Rattle.held.proofs.History.{words-held, afresh, as-asked}

-- ---- A step

-- An outcome tells what the call is told.
outcome-told : (o : Option Refusal) (a : Answer) (h : Held) → told_by (outcome o (told o a) h) ≡ told o a
unfolding outcome told
outcome-told none a h = refl
outcome-told (some r) a h = refl

-- And it holds numbers only where the call is not turned back.
outcome-holds : (o : Option Refusal) (t u : Told) (h k : Held) → outcome o t h ≡ holds u k → (o ≡ none) × (h ≡ k)
unfolding outcome
outcome-holds none t u h k e = (refl, cc)
outcome-holds (some r) t u h k e = absurd (let z : ◌≡◌ {A = ℕ} 0 1 = cc in omega arith)

-- A commit.
module _ {s : State} {seen : ℕ} {e : Edit} {l : Lent} {r : Result Change code.Refusal} {slice' tree' messages' work' : List ℕ}
    (h : HasCommitted s seen e l r slice' tree' messages' work') where
  pub commit-steps : state (held_by (outcome_of r) s.held) slice' ≡ stepped s (commits seen e l)
  unfolding stepped committed
  commit-steps =
      (λ i. state (held_by (h.outcomes i) s.held) (h.slice i))
      ∙ by (commit_refusal s seen e l) (commit_left s seen e l).told
    where
      by : (o : Option Refusal) (t : Told)
          → state (held_by (outcome o t (with_edit s e).held) s.held)
          (elim o as (λ o. State) [ some r ↦ s | none ↦ with_edit s e ]).slice
          ≡ (elim o as (λ o. State) [ some r ↦ s | none ↦ with_edit s e ])
      by none t = unfold outcome in refl
      by (some r) t = unfold outcome in refl

  pub commit-told : told_by (outcome_of r) ≡ (commit_left s seen e l).told
  unfolding commit_left left_by
  commit-told = ap told_by h.outcomes ∙ outcome-told (commit_refusal s seen e l) (reading (edit_call s e l)) (with_edit s e).held

-- A version change.
pub adopt-steps : (s : State) (version : ℤ) (r : Result Held code.Refusal) → adopt_of r ≡ adopt_outcome (count_row s.held) (with_version s.held version)
    → state (held_by_adopting (adopt_of r) s.held) s.slice ≡ stepped s (adopts version)
unfolding stepped adopted
adopt-steps s version r h =
    ap (λ x. state (held_by_adopting x s.held) s.slice) h ∙ by (count_row s.held)
  where
    by : (o : Option Refusal)
        → state (held_by_adopting (adopt_outcome o (with_version s.held version)) s.held) s.slice
        ≡ state (elim o as (λ o. Held) [ some r ↦ s.held | none ↦ with_version s.held version ]) s.slice
    by none = unfold adopt_outcome in refl
    by (some r) = unfold adopt_outcome in refl

-- THE STATE after a sequence of calls is the definition's.
pub ran-after : {s last : State} {acts : List Act} → Ran s acts last → last ≡ after s acts
unfolding after stepped
ran-after (ends s) = refl
ran-after (then_asks s e l r tree' messages' work' h run) = ran-after run
ran-after (then_commits s seen e l r slice' tree' messages' work' h {later} run) =
    ran-after run ∙ ap (λ (t : State). after t later) (commit-steps h)
ran-after (then_adopts s version r h {later} run) = ran-after run ∙ ap (λ (t : State). after t later) (adopt-steps s version r h)

-- An opening tells what its call is told.
pub open_told : {slice list : List ℕ} {l : Lent} {version : ℤ} {r : Result Change code.Refusal} {slice' tree' messages' work' : List ℕ}
    → HasOpened slice list l version r slice' tree' messages' work'
    → told_by (outcome_of r) ≡ (open_left slice list l version).told
unfolding open_left left_by
open_told {slice} {list} {l} {version} h =
    ap told_by h.outcomes
    ∙ outcome-told (open_refusal slice list l version) (reading (lent_call list l version)) (opened slice list version).held

-- ---- From an accepted opening on

module _ {slice list : List ℕ} {l : Lent} {version : ℤ} {r : Result Change code.Refusal} {slice' tree' messages' work' : List ℕ}
    (h : HasOpened slice list l version r slice' tree' messages' work') {t : Told} {held : Held}
    (accepted : outcome_of r ≡ holds t held) where
  unrefused : (open_refusal slice list l version ≡ none) × ((opened slice list version).held ≡ held)
  unrefused = outcome-holds _ _ _ _ _ (sym h.outcomes ∙ accepted)

  -- The opening leaves the definition's state.
  pub open-leaves : state held slice' ≡ opened slice list version
  unfolding open_slice
  open-leaves =
      let front : open_slice slice list l version ≡ (opened slice list version).slice = rw (unrefused.0, open_slice) refl in
      let words : slice' ≡ (opened slice list version).slice = h.slice ∙ front in
      (λ i. state (sym unrefused.1 i) (words i))

  module _ {acts : List Act} {s : State} (run : Ran (state held slice') acts s) where
    ran : s ≡ after (opened slice list version) acts
    ran = ran-after run ∙ ap (λ (x : State). after x acts) open-leaves

    -- THE WORDS are the opened ones with the accepted edits made in order.
    pub words_are : held_list s ≡ edits_made (opened slice list version) acts list
    words_are = ap held_list ran ∙ words-held slice list l version unrefused.0 acts

    -- AN ASK THAT CHANGES NOTHING is answered as reading them afresh at the version last set.
    pub asked-afresh : {lent : Lent} {a : Result Answered code.Refusal} {t' m' w' : List ℕ} → HasAsked s nothing lent a t' m' w'
        → HasParsed (lent_call (edits_made (opened slice list version) acts list) lent (version_set (opened slice list version) acts version))
        a t' m' w'
    unfolding left_by answered tree_after messages_after work_after
    asked-afresh {lent} asked =
        let e = ap (λ (x : State). ask_left x nothing lent) ran ∙ afresh slice list l version unrefused.0 acts lent in
        record {
          told = asked.told ∙ ap (λ x. x.told) e;
          tree = asked.tree ∙ ap (λ x. x.tree) e;
          messages = asked.messages ∙ ap (λ x. x.messages) e;
          work = asked.work ∙ ap (λ x. x.work) e;
        }

-- AS ASKED: whatever calls come between an ask and an accepted commit of the same edit that names the edit count seen when asking, the
-- commit tells what the ask told, and leaves the same tree or messages, over buffers of the same lengths and the same limit.
pub committed-as-asked : {s last : State} {e : Edit} {lent again : Lent} {acts : List Act} {seen : ℕ} {a : Result Answered code.Refusal} {r : Result Change code.Refusal}
    {t m w slice' t' m' w' : List ℕ}
    → HasAsked s e lent a t m w → Ran s acts last → HasCommitted last seen e again r slice' t' m' w' → seen ≡ s.held.edits
    → SameLent lent again
    → {u : Told} {held : Held} → outcome_of r ≡ holds u held
    → AsAsked (left (told_of a) t m w) (left u t' m' w')
committed-as-asked {s} {last} {e} {lent} {again} {acts} {seen} asked run h names same accepted =
    let from = ran-after run in
    let refused = (outcome-holds _ _ _ _ _ (sym h.outcomes ∙ accepted)).0 in
    let q = as-asked s e lent acts seen again names same (subst (λ (x : State). commit_refusal x seen e again ≡ none) from refused) in
    let p = subst (λ (x : State). AsAsked (ask_left s e lent) (commit_left x seen e again)) (sym from) q in
    record {
      told = sym (ap told_by accepted) ∙ (commit-told h ∙ (p.told ∙ sym asked.told));
      tree = λ nodes n.
          ap (take (7 * nodes)) h.tree ∙ (p.tree nodes (sym asked.told ∙ n) ∙ sym (ap (take (7 * nodes)) asked.tree));
      messages = λ count n.
          ap (take (8 * count)) h.messages ∙ (p.messages count (sym asked.told ∙ n) ∙ sym (ap (take (8 * count)) asked.messages));
    }
