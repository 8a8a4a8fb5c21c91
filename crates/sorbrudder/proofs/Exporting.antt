-- The exports of an open list take the steps of a history: by their promises alone, calls one after another from an accepted opening on
-- hold the words, answer afresh and answer as asked (specs/Exports). Assumes nothing.
use Prim.Native.Nat.{ℕ, ◌*◌, ◌<◌}
use mathlib.Core.{Path.{◌≡◌, refl, ap, sym, subst, ◌∙◌}, List.{List}, Option.{Option, none, some}}
use native.Mathlib.Omega.{arith}
use lib.{IntN.{ℤ}, ListN.{take}}
use Rattle.molang.specs.{Words.{Refusal}, Read.{Answer}, Parse.{reading, told, answered, tree_after, messages_after, work_after}}
use Rattle.molang.proofs.FirstFailure.{All, all-must}
use Rattle.held.specs.declared.Held.{Held}
use Rattle.held.specs.Held.{State, Edit, Lent, Act, slice_row, claim_row, seen_row, edit_row, count_row, lent_call, left_by, open_refusal}
use Rattle.held.specs.Held.{commit_refusal, open_left, ask_left, commit_left, opened, edit_call, stepped, after, held_list, edits_made, version_set}
use Rattle.held.{specs.Histories.{nothing, SameLent, AsAsked}, specs.Runs.{left}, specs.Answers.{state, open_slice}}
use Rattle.held.proofs.History.{words-held, afresh, as-asked}
use Rattle.sorbrudder.specs.Numbers.{kind_in, told_number, told_back, FitsTold, HasParsedTo}
use Rattle.sorbrudder.specs.Holding.{open_held, HasOpenedTo, HasAskedTo, HasCommittedTo}
use Rattle.sorbrudder.specs.Exports.{Called, ends, then_asks, then_commits, then_adopts, FromOpening}
use Rattle.sorbrudder.proofs.{Fields.{kind-in, told-found}, HoldingLaws.{open-fits, ask-fits, commit-fits}}

-- A number whose kind is below 2 is no refusal's.
not-refused : (o : Option Refusal) (a : Answer) (number : ℕ) → FitsTold (told o a) → number ≡ told_number (told o a) → kind_in number < 2
    → o ≡ none
unfolding told
not-refused none a number fits e h = refl
not-refused (some r) a number fits e h =
    let kind = ap kind_in e ∙ kind-in 2 r.number r.place fits.0 fits.1 in absurd (omega arith)

-- THE STATE after a sequence of calls is the definition's.
pub called-after : {s last : State} {acts : List Act} → Called s acts last → last ≡ after s acts
unfolding after stepped
called-after (ends s) = refl
called-after (then_asks s e l number tree' messages' work' h run) = called-after run
called-after (then_commits s seen e l number next tree' messages' work' h {later} run) =
    called-after run ∙ ap (λ (t : State). after t later) h.state
called-after (then_adopts s version number held h {later} run) =
    called-after run ∙ ap (λ (x : Held). after (state x s.slice) later) h.held

-- FROM AN ACCEPTED OPENING ON, whose number is no refusal's.
pub from-opening : {before held : Held} {words list : List ℕ} {l : Lent} {version : ℤ} {number : ℕ} {slice' tree' messages' work' : List ℕ}
    → HasOpenedTo before words list l version number held slice' tree' messages' work' → kind_in number < 2
    → {acts : List Act} {s : State} → Called (state held slice') acts s
    → FromOpening words list version acts s
unfolding open_left commit_left left_by open_slice open_held answered tree_after messages_after work_after
from-opening {before} {held} {words} {list} {l} {version} {number} {slice'} h accepted {acts} {s} run =
    record { state_is = is; words_are = ap held_list is ∙ words-held words list l version unrefused acts; afresh = again; as_asked = as-was }
  where
    unrefused : open_refusal words list l version ≡ none
    unrefused = not-refused _ (reading (lent_call list l version)) number (open-fits words list l version) h.told accepted

    open-leaves : state held slice' ≡ opened words list version
    open-leaves =
        let numbers : held ≡ (opened words list version).held = h.held ∙ rw (unrefused, open_held) refl in
        let slice : slice' ≡ (opened words list version).slice = h.slice ∙ rw (unrefused, open_slice) refl in
        (λ i. state (numbers i) (slice i))

    is : s ≡ after (opened words list version) acts
    is = called-after run ∙ ap (λ (x : State). after x acts) open-leaves

    again : {lent : Lent} {number : ℕ} {t m w : List ℕ} → HasAskedTo s nothing lent number t m w
        → HasParsedTo
        (lent_call (edits_made (opened words list version) acts list) lent (version_set (opened words list version) acts version))
        number t m w
    again {lent} a =
        let e = ap (λ (x : State). ask_left x nothing lent) is ∙ afresh words list l version unrefused acts lent in
        record {
          told = a.told ∙ ap (λ x. told_number x.told) e;
          tree = a.tree ∙ ap (λ x. x.tree) e;
          messages = a.messages ∙ ap (λ x. x.messages) e;
          work = a.work ∙ ap (λ x. x.work) e;
        }

    as-was : {e : Edit} {lent again : Lent} {between : List Act} {seen asked answer : ℕ} {last next : State} {t m w t' m' w' : List ℕ}
        → HasAskedTo s e lent asked t m w → Called s between last → HasCommittedTo last seen e again answer next t' m' w'
        → seen ≡ s.held.edits → SameLent lent again → kind_in answer < 2
        → AsAsked (left (told_back asked) t m w) (left (told_back answer) t' m' w')
    as-was {e} {lent} {again} {between} {seen} {asked} {answer} {last} a run c names same kind =
        let from = called-after run in
        let free = not-refused (commit_refusal last seen e again) (reading (edit_call last e again)) answer (commit-fits last seen e again)
        c.told kind in
        let q = as-asked s e lent between seen again names same (subst (λ (x : State). commit_refusal x seen e again ≡ none) from free) in
        let p = subst (λ (x : State). AsAsked (ask_left s e lent) (commit_left x seen e again)) (sym from) q in
        let first : told_back asked ≡ (ask_left s e lent).told =
        ap told_back a.told ∙ told-found (ask_left s e lent).told (ask-fits s e lent) in
        let second : told_back answer ≡ (commit_left last seen e again).told =
        ap told_back c.told ∙ told-found (commit_left last seen e again).told (commit-fits last seen e again) in
        record {
          told = second ∙ (p.told ∙ sym first);
          tree = λ nodes n.
              ap (take (7 * nodes)) c.tree ∙ (p.tree nodes (sym first ∙ n) ∙ sym (ap (take (7 * nodes)) a.tree));
          messages = λ count n.
              ap (take (8 * count)) c.messages ∙ (p.messages count (sym first ∙ n) ∙ sym (ap (take (8 * count)) a.messages));
        }

-- ---- Places

abbrev AtZero : Refusal → Type 0
AtZero r = r.place ≡ 0

-- THE ROWS OF AN OPEN LIST, answers 15, 2, 21, 22 and 23, are at place 0.
pub rows-at-zero : (s : State) (seen : ℕ) (e : Edit)
    → All AtZero (slice_row s.slice) × All AtZero (claim_row s) × All AtZero (seen_row s seen) × All AtZero (edit_row s e)
    × All AtZero (count_row s.held)
unfolding slice_row claim_row seen_row edit_row count_row
rows-at-zero s seen e =
    (all-must AtZero _ _ refl, all-must AtZero _ _ refl, all-must AtZero _ _ refl, all-must AtZero _ _ refl, all-must AtZero _ _ refl)
