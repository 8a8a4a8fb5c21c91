-- The four functions' promises: of calls that their own rows turn back, and of those that the entry answers. Assumes nothing.
use Prim.Native.Nat.{ℕ, suc, ◌+◌, ◌*◌, ◌-◌, ◌/◌, ◌%◌, ◌≤◌, ◌<◌}
use mathlib.Core.{Path.{◌≡◌, refl, ap, ◌∙◌}, List.{List}, Option.{none, some}}
use native.Mathlib.{Numerals.{add-one}, Omega.{arith}}
use lib.{IntN.{ℤ}, ListN.{length, take}, Seq.{length-take-le}}
use borrow.Author.Tests.{le-leb, lt-leb}
use Rattle.molang.specs.{FirstFailure.{must, first_of}, Words.{row}}
use Rattle.molang.specs.Parse.{refusal, reading, told, answered, in_front, tree_in, tree_after, messages_in, messages_after, work_in, work_after}
use Rattle.molang.proofs.{Accepted.{call-accepted}, FirstFailure.{last_one}}
use Rattle.parse.specs.{declared.Answer.{Answer}, Answers.{HasParsed}}
use Rattle.std.specs.Prelude.{Result, Ok, Err}
use Rattle.words.specs.Refusals.{reason_number}
use Rattle.words.specs.declared.refusals.Reason.TheVariants.{ShortList}
use Rattle.words.specs.declared.refusals.Refusal as code
use Rattle.own.specs.Own.{named_call, own_call}
use Rattle.held.specs.{declared.Held.{Held}}
use Rattle.held.specs.Held.{State, Edit, Lent, held_list, edited, slice_row, count_row, lent_call, edit_call, left_by, open_refusal}
use Rattle.held.specs.Held.{open_left, commit_refusal, ask_left, commit_left, opened, with_edit, committed, with_version}
use Rattle.held.specs.Answers.{holds, outcome, changes, is_refused, adopt_outcome, open_slice, HasOpened, HasAsked, HasCommitted}
use Rattle.held.specs.Editing.{ask_fault, commit_fault, CanEdit, counted}
use Rattle.held.proofs.{FaultLaws.{Within, ask-refused, ask-entry, commit-refused, commit-entry}, EditLaws.{edited-tokens}}
use Rattle.held.proofs.KeepLaws.{told-accepted, told-refused}

-- ---- An opening

module _ (slice list : List ℕ) (l : Lent) (version : ℤ) where
  opening-short : length slice < 20480 → open_refusal slice list l version ≡ some (row 15 0)
  opening-short h = unfold open_refusal slice_row must first_of in rw (lt-leb 20480 (length slice) h) refl

  pub open-short : length slice < 20480 → HasOpened slice list l version (Err (record { reason = ShortList; place = 0 })) slice l.tree l.messages l.work
  unfolding outcome open_slice open_left left_by told tree_in messages_in work_in lent_call own_call named_call
  open-short h =
      let e = opening-short h in
      record { outcomes = rw e refl; slice = rw (e, open_slice) refl; tree = rw e refl; messages = rw e refl; work = rw e refl }

  opening-entry : 20480 ≤ length slice → open_refusal slice list l version ≡ refusal (lent_call list l version)
  unfolding open_refusal slice_row must first_of
  opening-entry h = rw (le-leb 20480 (length slice) h) (last_one (refusal (lent_call list l version)))

  -- An accepted list is whole and not too long.
  accepted-list : refusal (lent_call list l version) ≡ none → (length list % 5 ≡ 0) × (length list / 5 ≤ 4096)
  accepted-list e = unfold lent_call own_call named_call in let a = call-accepted (lent_call list l version) e in (a.whole, a.tokens)

  -- What the entry answers.
  module _ (room : 20480 ≤ length slice) {tree' messages' work' : List ℕ} where
    pub open-turned : {r : code.Refusal} → HasParsed (lent_call list l version) (Err r) tree' messages' work'
        → HasOpened slice list l version (Err r) slice tree' messages' work'
    unfolding outcome open_slice open_left left_by answered tree_after messages_after work_after
    open-turned {r} read =
        let c = lent_call list l version in
        let o = opening-entry room in
        let e : open_refusal slice list l version ≡ some (row (reason_number r.reason) r.place) =
        o ∙ told-refused (refusal c) (reading c) read.told in
        record {
          outcomes = rw e refl;
          slice = rw (e, open_slice) refl;
          tree = rw o read.tree;
          messages = rw o read.messages;
          work = rw o read.work;
        }

    module _ {answer : Answer} (read : HasParsed (lent_call list l version) (Ok answer) tree' messages' work') where
      open-accepted : refusal (lent_call list l version) ≡ none
      open-accepted =
          unfold answered in told-accepted (refusal (lent_call list l version)) (reading (lent_call list l version)) answer read.told

      pub open-room : length list ≤ length slice
      open-room = let a = accepted-list open-accepted in omega (arith, a.0, a.1)

      pub has-opened : {h : Held} {slice' : List ℕ} → h ≡ (opened slice list version).held → slice' ≡ in_front list slice
          → HasOpened slice list l version (Ok (record { answer = answer; held = h })) slice' tree' messages' work'
      unfolding outcome open_slice opened open_left left_by answered tree_after messages_after work_after
      has-opened same f =
          let o = opening-entry room in
          let e : open_refusal slice list l version ≡ none = o ∙ open-accepted in
          record {
            outcomes = (λ i. holds (read.told i) (same i)) ∙ rw (o, open-accepted) refl;
            slice = rw (e, open_slice) f;
            tree = rw o read.tree;
            messages = rw o read.messages;
            work = rw o read.work;
          }

-- ---- An edit

-- The held list of a state whose rows answer nothing.
module _ (s : State) (e : Edit) (w : Within s e.place e.removed) where
  held-length : length (held_list s) ≡ 5 * s.held.tokens
  held-length = unfold held_list in length-take-le (5 * s.held.tokens) s.slice (omega (arith, w.room, w.few))

  pub can-edit : {new : List ℕ} → length new ≡ 20480 → CanEdit new (held_list s) e
  can-edit long =
      record {
        within = omega (arith, held-length, w.place, w.removed);
        whole = omega (arith, held-length);
        few = omega (arith, held-length, w.few);
        room = long;
      }

  -- The held numbers with the edit made.
  pub next-held : counted s.held e.removed (length e.put) ≡ (with_edit s e).held
  unfolding counted with_edit
  next-held =
      let can = can-edit {new = take 20480 s.slice} (length-take-le 20480 s.slice w.room) in
      let tokens : s.held.tokens - e.removed + length e.put / 5 ≡ length (edited e (held_list s)) / 5 =
      omega (arith, held-length, edited-tokens e (held_list s) can.within can.whole)
      in
      (λ i. record { tokens = tokens i; version = s.held.version; edits = suc s.held.edits })

-- ---- An ask

module _ (s : State) (e : Edit) (l : Lent) where
  pub ask-turned : {r : code.Refusal} → some (row (reason_number r.reason) r.place) ≡ ask_fault s e.place e.removed
      → HasAsked s e l (Err r) l.tree l.messages l.work
  unfolding ask_left left_by told tree_in messages_in work_in edit_call lent_call own_call named_call
  ask-turned h =
      let o = ask-refused s e l h in record { told = rw o refl; tree = rw o refl; messages = rw o refl; work = rw o refl }

  pub has-asked : none ≡ ask_fault s e.place e.removed → {r : Result Answer code.Refusal} {tree' messages' work' : List ℕ}
      → HasParsed (edit_call s e l) r tree' messages' work'
      → HasAsked s e l r tree' messages' work'
  unfolding ask_left left_by answered tree_after messages_after work_after
  has-asked h read =
      let o = ask-entry s e l h in
      record { told = rw o read.told; tree = rw o read.tree; messages = rw o read.messages; work = rw o read.work }

-- ---- A commit

module _ (s : State) (seen : ℕ) (e : Edit) (l : Lent) where
  pub commit-turned : {r : code.Refusal} → some (row (reason_number r.reason) r.place) ≡ commit_fault s seen e.place e.removed
      → HasCommitted s seen e l (Err r) s.slice l.tree l.messages l.work
  unfolding outcome committed commit_left left_by told tree_in messages_in work_in edit_call lent_call own_call named_call
  commit-turned h =
      let o = commit-refused s seen e l h in
      record { outcomes = rw o refl; slice = rw (o, committed) refl; tree = rw o refl; messages = rw o refl; work = rw o refl }

  -- An accepted new list is whole and not too long.
  accepted-edit : refusal (edit_call s e l) ≡ none
      → (length (edited e (held_list s)) % 5 ≡ 0) × (length (edited e (held_list s)) / 5 ≤ 4096)
  accepted-edit n = unfold edit_call lent_call own_call named_call in let a = call-accepted (edit_call s e l) n in (a.whole, a.tokens)

  -- What the entry answers of the new list.
  module _ (fault : none ≡ commit_fault s seen e.place e.removed) {tree' messages' work' : List ℕ} where
    pub commit-back : {r : code.Refusal} → HasParsed (edit_call s e l) (Err r) tree' messages' work'
        → HasCommitted s seen e l (Err r) s.slice tree' messages' work'
    unfolding outcome committed commit_left left_by answered tree_after messages_after work_after
    commit-back {r} read =
        let c = edit_call s e l in
        let o = commit-entry s seen e l fault in
        let back : commit_refusal s seen e l ≡ some (row (reason_number r.reason) r.place) =
        o ∙ told-refused (refusal c) (reading c) read.told in
        record {
          outcomes = rw back refl;
          slice = rw (back, committed) refl;
          tree = rw o read.tree;
          messages = rw o read.messages;
          work = rw o read.work;
        }

  module _ {answer : Answer} {tree' messages' work' : List ℕ} (read : HasParsed (edit_call s e l) (Ok answer) tree' messages' work') {h : Held}
      (same : h ≡ (with_edit s e).held) where
    edit-accepted : refusal (edit_call s e l) ≡ none
    edit-accepted = unfold answered in told-accepted (refusal (edit_call s e l)) (reading (edit_call s e l)) answer read.told

    pub commit-words : (5 * h.tokens ≡ length (edited e (held_list s))) × (5 * h.tokens ≤ 20480)
    unfolding with_edit
    commit-words =
        let a = accepted-edit edit-accepted in
        let tokens : h.tokens ≡ length (edited e (held_list s)) / 5 = ap (λ (x : Held). x.tokens) same in
        (omega (arith, tokens, a.0), omega (arith, tokens, a.1))

    pub has-committed : none ≡ commit_fault s seen e.place e.removed → {slice' : List ℕ} → slice' ≡ in_front (edited e (held_list s)) s.slice
        → HasCommitted s seen e l (Ok (record { answer = answer; held = h })) slice' tree' messages' work'
    unfolding outcome committed with_edit commit_left left_by answered tree_after messages_after work_after
    has-committed fault f =
        let o = commit-entry s seen e l fault in
        let none-left : commit_refusal s seen e l ≡ none = o ∙ edit-accepted in
        record {
          outcomes = (λ i. holds (read.told i) (same i)) ∙ rw (o, edit-accepted) refl;
          slice = rw (none-left, committed) f;
          tree = rw o read.tree;
          messages = rw o read.messages;
          work = rw o read.work;
        }

-- ---- A version change

module _ (h : Held) (version : ℤ) where
  pub adopt-turned : {number place : ℕ} → some (row number place) ≡ count_row h
      → is_refused number ≡ adopt_outcome (count_row h) (with_version h version)
  adopt-turned e = unfold adopt_outcome in rw (← e) refl

  pub has-adopted : none ≡ count_row h → {v : ℤ} → v ≡ version
      → changes (record { tokens = h.tokens; version = v; edits = h.edits + 1 }) ≡ adopt_outcome (count_row h) (with_version h version)
  unfolding adopt_outcome with_version
  has-adopted e same = rw (← e) (λ i. changes (record { tokens = h.tokens; version = same i; edits = add-one h.edits i }))
