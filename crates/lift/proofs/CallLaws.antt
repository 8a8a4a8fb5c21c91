-- The calls that the functions make are the definition's, and what was handed on can be. Assumes nothing.
use Prim.Native.Nat.{ℕ, ◌*◌, ◌≤◌}
use mathlib.Core.{Path.{◌≡◌, refl, sym, ap, ◌∙◌, subst}, Bool.{false}, List.{List}, Option.{Option, none, some}}
use native.Mathlib.Omega.{arith}
use lib.{IntN.{ℤ}, ListN.{length, take, length-take}, Seq.{length-take-le}}
use Rattle.molang.specs.{Words.{Refusal}, Parse.{a_tree, tree_after}, Lift.{eq_words}, Write.{written_tree}}
use Rattle.molang.specs.WriteEntry.{tokens, unwritten, write_answered, list_after}
use Rattle.molang.proofs.HandedTree.{tree-of-told, tree-front, write_done, write-of-told, unwritten-list}
use Rattle.molang.proofs.Reread.{Readable, written-readable, tree-room}
use Rattle.accept.specs.Accepting.{is_read, is_refused, verdict, nesting_refusal}
use Rattle.parse.specs.{declared.Answer.{Answer}, Answers.{told_of, HasParsed}}
use Rattle.own.{specs.Own.{own_call}, proofs.BesideLaws.{counts-differ}}
use Rattle.lift.specs.Lifting.{LiftCall, room_refusal, first_call, Handed, handed, second_call, writer_call, OutputLeft, held_told}
use Rattle.lift.specs.Lifting.{after_writing, written_out, after_second, LiftLeft, stopped, after_first, unread, by_room, lift_left, tree_by}
use Rattle.lift.specs.{Lifting.{tree_left, IsLift}, declared.Outcome.{Outcome}}
use Rattle.std.specs.Prelude.{Result, Err}
use Rattle.words.specs.Refusals.{reason_number}
use Rattle.words.specs.declared.refusals.Refusal as code
use Rattle.lift.specs.Answers.{lift_told, output_of, left_of, engine, handed_of, WasRead, HasLifted}
use Rattle.lift.proofs.Lifted.{lift-is, lift-within}
use Rattle.lift.proofs.Within.{IsLiftWithin}

-- A tree that a reading told stands within its buffer.
pub read-room : (nodes : ℕ) (tree : List ℕ) → WasRead (a_tree nodes) tree → 7 * nodes ≤ length tree
read-room nodes tree w = omega (arith, tree-room w.call nodes w.says, ap length w.left)

-- ---- The writer

module _ (tree output : List ℕ) (nodes count : ℕ) (was : WasRead (a_tree nodes) tree)
    (wrote : tokens count ≡ write_answered (writer_call tree output nodes)) where
  pub written-list : Readable (take (5 * count) (list_after (writer_call tree output nodes))) count
  unfolding writer_call
  written-list =
      written-readable was.call (writer_call tree output nodes) nodes count was.says (ap (take (7 * nodes)) was.left) (sym wrote)

  pub written-room : 5 * count ≤ length (list_after (writer_call tree output nodes))
  written-room = omega (arith, written-list.long, length-take (5 * count) (list_after (writer_call tree output nodes)))

  -- At most 4,096 tokens are written.
  pub written-few : count ≤ 4096
  unfolding writer_call
  written-few =
      let w = writer_call tree output nodes in
      let t = tree-of-told was.call nodes was.says in
      let front = ap (λ (n : ℕ). take (7 * n) (tree_after was.call)) t.nodes ∙ tree-front t.parsed in
      let got = ap (take (7 * nodes)) was.left ∙ front in
      let done = write_done t.parsed w got (write-of-told w count (sym wrote)) in
      let said = done.told in
      let counted : count ≡ length (written_tree t.root t.children) = cc in
      omega (arith, done.few)

module _ (tree output : List ℕ) (limit nodes : ℕ) (left : List ℕ) (is : left ≡ list_after (writer_call tree output nodes)) where
  -- It is turned back.
  pub out-unwritten : (r : code.Refusal) → unwritten (reason_number r.reason) r.place ≡ write_answered (writer_call tree output nodes)
      → output_of (Err r) left ≡ written_out tree output limit nodes
  unfolding written_out after_writing writer_call
  out-unwritten r e =
      let kept : left ≡ output = is ∙ unwritten-list (writer_call tree output nodes) (reason_number r.reason) r.place (sym e) in
      rw (← e, kept) refl

  -- What it wrote is held to the limit.
  pub out_written : (count : ℕ) → tokens count ≡ write_answered (writer_call tree output nodes)
      → (r : Result Outcome code.Refusal) → lift_told r ≡ held_told count (verdict count (nesting_refusal limit (take (5 * count) left)))
      → output_of r left ≡ written_out tree output limit nodes
  unfolding written_out after_writing
  out_written count e r said = rw (← e, said, is) refl

-- ---- Two trees

module _ (nodes m : ℕ) (tree again : List ℕ) (room : 7 * nodes ≤ length tree) (room_again : 7 * m ≤ length again) where
  -- Trees of other sizes differ.
  pub sizes-differ : (nodes ≡ m → ⊥) → false ≡ eq_words (take (7 * nodes) tree) (take (7 * m) again)
  sizes-differ h =
      sym
      (counts-differ (take (7 * nodes) tree) (take (7 * m) again)
      (λ e. h (omega (arith, e, length-take-le (7 * nodes) tree room, length-take-le (7 * m) again room_again))))

-- ---- The readings

-- What the second reading told and left is handed on.
pub has-second : (h : Handed) (nodes : ℕ) {second : Result Answer code.Refusal} {again messages work : List ℕ}
    → HasParsed (own_call h.list h.again h.messages h.work h.to.version h.to.limit) second again messages work
    → (r : Result Outcome code.Refusal) (output : List ℕ)
    → output_of r output ≡ after_second h.tree again h.output h.to.limit nodes (told_of second)
    → left_of r again messages work output ≡ after_first h (a_tree nodes)
unfolding after_first second_call
has-second h nodes p r output e =
    let says = ap (λ (o : OutputLeft). o.told) e in
    let wrote = ap (λ (o : OutputLeft). o.output) e in
    rw (says, wrote, p.told, p.tree, p.messages, p.work) refl

-- What is left is the definition's, and so it is its lift.
has-lifted : (c : LiftCall) {r : Result Outcome code.Refusal} {tree again messages work output : List ℕ}
    → left_of r again messages work output ≡ lift_left c
    → tree ≡ tree_left c
    → HasLifted c r tree again messages work output
has-lifted c left tree =
    record { left = left; tree = tree; lift = subst (λ (l : LiftLeft). IsLift c l.told l.output) (sym left) (lift-is c) }

-- By the call's promise what is told ends within the output.
pub told-within : {c : LiftCall} {r : Result Outcome code.Refusal} {tree again messages work output : List ℕ} → HasLifted c r tree again messages work output
    → IsLiftWithin c (lift_told r) output
told-within {c} h = subst (λ (l : LiftLeft). IsLiftWithin c l.told l.output) (sym h.left) (lift-within c)

-- A call that is turned back for its lengths.
pub no_room : (c : LiftCall) {r : code.Refusal} (n : ℕ) → is_refused (reason_number r.reason) r.place ≡ verdict n (room_refusal c)
    → HasLifted c (Err r) c.tree c.again c.messages c.work c.output
unfolding lift_left tree_left by_room tree_by stopped unread
no_room c {r = back} n h = by (room_refusal c) refl h
  where
    by : (o : Option Refusal) → room_refusal c ≡ o → is_refused (reason_number back.reason) back.place ≡ verdict n o
        → HasLifted c (Err back) c.tree c.again c.messages c.work c.output
    by none e h = let z : ◌≡◌ {A = ℕ} 0 1 = cc in absurd (omega arith)
    by (some r) e h =
        let a : reason_number back.reason ≡ r.number = cc in
        let b : back.place ≡ r.place = cc in
        has-lifted c (rw (e, a, b) refl) (rw e refl)

-- One that is not.
pub has_room : (c : LiftCall) (m n : ℕ) → is_read m ≡ verdict n (room_refusal c) → room_refusal c ≡ none
has_room c m n h = by (room_refusal c) refl h
  where
    by : (o : Option Refusal) → room_refusal c ≡ o → is_read m ≡ verdict n o → room_refusal c ≡ none
    by none e h = e
    by (some r) e h = let z : ◌≡◌ {A = ℕ} 0 1 = cc in absurd (omega arith)

-- What the first reading told and left is handed on.
pub has_first : (c : LiftCall) → room_refusal c ≡ none → {first : Result Answer code.Refusal} {tree messages work : List ℕ}
    → HasParsed (first_call c) first tree messages work
    → {passed : ℤ} → passed ≡ c.to.version
    → {r : Result Outcome code.Refusal} {again messages' work' output : List ℕ}
    → left_of r again messages' work' output
    ≡ after_first (handed_of c.list tree c.again messages work c.output (engine passed c.to.limit)) (told_of first)
    → HasLifted c r tree again messages' work' output
unfolding lift_left tree_left by_room tree_by handed
has_first c free p v e =
    has-lifted c (e ∙ rw (free, p.told, p.tree, p.messages, p.work, v) refl) (p.tree ∙ rw free refl)
