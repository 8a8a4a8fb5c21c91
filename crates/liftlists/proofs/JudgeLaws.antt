-- What the lift tells of a list that it has room for is what becomes of the list. Assumes nothing.
use Prim.Native.Nat.{ℕ, ◌+◌, ◌*◌, ◌/◌, ◌%◌, ◌≤◌, ◌<◌, min}
use mathlib.Core.{Path.{◌≡◌, refl, sym, ◌∙◌}, List.{List, ◌∷◌}, Option.{Option, none, some}}
use native.Mathlib.Omega.{arith}
use lib.ListN.{length, length-replicate}
use borrow.Author.Tests.{eq-eqb, le-leb, lt-ltb}
use Rattle.std.specs.Prelude.{Result}
use Rattle.words.specs.declared.refusals.Refusal as code
use Rattle.molang.specs.{FirstFailure.{must, first_of}, Words.{Refusal}, Parse.{most_tokens, length_rows}, Lift.{lift_of, same, lifted}}
use Rattle.lift.specs.Lifting.{LiftCall, room_refusal, LiftTold}
use Rattle.lift.proofs.{CallLaws.{told-within}, Within.{IsLiftWithin, by_lengths, by_output, list_stays, list_comes, list_told, list_behind}}
use Rattle.lift.specs.{declared.Outcome.{Outcome}, Answers.{lift_told, HasLifted}}
use Rattle.text.specs.Text.{Wrote}
use Rattle.liftlists.specs.LiftedFile.{is_version_word, file_list, all_words, bytes_of, engine_of, carried_by, carried}
use Rattle.liftlists.specs.Steps.{fate_told, HasFate}
use Rattle.liftlists.proofs.PutLaws.{bytes-length}

-- The call has room for the list.
pub record Roomy (c : LiftCall) : Type 0 where
  pub whole : length c.list % 5 ≡ 0
  pub few : length c.list ≤ 20480
  pub first_tree : length c.tree ≡ 86016
  pub second_tree : length c.again ≡ 86016
  pub two_records : length c.messages ≡ 16
  pub work_words : length c.work ≡ 64 * (length c.list / 5) + 64
  pub output_words : length c.output ≡ 20480

has_room : (c : LiftCall) → Roomy c → room_refusal c ≡ none
unfolding room_refusal length_rows must first_of
has_room c r =
    let trees : 21 * (length c.list / 5) ≤ min (length c.tree) (length c.again) =
    omega (arith, r.whole, r.few, r.first_tree, r.second_tree)
    in
    rw (
      eq-eqb (length c.list % 5) 0 r.whole,
      le-leb (length c.list / 5) most_tokens (omega (arith, r.few)),
      length-replicate {A = ℕ} (min (length c.tree) (length c.again)) 0,
      le-leb (21 * (length c.list / 5)) (min (length c.tree) (length c.again)) trees,
      length-replicate {A = ℕ} (length c.messages) 0,
      le-leb 16 (length c.messages) (omega (arith, r.two_records)),
      length-replicate {A = ℕ} (length c.work) 0,
      le-leb (64 * (length c.list / 5) + 64) (length c.work) (omega (arith, r.work_words)),
    )
    refl

pub becomes : (c : LiftCall) (told : LiftTold) (output : List ℕ) → Roomy c → length output ≡ length c.output → IsLiftWithin c told output
    → HasFate (lift_of c.from c.to c.list) (fate_told told) output
becomes c told output room size (by_lengths {r} e t) =
    let free : ◌≡◌ {A = Option Refusal} (some r) none = sym e ∙ has_room c room in
    let z : ◌≡◌ {A = ℕ} 0 1 = cc in
    absurd (omega arith)
becomes c told output room size (by_output reads plain few short t) = absurd (omega (arith, room.output_words))
becomes c told output room size (list_stays e t) = rw t e
becomes c told output room size (list_comes e fits t) = rw t (e, omega arith)
becomes c told output room size (list_told {records} e t) = rw t (record { number = 0; place = records; is = e })
becomes c told output room size (list_behind {number} {place} e t) = rw t (record { number = number; place = place; is = e })

-- The same by the call's promise.
pub judged : {c : LiftCall} {r : Result Outcome code.Refusal} {tree' again' messages' work' output' : List ℕ} → HasLifted c r tree' again' messages' work' output'
    → Roomy c
    → length output' ≡ length c.output
    → (from to : ℕ)
    → c.from ≡ engine_of from
    → c.to ≡ engine_of to
    → HasFate (lift_of (engine_of from) (engine_of to) c.list) (fate_told (lift_told r)) output'
judged {c} {r} {output' = output'} has room size from to old new =
    rw (← old, ← new) (becomes c (lift_told r) output' room size (told-within has))

-- WHAT IS LAID FOR A LIST
module _ (opener to : ℕ) (list : List ℕ) (version : opener < 65536) where
  pub carried_same : lift_of (engine_of opener) (engine_of to) list ≡ same → all_words (carried to (file_list opener list)) ≡ to ∷ list
  unfolding carried carried_by is_version_word
  carried_same e = rw (lt-ltb opener 65536 version, carried, e) refl

  pub carried-lifted : (out : List ℕ) → lift_of (engine_of opener) (engine_of to) list ≡ lifted out
      → all_words (carried to (file_list opener list)) ≡ to ∷ out
  unfolding carried carried_by is_version_word
  carried-lifted out e = rw (lt-ltb opener 65536 version, carried, e) refl

pub listed : {a b : List ℕ} {at r : ℕ} {given words : List ℕ} → length words ≤ 20481 → given ≡ words → Wrote a at (bytes_of words) r b
    → (r ≤ at + 81924) × Wrote a at (bytes_of given) r b
listed {words = words} few e w = (omega (arith, w.ends, bytes-length words), rw e w)
