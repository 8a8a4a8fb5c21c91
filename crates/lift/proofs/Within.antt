-- What the lift ends in, with what `IsLift` leaves out: answer 15 comes only for a list of few enough tokens, and a list that came out lies
-- in the output. `lift-within` (Lifted) says it of every call.
use Rattle.std.specs.Prelude.{ℕ, ◌*◌, ◌≤◌, ◌<◌, ◌≡◌, List, length, take}
use Rattle.std.proofs.Math.Option.{none, some}
use Rattle.molang.specs.Words.{Refusal}
use Rattle.molang.specs.Parse.{most_tokens}
use Rattle.molang.specs.Forest.{Token, Forest}
use Rattle.molang.specs.Read.{tree as Answer·tree}
use Rattle.molang.specs.Plain.{unplain_at}
use Rattle.molang.specs.Write.{written_tree}
use Rattle.molang.specs.Lift.{own_reading, same, lifted, behind, lift_of}
use Rattle.lift.specs.Lifting.{LiftCall, room_refusal, LiftTold, stays_same, comes_out, has_messages, stays_behind}
use Rattle.lift.specs.Lifting.{IsLift, of_lengths, of_output, is_same, is_lifted, is_messages, is_behind}

pub data IsLiftWithin (c : LiftCall) (told : LiftTold) (output : List ℕ) : Type 0 where
  by_lengths : {r : Refusal} → room_refusal c ≡ some r → told ≡ stays_behind r.number r.place → IsLiftWithin c told output
  by_output : {k : Token} {cs : Forest} → own_reading c.from.version c.list ≡ Answer·tree k cs → unplain_at k cs ≡ none
      → length (written_tree k cs) ≤ most_tokens → length c.output < 5 * length (written_tree k cs) → told ≡ stays_behind 15 0
      → IsLiftWithin c told output
  list_stays : {nodes : ℕ} → lift_of c.from c.to c.list ≡ same → told ≡ stays_same nodes → IsLiftWithin c told output
  list_comes : {count : ℕ} → lift_of c.from c.to c.list ≡ lifted (take (5 * count) output) → 5 * count ≤ length c.output
      → told ≡ comes_out count → IsLiftWithin c told output
  list_told : {records : ℕ} → lift_of c.from c.to c.list ≡ behind 0 records → told ≡ has_messages records → IsLiftWithin c told output
  list_behind : {number place : ℕ} → lift_of c.from c.to c.list ≡ behind number place → told ≡ stays_behind number place
      → IsLiftWithin c told output

-- The definition's way of ending.
pub within-lift : {c : LiftCall} {told : LiftTold} {output : List ℕ} → IsLiftWithin c told output → IsLift c told output
within-lift (by_lengths e t) = of_lengths e t
within-lift (by_output reads plain few short t) = of_output reads plain short t
within-lift (list_stays e t) = is_same e t
within-lift (list_comes e fits t) = is_lifted e t
within-lift (list_told e t) = is_messages e t
within-lift (list_behind e t) = is_behind e t
