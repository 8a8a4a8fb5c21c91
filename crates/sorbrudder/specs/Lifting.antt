-- The lift's answer as one number, and the way back; and the promise of the exported lift.
use Rattle.std.specs.Prelude.{ℕ, zero, suc, ◌^◌, ◌<◌, ◌≡◌, List}
use Rattle.std.proofs.Math.Option.{none}
use Rattle.molang.specs.Lift.{lift_of}
use Rattle.lift.specs.Lifting.{LiftCall, lift_left, tree_left}
use Rattle.lift.specs.Entry.{LotTold, unchanged, rewritten, with_messages, turned_back, left_behind, left_unwritten, entry_refusal, entry_told}
use Rattle.lift.specs.Entry.{entry_left, lot_lift}
use Rattle.sorbrudder.specs.Numbers.{packed, kind_in, number_in, low_in}

-- THE LIFT'S ANSWER as a number: kind 0 a list that stays, with the nodes of its tree, 1 messages, 2 a refusal, 3 a list that came out,
-- with its tokens, 4 a list that stays behind as it is, 5 one of which nothing can be written.
abbrev pub lot_number : LotTold → ℕ
lot_number (unchanged nodes) = packed 0 0 nodes
lot_number (with_messages records) = packed 1 0 records
lot_number (turned_back number place) = packed 2 number place
lot_number (rewritten tokens) = packed 3 0 tokens
lot_number (left_behind number place) = packed 4 number place
lot_number (left_unwritten number place) = packed 5 number place

-- The answer of a kind with these values.
abbrev pub lot_of_kind : ℕ → ℕ → ℕ → LotTold
lot_of_kind zero number low = unchanged low
lot_of_kind (suc zero) number low = with_messages low
lot_of_kind (suc (suc zero)) number low = turned_back number low
lot_of_kind (suc (suc (suc zero))) number low = rewritten low
lot_of_kind (suc (suc (suc (suc zero)))) number low = left_behind number low
lot_of_kind (suc (suc (suc (suc (suc k))))) number low = left_unwritten number low

-- The answer that a number stands for.
abbrev pub lot_back : ℕ → LotTold
lot_back n = lot_of_kind (kind_in n) (number_in n) (low_in n)

-- An answer whose values fit the fields.
abbrev pub FitsLot : LotTold → Type 0
FitsLot (unchanged nodes) = nodes < 2 ^ 32
FitsLot (with_messages records) = records < 2 ^ 32
FitsLot (turned_back number place) = (number < 2 ^ 8) × (place < 2 ^ 32)
FitsLot (rewritten tokens) = tokens < 2 ^ 32
FitsLot (left_behind number place) = (number < 2 ^ 8) × (place < 2 ^ 32)
FitsLot (left_unwritten number place) = (number < 2 ^ 8) × (place < 2 ^ 32)

-- THE EXPORTED LIFT'S PROMISE: the answer's number, and what each lent buffer holds after the call, as it was if the call is turned back;
-- and that what is told of every other call is the definition's lift.
pub record HasLiftedTo (c : LiftCall) (number : ℕ) (tree' again' messages' work' output' : List ℕ) : Type 0 where
  pub told : number ≡ lot_number (entry_told c)
  pub tree : tree' ≡ entry_left c c.tree (tree_left c)
  pub again : again' ≡ entry_left c c.again (lift_left c).again
  pub messages : messages' ≡ entry_left c c.messages (lift_left c).messages
  pub work : work' ≡ entry_left c c.work (lift_left c).work
  pub output : output' ≡ entry_left c c.output (lift_left c).output
  pub lift : entry_refusal c ≡ none → lift_of c.from c.to c.list ≡ lot_lift (entry_told c) output'
