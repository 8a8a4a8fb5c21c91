-- The lift as the library exports it: where a call is turned back, by the table's order and before anything is changed; and what is told
-- of every other call, with the list that a place is of.
use Rattle.std.specs.Prelude.{ℕ, ◌*◌, ◌≡◌, List, [], ◌∷◌, leb, length, take, Result, Ok, Err}
use Rattle.std.proofs.Math.Option.{Option, none, some}
use Rattle.molang.specs.FirstFailure.{must, first_of}
use Rattle.molang.specs.Words.{Refusal, row, tokens_of}
use Rattle.molang.specs.Nesting.{too_deep}
use Rattle.molang.specs.Parse.{refusal}
use Rattle.molang.specs.Lift.{Lifted, same, lifted, behind, lift_refusal, lift_of}
use Rattle.accept.specs.declared.Sizes.{Sizes}
use Rattle.accept.specs.Accepting.{call_of}
use Rattle.lift.specs.Lifting.{LiftCall, room_refusal, first_limit, LiftTold, stays_same, comes_out, has_messages, stays_behind, lift_left}
use Rattle.lift.specs.Lifting.{tree_left}
use Rattle.lift.specs.declared.entry.Lot.{Lot}
use Rattle.lift.specs.declared.entry.Lot.TheVariants.{Same, Lifted as CameOut, Messages, Behind, Unwritten}
use Rattle.words.specs.Refusals.{reason_number}
use Rattle.words.specs.declared.refusals.Refusal as code

-- ---- What is told

-- The list stays, with the nodes of its tree; so many tokens came out; the old engine has so many messages. The call is turned back, with
-- number and place; the list as it is stays behind; or what would be written of its tree does.
pub data LotTold : Type 0 where
  unchanged rewritten with_messages : ℕ → LotTold
  turned_back left_behind left_unwritten : ℕ → ℕ → LotTold

-- What each case of `Lot` tells.
abbrev pub lot_told : Result Lot code.Refusal → LotTold
lot_told (Ok (Same nodes)) = unchanged nodes
lot_told (Ok (CameOut tokens)) = rewritten tokens
lot_told (Ok (Messages records)) = with_messages records
lot_told (Ok (Behind r)) = left_behind (reason_number r.reason) r.place
lot_told (Ok (Unwritten r)) = left_unwritten (reason_number r.reason) r.place
lot_told (Err r) = turned_back (reason_number r.reason) r.place

-- A list that stays behind does so as it is, if it is too deep for the new limit; else for what would be written.
abbrev pub behind_as : Option ℕ → ℕ → ℕ → LotTold
behind_as (some token) number place = left_behind number place
behind_as none number place = left_unwritten number place

-- What is told of a call that is not turned back, by whether its list is too deep for the new limit.
abbrev pub lot_of : Option ℕ → LiftTold → LotTold
lot_of deep (stays_same nodes) = unchanged nodes
lot_of deep (comes_out tokens) = rewritten tokens
lot_of deep (has_messages records) = with_messages records
lot_of deep (stays_behind number place) = behind_as deep number place

-- A call with a refusal is turned back; of another this is told.
abbrev pub or_turned : Option Refusal → LotTold → LotTold
or_turned (some r) told = turned_back r.number r.place
or_turned none told = told

-- ---- The entry

-- WHERE THE CALL IS TURNED BACK: answers 1 to 5 by its lengths, 17, 8 to 11 and 18 of the old engine, and 15 if the output has not room for
-- every list that can be written.
unfoldable pub entry_refusal : LiftCall → Option Refusal
entry_refusal c =
    first_of (room_refusal c ∷ lift_refusal c.from c.to c.list ∷ must (leb 20480 (length c.output)) (row 15 0) ∷ [])

-- WHAT THE CALLER IS TOLD.
unfoldable pub entry_told : LiftCall → LotTold
entry_told c = or_turned (entry_refusal c) (lot_of (too_deep c.to.limit (tokens_of c.list)) (lift_left c).told)

-- By whether a call is turned back.
unfoldable pub kept_or : Option Refusal → List ℕ → List ℕ → List ℕ
kept_or (some r) before after = before
kept_or none before after = after

-- A LENT BUFFER AFTER THE CALL: a call that is turned back leaves it as it was.
unfoldable pub entry_left : LiftCall → List ℕ → List ℕ → List ℕ
entry_left c before after = kept_or (entry_refusal c) before after

-- The definition's lift, by what is told and what the output holds.
unfoldable pub lot_lift : LotTold → List ℕ → Lifted
lot_lift (unchanged nodes) output = same
lot_lift (rewritten tokens) output = lifted (take (5 * tokens) output)
lot_lift (with_messages records) output = behind 0 records
lot_lift (turned_back number place) output = behind number place
lot_lift (left_behind number place) output = behind number place
lot_lift (left_unwritten number place) output = behind number place

-- THE ENTRY'S PROMISE: what is told, what each lent buffer holds after the call, and that it is the definition's lift.
pub record HasEntered (c : LiftCall) (says : LotTold) (tree' again' messages' work' output' : List ℕ) : Type 0 where
  pub told : says ≡ entry_told c
  pub tree : tree' ≡ entry_left c c.tree (tree_left c)
  pub again : again' ≡ entry_left c c.again (lift_left c).again
  pub messages : messages' ≡ entry_left c c.messages (lift_left c).messages
  pub work : work' ≡ entry_left c c.work (lift_left c).work
  pub output : output' ≡ entry_left c c.output (lift_left c).output
  pub lift : entry_refusal c ≡ none → lift_of c.from c.to c.list ≡ lot_lift says output'

-- ---- What the functions below it ask and promise

-- Answers 1 to 5, 17, 8 to 11 and 18, by lengths and limits.
abbrev pub turned_by : List ℕ → Sizes → ℕ → ℕ → Option Refusal
turned_by list sizes from to = refusal (call_of list sizes (record { low = 0; high = 0 }) (first_limit from to))

-- An outcome that can be told: only a list that stays behind can have been turned back.
abbrev pub CanTell : Option Refusal → LiftTold → Type 0
CanTell o (stays_same nodes) = o ≡ none
CanTell o (comes_out tokens) = o ≡ none
CanTell o (has_messages records) = o ≡ none
CanTell o (stays_behind number place) = Unit {0}
