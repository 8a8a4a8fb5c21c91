-- The exported lift: the values of its answers fit its number's fields, and are found again there. Assumes nothing.
use Prim.Native.Nat.{ℕ, ◌+◌, ◌*◌, ◌≤◌, ◌<◌, ◌^◌}
use mathlib.Core.{Path.{◌≡◌, refl, ap, ◌∙◌}, Bool.{Bool, true, false}, List.{List}, Option.{Option, none, some}}
use native.Mathlib.Omega.{arith}
use lib.{Dec.{leb}, ListN.{length, take, length-take}}
use Rattle.molang.specs.{Words.{Refusal, row, tokens_of, with_number}, Nesting.{too_deep}, FirstFailure.{must}}
use Rattle.molang.specs.{WriteEntry.{WriteCall, WriteTold, tokens, unwritten, write_answered, list_after}, Parse.{Told, a_tree, some_messages, refused, answered}}
use Rattle.molang.proofs.{FirstFailure.{All, all-must}, Refusals.{Within, above_within}, ListWords.{tokens-count}}
use Rattle.accept.specs.Accepting.{verdict}
use Rattle.lift.specs.Lifting.{LiftCall, Handed, handed, room_refusal, first_call, second_call, writer_call, LiftTold, stays_same, comes_out}
use Rattle.lift.specs.Lifting.{has_messages, stays_behind, held_told, after_writing, written_out, same_told, or_written_out, after_second, stopped}
use Rattle.lift.specs.Lifting.{after_first, by_room, lift_left}
use Rattle.lift.specs.Entry.{LotTold, unchanged, rewritten, with_messages, turned_back, left_behind, left_unwritten, lot_of, or_turned}
use Rattle.lift.specs.Entry.{entry_refusal, entry_told, lot_lift, HasEntered}
use Rattle.lift.proofs.EntryLaws.{turned_row, turned-within, or_last, last_row, room-free}
use Rattle.sorbrudder.specs.{Numbers.{FitsTold}, Lifting.{lot_number, lot_back, FitsLot, HasLiftedTo}}
use Rattle.sorbrudder.proofs.{Bounds.{FitsWritten, told-fits, written-fits}, Fields.{kind-in, number-in, low-in}}

-- ---- Bounds

-- What the lift comes to, with values that fit.
abbrev FitsLift : LiftTold → Type 0
FitsLift (stays_same nodes) = nodes < 2 ^ 32
FitsLift (comes_out count) = count < 2 ^ 32
FitsLift (has_messages records) = records < 2 ^ 32
FitsLift (stays_behind number place) = (number < 2 ^ 8) × (place < 2 ^ 32)

-- Answer 18's place is a token of the list.
held_fits : (count limit : ℕ) (words : List ℕ) → count < 2 ^ 32 → length words ≤ 5 * count
    → FitsLift (held_told count (verdict count (with_number 18 (too_deep limit (tokens_of words)))))
unfolding too_deep
held_fits count limit words fits few = by (too_deep limit (tokens_of words)) (above_within limit 0 0 count (tokens_of words) short)
  where
    short : 0 + length (tokens_of words) ≤ count
    short = omega (arith, tokens-count words, few)

    by : (o : Option ℕ) → All (λ p. p < count) o → FitsLift (held_told count (verdict count (with_number 18 o)))
    by none h = fits
    by (some place) h = (omega arith, omega (arith, h, fits))

out-fits : (tree output : List ℕ) (limit nodes : ℕ) → FitsLift (written_out tree output limit nodes).told
unfolding written_out after_writing
out-fits tree output limit nodes = by (write_answered w) (written-fits w)
  where
    w : WriteCall
    w = writer_call tree output nodes

    by : (t : WriteTold) → FitsWritten t → FitsLift (after_writing limit w t).told
    by (tokens count) h =
        held_fits count limit (take (5 * count) (list_after w)) h (omega (arith, length-take (5 * count) (list_after w)))
    by (unwritten number place) h = h

second_fits : (tree again output : List ℕ) (limit nodes : ℕ) → nodes < 2 ^ 32 → (t : Told) → FitsTold t
    → FitsLift (after_second tree again output limit nodes t).told
unfolding after_second or_written_out
second_fits tree again output limit nodes fits (refused number place) h = h
second_fits tree again output limit nodes fits (some_messages records) h = out-fits tree output limit nodes
second_fits tree again output limit nodes fits (a_tree m) h = by (same_told nodes (a_tree m) tree again)
  where
    by : (b : Bool) → FitsLift (or_written_out b tree output limit nodes).told
    by true = fits
    by false = out-fits tree output limit nodes

first_fits : (h : Handed) (t : Told) → FitsTold t → FitsLift (after_first h t).told
unfolding after_first stopped
first_fits h (refused number place) f = f
first_fits h (some_messages records) f = f
first_fits h (a_tree nodes) f = second_fits _ _ _ _ nodes f (answered (second_call h)) (told-fits (second_call h))

lift-fits : (c : LiftCall) → room_refusal c ≡ none → FitsLift (lift_left c).told
unfolding lift_left by_room
lift-fits c free = rw free (first_fits (handed c) (answered (first_call c)) (told-fits (first_call c)))

entry-within : (c : LiftCall) → All (Within 18 20480) (entry_refusal c)
unfolding entry_refusal
entry-within c =
    rw (last_row _ _ (must (leb 20480 (length c.output)) (row 15 0)))
    (by (turned_row c) (must (leb 20480 (length c.output)) (row 15 0)) (turned-within c)
    (all-must (Within 18 20480) _ (row 15 0) (omega arith, omega arith)))
  where
    by : (o d : Option Refusal) → All (Within 18 20480) o → All (Within 18 20480) d → All (Within 18 20480) (or_last o d)
    by none d x y = y
    by (some r) d x y = x

lot-fits : (deep : Option ℕ) (t : LiftTold) → FitsLift t → FitsLot (lot_of deep t)
lot-fits deep (stays_same nodes) h = h
lot-fits deep (comes_out count) h = h
lot-fits deep (has_messages records) h = h
lot-fits none (stays_behind number place) h = h
lot-fits (some token) (stays_behind number place) h = h

-- THE VALUES OF EVERY ANSWER FIT.
pub entry-fits : (c : LiftCall) → FitsLot (entry_told c)
unfolding entry_told
entry-fits c = by (entry_refusal c) refl (entry-within c)
  where
    by : (o : Option Refusal) → entry_refusal c ≡ o → All (Within 18 20480) o
        → FitsLot (or_turned o (lot_of (too_deep c.to.limit (tokens_of c.list)) (lift_left c).told))
    by (some r) e x = (omega (arith, x.0), omega (arith, x.1))
    by none e x = lot-fits _ (lift_left c).told (lift-fits c (room-free c e))

-- ---- The way back

lot-found : (t : LotTold) → FitsLot t → lot_back (lot_number t) ≡ t
lot-found (unchanged n) h = rw (kind-in 0 0 n (omega arith) h, low-in 0 0 n (omega arith) h) refl
lot-found (with_messages n) h = rw (kind-in 1 0 n (omega arith) h, low-in 1 0 n (omega arith) h) refl
lot-found (turned_back n p) h = rw (kind-in 2 n p h.0 h.1, number-in 2 n p h.0 h.1, low-in 2 n p h.0 h.1) refl
lot-found (rewritten n) h = rw (kind-in 3 0 n (omega arith) h, low-in 3 0 n (omega arith) h) refl
lot-found (left_behind n p) h = rw (kind-in 4 n p h.0 h.1, number-in 4 n p h.0 h.1, low-in 4 n p h.0 h.1) refl
lot-found (left_unwritten n p) h = rw (kind-in 5 n p h.0 h.1, number-in 5 n p h.0 h.1, low-in 5 n p h.0 h.1) refl

-- THE NUMBER OF EVERY CALL'S ANSWER gives the answer back.
pub lifted-back : (c : LiftCall) → lot_back (lot_number (entry_told c)) ≡ entry_told c
lifted-back c = lot-found (entry_told c) (entry-fits c)

-- ---- The promise

-- What the entry promises is what the export promises, with its number.
pub lifted-to : {c : LiftCall} {says : LotTold} {tree again messages work output : List ℕ}
    → HasEntered c says tree again messages work output
    → {number : ℕ} → number ≡ lot_number says
    → HasLiftedTo c number tree again messages work output
lifted-to {output = output} h e =
    record {
      told = e ∙ ap lot_number h.told;
      tree = h.tree;
      again = h.again;
      messages = h.messages;
      work = h.work;
      output = h.output;
      lift = λ free. h.lift free ∙ ap (λ (t : LotTold). lot_lift t output) h.told;
    }
