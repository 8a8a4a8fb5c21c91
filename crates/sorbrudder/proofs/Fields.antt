-- An answer whose values fit is found again in its number. Assumes nothing.
use mathlib.Core.Path.{◌≡◌, refl}
use Prim.Native.Nat.{ℕ, ◌^◌, ◌<◌}
use native.Mathlib.Omega.{arith}
use Rattle.molang.specs.{Parse.{Call, Told, a_tree, some_messages, refused, answered}, Rules.{RuleCall, rule_answered}}
use Rattle.molang.specs.WriteEntry.{WriteCall, WriteTold, tokens, unwritten, write_answered}
use Rattle.molang.specs.StackOrder.{ReorderCall, ReorderTold, reordered, not_reordered, export_answered, import_answered}
use Rattle.sorbrudder.specs.Numbers.{packed, kind_in, number_in, low_in, told_number, told_back, write_number, write_back, FitsTold}
use Rattle.sorbrudder.specs.Numbers.{reorder_number, reorder_back}
use Rattle.sorbrudder.proofs.Bounds.{FitsWritten, FitsReordered, told-fits, ruled-fits, written-fits, exported-fits, imported-fits}

module _ (kind number low : ℕ) (n : number < 2 ^ 8) (l : low < 2 ^ 32) where
  pub kind-in : kind_in (packed kind number low) ≡ kind
  kind-in = omega arith

  pub number-in : number_in (packed kind number low) ≡ number
  number-in = omega arith

  pub low-in : low_in (packed kind number low) ≡ low
  low-in = omega arith

-- So no two answers that fit have the same number.
pub told-found : (o : Told) → FitsTold o → told_back (told_number o) ≡ o
told-found (a_tree n) h = rw (kind-in 0 0 n (omega arith) h, low-in 0 0 n (omega arith) h) refl
told-found (some_messages n) h = rw (kind-in 1 0 n (omega arith) h, low-in 1 0 n (omega arith) h) refl
told-found (refused n p) h = rw (kind-in 2 n p h.0 h.1, number-in 2 n p h.0 h.1, low-in 2 n p h.0 h.1) refl

written-found : (o : WriteTold) → FitsWritten o → write_back (write_number o) ≡ o
written-found (tokens n) h = rw (kind-in 0 0 n (omega arith) h, low-in 0 0 n (omega arith) h) refl
written-found (unwritten n p) h = rw (kind-in 2 n p h.0 h.1, number-in 2 n p h.0 h.1, low-in 2 n p h.0 h.1) refl

reordered-found : (o : ReorderTold) → FitsReordered o → reorder_back (reorder_number o) ≡ o
reordered-found (reordered n) h = rw (kind-in 0 0 n (omega arith) h, low-in 0 0 n (omega arith) h) refl
reordered-found (not_reordered n p) h = rw (kind-in 2 n p h.0 h.1, number-in 2 n p h.0 h.1, low-in 2 n p h.0 h.1) refl

-- THE NUMBER OF EVERY CALL'S ANSWER gives the answer back.
pub told_back_lem : (c : Call) → told_back (told_number (answered c)) ≡ answered c
told_back_lem c = told-found (answered c) (told-fits c)

pub ruled-back : (c : RuleCall) → told_back (told_number (rule_answered c)) ≡ rule_answered c
ruled-back c = told-found (rule_answered c) (ruled-fits c)

pub written_back : (w : WriteCall) → write_back (write_number (write_answered w)) ≡ write_answered w
written_back w = written-found (write_answered w) (written-fits w)

pub exported-back : (c : ReorderCall) → reorder_back (reorder_number (export_answered c)) ≡ export_answered c
exported-back c = reordered-found (export_answered c) (exported-fits c)

pub imported-back : (c : ReorderCall) → reorder_back (reorder_number (import_answered c)) ≡ import_answered c
imported-back c = reordered-found (import_answered c) (imported-fits c)
