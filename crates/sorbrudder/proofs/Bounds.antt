-- The values of every answer fit its number's fields: counts and places stay below 2 ^ 32, refusals' numbers below 2 ^ 8. The places of
-- answers 12 and 24 are at most 86,016; answer 13's is a node of the tree. Assumes nothing.
use mathlib.Core.{Path.{◌≡◌, refl, ap}, Bool.{Bool, true, false}, List.{[], ◌∷◌}, Option.{Option, none, some}}
use Prim.Native.Nat.{ℕ, suc, ◌+◌, ◌*◌, ◌^◌, ◌≤◌, ◌<◌}
use native.Mathlib.Omega.{arith}
use lib.{Dec.{leb}, ListN.{length}}
use borrow.Author.Tests.{leb-true}
use Rattle.molang.specs.{Forest.{Token, Forest, nil, node, size}, Words.{Refusal, row, with_number, operator_field}}
use Rattle.molang.specs.{FirstFailure.{must, first_of}, Parse.{Call, most_tokens, refusal, reading, told, answered}}
use Rattle.molang.specs.{Rules.{RuleCall, rule_refusal, rule_answered}, Plain.{plain_form, seat_of, unplain, unplain_at}, Write.{written_tree}}
use Rattle.molang.specs.WriteEntry.{tree_fault, trees_of, WriteCall, forest_refusal, write_refusal, written_tokens, write_told, write_answered}
use Rattle.molang.specs.WriteEntry.{WriteTold, tokens, unwritten}
use Rattle.molang.specs.StackOrder.{ReorderCall, stack_fault, output_refusal, export_refusal, import_refusal, reorder_told, export_answered}
use Rattle.molang.specs.StackOrder.{import_answered, ReorderTold, reordered, not_reordered}
use Rattle.molang.proofs.{Accepted.{call-accepted, rule-accepted}, Bounds.{read-tree, read-messages}, FirstFailure.{All, last_one}}
use Rattle.molang.proofs.{Refusals.{Within, refusal-within, rule-refusal-within}, TreeWords.{tree-fault-none, tree-place}}
use Rattle.molang.proofs.{StackWords.{stack-fault-none, stack-place}, StackOrder.{trees-of-tree, tree-few, stack-few}}
use Rattle.molang.specs.Read as read
use Rattle.sorbrudder.specs.Numbers.{FitsTold}

-- The values of the write entry's answer fit the fields.
abbrev pub FitsWritten : WriteTold → Type 0
FitsWritten (tokens count) = count < 2 ^ 32
FitsWritten (unwritten number place) = (number < 2 ^ 8) × (place < 2 ^ 32)

-- The same of the answer of export and import.
abbrev pub FitsReordered : ReorderTold → Type 0
FitsReordered (reordered nodes) = nodes < 2 ^ 32
FitsReordered (not_reordered number place) = (number < 2 ^ 8) × (place < 2 ^ 32)

-- ---- Answer 13

unplain-place : (p : Option Token) (i n : ℕ) (f : Forest) → All (λ m. m < n + size f) (unplain p i n f)
unfolding unplain first_of must size
unplain-place p i n nil = tt
unplain-place p i n (node k cs rest) =
    split (plain_form (seat_of p i) k cs) (unplain (some k) 0 (suc n) cs) (unplain p (suc i) (suc n + size cs) rest)
    (unplain-place (some k) 0 (suc n) cs) (unplain-place p (suc i) (suc n + size cs) rest)
  where
    split : (b : Bool) (o later : Option ℕ) → All (λ m. m < suc n + size cs) o → All (λ m. m < suc n + size cs + size rest) later
        → All (λ m. m < n + (1 + size cs + size rest)) (first_of (must b n ∷ o ∷ later ∷ []))
    split false o later x y = omega arith
    split true (some m) later x y = omega arith
    split true none none x y = tt
    split true none (some m) x y = omega arith

-- ---- THE WRITE ENTRY

-- Answers 13 to 15, or the count, of a tree of so many nodes.
forest-fits : (f : Forest) (room : ℕ) → 7 * size f ≤ 86016 → FitsWritten (write_told (forest_refusal f room) f)
unfolding forest_refusal first_of must write_told written_tokens size unplain_at
forest-fits nil room h = omega arith
forest-fits (node k cs rest) room h =
    split (unplain none 0 0 (node k cs nil)) (leb n most_tokens) (leb (5 * n) room) refl (unplain-place none 0 0 (node k cs nil))
  where
    n : ℕ
    n = length (written_tree k cs)

    split : (o : Option ℕ) (a b : Bool) → leb n most_tokens ≡ a → All (λ m. m < 0 + size (node k cs nil)) o
        → FitsWritten (write_told (first_of (with_number 13 o ∷ must a (row 14 0) ∷ must b (row 15 0) ∷ [])) (node k cs rest))
    split (some m) a b e x = (omega arith, omega arith)
    split none false b e x = (omega arith, omega arith)
    split none true false e x = (omega arith, omega arith)
    split none true true e x = omega (arith, leb-true n most_tokens e)

pub written-fits : (w : WriteCall) → FitsWritten (write_answered w)
unfolding write_answered write_refusal first_of write_told
written-fits w = split (tree_fault 0 operator_field 0 (record { called = 1; begun = 0 }) w.tree) refl
  where
    later : Option Refusal
    later = forest_refusal (trees_of w.tree) (length w.list)

    split : (o : Option ℕ) → tree_fault 0 operator_field 0 (record { called = 1; begun = 0 }) w.tree ≡ o
        → FitsWritten (write_told (first_of (with_number 12 o ∷ later ∷ [])) (trees_of w.tree))
    split (some p) e = (omega arith, omega (arith, tree-place w.tree p e))
    split none e =
        let t = (tree-fault-none w.tree).0 e in
        rw (last_one later)
        (forest-fits (trees_of w.tree) (length w.list) (omega (arith, ap size (trees-of-tree t), t.few)))

-- ---- EXPORT AND IMPORT

-- Answer 25, or the count, of so many words.
output-fits : (c : ReorderCall) → length c.words ≤ 86016 → FitsReordered (reorder_told (output_refusal c) c.words)
unfolding output_refusal must reorder_told
output-fits c h = split (leb (length c.words) (length c.output))
  where
    split : (b : Bool) → FitsReordered (reorder_told (must b (row 25 0)) c.words)
    split true = omega arith
    split false = (omega arith, omega arith)

pub exported-fits : (c : ReorderCall) → FitsReordered (export_answered c)
unfolding export_answered export_refusal first_of reorder_told
exported-fits c = split (tree_fault 0 operator_field 0 (record { called = 1; begun = 0 }) c.words) refl
  where
    split : (o : Option ℕ) → tree_fault 0 operator_field 0 (record { called = 1; begun = 0 }) c.words ≡ o
        → FitsReordered (reorder_told (first_of (with_number 12 o ∷ output_refusal c ∷ [])) c.words)
    split (some p) e = (omega arith, omega (arith, tree-place c.words p e))
    split none e = rw (last_one (output_refusal c)) (output-fits c (tree-few ((tree-fault-none c.words).0 e)))

pub imported-fits : (c : ReorderCall) → FitsReordered (import_answered c)
unfolding import_answered import_refusal first_of reorder_told
imported-fits c = split (stack_fault 0 operator_field 0 (record { done = 0; begun = 0 }) c.words) refl
  where
    split : (o : Option ℕ) → stack_fault 0 operator_field 0 (record { done = 0; begun = 0 }) c.words ≡ o
        → FitsReordered (reorder_told (first_of (with_number 24 o ∷ output_refusal c ∷ [])) c.words)
    split (some p) e = (omega arith, omega (arith, stack-place c.words p e))
    split none e = rw (last_one (output_refusal c)) (output-fits c (stack-few ((stack-fault-none c.words).0 e)))

-- ---- THE PARSE ENTRY

-- The answer to a call, by a table that turns back all that the entry's does.
pub answer-fits : (c : Call) (o : Option Refusal) → (o ≡ none → refusal c ≡ none) → All (Within 23 20480) o → FitsTold (told o (reading c))
unfolding told reading
answer-fits c o accepted within = split o (reading c) accepted refl within
  where
    split : (o : Option Refusal) (a : read.Answer) → (o ≡ none → refusal c ≡ none) → reading c ≡ a → All (Within 23 20480) o
        → FitsTold (told o a)
    split (some r) a e f x = (omega (arith, x.0), omega (arith, x.1))
    split none (read.tree k cs) e f x = omega (arith, (call-accepted c (e refl)).few, read-tree _ _ _ _ k cs f)
    split none (read.messages ms) e f x = omega (arith, (read-messages _ _ _ _ ms f).1)

-- Numbers up to 18 are among those up to 23.
more_numbers : (o : Option Refusal) → All (Within 18 20480) o → All (Within 23 20480) o
more_numbers none x = tt
more_numbers (some r) x = (omega (arith, x.0), x.1)

pub entry-within : (c : Call) → All (Within 23 20480) (refusal c)
entry-within c = more_numbers (refusal c) (refusal-within c)

pub told-fits : (c : Call) → FitsTold (answered c)
unfolding answered
told-fits c = answer-fits c (refusal c) (λ e. e) (entry-within c)

-- The same with a rule buffer.
pub ruled-fits : (c : RuleCall) → FitsTold (rule_answered c)
unfolding rule_answered
ruled-fits c = answer-fits c.call (rule_refusal c) (rule-accepted c) (more_numbers (rule_refusal c) (rule-refusal-within c))
