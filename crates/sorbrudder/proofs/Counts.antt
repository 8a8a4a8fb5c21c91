-- The answers of the writer, of export and of import are counts or refusals, whose numbers are those of the definitions' answers.
use Prim.Native.Nat.{ℕ}
use mathlib.Core.Path.{◌≡◌, refl, sym, ap, subst, ◌∙◌}
use Rattle.std.specs.Prelude.{Result, Ok, Err}
use Rattle.molang.specs.{WriteEntry.{WriteTold}, StackOrder.{ReorderTold}}
use Rattle.words.specs.declared.refusals.Refusal.{Refusal}
use Rattle.write.specs.Answers.{told_of as written_told}
use Rattle.stackorder.specs.Answers.{told_of as reordered_told}
use Rattle.sorbrudder.specs.Numbers.{write_number, reorder_number, count_number, FitsCount}
use Rattle.sorbrudder.proofs.Bounds.{FitsWritten, FitsReordered}

write-number : (r : Result ℕ Refusal) → count_number r ≡ write_number (written_told r)
write-number (Ok count) = refl
write-number (Err r) = refl

write-fits : (r : Result ℕ Refusal) → FitsWritten (written_told r) → FitsCount r
write-fits (Ok count) h = h
write-fits (Err r) h = h

reorder-number : (r : Result ℕ Refusal) → count_number r ≡ reorder_number (reordered_told r)
reorder-number (Ok count) = refl
reorder-number (Err r) = refl

reorder-fits : (r : Result ℕ Refusal) → FitsReordered (reordered_told r) → FitsCount r
reorder-fits (Ok count) h = h
reorder-fits (Err r) h = h

-- By what the entry promises to tell.
pub writes : (r : Result ℕ Refusal) {told : WriteTold} → written_told r ≡ told → FitsWritten told
    → FitsCount r × ((number : ℕ) → number ≡ count_number r → number ≡ write_number told)
writes r e fits =
    (write-fits r (subst (λ t. FitsWritten t) (sym e) fits), λ number n. n ∙ (write-number r ∙ ap write_number e))

pub reorders : (r : Result ℕ Refusal) {told : ReorderTold} → reordered_told r ≡ told → FitsReordered told
    → FitsCount r × ((number : ℕ) → number ≡ count_number r → number ≡ reorder_number told)
reorders r e fits =
    (reorder-fits r (subst (λ t. FitsReordered t) (sym e) fits), λ number n. n ∙ (reorder-number r ∙ ap reorder_number e))
