-- Words that are numbers of sixteen bits, one by one and in chunks of whole words.
use Prim.Native.Nat.{ℕ, ◌+◌, ◌%◌, ◌≤◌, ◌<◌}
use mathlib.Core.{Path.{◌≡◌, refl, ap, sym, ◌∙◌}, Bool.{true, false, ◌&&◌, and_assoc}, List.{List, [], ◌∷◌, ◌++◌}}
use native.Mathlib.{Numerals.{add-one}, Omega.{arith}}
use lib.{Dec.{leb, ltb}, ListN.{length, drop, get_or, drop_of_length-le}, Seq.{drop-cons}}
use borrow.Author.Tests.{lt-ltb, le-ltb}
use Rattle.std.specs.List.{list_all}
use Rattle.std.proofs.lemmas.Bool.Decides.{nat_tests}
use Rattle.listing.specs.Lists.{words_in}
use Rattle.everylist.specs.EveryList.{is_number, all_numbers}
use Rattle.everylist.proofs.PartLaws.{words_append}

-- The library's `all` is the definition's test of each word.
pub numbers-listed : (ws : List ℕ) → list_all (λ (w : ℕ). leb w 65535) ws ≡ all_numbers ws
unfolding all_numbers is_number
numbers-listed [] = refl
numbers-listed (w ∷ ws) = rw (numbers-listed ws, same w) refl
  where
    same : (w : ℕ) → leb w 65535 ≡ ltb w 65536
    same w = grind (arith, nat_tests)

-- ONE BY ONE. The words from one on decide where those before it are such numbers.
module _ (ws : List ℕ) (i : ℕ) (e : all_numbers ws ≡ all_numbers (drop i ws)) where
  first-decides : i < length ws → all_numbers ws ≡ (is_number (get_or ws i 0) && all_numbers (drop (i + 1) ws))
  first-decides h = unfold all_numbers in e ∙ (ap all_numbers (drop-cons ws i 0 h) ∙ rw (add-one i) refl)

  pub number-on : (w : ℕ) → w ≡ get_or ws i 0 → i < length ws → w ≤ 65535 → all_numbers ws ≡ all_numbers (drop (i + 1) ws)
  number-on w at h low = unfold is_number in first-decides h ∙ rw (← at, lt-ltb w 65536 (omega arith)) refl

  pub number-off : (w : ℕ) → w ≡ get_or ws i 0 → i < length ws → 65535 < w → false ≡ all_numbers ws
  number-off w at h high = unfold is_number in sym (first-decides h ∙ rw (← at, le-ltb w 65536 (omega arith)) refl)

  pub numbers-all : length ws ≤ i → true ≡ all_numbers ws
  numbers-all h = unfold all_numbers in sym (e ∙ ap all_numbers (drop_of_length-le ws h))

-- IN CHUNKS
pub numbers-append : (vs ws : List ℕ) → all_numbers (vs ++ ws) ≡ (all_numbers vs && all_numbers ws)
unfolding all_numbers
numbers-append [] ws = refl
numbers-append (v ∷ vs) ws = rw (numbers-append vs ws) (sym (and_assoc (is_number v) (all_numbers vs) (all_numbers ws)))

-- CHUNKS OF WHOLE WORDS are as fine as all of them together.
pub fine-chunks : (whole bytes : List ℕ) → length whole % 4 ≡ 0
    → all_numbers (words_in (whole ++ bytes)) ≡ (all_numbers (words_in whole) && all_numbers (words_in bytes))
fine-chunks whole bytes h = ap all_numbers (words_append whole bytes h) ∙ numbers-append (words_in whole) (words_in bytes)
