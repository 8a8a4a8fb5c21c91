-- The list at a position, digit by digit: powers and their sums within bounds, the length of the list, and its letters from the left.
-- Assumes nothing.
use Prim.Native.Nat.{ℕ, zero, suc, ◌+◌, ◌*◌, ◌^◌, ◌/◌, ◌%◌, ◌-◌, ◌≤◌, ◌<◌}
use mathlib.Core.{Path.{◌≡◌, refl, ap, sym, ◌∙◌}, Bool.{true}, List.{List, [], ◌∷◌, ◌++◌}}
use native.Mathlib.Omega.{arith}
use native.Mathlib.Nat.{pow-zero, pow-suc, pow-le-pow_left, pow-le-pow_right, one-le-pow, le_trans, mul_comm, mul-div_cancel, div-add-mod'}
use native.Mathlib.{Nat.{mod-lt, div-lt_iff_lt-mul}, Numerals.{add-one}}
use lib.{Dec.{ltb}, ListN.{length, get_or}}
use borrow.Author.Tests.{ltb-true, ltb-false}
use Rattle.molang.{specs.Operator.{is_operator}, specs.Lines.{tokens_from}, specs.Parse.{in_front}}
use Rattle.molang.{specs.Words.{word, low_of, operator_bits, token_words, list_words}, proofs.Booleans.{either}, proofs.Words.{operator-small}}
use Rattle.words.{specs.Records.{laid_at}, proofs.RecordLaws.{laid-front, laid-length, laid-laid, none-laid}}
use Rattle.shortlists.specs.{declared.digits.Standing.{Standing}, Digits.{Found}, ShortLists.{of_length, powers, list_at}}
use Rattle.shortlists.proofs.ShortLists.{length-of, at_before, at_length, length_at}

-- ---- Powers

-- Up to eight letters, up to six of them.
power-few : (k n : ℕ) → k ≤ 8 → n ≤ 6 → k ^ n ≤ 262144
power-few k n few short = le_trans (pow-le-pow_left few n) (pow-le-pow_right (omega arith) short)

pub powers-few : (k n : ℕ) → k ≤ 8 → n ≤ 7 → powers k n ≤ 262144 * n
unfolding powers
powers-few k zero few short = omega arith
powers-few k (suc n) few short = omega (arith, powers-few k n few (omega arith), power-few k n few (omega arith))

-- One length more.
pub power-next : (k n size : ℕ) → size ≡ k ^ n → size * k ≡ k ^ (n + 1)
power-next k n size e = rw (e, add-one n) (sym (pow-suc k n))

pub power-next-few : (k n size : ℕ) → size ≡ k ^ n → k ≤ 8 → n < 6 → size * k ≤ 262144
power-next-few k n size e few short = omega (arith, power-next k n size e, power-few k (n + 1) few (omega arith))

pub powers-none : (k : ℕ) → powers k 0 ≡ 0
powers-none k = unfold powers in refl

pub powers-one : (k : ℕ) → 1 ≡ powers k 1
powers-one k = unfold powers in omega (arith, pow-zero k)

pub powers-next : (k n : ℕ) → powers k (n + 1) ≡ powers k n + k ^ n
powers-next k n = unfold powers in rw (add-one n) refl

-- A position behind all lists of at most n letters that is one of a list of at most six.
pub longer-still : (k n position : ℕ) → n ≤ 6 → position < powers k 7 → powers k (n + 1) ≤ position → n < 6
longer-still k n position short below above =
    either (ltb n 6) (ltb-true n 6)
    (λ e.
    let last : n + 1 ≡ 7 = omega (arith, ltb-false n 6 e) in
    let same : powers k (n + 1) ≡ powers k 7 = ap (powers k) last in
    absurd (omega arith))

-- ---- A letter's token

-- The words that the code makes.
pub token-words : (letter i : ℕ) → is_operator letter ≡ true → i < 6
    → word 1 (operator_bits (letter % 2 ^ 12) 0) ∷ word 2 (low_of i) ∷ word 3 (low_of (i + 1)) ∷ word 4 (0 / 2 ^ 16) ∷ word 5 (0 % 2 ^ 16) ∷ []
    ≡ list_words (tokens_from i (letter ∷ []))
unfolding list_words tokens_from token_words low_of
token-words letter i legal short =
    let number : letter % 2 ^ 12 ≡ letter = omega (arith, operator-small letter legal) in
    let start : i % 2 ^ 29 ≡ i = omega arith in
    let end : (i + 1) % 2 ^ 29 ≡ i + 1 = omega arith in
    rw (number, start, end) refl

-- ---- The letters of a list, from the left

tokens-length : (i : ℕ) (l : List ℕ) → length (tokens_from i l) ≡ length l
unfolding tokens_from
tokens-length i [] = refl
tokens-length i (a ∷ l) = ap suc (tokens-length (i + 1) l)

-- The list at a position, where the code has found its length.
module _ (letters : List ℕ) (position : ℕ) (s : Standing) (f : Found (length letters) position s) where
  below-size : s.left < length (of_length letters s.length)
  below-size = rw (length-of letters s.length) (omega (arith, f.left, f.size))

  pub listed_at : list_at letters 6 position ≡ tokens_from 0 (get_or (of_length letters s.length) s.left [])
  listed_at = unfold list_at in ap (tokens_from 0) (at_length letters s.length 6 position s.left f.short below-size f.whole)

  pub listed-length : s.length ≡ length (list_at letters 6 position)
  listed-length =
      sym
      (ap length listed_at
      ∙ (tokens-length 0 (get_or (of_length letters s.length) s.left []) ∙ length_at letters s.length s.left below-size))

-- The first token of a list, and the others.
first-token : (i a : ℕ) (l : List ℕ)
    → list_words (tokens_from i (a ∷ l)) ≡ list_words (tokens_from i (a ∷ [])) ++ list_words (tokens_from (i + 1) l)
first-token i a l = unfold list_words tokens_from token_words in refl

five-words : (i a : ℕ) → length (list_words (tokens_from i (a ∷ []))) ≡ 5
five-words i a = unfold list_words tokens_from token_words in refl

-- The first digit, and the position among the lists of one letter less.
pub record Digit (letters : List ℕ) (m size left : ℕ) : Type 0 where
  pub some : 0 < size
  pub power : size ≡ length letters ^ m
  pub first : left / size < length letters
  pub rest : left % size < size
  pub is : get_or (of_length letters (suc m)) left [] ≡ get_or letters (left / size) 0 ∷ get_or (of_length letters m) (left % size) []

digit : (letters : List ℕ) (m size left : ℕ) → 1 ≤ length letters → size ≡ length letters ^ suc m → left < size
    → Digit letters m (size / length letters) left
unfolding of_length
digit letters m size left some power below =
    let k = length letters in
    let next : size / k ≡ k ^ m = rw (power, pow-suc k m) (mul-div_cancel (k ^ m) some) in
    let pos : 0 < k ^ m = one-le-pow m k some in
    let many : length (of_length letters m) ≡ k ^ m = length-of letters m in
    let first : left / k ^ m < k = (div-lt_iff_lt-mul pos).1 (omega (arith, power, pow-suc k m, mul_comm k (k ^ m))) in
    let rest = mod-lt left pos in
    let whole : left ≡ left / k ^ m * length (of_length letters m) + left % k ^ m = rw many (sym (div-add-mod' left (k ^ m))) in
    rw next
    record {
      some = pos;
      power = refl;
      first = first;
      rest = rest;
      is = at_before letters (of_length letters m) (left / k ^ m) (left % k ^ m) left whole first (rw many rest);
    }

-- No letter is left.
no-letters : (letters : List ℕ) (i left : ℕ) → list_words (tokens_from i (get_or (of_length letters 0) left [])) ≡ []
unfolding of_length list_words tokens_from
no-letters letters i zero = refl
no-letters letters i (suc left) = refl

-- The loop over the letters of a list of n, i of which are laid: those that are to come, laid behind them, give the whole.
pub record Laying (letters : List ℕ) (n : ℕ) (whole : List ℕ) (size left : ℕ) (words : List ℕ) (i : ℕ) : Type 0 where
  pub within : i ≤ n
  pub power : size ≡ length letters ^ (n - i)
  pub below : left < size
  pub room : length words ≡ 30
  pub coming : laid_at (i * 5) (list_words (tokens_from i (get_or (of_length letters (n - i)) left []))) words ≡ whole

module _ (letters : List ℕ) (n : ℕ) (whole : List ℕ) where
  pub laying-first : (size left : ℕ) (words : List ℕ) → size ≡ length letters ^ n → left < size → length words ≡ 30
      → whole ≡ in_front (list_words (tokens_from 0 (get_or (of_length letters n) left []))) words
      → Laying letters n whole size left words 0
  laying-first size left words power below room is =
      let all : n - 0 ≡ n = omega arith in
      record {
        within = omega arith;
        power = rw all power;
        below = below;
        room = room;
        coming = rw all (laid-front (list_words (tokens_from 0 (get_or (of_length letters n) left []))) words ∙ sym is);
      }

  module _ (size left : ℕ) (words : List ℕ) (i : ℕ) (l : Laying letters n whole size left words i) where
    -- The next letter.
    pub laying-digit : 1 ≤ length letters → i < n → Digit letters (n - (i + 1)) (size / length letters) left
    laying-digit some more =
        let one : n - i ≡ suc (n - (i + 1)) = omega arith in digit letters (n - (i + 1)) size left some (rw one at l.power) l.below

    pub laying-next : 1 ≤ length letters → i < n → n ≤ 6 → (first rest : ℕ) (words' : List ℕ) → first ≡ left / (size / length letters)
        → rest ≡ left % (size / length letters)
        → words' ≡ laid_at (i * 5) (list_words (tokens_from i (get_or letters first 0 ∷ []))) words
        → Laying letters n whole (size / length letters) rest words' (i + 1)
    laying-next some more short first rest words' f r laid =
        let d = laying-digit some more in
        let one : n - i ≡ suc (n - (i + 1)) = omega arith in
        let a = get_or letters first 0 in
        let token = list_words (tokens_from i (a ∷ [])) in
        let others = get_or (of_length letters (n - (i + 1))) rest [] in
        let five = five-words i a in
        let room = l.room in
        let here : (i + 1) * 5 ≡ i * 5 + length token = omega arith in
        let list : get_or (of_length letters (n - i)) left [] ≡ a ∷ others = rw (one, f, r) d.is in
        record {
          within = omega arith;
          power = d.power;
          below = rw r d.rest;
          room = rw laid (laid-length (i * 5) token words (omega arith) ∙ room);
          coming =
              rw (laid, here)
              (laid-laid (i * 5) token (list_words (tokens_from (i + 1) others)) words (omega arith)
              ∙ rw (← first-token i a others, ← list) l.coming);
        }

    -- All are laid.
    pub laying-last : n ≤ i → words ≡ whole
    laying-last last =
        let none : n - i ≡ 0 = omega arith in
        none-laid (i * 5) words ∙ (rw (← no-letters letters i left, ← none) l.coming)
