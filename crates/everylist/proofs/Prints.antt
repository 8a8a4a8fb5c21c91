-- WHAT ALL STEPS PRINT: one after another, up to the end, they are the whole text of what is kept of an input (`steps-print`), and that is
-- the definition's text of the input's bytes (`kept-prints`). Assumes nothing.
use Prim.Native.Nat.{ℕ, zero, suc, ◌+◌, ◌-◌, ◌/◌, ◌%◌, ◌≤◌, ◌<◌}
use mathlib.Core.{Path.{◌≡◌, refl, ap, sym, ◌∙◌}, Bool.{false, ◌&&◌, and-false}, List.{List, [], ◌++◌, append-nil}}
use mathlib.Core.Option.{Option, none, some}
use native.Mathlib.{Nat.{pow-le-pow_left}, Numerals.{add-one}, Omega.{arith}}
use lib.Dec.{eqb, leb, ltb}
use lib.ListN.{length, take, drop, get_or, replicate, length-take, length-drop, take-append-drop, drop_of_length-le, get_or-append}
use lib.Seq.{take_all, take_at, take-take, take-append-le, drop-cons, get_or-take}
use borrow.Author.Tests.{eqb-true, eqb-false, eq-eqb, ne_eqb, le-leb, lt-leb, le-ltb, leb-true, leb-false, ltb-true, ltb-false}
use Rattle.molang.specs.{FirstFailure.{must, first_of}, Lines.{version_of}, Words.{Refusal}}
use Rattle.molang.proofs.{Booleans.{either}, Trees.{both}}
use Rattle.listing.specs.Lists.{words_in}
use Rattle.shortlists.specs.ShortLists.{up_to, powers, is_alphabet, count_refusal}
use Rattle.shortlists.proofs.{AlphabetLaws.{alphabet}, ShortLists.{counts}}
use Rattle.everylist.specs.EveryList.{all_numbers, input_fault, short_text, short_texts, refusal_line, printed}
use Rattle.everylist.specs.Steps.{Kept, kept_of, kept_words, kept_fault, kept_lists, text_by, text_at, texts_from, kept_text}
use Rattle.everylist.proofs.{PartLaws.{words_count, words_append, words_take, words-drop}, NumberLaws.{numbers-append}}
use Rattle.everylist.proofs.KeptLaws.{two-tests, unturned}

-- ---- One step after another

-- At most 8 letters, at most 6 of them: 299,593 lists.
powers-most : (k n : ℕ) → k ≤ 8 → powers k n ≤ powers 8 n
unfolding powers
powers-most k zero few = omega arith
powers-most k (suc n) few = omega (arith, powers-most k n few, pow-le-pow_left few n)

powers-longer : (k n d : ℕ) → powers k n ≤ powers k (n + d)
unfolding powers
powers-longer k n zero = let same : n + 0 ≡ n = omega arith in rw same (omega arith)
powers-longer k n (suc d) =
    let same : n + suc d ≡ suc (n + d) = omega arith in rw same (omega (arith, powers-longer k n d))

pub most-lists : (letters : List ℕ) (n : ℕ) → length letters ≤ 8 → n ≤ 6 → length (up_to letters n) ≤ 299593
unfolding powers
most-lists letters n few short =
    let all : powers 8 7 ≡ 299593 = refl in
    let same : suc n + (6 - n) ≡ 7 = omega arith in
    let longer : powers 8 (suc n) ≤ powers 8 7 = rw same at (powers-longer 8 (suc n) (6 - n)) in
    omega (arith, counts letters n, powers-most (length letters) (suc n) few)

module _ (k : Kept) where
  -- Behind the last position there is nothing.
  pub behind : (n position : ℕ) → text_at k position ≡ none → texts_from n k position ≡ []
  unfolding texts_from
  behind zero position e = refl
  behind (suc n) position e = rw (e, texts_from) refl

  -- No position from the most lists on has a text.
  ended : (position : ℕ) → 299593 ≤ position → text_at k position ≡ none
  unfolding text_at text_by kept_lists kept_words
  ended position h = by (kept_fault k) refl
    where
      by : (o : Option Refusal) → kept_fault k ≡ o → text_by o k position ≡ none
      by (some r) e = let later : position ≡ 0 → ⊥ = λ first. omega arith in rw (ne_eqb position 0 later, text_by) refl
      by none e =
          let ok = unturned k.bytes k.words k.fine e in
          let letters = drop 2 (kept_words k) in
          let most = get_or k.words 1 0 in
          let few = most-lists letters most (alphabet letters ok.alphabet).few ok.short in
          rw (le-ltb position (length (up_to letters most)) (omega arith), text_by) refl

  pub text-early : (position : ℕ) → (text_at k position ≡ none → ⊥) → position < 299593
  text-early position h =
      either (ltb position 299593) (ltb-true position 299593) (λ e. absurd (h (ended position (ltb-false position 299593 e))))

  -- An input that is turned back: its line, and the end.
  turned-texts : (n : ℕ) (r : Refusal) → kept_fault k ≡ some r → 1 ≤ n → texts_from n k 0 ≡ refusal_line r
  unfolding texts_from text_at text_by
  turned-texts zero r e h = absurd (omega arith)
  turned-texts (suc n) r e h =
      let first : text_at k 0 ≡ some (refusal_line r) = rw e refl in
      let second : text_at k (0 + 1) ≡ none = rw e refl in
      rw (first, texts_from, behind n (0 + 1) second) (append-nil (refusal_line r))

  -- One that is not: the texts of the lists from a position on.
  list-texts : (n position : ℕ) → kept_fault k ≡ none → length (kept_lists k) ≤ position + n
      → texts_from n k position ≡ short_texts (version_of (get_or k.words 0 0)) (drop position (kept_lists k))
  unfolding texts_from text_at text_by short_texts
  list-texts zero position e h = rw (drop_of_length-le (kept_lists k) {i = position} (omega arith)) refl
  list-texts (suc n) position e h =
      let lists = kept_lists k in
      either (ltb position (length lists))
      (λ t.
      let here : text_at k position ≡ some (short_text (version_of (get_or k.words 0 0)) (get_or lists position [])) = rw (e, t, text_by) refl in
      let on : drop (position + 1) lists ≡ drop (suc position) lists = ap (λ (i : ℕ). drop i lists) (add-one position) in
      let next = list-texts n (position + 1) e (omega arith) in
      rw (here, texts_from, next, on, drop-cons lists position [] (ltb-true position (length lists) t)) refl)
      (λ t.
      let last : text_at k position ≡ none = rw (e, t, text_by) refl in
      rw (drop_of_length-le lists {i = position} (ltb-false position (length lists) t)) (behind (suc n) position last))

  -- ALL STEPS, one after another, print the whole text.
  pub steps-print : texts_from 299594 k 0 ≡ kept_text k
  unfolding kept_text kept_lists kept_words
  steps-print = by (kept_fault k) refl
    where
      by : (o : Option Refusal) → kept_fault k ≡ o
          → texts_from 299594 k 0
          ≡ elim o [ some r ↦ refusal_line r | none ↦ short_texts (version_of (get_or k.words 0 0)) (kept_lists k) ]
      by (some r) e = turned-texts 299594 r e (omega arith)
      by none e =
          let ok = unturned k.bytes k.words k.fine e in
          let few = (alphabet (drop 2 (kept_words k)) ok.alphabet).few in
          list-texts 299594 0 e (omega (arith, most-lists (drop 2 (kept_words k)) (get_or k.words 1 0) few ok.short))

-- ---- What is kept of an input

-- More than 8 letters are no alphabet, however many they are.
too_many : (letters : List ℕ) → 8 < length letters → is_alphabet letters ≡ false
too_many letters h = unfold is_alphabet in rw (lt-leb (length letters) 8 h) (and-false (leb 1 (length letters)))

count_same : (words : List ℕ) (n : ℕ) → count_refusal (drop 2 (take 11 words)) n ≡ count_refusal (drop 2 words) n
unfolding count_refusal
count_same words n =
    either (leb (length words) 11) (λ e. rw (take_all 11 words (leb-true (length words) 11 e)) refl)
    (λ e.
    let long = leb-false (length words) 11 e in
    rw (
      too_many (drop 2 (take 11 words)) (omega (arith, length-drop 2 (take 11 words), length-take 11 words)),
      too_many (drop 2 words) (omega (arith, length-drop 2 words)),
    ) refl)

eight-bytes : (m bytes : ℕ) → m ≡ bytes / 4 → leb 8 bytes ≡ leb 2 m
eight-bytes m bytes e =
    either (leb 2 m) (λ t. le-leb 8 bytes (omega (arith, leb-true 2 m t)) ∙ sym t)
    (λ t. lt-leb 8 bytes (omega (arith, leb-false 2 m t)) ∙ sym t)

module _ (input : List ℕ) (whole : length input % 4 ≡ 0) where
  abbrev words : List ℕ
  words = words_in input

  abbrev front : List ℕ
  front = words_in (take 44 (input ++ replicate 44 0))

  abbrev padded : List ℕ
  padded = words ++ words_in (replicate 44 0)

  front-padded : front ≡ take 11 padded
  front-padded = words_take 11 (input ++ replicate 44 0) ∙ ap (take 11) (words_append input (replicate 44 0) whole)

  front-words : take (length input / 4) front ≡ take 11 words
  front-words =
      let m = length input / 4 in
      ap (take m) front-padded
      ∙ either (leb m 11)
      (λ e.
      let few = leb-true m 11 e in
      take-take m 11 padded few
      ∙ (take_at words (words_in (replicate 44 0)) m (words_count input) ∙ sym (take_all 11 words (omega (arith, words_count input)))))
      (λ e.
      let long = leb-false m 11 e in
      take_all m (take 11 padded) (omega (arith, length-take 11 padded))
      ∙ take-append-le 11 words (words_in (replicate 44 0)) (omega (arith, words_count input)))

  front_at : (i : ℕ) → i < 11 → i < length words → get_or front i 0 ≡ get_or words i 0
  front_at i few h =
      ap (λ (l : List ℕ). get_or l i 0) front-padded
      ∙ (get_or-take 11 padded i 0 few ∙ get_or-append words (words_in (replicate 44 0)) 0 i h)

  all_same : (all_numbers (take (length input / 4) front) && all_numbers (words_in (drop 44 input))) ≡ all_numbers words
  all_same =
      rw (front-words, words-drop 11 input)
      (sym (numbers-append (take 11 words) (drop 11 words)) ∙ ap all_numbers (take-append-drop 11 words))

  whole-fault : kept_fault (kept_of input) ≡ input_fault input
  unfolding kept_of input_fault must first_of
  whole-fault =
      let t = leb 2 (length words) && all_numbers words in
      let o = count_refusal (drop 2 words) (get_or words 1 0) in
      let tests : (leb 8 (length input) && (all_numbers (take (length input / 4) front) && all_numbers (words_in (drop 44 input)))) ≡ t =
      rw (eight-bytes (length words) (length input) (words_count input), all_same) refl
      in
      two-tests (length input) front (all_numbers (words_in (drop 44 input))) t o whole tests
      (λ e.
      let enough = leb-true 2 (length words) (both (leb 2 (length words)) _ e).0 in
      rw (front-words, front_at 1 (omega arith) (omega arith)) (count_same words (get_or words 1 0)))
      ∙ sym (rw (eq-eqb (length input % 4) 0 whole) refl)

  -- An input that is not turned back keeps all its words.
  whole-lists : kept_fault (kept_of input) ≡ none
      → short_texts (version_of (get_or (kept_of input).words 0 0)) (kept_lists (kept_of input))
      ≡ short_texts (version_of (get_or words 0 0)) (up_to (drop 2 words) (get_or words 1 0))
  unfolding kept_of kept_lists kept_words
  whole-lists e =
      let ok = unturned (length input) front (all_numbers (words_in (drop 44 input))) e in
      let few = (alphabet (drop 2 (take (length input / 4) front)) ok.alphabet).few in
      let size : length (drop 2 (take (length input / 4) front)) ≡ length (take 11 words) - 2 =
      length-drop 2 (take (length input / 4) front) ∙ ap (λ (l : List ℕ). length l - 2) front-words
      in
      let short : length words ≤ 10 = omega (arith, length-take 11 words) in
      let enough : 2 ≤ length words = omega (arith, ok.enough, words_count input) in
      let all : take (length input / 4) front ≡ words = front-words ∙ take_all 11 words (omega arith) in
      rw (all, front_at 0 (omega arith) (omega arith), front_at 1 (omega arith) (omega arith)) refl

-- Bytes that are no whole words are turned back by both.
part-fault : (input : List ℕ) → (length input % 4 ≡ 0 → ⊥) → kept_fault (kept_of input) ≡ input_fault input
part-fault input h = unfold kept_of kept_fault input_fault must first_of in rw (ne_eqb (length input % 4) 0 h) refl

unturned-whole : (input : List ℕ) → kept_fault (kept_of input) ≡ none → length input % 4 ≡ 0
unturned-whole input e = unfold kept_of in (unturned (length input) _ _ e).whole

fault-same : (input : List ℕ) → kept_fault (kept_of input) ≡ input_fault input
fault-same input =
    either (eqb (length input % 4) 0) (λ e. whole-fault input (eqb-true (length input % 4) 0 e))
    (λ e. part-fault input (eqb-false (length input % 4) 0 e))

text_same : (input : List ℕ) → kept_text (kept_of input) ≡ printed input
unfolding kept_text printed
text_same input = by (kept_fault (kept_of input)) refl ∙ ap answered (fault-same input)
  where
    asked : List ℕ
    asked = short_texts (version_of (get_or (words_in input) 0 0)) (up_to (drop 2 (words_in input)) (get_or (words_in input) 1 0))

    answered : Option Refusal → List ℕ
    answered o = elim o [ some r ↦ refusal_line r | none ↦ asked ]

    by : (o : Option Refusal) → kept_fault (kept_of input) ≡ o
        → elim o [ some r ↦ refusal_line r | none ↦ short_texts (version_of (get_or (kept_of input).words 0 0)) (kept_lists (kept_of input)) ]
        ≡ answered o
    by (some r) e = refl
    by none e = whole-lists input (unturned-whole input e) e

-- THE STEPS' TEXTS, one after another, are what is printed for the input.
pub kept-prints : (input : List ℕ) → texts_from 299594 (kept_of input) 0 ≡ printed input
kept-prints input = steps-print (kept_of input) ∙ text_same input
