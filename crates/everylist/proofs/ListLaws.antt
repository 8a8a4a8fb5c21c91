-- The list at a position by its words: its letters are the operators of its tokens, and its text is the definition's.
use Prim.Native.Nat.{ℕ, zero, suc, ◌+◌, ◌*◌, ◌≤◌, ◌<◌}
use mathlib.Core.{Path.{◌≡◌, refl, ap, sym, ◌∙◌}, Bool.{Bool, true, false}, List.{List, [], ◌∷◌, ◌++◌}, Option.{Option, none, some}}
use native.Mathlib.Omega.{arith}
use lib.{Dec.{ltb}, IntN.{ℤ}, ListN.{length, take, drop, get_or, replicate}, Seq.{length-take-le, take_at, take-suc, take-length}}
use borrow.Author.Tests.{ltb-true, ltb-false}
use Rattle.molang.specs.{FirstFailure.{must, first_of}, Lines.{tokens_from}, Operator.{is_operator}, Parse.{in_front, tree_in, messages_in}}
use Rattle.molang.specs.Words.{Refusal, row, word, operator_bits, token_words, list_words, operator_field, words_refusal}
use Rattle.molang.proofs.{FirstFailure.{first-none, must-none, last_one}, ListWords.{list_words-length}, Trees.{both, and-true-true}}
use Rattle.molang.proofs.Words.{low_word, bits-number, bits-room, operator-small}
use Rattle.molang.specs.Parse as Parse
use Rattle.words.specs.Fields.{operator_of}
use Rattle.text.{specs.Text.{Wrote}, proofs.TextLaws.{wrote_then}}
use Rattle.own.specs.Own.{reading_of}
use Rattle.listing.{specs.Rows.{answer_text}, specs.Lists.{list_text}, proofs.AnswerLaws.{list-text}}
use Rattle.shortlists.specs.ShortLists.{up_to, among, are_letters, each_legal, count_refusal, list_refusal, list_at}
use Rattle.shortlists.specs.Answers.{found, refused, told, list_told, tokens_given, words_at}
use Rattle.shortlists.proofs.AlphabetLaws.{alphabet, occurs, legal-at}
use Rattle.everylist.specs.{EveryList.{head_text, short_text}, Steps.{letters_in, words_text}}

-- THE WORDS OF A LIST of letters
tokens-length : (i : ℕ) (letters : List ℕ) → length (tokens_from i letters) ≡ length letters
unfolding tokens_from
tokens-length i [] = refl
tokens-length i (o ∷ letters) = ap suc (tokens-length (i + 1) letters)

-- A token's first word.
first-word : (i j : ℕ) (letters rest : List ℕ) → i < length letters
    → get_or (list_words (tokens_from j letters) ++ rest) (5 * i) 0 ≡ word 1 (operator_bits (get_or letters i 0) 0)
unfolding tokens_from list_words token_words
first-word i j [] rest h = absurd (omega arith)
first-word zero j (o ∷ letters) rest h = refl
first-word (suc i) j (o ∷ letters) rest h =
    let on : 5 * suc i ≡ suc (suc (suc (suc (suc (5 * i))))) = omega arith in rw on (first-word i (j + 1) letters rest (omega arith))

operator-back : (o : ℕ) → is_operator o ≡ true → operator_of (word 1 (operator_bits o 0)) ≡ o
unfolding operator_of
operator-back o legal =
    let small = operator-small o legal in
    let room = bits-room o 0 (omega arith) (omega arith) in
    rw (low_word 1 (operator_bits o 0) (omega arith)) (bits-number o 0 (omega arith) (omega arith))

letters-back : (i : ℕ) (letters rest : List ℕ) → each_legal letters ≡ true → i ≤ length letters
    → letters_in i (list_words (tokens_from 0 letters) ++ rest) ≡ take i letters
unfolding letters_in
letters-back zero letters rest legal h = refl
letters-back (suc i) letters rest legal h =
    rw (
      letters-back i letters rest legal (omega arith),
      first-word i 0 letters rest (omega arith),
      operator-back (get_or letters i 0) (legal-at letters legal i (omega arith)),
    ) (sym (take-suc letters i 0 (omega arith)))

-- The text by the words is that of the letters.
pub words-text : (version : ℤ) (letters buffer : List ℕ) → each_legal letters ≡ true
    → words_text version (length letters) (in_front (list_words (tokens_from 0 letters)) buffer) ≡ short_text version letters
unfolding words_text short_text in_front
words-text version letters buffer legal =
    let words = list_words (tokens_from 0 letters) in
    let size : length words ≡ 5 * length letters = omega (arith, list_words-length (tokens_from 0 letters), tokens-length 0 letters) in
    rw (
      letters-back (length letters) letters (drop (length words) buffer) legal (omega arith),
      take-length letters,
      take_at words (drop (length words) buffer) (5 * length letters) size,
    ) refl

-- Letters of a legal alphabet are legal.
pub all-legal : (alphabet letters : List ℕ) → each_legal alphabet ≡ true → are_letters alphabet letters ≡ true → each_legal letters ≡ true
unfolding are_letters each_legal
all-legal alphabet [] legal are = refl
all-legal alphabet (a ∷ letters) legal are =
    let parts = both (among a alphabet) _ are in
    let o = occurs a alphabet parts.0 in
    let first = legal-at alphabet legal o.index o.below in
    and-true-true (is_operator a) _ (rw o.is at first) (all-legal alphabet letters legal parts.1)

-- WHAT `list_at` TELLS
module _ (letters : List ℕ) (n position : ℕ) where
  pub past-last : (number : ℕ) → count_refusal letters n ≡ none → refused number ≡ list_told letters n position
      → length (up_to letters n) ≤ position
  unfolding list_told told list_refusal must first_of
  past-last number ok e = by (ltb position (length (up_to letters n))) refl (rw ok at e)
    where
      by : (b : Bool) → ltb position (length (up_to letters n)) ≡ b
          → refused number ≡ told (first_of (none ∷ must b (row 20 0) ∷ [])) (length (list_at letters n position))
          → length (up_to letters n) ≤ position
      by true t e = absurd (let z : ◌≡◌ {A = ℕ} 0 1 = cc in omega arith)
      by false t e = ltb-false position (length (up_to letters n)) t

  -- It found a list: the one at that position.
  pub record AtPosition (tokens : ℕ) : Type 0 where
    pub below : position < length (up_to letters n)
    pub size : tokens ≡ length (get_or (up_to letters n) position [])
    pub words : words_at letters n position ≡ in_front (list_words (tokens_from 0 (get_or (up_to letters n) position []))) (replicate 30 0)

  pub at_position : (tokens : ℕ) → found tokens ≡ list_told letters n position → AtPosition tokens
  unfolding list_told told words_at tokens_given list_at list_refusal
  at_position tokens e = by (list_refusal letters n position) refl e
    where
      by : (o : Option Refusal) → list_refusal letters n position ≡ o → found tokens ≡ told o (length (list_at letters n position))
          → AtPosition tokens
      by (some r) t e = absurd (let z : ◌≡◌ {A = ℕ} 0 1 = cc in omega arith)
      by none t e =
          let all = length (up_to letters n) in
          let tested = first-none (count_refusal letters n) (must (ltb position all) (row 20 0) ∷ []) t in
          let size : tokens ≡ length (tokens_from 0 (get_or (up_to letters n) position [])) = cc in
          record {
            below = ltb-true position all (must-none (ltb position all) (row 20 0) (sym (last_one _) ∙ tested.1));
            size = size ∙ tokens-length 0 (get_or (up_to letters n) position []);
            words = rw t refl;
          }

-- THE TEXT of a list that is read: its line, and the answer behind it.
pub text-laid : {a b c : List ℕ} {m r : ℕ} (version : ℤ) (tokens : ℕ) (list : List ℕ) → 5 * tokens ≤ length list → tokens ≤ 6
    → Wrote a 0 (head_text (letters_in tokens list)) m b
    → {t : Parse.Told} {tree messages : List ℕ} (tree₀ messages₀ : List ℕ)
    → t ≡ Parse.told (words_refusal 0 operator_field 0 (take (5 * tokens) list)) (reading_of (take (5 * tokens) list) version)
    → tree ≡ tree_in (words_refusal 0 operator_field 0 (take (5 * tokens) list)) (reading_of (take (5 * tokens) list) version) tree₀
    → messages ≡ messages_in (words_refusal 0 operator_field 0 (take (5 * tokens) list)) (reading_of (take (5 * tokens) list) version) messages₀
    → Wrote b m (answer_text t tree messages) r c
    → Wrote a 0 (words_text version tokens list) r c
unfolding words_text
text-laid {b = b} {c} {m} {r} version tokens list room few head tree₀ messages₀ e f g w =
    let l = take (5 * tokens) list in
    let size : length l ≡ 5 * tokens = length-take-le (5 * tokens) list room in
    let read = list-text l version (omega arith) (omega arith) tree₀ messages₀ in
    let laid : Wrote b m (list_text l version) r c = rw read (rw (e, f, g) at w) in
    wrote_then (omega arith) head laid
