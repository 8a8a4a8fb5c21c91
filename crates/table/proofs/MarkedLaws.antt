-- The numbers of the table as the code reads them: where the next mark stands, the words that a node, a message and a mark stand for, and
-- those words in a buffer. Assumes nothing.
use Prim.Native.Nat.{ℕ, zero, suc, ◌+◌, ◌-◌, ◌*◌, ◌/◌, ◌%◌, ◌^◌, ◌≤◌, ◌<◌}
use mathlib.Core.{Path.{◌≡◌, refl, sym, ap, ◌∙◌}, Bool.{Bool, true, false}, Logic.{◌⊎◌, inl, inr}, List.{List, [], ◌∷◌, ◌++◌, append-nil}}
use native.Mathlib.{Nat.{sub-zero}, Numerals.{add-one}, Omega.{arith}}
use lib.{Dec.{leb, ltb}, ListN.{length, take, drop, get_or, set, replicate, length-append, length-drop, drop_of_length-le}}
use lib.Seq.{take_all, drop-cons, append_snoc, set_at, get_or-take, get_or-drop}
use borrow.Author.Tests.{lt-ltb, le-ltb, eq-eqb, ne_eqb}
use Rattle.molang.specs.{Words.{word, low_of, token_words}, Lines.{write_mark, tree_mark, close_in, node_words, record_of}}
use Rattle.table.specs.Marked.{is_mark, unmarked, bare, token_word, node_word, record_word, second_at, message_word, operator_word}
use Rattle.table.specs.Marked.{beside_mark, words_by, marked_word, counts_by, marked_count, first_words, fitting, said_count}
use Rattle.table.specs.Marked.{said_word, holds_from}

-- ---- The next mark

module _ (last : ℕ) (numbers : List ℕ) (i : ℕ) where
  next : i < length numbers → drop i numbers ≡ get_or numbers i 0 ∷ drop (i + 1) numbers
  next h = rw (add-one, drop-cons numbers i 0 h) refl

  -- It stands here, or it is looked for in what is left.
  pub mark-here : i < length numbers → is_mark last (get_or numbers i 0) ≡ true → i + unmarked last (drop i numbers) ≡ i
  mark-here h is = unfold unmarked in rw (next h, unmarked, is) (omega arith)

  pub mark-later : i < length numbers → is_mark last (get_or numbers i 0) ≡ false
      → i + unmarked last (drop i numbers) ≡ i + 1 + unmarked last (drop (i + 1) numbers)
  mark-later h is = unfold unmarked in rw (next h, unmarked, is) (omega arith)

  -- No number is left.
  pub no_number : length numbers ≤ i → i + unmarked last (drop i numbers) ≡ i
  no_number h = unfold unmarked in rw (drop_of_length-le numbers h) (omega arith)

-- A mark stands in a list that is not empty.
pub has-mark : (marked : List ℕ) (m : ℕ) → m ≡ get_or marked 0 0 → 1 ≤ m → 1 ≤ length marked
has-mark [] m e h = absurd (omega arith)
has-mark (n ∷ ns) m e h = omega arith

-- ---- Nodes. Their numbers, starts and ends fit into words.

low_small : (n : ℕ) → n < 2 ^ 29 → low_of n ≡ n
low_small n h = unfold low_of in omega arith

close-small : (n : ℕ) → n < 2 ^ 32 → low_of (close_in n) ≡ close_in n
unfolding close_in
close-small n h = go (ltb n 100000000) refl
  where
    go : (b : Bool) → ltb n 100000000 ≡ b → low_of (close_in n) ≡ close_in n
    go true e = rw (close_in, e) (low_small (n % 100) (omega arith))
    go false e = rw (close_in, e) (low_small (n / 100000000) (omega arith))

pub node-close : (n r c : ℕ) → n < 2 ^ 32 → c ≡ close_in n → r ≡ word 7 (low_of c) → r ≡ node_word n 6
node-close n r c h e w = unfold node_word node_words in w ∙ (ap (λ (m : ℕ). word 7 (low_of m)) e ∙ ap (word 7) (close-small n h))

pub node-count : (n r : ℕ) → r ≡ word 6 (n % 100000000 / 10000 % 10 % 2 ^ 14) → r ≡ node_word n 5
unfolding node_word node_words
node-count n r w =
    let m : n % 100000000 / 10000 % 10 % 2 ^ 14 ≡ n % 100000000 / 10000 % 10 = omega arith in
    w ∙ ap (word 6) m

pub node-token : (n field : ℕ) → field ≤ 4
    → token_word (n % 100000000 / 100000) (n % 100000000 / 100 % 100) (n % 100000000 % 100) field ≡ node_word n field
unfolding token_word token_words node_word node_words
node-token n field h =
    let m = n % 100000000 in
    let op : m / 100000 % 2 ^ 12 ≡ m / 100000 = omega arith in
    let same : token_words (bare (m / 100000) (m / 100 % 100) (m % 100)) ≡ take 5 (node_words (n ∷ [])) =
    rw (op, low_small (m / 100 % 100) (omega arith), low_small (m % 100) (omega arith)) refl
    in
    ap (λ (ws : List ℕ). get_or ws field 0) same ∙ get_or-take 5 (node_words (n ∷ [])) field 0 (omega arith)

-- ---- Messages

-- Zeros after a list are what stands after it anyway.
no_more : (n k : ℕ) → ◌≡◌ {A = ℕ} (get_or (replicate n 0) k 0) 0
no_more zero k = refl
no_more (suc n) zero = refl
no_more (suc n) (suc k) = no_more n k

padded : (ns : List ℕ) (n k : ℕ) → get_or (ns ++ replicate n 0) k 0 ≡ get_or ns k 0
padded [] n k = no_more n k
padded (m ∷ ns) n zero = refl
padded (m ∷ ns) n (suc k) = padded ns n k

-- A message with no items reads as one whose first item is 0.
pub record-read : (message : List ℕ) (field : ℕ) → get_or (record_of (get_or message 1 0 ∷ drop 2 message)) field 0 ≡ record_word message field
unfolding record_word record_of
record-read [] field = no_more 8 field
record-read (m ∷ []) field = no_more 8 field
record-read (m ∷ n ∷ ns) field = refl

pub record-argument : (message : List ℕ) (field : ℕ) → 3 ≤ field → field ≤ 7 → get_or message (field - 1) 0 ≡ record_word message field
unfolding record_of
record-argument message zero low high = absurd (omega arith)
record-argument message (suc zero) low high = absurd (omega arith)
record-argument message (suc (suc zero)) low high = absurd (omega arith)
record-argument message (suc (suc (suc k))) low high =
    let e : suc (suc (suc k)) - 1 ≡ 2 + k = omega arith in
    rw e
    (sym (get_or-take 5 (drop 2 message ++ replicate 5 0) k 0 (omega arith) ∙ (padded (drop 2 message) 5 k ∙ get_or-drop 2 message k 0))
    ∙ record-read message (suc (suc (suc k))))

-- The record that the code reads, of two the first or the second, as the part of the slice that it lends.
module _ (said : List ℕ) (second i : ℕ) (ends : second ≡ second_at said) where
  pub first-record : i < 8 → record_word (take (second - 0) said) i ≡ message_word said i
  first-record h = unfold message_word in rw (message_word, lt-ltb i 8 h, sub-zero second, ends) refl

  pub second-record : 8 ≤ i → record_word (take (length said - second) (drop second said)) (i % 8) ≡ message_word said i
  unfolding message_word
  second-record h =
      rw (take_all (length said - second) (drop second said) (omega (arith, length-drop second said)), message_word, le-ltb i 8 h, ends) refl

-- ---- The word by its mark

-- A mark that a table has not.
abbrev pub Apart : ℕ → List (ℕ × ℕ) → Type 0
Apart m [] = Unit {0}
Apart m ((n, w) ∷ rest) = (m ≡ n → ⊥) × Apart m rest

apart : (table : List (ℕ × ℕ)) (m other : ℕ) → Apart m table → beside_mark table m other ≡ other
unfolding beside_mark
apart [] m other h = refl
apart ((n, w) ∷ rest) m other (h, hs) = rw (beside_mark, ne_eqb m n h) (apart rest m other hs)

module _ (marked : List ℕ) (i m : ℕ) (is : m ≡ get_or marked 0 0) where
  -- The mark that the code has read.
  pub by-mark : (k : ℕ) → m ≡ k
      → beside_mark (words_by marked i) k (operator_word (get_or marked (i / 5 + 1) 0) (i / 5) (i % 5)) ≡ marked_word marked i
  by-mark k e = unfold marked_word in rw (← e, is) refl

  pub node-mark : (m ≡ write_mark) ⊎ (m ≡ tree_mark) → node_word (get_or marked (i / 7 + 1) 0) (i % 7) ≡ marked_word marked i
  unfolding beside_mark words_by
  node-mark (inl e) = by-mark write_mark e
  node-mark (inr e) = by-mark tree_mark e

  -- It is none of the table's.
  pub other-mark : Apart m (words_by marked i) → operator_word (get_or marked (i / 5 + 1) 0) (i / 5) (i % 5) ≡ marked_word marked i
  other-mark h = sym (apart (words_by marked i) m _ h) ∙ by-mark m refl

-- ---- How many words, by the mark

module _ (marked : List ℕ) (m : ℕ) (is : m ≡ get_or marked 0 0) where
  pub count-mark : (k : ℕ) → m ≡ k → beside_mark (counts_by marked) k (5 * (length marked - 1)) ≡ marked_count marked
  count-mark k e = unfold marked_count in rw (← e, is) refl

  pub count-nodes : (m ≡ write_mark) ⊎ (m ≡ tree_mark) → 7 * (length marked - 1) ≡ marked_count marked
  unfolding beside_mark counts_by
  count-nodes (inl e) = count-mark write_mark e
  count-nodes (inr e) = count-mark tree_mark e

  pub count-other : Apart m (counts_by marked) → 5 * (length marked - 1) ≡ marked_count marked
  count-other h = sym (apart (counts_by marked) m _ h) ∙ count-mark m refl

-- ---- A buffer that is filled

long : (n : ℕ) (marked : List ℕ) → length (first_words n marked) ≡ n
unfolding first_words
long zero marked = refl
long (suc n) marked = length-append (first_words n marked) (marked_word marked n ∷ []) ∙ omega (arith, long n marked)

pub laid_on : (words before marked : List ℕ) (i w : ℕ) → words ≡ first_words i marked ++ drop i before → i < length before
    → w ≡ marked_word marked i → set words i w ≡ first_words (i + 1) marked ++ drop (i + 1) before
unfolding first_words
laid_on words before marked i w e h is =
    rw (e, is, add-one, drop-cons before i 0 h)
    (set_at (first_words i marked) _ _ (marked_word marked i) i (long i marked) ∙ sym (append_snoc (first_words i marked) _ _))

pub laid_end : (words before marked : List ℕ) (i : ℕ) → words ≡ first_words i marked ++ drop i before → i ≡ length before
    → words ≡ first_words (length before) marked
laid_end words before marked i e h = e ∙ (rw (drop_of_length-le before {i = i} (omega arith), h) (append-nil _))

-- How many words are told.
module _ (room n : ℕ) (m : ℕ) (counted : n ≡ m) where
  pub no_room : room < n → ◌≡◌ {A = ℕ} 0 (fitting room m)
  no_room h = unfold fitting in rw (← counted, fitting, lt-ltb room n h) refl

  pub with-room : n ≤ room → n ≡ fitting room m
  with-room h = unfold fitting in rw (← counted, fitting, le-ltb room n h) counted

-- ---- A buffer that is compared

-- It is the one for the line's mark, or another.
module _ (mark m : ℕ) (said : List ℕ) (is : m ≡ get_or said 0 0) where
  pub own-mark : mark ≡ m → marked_count said ≡ said_count mark said
  own-mark e = unfold said_count in rw (said_count, eq-eqb mark (get_or said 0 0) (e ∙ is)) refl

  pub not-own-mark : (mark ≡ m → ⊥) → ◌≡◌ {A = ℕ} 0 (said_count mark said)
  not-own-mark h = unfold said_count in rw (said_count, ne_eqb mark (get_or said 0 0) (λ e. h (e ∙ sym is))) refl

-- A word is the line's, or stands after those.
module _ (said : List ℕ) (n rest i : ℕ) where
  pub word-said : i < n → marked_word said i ≡ said_word said n rest i
  word-said h = unfold said_word in rw (said_word, lt-ltb i n h) refl

  pub word_after : n ≤ i → rest ≡ said_word said n rest i
  word_after h = unfold said_word in rw (said_word, le-ltb i n h) refl

-- It is the one that stands there, or not.
module _ (said : List ℕ) (n rest : ℕ) (buffer : List ℕ) (i : ℕ) where
  pub word_same : i < length buffer → get_or buffer i 0 ≡ said_word said n rest i
      → holds_from i said n rest (drop i buffer) ≡ holds_from (i + 1) said n rest (drop (i + 1) buffer)
  word_same h same = unfold holds_from in rw (next 0 buffer i h, eq-eqb (get_or buffer i 0) (said_word said n rest i) same) refl

  pub word-other : i < length buffer → (get_or buffer i 0 ≡ said_word said n rest i → ⊥) → holds_from i said n rest (drop i buffer) ≡ false
  word-other h other = unfold holds_from in rw (next 0 buffer i h, ne_eqb (get_or buffer i 0) (said_word said n rest i) other) refl

  pub word_none : length buffer ≤ i → holds_from i said n rest (drop i buffer) ≡ leb n i
  word_none h = unfold holds_from in rw (drop_of_length-le buffer h) refl
