-- A slot's five token words, said of its token: what the fields are read from, that the words say which token it is, and what becomes of
-- the token where some of the words are written.
use Prim.Native.Nat.{ℕ, zero, suc, ◌+◌, ◌%◌, ◌^◌, ◌≤◌, ◌<◌}
use mathlib.Core.{Path.{◌≡◌, sym, ap, ◌∙◌}, Bool.{false}, List.{List}}
use native.Mathlib.{Omega.{arith}, Nat.{add-zero}}
use lib.{Dec.{eqb}, ListN.{length, get_or, set}}
use borrow.Author.Tests.{eq-eqb, ne_eqb, eqb-true}
use Rattle.molang.specs.{Forest.{Token, renamed, bare, closed_by}, Words.{word, low_of, operator_bits}, Legal.{Legal}}
use Rattle.molang.proofs.Words.{low_word, operator-small, bits-number, bits-variant, bits-room}
use Rattle.molang.proofs.Legal.{legal-renamed, legal-bare, legal-closed}
use Rattle.words.{specs.Fields.{operator_of, variant_of, with_operator}, proofs.FieldLaws.{same-by-bits, renamed-word}}
use Rattle.nodes.specs.Store.{wd, slot_start, slot_end, close_word, operator_word_at, start_word_at, end_word_at, value_word_at, close_word_at}
use Rattle.nodes.specs.{Store.{stored_words, TokenAt}, Slots.{op_at, start_at, end_at, Made}}
use Rattle.nodes.proofs.Runs.{set_same, set_other}

pub token-keep : (W W' : List ℕ) (b : ℕ) {k : Token} → ((o : ℕ) → o < 5 → wd W' (slot_start b + o) ≡ wd W (slot_start b + o)) → TokenAt W b k
    → TokenAt W' b k
token-keep W W' b h t = record { words = λ o w. h o w ∙ t.words o w; legal = t.legal }

-- ---- the words of a token, one by one

module _ {W : List ℕ} {s : ℕ} {k : Token} (t : TokenAt W s k) where
  pub operator-word : operator_word_at W s ≡ word 1 (operator_bits k.op k.variant)
  operator-word = unfold stored_words in rw add-zero at (t.words 0 (omega arith))

  pub start_word : start_word_at W s ≡ word 2 k.start
  start_word = unfold stored_words in t.words 1 (omega arith)

  pub end-word : end_word_at W s ≡ word 3 k.end
  end-word = unfold stored_words in t.words 2 (omega arith)

  pub value-word : value_word_at W s ≡ k.value
  value-word = unfold stored_words in t.words 3 (omega arith)

  pub close-word : close_word_at W s ≡ word 7 k.close
  close-word = unfold stored_words in t.words 4 (omega arith)

-- five words make a token
pub token-of-words : {W : List ℕ} {s : ℕ} {k : Token}
    → operator_word_at W s ≡ word 1 (operator_bits k.op k.variant) → start_word_at W s ≡ word 2 k.start
    → end_word_at W s ≡ word 3 k.end
    → value_word_at W s ≡ k.value → close_word_at W s ≡ word 7 k.close → Legal k
    → TokenAt W s k
unfolding stored_words
token-of-words {W} {s} {k} a b c d e l = record { words = by_index; legal = l }
  where
    by_index : (i : ℕ) → i < 5 → wd W (slot_start s + i) ≡ get_or (stored_words k) i 0
    by_index zero h = rw add-zero a
    by_index (suc zero) h = b
    by_index (suc (suc zero)) h = c
    by_index (suc (suc (suc zero))) h = d
    by_index (suc (suc (suc (suc zero)))) h = e
    by_index (suc (suc (suc (suc (suc i))))) h = absurd (omega arith)

-- ---- the fields

operator-bits : {W : List ℕ} {s : ℕ} {k : Token} → TokenAt W s k → low_of (operator_word_at W s) ≡ operator_bits k.op k.variant
operator-bits {k = k} t =
    let small = operator-small k.op t.legal.op in
    let room = bits-room k.op k.variant (omega arith) (omega (arith, t.legal.variant)) in
    rw (operator-word t) (low_word 1 (operator_bits k.op k.variant) (omega arith))

pub token-op : {W : List ℕ} {s : ℕ} {k : Token} → TokenAt W s k → op_at W s ≡ k.op
unfolding operator_of
token-op {k = k} t =
    let small = operator-small k.op t.legal.op in
    rw (operator-bits t) (bits-number k.op k.variant (omega arith) (omega (arith, t.legal.variant)))

pub token-variant : {W : List ℕ} {s : ℕ} {k : Token} → TokenAt W s k → variant_of (operator_word_at W s) ≡ k.variant
token-variant {k = k} t = unfold variant_of in rw (operator-bits t) (bits-variant k.op k.variant (omega (arith, t.legal.variant)))

pub token-start : {W : List ℕ} {s : ℕ} {k : Token} → TokenAt W s k → start_at W s ≡ k.start
token-start t = unfold word low_of in omega (arith, start_word t, t.legal.start)

pub token_end : {W : List ℕ} {s : ℕ} {k : Token} → TokenAt W s k → end_at W s ≡ k.end
token_end t = unfold word low_of in omega (arith, end-word t, t.legal.end)

same_low : (kind x y : ℕ) → word kind x ≡ word kind y → x ≡ y
same_low kind x y e = unfold word in omega arith

-- the words say which token it is
pub token-unique : {W : List ℕ} {s : ℕ} {k k' : Token} → TokenAt W s k → TokenAt W s k' → k ≡ k'
token-unique {W} {s} {k} {k'} t u =
    let op = sym (token-op t) ∙ token-op u in
    let variant = sym (token-variant t) ∙ token-variant u in
    let start = same_low 2 k.start k'.start (sym (start_word t) ∙ start_word u) in
    let end = same_low 3 k.end k'.end (sym (end-word t) ∙ end-word u) in
    let value = sym (value-word t) ∙ value-word u in
    let close = same_low 7 k.close k'.close (sym (close-word t) ∙ close-word u) in
    λ i. record { op = op i; variant = variant i; value = value i; start = start i; end = end i; close = close i }

-- ---- tokens that the passes make

-- `set_operator` renames the token
pub token-renamed : (W W' : List ℕ) (s o : ℕ) {k : Token} → W' ≡ set W (slot_start s) (with_operator (operator_word_at W s) o)
    → slot_end s ≤ length W → o ≤ 110
    → TokenAt W s k → TokenAt W' s (renamed o k)
unfolding renamed
token-renamed W W' s o {k} e room h t =
    let v = with_operator (operator_word_at W s) o in
    let other = set_other W W' (slot_start s) v e in
    let small = operator-small k.op t.legal.op in
    let word_kept = renamed-word k.op k.variant o (omega arith) (omega (arith, t.legal.variant)) h in
    token-of-words
    (set_same W W' (slot_start s) v e (omega arith) ∙ rw (operator-word t) word_kept)
    (other (slot_start s + 1) (omega arith) ∙ start_word t)
    (other (slot_start s + 2) (omega arith) ∙ end-word t)
    (other (slot_start s + 3) (omega arith) ∙ value-word t)
    (other (close_word s) (omega arith) ∙ close-word t)
    (legal-renamed o k h t.legal)

-- `set_close` closes the token at the end of another
pub token-closed : (W W' : List ℕ) (s closer : ℕ) {k o : Token} → W' ≡ set W (close_word s) (word 7 (end_at W closer))
    → slot_end s ≤ length W → TokenAt W closer k
    → TokenAt W s o → TokenAt W' s (closed_by k o)
unfolding closed_by
token-closed W W' s closer {k} {o} e room u t =
    let v = word 7 (end_at W closer) in
    let other = set_other W W' (close_word s) v e in
    token-of-words
    (other (slot_start s) (omega arith) ∙ operator-word t)
    (other (slot_start s + 1) (omega arith) ∙ start_word t)
    (other (slot_start s + 2) (omega arith) ∙ end-word t)
    (other (slot_start s + 3) (omega arith) ∙ value-word t)
    (set_same W W' (close_word s) v e (omega arith) ∙ ap (word 7) (token_end u))
    (legal-closed k o u.legal t.legal)

bare-word : (o : ℕ) → o ≤ 110 → word 1 (o % 2 ^ 8) ≡ word 1 (operator_bits o 0)
bare-word o h = unfold word operator_bits in omega arith

-- `make` lays down a bare token with the span of another
pub token-made : {W W' : List ℕ} {s like o : ℕ} {k : Token} → Made W s o like W' → o ≤ 110 → TokenAt W like k → TokenAt W' s (bare o k)
unfolding bare
token-made {o = o} {k = k} v h t =
    token-of-words
    (rw add-zero at (v.words 0 (omega arith)) ∙ bare-word o h)
    (v.words 1 (omega arith) ∙ start_word t)
    (v.words 2 (omega arith) ∙ end-word t)
    (v.words 3 (omega arith))
    (v.words 4 (omega arith) ∙ ap (word 7) (token_end t))
    (legal-bare o k h t.legal)

-- The bits of an operator's number as they stand tell it from an operator below 256, as the number does.
pub told-by-bits : (n op : ℕ) → op < 2 ^ 8 → eqb (operator_bits n 0) op ≡ eqb n op
told-by-bits n op low = same-by-bits (λ m. eqb m op) false (λ m h. ne_eqb m op (λ e. omega arith)) n

pub from_bits : (n op : ℕ) → op < 2 ^ 8 → operator_bits n 0 ≡ op → n ≡ op
from_bits n op low e = eqb-true n op (sym (told-by-bits n op low) ∙ eq-eqb (operator_bits n 0) op e)

pub to_bits : (n op : ℕ) → op < 2 ^ 8 → n ≡ op → operator_bits n 0 ≡ op
to_bits n op low e = eqb-true (operator_bits n 0) op (told-by-bits n op low ∙ eq-eqb n op e)
