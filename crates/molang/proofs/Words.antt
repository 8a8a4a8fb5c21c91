-- Words and what they say, both ways: legal tokens and trees are read back from their words, and legal words are those of their tokens.
use Prim.Native.Nat.{ℕ, suc, ◌+◌, ◌*◌, ◌/◌, ◌%◌, ◌^◌, ◌≤◌, ◌<◌}
use mathlib.Core.{Path.{◌≡◌, refl, ap, sym, ◌∙◌}, Bool.{true, false}, List.{List, [], ◌∷◌, ◌++◌, append_assoc, append-nil}, Option.{none}}
use native.Mathlib.Omega.{arith}
use lib.{Dec.{eqb, leb, ltb}, ListN.{length}}
use borrow.Author.Tests.{eqb-true, eqb-false, leb-true, le-leb, ltb-true}
use Rattle.molang.specs.Operator
use Rattle.molang.specs.{Operator.{between, is_host, is_operator}, Forest.{Token, Forest, nil, node, count, closed_by, unclosed}}
use Rattle.molang.specs.Words.{word, kind_of, low_of, token_words, token_of, node_words_of, node_of, tokens_of, list_words, tree_words, Field}
use Rattle.molang.specs.Words.{operator_field, start_field, end_field, upper_field, lower_field, field_kind, low_fault, word_fault}
use Rattle.molang.specs.Words.{operator_bits, number_in, variant_after, next_in_token, words_refusal}
use Rattle.molang.specs.{Legal.{Legal, LegalTrees, no_trees, legal_tree}, WriteEntry.{first_trees, other_trees, trees_of}}
use Rattle.molang.proofs.Booleans
use Rattle.molang.proofs.{Trees.{decided, both, and-true-true}, FirstFailure.{must-none, first-none, passed, with_place-none}}

pub data LegalTokens : List Token → Type 0 where
  no_tokens : LegalTokens []
  token : {k : Token} {ks : List Token} → Legal k → LegalTokens ks → LegalTokens (k ∷ ks)

-- Each token closes at its own end, as the tokens of a word list do.
abbrev pub AtEnds : List Token → Type 0
AtEnds [] = Unit {0}
AtEnds (k ∷ ks) = (k.close ≡ k.end) × AtEnds ks

pub low_word : (kind low : ℕ) → low < 2 ^ 29 → low_of (word kind low) ≡ low
low_word kind low h = unfold low_of word in omega arith

pub kind-word : (kind low : ℕ) → low < 2 ^ 29 → kind_of (word kind low) ≡ kind
kind-word kind low h = unfold kind_of word in omega arith

-- The hosts' numbers are 256 to 1,023.
pub host-within : (n : ℕ) → is_host n ≡ true → (256 ≤ n) × (n ≤ 1023)
host-within n h = unfold is_host between in let e = both _ _ h in (omega (arith, leb-true _ n e.0), omega (arith, leb-true n _ e.1))

pub within-host : (n : ℕ) → 256 ≤ n → n ≤ 1023 → is_host n ≡ true
within-host n a b = unfold is_host between in and-true-true _ _ (le-leb _ n (omega arith)) (le-leb n _ (omega arith))

-- An operator's number fits twelve bits; the operators of document 01 are such numbers.
pub operator-small : (n : ℕ) → is_operator n ≡ true → n < 2 ^ 10
unfolding is_operator
operator-small n h =
    Booleans.either (leb n Operator.host_math_volatile) (λ t. omega (arith, leb-true n Operator.host_math_volatile t))
    (λ f. omega (arith, (host-within n (rw f at h)).1))

pub operator-low : (n : ℕ) → n ≤ 110 → is_operator n ≡ true
operator-low n h = unfold is_operator in rw (le-leb n Operator.host_math_volatile h) refl

-- Bits 12-15 and bits 0-7 of such bits.
upper-part : (q v r : ℕ) → v < 2 ^ 4 → r < 2 ^ 8 → (q * 2 ^ 12 + v * 2 ^ 8 + r) / 2 ^ 12 ≡ q
upper-part q v r c b = omega arith

lower-part : (q v r : ℕ) → r < 2 ^ 8 → (q * 2 ^ 12 + v * 2 ^ 8 + r) % 2 ^ 8 ≡ r
lower-part q v r b = omega arith

-- The number and the variant in the bits of both, and the bits of the number and the variant in them.
pub bits-number : (n v : ℕ) → n < 2 ^ 12 → v < 2 ^ 4 → number_in (operator_bits n v) ≡ n
unfolding number_in operator_bits
bits-number n v b c =
    rw (upper-part (n / 2 ^ 8) v (n % 2 ^ 8) c (omega arith), lower-part (n / 2 ^ 8) v (n % 2 ^ 8) (omega arith)) (omega arith)

pub bits-variant : (n v : ℕ) → v < 2 ^ 4 → operator_bits n v / 2 ^ 8 % 2 ^ 4 ≡ v
bits-variant n v c = unfold operator_bits in omega arith

pub bits-room : (n v : ℕ) → n < 2 ^ 12 → v < 2 ^ 4 → operator_bits n v < 2 ^ 16
bits-room n v b c = unfold operator_bits in omega arith

bits_back : (low : ℕ) → low < 2 ^ 16 → operator_bits (number_in low) (low / 2 ^ 8 % 2 ^ 4) ≡ low
unfolding number_in operator_bits
bits_back low b =
    let high : (low / 2 ^ 12 % 2 ^ 4 * 2 ^ 8 + low % 2 ^ 8) / 2 ^ 8 ≡ low / 2 ^ 12 = omega arith in
    let rest : (low / 2 ^ 12 % 2 ^ 4 * 2 ^ 8 + low % 2 ^ 8) % 2 ^ 8 ≡ low % 2 ^ 8 = omega arith in
    rw (high, rest) (omega arith)

-- A token is read back from its words, closing at its own end.
pub token_back : (k : Token) → Legal k
    → token_of (word 1 (operator_bits k.op k.variant)) (word 2 k.start) (word 3 k.end) (word 4 (k.value / 2 ^ 16))
    (word 5 (k.value % 2 ^ 16)) ≡ unclosed k
unfolding token_of unclosed closed_by
token_back k h =
    let bits = operator_bits k.op k.variant in
    let small = operator-small k.op h.op in
    let first = low_word 1 bits (omega (arith, bits-room k.op k.variant (omega arith) (omega (arith, h.variant)))) in
    let op : number_in (low_of (word 1 bits)) ≡ k.op =
    rw first (bits-number k.op k.variant (omega arith) (omega (arith, h.variant)))
    in
    let variant : low_of (word 1 bits) / 2 ^ 8 % 2 ^ 4
    ≡ k.variant = rw first (bits-variant k.op k.variant (omega (arith, h.variant))) in
    let value : low_of (word 4 (k.value / 2 ^ 16)) % 2 ^ 16 * 2 ^ 16 + low_of (word 5 (k.value % 2 ^ 16)) % 2 ^ 16 ≡ k.value =
    rw (low_word 4 (k.value / 2 ^ 16) (omega arith), low_word 5 (k.value % 2 ^ 16) (omega arith)) (omega arith)
    in
    let start = low_word 2 k.start h.start in
    let end = low_word 3 k.end h.end in
    λ i. record { op = op i; variant = variant i; value = value i; start = start i; end = end i; close = end i }

-- A token that closes at its own end is its own opener.
pub unclosed-end : (k : Token) → k.close ≡ k.end → unclosed k ≡ k
unfolding unclosed closed_by
unclosed-end k e =
    λ i. record { op = k.op; variant = k.variant; value = k.value; start = k.start; end = k.end; close = sym e i }

pub tokens-back : (ks : List Token) → LegalTokens ks → AtEnds ks → tokens_of (list_words ks) ≡ ks
unfolding tokens_of list_words token_words
tokens-back [] no_tokens e = refl
tokens-back (k ∷ ks) (token h hs) e = rw (token_back k h, unclosed-end k e.0, tokens-back ks hs e.1) refl

-- The tokens of a word list close at their own ends.
pub tokens-end : (ws : List ℕ) → AtEnds (tokens_of ws)
unfolding tokens_of token_of
tokens-end [] = tt
tokens-end (a ∷ []) = tt
tokens-end (a ∷ b ∷ []) = tt
tokens-end (a ∷ b ∷ c ∷ []) = tt
tokens-end (a ∷ b ∷ c ∷ d ∷ []) = tt
tokens-end (a ∷ b ∷ c ∷ d ∷ e ∷ ws) = (refl, tokens-end ws)

-- A node's label is read back from its words.
pub node-back : (k : Token) → Legal k
    → node_of (word 1 (operator_bits k.op k.variant)) (word 2 k.start) (word 3 k.end) (word 4 (k.value / 2 ^ 16))
    (word 5 (k.value % 2 ^ 16)) (word 7 k.close) ≡ k
node-back k h = unfold node_of unclosed closed_by in rw (token_back k h, low_word 7 k.close h.close) refl

-- The trees of the first list before those of the second.
unfoldable pub beside : Forest → Forest → Forest
beside nil g = g
beside (node k cs rest) g = node k cs (beside rest g)

pub first-beside : (f g : Forest) → first_trees (count f) (beside f g) ≡ f
unfolding first_trees count beside
first-beside nil g = refl
first-beside (node k cs rest) g = ap (node k cs) (first-beside rest g)

pub other-beside : (f g : Forest) → other_trees (count f) (beside f g) ≡ g
unfolding other_trees count beside
other-beside nil g = refl
other-beside (node k cs rest) g = other-beside rest g

pub beside-nil : (f : Forest) → beside f nil ≡ f
unfolding beside
beside-nil nil = refl
beside-nil (node k cs rest) = ap (node k cs) (beside-nil rest)

trees-beside : {f : Forest} → LegalTrees f → (ws : List ℕ) → trees_of (tree_words f ++ ws) ≡ beside f (trees_of ws)
unfolding trees_of tree_words node_words_of token_words beside
trees-beside no_trees ws = refl
trees-beside (legal_tree {k = k} {cs = cs} {rest = rest} h n below later) ws =
    let trees : trees_of ((tree_words cs ++ tree_words rest) ++ ws) ≡ beside cs (beside rest (trees_of ws)) =
    rw (append_assoc (tree_words cs) (tree_words rest) ws)
    (trees-beside below (tree_words rest ++ ws) ∙ ap (beside cs) (trees-beside later ws))
    in
    rw (node-back k h, low_word 6 (count cs) (omega arith), trees, first-beside, other-beside) refl

-- Legal trees are read back from their words.
pub trees-back : (f : Forest) → LegalTrees f → trees_of (tree_words f) ≡ f
trees-back f h = unfold trees_of in ap trees_of (sym (append-nil (tree_words f))) ∙ (trees-beside h [] ∙ beside-nil f)

-- A word without fault: its kind, and its low bits.
pub word-faultless : (field : Field) (v w : ℕ) → word_fault field v w ≡ none
    → (kind_of w ≡ field_kind field) × (low_fault field v (low_of w) ≡ none)
unfolding word_fault
word-faultless field v w e =
    let z = passed (eqb (kind_of w) (field_kind field)) 8 _ e in
    (eqb-true (kind_of w) (field_kind field) z.0, (first-none _ _ z.1).0)

operator-faultless : (v low : ℕ) → low_fault operator_field v low ≡ none
    → (is_operator (number_in low) ≡ true) × (low / 2 ^ 8 % 2 ^ 4 ≤ 12) × (low < 2 ^ 16)
unfolding low_fault
operator-faultless v low e =
    let x = passed (is_operator (number_in low)) 9 _ e in
    let y = passed (leb (low / 2 ^ 8 % 2 ^ 4) 12) 10 _ x.1 in
    let z = passed (ltb low (2 ^ 16)) 11 _ y.1 in
    (x.0, leb-true (low / 2 ^ 8 % 2 ^ 4) 12 y.0, ltb-true low (2 ^ 16) z.0)

-- Half of a payload value, in a token of variant v.
abbrev Half : ℕ → ℕ → Type 0
Half v low = (low < 2 ^ 16) × (v ≡ 0 → low ≡ 0)

half-bound : (v low : ℕ) → low < elim (eqb v 0) [ true ↦ 1 | false ↦ 2 ^ 16 ] → Half v low
half-bound v low =
    decided (λ bound. low < bound → Half v low) (eqb v 0) _ _ (λ e h. (omega arith, λ z. omega arith))
    (λ e h. (omega arith, λ z. absurd (eqb-false v 0 e z)))

upper-faultless : (v low : ℕ) → low_fault upper_field v low ≡ none → Half v low
upper-faultless v low e = unfold low_fault in half-bound v low (ltb-true low _ (must-none _ 11 e))

lower-faultless : (v low : ℕ) → low_fault lower_field v low ≡ none → Half v low
lower-faultless v low e = unfold low_fault in half-bound v low (ltb-true low _ (must-none _ 11 e))

-- The five words of a token without fault.
pub record FiveLegal (a b c d e : ℕ) : Type 0 where
  operator_kind : kind_of a ≡ 1
  start_kind : kind_of b ≡ 2
  end_kind : kind_of c ≡ 3
  upper_kind : kind_of d ≡ 4
  lower_kind : kind_of e ≡ 5
  operator : is_operator (number_in (low_of a)) ≡ true
  variant : low_of a / 2 ^ 8 % 2 ^ 4 ≤ 12
  room : low_of a < 2 ^ 16
  upper : Half (low_of a / 2 ^ 8 % 2 ^ 4) (low_of d)
  lower : Half (low_of a / 2 ^ 8 % 2 ^ 4) (low_of e)

pub low-bound : (w : ℕ) → low_of w < 2 ^ 29
low-bound w = unfold low_of in omega arith

-- A word is its kind and its low bits.
pub word_back : (kind w : ℕ) → kind_of w ≡ kind → word kind (low_of w) ≡ w
word_back kind w h = unfold kind_of low_of word in omega arith

module _ (a b c d e : ℕ) (h : FiveLegal a b c d e) where
  pub five-legal : Legal (token_of a b c d e)
  unfolding token_of
  five-legal =
      record {
        op = h.operator;
        variant = h.variant;
        value = omega arith;
        start = low-bound b;
        end = low-bound c;
        close = low-bound c;
        no_payload = λ z. omega (arith, h.upper.1 z, h.lower.1 z);
      }

  pub five-back : token_words (token_of a b c d e) ≡ a ∷ b ∷ c ∷ d ∷ e ∷ []
  unfolding token_words token_of
  five-back =
      let first = bits_back (low_of a) h.room in
      let upper : (low_of d % 2 ^ 16 * 2 ^ 16 + low_of e % 2 ^ 16) / 2 ^ 16 ≡ low_of d = omega (arith, h.upper.0) in
      let lower : (low_of d % 2 ^ 16 * 2 ^ 16 + low_of e % 2 ^ 16) % 2 ^ 16 ≡ low_of e = omega (arith, h.lower.0) in
      rw (
        first,
        upper,
        lower,
        word_back 1 a h.operator_kind,
        word_back 2 b h.start_kind,
        word_back 3 c h.end_kind,
        word_back 4 d
            h.upper_kind,
        word_back 5 e h.lower_kind,
      ) refl

-- Each of a token's five words is without fault.
pub five-faultless : (v a b c d e : ℕ) → word_fault operator_field v a ≡ none → word_fault start_field (low_of a / 2 ^ 8 % 2 ^ 4) b ≡ none
    → word_fault end_field (low_of a / 2 ^ 8 % 2 ^ 4) c ≡ none
    → word_fault upper_field (low_of a / 2 ^ 8 % 2 ^ 4) d ≡ none
    → word_fault lower_field (low_of a / 2 ^ 8 % 2 ^ 4) e ≡ none
    → FiveLegal a b c d e
unfolding field_kind
five-faultless v a b c d e ha hb hc hd he =
    let u = low_of a / 2 ^ 8 % 2 ^ 4 in
    let fa = word-faultless operator_field v a ha in
    let fd = word-faultless upper_field u d hd in
    let fe = word-faultless lower_field u e he in
    let o = operator-faultless v (low_of a) fa.1 in
    record {
      operator_kind = fa.0;
      start_kind = (word-faultless start_field u b hb).0;
      end_kind = (word-faultless end_field u c hc).0;
      upper_kind = fd.0;
      lower_kind = fe.0;
      operator = o.0;
      variant = o.1;
      room = o.2;
      upper = upper-faultless u (low_of d) fd.1;
      lower = lower-faultless u (low_of e) fe.1;
    }

-- Of words that are not refused the first has no fault, and the others are not refused.
pub next_word : (i : ℕ) (field : Field) (v w : ℕ) (ws : List ℕ) → words_refusal i field v (w ∷ ws) ≡ none
    → (word_fault field v w ≡ none) × (words_refusal (suc i) (next_in_token field) (variant_after field v w) ws ≡ none)
unfolding words_refusal
next_word i field v w ws e = let z = first-none _ _ e in (with_place-none i (word_fault field v w) z.0, (first-none _ _ z.1).0)

pub words_back : (i v : ℕ) (ws : List ℕ) → words_refusal i operator_field v ws ≡ none → length ws % 5 ≡ 0
    → (list_words (tokens_of ws) ≡ ws) × LegalTokens (tokens_of ws)
unfolding tokens_of list_words next_in_token variant_after field_kind
words_back i v [] h n = (refl, no_tokens)
words_back i v (a ∷ []) h n = absurd (omega arith)
words_back i v (a ∷ b ∷ []) h n = absurd (omega arith)
words_back i v (a ∷ b ∷ c ∷ []) h n = absurd (omega arith)
words_back i v (a ∷ b ∷ c ∷ d ∷ []) h n = absurd (omega arith)
words_back i v (a ∷ b ∷ c ∷ d ∷ e ∷ ws) h n =
    let u = low_of a / 2 ^ 8 % 2 ^ 4 in
    let ra = next_word i operator_field v a (b ∷ c ∷ d ∷ e ∷ ws) h in
    let rb = next_word (suc i) start_field u b (c ∷ d ∷ e ∷ ws) ra.1 in
    let rc = next_word (suc (suc i)) end_field u c (d ∷ e ∷ ws) rb.1 in
    let rd = next_word (suc (suc (suc i))) upper_field u d (e ∷ ws) rc.1 in
    let re = next_word (suc (suc (suc (suc i)))) lower_field u e ws rd.1 in
    let five = five-faultless v a b c d e ra.0 rb.0 rc.0 rd.0 re.0 in
    let later = words_back (suc (suc (suc (suc (suc i))))) u ws re.1 (omega arith) in
    (rw (five-back a b c d e five, later.0) refl, token (five-legal a b c d e five) later.1)
