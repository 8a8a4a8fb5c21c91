-- The word formats of document 01, 'The entry and its words': tokens of five words, tree nodes of seven (card 2), which words are legal,
-- and answers 8-11.
use Rattle.std.specs.Prelude.{ℕ, ◌+◌, ◌*◌, ◌/◌, ◌%◌, ◌^◌, suc, true, false, List, [], ◌∷◌, ◌++◌, eqb, leb, ltb}
use Rattle.std.proofs.Math.Option.{Option, none, some}
use Rattle.molang.specs.Operator.{is_operator}
use Rattle.molang.specs.Forest.{Token, Forest, nil, node, count}
use Rattle.molang.specs.FirstFailure.{must, first_of}

-- A word has its kind in the top three bits of 32 and its value in the low 29.
unfoldable pub word : ℕ → ℕ → ℕ
word kind low = kind * 2 ^ 29 + low

-- The kind of a word.
unfoldable pub kind_of : ℕ → ℕ
kind_of w = w / 2 ^ 29

-- Its low 29 bits.
unfoldable pub low_of : ℕ → ℕ
low_of w = w % 2 ^ 29

-- The low bits of a word of kind 1: bits 0-7 are the operator number's lower eight, 8-11 the payload variant, 12-15 the number's upper
-- four (document 02, card 7).
unfoldable pub operator_bits : ℕ → ℕ → ℕ
operator_bits n variant = n / 2 ^ 8 * 2 ^ 12 + variant * 2 ^ 8 + n % 2 ^ 8

-- The operator number in the low bits of a word of kind 1.
unfoldable pub number_in : ℕ → ℕ
number_in low = low / 2 ^ 12 % 2 ^ 4 * 2 ^ 8 + low % 2 ^ 8

-- A token's five words: operator and payload variant, span start, span end, upper and lower half of the payload value.
unfoldable pub token_words : Token → List ℕ
token_words k =
    word 1 (operator_bits k.op k.variant) ∷ word 2 k.start ∷ word 3 k.end ∷ word 4 (k.value / 2 ^ 16)
    ∷ word 5 (k.value % 2 ^ 16) ∷ []

-- The token of five words; it closes at its end.
unfoldable pub token_of : ℕ → ℕ → ℕ → ℕ → ℕ → Token
token_of a b c d e =
    record {
      op = number_in (low_of a);
      variant = low_of a / 2 ^ 8 % 2 ^ 4;
      value = low_of d % 2 ^ 16 * 2 ^ 16 + low_of e % 2 ^ 16;
      start = low_of b;
      end = low_of c;
      close = low_of c;
    }

-- The tokens of a word list; words after the last whole token are left out.
unfoldable pub tokens_of : List ℕ → List Token
tokens_of [] = []
tokens_of (a ∷ []) = []
tokens_of (a ∷ b ∷ []) = []
tokens_of (a ∷ b ∷ c ∷ []) = []
tokens_of (a ∷ b ∷ c ∷ d ∷ []) = []
tokens_of (a ∷ b ∷ c ∷ d ∷ e ∷ ws) = token_of a b c d e ∷ tokens_of ws

-- The words of a token list.
unfoldable pub list_words : List Token → List ℕ
list_words [] = []
list_words (k ∷ ks) = token_words k ++ list_words ks

-- A node's seven words: those of its token, its child count and where it closes.
unfoldable pub node_words_of : Token → ℕ → List ℕ
node_words_of k children = token_words k ++ (word 6 children ∷ word 7 k.close ∷ [])

-- The label of a node by its words but the child count, the last of them saying where it closes.
unfoldable pub node_of : ℕ → ℕ → ℕ → ℕ → ℕ → ℕ → Token
node_of a b c d e g =
    let k = token_of a b c d e in
    record { op = k.op; variant = k.variant; value = k.value; start = k.start; end = k.end; close = low_of g }

-- The words of trees: each node's, parent first, children in order.
unfoldable pub tree_words : Forest → List ℕ
tree_words nil = []
tree_words (node k cs rest) = node_words_of k (count cs) ++ (tree_words cs ++ tree_words rest)

-- Which word of a token or node is expected next.
pub data Field : Type 0 where
  operator_field start_field end_field upper_field lower_field count_field close_field : Field

-- The kind of the word that is expected.
unfoldable pub field_kind : Field → ℕ
field_kind operator_field = 1
field_kind start_field = 2
field_kind end_field = 3
field_kind upper_field = 4
field_kind lower_field = 5
field_kind count_field = 6
field_kind close_field = 7

-- The answer to the low bits of a word of the right kind, in a token of payload variant v: 9, 10 or 11.
unfoldable pub low_fault : Field → ℕ → ℕ → Option ℕ
low_fault operator_field v low =
    first_of (must (is_operator (number_in low)) 9 ∷ must (leb (low / 2 ^ 8 % 2 ^ 4) 12) 10 ∷ must (ltb low (2 ^ 16)) 11 ∷ [])
low_fault start_field v low = none
low_fault end_field v low = none
low_fault upper_field v low = must (ltb low (elim (eqb v 0) [ true ↦ 1 | false ↦ 2 ^ 16 ])) 11
low_fault lower_field v low = must (ltb low (elim (eqb v 0) [ true ↦ 1 | false ↦ 2 ^ 16 ])) 11
low_fault count_field v low = must (ltb low (2 ^ 14)) 11
low_fault close_field v low = none

-- The answer to a word: 8 for a wrong kind, else that to its low bits.
unfoldable pub word_fault : Field → ℕ → ℕ → Option ℕ
word_fault field v w = first_of (must (eqb (kind_of w) (field_kind field)) 8 ∷ low_fault field v (low_of w) ∷ [])

-- The payload variant of the token that a word belongs to, after the word.
unfoldable pub variant_after : Field → ℕ → ℕ → ℕ
variant_after operator_field v w = low_of w / 2 ^ 8 % 2 ^ 4
variant_after start_field v w = v
variant_after end_field v w = v
variant_after upper_field v w = v
variant_after lower_field v w = v
variant_after count_field v w = v
variant_after close_field v w = v

-- The word after it, in a list of tokens.
unfoldable pub next_in_token : Field → Field
next_in_token operator_field = start_field
next_in_token start_field = end_field
next_in_token end_field = upper_field
next_in_token upper_field = lower_field
next_in_token lower_field = operator_field
next_in_token count_field = operator_field
next_in_token close_field = operator_field

-- A refusal's number and place.
pub record Refusal : Type 0 where
  pub number : ℕ
  pub place : ℕ

-- The refusal with this number at this place.
abbrev pub row : ℕ → ℕ → Refusal
row number place = record { number = number; place = place }

-- A number that was found, at its place.
abbrev pub with_place : ℕ → Option ℕ → Option Refusal
with_place place none = none
with_place place (some number) = some (row number place)

-- A place that was found, with its number.
abbrev pub with_number : ℕ → Option ℕ → Option Refusal
with_number number none = none
with_number number (some place) = some (row number place)

-- The first word of a list that answers 8-11, i being the index of the next word.
unfoldable pub words_refusal : ℕ → Field → ℕ → List ℕ → Option Refusal
words_refusal i field v [] = none
words_refusal i field v (w ∷ ws) =
    first_of (with_place i (word_fault field v w) ∷ words_refusal (suc i) (next_in_token field) (variant_after field v w) ws ∷ [])
