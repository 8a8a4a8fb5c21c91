-- The words that writing lays into the list, and the part of the tree words that a tree fills.
use Rattle.std.specs.Prelude.{ℕ, suc, ◌+◌, ◌-◌, ◌*◌, ◌%◌, ◌^◌, ◌≤◌, ◌≡◌, List, [], true, false, not, length, take, get_or}
use Rattle.molang.specs.Forest.{Token, Forest, nil, node, count, size}
use Rattle.molang.specs.Operator
use Rattle.molang.specs.Operator.{is_bracket}
use Rattle.molang.specs.Words.{word, low_of, list_words}
use Rattle.words.specs.Extents.{extent_with}
use Rattle.words.specs.Fields.{operator_of}
use Rattle.words.specs.Tokens.{five_words, node_length}
use Rattle.words.specs.declared.extent.Extent.{Extent}
use Rattle.words.specs.declared.tokens.TokenWords.{TokenWords}
use Rattle.molang.specs.Write.{written, operand_tokens}
use Rattle.molang.specs.WriteEntry.{first_trees, trees_of, tokens}
use Rattle.write.specs.declared.plain.Seat.{Seat}
use Rattle.write.specs.Answers.{judgement}
use Rattle.write.specs.Seats.{is_paired}
use Rattle.shape.specs.Shaped.{close_index, Shaped, OneTree}

-- The words of a token of op over a span, with payload 0.
abbrev pub spanning_words : ℕ → ℕ → ℕ → TokenWords
spanning_words op start end =
    record { operator = word 1 (op % 2 ^ 8); start = word 2 (low_of start); end = word 3 (low_of end); upper = word 4 0; lower = word 5 0 }

-- The words of the opener of an added pair over an extent.
abbrev pub pair_opener : ℕ → ℕ → List ℕ
pair_opener start end = five_words (spanning_words Operator.left_parenthesis start end)

-- The words of a closer where a pair or a section ends: it carries that end twice.
abbrev pub pair_closer : ℕ → List ℕ
pair_closer end = five_words (spanning_words Operator.right_parenthesis end end)

-- The words of the closer of the node that the words open with, if it is a bracket.
unfoldable pub closer_words : List ℕ → List ℕ
closer_words ws = elim (is_bracket (operator_of (get_or ws 0 0))) [ true ↦ pair_closer (get_or ws close_index 0) | false ↦ [] ]

-- The extent of nothing, which every span widens.
abbrev pub nothing_seen : Extent
nothing_seen = record { start = 2 ^ 29 - 1; end = 0 }

-- An extent with that of the first tree taken in.
abbrev pub seen_with : Extent → List ℕ → Extent
seen_with e ws = extent_with e (first_trees 1 (trees_of ws))

-- The nodes of the first tree.
unfoldable pub first_size : Forest → ℕ
first_size nil = 0
first_size (node k cs rest) = 1 + size cs

-- The tokens of the first tree as an expression, or as what a statement holds.
unfoldable pub node_tokens : Forest → List Token
node_tokens nil = []
node_tokens (node k cs rest) = written k cs []

-- Those of it as an operand in its seat.
unfoldable pub operand_of : Seat → Forest → List Token
operand_of p nil = []
operand_of p (node k cs rest) = operand_tokens (not (is_paired p k.op (count cs))) k cs (written k cs) []

-- The words that the first tree fills.
abbrev pub filled_words : List ℕ → List ℕ
filled_words ws = take (node_length * first_size (trees_of ws)) ws

-- The words that are written of the first tree.
abbrev pub node_written : List ℕ → List ℕ
node_written ws = list_words (node_tokens (trees_of ws))

-- Those of it as an operand.
abbrev pub operand_written : Seat → List ℕ → List ℕ
operand_written p ws = list_words (operand_of p (trees_of ws))

-- The words open with a tree of at most two children a node, and from `to` on the list has room for its tokens.
pub record Room (spelt : Forest → List Token) (words list : List ℕ) (to : ℕ) : Type 0 where
  pub others : ℕ
  pub shaped : Shaped 2 (suc others) words
  pub room : to + length (list_words (spelt (trees_of words))) ≤ length list

-- The words are one tree, which is plain and written with so many tokens.
pub record Writable (words : List ℕ) (count : ℕ) : Type 0 where
  pub one : OneTree words
  pub judged : tokens count ≡ judgement (trees_of words)
