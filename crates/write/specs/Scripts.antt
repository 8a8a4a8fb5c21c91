-- A script in words: its root's children, where judging begins, and what is written of its statements.
use Rattle.std.specs.Prelude.{ℕ, suc, ◌+◌, ◌≤◌, ◌≡◌, Bool, true, false, ◌&&◌, List, [], eqb, length, drop, get_or}
use Rattle.molang.specs.Operator
use Rattle.molang.specs.Forest.{Token, Forest, nil, node, count}
use Rattle.molang.specs.Plain as plain
use Rattle.molang.specs.Words.{low_of, list_words}
use Rattle.molang.specs.Write.{written_statements}
use Rattle.molang.specs.WriteEntry.{first_trees, trees_of}
use Rattle.write.specs.declared.plain.Seat.{Seat}
use Rattle.write.specs.declared.plain.Seat.TheVariants.{Enclosed, UnderSemicolon}
use Rattle.write.specs.Reading.{operator_at}
use Rattle.words.specs.Tokens.{node_length}
use Rattle.shape.specs.Shaped.{count_index, Shaped}

-- The first tree's root has the children of a script's.
unfoldable pub holds_statements : Forest → Bool
holds_statements nil = false
holds_statements (node k cs rest) = plain.semicolon_form plain.at_root cs

-- Where judging begins: the seat of the first tree that is called for, the number of such trees and the number of the node. At the root of
-- an expression; or behind the root of a script, which is plain.
pub data Begins (tree : List ℕ) : Seat → ℕ → ℕ → Type 0 where
  an_expression : (operator_at tree 0 ≡ Operator.semicolon → ⊥) → Begins tree Enclosed 1 0
  a_script : operator_at tree 0 ≡ Operator.semicolon → holds_statements (trees_of tree) ≡ true
      → Begins tree UnderSemicolon (low_of (get_or tree count_index 0)) 1

-- Each tree of a row has one child.
unfoldable pub each_holds_one : Forest → Bool
each_holds_one nil = true
each_holds_one (node k cs rest) = eqb (count cs) 1 && each_holds_one rest

-- The tokens that are written of the first tree as a statement.
unfoldable pub statement_tokens : Forest → List Token
statement_tokens f = written_statements (first_trees 1 f) []

-- The words of these.
abbrev pub statement_written : List ℕ → List ℕ
statement_written ws = list_words (statement_tokens (trees_of ws))

-- The words that are written of a row of statements.
abbrev pub statements_written : List ℕ → List ℕ
statements_written ws = list_words (written_statements (trees_of ws) [])

-- The words open with a statement that holds one tree, and from `to` on the list has room for its tokens.
pub record StatementRoom (words list : List ℕ) (to : ℕ) : Type 0 where
  pub others : ℕ
  pub shaped : Shaped 2 (suc others) words
  pub one : low_of (get_or words count_index 0) ≡ 1
  pub room : to + length (statement_written words) ≤ length list

-- The words behind a root are statements that hold one tree each, and the list has room for their tokens.
pub record ScriptRoom (tree list : List ℕ) : Type 0 where
  pub statements : ℕ
  pub long : node_length ≤ length tree
  pub shaped : Shaped 2 statements (drop node_length tree)
  pub ones : each_holds_one (trees_of (drop node_length tree)) ≡ true
  pub room : length (statements_written (drop node_length tree)) ≤ length list
