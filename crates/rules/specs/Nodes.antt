-- The rules of nodes by their words.
use Rattle.std.specs.Prelude.{ℕ, Bool, true, false, List, [], ◌∷◌, eqb}
use Rattle.molang.specs.Words.{low_of}
use Rattle.molang.specs.OperatorRules.{operator_rule}
use Rattle.words.specs.Fields.{operator_of}

-- The rule of a node by the words of its operator and its child count: 0 for a leaf.
unfoldable pub node_rule : Bool → ℕ → ℕ → ℕ
node_rule comparisons_first operator count =
    elim (eqb (low_of count) 0) [ true ↦ 0 | false ↦ operator_rule comparisons_first (operator_of operator) ]

-- The rules of nodes that stand in a row, seven words each; words after the last whole node are left out.
unfoldable pub word_rules : Bool → List ℕ → List ℕ
word_rules first [] = []
word_rules first (a ∷ []) = []
word_rules first (a ∷ b ∷ []) = []
word_rules first (a ∷ b ∷ c ∷ []) = []
word_rules first (a ∷ b ∷ c ∷ d ∷ []) = []
word_rules first (a ∷ b ∷ c ∷ d ∷ e ∷ []) = []
word_rules first (a ∷ b ∷ c ∷ d ∷ e ∷ n ∷ []) = []
word_rules first (a ∷ b ∷ c ∷ d ∷ e ∷ n ∷ g ∷ ws) = node_rule first a n ∷ word_rules first ws
