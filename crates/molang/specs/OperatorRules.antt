-- The rule of a node by its operator, its children and the version, as the code finds it. That it is the pass that first gave the node
-- children (Rules) is the law `rules-by-operator` of proofs/OperatorRules.
use Rattle.std.specs.Prelude.{ℕ, Bool, true, false, ◌||◌, ◌&&◌, List, [], ◌∷◌, ◌++◌, eqb}
use Rattle.molang.specs.Operator
use Rattle.molang.specs.Operator.{is_math_call}
use Rattle.molang.specs.Forest.{Forest, nil, node}
use Rattle.molang.specs.Rules.{number_beside, level_numbers}

-- The numbers of the operators that get children, but for math calls.
abbrev pub operator_numbers : List (ℕ × ℕ)
operator_numbers =
    (Operator.member_accessor, 1)
    ∷ (Operator.left_brace, 2) ∷ (Operator.left_bracket, 2) ∷ (Operator.left_parenthesis, 2)
    ∷ (Operator.query_function, 3) ∷ (Operator.loop, 3) ∷ (Operator.for_each, 3)
    ∷ (Operator.semicolon, 4) ∷ (Operator.array, 5) ∷ (Operator.pointer, 6)
    ∷ (Operator.negate, 8) ∷ (Operator.logical_not, 8) ∷ (Operator.add, 11) ∷ (Operator.return, 20)
    ∷ level_numbers

-- The rule of a node with children; from version 6, where comparisons come first, equality is a rule of its own.
unfoldable pub operator_rule : Bool → ℕ → ℕ
operator_rule comparisons_first n =
    elim (is_math_call n) [
      | true ↦ 7
      | false ↦
          elim (comparisons_first && (eqb n Operator.logical_equal || eqb n Operator.logical_not_equal)) [
            | true ↦ 13
            | false ↦ number_beside n operator_numbers
          ]
    ]

-- The rules of trees in tree order, by their operators: 0 for a leaf.
unfoldable pub operator_rules : Bool → Forest → List ℕ
operator_rules first nil = []
operator_rules first (node k nil rest) = 0 ∷ operator_rules first rest
operator_rules first (node k (node c cs more) rest) =
    operator_rule first k.op ∷ (operator_rules first (node c cs more) ++ operator_rules first rest)
