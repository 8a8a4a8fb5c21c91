-- Writing a plain tree out with brackets, and taking brackets away (document 01, 'Writing a plain tree').
use Rattle.std.specs.Prelude.{ℕ, Bool, true, false, ◌||◌, ◌&&◌, not, List, [], ◌∷◌, eqb}
use Rattle.molang.specs.Operator
use Rattle.molang.specs.Forest.{Token, Forest, nil, node, bare, unclosed}
use Rattle.molang.specs.Operator.{is_bracket}
use Rattle.molang.specs.Plain.{is_call}
use Rattle.molang.specs.Read.{lowest_start, highest_end}

-- A token of an operator and a span, with payload 0.
unfoldable pub spanning : ℕ → ℕ → ℕ → Token
spanning o start end = record { op = o; variant = 0; value = 0; start = start; end = end; close = end }

-- The opener of an added pair covers its operand, the node k over cs, from the lowest start to the highest end of all its spans (card 3).
unfoldable pub opener_for : Token → Forest → Token
opener_for k cs = spanning Operator.left_parenthesis (lowest_start k.start cs) (highest_end k.end cs)

-- Its closer carries that end twice (card 3).
unfoldable pub closer_for : Token → Forest → Token
closer_for k cs = spanning Operator.right_parenthesis (highest_end k.end cs) (highest_end k.end cs)

-- The closer of a section of the tree starts and ends where the section closes (card 2).
unfoldable pub closer_of : Token → Token
closer_of k = spanning Operator.right_parenthesis k.close k.close

-- An operand that is a leaf or a bracket gets no pair.
unfoldable pub stands_alone : Token → Forest → Bool
stands_alone k nil = true
stands_alone k (node c cs r) = is_bracket k.op

-- As left operand of p, a comma that is a comma's left side gets no pair either.
unfoldable pub stands_left : Token → Token → Forest → Bool
stands_left p k cs = stands_alone k cs || (eqb p.op Operator.comma && eqb k.op Operator.comma)

-- As right operand of p, the `:` right of its `?` gets no pair either.
unfoldable pub stands_right : Token → Token → Forest → Bool
stands_right p k cs = stands_alone k cs || (eqb p.op Operator.conditional && eqb k.op Operator.conditional_else)

-- An operand, the node k over cs, with its tokens, before the tokens r: as it is, or in an added pair.
unfoldable pub operand_tokens : Bool → Token → Forest → (List Token → List Token) → List Token → List Token
operand_tokens true k cs tokens r = tokens r
operand_tokens false k cs tokens r = opener_for k cs ∷ tokens (closer_for k cs ∷ r)

-- WRITING AN EXPRESSION, or what a statement holds: the tokens of the node k over its children, before the tokens r. (No plain node that is
-- no semicolon has three children.)
unfoldable pub written : Token → Forest → List Token → List Token
written k nil r = elim (is_bracket k.op) [ true ↦ unclosed k ∷ closer_of k ∷ r | false ↦ k ∷ r ]
written k (node x xs nil) r =
    elim (is_bracket k.op) [
      | true ↦ unclosed k ∷ written x xs (closer_of k ∷ r)
      | false ↦ k ∷ operand_tokens (stands_alone x xs) x xs (written x xs) r
    ]
written k (node x xs (node y ys nil)) r =
    operand_tokens (stands_left k x xs) x xs (written x xs) (k ∷ operand_tokens (stands_right k y ys) y ys (written y ys) r)
written k (node x xs (node y ys (node z zs more))) r = k ∷ r

-- The statements of a script, before the tokens r: what each holds, and after it a semicolon with the span of that child and payload 0
-- (card 1). (No plain statement is empty, and none holds two trees.)
unfoldable pub written_statements : Forest → List Token → List Token
written_statements nil r = r
written_statements (node s nil rest) r = written_statements rest r
written_statements (node s (node x xs more) rest) r = written x xs (bare Operator.semicolon x ∷ written_statements rest r)

-- THE WRITING of the tree k over cs: of a root semicolon its statements, of any other root the expression.
unfoldable pub written_tree : Token → Forest → List Token
written_tree k cs = elim (eqb k.op Operator.semicolon) [ true ↦ written_statements cs [] | false ↦ written k cs [] ]

-- Exactly one tree.
unfoldable pub is_single : Forest → Bool
is_single nil = false
is_single (node k cs nil) = true
is_single (node k cs (node l ls r)) = false

-- TAKING AWAY: trees before r without the brackets of exactly one child, each child standing in its bracket's place; the brackets of calls
-- stay, `in_call` saying whether the trees stand under 40 or a math call in the tree as it was given.
unfoldable pub taken_away : Bool → Forest → Forest → Forest
taken_away in_call nil r = r
taken_away in_call (node k cs rest) r =
    elim (is_bracket k.op && is_single cs && not in_call) [
      | true ↦ taken_away false cs (taken_away in_call rest r)
      | false ↦ node k (taken_away (is_call k.op) cs nil) (taken_away in_call rest r)
    ]

-- What is compared of a script's token: of a semicolon its operator alone.
unfoldable pub comparable_token : Token → Token
comparable_token k = elim (eqb k.op Operator.semicolon) [ true ↦ spanning Operator.semicolon 0 0 | false ↦ k ]

-- Of its trees.
unfoldable pub comparable_trees : Forest → Forest
comparable_trees nil = nil
comparable_trees (node k cs rest) = node (comparable_token k) (comparable_trees cs) (comparable_trees rest)

-- WHAT IS COMPARED of a tree (card 1): where its root is a semicolon, all but the spans, payloads and closes of semicolons; else all.
unfoldable pub comparable : Forest → Forest
comparable nil = nil
comparable (node k cs rest) = elim (eqb k.op Operator.semicolon) [ true ↦ comparable_trees (node k cs rest) | false ↦ node k cs rest ]
