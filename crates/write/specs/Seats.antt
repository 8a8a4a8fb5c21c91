-- The seat of a node as the code has it, and what follows from it: the plain forms and the added pairs by numbers alone.
use Rattle.std.specs.Prelude.{ℕ, zero, suc, ◌+◌, Bool, true, false, ◌||◌, ◌&&◌, not, [], ◌∷◌, eqb}
use Rattle.molang.specs.Operator
use Rattle.molang.specs.Operator.{is_one_of, is_math_call, is_bracket}
use Rattle.molang.specs.Plain as plain
use Rattle.molang.specs.Plain.{is_plain_leaf, is_plain_binary, is_call, is_right_of_question, is_under_math_call, is_under_semicolon}
use Rattle.write.specs.declared.plain.Seat.{Seat}
use Rattle.write.specs.declared.plain.Seat.TheVariants.{Enclosed, UnderMathCall, LeftOfComma, RightOfQuestion, Operand}
use Rattle.write.specs.declared.plain.Seat.TheVariants.{UnderSemicolon}

-- The definition's seat, by which the plain forms go. (The root of an expression has the forms of a node elsewhere.)
abbrev pub form_seat : Seat → plain.Seat
form_seat Enclosed = plain.elsewhere
form_seat UnderMathCall = plain.under_math_call
form_seat LeftOfComma = plain.elsewhere
form_seat RightOfQuestion = plain.right_of_question
form_seat Operand = plain.elsewhere
form_seat UnderSemicolon = plain.under_semicolon

-- The seat of the one child of an operator.
unfoldable pub only_seat : ℕ → Seat
only_seat op = elim (is_bracket op) [ true ↦ Enclosed | false ↦ elim (is_math_call op) [ true ↦ UnderMathCall | false ↦ Operand ] ]

-- The seat of the first of two children.
unfoldable pub left_seat : ℕ → Seat
left_seat op = elim (eqb op Operator.comma) [ true ↦ LeftOfComma | false ↦ Operand ]

-- The seat of the first child of an operator over so many children.
unfoldable pub first_seat : ℕ → ℕ → Seat
first_seat op children = elim (eqb children 2) [ true ↦ left_seat op | false ↦ only_seat op ]

-- The seat of the second of two.
unfoldable pub right_seat : ℕ → Seat
right_seat op = elim (eqb op Operator.conditional) [ true ↦ RightOfQuestion | false ↦ Operand ]

-- The seat by which the one child of an operator is judged: what a statement holds stands under its semicolon.
unfoldable pub below_seat : ℕ → Seat
below_seat op = elim (eqb op Operator.semicolon) [ true ↦ UnderSemicolon | false ↦ only_seat op ]

-- What stands before any one operand in a plain tree.
unfoldable pub is_prefix : ℕ → Bool
is_prefix op = is_one_of (Operator.left_parenthesis ∷ Operator.negate ∷ Operator.logical_not ∷ []) op

-- What stands before one operand in a statement only: a return, and the statement itself over what is none.
unfoldable pub holds_one : ℕ → ℕ → Bool
holds_one op first = eqb op Operator.return || (eqb op Operator.semicolon && not (eqb first Operator.semicolon))

-- The plain forms, over a number of children of which the first has the operator `first`.
unfoldable pub plain_by : Seat → ℕ → ℕ → ℕ → Bool
plain_by p op zero first = is_plain_leaf op || (is_bracket op && is_under_math_call (form_seat p))
plain_by p op (suc zero) first = is_prefix op || (is_call op && is_bracket first) || (holds_one op first && is_under_semicolon (form_seat p))
plain_by p op (suc (suc zero)) first =
    is_plain_binary op || (eqb op Operator.conditional_else && is_right_of_question (form_seat p))
    || (eqb op Operator.assignment && is_under_semicolon (form_seat p))
plain_by p op (suc (suc (suc n))) first = false

-- The seat spares a node of this operator its pair.
abbrev pub is_spared : Seat → ℕ → Bool
is_spared Enclosed op = true
is_spared UnderMathCall op = false
is_spared LeftOfComma op = eqb op Operator.comma
is_spared RightOfQuestion op = eqb op Operator.conditional_else
is_spared Operand op = false
is_spared UnderSemicolon op = true

-- A node of this operator and so many children gets an added pair.
unfoldable pub is_paired : Seat → ℕ → ℕ → Bool
is_paired p op children = not (eqb children 0 || (is_bracket op || is_spared p op))

-- n where the test holds, else 0.
abbrev pub if_true : Bool → ℕ → ℕ
if_true true n = n
if_true false n = 0

-- The tokens that are written for a node alone: itself, a bracket's closer, an added pair.
unfoldable pub tokens_for : Seat → ℕ → ℕ → ℕ
tokens_for p op children = 1 + if_true (is_bracket op) 1 + if_true (is_paired p op children) 2
