-- What a failure of the code tells: the messages that it stands for, each about the tokens in the failure's slots.
use Rattle.std.specs.Prelude.{ℕ, List, [], ◌∷◌}
use Rattle.molang.specs.Forest.{Token}
use Rattle.molang.specs.Message.{Message}
use Rattle.nodes.specs.Store.{TokenAt}
use Rattle.levels.specs.declared.failure.Failure.{Failure}
use Rattle.levels.specs.declared.failure.Failure.TheVariants.{LeadingMemberAccessor, EmptyParameterList, MathAtEnd}
use Rattle.levels.specs.declared.failure.Failure.TheVariants.{MathWithoutParenthesis, LeadingSemicolon, EmptyArrayIndex, BinaryAtEnd}
use Rattle.levels.specs.declared.failure.Failure.TheVariants.{NegateWithoutOperand, NotWithoutOperand, UnknownOperation}
use Rattle.levels.specs.declared.failure.Failure.TheVariants.{UnaryWithoutOperand, TernaryWithoutOperands}
use Rattle.levels.specs.declared.failure.Mismatch.{Mismatch}
use Rattle.levels.specs.declared.failure.Unclosed.{Unclosed}

-- The message of each failure, about the tokens in the slots that it names.
pub data Tells (W : List ℕ) : Failure → List Message → Type 0 where
  leading_member_accessor : {s : ℕ} {k : Token} → TokenAt W s k → Tells W (LeadingMemberAccessor s) (Message.leading_member_accessor k ∷ [])
  empty_parameter_list : {s b : ℕ} {k q : Token} → TokenAt W s k → TokenAt W b q
      → Tells W (EmptyParameterList s b) (Message.empty_parameter_list k q ∷ [])
  math_at_end : {s : ℕ} {k : Token} → TokenAt W s k → Tells W (MathAtEnd s) (Message.math_at_end k ∷ [])
  math_without_parenthesis : {s : ℕ} {k : Token} → TokenAt W s k → Tells W (MathWithoutParenthesis s) (Message.math_without_parenthesis k ∷ [])
  leading_semicolon : {s : ℕ} {k : Token} → TokenAt W s k → Tells W (LeadingSemicolon s) (Message.leading_semicolon k ∷ [])
  empty_array_index : {s b : ℕ} {k q : Token} → TokenAt W s k → TokenAt W b q
      → Tells W (EmptyArrayIndex s b) (Message.empty_array_index k q ∷ [])
  binary_at_end : {s : ℕ} {k : Token} → TokenAt W s k → Tells W (BinaryAtEnd s) (Message.binary_at_end k ∷ [])
  negate_without_operand : {s : ℕ} {k : Token} → TokenAt W s k → Tells W (NegateWithoutOperand s) (Message.negate_without_operand k ∷ [])
  not_without_operand : {s : ℕ} {k : Token} → TokenAt W s k → Tells W (NotWithoutOperand s) (Message.not_without_operand k ∷ [])
  unknown_operation : {s b : ℕ} {k q : Token} → TokenAt W s k → TokenAt W b q
      → Tells W (UnknownOperation s b) (Message.unknown_operation k q ∷ [])
  unary_without_operand : {s : ℕ} {k : Token} → TokenAt W s k → Tells W (UnaryWithoutOperand s) (Message.unary_without_operand k ∷ [])
  ternary_without_operands : {s : ℕ} {k : Token} → TokenAt W s k → Tells W (TernaryWithoutOperands s) (Message.ternary_without_operands k ∷ [])

-- The messages of a closer that is not the open section's: 4 and 5.
pub data TellsMismatch (W : List ℕ) : Mismatch → List Message → Type 0 where
  mismatched : {m : Mismatch} {o k p : Token} → TokenAt W m.opener o → TokenAt W m.closer k → TokenAt W m.outer p
      → TellsMismatch W m (Message.closing_mismatch o m.start k m.index ∷ Message.section_not_closed p ∷ [])

-- The messages of a section that no closer ends: 6 and 5.
pub data TellsUnclosed (W : List ℕ) : Unclosed → List Message → Type 0 where
  unclosed : {u : Unclosed} {o p : Token} → TokenAt W u.inner o → TokenAt W u.outer p
      → TellsUnclosed W u (Message.no_closing_symbol o u.start ∷ Message.section_not_closed p ∷ [])
