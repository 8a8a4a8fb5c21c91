-- `parse::report::record_of` meets its contract: each arm is the case of `record_for` that its variant has. Assumes nothing.
use mathlib.Core.Path.{◌≡◌}
use Rattle.levels.specs.declared.failure.Failure.{Failure}
use Rattle.parse.specs.Records.{Named}
use Rattle.parse.proofs.{RecordLaws.{named-at}}
use Rattle.parse.proofs.report.record_of.Goals as goal
use Rattle.parse.proofs.report.record_of.Lts as lts
use Rattle.parse.proofs.report.record_of.Tie as tie
use Rattle.parse.proofs.report.record_of.Reads as reads

-- The slots of the variant that the failure is.
slots_at : (start : (lts.Start tie.the-claims reads.Pre reads.Post)) {g : Failure} → start.args.failure ≡ g → Named start.args.work.now g
slots_at start e = named-at start.args.work.now e start.requires

pub naming-requires : goal.naming-requires
naming-requires c =
    let slots = slots_at c.before.before.before c.in-EmptyParameterList.is in
    (slots.0, slots.1, slots.0)

pub naming-requires-in-BinaryAtEnd : goal.naming-requires-in-BinaryAtEnd
naming-requires-in-BinaryAtEnd c =
    let slots = slots_at c.before.before.before c.in-BinaryAtEnd.is in
    (slots.0, slots.0, slots.0)

pub naming-requires-in-UnknownOperation : goal.naming-requires-in-UnknownOperation
naming-requires-in-UnknownOperation c =
    let slots = slots_at c.before.before.before c.in-UnknownOperation.is in
    (slots.0, slots.0, slots.1)

pub naming-requires-in-UnaryWithoutOperand : goal.naming-requires-in-UnaryWithoutOperand
naming-requires-in-UnaryWithoutOperand c =
    let slots = slots_at c.before.before.before c.in-UnaryWithoutOperand.is in
    (slots.0, slots.0, slots.0)

pub naming-requires-in-TernaryWithoutOperands : goal.naming-requires-in-TernaryWithoutOperands
naming-requires-in-TernaryWithoutOperands c =
    let slots = slots_at c.before.before.before c.in-TernaryWithoutOperands.is in
    (slots.0, slots.0, slots.0)

pub at_slot-requires : goal.at_slot-requires
at_slot-requires c =
    (slots_at c.before.before.before c.in-ComplexMustEndWithSemicolon.is).0

pub at_slot-requires-in-LeadingMemberAccessor : goal.at_slot-requires-in-LeadingMemberAccessor
at_slot-requires-in-LeadingMemberAccessor c =
    (slots_at c.before.before.before c.in-LeadingMemberAccessor.is).0

pub naming_math-requires : goal.naming_math-requires
naming_math-requires c =
    (slots_at c.before.before.before c.in-MathAtEnd.is).0

pub naming_math-requires-in-MathWithoutParenthesis : goal.naming_math-requires-in-MathWithoutParenthesis
naming_math-requires-in-MathWithoutParenthesis c =
    (slots_at c.before.before.before c.in-MathWithoutParenthesis.is).0

pub at_slot-requires-in-LeadingSemicolon : goal.at_slot-requires-in-LeadingSemicolon
at_slot-requires-in-LeadingSemicolon c =
    (slots_at c.before.before.before c.in-LeadingSemicolon.is).0

pub spanning-requires : goal.spanning-requires
spanning-requires c =
    slots_at c.before.before.before c.in-EmptyArrayIndex.is

pub at_slot-requires-in-NegateWithoutOperand : goal.at_slot-requires-in-NegateWithoutOperand
at_slot-requires-in-NegateWithoutOperand c =
    (slots_at c.before.before.before c.in-NegateWithoutOperand.is).0

pub at_slot-requires-in-NotWithoutOperand : goal.at_slot-requires-in-NotWithoutOperand
at_slot-requires-in-NotWithoutOperand c =
    (slots_at c.before.before.before c.in-NotWithoutOperand.is).0

pub returns-in-ComplexMustEndWithSemicolon : goal.returns-in-ComplexMustEndWithSemicolon
returns-in-ComplexMustEndWithSemicolon c =
    rw c.in-ComplexMustEndWithSemicolon.is c.at_slot.ensures

pub returns-in-ComplexWithoutTokens : goal.returns-in-ComplexWithoutTokens
returns-in-ComplexWithoutTokens c =
    rw c.in-ComplexWithoutTokens.is c.new.ensures

pub returns-in-LeadingMemberAccessor : goal.returns-in-LeadingMemberAccessor
returns-in-LeadingMemberAccessor c =
    rw c.in-LeadingMemberAccessor.is c.at_slot-in-LeadingMemberAccessor.ensures

pub returns-in-EmptyParameterList : goal.returns-in-EmptyParameterList
returns-in-EmptyParameterList c =
    rw c.in-EmptyParameterList.is c.naming.ensures

pub returns-in-MathAtEnd : goal.returns-in-MathAtEnd
returns-in-MathAtEnd c =
    rw c.in-MathAtEnd.is c.naming_math.ensures

pub returns-in-MathWithoutParenthesis : goal.returns-in-MathWithoutParenthesis
returns-in-MathWithoutParenthesis c =
    rw c.in-MathWithoutParenthesis.is c.naming_math-in-MathWithoutParenthesis.ensures

pub returns-in-LeadingSemicolon : goal.returns-in-LeadingSemicolon
returns-in-LeadingSemicolon c =
    rw c.in-LeadingSemicolon.is c.at_slot-in-LeadingSemicolon.ensures

pub returns-in-EmptyArrayIndex : goal.returns-in-EmptyArrayIndex
returns-in-EmptyArrayIndex c =
    rw c.in-EmptyArrayIndex.is c.spanning.ensures

pub returns-in-BinaryAtEnd : goal.returns-in-BinaryAtEnd
returns-in-BinaryAtEnd c =
    rw c.in-BinaryAtEnd.is c.naming-in-BinaryAtEnd.ensures

pub returns-in-NegateWithoutOperand : goal.returns-in-NegateWithoutOperand
returns-in-NegateWithoutOperand c =
    rw c.in-NegateWithoutOperand.is c.at_slot-in-NegateWithoutOperand.ensures

pub returns-in-NotWithoutOperand : goal.returns-in-NotWithoutOperand
returns-in-NotWithoutOperand c =
    rw c.in-NotWithoutOperand.is c.at_slot-in-NotWithoutOperand.ensures

pub returns-in-UnknownOperation : goal.returns-in-UnknownOperation
returns-in-UnknownOperation c =
    rw c.in-UnknownOperation.is c.naming-in-UnknownOperation.ensures

pub returns-in-UnaryWithoutOperand : goal.returns-in-UnaryWithoutOperand
returns-in-UnaryWithoutOperand c =
    rw c.in-UnaryWithoutOperand.is c.naming-in-UnaryWithoutOperand.ensures

pub returns-in-TernaryWithoutOperands : goal.returns-in-TernaryWithoutOperands
returns-in-TernaryWithoutOperands c =
    rw c.in-TernaryWithoutOperands.is c.naming-in-TernaryWithoutOperands.ensures
