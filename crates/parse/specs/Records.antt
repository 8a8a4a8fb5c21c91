-- The records of the failures, by the words of the slots that they name. The laws of proofs/RecordLaws say which messages' records these
-- are, those of proofs/ReportLaws that they are what stands in the message buffer.
use Rattle.std.specs.Prelude.{ℕ, ◌≤◌, true, false, List, eqb, length}
use Rattle.std.proofs.Math.Option.{get_or}
use Rattle.molang.specs.Operator.{closing_of}
use Rattle.molang.specs.Message.{host_math_variant}
use Rattle.words.specs.Fields.{variant_of}
use Rattle.words.specs.Records.{unnamed, with_first, with_last}
use Rattle.words.specs.declared.records.Record.{Record}
use Rattle.nodes.specs.Store.{slot_end, operator_word_at, value_word_at}
use Rattle.nodes.specs.Slots.{op_at, start_at, end_at}
use Rattle.levels.specs.declared.failure.Failure.{Failure}
use Rattle.levels.specs.declared.failure.Failure.TheVariants.{ComplexMustEndWithSemicolon, ComplexWithoutTokens, LeadingMemberAccessor}
use Rattle.levels.specs.declared.failure.Failure.TheVariants.{EmptyParameterList, MathAtEnd, MathWithoutParenthesis, LeadingSemicolon}
use Rattle.levels.specs.declared.failure.Failure.TheVariants.{EmptyArrayIndex, BinaryAtEnd, NegateWithoutOperand, NotWithoutOperand}
use Rattle.levels.specs.declared.failure.Failure.TheVariants.{UnknownOperation, UnaryWithoutOperand, TernaryWithoutOperands}
use Rattle.levels.specs.declared.failure.Mismatch.{Mismatch}
use Rattle.levels.specs.declared.failure.Unclosed.{Unclosed}

-- The words of slot s lie within the buffer.
abbrev pub Within : List ℕ → ℕ → Type 0
Within W s = slot_end s ≤ length W

-- From one slot's start to another's end.
abbrev pub span_record : List ℕ → ℕ → ℕ → ℕ → Record
span_record W number from to = unnamed number (start_at W from) (end_at W to)

-- The same, naming a slot's operator.
abbrev pub name_record : List ℕ → ℕ → ℕ → ℕ → ℕ → Record
name_record W number from to named = with_first (span_record W number from to) (op_at W named) 0

-- The payload value of a host math function, else 0.
unfoldable pub host_at : List ℕ → ℕ → ℕ
host_at W s = elim (eqb (variant_of (operator_word_at W s)) host_math_variant) [ true ↦ value_word_at W s | false ↦ 0 ]

-- A math function's, naming it and its host value.
abbrev pub math_record : List ℕ → ℕ → ℕ → Record
math_record W number s = with_first (span_record W number s s) (op_at W s) (host_at W s)

-- The operator that closes the section of an opener.
abbrev pub closer_at : List ℕ → ℕ → ℕ
closer_at W s = get_or (closing_of (op_at W s)) 0

-- Message 5 of an opener.
abbrev pub open_record : List ℕ → ℕ → Record
open_record W s = with_first (span_record W 5 s s) (closer_at W s) (op_at W s)

-- Message 4.
abbrev pub mismatch_record : List ℕ → Mismatch → Record
mismatch_record W m =
    with_last (with_first (span_record W 4 m.opener m.closer) m.start (op_at W m.opener)) (closer_at W m.opener)
    (op_at W m.closer) m.index

-- Message 6.
abbrev pub unclosed_record : List ℕ → Unclosed → Record
unclosed_record W u = with_last (with_first (span_record W 6 u.inner u.inner) u.start (op_at W u.inner)) (closer_at W u.inner) 0 0

-- ---- failures

-- The first slot that a failure names; 0 if it names none.
abbrev pub first_slot : Failure → ℕ
first_slot (ComplexMustEndWithSemicolon s) = s
first_slot ComplexWithoutTokens = 0
first_slot (LeadingMemberAccessor s) = s
first_slot (EmptyParameterList s b) = s
first_slot (MathAtEnd s) = s
first_slot (MathWithoutParenthesis s) = s
first_slot (LeadingSemicolon s) = s
first_slot (EmptyArrayIndex s b) = s
first_slot (BinaryAtEnd s) = s
first_slot (NegateWithoutOperand s) = s
first_slot (NotWithoutOperand s) = s
first_slot (UnknownOperation s b) = s
first_slot (UnaryWithoutOperand s) = s
first_slot (TernaryWithoutOperands s) = s

-- The second, or the first again.
abbrev pub second_slot : Failure → ℕ
second_slot (ComplexMustEndWithSemicolon s) = s
second_slot ComplexWithoutTokens = 0
second_slot (LeadingMemberAccessor s) = s
second_slot (EmptyParameterList s b) = b
second_slot (MathAtEnd s) = s
second_slot (MathWithoutParenthesis s) = s
second_slot (LeadingSemicolon s) = s
second_slot (EmptyArrayIndex s b) = b
second_slot (BinaryAtEnd s) = s
second_slot (NegateWithoutOperand s) = s
second_slot (NotWithoutOperand s) = s
second_slot (UnknownOperation s b) = b
second_slot (UnaryWithoutOperand s) = s
second_slot (TernaryWithoutOperands s) = s

-- Both lie within the buffer.
abbrev pub Named : List ℕ → Failure → Type 0
Named W f = Within W (first_slot f) × Within W (second_slot f)

-- The record of a failure, over a source of that length.
abbrev pub record_for : List ℕ → ℕ → Failure → Record
record_for W source_length (ComplexMustEndWithSemicolon s) = span_record W 2 s s
record_for W source_length ComplexWithoutTokens = unnamed 2 0 source_length
record_for W source_length (LeadingMemberAccessor s) = span_record W 3 s s
record_for W source_length (EmptyParameterList s b) = name_record W 7 s b s
record_for W source_length (MathAtEnd s) = math_record W 8 s
record_for W source_length (MathWithoutParenthesis s) = math_record W 9 s
record_for W source_length (LeadingSemicolon s) = span_record W 10 s s
record_for W source_length (EmptyArrayIndex s b) = span_record W 11 s b
record_for W source_length (BinaryAtEnd s) = name_record W 12 s s s
record_for W source_length (NegateWithoutOperand s) = span_record W 13 s s
record_for W source_length (NotWithoutOperand s) = span_record W 14 s s
record_for W source_length (UnknownOperation s b) = name_record W 15 s s b
record_for W source_length (UnaryWithoutOperand s) = name_record W 16 s s s
record_for W source_length (TernaryWithoutOperands s) = name_record W 17 s s s
