-- Message records as words, and words laid down in a buffer.
use Rattle.std.specs.Prelude.{ℕ, List, ◌++◌, take, drop}
use Rattle.molang.specs.Message.{record8}
use Rattle.molang.specs.Parse.{in_front}
use Rattle.words.specs.declared.records.Message.{Message}
use Rattle.words.specs.declared.records.Message.TheVariants.{MultipleRoots, ComplexMustEndWithSemicolon, LeadingMemberAccessor, ClosingMismatch, SectionNotClosed}
use Rattle.words.specs.declared.records.Message.TheVariants.{NoClosingSymbol, EmptyParameterList, MathAtEnd, MathWithoutParenthesis, LeadingSemicolon}
use Rattle.words.specs.declared.records.Message.TheVariants.{EmptyArrayIndex, BinaryAtEnd, NegateWithoutOperand, NotWithoutOperand, UnknownOperation}
use Rattle.words.specs.declared.records.Message.TheVariants.{UnaryWithoutOperand, TernaryWithoutOperands}
use Rattle.words.specs.declared.records.Record.{Record}

-- The number of a message.
abbrev pub message_number : Message → ℕ
message_number MultipleRoots = 1
message_number ComplexMustEndWithSemicolon = 2
message_number LeadingMemberAccessor = 3
message_number ClosingMismatch = 4
message_number SectionNotClosed = 5
message_number NoClosingSymbol = 6
message_number EmptyParameterList = 7
message_number MathAtEnd = 8
message_number MathWithoutParenthesis = 9
message_number LeadingSemicolon = 10
message_number EmptyArrayIndex = 11
message_number BinaryAtEnd = 12
message_number NegateWithoutOperand = 13
message_number NotWithoutOperand = 14
message_number UnknownOperation = 15
message_number UnaryWithoutOperand = 16
message_number TernaryWithoutOperands = 17

-- A record with no argument.
abbrev pub unnamed : ℕ → ℕ → ℕ → Record
unnamed n s e = record { number = n; start = s; end = e; first = 0; second = 0; third = 0; fourth = 0; fifth = 0 }

-- The record with its first two arguments set.
abbrev pub with_first : Record → ℕ → ℕ → Record
with_first r a b =
    record {
      number = r.number;
      start = r.start;
      end = r.end;
      first = a;
      second = b;
      third = r.third;
      fourth = r.fourth;
      fifth = r.fifth;
    }

-- The record with its last three arguments set.
abbrev pub with_last : Record → ℕ → ℕ → ℕ → Record
with_last r a b c =
    record {
      number = r.number;
      start = r.start;
      end = r.end;
      first = r.first;
      second = r.second;
      third = a;
      fourth = b;
      fifth = c;
    }

-- The eight words of a record.
unfoldable pub words_of : Record → List ℕ
words_of r = record8 r.number r.start r.end r.first r.second r.third r.fourth r.fifth

-- The words ws in a buffer from `at` on, what stands before and after them as it was.
unfoldable pub laid_at : ℕ → List ℕ → List ℕ → List ℕ
laid_at at ws buffer = take at buffer ++ in_front ws (drop at buffer)
