-- The number of each reason in document 01's table and document 02's cards, and the refusal as the definition has it.
use Rattle.std.specs.Prelude.{ℕ}
use Rattle.molang.specs.Words as definition
use Rattle.molang.specs.Words.{row}
use Rattle.words.specs.declared.refusals.Reason.{Reason}
use Rattle.words.specs.declared.refusals.Reason.TheVariants.{ListNotWhole, TooManyTokens, ShortTreeBuffer, ShortMessageBuffer, ShortWorkBuffer}
use Rattle.words.specs.declared.refusals.Reason.TheVariants.{UsedSetTooHigh, SourceTooLong, WrongKind, HighOperator, HighVariant}
use Rattle.words.specs.declared.refusals.Reason.TheVariants.{OtherBit, NotOneTree, NotPlain, WrittenTooLong, ShortList}
use Rattle.words.specs.declared.refusals.Reason.TheVariants.{ShortRuleBuffer, LimitOutOfRange, NestedTooDeep, NoAlphabet, NoList}
use Rattle.words.specs.declared.refusals.Reason.TheVariants.{OtherEditCount, PastTheEnd, LastEdit, NotOneStack, ShortOutput}
use Rattle.words.specs.declared.refusals.Refusal.{Refusal}

-- The number of a reason.
abbrev pub reason_number : Reason → ℕ
reason_number ListNotWhole = 1
reason_number TooManyTokens = 2
reason_number ShortTreeBuffer = 3
reason_number ShortMessageBuffer = 4
reason_number ShortWorkBuffer = 5
reason_number UsedSetTooHigh = 6
reason_number SourceTooLong = 7
reason_number WrongKind = 8
reason_number HighOperator = 9
reason_number HighVariant = 10
reason_number OtherBit = 11
reason_number NotOneTree = 12
reason_number NotPlain = 13
reason_number WrittenTooLong = 14
reason_number ShortList = 15
reason_number ShortRuleBuffer = 16
reason_number LimitOutOfRange = 17
reason_number NestedTooDeep = 18
reason_number NoAlphabet = 19
reason_number NoList = 20
reason_number OtherEditCount = 21
reason_number PastTheEnd = 22
reason_number LastEdit = 23
reason_number NotOneStack = 24
reason_number ShortOutput = 25

-- The refusal with that number at its place.
abbrev pub refusal_row : Refusal → definition.Refusal
refusal_row r = row (reason_number r.reason) r.place
