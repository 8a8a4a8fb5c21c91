-- The number of each rule in a rule buffer, as document 02's card 5 has it.
use Rattle.std.specs.Prelude.{ℕ}
use Rattle.rules.specs.declared.rule.Rule.{Rule}
use Rattle.rules.specs.declared.rule.Rule.TheVariants.{Leaf, Member, Section, Call, Semicolon, Array, Pointer}
use Rattle.rules.specs.declared.rule.Rule.TheVariants.{Math, Unary, Division, Multiplication, Addition, Comparison, Equality}
use Rattle.rules.specs.declared.rule.Rule.TheVariants.{And, Or, Conditional, NullCoalescing, Comma, Assignment, Return}

-- The number of a rule.
abbrev pub rule_number : Rule → ℕ
rule_number Leaf = 0
rule_number Member = 1
rule_number Section = 2
rule_number Call = 3
rule_number Semicolon = 4
rule_number Array = 5
rule_number Pointer = 6
rule_number Math = 7
rule_number Unary = 8
rule_number Division = 9
rule_number Multiplication = 10
rule_number Addition = 11
rule_number Comparison = 12
rule_number Equality = 13
rule_number And = 14
rule_number Or = 15
rule_number Conditional = 16
rule_number NullCoalescing = 17
rule_number Comma = 18
rule_number Assignment = 19
rule_number Return = 20
