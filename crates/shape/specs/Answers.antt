-- What each case says: the definition's field for a field, answer 12 with its place for a fault.
use Rattle.std.specs.Prelude.{ℕ, Bool, true, false, List, Option as Found, Some, None}
use Rattle.std.proofs.Math.Option.{Option, none, some}
use Rattle.molang.specs.Words as words
use Rattle.molang.specs.WriteEntry.{Shape, tree_fault}
use Rattle.shape.specs.declared.Field.{Field}
use Rattle.shape.specs.declared.Field.TheVariants.{Operator, Start, End, Upper, Lower, Count, Close}

-- The definition's field.
abbrev pub field_of : Field → words.Field
field_of Operator = words.operator_field
field_of Start = words.start_field
field_of End = words.end_field
field_of Upper = words.upper_field
field_of Lower = words.lower_field
field_of Count = words.count_field
field_of Close = words.close_field

-- So many nodes called for and so many begun.
abbrev pub shape : ℕ → ℕ → Shape
shape called begun = record { called = called; begun = begun }

-- The place of a fault.
abbrev pub place_of : Found ℕ → Option ℕ
place_of None = none
place_of (Some place) = some place

-- What the place of a fault says: answer 12 with it, or nothing.
abbrev pub refusal_of : Found ℕ → Option words.Refusal
refusal_of None = none
refusal_of (Some place) = some (words.row 12 place)

-- Answer 12 to tree words, if they are not one tree.
abbrev pub tree_refusal : List ℕ → Option words.Refusal
tree_refusal tree = words.with_number 12 (tree_fault 0 words.operator_field 0 (shape 1 0) tree)

-- A word without fault.
abbrev pub is_legal : Option ℕ → Bool
is_legal none = true
is_legal (some n) = false
