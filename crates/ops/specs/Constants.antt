-- The constants of `TokenClasses` (src/classes.rt), each with what it stands for: the operators of the pass that it belongs to, or every
-- class (document 01, 'NONE and ALL belong to the class type').
use Rattle.std.specs.Prelude.{ℕ, List, [], ◌∷◌}
use Rattle.molang.specs.Operator

-- A constant with its number: of the classes that these operators are in, of the math calls' class, or of every class.
pub data Constant : Type 0 where
  only : ℕ → List ℕ → Constant
  math every : ℕ → Constant

-- THE CONSTANTS, in the order of src/classes.rt, from NONE and ALL to EQUALITIES.
abbrev pub constants : List Constant
constants =
    only 0 []
    ∷ every 0xffff_ffff
    ∷ only 0x1 (Operator.query_function ∷ Operator.loop ∷ Operator.for_each ∷ [])
    ∷ only 0x2 (Operator.semicolon ∷ [])
    ∷ only 0x4 (Operator.array_variable ∷ [])
    ∷ only 0x8 (Operator.pointer ∷ [])
    ∷ only 0x10 (Operator.negate ∷ Operator.logical_not ∷ [])
    ∷ only 0x20 (Operator.div ∷ [])
    ∷ only 0x40 (Operator.mul ∷ [])
    ∷ only 0x80 (Operator.negate ∷ Operator.add ∷ [])
    ∷ only 0x100 (Operator.less_than ∷ [])
    ∷ only 0x200 (Operator.less_equal ∷ [])
    ∷ only 0x400 (Operator.greater_equal ∷ [])
    ∷ only 0x800 (Operator.greater_than ∷ [])
    ∷ only 0x1000 (Operator.logical_equal ∷ [])
    ∷ only 0x2000 (Operator.logical_not_equal ∷ [])
    ∷ only 0x4000 (Operator.logical_or ∷ [])
    ∷ only 0x8000 (Operator.logical_and ∷ [])
    ∷ only 0x1_0000 (Operator.conditional ∷ Operator.conditional_else ∷ [])
    ∷ only 0x2_0000 (Operator.null_coalescing ∷ [])
    ∷ only 0x4_0000 (Operator.comma ∷ [])
    ∷ only 0x8_0000 (Operator.assignment ∷ [])
    ∷ only 0x10_0000 (Operator.return ∷ [])
    ∷ math 0x20_0000
    ∷ only 0x40_0000 (Operator.add ∷ [])
    ∷ only 0x80_0000 (Operator.conditional ∷ [])
    ∷ only 0x100_0000 (Operator.conditional_else ∷ [])
    ∷ only 0x90 (Operator.negate ∷ Operator.logical_not ∷ Operator.add ∷ [])
    ∷ only 0x40_0080 (Operator.negate ∷ Operator.add ∷ [])
    ∷ only 0x81_0000 (Operator.conditional ∷ Operator.conditional_else ∷ [])
    ∷ only 0x101_0000 (Operator.conditional ∷ Operator.conditional_else ∷ [])
    ∷ only 0xf00 (Operator.less_than ∷ Operator.less_equal ∷ Operator.greater_equal ∷ Operator.greater_than ∷ [])
    ∷ only 0x3000 (Operator.logical_equal ∷ Operator.logical_not_equal ∷ [])
    ∷ []

-- The numbers of some constants.
unfoldable pub numbers_of : List Constant → List ℕ
numbers_of [] = []
numbers_of (only w os ∷ ks) = w ∷ numbers_of ks
numbers_of (math w ∷ ks) = w ∷ numbers_of ks
numbers_of (every w ∷ ks) = w ∷ numbers_of ks

-- Those of all.
unfoldable pub constant_numbers : List ℕ
constant_numbers = numbers_of constants
