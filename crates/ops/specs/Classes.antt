-- Token classes: which operators are in each (`class` of driver.rs, and three classes that the code adds), the numbers whose bits
-- are sets of classes, and the table of the classes of each operator.
use Rattle.std.specs.Prelude.{ℕ, zero, suc, ◌/◌, ◌%◌, ◌^◌, Bool, true, false, ◌&&◌, List, [], ◌∷◌, ◌++◌, eqb, ltb, get_or}
use Rattle.molang.specs.Operator
use Rattle.molang.specs.Operator.{is_one_of, is_math_call, is_query_or_loop}
use Rattle.molang.specs.Order.{some_below}
use Rattle.molang.specs.Read.{set_number}

-- The classes of driver.rs, from class 0 on: one for each group of operators that one pass folds. The unary pass turns a binary `-`
-- into `+`, which is why `-` is in the class of `+` too.
unfoldable pub pass_classes : List (ℕ → Bool)
pass_classes =
    is_query_or_loop
    ∷ is_one_of (Operator.semicolon ∷ [])
    ∷ is_one_of (Operator.array_variable ∷ [])
    ∷ is_one_of (Operator.pointer ∷ [])
    ∷ is_one_of (Operator.logical_not ∷ Operator.negate ∷ [])
    ∷ is_one_of (Operator.div ∷ [])
    ∷ is_one_of (Operator.mul ∷ [])
    ∷ is_one_of (Operator.add ∷ Operator.negate ∷ [])
    ∷ is_one_of (Operator.less_than ∷ [])
    ∷ is_one_of (Operator.less_equal ∷ [])
    ∷ is_one_of (Operator.greater_equal ∷ [])
    ∷ is_one_of (Operator.greater_than ∷ [])
    ∷ is_one_of (Operator.logical_equal ∷ [])
    ∷ is_one_of (Operator.logical_not_equal ∷ [])
    ∷ is_one_of (Operator.logical_or ∷ [])
    ∷ is_one_of (Operator.logical_and ∷ [])
    ∷ is_one_of (Operator.conditional ∷ Operator.conditional_else ∷ [])
    ∷ is_one_of (Operator.null_coalescing ∷ [])
    ∷ is_one_of (Operator.comma ∷ [])
    ∷ is_one_of (Operator.assignment ∷ [])
    ∷ is_one_of (Operator.return ∷ [])
    ∷ is_math_call
    ∷ []

-- Classes 22 to 24, each of one operator that shares its class above with another.
unfoldable pub own_classes : List (ℕ → Bool)
own_classes =
    is_one_of (Operator.add ∷ [])
    ∷ is_one_of (Operator.conditional ∷ [])
    ∷ is_one_of (Operator.conditional_else ∷ [])
    ∷ []

-- The operator n is in class i.
unfoldable pub in_class : ℕ → ℕ → Bool
in_class i n = get_or (pass_classes ++ own_classes) i (λ (n : ℕ). false) n

-- Bit i of w, which says whether class i is in the set w.
unfoldable pub bit_at : ℕ → ℕ → Bool
bit_at w i = eqb (w / 2 ^ i % 2) 1

-- The two sets share a class.
unfoldable pub shares : ℕ → ℕ → Bool
shares v w = some_below 32 (λ i. bit_at v i && bit_at w i)

-- The operator n is in a class of the set w.
unfoldable pub meets : ℕ → ℕ → Bool
meets w n = some_below 32 (λ i. bit_at w i && in_class i n)

-- f at each number below k.
unfoldable pub up_to : ℕ → (ℕ → ℕ) → List ℕ
up_to zero f = []
up_to (suc k) f = f 0 ∷ up_to k (λ i. f (suc i))

-- The classes that the operator n is in.
unfoldable pub class_word : ℕ → ℕ
class_word n = set_number (λ i. in_class i n) 25

-- THE CLASS TABLE: those of each operator number.
unfoldable pub class_table : List ℕ
class_table = up_to 111 class_word

-- The entry of a table for the operator n. A number that is no operator has none.
unfoldable pub entry_of : List ℕ → ℕ → ℕ
entry_of table n = elim (ltb n 111) [ true ↦ get_or table n 0 | false ↦ 0 ]
