-- Document 01's 'plain', grown by card 1: a tree each of whose nodes has one of the forms that can be written, judged by its own, its
-- parent's and its children's operators. Answer 13's place is the number, in tree order, of the first node that has none.
use Rattle.std.specs.Prelude.{ℕ, suc, ◌+◌, Bool, true, false, ◌||◌, ◌&&◌, not, [], ◌∷◌, eqb}
use Rattle.std.proofs.Math.Option.{Option, none, some}
use Rattle.molang.specs.Operator
use Rattle.molang.specs.Operator.{is_one_of, between, is_math_call, is_host, is_bracket}
use Rattle.molang.specs.Forest.{Token, Forest, nil, node, size}
use Rattle.molang.specs.FirstFailure.{must, first_of}

-- The seat of a node, what its form asks of its parent: as the root, under a semicolon, as second child of 59, under a math call, or
-- elsewhere.
pub data Seat : Type 0 where
  at_root under_semicolon elsewhere right_of_question under_math_call : Seat

-- The seat of the second child of 59.
unfoldable pub is_right_of_question : Seat → Bool
is_right_of_question at_root = false
is_right_of_question under_semicolon = false
is_right_of_question elsewhere = false
is_right_of_question right_of_question = true
is_right_of_question under_math_call = false

-- The seat of a child of a math call.
unfoldable pub is_under_math_call : Seat → Bool
is_under_math_call at_root = false
is_under_math_call under_semicolon = false
is_under_math_call elsewhere = false
is_under_math_call right_of_question = false
is_under_math_call under_math_call = true

-- The seat of a child of a semicolon.
unfoldable pub is_under_semicolon : Seat → Bool
is_under_semicolon at_root = false
is_under_semicolon under_semicolon = true
is_under_semicolon elsewhere = false
is_under_semicolon right_of_question = false
is_under_semicolon under_math_call = false

-- The seat of the i-th child of p, counted from 0.
unfoldable pub seat_under : Token → ℕ → Seat
seat_under p i =
    elim (is_math_call p.op) [
      | true ↦ under_math_call
      | false ↦
          elim (eqb p.op Operator.semicolon) [
            | true ↦ under_semicolon
            | false ↦ elim (eqb p.op Operator.conditional && eqb i 1) [ true ↦ right_of_question | false ↦ elsewhere ]
          ]
    ]

-- A leaf of 40, 42-44, 46-49, 61, 62, 76 or a host's number.
unfoldable pub is_plain_leaf : ℕ → Bool
is_plain_leaf n =
    eqb n Operator.query_function || between Operator.context_variable Operator.temp_variable n
    || between Operator.string_literal Operator.texture_variable n || eqb n Operator.float || eqb n Operator.pi || eqb n Operator.this
    || is_host n

-- 9, 20, 31, 50-59 or 75, with two children.
unfoldable pub is_plain_binary : ℕ → Bool
is_plain_binary n =
    eqb n Operator.add || eqb n Operator.div || eqb n Operator.mul || between Operator.less_than Operator.conditional n
    || eqb n Operator.comma

-- 40 or a math call.
unfoldable pub is_call : ℕ → Bool
is_call n = eqb n Operator.query_function || is_math_call n

-- A node that is no semicolon has a plain form; 74 over one child and 71 over two have one under a semicolon only.
unfoldable pub expression_form : Seat → Token → Forest → Bool
expression_form p k nil = is_plain_leaf k.op || (is_bracket k.op && is_under_math_call p)
expression_form p k (node x xs nil) =
    is_one_of (Operator.left_parenthesis ∷ Operator.negate ∷ Operator.logical_not ∷ []) k.op || (is_call k.op && is_bracket x.op)
    || (eqb k.op Operator.return && is_under_semicolon p)
expression_form p k (node x xs (node y ys nil)) =
    is_plain_binary k.op || (eqb k.op Operator.conditional_else && is_right_of_question p)
    || (eqb k.op Operator.assignment && is_under_semicolon p)
expression_form p k (node x xs (node y ys (node z zs r))) = false

-- Every tree of the list is a semicolon's.
unfoldable pub all_semicolons : Forest → Bool
all_semicolons nil = true
all_semicolons (node k cs rest) = eqb k.op Operator.semicolon && all_semicolons rest

-- The children of a semicolon in its seat: of the root one semicolon or more; of a semicolon under the root one child that is none.
unfoldable pub semicolon_form : Seat → Forest → Bool
semicolon_form at_root nil = false
semicolon_form at_root (node x xs rest) = all_semicolons (node x xs rest)
semicolon_form under_semicolon nil = false
semicolon_form under_semicolon (node x xs nil) = not (eqb x.op Operator.semicolon)
semicolon_form under_semicolon (node x xs (node y ys r)) = false
semicolon_form elsewhere cs = false
semicolon_form right_of_question cs = false
semicolon_form under_math_call cs = false

-- The node k over its children has a plain form.
unfoldable pub plain_form : Seat → Token → Forest → Bool
plain_form p k cs = elim (eqb k.op Operator.semicolon) [ true ↦ semicolon_form p cs | false ↦ expression_form p k cs ]

-- The seat of the i-th child of a node, or of the root.
unfoldable pub seat_of : Option Token → ℕ → Seat
seat_of none i = at_root
seat_of (some p) i = seat_under p i

-- The number of the first node that is not plain among trees that stand from the i-th child of p on and are numbered from n.
unfoldable pub unplain : Option Token → ℕ → ℕ → Forest → Option ℕ
unplain p i n nil = none
unplain p i n (node k cs rest) =
    first_of (must (plain_form (seat_of p i) k cs) n ∷ unplain (some k) 0 (suc n) cs ∷ unplain p (suc i) (suc n + size cs) rest ∷ [])

-- Answer 13's place in the tree k over cs, if it is not plain.
unfoldable pub unplain_at : Token → Forest → Option ℕ
unplain_at k cs = unplain none 0 0 (node k cs nil)
