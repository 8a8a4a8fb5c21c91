-- Computed examples: every way to build a text, at 4, 5 and 6; texts that are none; and trees that only the rules of the passes explain.
use Prim.Native.Nat.{ℕ, suc}
use mathlib.Core.{Path.{◌≡◌, refl}, Bool.{Bool, true, false}, List.{List, [], ◌∷◌}, Option.{none}}
use lib.IntN.{pos}
use Rattle.molang.specs.Operator
use Rattle.molang.specs.{Forest.{Token, nil, node}, Order.{rules}, Read.{tree, read, uses}}
use Rattle.molang.specs.Grammar.{Text, operand, member, section, query, math_call, math_empty, index, arrow, prefix, returned, between}
use Rattle.molang.specs.Grammar.{minus, minuses, choice, chosen, script, line, lines, final, well_formed, trees, same_at_all}
use Rattle.molang.proofs.Computed.{computed}

-- The n-th token of a list, one byte long.
abbrev pub k : ℕ → ℕ → Token
k op n = record { op = op; variant = 0; value = 0; start = n; end = suc n; close = suc n }

-- A variable, and a round bracket around a text that ends before n.
abbrev pub v : ℕ → Text
v n = operand (k Operator.entity_variable n)

abbrev pub round : ℕ → ℕ → Text → Text
round m n x = section (k Operator.left_parenthesis m) (k Operator.right_parenthesis n) x

abbrev pub join : ℕ → Text → Text → Text
join op x y = between (k op 1) x y

-- Whether a text is well-formed at 4, at 5 and at 6.
unfoldable pub at : Text → List Bool
at x = well_formed (rules (pos 4)) x ∷ well_formed (rules (pos 5)) x ∷ well_formed (rules (pos 6)) x ∷ []

abbrev pub always : List Bool
always = true ∷ true ∷ true ∷ []

abbrev pub never : List Bool
never = false ∷ false ∷ false ∷ []

abbrev pub from5 : List Bool
from5 = false ∷ true ∷ true ∷ []

abbrev pub below5 : List Bool
below5 = true ∷ false ∷ false ∷ []

abbrev pub below6 : List Bool
below6 = true ∷ true ∷ false ∷ []

abbrev pub from6 : List Bool
from6 = false ∷ false ∷ true ∷ []

-- All of some texts.
unfoldable pub all-at : List Text → List (List Bool)
all-at [] = []
all-at (x ∷ xs) = at x ∷ all-at xs

abbrev pub called : ℕ → Text → Text
called op x = query (k op 0) (k Operator.left_parenthesis 1) (k Operator.right_parenthesis 3) x

abbrev pub sine : Text → Text
sine x = math_call (k Operator.sin 0) (k Operator.left_parenthesis 1) (k Operator.right_parenthesis 3) x

abbrev pub lined : Text → Text
lined x = line (k Operator.semicolon 9) [] x

-- Every way to build a text: `a`, `a.b`, `(a)`, `{a}`, `q(a)`, `loop(a;)`, `sin(a)`, `sin()`, `41[a]`, `a -> b`, `-a`, `!-a`, `return a`,
-- `a + b`, `a - b`, `a - - b`, `a = b;`, `a; b`, `a; b;;`.
pub each_way :
    all-at (v 0 ∷ member (k Operator.entity_variable 0) (k Operator.member_accessor 1) [] ∷ round 0 2 (v 1)
    ∷ section (k Operator.left_brace 0) (k Operator.right_brace 2) (v 1) ∷ called Operator.query_function (v 2)
    ∷ called Operator.loop (script (lined (v 2))) ∷ sine (v 2)
    ∷ math_empty (k Operator.sin 0) (k Operator.left_parenthesis 1) (k Operator.right_parenthesis 2)
    ∷ index (k Operator.array_variable 0) (k Operator.left_bracket 1) (k Operator.right_bracket 3) (v 2)
    ∷ arrow (k Operator.pointer 1) (v 0) (v 2) ∷ prefix (k Operator.negate 0) (v 1)
    ∷ prefix (k Operator.logical_not 0) (prefix (k Operator.negate 1) (v 2)) ∷ returned (k Operator.return 0) (v 1)
    ∷ join Operator.add (v 0) (v 2) ∷ minus (k Operator.negate 1) (v 0) (v 2)
    ∷ minuses (k Operator.negate 1) (k Operator.negate 2) (v 0) (v 3) ∷ script (lined (join Operator.assignment (v 0) (v 2)))
    ∷ script (lines (lined (v 0)) (final (v 2)))
    ∷ script (lines (lined (v 0)) (line (k Operator.semicolon 3) (k Operator.semicolon 4 ∷ []) (v 2))) ∷ [])
    ≡ always ∷ always ∷ always ∷ always ∷ always ∷ always ∷ always ∷ always ∷ always ∷ always ∷ always ∷ always ∷ always ∷ always ∷ always
    ∷ always ∷ always ∷ always ∷ always ∷ []
unfolding computed at all-at
each_way = refl

abbrev pub question : Text → Text → Text
question c t = choice (k Operator.conditional 1) c t

abbrev pub asked : Text → Text → Text → Text
asked c t e = chosen (k Operator.conditional 1) (k Operator.conditional_else 3) c t e

-- Conditionals from 5: `a ? b`, `a ? b : c`, `a ? b : c ? d : e`, `a ? b ? c : d : e`; none is `a ? b ?? c : d`, nor `a ? (b ? c) : d`
-- without its brackets. Below 5 `:` and `?` are operators between operands, also by themselves: `a : b`.
pub conditionals-at :
    all-at (question (v 0) (v 2) ∷ asked (v 0) (v 2) (v 4) ∷ asked (v 0) (v 2) (asked (v 4) (v 6) (v 8))
    ∷ asked (v 0) (asked (v 2) (v 4) (v 6)) (v 8)
    ∷ asked (v 0) (join Operator.null_coalescing (v 2) (v 4)) (v 6) ∷ asked (v 0) (question (v 2) (v 4)) (v 6)
    ∷ asked (v 0) (round 2 6 (question (v 3) (v 5))) (v 8) ∷ join Operator.conditional_else (v 0) (v 2)
    ∷ join Operator.conditional (v 0) (join Operator.conditional_else (v 2) (v 4)) ∷ [])
    ≡ from5 ∷ from5 ∷ from5 ∷ from5 ∷ never ∷ never ∷ from5 ∷ below5 ∷ below5 ∷ []
unfolding computed at all-at
conditionals-at = refl

-- Precedence: `a * b / c` is `a * (b / c)` and not `(a * b) / c`; `a + b + c` is `(a + b) + c`; `a || b && c` and `a >= b == c` change at
-- 6.
pub precedence-at :
    all-at (join Operator.mul (v 0) (join Operator.div (v 2) (v 4)) ∷ join Operator.div (join Operator.mul (v 0) (v 2)) (v 4)
    ∷ join Operator.add (join Operator.add (v 0) (v 2)) (v 4) ∷ join Operator.add (v 0) (join Operator.add (v 2) (v 4))
    ∷ join Operator.logical_and (join Operator.logical_or (v 0) (v 2)) (v 4)
    ∷ join Operator.logical_or (v 0) (join Operator.logical_and (v 2) (v 4))
    ∷ join Operator.greater_equal (v 0) (join Operator.logical_equal (v 2) (v 4))
    ∷ join Operator.logical_equal (join Operator.greater_equal (v 0) (v 2)) (v 4) ∷ [])
    ≡ always ∷ never ∷ always ∷ never ∷ below6 ∷ from6 ∷ below6 ∷ from6 ∷ []
unfolding computed at all-at
precedence-at = refl

-- No texts: `{a} - b`, `loop(a) - b`, `- - a`, `sin(a) -> b`, `-a -> b`, `q(a;)`, `[a]`, `return return a`, `1 + return a`, `a;` inside an
-- index, a lone last statement.
pub no-texts :
    all-at (minus (k Operator.negate 3) (section (k Operator.left_brace 0) (k Operator.right_brace 2) (v 1)) (v 4)
    ∷ minus (k Operator.negate 4) (called Operator.loop (v 2)) (v 5) ∷ prefix (k Operator.negate 0) (prefix (k Operator.negate 1) (v 2))
    ∷ arrow (k Operator.pointer 4) (sine (v 2)) (v 5) ∷ arrow (k Operator.pointer 2) (prefix (k Operator.negate 0) (v 1)) (v 3)
    ∷ called Operator.query_function (script (lined (v 2))) ∷ section (k Operator.left_bracket 0) (k Operator.right_bracket 2) (v 1)
    ∷ returned (k Operator.return 0) (returned (k Operator.return 1) (v 2)) ∷ join Operator.add (v 0) (returned (k Operator.return 2) (v 3))
    ∷ index (k Operator.array_variable 0) (k Operator.left_bracket 1) (k Operator.right_bracket 4) (script (lined (v 2)))
    ∷ script (final (v 0)) ∷ [])
    ≡ never ∷ never ∷ never ∷ never ∷ never ∷ never ∷ never ∷ never ∷ never ∷ never ∷ never ∷ []
unfolding computed at all-at
no-texts = refl

-- `v.a.b = c;`: the statement has the span of the last accessor, the list that of its semicolon.
abbrev pub assigned : Text
assigned = script (line (k Operator.semicolon 5) [] (between (k Operator.assignment 3)
    (member (k Operator.entity_variable 0) (k Operator.member_accessor 1) (k Operator.member_accessor 2 ∷ [])) (v 4)))

pub assigned-tree : trees none assigned nil
    ≡ node (k Operator.semicolon 5) (node (k Operator.semicolon 2) (node (k Operator.assignment 3)
    (node (k Operator.member_accessor 2) (node (k Operator.member_accessor 1) (node (k Operator.entity_variable 0) nil nil) nil)
    (node (k Operator.entity_variable 4) nil nil)) nil) nil) nil
unfolding computed
assigned-tree = refl

-- `a - b * c`: the minus goes to the first operand of what follows.
pub subtracted-tree : trees none (minus (k Operator.negate 1) (v 0) (between (k Operator.mul 3) (v 2) (v 4))) nil
    ≡ node (k Operator.add 1) (node (k Operator.entity_variable 0) nil (node (k Operator.mul 3)
    (node (k Operator.negate 1) (node (k Operator.entity_variable 2) nil nil) (node (k Operator.entity_variable 4) nil nil)) nil)) nil
unfolding computed
subtracted-tree = refl

-- Outside the grammar: `41[a][-b]` is read all the same; the contents of both brackets are joined first, so the minus is binary.
pub two-indices : read (k Operator.array_variable 0 ∷ k Operator.left_bracket 1 ∷ k Operator.entity_variable 2 ∷ k Operator.right_bracket 3
    ∷ k Operator.left_bracket 4 ∷ k Operator.negate 5 ∷ k Operator.entity_variable 6 ∷ k Operator.right_bracket 7 ∷ [])
    (uses (k Operator.array_variable 0 ∷ k Operator.left_bracket 1 ∷ k Operator.negate 5 ∷ [])) (pos 6) 8
    ≡ tree (k Operator.array 0) (node (k Operator.add 5) (node (k Operator.entity_variable 2) nil
    (node (k Operator.negate 5) (node (k Operator.entity_variable 6) nil nil) nil)) nil)
unfolding computed
two-indices = refl

-- The same at all versions: `a ? b : c`, `a + b * c`; not `a || b && c`.
pub same-examples : same_at_all (asked (v 0) (v 2) (v 4)) ∷ same_at_all (join Operator.add (v 0) (join Operator.mul (v 2) (v 4)))
    ∷ same_at_all (join Operator.logical_or (v 0) (join Operator.logical_and (v 2) (v 4))) ∷ []
    ≡ true ∷ true ∷ false ∷ []
unfolding computed
same-examples = refl
