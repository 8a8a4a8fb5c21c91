-- The classes of each pass are those of its operators.
use mathlib.Core.{Path.{refl}, List.{[], ◌∷◌}}
use lib.Dec.{lit<}
use Rattle.molang.specs.Operator
use Rattle.molang.specs.{Operator.{is_one_of, any, is_math_call, is_query_or_loop, between}, Calls.{query_or_loop, math, calls as is_call}}
use Rattle.molang.specs.{Order.{some_below}, Free.{is_array_name, is_semicolon, is_prefix, is_conditional, is_return}, Work.{Kind}}
use Rattle.molang.proofs.OperatorNumbers.{not-one, no-math}
use Rattle.ops.{specs.Classes.{meets, in_class, pass_classes, own_classes, bit_at}, proofs.ClassLaws.{low-only, stands-for}}
use Rattle.levels.specs.Passes.{classes_of, operators, Covers, Runs, call, math_call, unsplit_pass, split, array, unary, level}
use Rattle.levels.specs.{Passes.{conditional_pass, return_pass}, declared.turns.Pass.{Pass}}

pub runs-covers : (κ : Kind) (p : Pass) → Runs κ p → Covers (classes_of p) (operators κ)
unfolding operators is_call is_semicolon is_array_name is_prefix is_conditional is_return meets in_class pass_classes own_classes bit_at some_below
    is_one_of any is_math_call is_query_or_loop between
runs-covers κ p call = stands-for 0x1 (is_call query_or_loop) tt (low-only (Operator.query_function ∷ Operator.loop ∷ Operator.for_each ∷ []) tt)
runs-covers κ p math_call = stands-for 0x20_0000 (is_call math) tt no-math
runs-covers κ p unsplit_pass = stands-for 0x2 is_semicolon tt (not-one Operator.semicolon (lit< tt))
runs-covers κ p split = stands-for 0x2 is_semicolon tt (not-one Operator.semicolon (lit< tt))
runs-covers κ p array = stands-for 0x4 is_array_name tt (not-one Operator.array_variable (lit< tt))
runs-covers κ p unary =
    stands-for 0x10 is_prefix tt (λ n l. rw (not-one Operator.negate (lit< tt) n l, not-one Operator.logical_not (lit< tt) n l) refl)
runs-covers κ p (level e) = e
runs-covers κ p conditional_pass =
    stands-for 0x1_0000 is_conditional tt
    (λ n l. rw (not-one Operator.conditional (lit< tt) n l, not-one Operator.conditional_else (lit< tt) n l) refl)
runs-covers κ p return_pass = stands-for 0x10_0000 is_return tt (not-one Operator.return (lit< tt))
