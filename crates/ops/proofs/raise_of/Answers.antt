-- `ops::raise_of` meets its contract: the brackets are computed, and any other number is none of them. Assumes nothing.
use Prim.Native.Nat.{ℕ, ◌*◌, ◌-◌, ◌%◌}
use mathlib.Core.{Path.{sym}, List.{[], ◌∷◌}}
use native.Mathlib.Omega.{arith}
use lib.Dec.{eqb}
use borrow.Author.{Tests.{eqb-true}}
use Rattle.molang.specs.Operator.{any, is_one_of, closing_of, is_closer, right_brace, right_bracket, right_parenthesis}
use Rattle.ops.specs.Operators.{raise_of}
use Rattle.ops.proofs.{OperatorLaws.{true-at, Apart, apart, no-closer}}
use Rattle.ops.proofs.raise_of.Goals as goal

pub returns-then-op-le-RIGHT_PARENTHESIS : goal.returns-then-op-le-RIGHT_PARENTHESIS
unfolding raise_of closing_of is_closer is_one_of any
returns-then-op-le-RIGHT_PARENTHESIS c =
    let op = c.args.op in
    eqb-true (2 - 2 * (op % 2)) (raise_of op)
    (sym (true-at (λ (n : ℕ). eqb (2 - 2 * (n % 2)) (raise_of n)) 0 6 tt op (omega arith) (omega arith)))

pub returns : goal.returns
unfolding raise_of is_closer
returns c =
    let op = c.args.op in
    let closers : Apart op (right_brace ∷ right_bracket ∷ right_parenthesis ∷ []) =
    ((λ e. omega arith), ((λ e. omega arith), ((λ e. omega arith), tt)))
    in
    rw (no-closer op ((λ e. omega arith), ((λ e. omega arith), ((λ e. omega arith), tt))), raise_of) (rw (← apart _ op closers, raise_of))
