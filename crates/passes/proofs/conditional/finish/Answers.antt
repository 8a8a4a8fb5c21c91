-- `passes::conditional::finish` meets its contract.
use native.Mathlib.Omega.{arith}
use Rattle.passes.proofs.ConditionalEnd.{can-fold, can-dangle, ends-idle, ends-folded, ends-dangling}
use Rattle.passes.proofs.conditional.finish.Goals as goal

pub dangling-requires : goal.dangling-requires
dangling-requires c =
    can-dangle (can-fold c.requires)
    c.fold_conditionals-from.ensures

pub returns-in-Some : goal.returns-in-Some
returns-in-Some c =
    ends-dangling c.fold_conditionals-from.ensures (rw c.in-Some.is at c.dangling.ensures)

pub overflow_add-result : goal.overflow_add-result
overflow_add-result c =
    let g = can-fold c.requires in
    let within = g.within in
    let small = g.small in
    omega (arith, (c.fold_conditionals-from.ensures.to g).count)

pub overflow_sub-result : goal.overflow_sub-result
overflow_sub-result c =
    omega (
      arith,
      (c.fold_conditionals-from.ensures.to
          (can-fold c.requires)).count,
    )

pub returns : goal.returns
returns c =
    ends-folded c.fold_conditionals-from.ensures (rw c.in_default.is at c.dangling.ensures)

pub returns-then-tokens-eq0 : goal.returns-then-tokens-eq0
returns-then-tokens-eq0 c =
    ends-idle c.if-tokens-eq0.true

pub fold_conditionals-from-requires : goal.fold_conditionals-from-requires
fold_conditionals-from-requires c =
    can-fold c.requires
