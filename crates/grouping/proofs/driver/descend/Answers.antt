-- `descend`: the frame is pushed above the list, and the item's children are opened above the frame.
use Prim.Native.Nat.{ℕ}
use mathlib.Core.Path.{sym, subst}
use Rattle.grouping.specs.Driver.{CanOpen, Opened}
use Rattle.grouping.proofs.{DescendLaws.{descend-can-push, descend-can-open, descended}}
use Rattle.grouping.proofs.driver.descend.Goals as goal

pub open-requires : goal.open-requires
open-requires c =
    let push = c.push-base in
    subst (λ (x : ℕ). CanOpen push.new.work c.args.item x c.args.waiting.pass) (sym push.ensures.past)
    (descend-can-open c.requires _ c.held.result c.held.ensures
    push.ensures)

pub returns : goal.returns
returns c =
    let push = c.push-base in
    let inner = c.«open» in
    descended c.held.result
    c.held.ensures push.ensures
    (subst (λ (x : ℕ). Opened push.new.work c.args.item x c.args.waiting.pass inner.result inner.new.work)
    push.ensures.past inner.ensures)

pub push-base-requires : goal.push-base-requires
push-base-requires c =
    descend-can-push c.requires
