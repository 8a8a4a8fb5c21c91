-- `called`: the call is entered, or done (CallLaws).
use native.Mathlib.Omega.{arith}
use Rattle.passes.proofs.{CallLaws.{can-attach, shares_as, called-opens, called-stays}}
use Rattle.passes.proofs.calls.called.Goals as goal

pub classes_of-requires : goal.classes_of-requires
classes_of-requires c =
    omega (
      arith,
      can-attach c.requires,
      c.attach.ensures.long,
    )

pub returns-then-intersects : goal.returns-then-intersects
returns-then-intersects c =
    called-opens c.past-after.result
    c.attach.ensures
    (shares_as c.intersects.ensures c.classes_of.ensures
    c.classes-classes.ensures c.if-intersects.true)
    c.past-after.ensures c.enter.ensures

pub returns : goal.returns
returns c =
    called-stays
    c.past-after.result
    c.keep.result
    c.attach.ensures
    (shares_as c.intersects.ensures
    c.classes_of.ensures
    c.classes-classes.ensures
    c.if-intersects.false)
    c.past-after.ensures
    c.keep.ensures.1 c.keep.ensures.0 c.on.ensures

pub attach-requires : goal.attach-requires
attach-requires c =
    can-attach c.requires
