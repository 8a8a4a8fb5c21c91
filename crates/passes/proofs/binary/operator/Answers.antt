-- `operator`: a side is missing, the left one holds an unfolded operator, or it takes both (BinaryLaws).
use native.Mathlib.Omega.{arith}
use mathlib.Core.Path.{refl}
use Rattle.passes.proofs.{GatherLaws.{next-room}, CallLaws.{shares_as}}
use Rattle.passes.proofs.BinaryLaws.{left-room, can-search, operator-begins, operator-ends, operator-fails, operated}
use Rattle.passes.proofs.binary.operator.Goals as goal

pub returns-then-list : goal.returns-then-list
returns-then-list c = λ ops covers. operator-ends c.args.classes ops covers c.if-list.true

pub classes_of-requires : goal.classes_of-requires
classes_of-requires c =
    left-room c.requires
    c.if-list-eq0.false

pub first_leaf-leaf-requires : goal.first_leaf-leaf-requires
first_leaf-leaf-requires c =
    can-search c.args.classes.0
    c.requires
    c.if-list-eq0.false
    (shares_as c.intersects.ensures c.classes_of.ensures refl c.if-intersects.true)

pub folded-requires : goal.folded-requires
folded-requires c =
    let has = c.if-list-eq0.false in
    record {
      token = c.requires;
      some = omega arith;
      more = (next-room c.requires
          c.if-list.false).0;
      clean =
          (shares_as c.intersects.ensures c.classes_of.ensures refl c.if-intersects.false);
    }

pub returns-then-intersects : goal.returns-then-intersects
returns-then-intersects c = λ ops covers.
    let has = c.if-list-eq0.false in
    operator-fails
    c.args.classes ops covers
    (omega arith)
    (next-room c.requires
    c.if-list.false).0
    (shares_as c.intersects.ensures c.classes_of.ensures refl
    c.if-intersects.true)
    c.first_leaf-leaf.ensures

pub returns-else-intersects : goal.returns-else-intersects
returns-else-intersects c = λ ops covers.
    let has = c.if-list-eq0.false in
    operated
    c.args.classes
    ops covers (omega arith)
    (next-room
    c.requires
    c.if-list.false).0
    (shares_as c.intersects.ensures
    c.classes_of.ensures refl c.if-intersects.false)
    c.folded.ensures

pub returns-then-list-eq0 : goal.returns-then-list-eq0
returns-then-list-eq0 c =
    λ ops covers. operator-begins c.args.classes ops covers c.if-list-eq0.true
