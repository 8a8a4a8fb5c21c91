-- `group::levels` meets its contract.
use mathlib.Core.Path.{◌∙◌}
use native.Mathlib.Omega.{arith}
use mir.{Facts.{to_z-of_z}, Syntax.{w16}, Val.{to_z, of_z}}
use Rattle.order.specs.Ranks.{used_by, rules_of}
use Rattle.grouping.proofs.LevelLaws.{level-start, level-chooses, levelled-at, level-on, level-pointer, level-fails, level-roots}
use Rattle.grouping.proofs.group.levels.Goals as goal

pub loop-k-init : goal.loop-k-init
loop-k-init c g j =
    level-start (used_by c.args.used) (rules_of (to_z w16 (of_z w16 c.args.version))) g j

pub run_choice-requires : goal.run_choice-requires
run_choice-requires c =
    let p = c.choose-choice in
    level-chooses c.loop-k.auto.work (c.loop-k.invariant c.requires 0) p.result (p.ensures _ (c.ranks-rank-items.ensures.ranked c.loop-k.k))

pub returns-in-Err : goal.returns-in-Err
returns-in-Err c =
    let p = c.choose-choice in
    levelled-at (to_z-of_z c.ranges.version)
    (record {
      to =
          λ g j. level-pointer c.loop-k.auto.work (c.loop-k.invariant g j) p.result
          (p.ensures _ (c.ranks-rank-items.ensures.ranked c.loop-k.k)) _ c.in-Err.ensures c.if-k-eq-POINTER.true;
      long = c.run_choice.auto.work ∙ c.loop-k.auto.work;
    })

pub returns-in-Err-2 : goal.returns-in-Err-2
returns-in-Err-2 c =
    let p = c.choose-choice in
    levelled-at (to_z-of_z c.ranges.version)
    (record {
      to =
          λ g j. level-fails c.loop-k.auto.work (c.loop-k.invariant g j) p.result
          (p.ensures _ (c.ranks-rank-items.ensures.ranked c.loop-k.k)) _ c.in-Err.ensures c.if-k-eq-POINTER.false;
      long = c.run_choice.auto.work ∙ c.loop-k.auto.work;
    })

pub loop-k-preserved : goal.loop-k-preserved
loop-k-preserved c g j =
    let p = c.choose-choice in
    level-on c.loop-k.auto.work (c.loop-k.invariant g j) p.result
    (p.ensures _ (c.ranks-rank-items.ensures.ranked c.loop-k.k)) c.in-Ok.left c.in-Ok.ensures

pub returns : goal.returns
returns c =
    levelled-at (to_z-of_z c.ranges.version)
    (record {
      to = λ g j.
          level-roots (c.loop-k.invariant g j)
          (omega (arith, c.loop-k.auto.k-end, c.loop-k-test.false, c.ranks-rank-items.ensures.no_more));
      long = c.loop-k.auto.work;
    })
