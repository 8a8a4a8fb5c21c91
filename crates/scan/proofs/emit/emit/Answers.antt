-- `scan::emit::emit` meets its contract: a record a turn. Assumes nothing.
use mathlib.Core.{Path.{refl, ap, ◌∙◌}}
use native.Mathlib.Omega.{arith}
use Rattle.words.specs.Records.{laid_at}
use Rattle.scan.proofs.{EmitLaws.{none_emitted, one-emitted, all-emitted}}
use Rattle.scan.proofs.emit.emit.Goals as goal

pub loop-r-init : goal.loop-r-init
loop-r-init c = none_emitted _ _ _ _

pub loop-r-preserved : goal.loop-r-preserved
loop-r-preserved c =
    c.put.ensures ∙ ap (laid_at _ _) c.loop-r.invariant ∙ one-emitted _ _ _ _ _ _ c.loop-r.auto.r c.loop-r-test.true refl

pub returns-clause-tree_after : goal.returns-clause-tree_after
returns-clause-tree_after c =
    let a = c.loop-r.auto in
    c.loop-r.invariant ∙ all-emitted _ _ _ _ _ (omega (arith, a, c.requires.within, c.loop-r-test.false))
