-- `fold_conditionals`: fewer than three items stay; else the scan ends with none unread, or with one (ConditionalLoop).
use mathlib.Core.Path.{◌≡◌, ap}
use native.Mathlib.Omega.{arith}
use Rattle.nodes.specs.declared.frames.List.{List as Items}
use Rattle.passes.proofs.ConditionalLoop.{scan-start, scan-base, scan-in, next-can, scan-next, folded-few, folded-none, folded-one}
use Rattle.passes.proofs.conditional.fold_conditionals.Goals as goal

pub returns-then-list-lt3 : goal.returns-then-list-lt3
returns-then-list-lt3 c =
    folded-few c.if-list-lt3.true

pub loop-scan-init : goal.loop-scan-init
loop-scan-init c =
    scan-start c.moved-scan.result c.moved-scan.ensures (omega (arith, c.if-list-lt3.false))

pub fold_next-scan-requires : goal.fold_next-scan-requires
fold_next-scan-requires c =
    next-can c.loop-scan.invariant c.requires c.loop-scan-test.true

pub loop-scan-preserved : goal.loop-scan-preserved
loop-scan-preserved c =
    scan-next c.loop-scan.invariant c.fold_next-scan.ensures

pub returns-then-scan-eq0 : goal.returns-then-scan-eq0
returns-then-scan-eq0 c =
    folded-none c.loop-scan.invariant c.if-scan-eq0.true

pub keep_right-done-requires : goal.keep_right-done-requires
keep_right-done-requires c =
    let within = scan-in c.loop-scan.invariant c.requires in
    let base = scan-base c.loop-scan.invariant in
    (omega (arith, within, c.if-scan-eq0.false), omega (arith, within, base))

pub returns : goal.returns
returns c =
    let one : c.loop-scan.scan.read ≡ 1 = omega (arith, c.loop-scan-test.false, c.if-scan-eq0.false) in
    rw (ap (λ (x : Items). x.write) c.keep_right-done.ensures.0) (folded-one c.loop-scan.invariant one c.keep_right-done.ensures.1)
