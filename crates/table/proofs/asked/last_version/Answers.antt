-- `table::asked::last_version` meets its contract: a mark with a limit, one with a version, and any other. Assumes nothing.
use mathlib.Core.Path.{refl}
use native.Mathlib.Omega.{arith}
use borrow.Author.Tests.{le-leb, lt-leb}
use Rattle.molang.specs.Lines.{at_mark, within_mark}
use Rattle.table.specs.Asked.{last_version}
use Rattle.table.proofs.asked.last_version.Goals as goal

pub returns-then-mark-ge-WITHIN : goal.returns-then-mark-ge-WITHIN
returns-then-mark-ge-WITHIN c = unfold last_version in (rw (last_version, le-leb within_mark c.args.mark c.if-mark-ge-WITHIN.true) refl, omega arith)

pub returns-then-mark-ge-AT : goal.returns-then-mark-ge-AT
unfolding last_version
returns-then-mark-ge-AT c =
    let mark = c.args.mark in
    (rw (last_version, lt-leb within_mark mark c.if-mark-ge-WITHIN.false, le-leb at_mark mark c.if-mark-ge-AT.true) refl, omega arith)

pub returns : goal.returns
unfolding last_version
returns c =
    let mark = c.args.mark in
    (rw (last_version, lt-leb within_mark mark c.if-mark-ge-WITHIN.false, lt-leb at_mark mark c.if-mark-ge-AT.false) refl, omega arith)
