-- `write::plain::holds_statements` meets its contract: each node that is passed keeps `Holding`. Assumes nothing.
use Rattle.std.proofs.Common.{refl, arith, ◌∙◌}
use Rattle.write.proofs.ReaderLaws.{Passes, passes, passes-none}
use Rattle.write.proofs.RootLaws.{holding-begins, holding-few, holding-refused, holding-on, holding-ends}
use Rattle.write.proofs.plain.holds_statements.Goals as goal
use Rattle.write.proofs.plain.holds_statements.Goals.{In-Some, else-due-eq0-via-then-due-eq0+else-seen-ne-SEMICOLON, else-due-eq0-via-else-due-eq0}

passed : (c : In-Some) → Passes c.args.tree.now c.loop-seen.seen-iterator.at c.in-Some.seen c.next.new.self
passed c = passes c.loop-seen.invariant.2 c.in-Some.ensures.steps

pub loop-seen-init : goal.loop-seen-init
loop-seen-init c =
    rw (c.into_iter-seen-iterator.ensures.into_iter_gives ∙ c.new-seen-items.ensures) (tt, tt, refl, holding-begins c.requires)

pub returns-then-seen-ne-SEMICOLON : goal.returns-then-seen-ne-SEMICOLON
returns-then-seen-ne-SEMICOLON c =
    let p = passed (goal.at.returns-then-seen-ne-SEMICOLON c).In-Some in
    holding-refused c.requires c.loop-seen.invariant.3 p.whole p.is_seen c.if-due-eq0.true c.if-seen-ne-SEMICOLON.true

pub overflow_add-due : goal.overflow_add-due
overflow_add-due c =
    let p = passed (goal.at.overflow_add-due c).In-Some in
    omega (arith, c.saturating_sub.ensures, holding-few c.requires c.loop-seen.invariant.3 p.whole p.is_seen, c.requires.small)

pub loop-seen-preserved : goal.loop-seen-preserved
loop-seen-preserved c =
    let p = passed (goal.at.loop-seen-preserved c).In-Some in
    let on = holding-on c.requires c.loop-seen.invariant.3 p.whole p.is_seen
    (elim c.else-due-eq0.branch [
      | else-due-eq0-via-then-due-eq0+else-seen-ne-SEMICOLON w ↦ λ _. w.if-seen-ne-SEMICOLON.false
      | else-due-eq0-via-else-due-eq0 w ↦ λ e. absurd (w.if-due-eq0.false e)
    ])
    in
    (tt, tt, p.words, rw (p.behind, c.saturating_sub.ensures) on)

pub returns : goal.returns
returns c = holding-ends c.requires c.loop-seen.invariant.3 (passes-none c.loop-seen.invariant.2 c.in-None.ensures.steps)
