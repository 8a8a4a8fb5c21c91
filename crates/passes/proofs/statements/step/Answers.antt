-- `step`: what `next_token` stops at is the end, a node (StatementSplit) or a semicolon (StatementSemicolon).
use Rattle.passes.proofs.StatementSemicolon.{can-end, turned-split-semicolon}
use Rattle.passes.proofs.StatementSplit.{split-view, split-seek, turned-split-over, turned-split-inner, split-room}
use Rattle.passes.proofs.statements.step.Goals as goal

pub inner-requires : goal.inner-requires
inner-requires c =
    split-room (rw c.in-Children.is at c.next_token-found.ensures)
    c.requires

pub semicolon-requires : goal.semicolon-requires
semicolon-requires c =
    can-end (rw c.in-Token.is at c.next_token-found.ensures)
    c.requires

pub returns-in-Nothing : goal.returns-in-Nothing
returns-in-Nothing c =
    rw c.over.ensures (turned-split-over (rw c.in-Nothing.is at c.next_token-found.ensures))

pub returns-in-Children : goal.returns-in-Children
returns-in-Children c =
    turned-split-inner (rw c.in-Children.is at c.next_token-found.ensures)
    c.inner.ensures

pub returns-in-Token : goal.returns-in-Token
returns-in-Token c =
    turned-split-semicolon (rw c.in-Token.is at c.next_token-found.ensures)
    c.semicolon.ensures

pub next_token-found-requires : goal.next_token-found-requires
next_token-found-requires c =
    split-seek c.requires.small (split-view c.requires.holds)
