-- `buffers::emit::node_after` meets its contract: a constructor for each way. Assumes nothing.
use mathlib.Core.Path.{refl}
use Rattle.buffers.specs.Emit.{over, finish, back, down, waits}
use Rattle.buffers.proofs.emit.node_after.Goals as goal

pub returns-then-first-eq0 : goal.returns-then-first-eq0
returns-then-first-eq0 c =
    back refl c.if-first-eq0.true c.if-next-ne0.false c.if-top-stack.false

pub returns-then-next-ne0 : goal.returns-then-next-ne0
returns-then-next-ne0 c =
    over refl c.if-first-eq0.true c.if-next-ne0.true

pub returns-then-top-stack : goal.returns-then-top-stack
returns-then-top-stack c =
    finish refl c.if-first-eq0.true c.if-next-ne0.false c.if-top-stack.true

pub returns-then-next-eq0 : goal.returns-then-next-eq0
returns-then-next-eq0 c =
    down refl c.if-first-eq0.false c.if-next-eq0.true

pub returns : goal.returns
returns c =
    waits refl c.if-first-eq0.false refl c.if-next-eq0.false
