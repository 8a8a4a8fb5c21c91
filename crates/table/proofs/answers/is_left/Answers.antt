-- `table::answers::is_left` meets its contract: the three buffers, or the first that is another. Assumes nothing.
use Rattle.table.specs.Answers.{is_left}
use Rattle.table.proofs.answers.is_left.Goals as goal

pub returns-then-not-holds : goal.returns-then-not-holds
returns-then-not-holds c = unfold is_left in rw (is_left, ← c.holds.ensures, c.if-not-holds.true)

pub returns-then-not-holds-2 : goal.returns-then-not-holds-2
unfolding is_left
returns-then-not-holds-2 c =
    rw (
      is_left,
      ← c.holds.ensures,
      c.if-not-holds.false,
      ← c.holds-2.ensures,
      c.if-not-holds-2.true,
    )

pub returns : goal.returns
unfolding is_left
returns c =
    rw (
      is_left,
      ← c.holds.ensures,
      c.if-not-holds.false,
      ← c.holds-2.ensures,
      c.if-not-holds-2.false,
      ← c.kept_word.ensures,
    )
    c.holds-3.ensures
