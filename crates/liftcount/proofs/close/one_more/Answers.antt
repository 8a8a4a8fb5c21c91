-- `liftcount::close::one_more` meets its contract. Assumes nothing.
use mathlib.Core.Path.{refl}
use borrow.Author.{Tests.{lt-ltb, le-ltb}}
use Rattle.liftcount.specs.Running.{more}
use Rattle.liftcount.proofs.close.one_more.Goals as goal

pub returns-then-n-lt18446744073709551615 : goal.returns-then-n-lt18446744073709551615
returns-then-n-lt18446744073709551615 c =
    unfold more in rw (lt-ltb c.args.n 18446744073709551615 c.if-n-lt18446744073709551615.true, more) refl

pub returns : goal.returns
returns c =
    unfold more in rw (le-ltb c.args.n 18446744073709551615 c.if-n-lt18446744073709551615.false, more) refl
