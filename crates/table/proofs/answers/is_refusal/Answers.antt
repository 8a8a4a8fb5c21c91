-- `table::answers::is_refusal` meets its contract: the mark, the number and the place, or the first that fails. Assumes nothing.
use mathlib.Core.Path.{ap, ◌∙◌}
use borrow.Author.{Tests.{eq-eqb, ne_eqb}}
use lib.Dec.{eqb}
use Rattle.molang.specs.Lines.{refused_mark}
use Rattle.table.specs.Answers.{is_refusal}
use Rattle.table.proofs.answers.is_refusal.Goals as goal

pub returns-then-at-ne-REFUSED : goal.returns-then-at-ne-REFUSED
returns-then-at-ne-REFUSED c = unfold is_refusal in rw (is_refusal, ← c.at.ensures, ne_eqb c.at.result refused_mark c.if-at-ne-REFUSED.true)

pub returns-then-number-at : goal.returns-then-number-at
unfolding is_refusal
returns-then-number-at c =
    let a = c.args in
    rw (
      is_refusal,
      ← c.at.ensures,
      eq-eqb c.at.result refused_mark c.if-at-ne-REFUSED.false,
      ← c.at-2.ensures,
      eq-eqb a.number c.at-2.result c.if-number-at.true,
    )
    (ap (eqb a.place) (c.wide.ensures ∙ c.at-then-number-at.ensures))

pub returns-else-number-at : goal.returns-else-number-at
unfolding is_refusal
returns-else-number-at c =
    rw (
      is_refusal,
      ← c.at.ensures,
      eq-eqb c.at.result refused_mark c.if-at-ne-REFUSED.false,
      ← c.at-2.ensures,
      ne_eqb c.args.number c.at-2.result c.if-number-at.false,
    )
