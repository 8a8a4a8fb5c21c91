-- `write::spell::Pen::put_closer` meets its contract: of no bracket nothing is put. Assumes nothing.
use Rattle.std.proofs.Common.{◌∙◌}
use Rattle.words.proofs.RecordLaws.{none-laid}
use Rattle.write.proofs.SpellLaws.{no-closer}
use Rattle.write.proofs.spell.Pen.put_closer.Goals as goal

pub returns-else-operator-eq-LEFT_PARENTHESIS-clause-list_after : goal.returns-else-operator-eq-LEFT_PARENTHESIS-clause-list_after
returns-else-operator-eq-LEFT_PARENTHESIS-clause-list_after c =
    rw (no-closer c.args.words.now (λ e. c.if-operator-eq-LEFT_PARENTHESIS.false (c.operator.ensures ∙ e)))
    (none-laid c.args.self.now.to c.args.list.now)
