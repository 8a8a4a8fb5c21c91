-- `everylist::step::step_at` meets its contract: the refusal's line, or the text of the list.
use Rattle.std.proofs.Common.{sym}
use Rattle.words.specs.Refusals.{reason_number}
use Rattle.everylist.proofs.StepLaws.{stepped, back_step, on_step}
use Rattle.everylist.proofs.step.step_at.Goals as goal

pub put_list-requires : goal.put_list-requires
put_list-requires c = (c.requires, sym c.in-Ok.ensures)

pub returns-in-Err : goal.returns-in-Err
returns-in-Err c =
    stepped c.args.out.now c.put_refusal.new.out _
    (back_step c.args.kept.now (reason_number c.in-Err.reason) c.args.position c.in-Err.ensures)
    c.put_refusal.ensures

pub returns-in-Ok : goal.returns-in-Ok
returns-in-Ok c =
    stepped c.args.out.now c.put_list.new.out _ (on_step c.args.kept.now c.args.position c.in-Ok.ensures) c.put_list.ensures
