-- `liftlists::step::take_word` meets its contract, stage by stage. Assumes nothing.
use mathlib.Core.Path.{sym, ◌∙◌}
use native.Mathlib.Omega.{arith}
use lib.{Seq.{length-take-le}}
use Rattle.liftlists.specs.Steps.{ListHeld}
use Rattle.liftlists.proofs.{StepLaws.{closed-took, took-little}}
use Rattle.liftlists.proofs.step.take_word.Goals as goal

pub keep-requires : goal.keep-requires
keep-requires c =
    let kept : ListHeld c.in-InList.opener c.in-InList.n c.args.list.now = rw c.in-InList.is at c.requires.fine in
    record { list_len = (c.requires.list_len.1, λ e. c.if-kind-ne0.true (c.kind.ensures ∙ e)); list_held = kept }

pub returns-then-kind-ne0 : goal.returns-then-kind-ne0
returns-then-kind-ne0 c =
    rw c.in-InList.is (c.keep.ensures c.args.to)

pub close-end-requires : goal.close-end-requires
close-end-requires c =
    let kept : ListHeld c.in-InList.opener c.in-InList.n c.args.list.now = rw c.in-InList.is at c.requires.fine in
    record {
      list_len_bound = (
        omega (arith, length-take-le c.in-InList.n c.args.list.now (omega (arith, kept.few)), kept.few),
        kept.version,
        c.requires.list_len.0,
        omega (arith, c.requires.list_len.1),
      );
    }

pub returns-in-Passing : goal.returns-in-Passing
returns-in-Passing c =
    let a = c.args in
    rw c.in-Passing.is (took-little (c.pass.ensures a.to a.list.now))

pub returns-else-kind-ne0 : goal.returns-else-kind-ne0
returns-else-kind-ne0 c =
    let kept : ListHeld c.in-InList.opener c.in-InList.n c.args.list.now = rw c.in-InList.is at c.requires.fine in
    let a = c.args in
    rw c.in-InList.is
    (closed-took _ _ a.list.now kept (omega arith) a.w a.to (sym c.kind.ensures ∙ c.if-kind-ne0.false)
    (omega (arith, c.requires.list_len.1)) c.close-end.ensures.upper_bound c.close-end.ensures.wrote (c.pass-in-InList.ensures a.to a.list.now))
