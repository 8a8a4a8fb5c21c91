-- `liftlists::step::close_last` meets its contract. Assumes nothing.
use native.Mathlib.Omega.{arith}
use lib.{Seq.{length-take-le}}
use Rattle.text.proofs.TextLaws.{wrote_none}
use Rattle.liftlists.specs.{LiftedFile.{bytes_of, file_cut, joined_lists, carried_all, lifted_words}, Steps.{ListHeld}}
use Rattle.liftlists.proofs.{CutLaws.{version-opens, closes-last}}
use Rattle.liftlists.proofs.step.close_last.Goals as goal

pub close-requires : goal.close-requires
close-requires c =
    let kept : ListHeld c.in-InList.opener c.in-InList.n c.args.list.now = rw c.in-InList.is at c.requires.fine in
    record {
      list_len_bound = (
        omega (arith, length-take-le c.in-InList.n c.args.list.now (omega (arith, kept.few)), kept.few),
        kept.version,
        c.requires.list_len.0,
        c.requires.list_len.1,
      );
    }

pub returns-in-InList-clause-upper_bound : goal.returns-in-InList-clause-upper_bound
returns-in-InList-clause-upper_bound c = c.close.ensures.upper_bound

pub returns-in-InList-clause-wrote : goal.returns-in-InList-clause-wrote
returns-in-InList-clause-wrote c =
    let kept : ListHeld c.in-InList.opener c.in-InList.n c.args.list.now = rw c.in-InList.is at c.requires.fine in
    rw c.in-InList.is (rw (closes-last c.args.to _ _ (version-opens _ kept.version) kept.kept) c.close.ensures.wrote)

pub returns-in-Passing-clause-upper_bound : goal.returns-in-Passing-clause-upper_bound
returns-in-Passing-clause-upper_bound c = omega arith

pub returns-in-Passing-clause-wrote : goal.returns-in-Passing-clause-wrote
returns-in-Passing-clause-wrote c =
    unfold lifted_words file_cut carried_all joined_lists bytes_of in rw c.in-Passing.is (wrote_none _ _)
