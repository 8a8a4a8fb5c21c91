-- `lift::entry::short` meets its contract: the call is turned back in both cases. Assumes nothing.
use mathlib.Core.{Path.{sym, ap}, Option.{Option}}
use Rattle.std.proofs.lemmas.Result.{err_from_is_err_and}
use Rattle.molang.specs.Words.{Refusal}
use Rattle.accept.proofs.AcceptLaws.{accepted, refused_as}
use Rattle.lift.specs.Entry.{or_turned, turned_back, turned_by}
use Rattle.lift.proofs.entry.short.Goals as goal

pub returns : goal.returns
returns c =
    rw c.at.ensures
    (sym
    (ap (λ (o : Option Refusal). or_turned o (turned_back 15 0))
    (accepted _ _ (turned_by c.args.list.now c.args.sizes c.args.limit_from c.args.limit_to) c.in_ok-turned.ensures).1))

pub returns-in_err-turned : goal.returns-in_err-turned
returns-in_err-turned c =
    let p = err_from_is_err_and c.from_residual.result c.from_residual.ensures.1 in
    rw (p.1, p.2)
    (sym
    (ap (λ (o : Option Refusal). or_turned o (turned_back 15 0))
    (refused_as _ _ _ (turned_by c.args.list.now c.args.sizes c.args.limit_from c.args.limit_to) c.in_err-turned.ensures)))
