-- `lift::entry::behind` meets its contract: the checks, and the nesting of a list that passes them. Assumes nothing.
use mathlib.Core.{Path.{sym, ap}, Option.{Option}}
use native.Mathlib.Omega.{arith}
use Rattle.std.proofs.lemmas.Result.{err_from_is_err_and}
use Rattle.molang.specs.{Words.{Refusal, tokens_of}, Nesting.{too_deep}}
use Rattle.accept.{specs.Accepting.{call_of}, proofs.AcceptLaws.{accepted, refused_as, readable}}
use Rattle.words.specs.Refusals.{reason_number}
use Rattle.lift.specs.{Lifting.{first_limit}, Entry.{behind_as, or_turned, turned_by}}
use Rattle.lift.proofs.{EntryLaws.{not-deep, too-deep, tell-free}}
use Rattle.lift.proofs.entry.behind.Goals as goal

pub nesting-requires : goal.nesting-requires
nesting-requires c =
    let a = c.args in
    let is = accepted _ _ (turned_by a.list.now a.sizes a.limit_from a.limit_to) c.in_ok-n.ensures in
    let of = readable (call_of a.list.now a.sizes (record { low = 0; high = 0 }) (first_limit a.limit_from a.limit_to)) is.1 in
    (omega (arith, is.0, of.words), omega (arith, is.0, of.tokens))

pub returns-in_err-n : goal.returns-in_err-n
returns-in_err-n c =
    let a = c.args in
    let p = err_from_is_err_and c.from_residual.result c.from_residual.ensures.1 in
    rw (p.1, p.2)
    (sym
    (ap (λ (o : Option Refusal). or_turned o (behind_as (too_deep a.limit_to (tokens_of a.list.now)) (reason_number a.refusal.reason) a.refusal.place))
    (refused_as _ _ _ (turned_by a.list.now a.sizes a.limit_from a.limit_to) c.in_err-n.ensures)))

pub returns-in-Ok : goal.returns-in-Ok
returns-in-Ok c =
    let a = c.args in
    let is = accepted _ _ (turned_by a.list.now a.sizes a.limit_from a.limit_to) c.in_ok-n.ensures in
    tell-free is.1 (not-deep _ (too_deep a.limit_to (tokens_of a.list.now)) (reason_number a.refusal.reason) a.refusal.place c.in-Ok.ensures)

pub returns-in-Err : goal.returns-in-Err
returns-in-Err c =
    let a = c.args in
    let is = accepted _ _ (turned_by a.list.now a.sizes a.limit_from a.limit_to) c.in_ok-n.ensures in
    tell-free is.1 (too-deep _ (too_deep a.limit_to (tokens_of a.list.now)) (reason_number a.refusal.reason) a.refusal.place c.in-Err.ensures)
