-- `accept::accept` meets its contract: the parts of the table in order. Assumes nothing.
use mathlib.Core.Path.{sym, ap}
use Rattle.std.proofs.lemmas.Result.{err_from_is_err_and}
use Rattle.molang.{specs.FirstFailure.{first_of}, proofs.FirstFailure.{last_one}}
use Rattle.accept.specs.Accepting.{verdict}
use Rattle.accept.proofs.{AcceptLaws.{table, accepted, refused-first, whole-tokens}}
use Rattle.accept.proofs.accept.Goals as goal

pub returns-in_err-n : goal.returns-in_err-n
returns-in_err-n c =
    let a = c.args in
    let p = err_from_is_err_and c.from_residual.result c.from_residual.ensures.1 in
    rw (p.1, p.2, table a.list.now a.sizes a.used a.limit) (refused-first _ _ _ _ c.in_err-n.ensures)

pub returns-in_err-values : goal.returns-in_err-values
unfolding first_of
returns-in_err-values c =
    let a = c.args in
    let p = err_from_is_err_and c.from_residual-in_err-values.result c.from_residual-in_err-values.ensures.1 in
    rw (p.1, p.2, table a.list.now a.sizes a.used a.limit, (accepted _ _ _ c.in_ok-n.ensures).1, ← c.in_err-values.ensures)

pub token_words-requires : goal.token_words-requires
token_words-requires c =
    let a = c.args in
    (whole-tokens a.list.now a.sizes _ c.in_ok-n.ensures).0

pub returns-in_err-token_words : goal.returns-in_err-token_words
unfolding first_of
returns-in_err-token_words c =
    let a = c.args in
    let p = err_from_is_err_and c.from_residual-in_err-token_words.result c.from_residual-in_err-token_words.ensures.1 in
    rw (
      p.1,
      p.2,
      table a.list.now a.sizes a.used a.limit,
      (accepted _ _ _ c.in_ok-n.ensures).1,
      ← c.in_ok-values.ensures,
      ← c.in_err-token_words.ensures,
    )

pub nesting-requires : goal.nesting-requires
nesting-requires c =
    let a = c.args in
    whole-tokens a.list.now a.sizes _ c.in_ok-n.ensures

pub returns : goal.returns
unfolding first_of
returns c =
    let a = c.args in
    let told = accepted _ _ _ c.in_ok-n.ensures in
    rw (
      c.nesting.ensures,
      told.0,
      table a.list.now a.sizes a.used a.limit,
      told.1,
      ← c.in_ok-values.ensures,
      ← c.in_ok-token_words.ensures,
    ) (ap (verdict _) (sym (last_one _)))
