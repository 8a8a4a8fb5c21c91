-- `words::checks::first_bad` meets its contract: each word is good or ends the check at its place. Assumes nothing.
use mathlib.Core.Path.{sym}
use Rattle.std.proofs.lemmas.Result.{err_from_is_err_and}
use Rattle.molang.{specs.FirstFailure.{first_of}, proofs.FirstFailure.{last_one}}
use Rattle.words.proofs.CheckLaws.{token-tests}
use Rattle.words.proofs.checks.first_bad.Goals as goal

pub returns-in_err-judged : goal.returns-in_err-judged
unfolding first_of
returns-in_err-judged c =
    let k = c.args.words in
    let p = err_from_is_err_and c.from_residual.result c.from_residual.ensures.1 in
    rw (
      p.1,
      p.2,
      token-tests c.args.at k.operator k.start k.end k.upper k.lower,
      ← c.operator_word.ensures,
      ← c.in_err-judged.ensures,
    )

pub returns-in_err-judged-2 : goal.returns-in_err-judged-2
unfolding first_of
returns-in_err-judged-2 c =
    let k = c.args.words in
    let p = err_from_is_err_and c.from_residual-in_err-judged-2.result c.from_residual-in_err-judged-2.ensures.1 in
    rw (
      p.1,
      p.2,
      token-tests c.args.at k.operator k.start k.end k.upper k.lower,
      ← c.operator_word.ensures,
      ← c.in_ok-judged.ensures,
      ← c.span_word.ensures,
      ← c.in_err-judged-2.ensures,
    )

pub returns-in_err-judged-3 : goal.returns-in_err-judged-3
unfolding first_of
returns-in_err-judged-3 c =
    let k = c.args.words in
    let p = err_from_is_err_and c.from_residual-in_err-judged-3.result c.from_residual-in_err-judged-3.ensures.1 in
    rw (
      p.1,
      p.2,
      token-tests c.args.at k.operator k.start k.end k.upper k.lower,
      ← c.operator_word.ensures,
      ← c.in_ok-judged.ensures,
      ← c.span_word.ensures,
      ← c.in_ok-judged-2.ensures,
      ← c.span_word-2.ensures,
      ← c.in_err-judged-3.ensures,
    )

pub returns-in_err-judged-4 : goal.returns-in_err-judged-4
unfolding first_of
returns-in_err-judged-4 c =
    let k = c.args.words in
    let p = err_from_is_err_and c.from_residual-in_err-judged-4.result c.from_residual-in_err-judged-4.ensures.1 in
    rw (
      p.1,
      p.2,
      token-tests c.args.at k.operator k.start k.end k.upper k.lower,
      ← c.operator_word.ensures,
      ← c.in_ok-judged.ensures,
      ← c.span_word.ensures,
      ← c.in_ok-judged-2.ensures,
      ← c.span_word-2.ensures,
      ← c.in_ok-judged-3.ensures,
      ← c.variant-variant.ensures,
      ← c.half_word.ensures,
      ← c.in_err-judged-4.ensures,
    )

pub returns : goal.returns
unfolding first_of
returns c =
    let k = c.args.words in
    rw (
      token-tests c.args.at k.operator k.start k.end k.upper k.lower,
      ← c.operator_word.ensures,
      ← c.in_ok-judged.ensures,
      ← c.span_word.ensures,
      ← c.in_ok-judged-2.ensures,
      ← c.span_word-2.ensures,
      ← c.in_ok-judged-3.ensures,
      ← c.variant-variant.ensures,
      ← c.half_word.ensures,
      ← c.in_ok-judged-4.ensures,
      ← c.half_word-2.ensures,
      ← c.judged-5.ensures,
    ) (sym (last_one _))
