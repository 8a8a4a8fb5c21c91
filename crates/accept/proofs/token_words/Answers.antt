-- `accept::token_words` meets its contract: what the check of the whole list answers is answered by the words that are left. Assumes
-- nothing.
use Prim.Native.Nat.{◌+◌, ◌*◌}
use mathlib.Core.{Path.{◌≡◌, refl, sym, ap, ◌∙◌}}
use native.Mathlib.Omega.{arith}
use Rattle.std.proofs.lemmas.Result.{err_from_is_err_and}
use Rattle.accept.proofs.{AcceptLaws.{check_from, token-good, token-bad, all-good}}
use Rattle.accept.proofs.token_words.Goals as goal

pub loop-i-preserved : goal.loop-i-preserved
loop-i-preserved c =
    let list = c.args.list.now in
    let at = 5 * c.loop-i.i in
    let on : at + 5 ≡ 5 * (c.loop-i.i + 1) = omega arith in
    let passed = token-good list at (omega arith) (c.in_ok-token.ensures ∙ rw c.at.ensures) in
    record { within = omega arith; rest = c.loop-i.invariant.rest ∙ (passed ∙ ap (check_from list) on) }

pub returns-in_err-token : goal.returns-in_err-token
returns-in_err-token c =
    let list = c.args.list.now in
    let at = 5 * c.loop-i.i in
    let p = err_from_is_err_and c.from_residual.result c.from_residual.ensures.1 in
    rw (p.1, p.2)
    (sym
    (c.loop-i.invariant.rest ∙ token-bad list at (omega arith) _ (c.in_err-token.ensures ∙ rw c.at.ensures)))

pub returns : goal.returns
returns c =
    sym (c.loop-i.invariant.rest ∙ all-good c.args.list.now (5 * c.loop-i.i) (omega arith))

pub loop-i-init : goal.loop-i-init
loop-i-init c =
    record { within = omega arith; rest = refl }
