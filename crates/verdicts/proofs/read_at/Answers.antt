-- `verdicts::read_at` meets its contract: each turn reads at one version. Assumes nothing.
use mathlib.Core.Path.{refl, sym, ◌∙◌}
use native.Mathlib.Omega.{arith}
use mir.{Syntax.{w16}, Facts.{to_z-of_z}}
use Rattle.std.proofs.lemmas.Result.{err_from_is_err_and}
use Rattle.verdicts.specs.Verdicts.{at_versions}
use Rattle.verdicts.proofs.{VerdictLaws.{found-same, found-other, none_left}}
use Rattle.verdicts.proofs.read_at.Goals as goal

pub loop-bits-init : goal.loop-bits-init
unfolding at_versions
loop-bits-init c =
    rw (c.first_version-bits.ensures, c.last_version-bits-end.ensures.0, c.limit_of-limit.ensures) refl

pub returns-in_err-read : goal.returns-in_err-read
returns-in_err-read c =
    let a = c.args in
    let p = err_from_is_err_and c.from_residual.result c.from_residual.ensures.1 in
    let version = c.version_of in
    let said = rw (to_z-of_z {w = w16} {z = version.result} (record { sfits = version.type_inv }), version.ensures) at c.in_err-read.ensures in
    rw (p.1, p.2) (found-other a.list.now _ a.said.now c.loop-bits.bits c.last_version-bits-end.result (omega arith) _ said ∙ c.loop-bits.invariant)

pub loop-bits-preserved : goal.loop-bits-preserved
loop-bits-preserved c =
    let a = c.args in
    let version = c.version_of in
    let said = rw (to_z-of_z {w = w16} {z = version.result} (record { sfits = version.type_inv }), version.ensures) at c.in_ok-read.ensures in
    sym (found-same a.list.now _ a.said.now c.loop-bits.bits c.last_version-bits-end.result (omega arith) said) ∙ c.loop-bits.invariant

pub returns : goal.returns
returns c =
    let a = c.args in
    none_left a.list.now _ a.said.now c.loop-bits.bits c.last_version-bits-end.result (omega arith) ∙ c.loop-bits.invariant
