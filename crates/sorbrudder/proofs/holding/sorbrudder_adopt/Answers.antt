-- `sorbrudder::holding::sorbrudder_adopt` meets its contract: what `adopt_version` promises, with the answer's number. Assumes nothing.
use mathlib.Core.Path.{◌≡◌, sym, ap, ◌∙◌}
use native.Mathlib.Omega.{arith}
use mir.{Syntax.{w16}, Val.{of_z, to_z}, Facts.{to_z-of_z}}
use borrow.Author.Rules.{rules}
use Rattle.std.proofs.lemmas.Result.{IfErr-at_err}
use Rattle.held.specs.{Answers.{adopt_of}}
use Rattle.sorbrudder.proofs.{HoldingLaws.{adopt-fits, adopt-refused, adopt-made}}
use Rattle.sorbrudder.proofs.holding.sorbrudder_adopt.Goals as goal

pub refusal-requires : goal.refusal-requires
refusal-requires c =
    let same : to_z w16 (of_z w16 c.args.version.now) ≡ c.args.version.now = search rules in
    let adopts = rw (same, to_z-of_z {w = w16} c.ranges.to) at c.adopt_version-adopted.ensures.outcomes in
    let first = IfErr-at_err (λ r. r.place ≡ 0) c.in-Err.is c.adopt_version-adopted.ensures.place in
    (adopt-fits _ _ _ (ap adopt_of (sym c.in-Err.is) ∙ adopts), omega (arith, first))

pub returns-in-Err : goal.returns-in-Err
returns-in-Err c =
    let a = c.args in
    let same : to_z w16 (of_z w16 c.args.version.now) ≡ c.args.version.now = search rules in
    let adopts = rw (same, to_z-of_z {w = w16} c.ranges.to) at c.adopt_version-adopted.ensures.outcomes in
    let first = IfErr-at_err (λ r. r.place ≡ 0) c.in-Err.is c.adopt_version-adopted.ensures.place in
    λ tokens. adopt-refused a.version.now a.edits.now a.to tokens _
    (ap adopt_of (sym c.in-Err.is) ∙ adopts) (rw first at c.refusal.ensures)

pub returns-in-Ok : goal.returns-in-Ok
returns-in-Ok c =
    let a = c.args in
    let same : to_z w16 (of_z w16 c.args.version.now) ≡ c.args.version.now = search rules in
    let adopts = rw (same, to_z-of_z {w = w16} c.ranges.to) at c.adopt_version-adopted.ensures.outcomes in
    let next : to_z w16 (of_z w16 c.in-Ok.next.version) ≡ c.in-Ok.next.version = search rules in
    λ tokens. adopt-made a.version.now a.edits.now a.to tokens _
    (ap adopt_of (sym c.in-Ok.is) ∙ adopts) next
