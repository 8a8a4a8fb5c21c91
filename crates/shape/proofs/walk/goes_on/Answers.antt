-- `shape::walk::goes_on` meets its contract: by the word itself, then by what the words so far come to. Assumes nothing.
use mathlib.Core.Path.{sym, ◌∙◌}
use Rattle.shape.specs.Answers.{field_of}
use Rattle.shape.proofs.WalkLaws.{stops-illegal, goes-by-fit}
use Rattle.shape.proofs.walk.goes_on.Goals as goal

pub returns-then-not-is_legal : goal.returns-then-not-is_legal
returns-then-not-is_legal g c =
    let a = c.args in
    stops-illegal g.W.Walk.fits (field_of a.field) a.variant a.walk a.w (sym c.is_legal.ensures ∙ c.if-not-is_legal.true)

pub returns : goal.returns
returns g c =
    let a = c.args in
    c.fits.ensures ∙ goes-by-fit g.W.Walk.fits (field_of a.field) a.variant a.walk a.w (sym c.is_legal.ensures ∙ c.if-not-is_legal.false)
