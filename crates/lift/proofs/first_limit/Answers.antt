-- `lift::first_limit` meets its contract. Assumes nothing.
use mathlib.Core.{Path.{◌≡◌, refl, sym, ◌∙◌}, Bool.{true, false}}
use Rattle.molang.specs.Parse.{is_limit}
use Rattle.lift.specs.Lifting.{first_limit}
use Rattle.lift.proofs.first_limit.Goals as goal

pub returns-then-is_limit : goal.returns-then-is_limit
unfolding first_limit
returns-then-is_limit c =
    let e : is_limit c.args.to ≡ true = sym c.is_limit.ensures ∙ c.if-is_limit.true in rw (e, first_limit) refl

pub returns : goal.returns
unfolding first_limit
returns c =
    let e : is_limit c.args.to ≡ false = sym c.is_limit.ensures ∙ c.if-is_limit.false in rw (e, first_limit) refl
