-- `passes::unary::step` meets its contract.
use Rattle.passes.proofs.{UnaryRight.{seek-back}, UnaryStep.{token-found, step-over, step-enter, step-token}}
use Rattle.passes.proofs.unary.step.Goals as goal

pub token-requires : goal.token-requires
token-requires c =
    token-found (seek-back c.requires)
    (rw c.in-Token.is at c.previous_token-found.ensures)

pub returns-in-Nothing : goal.returns-in-Nothing
returns-in-Nothing c =
    step-over (rw c.in-Nothing.is at c.previous_token-found.ensures)
    c.over.ensures

pub returns-in-Children : goal.returns-in-Children
returns-in-Children c =
    step-enter (rw c.in-Children.is at c.previous_token-found.ensures)
    c.enter.ensures

pub returns-in-Token : goal.returns-in-Token
returns-in-Token c =
    step-token
    (rw c.in-Token.is at
    c.previous_token-found.ensures)
    c.token.ensures

pub previous_token-found-requires : goal.previous_token-found-requires
previous_token-found-requires c =
    seek-back c.requires
