-- `token`, arm by arm: the turn is the level's own.
use Rattle.passes.proofs.SeekLaws.{array-none, level-idle, token-by, token-kept}
use Rattle.grouping.proofs.driver.token.Goals as goal

pub returns-in-Calls : goal.returns-in-Calls
returns-in-Calls c =
    token-by c.args.pass _
    c.in-Calls.is c.call.ensures

pub returns-in-MathCalls : goal.returns-in-MathCalls
returns-in-MathCalls c =
    token-by c.args.pass _
    c.in-MathCalls.is c.math_call.ensures

pub returns-in-Arrays : goal.returns-in-Arrays
returns-in-Arrays c =
    token-by c.args.pass _ (array-none c.args.pass c.in-Arrays.is c.requires.1)
    c.array_name.ensures

pub returns-in-Binary : goal.returns-in-Binary
returns-in-Binary c =
    token-by c.args.pass _ (level-idle c.args.pass c.in-Binary.is c.requires.1)
    c.operator.ensures

pub returns-in-Returns : goal.returns-in-Returns
returns-in-Returns c =
    token-by c.args.pass _
    c.in-Returns.is c.returned.ensures

pub returns-in_default : goal.returns-in_default
returns-in_default c =
    let kept = c.keep.ensures in
    token-kept c.args.pass
    c.in_default.in_default-own.keys6 kept.1 kept.0 c.on.ensures
