-- `passes::conditional::is_else` meets its contract.
use Prim.Native.Nat.{◌≤◌}
use mathlib.Core.Path.{sym, ◌∙◌}
use native.Mathlib.Omega.{arith}
use Rattle.passes.specs.Conditional.{few, other, looked}
use Rattle.passes.proofs.conditional.is_else.Goals as goal

pub returns-then-is_token : goal.returns-then-is_token
returns-then-is_token c =
    let many : 3 ≤ c.args.scan.read =
    omega (arith, c.if-scan-lt3.false) in
    looked many (sym c.is_token.ensures ∙ c.if-is_token.true) c.is_token-then-is_token.ensures

pub returns-then-scan-lt3 : goal.returns-then-scan-lt3
returns-then-scan-lt3 c =
    few c.if-scan-lt3.true

pub returns : goal.returns
returns c =
    other (sym c.is_token.ensures ∙ c.if-is_token.false)
