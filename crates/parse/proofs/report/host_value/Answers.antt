-- `parse::report::host_value` meets its contract. Assumes nothing.
use mathlib.Core.Path.{ap}
use Rattle.parse.proofs.{RecordLaws.{no-host, a-host}}
use Rattle.parse.proofs.report.host_value.Goals as goal

pub returns-then-variant-ne-HOST_MATH : goal.returns-then-variant-ne-HOST_MATH
returns-then-variant-ne-HOST_MATH c =
    let a = c.args in
    let variant = c.variant in
    no-host a.work.now a.s variant.result (rw c.token_of-token.ensures at variant.ensures) c.if-variant-ne-HOST_MATH.true

pub returns : goal.returns
returns c =
    let a = c.args in
    let variant = c.variant in
    a-host a.work.now a.s variant.result c.token_of-token.result.value
    (rw c.token_of-token.ensures at variant.ensures) c.if-variant-ne-HOST_MATH.false
    (ap (λ k. k.value) c.token_of-token.ensures)
