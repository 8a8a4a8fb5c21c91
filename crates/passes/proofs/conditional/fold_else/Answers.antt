-- `fold_else`: nothing is folded, or the `:` takes both (the cases of ElseFolded).
use Prim.Native.Nat.{◌+◌, ◌<◌}
use mathlib.Core.Path.{refl, sym, ◌∙◌}
use native.Mathlib.Omega.{arith}
use Rattle.passes.specs.Conditional.{start, short, no_if, no_else, pair}
use Rattle.passes.proofs.conditional.fold_else.Goals as goal

pub returns-then-scan-eq0 : goal.returns-then-scan-eq0
returns-then-scan-eq0 c =
    (start c.if-scan-eq0.true, refl)

pub returns-then-scan-lt3 : goal.returns-then-scan-lt3
returns-then-scan-lt3 c =
    (short c.if-scan-lt3.true, refl)

pub returns-then-is_token-2 : goal.returns-then-is_token-2
returns-then-is_token-2 c =
    let some : 0 < c.args.scan.read = omega (arith, c.if-scan-eq0.false) in
    let three : c.args.scan.write + 2 < c.args.scan.len = omega (arith, c.if-scan-lt3.false) in
    rw c.moved.ensures (
      pair some three (sym c.is_token.ensures ∙ c.if-is_token.true) (sym c.is_token-then-is_token.ensures ∙ c.if-is_token-2.true)
          (record { Z = c.attach_two.new.work; attached = c.attach_two.ensures; stored = refl }),
      refl,
    )

pub returns-else-is_token-2 : goal.returns-else-is_token-2
returns-else-is_token-2 c =
    let three : c.args.scan.write + 2 < c.args.scan.len = omega (arith, c.if-scan-lt3.false) in
    (no_else three (sym c.is_token-then-is_token.ensures ∙ c.if-is_token-2.false), refl)

pub returns-else-is_token : goal.returns-else-is_token
returns-else-is_token c =
    let some : 0 < c.args.scan.read = omega (arith, c.if-scan-eq0.false) in
    (no_if some (sym c.is_token.ensures ∙ c.if-is_token.false), refl)
