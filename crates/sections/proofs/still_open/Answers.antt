-- `sections::still_open` meets its contract.
use Prim.Native.Nat.{ℕ, ◌+◌}
use mathlib.Core.Path.{refl, ap}
use Rattle.nodes.specs.Store.{wd}
use Rattle.sections.proofs.still_open.Goals as goal

pub returns : goal.returns
returns c =
    let a = c.args in
    record {
      inner = ap (λ (n : ℕ). wd a.work.now (a.base + n)) c.opener_at-innermost.ensures;
      start = refl;
      outer = ap (λ (n : ℕ). wd a.work.now (a.base + n)) c.opener_at-outermost.ensures;
    }
