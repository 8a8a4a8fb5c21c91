-- `nodes::frames::pop` meets its contract.
use Prim.Native.Nat.{ℕ, ◌+◌, ◌-◌}
use mathlib.Core.Path.{◌≡◌, refl, sym, ap, ◌∙◌}
use Rattle.nodes.specs.Store.{wd}
use native.Mathlib.Omega.{arith}
use Rattle.nodes.proofs.frames.pop.Goals as goal

pub returns : goal.returns
returns c =
    let W = c.args.work.now in
    let top = c.args.top in
    let p = c.requires in
    let at : (i j : ℕ) → i ≡ j → wd W i ≡ wd W j = λ i j e. ap (λ (k : ℕ). wd W k) e in
    let base : c.wide-base.result ≡ wd W (top - 5) = c.wide-base.ensures in
    record {
      above = omega (arith, p.base);
      owner-word = refl;
      base_word = at (top - 6 + 1) (top - 5) (omega arith) ∙ sym base;
      read_word = at (top - 6 + 2) (top - 4) (omega arith) ∙ sym c.wide-read.ensures;
      write_word = at (top - 6 + 3) (top - 3) (omega arith) ∙ sym c.wide-write.ensures;
      first-word = at (top - 6 + 4) (top - 2) (omega arith);
      second_word = at (top - 6 + 5) (top - 1) (omega arith);
    }
