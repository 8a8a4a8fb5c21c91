-- `words::extent::widened` meets its contract: the lesser start and the greater end. Assumes nothing.
use mathlib.Core.Path.{ap, ap₂, ◌∙◌}
use Prim.Native.Nat.{ℕ, min, max}
use Rattle.words.specs.{Extents.{wider}, declared.extent.Extent.{Extent}}
use Rattle.words.proofs.extent.widened.Goals as goal

pub returns : goal.returns
unfolding wider
returns c =
    let seen = c.args.seen in
    let extent : ℕ → ℕ → Extent = λ s e. record { start = s; end = e } in
    ap₂ extent
    (c.min.ensures ∙ ap (min seen.start) c.low.ensures)
    (c.max.ensures ∙ ap (max seen.end) c.low-2.ensures)
