-- `sections::sections` meets its contract.
use Prim.Native.Nat.{ℕ, ◌-◌, ◌≤◌, ◌<◌}
use mathlib.Core.{Path.{◌≡◌}, List.{List}}
use Rattle.sections.specs.Flat.{CanSection}
use Rattle.sections.proofs.SectionWalk.{Walking}
use Rattle.sections.proofs.sections.Given as goal

abbrev pub invariant-open : goal.invariant-open
invariant-open l =
    (l.initial.read ≤ l.read) × (l.read < l.n)
    × ((W₀ : List ℕ) (g : CanSection W₀ l.base l.n) → Walking W₀ l.base l.n g l.initial.work l.initial.read l.initial.at.write l.initial.at.depth l.initial.at.index
    → Walking W₀ l.base l.n g l.work l.read l.at.write l.at.depth l.at.index)

abbrev pub decreases-open : goal.decreases-open
decreases-open l =
    l.n - l.read

abbrev pub invariant-tokens : goal.invariant-tokens
invariant-tokens l =
    CanSection l.initial.work l.base l.n × (l.at.depth ≡ 0)
    × ((g : CanSection l.initial.work l.base l.n) → Walking l.initial.work l.base l.n g l.work l.read l.at.write l.at.depth l.at.index)

abbrev pub decreases-tokens : goal.decreases-tokens
decreases-tokens l =
    l.n - l.read
