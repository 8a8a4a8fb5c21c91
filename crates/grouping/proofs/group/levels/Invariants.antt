-- `group::levels` meets its contract.
use Prim.Native.Nat.{ℕ}
use Rattle.order.specs.Ranks.{used_by, rules_of}
use Rattle.grouping.specs.Group.{CanLevel}
use Rattle.grouping.proofs.LevelLaws.{LevelAt}
use Rattle.grouping.proofs.group.levels.Given as goal

abbrev pub invariant-loop-k : goal.invariant-loop-k
invariant-loop-k l =
    (g : CanLevel l.initial.work l.base l.m) (j : ℕ)
    → LevelAt l.initial.work l.base l.m (used_by l.used) (rules_of l.version) g j l.work l.k l.n
