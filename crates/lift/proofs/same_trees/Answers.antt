-- `lift::same_trees` meets its contract. Assumes nothing.
use Prim.Native.Nat.{ℕ, ◌*◌}
use mathlib.Core.Path.{ap, ◌∙◌}
use lib.ListN.{take}
use Rattle.molang.specs.Lift.{eq_words}
use Rattle.lift.proofs.{CallLaws.{sizes-differ}}
use Rattle.lift.proofs.same_trees.Goals as goal

pub returns-then-nodes-m : goal.returns-then-nodes-m
returns-then-nodes-m c =
    let a = c.args in
    sizes-differ a.nodes a.m a.tree.now a.again.now c.requires.0 c.requires.1 c.if-nodes-m.true

pub returns : goal.returns
returns c =
    let a = c.args in
    c.same_words.ensures
    ∙ ap (λ (n : ℕ). eq_words (take (7 * a.nodes) a.tree.now) (take (7 * n) a.again.now)) c.if-nodes-m.false
