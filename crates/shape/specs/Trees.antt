-- Answer 12's walk, in the code's terms.
use Rattle.std.specs.Prelude.{ℕ, ◌≤◌, Bool, ◌&&◌, List, leb}
use Rattle.std.proofs.Math.Option.{Option}
use Rattle.molang.specs.Words.{Field}
use Rattle.molang.specs.WriteEntry.{most_nodes, Shape, shape_after, is_whole, tree_fault}
use Rattle.shape.specs.Answers.{shape}
use Rattle.shape.specs.declared.tree.TreeOrder.{TreeOrder}

-- The definition's state, and the code's.
abbrev pub shape_of : TreeOrder → Shape
shape_of s = shape s.called s.begun

abbrev pub order_in : Shape → TreeOrder
order_in s = record { called = s.called; begun = s.begun }

-- One node is called for, and none has begun.
abbrev pub tree_start : TreeOrder
tree_start = order_in (shape 1 0)

-- After a word.
abbrev pub tree_stepped : Field → ℕ → TreeOrder → TreeOrder
tree_stepped field w s = order_in (shape_after field w (shape_of s))

-- A node is still called for, and no more nodes are than fit.
abbrev pub tree_fits : Field → ℕ → TreeOrder → Bool
tree_fits field w s = let t = shape_after field w (shape_of s) in leb t.begun s.called && leb t.called most_nodes

-- The words are a whole tree.
abbrev pub tree_whole : Field → TreeOrder → Bool
tree_whole field s = is_whole field (shape_of s)

-- The place of the first fault.
abbrev pub tree_faults : ℕ → Field → ℕ → TreeOrder → List ℕ → Option ℕ
tree_faults i field v s ws = tree_fault i field v (shape_of s) ws

-- No more nodes have begun than are called for, and no more are than fit.
abbrev pub TreeHolds : Field → TreeOrder → Type 0
TreeHolds field s = (s.begun ≤ s.called) × (s.called ≤ most_nodes)
