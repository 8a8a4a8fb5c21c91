-- `shape::tree::TreeOrder::after_node` meets its contract: by the operator and the count; the other words change nothing. Assumes nothing.
use mathlib.Core.Path.{refl}
use native.Mathlib.{Numerals.{add-one}, Omega.{arith}}
use Rattle.molang.specs.{Words.{low_of}, WriteEntry.{next_in_node, shape_after}}
use Rattle.shape.proofs.tree.TreeOrderWalk.after_node.Goals as goal

pub overflow_add-result : goal.overflow_add-result
overflow_add-result c = unfold low_of in omega (arith, c.low.ensures, c.requires.holds.1)

pub returns : goal.returns
unfolding shape_after next_in_node
returns c = λ a b x d e g. rw (c.low.ensures, add-one) refl
