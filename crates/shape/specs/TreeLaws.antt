-- Answer 12's walk is one.
use mathlib.Core.{Path.{refl}}
use native.Mathlib.Omega.{arith}
use borrow.Author.Tests.{leb-true}
use Rattle.molang.specs.WriteEntry.{continues, tree_fault}
use Rattle.molang.proofs.{Trees.{both}, TreeWords.{tree-few}}
use Rattle.shape.specs.{Walks.{IsWalk}, Trees.{shape_of, tree_start, tree_stepped, tree_fits, tree_whole, tree_faults, TreeHolds}}

pub tree_walks : IsWalk tree_start tree_stepped tree_fits tree_whole tree_faults TreeHolds
unfolding tree_fault continues
tree_walks =
    record {
      starts = (omega arith, omega arith);
      kept = λ field w s h e.
          let t = both _ _ e in (tree-few field w (shape_of s) (leb-true _ _ t.0), leb-true _ _ t.1);
      at_end = λ i field v s. refl;
      at_word = λ i field v s w ws. refl;
    }
