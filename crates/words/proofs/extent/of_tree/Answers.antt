-- `words::extent::of_tree` meets its contract: what was seen, with the trees that are still called for, has the first tree's extent.
-- Assumes nothing.
use Prim.Native.Nat.{ℕ, suc, ◌+◌, ◌-◌, ◌<◌}
use mathlib.Core.{Path.{◌≡◌, refl, sym, ap, ◌∙◌}, List.{List, ◌++◌}}
use native.Mathlib.Omega.{arith}
use lib.{ListN.{length, get_or, drop, length-append, get_or-append}, Seq.{drop-append_seam}}
use Rattle.molang.specs.{Words.{low_of}, Read.{lowest_start, highest_end}, WriteEntry.{first_trees, trees_of}}
use Rattle.words.specs.{Extents.{wider, extent_with}, declared.extent.Extent.{Extent}}
use Rattle.words.proofs.{TreeLaws.{no-tree, none_first, extent-step, from_nothing}}
use Rattle.words.proofs.extent.of_tree.Goals as goal

-- No tree is called for, or no node is left.
none-called : (e : Extent) (f : _) → extent_with e (first_trees 0 f) ≡ e
none-called e f = unfold first_trees extent_with lowest_start highest_end in refl

none_left : (e : Extent) (t : ℕ) (l : List ℕ) → length l < 7 → extent_with e (first_trees t (trees_of l)) ≡ e
none_left e t l h = unfold extent_with lowest_start highest_end in rw (no-tree l h, none_first t) refl

-- A node is taken in.
step : (x later : List ℕ) (t : ℕ) (e : Extent) → length x ≡ 7
    → extent_with (wider e (get_or x 1 0) (get_or x 2 0)) (first_trees (t + low_of (get_or x 5 0)) (trees_of later))
    ≡ extent_with e (first_trees (suc t) (trees_of (x ++ later)))
step x later t e h =
    let behind : drop 7 (x ++ later) ≡ later = rw h at (drop-append_seam x later) in
    rw (get_or-append x later 0 1 (omega arith), get_or-append x later 0 2 (omega arith), get_or-append x later 0 5 (omega arith), behind) at
    (extent-step (x ++ later) t e (omega (arith, length-append x later)))

pub loop-node-init : goal.loop-node-init
loop-node-init c =
    let items = c.chunks_exact-node-items.ensures in
    rw (c.into_iter-node-iterator.ensures.into_iter_gives, items.rest) (from_nothing c.args.words.now, items.size, omega arith)

pub overflow_add-trees : goal.overflow_add-trees
unfolding low_of
overflow_add-trees c =
    let x = c.in-Some.node.now in
    let next = c.in-Some.ensures.steps.1 in
    let long = ap (λ (l : List ℕ). length l) next.0 ∙ length-append x c.next.new.self.rest.now in
    omega (arith, c.low-below.ensures, c.loop-node.invariant, long, next.1)

pub loop-node-preserved : goal.loop-node-preserved
unfolding low_of
loop-node-preserved c =
    let l = c.loop-node in
    let x = c.in-Some.node.now in
    let later = c.next.new.self.rest.now in
    let s = c.in-Some.ensures.steps in
    let next = s.1 in
    let seven = next.1 ∙ l.invariant.1 in
    let long = ap (λ (m : List ℕ). length m) next.0 ∙ length-append x later in
    let some : suc (l.trees - 1) ≡ l.trees = omega arith in (
      rw (c.widened-seen.ensures, c.low-below.ensures)
          (step x later (l.trees - 1) l.seen seven
          ∙ (ap (λ (t : ℕ). extent_with l.seen (first_trees t (trees_of (x ++ later)))) some
          ∙ (ap (λ (m : List ℕ). extent_with l.seen (first_trees l.trees (trees_of m))) (sym next.0) ∙ l.invariant.0))),
      s.0 ∙ l.invariant.1,
      omega (arith, c.low-below.ensures, l.invariant.2, long, seven),
    )

pub returns-in-None : goal.returns-in-None
returns-in-None c =
    let l = c.loop-node in
    let short = c.in-None.ensures.steps.1.0 in
    sym (none_left l.seen l.trees l.node-iterator.rest.now (omega (arith, short, l.invariant.1))) ∙ l.invariant.0

pub returns-then-trees-eq0 : goal.returns-then-trees-eq0
returns-then-trees-eq0 c =
    let l = c.loop-node in
    let none : l.trees ≡ 0 = c.if-trees-eq0.true in
    sym (none-called l.seen (trees_of l.node-iterator.rest.now))
    ∙ (ap (λ (t : ℕ). extent_with l.seen (first_trees t (trees_of l.node-iterator.rest.now))) (sym none) ∙ l.invariant.0)
