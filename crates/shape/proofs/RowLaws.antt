-- A row of trees in words: how many trees and nodes it is, and what stands after its first trees.
use Prim.Native.Nat.{ℕ, zero, suc, ◌+◌, ◌-◌, ◌*◌, ◌≤◌, ◌<◌}
use mathlib.Core.{Path.{◌≡◌, refl, ap, sym}, List.{List}}
use native.Mathlib.{Nat.{zero-add, suc-add}, Omega.{arith}}
use lib.ListN.{length, get_or, drop}
use Rattle.molang.{specs.Forest.{Token, Forest, nil, node, count, size}, specs.Words.{low_of, token_of, node_of, token_words}}
use Rattle.molang.{specs.WriteEntry.{first_trees, other_trees, trees_of}, proofs.Words.{beside}}
use Rattle.words.{specs.Fields.{operator_of}, proofs.TreeLaws.{none_first}, specs.Tokens.{node_length}}
use Rattle.shape.specs.Shaped.{count_index, close_index, first_five, Shaped, no_trees, a_node}

-- The first trees and the others are the row.
pub beside-split : (n : ℕ) (f : Forest) → beside (first_trees n f) (other_trees n f) ≡ f
unfolding beside first_trees other_trees
beside-split zero f = refl
beside-split (suc n) nil = refl
beside-split (suc n) (node k cs rest) = ap (node k cs) (beside-split n rest)

pub count-first : (n : ℕ) (f : Forest) → n ≤ count f → count (first_trees n f) ≡ n
unfolding count first_trees
count-first zero f h = refl
count-first (suc n) nil h = omega arith
count-first (suc n) (node k cs rest) h = ap suc (count-first n rest (omega arith))

pub count-other : (n : ℕ) (f : Forest) → count (other_trees n f) ≡ count f - n
unfolding count other_trees
count-other zero f = omega arith
count-other (suc n) nil = omega arith
count-other (suc n) (node k cs rest) = omega (arith, count-other n rest)

pub size-split : (n : ℕ) (f : Forest) → size (first_trees n f) + size (other_trees n f) ≡ size f
unfolding size first_trees other_trees
size-split zero f = omega arith
size-split (suc n) nil = omega arith
size-split (suc n) (node k cs rest) = omega (arith, size-split n rest)

other-nil : (n : ℕ) → other_trees n nil ≡ nil
unfolding other_trees
other-nil zero = refl
other-nil (suc n) = refl

-- The first trees in two goes.
size-more : (n m : ℕ) (f : Forest) → size (first_trees (n + m) f) ≡ size (first_trees n f) + size (first_trees m (other_trees n f))
unfolding size first_trees other_trees
size-more zero m f = rw zero-add (omega arith)
size-more (suc n) m nil = rw (suc-add, none_first m) refl
size-more (suc n) m (node k cs rest) = rw suc-add (omega (arith, size-more n m rest))

other-more : (n m : ℕ) (f : Forest) → other_trees (n + m) f ≡ other_trees m (other_trees n f)
unfolding other_trees
other-more zero m f = rw zero-add refl
other-more (suc n) m nil = rw (suc-add, other-nil m) refl
other-more (suc n) m (node k cs rest) = rw suc-add (other-more n m rest)

-- The words are as many trees as they are said to be.
pub shaped-count : {most p : ℕ} {ws : List ℕ} → Shaped most p ws → count (trees_of ws) ≡ p
unfolding trees_of count
shaped-count no_trees = refl
shaped-count (a_node {trees = trees} {n = n} {ws = ws} five few later) =
    omega (arith, shaped-count later, count-other (low_of n) (trees_of ws))

-- Seven words a node.
pub shaped-length : {most p : ℕ} {ws : List ℕ} → Shaped most p ws → length ws ≡ node_length * size (trees_of ws)
unfolding trees_of size
shaped-length no_trees = refl
shaped-length (a_node {n = n} {ws = ws} five few later) = omega (arith, shaped-length later, size-split (low_of n) (trees_of ws))

-- At least seven words a tree.
pub shaped-room : {most p : ℕ} {ws : List ℕ} → Shaped most p ws → node_length * p ≤ length ws
shaped-room no_trees = omega arith
shaped-room (a_node five few later) = omega (arith, shaped-room later)

-- What stands after the first trees: the other trees, whose words begin where those of the first end.
pub record After (most p q : ℕ) (ws : List ℕ) : Type 0 where
  pub shaped : Shaped most p (drop (node_length * size (first_trees q (trees_of ws))) ws)
  pub trees : trees_of (drop (node_length * size (first_trees q (trees_of ws))) ws) ≡ other_trees q (trees_of ws)

after_none : {most r : ℕ} {ws : List ℕ} (p : ℕ) → r ≡ 0 + p → Shaped most r ws → After most p 0 ws
unfolding first_trees other_trees size
after_none {r = r} p e h = let same : r ≡ p = omega arith in record { shaped = rw same at h; trees = refl }

pub after-trees : {most r : ℕ} {ws : List ℕ} → Shaped most r ws → (p q : ℕ) → r ≡ q + p → After most p q ws
unfolding trees_of first_trees other_trees size
after-trees no_trees p zero e = after_none p e no_trees
after-trees no_trees p (suc q) e = absurd (omega arith)
after-trees (a_node five few later) p zero e = after_none p e (a_node five few later)
after-trees (a_node {trees = trees} {n = n} {ws = ws} five few later) p (suc q) e =
    let g = trees_of ws in
    let m = node_length * size (first_trees (low_of n + q) g) in
    let x = after-trees later p (low_of n + q) (omega arith) in
    let seven : node_length * (1 + size (first_trees (low_of n) g) + size (first_trees q (other_trees (low_of n) g)))
    ≡ suc (suc (suc (suc (suc (suc (suc m)))))) =
    omega (arith, size-more (low_of n) q g)
    in
    record { shaped = rw seven x.shaped; trees = rw (seven, ← other-more (low_of n) q g) x.trees }

-- What the words of a row open with: a node, its children before the trees after it.
pub record Opened (most top : ℕ) (ws : List ℕ) : Type 0 where
  pub others : ℕ
  pub is_top : top ≡ suc others
  pub k : Token
  pub cs : Forest
  pub rest : Forest
  pub trees : trees_of ws ≡ node k cs rest
  pub five : token_words k ≡ first_five ws
  pub op : k.op ≡ operator_of (get_or ws 0 0)
  pub close : k.close ≡ low_of (get_or ws close_index 0)
  pub children : count cs ≡ low_of (get_or ws count_index 0)
  pub few : low_of (get_or ws count_index 0) ≤ most
  pub below : trees_of (drop node_length ws) ≡ beside cs rest
  pub shaped : Shaped most (low_of (get_or ws count_index 0) + others) (drop node_length ws)
  pub long : node_length ≤ length ws

pub opened : {most top : ℕ} {ws : List ℕ} → Shaped most top ws → 0 < length ws → Opened most top ws
unfolding trees_of first_five operator_of token_of node_of token_words
opened no_trees h = absurd (omega arith)
opened (a_node {trees = trees} {a = a} {b = b} {c = c} {d = d} {e = e} {n = n} {g = g} {ws = ws} five few later) h =
    record {
      others = trees;
      is_top = refl;
      k = node_of a b c d e g;
      cs = first_trees (low_of n) (trees_of ws);
      rest = other_trees (low_of n) (trees_of ws);
      trees = refl;
      five = five;
      op = refl;
      close = refl;
      children = count-first (low_of n) (trees_of ws) (omega (arith, shaped-count later));
      few = few;
      below = sym (beside-split (low_of n) (trees_of ws));
      shaped = later;
      long = omega arith;
    }

-- A node's children by their number.
pub no_kids : (cs : Forest) → count cs ≡ 0 → cs ≡ nil
unfolding count
no_kids nil e = refl
no_kids (node x xs r) e = absurd (omega arith)

pub record OneKid (cs : Forest) : Type 0 where
  pub x : Token
  pub xs : Forest
  pub is : cs ≡ node x xs nil

pub one-kid : (cs : Forest) → count cs ≡ 1 → OneKid cs
unfolding count
one-kid nil e = absurd (omega arith)
one-kid (node x xs r) e = record { x = x; xs = xs; is = ap (node x xs) (no_kids r (omega arith)) }

pub record TwoKids (cs : Forest) : Type 0 where
  pub x : Token
  pub xs : Forest
  pub y : Token
  pub ys : Forest
  pub is : cs ≡ node x xs (node y ys nil)

pub two-kids : (cs : Forest) → count cs ≡ 2 → TwoKids cs
unfolding count
two-kids nil e = absurd (omega arith)
two-kids (node x xs r) e =
    let later = one-kid r (omega arith) in
    record { x = x; xs = xs; y = later.x; ys = later.xs; is = ap (node x xs) later.is }
