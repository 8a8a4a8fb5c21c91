-- A list of trees in two parts: taking the first so many trees off it, what its parts keep, and turning it round.
use Prim.Native.Nat.{ℕ, zero, suc, ◌+◌, ◌≤◌}
use mathlib.Core.{Path.{◌≡◌, refl, ap}, List.{List}}
use native.Mathlib.Omega.{arith}
use Rattle.molang.specs.{Forest.{Forest, nil, node, turned_onto, in_order, count, size}, Legal.{LegalTrees, no_trees, legal_tree}}
use Rattle.molang.specs.{WriteEntry.{most_nodes}, StackOrder.{IsOneTree}}
use Rattle.molang.proofs.Words.{beside}

-- The first n trees, and the others.
pub record Parted (n : ℕ) (f : Forest) : Type 0 where
  pub first : Forest
  pub others : Forest
  pub is : f ≡ beside first others
  pub counted : count first ≡ n

pub parted : (n : ℕ) (f : Forest) → n ≤ count f → Parted n f
unfolding beside count
parted zero f h = record { first = nil; others = f; is = refl; counted = refl }
parted (suc n) nil h = absurd (omega arith)
parted (suc n) (node k cs rest) h =
    let p = parted n rest (omega arith) in
    record { first = node k cs p.first; others = p.others; is = ap (node k cs) p.is; counted = ap suc p.counted }

pub count-beside : (f g : Forest) → count (beside f g) ≡ count f + count g
unfolding beside count
count-beside nil g = omega arith
count-beside (node k cs rest) g = omega (arith, count-beside rest g)

pub size-beside : (f g : Forest) → size (beside f g) ≡ size f + size g
unfolding beside size
size-beside nil g = omega arith
size-beside (node k cs rest) g = omega (arith, size-beside rest g)

pub legal-beside : (f g : Forest) → LegalTrees (beside f g) → LegalTrees f × LegalTrees g
unfolding beside
legal-beside nil g h = (no_trees, h)
legal-beside (node k cs rest) g (legal_tree h n below after) =
    let later = legal-beside rest g after in
    (legal_tree h n below later.0, later.1)

pub legal-turned : {f g : Forest} → LegalTrees f → LegalTrees g → LegalTrees (turned_onto f g)
unfolding turned_onto
legal-turned no_trees hg = hg
legal-turned (legal_tree h n below after) hg = legal-turned after (legal_tree h n below hg)

pub legal-in_order : {f : Forest} → LegalTrees f → LegalTrees (in_order f)
legal-in_order h = unfold in_order in legal-turned h no_trees

-- Turned onto others, the trees stand before them.
turned-beside : (f o g : Forest) → turned_onto f (beside o g) ≡ beside (turned_onto f o) g
unfolding turned_onto beside
turned-beside nil o g = refl
turned-beside (node k cs rest) o g = turned-beside rest (node k cs o) g

pub turned_onto-beside : (f g : Forest) → turned_onto f g ≡ beside (in_order f) g
turned_onto-beside f g = unfold in_order beside in turned-beside f nil g

-- Words that are a list of one tree.
pub one-tree : (in_words : Forest → List ℕ) (ws : List ℕ) (f : Forest) → LegalTrees f → count f ≡ 1 → size f ≤ most_nodes → ws ≡ in_words f
    → IsOneTree in_words ws
unfolding count
one-tree in_words ws nil h n b e = absurd (omega arith)
one-tree in_words ws (node k cs nil) h n b e = record { root = k; children = cs; legal = h; few = b; words = e }
one-tree in_words ws (node k cs (node l ds rest)) h n b e = absurd (omega arith)
