-- Trees of words: the words' first node and what stands after it, and the extents of a node's children and of its siblings in one go.
-- Assumes nothing.
use mathlib.Core.{Path.{◌≡◌, refl, sym, ap, ap₂, subst, ◌∙◌}, List.{List, [], ◌∷◌}, Bool.{Bool, true, false}}
use Prim.Native.Nat.{ℕ, zero, suc, ◌+◌, ◌<◌, ◌≤◌, ◌-◌, ◌%◌, ◌^◌, min, max}
use native.Mathlib.{Nat.{add-zero, add-suc}, Omega.{arith}}
use lib.{Dec.{ltb}, ListN.{length, get_or, drop}}
use borrow.Author.Tests.{ltb-true, ltb-false}
use Rattle.molang.specs.{Forest.{Token, Forest, nil, node}, Read.{lowest_start, highest_end}, Words.{low_of, token_of, node_of}}
use Rattle.molang.specs.WriteEntry.{first_trees, other_trees, trees_of}
use Rattle.words.specs.{Extents.{wider, extent_with, first_extent}, declared.extent.Extent.{Extent}}

-- ---- The first node of words

pub no-tree : (l : List ℕ) → length l < 7 → trees_of l ≡ nil
unfolding trees_of
no-tree [] h = refl
no-tree (a ∷ []) h = refl
no-tree (a ∷ b ∷ []) h = refl
no-tree (a ∷ b ∷ c ∷ []) h = refl
no-tree (a ∷ b ∷ c ∷ d ∷ []) h = refl
no-tree (a ∷ b ∷ c ∷ d ∷ e ∷ []) h = refl
no-tree (a ∷ b ∷ c ∷ d ∷ e ∷ n ∷ []) h = refl
no-tree (a ∷ b ∷ c ∷ d ∷ e ∷ n ∷ g ∷ ws) h = absurd (omega arith)

-- The label of the node that the words open with.
abbrev pub token_in : List ℕ → Token
token_in l = node_of (get_or l 0 0) (get_or l 1 0) (get_or l 2 0) (get_or l 3 0) (get_or l 4 0) (get_or l 6 0)

pub first-tree : (l : List ℕ) → 7 ≤ length l
    → trees_of l ≡ node (token_in l) (first_trees (low_of (get_or l 5 0)) (trees_of (drop 7 l)))
    (other_trees (low_of (get_or l 5 0)) (trees_of (drop 7 l)))
unfolding trees_of
first-tree [] h = absurd (omega arith)
first-tree (a ∷ []) h = absurd (omega arith)
first-tree (a ∷ b ∷ []) h = absurd (omega arith)
first-tree (a ∷ b ∷ c ∷ []) h = absurd (omega arith)
first-tree (a ∷ b ∷ c ∷ d ∷ []) h = absurd (omega arith)
first-tree (a ∷ b ∷ c ∷ d ∷ e ∷ []) h = absurd (omega arith)
first-tree (a ∷ b ∷ c ∷ d ∷ e ∷ n ∷ []) h = absurd (omega arith)
first-tree (a ∷ b ∷ c ∷ d ∷ e ∷ n ∷ g ∷ ws) h = refl

-- ---- Extents

pub none_first : (t : ℕ) → first_trees t nil ≡ nil
unfolding first_trees
none_first zero = refl
none_first (suc t) = refl

-- The first c trees, then t of the others: the first t + c.
pub in_one : (c t : ℕ) (f : Forest) (e : Extent)
    → extent_with (extent_with e (first_trees c f)) (first_trees t (other_trees c f)) ≡ extent_with e (first_trees (t + c) f)
unfolding extent_with first_trees other_trees lowest_start highest_end
in_one zero t f e = rw (add-zero t)
in_one (suc c) t nil e = rw (none_first t, none_first (t + suc c))
in_one (suc c) t (node k cs rest) e = rw (add-suc t c) (in_one c t rest (extent_with (extent_with e (node k nil nil)) cs))

-- One node more: its span is taken in, and its children stand before its siblings.
pub extent-step : (l : List ℕ) (t : ℕ) (e : Extent) → 7 ≤ length l
    → extent_with (wider e (get_or l 1 0) (get_or l 2 0)) (first_trees (t + low_of (get_or l 5 0)) (trees_of (drop 7 l)))
    ≡ extent_with e (first_trees (suc t) (trees_of l))
unfolding wider extent_with first_trees lowest_start highest_end token_of node_of
extent-step l t e long =
    rw (first-tree l long) (sym (in_one (low_of (get_or l 5 0)) t (trees_of (drop 7 l)) (wider e (get_or l 1 0) (get_or l 2 0))))

one-tree : (k : Token) (cs rest : Forest) → k.start < 2 ^ 29
    → extent_with (record { start = 2 ^ 29 - 1; end = 0 }) (first_trees 1 (node k cs rest)) ≡ first_extent (node k cs rest)
unfolding extent_with first_trees first_extent lowest_start highest_end
one-tree k cs rest small =
    let s : min (2 ^ 29 - 1) k.start ≡ k.start = omega arith in
    let e : max 0 k.end ≡ k.end = omega arith in
    let extent : ℕ → ℕ → Extent = λ s e. record { start = lowest_start s cs; end = highest_end e cs } in
    ap₂ extent s e

-- The extent that holds nothing takes on the first tree's.
pub from_nothing : (l : List ℕ) → extent_with (record { start = 2 ^ 29 - 1; end = 0 }) (first_trees 1 (trees_of l)) ≡ first_extent (trees_of l)
unfolding extent_with first_trees first_extent lowest_start highest_end token_of node_of low_of
from_nothing l = go (ltb (length l) 7) refl
  where
    go : (t : Bool) → ltb (length l) 7 ≡ t → extent_with (record { start = 2 ^ 29 - 1; end = 0 }) (first_trees 1 (trees_of l))
        ≡ first_extent (trees_of l)
    go true e = rw (no-tree l (ltb-true (length l) 7 e))
    go false e =
        rw (first-tree l (ltb-false (length l) 7 e))
        (one-tree (token_in l) (first_trees (low_of (get_or l 5 0)) (trees_of (drop 7 l)))
        (other_trees (low_of (get_or l 5 0)) (trees_of (drop 7 l))) (omega arith))

-- The number that an extent starts from may be taken in before or after the trees.
lowest-min : (a m : ℕ) (f : Forest) → lowest_start (min a m) f ≡ min a (lowest_start m f)
unfolding lowest_start
lowest-min a m nil = refl
lowest-min a m (node k cs rest) =
    let sides : min (min a m) k.start ≡ min a (min m k.start) = omega arith in
    rw (sides, lowest-min a (min m k.start) cs) (lowest-min a (lowest_start (min m k.start) cs) rest)

highest-max : (a m : ℕ) (f : Forest) → highest_end (max a m) f ≡ max a (highest_end m f)
unfolding highest_end
highest-max a m nil = refl
highest-max a m (node k cs rest) =
    let sides : max (max a m) k.end ≡ max a (max m k.end) = omega arith in
    rw (sides, highest-max a (max m k.end) cs) (highest-max a (highest_end (max m k.end) cs) rest)

-- Both numbers of an extent fit a word.
abbrev pub Fits : Extent → Type 0
Fits e = (e.start < 2 ^ 29) × (e.end < 2 ^ 29)

wider-fits : (e : Extent) (b c : ℕ) → Fits e → Fits (wider e b c)
wider-fits e b c h = unfold wider low_of in (omega (arith, h.0), omega (arith, h.1))

fits-none : (t : ℕ) (e : Extent) → Fits e → Fits (extent_with e (first_trees t nil))
fits-none t e h = unfold extent_with lowest_start highest_end in rw (none_first t) h

-- Extents of the trees after the first node of words fit, so those with that node do.
fits-step : (l : List ℕ) → 7 ≤ length l → ((t : ℕ) (e : Extent) → Fits e → Fits (extent_with e (first_trees t (trees_of (drop 7 l)))))
    → (t : ℕ) (e : Extent)
    → Fits e
    → Fits (extent_with e (first_trees t (trees_of l)))
unfolding extent_with first_trees lowest_start highest_end
fits-step l long later zero e h = h
fits-step l long later (suc t) e h =
    subst (λ (x : Extent). Fits x) (extent-step l t e long)
    (later (t + low_of (get_or l 5 0)) (wider e (get_or l 1 0) (get_or l 2 0)) (wider-fits e (get_or l 1 0) (get_or l 2 0) h))

-- The words' spans fit, so the extents of their trees do.
extent-fits : (l : List ℕ) (t : ℕ) (e : Extent) → Fits e → Fits (extent_with e (first_trees t (trees_of l)))
unfolding trees_of
extent-fits [] t e h = fits-none t e h
extent-fits (a ∷ []) t e h = fits-none t e h
extent-fits (a ∷ b ∷ []) t e h = fits-none t e h
extent-fits (a ∷ b ∷ c ∷ []) t e h = fits-none t e h
extent-fits (a ∷ b ∷ c ∷ d ∷ []) t e h = fits-none t e h
extent-fits (a ∷ b ∷ c ∷ d ∷ f ∷ []) t e h = fits-none t e h
extent-fits (a ∷ b ∷ c ∷ d ∷ f ∷ n ∷ []) t e h = fits-none t e h
extent-fits (a ∷ b ∷ c ∷ d ∷ f ∷ n ∷ g ∷ ws) t e h =
    fits-step (a ∷ b ∷ c ∷ d ∷ f ∷ n ∷ g ∷ ws) (omega arith) (extent-fits ws) t e h

pub first_fits : (l : List ℕ) → Fits (first_extent (trees_of l))
first_fits l =
    subst (λ (x : Extent). Fits x) (from_nothing l) (extent-fits l 1 (record { start = 2 ^ 29 - 1; end = 0 }) (omega arith, omega arith))

-- Taking in the first tree's extent is taking in the tree.
taken_in : (k : Token) (cs rest : Forest) (e : Extent) → Fits (first_extent (node k cs rest))
    → wider e (first_extent (node k cs rest)).start (first_extent (node k cs rest)).end ≡ extent_with e (first_trees 1 (node k cs rest))
unfolding wider extent_with first_trees first_extent lowest_start highest_end low_of
taken_in k cs rest e h =
    let starts : lowest_start k.start cs % 2 ^ 29 ≡ lowest_start k.start cs = omega (arith, h.0) in
    let ends : highest_end k.end cs % 2 ^ 29 ≡ highest_end k.end cs = omega (arith, h.1) in
    let extent : ℕ → ℕ → Extent = λ s e. record { start = s; end = e } in
    ap₂ extent (ap (min e.start) starts ∙ sym (lowest-min e.start k.start cs))
    (ap (max e.end) ends ∙ sym (highest-max e.end k.end cs))

pub extent-taken : (l : List ℕ) (e : Extent) → 7 ≤ length l
    → wider e (first_extent (trees_of l)).start (first_extent (trees_of l)).end ≡ extent_with e (first_trees 1 (trees_of l))
extent-taken l e long =
    rw (first-tree l long) (taken_in (token_in l) _ _ e (rw (first-tree l long) at (first_fits l)))
