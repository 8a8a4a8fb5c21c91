-- Trees that are written one after the other: the last first in the words, each in an interval of its own.
use Prim.Native.Nat.{ℕ, ◌+◌, ◌≤◌, ◌<◌}
use mathlib.Core.{Path.{◌≡◌, refl}, Logic.{inr, ⊎_elim}, List.{List, [], ◌∷◌}}
use native.Mathlib.{Omega.{arith}, Nat.{le_refl}}
use lib.ListN.{length, set}
use Rattle.molang.specs.Forest.{Token, Forest, nil, node, in_order}
use Rattle.nodes.{specs.Store.{wd, slot_start, RepT, begins, put, InArray, Kept}, proofs.Runs.{set_same, set_other, seg_b-keep}}
use Rattle.nodes.{proofs.Store.{tree-below, back-raise}, proofs.Keeping.{tree-beside, back-beside}, proofs.Trees.{gathered-array}}
use Rattle.sections.specs.Flat.{Written}

pub written_none : {W X : List ℕ} {base : ℕ} (lo : ℕ) → Written W X base lo lo nil 0
written_none lo = record { ds = []; done = begins (le_refl lo); run = tt; wrote = refl }

pub written-raise : {W X : List ℕ} {base lo hi hi' r : ℕ} {d : Forest} → hi ≤ hi' → Written W X base lo hi d r → Written W X base lo hi' d r
written-raise h v = record { ds = v.ds; done = back-raise h v.done; run = v.run; wrote = v.wrote }

-- a change of words above the slots and beside those that are written
pub written-keep : (W W' : List ℕ) {X : List ℕ} {base lo hi r : ℕ} {d : Forest} → ((j : ℕ) → j < slot_start hi → wd W' j ≡ wd W j)
    → ((j : ℕ) → base ≤ j → j < base + r → wd W' j ≡ wd W j)
    → Written W X base lo hi d r → Written W' X base lo hi d r
written-keep W W' {base = base} {hi = hi} low array v =
    record {
      ds = v.ds;
      done = back-beside W W' [] 0 0 (slot_start hi) (λ j f h. low j h) (le_refl (slot_start hi)) (inr (omega arith)) v.done;
      run = seg_b-keep W W' base v.ds (λ j a b. array j a (omega (arith, v.wrote))) v.run;
      wrote = v.wrote;
    }

-- one tree more, whose slot is in the next word
pub written-put : {W X : List ℕ} {base lo l m q r : ℕ} {d cs : Forest} {t : Token} → Written W X base lo l d r → RepT W X q l m t cs
    → wd W (base + r) ≡ q
    → Written W X base lo m (node t cs d) (r + 1)
written-put {base = base} {m = m} {q = q} {r = r} v t h =
    let at : base + length v.ds ≡ base + r = omega (arith, v.wrote) in
    record { ds = q ∷ v.ds; done = put v.done t (le_refl m); run = (rw at h, v.run); wrote = omega (arith, v.wrote) }

-- the same, where a store has put it there
pub written-more : (W W' : List ℕ) {X : List ℕ} {base lo l m q w : ℕ} {d cs : Forest} {t : Token} → W' ≡ set W (base + w) q
    → base + w < length W → slot_start m ≤ base
    → Written W X base lo l d w → RepT W X q l m t cs → Written W' X base lo m (node t cs d) (w + 1)
written-more W W' {base = base} {q = q} {w = w} e room below v t =
    let other = set_other W W' (base + w) q e in
    let low = t.low in let high = tree-below t in
    written-put (written-keep W W' (λ j h. other j (omega arith)) (λ j a b. other j (omega arith)) v)
    (tree-beside W W' [] 0 0 base (λ j f h. other j (omega arith)) below (inr (omega arith)) t) (set_same W W' (base + w) q e room)

pub store_kept : (W W' X : List ℕ) (base lo hi w q : ℕ) → W' ≡ set W (base + w) q → Kept W W' X lo hi base (base + w + 1)
store_kept W W' X base lo hi w q e j f o = set_other W W' (base + w) q e j (⊎_elim (λ h. omega arith) (λ h. omega arith) o)

-- all that is written is an array in order
pub written-array : {W X : List ℕ} {base lo hi r : ℕ} {d : Forest} → Written W X base lo hi d r → InArray W X base r lo hi (in_order d)
written-array v = rw v.wrote (gathered-array v.done v.run)
