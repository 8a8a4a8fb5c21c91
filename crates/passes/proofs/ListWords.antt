-- The words of a list under work as a slice: they are the roots of its forest, each a slot below the stack.
use Prim.Native.Nat.{ℕ, zero, suc, ◌+◌, ◌-◌, ◌≤◌, ◌<◌}
use mathlib.Core.{Path.{◌≡◌, refl, ap}, List.{List, [], ◌∷◌}}
use native.Mathlib.Omega.{arith}
use lib.ListN.{length, take, drop, get_or}
use Rattle.std.{specs.List.{between}, proofs.Common.{add-one, drop-cons}}
use Rattle.molang.specs.Forest.{Forest}
use Rattle.nodes.{specs.Store.{wd, Seg, RepF, ends, more, InArray}, proofs.Store.{rep-le, reserve-pos}}

seg-words : (W : List ℕ) (at : ℕ) (bs : List ℕ) → Seg W at bs → at + length bs ≤ length W → take (length bs) (drop at W) ≡ bs
seg-words W at [] s h = refl
seg-words W at (b ∷ bs) s h =
    let e : drop at W ≡ wd W at ∷ drop (at + 1) W = rw add-one (drop-cons W at 0 (omega arith)) in
    rw (e, s.0) (ap (λ (xs : List ℕ). b ∷ xs) (seg-words W (at + 1) bs s.1 (omega arith)))

root-below : {W X bs : List ℕ} {lo hi : ℕ} {f : Forest} → RepF W X bs lo hi f → (k d : ℕ) → k < length bs → get_or bs k d < hi
root-below (ends h) k d l = absurd (omega arith)
root-below (more {t = t} {k = j} a c high pos out token noted chain kids r) zero d l = omega (arith, reserve-pos t j, rep-le r)
root-below (more a c high pos out token noted chain kids r) (suc k) d l = root-below r k d (omega arith)

module _ {W X : List ℕ} {at n lo hi : ℕ} {f : Forest} (a : InArray W X at n lo hi f) (end : ℕ) (e : end ≡ at + n) (h : end ≤ length W) where
  -- the slice is the list's roots
  pub array-words : between at end W ≡ a.bs
  array-words =
      let n' : end - at ≡ length a.bs = omega (arith, a.count) in
      rw n' (seg-words W at a.bs a.seg (omega (arith, a.count)))

  -- an item of the slice is a slot of the list
  pub array-below : (k x : ℕ) → k < length (between at end W) → x ≡ get_or (between at end W) k x → x < hi
  array-below k x l s =
      let w = array-words in
      let under : get_or a.bs k x < hi = root-below a.rep k x (rw w at l) in
      let same : x ≡ get_or a.bs k x = rw w at s in
      omega arith
