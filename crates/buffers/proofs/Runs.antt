-- Runs of words: how they are put together, and that a run is a part of the list.
use Prim.Native.Nat.{ℕ, zero, suc, ◌+◌, ◌≤◌, ◌<◌}
use mathlib.Core.{Path.{◌≡◌, refl}, List.{List, [], ◌∷◌, ◌++◌}}
use native.Mathlib.{Omega.{arith}, Nat.{add-zero}}
use lib.{ListN.{length, get_or, take, drop}, Seq.{drop-cons}}
use Rattle.nodes.specs.Store.{wd, Seg}

pub seg-append : (W : List ℕ) (at : ℕ) (cs ds : List ℕ) → Seg W at cs → Seg W (at + length cs) ds → Seg W at (cs ++ ds)
seg-append W at [] ds p q = rw add-zero at q
seg-append W at (c ∷ cs) ds p q =
    let e : at + suc (length cs) ≡ at + 1 + length cs = omega arith in
    (p.0, seg-append W (at + 1) cs ds p.1 (rw e at q))

pub seg-of-words : (W : List ℕ) (at : ℕ) (cs : List ℕ) → ((i : ℕ) → i < length cs → wd W (at + i) ≡ get_or cs i 0) → Seg W at cs
seg-of-words W at [] h = tt
seg-of-words W at (c ∷ cs) h =
    let next : (i : ℕ) → i < length cs → wd W (at + 1 + i) ≡ get_or cs i 0
    = λ i b. let e : at + 1 + i ≡ at + suc i = omega arith in rw e (h (suc i) (omega arith)) in
    (rw add-zero at (h zero (omega arith)), seg-of-words W (at + 1) cs next)

-- A run that lies within the words is that part of them.
pub seg-part : (W : List ℕ) (at : ℕ) (cs : List ℕ) → at + length cs ≤ length W → Seg W at cs → take (length cs) (drop at W) ≡ cs
seg-part W at [] h p = refl
seg-part W at (c ∷ cs) h p =
    let e : at + 1 ≡ suc at = omega arith in
    let later : take (length cs) (drop (suc at) W) ≡ cs = rw e at (seg-part W (at + 1) cs (omega arith) p.1) in
    rw (drop-cons W at 0 (omega arith)) (rw (p.0, later) refl)
