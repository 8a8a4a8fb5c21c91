-- Words laid down in a buffer, read again: those that were laid, and all others; and one store after them, also of a row word by word.
-- Assumes nothing.
use Prim.Native.Nat.{ℕ, zero, suc, ◌+◌, ◌≤◌, ◌<◌}
use mathlib.Core.{Path.{◌≡◌, refl, ap, ◌∙◌}, Logic.{◌⊎◌, inl, inr}, List.{List, [], ◌∷◌, ◌++◌}}
use native.Mathlib.{Numerals.{add-one}, Omega.{arith}}
use lib.ListN.{length, take, get_or, set, length-set, length-append}
use lib.Seq.{sets, length-sets, get_or-set_same, get_or-set_other, take-suc, length-take-le}
use Rattle.words.specs.Records.{laid_at}
use Rattle.words.proofs.RecordLaws.{laid-sets}

-- ---- stores one after another

sets-out : (ws l : List ℕ) (at j : ℕ) → (j < at) ⊎ (at + length ws ≤ j) → get_or (sets l at ws) j 0 ≡ get_or l j 0
sets-out [] l at j o = refl
sets-out (w ∷ ws) l at j (inl o) = sets-out ws (set l at w) (suc at) j (inl (omega arith)) ∙ get_or-set_other l at j w 0 (omega arith)
sets-out (w ∷ ws) l at j (inr o) = sets-out ws (set l at w) (suc at) j (inr (omega arith)) ∙ get_or-set_other l at j w 0 (omega arith)

sets-in : (ws l : List ℕ) (at i : ℕ) → at + length ws ≤ length l → i < length ws → get_or (sets l at ws) (at + i) 0 ≡ get_or ws i 0
sets-in [] l at i room h = absurd (omega arith)
sets-in (w ∷ ws) l at zero room h =
    let e : at + 0 ≡ at = omega arith in
    rw e (sets-out ws (set l at w) (suc at) at (inl (omega arith)) ∙ get_or-set_same l at w 0 (omega arith))
sets-in (w ∷ ws) l at (suc i) room h =
    let e : at + suc i ≡ suc at + i = omega arith in
    rw e (sets-in ws (set l at w) (suc at) i (omega (arith, length-set l at w)) (omega arith))

sets_more : (ws l : List ℕ) (at v : ℕ) → set (sets l at ws) (at + length ws) v ≡ sets l at (ws ++ (v ∷ []))
sets_more [] l at v = let e : at + 0 ≡ at = omega arith in rw e
sets_more (w ∷ ws) l at v =
    let e : at + suc (length ws) ≡ suc at + length ws = omega arith in
    rw e (sets_more ws (set l at w) (suc at) v)

-- ---- the same of words that were laid

module _ (ws l : List ℕ) (at : ℕ) (room : at + length ws ≤ length l) where
  pub laid-long : length (laid_at at ws l) ≡ length l
  laid-long = rw (← laid-sets ws l at room) (length-sets l at ws)

  -- the words that were laid
  pub laid_in : (i : ℕ) → i < length ws → get_or (laid_at at ws l) (at + i) 0 ≡ get_or ws i 0
  laid_in i h = rw (← laid-sets ws l at room) (sets-in ws l at i room h)

  -- all other words
  pub laid_out : (j : ℕ) → (j < at) ⊎ (at + length ws ≤ j) → get_or (laid_at at ws l) j 0 ≡ get_or l j 0
  laid_out j o = rw (← laid-sets ws l at room) (sets-out ws l at j o)

-- One word more.
pub laid_more : (ws l : List ℕ) (at v : ℕ) → at + length ws < length l
    → set (laid_at at ws l) (at + length ws) v ≡ laid_at at (ws ++ (v ∷ [])) l
laid_more ws l at v room =
    rw (← laid-sets ws l at (omega arith))
    (sets_more ws l at v ∙ laid-sets (ws ++ (v ∷ [])) l at (omega (arith, length-append ws (v ∷ []))))

-- The next word of a row that is laid word by word.
pub laid_next : (l₀ l : List ℕ) (at : ℕ) (ws : List ℕ) (i : ℕ) → at + length ws ≤ length l₀ → i < length ws → l ≡ laid_at at (take i ws) l₀
    → set l (at + i) (get_or ws i 0) ≡ laid_at at (take (i + 1) ws) l₀
laid_next l₀ l at ws i room h e =
    let long : length (take i ws) ≡ i = length-take-le i ws (omega arith) in
    let more : take (i + 1) ws ≡ take i ws ++ (get_or ws i 0 ∷ []) = ap (λ (n : ℕ). take n ws) (add-one i) ∙ take-suc ws i 0 h in
    rw (e, more) (rw long at (laid_more (take i ws) l₀ at (get_or ws i 0) (omega arith)))
