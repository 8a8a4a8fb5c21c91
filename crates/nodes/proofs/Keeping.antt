-- THE FRAME LAWS: a function that works on one list changes only the slots of the list's interval that are none of its ancestors', and
-- words of the stack from some index on. What stands beside the interval, the ancestors' own slots and the stack below that index are as
-- they were.
use Prim.Native.Nat.{ℕ, ◌+◌, ◌-◌, ◌≤◌, ◌<◌}
use mathlib.Core.{Path.{◌≡◌, ◌∙◌}, Logic.{◌⊎◌, inl, inr, ⊎_elim}, List.{List, ◌∷◌}}
use native.Mathlib.{Omega.{arith}, Decide.{dec_lt}}
use lib.ListN.{length}
use Rattle.molang.specs.Forest.{Token, Forest}
use Rattle.nodes.specs.declared.stored.StoredWords.{StoredWords}
use Rattle.nodes.specs.Store.{wd, slot_words, first_field, next_field, classes_field, slot_start, slot_end, Seg, Out, OffNext, RepF, ends}
use Rattle.nodes.specs.{Store.{more, RepT, RepB, Free, Kept}, Slots.{Laid}, Children.{Given}}
use Rattle.nodes.proofs.Store.{reserve-pos, own_out, rep-le, rep-keep, tree-keep, back_keep}

-- ---- words that are none of the free slots

pub free-above : (X : List ℕ) (lo hi j : ℕ) → slot_start hi ≤ j → Free X lo hi j
free-above X lo hi j h s o a b c d = omega arith

pub free-beside : (X : List ℕ) (lo hi s o : ℕ) → o < slot_words → (s < lo) ⊎ (hi ≤ s) → Free X lo hi (slot_start s + o)
free-beside X lo hi s o h (inl e) s' o' a b c d = omega arith
free-beside X lo hi s o h (inr e) s' o' a b c d = omega arith

pub free_own : (q : ℕ) (X : List ℕ) (lo hi o : ℕ) → o < slot_words → Free (q ∷ X) lo hi (slot_start q + o)
free_own q X lo hi o h s o' a b c d = omega (arith, d.0)

-- the free slots of a part of the interval, below one ancestor more
pub free-inner : (q : ℕ) (X : List ℕ) (lo hi l m j : ℕ) → lo ≤ l → m ≤ hi → Free X lo hi j → Free (q ∷ X) l m j
free-inner q X lo hi l m j low high f s o a b c d = f s o (omega arith) (omega arith) c d.1

pub free_part : (X : List ℕ) (lo hi l m j : ℕ) → lo ≤ l → m ≤ hi → Free X lo hi j → Free X l m j
free_part X lo hi l m j low high f s o a b c d = f s o (omega arith) (omega arith) c d

-- ---- one change after another, and of a part

pub kept_then : (W W' W'' X : List ℕ) (lo hi a b : ℕ) → Kept W W' X lo hi a b → Kept W' W'' X lo hi a b → Kept W W'' X lo hi a b
kept_then W W' W'' X lo hi a b f g j h o = g j h o ∙ f j h o

pub kept-part : (W W' X : List ℕ) (lo hi l m a b a' b' : ℕ) → lo ≤ l → m ≤ hi → a' ≤ a → b ≤ b' → Kept W W' X l m a b
    → Kept W W' X lo hi a' b'
kept-part W W' X lo hi l m a b a' b' low high low' high' f j h o =
    f j (free_part X lo hi l m j low high h) (⊎_elim (λ x. inl (omega arith)) (λ x. inr (omega arith)) o)

-- ---- what stays, of a change that keeps all words below `top` but the free slots

module _ (W W' X : List ℕ) (lo hi top : ℕ) (same : (j : ℕ) → Free X lo hi j → j < top → wd W' j ≡ wd W j) where
  slot-beside : (a b s o : ℕ) → a ≤ s → s < b → o < slot_words → slot_start b ≤ top → (b ≤ lo) ⊎ (hi ≤ a)
      → wd W' (slot_start s + o) ≡ wd W (slot_start s + o)
  slot-beside a b s o x y z h e =
      same (slot_start s + o) (free-beside X lo hi s o z (⊎_elim (λ u. inl (omega arith)) (λ u. inr (omega arith)) e)) (omega arith)

  -- what stands beside the interval
  pub rep-beside : {Y : List ℕ} {a b : ℕ} {cs : List ℕ} {f : Forest} → slot_start b ≤ top → (b ≤ lo) ⊎ (hi ≤ a) → RepF W Y cs a b f
      → RepF W' Y cs a b f
  rep-beside {a = a} {b} h e r = rep-keep W W' (λ s o x y z p n. slot-beside a b s o x y z h e) r

  pub tree-beside : {Y : List ℕ} {b l m : ℕ} {t : Token} {k : Forest} → slot_start m ≤ top → (m ≤ lo) ⊎ (hi ≤ l) → RepT W Y b l m t k
      → RepT W' Y b l m t k
  tree-beside {l = l} {m} h e v = tree-keep W W' (λ s o x y z p n. slot-beside l m s o x y z h e) v

  pub back-beside : {Y : List ℕ} {a b : ℕ} {ds : List ℕ} {d : Forest} → slot_start b ≤ top → (b ≤ lo) ⊎ (hi ≤ a) → RepB W Y ds a b d
      → RepB W' Y ds a b d
  back-beside {a = a} {b} h e r = back_keep W W' (λ s o x y z p n. slot-beside a b s o x y z h e) r

-- ---- what the functions keep

pub roots-off : {W X : List ℕ} {lo hi : ℕ} {bs : List ℕ} {F : Forest} (j : ℕ) → RepF W X bs lo hi F → Free X lo hi j → OffNext bs j
roots-off j (ends e) f = tt
roots-off {X = X} {lo} {hi} j (more {b = b} {m = m} {t = t} {k = k} a c d z p tk n ch ks r) f =
    let g = rep-le r in
    let pos = reserve-pos t k in (
      f b next_field (omega arith) (omega arith) (omega arith) (own_out b t k X p),
      roots-off j r
          (free_part X lo hi m hi j (omega arith) (omega arith) f),
    )

pub give_kept : {W W' X : List ℕ} {q from n lo hi : ℕ} {bs : List ℕ} {f : Forest} → Given W q from n W' → Seg W from bs → length bs ≡ n
    → RepF W (q ∷ X) bs lo hi f
    → lo ≤ q → q < hi → Out q X → (j : ℕ) → Free X lo hi j → wd W' j ≡ wd W j
give_kept {X = X} {q = q} {lo = lo} {hi = hi} {bs = bs} w g e r low high out j f =
    w.same bs g e j (f q first_field low high (omega arith) out) (f q classes_field low high (omega arith) out)
    (roots-off j r (free-inner q X lo hi lo hi j (omega arith) (omega arith) f))

pub laid_kept : {W W' : List ℕ} {s n : ℕ} {k : StoredWords} (X : List ℕ) (lo hi : ℕ) → Laid W s k n W' → lo ≤ s → s < hi → Out s X
    → (j : ℕ) → Free X lo hi j → wd W' j ≡ wd W j
laid_kept {W} {W'} {s} X lo hi w low high out j f =
    elim (dec_lt j (slot_start s)) [
      | yes h ↦ w.same j (inl h)
      | no h ↦
          elim (dec_lt j (slot_end s)) [
            | yes h' ↦ absurd (f s (j - slot_start s) low high (omega arith) out (omega arith))
            | no h' ↦ w.same j (inr (omega arith))
          ]
    ]
