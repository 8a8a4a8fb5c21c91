-- Noted classes: what a leaf notes, what a node notes of what it is given, and that a set of classes which is tested against a node's word
-- is tested against every leaf below it (`notes-meet`).
use Prim.Native.Nat.{ℕ, zero, suc, ◌<◌}
use mathlib.Core.Path.{◌≡◌, refl, sym, ap, ap₂, ◌∙◌}
use mathlib.Core.{Bool.{Bool, true, false, ◌||◌, ◌&&◌, not, and-true, and_comm, and-or_distrib_right, not-not}, List.{List}}
use Rattle.molang.specs.{Forest.{Token, Forest, nil, node}, Order.{some_below}, Free.{free}}
use Rattle.ops.{specs.Classes.{bit_at, in_class, shares, meets}, proofs.BitLaws.{some_same, none_below}}
use Rattle.nodes.specs.{Store.{Notes, Noted, RepF, ends, more}, Children.{some_notes}}

-- ---- booleans

not-and : (a b : Bool) → not (a && b) ≡ (not a || not b)
not-and true b = refl
not-and false b = refl

or_swap : (a b c d : Bool) → ((a || b) || (c || d)) ≡ ((a || c) || (b || d))
or_swap true b true d = refl
or_swap true b false d = refl
or_swap false true true d = refl
or_swap false true false d = refl
or_swap false false true d = refl
or_swap false false false d = refl

-- ---- a forest of one tree and more

module _ (P : ℕ → Bool) where
  pub free_one : (k c : Token) (cs r : Forest) → free P (node k (node c cs r) nil) ≡ free P (node c cs r)
  free_one k c cs r = unfold free in and-true (free P (node c cs r))

  pub free-split : (k : Token) (cs rest : Forest) → free P (node k cs rest) ≡ (free P (node k cs nil) && free P rest)
  unfolding free
  free-split k nil rest = ap (λ (a : Bool). a && free P rest) (sym (and-true (not (P k.op))))
  free-split k (node c cs r) rest = ap (λ (a : Bool). a && free P rest) (sym (and-true (free P (node c cs r))))

-- ---- what a word notes

pub notes-leaf : {w : ℕ} {k : Token} → ((i : ℕ) → i < 32 → bit_at w i ≡ in_class i k.op) → Noted w k nil
unfolding free
notes-leaf {w} {k} h =
    record { bits = λ i e. h i e ∙ sym (ap not (and-true (not (in_class i k.op))) ∙ not-not (in_class i k.op)) }

-- a node notes what its children note, and nothing of itself
pub notes-over : {w : ℕ} (q : Token) {c : Token} {cs r : Forest} → Notes w (node c cs r) → Noted w q (node c cs r)
notes-over q {c} {cs} {r} n = record { bits = λ i e. n.bits i e ∙ ap not (sym (free_one (in_class i) q c cs r)) }

pub notes-below : {w : ℕ} {q c : Token} {cs r : Forest} → Noted w q (node c cs r) → Notes w (node c cs r)
notes-below {w} {q} {c} {cs} {r} n = record { bits = λ i e. n.bits i e ∙ ap not (free_one (in_class i) q c cs r) }

-- the classes of a tree and of the trees after it
pub notes-more : {v w x : ℕ} {k : Token} {cs rest : Forest} → Noted v k cs → Notes w rest
    → ((i : ℕ) → bit_at x i ≡ (bit_at v i || bit_at w i)) → Notes x (node k cs rest)
notes-more {v} {w} {x} {k} {cs} {rest} a b h =
    record {
      bits = λ i e.
          h i ∙ ap₂ (λ (p : Bool) (q : Bool). p || q) (a.bits i e) (b.bits i e)
          ∙ sym (ap not (free-split (in_class i) k cs rest) ∙ not-and (free (in_class i) (node k cs nil)) (free (in_class i) rest));
    }

-- ---- the classes of a list of slots

-- what the roots of a forest note are the classes of its leaves
pub roots-note : {W X : List ℕ} {lo hi : ℕ} {bs : List ℕ} {F : Forest} → RepF W X bs lo hi F → (i : ℕ) → i < 32
    → some_notes W bs i ≡ not (free (in_class i) F)
unfolding some_notes free
roots-note (ends e) i h = refl
roots-note {W} (more {b = b} {t = t} {k = k} {f = f} a c d z p tk n ch ks r) i h =
    ap₂ (λ (x : Bool) (y : Bool). x || y) (n.bits i h) (roots-note r i h)
    ∙ sym (ap not (free-split (in_class i) t k f) ∙ not-and (free (in_class i) (node t k nil)) (free (in_class i) f))

-- ---- a test of classes

some_or : (n : ℕ) (f g : ℕ → Bool) → some_below n (λ i. f i || g i) ≡ (some_below n f || some_below n g)
unfolding some_below
some_or zero f g = refl
some_or (suc n) f g =
    ap (λ (x : Bool). (f n || g n) || x) (some_or n f g) ∙ or_swap (f n) (g n) (some_below n f) (some_below n g)

module _ (c : ℕ) where
  -- the classes of c that some leaf of the forest is of
  hits : Forest → Bool
  hits f = some_below 32 (λ i. not (free (in_class i) f) && bit_at c i)

  hits-nil : hits nil ≡ false
  hits-nil = unfold hits free in none_below 32 (λ i. false) (λ i h. refl)

  hits-leaf : (k : Token) (rest : Forest) → hits (node k nil rest) ≡ (meets c k.op || hits rest)
  unfolding hits free meets
  hits-leaf k rest =
      some_same 32 (λ i. not (not (in_class i k.op) && free (in_class i) rest) && bit_at c i)
      (λ i. (bit_at c i && in_class i k.op) || (not (free (in_class i) rest) && bit_at c i))
      (λ i h.
      ap (λ (x : Bool). x && bit_at c i)
      (not-and (not (in_class i k.op)) (free (in_class i) rest)
      ∙ ap (λ (x : Bool). x || not (free (in_class i) rest)) (not-not (in_class i k.op)))
      ∙ and-or_distrib_right (in_class i k.op) (not (free (in_class i) rest)) (bit_at c i)
      ∙ ap (λ (x : Bool). x || (not (free (in_class i) rest) && bit_at c i)) (and_comm (in_class i k.op) (bit_at c i)))
      ∙ some_or 32 (λ i. bit_at c i && in_class i k.op) (λ i. not (free (in_class i) rest) && bit_at c i)

  hits-tree : (k d : Token) (ds r rest : Forest) → hits (node k (node d ds r) rest) ≡ (hits (node d ds r) || hits rest)
  unfolding hits free
  hits-tree k d ds r rest =
      some_same 32 (λ i. not (free (in_class i) (node d ds r) && free (in_class i) rest) && bit_at c i)
      (λ i. (not (free (in_class i) (node d ds r)) && bit_at c i) || (not (free (in_class i) rest) && bit_at c i))
      (λ i h.
      ap (λ (x : Bool). x && bit_at c i) (not-and (free (in_class i) (node d ds r)) (free (in_class i) rest))
      ∙ and-or_distrib_right (not (free (in_class i) (node d ds r))) (not (free (in_class i) rest)) (bit_at c i))
      ∙ some_or 32 (λ i. not (free (in_class i) (node d ds r)) && bit_at c i) (λ i. not (free (in_class i) rest) && bit_at c i)

  hits-free : (P : ℕ → Bool) → ((n : ℕ) → meets c n ≡ P n) → (f : Forest) → hits f ≡ not (free P f)
  unfolding free
  hits-free P h nil = hits-nil
  hits-free P h (node k nil rest) =
      hits-leaf k rest
      ∙ ap₂ (λ (x : Bool) (y : Bool). x || y) (h k.op ∙ sym (not-not (P k.op))) (hits-free P h rest)
      ∙ sym (not-and (not (P k.op)) (free P rest))
  hits-free P h (node k (node d ds r) rest) =
      hits-tree k d ds r rest
      ∙ ap₂ (λ (x : Bool) (y : Bool). x || y) (hits-free P h (node d ds r)) (hits-free P h rest)
      ∙ sym (not-and (free P (node d ds r)) (free P rest))

-- A set of classes c that stands for the operators P shares a class with what a forest notes exactly where some leaf of the forest passes
-- P.
pub notes-meet : {w : ℕ} {f : Forest} (c : ℕ) (P : ℕ → Bool) → ((n : ℕ) → meets c n ≡ P n) → Notes w f
    → shares w c ≡ not (free P f)
unfolding shares hits
notes-meet {w} {f} c P h n =
    some_same 32 (λ i. bit_at w i && bit_at c i) (λ i. not (free (in_class i) f) && bit_at c i)
    (λ i e. ap (λ (x : Bool). x && bit_at c i) (n.bits i e))
    ∙ hits-free c P h f
