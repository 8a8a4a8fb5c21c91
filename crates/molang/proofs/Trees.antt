-- Facts that the laws of the passes share: cases on a test, which leaves stand in a forest, and what turning a gathered list round keeps.
use Prim.Native.Nat.{ℕ, ◌≤◌}
use mathlib.Core.{Path.{◌≡◌, refl}, Bool.{Bool, true, false, ◌&&◌, not, and-eq-true_iff, true≢false}, Option.{Option, none, some}}
use native.Mathlib.Omega.{arith}
use borrow.Author.Tests.{not-true}
use Rattle.molang.specs.{Forest.{Token, Forest, nil, node, turned_onto, count, size}, Free.{is_nil, free, clear}}

-- What holds of both cases of a test holds of the test's outcome.
pub decided : {A : Type 0} (Q : A → Type 0) (b : Bool) (x y : A) → (b ≡ true → Q x) → (b ≡ false → Q y)
    → Q (elim b [ true ↦ x | false ↦ y ])
decided Q true x y p q = p refl
decided Q false x y p q = q refl

pub either : {A : Type 0} (Q : A → Type 0) (b : Bool) (x y : A) → Q x → Q y → Q (elim b [ true ↦ x | false ↦ y ])
either Q b x y p q = decided Q b x y (λ e. p) (λ e. q)

pub maybe : {A B : Type 0} (Q : A → Type 0) (o : Option B) (y : B → A) (x : A) → ((b : B) → Q (y b)) → Q x
    → Q (elim o [ some b ↦ y b | none ↦ x ])
maybe Q none y x p q = q
maybe Q (some b) y x p q = p b

pub some-none : {A B : Type 0} {a : A} → some a ≡ none → B
some-none e = let z : ◌≡◌ {A = ℕ} 0 1 = cc in absurd (omega arith)

pub count-size : (f : Forest) → count f ≤ size f
unfolding count size
count-size nil = omega arith
count-size (node k cs rest) = omega (arith, count-size rest)

pub both : (a b : Bool) → (a && b) ≡ true → (a ≡ true) × (b ≡ true)
both a b h = (and-eq-true_iff a b).0 h

pub and-true-true : (a b : Bool) → a ≡ true → b ≡ true → (a && b) ≡ true
and-true-true a b p q = (and-eq-true_iff a b).1 (p, q)

module _ (P : ℕ → Bool) where
  pub free-leaf : (k : Token) (rest : Forest) → free P (node k nil rest) ≡ true → (P k.op ≡ false) × (free P rest ≡ true)
  free-leaf k rest h = unfold free in let e = both (not (P k.op)) (free P rest) h in (not-true (P k.op) e.0, e.1)

  pub free-tree : (k c : Token) (cs r rest : Forest) → free P (node k (node c cs r) rest) ≡ true
      → (free P (node c cs r) ≡ true) × (free P rest ≡ true)
  free-tree k c cs r rest h = unfold free in both (free P (node c cs r)) (free P rest) h

  pub clear-leaf : (k : Token) (rest : Forest) → clear P (node k nil rest) ≡ true → (P k.op ≡ false) × (clear P rest ≡ true)
  clear-leaf k rest h = unfold clear in let e = both (not (P k.op)) (clear P rest) h in (not-true (P k.op) e.0, e.1)

  pub leaf-clear : (k : Token) (rest : Forest) → P k.op ≡ false → clear P rest ≡ true → clear P (node k nil rest) ≡ true
  leaf-clear k rest e h = unfold clear in rw e h

  pub free-clear : (f : Forest) → free P f ≡ true → clear P f ≡ true
  unfolding clear
  free-clear nil h = refl
  free-clear (node k nil rest) h =
      let e = free-leaf k rest h in
      leaf-clear k rest e.0 (free-clear rest e.1)
  free-clear (node k (node c cs r) rest) h = free-clear rest (free-tree k c cs r rest h).1

  pub clear-rest : (k : Token) (cs rest : Forest) → clear P (node k cs rest) ≡ true → clear P rest ≡ true
  unfolding clear
  clear-rest k nil rest h = (clear-leaf k rest h).1
  clear-rest k (node c cs r) rest h = h

  pub clear-turned : (d f : Forest) → clear P d ≡ true → clear P f ≡ true → clear P (turned_onto d f) ≡ true
  unfolding turned_onto clear
  clear-turned nil f hd hf = hf
  clear-turned (node k nil d) f hd hf =
      let e = clear-leaf k d hd in
      clear-turned d (node k nil f) e.1 (leaf-clear k f e.0 hf)
  clear-turned (node k (node c cs r) d) f hd hf = clear-turned d (node k (node c cs r) f) hd hf

  pub clear-tree : (k : Token) (kids rest : Forest) → is_nil kids ≡ false → clear P rest ≡ true → clear P (node k kids rest) ≡ true
  unfolding clear is_nil
  clear-tree k nil rest e h = absurd (true≢false e)
  clear-tree k (node c cs r) rest e h = h
