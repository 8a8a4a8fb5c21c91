-- What the proofs of the passes from the left share: one step of a level, and the parts of a list that a level carries over one after
-- another.
use mathlib.Core.{Path.{◌≡◌, refl, ap, sym, ◌∙◌}, Bool.{Bool, true}}
use Rattle.molang.specs.{Forest.{Token, Forest, nil, node, turned_onto, in_order}, Message.{ok}, Level.{on, into, Level, walk}}
use Rattle.molang.proofs.Forests.{Turns, in_order-turned}

module _ {S : Type 0} (L : Level S) where
  pub walk-on : (s t : S) (k : Token) (cs r : Forest) → L.step s k cs ≡ on t → walk L s (node k cs r) ≡ walk L t r
  unfolding walk
  walk-on s t k cs r e = rw (e, walk) refl

  pub walk-into : (s t u : S) (k : Token) (cs kids r : Forest) → L.step s k cs ≡ into t u → walk L u cs ≡ ok kids
      → walk L s (node k cs r) ≡ walk L (L.resume t k kids) r
  unfolding walk
  walk-into s t u k cs kids r e h = rw (e, walk) (rw h refl)

-- A level that gathers the trees so far in the state `at`, and goes through the children of every node.
pub record Gathers {S : Type 0} (L : Level S) (at : Forest → S) : Type 0 where
  pub enters : (d : Forest) (k c : Token) (cs r : Forest) → L.step (at d) k (node c cs r) ≡ into (at d) (at nil)
  pub resumes : (d : Forest) (k : Token) (kids : Forest) → L.resume (at d) k kids ≡ at (node k kids d)
  pub begins : walk L (at nil) nil ≡ ok nil

-- `next` says what may follow the part of a list that is carried over.
module _ {S : Type 0} (L : Level S) (at : Forest → S) (next : Forest → Bool) where
  -- The part F of a list, before any rest, becomes G, and is gathered.
  abbrev pub Carries : (Forest → Forest) → (Forest → Forest) → Type 0
  Carries F G = (d r : Forest) → next r ≡ true → walk L (at d) (F r) ≡ walk L (at (turned_onto (G nil) d)) r

  -- A leaf is only gathered.
  abbrev pub Passes : Token → Type 0
  Passes k = (d : Forest) → L.step (at d) k nil ≡ on (at (node k nil d))

  pub carry-both : (X X' Y Y' : Forest → Forest) → Carries X X' → Carries Y Y' → Turns X'
      → ((r : Forest) → next r ≡ true → next (Y r) ≡ true)
      → Carries (λ r. X (Y r)) (λ r. X' (Y' r))
  carry-both X X' Y Y' x y t n d r f = x d (Y r) (n r f) ∙ y _ r f ∙ ap (λ (d : Forest). walk L (at d) r) (sym (t (Y' nil) d))

  pub carry-node : Gathers L at → (k : Token) (cs cs' : Forest) → Passes k → walk L (at nil) cs ≡ ok cs' → Carries (node k cs) (node k cs')
  unfolding turned_onto
  carry-node g k nil cs' p e d r f =
      walk-on L (at d) (at (node k nil d)) k nil r (p d)
      ∙ ap (λ (c : Forest). walk L (at (node k c d)) r) (let n : ok nil ≡ ok cs' = sym g.begins ∙ e in cc)
  carry-node g k (node c cs rest) cs' p e d r f =
      walk-into L (at d) (at d) (at nil) k (node c cs rest) cs' r (g.enters d k c cs rest) e
      ∙ ap (λ (s : S). walk L s r) (g.resumes d k cs')

  -- A token that is only gathered, whatever follows it.
  pub carry-token : (k : Token) (X X' : Forest → Forest) → Passes k → Carries X X'
      → Carries (λ r. node k nil (X r)) (λ r. node k nil (X' r))
  unfolding turned_onto
  carry-token k X X' p x d r f = walk-on L (at d) (at (node k nil d)) k nil (X r) (p d) ∙ x (node k nil d) r f

  -- A whole list, where the level ends with what it gathered.
  pub carry-whole : ((d : Forest) → L.finish (at d) ≡ ok (in_order d)) → next nil ≡ true → (F G : Forest → Forest) → Carries F G
      → walk L (at nil) (F nil) ≡ ok (G nil)
  unfolding walk
  carry-whole ends n F G c = c nil nil n ∙ ends _ ∙ ap ok (in_order-turned (G nil))
