-- What 'no masks' (NoMasks) needs of a level from the left, said once: a level that passes over what is none of its tokens leaves a forest
-- as it is where none of its tokens stands as a leaf. Each level is an instance, in the file of its name.
use Prim.Native.Nat.{ℕ}
use mathlib.Core.{Path.{◌≡◌, refl}, Bool.{Bool, true, false}}
use Rattle.molang.specs.{Forest.{Token, Forest, nil, node, turned_onto, in_order}, Message.{ok}, Level.{on, into, Level, walk, through}}
use Rattle.molang.specs.Free.{free, clear}
use Rattle.molang.proofs.Trees.{free-leaf, free-tree, leaf-clear, free-clear}

-- How a level passes over what is none of its tokens: with the trees d so far, the last first, and nothing waiting (the state `idle d`), it
-- keeps a leaf, enters a node with children and takes it back.
pub record Inert {S : Type 0} (L : Level S) (P : ℕ → Bool) (idle : Forest → S) : Type 0 where
  pub begins : (f : Forest) → clear P f ≡ true → L.start f ≡ idle nil
  pub keeps : (d : Forest) (k : Token) → P k.op ≡ false → L.step (idle d) k nil ≡ on (idle (node k nil d))
  pub enters : (d : Forest) (k c : Token) (cs r : Forest) → L.step (idle d) k (node c cs r) ≡ into (idle d) (L.start (node c cs r))
  pub takes_back : (d : Forest) (k : Token) (kids : Forest) → L.resume (idle d) k kids ≡ idle (node k kids d)
  pub ends : (d : Forest) → clear P d ≡ true → L.finish (idle d) ≡ ok (in_order d)

module _ {S : Type 0} (L : Level S) (P : ℕ → Bool) {idle : Forest → S} (I : Inert L P idle) where
  pub walk-free : (d f : Forest) → clear P d ≡ true → free P f ≡ true → walk L (idle d) f ≡ ok (turned_onto d f)
  unfolding walk turned_onto in_order clear
  walk-free d nil hd h = I.ends d hd
  walk-free d (node k nil rest) hd h =
      let e = free-leaf P k rest h in
      rw (I.keeps d k e.0, walk) (walk-free (node k nil d) rest (leaf-clear P k d e.0 hd) e.1)
  walk-free d (node k (node c cs r) rest) hd h =
      let e = free-tree P k c cs r rest h in
      rw (I.enters d k c cs r, walk)
      (rw (I.begins (node c cs r) (free-clear P (node c cs r) e.0))
      (rw (walk-free nil (node c cs r) refl e.0) (rw (I.takes_back d k (node c cs r))
      (walk-free (node k (node c cs r) d) rest hd e.1))))

  pub through-free : (f : Forest) → free P f ≡ true → through L f ≡ ok f
  through-free f h = unfold through turned_onto clear in rw (I.begins f (free-clear P f h)) (walk-free nil f refl h)
