-- Laws on lists of trees that the definition's passes use: turning round, and putting one list before another (`followed_by`, a definition
-- of specs/Matching that is passed on from here).
use Prim.Native.Nat.{◌+◌}
use mathlib.Core.Path.{◌≡◌, refl, ap, ◌∙◌}
use native.Mathlib.Omega.{arith}
use Rattle.molang.specs.Forest.{Token, Forest, nil, node, turned_onto, in_order, count, size}
unfoldable pub use Rattle.molang.specs.Matching.{followed_by}

pub followed_by-nil : (f : Forest) → followed_by f nil ≡ f
unfolding followed_by
followed_by-nil nil = refl
followed_by-nil (node k cs f) = ap (node k cs) (followed_by-nil f)

pub followed-twice : (f g h : Forest) → followed_by (followed_by f g) h ≡ followed_by f (followed_by g h)
unfolding followed_by
followed-twice nil g h = refl
followed-twice (node k cs f) g h = ap (node k cs) (followed-twice f g h)

pub turned-followed : (d g f : Forest) → turned_onto d (followed_by g f) ≡ followed_by (turned_onto d g) f
unfolding turned_onto followed_by
turned-followed nil g f = refl
turned-followed (node k cs d) g f = turned-followed d (node k cs g) f

pub followed-turned : (e d f : Forest) → turned_onto (followed_by e d) f ≡ turned_onto d (turned_onto e f)
unfolding turned_onto followed_by
followed-turned nil d f = refl
followed-turned (node k cs e) d f = followed-turned e d (node k cs f)

-- The trees of d, gathered before those of e, stand before them in order.
pub in_order-followed : (e d : Forest) → in_order (followed_by e d) ≡ followed_by (in_order d) (in_order e)
in_order-followed e d = unfold in_order followed_by in followed-turned e d nil ∙ turned-followed d nil (turned_onto e nil)

-- One tree more, gathered last, stands last in order.
pub in_order-more : (k : Token) (cs d f : Forest) → followed_by (in_order (node k cs d)) f ≡ followed_by (in_order d) (node k cs f)
unfolding in_order turned_onto followed_by
in_order-more k cs d f =
    ap (λ (g : Forest). followed_by g f) (turned-followed d nil (node k cs nil)) ∙ followed-twice (turned_onto d nil) (node k cs nil) f

pub turned-twice : (f o r : Forest) → turned_onto (turned_onto f o) r ≡ turned_onto o (followed_by f r)
unfolding turned_onto followed_by
turned-twice nil o r = refl
turned-twice (node k cs f) o r = turned-twice f (node k cs o) r

-- A list that was turned round is turned back.
pub in_order-turned : (f : Forest) → in_order (turned_onto f nil) ≡ f
in_order-turned f = unfold in_order turned_onto in rw (turned-twice f nil nil) (followed_by-nil f)

-- Turning round keeps the nodes and the trees.
pub turned-size : (a b : Forest) → size (turned_onto a b) ≡ size a + size b
unfolding turned_onto size
turned-size nil b = omega arith
turned-size (node k cs a) b = let e = turned-size a (node k cs b) in e ∙ omega arith

pub turned-count : (a b : Forest) → count (turned_onto a b) ≡ count a + count b
unfolding turned_onto count
turned-count nil b = omega arith
turned-count (node k cs a) b = let e = turned-count a (node k cs b) in e ∙ omega arith

pub reversed-size : (f : Forest) → size (in_order f) ≡ size f
reversed-size f = unfold in_order size in let e = turned-size f nil in omega arith

pub reversed-count : (f : Forest) → count (in_order f) ≡ count f
reversed-count f = unfold in_order count in let e = turned-count f nil in omega arith

-- F puts some trees before a list.
abbrev pub Turns : (Forest → Forest) → Type 0
Turns F = (r d : Forest) → turned_onto (F r) d ≡ turned_onto r (turned_onto (F nil) d)
