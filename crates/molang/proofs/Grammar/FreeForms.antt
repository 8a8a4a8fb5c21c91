-- A list in which no token passes a test has no leaf that does, at any stage.
use Prim.Native.Nat.{ℕ}
use mathlib.Core.{Path.{◌≡◌, refl, ap}, Bool.{Bool, true, false, ◌&&◌, not, false≢true}, List.{List, [], ◌∷◌}}
use Rattle.molang.specs.Operator
use Rattle.molang.specs.{Forest.{Token, Forest, nil, node, bare, renamed, closed_by}, Free.{free}}
use Rattle.molang.proofs.Grammar.Shape.{Shape, token, beside, chain, section, query, math_call, math_empty, index, pointer, script}
use Rattle.molang.proofs.Grammar.Shape.{statement, last, blank, Stage, row, grown, chained, within, ahead, indexed, amid, listed}
use Rattle.molang.proofs.{Grammar.Shape.{ended, skipped, first_of, form}, Grammar.Used.{Each, EachIn}}

module _ (P : ℕ → Bool) where
  abbrev Lacks : Token → Type 0
  Lacks k = P k.op ≡ false

  -- What comes before a list that is free leaves it so.
  abbrev Frees : (Forest → Forest) → Type 0
  Frees F = (r : Forest) → free P r ≡ true → free P (F r) ≡ true

  both : (a b : Bool) → a ≡ true → b ≡ true → (a && b) ≡ true
  both true b e f = f
  both false b e f = absurd (false≢true e)

  free-node : (k : Token) (cs : Forest) → Lacks k → free P cs ≡ true → Frees (node k cs)
  unfolding free
  free-node k nil l c r h = both (not (P k.op)) (free P r) (ap not l) h
  free-node k (node d cs s) l c r h = both (free P (node d cs s)) (free P r) c h

  free-nil : free P nil ≡ true
  unfolding free
  free-nil = refl

  free-row : (ks : List Token) → Each Lacks ks → Frees (row ks)
  unfolding row
  free-row [] l r h = h
  free-row (k ∷ ks) l r h = free-node k nil l.0 free-nil (row ks r) (free-row ks l.1 r h)

  free-grown : (k : Token) (cs : Forest) (ms : List Token) → Lacks k → free P cs ≡ true → Each Lacks ms → Frees (grown k cs ms)
  unfolding grown
  free-grown k cs [] l c e r h = free-node k cs l c r h
  free-grown k cs (a ∷ ms) l c e r h = free-grown a (node k cs nil) ms e.0 (free-node k cs l c nil free-nil) e.1 r h

  free-chained : (b : Bool) (k : Token) (ms : List Token) → Lacks k → Each Lacks ms → Frees (chained b k ms)
  unfolding chained
  free-chained true k ms l e r h = free-grown k nil ms l free-nil e r h
  free-chained false k ms l e r h = free-node k nil l free-nil (row ms r) (free-row ms e r h)

  free-within : (b : Bool) (o c : Token) (X : Forest → Forest) → Lacks o → Lacks c → Frees X → Frees (within b o c X)
  unfolding within closed_by
  free-within true o c X l m x r h = free-node (closed_by c o) (X nil) l (x nil free-nil) r h
  free-within false o c X l m x r h = free-node o nil l free-nil (X (node c nil r)) (x (node c nil r) (free-node c nil m free-nil r h))

  free-ahead : (b : Bool) (k : Token) (X : Forest → Forest) → Lacks k → Frees X → Frees (ahead b k X)
  unfolding ahead
  free-ahead true k X l x r h = free-node k (X nil) l (x nil free-nil) r h
  free-ahead false k X l x r h = free-node k nil l free-nil (X r) (x r h)

  free-amid : (b : Bool) (k : Token) (X Y : Forest → Forest) → Lacks k → Frees X → Frees Y → Frees (amid b k X Y)
  unfolding amid
  free-amid true k X Y l x y r h = free-node k (X (Y nil)) l (x (Y nil) (y nil free-nil)) r h
  free-amid false k X Y l x y r h = x (node k nil (Y r)) (free-node k nil l free-nil (Y r) (y r h))

  free-indexed : (b s : Bool) (k o c : Token) (X : Forest → Forest) → (b ≡ true → P Operator.array ≡ false) → Lacks k → Lacks o → Lacks c
      → Frees X
      → Frees (indexed b s k o c X)
  unfolding indexed renamed
  free-indexed true s k o c X a l m n x r h = free-node (renamed Operator.array k) (X nil) (a refl) (x nil free-nil) r h
  free-indexed false s k o c X a l m n x r h = free-node k nil l free-nil (within s o c X r) (free-within s o c X m n x r h)

  free-listed : (b : Bool) (q : Token) (X : Forest → Forest) → (b ≡ true → P Operator.semicolon ≡ false) → Frees X → Frees (listed b q X)
  unfolding listed bare
  free-listed true q X a x r h = free-node (bare Operator.semicolon q) (X nil) (a refl) (x nil free-nil) r h
  free-listed false q X a x r h = x r h

  free_ended : (b : Bool) (f e : Token) (X : Forest → Forest) → (b ≡ true → P Operator.semicolon ≡ false) → Lacks e → Frees X
      → Frees (ended b f e X)
  unfolding ended bare
  free_ended true f e X a l x r h = free-node (bare Operator.semicolon f) (X nil) (a refl) (x nil free-nil) r h
  free_ended false f e X a l x r h = x (node e nil r) (free-node e nil l free-nil r h)

  free-skipped : (b : Bool) (e : Token) → Lacks e → Frees (skipped b e)
  unfolding skipped
  free-skipped true e l r h = h
  free-skipped false e l r h = free-node e nil l free-nil r h

  pub free-form : (s : Stage) → (s.arrays ≡ true → P Operator.array ≡ false) → (s.statements ≡ true → P Operator.semicolon ≡ false)
      → (x : Shape) → EachIn Lacks x
      → (r : Forest) → free P r ≡ true → free P (form s x r) ≡ true
  unfolding form
  free-form s a b (token k) l r h = free-node k nil l free-nil r h
  free-form s a b (beside x y) l r h = free-form s a b x l.0 (form s y r) (free-form s a b y l.1 r h)
  free-form s a b (chain k ms) l r h = free-chained s.members k ms l.0 l.1 r h
  free-form s a b (section o c x) l r h = free-within s.sections o c (form s x) l.0 l.1 (free-form s a b x l.2) r h
  free-form s a b (query k o c x) l r h =
      free-ahead s.calls k (within s.sections o c (form s x)) l.0
      (free-within s.sections o c (form s x) l.1 l.2 (free-form s a b x l.3)) r h
  free-form s a b (math_call k o c x) l r h =
      free-ahead s.maths k (within s.sections o c (form s x)) l.0
      (free-within s.sections o c (form s x) l.1 l.2 (free-form s a b x l.3)) r h
  free-form s a b (math_empty k o c) l r h =
      free-ahead s.maths k (within s.sections o c (λ r. r)) l.0 (free-within s.sections o c (λ r. r) l.1 l.2 (λ r h. h))
      r h
  free-form s a b (index k o c x) l r h = free-indexed s.arrays s.sections k o c (form s x) a l.0 l.1 l.2
      (free-form s a b x l.3) r h
  free-form s a b (pointer k x y) l r h = free-amid s.pointers k (form s x) (form s y) l.0 (free-form s a b x l.1)
      (free-form s a b y l.2) r h
  free-form s a b (script q x) l r h = free-listed s.statements q (form s x) b (free-form s a b x l) r h
  free-form s a b (statement e x) l r h = free_ended s.statements (first_of x) e (form s x) b l.0 (free-form s a b x l.1) r h
  free-form s a b (last x) l r h = free-listed s.statements (first_of x) (form s x) b (free-form s a b x l) r h
  free-form s a b (blank e) l r h = free-skipped s.statements e l r h
