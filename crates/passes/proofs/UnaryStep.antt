-- The unary pass's turn: the items that `previous_token` passes over, and then the end, a node that is entered, or a token.
use Prim.Native.Nat.{ℕ}
use mathlib.Core.{Path.{◌≡◌, refl, ap, ◌∙◌}, Bool.{false}, List.{List}}
use native.Mathlib.{Omega.{arith}, Nat.{le_refl}}
use Rattle.molang.specs.{Forest.{Forest, count, size}, Work.{right, unary_minus_and_not, work, begins}}
use Rattle.nodes.specs.declared.frames.List.{List as Items}
use Rattle.levels.specs.{Passes.{walk_of, moved_to, waits}, Turns.{SameList, Within, afresh, TurnTo, goes, enters, ends, fails, Turned}}
use Rattle.levels.specs.{declared.items.Found.TheVariants.{Nothing, Children, Token as Leaf}, declared.turns.Pass.TheVariants.{Unary}}
use Rattle.levels.specs.{declared.turns.Walk.{Walk}, declared.turns.Turn.{Turn}, declared.turns.Turn.TheVariants.{Enter, Over}}
use Rattle.passes.specs.Unary.{CanSeekBack, Moved, SoughtBackTo, none, leaf, tree, SoughtBack, CanTakeToken, TokenTaken}
use Rattle.std.specs.Prelude.{Ok}
use Rattle.passes.proofs.{TurnLaws.{Step}, UnaryLaws.{at-tree}, UnaryRight.{right-sides, right-holds, of-unary}}

moved_same : (v v' : Items) → v' ≡ moved_to v v'.read v'.write → SameList (walk_of v Unary) (walk_of v' Unary)
moved_same v v' e =
    record {
      owner = ap (λ (x : Items). x.owner) e;
      base = ap (λ (x : Items). x.base) e;
      len = ap (λ (x : Items). x.len) e;
      classes = refl;
    }

same_then : (v v' : Items) → v' ≡ moved_to v v'.read v'.write → {w' : Walk} → SameList (walk_of v' Unary) w'
    → SameList (walk_of v Unary) w'
same_then v v' e s =
    let f = moved_same v v' e in
    record { owner = s.owner ∙ f.owner; base = s.base ∙ f.base; len = s.len ∙ f.len; classes = s.classes }

module _ {W' X : List ℕ} {lo hi : ℕ} {v v' : Items} {d rest d' rest' : Forest} (e : v' ≡ moved_to v v'.read v'.write)
    (m : Moved d rest d' rest') where
  -- a turn after the items that were passed over
  turn-after : {t : Step} → TurnTo unary_minus_and_not W' X lo hi (walk_of v' Unary) (right false d') rest' t
      → TurnTo unary_minus_and_not W' X lo hi (walk_of v Unary) (right false d) rest t
  unfolding work waits
  turn-after (goes l h w c s t) =
      goes (same_then v v' e l) h (m.same ∙ w) (omega (arith, m.fewer)) (omega (arith, m.fewer, m.smaller))
      (omega (arith, m.fewer, m.smaller))
  turn-after (enters l h r f b w c s z q) =
      enters (same_then v v' e l) h r f b (m.same ∙ w) (omega (arith, m.fewer)) (omega (arith, m.fewer, m.smaller))
      (omega (arith, m.fewer, m.smaller)) q
  turn-after (ends l h z w) = ends (same_then v v' e l) h z (m.same ∙ w)
  turn-after (fails t w) = fails t (m.same ∙ w)

-- ---- what `step` ensures

-- a turn of the list of any pass that `step` is called with
turned_by : {W W' : List ℕ} {v : Items} {t : Step}
    → ((g : CanSeekBack W v) → TurnTo unary_minus_and_not W' g.X g.lo g.hi (walk_of v Unary) (right false g.d) g.rest t)
    → ((g : CanSeekBack W v) → Within W W' g.X g.lo g.hi v) → Turned W (walk_of v Unary) t W'
turned_by {W} {W'} {v} {t} f h =
    record {
      to = λ g.
          of-unary g.holds.sides.runs g.s g.holds.sides g.small
          (λ κ s. TurnTo κ W' g.X g.lo g.hi (walk_of v Unary) s g.rest t)
          (λ d list. f (record {
            X = g.X;
            lo = g.lo;
            l = g.holds.l;
            m = g.holds.m;
            hi = g.hi;
            d = d;
            rest = g.rest;
            list = list;
            behind = g.holds.turning;
          }));
      within = λ g.
          of-unary g.holds.sides.runs g.s g.holds.sides g.small (λ κ s. Within W W' g.X g.lo g.hi v)
          (λ d list. h (record {
            X = g.X;
            lo = g.lo;
            l = g.holds.l;
            m = g.holds.m;
            hi = g.hi;
            d = d;
            rest = g.rest;
            list = list;
            behind = g.holds.turning;
          }));
    }

over-to : {W' X : List ℕ} {lo hi : ℕ} {v v' : Items} {d rest : Forest} → SoughtBackTo W' X lo hi v d rest (Nothing v')
    → TurnTo unary_minus_and_not W' X lo hi (walk_of v Unary) (right false d) rest (Ok (Over (walk_of v' Unary)))
over-to {v = v} {v' = v'} (none e h list m) = unfold work waits in ends (moved_same v v' e) (right-holds list h) refl m.same

pub step-over : {W W1 : List ℕ} {v v' : Items} {t : Turn} → SoughtBack W v (Nothing v') W1 → t ≡ Over (walk_of v' Unary)
    → Turned W (walk_of v Unary) (Ok t) W1
step-over f e = rw e (turned_by (λ g. over-to (f.to g)) (λ g. record { kept = λ j h o. f.same j o; long = f.long }))

enter-to : {W' X : List ℕ} {lo hi b : ℕ} {v v' : Items} {d rest : Forest} → SoughtBackTo W' X lo hi v d rest (Children v' b)
    → TurnTo unary_minus_and_not W' X lo hi (walk_of v Unary) (right false d) rest (Ok (Enter (walk_of v' Unary) b))
unfolding work waits begins count size
enter-to {v = v} {v' = v'} (tree {d' = d'} {rest' = rest'} {cs = cs} {l = l} {k = k} e h list full t m) =
    enters (moved_same v v' e) (record { sides = right-sides list; framed = h }) t full (afresh refl (le_refl l))
    (m.same ∙ at-tree k cs d' rest' full) (omega (arith, m.fewer)) (omega (arith, m.fewer, m.smaller))
    (omega (arith, m.fewer, m.smaller)) (omega arith)

pub step-enter : {W W1 : List ℕ} {v v' : Items} {b : ℕ} {t : Turn} → SoughtBack W v (Children v' b) W1 → t ≡ Enter (walk_of v' Unary) b
    → Turned W (walk_of v Unary) (Ok t) W1
step-enter f e = rw e (turned_by (λ g. enter-to (f.to g)) (λ g. record { kept = λ j h o. f.same j o; long = f.long }))

taken-by : {W' X : List ℕ} {lo hi b : ℕ} {v v' : Items} {d rest : Forest} → SoughtBackTo W' X lo hi v d rest (Leaf v' b)
    → CanTakeToken W' v' b
taken-by {X = X} {lo = lo} {hi = hi} (leaf {d' = d'} {rest' = rest'} {l = l} {m = n} {k = k} e h list p t m) =
    record { X = X; lo = lo; l = l; m = n; hi = hi; d = d'; rest = rest'; k = k; list = list; tree = t; prefix = p; gap = h }

pub token-found : {W W1 : List ℕ} {v v' : Items} {b : ℕ} → CanSeekBack W v → SoughtBack W v (Leaf v' b) W1 → CanTakeToken W1 v' b
token-found g f = taken-by (f.to g)

token-to : {W1 W' X : List ℕ} {lo hi b : ℕ} {v v' : Items} {d rest : Forest} {t : Step} → SoughtBackTo W1 X lo hi v d rest (Leaf v' b)
    → TokenTaken W1 v' b t W'
    → TurnTo unary_minus_and_not W' X lo hi (walk_of v Unary) (right false d) rest t
token-to {X = X} {lo = lo} {hi = hi} (leaf {d' = d'} {rest' = rest'} {l = l} {m = n} {k = k} e h list p t m) taken =
    turn-after e m
    (taken.to (record { X = X; lo = lo; l = l; m = n; hi = hi; d = d'; rest = rest'; k = k; list = list; tree = t; prefix = p; gap = h }))

token-in : {W W1 W' X : List ℕ} {lo hi b : ℕ} {v v' : Items} {d rest : Forest} {t : Step} → Within W W1 X lo hi v
    → SoughtBackTo W1 X lo hi v d rest (Leaf v' b) → TokenTaken W1 v' b t W'
    → Within W W' X lo hi v
token-in {W} {W1} {W'} {X} {lo} {hi} {v = v} {v' = v'} w (leaf {d' = d'} {rest' = rest'} {l = l} {m = n} {k = k} e h list p t m) taken =
    let same = moved_same v v' e in
    let later =
    taken.within
    (record { X = X; lo = lo; l = l; m = n; hi = hi; d = d'; rest = rest'; k = k; list = list; tree = t; prefix = p; gap = h }) in
    record { kept = λ j f o. later.kept j f (rw (same.base, same.len) o) ∙ w.kept j f o; long = later.long ∙ w.long }

pub step-token : {W W1 W' : List ℕ} {v v' : Items} {b : ℕ} {t : Step} → SoughtBack W v (Leaf v' b) W1 → TokenTaken W1 v' b t W'
    → Turned W (walk_of v Unary) t W'
step-token f taken =
    turned_by (λ g. token-to (f.to g) taken) (λ g. token-in (record { kept = λ j h o. f.same j o; long = f.long }) (f.to g) taken)
