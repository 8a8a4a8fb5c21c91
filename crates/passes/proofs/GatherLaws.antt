-- The levels that go from the left and hold the trees so far as they are: calls, the binary levels, `return`. A turn passes over trees
-- without a token of the level, which changes nothing of the level's result; then it ends, enters a node, or comes to a token, whose turn
-- is the level's own.
use Prim.Native.Nat.{ℕ, ◌+◌, ◌^◌, ◌≤◌, ◌<◌}
use mathlib.Core.{Path.{◌≡◌, refl, sym, ap, ◌∙◌, subst}, Logic.{◌≢◌, inl, inr, ⊎_elim}, Bool.{Bool, true, false}, List.{List}}
use native.Mathlib.{Omega.{arith}, Nat.{le_refl}}
use lib.ListN.{length, set}
use Rattle.molang.specs.{Forest.{Token, Forest, nil, node, count, size}, Message.{Result, ok, fail}, Level.{Level, walk, through}}
use Rattle.molang.specs.{Free.{free, is_nil}, Work.{Kind, State, work, begins, in_reading, takes, and_then}}
use Rattle.molang.proofs.{Trees.{count-size, free-leaf, free-tree}, Inert.{Inert, through-free}}
use Rattle.nodes.specs.{Store.{wd, slot_start, slot_end, RepT}, Children.{Attached}, declared.frames.List.{List as Items}}
use Rattle.nodes.proofs.{Runs.{set_same, set_other, set_long}, Store.{tree-below, tree-out, back-le, back-raise}}
use Rattle.nodes.proofs.Trees.{tree-under, attach-tree, attach-kept}
use Rattle.levels.specs.Passes.{walk_of, moved_to, classes_of, Covers, waits}
use Rattle.levels.specs.Items.{BackArray, Ahead, CanSeek, Passed, here, over, Seen, SoughtTo, none, leaf, tree, Sought}
use Rattle.levels.specs.Sides.{Sides, Holds, Waits, AtTurn, InFrame}
use Rattle.levels.specs.Turns.{SameList, Within, CanTurn, lent_of, afresh, TurnTo, goes, enters, ends, fails, Turned}
use Rattle.levels.specs.{declared.items.Found.{Found}, declared.items.Found.TheVariants.{Nothing, Children, Token as Leaf}}
use Rattle.levels.specs.{declared.turns.Pass.{Pass}, declared.turns.Walk.{Walk}, declared.turns.Turn.{Turn}}
use Rattle.levels.specs.declared.turns.Turn.TheVariants.{Enter, Over}
use Rattle.std.specs.Prelude.{Ok}
use Rattle.levels.proofs.Reading.{can-peek, back-array-keep, AheadTo, item, ahead-item, ahead-keep, ahead-le, array-put}
use Rattle.levels.proofs.States.{holds_of}
use Rattle.passes.specs.TokenTurns.{AtItem, AtToken, TokenTurned, Saying}
use Rattle.passes.proofs.TurnLaws.{Step}

-- ---- trees that are passed over

module _ {S : Type 0} (L : Level S) (P : ℕ → Bool) {idle : Forest → S} (I : Inert L P idle) where
  -- a node with children is entered
  pub walk-node : (d : Forest) (k c : Token) (cs r rest : Forest)
      → walk L (idle d) (node k (node c cs r) rest) ≡ and_then (through L (node c cs r)) (λ kids. walk L (idle (node k kids d)) rest)
  unfolding walk through and_then
  walk-node d k c cs r rest = rw (I.enters d k c cs r, walk) (back (walk L (L.start (node c cs r)) (node c cs r)))
    where
      back : (x : Result)
          → elim x [ fail m ↦ fail m | ok kids ↦ walk L (L.resume (idle d) k kids) rest ]
          ≡ and_then x (λ kids. walk L (idle (node k kids d)) rest)
      back (fail m) = refl
      back (ok kids) = ap (λ (s : S). walk L s rest) (I.takes_back d k kids)

  -- a tree without a token of the level stays
  pub walk-over : (d : Forest) (k : Token) (cs rest : Forest) → free P (node k cs nil) ≡ true
      → walk L (idle d) (node k cs rest) ≡ walk L (idle (node k cs d)) rest
  unfolding walk and_then
  walk-over d k nil rest h = rw (I.keeps d k (free-leaf P k nil h).0, walk) refl
  walk-over d k (node c cs r) rest h =
      walk-node d k c cs r rest ∙ rw (through-free L P I (node c cs r) (free-tree P k c cs r nil h).0) refl

  pub walk-passed : {d rest d' rest' : Forest} → Passed P d rest d' rest' → walk L (idle d) rest ≡ walk L (idle d') rest'
  walk-passed here = refl
  walk-passed (over {d = d} {rest = rest} {cs = cs} {k = k} h p) = walk-over d k cs rest h ∙ walk-passed p

-- passing over trees leaves no more trees unread, and no more nodes below them
pub passed-count : {P : ℕ → Bool} {d rest d' rest' : Forest} → Passed P d rest d' rest'
    → (count rest' ≤ count rest) × (size rest' + count rest ≤ size rest + count rest')
unfolding count size
passed-count here = (omega arith, omega arith)
passed-count (over {cs = cs} h p) = let e = passed-count p in (omega arith, omega arith)

-- ---- what a level says of itself

pub record LeftLevel (κ : Kind) (pass : Pass) (P : ℕ → Bool) (idle : Forest → State κ) (good : Forest → Bool) : Type 0 where
  pub covers : Covers (classes_of pass) P
  pub sides : {W X : List ℕ} {lo l m hi : ℕ} {v : Items} {d rest : Forest} → good d ≡ true → BackArray W X v.base v.write lo l d
      → Ahead W X v.base v.read v.len m hi rest → lo ≤ l → l ≤ m → m ≤ hi → slot_start hi ≤ v.base → v.base + v.len ≤ length W
      → Sides κ W X lo l m hi (walk_of v pass) (idle d) rest
  pub turning : (v : Items) → v.write ≤ v.read → AtTurn v pass
  pub framed : (v : Items) → v.write < v.read → InFrame v pass
  pub calm : (d : Forest) → waits κ (idle d) ≡ 0
  pub unlent : lent_of pass ≡ 0
  pub fresh : (cs : Forest) → waits κ (begins κ cs) ≡ 0
  pub passes : {d rest d' rest' : Forest} → Passed P d rest d' rest' → work κ (idle d) rest ≡ work κ (idle d') rest'
  pub keeps : {d rest d' rest' : Forest} → Passed P d rest d' rest' → good d ≡ true → good d' ≡ true
  pub node : (d : Forest) (k : Token) (cs rest : Forest) → is_nil cs ≡ false
      → work κ (idle d) (node k cs rest) ≡ and_then (work κ (begins κ cs) (in_reading κ cs)) (λ kids. work κ (takes κ (idle d) k kids) rest)

-- ---- one list, further on

pub same-moved : (v v' : Items) (p p' : Pass) → v' ≡ moved_to v v'.read v'.write → classes_of p' ≡ classes_of p
    → SameList (walk_of v p) (walk_of v' p')
same-moved v v' p p' e c =
    record { owner = ap (λ (x : Items). x.owner) e; base = ap (λ (x : Items). x.base) e; len = ap (λ (x : Items). x.len) e; classes = c }

pub same_then : {u v w : Walk} → SameList u v → SameList v w → SameList u w
same_then a b = record { owner = b.owner ∙ a.owner; base = b.base ∙ a.base; len = b.len ∙ a.len; classes = b.classes ∙ a.classes }

-- a turn that first goes over some trees
pub turn-after : {κ : Kind} {W X : List ℕ} {lo hi : ℕ} {u v : Walk} {s t : State κ} {rest rest1 : Forest} {r : Step} → SameList u v
    → work κ s rest ≡ work κ t rest1 → count rest1 ≤ count rest → size rest1 + count rest ≤ size rest + count rest1 → waits κ t ≡ waits κ s
    → TurnTo κ W X lo hi v t rest1 r → TurnTo κ W X lo hi u s rest r
turn-after same e c z i (goes x h f c' z' t) = goes (same_then same x) h (e ∙ f) (omega arith) (omega arith) (omega arith)
turn-after same e c z i (enters x h y n g f c' z' t j) =
    enters (same_then same x) h y n g (e ∙ f) (omega arith) (omega arith) (omega arith) (omega arith)
turn-after same e c z i (ends x h j f) = ends (same_then same x) h j (e ∙ f)
turn-after same e c z i (fails x f) = fails x (e ∙ f)

-- what `next_token` leaves done begins where the list does
pub seen_done : {W X : List ℕ} {v : Items} {at lo a m hi : ℕ} {d rest : Forest} → at ≡ v.base → Seen W X v at lo a m hi d rest
    → BackArray W X v.base v.write lo a d
seen_done {W} {X} {v} {at} {lo} {a} {m} {hi} {d} e s =
    let n : s.n ≡ v.write = omega (arith, s.reached) in
    subst (λ (i : ℕ). BackArray W X v.base i lo a d) n (subst (λ (i : ℕ). BackArray W X i s.n lo a d) e s.done)

-- ---- an item that was read

module _ {W X : List ℕ} {v : Items} {b lo hi : ℕ} {d : Forest} {k : Token} {cs rest : Forest} (i : AtItem W X v b lo hi d k cs rest) where
  -- what a law on the item's numbers needs
  pub item-bounds : (lo ≤ i.a) × (i.a ≤ b) × (b < i.m) × (i.m ≤ hi) × (v.read ≤ v.len)
  item-bounds = let le = ahead-le i.ahead in (back-le i.done.rep, i.tree.low, tree-below i.tree, le.0, le.1)

-- the item goes to the done ones
module _ (W W' : List ℕ) {X : List ℕ} {v : Items} {b lo hi : ℕ} {d : Forest} {k : Token} {cs rest : Forest}
    (i : AtItem W X v b lo hi d k cs rest)
    (e : W' ≡ set W (v.base + v.write) b) where
  pub kept-done : BackArray W' X v.base (v.write + 1) lo i.m (node k cs d)
  kept-done =
      let n = item-bounds i in let below = i.below in let behind = i.behind in let within = i.within in
      let other = set_other W W' (v.base + v.write) b e in
      array-put W W' i.done i.tree (le_refl i.a) (le_refl i.m) (λ s o x y z u. other (slot_start s + o) (omega arith))
      (λ j x y. other j (omega arith))
      (set_same W W' (v.base + v.write) b e (omega arith))

  pub kept-ahead : Ahead W' X v.base v.read v.len i.m hi rest
  kept-ahead =
      let below = i.below in let behind = i.behind in
      let other = set_other W W' (v.base + v.write) b e in
      ahead-keep W W' (λ s o x y z u. other (slot_start s + o) (omega arith)) (λ j x y. other j (omega arith)) i.ahead

  pub kept-within : Within W W' X lo hi v
  kept-within =
      let n = item-bounds i in let behind = i.behind in
      record {
        kept = λ j f o. set_other W W' (v.base + v.write) b e j (⊎_elim (λ x. omega arith) (λ x. omega arith) o);
        long = set_long W W' (v.base + v.write) b e;
      }

-- the next tree goes below the item
pub data Attaching (W W' X : List ℕ) (v : Items) (b lo hi : ℕ) (d : Forest) (k : Token) : Forest → Type 0 where
  attached : {t : Token} {ts rest : Forest} → AtItem W' X (moved_to v (v.read + 1) v.write) b lo hi d k (node t ts nil) rest
      → Within W W' X lo hi v
      → Attaching W W' X v b lo hi d k (node t ts rest)

pub item-attached : {W W' X : List ℕ} {v : Items} {b lo hi c : ℕ} {d : Forest} {k : Token} {rest : Forest}
    → AtItem W X v b lo hi d k nil rest
    → wd W (v.base + v.read) ≡ c → v.read < v.len → Attached W b c W' → Attaching W W' X v b lo hi d k rest
item-attached {W} {W'} {X} {v} {b} {lo} {hi} {c} {d} {k} i e h w = go (ahead-item c e h i.ahead)
  where
    go : {rest : Forest} → AheadTo W X v.base v.read v.len i.m hi c rest → Attaching W W' X v b lo hi d k rest
    go (item {a = a} {m = m} low t r) =
        let n =
        item-bounds i in let below =
        i.below in let behind = i.behind in let tl = t.low in let th = tree-below t in let le = ahead-le r in
        let child = tree-under b (inl (omega arith)) t in
        let own = tree-out i.tree in
        let up : i.a ≤ a = omega arith in
        attached
        (record {
          a = i.a;
          m = m;
          done =
              back-array-keep W W' (λ s o x y z u. w.same (slot_start s + o) (omega arith) (omega arith) (omega arith))
              (λ j x y. w.same j (omega arith) (omega arith) (omega arith)) i.done;
          tree = attach-tree w child i.tree.token i.tree.pos own i.tree.low (omega arith) up (le_refl m);
          ahead =
              ahead-keep W W' (λ s o x y z u. w.same (slot_start s + o) (omega arith) (omega arith) (omega arith))
              (λ j x y. w.same j (omega arith) (omega arith) (omega arith)) r;
          behind = omega arith;
          below = below;
          within = omega (arith, i.within, w.long);
          small = omega (arith, i.small, w.long);
        })
        (record {
          kept = λ j f o. attach-kept {lo = lo} {hi = hi} w child own (omega arith) (omega arith) (omega arith) (omega arith) j f;
          long = w.long;
        })

pub within-then : {W W' W'' X : List ℕ} {lo hi : ℕ} {u v : Items} → v.base ≡ u.base → v.len ≡ u.len → Within W W' X lo hi u
    → Within W' W'' X lo hi v → Within W W'' X lo hi u
within-then eb el f g =
    record {
      kept = λ j h o. g.kept j h (⊎_elim (λ x. inl (omega arith)) (λ x. inr (omega arith)) o) ∙ f.kept j h o;
      long = g.long ∙ f.long;
    }

-- the item that `next_token` stops at
sought-item : {W X : List ℕ} (v : Items) {v' : Items} {lo hi a m b : ℕ} {d cs rest : Forest} {k : Token} → slot_start hi ≤ v.base
    → v.base + v.len ≤ length W → length W < 2 ^ 32
    → v' ≡ moved_to v v'.read v'.write → v'.write < v'.read
    → RepT W X b a m k cs → Seen W X v' v.base lo a m hi d rest → AtItem W X v' b lo hi d k cs rest
sought-item v {v'} {a = a} {m = m} below within small e behind t s =
    let eb = ap (λ (x : Items). x.base) e in let el = ap (λ (x : Items). x.len) e in
    record {
      a = a;
      m = m;
      done = seen_done (sym eb) s;
      tree = t;
      ahead = s.ahead;
      behind = behind;
      below = omega arith;
      within = omega arith;
      small = small;
    }

module _ {κ : Kind} {pass : Pass} {P : ℕ → Bool} {idle : Forest → State κ} {good : Forest → Bool} (L : LeftLevel κ pass P idle good) where
  pub item-holds : {W W' X : List ℕ} {v : Items} {b lo hi : ℕ} {d : Forest} {k : Token} {cs rest : Forest}
      (i : AtItem W X v b lo hi d k cs rest)
      → W' ≡ set W (v.base + v.write) b → good (node k cs d) ≡ true
      → Holds κ W' X lo hi (walk_of (moved_to v v.read (v.write + 1)) pass) (idle (node k cs d)) rest
  item-holds {W} {W'} {v = v} {b = b} i e fine =
      let n = item-bounds i in let behind = i.behind in
      let long = set_long W W' (v.base + v.write) b e in
      record {
        l = i.m;
        m = i.m;
        sides =
            L.sides fine (kept-done W W' i e) (kept-ahead W W' i e) (omega arith) (le_refl i.m) (omega arith) i.below
            (omega (arith, i.within));
        turning = L.turning (moved_to v v.read (v.write + 1)) (omega arith);
      }

  pub item-waits : {W X : List ℕ} {v : Items} {b lo hi : ℕ} {d : Forest} {k : Token} {cs rest : Forest}
      (i : AtItem W X v b lo hi d k cs rest)
      → good d ≡ true
      → Waits κ W X lo i.a i.m hi (walk_of v pass) (idle d) rest
  item-waits {v = v} i fine =
      let n = item-bounds i in
      record {
        sides = L.sides fine i.done i.ahead (omega arith) (omega arith) (omega arith) i.below i.within;
        framed = L.framed v i.behind;
      }

  -- ---- where `next_token` stops

  module _ {W X : List ℕ} (v : Items) {lo hi : ℕ} {d rest : Forest} (fine : good d ≡ true) (below : slot_start hi ≤ v.base)
      (within : v.base + v.len ≤ length W) (small : length W < 2 ^ 32) where
    sought-over : {v' : Items} → SoughtTo W X v v.base lo hi P d rest (Nothing v')
        → TurnTo κ W X lo hi (walk_of v pass) (idle d) rest (Ok (Over (walk_of v' pass)))
    sought-over {v'} (none {d' = d'} e behind p s) =
        let same = same-moved v v' pass pass e refl in
        let b = same.base in let n = same.len in
        let done = seen_done (sym b) s in
        ends same
        (holds_of hi hi
        (L.sides (L.keeps p fine) done s.ahead (back-le done.rep) (le_refl hi) (le_refl hi) (omega arith) (omega arith))
        (L.turning v' behind)) (L.calm d') (L.passes p)

    sought-enter : {v' : Items} {b : ℕ} → SoughtTo W X v v.base lo hi P d rest (Children v' b)
        → TurnTo κ W X lo hi (walk_of v pass) (idle d) rest (Ok (Enter (walk_of v' pass) b))
    unfolding count size sought-item
    sought-enter {v'} {b} (tree {d' = d'} {rest' = rest'} {cs = cs} {a = a} {m = m} {k = k} e behind p full unfree t s) =
        let i = sought-item v below within small e behind t s in
        let z = passed-count p in
        enters {t = idle d'} {u = begins κ cs} (same-moved v v' pass pass e refl) (item-waits i (L.keeps p fine)) t full
        (afresh L.unlent (le_refl a))
        (L.passes p ∙ L.node d' k cs rest' full) (omega arith) (omega arith) (omega (arith, count-size rest))
        (omega (arith, L.fresh cs, L.calm d', L.calm d))

    sought-at : {v' : Items} {b : ℕ} → SoughtTo W X v v.base lo hi P d rest (Leaf v' b) → AtToken W v' b
    sought-at (leaf {d' = d'} {rest' = rest'} {k = k} e behind p is_p t s) =
        record { X = X; lo = lo; hi = hi; d = d'; k = k; rest = rest'; item = sought-item v below within small e behind t s }

    sought-token : {v' : Items} {b : ℕ} {r : Step} {W' : List ℕ} → SoughtTo W X v v.base lo hi P d rest (Leaf v' b)
        → TokenTurned κ idle P good W (walk_of v' pass) b r W' → TurnTo κ W' X lo hi (walk_of v pass) (idle d) rest r × Within W W' X lo hi v
    sought-token {v'} {b} (leaf {d' = d'} {rest' = rest'} {k = k} e behind p is_p t s) T =
        let g : AtToken W v' b =
        record { X = X; lo = lo; hi = hi; d = d'; k = k; rest = rest'; item = sought-item v below within small e behind t s } in
        let z = passed-count p in
        let same = same-moved v v' pass pass e refl in
        let x = T.within g in (
          turn-after same (L.passes p) z.0 z.1 (L.calm d' ∙ sym (L.calm d)) (T.to g is_p (L.keeps p fine)),
          record {
            kept = λ j h o. x.kept j h (⊎_elim (λ y. inl (omega (arith, same.base))) (λ y. inr (omega (arith, same.base, same.len))) o);
            long = x.long;
          },
        )

-- ---- a whole turn

-- A turn's list, whose state is given by the trees that are done; and what T says of the level.
pub record Stands (T : Saying) (W : List ℕ) (v : Items) (pass : Pass) (κ : Kind) (X : List ℕ) (lo hi : ℕ) (s : State κ) (rest : Forest)
    : Type 0 where
  pub P : ℕ → Bool
  pub idle : Forest → State κ
  pub good : Forest → Bool
  pub level : LeftLevel κ pass P idle good
  pub told : T κ idle P good
  pub d : Forest
  pub state : idle d ≡ s
  pub fine : good d ≡ true
  pub l : ℕ
  pub m : ℕ
  pub done : BackArray W X v.base v.write lo l d
  pub ahead : Ahead W X v.base v.read v.len m hi rest
  pub mid : l ≤ m
  pub behind : v.write ≤ v.read
  pub below : slot_start hi ≤ v.base
  pub within : v.base + v.len ≤ length W
  pub small : length W < 2 ^ 32

pub stands : {T : Saying} {W : List ℕ} {v : Items} {pass : Pass} {κ : Kind} {P : ℕ → Bool} {idle : Forest → State κ} {good : Forest → Bool}
    {X : List ℕ} {lo l m hi : ℕ} {d rest : Forest} → LeftLevel κ pass P idle good → T κ idle P good → good d ≡ true
    → BackArray W X v.base v.write lo l d
    → Ahead W X v.base v.read v.len m hi rest → l ≤ m → v.write ≤ v.read → slot_start hi ≤ v.base → v.base + v.len ≤ length W
    → length W < 2 ^ 32
    → Stands T W v pass κ X lo hi (idle d) rest
stands {P = P} {idle = idle} {good = good} {l = l} {m = m} {d = d} level told fine done ahead mid behind below within small =
    record {
      P = P;
      idle = idle;
      good = good;
      level = level;
      told = told;
      d = d;
      state = refl;
      fine = fine;
      l = l;
      m = m;
      done = done;
      ahead = ahead;
      mid = mid;
      behind = behind;
      below = below;
      within = within;
      small = small;
    }

abbrev pub Nothing-told : Saying
Nothing-told κ idle P good = Unit {0}

module _ {T : Saying} {W : List ℕ} {v : Items} {pass : Pass} {κ : Kind} {X : List ℕ} {lo hi : ℕ} {s : State κ} {rest : Forest}
    (g : Stands T W v pass κ X lo hi s rest) where
  seeking : CanSeek W v
  seeking =
      record {
        X = X;
        lo = lo;
        m = g.m;
        hi = hi;
        at = v.base;
        n = v.write;
        d = g.d;
        rest = rest;
        done = record { ds = g.done.ds; seg = g.done.seg; count = g.done.count; rep = back-raise g.mid g.done.rep };
        reached = refl;
        started = le_refl v.base;
        ahead = g.ahead;
        behind = g.behind;
        below = g.below;
        within = g.within;
        small = g.small;
      }

  pub can-seek : CanSeek W v
  can-seek = seeking

  module _ {W' : List ℕ} {f : Found} (h : Sought W v (classes_of pass) f W') where
    sought-to : SoughtTo W' X v v.base lo hi g.P g.d rest f
    sought-to = unfold seeking in h.to seeking g.P g.level.covers

    pub sought-within : Within W W' X lo hi v
    sought-within =
        let behind = g.behind in
        record { kept = λ j x o. h.same j (⊎_elim (λ y. inl (omega arith)) (λ y. inr y) o); long = h.long }

  pub turn-over : {W' : List ℕ} {v' : Items} → Sought W v (classes_of pass) (Nothing v') W'
      → TurnTo κ W' X lo hi (walk_of v pass) s rest (Ok (Over (walk_of v' pass)))
  turn-over {W'} {v'} h =
      subst (λ (x : State κ). TurnTo κ W' X lo hi (walk_of v pass) x rest (Ok (Over (walk_of v' pass)))) g.state
      (sought-over g.level v g.fine g.below (omega (arith, g.within, h.long)) (omega (arith, g.small, h.long)) (sought-to h))

  pub turn-enter : {W' : List ℕ} {v' : Items} {b : ℕ} → Sought W v (classes_of pass) (Children v' b) W'
      → TurnTo κ W' X lo hi (walk_of v pass) s rest (Ok (Enter (walk_of v' pass) b))
  turn-enter {W'} {v'} {b} h =
      subst (λ (x : State κ). TurnTo κ W' X lo hi (walk_of v pass) x rest (Ok (Enter (walk_of v' pass) b))) g.state
      (sought-enter g.level v g.fine g.below (omega (arith, g.within, h.long)) (omega (arith, g.small, h.long)) (sought-to h))

  pub token-at : {W' : List ℕ} {v' : Items} {b : ℕ} → Sought W v (classes_of pass) (Leaf v' b) W' → AtToken W' v' b
  token-at h =
      sought-at g.level v g.fine g.below (omega (arith, g.within, h.long)) (omega (arith, g.small, h.long)) (sought-to h)

  pub turn-token : {W' W'' : List ℕ} {v' : Items} {b : ℕ} {r : Step} → Sought W v (classes_of pass) (Leaf v' b) W'
      → TokenTurned κ g.idle g.P g.good W' (walk_of v' pass) b r W''
      → TurnTo κ W'' X lo hi (walk_of v pass) s rest r × Within W W'' X lo hi v
  turn-token {W'' = W''} {r = r} h t =
      let x =
      sought-token g.level v g.fine g.below (omega (arith, g.within, h.long)) (omega (arith, g.small, h.long))
      (sought-to h) t in (
        subst (λ (y : State κ). TurnTo κ W'' X lo hi (walk_of v pass) y rest r) g.state x.0,
        within-then refl refl (sought-within h)
            x.1,
      )

-- The level's list at every turn.
abbrev pub Standing : Saying → List ℕ → Items → Pass → Type 0
Standing T W v pass = (g : CanTurn W (walk_of v pass)) → Stands T W v pass g.κ g.X g.lo g.hi g.s g.rest

sought-as : {W W' : List ℕ} {v : Items} {c : ℕ} {f f' : Found} → f ≡ f' → Sought W v c f W' → Sought W v c f' W'
sought-as {W} {W'} {v} {c} e h = subst (λ (x : Found). Sought W v c x W') e h

module _ {W W' : List ℕ} {v : Items} {pass : Pass} where
  pub turned-over : {v' : Items} {f : Found} {r : Turn} → Standing Nothing-told W v pass → Sought W v (classes_of pass) f W' → f ≡ Nothing v'
      → r ≡ Over (walk_of v' pass)
      → Turned W (walk_of v pass) (Ok r) W'
  turned-over stand h e er =
      let i = sought-as e h in rw er (record { to = λ g. turn-over (stand g) i; within = λ g. sought-within (stand g) i })

  pub turned-enter : {v' : Items} {f : Found} {r : Turn} {b : ℕ} → Standing Nothing-told W v pass → Sought W v (classes_of pass) f W'
      → f ≡ Children v' b
      → r ≡ Enter (walk_of v' pass) b → Turned W (walk_of v pass) (Ok r) W'
  turned-enter stand h e er =
      let i = sought-as e h in rw er (record { to = λ g. turn-enter (stand g) i; within = λ g. sought-within (stand g) i })

  -- what the function on a token asks
  pub token-found : {v' : Items} {f : Found} {b : ℕ} → Standing Nothing-told W v pass → CanTurn W (walk_of v pass)
      → Sought W v (classes_of pass) f W' → f ≡ Leaf v' b → AtToken W' v' b
  token-found stand g h e = token-at (stand g) (sought-as e h)

  pub turned-token : {v' : Items} {f : Found} {b : ℕ} {r : Step} {W'' : List ℕ}
      → Standing (λ κ idle P good. TokenTurned κ idle P good W' (walk_of v' pass) b r W'') W v pass
      → Sought W v (classes_of pass) f W' → f ≡ Leaf v' b → Turned W (walk_of v pass) r W''
  turned-token stand h e =
      let i = sought-as e h in
      record { to = λ g. (turn-token (stand g) i (stand g).told).0; within = λ g. (turn-token (stand g) i (stand g).told).1 }

-- ---- room for what the functions on a token touch

pub token-room : {W : List ℕ} {v : Items} {b : ℕ} → AtToken W v b
    → (slot_end b ≤ length W) × (v.base + v.write < length W) × (v.read ≤ v.len)
token-room g =
    let n = item-bounds g.item in let below = g.item.below in let within = g.item.within in let behind = g.item.behind in
    (omega arith, omega arith, omega arith)

pub next-room : {W : List ℕ} {v : Items} {b : ℕ} → AtToken W v b → v.read ≢ v.len
    → (v.read < v.len) × (slot_end (wd W (v.base + v.read)) ≤ length W)
next-room {v = v} g n =
    let le = token-room g in
    let h : v.read < v.len = omega arith in
    (h, (can-peek v g.item.ahead g.item.below g.item.within).slot h)
