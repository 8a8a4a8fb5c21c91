-- A chain is turned round. The array pass does so where it gathers an index's children, whose slots rise (`Turning`), and where it puts an
-- array's children in order, whose slots fall (`RoundAt`). A turn links the next slot to what is turned already: the chain from s on is
-- left, the one from `head` on is turned.
use Prim.Native.Nat.{ℕ, ◌+◌, ◌-◌, ◌≤◌, ◌<◌}
use mathlib.Core.{Path.{◌≡◌, refl, sym, ap, ap₂, ◌∙◌, subst}, Bool.{Bool, true, false, ◌||◌, or_comm}, Logic.{◌≢◌, ◌⊎◌, inl, inr}}
use mathlib.Core.List.{List, [], ◌∷◌}
use lib.{Dec.{eqb}, ListN.{length, set}}
use borrow.Author.Tests.{eq-eqb, ne_eqb}
use native.Mathlib.{Omega.{arith}, Nat.{le_refl}}
use Rattle.nodes.specs.Store.{wd, classes_field, slot_start, slot_end, first_word, next_word, classes_word, first_at, next_at, classes_at, Chain}
use Rattle.nodes.specs.{Store.{Inc, Out, OffNext, onto}, Children.{some_notes}}
use Rattle.nodes.proofs.Runs.{set_same, set_other, set_long, inc-le, inc-lower, out_below, off-word, chain-keep}
use Rattle.ops.{specs.Classes.{bit_at}, proofs.BitLaws.{bit-zero}}
use Rattle.passes.specs.Arrays.{Apart, CanGather, Gathered, Dec, CanRound, Rounded}

apart_more : (c lo hi : ℕ) (left back : List ℕ) → c < lo → Inc lo hi left → Apart left back → Apart left (c ∷ back)
apart_more c lo hi [] back h i a = tt
apart_more c lo hi (d ∷ left) back h i a =
    ((omega (arith, i.0), a.0), apart_more c (d + 1) hi left back (omega (arith, i.0)) i.1 a.1)

-- a new link of a slot that is none of the chain's leaves the chain as it is
beside-chain : (W W' : List ℕ) (c v f : ℕ) (cs : List ℕ) → W' ≡ set W (next_word c) v → Out c cs → Chain W f cs → Chain W' f cs
beside-chain W W' c v f [] e o p = p
beside-chain W W' c v f (d ∷ cs) e o p =
    let n : c ≢ d = o.0 in
    let same : next_at W d ≡ next_at W' d = sym (set_other W W' (next_word c) v e (next_word d) (omega arith)) in
    (p.0, p.1, subst (λ (x : ℕ). Chain W' x cs) same (beside-chain W W' c v (next_at W d) cs e o.1 p.2))

-- so does a new `first` word, which is no link
first-chain : (W W' : List ℕ) (c v f : ℕ) (cs : List ℕ) → W' ≡ set W (first_word c) v → Chain W f cs → Chain W' f cs
first-chain W W' c v f [] e p = p
first-chain W W' c v f (d ∷ cs) e p =
    let same : next_at W d ≡ next_at W' d = sym (set_other W W' (first_word c) v e (next_word d) (omega arith)) in
    (p.0, p.1, subst (λ (x : ℕ). Chain W' x cs) same (first-chain W W' c v (next_at W d) cs e p.2))

-- What holds at the loop's test, of the chain cs that is turned onto ds.
pub record Turning (W : List ℕ) (cs ds Z : List ℕ) (head s hi : ℕ) : Type 0 where
  pub left : List ℕ
  pub back : List ℕ
  pub lo : ℕ
  pub ahead : Chain Z s left
  pub turned : Chain Z head back
  pub whole : onto left back ≡ onto cs ds
  pub inc : Inc lo hi left
  pub apart : Apart left back
  pub same : (j : ℕ) → OffNext cs j → wd Z j ≡ wd W j
  pub links : (j : ℕ) → OffNext cs j → OffNext left j
  pub long : length Z ≡ length W

pub turn-start : {W : List ℕ} {head s hi : ℕ} (cs ds : List ℕ) → Chain W s cs → Chain W head ds → Inc 1 hi cs → Apart cs ds
    → Turning W cs ds W head s hi
turn-start cs ds c d i a =
    record {
      left = cs;
      back = ds;
      lo = 1;
      ahead = c;
      turned = d;
      whole = refl;
      inc = i;
      apart = a;
      same = λ j o. refl;
      links = λ j o. o;
      long = refl;
    }

-- the slot that a turn links
pub turn-slot : {W cs ds Z : List ℕ} {head s hi : ℕ} → Turning W cs ds Z head s hi → s ≢ 0 → s < hi
turn-slot {W} {cs} {ds} {Z} {head} {s} {hi} v n = go v.lo v.left v.ahead v.inc
  where
    go : (lo : ℕ) (left : List ℕ) → Chain Z s left → Inc lo hi left → s < hi
    go lo [] c i = absurd (n c)
    go lo (d ∷ left) c i = omega (arith, c.0, inc-le left i.1)

pub turn_step : {W cs ds Z : List ℕ} {head s hi : ℕ} (Z' : List ℕ) → Turning W cs ds Z head s hi → s ≢ 0 → Z' ≡ set Z (next_word s) head
    → slot_end s ≤ length Z
    → Turning W cs ds Z' s (next_at Z s) hi
turn_step {W} {cs} {ds} {Z} {head} {s} {hi} Z' v n e room = go v.lo v.left v.ahead v.inc v.apart v.whole v.links
  where
    go : (lo : ℕ) (left : List ℕ) → Chain Z s left → Inc lo hi left → Apart left v.back → onto left v.back ≡ onto cs ds
        → ((j : ℕ) → OffNext cs j → OffNext left j)
        → Turning W cs ds Z' s (next_at Z s) hi
    go lo [] c i a w l = absurd (n c)
    go lo (d ∷ left) c i a w l =
        let at : s ≡ d = c.0 in
        let links : Chain Z (next_at Z s) left = subst (λ (x : ℕ). Chain Z (next_at Z x) left) (sym at) c.2 in
        let out : Out s v.back = subst (λ (x : ℕ). Out x v.back) (sym at) a.0 in
        record {
          left = left;
          back = s ∷ v.back;
          lo = d + 1;
          ahead =
              chain-keep Z Z' (next_at Z s) left (d + 1) hi i.1
              (λ x y z. set_other Z Z' (next_word s) head e (next_word x) (omega arith)) links;
          turned = (
            refl,
            omega (arith, c.1),
            subst (λ (x : ℕ). Chain Z' x v.back) (sym (set_same Z Z' (next_word s) head e (omega arith)))
                (beside-chain Z Z' s head head v.back e out v.turned),
          );
          whole = subst (λ (x : ℕ). onto left (x ∷ v.back) ≡ onto cs ds) (sym at) w;
          inc = i.1;
          apart = subst (λ (x : ℕ). Apart left (x ∷ v.back)) (sym at) (apart_more d (d + 1) hi left v.back (omega arith) i.1 a.1);
          same = λ j o. set_other Z Z' (next_word s) head e j (λ h. (l j o).0 (subst (λ (x : ℕ). j ≡ next_word x) at h)) ∙ v.same j o;
          links = λ j o. (l j o).1;
          long = set_long Z Z' (next_word s) head e ∙ v.long;
        }

pub turn-done : {W cs ds Z : List ℕ} {head s hi : ℕ} → Turning W cs ds Z head s hi → s ≡ 0 → Chain Z head (onto cs ds)
turn-done {W} {cs} {ds} {Z} {head} {s} {hi} v e = go v.left v.ahead v.whole
  where
    go : (left : List ℕ) → Chain Z s left → onto left v.back ≡ onto cs ds → Chain Z head (onto cs ds)
    go [] c w = subst (λ (x : List ℕ). Chain Z head x) w v.turned
    go (d ∷ left) c w = absurd (omega (arith, c.0, c.1))

-- ---- `gather`

pub record Gathering (W : List ℕ) (array index : ℕ) (Z : List ℕ) (head s : ℕ) : Type 0 where
  pub at : (g : CanGather W array index) → Turning W g.cs g.ds Z head s g.hi
  pub long : length Z ≡ length W

pub gather-start : {W : List ℕ} {array index head s : ℕ} → head ≡ first_at W array → s ≡ first_at W index → Gathering W array index W head s
gather-start {W} a b =
    record {
      at =
          λ g.
          turn-start g.cs g.ds (subst (λ (x : ℕ). Chain W x g.cs) (sym b) g.chain)
          (subst (λ (x : ℕ). Chain W x g.ds) (sym a) g.gathered) g.inc g.apart;
      long = refl;
    }

module _ {W : List ℕ} {array index : ℕ} {Z : List ℕ} {head s : ℕ} (v : Gathering W array index Z head s) where
  pub gather-in : CanGather W array index → s ≢ 0 → slot_end s ≤ length Z
  gather-in g n = omega (arith, turn-slot (v.at g) n, g.within, v.long)

  pub gather-step : (Z' : List ℕ) (next : ℕ) → CanGather W array index → s ≢ 0 → Z' ≡ set Z (next_word s) head → next ≡ next_at Z s
      → Gathering W array index Z' s next
  gather-step Z' next g0 n e is =
      record {
        at = λ g. subst (λ (x : ℕ). Turning W g.cs g.ds Z' s x g.hi) (sym is) (turn_step Z' (v.at g) n e (gather-in g n));
        long = set_long Z Z' (next_word s) head e ∙ v.long;
      }

  pub gather-done : (Z' : List ℕ) → s ≡ 0 → Z' ≡ set Z (first_word array) head → Gathered W array index Z'
  gather-done Z' n e =
      record {
        linked = λ g.
            subst (λ (x : ℕ). Chain Z' x (onto g.cs g.ds))
            (sym (set_same Z Z' (first_word array) head e (omega (arith, g.own, g.within, v.long))))
            (first-chain Z Z' array head head (onto g.cs g.ds) e (turn-done (v.at g) n));
        same = λ g j a o. set_other Z Z' (first_word array) head e j a ∙ (v.at g).same j o;
        long = set_long Z Z' (first_word array) head e ∙ v.long;
      }

-- how much of a chain that rises below n is left from the slot s on: nothing at its end
unfoldable pub to_turn : ℕ → ℕ → ℕ
to_turn n s = elim (eqb s 0) [ true ↦ 0 | false ↦ n - s ]

turn-ended : (n s : ℕ) → s ≡ 0 → to_turn n s ≡ 0
turn-ended n s e = unfold to_turn in rw (eq-eqb s 0 e, to_turn) refl

turn-left : (n s : ℕ) → s ≢ 0 → to_turn n s ≡ n - s
turn-left n s e = unfold to_turn in rw (ne_eqb s 0 e, to_turn) refl

falls : (n hi s next : ℕ) → s ≢ 0 → s < hi → slot_start hi ≤ n → (next ≡ 0) ⊎ (s < next) → to_turn n next < to_turn n s
falls n hi s next e h w (inl z) = omega (arith, turn-ended n next z, turn-left n s e)
falls n hi s next e h w (inr z) = omega (arith, turn-left n next (omega arith), turn-left n s e)

pub gather-falls : {W : List ℕ} {array index : ℕ} {Z : List ℕ} {head s : ℕ} (next : ℕ) → Gathering W array index Z head s
    → CanGather W array index → s ≢ 0 → next ≡ next_at Z s
    → to_turn (length W) next < to_turn (length W) s
gather-falls {W} {Z = Z} {head = head} {s = s} next v g n e =
    let t = v.at g in
    falls (length W) g.hi s next n (turn-slot t n) g.within (go t.lo t.left t.ahead t.inc)
  where
    after-it : (d : ℕ) (left : List ℕ) → next ≡ next_at Z s → s ≡ d → Chain Z (next_at Z d) left → Inc (d + 1) g.hi left
        → (next ≡ 0) ⊎ (s < next)
    after-it d [] e' at c i = inl (e' ∙ ap (λ (x : ℕ). next_at Z x) at ∙ c)
    after-it d (f ∷ left) e' at c i = let same : next ≡ f = e' ∙ ap (λ (x : ℕ). next_at Z x) at ∙ c.0 in inr (omega (arith, i.0))

    go : (lo : ℕ) (left : List ℕ) → Chain Z s left → Inc lo g.hi left → (next ≡ 0) ⊎ (s < next)
    go lo [] c i = absurd (n c)
    go lo (d ∷ left) c i = after-it d left e c.0 c.2 i.1

-- ---- `turn_round`

pub dec-out : (cs : List ℕ) (top s : ℕ) → Dec top cs → top ≤ s → Out s cs
dec-out [] top s h e = tt
dec-out (c ∷ cs) top s h e = (omega (arith, h.0), dec-out cs c s h.1 (omega (arith, h.0)))

-- What holds at the loop's test, of the chain cs that falls: what is turned rises above what is left, and its classes are gathered.
pub record RoundAt (W cs Z : List ℕ) (head classes s hi : ℕ) : Type 0 where
  pub left : List ℕ
  pub back : List ℕ
  pub top : ℕ
  pub ahead : Chain Z s left
  pub turned : Chain Z head back
  pub whole : onto left back ≡ onto cs []
  pub falls : Dec top left
  pub rises : Inc top hi back
  pub noted : (i : ℕ) → bit_at classes i ≡ some_notes W back i
  pub same : (j : ℕ) → OffNext back j → wd Z j ≡ wd W j

pub record Rounding (W : List ℕ) (a : ℕ) (Z : List ℕ) (head classes s : ℕ) : Type 0 where
  pub at : (g : CanRound W a) → RoundAt W g.cs Z head classes s g.hi
  pub long : length Z ≡ length W

pub round-start : {W : List ℕ} {a s : ℕ} → s ≡ first_at W a → Rounding W a W 0 0 s
unfolding some_notes
round-start {W} e =
    record {
      at = λ g.
          record {
            left = g.cs;
            back = [];
            top = g.hi;
            ahead = subst (λ (x : ℕ). Chain W x g.cs) (sym e) g.chain;
            turned = refl;
            whole = refl;
            falls = g.falls;
            rises = le_refl g.hi;
            noted = λ i. bit-zero i;
            same = λ j o. refl;
          };
      long = refl;
    }

module _ {W : List ℕ} {a : ℕ} {Z : List ℕ} {head classes s : ℕ} (v : Rounding W a Z head classes s) where
  pub round-in : CanRound W a → s ≢ 0 → slot_end s ≤ length Z
  round-in g n = go (v.at g).left (v.at g).ahead (v.at g).falls
    where
      go : (left : List ℕ) → Chain Z s left → Dec (v.at g).top left → slot_end s ≤ length Z
      go [] c f = absurd (n c)
      go (d ∷ left) c f = omega (arith, c.0, f.0, inc-le (v.at g).back (v.at g).rises, g.within, v.long)

  -- the chain falls
  pub round-less : (next : ℕ) → CanRound W a → s ≢ 0 → next ≡ next_at Z s → next < s
  round-less next g n e = go (v.at g).left (v.at g).ahead (v.at g).falls
    where
      after-it : (d : ℕ) (left : List ℕ) → s ≡ d → Chain Z (next_at Z d) left → Dec d left → next < s
      after-it d [] at c f = let z : next ≡ 0 = e ∙ ap (λ (x : ℕ). next_at Z x) at ∙ c in omega arith
      after-it d (h ∷ left) at c f = let z : next ≡ h = e ∙ ap (λ (x : ℕ). next_at Z x) at ∙ c.0 in omega (arith, f.0)

      go : (left : List ℕ) → Chain Z s left → Dec (v.at g).top left → next < s
      go [] c f = absurd (n c)
      go (d ∷ left) c f = after-it d left c.0 c.2 f.1

  pub round-step : (Z' : List ℕ) (next classes' : ℕ) → CanRound W a → s ≢ 0 → Z' ≡ set Z (next_word s) head → next ≡ next_at Z s
      → ((i : ℕ) → bit_at classes' i ≡ (bit_at classes i || bit_at (classes_at Z' s) i)) → Rounding W a Z' s classes' next
  unfolding some_notes
  round-step Z' next classes' g0 n e is ec =
      record {
        at = λ g. go g (v.at g) (v.at g).left (v.at g).ahead (v.at g).falls (v.at g).whole;
        long = set_long Z Z' (next_word s) head e ∙ v.long;
      }
    where
      go : (g : CanRound W a) (t : RoundAt W g.cs Z head classes s g.hi) (left : List ℕ) → Chain Z s left → Dec t.top left
          → onto left t.back ≡ onto g.cs []
          → RoundAt W g.cs Z' s classes' next g.hi
      go g t [] c f w = absurd (n c)
      go g t (d ∷ left) c f w =
          let at : s ≡ d = c.0 in
          let low : d < t.top = f.0 in
          let other = set_other Z Z' (next_word s) head e in
          let link : next_at Z' s ≡ head = set_same Z Z' (next_word s) head e (omega (arith, round-in g n)) in
          let word : classes_at Z' s ≡ classes_at W d
          =
          other (classes_word s) (omega arith) ∙ t.same (classes_word s) (off-word t.back s classes_field (omega arith) (omega arith))
          ∙ ap (λ (x : ℕ). classes_at W x) at in
          let next' : next_at Z d ≡ next = sym (is ∙ ap (λ (x : ℕ). next_at Z x) at) in
          let kept : Chain Z' head t.back =
          beside-chain Z Z' s head head t.back e (out_below t.back t.top g.hi t.rises (omega arith)) t.turned in
          record {
            left = left;
            back = d ∷ t.back;
            top = d;
            ahead =
                subst (λ (x : ℕ). Chain Z' x left) next'
                (beside-chain Z Z' s head (next_at Z d) left e (dec-out left d s f.1 (omega arith)) c.2);
            turned = (
              at,
              c.1,
              subst (λ (x : ℕ). Chain Z' (next_at Z' x) t.back) at
                  (subst (λ (x : ℕ). Chain Z' x t.back) (sym link) kept),
            );
            whole = w;
            falls = f.1;
            rises = (le_refl d, inc-lower t.back g.hi (omega arith) t.rises);
            noted =
                λ i.
                ec i ∙ ap₂ (λ (x : Bool) (y : Bool). x || y) (t.noted i) (ap (λ (x : ℕ). bit_at x i) word)
                ∙ or_comm (some_notes W t.back i) (bit_at (classes_at W d) i);
            same = λ j o. other j (λ h. o.0 (subst (λ (x : ℕ). j ≡ next_word x) at h)) ∙ t.same j o.1;
          }

  pub round-done : (Y Y' : List ℕ) → s ≡ 0 → Y ≡ set Z (first_word a) head → Y' ≡ set Y (classes_word a) classes → Rounded W a Y'
  round-done Y Y' n ey ey' =
      record {
        linked = λ g.
            subst (λ (x : List ℕ). Chain Y' (first_at Y' a) x) (all g)
            (subst (λ (x : ℕ). Chain Y' x (v.at g).back) (sym (first g))
            (noted-chain (v.at g).back head (first-chain Z Y a head head (v.at g).back ey (v.at g).turned)));
        classes = λ g i. ap (λ (x : ℕ). bit_at x i) (word g) ∙ (v.at g).noted i ∙ ap (λ (x : List ℕ). some_notes W x i) (all g);
        same =
            λ g j p q o.
            set_other Y Y' (classes_word a) classes ey' j q ∙ set_other Z Y (first_word a) head ey j p
            ∙ (v.at g).same j (subst (λ (x : List ℕ). OffNext x j) (sym (all g)) o);
        long = set_long Y Y' (classes_word a) classes ey' ∙ set_long Z Y (first_word a) head ey ∙ v.long;
      }
    where
      none_left : (left back : List ℕ) (all : List ℕ) → Chain Z s left → onto left back ≡ all → back ≡ all
      none_left [] back all c w = w
      none_left (d ∷ left) back all c w = absurd (omega (arith, c.0, c.1))

      all : (g : CanRound W a) → (v.at g).back ≡ onto g.cs []
      all g = none_left (v.at g).left (v.at g).back (onto g.cs []) (v.at g).ahead (v.at g).whole

      word : (g : CanRound W a) → classes_at Y' a ≡ classes
      word g = set_same Y Y' (classes_word a) classes ey' (omega (arith, g.own, g.within, v.long, set_long Z Y (first_word a) head ey))

      first : (g : CanRound W a) → first_at Y' a ≡ head
      first g =
          set_other Y Y' (classes_word a) classes ey' (first_word a) (omega arith)
          ∙ set_same Z Y (first_word a) head ey (omega (arith, g.own, g.within, v.long))

      noted-chain : (cs : List ℕ) (f : ℕ) → Chain Y f cs → Chain Y' f cs
      noted-chain [] f p = p
      noted-chain (d ∷ cs) f p =
          let same : next_at Y d ≡ next_at Y' d = sym (set_other Y Y' (classes_word a) classes ey' (next_word d) (omega arith)) in
          (p.0, p.1, subst (λ (x : ℕ). Chain Y' x cs) same (noted-chain cs (next_at Y d) p.2))
