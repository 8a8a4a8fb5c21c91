-- The loop of `give_children`: the run is linked from its last slot to its first, and the classes of what is linked are gathered.
use Prim.Native.Nat.{ℕ, ◌+◌, ◌-◌, ◌≤◌, ◌<◌}
use mathlib.Core.{Path.{◌≡◌, refl, sym, ap, ap₂, ◌∙◌, subst}, Logic.{◌≢◌}, Bool.{Bool, ◌||◌, or_comm}}
use mathlib.Core.List.{List, [], ◌∷◌, ◌++◌, append-nil}
use native.Mathlib.Omega.{arith}
use lib.ListN.{length, set}
use Rattle.ops.{specs.Classes.{bit_at}, proofs.BitLaws.{bit-zero}}
use Rattle.nodes.specs.Store.{wd, classes_field, slot_start, slot_end, first_word, next_word, classes_word, first_at, next_at, classes_at}
use Rattle.nodes.specs.{Store.{Chain, Seg, Inc, OffNext, onto}, Children.{CanGive, Given, some_notes}}
use Rattle.nodes.proofs.Runs.{set_same, set_other, set_long, inc-le, off-above, off-word, chain-keep, seg-onto, inc-onto, seg-unique}

-- the slots of `left`, the last first, are not linked yet, and those of `done` are
pub record GiveAt (W : List ℕ) (p from n : ℕ) (Z : List ℕ) (i head classes : ℕ) (left done : List ℕ) : Type 0 where
  pub hi : ℕ
  pub whole : Seg W from (onto left done)
  pub inc : Inc 1 hi (onto left done)
  pub at : i ≡ length left
  pub count : length left + length done ≡ n
  pub chain : Chain Z head done
  pub noted : (b : ℕ) → bit_at classes b ≡ some_notes W done b
  pub same : (j : ℕ) → OffNext done j → wd Z j ≡ wd W j
  pub own : p < hi
  pub below : slot_start hi ≤ from
  pub room : from + n ≤ length W
  pub long : length Z ≡ length W

abbrev pub Giving : List ℕ → ℕ → ℕ → ℕ → List ℕ → ℕ → ℕ → ℕ → Type 0
Giving W p from n Z i head classes = (left : List ℕ) × (done : List ℕ) × GiveAt W p from n Z i head classes left done

back : List ℕ → List ℕ → List ℕ
back [] l = l
back (x ∷ xs) l = back xs (x ∷ l)

onto-turned : (xs l m : List ℕ) → onto (back xs l) m ≡ onto l (xs ++ m)
unfolding back
onto-turned [] l m = refl
onto-turned (x ∷ xs) l m = onto-turned xs (x ∷ l) m

length_back : (xs l : List ℕ) → length (back xs l) ≡ length xs + length l
unfolding back
length_back [] l = omega arith
length_back (x ∷ xs) l = let e = length_back xs (x ∷ l) in omega arith

pub give-start : {W : List ℕ} {p from n : ℕ} → CanGive W p from n → Giving W p from n W n 0 0
unfolding some_notes
give-start {W} {p} {from} {n} g =
    let e : onto (back g.cs []) [] ≡ g.cs = onto-turned g.cs [] [] ∙ append-nil g.cs in
    let k = length_back g.cs [] in (
      back g.cs [],
      [],
      record {
        hi = g.hi;
        whole = rw e g.seg;
        inc = rw e g.inc;
        at = omega (arith, g.count);
        count = omega (arith, g.count);
        chain = refl;
        noted = λ b. bit-zero b;
        same = λ j o. refl;
        own = g.own;
        below = g.below;
        room = g.room;
        long = refl;
      },
    )

-- what a turn asks
pub give-in : {W : List ℕ} {p from n : ℕ} {Z : List ℕ} {i head classes : ℕ} (left : List ℕ) {done : List ℕ}
    → GiveAt W p from n Z i head classes left done → 0 < i
    → (from + (i - 1) < length Z) × (slot_end (wd Z (from + (i - 1))) ≤ length Z)
give-in [] v n = absurd (omega arith)
give-in {W} {p} {from} {n} {Z} {i} (c ∷ left) {done} v h =
    let k : i - 1 ≡ length left = omega arith in
    let q = inc-onto left (c ∷ done) 1 v.hi v.inc in
    let u = inc-le done q.2.1 in
    let e : wd Z (from + length left) ≡ c =
    v.same _ (off-above done (c + 1) v.hi q.2.1 (omega arith)) ∙ (seg-onto W from left (c ∷ done) v.whole).0 in
    rw k (omega arith)

pub give-step : {W : List ℕ} {p from n : ℕ} {Z : List ℕ} {i head classes : ℕ} (left : List ℕ) {done : List ℕ}
    → GiveAt W p from n Z i head classes left done → 0 < i
    → (Z' : List ℕ) (s classes' : ℕ) → s ≡ wd Z (from + (i - 1)) → Z' ≡ set Z (next_word s) head
    → ((b : ℕ) → bit_at classes' b ≡ (bit_at classes b || bit_at (classes_at Z' s) b))
    → Giving W p from n Z' (i - 1) s classes'
unfolding some_notes
give-step [] v n Z' s classes' es ez ec = absurd (omega arith)
give-step {W} {p} {from} {n} {Z} {i} {head} {classes} (c ∷ left) {done} v h Z' s classes' es ez ec =
    let k : i - 1 ≡ length left = omega arith in
    let q = inc-onto left (c ∷ done) 1 v.hi v.inc in
    let u = inc-le done q.2.1 in
    let e : wd Z (from + length left) ≡ c =
    v.same _ (off-above done (c + 1) v.hi q.2.1 (omega arith)) ∙ (seg-onto W from left (c ∷ done) v.whole).0 in
    let sc : s ≡ c = es ∙ rw k e in
    let other = set_other Z Z' (next_word s) head ez in
    let link : next_at Z' s ≡ head = set_same Z Z' (next_word s) head ez (omega arith) in
    let word : classes_at Z' s ≡ classes_at W c
    =
    other (classes_word s) (omega arith) ∙ v.same (classes_word s) (off-word done s classes_field (omega arith) (omega arith))
    ∙ ap (λ (x : ℕ). classes_at W x) sc in
    let rest : Chain Z' head done = chain-keep Z Z' head done (c + 1) v.hi q.2.1 (λ d x y. other (next_word d) (omega arith))
    v.chain in (
      left,
      c ∷ done,
      record {
        hi = v.hi;
        whole = v.whole;
        inc = v.inc;
        at = omega arith;
        count = omega (arith, v.count);
        chain = (sc, omega arith, subst (λ (x : ℕ). Chain Z' (next_at Z' x) done) sc (rw link rest));
        noted =
            λ b.
            ec b ∙ ap₂ (λ (x : Bool) (y : Bool). x || y) (v.noted b) (ap (λ (x : ℕ). bit_at x b) word)
            ∙ or_comm (some_notes W done b) (bit_at (classes_at W c) b);
        same = λ j o. other j (λ ej. o.0 (rw sc at ej)) ∙ v.same j o.1;
        own = v.own;
        below = v.below;
        room = v.room;
        long = set_long Z Z' (next_word s) head ez ∙ v.long;
      },
    )

pub give-done : {W : List ℕ} {p from n : ℕ} {Z : List ℕ} {i head classes : ℕ} (left : List ℕ) {done : List ℕ}
    → GiveAt W p from n Z i head classes left done → i ≤ 0
    → (Y Y' : List ℕ) → Y ≡ set Z (first_word p) head → Y' ≡ set Y (classes_word p) classes → Given W p from n Y'
give-done {W} {p} {from} {n} {Z} {i} {head} {classes} [] {done} v h Y Y' ey ey' =
    let u = inc-le done v.inc in
    let long = set_long Z Y (first_word p) head ey in
    let other : (j : ℕ) → j ≢ first_word p → j ≢ classes_word p → wd Y' j ≡ wd Z j
    = λ j a b. set_other Y Y' (classes_word p) classes ey' j b ∙ set_other Z Y (first_word p) head ey j a in
    let first : first_at Y' p ≡ head =
    set_other Y Y' (classes_word p) classes ey' (first_word p) (omega arith) ∙ set_same Z Y (first_word p) head ey (omega arith) in
    let word : classes_at Y' p ≡ classes = set_same Y Y' (classes_word p) classes ey' (omega arith) in
    let ch : Chain Y' (first_at Y' p) done
    = rw first (chain-keep Z Y' head done 1 v.hi v.inc (λ d x y. other (next_word d) (omega arith) (omega arith)) v.chain) in
    let is : (cs : List ℕ) → Seg W from cs → length cs ≡ n → done ≡ cs =
    λ cs g e. seg-unique W from done cs (omega (arith, v.count)) v.whole g in
    record {
      linked = λ cs g e. subst (λ (l : List ℕ). Chain Y' (first_at Y' p) l) (is cs g e) ch;
      classes = λ cs g e b. ap (λ (x : ℕ). bit_at x b) word ∙ v.noted b ∙ ap (λ (l : List ℕ). some_notes W l b) (is cs g e);
      same = λ cs g e j nj nk o. other j nj nk ∙ v.same j (subst (λ (l : List ℕ). OffNext l j) (sym (is cs g e)) o);
      long = set_long Y Y' (classes_word p) classes ey' ∙ long ∙ v.long;
    }
give-done (c ∷ left) v h Y Y' ey ey' = absurd (omega arith)
