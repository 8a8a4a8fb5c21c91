-- The loops that follow a chain: `take_chain` copies it, `count_chain` counts it, `last_of_chain` ends at its last slot. Each has what
-- holds at its test (an `..At` record over the part that is passed and the part that is left), its start, what a turn asks, a turn, and the
-- end.
use Prim.Native.Nat.{ℕ, ◌+◌, ◌-◌, ◌≤◌, ◌<◌}
use mathlib.Core.{Path.{◌≡◌, refl, sym, ap, ◌∙◌, subst}, Logic.{◌≢◌, ◌⊎◌, inl, inr}, List.{List, [], ◌∷◌, ◌++◌, append_assoc, append-nil}}
use native.Mathlib.Omega.{arith}
use lib.ListN.{length, set, length-set, length-append}
use Rattle.nodes.specs.Store.{wd, slot_start, slot_end, next_word, next_at, Chain, Seg, Inc}
use Rattle.nodes.specs.Children.{CanTake, Taken, CanFollow, Counted, last_from, IsLast}
use Rattle.nodes.proofs.Runs.{wd-same, wd-other, inc-le, seg-keep, seg-snoc, chain-unique}

-- ---- `take_chain`

pub record TakeAt (W : List ℕ) (first to : ℕ) (Z : List ℕ) (s i : ℕ) (done left : List ℕ) : Type 0 where
  pub hi : ℕ
  pub lo : ℕ
  pub whole : Chain W first (done ++ left)
  pub chain : Chain W s left
  pub inc : Inc lo hi left
  pub below : slot_start hi ≤ to
  pub seg : Seg Z to done
  pub at : i ≡ to + length done
  pub room : i + length left ≤ length W
  pub same : (j : ℕ) → (j < to) ⊎ (i ≤ j) → wd Z j ≡ wd W j
  pub long : length Z ≡ length W

abbrev pub Taking : List ℕ → ℕ → ℕ → List ℕ → ℕ → ℕ → Type 0
Taking W first to Z s i = (done : List ℕ) × (left : List ℕ) × TakeAt W first to Z s i done left

pub take-start : {W : List ℕ} {first to : ℕ} → CanTake W first to → Taking W first to W first to
take-start p = (
  [],
  p.cs,
  record {
    hi = p.hi;
    lo = 1;
    whole = p.chain;
    chain = p.chain;
    inc = p.inc;
    below = p.below;
    seg = tt;
    at = omega arith;
    room = p.room;
    same = λ j o. refl;
    long = refl;
  },
)

-- the slot is in the store, and there is room
pub take_in : {W : List ℕ} {first to : ℕ} {Z : List ℕ} {s i : ℕ} {done : List ℕ} (left : List ℕ) → TakeAt W first to Z s i done left → s ≢ 0
    → (slot_end s ≤ to) × (to ≤ i) × (i < length Z)
take_in [] v n = absurd (n v.chain)
take_in {s = s} (c ∷ left) v n =
    let e = v.chain.0 in
    let u = inc-le left v.inc.1 in
    omega arith

out_step : (W Z : List ℕ) (to i s : ℕ) → to ≤ i → ((j : ℕ) → (j < to) ⊎ (i ≤ j) → wd Z j ≡ wd W j)
    → (j : ℕ) → (j < to) ⊎ (i + 1 ≤ j) → wd (set Z i s) j ≡ wd W j
out_step W Z to i s b h j (inl o) = wd-other Z i s j (omega arith) ∙ h j (inl o)
out_step W Z to i s b h j (inr o) = wd-other Z i s j (omega arith) ∙ h j (inr (omega arith))

pub take_step : {W : List ℕ} {first to : ℕ} {Z : List ℕ} {s i : ℕ} {done : List ℕ} (left : List ℕ) → TakeAt W first to Z s i done left
    → s ≢ 0
    → Taking W first to (set Z i s) (next_at (set Z i s) s) (i + 1)
take_step [] v n = absurd (n v.chain)
take_step {W} {first} {to} {Z} {s} {i} {done} (c ∷ left) v n =
    let b = take_in (c ∷ left) v n in
    let e = v.chain.0 in
    let link : next_at (set Z i s) s ≡ next_at W c
    = wd-other Z i s (next_word s) (omega arith) ∙ v.same (next_word s) (inl (omega arith)) ∙ ap (λ (x : ℕ). next_at W x) e in
    let last : wd (set Z i s) (to + length done) ≡ c
    = ap (λ (x : ℕ). wd (set Z i s) x) (sym v.at) ∙ wd-same Z i s b.2 ∙ e in (
      done ++ c ∷ [],
      left,
      record {
        hi = v.hi;
        lo = c + 1;
        whole = rw append_assoc v.whole;
        chain = rw link v.chain.2;
        inc = v.inc.1;
        below = v.below;
        seg = seg-snoc (set Z i s) to done c (seg-keep Z (set Z i s) to done (λ j p q. wd-other Z i s j (omega arith)) v.seg) last;
        at = omega (arith, length-append done (c ∷ []), v.at);
        room = omega (arith, v.room);
        same = out_step W Z to i s b.1 v.same;
        long = length-set Z i s ∙ v.long;
      },
    )

pub take_done : {W : List ℕ} {first to : ℕ} {Z : List ℕ} {s i : ℕ} {done : List ℕ} (left : List ℕ) → TakeAt W first to Z s i done left
    → s ≡ 0
    → Taken W first to (i - to) Z
take_done {W} {first} {to} {Z} {s} {i} {done} [] v n =
    let whole : Chain W first done = rw append-nil at v.whole in
    let n' : i - to ≡ length done = omega arith in
    let back : to + (i - to) ≡ i = omega arith in
    record {
      count = λ cs p. n' ∙ ap length (chain-unique W first done cs whole p);
      seg = λ cs p. subst (λ (l : List ℕ). Seg Z to l) (chain-unique W first done cs whole p) v.seg;
      same = λ j o. v.same j (rw back at o);
      long = v.long;
    }
take_done (c ∷ left) v n = absurd (omega arith)

-- ---- `count_chain`

pub record CountAt (W : List ℕ) (first s n : ℕ) (left : List ℕ) : Type 0 where
  pub hi : ℕ
  pub lo : ℕ
  pub whole : (cs : List ℕ) → Chain W first cs → length cs ≡ n + length left
  pub chain : Chain W s left
  pub inc : Inc lo hi left
  pub within : slot_start hi ≤ length W
  pub passed : n < lo

abbrev pub Counting : List ℕ → ℕ → ℕ → ℕ → Type 0
Counting W first s n = (left : List ℕ) × CountAt W first s n left

pub count-start : {W : List ℕ} {first : ℕ} → CanFollow W first → Counting W first first 0
count-start {W} {first} p = (
  p.cs,
  record {
    hi = p.hi;
    lo = 1;
    whole = λ cs c. ap length (chain-unique W first cs p.cs c p.chain) ∙ omega arith;
    chain = p.chain;
    inc = p.inc;
    within = p.within;
    passed = omega arith;
  },
)

-- the slot is in the store, and more slots have numbers below it than are counted
pub count-in : {W : List ℕ} {first s n : ℕ} (left : List ℕ) → CountAt W first s n left → s ≢ 0 → (slot_end s ≤ length W) × (n < s)
count-in [] v h = absurd (h v.chain)
count-in (c ∷ left) v h =
    let e = v.chain.0 in
    let u = inc-le left v.inc.1 in
    omega arith

pub count-step : {W : List ℕ} {first s n : ℕ} (left : List ℕ) → CountAt W first s n left → s ≢ 0 → Counting W first (next_at W s) (n + 1)
count-step [] v h = absurd (h v.chain)
count-step {W} {first} {s} {n} (c ∷ left) v h =
    let e = v.chain.0 in (
      left,
      record {
        hi = v.hi;
        lo = c + 1;
        whole = λ cs p. v.whole cs p ∙ omega arith;
        chain = rw e v.chain.2;
        inc = v.inc.1;
        within = v.within;
        passed = omega (arith, v.passed, v.inc.0);
      },
    )

pub count-done : {W : List ℕ} {first s n : ℕ} (left : List ℕ) → CountAt W first s n left → s ≡ 0 → Counted W first n
count-done [] v h = record { count = λ cs p. sym (v.whole cs p ∙ omega arith) }
count-done (c ∷ left) v h = absurd (omega arith)

-- ---- `last_of_chain`

pub record LastAt (W : List ℕ) (first last s : ℕ) (left : List ℕ) : Type 0 where
  pub hi : ℕ
  pub whole : (c : ℕ) (cs : List ℕ) → Chain W first (c ∷ cs) → last_from c cs ≡ last_from last left
  pub chain : Chain W s left
  pub inc : Inc (last + 1) hi left
  pub within : slot_start hi ≤ length W

abbrev pub Lasting : List ℕ → ℕ → ℕ → ℕ → Type 0
Lasting W first last s = (left : List ℕ) × LastAt W first last s left

last-from : {W : List ℕ} {first : ℕ} (hi : ℕ) (cs : List ℕ) → Chain W first cs → Inc 1 hi cs → slot_start hi ≤ length W → first ≢ 0
    → Lasting W first first (next_at W first)
last-from hi [] ch i w n = absurd (n ch)
last-from {W} {first} hi (c ∷ cs) ch i w n =
    let e = ch.0 in
    let own : Chain W first (c ∷ cs) = ch in (
      cs,
      record {
        hi = hi;
        whole =
            λ d ds p.
            let u = chain-unique W first (d ∷ ds) (c ∷ cs) p own in
            let h : d ≡ c = cc in
            let t : ds ≡ cs = cc in
            let f : first ≡ c = e in
            cc;
        chain = rw e ch.2;
        inc = rw e i.1;
        within = w;
      },
    )

pub last-start : {W : List ℕ} {first : ℕ} → CanFollow W first → first ≢ 0 → Lasting W first first (next_at W first)
last-start p n = last-from p.hi p.cs p.chain p.inc p.within n

-- the first slot is in the store
pub last-first : {W : List ℕ} {first : ℕ} → CanFollow W first → first ≢ 0 → slot_end first ≤ length W
last-first {W} {first} p n = within p.cs p.chain p.inc
  where
    within : (cs : List ℕ) → Chain W first cs → Inc 1 p.hi cs → slot_end first ≤ length W
    within [] ch i = absurd (n ch)
    within (c ∷ cs) ch i = let e = ch.0 in let u = inc-le cs i.1 in omega (arith, p.within)

pub last-in : {W : List ℕ} {first last s : ℕ} (left : List ℕ) → LastAt W first last s left → s ≢ 0 → (slot_end s ≤ length W) × (last < s)
last-in [] v h = absurd (h v.chain)
last-in (c ∷ left) v h =
    let e = v.chain.0 in
    let u = inc-le left v.inc.1 in
    omega arith

pub last_step : {W : List ℕ} {first last s : ℕ} (left : List ℕ) → LastAt W first last s left → s ≢ 0 → Lasting W first s (next_at W s)
unfolding last_from
last_step [] v h = absurd (h v.chain)
last_step {s = s} (c ∷ left) v h =
    let e = v.chain.0 in (
      left,
      record {
        hi = v.hi;
        whole = λ d ds p. v.whole d ds p ∙ ap (λ (x : ℕ). last_from x left) (sym e);
        chain = rw e v.chain.2;
        inc = rw e v.inc.1;
        within = v.within;
      },
    )

pub last_done : {W : List ℕ} {first last s : ℕ} (left : List ℕ) → LastAt W first last s left → s ≡ 0 → IsLast W first last
unfolding last_from
last_done [] v h = record { last = λ c cs p. sym (v.whole c cs p) }
last_done (c ∷ left) v h = absurd (omega arith)
