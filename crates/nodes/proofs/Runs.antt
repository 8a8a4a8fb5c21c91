-- Chains of slots and runs of words: what a change of words leaves of them, and how they go on from one another.
use Prim.Native.Nat.{ℕ, suc, ◌+◌, ◌≤◌, ◌<◌}
use mathlib.Core.{Path.{◌≡◌, refl, sym, ◌∙◌, subst}, Logic.{◌≢◌}, List.{List, [], ◌∷◌, ◌++◌}}
use native.Mathlib.{Omega.{arith}, Nat.{add-zero}}
use lib.{ListN.{length, set, length-set}, Seq.{get_or-set_same, get_or-set_other}}
use Rattle.nodes.specs.Store.{wd, slot_words, next_field, slot_start, next_at, Chain, Seg, SegB, Inc, Out, OffNext, onto}

pub wd-same : (W : List ℕ) (i v : ℕ) → i < length W → wd (set W i v) i ≡ v
wd-same W i v h = get_or-set_same W i v 0 h

pub wd-other : (W : List ℕ) (i v j : ℕ) → j ≢ i → wd (set W i v) j ≡ wd W j
wd-other W i v j h = get_or-set_other W i j v 0 h

-- the same of a list that a store is known to have made
pub set_same : (W W' : List ℕ) (i v : ℕ) → W' ≡ set W i v → i < length W → wd W' i ≡ v
set_same W W' i v e h = rw e (wd-same W i v h)

pub set_other : (W W' : List ℕ) (i v : ℕ) → W' ≡ set W i v → (j : ℕ) → j ≢ i → wd W' j ≡ wd W j
set_other W W' i v e j h = rw e (wd-other W i v j h)

pub set_long : (W W' : List ℕ) (i v : ℕ) → W' ≡ set W i v → length W' ≡ length W
set_long W W' i v e = rw e (length-set W i v)

-- ---- rising lists, and slots that are none of a list

pub inc-le : (cs : List ℕ) {lo hi : ℕ} → Inc lo hi cs → lo ≤ hi
inc-le [] h = h
inc-le (c ∷ cs) h = let r = inc-le cs h.1 in omega arith

pub inc-lower : (cs : List ℕ) {lo lo' : ℕ} (hi : ℕ) → lo' ≤ lo → Inc lo hi cs → Inc lo' hi cs
inc-lower [] hi e h = omega arith
inc-lower (c ∷ cs) hi e h = (omega arith, h.1)

pub out_below : (cs : List ℕ) (lo hi : ℕ) {s : ℕ} → Inc lo hi cs → s < lo → Out s cs
out_below [] lo hi h e = tt
out_below (c ∷ cs) lo hi h e = (omega arith, out_below cs (c + 1) hi h.1 (omega arith))

pub out-above : (cs : List ℕ) (lo hi : ℕ) {s : ℕ} → Inc lo hi cs → hi ≤ s → Out s cs
out-above [] lo hi h e = tt
out-above (c ∷ cs) lo hi h e = let r = inc-le cs h.1 in (omega arith, out-above cs (c + 1) hi h.1 e)

pub off-above : (cs : List ℕ) (lo hi : ℕ) {j : ℕ} → Inc lo hi cs → slot_start hi ≤ j → OffNext cs j
off-above [] lo hi h e = tt
off-above (c ∷ cs) lo hi h e = let r = inc-le cs h.1 in (omega arith, off-above cs (c + 1) hi h.1 e)

-- any word of a slot but the `next` word
pub off-word : (cs : List ℕ) (s o : ℕ) → o < slot_words → o ≢ next_field → OffNext cs (slot_start s + o)
off-word [] s o h n = tt
off-word (c ∷ cs) s o h n = (omega arith, off-word cs s o h n)

pub off-out : (cs : List ℕ) (s o : ℕ) → o < slot_words → Out s cs → OffNext cs (slot_start s + o)
off-out [] s o h n = tt
off-out (c ∷ cs) s o h n = (omega arith, off-out cs s o h n.1)

-- ---- a change of words

pub chain-keep : (W W' : List ℕ) (f : ℕ) (cs : List ℕ) (lo hi : ℕ) → Inc lo hi cs
    → ((c : ℕ) → lo ≤ c → c < hi → next_at W' c ≡ next_at W c) → Chain W f cs → Chain W' f cs
chain-keep W W' f [] lo hi i h p = p
chain-keep W W' f (c ∷ cs) lo hi i h p =
    let r = inc-le cs i.1 in
    (p.0, p.1, rw (h c i.0 (omega arith)) (chain-keep W W' (next_at W c) cs (c + 1) hi i.1 (λ d a b. h d (omega arith) b) p.2))

pub seg-keep : (W W' : List ℕ) (at : ℕ) (cs : List ℕ)
    → ((j : ℕ) → at ≤ j → j < at + length cs → wd W' j ≡ wd W j) → Seg W at cs → Seg W' at cs
seg-keep W W' at [] h p = tt
seg-keep W W' at (c ∷ cs) h p =
    (h at (omega arith) (omega arith) ∙ p.0, seg-keep W W' (at + 1) cs (λ j a b. h j (omega arith) (omega arith)) p.1)

pub seg_b-keep : (W W' : List ℕ) (base : ℕ) (ds : List ℕ)
    → ((j : ℕ) → base ≤ j → j < base + length ds → wd W' j ≡ wd W j) → SegB W base ds → SegB W' base ds
seg_b-keep W W' base [] h p = tt
seg_b-keep W W' base (d ∷ ds) h p =
    (h _ (omega arith) (omega arith) ∙ p.0, seg_b-keep W W' base ds (λ j u v. h j u (omega arith)) p.1)

-- ---- the words say which list it is

pub chain-unique : (W : List ℕ) (f : ℕ) (cs ds : List ℕ) → Chain W f cs → Chain W f ds → cs ≡ ds
chain-unique W f [] [] p q = refl
chain-unique W f [] (d ∷ ds) p q = absurd (omega arith)
chain-unique W f (c ∷ cs) [] p q = absurd (omega arith)
chain-unique W f (c ∷ cs) (d ∷ ds) p q =
    let e : d ≡ c = omega arith in
    let q' : Chain W (next_at W c) ds = subst (λ (x : ℕ). Chain W (next_at W x) ds) e q.2 in
    let r = chain-unique W (next_at W c) cs ds p.2 q' in
    cc

pub seg-unique : (W : List ℕ) (at : ℕ) (cs ds : List ℕ) → length cs ≡ length ds → Seg W at cs → Seg W at ds → cs ≡ ds
seg-unique W at [] [] e p q = refl
seg-unique W at [] (d ∷ ds) e p q = absurd (omega arith)
seg-unique W at (c ∷ cs) [] e p q = absurd (omega arith)
seg-unique W at (c ∷ cs) (d ∷ ds) e p q =
    let r = seg-unique W (at + 1) cs ds (omega arith) p.1 q.1 in
    let u : c ≡ d = sym p.0 ∙ q.0 in
    cc

-- ---- a run by its indices

pub seg-snoc : (W : List ℕ) (at : ℕ) (cs : List ℕ) (c : ℕ) → Seg W at cs → wd W (at + length cs) ≡ c → Seg W at (cs ++ c ∷ [])
seg-snoc W at [] c p e = (rw add-zero at e, tt)
seg-snoc W at (x ∷ cs) c p e =
    let g : at + suc (length cs) ≡ at + 1 + length cs = omega arith in
    (p.0, seg-snoc W (at + 1) cs c p.1 (rw g at e))

-- ---- a list read backwards and what comes after it

pub length-onto : (rs l : List ℕ) → length (onto rs l) ≡ length rs + length l
length-onto [] l = omega arith
length-onto (r ∷ rs) l = let e = length-onto rs (r ∷ l) in omega arith

pub seg-onto : (W : List ℕ) (at : ℕ) (rs l : List ℕ) → Seg W at (onto rs l) → Seg W (at + length rs) l
seg-onto W at [] l p = rw add-zero p
seg-onto W at (r ∷ rs) l p =
    let e : at + suc (length rs) ≡ at + length rs + 1 = omega arith in
    rw e (seg-onto W at rs (r ∷ l) p).1

pub seg_b-onto : (W : List ℕ) (base : ℕ) (ds rs : List ℕ) → SegB W base ds → Seg W (base + length ds) rs → Seg W base (onto ds rs)
seg_b-onto W base [] rs p q = rw add-zero at q
seg_b-onto W base (d ∷ ds) rs p q =
    let e : base + suc (length ds) ≡ base + length ds + 1 = omega arith in
    seg_b-onto W base ds (d ∷ rs) p.1 (p.0, rw e at q)

pub inc-onto : (rs l : List ℕ) (lo hi : ℕ) → Inc lo hi (onto rs l) → (lo' : ℕ) × (lo ≤ lo') × Inc lo' hi l
inc-onto [] l lo hi p = (lo, omega arith, p)
inc-onto (r ∷ rs) l lo hi p =
    let q = inc-onto rs (r ∷ l) lo hi p in
    (r + 1, omega arith, q.2.1)

-- a run goes on backwards
pub seg_b-back : (W : List ℕ) (base : ℕ) (rs ds : List ℕ) → SegB W base ds → Seg W (base + length ds) rs → SegB W base (onto rs ds)
seg_b-back W base [] ds p q = p
seg_b-back W base (r ∷ rs) ds p q =
    let e : base + length ds + 1 ≡ base + suc (length ds) = omega arith in
    seg_b-back W base rs (r ∷ ds) (q.0, p) (rw e at q.1)
