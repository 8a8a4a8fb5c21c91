-- SETTLING: the stack's words stand for the frames, the records for the nodes; operators from a rank on take what has been read as their
-- left operand, in the words as over texts, and what holds is kept.
use Prim.Native.Nat.{ℕ, suc, ◌*◌, ◌/◌, ◌%◌, ◌≤◌, ◌<◌}
use mathlib.Core.{Path.{◌≡◌, refl, ap, ap₂, sym, ◌∙◌}, Bool.{Bool, true, false}, List.{List, [], ◌∷◌}, Option.{Option}}
use native.Mathlib.Omega.{arith}
use lib.{Dec.{leb}, ListN.{drop}}
use borrow.Author.Tests.{leb-true, leb-false, le-leb, lt-leb}
use Rattle.molang.specs.{Forest.{Token, nil}, Order.{Rules}, Grammar.{Text, tokens, strength, is_text, trees}}
use Rattle.scan.specs.{Laid.{Entry, laid_onto}, Entries.{record_entry, entries_of}, Views.{Lists, settled_lists, Based}}
use Rattle.scan.specs.Views as Views
use Rattle.scan.proofs.Frames.{placed, Joint, plain, less, asks, lesses, chooses, Frames, outside, waits, colon, closes, build, front, after}
use Rattle.scan.proofs.Frames.{label_of, laid_after, rank_of, Stated, Fits, Stacked}
use Rattle.scan.proofs.Laying.{onto-built, stated-built}

-- ---- texts of joints

pub built-text : (j : Joint) (x y : Text) (r : List Token) → tokens (build j x y) r ≡ tokens x (front j (tokens y r))
unfolding tokens build front
built-text (plain k) x y r = refl
built-text (less k) x y r = refl
built-text (asks q) x y r = refl
built-text (lesses k l) x y r = refl
built-text (chooses q k t) x y r = refl

built-strength : (r : Rules) (j : Joint) (x y : Text) → strength r (build j x y) ≡ rank_of r j
unfolding strength build rank_of
built-strength r (plain k) x y = refl
built-strength r (less k) x y = refl
built-strength r (asks q) x y = refl
built-strength r (lesses k l) x y = refl
built-strength r (chooses q k t) x y = refl

-- ---- words

-- A word of a joint: its grade from bit 27 on, and below bit 26 the record that it becomes.
pub record Operates (T : List Token) (w g : ℕ) (k : Token) : Type 0 where
  pub grade : w / 134217728 ≡ g
  pub plain : w / 67108864 % 2 ≡ 0
  pub entry : record_entry T (w % 67108864) ≡ placed k 2

-- A closer's word: its operator, and its place.
pub record Closes (T : List Token) (w : ℕ) (c : Token) (W : Frames) : Type 0 where
  pub op : w / 32768 ≡ c.op
  pub small : c.op ≤ 5
  pub place : w % 32768 % 5 ≡ 0
  pub text : drop (w % 32768 / 5) T ≡ c ∷ after W

-- A `:` that waits.
pub record Pairs (T : List Token) (w : ℕ) (k : Token) : Type 0 where
  pub grade : w / 67108864 ≡ 1
  pub entry : record_entry T (w % 67108864) ≡ placed k 2

-- The stack's words are those of the frames; `grade` is the order of the ranks in the words.
pub data StackIs (T : List Token) (r : Rules) (grade : ℕ → ℕ) : Frames → List ℕ → Type 0 where
  bottom : {w : ℕ} → w / 32768 ≡ 7 → StackIs T r grade outside (w ∷ [])
  joint : {j : Joint} {y : Text} {W : Frames} {w : ℕ} {S : List ℕ} → Operates T w (grade (rank_of r j)) (label_of j)
      → StackIs T r grade W S → StackIs T r grade (waits j y W) (w ∷ S)
  pair : {k : Token} {e : Text} {W : Frames} {w : ℕ} {S : List ℕ} → Pairs T w k → StackIs T r grade W S
      → StackIs T r grade (colon k e W) (w ∷ S)
  closer : {c : Token} {W : Frames} {w : ℕ} {S : List ℕ} → Closes T w c W → StackIs T r grade W S
      → StackIs T r grade (closes c W) (w ∷ S)

-- The number f in the words cuts the grades where m cuts the ranks; it is above the grades of what is no operator.
pub record Cuts (grade : ℕ → ℕ) (f m : ℕ) : Type 0 where
  pub above : 1 < f
  pub cuts : (j : ℕ) → leb f (grade j) ≡ leb m j

-- A word is no less than a number of grades just if its grade is.
reaches : (f w : ℕ) → leb (f * 134217728) w ≡ leb f (w / 134217728)
reaches f w = by (leb f (w / 134217728)) refl
  where
    by : (b : Bool) → leb f (w / 134217728) ≡ b → leb (f * 134217728) w ≡ b
    by true e = let l = leb-true f (w / 134217728) e in le-leb (f * 134217728) w (omega (arith, l))
    by false e = let l = leb-false f (w / 134217728) e in lt-leb (f * 134217728) w (omega (arith, l))

module _ (T : List Token) (r : Rules) (grade : ℕ → ℕ) (Expected : ℕ → Type 0) where
  -- What has been read, and what waits.
  pub record Held (x : Text) (W : Frames) : Type 0 where
    pub text : is_text r x ≡ true
    pub stated : Stated x
    pub fits : Fits r x W
    pub stacked : Stacked r Expected W

  -- The two lists stand for it, under the minus s if there is one; its tokens are L.
  pub record Stands (s : Option Token) (x : Text) (W : Frames) (L : List Token) (l : Lists) : Type 0 where
    pub held : Held x W
    pub stack : StackIs T r grade W l.stack
    pub records : entries_of T l.records ≡ laid_onto (trees s x nil) (laid_after W)
    pub read : tokens x (after W) ≡ L

  -- What waits on top has a lower rank than m, or is no operator.
  abbrev pub Low : ℕ → Frames → Type 0
  Low m outside = Unit {0}
  Low m (waits j y W) = rank_of r j < m
  Low m (colon k e W) = Unit {0}
  Low m (closes c W) = Unit {0}

  -- What settling gives.
  pub record Settled (m : ℕ) (s : Option Token) (x : Text) (L : List Token) (l : Lists) : Type 0 where
    pub operand : Text
    pub frames : Frames
    pub stands : Stands s operand frames L l
    pub low : Low m frames
    pub tight : m ≤ strength r x → m ≤ strength r operand

  -- A joint takes what has been read.
  taken : (s : Option Token) (x : Text) (j : Joint) (y : Text) (W : Frames) (L : List Token) (w : ℕ) (S R : List ℕ)
      → Operates T w (grade (rank_of r j)) (label_of j) → StackIs T r grade W S
      → Stands s x (waits j y W) L (record { stack = w ∷ S; records = R })
      → Stands s (build j x y) W L (record { stack = S; records = w % 67108864 ∷ R })
  unfolding entries_of laid_after after
  taken s x j y W L w S R o q h =
      let g = h.held in
      let i = g.stacked.0 in
      record {
        held = record { text = i.text x g.text g.fits; stated = stated-built j x y; fits = i.fits x; stacked = g.stacked.1 };
        stack = q;
        records =
            ap₂ (λ (e : Entry) (M : List Entry). e ∷ M) o.entry h.records
            ∙ sym (onto-built s j x y (laid_after W) g.stated i.stated i.between);
        read = built-text j x y (after W) ∙ h.read;
      }

  module _ (f m : ℕ) (cut : Cuts grade f m) (s : Option Token) (L : List Token) where
    -- Nothing more is settled.
    stays : (x : Text) (W : Frames) (w : ℕ) (S R : List ℕ) → leb (f * 134217728) w ≡ false → Low m W
        → Stands s x W L (record { stack = w ∷ S; records = R }) → Settled m s x L (settled_lists (f * 134217728) (w ∷ S) R)
    unfolding settled_lists
    stays x W w S R e l h =
        rw (e, settled_lists)
        (record { operand = x; frames = W; stands = h; low = l; tight = λ t. t })

    below : (w : ℕ) → w / 134217728 < f → leb (f * 134217728) w ≡ false
    below w l = reaches f w ∙ lt-leb f (w / 134217728) l

    -- SETTLING in the words is settling over texts, and keeps what holds.
    pub settles : (x : Text) (W : Frames) (S R : List ℕ) → Stands s x W L (record { stack = S; records = R })
        → StackIs T r grade W S → Settled m s x L (settled_lists (f * 134217728) S R)
    unfolding settled_lists
    settles x outside [] R h x6 = elim x6 [ ]
    settles x outside (w ∷ (_ ∷ _)) R h x12 = elim x12 [ ]
    settles x (waits j y W) [] R h x7 = elim x7 [ ]
    settles x (colon k e W) [] R h x8 = elim x8 [ ]
    settles x (closes c W) [] R h x9 = elim x9 [ ]
    settles x outside (w ∷ []) R h (bottom z) =
        let a = cut.above in stays x outside w [] R (below w (omega (arith, z, a))) tt h
    settles x (waits j y W) (w ∷ S) R h (joint o q) =
        by (leb m (rank_of r j)) refl (settles (build j x y) W S (w % 67108864 ∷ R) (taken s x j y W L w S R o q h) q)
      where
        by : (b : Bool) → leb m (rank_of r j) ≡ b → Settled m s (build j x y) L (settled_lists (f * 134217728) S (w % 67108864 ∷ R))
            → Settled m s x L (settled_lists (f * 134217728) (w ∷ S) R)
        by true e n =
            let t : leb (f * 134217728) w ≡ true = reaches f w ∙ ap (leb f) o.grade ∙ cut.cuts (rank_of r j) ∙ e in
            let l = leb-true m (rank_of r j) e in
            rw (t, settled_lists)
            (record {
              operand = n.operand;
              frames = n.frames;
              stands = n.stands;
              low = n.low;
              tight = λ u. n.tight (omega (arith, l, built-strength r j x y));
            })
        by false e n =
            let t : leb (f * 134217728) w ≡ false = reaches f w ∙ ap (leb f) o.grade ∙ cut.cuts (rank_of r j) ∙ e in
            stays x (waits j y W) w S R t (leb-false m (rank_of r j) e) h
    settles x (colon k e W) (w ∷ S) R h (pair o q) =
        let a = cut.above in let z = o.grade in stays x (colon k e W) w S R (below w (omega (arith, z, a))) tt h
    settles x (closes c W) (w ∷ S) R h (closer o q) =
        let a = cut.above in
        let z = o.op in
        let u = o.small in
        stays x (closes c W) w S R (below w (omega (arith, z, u, a))) tt h

  -- The lowest word is that of the whole list.
  pub based : (W : Frames) (S : List ℕ) → StackIs T r grade W S → Based S
  based outside [] x'' = elim x'' [ ]
  based outside (w ∷ (_ ∷ _)) x7 = elim x7 [ ]
  based (waits j y W) [] x3 = elim x3 [ ]
  based (colon k e W) [] x4 = elim x4 [ ]
  based (closes c W) [] x5 = elim x5 [ ]
  based outside (w ∷ []) (bottom z) = Views.bottom z
  based (waits j y W) (w ∷ S) (joint o q) = Views.above (based W S q)
  based (colon k e W) (w ∷ S) (pair o q) = Views.above (based W S q)
  based (closes c W) (w ∷ S) (closer o q) = Views.above (based W S q)

-- ---- the numbers in the words

no_more : (grade : ℕ → ℕ) (j r : ℕ) → (j < r → grade j < grade r) → j < suc r → grade j < suc (grade r)
no_more grade j r m l = cases (leb (suc j) r) refl
  where
    cases : (t : Bool) → leb (suc j) r ≡ t → grade j < suc (grade r)
    cases true t = let d = leb-true (suc j) r t in let k = m (omega (arith, d)) in omega (arith, k)
    cases false t = let k = leb-false (suc j) r t in let n : j ≡ r = omega (arith, k, l) in let q = ap grade n in omega (arith, q)

-- If grades are in the order of the ranks, the number after an operator's grade cuts them behind its rank.
pub cuts-after : (grade : ℕ → ℕ) → ((i j : ℕ) → i < j → grade i < grade j) → (r : ℕ) → 1 ≤ grade r → Cuts grade (suc (grade r)) (suc r)
cuts-after grade mono r one = record { above = omega (arith, one); cuts = λ j. by j (leb (suc r) j) refl }
  where
    by : (j : ℕ) (b : Bool) → leb (suc r) j ≡ b → leb (suc (grade r)) (grade j) ≡ b
    by j true e = let l = leb-true (suc r) j e in let k = mono r j (omega (arith, l)) in le-leb (suc (grade r)) (grade j) (omega (arith, k))
    by j false e = let l = leb-false (suc r) j e in lt-leb (suc (grade r)) (grade j) (no_more grade j r (mono j r) l)

-- The number of an operator's own grade cuts them before its rank.
pub cuts-at : (grade : ℕ → ℕ) → ((i j : ℕ) → i < j → grade i < grade j) → (r : ℕ) → 2 ≤ grade r → Cuts grade (grade r) r
cuts-at grade mono r one = record { above = omega (arith, one); cuts = λ j. by j (leb r j) refl }
  where
    by : (j : ℕ) (b : Bool) → leb r j ≡ b → leb (grade r) (grade j) ≡ b
    by j true e = let l = leb-true r j e in le-leb (grade r) (grade j) (no_less j l)
      where
        no_less : (j : ℕ) → r ≤ j → grade r ≤ grade j
        no_less j l = let q = no_more grade r j (mono r j) (omega (arith, l)) in omega (arith, q)
    by j false e = let l = leb-false r j e in let k = mono j r l in lt-leb (grade r) (grade j) k
