-- One token of the section walk: `close_section` and `look`, against the definition's `closing` and `bracket`.
use Prim.Native.Nat.{ℕ, zero, suc, ◌+◌, ◌*◌, ◌-◌, ◌≤◌, ◌<◌}
use mathlib.Core.{Path.{◌≡◌, refl, sym, ap, ◌∙◌, subst}, Logic.{◌≢◌, ◌⊎◌, inl, inr, ⊎_elim}, Bool.{true, false}, List.{List, [], ◌∷◌}}
use mathlib.Core.Option.{get_or}
use native.Mathlib.{Omega.{arith}, Nat.{le_refl}}
use lib.ListN.{length, set}
use Rattle.molang.{specs.Operator.{closing_of, is_closer}, specs.Forest.{Token, Forest, nil, node, in_order, closed_by}}
use Rattle.molang.{specs.Message.{closing_mismatch, section_not_closed, closer}, specs.Words.{word}}
use Rattle.molang.specs.Sections.{Open, outside, section, placed, position, outermost, Walked, going, mismatch, closing, bracket}
use Rattle.molang.{specs.Nesting.{open_after}, proofs.Trees.{decided}, proofs.OpenCount.{bracket-depth}}
use Rattle.ops.specs.Operators.{is_opener}
use Rattle.nodes.specs.Store.{wd, slot_start, slot_end, close_word, TokenAt, reserve, Seg, Out, RepF, RepT, Owned, InArray, Free}
use Rattle.nodes.{specs.Slots.{op_at, end_at}, specs.Children.{CanGive, Given}, proofs.Runs.{set_same, set_other, set_long}}
use Rattle.nodes.{proofs.Tokens.{token-closed}, proofs.Store.{reserve-pos, rep-lower, rep-raise, tree-below, tree-out, back-le, back-avoid}}
use Rattle.nodes.proofs.Keeping.{free-above, free_part, tree-beside, give_kept}
use Rattle.nodes.proofs.Trees.{tree-op, array-give, owned-tree, owned-leaf, owned-store, give-owned, give-token}
use Rattle.sections.specs.Flat.{Opener, Standing, outer, inner, LookAt, Follows, on, ends, Closed, Looked, Named}
use Rattle.std.specs.Prelude.{Result, Ok, Err}
use Rattle.sections.specs.{declared.Reached.{Reached}, declared.Differs.{Differs}}
use Rattle.levels.specs.{Failures.{mismatched}, declared.failure.Unclosed.{Unclosed}}
use Rattle.sections.proofs.SectionCases.{missed, other-closes, classless, opener-leaf, bracket-opens, bracket-closes, bracket-places}
use Rattle.sections.proofs.{SectionCases.{closing-takes, closing-differs}, SectionWritten.{written-array}}
use Rattle.sections.proofs.SectionOpen.{standing-le, standing-depth, standing-position, standing-keep, standing-placed}
use Rattle.sections.proofs.SectionOpen.{standing-open, opener-le, innermost-word, innermost-slot, names}

-- ---- `close_section`

fewer : {p w' w : ℕ} (n : ℕ) → p ≡ w' → w ≡ w' + 1 + n → p + 1 ≤ w + 1
fewer n a b = omega arith

-- the section's node, with its contents as its children
section-tree : {W X : List ℕ} {q l m : ℕ} {o : Token} (kids : Forest) → TokenAt W q o → 0 < q
    → ((s : ℕ) → q ≤ s → s < q + reserve o nil → Out s X) → Out q X → l ≤ q
    → q + reserve o nil ≤ m → is_opener o.op ≡ true → Owned W X q l m kids → RepT W X q l m o kids
section-tree {o = o} nil token pos keeps out low high opens v = owned-leaf token pos keeps low high (classless o.op opens) v
section-tree {o = o} (node c cs r) token pos keeps out low high opens v = owned-tree token pos out low (omega (arith, reserve-pos o nil)) v

-- the section's node stands; the words of the opener and of what it is given change, and no others
record Taken (W X : List ℕ) (q l hi : ℕ) (o : Token) (kids : Forest) (W' : List ℕ) : Type 0 where
  tree : RepT W' X q l hi o kids
  same : (j : ℕ) → Free X l hi j → wd W' j ≡ wd W j

section-taken : {W W1 W' X : List ℕ} {q from n l m hi hi' item : ℕ} {o k : Token} {kids : Forest} (bs : List ℕ) → Given W q from n W1
    → Seg W from bs → n ≡ length bs → RepF W (q ∷ X) bs m hi kids
    → RepT W X q l m o nil → m ≤ hi → hi ≤ hi' → is_opener o.op ≡ true → TokenAt W item k
    → W' ≡ set W1 (close_word q) (word 7 (end_at W1 item)) → slot_end q ≤ length W1
    → Taken W X q l hi' (closed_by k o) kids W'
unfolding closed_by reserve
section-taken {W1 = W1} {W' = W'} {X = X} {q = q} {l = l} {m = m} {hi = hi} {hi' = hi'} {item = item} {o = o} {kids = kids} bs w g count
    r v h h' opens t close room =
    let e = sym count in
    let low = v.low in let high = v.high in let own = tree-below v in
    let owned = give-owned w g e r in
    let token = token-closed W1 W' q item close room (give-token w g e r t) (give-token w g e r v.token) in
    record {
      tree = section-tree kids token v.pos v.out (tree-out v) v.low (omega arith) opens
          (owned-store W1 W' (word 7 (end_at W1 item)) close (omega arith) (omega arith)
          (record {
            cs = owned.cs;
            chain = owned.chain;
            notes = owned.notes;
            kids = rep-raise h' (rep-lower (omega arith) owned.kids);
          }));
      same = λ j f.
          set_other W1 W' (close_word q) (word 7 (end_at W1 item)) close j (f q 4 low (omega arith) (omega arith) (tree-out v))
          ∙ give_kept w g e (rep-lower (omega arith) r) v.low (omega arith) (tree-out v) j (free_part X l hi' l hi j (le_refl l) h' f);
    }

-- what its body asks, p being where the innermost opener is written
pub close-in : {W X : List ℕ} {base marks lo l k w : ℕ} {s : Open} → Standing W X base marks lo l k w s → k ≢ 0 → (p : ℕ)
    → p ≡ wd W (marks + 2 * (k - 1)) → slot_start l ≤ base → base + w ≤ length W
    → (p < w) × (slot_end (wd W (base + p)) ≤ base) × CanGive W (wd W (base + p)) (base + (p + 1)) (w - (p + 1))
close-in (outer v e) n p ep below room = absurd (n e)
close-in {w = w} (inner {w' = w'} {v = r} st x v e) n p ep below room =
    let b = opener-le x in
    let c = back-le v.done in
    let count : w - (w' + 1) ≡ r = omega arith in
    rw (ep ∙ innermost-word x, x.slot, count)
    (omega arith, omega arith, array-give (written-array v) (omega arith) (omega arith) (omega arith))

-- the opener's token
innermost-op : {W X : List ℕ} {base marks l m k' w' k i : ℕ} {o : Token} (x : Opener W X base marks l m k' w' k o i) (p : ℕ)
    → p ≡ wd W (marks + 2 * (k - 1))
    → op_at W (wd W (base + p)) ≡ o.op
innermost-op x p ep = rw (ep, innermost-slot x) (tree-op x.leaf)

-- the closer is another one's
pub close-differs : {W X : List ℕ} {base marks lo l m k w item depth : ℕ} {s : Open} {t : Token} {cs : Forest}
    → Standing W X base marks lo l k w s → k ≢ 0 → RepT W X item l m t cs
    → (p x y i : ℕ) (u : Unclosed) → p ≡ wd W (marks + 2 * (k - 1)) → x ≡ get_or (closing_of (op_at W (wd W (base + p)))) 0
    → y ≡ op_at W item → x ≢ y → Named W base marks k u
    → Follows W X base marks lo m w i
    (Err (record { mismatch = record { opener = u.inner; start = u.start; closer = item; index = i; outer = u.outer }; remaining = depth })) (closing t cs i s)
unfolding closer
close-differs (outer v e) n tree p x y i u ep ex ey h a = absurd (n e)
close-differs {t = t} {cs = cs} (inner {i = j} {o = o} {d = d} {s = s'} st z v e) n tree p x y i u ep ex ey h a =
    let b = names st z a in
    let apart : closer o ≢ t.op =
    λ e. h (ex ∙ ap (λ (q : ℕ). get_or (closing_of q) 0) (innermost-op z p ep) ∙ e ∙ sym (tree-op tree) ∙ sym ey) in
    let is : closing t cs i (section o j d s') ≡ mismatch (closing_mismatch o u.start t i ∷ section_not_closed (outermost o s') ∷ [])
    =
    closing-differs t o cs d i j s' apart
    ∙ ap (λ (q : ℕ). mismatch (closing_mismatch o q t i ∷ section_not_closed (outermost o s') ∷ [])) (sym b.start) in
    rw is (ends (mismatched b.inner-token tree.token b.outer-token))

-- The walk goes on after the opener of the k-th section, which is written in word p of the array; the words beside the interval are as
-- they were.
abbrev Closes : List ℕ → List ℕ → List ℕ → ℕ → ℕ → ℕ → ℕ → ℕ → ℕ → ℕ → ℕ → Walked → Type 0
Closes W W' X base marks lo m k w p i walked =
    Follows W' X base marks lo m w i (Ok (record { write = p + 1; depth = k - 1; index = i })) walked
    × ((j : ℕ) → Free X lo m j → wd W' j ≡ wd W j)

-- it is the innermost section's: the words of its interval change, and no others
close-takes : {W X : List ℕ} {base marks lo l m k w item : ℕ} {s : Open} {t : Token} {cs : Forest} → Standing W X base marks lo l k w s
    → k ≢ 0 → RepT W X item l m t cs
    → slot_start m ≤ base → base + w < marks → (p x y i : ℕ) (W1 W' : List ℕ) → p ≡ wd W (marks + 2 * (k - 1))
    → x ≡ get_or (closing_of (op_at W (wd W (base + p)))) 0 → y ≡ op_at W item → x ≡ y
    → Given W (wd W (base + p)) (base + (p + 1)) (w - (p + 1)) W1
    → W' ≡ set W1 (close_word (wd W (base + p))) (word 7 (end_at W1 item)) → slot_end (wd W (base + p)) ≤ length W1
    → Closes W W' X base marks lo m k w p i (closing t cs i s)
unfolding closer
close-takes (outer v e) n tree below apart p x y i W1 W' ep ex ey h a close room = absurd (n e)
close-takes {W} {X} {base} {marks} {lo} {l} {m} {k} {w} {item} {t = t} {cs = cs}
    (inner {l = l'} {m = m'} {k' = k'} {w' = w'} {v = r} {i = j} {o = o} {d = d}
    {s = s'} st z v e) n tree below apart p x y i W1 W' ep ex ey h
    a close room =
    let b = opener-le z in
    let c = back-le v.done in
    let tl = tree.low in let th = tree-below tree in let sl = standing-le st in
    let index : p ≡ w' = ep ∙ innermost-word z in
    let count : w - (w' + 1) ≡ r = omega arith in
    let level : k - 1 ≡ k' = omega (arith, z.level) in
    let given : Given W z.q (base + (w' + 1)) r W1 = rw (index, z.slot, count) at a in
    let closed : W' ≡ set W1 (close_word z.q) (word 7 (end_at W1 item)) = rw (index, z.slot) at close in
    let inside : slot_end z.q ≤ length W1 = rw (index, z.slot) at room in
    let array : InArray W (z.q ∷ X) (base + (w' + 1)) r m' l (in_order d)
    =
    written-array
    (record { ds = v.ds; done = back-avoid (λ s' from to out. (omega arith, out)) v.done; run = v.run; wrote = v.wrote }) in
    let taken : Taken W X z.q l' m (closed_by t o) (in_order d) W' =
    section-taken array.bs given array.seg array.count array.rep z.leaf c (omega arith) z.opens tree.token closed
    inside in
    let above : (j : ℕ) → base ≤ j → wd W' j ≡ wd W j = λ j h. taken.same j (free-above X l' m j (omega arith)) in
    let low : (j : ℕ) → j < slot_start l' → wd W' j ≡ wd W j = λ j h. taken.same j (λ s o from to inside out. omega arith) in
    let before : Standing W' X base marks lo l' k' w' s' =
    standing-keep W W' low (λ j h h'. above j h) (λ j h h'. above j (omega arith)) st in
    let after : Standing W' X base marks lo m k' (w' + 1) (placed (closed_by t o) (in_order d) s') =
    standing-placed before taken.tree (above (base + w') (omega arith) ∙ z.slot) in
    let is : closer o ≡ t.op = sym (ap (λ (q : ℕ). get_or (closing_of q) 0) (innermost-op z p ep)) ∙ sym ex ∙ h ∙ ey ∙ tree-op tree in
    let all : Standing W' X base marks lo m (k - 1) (p + 1) (placed (closed_by t o) (in_order d) s') = rw (index, level) after in (
      rw (closing-takes t o cs d i j s' is) (on all (fewer r index e) refl),
      λ j f. taken.same j (free_part X lo m l' m j sl (le_refl m) f),
    )

pub close-closed : {W : List ℕ} {base marks k w item : ℕ} → k ≢ 0 → (p x y i : ℕ) (W1 W' : List ℕ) → p ≡ wd W (marks + 2 * (k - 1))
    → x ≡ get_or (closing_of (op_at W (wd W (base + p)))) 0 → y ≡ op_at W item → x ≡ y
    → Given W (wd W (base + p)) (base + (p + 1)) (w - (p + 1)) W1
    → W' ≡ set W1 (close_word (wd W (base + p))) (word 7 (end_at W1 item)) → slot_end (wd W (base + p)) ≤ length W1
    → Closed W base marks w k i item (Ok (record { write = p + 1; depth = k - 1; index = i })) W'
close-closed {W} {base} {marks} {k} {w} {item} n p x y i W1 W' ep ex ey h a close room =
    record {
      answer = λ g. (takes g).0;
      same = λ g. (takes g).1;
      long = set_long W1 W' (close_word (wd W (base + p))) (word 7 (end_at W1 item)) close ∙ a.long;
    }
  where
    takes : (g : LookAt W base marks w k item)
        → Closes W W' g.X base marks g.lo g.m k w p i (closing g.k g.cs i g.s)
    takes g = close-takes g.standing n g.tree g.below g.apart p x y i W1 W' ep ex ey h a close room

-- ---- `look`

-- The walk goes on after a token.
pub record Went (W X : List ℕ) (base marks lo hi w i : ℕ) (a : Reached) (x : Walked) : Type 0 where
  pub t : Open
  pub is : x ≡ going t
  pub standing : Standing W X base marks lo hi a.depth a.write t
  pub more : a.write ≤ w + 1
  pub index : a.index ≡ i

pub went : {W X : List ℕ} {base marks lo hi w i : ℕ} {r : Result Reached Differs} {x : Walked} (a : Reached) → Follows W X base marks lo hi w i r x → r
    ≡ Ok a
    → Went W X base marks lo hi w i a x
went {W} {X} {base} {marks} {lo} {hi} {w} {i} a (on {a = b} {t = t} st m n) e =
    let same : b ≡ a = cc in
    subst (λ (a : Reached). Went W X base marks lo hi w i a (going t)) same
    (record { t = t; is = refl; standing = st; more = m; index = n })
went a (ends t) e = let z : ◌≡◌ {A = ℕ} 0 1 = cc in absurd (omega arith)

-- outside every section a closer is a leaf like any other
bracket-lone : {W X : List ℕ} {base marks lo hi k w : ℕ} {s : Open} (t : Token) (cs : Forest) (i : ℕ) → Standing W X base marks lo hi k w s
    → k ≡ 0 → is_opener t.op ≡ false
    → bracket t cs i s ≡ going (placed t cs s)
unfolding bracket closing placed
bracket-lone t cs i (outer {d = d} v e) z h =
    missed (closing_of t.op) (λ z. going (section t (i + 1) nil (outside d))) _ (other-closes t.op h)
    ∙ decided (λ b. b ≡ going (placed t cs (outside d))) (is_closer t.op) (closing t cs i (outside d)) (going (placed t cs (outside d)))
    (λ c. refl) (λ c. refl)
bracket-lone t cs i (inner st x v e) z h = absurd (omega (arith, x.level))

module _ {W : List ℕ} {base marks write depth item : ℕ} (g : LookAt W base marks write depth item) where
  -- the token's slot is in the store
  pub look_in : slot_end item ≤ base
  look_in = omega (arith, tree-below g.tree, g.below)

  -- the position that the code counts is the definition's
  pub look-position : (index i : ℕ) (b : Result Reached Differs) (W' : List ℕ) → (depth ≡ 0 → i ≡ write) → (depth ≢ 0 → i ≡ index + 1)
      → Follows W' g.X base marks g.lo g.m write i b (bracket g.k g.cs i g.s)
      → Follows W' g.X base marks g.lo g.m write (position index g.s) b (bracket g.k g.cs (position index g.s) g.s)
  look-position index i b W' p q f =
      subst (λ (i : ℕ). Follows W' g.X base marks g.lo g.m write i b (bracket g.k g.cs i g.s))
      (standing-position g.standing index i p q) f

  -- where the walk goes on, as many sections stand as the definition has open
  pub look-open : (i : ℕ) (a : Reached) (W' : List ℕ)
      → Follows W' g.X base marks g.lo g.m write i (Ok a) (bracket g.k g.cs i g.s)
      → a.depth ≡ open_after depth (op_at W item)
  look-open i a W' f =
      let w = went a f refl in
      rw (standing-depth g.standing, tree-op g.tree)
      (standing-depth w.standing ∙ bracket-depth g.k g.cs i g.s w.t w.is)

  -- words that change neither a slot, nor what is written, nor a mark of a section that is open
  before-kept : (W' : List ℕ) → ((j : ℕ) → j < base + write → wd W' j ≡ wd W j)
      → ((j : ℕ) → marks ≤ j → j < marks + 2 * depth → wd W' j ≡ wd W j)
      → Standing W' g.X base marks g.lo g.l depth write g.s
  before-kept W' low mark =
      standing-keep W W' (λ j h. low j (omega (arith, g.below, g.tree.low, tree-below g.tree))) (λ j a b. low j b) mark g.standing

  token-kept : (W' : List ℕ) → ((j : ℕ) → j < base + write → wd W' j ≡ wd W j) → RepT W' g.X item g.l g.m g.k g.cs
  token-kept W' low = tree-beside W W' [] 0 0 base (λ j f h. low j (omega arith)) g.below (inr (omega arith)) g.tree

  -- a token that is written as it is
  pub look-places : (i : ℕ) (W' : List ℕ) → W' ≡ set W (base + write) item
      → bracket g.k g.cs i g.s ≡ going (placed g.k g.cs g.s)
      → Follows W' g.X base marks g.lo g.m write i (Ok (record { write = write + 1; depth = depth; index = i }))
      (bracket g.k g.cs i g.s)
  look-places i W' e is =
      let other = set_other W W' (base + write) item e in
      let low : (j : ℕ) → j < base + write → wd W' j ≡ wd W j = λ j h. other j (omega arith) in
      let apart = g.apart in let room = g.room in
      let all =
      standing-placed (before-kept W' low (λ j a b. other j (omega arith))) (token-kept W' low)
      (set_same W W' (base + write) item e (omega arith)) in
      rw is (on all (le_refl (write + 1)) refl)

  -- anything but a bracket, and a closer outside every section
  pub look-other : (o i : ℕ) → o ≡ op_at W item → is_opener o ≡ false → (is_closer o ≡ false) ⊎ (depth ≡ 0)
      → bracket g.k g.cs i g.s ≡ going (placed g.k g.cs g.s)
  look-other o i e h (inl c) =
      let is : o ≡ g.k.op = e ∙ tree-op g.tree in
      bracket-places g.k g.cs i g.s (ap is_opener (sym is) ∙ h) (ap is_closer (sym is) ∙ c)
  look-other o i e h (inr z) =
      let is : o ≡ g.k.op = e ∙ tree-op g.tree in
      bracket-lone g.k g.cs i g.standing z (ap is_opener (sym is) ∙ h)

  pub look-opens : (o i : ℕ) (a : Reached) (W' : List ℕ) → o ≡ op_at W item → is_opener o ≡ true
      → W' ≡ set (set (set W (base + write) item) (marks + 2 * depth) write) (marks + 2 * depth + 1) (i + 1) → a.write ≡ write + 1
      → a.depth ≡ depth + 1 → a.index ≡ i
      → Follows W' g.X base marks g.lo g.m write i (Ok a) (bracket g.k g.cs i g.s)
  look-opens o i a W' eo h e aw ad ai =
      let is : is_opener g.k.op ≡ true = ap is_opener (sym (eo ∙ tree-op g.tree)) ∙ h in
      let W1 = set W (base + write) item in
      let W2 = set W1 (marks + 2 * depth) write in
      let n1 = set_long W W1 (base + write) item refl in
      let n2 = set_long W1 W2 (marks + 2 * depth) write refl in
      let o1 = set_other W W1 (base + write) item refl in
      let o2 = set_other W1 W2 (marks + 2 * depth) write refl in
      let o3 = set_other W2 W' (marks + 2 * depth + 1) (i + 1) e in
      let apart = g.apart in let room = g.room in
      let low : (j : ℕ) → j < base + write → wd W' j ≡ wd W j = λ j h. o3 j (omega arith) ∙ o2 j (omega arith) ∙ o1 j (omega arith) in
      let none = opener-leaf g.k g.cs g.is_flat is in
      let leaf : RepT W' g.X item g.l g.m g.k nil = rw none at (token-kept W' low) in
      let all : Standing W' g.X base marks g.lo g.m (depth + 1) (write + 1) (section g.k (i + 1) nil g.s)
      = standing-open (before-kept W' low (λ j a b. o3 j (omega arith) ∙ o2 j (omega arith) ∙ o1 j (omega arith))) leaf is
      (o3 (base + write) (omega arith) ∙ o2 (base + write) (omega arith) ∙ set_same W W1 (base + write) item refl (omega arith))
      (o3 (marks + 2 * depth) (omega arith) ∙ set_same W1 W2 (marks + 2 * depth) write refl (omega arith))
      (set_same W2 W' (marks + 2 * depth + 1) (i + 1) e (omega arith)) in
      let here : Standing W' g.X base marks g.lo g.m a.depth a.write (section g.k (i + 1) nil g.s) = rw (ad, aw) all in
      rw (bracket-opens g.k g.cs i g.s is) (on here (omega arith) ai)

  pub look-closes : (o i : ℕ) (r : Result Reached Differs) (W' : List ℕ) → o ≡ op_at W item → is_opener o ≡ false → is_closer o ≡ true
      → Closed W base marks write depth i item r W'
      → Follows W' g.X base marks g.lo g.m write i r (bracket g.k g.cs i g.s)
  look-closes o i r W' e h c w =
      let is : o ≡ g.k.op = e ∙ tree-op g.tree in
      rw (bracket-closes g.k g.cs i g.s (ap is_opener (sym is) ∙ h) (ap is_closer (sym is) ∙ c)) (w.answer g)

-- a token after which the walk goes on
pub looked-on : {W : List ℕ} {base marks write depth item : ℕ} → LookAt W base marks write depth item
    → (index i : ℕ) (a : Reached) (W' : List ℕ) → (depth ≡ 0 → i ≡ write) → (depth ≢ 0 → i ≡ index + 1)
    → ((g : LookAt W base marks write depth item)
    → Follows W' g.X base marks g.lo g.m write i (Ok a) (bracket g.k g.cs i g.s))
    → ((j : ℕ) → (j < base) ⊎ (base + write < j) → (j < marks) ⊎ (marks + 2 * depth + 2 ≤ j) → wd W' j ≡ wd W j)
    → length W' ≡ length W
    → Looked W base marks write depth index item (Ok a) W' × (a.depth ≡ open_after depth (op_at W item))
looked-on g index i a W' p q follows same long = (
  record { answer = λ g. look-position g index i (Ok a) W' p q (follows g); same = λ g j f x y. same j x y; long = long },
  look-open g i a W' (follows g),
)

pub position-small : (depth write index i b : ℕ) → (depth ≡ 0 → i ≡ write) → (depth ≢ 0 → i ≡ index + 1) → write + 1 < b → index + 2 < b
    → i + 1 < b
position-small zero write index i b p q x y = omega (arith, p refl)
position-small (suc d) write index i b p q x y = omega (arith, q (omega arith))

-- the words that an opener is written to
pub opens-same : (W W' : List ℕ) (base marks write depth item i : ℕ)
    → W' ≡ set (set (set W (base + write) item) (marks + 2 * depth) write) (marks + 2 * depth + 1) (i + 1)
    → (j : ℕ) → (j < base) ⊎ (base + write < j) → (j < marks) ⊎ (marks + 2 * depth + 2 ≤ j) → wd W' j ≡ wd W j
opens-same W W' base marks write depth item i e j a b =
    let W1 = set W (base + write) item in
    let W2 = set W1 (marks + 2 * depth) write in
    let x : j ≢ base + write = ⊎_elim (λ h. omega arith) (λ h. omega arith) a in
    let y : (j ≢ marks + 2 * depth) × (j ≢ marks + 2 * depth + 1) = ⊎_elim (λ h. omega arith) (λ h. omega arith) b in
    set_other W2 W' (marks + 2 * depth + 1) (i + 1) e j y.1 ∙ set_other W1 W2 (marks + 2 * depth) write refl j y.0
    ∙ set_other W W1 (base + write) item refl j x
