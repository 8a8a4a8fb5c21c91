-- The member pass: what `member` makes of the trees that are written and one accessor, and the loop of `members`. At its test the trees
-- done, the last first, stand in the array's front, the tokens not read yet in its end, and the definition's answer from there on is that
-- of the whole list.
use Prim.Native.Nat.{ℕ, ◌+◌, ◌-◌, ◌≤◌, ◌<◌}
use mathlib.Core.{Path.{◌≡◌, refl, sym, ap, ◌∙◌}, Logic.{◌≢◌, inl, inr, ⊎_elim}, Bool.{true, false}, List.{List, [], ◌∷◌}}
use native.Mathlib.{Omega.{arith}, Nat.{le_refl, add-zero}}
use lib.ListN.{length, set}
use Rattle.molang.specs.{Operator.{member_accessor, has_members}, Forest.{Token, Forest, nil, node, leaves, in_order, count}}
use Rattle.molang.specs.{Message.{leading_member_accessor}, Sections.{with_member, members}}
use Rattle.nodes.specs.{Store.{wd, slot_end, Seg, SegB, RepF, RepT, RepB, begins, put, Free, Kept}, Slots.{op_at}, Children.{Attached}}
use Rattle.nodes.proofs.Runs.{set_same, set_other, set_long, seg-keep, seg_b-keep}
use Rattle.nodes.proofs.Store.{rep-le, rep-count, tree-first, tree-below, tree-out, back-le, back_count}
use Rattle.nodes.proofs.Keeping.{free-above, free_part, kept_then, kept-part, rep-beside, tree-beside, back-beside}
use Rattle.nodes.proofs.Trees.{tree-under, tree-op, attach-tree, attach-kept}
use Rattle.sections.specs.Flat.{Stands, Fails, CanJoin, MemberAt, Written, WithMember, Membered}
use Rattle.sections.proofs.SectionWritten.{written_none, written-raise, written-more, store_kept, written-array}
use Rattle.sections.proofs.SectionCases.{members-other, members-joined, members-leading, joined-under, joined-after}
use Rattle.levels.specs.Failures as failures
use Rattle.levels.specs.Failures.{Tells}
use Rattle.levels.specs.declared.failure.Failure.TheVariants.{LeadingMemberAccessor}

-- ---- what is written

-- the last tree of some
record Last (W X : List ℕ) (base lo hi : ℕ) (ds : List ℕ) (d : Forest) : Type 0 where
  b : ℕ
  rs : List ℕ
  l : ℕ
  m : ℕ
  x : Token
  xs : Forest
  e : Forest
  count : length ds ≡ length rs + 1
  is : d ≡ node x xs e
  before : RepB W X rs lo l e
  tree : RepT W X b l m x xs
  high : m ≤ hi
  word : wd W (base + length rs) ≡ b
  run : SegB W base rs

last : {W X : List ℕ} (base : ℕ) {lo hi : ℕ} {ds : List ℕ} {d : Forest} → RepB W X ds lo hi d → SegB W base ds → 0 < length ds
    → Last W X base lo hi ds d
last base (begins h) g n = absurd (omega arith)
last base (put {b = b} {ds = rs} {l = l} {m = m} {d = e} {t = x} {k = xs} r t h) g n =
    record {
      b = b;
      rs = rs;
      l = l;
      m = m;
      x = x;
      xs = xs;
      e = e;
      count = omega arith;
      is = refl;
      before = r;
      tree = t;
      high = h;
      word = g.0;
      run = g.1;
    }

-- ---- `member`

module _ {W : List ℕ} {base write item : ℕ} (g : MemberAt W base write item) where
  before : Last W g.X base g.lo g.l g.written.ds g.d
  before = last base g.written.done g.written.run (omega (arith, g.written.wrote, g.some))

  index : base + write - 1 ≡ base + length before.rs
  index = omega (arith, before.count, g.written.wrote)

  previous : wd W (base + write - 1) ≡ before.b
  previous = rw index before.word

  -- the slots that it reads are in the store
  pub member-in : (slot_end (wd W (base + write - 1)) ≤ base) × (slot_end item ≤ base)
  member-in =
      rw previous (
        omega (arith, tree-below before.tree, before.high, g.tree.low, g.below, tree-below g.tree),
        omega (
          arith,
          tree-below
              g.tree,
          g.below,
        ),
      )

  pub member-under : (o : ℕ) (W1 W2 : List ℕ) → o ≡ op_at W (wd W (base + write - 1)) → has_members o ≡ true
      → Attached W item (wd W (base + write - 1)) W1
      → W2 ≡ set W1 (base + write - 1) item
      → WithMember W2 g.X base g.lo g.m g.k g.d write × Kept W W2 g.X g.lo g.m base (base + write + 1)
  member-under o W1 W2 eo h a e =
      let v = before in
      let w : Attached W item v.b W1 = rw previous at a in
      let low =
      v.tree.low in let high = tree-below v.tree in let le = v.high in let ti = g.tree.low in let th = tree-below g.tree in
      let bl = back-le v.before in
      let own = tree-under item (inr (omega arith)) v.tree in
      let tree1 : RepT W1 g.X item v.l g.m g.k (node v.x v.xs nil)
      = attach-tree w own g.tree.token g.tree.pos (tree-out g.tree) (omega arith) th (omega arith) (omega arith) in
      let kept1 : (j : ℕ) → Free g.X v.l g.m j → wd W1 j ≡ wd W j
      = λ j f. attach-kept w own (tree-out g.tree) (omega arith) th (omega arith) (omega arith) j f in
      let above : (j : ℕ) → base ≤ j → wd W1 j ≡ wd W j = λ j x. kept1 j (free-above g.X v.l g.m j (omega (arith, g.below))) in
      let other = set_other W1 W2 (base + write - 1) item e in
      let wrote = g.written.wrote in let count = v.count in let some = g.some in
      let low2 : (j : ℕ) → j < base → wd W2 j ≡ wd W1 j = λ j x. other j (omega arith) in
      let wide = g.room in
      let below = g.below in
      let is : has_members v.x.op ≡ true = ap has_members (sym (tree-op v.tree) ∙ ap (op_at W) (sym previous) ∙ sym eo) ∙ h in (
        record {
          e = node g.k (node v.x v.xs nil) v.e;
          is = ap (with_member g.k) v.is ∙ joined-under g.k v.x v.xs v.e is;
          written = record {
            ds = item ∷ v.rs;
            done = put
                (back-beside W1 W2 [] 0 0 base (λ j f x. low2 j x) (omega arith) (inr (omega arith))
                (back-beside W W1 g.X v.l g.m base (λ j f x. kept1 j f) (omega arith) (inl (le_refl v.l)) v.before))
                (tree-beside W1 W2 [] 0 0 base (λ j f x. low2 j x) below (inr (omega arith)) tree1) (le_refl g.m);
            run = (
              ap (λ (i : ℕ). wd W2 i) (sym index) ∙ set_same W1 W2 (base + write - 1) item e (omega (arith, w.long)),
              seg_b-keep W W2 base v.rs (λ j x y. other j (omega arith) ∙ above j x) v.run,
            );
            wrote = omega arith;
          };
        },
        λ j f o.
            other j (⊎_elim (λ x. omega arith) (λ x. omega arith) o)
            ∙ kept1 j (free_part g.X g.lo g.m v.l g.m j bl (le_refl g.m) f),
      )

  pub member-after : (o : ℕ) (W2 : List ℕ) → o ≡ op_at W (wd W (base + write - 1)) → has_members o ≡ false → W2 ≡ set W (base + write) item
      → WithMember W2 g.X base g.lo g.m g.k g.d (write + 1)
  member-after o W2 eo h e =
      let v = before in
      let is : has_members v.x.op ≡ false = ap has_members (sym (tree-op v.tree) ∙ ap (op_at W) (sym previous) ∙ sym eo) ∙ h in
      record {
        e = node g.k nil g.d;
        is = rw v.is (joined-after g.k v.x v.xs v.e is);
        written = written-more W W2 e g.room g.below g.written g.tree;
      }

-- ---- the loop of `members`

-- The trees of d are written; the tokens `rest`, at the slots rs, are not read yet.
pub record JoinAt (W₀ : List ℕ) (base n : ℕ) (g : CanJoin W₀ base n) (W : List ℕ) (read write : ℕ) (rs : List ℕ) (rest : List Token)
    : Type 0 where
  pub m : ℕ
  pub d : Forest
  pub written : Written W g.X base g.lo m d write
  pub left : RepF W g.X rs m g.hi (leaves rest)
  pub run : Seg W (base + read) rs
  pub count : read + length rs ≡ n
  pub behind : write ≤ read
  pub answer : members d (leaves rest) ≡ members nil (leaves g.ks)
  pub kept : Kept W₀ W g.X g.lo g.hi base (base + n)
  pub long : length W ≡ length W₀

abbrev pub Joining : (W₀ : List ℕ) (base n : ℕ) → CanJoin W₀ base n → List ℕ → ℕ → ℕ → Type 0
Joining W₀ base n g W read write = (rs : List ℕ) × (rest : List Token) × JoinAt W₀ base n g W read write rs rest

pub join-start : {W : List ℕ} {base n : ℕ} (g : CanJoin W base n) → Joining W base n g W 0 0
join-start {W} {base} {n} g = (
  g.array.bs,
  g.ks,
  record {
    m = g.lo;
    d = nil;
    written = written_none g.lo;
    left = g.array.rep;
    run = rw add-zero g.array.seg;
    count = omega (arith, g.array.count);
    behind = omega arith;
    answer = refl;
    kept = λ j f o. refl;
    long = refl;
  },
)

-- a turn begins: the token k at the slot `item` is read, those after it are left
pub record JoinTurn (W₀ : List ℕ) (base n : ℕ) (g : CanJoin W₀ base n) (W : List ℕ) (read write item : ℕ) : Type 0 where
  pub l : ℕ
  pub m : ℕ
  pub d : Forest
  pub k : Token
  pub bs : List ℕ
  pub rest : List Token
  pub written : Written W g.X base g.lo l d write
  pub tree : RepT W g.X item l m k nil
  pub left : RepF W g.X bs m g.hi (leaves rest)
  pub run : Seg W (base + (read + 1)) bs
  pub count : read + 1 + length bs ≡ n
  pub behind : write ≤ read
  pub answer : members d (node k nil (leaves rest)) ≡ members nil (leaves g.ks)
  pub kept : Kept W₀ W g.X g.lo g.hi base (base + n)
  pub long : length W ≡ length W₀

pub join-turn : {W₀ : List ℕ} {base n : ℕ} {g : CanJoin W₀ base n} {W : List ℕ} {read write : ℕ} (rs : List ℕ) (rest : List Token)
    → JoinAt W₀ base n g W read write rs rest → read < n → (item : ℕ) → item ≡ wd W (base + read) → JoinTurn W₀ base n g W read write item
unfolding leaves count
join-turn [] rest v h item e = absurd (omega (arith, v.count))
join-turn (b ∷ bs) [] v h item e = absurd (omega (arith, rep-count v.left))
join-turn {W₀} {base} {n} {g} {W} {read} {write} (b ∷ bs) (k ∷ ks) v h item e =
    let f = tree-first v.left in
    let is : item ≡ b = e ∙ v.run.0 in
    let next : base + (read + 1) ≡ base + read + 1 = omega arith in
    record {
      l = f.l;
      m = f.m;
      d = v.d;
      k = k;
      bs = bs;
      rest = ks;
      written = written-raise f.low v.written;
      tree = rw is f.tree;
      left = f.rest;
      run = rw next v.run.1;
      count = omega (arith, v.count);
      behind = v.behind;
      answer = v.answer;
      kept = v.kept;
      long = v.long;
    }

module _ {W₀ : List ℕ} {base n : ℕ} {g : CanJoin W₀ base n} {W : List ℕ} {read write item : ℕ}
    (v : JoinTurn W₀ base n g W read write item) where
  pub join-high : v.m ≤ g.hi
  join-high = rep-le v.left

  -- there is room to write the token, and it is in the store
  pub join-in : (base + write < length W) × (slot_end item ≤ length W)
  join-in = omega (arith, g.room, g.below, v.long, v.behind, v.count, join-high, tree-below v.tree)

  -- no token is before it
  pub join-leading : op_at W item ≡ member_accessor → write ≡ 0 → Fails (Tells W) (members nil (leaves g.ks)) (LeadingMemberAccessor item)
  unfolding count
  join-leading o z =
      let op : v.k.op ≡ member_accessor = sym (tree-op v.tree) ∙ o in
      let empty : v.d ≡ nil = nothing v.d (omega (arith, v.written.wrote, back_count v.written.done)) in
      record {
        messages = leading_member_accessor v.k ∷ [];
        is = sym v.answer ∙ rw empty (members-leading v.k nil (leaves v.rest) op);
        told = failures.leading_member_accessor v.tree.token;
      }
    where
      nothing : (d : Forest) → count d ≡ 0 → d ≡ nil
      nothing nil e = refl
      nothing (node t cs d) e = absurd (omega arith)

  abbrev pub join-accessor : op_at W item ≡ member_accessor → write ≢ 0 → MemberAt W base write item
  join-accessor o z =
      record {
        X = g.X;
        lo = g.lo;
        l = v.l;
        m = v.m;
        d = v.d;
        k = v.k;
        written = v.written;
        some = omega arith;
        tree = v.tree;
        accessor = sym (tree-op v.tree) ∙ o;
        below = omega (arith, join-high, g.below);
        room = join-in.0;
      }

  -- the turn ends: r items are written, and what is left stands as it did
  turned : {e : Forest} {r : ℕ} (W' : List ℕ) → Written W' g.X base g.lo v.m e r
      → members e (leaves v.rest) ≡ members nil (leaves g.ks) → r ≤ write + 1
      → Kept W W' g.X g.lo v.m base (base + write + 1) → length W' ≡ length W → Joining W₀ base n g W' (read + 1) r
  turned {e} W' w a r kept long = (
    v.bs,
    v.rest,
    record {
      m = v.m;
      d = e;
      written = w;
      left = rep-beside W W' g.X g.lo v.m base (λ j f h. kept j f (inl h)) g.below (inr (le_refl v.m)) v.left;
      run = seg-keep W W' (base + (read + 1)) v.bs
          (λ j x y. kept j (free-above g.X g.lo v.m j (omega (arith, join-high, g.below))) (inr (omega (arith, v.behind))))
          v.run;
      count = v.count;
      behind = omega (arith, v.behind);
      answer = a;
      kept = kept_then W₀ W W' g.X g.lo g.hi base (base + n) v.kept
          (kept-part W W' g.X g.lo g.hi g.lo v.m base (base + write + 1) base (base + n) (le_refl g.lo) join-high
          (le_refl base)
          (omega (arith, v.count, v.behind)) kept);
      long = long ∙ v.long;
    },
  )

  pub join-member : (o : op_at W item ≡ member_accessor) (z : write ≢ 0) (r : ℕ) (W' : List ℕ) → Membered W base write item r W'
      → Joining W₀ base n g W' (read + 1) r
  join-member o z r W' w =
      let a = join-accessor o z in
      let j = w.joined a in
      turned W' j.written (sym (members-joined v.k nil v.d j.e (leaves v.rest) a.accessor j.is) ∙ v.answer) w.more
      (w.kept a) w.long

  pub join-other : op_at W item ≢ member_accessor → (W' : List ℕ) → W' ≡ set W (base + write) item
      → Joining W₀ base n g W' (read + 1) (write + 1)
  join-other o W' e =
      turned W' (written-more W W' e join-in.0 (omega (arith, join-high, g.below)) v.written v.tree)
      (sym (members-other v.k nil v.d (leaves v.rest) (λ h. o (tree-op v.tree ∙ h))) ∙ v.answer) (le_refl (write + 1))
      (store_kept W W' g.X base g.lo v.m write item e) (set_long W W' (base + write) item e)

pub join-done : {W₀ : List ℕ} {base n : ℕ} {g : CanJoin W₀ base n} {W : List ℕ} {read write : ℕ} (rs : List ℕ) (rest : List Token)
    → JoinAt W₀ base n g W read write rs rest → n ≤ read → Stands W g.X base g.lo g.hi n (members nil (leaves g.ks)) write
unfolding leaves count members
join-done (b ∷ bs) rest v h = absurd (omega (arith, v.count))
join-done [] (k ∷ ks) v h = absurd (omega (arith, rep-count v.left))
join-done {W₀} {base} {n} {g} {W} {read} {write} [] [] v h =
    let w = written-raise (rep-le v.left) v.written in
    record {
      forest = in_order v.d;
      is = sym v.answer;
      array = written-array w;
      fewer = omega (arith, v.behind, v.count);
    }
