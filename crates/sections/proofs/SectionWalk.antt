-- The section walk: its two loops have one invariant, the outer one with no section open. What is read stands as the definition's open
-- sections, what is not read yet in the array's end, and the definition's answer from there on is that of the whole list.
use Prim.Native.Nat.{ℕ, ◌+◌, ◌*◌, ◌≤◌, ◌<◌}
use mathlib.Core.{Path.{◌≡◌, refl, sym, ap, ◌∙◌, subst}, Logic.{◌≢◌, inl, inr, ⊎_elim}, Bool.{true}, List.{List, [], ◌∷◌}}
use native.Mathlib.{Omega.{arith}, Nat.{le_refl, add-zero}}
use lib.ListN.{length}
use Rattle.molang.specs.{Forest.{Token, Forest, nil, node, in_order, count}, Message.{Message}}
use Rattle.molang.specs.{Sections.{Open, outside, position, Walked, mismatch, sections}, Free.{flat}}
use Rattle.nodes.{specs.Store.{wd, Seg, RepF, RepT, Kept}, proofs.Runs.{seg-keep}, proofs.Store.{rep-le, rep-count, tree-first, back_count}}
use Rattle.nodes.proofs.Keeping.{free-above, free_part, kept_then, rep-beside}
use Rattle.sections.specs.Flat.{FlatTells, mismatched, Stands, Fails, Standing, outer, inner, LookAt, Follows, on, ends, Looked, NamedAt, Named}
use Rattle.std.specs.Prelude.{Result, Ok, Err}
use Rattle.sections.specs.Flat.{CanSection}
use Rattle.levels.specs.declared.failure.Fault.TheVariants.{Mismatched, Unclosed as Unclosing}
use Rattle.sections.specs.{declared.Reached.{Reached}, declared.Differs.{Differs}}
use Rattle.levels.specs.{Failures.{TellsMismatch}, declared.failure.Unclosed.{Unclosed}}
use Rattle.sections.proofs.SectionCases.{flat-first, sections-go, sections-end}
use Rattle.sections.proofs.SectionWritten.{written_none, written-raise, written-array}
use Rattle.sections.proofs.SectionOpen.{standing-written, standing-raise, standing-named, standing-unclosed, standing-outside}
use Rattle.sections.proofs.SectionLooking.{went}

-- ---- what a token leaves

ended : {W X : List ℕ} {base marks lo hi w i : ℕ} {r : Result Reached Differs} {x : Walked} (d : Differs)
    → Follows W X base marks lo hi w i r x → r ≡ Err d → (ms : List Message) × (x ≡ mismatch ms) × TellsMismatch W d.mismatch ms
ended d (on st w n) e = let z : ◌≡◌ {A = ℕ} 0 1 = cc in absurd (omega arith)
ended {W} d (ends {d = b} {ms = ms} t) e =
    let same : b ≡ d = cc in
    (ms, refl, subst (λ (d : Differs). TellsMismatch W d.mismatch ms) same t)

-- no token counts more than those that are read
position-near : {W X : List ℕ} {base marks lo hi k w i read : ℕ} {s : Open} → Standing W X base marks lo hi k w s → w ≤ read → i ≤ read
    → position i s ≤ read + 1
unfolding position
position-near (outer v e) a b = omega (arith, v.wrote, back_count v.done)
position-near (inner st x v e) a b = omega arith

-- ---- the loops

-- The open sections s stand; the trees `rest`, at the slots rs, are not read yet.
pub record WalkAt (W₀ : List ℕ) (base n : ℕ) (g : CanSection W₀ base n) (W : List ℕ) (read write depth index : ℕ) (rs : List ℕ)
    (rest : Forest) : Type 0 where
  pub m : ℕ
  pub s : Open
  pub standing : Standing W g.X base (base + n) g.lo m depth write s
  pub left : RepF W g.X rs m g.hi rest
  pub run : Seg W (base + read) rs
  pub count : read + length rs ≡ n
  pub behind : write ≤ read
  pub near : index ≤ read
  pub is_flat : flat rest ≡ true
  pub answer : sections index s rest ≡ sections 0 (outside nil) g.f
  pub kept : Kept W₀ W g.X g.lo g.hi base (base + n + 2 * n)
  pub long : length W ≡ length W₀

abbrev pub Walking : (W₀ : List ℕ) (base n : ℕ) → CanSection W₀ base n → List ℕ → ℕ → ℕ → ℕ → ℕ → Type 0
Walking W₀ base n g W read write depth index = (rs : List ℕ) × (rest : Forest) × WalkAt W₀ base n g W read write depth index rs rest

pub walk_start : {W : List ℕ} {base n : ℕ} (g : CanSection W base n) → Walking W base n g W 0 0 0 0
walk_start {W} {base} {n} g = (
  g.array.bs,
  g.f,
  record {
    m = g.lo;
    s = outside nil;
    standing = outer (written_none g.lo) refl;
    left = g.array.rep;
    run = rw add-zero g.array.seg;
    count = omega (arith, g.array.count);
    behind = omega arith;
    near = omega arith;
    is_flat = g.is_flat;
    answer = refl;
    kept = λ j f o. refl;
    long = refl;
  },
)

-- a turn begins: the tree of k at the slot `item` is read, those after it are left
pub record WalkTurn (W₀ : List ℕ) (base n : ℕ) (g : CanSection W₀ base n) (W : List ℕ) (read write depth index item : ℕ) : Type 0 where
  pub l : ℕ
  pub m : ℕ
  pub s : Open
  pub k : Token
  pub cs : Forest
  pub bs : List ℕ
  pub rest : Forest
  pub standing : Standing W g.X base (base + n) g.lo l depth write s
  pub tree : RepT W g.X item l m k cs
  pub is_flat : flat (node k cs nil) ≡ true
  pub left : RepF W g.X bs m g.hi rest
  pub after : flat rest ≡ true
  pub run : Seg W (base + (read + 1)) bs
  pub count : read + 1 + length bs ≡ n
  pub behind : write ≤ read
  pub near : index ≤ read
  pub answer : sections index s (node k cs rest) ≡ sections 0 (outside nil) g.f
  pub kept : Kept W₀ W g.X g.lo g.hi base (base + n + 2 * n)
  pub long : length W ≡ length W₀

pub walk_turn : {W₀ : List ℕ} {base n : ℕ} {g : CanSection W₀ base n} {W : List ℕ} {read write depth index : ℕ} (rs : List ℕ)
    (rest : Forest)
    → WalkAt W₀ base n g W read write depth index rs rest → read < n → (item : ℕ) → item ≡ wd W (base + read)
    → WalkTurn W₀ base n g W read write depth index item
unfolding count
walk_turn [] rest v h item e = absurd (omega (arith, v.count))
walk_turn (b ∷ bs) nil v h item e = absurd (omega (arith, rep-count v.left))
walk_turn {W₀} {base} {n} {g} {W} {read} (b ∷ bs) (node k cs rest) v h item e =
    let f = tree-first v.left in
    let is : item ≡ b = e ∙ v.run.0 in
    let next : base + (read + 1) ≡ base + read + 1 = omega arith in
    let both = flat-first k cs rest v.is_flat in
    record {
      l = f.l;
      m = f.m;
      s = v.s;
      k = k;
      cs = cs;
      bs = bs;
      rest = rest;
      standing = standing-raise f.low v.standing;
      tree = rw is f.tree;
      is_flat = both.0;
      left = f.rest;
      after = both.1;
      run = rw next v.run.1;
      count = omega (arith, v.count);
      behind = v.behind;
      near = v.near;
      answer = v.answer;
      kept = v.kept;
      long = v.long;
    }

module _ {W₀ : List ℕ} {base n : ℕ} {g : CanSection W₀ base n} {W : List ℕ} {read write depth index item : ℕ}
    (v : WalkTurn W₀ base n g W read write depth index item) where
  pub walk-high : (v.m ≤ g.hi) × (depth ≤ write)
  walk-high = (rep-le v.left, standing-written v.standing)

  abbrev pub walk-look : LookAt W base (base + n) write depth item
  walk-look =
      record {
        X = g.X;
        lo = g.lo;
        l = v.l;
        m = v.m;
        s = v.s;
        k = v.k;
        cs = v.cs;
        standing = v.standing;
        tree = v.tree;
        is_flat = v.is_flat;
        below = omega (arith, walk-high, g.below);
        apart = omega (arith, v.behind, v.count);
        room = omega (arith, walk-high, g.room, v.long, v.behind, v.count);
      }

  -- the words that a token leaves as they were, among them those of the list that are not read yet
  turn-kept : {r : Result Reached Differs} {W' : List ℕ} → Looked W base (base + n) write depth index item r W'
      → Kept W₀ W' g.X g.lo g.hi base (base + n + 2 * n)
  turn-kept {W' = W'} w =
      let high = walk-high in let behind = v.behind in let count = v.count in
      kept_then W₀ W W' g.X g.lo g.hi base (base + n + 2 * n) v.kept
      (λ j f o. w.same walk-look j (free_part g.X g.lo g.hi g.lo v.m j (le_refl g.lo) high.0 f)
      (⊎_elim (λ h. inl h) (λ h. inr (omega arith)) o) (⊎_elim (λ h. inl (omega arith)) (λ h. inr (omega arith)) o))

  pub walk-on : (r : Result Reached Differs) (a : Reached) (W' : List ℕ) → Looked W base (base + n) write depth index item r W' → r ≡ Ok a
      → Walking W₀ base n g W' (read + 1) a.write a.depth a.index
  walk-on r a W' w e =
      let f = went a (w.answer walk-look) e in
      let next = position-near v.standing v.behind v.near in (
        v.bs,
        v.rest,
        record {
          m = v.m;
          s = f.t;
          standing = f.standing;
          left =
              rep-beside W W' g.X g.lo v.m base (λ j x h. w.same walk-look j x (inl h) (inl (omega arith))) g.below
              (inr (le_refl v.m)) v.left;
          run = seg-keep W W' (base + (read + 1)) v.bs
              (λ j x y. w.same walk-look j (free-above g.X g.lo v.m j (omega (arith, walk-high, g.below)))
              (inr (omega (arith, v.behind))) (inl (omega (arith, v.count))))
              v.run;
          count = v.count;
          behind = omega (arith, f.more, v.behind);
          near = omega (arith, f.index);
          is_flat = v.after;
          answer =
              ap (λ (i : ℕ). sections i f.t v.rest) f.index
              ∙ (sym (sections-go v.k v.cs v.rest index v.s f.t f.is) ∙ v.answer);
          kept = turn-kept w;
          long = w.long ∙ v.long;
        },
      )

  pub walk-differs : (r : Result Reached Differs) (d : Differs) (W' : List ℕ) → Looked W base (base + n) write depth index item r W'
      → r ≡ Err d
      → Fails (FlatTells W') (sections 0 (outside nil) g.f) (Mismatched d.mismatch) × Kept W₀ W' g.X g.lo g.hi base (base + n + 2 * n)
  walk-differs r d W' w e =
      let f = ended d (w.answer walk-look) e in (
        record {
          messages = f.0;
          is = sym v.answer ∙ sections-end v.k v.cs v.rest index v.s f.0 f.1;
          told = mismatched f.2;
        },
        turn-kept w,
      )

-- ---- the end of the list

module _ {W₀ : List ℕ} {base n : ℕ} {g : CanSection W₀ base n} {W : List ℕ} {read write depth index : ℕ} where
  pub walk-done : (rs : List ℕ) (rest : Forest) → WalkAt W₀ base n g W read write depth index rs rest → n ≤ read → depth ≡ 0
      → Stands W g.X base g.lo g.hi n (sections 0 (outside nil) g.f) write
  unfolding sections count
  walk-done (b ∷ bs) rest v h z = absurd (omega (arith, v.count))
  walk-done [] (node k cs rest) v h z = absurd (omega (arith, rep-count v.left))
  walk-done [] nil v h z =
      let o = standing-outside v.standing z in
      let w = written-raise (rep-le v.left) o.2 in
      record {
        forest = in_order o.0;
        is = sym v.answer ∙ o.1;
        array = written-array w;
        fewer = omega (arith, v.behind, v.count);
      }

  pub walk-named : {rs : List ℕ} {rest : Forest} → WalkAt W₀ base n g W read write depth index rs rest → depth ≢ 0
      → NamedAt W base (base + n) depth
  walk-named v z =
      let high = standing-written v.standing in
      standing-named v.standing z (omega (arith, v.behind, v.count, v.long, g.room))
      (omega (arith, v.behind, v.count, v.long, g.room))

  pub walk-unclosed : (rs : List ℕ) (rest : Forest) → WalkAt W₀ base n g W read write depth index rs rest → n ≤ read → depth ≢ 0
      → (u : Unclosed) → Named W base (base + n) depth u
      → Fails (FlatTells W) (sections 0 (outside nil) g.f) (Unclosing u)
  unfolding sections count
  walk-unclosed (b ∷ bs) rest v h z u a = absurd (omega (arith, v.count))
  walk-unclosed [] (node k cs rest) v h z u a = absurd (omega (arith, rep-count v.left))
  walk-unclosed [] nil v h z u a =
      let f = standing-unclosed v.standing z a in
      record { messages = f.messages; is = sym v.answer ∙ f.is; told = f.told }
