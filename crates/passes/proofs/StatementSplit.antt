-- A list split at its semicolons: its finished statements and the trees of the open one, as one view of the pass's two states; and its
-- turns.
use Prim.Native.Nat.{ℕ, ◌+◌, ◌^◌, ◌≤◌, ◌<◌}
use mathlib.Core.{Path.{◌≡◌, refl, sym, ap, ◌∙◌, subst}, Logic.{inl, inr, ⊎_elim}, Bool.{true, false, true≢false}, List.{List, []}}
use native.Mathlib.{Omega.{arith}, Nat.{le_refl}}
use lib.ListN.{length}
use Rattle.molang.specs.{Forest.{Token, Forest, nil, node, count, size}, Level.{on}}
use Rattle.molang.specs.{Statements.{Split, after, inside, split_of, is_entered, enter_split, statement_step}, Order.{last_of}}
use Rattle.molang.specs.{Free.{is_nil, is_semicolon}, Work.{Kind, statements, State, begins}}
use Rattle.nodes.specs.{Store.{wd, slot_start, slot_end, begins as begins-with}, declared.frames.List.{List as Items}}
use Rattle.nodes.proofs.{Runs.{set_same, set_other, set_long}, Store.{tree-below, back-le, back-raise, back_count}, Trees.{tree-op}}
use Rattle.levels.specs.Passes.{walk_of, moved_to, Runs, split, waits}
use Rattle.levels.specs.Items.{BackArray, Ahead, CanSeek, Passed, SoughtTo, none as Found-None, tree, Sought}
use Rattle.levels.specs.Sides.{StatementSide, closed, current, EndedAt, Ended, nothing, statement, DoneSide, UnreadSide, SplitAgrees}
use Rattle.levels.specs.{Sides.{Agrees, Sides, Holds}, Turns.{Within, CanTurn, TurnTo, goes, enters, ends, Turned, afresh}}
use Rattle.levels.specs.{declared.items.Found.TheVariants.{Nothing, Children}, declared.turns.Pass.TheVariants.{Split as SplitAt}}
use Rattle.levels.specs.{declared.turns.Turn.{Turn}, declared.turns.Turn.TheVariants.{Over}}
use Rattle.std.specs.Prelude.{Ok}
use Rattle.levels.proofs.{Reading.{ahead-le, ahead-keep, array-put}, Ended.{ended-le, ended-at-keep}, States.{sides-of}}
use Rattle.passes.specs.Statements.{InnerTo, entered, kept}
use Rattle.passes.proofs.StatementLaws.{semicolon-class, enter-in, enter-over, walk-on, walk-in, earliest, open_on, gather-open}
use Rattle.passes.proofs.StatementLaws.{last-earliest, open-inside, passed-counts, passed-open, passed-split, Moved, moved_same}
use Rattle.passes.proofs.StatementLaws.{same-list, sought-within}

-- ---- finished statements

pub ended-raise : {W X ds : List ℕ} {lo l l' : ℕ} {d : Forest} → l ≤ l' → Ended W X ds lo l d → Ended W X ds lo l' d
ended-raise {lo = lo} {l' = l'} h (nothing e) = let z : lo ≤ l' = omega arith in nothing z
ended-raise {l' = l'} h (statement {b = b} r t o e) = let z : b + 3 ≤ l' = omega arith in statement r t o z

pub ended-at-raise : {W X : List ℕ} {base n lo l l' : ℕ} {q : Token} {done : Forest} → l ≤ l' → EndedAt W X base n lo l q done
    → EndedAt W X base n lo l' q done
ended-at-raise h v = record { ds = v.ds; seg = v.seg; count = v.count; rep = ended-raise h v.rep; list = v.list }

pub ended-rebase : {W X : List ℕ} {base base' n lo l : ℕ} {q : Token} {done : Forest} → base ≡ base' → EndedAt W X base n lo l q done
    → EndedAt W X base' n lo l q done
ended-rebase {W} {X} {n = n} {lo = lo} {l = l} {q = q} {done = done} e v = subst (λ (x : ℕ). EndedAt W X x n lo l q done) e v

-- ---- one view of both states

-- While no statement is finished, the first semicolon is still to come.
abbrev pub Pending : Token → Forest → Forest → Type 0
Pending q done rest = is_nil done ≡ true → split_of rest ≡ after q nil

pub data SplitView (W X : List ℕ) (lo hi : ℕ) (l : Items) (n : ℕ) : (κ : Kind) → State κ → Forest → Type 0 where
  splits : {q : Token} {done d rest : Forest} {m m' m'' c : ℕ} → EndedAt W X l.base n lo m q done → BackArray W X (l.base + n) c m m' d
      → n + c ≡ l.write
      → Ahead W X l.base l.read l.len m'' hi rest → m' ≤ m'' → Pending q done rest
      → l.write ≤ l.read → slot_start hi ≤ l.base → l.base + l.len ≤ length W
      → SplitView W X lo hi l n statements (open_on q done d) rest

agrees-pending : (q : Token) (done rest : Forest) → SplitAgrees (after q done) rest → Pending q done rest
unfolding is_nil
agrees-pending q nil rest a e = a
agrees-pending q (node t ts done) rest a e = absurd (true≢false (sym e))

inside-pending : (q : Token) (done : Forest) (s : Token) (d rest : Forest) → SplitAgrees (inside q done s d) rest → Pending q done rest
unfolding is_nil
inside-pending q nil s d rest a e = a
inside-pending q (node t ts done) s d rest a e = absurd (true≢false (sym e))

pending-agrees : (q : Token) (done d rest : Forest) → Pending q done rest → SplitAgrees (open_on q done d) rest
unfolding is_nil open_on
pending-agrees q nil nil rest p = p refl
pending-agrees q nil (node k cs d) rest p = p refl
pending-agrees q (node t ts done) nil rest p = tt
pending-agrees q (node t ts done) (node k cs d) rest p = tt

pub split-view : {W X : List ℕ} {lo hi n : ℕ} {l : Items} {κ : Kind} {s : State κ} {rest : Forest}
    → Holds κ W X lo hi (walk_of l (SplitAt n)) s rest → SplitView W X lo hi l n κ s rest
unfolding open_on
split-view {W} {X} {lo} {hi} {n} {l} h =
    go n h.sides.runs h.sides.done h.sides.unread h.sides.agrees h.sides.mid h.turning h.sides.below
    h.sides.within
  where
    go : {κ : Kind} {s : State κ} {rest : Forest} {m m' : ℕ} (n : ℕ) → Runs κ (SplitAt n)
        → DoneSide κ W X lo m m' hi (walk_of l (SplitAt n)) s → UnreadSide κ W X lo m m' hi l rest
        → Agrees κ l s rest → m ≤ m' → l.write ≤ l.read → slot_start hi ≤ l.base → l.base + l.len ≤ length W
        → SplitView W X lo hi l n κ s rest
    go {rest = rest} {m = m} n split (closed {done = done} {q = q} v) u a e t below within =
        splits {d = nil} {m = m} {m' = m} {c = 0} v (record { ds = []; seg = tt; count = refl; rep = begins-with (le_refl m) })
        (omega arith) u e (agrees-pending q done rest a) t below within
    go {rest = rest} n split (current {done = done} {d = d} {q = q} {s = s} v o) u a e t below within =
        subst (λ (x : Split). SplitView W X lo hi l n statements x rest) (sym (open-inside q done s d o.first o.earliest o.named))
        (splits v o.items o.reached u e (inside-pending q done s d rest a) t below within)

split-side : {W X : List ℕ} {base write lo m m' n c : ℕ} {q : Token} {done : Forest} (d : Forest) → EndedAt W X base n lo m q done
    → BackArray W X (base + n) c m m' d → n + c ≡ write
    → StatementSide W X base write lo m' (SplitAt n) (open_on q done d)
unfolding open_on count last_of
split-side {W} {X} {base} {write} {lo} {m} {m'} {n} {c} {q} {done} nil v b e =
    let same : write ≡ n = omega (arith, b.count, back_count b.rep) in
    let le = back-le b.rep in
    subst (λ (x : ℕ). StatementSide W X base write lo m' (SplitAt x) (after q done)) same
    (closed (subst (λ (x : ℕ). EndedAt W X base x lo m' q done) (sym same) (ended-at-raise le v)))
split-side {c = c} (node k cs d) v b e =
    current v (record { first = earliest k d; earliest = last-earliest k d; named = refl; count = c; reached = e; items = b })

pub split-sides : {W X : List ℕ} {lo hi m m' m'' n c : ℕ} {l : Items} {q : Token} {done rest : Forest} (d : Forest)
    → EndedAt W X l.base n lo m q done → BackArray W X (l.base + n) c m m' d
    → n + c ≡ l.write → Ahead W X l.base l.read l.len m'' hi rest → m' ≤ m'' → Pending q done rest
    → slot_start hi ≤ l.base → l.base + l.len ≤ length W → Sides statements W X lo m' m'' hi (walk_of l (SplitAt n)) (open_on q done d) rest
split-sides {q = q} {done = done} {rest = rest} d v b e u le p below within =
    sides-of split (split-side d v b e) u (pending-agrees q done d rest p) (omega (arith, ended-le v.rep, back-le b.rep)) le
    (ahead-le u).0 below within

-- ---- a turn

module _ {W X : List ℕ} {lo hi n : ℕ} {l : Items} where
  abbrev pub seek-split : {q : Token} {done d rest : Forest} {m m' m'' c : ℕ} → EndedAt W X l.base n lo m q done
      → BackArray W X (l.base + n) c m m' d → n + c ≡ l.write
      → Ahead W X l.base l.read l.len m'' hi rest → m' ≤ m'' → l.write ≤ l.read → slot_start hi ≤ l.base
      → l.base + l.len ≤ length W → length W < 2 ^ 32 → CanSeek W l
  seek-split {d = d} {rest = rest} {m = m} {m'' = m''} {c = c} v b e u le t below within small =
      record {
        X = X;
        lo = m;
        m = m'';
        hi = hi;
        at = l.base + n;
        n = c;
        d = d;
        rest = rest;
        done = record { ds = b.ds; seg = b.seg; count = b.count; rep = back-raise le b.rep };
        reached = omega arith;
        started = omega arith;
        ahead = u;
        behind = t;
        below = below;
        within = within;
        small = small;
      }

  pub split-seek : {κ : Kind} {s : State κ} {rest : Forest} → length W < 2 ^ 32 → SplitView W X lo hi l n κ s rest → CanSeek W l
  split-seek small (splits v b e u le p t below within) = seek-split v b e u le t below within small

pub open-items : {W X : List ℕ} {at at' c c' lo m : ℕ} {d : Forest} → at ≡ at' → c ≡ c' → BackArray W X at c lo m d
    → BackArray W X at' c' lo m d
open-items {W} {X} {at} {at'} {c} {c'} {lo} {m} {d} e h v =
    subst (λ (x : ℕ). BackArray W X at' x lo m d) h (subst (λ (x : ℕ). BackArray W X x c lo m d) e v)

open_in : (q : Token) (done d : Forest) (k : Token) (cs : Forest) → is_nil cs ≡ false
    → statement_step (open_on q done d) k cs ≡ enter_split (open_on q done d) k cs
unfolding statement_step is_nil open_on
open_in q done d k nil e = absurd (true≢false e)
open_in q done nil k (node c cs r) e = refl
open_in q done (node t ts d) k (node c cs r) e = refl

split-tree : (k : Token) (cs rest : Forest) → is_nil cs ≡ false → split_of rest ≡ split_of (node k cs rest)
unfolding split_of is_nil
split-tree k nil rest e = absurd (true≢false e)
split-tree k (node c cs r) rest e = refl

pending-tree : (q : Token) (done : Forest) (k : Token) (cs rest : Forest) → is_nil cs ≡ false → Pending q done (node k cs rest)
    → Pending q done rest
pending-tree q done k cs rest full h z = split-tree k cs rest full ∙ h z

pub pending-passed : {d rest d' rest' : Forest} (q : Token) (done : Forest) → Passed is_semicolon d rest d' rest' → Pending q done rest
    → Pending q done rest'
pending-passed q done passed p e = sym (passed-split passed) ∙ p e

module _ {W W' X : List ℕ} {lo hi n : ℕ} {l l' : Items} (small : length W < 2 ^ 32) where
  pub split-over : {κ : Kind} {s : State κ} {rest : Forest} → Sought W l 0x2 (Nothing l') W' → SplitView W X lo hi l n κ s rest
      → TurnTo κ W' X lo hi (walk_of l (SplitAt n)) s rest (Ok (Over (walk_of l' (SplitAt n))))
  unfolding waits
  split-over g (splits {q = q} {done = done} {d = d} {rest = rest} {m = m} v b e u le p t below within) =
      go (g.to (seek-split v b e u le t below within small) is_semicolon semicolon-class)
    where
      go : SoughtTo W' X l (l.base + n) m hi is_semicolon d rest (Nothing l')
          → TurnTo statements W' X lo hi (walk_of l (SplitAt n)) (open_on q done d) rest (Ok (Over (walk_of l' (SplitAt n))))
      go (Found-None {d' = d'} moved behind passed seen) =
          let mv : Moved l l' = moved_same moved in
          let mb = mv.base in let ml = mv.len in let long = g.long in
          let bl = back-le b.rep in let al = ahead-le u in
          let ended =
          ended-at-keep W W' (λ s o x y z w. g.same (slot_start s + o) (inl (omega arith))) (λ j x y. g.same j (inl (omega arith))) v in
          ends (same-list (SplitAt n) (SplitAt n) refl mv)
          (record {
            l = hi;
            m = hi;
            sides =
                split-sides {c = seen.n} d' (ended-rebase (sym mb) ended) (open-items (ap (λ (x : ℕ). x + n) (sym mb)) refl seen.done)
                (omega (arith, seen.reached)) seen.ahead (le_refl hi)
                (pending-passed q done passed p) (omega arith) (omega arith);
            turning = behind;
          })
          refl (passed-open q done passed)

  pub split-inner : {κ : Kind} {s : State κ} {rest : Forest} {b : ℕ} {r : Turn} {W'' : List ℕ} → Sought W l 0x2 (Children l' b) W'
      → InnerTo W' l' b (SplitAt n) r W'' → SplitView W X lo hi l n κ s rest
      → TurnTo κ W'' X lo hi (walk_of l (SplitAt n)) s rest (Ok r)
  unfolding waits count size
  split-inner {b = b} {r = r} {W'' = W''} g i (splits {q = q} {done = done} {d = d} {rest = rest} {m = m} v w e u le p t below within) =
      go i (g.to (seek-split v w e u le t below within small) is_semicolon semicolon-class)
    where
      go : {r : Turn} {W'' : List ℕ} → InnerTo W' l' b (SplitAt n) r W''
          → SoughtTo W' X l (l.base + n) m hi is_semicolon d rest (Children l' b)
          → TurnTo statements W'' X lo hi (walk_of l (SplitAt n)) (open_on q done d) rest (Ok r)
      go (entered is_in) (tree {d' = d'} {rest' = rest'} {cs = cs} {a = a} {m = hm} {k = k} moved before passed full unfree t seen) =
          let mv : Moved l l' = moved_same moved in
          let mb = mv.base in let ml = mv.len in let long = g.long in
          let bl = back-le w.rep in let al = ahead-le u in
          let c = passed-counts passed in
          let ended =
          ended-at-keep W W' (λ s o x y z w. g.same (slot_start s + o) (inl (omega arith))) (λ j x y. g.same j (inl (omega arith))) v in
          enters {t = open_on q done d'} {u = begins statements cs} (same-list (SplitAt n) (SplitAt n) refl mv)
          (record {
            sides =
                split-sides {c = seen.n} d' (ended-rebase (sym mb) ended) (open-items (ap (λ (x : ℕ). x + n) (sym mb)) refl seen.done)
                (omega (arith, seen.reached)) seen.ahead
                (omega (arith, t.low, tree-below t)) (pending-tree q done k cs rest' full (pending-passed q done passed p)) (omega arith)
                (omega arith);
            framed = before;
          })
          t full (afresh refl (le_refl a))
          (passed-open q done passed ∙ walk-in (open_on q done d') k cs rest'
          (open_in q done d' k cs full ∙ enter-in (open_on q done d') k cs (ap is_entered (sym (tree-op t)) ∙ is_in)))
          (omega (arith, c.0)) (omega (arith, c.1)) (omega (arith, c.2)) (omega arith)
      go {W'' = W''} (kept is_out stored)
          (tree {d' = d'} {rest' = rest'} {cs = cs} {a = a} {m = hm} {k = k} moved before passed full unfree t seen) =
          let mv : Moved l l' = moved_same moved in
          let mb = mv.base in let ml = mv.len in let long = g.long in
          let bl = back-le w.rep in let al = ahead-le u in
          let al' = ahead-le seen.ahead in let tl = t.low in let th = tree-below t in
          let c = passed-counts passed in
          let other = set_other W' W'' (l'.base + l'.write) b stored in
          let ended =
          ended-at-keep W W' (λ s o x y z w. g.same (slot_start s + o) (inl (omega arith))) (λ j x y. g.same j (inl (omega arith))) v in
          let ended' =
          ended-at-keep W' W'' (λ s o x y z w. other (slot_start s + o) (omega arith))
          (λ j x y. other j (omega (arith, seen.reached))) ended in
          let items : BackArray W'' X (l.base + n) (seen.n + 1) m hm (node k cs d')
          =
          array-put W' W'' seen.done t (le_refl a) (le_refl hm) (λ s o x y z w. other (slot_start s + o) (omega arith))
          (λ j x y. other j (omega (arith, seen.reached)))
          (ap (wd W'') seen.reached ∙ set_same W' W'' (l'.base + l'.write) b stored (omega arith)) in
          let on_List = moved_to l' l'.read (l'.write + 1) in
          goes {w' = walk_of on_List (SplitAt n)} {s' = open_on q done (node k cs d')}
          (same-list (SplitAt n) (SplitAt n) refl (record { owner = mv.owner; base = mb; len = ml }))
          (record {
            l = hm;
            m = hm;
            sides =
                split-sides {c = seen.n + 1} {l = on_List} (node k cs d') (ended-rebase (sym mb) ended')
                (open-items (ap (λ (x : ℕ). x + n) (sym mb)) refl items) (omega (arith, seen.reached))
                (ahead-keep W' W'' (λ s o x y z w. other (slot_start s + o) (omega arith)) (λ j x y. other j (omega arith)) seen.ahead)
                (le_refl hm) (pending-tree q done k cs rest' full (pending-passed q done passed p)) (omega arith)
                (omega (arith, set_long W' W'' (l'.base + l'.write) b stored));
            turning = omega arith;
          })
          (passed-open q done passed
          ∙ walk-on (open_on q done d') k cs rest' (open_on q done (node k cs d'))
          (open_in q done d' k cs full ∙ enter-over (open_on q done d') k cs (ap is_entered (sym (tree-op t)) ∙ is_out)
          ∙ ap on (gather-open q done d' k cs)))
          (omega (arith, c.0)) (omega (arith, c.1)) (omega (arith, c.2))

  -- where an item that is kept goes to
  pub split-index : {κ : Kind} {s : State κ} {rest : Forest} {b : ℕ} → Sought W l 0x2 (Children l' b) W' → SplitView W X lo hi l n κ s rest
      → (l.base ≤ l'.base + l'.write) × (l'.base + l'.write < l.base + l.len) × (l.base + l.len ≤ length W')
      × (slot_end b ≤ length W')
  split-index {b = b} g (splits {q = q} {done = done} {d = d} {rest = rest} {m = m} v w e u le p t below within) =
      go (g.to (seek-split v w e u le t below within small) is_semicolon semicolon-class)
    where
      go : SoughtTo W' X l (l.base + n) m hi is_semicolon d rest (Children l' b)
          → (l.base ≤ l'.base + l'.write) × (l'.base + l'.write < l.base + l.len) × (l.base + l.len ≤ length W')
          × (slot_end b ≤ length W')
      go (tree moved before passed full unfree t seen) =
          let mv : Moved l l' = moved_same moved in
          let mb = mv.base in let ml = mv.len in let long = g.long in let al = ahead-le seen.ahead in let th = tree-below t in
          (omega arith, omega arith, omega arith, omega arith)

module _ {W W' : List ℕ} {l l' : Items} {n : ℕ} where
  pub turned-split-over : Sought W l 0x2 (Nothing l') W' → Turned W (walk_of l (SplitAt n)) (Ok (Over (walk_of l' (SplitAt n)))) W'
  turned-split-over g = record { to = λ h. split-over h.small g (split-view h.holds); within = λ h. sought-within g }

  pub split-room : {b : ℕ} → Sought W l 0x2 (Children l' b) W' → CanTurn W (walk_of l (SplitAt n))
      → (slot_end b ≤ length W') × (l'.base + l'.write < length W')
  split-room g h = let p = split-index h.small g (split-view h.holds) in (p.3, omega (arith, p.1, p.2))

  inner-within : {X : List ℕ} {lo hi b : ℕ} {r : Turn} {W'' : List ℕ} → Sought W l 0x2 (Children l' b) W'
      → InnerTo W' l' b (SplitAt n) r W''
      → l.base ≤ l'.base + l'.write → l'.base + l'.write < l.base + l.len → Within W W'' X lo hi l
  inner-within g (entered e) p0 p1 = sought-within g
  inner-within {b = b} {W'' = W''} g (kept e w) p0 p1 =
      record {
        kept =
            λ j f o.
            set_other W' W'' (l'.base + l'.write) b w j (⊎_elim (λ x. omega arith) (λ x. omega arith) o)
            ∙ g.same j (⊎_elim (λ x. inl (omega arith)) (λ x. inr x) o);
        long = set_long W' W'' (l'.base + l'.write) b w ∙ g.long;
      }

  pub turned-split-inner : {b : ℕ} {r : Turn} {W'' : List ℕ} → Sought W l 0x2 (Children l' b) W' → InnerTo W' l' b (SplitAt n) r W''
      → Turned W (walk_of l (SplitAt n)) (Ok r) W''
  turned-split-inner g i =
      record {
        to = λ h. split-inner h.small g i (split-view h.holds);
        within = λ h. let p = split-index h.small g (split-view h.holds) in inner-within g i p.0 p.1;
      }
