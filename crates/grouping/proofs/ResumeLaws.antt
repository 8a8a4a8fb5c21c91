-- An item whose children are done is taken back: it goes behind the done items (`keep-resumed`), or from the right before them
-- (`right-resumed`). The states that take it otherwise, an array and a binary level, have laws of their own.
use Prim.Native.Nat.{ℕ, ◌+◌, ◌-◌, ◌≤◌, ◌<◌}
use mathlib.Core.{Path.{◌≡◌, refl, sym, ap, ◌∙◌, subst}, Logic.{◌≢◌, ⊎_elim}, Bool.{Bool, false, true≢false}, List.{List, [], ◌∷◌}}
use mathlib.Core.Option.{none, some}
use native.Mathlib.{Omega.{arith}, Nat.{le_refl}}
use lib.ListN.{length, set}
use types.Run.{OneOf, miss}
use denote.Enum.Declared.{tag_of}
use Rattle.molang.specs.{Operator.{semicolon}, Forest.{Token, Forest, nil, node, bare}, Level.{Gathered, gathered}}
use Rattle.molang.specs.{Calls.{call_level, call_resume}, Statements.{Split, unsplit, after, inside, gather, statement_resume, statement_level}}
use Rattle.molang.specs.{Unary.{return_level, return_resume, turned}, Conditional.{conditional_level}, Order.{last_of}}
use Rattle.molang.specs.{Free.{is_nil, is_conditional}, Work.{Kind, State, takes}}
use Rattle.molang.proofs.Trees.{some-none}
use Rattle.nodes.specs.{Store.{wd, slot_start, Seg, RepT, RepB, InArray}, declared.frames.List.{List as Items}}
use Rattle.nodes.proofs.{Runs.{set_same, set_other, set_long}, Store.{tree-below, tree-keep, tree-more, back-le}}
use Rattle.levels.specs.Passes.{walk_of, moved_to, Runs, call, math_call, unsplit_pass, split, unary, conditional_pass, return_pass}
use Rattle.levels.specs.Items.{BackArray, Ahead}
use Rattle.levels.specs.Sides.{GatherSide, ConditionalSide, tokens_in, EndedAt, StatementSide, RightSide, SplitAgrees, DoneSide, UnreadSide}
use Rattle.levels.specs.{Sides.{Agrees, AtTurn, InFrame, Holds}, Turns.{CanResume, Resumed}, declared.turns.Pass.{Pass}}
use Rattle.levels.specs.declared.turns.Pass.TheVariants.{Calls, MathCalls, Unsplit, Split as SplitAt, Arrays, Unary, Binary, Conditional}
use Rattle.levels.specs.{declared.turns.Pass.TheVariants.{Returns}, declared.turns.Walk.{Walk}}
use Rattle.levels.proofs.{Reading.{SameSlots, back-array-keep, array-keep, ahead-keep, array-put}, Ended.{ended-le, ended-at-keep}}
use Rattle.levels.proofs.{States.{sides-of, holds_of}}
use Rattle.levels.specs.contracts.turns.Pass.{the_type}
use Rattle.grouping.specs.Driver.{Keeping}
use Rattle.grouping.proofs.StackLaws.{waits-within}

-- the first token of a statement stays the first
last-kept : (k j : Token) (d : Forest) → last_of none d ≡ some j → last_of (some k) d ≡ some j
unfolding last_of
last-kept k j nil e = some-none (sym e)
last-kept k j (node c cs d) e = e

split-agrees-open : (q : Token) (done : Forest) (s : Token) (d rest : Forest) → SplitAgrees (after q done) rest
    → SplitAgrees (inside q done s d) rest
split-agrees-open q nil s d rest h = h
split-agrees-open q (node t ts done) s d rest h = tt

split-agrees-on : (q : Token) (done : Forest) (s : Token) (d d' rest : Forest) → SplitAgrees (inside q done s d) rest
    → SplitAgrees (inside q done s d') rest
split-agrees-on q nil s d d' rest h = h
split-agrees-on q (node t ts done) s d d' rest h = tt

tokens-tree : (P : ℕ → Bool) (k : Token) (kids d : Forest) → is_nil kids ≡ false → tokens_in P (node k kids d) ≡ tokens_in P d
unfolding tokens_in is_nil
tokens-tree P k nil d e = absurd (true≢false e)
tokens-tree P k (node c cs r) d e = refl

module _ (W W' X : List ℕ) (lo l m hi item : ℕ) (v : Items) (k : Token) (kids rest : Forest) (tree : RepT W X item l m k kids)
    (full : is_nil kids ≡ false)
    (low : lo ≤ l) (mid : l ≤ m) (high : m ≤ hi) (below : slot_start hi ≤ v.base)
    (ew : W' ≡ set W (v.base + v.write) item) (room : v.base + v.write < length W) where
  other : (j : ℕ) → j ≢ v.base + v.write → wd W' j ≡ wd W j
  other = set_other W W' (v.base + v.write) item ew

  slots : SameSlots W W' X lo hi
  slots s o a b c u = other (slot_start s + o) (omega arith)

  put-after : (at n a : ℕ) (d : Forest) → at + n ≡ v.base + v.write → lo ≤ a → BackArray W X at n a l d
      → BackArray W' X at (n + 1) a m (node k kids d)
  put-after at n a d e h b =
      array-put W W' b tree (le_refl l) (le_refl m) (λ s o x y z u. slots s o (omega arith) (omega arith) z u)
      (λ j x y. other j (omega arith))
      (rw e (set_same W W' (v.base + v.write) item ew room))

  -- what is done, with the item
  put-gather : {s : Gathered} → GatherSide W X v.base v.write lo l s → (taken : Gathered → Gathered)
      → ((d : Forest) → taken (gathered d) ≡ gathered (node k kids d))
      → GatherSide W' X v.base (v.write + 1) lo m (taken s)
  put-gather (GatherSide.all {d = d} b) taken e = rw (e d) (GatherSide.all (put-after v.base v.write lo d refl (le_refl lo) b))

  put-conditional : {p : Pass} {d : Forest} → ConditionalSide W X v.base v.write lo l p d
      → ConditionalSide W' X v.base (v.write + 1) lo m p (node k kids d)
  put-conditional (ConditionalSide.all {d = d} e b) =
      ConditionalSide.all (e ∙ sym (tokens-tree is_conditional k kids d full)) (put-after v.base v.write lo d refl (le_refl lo) b)

  ended-kept : {n a : ℕ} {q : Token} {done : Forest} → a ≤ l → n ≤ v.write → EndedAt W X v.base n lo a q done
      → EndedAt W' X v.base n lo a q done
  ended-kept h e w = ended-at-keep W W' (λ s o x y z u. slots s o x (omega arith) z u) (λ j x y. other j (omega arith)) w

  put-statement : {p : Pass} {s : Split} → StatementSide W X v.base v.write lo l p s
      → StatementSide W' X v.base (v.write + 1) lo m p (gather k kids s)
  unfolding gather last_of
  put-statement (StatementSide.whole {d = d} b) = StatementSide.whole (put-after v.base v.write lo d refl (le_refl lo) b)
  put-statement (StatementSide.closed w) =
      StatementSide.current {n = v.write} {m = l} (ended-kept (le_refl l) (le_refl v.write) w)
      (record {
        first = k;
        earliest = refl;
        named = refl;
        count = 1;
        reached = refl;
        items =
            put-after (v.base + v.write) 0 l nil (omega arith) low
            (record { ds = []; seg = tt; count = refl; rep = RepB.begins (le_refl l) });
      })
  put-statement (StatementSide.current {n = n} {m = a} {d = d} {s = s} w o) =
      let reached = o.reached in
      let wide = back-le o.items.rep in
      let start = ended-le w.rep in
      StatementSide.current (ended-kept wide (omega arith) w)
      (record {
        first = o.first;
        earliest = last-kept k o.first d o.earliest;
        named = o.named;
        count = o.count + 1;
        reached = omega arith;
        items = put-after (v.base + n) o.count a d (omega arith) start o.items;
      })

  statement-agrees : (s : Split) → SplitAgrees s rest → SplitAgrees (gather k kids s) rest
  unfolding gather
  statement-agrees (unsplit d) h = tt
  statement-agrees (after q done) h = split-agrees-open q done (bare semicolon k) (node k kids nil) rest h
  statement-agrees (inside q done s d) h = split-agrees-on q done s d (node k kids d) rest h

  -- the list with the item after the done ones
  abbrev now' : Items
  now' = moved_to v v.read (v.write + 1)

  assemble : (κ : Kind) (p : Pass) (s : State κ) → Runs κ p → DoneSide κ W' X lo m m hi (walk_of now' p) s
      → UnreadSide κ W' X lo m m hi now' rest
      → Agrees κ now' s rest → AtTurn now' p → v.base + v.len ≤ length W' → Holds κ W' X lo hi (walk_of now' p) s rest
  assemble κ p s runs done unread agrees turning within =
      holds_of m m (sides-of runs done unread agrees (omega arith) (le_refl m) high below within) turning

  still : Ahead W X v.base v.read v.len m hi rest → v.write < v.read → Ahead W' X v.base v.read v.len m hi rest
  still u h = ahead-keep W W' (λ s o x y z w. slots s o (omega arith) y z w) (λ j x y. other j (omega arith)) u

  put_holds : (κ : Kind) (p : Pass) (t : State κ) → Runs κ p → Keeping p → DoneSide κ W X lo l m hi (walk_of v p) t
      → UnreadSide κ W X lo l m hi v rest → Agrees κ v t rest → InFrame v p
      → v.base + v.len ≤ length W' → Holds κ W' X lo hi (walk_of now' p) (takes κ t k kids) rest
  unfolding takes call_level call_resume return_level return_resume statement_level statement_resume conditional_level
  put_holds _ _ t (Rattle.levels.specs.Passes.array {array = array} {lent = lent}) keeping d u a f w = elim keeping [ ]
  put_holds _ _ t unary keeping d u a f w = elim keeping [ ]
  put_holds _ _ t (Rattle.levels.specs.Passes.level {ops = ops} {classes = classes} {pending = pending} _) keeping d u a f w = elim keeping [ ]
  put_holds κ p t call keeping d u a f w =
      assemble κ p (call_resume t k kids) call (put-gather d (λ s. call_resume s k kids) (λ d. refl)) (still u f) tt (omega arith) w
  put_holds κ p t math_call keeping d u a f w =
      assemble κ p (call_resume t k kids) math_call (put-gather d (λ s. call_resume s k kids) (λ d. refl)) (still u f) tt (omega arith) w
  put_holds κ p t unsplit_pass keeping d u a f w =
      assemble κ p (gather k kids t) unsplit_pass (put-statement d) (still u f) (statement-agrees t a) (omega arith) w
  put_holds κ p t split keeping d u a f w =
      assemble κ p (gather k kids t) split (put-statement d) (still u f) (statement-agrees t a) (omega arith) w
  put_holds κ p t conditional_pass keeping d u a f w =
      assemble κ p (node k kids t) conditional_pass (put-conditional d) (still u (omega arith)) tt f w
  put_holds κ p t return_pass keeping d u a f w =
      assemble κ p (return_resume t k kids) return_pass (put-gather d (λ s. return_resume s k kids) (λ d. refl)) (still u f) tt (omega arith) w

-- a pass that keeps the item as it is
keep-frame : (v : Items) (p : Pass) → Keeping p → InFrame v p → v.write < v.read
keep-frame v (Arrays _ _) keeping f = elim keeping [ ]
keep-frame v Unary keeping f = elim keeping [ ]
keep-frame v (Binary _ _) keeping f = elim keeping [ ]
keep-frame v Calls keeping f = f
keep-frame v MathCalls keeping f = f
keep-frame v Unsplit keeping f = f
keep-frame v (SplitAt n) keeping f = f
keep-frame v (Conditional n) keeping f = omega arith
keep-frame v Returns keeping f = f

pub keep-room : {W : List ℕ} (v : Items) (p : Pass) {item : ℕ} → CanResume W (walk_of v p) item → Keeping p → v.base + v.write < length W
keep-room v p g keeping =
    let e = waits-within g.waits in
    let f = keep-frame v p keeping g.waits.framed in
    let within = g.waits.sides.within in
    omega arith

pub keep-resumed : (W W' : List ℕ) (v v' : Items) (p : Pass) (item : ℕ) → CanResume W (walk_of v p) item → Keeping p
    → v' ≡ moved_to v v.read (v.write + 1) → W' ≡ set W (v.base + v.write) item → Resumed W (walk_of v p) item (walk_of v' p) W'
keep-resumed W W' v v' p item h keeping ev ew =
    subst (λ (x : Items). Resumed W (walk_of v p) item (walk_of x p) W') (sym ev)
    (record {
      list = record { owner = refl; base = refl; len = refl; classes = refl };
      holds = λ g.
          let sides = g.waits.sides in
          let within = sides.within in
          put_holds W W' g.X g.lo g.l g.m g.hi item v g.k g.kids g.rest g.tree g.full sides.low
          sides.mid sides.high sides.below ew
          (keep-room v p g keeping) g.κ p g.t sides.runs keeping sides.done sides.unread sides.agrees g.waits.framed
          (omega (arith, set_long W W' (v.base + v.write) item ew));
      within = λ g.
          let e = waits-within g.waits in
          let f = keep-frame v p keeping g.waits.framed in
          record {
            kept = λ j x o. set_other W W' (v.base + v.write) item ew j (⊎_elim (λ y. omega arith) (λ y. omega arith) o);
            long = set_long W W' (v.base + v.write) item ew;
          };
    })

-- ---- from the right

module _ (W W' X : List ℕ) (lo l m hi item : ℕ) (v : Items) (k : Token) (kids rest : Forest) (tree : RepT W X item l m k kids)
    (low : lo ≤ l) (mid : l ≤ m) (high : m ≤ hi) (below : slot_start hi ≤ v.base) (gap : v.read < v.write)
    (ew : W' ≡ set W (v.base + (v.write - 1)) item) (room : v.base + (v.write - 1) < length W) where
  put-before : (κ : Kind) (t : State κ) → Runs κ Unary → DoneSide κ W X lo l m hi (walk_of v Unary) t → UnreadSide κ W X lo l m hi v rest
      → v.base + v.len ≤ length W'
      → Holds κ W' X lo hi (walk_of (moved_to v v.read (v.write - 1)) Unary) (takes κ t k kids) rest
  unfolding takes turned
  put-before κ t unary (RightSide.all {d = d} {n = n} e b) u within =
      let other = set_other W W' (v.base + (v.write - 1)) item ew in
      let next : v.base + (v.write - 1) + 1 ≡ v.base + v.write = omega arith in
      let tb = tree-below tree in
      let tl = tree.low in
      let tree' : RepT W' X item l m k kids = tree-keep W W' (λ s o x y z w i. other (slot_start s + o) (omega arith)) tree in
      let b' : InArray W' X (v.base + v.write) n m hi d =
      array-keep W W' (λ s o x y z w. other (slot_start s + o) (omega arith)) (λ j x y. other j (omega arith)) b in
      record {
        l = l;
        m = l;
        sides = sides-of unary
            (RightSide.all {n = n + 1} (omega arith)
            (record {
              bs = item ∷ b'.bs;
              seg = (set_same W W' (v.base + (v.write - 1)) item ew room, subst (λ (x : ℕ). Seg W' x b'.bs) (sym next) b'.seg);
              count = omega (arith, b'.count);
              rep = tree-more {bs = b'.bs} (le_refl l) tree' b'.rep;
            }))
            (back-array-keep W W' (λ s o x y z w. other (slot_start s + o) (omega arith)) (λ j x y. other j (omega arith)) u) tt low
            (le_refl l) (omega arith) below within;
        turning = omega arith;
      }

pub right-room : {W : List ℕ} (v : Items) {item : ℕ} → CanResume W (walk_of v Unary) item
    → (0 < v.write) × (v.base + v.write < length W + 1)
right-room v g =
    let e = waits-within g.waits in
    let f = g.waits.framed in
    let within = g.waits.sides.within in
    (omega arith, omega arith)

pub right-resumed : (W W' : List ℕ) (v v' : Items) (item : ℕ) → CanResume W (walk_of v Unary) item
    → v' ≡ moved_to v v.read (v.write - 1) → W' ≡ set W (v.base + (v.write - 1)) item
    → Resumed W (walk_of v Unary) item (walk_of v' Unary) W'
right-resumed W W' v v' item h ev ew =
    subst (λ (x : Items). Resumed W (walk_of v Unary) item (walk_of x Unary) W') (sym ev)
    (record {
      list = record { owner = refl; base = refl; len = refl; classes = refl };
      holds = λ g.
          let sides = g.waits.sides in
          let within = sides.within in
          let r = right-room v g in
          put-before W W' g.X g.lo g.l g.m g.hi item v g.k g.kids g.rest g.tree sides.low sides.mid
          sides.high sides.below g.waits.framed ew
          (omega arith) g.κ g.t sides.runs sides.done sides.unread
          (omega (arith, set_long W W' (v.base + (v.write - 1)) item ew));
      within = λ g.
          let e = waits-within g.waits in
          let r = right-room v g in
          record {
            kept = λ j x o. set_other W W' (v.base + (v.write - 1)) item ew j (⊎_elim (λ y. omega arith) (λ y. omega arith) o);
            long = set_long W W' (v.base + (v.write - 1)) item ew;
          };
    })

-- ---- for the arms of `resume`

pub resume-at : {W : List ℕ} {item : ℕ} (v : Items) (p q : Pass) → p ≡ q → CanResume W (walk_of v p) item → CanResume W (walk_of v q) item
resume-at {W} {item} v p q e g = subst (λ (x : Pass). CanResume W (walk_of v x) item) e g

pub resumed-by : {W W' : List ℕ} {item : ℕ} {w : Walk} (v : Items) (p q : Pass) → p ≡ q → Resumed W (walk_of v q) item w W'
    → Resumed W (walk_of v p) item w W'
resumed-by {W} {W'} {item} {w} v p q e r = subst (λ (x : Pass). Resumed W (walk_of v x) item w W') (sym e) r

-- no name is lent while its list waits
pub array-unlent : {W : List ℕ} {item : ℕ} (v : Items) (p : Pass) (a b : ℕ) → p ≡ Arrays a b → CanResume W (walk_of v p) item
    → p ≡ Arrays a 0
array-unlent v p a b e g = e ∙ ap (λ (x : ℕ). Arrays a x) (resume-at v p (Arrays a b) e g).unlent

pub keeping_at : (p : Pass) → OneOf (0 ∷ 1 ∷ 2 ∷ 3 ∷ 7 ∷ 8 ∷ []) (tag_of the_type p) → Keeping p
keeping_at Calls t = tt
keeping_at MathCalls t = tt
keeping_at Unsplit t = tt
keeping_at (SplitAt n) t = tt
keeping_at (Arrays a b) t = absurd (miss (0 ∷ 1 ∷ 2 ∷ 3 ∷ 7 ∷ 8 ∷ []) 4 tt t)
keeping_at Unary t = absurd (miss (0 ∷ 1 ∷ 2 ∷ 3 ∷ 7 ∷ 8 ∷ []) 5 tt t)
keeping_at (Binary classes pending) t = absurd (miss (0 ∷ 1 ∷ 2 ∷ 3 ∷ 7 ∷ 8 ∷ []) 6 tt t)
keeping_at (Conditional n) t = tt
keeping_at Returns t = tt
