-- The statement pass as laws: which semicolons a list has, what the trees between them change, and what a finished statement's words say of
-- trees.
use Prim.Native.Nat.{ℕ, ◌+◌, ◌≤◌, ◌<◌}
use mathlib.Core.{Path.{◌≡◌, refl, sym, ap, ◌∙◌, subst}, Logic.{inl, inr, ⊎_elim}, Bool.{Bool, true, false, not, ◌||◌, true≢false}}
use mathlib.Core.{List.{List, [], ◌∷◌}, Option.{none, some}}
use native.Mathlib.{Omega.{arith}, Nat.{le_refl}}
use lib.{Dec.{eqb}, ListN.{length, set, get_or}}
use borrow.Author.Tests.{not-true, not-false}
use Rattle.std.specs.List.{between, list_any}
use Rattle.molang.specs.{Operator.{semicolon}, Forest.{Token, Forest, nil, node, bare, count, size}, Message.{Message, Result, ok, fail}}
use Rattle.molang.specs.{Level.{on, into, stop, walk, through}, Conditional.{is_token}, Order.{last_of}}
use Rattle.molang.specs.Statements.{Split, unsplit, after, inside, split_of, is_entered, gather, end_statement, enter_split, statement_step}
use Rattle.molang.specs.{Statements.{statement_resume, statement_level}, Free.{free, clear, is_nil, is_semicolon}}
use Rattle.molang.specs.Work.{Kind, statements, State, work, begins, in_reading, takes, and_then}
use Rattle.molang.proofs.{Trees.{some-none, free-leaf, free-tree}, Statements.{split-clear, statement-free}}
use Rattle.molang.proofs.Walks.{onward, back, walk-onward}
use Rattle.nodes.specs.{Store.{wd, slot_start, slot_end, InArray, begins as begins-with, Seg, Inc, RepF, ends, more, RepT}}
use Rattle.nodes.specs.Slots.{is_token_at, Laid}
use Rattle.nodes.specs.{declared.stored.StoredWords.{StoredWords}, declared.frames.List.{List as Items}, Children.{CanGive}}
use Rattle.nodes.proofs.{Runs.{inc-le, seg-keep}, Store.{back-le}, Trees.{token-test}}
use Rattle.levels.specs.Passes.{walk_of, moved_to, classes_of, operators, Covers, Runs, unsplit_pass, split, waits}
use Rattle.levels.specs.Items.{BackArray, Ahead, Passed, here, over, Sought}
use Rattle.levels.specs.{Sides.{StatementSide, whole, closed, EndedAt, nothing, Holds}, Turns.{SameList, Within, goes, CanStart, Started}}
use Rattle.levels.specs.{declared.items.Found.{Found}, declared.turns.Pass.{Pass}}
use Rattle.levels.specs.{declared.turns.Pass.TheVariants.{Unsplit, Split as SplitAt}, declared.turns.Turn.{Turn}}
use Rattle.levels.specs.declared.turns.Turn.TheVariants.{On}
use Rattle.std.specs.Prelude.{Ok}
use Rattle.levels.proofs.{PassClasses.{runs-covers}, Reading.{ahead-le}, States.{sides-of, holds_of}}
use Rattle.passes.specs.{Statements.{HasSemicolon}, TokenTurns.{unasked, TokenTurned, Saying}}
use Rattle.passes.proofs.GatherLaws.{LeftLevel, item-holds, kept-within, Stands, stands, Standing}
use Rattle.passes.proofs.ListWords.{array-words, array-below}

-- ---- which semicolons a list has

pub semicolon-class : Covers 0x2 is_semicolon
semicolon-class = unfold operators in runs-covers statements Unsplit unsplit_pass

leaf-token : (k : Token) (cs rest : Forest) → is_token semicolon k cs ≡ true → clear is_semicolon (node k cs rest) ≡ false
unfolding is_token clear is_semicolon is_nil
leaf-token k nil rest h = rw h refl
leaf-token k (node c cs r) rest h = absurd (true≢false (sym h))

other-token : (k : Token) (cs rest : Forest) → is_token semicolon k cs ≡ false → clear is_semicolon (node k cs rest) ≡ clear is_semicolon rest
unfolding is_token clear is_semicolon is_nil
other-token k nil rest h = rw h refl
other-token k (node c cs r) rest h = refl

-- one of the roots is a leaf that is a semicolon, or none is
semicolons : {W X bs : List ℕ} {lo hi : ℕ} {f : Forest} → RepF W X bs lo hi f
    → list_any (λ s. is_token_at W s semicolon) bs ≡ not (clear is_semicolon f)
unfolding clear
semicolons (ends h) = refl
semicolons {W} {X} (more {b = b} {bs = bs} {l = l} {m = m} {t = t} {k = k} {f = f} {cs = cs} a low high pos out token noted chain kids r) =
    rw (token-test semicolon k tree) (go (is_token semicolon t k) refl (semicolons r))
  where
    tree : RepT W X b l m t k
    tree =
        record {
          cs = cs;
          low = low;
          high = high;
          pos = pos;
          out = out;
          token = token;
          noted = noted;
          chain = chain;
          kids = kids;
        }

    go : (x : Bool) → is_token semicolon t k ≡ x
        → list_any (λ s. is_token_at W s semicolon) bs ≡ not (clear is_semicolon f)
        → (x || list_any (λ s. is_token_at W s semicolon) bs) ≡ not (clear is_semicolon (node t k f))
    go true e h = rw (leaf-token t k f e) refl
    go false e h = rw (other-token t k f e) h

module _ {W : List ℕ} {v : Items} where
  -- what `has_semicolon` asks of each item
  pub look-slot : (g : CanStart W v) (k x : ℕ) → k < length (between v.base (v.base + v.len) W)
      → x ≡ get_or (between v.base (v.base + v.len) W) k x → slot_end x ≤ length W
  look-slot g k x h e =
      let b : x < g.hi = array-below g.array (v.base + v.len) refl g.within k x h e in omega (arith, g.below, g.within)

  pub looked : HasSemicolon W v (list_any (λ s. is_token_at W s semicolon) (between v.base (v.base + v.len) W))
  looked = record { answer = λ g. rw (array-words g.array (v.base + v.len) refl g.within) (semicolons g.array.rep) }

-- ---- the list's first semicolon

pub split-some : (f : Forest) → clear is_semicolon f ≡ false → (q : Token) × (split_of f ≡ after q nil)
unfolding split_of clear is_semicolon
split-some nil h = absurd (true≢false h)
split-some (node k nil rest) h = go (eqb k.op semicolon) refl (λ e. split-some rest (rw e at h))
  where
    go : (b : Bool) → eqb k.op semicolon ≡ b → (eqb k.op semicolon ≡ false → (q : Token) × (split_of rest ≡ after q nil))
        → (q : Token) × (split_of (node k nil rest) ≡ after q nil)
    go true e later = (bare semicolon k, rw (e, split_of) refl)
    go false e later = let z = later e in (z.0, rw (e, split_of) z.1)
split-some (node k (node c cs r) rest) h = split-some rest h

split-past : (k : Token) (cs rest : Forest) → free is_semicolon (node k cs nil) ≡ true → split_of (node k cs rest) ≡ split_of rest
unfolding split_of is_semicolon
split-past k nil rest h = rw ((free-leaf is_semicolon k nil h).0, split_of) refl
split-past k (node c cs r) rest h = refl

-- ---- one step of the walk

pub step-leaf : (s : Split) (k : Token) → is_semicolon k.op ≡ false → statement_step s k nil ≡ on (gather k nil s)
step-leaf s k h = unfold statement_step is_semicolon in rw (h, statement_step) refl

pub step_end : (s : Split) (k : Token) → is_semicolon k.op ≡ true → statement_step s k nil ≡ end_statement k s
step_end s k h = unfold statement_step is_semicolon in rw (h, statement_step) refl

pub enter-in : (s : Split) (k : Token) (cs : Forest) → is_entered k.op ≡ true → enter_split s k cs ≡ into s (split_of cs)
enter-in s k cs h = unfold enter_split in rw (h, enter_split) refl

pub enter-over : (s : Split) (k : Token) (cs : Forest) → is_entered k.op ≡ false → enter_split s k cs ≡ on (gather k cs s)
enter-over s k cs h = unfold enter_split in rw (h, enter_split) refl

module _ (s : Split) (k : Token) (cs rest : Forest) where
  walk_step : work statements s (node k cs rest) ≡ onward statement_level k cs rest (statement_step s k cs)
  walk_step = unfold work statement_level in walk-onward statement_level s k cs rest

  pub walk-on : (t : Split) → statement_step s k cs ≡ on t → work statements s (node k cs rest) ≡ work statements t rest
  walk-on t e = unfold onward work in walk_step ∙ ap (onward statement_level k cs rest) e

  pub walk-stop : (m : List Message) → statement_step s k cs ≡ stop m → work statements s (node k cs rest) ≡ fail m
  walk-stop m e = unfold onward in walk_step ∙ ap (onward statement_level k cs rest) e

  back-then : (x : Result) → back statement_level s k rest x ≡ and_then x (λ kids. work statements (takes statements s k kids) rest)
  unfolding back and_then work takes
  back-then (ok kids) = refl
  back-then (fail m) = refl

  pub walk-in : statement_step s k cs ≡ into s (split_of cs)
      → work statements s (node k cs rest) ≡ and_then (work statements (begins statements cs) (in_reading statements cs))
      (λ kids. work statements (takes statements s k kids) rest)
  unfolding onward begins in_reading statement_level work
  walk-in e = walk_step ∙ ap (onward statement_level k cs rest) e ∙ back-then (walk statement_level (split_of cs) cs)

  walk-skip : statement_step s k cs ≡ into s (split_of cs) → free is_semicolon cs ≡ true
      → work statements s (node k cs rest) ≡ work statements (gather k cs s) rest
  unfolding begins in_reading statement_level work through and_then takes statement_resume
  walk-skip e h =
      walk-in e ∙ ap (λ (x : Result). and_then x (λ kids. work statements (takes statements s k kids) rest)) (statement-free cs h)

-- ---- trees without a semicolon

enter-skip : (s : Split) (k : Token) (cs rest : Forest) → statement_step s k cs ≡ enter_split s k cs → free is_semicolon cs ≡ true
    → work statements s (node k cs rest) ≡ work statements (gather k cs s) rest
enter-skip s k cs rest e h = go (is_entered k.op) refl
  where
    go : (b : Bool) → is_entered k.op ≡ b → work statements s (node k cs rest) ≡ work statements (gather k cs s) rest
    go true i = walk-skip s k cs rest (e ∙ enter-in s k cs i) h
    go false i = walk-on s k cs rest (gather k cs s) (e ∙ enter-over s k cs i)

-- a tree without a semicolon is gathered, whatever the state
pub walk-gather : (s : Split) (k : Token) (cs rest : Forest) → free is_semicolon (node k cs nil) ≡ true
    → work statements s (node k cs rest) ≡ work statements (gather k cs s) rest
unfolding statement_step
walk-gather s k nil rest h = walk-on s k nil rest (gather k nil s) (step-leaf s k (free-leaf is_semicolon k nil h).0)
walk-gather (unsplit d) k (node c cs r) rest h = walk-skip (unsplit d) k (node c cs r) rest refl (free-tree is_semicolon k c cs r nil h).0
walk-gather (after q done) k (node c cs r) rest h =
    enter-skip (after q done) k (node c cs r) rest refl (free-tree is_semicolon k c cs r nil h).0
walk-gather (inside q done s d) k (node c cs r) rest h =
    enter-skip (inside q done s d) k (node c cs r) rest refl (free-tree is_semicolon k c cs r nil h).0

-- ---- a split list as its finished statements and the trees after them

unfoldable pub earliest : Token → Forest → Token
earliest k nil = k
earliest k (node t ts d) = earliest t d

-- The statement list q with the statements `done` and the trees d of the open one, the last first; with none it is not begun.
unfoldable pub open_on : Token → Forest → Forest → Split
open_on q done nil = after q done
open_on q done (node k cs d) = inside q done (bare semicolon (earliest k d)) (node k cs d)

pub gather-open : (q : Token) (done d : Forest) (k : Token) (cs : Forest) → gather k cs (open_on q done d) ≡ open_on q done (node k cs d)
unfolding gather open_on earliest
gather-open q done nil k cs = refl
gather-open q done (node t ts d) k cs = refl

pub last-earliest : (k : Token) (d : Forest) → last_of (some k) d ≡ some (earliest k d)
unfolding last_of earliest
last-earliest k nil = refl
last-earliest k (node t ts d) = last-earliest t d

-- the state of the definition, where a statement is open
pub open-inside : (q : Token) (done : Forest) (s : Token) (d : Forest) (first : Token) → last_of none d ≡ some first
    → s ≡ bare semicolon first → inside q done s d ≡ open_on q done d
unfolding open_on last_of
open-inside q done s nil first e n = some-none (sym e)
open-inside q done s (node k cs d) first e n =
    let f : first ≡ earliest k d = cc (sym e ∙ last-earliest k d) in
    rw (n, f) refl

-- ---- what passing over trees leaves

pub passed-counts : {P : ℕ → Bool} {d rest d' rest' : Forest} → Passed P d rest d' rest'
    → (count rest' ≤ count rest) × (size rest' + count rest ≤ size rest + count rest') × (size rest' ≤ size rest)
unfolding count size
passed-counts here = (omega arith, omega arith, omega arith)
passed-counts (over f p) = let e = passed-counts p in (omega (arith, e.0), omega (arith, e.1), omega (arith, e.2))

pub passed-unsplit : {d rest d' rest' : Forest} → Passed is_semicolon d rest d' rest'
    → work statements (unsplit d) rest ≡ work statements (unsplit d') rest'
unfolding gather
passed-unsplit here = refl
passed-unsplit {d = d} (over {rest = r} {cs = cs} {k = k} f p) = walk-gather (unsplit d) k cs r f ∙ passed-unsplit p

pub passed-open : {d rest d' rest' : Forest} (q : Token) (done : Forest) → Passed is_semicolon d rest d' rest'
    → work statements (open_on q done d) rest ≡ work statements (open_on q done d') rest'
passed-open q done here = refl
passed-open {d = d} q done (over {rest = r} {cs = cs} {k = k} f p) =
    walk-gather (open_on q done d) k cs r f ∙ ap (λ (s : Split). work statements s r) (gather-open q done d k cs) ∙ passed-open q done p

-- the first semicolon is still to come
pub passed-split : {d rest d' rest' : Forest} → Passed is_semicolon d rest d' rest' → split_of rest ≡ split_of rest'
passed-split here = refl
passed-split (over {rest = r} {cs = cs} {k = k} f p) = split-past k cs r f ∙ passed-split p

-- ---- a list begins

unsplit-holds : {W X : List ℕ} {lo hi m m' : ℕ} {l : Items} {d rest : Forest} → BackArray W X l.base l.write lo m d
    → Ahead W X l.base l.read l.len m' hi rest → m ≤ m'
    → l.write ≤ l.read → slot_start hi ≤ l.base → l.base + l.len ≤ length W
    → Holds statements W X lo hi (walk_of l Unsplit) (unsplit d) rest
unsplit-holds {m = m} {m' = m'} b u e t below within =
    holds_of m m' (sides-of unsplit_pass (whole b) u tt (back-le b.rep) e (ahead-le u).0 below within) t

module _ {W : List ℕ} {v : Items} where
  start-ahead : (g : CanStart W v) → Ahead W g.X v.base v.read v.len g.lo g.hi g.f
  start-ahead g =
      record {
        n = v.len;
        count = omega (arith, g.unread);
        array = subst (λ (x : ℕ). InArray W g.X x v.len g.lo g.hi g.f) (omega (arith, g.unread)) g.array;
      }

  start_none : (g : CanStart W v) → BackArray W g.X v.base v.write g.lo g.lo nil
  start_none g = record { ds = []; seg = tt; count = g.unwritten; rep = begins-with (le_refl g.lo) }

  start-split : (g : CanStart W v) (q : Token) → split_of g.f ≡ after q nil
      → Holds statements W g.X g.lo g.hi (walk_of v (SplitAt 0)) (after q nil) g.f
  unfolding is_nil
  start-split g q e =
      let lo = g.lo in
      let none : EndedAt W g.X v.base v.write lo lo q nil
      = record { ds = []; seg = tt; count = g.unwritten; rep = nothing (le_refl lo); list = λ z. absurd (true≢false z) } in
      let side : StatementSide W g.X v.base v.write lo lo (SplitAt 0) (after q nil)
      = subst (λ (x : ℕ). StatementSide W g.X v.base v.write lo lo (SplitAt x) (after q nil)) g.unwritten (closed none) in
      let ahead = start-ahead g in
      holds_of lo lo (sides-of split side ahead e (le_refl lo) (le_refl lo) (ahead-le ahead).0 g.below g.within)
      (omega (arith, g.unwritten))

  pub started-split : HasSemicolon W v true → Started W v (walk_of v (SplitAt 0))
  unfolding begins statement_level
  started-split h =
      record {
        list = refl;
        holds = λ g.
            let e = split-some g.f (not-true (clear is_semicolon g.f) (sym (h.answer g))) in
            subst (λ (s : Split). Holds statements W g.X g.lo g.hi (walk_of v (SplitAt 0)) s g.f) (sym e.1)
            (start-split g e.0 e.1);
      }

  pub started-unsplit : HasSemicolon W v false → Started W v (walk_of v Unsplit)
  unfolding begins statement_level
  started-unsplit h =
      record {
        list = refl;
        holds = λ g.
            let e = split-clear g.f (not-false (clear is_semicolon g.f) (sym (h.answer g))) in
            subst (λ (s : Split). Holds statements W g.X g.lo g.hi (walk_of v Unsplit) s g.f) (sym e)
            (unsplit-holds (start_none g) (start-ahead g) (le_refl g.lo) (omega (arith, g.unwritten)) g.below g.within);
      }

-- ---- one list, further on

-- The same items of a list read and written further.
pub record Moved (l l' : Items) : Type 0 where
  pub owner : l'.owner ≡ l.owner
  pub base : l'.base ≡ l.base
  pub len : l'.len ≡ l.len

pub moved_same : {l l' : Items} → l' ≡ moved_to l l'.read l'.write → Moved l l'
moved_same e = record { owner = ap (λ (x : Items). x.owner) e; base = ap (λ (x : Items). x.base) e; len = ap (λ (x : Items). x.len) e }

pub same-list : {l l' : Items} (p p' : Pass) → classes_of p' ≡ classes_of p → Moved l l' → SameList (walk_of l p) (walk_of l' p')
same-list p p' e m = record { owner = m.owner; base = m.base; len = m.len; classes = e }

-- what reading on changes
pub sought-within : {W W' X : List ℕ} {lo hi c : ℕ} {l : Items} {r : Found} → Sought W l c r W' → Within W W' X lo hi l
sought-within q = record { kept = λ j f o. q.same j (⊎_elim (λ x. inl (omega arith)) (λ x. inr x) o); long = q.long }

-- ---- the level of a list without semicolons

unsplit-in : (d : Forest) (k : Token) (cs : Forest) → is_nil cs ≡ false → statement_step (unsplit d) k cs ≡ into (unsplit d) (split_of cs)
unfolding statement_step is_nil
unsplit-in d k nil e = absurd (true≢false e)
unsplit-in d k (node c cs r) e = refl

unsplit-end : (d : Forest) (k : Token) → is_semicolon k.op ≡ true → statement_step (unsplit d) k nil ≡ on (unsplit (node k nil d))
unsplit-end d k e = unfold end_statement in step_end (unsplit d) k e

unsplit-level : LeftLevel statements Unsplit is_semicolon unsplit unasked
unfolding waits
unsplit-level =
    record {
      covers = semicolon-class;
      sides = λ fine done ahead low mid high below within. sides-of unsplit_pass (whole done) ahead tt low mid high below within;
      turning = λ v h. h;
      framed = λ v h. h;
      calm = λ d. refl;
      unlent = refl;
      fresh = λ cs. refl;
      passes = passed-unsplit;
      keeps = λ p h. refl;
      node = λ d k cs rest full. walk-in (unsplit d) k cs rest (unsplit-in d k cs full);
    }

pub unsplit-stands : {T : Saying} (W : List ℕ) (v : Items) → T statements unsplit is_semicolon unasked → Standing T W v Unsplit
unsplit-stands {T} W v t g = go g.holds.sides.runs g.holds
  where
    side : {X : List ℕ} {lo l m hi : ℕ} {s : Split} {rest : Forest} → StatementSide W X v.base v.write lo l Unsplit s
        → Ahead W X v.base v.read v.len m hi rest
        → l ≤ m → v.write ≤ v.read → slot_start hi ≤ v.base → v.base + v.len ≤ length W → Stands T W v Unsplit statements X lo hi s rest
    side (whole done) ahead mid behind below within = stands unsplit-level t refl done ahead mid behind below within g.small

    go : {κ : Kind} {X : List ℕ} {lo hi : ℕ} {s : State κ} {rest : Forest} → Runs κ Unsplit → Holds κ W X lo hi (walk_of v Unsplit) s rest
        → Stands T W v Unsplit κ X lo hi s rest
    go unsplit_pass h = side h.sides.done h.sides.unread h.sides.mid h.turning h.sides.below h.sides.within

-- a semicolon would stay as it is
pub unsplit-kept : {W W' : List ℕ} {v v' : Items} {b : ℕ} {r : Turn} → W' ≡ set W (v.base + v.write) b
    → v' ≡ moved_to v v.read (v.write + 1) → r ≡ On (walk_of v' Unsplit)
    → TokenTurned statements unsplit is_semicolon unasked W (walk_of v Unsplit) b (Ok r) W'
unfolding count size waits
unsplit-kept {W} {W'} e el er =
    rw (er, el)
    (record {
      to = λ g p fine.
          goes {s' = unsplit (node g.k nil g.d)} (record { owner = refl; base = refl; len = refl; classes = refl })
          (item-holds unsplit-level g.item e refl)
          (walk-on (unsplit g.d) g.k nil g.rest (unsplit (node g.k nil g.d)) (unsplit-end g.d g.k p)) (omega arith)
          (omega arith) (omega arith);
      within = λ g. kept-within W W' g.item e;
    })

-- ---- a statement's words

module _ {W : List ℕ} {p from n : ℕ} where
  -- the first item's slot is below the stack
  pub give-first : (g : CanGive W p from n) → 0 < n → wd W from < g.hi
  give-first g h = go g.cs g.seg g.count g.inc
    where
      go : (cs : List ℕ) → Seg W from cs → length cs ≡ n → Inc 1 g.hi cs → wd W from < g.hi
      go [] s e i = absurd (omega arith)
      go (c ∷ cs) s e i = omega (arith, s.0, inc-le cs i.1)

  -- a new node's slot is none of the stack's words
  pub give-made : {W' : List ℕ} {t : StoredWords} {k : ℕ} → Laid W p t k W' → CanGive W p from n → CanGive W' p from n
  give-made {W'} w g =
      let own = g.own in let below = g.below in
      record {
        hi = g.hi;
        cs = g.cs;
        seg = seg-keep W W' from g.cs (λ j x y. w.same j (inr (omega arith))) g.seg;
        count = g.count;
        inc = g.inc;
        own = own;
        below = below;
        room = omega (arith, w.long, g.room);
      }
