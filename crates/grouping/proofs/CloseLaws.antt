-- The end of a list (`close`): its items become its owner's children, and the list that waits for the owner takes it back; the end of the
-- outermost list is the end of the pass.
use Prim.Native.Nat.{ℕ, ◌+◌, ◌-◌, ◌≤◌, ◌<◌}
use mathlib.Core.{Path.{◌≡◌, refl, sym, ap, ◌∙◌, subst, subst₂}, Logic.{◌≢◌, inl}, Bool.{false, true≢false}, List.{List, ◌∷◌}}
use native.Mathlib.{Omega.{arith}, Nat.{le_refl}}
use lib.ListN.{length}
use Rattle.molang.{specs.Forest.{Token, Forest, nil, node}, specs.Message.{Result, ok}}
use Rattle.molang.{specs.Calls.{unindexed, named, indexed, array_level, array_resume}, specs.Free.{is_nil}}
use Rattle.molang.specs.Work.{Kind, calls, statements, arrays, unary_minus_and_not, conditional, returns, binary, State, work, takes, and_then}
use Rattle.molang.{specs.Work.{Held, held, unwound}, proofs.Work.{unwound-fail}}
use Rattle.ops.specs.declared.classes.TokenClasses.{TokenClasses}
use Rattle.nodes.specs.{Store.{wd, slot_start, TokenAt, Out, RepT, Owned, InArray, Free}, Children.{CanGive, Given}}
use Rattle.nodes.specs.{Frames.{FrameAt, CanPop}, declared.frames.List.{List as Items}, declared.frames.Frame.{Frame}}
use Rattle.nodes.proofs.{Runs.{off-word}, Trees.{array-give, array_owned, owned-tree}, Keeping.{free_own, free-inner, give_kept}}
use Rattle.levels.specs.Passes.{walk_of, classes_of, held_of, resumed_with, Runs, call, math_call, unsplit_pass, split, array, unary, level}
use Rattle.levels.specs.{Passes.{conditional_pass, return_pass, waits}, Sides.{Holds}}
use Rattle.levels.specs.Turns.{Within, lent_of, CanResume, Resumed, CanFinish, FinishTo, gives, fails, ended_at, Ends}
use Rattle.levels.specs.{declared.failure.Failure.{Failure}, declared.turns.Pass.{Pass}, declared.turns.Pass.TheVariants.{Arrays, Binary}}
use Rattle.levels.specs.{declared.turns.Walk.{Walk}, declared.turns.Finished.{Finished}}
use Rattle.std.specs.Prelude.{Result as Returned, Ok, Err}
use Rattle.levels.proofs.States.{split-none, split-some}
use Rattle.grouping.specs.Driver.{FrameOf, Stack, bottom, over, Full, Going, turns_below, Beyond, CanMove, Moved, NextTo, CanClose}
use Rattle.grouping.specs.{Driver.{Closed}, declared.driver.Next.TheVariants.{On, Done}}
use Rattle.grouping.proofs.StackLaws.{Bounds, stack-bounds, stack-keep, top-beyond, beyond-then}
use Rattle.grouping.proofs.OutermostLaws.{give-outermost, move-outermost}

-- ---- the pass of the list that waits

same-classes : (c d : TokenClasses) → c.0 ≡ d.0 → c ≡ d
same-classes c d e = λ i. record { 0 = e i }

-- what a list's end and a frame's words say of the pass is what the frame was made of
resumed-pass : (κ : Kind) (p q : Pass) → Runs κ p → Runs κ q → classes_of p ≡ classes_of q → lent_of q ≡ 0 → resumed_with p (held_of q) ≡ q
unfolding resumed_with
resumed-pass κ p q call call c u = refl
resumed-pass κ p q math_call math_call c u = refl
resumed-pass κ p q unsplit_pass unsplit_pass c u = sym (split-none 0 0 refl)
resumed-pass κ p q unsplit_pass (split {done = n}) c u = sym (split-some 1 n (omega arith))
resumed-pass κ p q split unsplit_pass c u = sym (split-none 0 0 refl)
resumed-pass κ p q split (split {done = n}) c u = sym (split-some 1 n (omega arith))
resumed-pass κ p q array (array {array = a} {lent = b}) c u = ap (λ (x : ℕ). Arrays a x) (sym u)
resumed-pass κ p q unary unary c u = refl
resumed-pass κ p q (level {classes = d} h) (level {classes = e} {pending = n} i) c u =
    ap (λ (x : TokenClasses). Binary x n) (same-classes d e c)
resumed-pass κ p q conditional_pass conditional_pass c u = refl
resumed-pass κ p q return_pass return_pass c u = refl

-- an array that waits goes on waiting
pub takes-waits : (κ : Kind) (t : State κ) (k : Token) (kids : Forest) → waits κ (takes κ t k kids) ≤ waits κ t
unfolding waits takes array_level array_resume
takes-waits (calls kind) t k kids = le_refl 0
takes-waits statements t k kids = le_refl 0
takes-waits arrays (unindexed d) k kids = le_refl 0
takes-waits arrays (named d q) k kids = omega arith
takes-waits arrays (indexed d q c) k kids = le_refl 1
takes-waits unary_minus_and_not t k kids = le_refl 0
takes-waits conditional t k kids = le_refl 0
takes-waits returns t k kids = le_refl 0
takes-waits (binary ops) t k kids = le_refl 0

-- ---- the end of the list

pub close-can-finish : {W : List ℕ} {w : Walk} {base0 : ℕ} → CanClose W w base0 → CanFinish W w
close-can-finish {w = w} g =
    record {
      κ = g.κ;
      X = w.list.owner ∷ g.going.X;
      lo = g.going.lo;
      hi = g.going.hi;
      s = g.s;
      holds = g.going.holds;
      idle = g.idle;
      small = g.going.small;
    }

-- what the list gives, as an array
pub record Gives (κ : Kind) (W' X : List ℕ) (lo hi : ℕ) (v : Items) (s : State κ) (from n : ℕ) : Type 0 where
  pub f : Forest
  pub result : work κ s nil ≡ ok f
  pub array : InArray W' X from n lo hi f
  pub low : v.base ≤ from
  pub high : from + n ≤ v.base + v.len

given : {κ : Kind} {W' X : List ℕ} {lo hi : ℕ} {v : Items} {s : State κ} {from n : ℕ} → FinishTo κ W' X lo hi v s (Ok (ended_at from n))
    → Gives κ W' X lo hi v s from n
given (gives {f = f} e a l h) = record { f = f; result = e; array = a; low = l; high = h }

failed-next : {κ : Kind} {classes : ℕ} {W' X : List ℕ} {lo hi base0 hi0 : ℕ} {v : Items} {s : State κ} {f : Failure} (S : List (Held κ))
    (turns : ℕ)
    → FinishTo κ W' X lo hi v s (Err f) → NextTo κ classes W' base0 hi0 (unwound κ S (work κ s nil)) turns (Err f)
failed-next {κ} S turns (fails {ms = ms} t e) = NextTo.fails (ap (unwound κ S) e ∙ unwound-fail κ S ms) t

module _ {W W1 : List ℕ} {w : Walk} {base0 : ℕ} (r : Returned Finished Failure) (ended : Ends W w r W1) where
  finished-beyond : (g : CanClose W w base0) → Beyond W W1 base0 g.hi0
  unfolding close-can-finish
  finished-beyond g =
      let within = ended.within (close-can-finish g) in
      let G = g.going in
      top-beyond base0 g.hi0 (stack-bounds G.some G.stack)
      (λ j x y. within.kept j (free-inner w.list.owner G.X G.lo G.hi G.lo G.hi j (le_refl G.lo) (le_refl G.hi) x)
      (inl y))
      within.long

  pub closed-failed : (f : Failure) → r ≡ Err f → Closed W w base0 (Err f) W1
  unfolding close-can-finish
  closed-failed f e =
      record {
        to =
            λ g.
            failed-next g.S _
            (subst (λ (x : Returned Finished Failure). FinishTo g.κ W1 (w.list.owner ∷ g.going.X) g.going.lo g.going.hi w.list g.s x) e
            (ended.to (close-can-finish g)));
        beyond = finished-beyond;
      }

-- ---- the owner takes what the list gives

owned-full : {W X : List ℕ} {q lo hi : ℕ} {o : Token} (f : Forest) → is_nil f ≡ false → TokenAt W q o → 0 < q → Out q X → lo ≤ q → q < hi
    → Owned W X q lo hi f → RepT W X q lo hi o f
unfolding is_nil
owned-full nil e t p x l h v = absurd (true≢false e)
owned-full (node c cs r) e t p x l h v = owned-tree t p x l h v

-- The list that waits right below a list that is not the outermost.
pub record TopFrame (κ : Kind) (classes : ℕ) (W : List ℕ) (base0 hi0 : ℕ) (X : List ℕ) (owner lo hi base : ℕ) (S : List (Held κ))
    : Type 0 where
  pub X' : List ℕ
  pub lo' : ℕ
  pub hi' : ℕ
  pub wait : Walk
  pub t : State κ
  pub k : Token
  pub rest : Forest
  pub S' : List (Held κ)
  pub around : X ≡ wait.list.owner ∷ X'
  pub lists : S ≡ held t k rest ∷ S'
  pub above : base ≡ wait.list.base + wait.list.len + 6
  pub stack : Stack κ classes W base0 hi0 X' wait.list.owner lo' hi' wait.list.base S'
  pub frame : FrameOf κ classes W (wait.list.owner ∷ X') lo' lo hi hi' wait owner t k rest

top_frame : {κ : Kind} {classes : ℕ} {W : List ℕ} {base0 hi0 : ℕ} {X : List ℕ} {owner lo hi base : ℕ} {S : List (Held κ)}
    → base ≢ base0 → Stack κ classes W base0 hi0 X owner lo hi base S → TopFrame κ classes W base0 hi0 X owner lo hi base S
top_frame n bottom = absurd (n refl)
top_frame n (over {X = X} {lo = lo} {hi = hi} {w = w} {t = t} {k = k} {rest = rest} {S = S} s f) =
    record {
      X' = X;
      lo' = lo;
      hi' = hi;
      wait = w;
      t = t;
      k = k;
      rest = rest;
      S' = S;
      around = refl;
      lists = refl;
      above = refl;
      stack = s;
      frame = f;
    }

-- at the outermost list
outermost : {κ : Kind} {classes : ℕ} {W W1 W2 W3 : List ℕ} {base0 hi0 : ℕ} {X : List ℕ} {owner lo hi base from n : ℕ} {S : List (Held κ)}
    {f : Forest} {r : Result} (turns : ℕ)
    → 0 < hi0 → base ≡ base0 → r ≡ ok f → Stack κ classes W base0 hi0 X owner lo hi base S → InArray W1 (owner ∷ X) from n lo hi f
    → Given W1 owner from n W2 → Moved W2 from n base W3
    → slot_start hi ≤ base → base ≤ from → NextTo κ classes W3 base0 hi0 (unwound κ S r) turns (Ok (Done n))
unfolding unwound
outermost turns h e q bottom v gv mv below down = NextTo.ends q (move-outermost mv (give-outermost gv v h (omega arith)) h below)
outermost turns h e q (over s f) v gv mv below down = absurd (omega (arith, (stack-bounds h s).based))

module _ {W W1 : List ℕ} {w : Walk} {base0 from n : ℕ} (g : CanClose W w base0) (ended : Ends W w (Ok (ended_at from n)) W1) where
  pub gave : Gives g.κ W1 (w.list.owner ∷ g.going.X) g.going.lo g.going.hi w.list g.s from n
  gave = unfold close-can-finish in given (ended.to (close-can-finish g))

  finished-within : Within W W1 (w.list.owner ∷ g.going.X) g.going.lo g.going.hi w.list
  finished-within = unfold close-can-finish in ended.within (close-can-finish g)

  bounds : Bounds base0 g.hi0 g.going.X w.list.owner g.going.lo g.going.hi w.list.base
  bounds = stack-bounds g.going.some g.going.stack

  pub close-can-give : CanGive W1 w.list.owner from n
  close-can-give =
      let below = g.going.holds.sides.below in
      let within = g.going.holds.sides.within in
      let long = finished-within.long in
      array-give gave.array bounds.high (omega (arith, gave.low)) (omega (arith, gave.high))

  module _ {W2 : List ℕ} (gv : Given W1 w.list.owner from n W2) where
    owned : Owned W2 g.going.X w.list.owner g.going.lo g.going.hi gave.f
    owned = array_owned gv gave.array

    long2 : length W2 ≡ length W
    long2 = gv.long ∙ finished-within.long

    same2 : (j : ℕ) → Free g.going.X g.going.lo g.going.hi j → j < w.list.base → wd W2 j ≡ wd W j
    same2 j x y =
        give_kept gv gave.array.seg (sym gave.array.count) gave.array.rep bounds.low bounds.high bounds.out j x
        ∙ finished-within.kept j
        (free-inner w.list.owner g.going.X g.going.lo g.going.hi g.going.lo g.going.hi j (le_refl g.going.lo)
        (le_refl g.going.hi) x)
        (inl y)

    own2 : (o : ℕ) → o < 5 → wd W2 (slot_start w.list.owner + o) ≡ wd W (slot_start w.list.owner + o)
    own2 o x =
        let below = g.going.holds.sides.below in
        gv.same gave.array.bs gave.array.seg (sym gave.array.count) (slot_start w.list.owner + o) (omega arith)
        (omega arith)
        (off-word gave.array.bs w.list.owner o (omega arith) (omega arith))
        ∙ finished-within.kept (slot_start w.list.owner + o)
        (free_own w.list.owner g.going.X g.going.lo g.going.hi o (omega arith)) (inl (omega (arith, bounds.high)))

    stack2 : Stack g.κ g.classes W2 base0 g.hi0 g.going.X w.list.owner g.going.lo g.going.hi w.list.base g.S
    stack2 = stack-keep W W2 g.going.some g.going.stack same2 own2 long2

    beyond2 : Beyond W W2 base0 g.hi0
    beyond2 = top-beyond base0 g.hi0 bounds same2 long2

    pub close-can-move : CanMove W2 from n w.list.base
    close-can-move =
        let within = g.going.holds.sides.within in
        record { down = gave.low; within = omega (arith, gave.high, long2) }

    module _ {W3 : List ℕ} (mv : Moved W2 from n w.list.base W3) where
      next-done : w.list.base ≡ base0
          → NextTo g.κ g.classes W3 base0 g.hi0 (unwound g.κ g.S (work g.κ g.s nil)) (turns_below g.κ g.S)
          (Ok (Done n))
      next-done e =
          outermost (turns_below g.κ g.S) g.going.some e gave.result stack2 gave.array gv mv g.going.holds.sides.below
          gave.low

      done-beyond : w.list.base ≡ base0 → Beyond W W3 base0 g.hi0
      done-beyond e = beyond-then beyond2 (record { kept = λ j x y. mv.same j (omega arith); long = mv.long })

    module _ (inner : w.list.base ≢ base0) where
      top : TopFrame g.κ g.classes W2 base0 g.hi0 g.going.X w.list.owner g.going.lo g.going.hi w.list.base
          g.S
      top = top_frame inner stack2

      pub close-can-pop : CanPop W2 w.list.base
      close-can-pop =
          let above = top.above in
          let within = g.going.holds.sides.within in
          let at : w.list.base - 5 ≡ top.wait.list.base + top.wait.list.len + 1 = omega arith in
          record { six = omega arith; within = omega (arith, long2); base = rw (at, top.frame.words.base_word) (omega arith) }

      full2 : is_nil gave.f ≡ false
      full2 =
          (subst (λ (S : List (Held g.κ)). Full g.κ S (work g.κ g.s nil)) top.lists g.going.full).0 gave.f
          gave.result

      waiting-resumes : CanResume W2 top.wait w.list.owner
      waiting-resumes =
          let f = top.frame in
          let own : Owned W2 (top.wait.list.owner ∷ top.X') w.list.owner g.going.lo g.going.hi gave.f
          = subst (λ (X : List ℕ). Owned W2 X w.list.owner g.going.lo g.going.hi gave.f) top.around owned in
          record {
            κ = g.κ;
            X = top.wait.list.owner ∷ top.X';
            lo = top.lo';
            l = g.going.lo;
            m = g.going.hi;
            hi = top.hi';
            t = top.t;
            rest = top.rest;
            k = top.k;
            kids = gave.f;
            waits = f.waiting;
            unlent = f.unlent;
            tree = owned-full gave.f full2 f.token f.pos f.out f.low f.high own;
            full = full2;
            small = omega (arith, g.going.small, long2);
          }

      -- ---- the frame's words are that list

      module _ (fr : Frame) (p : Pass) (words : FrameAt W2 (w.list.base - 6) fr.list fr.held)
          (ep : p ≡ resumed_with w.pass fr.held) where
        at-frame : w.list.base - 6 ≡ top.wait.list.base + top.wait.list.len
        at-frame = omega (arith, top.above)

        words-at : FrameAt W2 (top.wait.list.base + top.wait.list.len) fr.list fr.held
        words-at = subst (λ (x : ℕ). FrameAt W2 x fr.list fr.held) at-frame words

        same-list : fr.list ≡ top.wait.list
        same-list =
            let f = top.frame.words in
            let owner = sym words-at.owner-word ∙ f.owner-word in
            let base : fr.list.base ≡ top.wait.list.base = sym words-at.base_word ∙ f.base_word in
            let read = sym words-at.read_word ∙ f.read_word in
            let write = sym words-at.write_word ∙ f.write_word in
            let long : fr.list.len ≡ top.wait.list.len = omega (arith, words-at.above) in
            λ i. record { owner = owner i; base = base i; len = long i; read = read i; write = write i }

        same-held : fr.held ≡ held_of top.wait.pass
        same-held =
            let f = top.frame.words in
            let first = sym words-at.first-word ∙ f.first-word in
            let second = sym words-at.second_word ∙ f.second_word in
            λ i. record { first = first i; second = second i }

        same-pass : p ≡ top.wait.pass
        same-pass =
            ep ∙ ap (resumed_with w.pass) same-held
            ∙ resumed-pass g.κ w.pass top.wait.pass g.going.holds.sides.runs top.frame.waiting.sides.runs
            (g.going.same ∙ sym top.frame.same) top.frame.unlent

        same-walk : walk_of fr.list p ≡ top.wait
        same-walk = λ i. record { list = same-list i; pass = same-pass i }

        pub close-can-resume : CanResume W2 (walk_of fr.list p) w.list.owner
        close-can-resume = subst (λ (x : Walk). CanResume W2 x w.list.owner) (sym same-walk) waiting-resumes

        module _ {w3 : Walk} {W3 : List ℕ} (back : Resumed W2 (walk_of fr.list p) w.list.owner w3 W3) where
          back_at : Resumed W2 top.wait w.list.owner w3 W3
          back_at = subst (λ (x : Walk). Resumed W2 x w.list.owner w3 W3) same-walk back

          within3 : Within W2 W3 (top.wait.list.owner ∷ top.X') top.lo' top.hi' top.wait.list
          within3 = unfold waiting-resumes in back_at.within waiting-resumes

          below-bounds : Bounds base0 g.hi0 top.X' top.wait.list.owner top.lo' top.hi' top.wait.list.base
          below-bounds = stack-bounds g.going.some top.stack

          same3 : (j : ℕ) → Free top.X' top.lo' top.hi' j → j < top.wait.list.base → wd W3 j ≡ wd W2 j
          same3 j x y =
              within3.kept j
              (free-inner top.wait.list.owner top.X' top.lo' top.hi' top.lo' top.hi' j (le_refl top.lo')
              (le_refl top.hi') x)
              (inl y)

          stack3 : Stack g.κ g.classes W3 base0 g.hi0 top.X' top.wait.list.owner top.lo' top.hi'
              top.wait.list.base top.S'
          stack3 =
              let below = top.frame.waiting.sides.below in
              stack-keep W2 W3 g.going.some top.stack same3
              (λ o x. within3.kept (slot_start top.wait.list.owner + o)
              (free_own top.wait.list.owner top.X' top.lo' top.hi' o (omega arith))
              (inl (omega (arith, below-bounds.high))))
              within3.long

          result3 : unwound g.κ g.S (work g.κ g.s nil)
              ≡ unwound g.κ top.S' (work g.κ (takes g.κ top.t top.k gave.f) top.rest)
          unfolding unwound and_then
          result3 =
              ap (λ (S : List (Held g.κ)). unwound g.κ S (work g.κ g.s nil)) top.lists
              ∙ ap (unwound g.κ (held top.t top.k top.rest ∷ top.S')) gave.result

          full3 : Full g.κ top.S' (work g.κ (takes g.κ top.t top.k gave.f) top.rest)
          unfolding and_then
          full3 =
              let full = subst (λ (S : List (Held g.κ)). Full g.κ S (work g.κ g.s nil)) top.lists g.going.full in
              subst
              (λ (r : Result). Full g.κ top.S' (and_then r (λ kids. work g.κ (takes g.κ top.t top.k kids) top.rest)))
              gave.result full.1

          going3 : Going g.κ g.classes W3 base0 g.hi0 w3 top.S' (takes g.κ top.t top.k gave.f) top.rest
          unfolding waiting-resumes
          going3 =
              let l = back_at.list in
              let room = top.frame.room in
              record {
                X = top.X';
                lo = top.lo';
                hi = top.hi';
                stack =
                    subst₂ (λ (x : ℕ) (y : ℕ). Stack g.κ g.classes W3 base0 g.hi0 top.X' x top.lo' top.hi' y top.S')
                    (sym l.owner) (sym l.base) stack3;
                holds =
                    subst
                    (λ (x : ℕ). Holds g.κ W3 (x ∷ top.X') top.lo' top.hi' w3 (takes g.κ top.t top.k gave.f)
                    top.rest)
                    (sym l.owner)
                    (back_at.holds waiting-resumes);
                same = l.classes ∙ top.frame.same;
                room = omega (arith, l.base, l.len, within3.long);
                full = full3;
                some = g.going.some;
                small = omega (arith, g.going.small, long2, within3.long);
              }

          next-on : NextTo g.κ g.classes W3 base0 g.hi0 (unwound g.κ g.S (work g.κ g.s nil)) (turns_below g.κ g.S)
              (Ok (On w3))
          next-on =
              let few = takes-waits g.κ top.t top.k gave.f in
              let all = ap (turns_below g.κ) top.lists in
              NextTo.goes going3 result3 (omega arith)

          beyond3 : Beyond W W3 base0 g.hi0
          beyond3 = beyond-then beyond2 (top-beyond base0 g.hi0 below-bounds same3 within3.long)

-- ---- `close`

pub ended-ok : {W W1 : List ℕ} {w : Walk} (q : Finished) → Ends W w (Ok q) W1 → Ends W w (Ok (ended_at q.from q.items)) W1
ended-ok q x = x

pub closed-done : {W W1 W2 W3 : List ℕ} {w : Walk} {base0 from n : ℕ} → Ends W w (Ok (ended_at from n)) W1 → Given W1 w.list.owner from n W2
    → Moved W2 from n w.list.base W3 → w.list.base ≡ base0
    → Closed W w base0 (Ok (Done n)) W3
closed-done ended gv mv e = record { to = λ g. next-done g ended gv mv e; beyond = λ g. done-beyond g ended gv mv e }

pub closed_on : {W W1 W2 W3 : List ℕ} {w w3 : Walk} {base0 from n : ℕ} → Ends W w (Ok (ended_at from n)) W1 → Given W1 w.list.owner from n W2
    → w.list.base ≢ base0 → (fr : Frame) (p : Pass)
    → FrameAt W2 (w.list.base - 6) fr.list fr.held → p ≡ resumed_with w.pass fr.held
    → Resumed W2 (walk_of fr.list p) w.list.owner w3 W3
    → Closed W w base0 (Ok (On w3)) W3
closed_on ended gv inner fr p words ep back =
    record { to = λ g. next-on g ended gv inner fr p words ep back; beyond = λ g. beyond3 g ended gv inner fr p words ep back }
