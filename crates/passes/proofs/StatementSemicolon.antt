-- A semicolon of a split list: it stands first, or after another, or ends the open statement, which then stands in its slot.
use Prim.Native.Nat.{ℕ, ◌+◌, ◌-◌, ◌^◌, ◌≤◌, ◌<◌}
use mathlib.Core.{Path.{◌≡◌, refl, sym, ap, ◌∙◌, subst}, Logic.{◌≢◌, ◌⊎◌, inl, inr, ⊎_elim}, Bool.{true, false, true≢false}}
use mathlib.Core.List.{List, [], ◌∷◌}
use native.Mathlib.{Omega.{arith}, Nat.{le_refl}, Decide.{dec_lt}}
use borrow.Author.Tests.{eqb-true}
use lib.ListN.{length}
use Rattle.molang.specs.{Operator.{semicolon}, Forest.{Token, Forest, nil, node, bare, in_order, count, size}, Message.{Message}}
use Rattle.molang.specs.{Level.{on, stop}, Statements.{after, split_of, end_statement}, Free.{is_nil, is_semicolon}}
use Rattle.molang.specs.Work.{Kind, statements, State}
use Rattle.nodes.specs.Store.{wd, slot_start, slot_end, TokenAt, Out, OutFrom, RepT, RepB, begins as begins-with, put, InArray, Free}
use Rattle.nodes.{specs.declared.stored.StoredWords.{StoredWords}, specs.Slots.{Laid, Made}, specs.Children.{CanGive}}
use Rattle.nodes.{specs.declared.frames.List.{List as Items}, proofs.Runs.{seg-keep}, proofs.Tokens.{token-keep, token-made}}
use Rattle.nodes.proofs.Store.{reserve-semicolon, rep-raise, tree-below, tree-out, back-le, back_count}
use Rattle.nodes.{proofs.Keeping.{free-beside, free-above, free_part, laid_kept}, proofs.Trees.{array-give}}
use Rattle.levels.specs.{Passes.{walk_of, moved_to, waits}, Items.{BackArray, Ahead, Passed, SoughtTo, leaf, Sought}}
use Rattle.levels.specs.{Sides.{EndedAt, Ended, nothing, statement}, Failures.{leading_semicolon}}
use Rattle.levels.specs.{Turns.{Within, CanTurn, TurnTo, goes, fails, Turned}, declared.failure.Failure.TheVariants.{LeadingSemicolon}}
use Rattle.levels.specs.{declared.items.Found.TheVariants.{Token as Leaf}, declared.turns.Pass.TheVariants.{Split as SplitAt}}
use Rattle.levels.specs.{declared.turns.Turn.{Turn}, declared.turns.Turn.TheVariants.{On}}
use Rattle.std.specs.Prelude.{Ok, Err}
use Rattle.levels.proofs.{Reading.{ahead-le, ahead-keep, back-array-keep}, Ended.{ended-le, ended-at-keep}}
use Rattle.passes.specs.Statements.{Grouped, ListMade, there, begun, CanEnd, SemicolonTo, leading, again, ended}
use Rattle.passes.proofs.StatementLaws.{semicolon-class, step_end, walk-on, walk-stop, earliest, open_on, passed-counts, passed-open}
use Rattle.passes.proofs.StatementLaws.{Moved, moved_same, same-list}
use Rattle.passes.proofs.StatementGroup.{in_order_lem, grouped-tree, grouped-same, grouped-stored, grouped-long}
use Rattle.passes.proofs.StatementSplit.{ended-rebase, Pending, pending-passed, SplitView, splits, split-view, seek-split}
use Rattle.passes.proofs.{StatementSplit.{split-sides, open-items}, TurnLaws.{Step}}

-- ---- what `semicolon` asks

-- a node laid down below the items
give-laid : {W W' : List ℕ} {s p from n k : ℕ} {t : StoredWords} → Laid W s t k W' → slot_end s ≤ from → CanGive W p from n
    → CanGive W' p from n
give-laid {W} {W'} {from = from} w h g =
    record {
      hi = g.hi;
      cs = g.cs;
      seg = seg-keep W W' from g.cs (λ j x y. w.same j (inr (omega arith))) g.seg;
      count = g.count;
      inc = g.inc;
      own = g.own;
      below = g.below;
      room = omega (arith, w.long, g.room);
    }

made-give : {W W1 : List ℕ} {l : Items} {item done : ℕ} → CanEnd W l item done → ListMade W item done W1 → done < l.write
    → CanGive W1 item (l.base + done) (l.write - done)
made-give g (there e) h = g.give h
made-give g (begun e w) h = give-laid w (omega (arith, g.own)) (g.give h)

pub can-end-give : {W W1 : List ℕ} {l : Items} {item done : ℕ} (from : ℕ) → from ≡ done → l.write ≢ from → CanEnd W l item done
    → ListMade W item done W1
    → CanGive W1 item (l.base + from) (l.write - from) × (0 < l.write - from)
can-end-give {W1 = W1} {l = l} {item = item} {done = done} from e n g m =
    let h : done < l.write = omega (arith, g.from) in
    (subst (λ (x : ℕ). CanGive W1 item (l.base + x) (l.write - x)) (sym e) (made-give g m h), omega arith)

pub semicolon-ended : {W W1 W' : List ℕ} {l l' : Items} {item done : ℕ} {r : Turn} (from : ℕ) → from ≡ done → l.write ≢ from
    → CanEnd W l item done → ListMade W item done W1
    → Grouped W1 item (l.base + from) (l.write - from) W' → l' ≡ moved_to l l.read (from + 1) → r ≡ On (walk_of l' (SplitAt (done + 1)))
    → SemicolonTo W l item done (Ok r) W'
semicolon-ended {W} {W1} {W'} {l} {l'} {item} {done} {r} from e n g m w moved is =
    let h : done < l.write = omega (arith, g.from) in
    let w' : Grouped W1 item (l.base + done) (l.write - done) W' =
    subst (λ (x : ℕ). Grouped W1 item (l.base + x) (l.write - x) W') e w in
    let same : r ≡ On (walk_of (moved_to l l.read (done + 1)) (SplitAt (done + 1)))
    =
    is ∙ ap (λ (x : Items). On (walk_of x (SplitAt (done + 1)))) moved
    ∙ ap (λ (x : ℕ). On (walk_of (moved_to l l.read (x + 1)) (SplitAt (done + 1)))) e in
    subst (λ (x : Turn). SemicolonTo W l item done (Ok x) W') (sym same) (ended h m w')

-- ---- the list at a semicolon

pub record AtSemicolon (W X : List ℕ) (lo hi : ℕ) (l : Items) (n b : ℕ) (q : Token) (done : Forest) : Type 0 where
  pub d : Forest
  pub rest : Forest
  pub k : Token
  pub m : ℕ
  pub a : ℕ
  pub top : ℕ
  pub c : ℕ
  pub before : EndedAt W X l.base n lo m q done
  pub items : BackArray W X (l.base + n) c m a d
  pub reached : n + c ≡ l.write
  pub tree : RepT W X b a top k nil
  pub is : is_semicolon k.op ≡ true
  pub ahead : Ahead W X l.base l.read l.len top hi rest
  pub read : l.write < l.read
  pub pending : Pending q done (node k nil rest)
  pub below : slot_start hi ≤ l.base
  pub within : l.base + l.len ≤ length W
  pub small : length W < 2 ^ 32

-- a semicolon keeps three slots
semicolon-slots : {W X : List ℕ} {b a m : ℕ} {k : Token} → is_semicolon k.op ≡ true → RepT W X b a m k nil → (b + 3 ≤ m) × OutFrom b 3 X
unfolding is_semicolon
semicolon-slots {X = X} {b = b} {k = k} e t =
    let r = reserve-semicolon k (eqb-true k.op semicolon e) in
    (omega (arith, t.high), subst (λ (x : ℕ). OutFrom b x X) r t.out)

pub at-can-end : {W X : List ℕ} {lo hi : ℕ} {l : Items} {n b : ℕ} {q : Token} {done : Forest} → AtSemicolon W X lo hi l n b q done
    → CanEnd W l b n
at-can-end {W} {X} {l = l} {n = n} {b = b} v =
    let three = (semicolon-slots v.is v.tree).0 in
    let al = ahead-le v.ahead in
    let tl = v.tree.low in
    let reached = v.reached in let read = v.read in let below = v.below in let within = v.within in
    let top = v.top in
    record {
      own = omega arith;
      from = omega arith;
      within = omega arith;
      small = v.small;
      give = λ h.
          let ar = in_order_lem v.items in
          let wide : InArray W X (l.base + n) v.c v.m top (in_order v.d)
          = record { bs = ar.bs; seg = ar.seg; count = ar.count; rep = rep-raise (omega arith) ar.rep } in
          subst (λ (x : ℕ). CanGive W b (l.base + n) x) (omega arith) (array-give wide (omega arith) (omega arith) (omega arith));
    }

-- ---- what stands before it

pub back-nil : {W X ds : List ℕ} {lo hi : ℕ} {d : Forest} → RepB W X ds lo hi d → length ds ≡ 0 → d ≡ nil
back-nil (begins-with e) h = refl
back-nil (put r t e) h = absurd (omega arith)

pub ended-nil : {W X ds : List ℕ} {lo hi : ℕ} {d : Forest} → Ended W X ds lo hi d → length ds ≡ 0 → d ≡ nil
ended-nil (nothing e) h = refl
ended-nil (statement r t o e) h = absurd (omega arith)

ended_some : {W X ds : List ℕ} {lo hi : ℕ} {d : Forest} → Ended W X ds lo hi d → length ds ≢ 0 → is_nil d ≡ false
unfolding is_nil
ended_some (nothing e) h = absurd (h refl)
ended_some (statement r t o e) h = refl

leads : (q : Token) (done d : Forest) (k : Token) → d ≡ nil → done ≡ nil
    → end_statement k (open_on q done d) ≡ stop (Message.leading_semicolon k ∷ [])
unfolding open_on end_statement
leads q done d k e f = rw (e, f) refl

repeats : (q : Token) (done d : Forest) (k : Token) → d ≡ nil → is_nil done ≡ false → end_statement k (open_on q done d) ≡ on (open_on q done d)
unfolding open_on end_statement is_nil
repeats q nil d k e f = absurd (true≢false f)
repeats q (node t ts done) d k e f = rw e refl

ends_open : (q : Token) (done : Forest) (t : Token) (ts d : Forest) (k : Token)
    → end_statement k (open_on q done (node t ts d)) ≡ on (open_on q (node (bare semicolon (earliest t d)) (in_order (node t ts d)) done) nil)
ends_open q done t ts d k = unfold open_on end_statement in refl

split-here : (k : Token) (rest : Forest) → is_semicolon k.op ≡ true → split_of (node k nil rest) ≡ after (bare semicolon k) nil
split-here k rest e = unfold split_of is_semicolon in rw (e, split_of) refl

after-token : {q p : Token} → after q nil ≡ after p nil → q ≡ p
after-token e = cc

-- ---- what ending a statement changes

list_same : {W W1 : List ℕ} {b n : ℕ} → ListMade W b n W1 → (j : ℕ) → (j < slot_start (b + 2)) ⊎ (slot_end (b + 2) ≤ j) → wd W1 j ≡ wd W j
list_same (there e) j o = refl
list_same (begun e w) j o = w.same j o

list_cases : {W W1 : List ℕ} {b n : ℕ} → ListMade W b n W1 → (n ≢ 0) ⊎ ((n ≡ 0) × Made W (b + 2) semicolon b W1)
list_cases (there e) = inl e
list_cases (begun e w) = inr (e, w)

list-long : {W W1 : List ℕ} {b n : ℕ} → ListMade W b n W1 → length W1 ≡ length W
list-long (there e) = refl
list-long (begun e w) = w.long

list-kept : {W W1 : List ℕ} {b n : ℕ} (X : List ℕ) (lo hi : ℕ) → ListMade W b n W1 → lo ≤ b → b + 3 ≤ hi → OutFrom b 3 X → (j : ℕ)
    → Free X lo hi j → wd W1 j ≡ wd W j
list-kept X lo hi (there e) low high out j f = refl
list-kept {b = b} X lo hi (begun e w) low high out j f =
    laid_kept X lo hi w (omega arith) (omega arith) (out (b + 2) (omega arith) (omega arith)) j f

-- a free word is none of the slot's
pub beside-slot : (X : List ℕ) (lo hi b j : ℕ) → lo ≤ b → b < hi → Out b X → Free X lo hi j → (j < slot_start b) ⊎ (slot_end b ≤ j)
beside-slot X lo hi b j low high out f =
    elim (dec_lt j (slot_start b)) [
      | yes h ↦ inl h
      | no h ↦ elim (dec_lt j (slot_end b)) [
        | yes h' ↦ absurd (f b (j - slot_start b) low high (omega arith) out (omega arith))
        | no h' ↦ inr
            (omega arith)
      ]
    ]

module _ {W W1 W' X : List ℕ} {base n write lo m a top b c : ℕ} {q k t : Token} {done ts d : Forest}
    (v : EndedAt W X base n lo m q done) (items : BackArray W X (base + n) c m a (node t ts d)) (reached : n + c ≡ write)
    (tree : RepT W X b a top k nil) (is : is_semicolon k.op ≡ true)
    (made : ListMade W b n W1) (g : Grouped W1 b (base + n) (write - n) W') (below : slot_start top ≤ base)
    (within : base + write ≤ length W) where
  items-made : BackArray W1 X (base + n) (write - n) m a (node t ts d)
  items-made =
      let three = (semicolon-slots is tree).0 in
      let tl = tree.low in
      open-items refl (omega arith)
      (back-array-keep W W1 (λ s o x y z p. list_same made (slot_start s + o) (inl (omega arith)))
      (λ j x y. list_same made j (inr (omega arith))) items)

  -- every word but those of the semicolon's slots and of the statement's items, and the one that the statement stands in, is as it was
  ended_same : (j : ℕ) → j ≢ base + n → (j < slot_start b) ⊎ (slot_end (b + 2) ≤ j) → Free X m a j → wd W' j ≡ wd W j
  ended_same j na nb f =
      let three = (semicolon-slots is tree).0 in
      let tl = tree.low in
      let ml = back-le items.rep in
      grouped-same {lo = m} {hi = top} g items-made (inr tl) (le_refl m) (omega arith) (omega arith) (omega arith) (omega arith) j na
      (⊎_elim (λ h. inl h) (λ h. inr (omega arith)) nb) f
      ∙ list_same made j (⊎_elim (λ h. inl (omega arith)) (λ h. inr (omega arith)) nb)

  ended-tree : RepT W' X b m (b + 1) (bare semicolon (earliest t d)) (in_order (node t ts d))
  ended-tree =
      let three = (semicolon-slots is tree).0 in
      let tl = tree.low in
      let ml = back-le items.rep in
      grouped-tree g items-made (inr tl) (le_refl m) (omega arith) (omega arith) (omega arith) (omega arith) tree.pos (tree-out tree)
      (omega (arith, list-long made))

  ended-before : EndedAt W' X base n lo m q done
  ended-before =
      let three = (semicolon-slots is tree).0 in
      let tl = tree.low in
      let ml = back-le items.rep in
      ended-at-keep W W' (λ s o x y z p. ended_same (slot_start s + o) (omega arith) (inl (omega arith)) (free-beside X m a s o z (inl y)))
      (λ j x y. ended_same j (omega arith) (inr (omega arith)) (free-above X m a j (omega arith))) v

  ended-stored : n < write → wd W' (base + n) ≡ b
  ended-stored h =
      let three = (semicolon-slots is tree).0 in
      let tl = tree.low in
      let ml = back-le items.rep in
      grouped-stored {lo = m} {hi = top} g items-made (inr tl) (le_refl m) (omega arith) (omega arith) (omega arith) (omega arith)
      (omega (arith, list-long made))

  -- the list's own node
  list-token : (rest : Forest) → n < write → Pending q done (node k nil rest) → (n ≢ 0) ⊎ ((n ≡ 0) × Made W (b + 2) semicolon b W1)
      → TokenAt W' (wd W' base + 2) q
  unfolding is_nil
  list-token rest h p (inl e) = ended-before.list (ended_some v.rep (λ z. e (v.count ∙ z)))
  list-token rest h p (inr (e, w)) =
      let three = (semicolon-slots is tree).0 in
      let tl = tree.low in
      let ml = back-le items.rep in
      let here : b ≡ wd W' base = sym (ended-stored h) ∙ ap (wd W') (omega arith) in
      let none : done ≡ nil = ended-nil v.rep (sym v.count ∙ e) in
      let own : q ≡ bare semicolon k = after-token (sym (p (ap is_nil none)) ∙ split-here k rest is) in
      let token : TokenAt W1 (b + 2) (bare semicolon k) = token-made {o = semicolon} w (omega arith) tree.token in
      let token' : TokenAt W' (b + 2) (bare semicolon k)
      = token-keep W1 W' (b + 2)
      (λ o z. grouped-same {lo = m} {hi = top} g items-made (inr tl) (le_refl m) (omega arith) (omega arith) (omega arith) (omega arith)
      (slot_start (b + 2) + o) (omega arith) (inr (omega arith))
      (free-beside X m a (b + 2) o (omega arith) (inr (omega arith)))) token in
      rw own (subst (λ (x : ℕ). TokenAt W' (x + 2) (bare semicolon k)) here token')

  pub ended-more : (rest : Forest) → n < write → Pending q done (node k nil rest)
      → EndedAt W' X base (n + 1) lo top q (node (bare semicolon (earliest t d)) (in_order (node t ts d)) done)
  ended-more rest h p =
      let three = semicolon-slots is tree in
      let before = ended-before in
      record {
        ds = b ∷ before.ds;
        seg = (ap (λ (x : ℕ). wd W' (base + x)) (sym before.count) ∙ ended-stored h, before.seg);
        count = omega (arith, before.count);
        rep = statement before.rep ended-tree three.1 three.0;
        list = λ e. list-token rest h p (list_cases made);
      }

  pub ended-ahead : {hi read len : ℕ} {rest : Forest} → slot_start hi ≤ base → write < read → Ahead W X base read len top hi rest
      → Ahead W' X base read len top hi rest
  ended-ahead below' r u =
      let three = (semicolon-slots is tree).0 in
      let tl = tree.low in
      let ml = back-le items.rep in
      ahead-keep W W'
      (λ s o x y z p. ended_same (slot_start s + o) (omega arith) (inr (omega arith)) (free-beside X m a s o z (inr (omega arith))))
      (λ j x y. ended_same j (omega arith) (inr (omega arith)) (free-above X m a j (omega arith))) u

-- ---- the turn

-- The list that reading on stopped at, and what it passed over.
pub record Stopped (W X : List ℕ) (lo hi : ℕ) (l l' : Items) (n b : ℕ) (q : Token) (done d rest : Forest) : Type 0 where
  pub at : AtSemicolon W X lo hi l' n b q done
  pub passed : Passed is_semicolon d rest at.d (node at.k nil at.rest)
  pub moved : Moved l l'

module _ {W W' X : List ℕ} {lo hi n b : ℕ} {l l' : Items} (small : length W < 2 ^ 32) (g : Sought W l 0x2 (Leaf l' b) W') where
  stopped : {q : Token} {done d rest : Forest} {m m' m'' c : ℕ} → EndedAt W X l.base n lo m q done → BackArray W X (l.base + n) c m m' d
      → n + c ≡ l.write
      → Ahead W X l.base l.read l.len m'' hi rest → m' ≤ m'' → Pending q done rest → l.write ≤ l.read → slot_start hi ≤ l.base
      → l.base + l.len ≤ length W
      → Stopped W' X lo hi l l' n b q done d rest
  stopped {q = q} {done = done} {d = d} {rest = rest} {m = m} v w e u le p t below within =
      go (g.to (seek-split v w e u le t below within small) is_semicolon semicolon-class)
    where
      go : SoughtTo W' X l (l.base + n) m hi is_semicolon d rest (Leaf l' b) → Stopped W' X lo hi l l' n b q done d rest
      go (leaf {d' = d'} {rest' = rest'} {a = a} {m = top} {k = k} moved before passed is tree seen) =
          let mv : Moved l l' = moved_same moved in
          let mb = mv.base in let ml = mv.len in let long = g.long in
          let bl = back-le w.rep in let al = ahead-le u in
          let kept =
          ended-at-keep W W' (λ s o x y z w. g.same (slot_start s + o) (inl (omega arith))) (λ j x y. g.same j (inl (omega arith))) v in
          record {
            at =
                record {
                  d = d';
                  rest = rest';
                  k = k;
                  m = m;
                  a = a;
                  top = top;
                  c = seen.n;
                  before = ended-rebase (sym mb) kept;
                  items = open-items (ap (λ (x : ℕ). x + n) (sym mb)) refl seen.done;
                  reached = omega (arith, seen.reached);
                  tree = tree;
                  is = is;
                  ahead = seen.ahead;
                  read = before;
                  pending = pending-passed q done passed p;
                  below = omega arith;
                  within = omega arith;
                  small = omega arith;
                };
            passed = passed;
            moved = mv;
          }

turn-leading : {W X : List ℕ} {lo hi n b : ℕ} {l l' : Items} {q : Token} {done d rest : Forest} → Stopped W X lo hi l l' n b q done d rest
    → l'.write ≡ 0
    → TurnTo statements W X lo hi (walk_of l (SplitAt n)) (open_on q done d) rest (Err (LeadingSemicolon b))
turn-leading {q = q} {done = done} v h =
    let at = v.at in
    let none = back-nil at.items.rep (omega (arith, at.items.count, at.reached)) in
    let none' = ended-nil at.before.rep (omega (arith, at.before.count, at.reached)) in
    fails (leading_semicolon at.tree.token)
    (passed-open q done v.passed ∙ walk-stop (open_on q done at.d) at.k nil at.rest (Message.leading_semicolon at.k ∷ [])
    (step_end (open_on q done at.d) at.k at.is ∙ leads q done at.d at.k none none'))

turn-again : {W X : List ℕ} {lo hi n b : ℕ} {l l' : Items} {q : Token} {done d rest : Forest} → Stopped W X lo hi l l' n b q done d rest
    → l'.write ≢ 0 → l'.write ≡ n
    → TurnTo statements W X lo hi (walk_of l (SplitAt n)) (open_on q done d) rest (Ok (On (walk_of l' (SplitAt n))))
unfolding waits count size
turn-again {n = n} {l' = l'} {q = q} {done = done} v h e =
    let at = v.at in
    let c = passed-counts v.passed in
    let none = back-nil at.items.rep (omega (arith, at.items.count, at.reached)) in
    let some' = ended_some at.before.rep (λ z. h (omega (arith, at.before.count))) in
    goes {w' = walk_of l' (SplitAt n)} {s' = open_on q done at.d} {rest' = at.rest} (same-list (SplitAt n) (SplitAt n) refl v.moved)
    (record {
      l = at.a;
      m = at.top;
      sides =
          split-sides {c = at.c} at.d at.before at.items at.reached at.ahead
          (omega (arith, at.tree.low, tree-below at.tree))
          (λ z. absurd (true≢false (sym z ∙ some'))) at.below at.within;
      turning = omega (arith, at.read);
    })
    (passed-open q done v.passed ∙ walk-on (open_on q done at.d) at.k nil at.rest (open_on q done at.d)
    (step_end (open_on q done at.d) at.k at.is ∙ repeats q done at.d at.k none some'))
    (omega (arith, c.0)) (omega (arith, c.1)) (omega (arith, c.2))

module _ {W W1 W' X : List ℕ} {lo hi n b : ℕ} {l l' : Items} {q : Token} {done d rest : Forest}
    (v : Stopped W X lo hi l l' n b q done d rest)
    (h : n < l'.write) (made : ListMade W b n W1) (g : Grouped W1 b (l'.base + n) (l'.write - n) W') where
  ended-turn : (f : Forest) → v.at.d ≡ f
      → TurnTo statements W' X lo hi (walk_of l (SplitAt n))
      (open_on q done d) rest (Ok (On (walk_of (moved_to l' l'.read (n + 1)) (SplitAt (n + 1)))))
  unfolding waits count size is_nil
  ended-turn nil e = absurd (omega (arith, v.at.items.count, back_count v.at.items.rep, v.at.reached, ap count e))
  ended-turn (node t ts f) e =
      let at = v.at in
      let c = passed-counts v.passed in
      let al = ahead-le at.ahead in
      let read = at.read in let within = at.within in let below = at.below in
      let top = at.top in
      let on_List = moved_to l' l'.read (n + 1) in
      let items : BackArray W X (l'.base + n) at.c at.m at.a (node t ts f) =
      subst (λ (x : Forest). BackArray W X (l'.base + n) at.c at.m at.a x) e at.items in
      let finished =
      ended-more at.before items at.reached at.tree at.is made g (omega arith) (omega arith) at.rest h at.pending in
      let ahead =
      ended-ahead at.before items at.reached at.tree at.is made g (omega arith) (omega arith) below read at.ahead in
      let s' = open_on q (node (bare semicolon (earliest t f)) (in_order (node t ts f)) done) nil in
      goes {w' = walk_of on_List (SplitAt (n + 1))} {s' = s'} {rest' = at.rest}
      (same-list (SplitAt n) (SplitAt (n + 1)) refl (record { owner = v.moved.owner; base = v.moved.base; len = v.moved.len }))
      (record {
        l = top;
        m = top;
        sides =
            split-sides {c = 0} {l = on_List} nil finished (record { ds = []; seg = tt; count = refl; rep = begins-with (le_refl top) })
            (omega arith) ahead (le_refl top)
            (λ z. absurd (true≢false (sym z))) below (omega (arith, grouped-long g, list-long made));
        turning = omega arith;
      })
      (passed-open q done v.passed ∙ walk-on (open_on q done at.d) at.k nil at.rest s'
      (step_end (open_on q done at.d) at.k at.is ∙ ap (λ (x : Forest). end_statement at.k (open_on q done x)) e
      ∙ ends_open q done t ts f at.k))
      (omega (arith, c.0)) (omega (arith, c.1)) (omega (arith, c.2))

  ended-within : (f : Forest) → v.at.d ≡ f
      → ((j : ℕ) → Free X lo hi j → (j < l.base) ⊎ (l.base + l.len ≤ j) → wd W' j ≡ wd W j) × (length W' ≡ length W)
  unfolding count
  ended-within nil e = absurd (omega (arith, v.at.items.count, back_count v.at.items.rep, v.at.reached, ap count e))
  ended-within (node t ts f) e =
      let at = v.at in
      let al = ahead-le at.ahead in
      let read = at.read in let within = at.within in let below = at.below in
      let mb = v.moved.base in let ml = v.moved.len in
      let bl = back-le at.items.rep in let el = ended-le at.before.rep in let tl = at.tree.low in
      let three = semicolon-slots at.is at.tree in
      let high = three.0 in
      let items : BackArray W X (l'.base + n) at.c at.m at.a
      (node t ts f) = subst (λ (x : Forest). BackArray W X (l'.base + n) at.c at.m at.a x) e at.items in (
        λ j p o.
            grouped-same {lo = at.m} {hi = at.top} g
            (items-made at.before items at.reached at.tree at.is made g (omega arith) (omega arith)) (inr tl) (le_refl at.m)
            (omega arith)
            (omega arith) (omega arith) (omega arith) j (⊎_elim (λ x. omega arith) (λ x. omega arith) o)
            (beside-slot X lo hi b j (omega arith) (omega arith) (three.1 b (omega arith) (omega arith)) p)
            (free_part X lo hi at.m at.a j (omega arith) (omega arith) p)
            ∙ list-kept X lo hi made (omega arith) (omega arith) three.1 j p,
        grouped-long g ∙ list-long made,
      )

stopped-turn : {W W' X : List ℕ} {lo hi n b : ℕ} {l l' : Items} {q : Token} {done d rest : Forest} {r : Step}
    → Stopped W X lo hi l l' n b q done d rest → SemicolonTo W l' b n r W'
    → TurnTo statements W' X lo hi (walk_of l (SplitAt n)) (open_on q done d) rest r
stopped-turn v (leading h) = turn-leading v h
stopped-turn v (again h e) = turn-again v h e
stopped-turn v (ended h made g) = ended-turn v h made g v.at.d refl

-- what the turn changes
stopped-within : {W W' X : List ℕ} {lo hi n b : ℕ} {l l' : Items} {q : Token} {done d rest : Forest} {r : Step}
    → Stopped W X lo hi l l' n b q done d rest → SemicolonTo W l' b n r W'
    → ((j : ℕ) → Free X lo hi j → (j < l.base) ⊎ (l.base + l.len ≤ j) → wd W' j ≡ wd W j) × (length W' ≡ length W)
stopped-within v (leading h) = (λ j f o. refl, refl)
stopped-within v (again h e) = (λ j f o. refl, refl)
stopped-within v (ended h made g) = ended-within v h made g v.at.d refl

module _ {W W' : List ℕ} {l l' : Items} {n b : ℕ} (g : Sought W l 0x2 (Leaf l' b) W') where
  split-can-end : {X : List ℕ} {lo hi : ℕ} {κ : Kind} {s : State κ} {rest : Forest} → length W < 2 ^ 32 → SplitView W X lo hi l n κ s rest
      → CanEnd W' l' b n
  split-can-end small (splits v w e u le p t below within) = at-can-end (stopped small g v w e u le p t below within).at

  pub can-end : CanTurn W (walk_of l (SplitAt n)) → CanEnd W' l' b n
  can-end h = split-can-end h.small (split-view h.holds)

  split-semicolon : {X : List ℕ} {lo hi : ℕ} {κ : Kind} {s : State κ} {rest : Forest} {r : Step} {W'' : List ℕ} → length W < 2 ^ 32
      → SemicolonTo W' l' b n r W'' → SplitView W X lo hi l n κ s rest
      → TurnTo κ W'' X lo hi (walk_of l (SplitAt n)) s rest r
  split-semicolon small i (splits v w e u le p t below within) = stopped-turn (stopped small g v w e u le p t below within) i

  semicolon-within : {X : List ℕ} {lo hi : ℕ} {κ : Kind} {s : State κ} {rest : Forest} {r : Step} {W'' : List ℕ} → length W < 2 ^ 32
      → SemicolonTo W' l' b n r W'' → SplitView W X lo hi l n κ s rest
      → Within W W'' X lo hi l
  semicolon-within small i (splits v w e u le p t below within) =
      let z = stopped-within (stopped small g v w e u le p t below within) i in
      record { kept = λ j f o. z.0 j f o ∙ g.same j (⊎_elim (λ x. inl (omega arith)) (λ x. inr x) o); long = z.1 ∙ g.long }

  pub turned-split-semicolon : {r : Step} {W'' : List ℕ} → SemicolonTo W' l' b n r W'' → Turned W (walk_of l (SplitAt n)) r W''
  turned-split-semicolon i =
      record {
        to = λ h. split-semicolon h.small i (split-view h.holds);
        within = λ h. semicolon-within h.small i (split-view h.holds);
      }
