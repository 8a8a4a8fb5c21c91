-- A minus or a not takes its operand: what `prefix`, `to_add` and `subtract` make of the list's trees, and the turn that each path of
-- `token` and `minus` is.
use Rattle.words.specs.Fields.{with_operator}
use Prim.Native.Nat.{ℕ, ◌+◌, ◌-◌, ◌^◌, ◌≤◌, ◌<◌}
use mathlib.Core.{Path.{◌≡◌, refl, sym, ap, ◌∙◌, subst}, Logic.{◌≢◌, ◌⊎◌, inl, inr, ⊎_elim}, Bool.{true, false, true≢false}}
use mathlib.Core.List.{List, [], ◌∷◌}
use native.Mathlib.{Omega.{arith}, Nat.{le_refl}}
use lib.ListN.{length, set}
use borrow.Author.Tests.{eq-eqb}
use Rattle.molang.specs.Operator
use Rattle.molang.specs.Operator.{operand, operator, minus, unknown, before_minus, any, is_one_of, is_query_or_loop, is_math_call}
use Rattle.molang.specs.Forest.{Token, Forest, nil, node, renamed, bare, count, size}
use Rattle.molang.specs.{Message.{fail, unknown_operation}, Free.{is_nil}}
use Rattle.molang.specs.Work.{right, unary_minus_and_not, work, from_right}
use Rattle.ops.specs.{Classes.{pass_classes, own_classes, in_class, bit_at}, Operators.{meant}, declared.BeforeMinus.{BeforeMinus as Before}}
use Rattle.ops.proofs.OperatorLaws.{agree_at}
use Rattle.nodes.specs.Store.{wd, slot_words, next_field, classes_field, slot_start, slot_end, first_word, classes_word, operator_word_at, first_at}
use Rattle.nodes.specs.{Store.{TokenAt, reserve, Out, RepT, Free}, Slots.{op_at, is_leaf_at, Made}, declared.frames.List.{List as Items}}
use Rattle.nodes.proofs.{Runs.{set_same, set_other, set_long}, Tokens.{token-keep, token-renamed, token-made}}
use Rattle.nodes.proofs.Store.{reserve-minus, noted-keep, tree-below, tree-out, tree-keep, back-le, rep-keep, links-keep}
use Rattle.nodes.proofs.Classes.{notes-leaf, notes-over, notes-below}
use Rattle.nodes.proofs.Trees.{one_out, tree-under, leaf-tree, leaf_first, attach-tree, attach-kept, leaf-test, tree-op}
use Rattle.nodes.proofs.Keeping.{laid_kept}
use Rattle.levels.specs.{Passes.{walk_of, moved_to, waits}, Items.{BackArray, Ahead}, Turns.{SameList, Within, TurnTo, goes, fails}}
use Rattle.levels.specs.declared.failure.Failure.TheVariants.{NegateWithoutOperand, NotWithoutOperand, UnknownOperation}
use Rattle.levels.specs.{declared.turns.Pass.TheVariants.{Unary}, declared.turns.Turn.{Turn}, declared.turns.Turn.TheVariants.{On}}
use Rattle.std.specs.Prelude.{Ok, Err}
use Rattle.levels.proofs.Reading.{AheadTo, item, ahead-item, ahead-end, array-put, back-array-keep, ahead-keep, ahead-le, same-within}
use Rattle.levels.specs.Failures
use Rattle.passes.specs.Unary.{RightList, CanTakeToken, CanTakeMinus, TokenTaken, CanPrefix, Prefixed, Added, CanSubtract, Subtracted}
use Rattle.passes.proofs.UnaryLaws.{minus-alone, minus-first, minus-operator, minus-operand, minus_minus, minus-unknown, not-alone}
use Rattle.passes.proofs.{UnaryLaws.{not-takes}, UnaryRight.{LastUnread, last, unread-last, unread-none, ahead-cons, right-holds}}

-- ---- `prefix`

-- The operator o at q stands over the first done tree, in the slots from a on.
data TakenUnder (W' X : List ℕ) (lo l a hi : ℕ) (v : Items) (o : Token) (rest : Forest) : Forest → Type 0 where
  under : {n : Token} {ns r : Forest} → RightList W' X lo l a hi v (node o (node n ns nil) r) rest
      → TakenUnder W' X lo l a hi v o rest (node n ns r)

prefix-long : {W W' : List ℕ} {at q : ℕ} → Prefixed W at q W' → length W' ≡ length W
prefix-long {W' = W'} {at = at} {q = q} w = set_long w.Z W' at q w.stored ∙ w.attached.long

module _ {W W' X : List ℕ} {lo l m hi a q : ℕ} {v : Items} {d rest : Forest} (list : RightList W X lo l m hi v d rest)
    (w : Prefixed W (v.base + v.write) q W')
    (out : Out q X) (low : l ≤ a) (own : a ≤ q) (high : q < m) (full : v.write < v.len) (gap : v.read ≤ v.write) where
  prefix-right : {o : Token} → TokenAt W q o → 0 < q → TakenUnder W' X lo l a hi v o rest d
  prefix-right {o} token pos = go (ahead-item (wd W (v.base + v.write)) refl full list.done)
    where
      go : {f : Forest} → AheadTo W X v.base v.write v.len m hi (wd W (v.base + v.write)) f
          → TakenUnder W' X lo l a hi v o rest f
      go (item {a = c} {m = e} {k = n} {cs = ns} {rest = r} from t more) =
          let at = v.base + v.write in
          let b = wd W at in
          let Z = w.Z in
          let stored = set_other Z W' at q w.stored in
          let below = list.below in
          let within = list.within in
          let eh = (ahead-le more).0 in
          let cb = t.low in
          let be = tree-below t in
          let long = prefix-long w in
          let beside : RepT W (q ∷ X) b c e n ns = tree-under q (inl (omega arith)) t in
          let taken : RepT Z X q a e o (node n ns nil) =
          attach-tree w.attached beside token pos out own (omega arith) (omega arith) (le_refl e) in
          let taken' : RepT W' X q a e o (node n ns nil) = tree-keep Z W' (λ s i x y z u j. stored (slot_start s + i) (omega arith)) taken in
          let slots : (s i : ℕ) → s < hi → i < slot_words → s ≢ q → s ≢ b → wd W' (slot_start s + i) ≡ wd W (slot_start s + i)
          =
          λ s i x y z u.
          stored (slot_start s + i) (omega arith) ∙ w.attached.same (slot_start s + i) (omega arith) (omega arith) (omega arith) in
          let words : (j : ℕ) → v.base ≤ j → j ≢ at → wd W' j ≡ wd W j
          = λ j x y. stored j y ∙ w.attached.same j (omega arith) (omega arith) (omega arith) in
          under
          (record {
            unread =
                back-array-keep W W' (λ s i x y z u. slots s i (omega arith) z (omega arith) (omega arith))
                (λ j x y. words j x (omega arith)) list.unread;
            done = ahead-cons (le_refl a) taken' (set_same Z W' at q w.stored (omega (arith, w.attached.long)))
                (ahead-keep W W' (λ s i x y z u. slots s i y z (omega arith) (omega arith))
                (λ j x y. words j (omega arith) (omega arith)) more);
            mid = low;
            below = below;
            within = rw long within;
            small = rw long list.small;
          })

  prefix-kept : (j : ℕ) → Free X lo hi j → j ≢ v.base + v.write → wd W' j ≡ wd W j
  prefix-kept j f n = go (ahead-item (wd W (v.base + v.write)) refl full list.done)
    where
      go : {f : Forest} → AheadTo W X v.base v.write v.len m hi (wd W (v.base + v.write)) f → wd W' j ≡ wd W j
      go (item {a = c} {m = e} {k = n'} {cs = ns} {rest = r} from t more) =
          let eh = (ahead-le more).0 in
          let ll = back-le list.unread.rep in
          let ce = tree-below t in
          let cb = t.low in
          let beside : RepT W (q ∷ X) (wd W (v.base + v.write)) c e n' ns = tree-under q (inl (omega arith)) t in
          set_other w.Z W' (v.base + v.write) q w.stored j n
          ∙ attach-kept w.attached beside out (omega arith) (omega arith) (omega arith) eh j f

-- ---- `to_add`

add-bits : (i : ℕ) → i < 32 → bit_at 0x40_0080 i ≡ in_class i Operator.add
unfolding bit_at in_class pass_classes own_classes is_one_of any is_query_or_loop is_math_call Operator.between
add-bits i h = agree_at (bit_at 0x40_0080) (λ j. in_class j Operator.add) 32 tt i h

added-token : {W W' : List ℕ} {s : ℕ} {k : Token} → Added W s W' → slot_end s ≤ length W → TokenAt W s k
    → TokenAt W' s (renamed Operator.add k)
added-token {W} {W'} {s} w room t =
    token-keep w.Z W' s (λ i h. w.same (slot_start s + i) (omega arith))
    (token-renamed W w.Z s Operator.add w.renamed room (omega arith) t)

added-same : {W W' : List ℕ} {s : ℕ} → Added W s W' → (j : ℕ) → j ≢ slot_start s → j ≢ classes_word s → wd W' j ≡ wd W j
added-same {W} {W'} {s} w j a b =
    w.same j b ∙ set_other W w.Z (slot_start s) (with_operator (operator_word_at W s) Operator.add) w.renamed j a

added-leaf : {W W' X : List ℕ} {s l m : ℕ} {k : Token} → Added W s W' → slot_end s ≤ length W → TokenAt W s k → first_at W s ≡ 0 → 0 < s
    → Out s X → l ≤ s → s < m
    → RepT W' X s l m (renamed Operator.add k) nil
unfolding renamed reserve
added-leaf {W} {W'} {X} {s} {l} {m} w room t none pos out low high =
    let leafy : is_leaf_at W s ≡ true = eq-eqb (first_at W s) 0 none in
    leaf-tree low (omega arith) pos (one_out s X out) (added-token w room t)
    (notes-leaf (λ i h. ap (λ (x : ℕ). bit_at x i) (w.leaf leafy) ∙ add-bits i h))
    (added-same w (first_word s) (omega arith) (omega arith) ∙ none)

-- a tree, leaf or not
added-tree : {W W' X : List ℕ} {s l m : ℕ} {k : Token} (ks : Forest) → Added W s W' → slot_end s ≤ length W → RepT W X s l m k ks
    → RepT W' X s l m (renamed Operator.add k) ks
unfolding reserve is_nil
added-tree nil w room t = added-leaf w room t.token (leaf_first t) t.pos (tree-out t) t.low (tree-below t)
added-tree {W} {W'} {X} {s} {l} {m} {k} (node c cs r) w room t =
    let inner = w.inner (leaf-test (node c cs r) t) in
    let below : (i o : ℕ) → i ≢ s → o < slot_words → wd W' (slot_start i + o) ≡ wd W (slot_start i + o) =
    λ i o e h. added-same w (slot_start i + o) (omega arith) (omega arith) in
    let first = added-same w (first_word s) (omega arith) (omega arith) in
    record {
      cs = t.cs;
      low = t.low;
      high = t.high;
      pos = t.pos;
      out = t.out;
      token = added-token w room t.token;
      noted = noted-keep inner (notes-over (renamed Operator.add k) (notes-below t.noted));
      chain = rw first (links-keep W W' (first_at W s) t.kids (λ i a b x. below i next_field x.0 (omega arith)) t.chain);
      kids = rep-keep W W' (λ i o a b h x y. below i o x.0 h) t.kids;
    }

-- ---- turns

same-list : (v : Items) (read write : ℕ) → SameList (walk_of v Unary) (walk_of (moved_to v read write) Unary)
same-list v read write = record { owner = refl; base = refl; len = refl; classes = refl }

-- the token has become part of what is done
turn_on : {W' X : List ℕ} {lo l m hi read write : ℕ} {v : Items} {d d' rest : Forest} {k : Token}
    → RightList W' X lo l m hi (moved_to v read write) d' rest → read ≤ write
    → from_right (right false d) (node k nil rest) ≡ from_right (right false d') rest
    → TurnTo unary_minus_and_not W' X lo hi (walk_of v Unary) (right false d) (node k nil rest)
    (Ok (On (walk_of (moved_to v read write) Unary)))
unfolding work count size waits
turn_on {read = read} {write = write} {v = v} r h e =
    goes (same-list v read write) (right-holds r h) e (omega arith) (omega arith) (omega arith)

-- words that are kept on both sides of the token keep the list
right-keep : (W W' : List ℕ) {X : List ℕ} {lo l m hi : ℕ} {v : Items} {d rest : Forest}
    → ((s o : ℕ) → (s < l) ⊎ (m ≤ s) → s < hi → o < slot_words → wd W' (slot_start s + o) ≡ wd W (slot_start s + o))
    → ((j : ℕ) → v.base ≤ j → (j < v.base + v.read) ⊎ (v.base + v.write ≤ j) → wd W' j ≡ wd W j) → length W' ≡ length W
    → RightList W X lo l m hi v d rest → RightList W' X lo l m hi v d rest
right-keep W W' slots words long r =
    let mid = r.mid in
    let high = (ahead-le r.done).0 in
    record {
      unread = back-array-keep W W' (λ s o x y z u. slots s o (inl y) (omega arith) z) (λ j x y. words j x (inl y)) r.unread;
      done = ahead-keep W W' (λ s o x y z u. slots s o (inr x) y z) (λ j x y. words j (omega arith) (inr x)) r.done;
      mid = mid;
      below = r.below;
      within = rw long r.within;
      small = rw long r.small;
    }

module _ {W : List ℕ} {v : Items} {b : ℕ} (g : CanTakeToken W v b) where
  -- its slot is below the stack
  pub token-slot : slot_end b ≤ v.base
  token-slot =
      let high = tree-below g.tree in
      let done = (ahead-le g.list.done).0 in
      omega (arith, g.list.below)

  pub token-room : (v.base ≤ length W) × (v.base + v.len ≤ length W) × (length W < 2 ^ 32)
  token-room = let within = g.list.within in (omega arith, within, g.list.small)

  -- so is that of the first done item
  pub done-slot : v.write < v.len → slot_end (wd W (v.base + v.write)) ≤ v.base
  done-slot full = go (ahead-item (wd W (v.base + v.write)) refl full g.list.done)
    where
      go : {f : Forest} → AheadTo W g.X v.base v.write v.len g.m g.hi (wd W (v.base + v.write)) f
          → slot_end (wd W (v.base + v.write)) ≤ v.base
      go (item from t more) = omega (arith, tree-below t, (ahead-le more).0, g.list.below)

  pub can-prefix : v.write < v.len → CanPrefix W v b
  can-prefix full =
      let own = token-slot in
      let first = done-slot full in
      let room = token-room in
      record { within = omega arith; own = omega arith; operand = omega arith }

  -- it takes the first done item
  pub prefix-turn : {W' : List ℕ} → Prefixed W (v.base + v.write) b W' → v.write < v.len
      → ((n : Token) (ns r : Forest) → from_right (right false (node n ns r)) (node g.k nil g.rest)
      ≡ from_right (right false (node g.k (node n ns nil) r)) g.rest)
      → TurnTo unary_minus_and_not W' g.X g.lo g.hi (walk_of v Unary) (right false g.d) (node g.k nil g.rest)
      (Ok (On (walk_of v Unary)))
  prefix-turn {W'} w full e =
      go
      (prefix-right g.list w (tree-out g.tree) (le_refl g.l) g.tree.low (tree-below g.tree) full behind g.tree.token
      g.tree.pos)
    where
      behind : v.read ≤ v.write
      behind = omega (arith, g.gap)

      go : {f : Forest} → TakenUnder W' g.X g.lo g.l g.l g.hi v g.k g.rest f
          → TurnTo unary_minus_and_not W' g.X g.lo g.hi (walk_of v Unary) (right false f) (node g.k nil g.rest)
          (Ok (On (walk_of v Unary)))
      go (under {n = n} {ns = ns} {r = r} list) = turn_on {read = v.read} {write = v.write} {v = v} list behind (e n ns r)

  pub prefix-within : {W' : List ℕ} → Prefixed W (v.base + v.write) b W' → v.write < v.len → Within W W' g.X g.lo g.hi v
  prefix-within w full =
      let behind : v.read ≤ v.write = omega (arith, g.gap) in
      record {
        kept = λ j f o.
            prefix-kept g.list w (tree-out g.tree) (le_refl g.l) g.tree.low (tree-below g.tree) full behind j f
            (⊎_elim (λ x. omega arith) (λ x. omega arith) o);
        long = prefix-long w;
      }

  -- with nothing after it
  pub alone : v.write ≡ v.len → g.d ≡ nil
  alone e = ahead-end g.d (omega arith) g.list.done

  -- what is done is not empty
  first_done : v.write < v.len → (Q : Forest → Type 0) → ((n : Token) (ns r : Forest) → Q (node n ns r)) → Q g.d
  first_done full Q f = go (ahead-item (wd W (v.base + v.write)) refl full g.list.done)
    where
      go : {h : Forest} → AheadTo W g.X v.base v.write v.len g.m g.hi (wd W (v.base + v.write)) h → Q h
      go (item {k = n} {cs = ns} {rest = r} from t more) = f n ns r

  -- a token without an operand
  pub negate-fails : g.k.op ≡ Operator.negate → v.write ≡ v.len
      → TurnTo unary_minus_and_not W g.X g.lo g.hi (walk_of v Unary) (right false g.d) (node g.k nil g.rest)
      (Err (NegateWithoutOperand b))
  unfolding work
  negate-fails m e =
      fails (Failures.negate_without_operand g.tree.token)
      (ap (λ (f : Forest). from_right (right false f) (node g.k nil g.rest)) (alone e) ∙ minus-alone g.k m g.rest)

  pub not-fails : (g.k.op ≡ Operator.negate → ⊥) → v.write ≡ v.len
      → TurnTo unary_minus_and_not W g.X g.lo g.hi (walk_of v Unary) (right false g.d) (node g.k nil g.rest)
      (Err (NotWithoutOperand b))
  unfolding work
  not-fails m e =
      fails (Failures.not_without_operand g.tree.token)
      (ap (λ (f : Forest). from_right (right false f) (node g.k nil g.rest)) (alone e) ∙ not-alone g.k g.prefix m g.rest)

  pub not-turn : {W' : List ℕ} → (g.k.op ≡ Operator.negate → ⊥) → Prefixed W (v.base + v.write) b W' → v.write < v.len
      → TurnTo unary_minus_and_not W' g.X g.lo g.hi (walk_of v Unary) (right false g.d) (node g.k nil g.rest)
      (Ok (On (walk_of v Unary)))
  not-turn m w full = prefix-turn w full (λ n ns r. not-takes g.k g.prefix m n ns r g.rest)

  -- ---- a minus

  module _ (m : g.k.op ≡ Operator.negate) (full : v.write < v.len) where
    -- at the start
    pub first-turn : {W' : List ℕ} → Prefixed W (v.base + v.write) b W' → v.read ≡ 0
        → TurnTo unary_minus_and_not W' g.X g.lo g.hi (walk_of v Unary) (right false g.d) (node g.k nil g.rest)
        (Ok (On (walk_of v Unary)))
    first-turn w e =
        prefix-turn w full
        (λ n ns r.
        subst
        (λ (f : Forest). from_right (right false (node n ns r)) (node g.k nil f) ≡ from_right
        (right false (node g.k (node n ns nil) r)) f)
        (sym (unread-none g.rest g.list.unread e)) (minus-first g.k m n ns r))

    module _ (z : 0 < v.read) where
      previous : ℕ
      previous = wd W (v.base + (v.read - 1))

      -- what stands before it
      with-last : (Q : Forest → Type 0)
          → ((p : Token) (ps left : Forest) (a c : ℕ) → RepT W g.X (wd W (v.base + (v.read - 1))) a c p ps → c ≤ g.l
          → BackArray W g.X v.base (v.read - 1) g.lo a left → Q (node p ps left)) → Q g.rest
      with-last Q f = go (unread-last g.list.unread z)
        where
          go : {h : Forest} → LastUnread W g.X v.base v.read g.lo g.l h → Q h
          go (last {a = a} {c = c} {p = p} {ps = ps} {left = left} t h r) = f p ps left a c t h r

      pub last-slot : slot_end (wd W (v.base + (v.read - 1))) ≤ v.base
      last-slot =
          with-last (λ f. slot_end (wd W (v.base + (v.read - 1))) ≤ v.base)
          (λ p ps left a c t h r. omega (arith, tree-below t, g.list.mid, (ahead-le g.list.done).0, g.list.below))

      pub operator-turn : {W' : List ℕ} → Prefixed W (v.base + v.write) b W'
          → before_minus (op_at W (wd W (v.base + (v.read - 1)))) ≡ operator
          → TurnTo unary_minus_and_not W' g.X g.lo g.hi (walk_of v Unary) (right false g.d) (node g.k nil g.rest)
          (Ok (On (walk_of v Unary)))
      operator-turn w e =
          prefix-turn w full
          (λ n ns r.
          with-last
          (λ f. from_right (right false (node n ns r)) (node g.k nil f) ≡ from_right (right false (node g.k (node n ns nil) r)) f)
          (λ p ps left a c t h s. minus-operator g.k m n ns r p ps left (ap before_minus (sym (tree-op t)) ∙ e)))

      pub unknown-fails : before_minus (op_at W (wd W (v.base + (v.read - 1)))) ≡ unknown
          → TurnTo unary_minus_and_not W g.X g.lo g.hi (walk_of v Unary) (right false g.d) (node g.k nil g.rest)
          (Err (UnknownOperation b (wd W (v.base + (v.read - 1)))))
      unfolding work
      unknown-fails e =
          with-last
          (λ f. TurnTo unary_minus_and_not W g.X g.lo g.hi (walk_of v Unary) (right false g.d) (node g.k nil f)
          (Err (UnknownOperation b (wd W (v.base + (v.read - 1))))))
          (λ p ps left a c t h s.
          fails (Failures.unknown_operation g.tree.token t.token)
          (first_done full (λ f. from_right (right false f) (node g.k nil (node p ps left)) ≡ fail (unknown_operation g.k p ∷ []))
          (λ n ns r. minus-unknown g.k m n ns r p ps left (ap before_minus (sym (tree-op t)) ∙ e))))

      -- after a minus, which becomes `+`
      pub minus-turn : {W' : List ℕ} → Added W (wd W (v.base + (v.read - 1))) W'
          → before_minus (op_at W (wd W (v.base + (v.read - 1)))) ≡ minus
          → TurnTo unary_minus_and_not W' g.X g.lo g.hi (walk_of v Unary) (right false g.d) (node g.k nil g.rest)
          (Ok (On (walk_of v Unary)))
      unfolding work count size waits
      minus-turn {W'} w e =
          with-last
          (λ f. TurnTo unary_minus_and_not W' g.X g.lo g.hi (walk_of v Unary) (right false g.d) (node g.k nil f)
          (Ok (On (walk_of v Unary))))
          (λ p ps left a c t h s.
          goes (same-list v v.read v.write) (right-holds (renamed-last p ps left t h s w) (omega (arith, g.gap)))
          (first_done full (λ f. from_right (right false f) (node g.k nil (node p ps left)) ≡ from_right (right false f)
          (node (renamed Operator.add p) ps left))
          (λ n ns r. minus_minus g.k m n ns r p ps left (ap before_minus (sym (tree-op t)) ∙ e)))
          (omega arith) (omega arith) (omega arith))
        where
          renamed-last : (p : Token) (ps left : Forest) {a c : ℕ} → RepT W g.X (wd W (v.base + (v.read - 1))) a c p ps → c ≤ g.l
              → BackArray W g.X v.base (v.read - 1) g.lo a left → Added W (wd W (v.base + (v.read - 1))) W'
              → RightList W' g.X g.lo g.l g.m g.hi v g.d (node (renamed Operator.add p) ps left)
          renamed-last p ps left {a} {c} t h s w =
              let b' = wd W (v.base + (v.read - 1)) in
              let low = t.low in
              let high = tree-below t in
              let mid = g.list.mid in
              let top = (ahead-le g.list.done).0 in
              let below = g.list.below in
              let room = g.list.within in
              let own = last-slot in
              let fits : slot_end b' ≤ length W = omega (arith, token-room) in
              let slots : (x o : ℕ) → x ≢ b' → o < slot_words → wd W' (slot_start x + o) ≡ wd W (slot_start x + o) =
              λ x o n i. added-same w (slot_start x + o) (omega arith) (omega arith) in
              let words : (j : ℕ) → v.base ≤ j → wd W' j ≡ wd W j = λ j i. added-same w j (omega arith) (omega arith) in
              let s' = back-array-keep W W' (λ x o i n y z. slots x o (omega arith) y) (λ j i n. words j i) s in
              let t' = added-tree ps w fits t in
              let more : BackArray W' g.X v.base (v.read - 1 + 1) g.lo g.l (node (renamed Operator.add p) ps left)
              = array-put W' W' s' t' (le_refl a) h (λ x o i n y z. refl) (λ j i n. refl) (words (v.base + (v.read - 1)) (omega arith)) in
              let all : v.read - 1 + 1 ≡ v.read = omega arith in
              record {
                unread = subst (λ (i : ℕ). BackArray W' g.X v.base i g.lo g.l (node (renamed Operator.add p) ps left)) all more;
                done = ahead-keep W W' (λ x o i n y z. slots x o (omega arith) y) (λ j i n. words j (omega arith)) g.list.done;
                mid = mid;
                below = below;
                within = rw w.long room;
                small = rw w.long g.list.small;
              }

      pub minus-within : {W' : List ℕ} → Added W (wd W (v.base + (v.read - 1))) W' → Within W W' g.X g.lo g.hi v
      minus-within {W'} w =
          with-last (λ f. Within W W' g.X g.lo g.hi v)
          (λ p ps left a c t h s.
          let b' = wd W (v.base + (v.read - 1)) in
          let low : g.lo ≤ b' = omega (arith, t.low, back-le s.rep) in
          let high : b' < g.hi = omega (arith, tree-below t, g.list.mid, (ahead-le g.list.done).0) in
          record {
            kept =
                λ j f o.
                added-same w j (λ e. f b' 0 low high (omega arith) (tree-out t) (omega arith))
                (f b' 7 low high (omega arith) (tree-out t));
            long = w.long;
          })

  -- after an operand: `+`, and the first done item under a new minus in the next slot, which the token kept free
  module _ (m : g.k.op ≡ Operator.negate) (full : v.write < v.len) where
    spare-in : b + 2 ≤ g.m
    spare-in = let two = reserve-minus g.k m in omega (arith, g.tree.high)

    spare-out : Out (b + 1) g.X
    spare-out = let two = reserve-minus g.k m in g.tree.out (b + 1) (omega arith) (omega arith)

    pub can-subtract : CanSubtract W v b
    can-subtract =
        let spare = spare-in in
        let top = (ahead-le g.list.done).0 in
        let below = g.list.below in
        let first = done-slot full in
        let room = token-room in
        record { room = omega (arith, g.gap); within = omega arith; own = omega arith; operand = omega arith; small = g.list.small }

    module _ {W' : List ℕ} {r : Items} (w : Subtracted W v b r W') where
      made_list : RightList w.W1 g.X g.lo g.l g.m g.hi v g.d g.rest
      made_list =
          let spare = spare-in in
          let low = g.tree.low in
          let top = (ahead-le g.list.done).0 in
          let below = g.list.below in
          right-keep W w.W1
          (λ s o e h i. w.made.same (slot_start s + o) (⊎_elim (λ x. inl (omega arith)) (λ x. inr (omega arith)) e))
          (λ j h e. w.made.same j (inr (omega arith))) w.made.long g.list

      own-words : (o : ℕ) → o < slot_words → wd w.W2 (slot_start b + o) ≡ wd W (slot_start b + o)
      own-words o h =
          let spare = spare-in in
          let top = (ahead-le g.list.done).0 in
          let below = g.list.below in
          go (ahead-item (wd w.W1 (v.base + v.write)) refl full made_list.done)
        where
          go : {f : Forest} → AheadTo w.W1 g.X v.base v.write v.len g.m g.hi (wd w.W1 (v.base + v.write)) f
              → wd w.W2 (slot_start b + o) ≡ wd W (slot_start b + o)
          go (item from t more) =
              let spare = spare-in in
              let top = (ahead-le g.list.done).0 in
              let below = g.list.below in
              let low = t.low in
              set_other w.prefixed.Z w.W2 (v.base + v.write) (b + 1) w.prefixed.stored (slot_start b + o) (omega arith)
              ∙ w.prefixed.attached.same (slot_start b + o) (omega arith) (omega arith) (omega arith)
              ∙ w.made.same (slot_start b + o) (inl (omega arith))

      added-list : {n : Token} {ns s : Forest}
          → RightList w.W2 g.X g.lo g.l (b + 1) g.hi v (node (bare Operator.negate g.k) (node n ns nil) s) g.rest
          → RightList W' g.X g.lo g.l g.l g.hi (moved_to v v.read (v.write - 1))
          (node (renamed Operator.add g.k) nil (node (bare Operator.negate g.k) (node n ns nil) s)) g.rest
      added-list {n} {ns} {s} list2 =
          let low = g.tree.low in
          let spare = spare-in in
          let top = (ahead-le g.list.done).0 in
          let below = g.list.below in
          let gap = g.gap in
          let long : length w.W2 ≡ length W = prefix-long w.prefixed ∙ w.made.long in
          let room = token-room in
          let at = v.base + (v.write - 1) in
          let list3 = right-keep w.W2 w.W3
          (λ x o e h i. ⊎_elim (λ y. added-same w.added (slot_start x + o) (omega arith) (omega arith))
          (λ y. added-same w.added (slot_start x + o) (omega arith) (omega arith)) e)
          (λ j h e. added-same w.added j (omega arith) (omega arith)) w.added.long list2 in
          let long3 = w.added.long in
          let other = set_other w.W3 W' at b w.stored in
          let list4 =
          right-keep w.W3 W' (λ x o e h i. other (slot_start x + o) (omega arith))
          (λ j h e. other j (⊎_elim (λ y. omega arith) (λ y. omega arith) e)) (set_long w.W3 W' at b w.stored) list3 in
          let plus3 : RepT w.W3 g.X b g.l (b + 1) (renamed Operator.add g.k) nil
          =
          added-leaf w.added (omega arith) (token-keep W w.W2 b (λ o h. own-words o (omega arith)) g.tree.token)
          (own-words 5 (omega arith) ∙ leaf_first g.tree) g.tree.pos (tree-out g.tree) low (omega arith) in
          let plus4 : RepT W' g.X b g.l (b + 1) (renamed Operator.add g.k) nil =
          tree-keep w.W3 W' (λ x o i h y z q. other (slot_start x + o) (omega arith)) plus3 in
          let next : v.write ≡ v.write - 1 + 1 = omega arith in
          record {
            unread = list4.unread;
            done = ahead-cons (le_refl g.l) plus4 (set_same w.W3 W' at b w.stored (omega arith))
                (subst (λ (i : ℕ). Ahead W' g.X v.base i v.len (b + 1) g.hi
                (node (bare Operator.negate g.k) (node n ns nil) s)) next list4.done);
            mid = le_refl g.l;
            below = below;
            within = list4.within;
            small = list4.small;
          }

      pub subtract-turn : (z : 0 < v.read) → before_minus (op_at W (wd W (v.base + (v.read - 1)))) ≡ operand
          → TurnTo unary_minus_and_not W' g.X g.lo g.hi (walk_of v Unary) (right false g.d) (node g.k nil g.rest)
          (Ok (On (walk_of (moved_to v v.read (v.write - 1)) Unary)))
      subtract-turn z e =
          let low = g.tree.low in
          go
          (prefix-right made_list w.prefixed spare-out (omega arith) (le_refl (b + 1)) (omega (arith, spare-in)) full
          (omega (arith, g.gap))
          (token-made w.made (omega arith) g.tree.token) (omega arith))
        where
          go : {f : Forest} → TakenUnder w.W2 g.X g.lo g.l (b + 1) g.hi v (bare Operator.negate g.k) g.rest f
              → TurnTo unary_minus_and_not W' g.X g.lo g.hi (walk_of v Unary) (right false f) (node g.k nil g.rest)
              (Ok (On (walk_of (moved_to v v.read (v.write - 1)) Unary)))
          go (under {n = n} {ns = ns} {r = s} list2) =
              turn_on {v = v} (added-list list2) (omega (arith, g.gap))
              (with-last m full z
              (λ f. from_right (right false (node n ns s)) (node g.k nil f)
              ≡ from_right (right false (node (renamed Operator.add g.k) nil (node (bare Operator.negate g.k) (node n ns nil) s))) f)
              (λ p ps left a c t h q. minus-operand g.k m n ns s p ps left (ap before_minus (sym (tree-op t)) ∙ e)))

      pub subtract-within : Within W W' g.X g.lo g.hi v
      subtract-within =
          let low = g.tree.low in
          let ll = back-le g.list.unread.rep in
          let spare = spare-in in
          let top = (ahead-le g.list.done).0 in
          let gap = g.gap in
          let at = v.base + (v.write - 1) in
          record {
            kept = λ j f o.
                set_other w.W3 W' at b w.stored j (⊎_elim (λ x. omega arith) (λ x. omega arith) o)
                ∙ added-same w.added j (λ e. f b 0 (omega arith) (omega arith) (omega arith) (tree-out g.tree) (omega arith))
                (f b classes_field (omega arith) (omega arith) (omega arith) (tree-out g.tree))
                ∙ prefix-kept made_list w.prefixed spare-out (omega arith) (le_refl (b + 1)) (omega arith) full (omega arith) j f
                (⊎_elim (λ x. omega arith) (λ x. omega arith) o)
                ∙ laid_kept g.X g.lo g.hi w.made (omega arith) (omega arith) spare-out j f;
            long = set_long w.W3 W' at b w.stored ∙ w.added.long ∙ prefix-long w.prefixed ∙ w.made.long;
          }

-- ---- what the functions ensure

pub added-leaf-words : (W Z W' : List ℕ) (s : ℕ) → slot_end s ≤ length W → is_leaf_at W s ≡ true
    → Z ≡ set W (slot_start s) (with_operator (operator_word_at W s) Operator.add)
    → W' ≡ set Z (classes_word s) 0x40_0080 → Added W s W'
added-leaf-words W Z W' s room leafy ez ew =
    let long = set_long W Z (slot_start s) (with_operator (operator_word_at W s) Operator.add) ez in
    record {
      Z = Z;
      renamed = ez;
      leaf = λ e. set_same Z W' (classes_word s) 0x40_0080 ew (omega arith);
      inner = λ e. absurd (true≢false (sym leafy ∙ e));
      same = set_other Z W' (classes_word s) 0x40_0080 ew;
      long = set_long Z W' (classes_word s) 0x40_0080 ew ∙ long;
    }

pub added-inner-words : (W W' : List ℕ) (s : ℕ) → is_leaf_at W s ≡ false
    → W' ≡ set W (slot_start s) (with_operator (operator_word_at W s) Operator.add) → Added W s W'
added-inner-words W W' s leafy ew =
    let v = with_operator (operator_word_at W s) Operator.add in
    record {
      Z = W';
      renamed = ew;
      leaf = λ e. absurd (true≢false (sym e ∙ leafy));
      inner = λ e. set_other W W' (slot_start s) v ew (classes_word s) (omega arith);
      same = λ j n. refl;
      long = set_long W W' (slot_start s) v ew;
    }

pub prefix-made : {W W1 : List ℕ} {v : Items} {b q : ℕ} → CanSubtract W v b → q ≡ b + 1 → Made W q Operator.negate b W1 → CanPrefix W1 v q
prefix-made {W} {W1} {v} {b} {q} g e made =
    let own = g.own in
    let within = g.within in
    let operand = g.operand in
    let long = made.long in
    let same : wd W1 (v.base + v.write) ≡ wd W (v.base + v.write) = made.same (v.base + v.write) (inr (omega arith)) in
    record { within = omega arith; own = omega arith; operand = omega arith }

pub subtracted : {W W' W1 W2 W3 : List ℕ} {v r : Items} {b q : ℕ} → q ≡ b + 1 → Made W q Operator.negate b W1
    → Prefixed W1 (v.base + v.write) q W2 → Added W2 b W3
    → W' ≡ set W3 (v.base + (v.write - 1)) b → r ≡ moved_to v v.read (v.write - 1) → Subtracted W v b r W'
subtracted {W} {W1 = W1} {W2} {W3} {v} {b = b} e made prefixed added stored list =
    record {
      W1 = W1;
      W2 = W2;
      W3 = W3;
      made = subst (λ (x : ℕ). Made W x Operator.negate b W1) e made;
      prefixed = subst (λ (x : ℕ). Prefixed W1 (v.base + v.write) x W2) e prefixed;
      added = added;
      stored = stored;
      list = list;
    }

-- the code's word for what stands before a minus
pub what-before : {o p : ℕ} {r t : Before} → meant r ≡ before_minus o → o ≡ p → r ≡ t → before_minus p ≡ meant t
what-before e h q = ap before_minus (sym h) ∙ sym e ∙ ap meant q

is-minus : {W : List ℕ} {v : Items} {b : ℕ} → CanTakeMinus W v b → (g : CanTakeToken W v b) → g.k.op ≡ Operator.negate
is-minus c g = sym (tree-op g.tree) ∙ c.is_minus

pub previous-slot : {W : List ℕ} {v : Items} {b : ℕ} → CanTakeMinus W v b → 0 < v.read
    → slot_end (wd W (v.base + (v.read - 1))) ≤ length W
previous-slot c z = let own = last-slot c.token (is-minus c c.token) c.full z in omega (arith, token-room c.token)

module _ {W W' : List ℕ} {v : Items} {b : ℕ} {t : Turn} (c : CanTakeMinus W v b) where
  pub taken-first : v.read ≡ 0 → Prefixed W (v.base + v.write) b W' → t ≡ On (walk_of v Unary) → TokenTaken W v b (Ok t) W'
  taken-first e w h = rw h (record { to = λ g. first-turn g (is-minus c g) c.full w e; within = λ g. prefix-within g w c.full })

  module _ (z : 0 < v.read) where
    pub taken-operator : before_minus (op_at W (wd W (v.base + (v.read - 1)))) ≡ operator → Prefixed W (v.base + v.write) b W'
        → t ≡ On (walk_of v Unary) → TokenTaken W v b (Ok t) W'
    taken-operator e w h =
        rw h (record { to = λ g. operator-turn g (is-minus c g) c.full z w e; within = λ g. prefix-within g w c.full })

    pub taken-operand : (r : Items) → before_minus (op_at W (wd W (v.base + (v.read - 1)))) ≡ operand → Subtracted W v b r W'
        → t ≡ On (walk_of r Unary) → TokenTaken W v b (Ok t) W'
    taken-operand r e w h =
        rw (h, w.list)
        (record { to = λ g. subtract-turn g (is-minus c g) c.full w z e; within = λ g. subtract-within g (is-minus c g) c.full w })

    pub taken-minus : before_minus (op_at W (wd W (v.base + (v.read - 1)))) ≡ minus → Added W (wd W (v.base + (v.read - 1))) W'
        → t ≡ On (walk_of v Unary) → TokenTaken W v b (Ok t) W'
    taken-minus e w h =
        rw h (record { to = λ g. minus-turn g (is-minus c g) c.full z w e; within = λ g. minus-within g (is-minus c g) c.full z w })

pub taken-unknown : {W : List ℕ} {v : Items} {b : ℕ} → CanTakeMinus W v b → 0 < v.read
    → before_minus (op_at W (wd W (v.base + (v.read - 1)))) ≡ unknown
    → TokenTaken W v b (Err (UnknownOperation b (wd W (v.base + (v.read - 1))))) W
taken-unknown {W} {v} c z e =
    record { to = λ g. unknown-fails g (is-minus c g) c.full z e; within = λ g. same-within }

module _ {W : List ℕ} {v : Items} {b : ℕ} where
  pub taken-negate-alone : op_at W b ≡ Operator.negate → v.write ≡ v.len → TokenTaken W v b (Err (NegateWithoutOperand b)) W
  taken-negate-alone m e =
      record { to = λ g. negate-fails g (sym (tree-op g.tree) ∙ m) e; within = λ g. same-within }

  module _ (m : op_at W b ≡ Operator.negate → ⊥) where
    pub taken-not-alone : v.write ≡ v.len → TokenTaken W v b (Err (NotWithoutOperand b)) W
    taken-not-alone e =
        record { to = λ g. not-fails g (λ h. m (tree-op g.tree ∙ h)) e; within = λ g. same-within }

    pub taken_not : {W' : List ℕ} {t : Turn} → v.write < v.len → Prefixed W (v.base + v.write) b W' → t ≡ On (walk_of v Unary)
        → TokenTaken W v b (Ok t) W'
    taken_not full w h =
        rw h (record { to = λ g. not-turn g (λ h. m (tree-op g.tree ∙ h)) w full; within = λ g. prefix-within g w full })

pub read_some : {n : ℕ} → (n ≡ 0 → ⊥) → 0 < n
read_some h = omega arith

pub operand-some : {W : List ℕ} {v : Items} {b : ℕ} → CanTakeToken W v b → (v.write ≡ v.len → ⊥) → v.write < v.len
operand-some g h = let count = (ahead-le g.list.done).1 in omega arith

pub token-within : {W : List ℕ} {v : Items} {b : ℕ} → CanTakeToken W v b → slot_end b ≤ length W
token-within g = let own = token-slot g in omega (arith, token-room g)

pub minus-subtract : {W : List ℕ} {v : Items} {b : ℕ} → CanTakeMinus W v b → CanSubtract W v b
minus-subtract c = can-subtract c.token (is-minus c c.token) c.full
