-- THE SECOND WALK. The Rust goes through a left side again exactly if it has marked it as one that holds unfolded operators (specs/Marked);
-- the definition fails at its first such leaf. Both give the same of every list: after a level its operator leaves stand only as last child
-- of its operator nodes, a tree is marked exactly if it holds one, and a walk over its children ends in message 12 at the first of them.
use Prim.Native.Nat.{ℕ, zero, suc}
use mathlib.Core.{Path.{◌≡◌, refl, sym, ap, ◌∙◌}, Bool.{Bool, true, false, ◌&&◌, ◌||◌, not, true≢false, false≢true, or-false}, List.{List, [], ◌∷◌}}
use mathlib.Core.Option.{Option, none, some}
use borrow.Author.Tests.{not-true}
use Rattle.molang.specs.{Operator.{is_one_of}, Forest.{Token, Forest, nil, node, turned_onto, in_order}}
use Rattle.molang.specs.Message.{binary_at_end, Result, ok, fail}
use Rattle.molang.specs.Level.{Step, walk, through, Gathered, gathered, waiting, nothing}
use Rattle.molang.specs.Binary.{first_leaf, unfolded, joined, operator_after, binary_step, binary_resume, binary_finish, binary_level}
use Rattle.molang.specs.{Free.{free, is_nil}, Marked.{MarkedResult, given, told, without_mark, is_any_marked, left_again, walk_marked, through_marked}}
use Rattle.molang.proofs.Trees.{decided, maybe, some-none, and-true-true, free-leaf, free-tree}
use Rattle.molang.proofs.Walks.{failed, fine, Ends, Onward, stops, goes, enters, Keeps, back, walk-keeps}
use Rattle.molang.proofs.{Weight.{is_nil-in_order}, Binary.{full-joined}}

first-of-two : {A : Type 0} (o x : Option A) → ◌≡◌ {A = Option A} (elim o [ some t ↦ some t | none ↦ x ]) none → (o ≡ none) × (x ≡ none)
first-of-two none x h = (refl, h)
first-of-two (some t) x h = some-none h

module _ (ops : List ℕ) where
  -- A list after the level: an operator leaf stands last, with something before it (`true`: something stands before the list).
  pub data Late : Bool → Forest → Type 0 where
    over : {b : Bool} → Late b nil
    leaf_then : {b : Bool} {k : Token} {rest : Forest} → is_one_of ops k.op ≡ false → Late true rest → Late b (node k nil rest)
    lastly : {k : Token} → is_one_of ops k.op ≡ true → Late true (node k nil nil)
    tree_then : {b : Bool} {k c : Token} {cs r rest : Forest} → Late false (node c cs r) → Late true rest
        → Late b (node k (node c cs r) rest)

  -- A list that the level itself gives: it holds no operator leaf of its own.
  pub data Kept : Forest → Type 0 where
    empty : Kept nil
    leaf_first : {k : Token} {rest : Forest} → is_one_of ops k.op ≡ false → Kept rest → Kept (node k nil rest)
    tree_first : {k c : Token} {cs r rest : Forest} → Late false (node c cs r) → Kept rest → Kept (node k (node c cs r) rest)

  kept-late : {b : Bool} {f : Forest} → Kept f → Late b f
  kept-late empty = over
  kept-late (leaf_first e h) = leaf_then e (kept-late h)
  kept-late (tree_first c h) = tree_then c (kept-late h)

  kept-turned : {d f : Forest} → Kept d → Kept f → Kept (turned_onto d f)
  unfolding turned_onto
  kept-turned empty h = h
  kept-turned (leaf_first e d) h = kept-turned d (leaf_first e h)
  kept-turned (tree_first c d) h = kept-turned d (tree_first c h)

  -- ---- A walk over a list that the level gave: it folds nothing, so it goes through no left side again.

  unfoldable at_first : Option Token → Forest → Bool → MarkedResult
  at_first none f mark = given f mark
  at_first (some t) f mark = told (binary_at_end t ∷ [])

  module _ (second : Forest → MarkedResult) where
    tree-late : (o : Option Token) (d : Forest) (marks : List Bool) (k c : Token) (cs r rest : Forest) → first_leaf ops (node c cs r) ≡ o
        → walk_marked ops second (gathered nil) [] (node c cs r) ≡ at_first (first_leaf ops (node c cs r)) (node c cs r) false
        → walk_marked ops second (gathered (node k (node c cs r) d)) (false ∷ marks) rest
        ≡ at_first (first_leaf ops rest) (turned_onto (node k (node c cs r) d) rest) (is_any_marked marks)
        → walk_marked ops second (gathered d) marks (node k (node c cs r) rest)
        ≡ at_first (first_leaf ops (node k (node c cs r) rest)) (turned_onto (node k (node c cs r) d) rest) (is_any_marked marks)
    unfolding walk_marked first_leaf at_first is_nil
    tree-late none d marks k c cs r rest e below later = rw (e, first_leaf) (rw (rw e at below, walk_marked) later)
    tree-late (some t) d marks k c cs r rest e below later = rw (e, first_leaf) (rw (rw e at below, walk_marked) refl)

    walk-late : {b : Bool} {f : Forest} (d : Forest) (marks : List Bool) → Late b f → (b ≡ true → is_nil d ≡ false)
        → walk_marked ops second (gathered d) marks f ≡ at_first (first_leaf ops f) (turned_onto d f) (is_any_marked marks)
    unfolding walk_marked first_leaf at_first turned_onto in_order is_nil is_any_marked
    walk-late d marks over n = refl
    walk-late d marks (leaf_then {k = k} {rest = rest} e h) n =
        rw (e, walk_marked) (rw (e, first_leaf) (walk-late (node k nil d) (false ∷ marks) h (λ t. refl)))
    walk-late d marks (lastly {k = k} e) n = rw (e, walk_marked) (rw (n refl, walk_marked) (rw (e, first_leaf) refl))
    walk-late d marks (tree_then {k = k} {c = c} {cs = cs} {r = r} {rest = rest} below later) n =
        tree-late (first_leaf ops (node c cs r)) d marks k c cs r rest refl (walk-late nil [] below (λ t. absurd (false≢true t)))
        (walk-late (node k (node c cs r) d) (false ∷ marks) later (λ t. refl))

  -- The operands of an operator: the left one is no operator leaf, the right one may be.
  late-operand : (b : Bool) (k : Token) → is_one_of ops k.op ≡ b → Late true (node k nil nil)
  late-operand true k e = lastly e
  late-operand false k e = leaf_then e over

  late-right : (k : Token) (kids : Forest) → Kept kids → Late true (node k kids nil)
  late-right k nil h = late-operand (is_one_of ops k.op) k refl
  late-right k (node c cs r) h = tree_then (kept-late h) over

  kept-joined : (d : Forest) (q k : Token) (kids : Forest) → Kept d → is_nil d ≡ false → Late true (node k kids nil)
      → Kept (joined d q k kids)
  unfolding joined is_nil
  kept-joined nil q k kids h n r = absurd (true≢false n)
  kept-joined (node l nil d) q k kids (leaf_first e h) n r = tree_first (leaf_then e r) h
  kept-joined (node l (node x xs y) d) q k kids (tree_first c h) n r = tree_first (tree_then c r) h

  kept-node : (d : Forest) (k : Token) (kids : Forest) → Kept d → Kept kids → is_nil kids ≡ false → Kept (node k kids d)
  unfolding is_nil
  kept-node d k nil h w e = absurd (true≢false e)
  kept-node d k (node c cs r) h w e = tree_first (kept-late w) h

  abbrev GoodKept : Unit {0} → Forest → Type 0
  GoodKept n g = Kept g

  abbrev KeptState : Gathered → Type 0
  KeptState (gathered d) = Kept d
  KeptState (waiting d q) = Kept d × (is_nil d ≡ false)

  abbrev KeptFits : Gathered → Forest → Unit {0} → Type 0
  KeptFits s f n = KeptState s

  abbrev kept_full : Gathered → Bool
  kept_full (gathered d) = not (is_nil d)
  kept_full (waiting d q) = true

  abbrev KeptOnward : Token → Forest → Forest → Step Gathered → Type 0
  KeptOnward k cs rest = Onward GoodKept (binary_level ops) KeptFits kept_full k cs rest tt

  kept-steps : (s : Gathered) (k : Token) (cs rest : Forest) (n : Unit {0}) → KeptState s → KeptOnward k cs rest (binary_step ops s k cs)
  unfolding binary_level binary_step binary_resume operator_after is_nil
  kept-steps (gathered nil) k nil rest n h =
      decided (KeptOnward k nil rest) (is_one_of ops k.op) _ _ (λ e. stops refl)
      (λ e. goes {t = gathered (node k nil nil)} (leaf_first e h) refl)
  kept-steps (gathered (node l ls d)) k nil rest n h =
      decided (KeptOnward k nil rest) (is_one_of ops k.op) _ _ (λ e. goes {t = waiting (node l ls d) k} (h, refl) refl)
      (λ e. goes {t = gathered (node k nil (node l ls d))} (leaf_first e h) refl)
  kept-steps (gathered d) k (node c cs r) rest n h =
      enters {t = gathered d} {u = gathered nil} tt empty refl λ kids w e. (kept-node d k kids h w e, refl)
  kept-steps (waiting d q) k nil rest n h =
      maybe (KeptOnward k nil rest) (unfolded ops d) _ _ (λ t. stops refl)
      (goes {t = gathered (joined d q k nil)} (kept-joined d q k nil h.0 h.1 (late-right k nil empty)) (rw full-joined refl))
  kept-steps (waiting d q) k (node c cs r) rest n h =
      maybe (KeptOnward k (node c cs r) rest) (unfolded ops d) _ _ (λ t. stops refl)
      (enters {t = waiting d q} {u = gathered nil} tt empty refl λ kids w e.
      (kept-joined d q k kids h.0 h.1 (late-right k kids w), rw full-joined refl))

  kept-ends : (s : Gathered) (n : Unit {0}) → KeptState s → Ends GoodKept n (kept_full s) (binary_finish s)
  unfolding binary_finish in_order
  kept-ends (gathered d) n h = fine {g = in_order d} (kept-turned h empty, λ e. is_nil-in_order d (not-true (is_nil d) e))
  kept-ends (waiting d q) n h = failed refl

  binary-kept : Keeps GoodKept (λ f. tt) (binary_level ops)
  unfolding binary_level nothing
  binary-kept = record { Fits = KeptFits; full = kept_full; begins = λ f. empty; steps = kept-steps; ends = kept-ends }

  -- ---- The marks: a tree is marked exactly if an operator leaf stands below it.

  unfoldable found : Option Token → Bool
  found none = false
  found (some t) = true

  abbrev holds : Forest → Bool
  holds f = found (first_leaf ops f)

  unfoldable marks_of : Forest → List Bool
  marks_of nil = []
  marks_of (node k cs d) = holds cs ∷ marks_of d

  unfoldable marked : Result → MarkedResult
  marked (ok f) = given f (holds f)
  marked (fail m) = told m

  holds-tree : (k c : Token) (cs r f : Forest) → holds (node k (node c cs r) f) ≡ (holds (node c cs r) || holds f)
  unfolding found first_leaf
  holds-tree k c cs r f = tree (first_leaf ops (node c cs r))
    where
      tree : (o : Option Token) → found (elim o [ some t ↦ some t | none ↦ first_leaf ops f ]) ≡ (found o || holds f)
      tree none = refl
      tree (some t) = refl

  holds-operand : (k : Token) (kids : Forest) → holds (node k kids nil) ≡ (holds kids || (is_nil kids && is_one_of ops k.op))
  unfolding found first_leaf is_nil
  holds-operand k nil = leaf (is_one_of ops k.op)
    where
      leaf : (b : Bool) → found (elim b [ true ↦ some k | false ↦ none ]) ≡ b
      leaf true = refl
      leaf false = refl
  holds-operand k (node c cs r) = holds-tree k c cs r nil

  or-between : (a b c : Bool) → (a || (b || c)) ≡ ((b || a) || c)
  or-between true true c = refl
  or-between true false c = refl
  or-between false b c = rw or-false refl

  holds-turned : {d : Forest} (f : Forest) → Kept d → holds (turned_onto d f) ≡ (is_any_marked (marks_of d) || holds f)
  unfolding turned_onto marks_of is_any_marked found first_leaf
  holds-turned f empty = refl
  holds-turned f (leaf_first {k = k} e d) = holds-turned (node k nil f) d ∙ rw (e, first_leaf) refl
  holds-turned f (tree_first {k = k} {c = c} {cs = cs} {r = r} {rest = rest} t d) =
      holds-turned (node k (node c cs r) f) d ∙ rw holds-tree (or-between (is_any_marked (marks_of rest)) (holds (node c cs r)) (holds f))

  holds-joined : (l : Token) (ls d : Forest) (k : Token) (kids : Forest) → Kept (node l ls d) → first_leaf ops ls ≡ none
      → holds (node l ls (node k kids nil)) ≡ (holds kids || (is_nil kids && is_one_of ops k.op))
  unfolding found first_leaf
  holds-joined l nil d k kids (leaf_first e h) n = rw (e, first_leaf) (holds-operand k kids)
  holds-joined l (node c cs r) d k kids h n = rw (holds-tree, n) (holds-operand k kids)

  late-left : {l t : Token} {ls d : Forest} → Kept (node l ls d) → first_leaf ops ls ≡ some t → Late false ls
  late-left (leaf_first e h) n = over
  late-left (tree_first c h) n = c

  ends-below : (c : Token) (cs r : Forest) → Ends GoodKept tt true (walk (binary_level ops) (gathered nil) (node c cs r))
  unfolding binary-kept is_nil
  ends-below c cs r = walk-keeps GoodKept (λ f. tt) (binary_level ops) binary-kept (gathered nil) (node c cs r) tt empty true (λ z. refl)

  -- ---- The level with the mark, step by step. A left operand is gone through again only to fail, at the leaf that the definition finds.

  module _ (second : Forest → MarkedResult)
      (fails : (ls : Forest) (t : Token) → Late false ls → first_leaf ops ls ≡ some t → second ls ≡ told (binary_at_end t ∷ []))
    where
      abbrev Same : Gathered → Forest → Type 0
      Same (gathered d) f = walk_marked ops second (gathered d) (marks_of d) f ≡ marked (walk (binary_level ops) (gathered d) f)
      Same (waiting d q) f = walk_marked ops second (waiting d q) (marks_of d) f ≡ marked (walk (binary_level ops) (waiting d q) f)

      abbrev AllSame : Forest → Type 0
      AllSame f = (s : Gathered) → KeptState s → Same s f

      leaf-same : (b : Bool) (d : Forest) (k : Token) (rest : Forest) → is_one_of ops k.op ≡ b → Kept d
          → AllSame rest → Same (gathered d) (node k nil rest)
      unfolding walk_marked walk binary_level binary_step operator_after marked is_nil marks_of found first_leaf in_order turned_onto is_any_marked
      leaf-same true nil k rest e h later = rw (e, walk_marked) (rw (e, binary_step, walk) refl)
      leaf-same true (node l ls d) k rest e h later =
          rw (e, walk_marked) (rw (e, binary_step, walk) (later (waiting (node l ls d) k) (h, refl)))
      leaf-same false d k rest e h later = rw (e, walk_marked) (rw (e, binary_step, walk) (later (gathered (node k nil d)) (leaf_first e h)))

      -- After the children of a node: F goes on with them and their mark.
      back-same : (F : Forest → Bool → MarkedResult) (t : Gathered) (k : Token) (rest : Forest) {x : Result} (y : MarkedResult) → y ≡ marked x
          → Ends GoodKept tt true x
          → ((kids : Forest) → Kept kids → is_nil kids ≡ false
          → F kids (holds kids) ≡ marked (walk (binary_level ops) (binary_resume t k kids) rest))
          → ◌≡◌ {A = MarkedResult} (elim y [ told m ↦ told m | given kids mark ↦ F kids mark ]) (marked (back (binary_level ops) t k rest x))
      unfolding back binary_level marked
      back-same F t k rest y e (failed o) next = rw e refl
      back-same F t k rest y e (fine {g = kids} o) next = rw e (next kids o.0 (o.1 refl))

      joined_same : (l : Token) (ls d : Forest) (q k : Token) (kids rest : Forest) → first_leaf ops ls ≡ none → Kept (node l ls d)
          → Kept kids → AllSame rest
          → walk_marked ops second (gathered (joined (node l ls d) q k kids))
          ((holds kids || (is_nil kids && is_one_of ops k.op)) ∷ marks_of d)
          rest
          ≡ marked (walk (binary_level ops) (gathered (joined (node l ls d) q k kids)) rest)
      unfolding joined marks_of is_nil
      joined_same l ls d q k kids rest e h w later =
          ap (λ (b : Bool). walk_marked ops second (gathered (joined (node l ls d) q k kids)) (b ∷ marks_of d) rest)
          (sym (holds-joined l ls d k kids h e))
          ∙ later (gathered (joined (node l ls d) q k kids)) (kept-joined (node l ls d) q k kids h refl (late-right k kids w))

      left-same : (o : Option Token) (l : Token) (ls d : Forest) (q k : Token) (cs rest : Forest) → first_leaf ops ls ≡ o → Kept (node l ls d)
          → Same (gathered nil) cs → AllSame rest → Same (waiting (node l ls d) q) (node k cs rest)
      unfolding walk_marked left_again walk binary_level binary_step binary_resume unfolded marked is_nil marks_of found first_leaf in_order turned_onto is_any_marked back
      left-same (some t) l ls d q k nil rest e h below later =
          rw (e, walk_marked) (rw (fails ls t (late-left h e) e, left_again) (rw (e, binary_step, walk) refl))
      left-same (some t) l ls d q k (node c cs r) rest e h below later =
          rw (e, walk_marked) (rw (fails ls t (late-left h e) e, left_again) (rw (e, binary_step, walk) refl))
      left-same none l ls d q k nil rest e h below later =
          rw (e, walk_marked) (rw (e, binary_step, walk) (joined_same l ls d q k nil rest e h empty later))
      left-same none l ls d q k (node c cs r) rest e h below later =
          rw (e, walk_marked) (rw (e, binary_step, walk) (back-same
          (λ kids mark. walk_marked ops second (gathered (joined (node l ls d) q k kids)) ((mark || false) ∷ marks_of d) rest)
          (waiting (node l ls d) q) k rest (walk_marked ops second (gathered nil) [] (node c cs r)) below (ends-below c cs r)
          λ kids w n. rw n at (joined_same l ls d q k kids rest e h w later)))

      step_same : (s : Gathered) (k : Token) (cs rest : Forest) → KeptState s → AllSame cs → AllSame rest → Same s (node k cs rest)
      unfolding walk_marked walk back binary_level binary_step binary_resume is_nil marks_of
      step_same (gathered d) k nil rest h below later = leaf-same (is_one_of ops k.op) d k rest refl h later
      step_same (gathered d) k (node c cs r) rest h below later =
          back-same (λ kids mark. walk_marked ops second (gathered (node k kids d)) (mark ∷ marks_of d) rest) (gathered d) k rest
          (walk_marked ops second (gathered nil) [] (node c cs r)) (below (gathered nil) empty) (ends-below c cs r)
          λ kids w n. later (gathered (node k kids d)) (kept-node d k kids h w n)
      step_same (waiting nil q) k cs rest h below later = absurd (true≢false h.1)
      step_same (waiting (node l ls d) q) k cs rest h below later =
          left-same (first_leaf ops ls) l ls d q k cs rest refl h.0 (below (gathered nil) empty) later

      end_same : (s : Gathered) → KeptState s → Same s nil
      unfolding walk_marked walk binary_level binary_finish in_order turned_onto marked first_leaf found
      end_same (gathered d) h = ap (given (in_order d)) (sym (holds-turned nil h ∙ or-false (is_any_marked (marks_of d))))
      end_same (waiting d q) h = refl

      walk_same : (s : Gathered) (f : Forest) → KeptState s → Same s f
      walk_same s nil h = end_same s h
      walk_same s (node k cs rest) h = step_same s k cs rest h (λ t. walk_same t cs) (λ t. walk_same t rest)

  second-fails : (n : ℕ) (ls : Forest) (t : Token) → Late false ls → first_leaf ops ls ≡ some t
      → through_marked n ops ls ≡ told (binary_at_end t ∷ [])
  unfolding through_marked at_first
  second-fails zero ls t h e = rw e at (walk-late (λ ls. given ls true) nil [] h (λ t. absurd (false≢true t)))
  second-fails (suc n) ls t h e = rw e at (walk-late (through_marked n ops) nil [] h (λ t. absurd (false≢true t)))

  -- THE MARK CHANGES NOTHING: the level that goes through marked left sides again, however often, gives what the definition's level gives.
  pub through-again : (n : ℕ) (f : Forest) → without_mark (through_marked (suc n) ops f) ≡ through (binary_level ops) f
  unfolding through_marked through binary_level nothing marks_of without_mark marked
  through-again n f = ap without_mark (walk_same (through_marked n ops) (second-fails n) (gathered nil) f empty) ∙ same (walk (binary_level ops) (gathered nil) f)
    where
      same : (x : Result) → without_mark (marked x) ≡ x
      same (ok f) = refl
      same (fail m) = refl

  -- No such leaf is found where none stands, and only there.
  pub free-first_leaf : (f : Forest) → free (is_one_of ops) f ≡ true → first_leaf ops f ≡ none
  unfolding first_leaf
  free-first_leaf nil h = refl
  free-first_leaf (node k nil rest) h =
      let e = free-leaf (is_one_of ops) k rest h in
      rw (e.0, first_leaf) (free-first_leaf rest e.1)
  free-first_leaf (node k (node c cs r) rest) h =
      let e = free-tree (is_one_of ops) k c cs r rest h in
      rw (free-first_leaf (node c cs r) e.0, first_leaf) (free-first_leaf rest e.1)

  pub first_leaf-free : (f : Forest) → first_leaf ops f ≡ none → free (is_one_of ops) f ≡ true
  unfolding first_leaf free
  first_leaf-free nil h = refl
  first_leaf-free (node k nil rest) h =
      decided (λ o. o ≡ none → free (is_one_of ops) (node k nil rest) ≡ true) (is_one_of ops k.op) (some k) (first_leaf ops rest)
      (λ e z. some-none z) (λ e z. rw e (first_leaf-free rest z)) h
  first_leaf-free (node k (node c cs r) rest) h =
      let e = first-of-two (first_leaf ops (node c cs r)) (first_leaf ops rest) h in
      and-true-true _ _ (first_leaf-free (node c cs r) e.0) (first_leaf-free rest e.1)
