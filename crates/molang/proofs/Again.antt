-- EVERY LEFT SIDE GONE THROUGH AGAIN. A level without a mark that goes through every left side again, whether or not it holds an unfolded
-- operator, gives the same as the definition's: after a level its operator leaves stand only as last child of its operator nodes, and a walk
-- over such a list ends in message 12 at the first of them, or changes nothing. (Unfolded has the same of the level with the mark.)
use Prim.Native.Nat.{ℕ}
use mathlib.Core.{Path.{◌≡◌, refl, ap, ◌∙◌}, Bool.{Bool, true, false, not, true≢false, false≢true, or-true}, List.{List, [], ◌∷◌}}
use mathlib.Core.Option.{Option, none, some}
use borrow.Author.Tests.{not-true}
use Rattle.molang.specs.{Operator.{is_one_of}, Forest.{Token, Forest, nil, node, turned_onto, in_order}}
use Rattle.molang.specs.Message.{binary_at_end, Result, ok, fail}
use Rattle.molang.specs.Level.{Step, stop, on, into, Level, walk, through, Gathered, gathered, waiting, nothing}
use Rattle.molang.specs.Binary.{first_leaf, unfolded, joined, operator_after, binary_step, binary_resume, binary_finish, binary_level}
use Rattle.molang.specs.Free.{is_nil}
use Rattle.molang.proofs.Trees.{decided, maybe}
use Rattle.molang.proofs.Walks.{failed, fine, Ends, Onward, stops, goes, enters, Keeps, back, onward, walk-keeps}
use Rattle.molang.proofs.{Weight.{is_nil-in_order}, Binary.{full-joined}}

module _ (ops : List ℕ) where
  -- A list after the level: an operator leaf stands last, with something before it (`true`: something stands before the list).
  pub data Late : Bool → Forest → Type 0 where
    over : {b : Bool} → Late b nil
    leaf_then : {b : Bool} {k : Token} {rest : Forest} → is_one_of ops k.op ≡ false → Late true rest → Late b (node k nil rest)
    lastly : {k : Token} → is_one_of ops k.op ≡ true → Late true (node k nil nil)
    tree_then : {b : Bool} {k c : Token} {cs r rest : Forest} → Late false (node c cs r) → Late true rest
        → Late b (node k (node c cs r) rest)

  -- A list that the level itself gives: it holds no operator leaf of its own.
  pub data Kept : Forest → Type 0 where
    empty : Kept nil
    leaf_first : {k : Token} {rest : Forest} → is_one_of ops k.op ≡ false → Kept rest → Kept (node k nil rest)
    tree_first : {k c : Token} {cs r rest : Forest} → Late false (node c cs r) → Kept rest → Kept (node k (node c cs r) rest)

  kept-late : {b : Bool} {f : Forest} → Kept f → Late b f
  kept-late empty = over
  kept-late (leaf_first e h) = leaf_then e (kept-late h)
  kept-late (tree_first c h) = tree_then c (kept-late h)

  kept-turned : {d f : Forest} → Kept d → Kept f → Kept (turned_onto d f)
  unfolding turned_onto
  kept-turned empty h = h
  kept-turned (leaf_first e d) h = kept-turned d (leaf_first e h)
  kept-turned (tree_first c d) h = kept-turned d (tree_first c h)

  -- What walking again comes to.
  unfoldable pub at_first : Option Token → Forest → Result
  at_first none f = ok f
  at_first (some t) f = fail (binary_at_end t ∷ [])

  keeps-leaf : (d : Forest) (k : Token) → is_one_of ops k.op ≡ false → binary_step ops (gathered d) k nil ≡ on (gathered (node k nil d))
  unfolding binary_step
  keeps-leaf d k e = rw (e, binary_step) refl

  waits : (l : Token) (ls d : Forest) (k : Token) → is_one_of ops k.op ≡ true
      → binary_step ops (gathered (node l ls d)) k nil ≡ on (waiting (node l ls d) k)
  unfolding binary_step operator_after
  waits l ls d k e = rw (e, binary_step) refl

  last-fails : (d : Forest) (k : Token) → is_one_of ops k.op ≡ true → is_nil d ≡ false
      → walk (binary_level ops) (gathered d) (node k nil nil) ≡ at_first (first_leaf ops (node k nil nil)) (turned_onto d (node k nil nil))
  unfolding walk binary_level binary_finish first_leaf at_first is_nil
  last-fails nil k e n = absurd (true≢false n)
  last-fails (node l ls d) k e n = rw (waits l ls d k e, walk) (rw (e, first_leaf) refl)

  tree-late : (o : Option Token) (d : Forest) (k c : Token) (cs r rest : Forest) → first_leaf ops (node c cs r) ≡ o
      → walk (binary_level ops) (gathered nil) (node c cs r) ≡ at_first (first_leaf ops (node c cs r)) (node c cs r)
      → walk (binary_level ops) (gathered (node k (node c cs r) d)) rest
      ≡ at_first (first_leaf ops rest) (turned_onto (node k (node c cs r) d) rest)
      → walk (binary_level ops) (gathered d) (node k (node c cs r) rest)
      ≡ at_first (first_leaf ops (node k (node c cs r) rest)) (turned_onto (node k (node c cs r) d) rest)
  unfolding walk binary_level binary_step binary_resume first_leaf at_first
  tree-late none d k c cs r rest e below later = rw (e, first_leaf) (rw (rw e at below, walk) later)
  tree-late (some t) d k c cs r rest e below later = rw (e, first_leaf) (rw (rw e at below, walk) refl)

  pub walk-late : {b : Bool} {f : Forest} (d : Forest) → Late b f → (b ≡ true → is_nil d ≡ false)
      → walk (binary_level ops) (gathered d) f ≡ at_first (first_leaf ops f) (turned_onto d f)
  unfolding walk binary_level binary_finish first_leaf at_first turned_onto in_order is_nil
  walk-late d over n = refl
  walk-late d (leaf_then {k = k} {rest = rest} e h) n =
      rw (keeps-leaf d k e, walk) (rw (e, first_leaf) (walk-late (node k nil d) h (λ t. refl)))
  walk-late d (lastly {k = k} e) n = last-fails d k e (n refl)
  walk-late d (tree_then {k = k} {c = c} {cs = cs} {r = r} {rest = rest} below later) n =
      tree-late (first_leaf ops (node c cs r)) d k c cs r rest refl (walk-late nil below (λ t. absurd (false≢true t)))
      (walk-late (node k (node c cs r) d) later (λ t. refl))

  -- The operands of an operator: the left one is no operator leaf, the right one may be.
  late-operand : (b : Bool) (k : Token) → is_one_of ops k.op ≡ b → Late true (node k nil nil)
  late-operand true k e = lastly e
  late-operand false k e = leaf_then e over

  late-right : (k : Token) (kids : Forest) → Kept kids → Late true (node k kids nil)
  late-right k nil h = late-operand (is_one_of ops k.op) k refl
  late-right k (node c cs r) h = tree_then (kept-late h) over

  kept-joined : (d : Forest) (q k : Token) (kids : Forest) → Kept d → is_nil d ≡ false → Late true (node k kids nil)
      → Kept (joined d q k kids)
  unfolding joined is_nil
  kept-joined nil q k kids h n r = absurd (true≢false n)
  kept-joined (node l nil d) q k kids (leaf_first e h) n r = tree_first (leaf_then e r) h
  kept-joined (node l (node x xs y) d) q k kids (tree_first c h) n r = tree_first (tree_then c r) h

  kept-node : (d : Forest) (k : Token) (kids : Forest) → Kept d → Kept kids → is_nil kids ≡ false → Kept (node k kids d)
  unfolding is_nil
  kept-node d k nil h w e = absurd (true≢false e)
  kept-node d k (node c cs r) h w e = tree_first (kept-late w) h

  abbrev GoodKept : Unit {0} → Forest → Type 0
  GoodKept n g = Kept g

  abbrev KeptState : Gathered → Type 0
  KeptState (gathered d) = Kept d
  KeptState (waiting d q) = Kept d × (is_nil d ≡ false)

  abbrev KeptFits : Gathered → Forest → Unit {0} → Type 0
  KeptFits s f n = KeptState s

  abbrev kept_full : Gathered → Bool
  kept_full (gathered d) = not (is_nil d)
  kept_full (waiting d q) = true

  abbrev KeptOnward : Token → Forest → Forest → Step Gathered → Type 0
  KeptOnward k cs rest = Onward GoodKept (binary_level ops) KeptFits kept_full k cs rest tt

  kept-steps : (s : Gathered) (k : Token) (cs rest : Forest) (n : Unit {0}) → KeptState s → KeptOnward k cs rest (binary_step ops s k cs)
  unfolding binary_level binary_step binary_resume operator_after is_nil
  kept-steps (gathered nil) k nil rest n h =
      decided (KeptOnward k nil rest) (is_one_of ops k.op) _ _ (λ e. stops refl)
      (λ e. goes {t = gathered (node k nil nil)} (leaf_first e h) refl)
  kept-steps (gathered (node l ls d)) k nil rest n h =
      decided (KeptOnward k nil rest) (is_one_of ops k.op) _ _ (λ e. goes {t = waiting (node l ls d) k} (h, refl) refl)
      (λ e. goes {t = gathered (node k nil (node l ls d))} (leaf_first e h) refl)
  kept-steps (gathered d) k (node c cs r) rest n h =
      enters {t = gathered d} {u = gathered nil} tt empty refl λ kids w e. (kept-node d k kids h w e, refl)
  kept-steps (waiting d q) k nil rest n h =
      maybe (KeptOnward k nil rest) (unfolded ops d) _ _ (λ t. stops refl)
      (goes {t = gathered (joined d q k nil)} (kept-joined d q k nil h.0 h.1 (late-right k nil empty)) (rw full-joined refl))
  kept-steps (waiting d q) k (node c cs r) rest n h =
      maybe (KeptOnward k (node c cs r) rest) (unfolded ops d) _ _ (λ t. stops refl)
      (enters {t = waiting d q} {u = gathered nil} tt empty refl λ kids w e.
      (kept-joined d q k kids h.0 h.1 (late-right k kids w), rw full-joined refl))

  kept-ends : (s : Gathered) (n : Unit {0}) → KeptState s → Ends GoodKept n (kept_full s) (binary_finish s)
  unfolding binary_finish in_order
  kept-ends (gathered d) n h = fine {g = in_order d} (kept-turned h empty, λ e. is_nil-in_order d (not-true (is_nil d) e))
  kept-ends (waiting d q) n h = failed refl

  binary-kept : Keeps GoodKept (λ f. tt) (binary_level ops)
  unfolding binary_level nothing
  binary-kept = record { Fits = KeptFits; full = kept_full; begins = λ f. empty; steps = kept-steps; ends = kept-ends }

  -- The trees so far, the last one's children gone through again, whether or not they hold an unfolded operator.
  unfoldable pub again : Forest → Result
  again nil = ok nil
  again (node l ls d) = elim (through (binary_level ops) ls) [ fail m ↦ fail m | ok kids ↦ ok (node l kids d) ]

  -- The binary level that goes through every left side again; it has no mark.
  unfoldable pub again_step : Gathered → Token → Forest → Step Gathered
  again_step (gathered d) k cs = binary_step ops (gathered d) k cs
  again_step (waiting d q) k nil = elim (again d) [ fail m ↦ stop m | ok e ↦ on (gathered (joined e q k nil)) ]
  again_step (waiting d q) k (node c cs r) = elim (again d) [ fail m ↦ stop m | ok e ↦ into (waiting e q) (gathered nil) ]

  unfoldable pub again_level : Level Gathered
  again_level = record { start = nothing; step = again_step; resume = binary_resume; finish = binary_finish }

  children-again : (o : Option Token) (l : Token) (ls d : Forest) → first_leaf ops ls ≡ o
      → through (binary_level ops) ls ≡ at_first (first_leaf ops ls) ls → again (node l ls d) ≡ at_first (first_leaf ops ls) (node l ls d)
  unfolding again at_first
  children-again none l ls d e h = rw e (rw (rw e at h, again) refl)
  children-again (some t) l ls d e h = rw e (rw (rw e at h, again) refl)

  pub again_kept : (d : Forest) → Kept d → again d ≡ at_first (unfolded ops d) d
  unfolding unfolded through binary_level nothing turned_onto
  again_kept nil empty = unfold again at_first in refl
  again_kept (node l nil d) (leaf_first e h) =
      children-again (first_leaf ops nil) l nil d refl (walk-late nil (over {b = false}) (λ t. absurd (false≢true t)))
  again_kept (node l (node c cs r) d) (tree_first t h) =
      children-again (first_leaf ops (node c cs r)) l (node c cs r) d refl (walk-late nil t (λ t. absurd (false≢true t)))

  step-waiting : (o : Option Token) (d : Forest) (q k : Token) (cs : Forest) → unfolded ops d ≡ o → again d ≡ at_first (unfolded ops d) d
      → again_step (waiting d q) k cs ≡ binary_step ops (waiting d q) k cs
  unfolding again_step binary_step at_first
  step-waiting none d q k nil e h = rw (rw e at h, again_step) (rw (e, binary_step) refl)
  step-waiting none d q k (node c cs r) e h = rw (rw e at h, again_step) (rw (e, binary_step) refl)
  step-waiting (some t) d q k nil e h = rw (rw e at h, again_step) (rw (e, binary_step) refl)
  step-waiting (some t) d q k (node c cs r) e h = rw (rw e at h, again_step) (rw (e, binary_step) refl)

  step-again : (s : Gathered) (k : Token) (cs : Forest) → KeptState s → again_step s k cs ≡ binary_step ops s k cs
  unfolding again_step
  step-again (gathered d) k cs h = refl
  step-again (waiting d q) k cs h = step-waiting (unfolded ops d) d q k cs refl (again_kept d h.0)

  back-again : (t : Gathered) (k : Token) (rest : Forest) {x : Result} → Ends GoodKept tt true x
      → ((kids : Forest) → Kept kids → is_nil kids ≡ false
      → walk again_level (binary_resume t k kids) rest ≡ walk (binary_level ops) (binary_resume t k kids) rest)
      → back again_level t k rest x ≡ back (binary_level ops) t k rest x
  unfolding back again_level binary_level
  back-again t k rest (failed o) later = refl
  back-again t k rest (fine {g = kids} e) later = later kids e.0 (e.1 refl)

  onward-again : (k : Token) (cs rest : Forest) {x : Step Gathered} → KeptOnward k cs rest x
      → ((t : Gathered) → KeptState t → walk again_level t rest ≡ walk (binary_level ops) t rest)
      → ((u : Gathered) → KeptState u → walk again_level u cs ≡ walk (binary_level ops) u cs)
      → onward again_level k cs rest x ≡ onward (binary_level ops) k cs rest x
  unfolding onward binary_level binary-kept
  onward-again k cs rest (stops o) later below = refl
  onward-again k cs rest (goes {t = t} h e) later below = later t h
  onward-again k cs rest (enters {t = t} {u = u} n h e next) later below =
      rw (below u h) (back-again t k rest
      (walk-keeps GoodKept (λ f. tt) (binary_level ops) binary-kept u cs tt h true (λ z. rw (e, or-true) refl)) λ kids w e. later
      (binary_resume t k kids) (next kids w e).0)

  walk-again : (s : Gathered) (f : Forest) → KeptState s → walk again_level s f ≡ walk (binary_level ops) s f
  unfolding walk again_level binary_level onward back
  walk-again s nil h = refl
  walk-again s (node k cs rest) h =
      ap (onward again_level k cs rest) (step-again s k cs h)
      ∙ onward-again k cs rest (kept-steps s k cs rest tt h) (λ t h. walk-again t rest h)
      (λ u h. walk-again u cs h)

  -- The second walk changes nothing: the definition's level gives what this one gives.
  pub through-again : (f : Forest) → through again_level f ≡ through (binary_level ops) f
  unfolding through again_level binary_level nothing
  through-again f = walk-again (gathered nil) f empty
