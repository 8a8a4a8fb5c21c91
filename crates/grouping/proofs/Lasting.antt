-- No pass raises a weight (`pass-light`) or empties a list (`begun-full`).
use Prim.Native.Nat.{ℕ, ◌+◌, ◌*◌, ◌≤◌, zero-le}
use mathlib.Core.{Path.{◌≡◌, refl, sym, ap, ◌∙◌, subst}, Bool.{Bool, true, false, not, true≢false}}
use native.Mathlib.Omega.{arith}
use Rattle.molang.specs.{Operator.{semicolon, add, negate, array, array_variable}, Forest.{Token, Forest, nil, node, renamed}}
use Rattle.molang.specs.{Message.{Result, ok}, Level.{Step, walk, through}}
use Rattle.molang.specs.Calls.{Indexing, named, indexed, flushed, is_index, starts_with_index, empty_index, next_index, index, array_step}
use Rattle.molang.specs.{Calls.{array_level}, Order.{apply}, Free.{is_nil}, Weight.{Weighing, weight, nodes_of, node_weight}}
use Rattle.molang.specs.Work.{Kind, arrays, work, begins, in_reading, pass_of, pass}
use Rattle.molang.proofs.{Walks.{failed, fine, onward, walk-onward}, Weight.{Ending}, Passes.{kind-nested, apply-light}, Work.{pass-begins}}

-- ---- no pass raises a weight, or empties a list

-- no pass raises a weight in which a `;` outweighs three nodes, and a `-` a `+` and a node
pub pass-light : (W : Weighing) → 3 * W.inner ≤ W.leaf semicolon → W.leaf add + W.inner ≤ W.leaf negate → (κ : Kind) (f : Forest)
    → Ending W (weight W f) (not (is_nil f)) (pass κ f)
pass-light W pays turns κ f = unfold pass in apply-light W pays turns 0 (pass_of κ) f (kind-nested κ)

-- so a list keeps within three nodes for each token
pub pass-nodes : (κ : Kind) (f g : Forest) → pass κ f ≡ ok g → weight node_weight g ≤ weight node_weight f
unfolding nodes_of
pass-nodes κ f g e = within (pass-light node_weight (omega arith) (omega arith) κ f) e
  where
    within : {n : ℕ} {b : Bool} {r : Result} → Ending node_weight n b r → r ≡ ok g → weight node_weight g ≤ n
    within (failed e) q = let z : ◌≡◌ {A = ℕ} 0 1 = cc in absurd (omega arith)
    within (fine {g = f} e) q = let same : f ≡ g = cc in omega (arith, ap (weight node_weight) same, e.0)

weightless : Weighing
weightless = record { leaf = λ n. 0; inner = 0; lighter = λ n. zero-le }

full-of : {n : ℕ} {b : Bool} {r : Result} {g : Forest} → Ending weightless n b r → b ≡ true → r ≡ ok g → is_nil g ≡ false
full-of (failed e) h q = let z : ◌≡◌ {A = ℕ} 0 1 = cc in absurd (omega arith)
full-of {g = g} (fine {g = f} e) h q = let same : f ≡ g = cc in subst (λ (x : Forest). is_nil x ≡ false) same (e.1 h)

pub pass-full : (κ : Kind) (f g : Forest) → is_nil f ≡ false → pass κ f ≡ ok g → is_nil g ≡ false
pass-full κ f g h e = unfold weightless in full-of (pass-light weightless zero-le zero-le κ f) (ap not h) e

pub begun-full : (κ : Kind) (f g : Forest) → is_nil f ≡ false → work κ (begins κ f) (in_reading κ f) ≡ ok g → is_nil g ≡ false
begun-full κ f g h e = pass-full κ f g h (pass-begins κ f ∙ e)

-- ---- a list that begins with an array that was lent to it is a list that begins with that array's name

renamed-back : (q : Token) → q.op ≡ array → renamed array (renamed array_variable q) ≡ q
unfolding renamed
renamed-back q e = λ i. record { op = sym e i; variant = q.variant; value = q.value; start = q.start; end = q.end; close = q.close }

lent-step : (q k : Token) (cs : Forest) → is_index k ≡ true
    → array_step (named nil q) k cs ≡ array_step (indexed nil (renamed array q) nil) k cs
unfolding array_step empty_index index next_index
lent-step q k nil e = rw (e, array_step)
lent-step q k (node c cs r) e = rw (e, array_step)

lent-walk : (q : Token) (cs : Forest) → starts_with_index cs ≡ true
    → walk array_level (named nil q) cs ≡ walk array_level (indexed nil (renamed array q) nil) cs
unfolding array_level starts_with_index
lent-walk q nil e = absurd (true≢false (sym e))
lent-walk q (node k cs rest) e =
    walk-onward array_level (named nil q) k cs rest ∙ ap (λ (x : Step Indexing). onward array_level k cs rest x) (lent-step q k cs e)
    ∙ sym (walk-onward array_level (indexed nil (renamed array q) nil) k cs rest)

named-walk : (q : Token) (cs : Forest)
    → through array_level (node (renamed array_variable q) nil cs) ≡ walk array_level (named nil (renamed array_variable q)) cs
named-walk q cs = unfold through walk array_level array_step is_index renamed flushed in refl

pub lent-full : (q : Token) (cs g : Forest) → q.op ≡ array → starts_with_index cs ≡ true
    → work arrays (indexed nil q nil) (in_reading arrays cs) ≡ ok g → is_nil g ≡ false
unfolding work in_reading pass pass_of apply is_nil
lent-full q cs g a h e =
    pass-full arrays (node (renamed array_variable q) nil cs) g refl
    (named-walk q cs ∙ lent-walk (renamed array_variable q) cs h
    ∙ ap (λ (x : Token). walk array_level (indexed nil x nil) cs) (renamed-back q a) ∙ e)
