-- THE PLACE OF ANSWERS 12 AND 24 is the first word that cannot continue a tree: the words before it begin one of at most 12,288 nodes, and
-- with it they begin none. Where no word is wrong the words run out, and the place is their count.
use Prim.Native.Nat.{ℕ, zero, suc, ◌+◌, ◌-◌, ◌≤◌, ◌<◌}
use mathlib.Core.{Path.{◌≡◌, refl, sym, ◌∙◌}, List.{List, [], ◌++◌}, Logic.{◌↔◌}, Option.{none, some}}
use native.Mathlib.Omega.{arith}
use lib.{Dec.{eqb, leb}, ListN.{length, take}}
use borrow.Author.Tests.{eqb-true, eqb-false, eq-eqb, leb-true}
use Rattle.molang.specs.Forest.{Token, Forest}
use Rattle.molang.specs.Words.{word, low_of, node_words_of, tree_words, Field, operator_field, start_field, end_field, upper_field}
use Rattle.molang.specs.{Words.{lower_field, count_field, close_field, field_kind}, Legal.{Legal}}
use Rattle.molang.specs.WriteEntry.{most_nodes, next_in_node, Shape, shape_after, is_whole, tree_fault}
use Rattle.molang.specs.StackOrder.{stack_words, Stack, stack_after, trees_asked, least_nodes, stack_fault, IsOneTree}
use Rattle.molang.proofs.{Trees.{some-none, decided}, Booleans.{either}, FirstFailure.{must-true}, Words.{low_word, operator-low}}
use Rattle.molang.proofs.NodeWalk.{zero-passes, count-passes, Walk, Fits, Ending, one_more, Placed, placed}
use Rattle.molang.proofs.{TreeWords.{tree_walk, tree-fault-none}, StackWords.{done-one, stack_walk, least-one, stack-fault-none}}
use Rattle.molang.proofs.TreeWords as tree
use Rattle.molang.proofs.StackWords as stack

-- The words before p begin a tree in the order of `in_words`, and those up to the word at p do not.
pub record FirstWrong (in_words : Forest → List ℕ) (ws : List ℕ) (p : ℕ) : Type 0 where
  pub within : p ≤ length ws
  pub rest : List ℕ
  pub goes_on : IsOneTree in_words (take p ws ++ rest)
  pub stops : p < length ws → (us : List ℕ) → IsOneTree in_words (take (suc p) ws ++ us) → ⊥

-- A walk that finds no fault in the words of one tree, and a fault in all others, stops at the first word that is wrong.
first-wrong : {S : Type 0} (W : Walk S) (s : S) (in_words : Forest → List ℕ)
    → ((ws : List ℕ) → (W.fault 0 operator_field 0 s ws ≡ none) ↔ IsOneTree in_words ws)
    → (ws : List ℕ) (p : ℕ)
    → Placed W 0 operator_field 0 s ws p
    → FirstWrong in_words ws p
first-wrong W s in_words decides ws p x =
    let same : x.passed ≡ p = omega (arith, x.is) in
    record {
      within = omega arith;
      rest = x.rest;
      goes_on = (decides (take p ws ++ x.rest)).0 (rw same at x.going);
      stops = λ h us t. some-none (sym (rw same at (x.stops (omega arith) us)) ∙ (decides (take (suc p) ws ++ us)).1 t);
    }

-- A token of zeros.
abbrev blank : Token
blank = record { op = 0; variant = 0; value = 0; start = 0; end = 0; close = 0 }

blank-legal : Legal blank
blank-legal =
    record {
      op = operator-low 0 (omega arith);
      variant = omega arith;
      value = omega arith;
      no_payload = λ e. refl;
      start = omega arith;
      end = omega arith;
      close = omega arith;
    }

-- A word of zeros, before an ending.
zero-before : {S : Type 0} (W : Walk S) (field : Field) (s : S) → Fits W field (word (field_kind field) 0) s
    → Ending W (next_in_node field) (W.after field (word (field_kind field) 0) s)
    → Ending W field s
zero-before W field s = one_more W field s (word (field_kind field) 0) (zero-passes field)

-- ---- Answer 12: leaves are put where nodes are called for

-- At most as many nodes have begun as are called for, and at most as many are called for as fit.
abbrev Called : Shape → Type 0
Called s = (s.begun ≤ s.called) × (s.called ≤ most_nodes)

leaves-end : (n : ℕ) (s : Shape) → s.called ≡ s.begun + n → s.called ≤ most_nodes → Ending tree_walk operator_field s
unfolding tree_fault is_whole
leaves-end zero s e b = record { words = []; unfaulted = λ i v. must-true _ i (eq-eqb s.begun s.called (omega arith)) }
leaves-end (suc n) s e b =
    let later = leaves-end n (tree.with_node s 0) (omega arith) (omega arith) in
    record {
      words = node_words_of blank 0 ++ later.words;
      unfaulted =
          λ i v. tree.node-continues blank blank-legal 0 (omega arith) i v s later.words (omega arith) (omega arith) later.unfaulted;
    }

module _ (s : Shape) (g : Called s) where
  tree-operator : Ending tree_walk operator_field s
  tree-operator = leaves-end (s.called - s.begun) s (omega arith) g.1

  tree-close : Ending tree_walk close_field s
  tree-close = unfold next_in_node shape_after in zero-before tree_walk close_field s g tree-operator

tree-count : (s : Shape) → Called s → Ending tree_walk count_field s
unfolding next_in_node shape_after
tree-count s g =
    let low = low_word (field_kind count_field) 0 (omega arith) in
    let called : Shape = record { called = s.called + 0; begun = s.begun } in
    zero-before tree_walk count_field s (rw low (omega arith)) (rw low (tree-close called (omega arith)))

module _ (s : Shape) (g : Called s) where
  tree-lower : Ending tree_walk lower_field s
  tree-lower = unfold next_in_node shape_after in zero-before tree_walk lower_field s g (tree-count s g)

  tree-upper : Ending tree_walk upper_field s
  tree-upper = unfold next_in_node shape_after in zero-before tree_walk upper_field s g tree-lower

  tree-end : Ending tree_walk end_field s
  tree-end = unfold next_in_node shape_after in zero-before tree_walk end_field s g tree-upper

  tree-start : Ending tree_walk start_field s
  tree-start = unfold next_in_node shape_after in zero-before tree_walk start_field s g tree-end

tree-ending : (field : Field) (s : Shape) → Called s → Ending tree_walk field s
tree-ending operator_field s g = tree-operator s g
tree-ending start_field s g = tree-start s g
tree-ending end_field s g = tree-end s g
tree-ending upper_field s g = tree-upper s g
tree-ending lower_field s g = tree-lower s g
tree-ending count_field s g = tree-count s g
tree-ending close_field s g = tree-close s g

tree-keeps : (field : Field) (w : ℕ) (s : Shape) → Called s → Fits tree_walk field w s → Called (shape_after field w s)
tree-keeps field w s g fits = (tree_walk.few field w s fits.0, fits.1)

-- ANSWER 12'S PLACE.
pub tree-place-first : (ws : List ℕ) (p : ℕ) → tree_fault 0 operator_field 0 (record { called = 1; begun = 0 }) ws ≡ some p
    → FirstWrong tree_words ws p
tree-place-first ws p e =
    let start : Shape = record { called = 1; begun = 0 } in
    first-wrong tree_walk start tree_words tree-fault-none ws p
    (placed tree_walk (λ field. Called) tree-ending tree-keeps ws 0 operator_field 0 start p (omega arith, omega arith) e)

-- ---- Answer 24: a node takes all trees that are done

-- Between nodes one tree is done, or there is room for a node that makes one of them; in a node, before its count, there was room for it.
abbrev Outside : Stack → Type 0
Outside s = (s.done ≤ s.begun) × (s.begun ≤ most_nodes) × ((s.done ≡ 1 → ⊥) → s.begun < most_nodes)

abbrev Inside : Stack → Type 0
Inside s = (s.done < s.begun) × (s.begun ≤ most_nodes)

abbrev Going : Field → Stack → Type 0
Going operator_field s = Outside s
Going start_field s = Inside s
Going end_field s = Inside s
Going upper_field s = Inside s
Going lower_field s = Inside s
Going count_field s = Inside s
Going close_field s = Outside s

-- One tree is the end; else a node takes all trees that are done.
stack-operator : (s : Stack) → Outside s → Ending stack_walk operator_field s
unfolding stack_fault
stack-operator s g =
    either (eqb s.done 1) (λ e. record { words = []; unfaulted = λ i v. must-true _ i (done-one s (eqb-true s.done 1 e)) })
    (λ e.
    let room = g.2 (eqb-false s.done 1 e) in
    record {
      words = node_words_of blank s.done ++ [];
      unfaulted =
          λ i v. stack.node-continues blank blank-legal s.done (omega arith) i v s [] (omega arith) room
          (least-one (stack.with_node s s.done) (omega arith) (omega arith))
          (λ i v. must-true _ i (done-one (stack.with_node s s.done) (omega arith)));
    })

-- A node that has begun takes them all.
stack-close : (s : Stack) → Outside s → Ending stack_walk close_field s
unfolding next_in_node stack_after trees_asked least_nodes
stack-close s g = zero-before stack_walk close_field s (omega arith) (stack-operator s g)

stack-count : (s : Stack) → Inside s → Ending stack_walk count_field s
unfolding next_in_node stack_after trees_asked
stack-count s g =
    let low = low_word 6 s.done (omega arith) in
    let all : Stack = record { done = suc (s.done - s.done); begun = s.begun } in
    one_more stack_walk count_field s (word 6 s.done) (λ v. count-passes v s.done (omega arith))
    (rw low (omega (arith, least-one all (omega arith) (omega arith))))
    (rw low (stack-close all (omega arith, omega arith, λ e. absurd (e (omega arith)))))

module _ (s : Stack) (g : Inside s) where
  stack-lower : Ending stack_walk lower_field s
  stack-lower = unfold next_in_node stack_after trees_asked least_nodes in zero-before stack_walk lower_field s (omega arith) (stack-count s g)

  stack-upper : Ending stack_walk upper_field s
  stack-upper = unfold next_in_node stack_after trees_asked least_nodes in zero-before stack_walk upper_field s (omega arith) stack-lower

  stack-end : Ending stack_walk end_field s
  stack-end = unfold next_in_node stack_after trees_asked least_nodes in zero-before stack_walk end_field s (omega arith) stack-upper

  stack-start : Ending stack_walk start_field s
  stack-start = unfold next_in_node stack_after trees_asked least_nodes in zero-before stack_walk start_field s (omega arith) stack-end

stack-ending : (field : Field) (s : Stack) → Going field s → Ending stack_walk field s
stack-ending operator_field s g = stack-operator s g
stack-ending start_field s g = stack-start s g
stack-ending end_field s g = stack-end s g
stack-ending upper_field s g = stack-upper s g
stack-ending lower_field s g = stack-lower s g
stack-ending count_field s g = stack-count s g
stack-ending close_field s g = stack-close s g

-- A count that leaves several trees leaves room for the node that makes one of them.
least-room : (s : Stack) → 0 < s.done → least_nodes count_field s ≤ most_nodes → (s.done ≡ 1 → ⊥) → s.begun < most_nodes
unfolding least_nodes
least-room s positive least several =
    decided (λ n. n ≤ most_nodes → s.begun < most_nodes) (leb s.done 1) _ _
    (λ e h. absurd (several (omega (arith, leb-true s.done 1 e)))) (λ e h. omega arith) least

stack-keeps : (field : Field) (w : ℕ) (s : Stack) → Going field s → Fits stack_walk field w s
    → Going (next_in_node field) (stack_after field w s)
unfolding next_in_node stack_after trees_asked least_nodes
stack-keeps operator_field w s g fits = (omega arith, fits.1)
stack-keeps start_field w s g fits = g
stack-keeps end_field w s g fits = g
stack-keeps upper_field w s g fits = g
stack-keeps lower_field w s g fits = g
stack-keeps count_field w s g fits =
    (omega arith, omega arith, least-room (record { done = suc (s.done - low_of w); begun = s.begun }) (omega arith) fits.1)
stack-keeps close_field w s g fits = g

-- ANSWER 24'S PLACE.
pub stack-place-first : (ws : List ℕ) (p : ℕ) → stack_fault 0 operator_field 0 (record { done = 0; begun = 0 }) ws ≡ some p
    → FirstWrong stack_words ws p
stack-place-first ws p e =
    let start : Stack = record { done = 0; begun = 0 } in
    first-wrong stack_walk start stack_words stack-fault-none ws p
    (placed stack_walk Going stack-ending stack-keeps ws 0 operator_field 0 start p (omega arith, omega arith, λ z. omega arith) e)
