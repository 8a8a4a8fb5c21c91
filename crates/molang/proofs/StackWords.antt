-- ANSWER 24 IS GIVEN to no words of a legal tree of at most 12,288 nodes in stack order, and to all other words. Its place is
-- at most 86,016.
use Prim.Native.Nat.{ℕ, suc, ◌+◌, ◌-◌, ◌^◌, ◌≤◌, ◌<◌}
use mathlib.Core.{Path.{◌≡◌, refl, ap, sym, ◌∙◌}, Bool.{true, false, ◌&&◌}, List.{List, [], ◌∷◌, ◌++◌, append_assoc, append-nil}}
use mathlib.Core.{Logic.{◌↔◌}, Option.{none, some}}
use native.Mathlib.Omega.{arith}
use lib.Dec.{leb}
use borrow.Author.Tests.{eqb-true, le-leb}
use Rattle.molang.specs.Forest.{Token, Forest, nil, node, turned_onto, in_order, count, size}
use Rattle.molang.specs.Words.{low_of, node_of, token_words, node_words_of, Field, operator_field}
use Rattle.molang.specs.Words.{count_field, word_fault, variant_after}
use Rattle.molang.specs.{Legal.{Legal, LegalTrees, no_trees, legal_tree}, FirstFailure.{must, first_of}}
use Rattle.molang.specs.WriteEntry.{most_nodes, next_in_node}
use Rattle.molang.specs.StackOrder.{stack_words, Stack, stack_after, trees_asked, least_nodes, stack_continues, is_one_stack, stack_fault}
use Rattle.molang.specs.StackOrder.{IsOneTree}
use Rattle.molang.proofs.{Trees.{either}, Booleans.{false-true}, FirstFailure.{must-true}, Forests.{reversed-count, reversed-size}}
use Rattle.molang.proofs.Words.{low_word, beside}
use Rattle.molang.proofs.Rows.{parted, count-beside, size-beside, legal-beside, legal-in_order, turned_onto-beside, one-tree}
use Rattle.molang.proofs.NodeWalk.{by_field, Between, begins, Walk, place, node-goes, NodeRead, along}

-- ---- Answer 24's walk

pub stack-word : (i : ℕ) (field : Field) (v : ℕ) (s : Stack) (w : ℕ) (ws : List ℕ)
    → stack_fault i field v s (w ∷ ws)
    ≡ first_of
    (must (elim (word_fault field v w)
    [ some n ↦ false | none ↦ leb (trees_asked field w) s.done && leb (least_nodes field (stack_after field w s)) most_nodes ]) i
    ∷ stack_fault (suc i) (next_in_node field) (variant_after field v w) (stack_after field w s) ws
    ∷ [])
stack-word i field v s w ws = unfold stack_fault stack_continues in refl

pub stack-end : (i : ℕ) (field : Field) (v : ℕ) (s : Stack) → stack_fault i field v s [] ≡ must (is_one_stack field s) i
stack-end i field v s = unfold stack_fault in refl

pub stack-between : (field : Field) (s : Stack) → is_one_stack field s ≡ true → Between field
unfolding is_one_stack
stack-between field s =
    by_field (λ f. is_one_stack f s ≡ true → Between f) (λ e. tt) false-true false-true false-true false-true false-true false-true field

pub stack-more : (field : Field) (w : ℕ) (s : Stack) → (stack_after field w s).begun ≡ s.begun + begins field
unfolding stack_after
stack-more field w s =
    by_field (λ f. (stack_after f w s).begun ≡ s.begun + begins f) (omega arith) (omega arith) (omega arith) (omega arith) (omega arith)
    (omega arith) (omega arith) field

-- A tree of the words has the nodes that have begun, and one more at the most that joins them.
pub least-within : (field : Field) (s : Stack) → (s.begun ≤ least_nodes field s) × (least_nodes field s ≤ suc s.begun)
unfolding least_nodes
least-within field s =
    let P : ℕ → Type 0 = λ n. (s.begun ≤ n) × (n ≤ suc s.begun) in
    by_field (λ f. P (least_nodes f s)) (omega arith) (omega arith) (omega arith) (omega arith) (omega arith)
    (either P (leb s.done 1) _ _ (omega arith) (omega arith)) (omega arith) field

-- The words may end where one tree is done.
one-done : (s : Stack) → is_one_stack operator_field s ≡ true → s.done ≡ 1
one-done s h = unfold is_one_stack in omega (arith, eqb-true)

pub done-one : (s : Stack) → s.done ≡ 1 → is_one_stack operator_field s ≡ true
done-one s e = unfold is_one_stack in rw e refl

-- As many trees are done as a word asks for, and the tree fits.
abbrev pub stack_walk : Walk Stack
stack_walk =
    record {
      after = stack_after;
      begun = λ s. s.begun;
      asked = λ field w s. trees_asked field w;
      there = λ field w s. s.done;
      nodes = λ field w s. least_nodes field (stack_after field w s);
      whole = is_one_stack;
      fault = stack_fault;
      at-end = stack-end;
      at-word = stack-word;
      between = stack-between;
      more = stack-more;
      few = λ field w s h. (least-within field (stack_after field w s)).0;
    }

-- A count that leaves one tree, or before which there is room for one node more.
pub least-one : (s : Stack) → s.done ≤ 1 → s.begun ≤ most_nodes → least_nodes count_field s ≤ most_nodes
least-one s h b = unfold least_nodes in rw (le-leb s.done 1 h, least_nodes) b

least_more : (s : Stack) → s.begun < most_nodes → least_nodes count_field s ≤ most_nodes
least_more s b = unfold least_nodes in either (λ n. n ≤ most_nodes) (leb s.done 1) _ _ (omega arith) (omega arith)

-- ---- A tree's words have no fault

-- The trees done and the nodes begun after a node's seven words.
abbrev pub with_node : Stack → ℕ → Stack
with_node s n = record { done = suc (s.done - n); begun = suc s.begun }

pub node-continues : (k : Token) → Legal k → (n : ℕ) → n < 2 ^ 14 → (i v : ℕ) (s : Stack) (ws : List ℕ) → n ≤ s.done
    → s.begun < most_nodes
    → least_nodes count_field (with_node s n) ≤ most_nodes
    → ((i v : ℕ) → stack_fault i operator_field v (with_node s n) ws ≡ none)
    → stack_fault i operator_field v s (node_words_of k n ++ ws) ≡ none
unfolding node_words_of token_words next_in_node stack_after trees_asked least_nodes
node-continues k h n m i v s ws b c few later =
    let low = low_word 6 n (omega arith) in
    node-goes stack_walk k h n m i v s ws (rw low (omega arith)) (rw low later)

-- A node's words stand after those of its children.
pub words-after : (k : Token) (cs rest : Forest) (ws : List ℕ)
    → stack_words (node k cs rest) ++ ws ≡ stack_words cs ++ (node_words_of k (count cs) ++ (stack_words rest ++ ws))
words-after k cs rest ws = unfold stack_words in simp append_assoc

-- The words of legal trees, where a node is still to come.
trees-continue : {f : Forest} → LegalTrees f → (i v : ℕ) (s t : Stack) (ws : List ℕ) → s.begun + size f < most_nodes
    → t.done ≡ s.done + count f
    → t.begun ≡ s.begun + size f
    → ((i v : ℕ) → stack_fault i operator_field v t ws ≡ none)
    → stack_fault i operator_field v s (stack_words f ++ ws) ≡ none
unfolding stack_words count size
trees-continue no_trees i v s t ws b p q later =
    let done : t.done ≡ s.done = omega arith in
    let begun : t.begun ≡ s.begun = omega arith in
    let same : t ≡ s = λ j. record { done = done j; begun = begun j } in
    rw same at (later i v)
trees-continue (legal_tree {k = k} {cs = cs} {rest = rest} h n below after) i v s t ws b p q later =
    let inside : Stack = record { done = s.done + count cs; begun = s.begun + size cs } in
    rw (words-after k cs rest ws)
    (trees-continue below i v s inside (node_words_of k (count cs) ++ (stack_words rest ++ ws)) (omega arith) refl refl
    (λ i v. node-continues k h (count cs) n i v inside (stack_words rest ++ ws) (omega arith) (omega arith)
    (least_more (with_node inside (count cs)) (omega arith))
    (λ i v. trees-continue after i v (with_node inside (count cs)) t ws (omega arith) (omega arith) (omega arith) later)))

-- No answer 24: the root leaves one tree done.
pub stack-unfaulted : (k : Token) (cs : Forest) → LegalTrees (node k cs nil) → size (node k cs nil) ≤ most_nodes
    → stack_fault 0 operator_field 0 (record { done = 0; begun = 0 }) (stack_words (node k cs nil)) ≡ none
unfolding stack_words size stack_fault
stack-unfaulted k cs (legal_tree h n below after) b =
    let children : Stack = record { done = count cs; begun = size cs } in
    trees-continue below 0 0 (record { done = 0; begun = 0 }) children (node_words_of k (count cs) ++ []) (omega arith) (omega arith)
    (omega arith)
    (λ i v. node-continues k h (count cs) n i v children [] (omega arith) (omega arith)
    (least-one (with_node children (count cs)) (omega arith) (omega arith))
    (λ i v. must-true _ i (done-one (with_node children (count cs)) (omega arith))))

-- ---- Words without fault are a tree's

words-beside : (f g : Forest) → stack_words (beside f g) ≡ stack_words f ++ stack_words g
unfolding stack_words beside
words-beside nil g = refl
words-beside (node k cs rest) g = rw (words-beside rest g) (sym (words-after k cs rest (stack_words g)))

-- The words of trees that were gathered before others.
words-turned : (d f : Forest) → stack_words (turned_onto d f) ≡ stack_words (in_order d) ++ stack_words f
words-turned d f = rw (turned_onto-beside d f) (words-beside (in_order d) f)

turned-parts : (f g o : Forest) → turned_onto (beside f g) o ≡ turned_onto g (turned_onto f o)
unfolding turned_onto beside
turned-parts nil g o = refl
turned-parts (node k cs rest) g o = turned-parts rest g (node k cs o)

words-parts : (f g : Forest) → stack_words (in_order (beside f g)) ≡ stack_words (in_order g) ++ stack_words (in_order f)
words-parts f g = unfold in_order in rw (turned-parts f g nil) (words-turned g (in_order f))

words-node : (k : Token) (cs d : Forest)
    → stack_words (in_order (node k cs d)) ≡ stack_words (in_order d) ++ (stack_words cs ++ node_words_of k (count cs))
words-node k cs d = unfold in_order turned_onto stack_words in words-turned d (node k cs nil) ∙ rw (append-nil (node_words_of k (count cs))) refl

-- The trees done so far, the last first: with the words still to come they are all the words.
record Gathered (s : Stack) (ws all : List ℕ) : Type 0 where
  forest : Forest
  legal : LegalTrees forest
  counted : count forest ≡ s.done
  sized : size forest ≡ s.begun
  words : all ≡ stack_words (in_order forest) ++ ws

-- A node takes the last of them as its children.
gathered-node : (a b c d e n g : ℕ) (ws all : List ℕ) (s : Stack) → NodeRead a b c d e n g → low_of n ≤ s.done
    → Gathered s (a ∷ b ∷ c ∷ d ∷ e ∷ n ∷ g ∷ ws) all
    → Gathered (with_node s (low_of n)) ws all
unfolding count size stack_words
gathered-node a b c d e n g ws all s r enough t =
    let p = parted (low_of n) t.forest (omega arith) in
    let halves = legal-beside p.first p.others (rw p.is at t.legal) in
    let k = node_of a b c d e g in
    let children = in_order p.first in
    let counted : count children ≡ low_of n = reversed-count p.first ∙ p.counted in
    let own : node_words_of k (count children) ≡ a ∷ b ∷ c ∷ d ∷ e ∷ n ∷ g ∷ [] = rw counted r.words in
    let before = stack_words (in_order p.others) in
    let same : stack_words (in_order t.forest) ≡ before ++ stack_words children =
    ap (λ (f : Forest). stack_words (in_order f)) p.is ∙ words-parts p.first p.others
    in
    record {
      forest = node k children p.others;
      legal = legal_tree {cs = children} r.legal (rw counted r.few) (legal-in_order halves.0) halves.1;
      counted = omega (arith, count-beside p.first p.others, ap count p.is);
      sized = omega (arith, size-beside p.first p.others, ap size p.is, reversed-size p.first);
      words = t.words ∙ rw (same, words-node k children p.others, own) (simp append_assoc);
    }

-- All the words, if those to come have no fault.
gathered-tree : (i v : ℕ) (s : Stack) (ws : List ℕ) → stack_fault i operator_field v s ws ≡ none → (all : List ℕ) → Gathered s ws all
    → s.begun ≤ most_nodes
    → IsOneTree stack_words all
unfolding next_in_node stack_after trees_asked least_nodes
gathered-tree =
    along stack_walk (λ s ws. (all : List ℕ) → Gathered s ws all → s.begun ≤ most_nodes → IsOneTree stack_words all)
    (λ s h all t b.
    one-tree stack_words all (in_order t.forest) (legal-in_order t.legal)
    (reversed-count t.forest ∙ (t.counted ∙ one-done s h))
    (omega (arith, reversed-size t.forest))
    (t.words ∙ append-nil (stack_words (in_order t.forest))))
    (λ a b c d e n g ws s r operator counted later all t few.
    later all (gathered-node a b c d e n g ws all s r counted.0 t) operator.1)

-- ANSWER 24 IS GIVEN TO EXACTLY THE WORDS THAT ARE NOT ONE TREE of at most 12,288 nodes in stack order.
pub stack-fault-none : (ws : List ℕ) → (stack_fault 0 operator_field 0 (record { done = 0; begun = 0 }) ws ≡ none) ↔ IsOneTree stack_words ws
unfolding in_order turned_onto stack_words count size
stack-fault-none ws = (
  λ h.
      gathered-tree 0 0 (record { done = 0; begun = 0 }) ws h ws
      (record { forest = nil; legal = no_trees; counted = refl; sized = refl; words = refl }) (omega arith),
  λ t. rw t.words (stack-unfaulted t.root t.children t.legal t.few),
)

-- Answer 24's place.
pub stack-place : (ws : List ℕ) (p : ℕ) → stack_fault 0 operator_field 0 (record { done = 0; begun = 0 }) ws ≡ some p → p ≤ 86016
stack-place ws p e = place stack_walk p ws 0 operator_field 0 (record { done = 0; begun = 0 }) (omega arith) (omega arith) e
