-- ANSWER 12 IS GIVEN to no words of a legal tree of at most 12,288 nodes, and to all other words.
use Prim.Native.Nat.{ℕ, suc, ◌+◌, ◌-◌, ◌^◌, ◌≤◌, ◌<◌}
use mathlib.Core.{Path.{◌≡◌, refl, ap, ◌∙◌}, Bool.{true, false, ◌&&◌}, List.{List, [], ◌∷◌, ◌++◌, append_assoc, append-nil}, Logic.{◌↔◌}}
use mathlib.Core.Option.{none, some}
use native.Mathlib.Omega.{arith}
use lib.Dec.{leb}
use borrow.Author.Tests.{eqb-true, eq-eqb}
use Rattle.molang.specs.Forest.{Token, Forest, nil, node, count, size}
use Rattle.molang.specs.Words.{low_of, node_of, token_words, node_words_of, tree_words, Field, operator_field}
use Rattle.molang.specs.Words.{word_fault, variant_after}
use Rattle.molang.specs.{Legal.{Legal, LegalTrees, no_trees, legal_tree}, FirstFailure.{must, first_of}}
use Rattle.molang.specs.{WriteEntry.{most_nodes, next_in_node, Shape, shape_after, continues, is_whole, tree_fault}, StackOrder.{IsOneTree}}
use Rattle.molang.proofs.{Trees.{count-size}, Booleans.{false-true}, FirstFailure.{must-true}, Words.{low_word, beside}}
use Rattle.molang.proofs.Rows.{parted, count-beside, size-beside, legal-beside, one-tree}
use Rattle.molang.proofs.NodeWalk.{by_field, Between, begins, Walk, place, node-goes, NodeRead, along}

-- ---- Answer 12's walk

pub tree-word : (i : ℕ) (field : Field) (v : ℕ) (s : Shape) (w : ℕ) (ws : List ℕ)
    → tree_fault i field v s (w ∷ ws)
    ≡ first_of
    (must (elim (word_fault field v w)
    [ some n ↦ false | none ↦ leb (shape_after field w s).begun s.called && leb (shape_after field w s).called most_nodes ]) i
    ∷ tree_fault (suc i) (next_in_node field) (variant_after field v w) (shape_after field w s) ws
    ∷ [])
tree-word i field v s w ws = unfold tree_fault continues in refl

pub tree-end : (i : ℕ) (field : Field) (v : ℕ) (s : Shape) → tree_fault i field v s [] ≡ must (is_whole field s) i
tree-end i field v s = unfold tree_fault in refl

pub tree-between : (field : Field) (s : Shape) → is_whole field s ≡ true → Between field
unfolding is_whole
tree-between field s =
    by_field (λ f. is_whole f s ≡ true → Between f) (λ e. tt) false-true false-true false-true false-true false-true false-true field

pub tree-more : (field : Field) (w : ℕ) (s : Shape) → (shape_after field w s).begun ≡ s.begun + begins field
unfolding shape_after
tree-more field w s =
    by_field (λ f. (shape_after f w s).begun ≡ s.begun + begins f) (omega arith) (omega arith) (omega arith) (omega arith) (omega arith)
    (omega arith) (omega arith) field

-- No word calls for less than was called for.
pub tree-few : (field : Field) (w : ℕ) (s : Shape) → (shape_after field w s).begun ≤ s.called
    → (shape_after field w s).begun ≤ (shape_after field w s).called
unfolding shape_after
tree-few field w s =
    by_field (λ f. (shape_after f w s).begun ≤ s.called → (shape_after f w s).begun ≤ (shape_after f w s).called) (λ h. h) (λ h. h) (λ h. h)
    (λ h. h) (λ h. h) (λ h. omega arith) (λ h. h) field

-- A node is still called for, and no more nodes are than fit.
abbrev pub tree_walk : Walk Shape
tree_walk =
    record {
      after = shape_after;
      begun = λ s. s.begun;
      asked = λ field w s. (shape_after field w s).begun;
      there = λ field w s. s.called;
      nodes = λ field w s. (shape_after field w s).called;
      whole = is_whole;
      fault = tree_fault;
      at-end = tree-end;
      at-word = tree-word;
      between = tree-between;
      more = tree-more;
      few = tree-few;
    }

-- ---- A tree's words have no fault

-- The shape after a node's seven words.
abbrev pub with_node : Shape → ℕ → Shape
with_node s n = record { called = s.called + n; begun = suc s.begun }

pub node-continues : (k : Token) → Legal k → (n : ℕ) → n < 2 ^ 14 → (i v : ℕ) (s : Shape) (ws : List ℕ) → s.begun < s.called
    → s.called + n ≤ most_nodes
    → ((i v : ℕ) → tree_fault i operator_field v (with_node s n) ws ≡ none)
    → tree_fault i operator_field v s (node_words_of k n ++ ws) ≡ none
unfolding node_words_of token_words next_in_node shape_after
node-continues k h n m i v s ws b c later =
    let low = low_word 6 n (omega arith) in
    node-goes tree_walk k h n m i v s ws (rw low (omega arith)) (rw low later)

-- The words of legal trees, before words that a tree may go on with.
trees-continue : {f : Forest} → LegalTrees f → (i v : ℕ) (s t : Shape) (ws : List ℕ) → s.begun + count f ≤ s.called
    → s.called + size f ≤ most_nodes + count f
    → t.begun ≡ s.begun + size f → t.called + count f ≡ s.called + size f → ((i v : ℕ) → tree_fault i operator_field v t ws ≡ none)
    → tree_fault i operator_field v s (tree_words f ++ ws) ≡ none
unfolding tree_words count size
trees-continue no_trees i v s t ws b c p q later =
    let called : t.called ≡ s.called = omega arith in
    let begun : t.begun ≡ s.begun = omega arith in
    let same : t ≡ s = λ j. record { called = called j; begun = begun j } in
    rw same at (later i v)
trees-continue (legal_tree {k = k} {cs = cs} {rest = rest} h n below after) i v s t ws b c p q later =
    let few = count-size rest in
    let between : Shape = record { called = s.called + size cs; begun = suc s.begun + size cs } in
    let own = node_words_of k (count cs) in
    rw (append_assoc own (tree_words cs ++ tree_words rest) ws, append_assoc (tree_words cs) (tree_words rest) ws)
    (node-continues k h (count cs) n i v s (tree_words cs ++ (tree_words rest ++ ws)) (omega arith) (omega (arith, count-size cs))
    (λ i v. trees-continue below i v (with_node s (count cs)) between (tree_words rest ++ ws) (omega arith) (omega arith) (omega arith)
    (omega arith)
    (λ i v. trees-continue after i v between t ws (omega arith) (omega arith) (omega arith) (omega arith) later)))

-- No answer 12.
pub tree-unfaulted : (k : Token) (cs : Forest) → LegalTrees (node k cs nil) → size (node k cs nil) ≤ most_nodes
    → tree_fault 0 operator_field 0 (record { called = 1; begun = 0 }) (tree_words (node k cs nil)) ≡ none
unfolding tree_fault is_whole count size
tree-unfaulted k cs h b =
    let n = size (node k cs nil) in
    rw append-nil at (trees-continue h 0 0 (record { called = 1; begun = 0 }) (record { called = n; begun = n }) [] (omega arith)
    (omega arith)
    (omega arith) (omega arith)
    (λ i v. must-true _ i (eq-eqb n n refl)))

-- ---- Words without fault are a tree's

-- The words are so many legal trees, of at most so many nodes.
record Trees (trees most : ℕ) (ws : List ℕ) : Type 0 where
  forest : Forest
  legal : LegalTrees forest
  counted : count forest ≡ trees
  few : size forest ≤ most
  words : ws ≡ tree_words forest

words-beside : (f g : Forest) → tree_words (beside f g) ≡ tree_words f ++ tree_words g
unfolding tree_words beside
words-beside nil g = refl
words-beside (node k cs rest) g = rw (words-beside rest g) (simp append_assoc)

-- A node, before trees of which the first are its children.
node-trees : (a b c d e n g : ℕ) (ws : List ℕ) (trees most later fewer : ℕ) → NodeRead a b c d e n g → Trees later fewer ws
    → suc later ≡ trees + low_of n
    → low_of n ≤ later
    → fewer < most
    → Trees trees most (a ∷ b ∷ c ∷ d ∷ e ∷ n ∷ g ∷ ws)
unfolding count size tree_words
node-trees a b c d e n g ws trees most later fewer r t same enough room =
    let p = parted (low_of n) t.forest (omega arith) in
    let halves = legal-beside p.first p.others (rw p.is at t.legal) in
    let words : ws ≡ tree_words p.first ++ tree_words p.others =
    t.words ∙ (ap tree_words p.is ∙ words-beside p.first p.others)
    in
    record {
      forest = node (node_of a b c d e g) p.first p.others;
      legal = legal_tree {cs = p.first} r.legal (rw p.counted r.few) halves.0 halves.1;
      counted = omega (arith, count-beside p.first p.others, ap count p.is);
      few = omega (arith, size-beside p.first p.others, ap size p.is);
      words = rw (p.counted, r.words, ← words) refl;
    }

-- Words without fault are as many trees as are still called for.
unfaulted-trees : (i v : ℕ) (s : Shape) (ws : List ℕ) → tree_fault i operator_field v s ws ≡ none → s.begun ≤ s.called
    → s.called ≤ most_nodes
    → Trees (s.called - s.begun) (most_nodes - s.begun) ws
unfolding next_in_node shape_after is_whole count size tree_words
unfaulted-trees =
    along tree_walk (λ s ws. s.begun ≤ s.called → s.called ≤ most_nodes → Trees (s.called - s.begun) (most_nodes - s.begun) ws)
    (λ s h b c.
    let same = eqb-true s.begun s.called h in
    record { forest = nil; legal = no_trees; counted = omega arith; few = omega arith; words = refl })
    (λ a b c d e n g ws s r operator counted later within fit.
    node-trees a b c d e n g ws (s.called - s.begun) (most_nodes - s.begun) (s.called + low_of n - suc s.begun)
    (most_nodes - suc s.begun) r
    (later (omega arith) (omega arith)) (omega arith) (omega arith) (omega arith))

-- ANSWER 12 IS GIVEN TO EXACTLY THE WORDS THAT ARE NOT ONE TREE of at most 12,288 nodes.
pub tree-fault-none : (ws : List ℕ) → (tree_fault 0 operator_field 0 (record { called = 1; begun = 0 }) ws ≡ none) ↔ IsOneTree tree_words ws
tree-fault-none ws = (
  λ h.
      let t = unfaulted-trees 0 0 (record { called = 1; begun = 0 }) ws h (omega arith) (omega arith) in
      one-tree tree_words ws t.forest t.legal t.counted t.few t.words,
  λ t. rw t.words (tree-unfaulted t.root t.children t.legal t.few),
)

-- Answer 12's place.
pub tree-place : (ws : List ℕ) (p : ℕ) → tree_fault 0 operator_field 0 (record { called = 1; begun = 0 }) ws ≡ some p → p ≤ 86016
tree-place ws p e = place tree_walk p ws 0 operator_field 0 (record { called = 1; begun = 0 }) (omega arith) (omega arith) e
