-- EXPORT AND IMPORT UNDO EACH OTHER: trees are read back from stack order, both entries accept exactly the words of one tree that the
-- output has room for, and either gives back what the other was given.
use Prim.Native.Nat.{ℕ, ◌*◌, ◌/◌, ◌^◌, ◌≤◌, ◌<◌}
use mathlib.Core.{Path.{◌≡◌, refl, ap, sym, ◌∙◌}, List.{List, [], ◌∷◌, ◌++◌, append-nil}, Logic.{◌↔◌}, Option.{Option, none}}
use native.Mathlib.Omega.{arith}
use lib.{Dec.{leb}, ListN.{length, take, length-append}}
use borrow.Author.Tests.{leb-true, le-leb}
use Rattle.molang.specs.Forest.{Token, Forest, nil, node, turned_onto, in_order, count, size}
use Rattle.molang.specs.{Words.{token_words, node_words_of, tree_words, with_number}, Legal.{Legal, LegalTrees, no_trees, legal_tree}}
use Rattle.molang.specs.{FirstFailure.{first_of}, Parse.{in_front}, WriteEntry.{first_trees, other_trees, trees_of}}
use Rattle.molang.specs.StackOrder.{stack_words, stack_trees, ReorderCall, output_refusal, export_refusal, import_refusal, reordered}
use Rattle.molang.specs.StackOrder.{reorder_told, output_in, export_answered, exported_after, import_answered, imported_after, IsOneTree}
use Rattle.molang.specs.StackOrder.{handed_on, Undone}
use Rattle.molang.proofs.FirstFailure.{first-none, then-none, passed, passes, all-passed, with_number-none}
use Rattle.molang.proofs.{Words.{low_word, node-back, first-beside, other-beside, trees-back}, Bounds.{tree_words-length}}
use Rattle.molang.proofs.{Forests.{in_order-turned, reversed-count}, Rows.{turned_onto-beside}, TreeWords.{tree-fault-none}}
use Rattle.molang.proofs.{StackWords.{words-after, stack-fault-none}, HandedTree.{front-words}}

-- ---- Trees are read back

-- Trees that were gathered last are the first of the list.
gathered-first : (f d : Forest) → in_order (first_trees (count f) (turned_onto f d)) ≡ f
gathered-first f d = unfold in_order in rw (turned_onto-beside f d, ← reversed-count f, first-beside (in_order f) d) (in_order-turned f)

gathered-others : (f d : Forest) → other_trees (count f) (turned_onto f d) ≡ d
gathered-others f d = rw (turned_onto-beside f d, ← reversed-count f) (other-beside (in_order f) d)

-- A node takes its children from the trees done.
node-onto : (k : Token) → Legal k → (n : ℕ) → n < 2 ^ 14 → (d : Forest) (ws : List ℕ)
    → stack_trees d (node_words_of k n ++ ws) ≡ stack_trees (node k (in_order (first_trees n d)) (other_trees n d)) ws
node-onto k h n b d ws = unfold stack_trees node_words_of token_words in rw (node-back k h, low_word 6 n (omega arith)) refl

-- After the words of legal trees, these are done.
pub stack-onto : {f : Forest} → LegalTrees f → (done : Forest) (ws : List ℕ)
    → stack_trees done (stack_words f ++ ws) ≡ stack_trees (turned_onto f done) ws
unfolding stack_words turned_onto
stack-onto no_trees done ws = refl
stack-onto (legal_tree {k = k} {cs = cs} {rest = rest} h n below after) done ws =
    ap (stack_trees done) (words-after k cs rest ws)
    ∙ (stack-onto below done (node_words_of k (count cs) ++ (stack_words rest ++ ws))
    ∙ (node-onto k h (count cs) n (turned_onto cs done) (stack_words rest ++ ws)
    ∙ rw (gathered-first cs done, gathered-others cs done) (stack-onto after (node k cs done) ws)))

-- Legal trees are read back from their words.
pub stack-back : (f : Forest) → LegalTrees f → stack_trees nil (stack_words f) ≡ f
stack-back f h = unfold stack_trees in ap (stack_trees nil) (sym (append-nil (stack_words f))) ∙ (stack-onto h nil [] ∙ in_order-turned f)

-- Seven words to a node.
pub stack_words-length : (f : Forest) → length (stack_words f) ≡ 7 * size f
unfolding stack_words node_words_of token_words size
stack_words-length nil = refl
stack_words-length (node k cs rest) = simp length-append (omega (arith, stack_words-length cs, stack_words-length rest))

-- ---- One tree

-- The tree that the words are is the one that is read from them.
pub trees-of-tree : {ws : List ℕ} (t : IsOneTree tree_words ws) → trees_of ws ≡ node t.root t.children nil
trees-of-tree t = ap trees_of t.words ∙ trees-back (node t.root t.children nil) t.legal

pub trees-of-stack : {ws : List ℕ} (t : IsOneTree stack_words ws) → stack_trees nil ws ≡ node t.root t.children nil
trees-of-stack t = ap (stack_trees nil) t.words ∙ stack-back (node t.root t.children nil) t.legal

-- Its words are seven to a node.
pub tree-length : {ws : List ℕ} (t : IsOneTree tree_words ws) → length ws ≡ 7 * size (node t.root t.children nil)
tree-length t = ap length t.words ∙ tree_words-length (node t.root t.children nil)

pub stack-length : {ws : List ℕ} (t : IsOneTree stack_words ws) → length ws ≡ 7 * size (node t.root t.children nil)
stack-length t = ap length t.words ∙ stack_words-length (node t.root t.children nil)

-- At most 86,016 of them.
pub tree-few : {ws : List ℕ} → IsOneTree tree_words ws → length ws ≤ 86016
tree-few t = omega (arith, tree-length t, t.few)

pub stack-few : {ws : List ℕ} → IsOneTree stack_words ws → length ws ≤ 86016
stack-few t = omega (arith, stack-length t, t.few)

-- ---- Accepted calls

-- The words are one tree in the order of `in_words`, and the output is long enough.
pub record Reorderable (in_words : Forest → List ℕ) (c : ReorderCall) : Type 0 where
  pub one_tree : IsOneTree in_words c.words
  pub room : length c.words ≤ length c.output

-- Answers 12 and 24 first, then 25.
accepts : (in_words : Forest → List ℕ) (c : ReorderCall) (number : ℕ) (fault : Option ℕ) → (fault ≡ none) ↔ IsOneTree in_words c.words
    → (first_of (with_number number fault ∷ output_refusal c ∷ []) ≡ none) ↔ Reorderable in_words c
unfolding output_refusal
accepts in_words c number fault decides = (
  λ h.
      let x = first-none (with_number number fault) _ h in
      let y = passed (leb (length c.words) (length c.output)) _ [] x.1 in
      record { one_tree = decides.0 (with_number-none number fault x.0); room = leb-true _ _ y.0 },
  λ r.
      then-none _ _ (ap (with_number number) (decides.1 r.one_tree)) (passes _ _ [] (le-leb _ _ r.room) all-passed),
)

-- EXPORT ACCEPTS EXACTLY the calls whose words are one tree and whose output is not shorter.
pub export-accepts : (c : ReorderCall) → (export_refusal c ≡ none) ↔ Reorderable tree_words c
export-accepts c = unfold export_refusal in accepts tree_words c 12 _ (tree-fault-none c.words)

-- IMPORT ACCEPTS EXACTLY the calls whose words are one tree in stack order and whose output is not shorter.
pub import-accepts : (c : ReorderCall) → (import_refusal c ≡ none) ↔ Reorderable stack_words c
import-accepts c = unfold import_refusal in accepts stack_words c 24 _ (stack-fault-none c.words)

-- What an accepted call tells and leaves.
module _ (c : ReorderCall) where
  pub export-tells : export_refusal c ≡ none → export_answered c ≡ reordered (length c.words / 7)
  export-tells h = unfold export_answered reorder_told in rw h refl

  pub import-tells : import_refusal c ≡ none → import_answered c ≡ reordered (length c.words / 7)
  import-tells h = unfold import_answered reorder_told in rw h refl

  pub export-leaves : export_refusal c ≡ none → (t : IsOneTree tree_words c.words)
      → exported_after c ≡ in_front (stack_words (node t.root t.children nil)) c.output
  export-leaves h t = unfold exported_after output_in in rw (h, trees-of-tree t) refl

  pub import-leaves : import_refusal c ≡ none → (t : IsOneTree stack_words c.words)
      → imported_after c ≡ in_front (tree_words (node t.root t.children nil)) c.output
  import-leaves h t = unfold imported_after output_in in rw (h, trees-of-stack t) refl

-- ---- Undoing

-- AN EXPORT IS UNDONE by an import of the words that it left.
pub export-undone : (c : ReorderCall) (output : List ℕ) → export_refusal c ≡ none → length c.words ≤ length output
    → Undone import_answered imported_after c (handed_on exported_after c output)
unfolding handed_on
export-undone c output h room =
    let t = ((export-accepts c).0 h).one_tree in
    let f = node t.root t.children nil in
    let long : length (stack_words f) ≡ length c.words = stack_words-length f ∙ sym (tree-length t) in
    let left : take (length c.words) (exported_after c) ≡ stack_words f =
    rw (export-leaves c h t) (front-words (stack_words f) c.output (length c.words) long)
    in
    let again = handed_on exported_after c output in
    let one : IsOneTree stack_words again.words =
    record { root = t.root; children = t.children; legal = t.legal; few = t.few; words = left }
    in
    let same : length again.words ≡ length c.words = ap length left ∙ long in
    let accepted = (import-accepts again).1 (record { one_tree = one; room = rw same room }) in
    record {
      tells = import-tells again accepted ∙ rw same refl;
      words = import-leaves again accepted one ∙ ap (λ (ws : List ℕ). in_front ws output) (sym t.words);
    }

-- AN IMPORT IS UNDONE by an export of the words that it left.
pub import-undone : (c : ReorderCall) (output : List ℕ) → import_refusal c ≡ none → length c.words ≤ length output
    → Undone export_answered exported_after c (handed_on imported_after c output)
unfolding handed_on
import-undone c output h room =
    let t = ((import-accepts c).0 h).one_tree in
    let f = node t.root t.children nil in
    let long : length (tree_words f) ≡ length c.words = tree_words-length f ∙ sym (stack-length t) in
    let left : take (length c.words) (imported_after c) ≡ tree_words f =
    rw (import-leaves c h t) (front-words (tree_words f) c.output (length c.words) long)
    in
    let again = handed_on imported_after c output in
    let one : IsOneTree tree_words again.words =
    record { root = t.root; children = t.children; legal = t.legal; few = t.few; words = left }
    in
    let same : length again.words ≡ length c.words = ap length left ∙ long in
    let accepted = (export-accepts again).1 (record { one_tree = one; room = rw same room }) in
    record {
      tells = export-tells again accepted ∙ rw same refl;
      words = export-leaves again accepted one ∙ ap (λ (ws : List ℕ). in_front ws output) (sym t.words);
    }
