-- Between a first reading and the writer: the words of the tree that a parse call leaves in front of its tree buffer, and what the write
-- entry makes of them.
use Prim.Native.Nat.{ℕ, ◌*◌, ◌≤◌, ◌<◌}
use mathlib.Core.{Path.{◌≡◌, refl, ap, sym, ◌∙◌}, Bool.{Bool, true, false}, List.{List, ◌++◌}, Option.{Option, none, some}}
use native.Mathlib.Omega.{arith}
use lib.{Dec.{leb}, ListN.{length, take, drop}, Seq.{take-append_seam}}
use borrow.Author.Tests.{leb-true, leb-false, le-leb, lt-leb}
use Rattle.molang.specs.{Forest.{Token, Forest, nil, node, size}, Read.{Answer, tree, messages}}
use Rattle.molang.specs.{Words.{Refusal, row, with_number, operator_field, list_words, tree_words}, Legal.{LegalTrees, legal_tree}}
use Rattle.molang.specs.Parse.{Call, most_tokens, refusal, reading, a_tree, told, answered, in_front, tree_in, tree_after}
use Rattle.molang.specs.{FirstFailure.{must, first_of}, Reread.{bracketless}, Plain.{unplain_at}}
use Rattle.molang.specs.Write.{written_tree, taken_away, comparable}
use Rattle.molang.specs.WriteEntry.{tree_fault, trees_of, WriteCall, forest_refusal, write_refusal, written_tokens, tokens, unwritten}
use Rattle.molang.specs.WriteEntry.{write_told, write_answered, list_in, list_after}
use Rattle.molang.proofs.{FirstFailure.{first-none, passed, with_number-none, after_none}, Bounds.{tree_words-length}}
use Rattle.molang.proofs.{Words.{LegalTokens, AtEnds, tokens-end}, Legal.{read-legal, read_back, read-unfaulted}}
use Rattle.molang.proofs.{ListWords.{list_words-length, written_tree-legal}, Accepted.{call-accepted}}
use Rattle.molang.proofs.Closes.{read-closes, plain-ends}

-- A parse call that is not turned back and reads the tree k over cs.
pub record Parsed (c : Call) (k : Token) (cs : Forest) : Type 0 where
  pub accepted : refusal c ≡ none
  pub reads : reading c ≡ tree k cs

-- The words in front of a buffer are found there.
pub front-words : (ws buffer : List ℕ) (n : ℕ) → length ws ≡ n → take n (in_front ws buffer) ≡ ws
unfolding in_front
front-words ws buffer n h = ap (λ (m : ℕ). take m (ws ++ drop (length ws) buffer)) (sym h) ∙ take-append_seam ws (drop (length ws) buffer)

-- Answers 13-15 are all that words may get that are a tree's.
pub whole-tree : (w : WriteCall) → tree_fault 0 operator_field 0 (record { called = 1; begun = 0 }) w.tree ≡ none
    → write_refusal w ≡ forest_refusal (trees_of w.tree) (length w.list)
unfolding write_refusal
whole-tree w e =
    after_none (with_number 12 (tree_fault 0 operator_field 0 (record { called = 1; begun = 0 }) w.tree)) _ (ap (with_number 12) e)

-- The writing of a legal tree is legal.
pub root-legal : (k : Token) (cs : Forest) → LegalTrees (node k cs nil) → LegalTokens (written_tree k cs)
root-legal k cs (legal_tree h n below after) = written_tree-legal k cs h below

module _ {c : Call} {k : Token} {cs : Forest} (p : Parsed c k cs) where
  -- The call leaves the tree's words in front of the tree buffer, seven to a node, and answers the node count.
  pub tree-front : take (7 * size (node k cs nil)) (tree_after c) ≡ tree_words (node k cs nil)
  unfolding tree_after tree_in
  tree-front =
      rw (p.accepted, p.reads)
      (front-words (tree_words (node k cs nil)) c.tree (7 * size (node k cs nil)) (tree_words-length (node k cs nil)))

  pub tree-told : answered c ≡ a_tree (size (node k cs nil))
  tree-told = unfold answered told in rw (p.accepted, p.reads) refl

  -- The writer reads the tree back from these words, and does not answer 12 to them.
  pub tree-back : trees_of (tree_words (node k cs nil)) ≡ node k cs nil
  tree-back = unfold reading in let a = call-accepted c p.accepted in read_back _ _ _ _ k cs a.legal a.few p.reads

  pub tree-unfaulted : tree_fault 0 operator_field 0 (record { called = 1; begun = 0 }) (tree_words (node k cs nil)) ≡ none
  tree-unfaulted = unfold reading in let a = call-accepted c p.accepted in read-unfaulted _ _ _ _ k cs a.legal a.few p.reads

  pub front-bracketless : bracketless (take (7 * size (node k cs nil)) (tree_after c)) ≡ tree_words
      (comparable (taken_away false (node k cs nil) nil))
  front-bracketless = unfold bracketless in rw (tree-front, tree-back) refl

  -- All that is left of it, also in a script.
  pub front-left : tree_words (taken_away false (trees_of (take (7 * size (node k cs nil)) (tree_after c))) nil) ≡ tree_words
      (taken_away false (node k cs nil) nil)
  front-left = rw (tree-front, tree-back) refl

  -- The tree's writing is legal.
  pub tree-written-legal : LegalTokens (written_tree k cs)
  unfolding reading
  tree-written-legal =
      let a = call-accepted c p.accepted in root-legal k cs (read-legal _ _ _ _ k cs a.legal a.few p.reads)

  -- Where the tree is plain, each of its tokens closes at its own end.
  pub tree-written-ends : unplain_at k cs ≡ none → AtEnds (written_tree k cs)
  tree-written-ends plain = unfold reading in plain-ends k cs plain (read-closes _ _ _ _ k cs (tokens-end c.list) p.reads)

-- WHAT THE WRITER'S CALLER IS TOLD of the tree k over cs: 13 at the first node that is not plain, else 14 or 15 by the number of written
-- tokens and the lent list, else that number; never 12.
pub record WriterTells (k : Token) (cs : Forest) (w : WriteCall) : Type 0 where
  pub unplain : (n : ℕ) → unplain_at k cs ≡ some n → write_answered w ≡ unwritten 13 n
  pub too_many : unplain_at k cs ≡ none → most_tokens < length (written_tree k cs) → write_answered w ≡ unwritten 14 0
  pub no_room : unplain_at k cs ≡ none → length (written_tree k cs) ≤ most_tokens → length w.list < 5 * length (written_tree k cs)
      → write_answered w ≡ unwritten 15 0
  pub writes : unplain_at k cs ≡ none → length (written_tree k cs) ≤ most_tokens → 5 * length (written_tree k cs) ≤ length w.list
      → write_answered w ≡ tokens (length (written_tree k cs))

-- What a write call that is not turned back says of the tree, tells and leaves: the written words in front of the list, five to a token.
pub record Wrote (k : Token) (cs : Forest) (w : WriteCall) : Type 0 where
  pub plain : unplain_at k cs ≡ none
  pub few : length (written_tree k cs) ≤ most_tokens
  pub told : write_answered w ≡ tokens (length (written_tree k cs))
  pub front : take (5 * length (written_tree k cs)) (list_after w) ≡ list_words (written_tree k cs)

module _ (k : Token) (cs : Forest) (w : WriteCall) (whole : tree_fault 0 operator_field 0 (record { called = 1; begun = 0 }) w.tree ≡ none)
    (trees : trees_of w.tree ≡ node k cs nil) where
  write-refusal : write_refusal w ≡ forest_refusal (node k cs nil) (length w.list)
  write-refusal = rw trees at (whole-tree w whole)

  pub tree-tells : WriterTells k cs w
  unfolding write_answered write_told written_tokens forest_refusal first_of must
  tree-tells =
      let n = length (written_tree k cs) in
      record {
        unplain = λ i e. rw (write-refusal, e) refl;
        too_many = λ e over.
            let fits : leb n most_tokens ≡ false = lt-leb n most_tokens over in rw (write-refusal, e, fits) refl;
        no_room = λ e few short.
            let fits : leb n most_tokens ≡ true = le-leb n most_tokens few in
            let room : leb (5 * n) (length w.list) ≡ false = lt-leb (5 * n) (length w.list) short in
            rw (write-refusal, e, fits, room) refl;
        writes = λ e few long-enough.
            let fits : leb n most_tokens ≡ true = le-leb n most_tokens few in
            let room : leb (5 * n) (length w.list) ≡ true = le-leb (5 * n) (length w.list) long-enough in
            rw (write-refusal, e, fits, room, trees) refl;
      }

  pub tree-wrote : write_refusal w ≡ none → Wrote k cs w
  unfolding forest_refusal write_answered write_told written_tokens list_after list_in
  tree-wrote e =
      let ks = written_tree k cs in
      let plain = first-none _ _ (sym write-refusal ∙ e) in
      record {
        plain = with_number-none 13 _ plain.0;
        few = leb-true _ _ (passed (leb (length ks) most_tokens) (row 14 0) _ plain.1).0;
        told = rw (e, trees) refl;
        front = rw (e, trees) (front-words (list_words ks) w.list (5 * length ks) (list_words-length ks));
      }

module _ {c : Call} {k : Token} {cs : Forest} (p : Parsed c k cs) (w : WriteCall) (handed : w.tree ≡ tree_words (node k cs nil)) where
  pub writer-tells : WriterTells k cs w
  writer-tells = tree-tells k cs w (rw handed (tree-unfaulted p)) (ap trees_of handed ∙ tree-back p)

  pub write_done : write_refusal w ≡ none → Wrote k cs w
  write_done = tree-wrote k cs w (rw handed (tree-unfaulted p)) (ap trees_of handed ∙ tree-back p)

  -- So answer 12 is never given to what a parse call left.
  pub never-12 : (place : ℕ) → write_answered w ≡ unwritten 12 place → ⊥
  never-12 place h = split (unplain_at k cs) (leb n most_tokens) (leb (5 * n) (length w.list)) refl refl refl
    where
      n : ℕ
      n = length (written_tree k cs)

      split : (o : Option ℕ) (a b : Bool) → unplain_at k cs ≡ o → leb n most_tokens ≡ a → leb (5 * n) (length w.list) ≡ b → ⊥
      split (some i) a b e f g = let told = writer-tells.unplain i e in let same : ◌≡◌ {A = ℕ} 13 12 = cc in omega arith
      split none false b e f g =
          let told = writer-tells.too_many e (leb-false n most_tokens f) in let same : ◌≡◌ {A = ℕ} 14 12 = cc in omega arith
      split none true false e f g =
          let told = writer-tells.no_room e (leb-true n most_tokens f) (leb-false (5 * n) (length w.list) g) in
          let same : ◌≡◌ {A = ℕ} 15 12 = cc in omega arith
      split none true true e f g =
          let told = writer-tells.writes e (leb-true n most_tokens f) (leb-true (5 * n) (length w.list) g) in
          let same : ◌≡◌ {A = ℕ} 0 1 = cc in omega arith

-- A call that answers a tree of n nodes has read one.
pub record TreeTold (c : Call) (n : ℕ) : Type 0 where
  pub root : Token
  pub children : Forest
  pub parsed : Parsed c root children
  pub nodes : n ≡ size (node root children nil)

pub tree-of-told : (c : Call) (n : ℕ) → answered c ≡ a_tree n → TreeTold c n
unfolding answered told
tree-of-told c n h = split (refusal c) (reading c) refl refl
  where
    split : (o : Option Refusal) (a : Answer) → refusal c ≡ o → reading c ≡ a → TreeTold c n
    split (some r) a e f = let impossible : ◌≡◌ {A = ℕ} 0 1 = cc (rw (e, told) at h) in absurd (omega arith)
    split none (messages ms) e f = let impossible : ◌≡◌ {A = ℕ} 0 1 = cc (rw (e, f, told) at h) in absurd (omega arith)
    split none (tree k cs) e f =
        let said = rw (e, f, told) at h in
        record { root = k; children = cs; parsed = record { accepted = e; reads = f }; nodes = cc said }

-- A write call that answers a token count is not turned back.
pub write-of-told : (w : WriteCall) (n : ℕ) → write_answered w ≡ tokens n → write_refusal w ≡ none
unfolding write_answered write_told
write-of-told w n h = split (write_refusal w) refl
  where
    split : (o : Option Refusal) → write_refusal w ≡ o → write_refusal w ≡ none
    split none e = e
    split (some r) e = let impossible : ◌≡◌ {A = ℕ} 0 1 = cc (rw (e, write_told) at h) in absurd (omega arith)

-- One that is turned back leaves the list as it was.
pub unwritten-list : (w : WriteCall) (n p : ℕ) → write_answered w ≡ unwritten n p → list_after w ≡ w.list
unfolding write_answered write_told list_after list_in
unwritten-list w n p h = split (write_refusal w) refl
  where
    split : (o : Option Refusal) → write_refusal w ≡ o → list_after w ≡ w.list
    split none e = let impossible : ◌≡◌ {A = ℕ} 0 1 = cc (rw (e, write_told) at h) in absurd (omega arith)
    split (some r) e = rw e refl
