-- The writing in words: words laid into the list one after the other, and the tokens of a node as those of its operands.
use Prim.Native.Nat.{ℕ, suc, ◌+◌, ◌*◌, ◌%◌, ◌^◌, ◌≤◌, ◌<◌}
use native.Mathlib.{Nat.{zero-add}, Omega.{arith}}
use mathlib.Core.{Path.{◌≡◌, refl, ap, sym, ◌∙◌}, Bool.{Bool, true, false, not}, List.{List, [], ◌∷◌, ◌++◌, append_assoc, append-nil}}
use lib.{ListN.{length, drop, get_or}, Seq.{drop-drop}}
use borrow.Author.Tests.{eq-eqb, ne_eqb, eqb-true, eqb-false}
use Rattle.molang.{specs.Forest.{Token, Forest, nil, node, closed_by, unclosed, count, size}, specs.Operator.{is_bracket}}
use Rattle.molang.{specs.Words.{low_of, operator_bits, token_words, list_words}, specs.Read.{lowest_start, highest_end}}
use Rattle.molang.specs.Write.{spanning, opener_for, closer_for, closer_of, stands_left, stands_right, operand_tokens, written}
use Rattle.molang.{specs.WriteEntry.{first_trees, other_trees, trees_of}, proofs.Words.{beside}, proofs.OldWords.{old-bits}}
use Rattle.molang.proofs.Writing.{written_none, written_one, written-two, operand-before, written-before}
use Rattle.write.proofs.JudgeLaws.{unpaired-only, unpaired-bracket, unpaired-left, unpaired-right}
use Rattle.write.specs.{declared.plain.Seat.{Seat}, Seats.{is_paired, only_seat, left_seat, right_seat}}
use Rattle.write.specs.Spelling.{spanning_words, pair_opener, pair_closer, closer_words, seen_with, first_size, node_tokens, operand_of}
use Rattle.write.specs.Spelling.{node_written, operand_written}
use Rattle.shape.specs.Shaped.{count_index, close_index, first_five, Shaped}
use Rattle.shape.proofs.RowLaws.{Opened, after-trees, shaped-length, no_kids, one-kid, two-kids}
use Rattle.words.{specs.Extents.{wider, extent_with, first_extent}, specs.Fields.{operator_of}, specs.declared.extent.Extent.{Extent}}
use Rattle.words.{proofs.TreeLaws.{Fits, first_fits, in_one, extent-step}, specs.Tokens.{five_words, node_length}}

-- The words of a list of tokens.
pub list-words-append : (xs ys : List Token) → list_words (xs ++ ys) ≡ list_words xs ++ list_words ys
unfolding list_words
list-words-append [] ys = refl
list-words-append (x ∷ xs) ys = rw (list-words-append xs ys, append_assoc) refl

-- The closer's words, by whether the node is a bracket.
pub bracket-closer : (ws : List ℕ) → operator_of (get_or ws 0 0) ≡ 4 → closer_words ws ≡ pair_closer (get_or ws close_index 0)
bracket-closer ws e = unfold closer_words is_bracket in rw (eq-eqb (operator_of (get_or ws 0 0)) 4 e, closer_words)

pub no-closer : (ws : List ℕ) → (operator_of (get_or ws 0 0) ≡ 4 → ⊥) → closer_words ws ≡ []
no-closer ws e = unfold closer_words is_bracket in rw (ne_eqb (operator_of (get_or ws 0 0)) 4 e, closer_words)

-- The words of a section's closer, by where the section closes; and of its opener, which are those of its node.
section-closer : (k : Token) (g : ℕ) → k.close ≡ low_of g → token_words (closer_of k) ≡ pair_closer g
section-closer k g e = unfold token_words operator_bits closer_of spanning in rw e

section-opener : (k : Token) → token_words (unclosed k) ≡ token_words k
section-opener k = unfold token_words unclosed closed_by in refl

-- The words of a token over a span that fits them.
spanning-words : (o s t : ℕ) → o % 2 ^ 8 ≡ o → s < 2 ^ 29 → t < 2 ^ 29 → token_words (spanning o s t) ≡ five_words (spanning_words o s t)
unfolding token_words spanning low_of
spanning-words o s t h a b =
    let starts : s % 2 ^ 29 ≡ s = omega arith in
    let ends : t % 2 ^ 29 ≡ t = omega arith in
    rw (starts, ends, h, old-bits o 0 (omega arith), zero-add)

-- The words of an added pair over a tree.
module _ (k : Token) (cs rest : Forest) (h : Fits (first_extent (node k cs rest))) where
  opener-words : token_words (opener_for k cs) ≡ pair_opener (first_extent (node k cs rest)).start (first_extent (node k cs rest)).end
  opener-words = unfold opener_for first_extent in spanning-words 4 (lowest_start k.start cs) (highest_end k.end cs) refl h.0 h.1

  closer-words : token_words (closer_for k cs) ≡ pair_closer (first_extent (node k cs rest)).end
  closer-words = unfold closer_for first_extent in spanning-words 5 (highest_end k.end cs) (highest_end k.end cs) refl h.1 h.1

-- The spans of a node taken into an extent: its own, then those of the trees below it, which are as many as its count says.
node-spans : (W : List ℕ) (n : ℕ) → node_length ≤ length W → low_of (get_or W count_index 0) ≡ n → (e : Extent)
    → extent_with (wider e (get_or W 1 0) (get_or W 2 0)) (first_trees n (trees_of (drop node_length W))) ≡ seen_with e W
node-spans W n long is e = rw (zero-add, is) at (extent-step W 0 e long)

none-taken : (e : Extent) (f : Forest) → e ≡ extent_with e (first_trees 0 f)
none-taken e f = unfold extent_with first_trees lowest_start highest_end in refl

-- The tokens of a node, the words that its tree fills and the spans that are taken in, by the number of its children.
pub record NoneBelow (W : List ℕ) : Type 0 where
  pub words : node_written W ≡ first_five W ++ closer_words W
  pub fills : node_length * first_size (trees_of W) ≡ node_length
  pub spans : (e : Extent) → wider e (get_or W 1 0) (get_or W 2 0) ≡ seen_with e W

abbrev pub only_words : List ℕ → List ℕ
only_words W = operand_written (only_seat (operator_of (get_or W 0 0))) (drop node_length W)

pub record OneBelow (others : ℕ) (W : List ℕ) : Type 0 where
  pub shaped : Shaped 2 (suc others) (drop node_length W)
  pub words : node_written W ≡ first_five W ++ (only_words W ++ closer_words W)
  pub fills : node_length * first_size (trees_of W) ≡ node_length + node_length * first_size (trees_of (drop node_length W))
  pub spans : (e : Extent) → seen_with (wider e (get_or W 1 0) (get_or W 2 0)) (drop node_length W) ≡ seen_with e W

abbrev pub left_words : List ℕ → List ℕ
left_words W = operand_written (left_seat (operator_of (get_or W 0 0))) (drop node_length W)

abbrev pub left_size : List ℕ → ℕ
left_size W = node_length * first_size (trees_of (drop node_length W))

abbrev pub right_part : List ℕ → List ℕ
right_part W = drop (node_length + left_size W) W

abbrev pub right_words : List ℕ → List ℕ
right_words W = operand_written (right_seat (operator_of (get_or W 0 0))) (right_part W)

pub record TwoBelow (others : ℕ) (W : List ℕ) : Type 0 where
  pub left : Shaped 2 (suc (suc others)) (drop node_length W)
  pub right : Shaped 2 (suc others) (right_part W)
  pub words : node_written W ≡ left_words W ++ (first_five W ++ right_words W)
  pub fills : node_length * first_size (trees_of W) ≡ node_length + left_size W + node_length * first_size (trees_of (right_part W))
  pub spans : (e : Extent)
      → seen_with (seen_with (wider e (get_or W 1 0) (get_or W 2 0)) (drop node_length W)) (right_part W) ≡ seen_with e W

first-size : (f : Forest) → first_size f ≤ size f
unfolding first_size size
first-size nil = omega arith
first-size (node k cs rest) = omega arith

pub first-tree : (f : Forest) → size (first_trees 1 f) ≡ first_size f
unfolding first_trees first_size size
first-tree nil = refl
first-tree (node k cs rest) = omega arith

-- The first tree's words are some of all.
pub first-within : {most p : ℕ} {W : List ℕ} → Shaped most p W → node_length * first_size (trees_of W) ≤ length W
first-within {W = W} s = omega (arith, shaped-length s, first-size (trees_of W))

list-words-cons : (k : Token) (ks : List Token) → list_words (k ∷ ks) ≡ token_words k ++ list_words ks
list-words-cons k ks = unfold list_words in refl

pub list-words-one : (k : Token) → list_words (k ∷ []) ≡ token_words k
list-words-one k = unfold list_words in append-nil (token_words k)

pub list-words-none : list_words [] ≡ []
list-words-none = unfold list_words in refl

module _ {others : ℕ} {W : List ℕ} (o : Opened 2 (suc others) W) where
  closer-by : (b : Bool) → is_bracket o.k.op ≡ b
      → closer_words W ≡ (elim b as (λ t. List ℕ) [ true ↦ token_words (closer_of o.k) | false ↦ [] ])
  unfolding is_bracket
  closer-by true e =
      bracket-closer W (sym o.op ∙ eqb-true o.k.op 4 e) ∙ sym (section-closer o.k (get_or W close_index 0) o.close)
  closer-by false e = no-closer W (λ h. eqb-false o.k.op 4 e (o.op ∙ h))

  pub none_below : low_of (get_or W count_index 0) ≡ 0 → NoneBelow W
  unfolding node_tokens first_size size
  none_below e =
      let leaf : trees_of W ≡ node o.k nil o.rest = rw (← no_kids o.cs (o.children ∙ e)) o.trees in
      record {
        words = rw leaf (split (is_bracket o.k.op) refl);
        fills = rw leaf;
        spans = λ e'. none-taken (wider e' (get_or W 1 0) (get_or W 2 0)) (trees_of (drop node_length W)) ∙ node-spans W 0 o.long e e';
      }
    where
      split : (b : Bool) → is_bracket o.k.op ≡ b → list_words (written o.k nil []) ≡ first_five W ++ closer_words W
      split true h = rw (written_none true o.k [] h, closer-by true h, list-words-cons, section-opener o.k, o.five, list-words-one)
      split false h = rw (written_none false o.k [] h, closer-by false h, list-words-cons, o.five, list-words-none)

  pub one_below : low_of (get_or W count_index 0) ≡ 1 → OneBelow others W
  unfolding node_tokens operand_of operand_tokens first_size size beside
  one_below e =
      let kid = one-kid o.cs (o.children ∙ e) in
      let trees : trees_of W ≡ node o.k (node kid.x kid.xs nil) o.rest = rw (← kid.is) o.trees in
      let below : trees_of (drop node_length W) ≡ node kid.x kid.xs o.rest =
      o.below ∙ ap (λ (f : Forest). beside f o.rest) kid.is
      in
      let same : low_of (get_or W count_index 0) + o.others ≡ suc others = omega (arith, o.is_top) in
      record {
        shaped = rw same at o.shaped;
        words = rw (trees, below, ← o.op) (split kid.x kid.xs (is_bracket o.k.op) refl);
        fills = rw (trees, below) (omega arith);
        spans = node-spans W 1 o.long e;
      }
    where
      split : (x : Token) (xs : Forest) (b : Bool) → is_bracket o.k.op ≡ b
          → list_words (written o.k (node x xs nil) [])
          ≡ first_five W
          ++ (list_words (operand_tokens (not (is_paired (only_seat o.k.op) x.op (count xs))) x xs (written x xs) []) ++ closer_words W)
      split x xs true h =
          rw (
            written_one true o.k x xs [] h,
            unpaired-bracket x xs o.k h,
            closer-by true h,
            written-before x xs (closer_of o.k ∷ []),
            list-words-cons,
            section-opener o.k,
            o.five,
            list-words-append,
            list-words-one,
          )
      split x xs false h =
          rw (written_one false o.k x xs [] h, unpaired-only x xs o.k h, closer-by false h, list-words-cons, o.five, append-nil)

  pub two-below : low_of (get_or W count_index 0) ≡ 2 → TwoBelow others W
  unfolding node_tokens operand_of first_size size beside other_trees
  two-below e =
      let kids = two-kids o.cs (o.children ∙ e) in
      let x = kids.x in
      let xs = kids.xs in
      let y = kids.y in
      let ys = kids.ys in
      let trees : trees_of W ≡ node o.k (node x xs (node y ys nil)) o.rest = rw (← kids.is) o.trees in
      let below : trees_of (drop node_length W) ≡ node x xs (node y ys o.rest) =
      o.below ∙ ap (λ (f : Forest). beside f o.rest) kids.is
      in
      let same : low_of (get_or W count_index 0) + o.others ≡ suc (suc others) = omega (arith, o.is_top) in
      let left : Shaped 2 (suc (suc others)) (drop node_length W) = rw same at o.shaped in
      let after = after-trees left (suc others) 1 (omega arith) in
      let there : drop (node_length * size (first_trees 1 (trees_of (drop node_length W)))) (drop node_length W) ≡ right_part W =
      rw (first-tree (trees_of (drop node_length W))) (drop-drop (left_size W) node_length W)
      in
      let right : trees_of (right_part W) ≡ node y ys o.rest = ap trees_of (sym there) ∙ (after.trees ∙ ap (other_trees 1) below) in
      record {
        left = left;
        right = rw there at after.shaped;
        words = rw (trees, right, below, ← o.op) (spelt x y xs ys);
        fills = rw (trees, right, below) (omega arith);
        spans =
            λ e'.
            ap (λ (f : Forest). extent_with (seen_with (wider e' (get_or W 1 0) (get_or W 2 0)) (drop node_length W)) (first_trees 1 f))
            (ap trees_of (sym there) ∙ after.trees)
            ∙ (in_one 1 1 (trees_of (drop node_length W)) (wider e' (get_or W 1 0) (get_or W 2 0)) ∙ node-spans W 2 o.long e e');
      }
    where
      spelt : (x y : Token) (xs ys : Forest)
          → list_words (written o.k (node x xs (node y ys nil)) [])
          ≡ list_words (operand_tokens (not (is_paired (left_seat o.k.op) x.op (count xs))) x xs (written x xs) [])
          ++ (first_five W
          ++ list_words (operand_tokens (not (is_paired (right_seat o.k.op) y.op (count ys))) y ys (written y ys) []))
      spelt x y xs ys =
          rw (
            written-two o.k x xs y ys [],
            unpaired-left x xs o.k,
            unpaired-right y ys o.k,
            operand-before (stands_left o.k x xs) x xs (written x xs)
                (o.k ∷ operand_tokens (stands_right o.k y ys) y ys (written y ys) [])
                (written-before x xs),
            list-words-append,
            list-words-cons,
            o.five,
          )

  -- An operand: in an added pair over its extent, or as it is.
  pub paired_words : (p : Seat) → is_paired p (operator_of (get_or W 0 0)) (low_of (get_or W count_index 0)) ≡ true
      → operand_written p W
      ≡ pair_opener (first_extent (trees_of W)).start (first_extent (trees_of W)).end
      ++ (node_written W ++ pair_closer (first_extent (trees_of W)).end)
  unfolding operand_of node_tokens operand_tokens
  paired_words p e =
      let paired : is_paired p o.k.op (count o.cs) ≡ true = rw (o.op, o.children) e in
      let fits : Fits (first_extent (node o.k o.cs o.rest)) = rw o.trees at (first_fits W) in
      rw (
        o.trees,
        paired,
        written-before o.k o.cs (closer_for o.k o.cs ∷ []),
        list-words-cons,
        list-words-append,
        list-words-one,
        opener-words o.k o.cs o.rest fits,
        closer-words o.k o.cs o.rest fits,
      )

  pub unpaired-words : (p : Seat) → is_paired p (operator_of (get_or W 0 0)) (low_of (get_or W count_index 0)) ≡ false
      → operand_written p W ≡ node_written W
  unfolding operand_of node_tokens operand_tokens
  unpaired-words p e =
      let alone : is_paired p o.k.op (count o.cs) ≡ false = rw (o.op, o.children) e in
      rw (o.trees, alone)
