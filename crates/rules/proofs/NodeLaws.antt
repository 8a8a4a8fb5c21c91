-- Rules by operators and by words: the table that the code looks rules up in, the rules of nodes in a row one by one, and that the words of
-- legal trees give the definition's rules by operator. Assumes nothing.
use Prim.Native.Nat.{ℕ, zero, suc, ◌+◌, ◌*◌, ◌/◌, ◌^◌, ◌≤◌, ◌<◌, min}
use mathlib.Core.{Path.{◌≡◌, refl, ap, sym, ◌∙◌}, Bool.{Bool, true, false, ◌&&◌, and-false}}
use mathlib.Core.List.{List, [], ◌∷◌, ◌++◌, append_assoc, append-nil}
use native.Mathlib.{Nat.{zero-add}, Omega.{arith}}
use lib.{Dec.{T, eqb, leb, ltb, eqb→eq, ltb→lt}, ListN.{length, get_or, take, set}, Seq.{get_or-append-add, take_all}}
use borrow.Author.Tests.{ne_eqb, leb-true, leb-false}
use Rattle.molang.specs.Operator.{logical_equal, logical_not_equal, between, is_math_call}
use Rattle.molang.specs.Forest.{Token, Forest, nil, node, count, unclosed, closed_by}
use Rattle.molang.specs.{Words.{word, low_of, token_of, token_words, node_words_of, tree_words}, Parse.{in_front}}
use Rattle.molang.specs.{Legal.{Legal, LegalTrees, no_trees, legal_tree}, Rules.{number_beside}}
use Rattle.molang.specs.OperatorRules.{operator_numbers, operator_rule, operator_rules}
use Rattle.molang.proofs.{OperatorNumbers.{no-math}, Words.{low_word, token_back}}
use Rattle.ops.{specs.Classes.{up_to}, proofs.OperatorLaws.{and_left, and_right, passes, passes_at}}
use Rattle.words.{specs.Fields.{operator_of}, specs.Records.{laid_at}, proofs.RecordLaws.{none-laid, laid-front}, proofs.LaidLaws.{laid_next}}
use Rattle.rules.specs.Nodes.{node_rule, word_rules}

-- ---- the table

-- The rule of each number up to 111.
abbrev table : Bool → List ℕ
table first = up_to 112 (operator_rule first)

-- It has them by one computed test.
entry_at : (first : Bool) (n : ℕ) → n ≤ 111 → get_or (table first) n 0 ≡ operator_rule first n
unfolding up_to between is_math_call number_beside operator_rule
entry_at first n h =
    eqb→eq (get_or (table first) n 0) (operator_rule first n)
    (passes_at (λ n. eqb (get_or (table first) n 0) (operator_rule first n)) 0 112 (all first) n (omega arith) (omega arith))
  where
    all : (first : Bool) → T (passes (λ n. eqb (get_or (table first) n 0) (operator_rule first n)) 0 112)
    all true = tt
    all false = tt

-- Each number that has one beside it is below k.
abbrev below : ℕ → List (ℕ × ℕ) → Bool
below k [] = true
below k (entry ∷ entries) = ltb entry.0 k && below k entries

-- Then a number from k on has none.
unlisted : (entries : List (ℕ × ℕ)) (k n : ℕ) → T (below k entries) → k ≤ n → number_beside n entries ≡ 0
unfolding number_beside
unlisted [] k n t h = refl
unlisted (entry ∷ entries) k n t h =
    let here = ltb entry.0 k in
    let low = ltb→lt entry.0 k (and_left here (below k entries) t) in
    rw (number_beside, ne_eqb entry.0 n (λ e. omega arith)) (unlisted entries k n (and_right here (below k entries) t) h)

-- A number above the operators has no rule.
no-rule : (first : Bool) (n : ℕ) → 111 ≤ n → 0 ≡ operator_rule first n
unfolding operator_rule
no-rule first n h =
    rw (operator_rule, no-math n h, ne_eqb n logical_equal (λ e. omega arith), ne_eqb n logical_not_equal (λ e. omega arith), and-false first)
    (sym (unlisted operator_numbers 111 n tt h))

-- So the rule of any number stands at the lesser of it and 111.
pub rule-in : (first : Bool) (n : ℕ) → get_or (table first) (min n 111) 0 ≡ operator_rule first n
rule-in first n = go (leb n 111) refl
  where
    go : (b : Bool) → leb n 111 ≡ b → get_or (table first) (min n 111) 0 ≡ operator_rule first n
    go true e =
        let low = leb-true n 111 e in
        let own : min n 111 ≡ n = omega arith in
        rw own (entry_at first n low)
    go false e =
        let high = leb-false n 111 e in
        let last : min n 111 ≡ 111 = omega arith in
        rw last (entry_at first 111 (omega arith) ∙ (sym (no-rule first 111 (omega arith)) ∙ no-rule first n (omega arith)))

-- ---- nodes in a row

pub word_count : (first : Bool) (ws : List ℕ) → length (word_rules first ws) ≡ length ws / 7
unfolding word_rules
word_count first [] = omega arith
word_count first (a ∷ []) = omega arith
word_count first (a ∷ b ∷ []) = omega arith
word_count first (a ∷ b ∷ c ∷ []) = omega arith
word_count first (a ∷ b ∷ c ∷ d ∷ []) = omega arith
word_count first (a ∷ b ∷ c ∷ d ∷ e ∷ []) = omega arith
word_count first (a ∷ b ∷ c ∷ d ∷ e ∷ n ∷ []) = omega arith
word_count first (a ∷ b ∷ c ∷ d ∷ e ∷ n ∷ g ∷ ws) = omega (arith, word_count first ws)

-- The rule of node i is by its first word and its sixth.
pub word-rule : (first : Bool) (ws : List ℕ) (i : ℕ) → i < length ws / 7
    → get_or (word_rules first ws) i 0 ≡ node_rule first (get_or ws (7 * i) 0) (get_or ws (7 * i + 5) 0)
unfolding word_rules
word-rule first [] i h = absurd (omega arith)
word-rule first (a ∷ []) i h = absurd (omega arith)
word-rule first (a ∷ b ∷ []) i h = absurd (omega arith)
word-rule first (a ∷ b ∷ c ∷ []) i h = absurd (omega arith)
word-rule first (a ∷ b ∷ c ∷ d ∷ []) i h = absurd (omega arith)
word-rule first (a ∷ b ∷ c ∷ d ∷ e ∷ []) i h = absurd (omega arith)
word-rule first (a ∷ b ∷ c ∷ d ∷ e ∷ n ∷ []) i h = absurd (omega arith)
word-rule first (a ∷ b ∷ c ∷ d ∷ e ∷ n ∷ g ∷ ws) zero h = refl
word-rule first (a ∷ b ∷ c ∷ d ∷ e ∷ n ∷ g ∷ ws) (suc i) h =
    let own = a ∷ b ∷ c ∷ d ∷ e ∷ n ∷ g ∷ [] in
    let on : 7 * suc i ≡ 7 + 7 * i = omega arith in
    let past : 7 * suc i + 5 ≡ 7 + (7 * i + 5) = omega arith in
    rw (past, on) (word-rule first ws i (omega arith)
    ∙ sym (λ j. node_rule first (get_or-append-add own ws (7 * i) 0 j) (get_or-append-add own ws (7 * i + 5) 0 j)))

-- ---- laid byte by byte

-- The rule buffer with the rules of the first i nodes in front.
abbrev pub LaidTo : Bool → List ℕ → List ℕ → ℕ → List ℕ → Type 0
LaidTo first nodes bytes₀ i bytes = bytes ≡ laid_at 0 (take i (word_rules first nodes)) bytes₀

module _ (first : Bool) (nodes bytes₀ : List ℕ) (room : length nodes / 7 ≤ length bytes₀) where
  pub laid_none : LaidTo first nodes bytes₀ 0 bytes₀
  laid_none = none-laid 0 bytes₀

  pub laid_on : (i v : ℕ) (bytes : List ℕ) → i < length nodes / 7 → v ≡ node_rule first (get_or nodes (7 * i) 0) (get_or nodes (7 * i + 5) 0)
      → LaidTo first nodes bytes₀ i bytes
      → LaidTo first nodes bytes₀ (i + 1) (set bytes i v)
  laid_on i v bytes h e l =
      let counted = word_count first nodes in
      ap (set bytes i) (e ∙ sym (word-rule first nodes i h))
      ∙ (rw zero-add at (laid_next bytes₀ bytes 0 (word_rules first nodes) i (omega arith) (omega arith) l))

  pub laid-all : (i : ℕ) (bytes : List ℕ) → length nodes / 7 ≤ i → LaidTo first nodes bytes₀ i bytes
      → bytes ≡ in_front (word_rules first nodes) bytes₀
  laid-all i bytes h l =
      let counted = word_count first nodes in
      let ruled = word_rules first nodes in
      l ∙ (ap (λ (ns : List ℕ). laid_at 0 ns bytes₀) (take_all i ruled (omega arith)) ∙ laid-front ruled bytes₀)

-- ---- legal trees

-- A node's first word has its operator.
operator-back : (k : Token) → Legal k → (n : ℕ) → operator_of (get_or (node_words_of k n) 0 0) ≡ k.op
operator-back k h n = unfold node_words_of token_words operator_of token_of unclosed closed_by in ap (λ (t : Token). t.op) (token_back k h)

-- The rule of a leaf and of a node with children, by their words.
leaf-ruled : (first : Bool) (operator : ℕ) → node_rule first operator (word 6 0) ≡ 0
leaf-ruled first operator = unfold node_rule in rw (node_rule, low_word 6 0 (omega arith)) refl

parent-ruled : (first : Bool) (k : Token) → Legal k → (n m : ℕ) → suc n < 2 ^ 14
    → node_rule first (get_or (node_words_of k m) 0 0) (word 6 (suc n)) ≡ operator_rule first k.op
unfolding node_rule
parent-ruled first k h n m few =
    let low = low_word 6 (suc n) (omega arith) in
    let counted : eqb (low_of (word 6 (suc n))) 0 ≡ false = ne_eqb (low_of (word 6 (suc n))) 0 (λ e. omega arith) in
    rw (node_rule, counted) (ap (operator_rule first) (operator-back k h m))

trees-ruled : (first : Bool) {f : Forest} → LegalTrees f → (z : List ℕ)
    → word_rules first (tree_words f ++ z) ≡ operator_rules first f ++ word_rules first z
unfolding word_rules tree_words node_words_of token_words operator_rules count
trees-ruled first no_trees z = refl
trees-ruled first (legal_tree {k = k} {cs = nil} {rest = rest} h n below after) z =
    let later = trees-ruled first after z in
    λ i. leaf-ruled first (get_or (node_words_of k 0) 0 0) i ∷ later i
trees-ruled first (legal_tree {k = k} {cs = node c ds more} {rest = rest} h n below after) z =
    let cs = node c ds more in
    let inner : word_rules first ((tree_words cs ++ tree_words rest) ++ z)
    ≡ (operator_rules first cs ++ operator_rules first rest) ++ word_rules first z =
    ap (word_rules first) (append_assoc (tree_words cs) (tree_words rest) z)
    ∙ (trees-ruled first below (tree_words rest ++ z)
    ∙ (ap (λ (rs : List ℕ). operator_rules first cs ++ rs) (trees-ruled first after z)
    ∙ sym (append_assoc (operator_rules first cs) (operator_rules first rest) (word_rules first z))))
    in
    λ i. parent-ruled first k h (count more) (count cs) n i ∷ inner i

-- THE RULES BY WORDS of legal trees are those by their operators.
pub tree-ruled : (first : Bool) (f : Forest) → LegalTrees f → word_rules first (tree_words f) ≡ operator_rules first f
unfolding word_rules
tree-ruled first f h =
    ap (word_rules first) (sym (append-nil (tree_words f))) ∙ (trees-ruled first h [] ∙ append-nil (operator_rules first f))
