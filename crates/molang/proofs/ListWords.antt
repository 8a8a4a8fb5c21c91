-- The words of legal tokens answer none of 8-11, and what is written of a legal tree is legal: what stands between the writer and a second
-- reading.
use Prim.Native.Nat.{ℕ, suc, ◌*◌, ◌/◌, ◌%◌, ◌^◌, ◌≤◌, ◌<◌, min, max}
use mathlib.Core.{Path.{◌≡◌, refl, ap, ◌∙◌}, Bool.{Bool, true, false, false≢true}, List.{List, [], ◌∷◌, ◌++◌}, Option.{Option, none, some}}
use native.Mathlib.Omega.{arith}
use lib.{Dec.{eqb}, ListN.{length}}
use borrow.Author.Tests.{lt-leb}
use Rattle.molang.specs.Operator
use Rattle.molang.specs.{Operator.{is_bracket}, Forest.{Token, Forest, nil, node, closed_by, unclosed, count, size}}
use Rattle.molang.specs.Read.{lowest_start, highest_end, uses}
use Rattle.molang.specs.Words.{word, token_words, node_words_of, tokens_of, list_words, tree_words, Field, operator_field, start_field}
use Rattle.molang.specs.Words.{end_field, upper_field, lower_field, word_fault, low_fault, variant_after, next_in_token, with_place}
use Rattle.molang.specs.{Words.{operator_bits, words_refusal}, Legal.{Legal, LegalTrees, no_trees, legal_tree}}
use Rattle.molang.specs.Write.{spanning, opener_for, closer_for, closer_of, stands_alone, stands_left, stands_right, operand_tokens, written}
use Rattle.molang.specs.{Write.{written_statements, written_tree}, WriteEntry.{next_in_node, Shape, shape_after, continues, tree_fault}}
use Rattle.molang.proofs.{Trees.{either}, FirstFailure.{first-none, passed, after_none}}
use Rattle.molang.proofs.{Words.{LegalTokens, no_tokens, token, operator-low}, TreeWords.{tree-unfaulted}, Legal.{legal-bare}}
use Rattle.molang.proofs.Writing.{written_none, written_one, written-two, written-more}

-- Where the words of a tree have no fault, the first of them has none, and those after it have none.
tree-word : (i : ℕ) (field : Field) (v : ℕ) (s : Shape) (w : ℕ) (ws : List ℕ) → tree_fault i field v s (w ∷ ws) ≡ none
    → (word_fault field v w ≡ none) × (tree_fault (suc i) (next_in_node field) (variant_after field v w) (shape_after field w s) ws ≡ none)
unfolding tree_fault continues
tree-word i field v s w ws h =
    let x = passed (continues field v s w) i _ h in
    (split (word_fault field v w) refl x.0, (first-none _ _ x.1).0)
  where
    split : (o : Option ℕ) → word_fault field v w ≡ o → continues field v s w ≡ true → word_fault field v w ≡ none
    split none e f = e
    split (some n) e f = absurd (false≢true (rw (e, continues) at f))

-- In a list, a word without fault leaves the answer to the words after it.
pub list-word : (i : ℕ) (field : Field) (v w : ℕ) (ws : List ℕ) → word_fault field v w ≡ none
    → words_refusal i field v (w ∷ ws) ≡ words_refusal (suc i) (next_in_token field) (variant_after field v w) ws
list-word i field v w ws h = unfold words_refusal in after_none (with_place i (word_fault field v w)) _ (ap (with_place i) h)

-- A legal token is a tree of one node, whose words have no fault; so they answer nothing in a list either.
token-unrefused : (k : Token) → Legal k → (i v : ℕ) (ws : List ℕ) → ((i v : ℕ) → words_refusal i operator_field v ws ≡ none)
    → words_refusal i operator_field v (token_words k ++ ws) ≡ none
unfolding node_words_of token_words tree_words count size variant_after next_in_node next_in_token word_fault low_fault
token-unrefused k h i v ws later =
    let a = word 1 (operator_bits k.op k.variant) in
    let b = word 2 k.start in
    let c = word 3 k.end in
    let d = word 4 (k.value / 2 ^ 16) in
    let e = word 5 (k.value % 2 ^ 16) in
    let n = word 6 0 ∷ word 7 k.close ∷ [] in
    let u = variant_after operator_field v a in
    let fault = tree-unfaulted k nil (legal_tree h (omega arith) no_trees no_trees) (omega arith) in
    let fa = tree-word 0 operator_field 0 _ a (b ∷ c ∷ d ∷ e ∷ n) fault in
    let fb = tree-word 1 start_field u _ b (c ∷ d ∷ e ∷ n) fa.1 in
    let fc = tree-word 2 end_field u _ c (d ∷ e ∷ n) fb.1 in
    let fd = tree-word 3 upper_field u _ d (e ∷ n) fc.1 in
    let fe = tree-word 4 lower_field u _ e n fd.1 in
    list-word i operator_field v a (b ∷ c ∷ d ∷ e ∷ ws) fa.0
    ∙ list-word (suc i) start_field u b (c ∷ d ∷ e ∷ ws) fb.0
    ∙ list-word (suc (suc i)) end_field u c (d ∷ e ∷ ws) fc.0
    ∙ list-word (suc (suc (suc i))) upper_field u d (e ∷ ws) fd.0
    ∙ list-word (suc (suc (suc (suc i)))) lower_field u e ws fe.0
    ∙ later (suc (suc (suc (suc (suc i))))) u

-- The words of legal tokens answer none of 8-11.
pub list-unrefused : {ks : List Token} → LegalTokens ks → (i v : ℕ) → words_refusal i operator_field v (list_words ks) ≡ none
unfolding list_words words_refusal
list-unrefused no_tokens i v = refl
list-unrefused (token {k = k} {ks = ks} h hs) i v = token-unrefused k h i v (list_words ks) (list-unrefused hs)

-- They are five to a token.
pub list_words-length : (ks : List Token) → length (list_words ks) ≡ 5 * length ks
unfolding list_words token_words
list_words-length [] = refl
list_words-length (k ∷ ks) = let i = list_words-length ks in omega arith

-- No more tokens are made of words than one of five.
pub tokens-count : (ws : List ℕ) → 5 * length (tokens_of ws) ≤ length ws
unfolding tokens_of
tokens-count [] = omega arith
tokens-count (a ∷ []) = omega arith
tokens-count (a ∷ b ∷ []) = omega arith
tokens-count (a ∷ b ∷ c ∷ []) = omega arith
tokens-count (a ∷ b ∷ c ∷ d ∷ []) = omega arith
tokens-count (a ∷ b ∷ c ∷ d ∷ e ∷ ws) = omega (arith, tokens-count ws)

-- No number above 110 is in a used set: a host has no bit.
pub uses-legal : {ks : List Token} → LegalTokens ks → (m : ℕ) → 111 ≤ m → uses ks m ≡ false
unfolding uses
uses-legal no_tokens m h = refl
uses-legal (token {k = k} l ls) m h = rw (lt-leb m Operator.host_math_volatile (omega arith), uses-legal ls m h) refl

-- The extent of legal trees fits its words.
lowest-legal : {f : Forest} → LegalTrees f → (m : ℕ) → m < 2 ^ 29 → lowest_start m f < 2 ^ 29
unfolding lowest_start
lowest-legal no_trees m b = b
lowest-legal (legal_tree {k = k} h n below after) m b =
    lowest-legal after _ (lowest-legal below (min m k.start) (omega (arith, h.start)))

highest-legal : {f : Forest} → LegalTrees f → (m : ℕ) → m < 2 ^ 29 → highest_end m f < 2 ^ 29
unfolding highest_end
highest-legal no_trees m b = b
highest-legal (legal_tree {k = k} h n below after) m b = highest-legal after _ (highest-legal below (max m k.end) (omega (arith, h.end)))

-- A bracket of a legal span is legal.
spanning-legal : (o start end : ℕ) → o ≤ 110 → start < 2 ^ 29 → end < 2 ^ 29 → Legal (spanning o start end)
unfolding spanning
spanning-legal o start end h s e =
    record { op = operator-low o h; variant = omega arith; value = omega arith; no_payload = λ z. refl; start = s; end = e; close = e }

-- Added brackets are legal.
opener-legal : (k : Token) (cs : Forest) → Legal k → LegalTrees cs → Legal (opener_for k cs)
unfolding opener_for
opener-legal k cs h below =
    spanning-legal Operator.left_parenthesis _ _ (omega arith) (lowest-legal below k.start h.start)
    (highest-legal below k.end h.end)

closer-legal : (k : Token) (cs : Forest) → Legal k → LegalTrees cs → Legal (closer_for k cs)
unfolding closer_for
closer-legal k cs h below =
    let end = highest-legal below k.end h.end in spanning-legal Operator.right_parenthesis _ _ (omega arith) end end

-- The two tokens of a section are legal.
unclosed-legal : (k : Token) → Legal k → Legal (unclosed k)
unfolding unclosed closed_by
unclosed-legal k h =
    record {
      op = h.op;
      variant = h.variant;
      value = h.value;
      no_payload = h.no_payload;
      start = h.start;
      end = h.end;
      close = h.end;
    }

section-end-legal : (k : Token) → Legal k → Legal (closer_of k)
section-end-legal k h = unfold closer_of in spanning-legal Operator.right_parenthesis _ _ (omega arith) h.close h.close

-- F puts legal tokens before legal tokens.
abbrev KeepsLegal : (List Token → List Token) → Type 0
KeepsLegal F = (r : List Token) → LegalTokens r → LegalTokens (F r)

operand-legal : (b : Bool) (k : Token) (cs : Forest) (F : List Token → List Token) → Legal k → LegalTrees cs → KeepsLegal F
    → KeepsLegal (operand_tokens b k cs F)
unfolding operand_tokens
operand-legal true k cs F h below f r l = f r l
operand-legal false k cs F h below f r l =
    token (opener-legal k cs h below) (f (closer_for k cs ∷ r) (token (closer-legal k cs h below) l))

-- The writing of a legal tree is legal.
pub written-legal : (k : Token) (cs : Forest) → Legal k → LegalTrees cs → KeepsLegal (written k cs)
written-legal k nil h below r l = split (is_bracket k.op) refl
  where
    split : (b : Bool) → is_bracket k.op ≡ b → LegalTokens (written k nil r)
    split true e = rw (written_none true k r e) (token (unclosed-legal k h) (token (section-end-legal k h) l))
    split false e = rw (written_none false k r e) (token h l)
written-legal k (node x xs nil) h (legal_tree hx n hxs no_trees) r l = split (is_bracket k.op) refl (written-legal x xs hx hxs)
  where
    split : (b : Bool) → is_bracket k.op ≡ b → KeepsLegal (written x xs) → LegalTokens (written k (node x xs nil) r)
    split true e i = rw (written_one true k x xs r e) (token (unclosed-legal k h) (i (closer_of k ∷ r) (token (section-end-legal k h) l)))
    split false e i = rw (written_one false k x xs r e) (token h (operand-legal (stands_alone x xs) x xs (written x xs) hx hxs i r l))
written-legal k (node x xs (node y ys nil)) h (legal_tree hx n hxs (legal_tree hy m hys no_trees)) r l =
    rw (written-two k x xs y ys r)
    (operand-legal (stands_left k x xs) x xs (written x xs) hx hxs (written-legal x xs hx hxs)
    (k ∷ operand_tokens (stands_right k y ys) y ys (written y ys) r)
    (token h (operand-legal (stands_right k y ys) y ys (written y ys) hy hys (written-legal y ys hy hys) r l)))
written-legal k (node x xs (node y ys (node z zs more))) h below r l = rw (written-more k x xs y ys z zs more r) (token h l)

-- The writing of statements, with their semicolons, is legal, and that of a tree.
statements-legal : (cs : Forest) → LegalTrees cs → LegalTokens (written_statements cs [])
unfolding written_statements
statements-legal nil no_trees = no_tokens
statements-legal (node s nil rest) (legal_tree h n below after) = statements-legal rest after
statements-legal (node s (node x xs more) rest) (legal_tree h n (legal_tree hx m hxs others) after) =
    written-legal x xs hx hxs _ (token (legal-bare Operator.semicolon x (omega arith) hx) (statements-legal rest after))

pub written_tree-legal : (k : Token) (cs : Forest) → Legal k → LegalTrees cs → LegalTokens (written_tree k cs)
unfolding written_tree
written_tree-legal k cs h below =
    either LegalTokens (eqb k.op Operator.semicolon) _ _ (statements-legal cs below) (written-legal k cs h below [] no_tokens)
