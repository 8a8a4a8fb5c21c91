-- Where a node closes that is no bracket does not matter to the writer (document 02, card 12): a tree of any seventh words is written as
-- the same words as the tree in which all other nodes close at their own ends, and is plain where that is. Of such a tree the written list
-- is read back from its words.
use Prim.Native.Nat.{ℕ, ◌≤◌, min, max}
use mathlib.Core.{Path.{◌≡◌, refl, ap, sym, ◌∙◌}, Bool.{Bool, true, false, true≢false}, List.{List, [], ◌∷◌, ◌++◌}, Option.{none}}
use native.Mathlib.Omega.{arith}
use lib.{Dec.{eqb}, ListN.{length}}
use borrow.Author.Tests.{eqb-true}
use Rattle.molang.specs.Operator
use Rattle.molang.specs.{Operator.{is_bracket, closing_of}, Forest.{Token, Forest, nil, node, bare, closed_by, unclosed}}
use Rattle.molang.specs.{Read.{lowest_start, highest_end}, Words.{token_words, list_words}, Parse.{most_tokens}}
use Rattle.molang.specs.{Legal.{Legal, LegalTrees, no_trees, legal_tree}, Plain.{unplain_at}}
use Rattle.molang.specs.Write.{opener_for, closer_for, closer_of, stands_alone, stands_left, stands_right, operand_tokens, written}
use Rattle.molang.specs.Write.{written_statements, written_tree}
use Rattle.molang.proofs.{Trees.{some-none}, Computed.{computed}, Words.{LegalTokens, AtEnds}, Every.{Every, nowhere, at}}
use Rattle.molang.proofs.Closes.{Closes, plain-ends}
use Rattle.molang.proofs.Writing.{written_none, written_one, written-two, written-more, written_tree-expression, written_tree-script}
use Rattle.molang.proofs.{ListWords.{list_words-length, written_tree-legal}, Relabelling.{relabelled, rel-count}}
use Rattle.molang.proofs.PlainRelabelled.{unplain_at-relabelled}

-- ---- Closing at the own end

-- A bracket as it is; another node closing at its own end.
unfoldable settled : Token → Token
settled k =
    record {
      op = k.op;
      variant = k.variant;
      value = k.value;
      start = k.start;
      end = k.end;
      close = elim (is_bracket k.op) [ true ↦ k.close | false ↦ k.end ];
    }

settled_same : (k : Token) → (settled k).op ≡ k.op
settled_same k = unfold settled in refl

lowest-settled : (m : ℕ) (f : Forest) → lowest_start m (relabelled settled f) ≡ lowest_start m f
unfolding lowest_start relabelled settled
lowest-settled m nil = refl
lowest-settled m (node k cs rest) =
    ap (λ (n : ℕ). lowest_start n (relabelled settled rest)) (lowest-settled (min m k.start) cs) ∙ lowest-settled _ rest

highest-settled : (m : ℕ) (f : Forest) → highest_end m (relabelled settled f) ≡ highest_end m f
unfolding highest_end relabelled settled
highest-settled m nil = refl
highest-settled m (node k cs rest) =
    ap (λ (n : ℕ). highest_end n (relabelled settled rest)) (highest-settled (max m k.end) cs) ∙ highest-settled _ rest

opener-settled : (k : Token) (cs : Forest) → opener_for (settled k) (relabelled settled cs) ≡ opener_for k cs
opener-settled k cs = unfold opener_for settled in rw (lowest-settled k.start cs, highest-settled k.end cs) refl

closer-settled : (k : Token) (cs : Forest) → closer_for (settled k) (relabelled settled cs) ≡ closer_for k cs
closer-settled k cs = unfold closer_for settled in rw (highest-settled k.end cs) refl

section-settled : (k : Token) → is_bracket k.op ≡ true → closer_of (settled k) ≡ closer_of k
section-settled k e = unfold closer_of settled in rw (e, settled) refl

alone-settled : (k : Token) (cs : Forest) → stands_alone (settled k) (relabelled settled cs) ≡ stands_alone k cs
unfolding stands_alone relabelled settled
alone-settled k nil = refl
alone-settled k (node x xs rest) = refl

-- ---- Written as the same words

-- F and G put tokens of the same words before tokens of the same words.
abbrev SameWords : (List Token → List Token) → (List Token → List Token) → Type 0
SameWords F G = (r s : List Token) → list_words r ≡ list_words s → list_words (F r) ≡ list_words (G s)

-- A token before them.
one_token : (k l : Token) (r s : List Token) → token_words k ≡ token_words l → list_words r ≡ list_words s
    → list_words (k ∷ r) ≡ list_words (l ∷ s)
one_token k l r s e h = unfold list_words in λ i. e i ++ h i

token-settled : (k : Token) → token_words (settled k) ≡ token_words k
token-settled k = unfold token_words settled in refl

unclosed-settled : (k : Token) → token_words (unclosed (settled k)) ≡ token_words (unclosed k)
unclosed-settled k = unfold token_words unclosed closed_by settled in refl

bare-settled : (o : ℕ) (k : Token) → token_words (bare o (settled k)) ≡ token_words (bare o k)
bare-settled o k = unfold token_words bare settled in refl

operand-settled : (b c : Bool) → b ≡ c → (k : Token) (cs : Forest) (F G : List Token → List Token) → SameWords F G
    → SameWords (operand_tokens b (settled k) (relabelled settled cs) F) (operand_tokens c k cs G)
unfolding operand_tokens
operand-settled true true e k cs F G f r s h = f r s h
operand-settled true false e k cs F G f r s h = absurd (true≢false e)
operand-settled false true e k cs F G f r s h = absurd (true≢false (sym e))
operand-settled false false e k cs F G f r s h =
    one_token _ _ _ _ (ap token_words (opener-settled k cs)) (f _ _ (one_token _ _ _ _ (ap token_words (closer-settled k cs)) h))

written-settled : (k : Token) (cs : Forest) → SameWords (written (settled k) (relabelled settled cs)) (written k cs)
unfolding relabelled
written-settled k nil r s h = split (is_bracket k.op) refl
  where
    split : (b : Bool) → is_bracket k.op ≡ b → list_words (written (settled k) nil r) ≡ list_words (written k nil s)
    split true e =
        rw (written_none true (settled k) r (ap is_bracket (settled_same k) ∙ e), written_none true k s e)
        (one_token _ _ _ _ (unclosed-settled k) (one_token _ _ _ _ (ap token_words (section-settled k e)) h))
    split false e =
        rw (written_none false (settled k) r (ap is_bracket (settled_same k) ∙ e), written_none false k s e)
        (one_token _ _ _ _ (token-settled k) h)
written-settled k (node x xs nil) r s h = split (is_bracket k.op) refl (written-settled x xs)
  where
    split : (b : Bool) → is_bracket k.op ≡ b → SameWords (written (settled x) (relabelled settled xs)) (written x xs)
        → list_words (written (settled k) (node (settled x) (relabelled settled xs) nil) r) ≡ list_words (written k (node x xs nil) s)
    split true e f =
        rw (
          written_one true (settled k) (settled x) (relabelled settled xs) r (ap is_bracket (settled_same k) ∙ e),
          written_one true k x xs s e,
        )
        (one_token _ _ _ _ (unclosed-settled k) (f _ _ (one_token _ _ _ _ (ap token_words (section-settled k e)) h)))
    split false e f =
        rw (
          written_one false (settled k) (settled x) (relabelled settled xs) r (ap is_bracket (settled_same k) ∙ e),
          written_one false k x xs s e,
        )
        (one_token _ _ _ _ (token-settled k) (operand-settled _ _ (alone-settled x xs) x xs _ _ f r s h))
written-settled k (node x xs (node y ys nil)) r s h =
    let left : stands_left (settled k) (settled x) (relabelled settled xs) ≡ stands_left k x xs =
    unfold stands_left in rw (alone-settled x xs, settled_same k, settled_same x) refl
    in
    let right : stands_right (settled k) (settled y) (relabelled settled ys) ≡ stands_right k y ys =
    unfold stands_right in rw (alone-settled y ys, settled_same k, settled_same y) refl
    in
    rw (written-two (settled k) (settled x) (relabelled settled xs) (settled y) (relabelled settled ys) r, written-two k x xs y ys s)
    (operand-settled _ _ left x xs _ _ (written-settled x xs) _ _
    (one_token _ _ _ _ (token-settled k) (operand-settled _ _ right y ys _ _ (written-settled y ys) r s h)))
written-settled k (node x xs (node y ys (node z zs more))) r s h =
    rw (
      written-more (settled k) (settled x) (relabelled settled xs) (settled y) (relabelled settled ys) (settled z) (relabelled settled zs)
          (relabelled settled more) r,
      written-more k x xs y ys z zs more s,
    )
    (one_token _ _ _ _ (token-settled k) h)

statements-settled : (cs : Forest) → list_words (written_statements (relabelled settled cs) []) ≡ list_words (written_statements cs [])
unfolding written_statements relabelled
statements-settled nil = refl
statements-settled (node s nil rest) = statements-settled rest
statements-settled (node s (node x xs more) rest) =
    written-settled x xs _ _ (one_token _ _ _ _ (bare-settled Operator.semicolon x) (statements-settled rest))

tree-settled : (k : Token) (cs : Forest) → list_words (written_tree (settled k) (relabelled settled cs)) ≡ list_words (written_tree k cs)
tree-settled k cs = split (eqb k.op Operator.semicolon) refl
  where
    same : (b : Bool) → eqb k.op Operator.semicolon ≡ b → eqb (settled k).op Operator.semicolon ≡ b
    same b e = ap (λ (n : ℕ). eqb n Operator.semicolon) (settled_same k) ∙ e

    split : (b : Bool) → eqb k.op Operator.semicolon ≡ b
        → list_words (written_tree (settled k) (relabelled settled cs)) ≡ list_words (written_tree k cs)
    split true e =
        rw (written_tree-script (settled k) (relabelled settled cs) (same true e), written_tree-script k cs e) (statements-settled cs)
    split false e =
        rw (written_tree-expression (settled k) (relabelled settled cs) (same false e), written_tree-expression k cs e)
        (written-settled k cs [] [] refl)

-- ---- Read back from the words

-- No other node closes elsewhere.
bracket-closes : {A : Type 0} (n : ℕ) → is_bracket n ≡ true → closing_of n ≡ none → A
unfolding computed
bracket-closes n e h = some-none (sym (ap closing_of (eqb-true n Operator.left_parenthesis e)) ∙ h)

token-closes : (k : Token) → Closes (settled k)
unfolding settled
token-closes k = split (is_bracket k.op) refl
  where
    split : (b : Bool) → is_bracket k.op ≡ b → closing_of k.op ≡ none
        → (elim (is_bracket k.op) [ true ↦ k.close | false ↦ k.end ]) ≡ k.end
    split true e h = bracket-closes k.op e h
    split false e h = rw e refl

settled-closes : (f : Forest) → Every Closes (relabelled settled f)
unfolding relabelled
settled-closes nil = nowhere
settled-closes (node k cs rest) = at (token-closes k) (settled-closes cs) (settled-closes rest)

-- It is legal where the tree is.
either-close : (b : Bool) (m n top : ℕ) → m ≤ top → n ≤ top → (elim b as (λ t. ℕ) [ true ↦ m | false ↦ n ]) ≤ top
either-close true m n top x y = x
either-close false m n top x y = y

settled-legal : (k : Token) → Legal k → Legal (settled k)
unfolding settled
settled-legal k h =
    record {
      op = h.op;
      variant = h.variant;
      value = h.value;
      no_payload = h.no_payload;
      start = h.start;
      end = h.end;
      close = omega
          (arith, either-close (is_bracket k.op) k.close k.end 536870911 (omega (arith, h.close)) (omega (arith, h.end)));
    }

legal-settled : {f : Forest} → LegalTrees f → LegalTrees (relabelled settled f)
unfolding relabelled
legal-settled no_trees = no_trees
legal-settled (legal_tree {k = k} {cs = cs} h n below after) =
    legal_tree {cs = relabelled settled cs} (settled-legal k h) (rw (rel-count settled cs) n) (legal-settled below) (legal-settled after)

-- WRITTEN WORDS AS TOKENS: the words are those of what is written of a plain tree, at most 4,096 tokens that are legal and close at their
-- own ends, as the tokens of a word list do.
pub record WrittenList (ws : List ℕ) : Type 0 where
  pub root : Token
  pub children : Forest
  pub plain : unplain_at root children ≡ none
  pub legal : LegalTokens (written_tree root children)
  pub ends : AtEnds (written_tree root children)
  pub few : length (written_tree root children) ≤ most_tokens
  pub words : ws ≡ list_words (written_tree root children)

-- Of every plain and legal tree, whatever its seventh words.
pub written-list : (k : Token) (cs : Forest) → unplain_at k cs ≡ none → LegalTrees (node k cs nil) → length (written_tree k cs) ≤ most_tokens
    → WrittenList (list_words (written_tree k cs))
written-list k cs plain (legal_tree h n below no_trees) few =
    let ks = written_tree (settled k) (relabelled settled cs) in
    let long = ap length (tree-settled k cs) in
    let again = unplain_at-relabelled settled settled_same k cs ∙ plain in
    record {
      root = settled k;
      children = relabelled settled cs;
      plain = again;
      legal = written_tree-legal (settled k) (relabelled settled cs) (settled-legal k h) (legal-settled below);
      ends = plain-ends (settled k) (relabelled settled cs) again (at (token-closes k) (settled-closes cs) nowhere);
      few = omega (arith, long, list_words-length ks, list_words-length (written_tree k cs));
      words = sym (tree-settled k cs);
    }
