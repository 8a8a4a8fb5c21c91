-- DEMAND 3 OVER THE DEFINITIONS: reading what was written of a plain tree gives the tree back, up to brackets and, in a script, to what
-- semicolons carry besides their operator. It follows from the grammar's theorem: what is written is a text under the rules of every
-- version (Texts, Scripts), whose tree is the one that was written with a bracket where writing adds a pair (Paired, Taken); and the list's
-- own operators serve it (Stated).
use Prim.Native.Nat.{ℕ}
use mathlib.Core.{Path.{◌≡◌, refl, ap, sym, ◌∙◌, subst}, Bool.{true, false, true≢false, false≢true}, List.{List, [], ◌∷◌}, Option.{none}}
use lib.{Dec.{eqb}, IntN.{ℤ}}
use Rattle.molang.specs.Operator
use Rattle.molang.specs.{Operator.{any, is_one_of, is_bracket}, Forest.{Token, Forest, nil, node, bare}, Read.{tree, read, uses}}
use Rattle.molang.specs.{Order.{rules, is_from, effective}, Words.{tree_words}, Plain.{at_root, is_right_of_question, is_under_math_call}}
use Rattle.molang.specs.Plain.{is_under_semicolon, unplain_at}
use Rattle.molang.specs.Write.{spanning, operand_tokens, written_tree, taken_away, comparable_token, comparable_trees, comparable}
use Rattle.molang.specs.Grammar.{Text, tokens, outline, is_list, is_text, well_formed, trees, ends_in, Serves}
use Rattle.molang.specs.Grammar as Definition
use Rattle.molang.proofs.{Computed.{computed}, Grammar.{text-reads}}
use Rattle.molang.proofs.PlainTrees.{PlainExpression, PlainStatements, PlainTree, expression, script, plain-tree, tree_plain}
use Rattle.molang.proofs.{Paired.{operand_tree, paired, written-paired, plain-paired}, TakingAway.{taken-kept}}
use Rattle.molang.proofs.Writing.{written_tree-expression, written_tree-script}
use borrow.Author.Tests.{eqb-true}
use Stated.{written-unstated}
use Taken.{taken-paired}
use Texts.{text_of}
use Scripts.{are-lines, led-tree, lined, a-script, statements-end}
pub mod Forms
pub mod Stated
pub mod Taken
pub mod Texts
pub mod Scripts
pub mod Examples

-- Reading the writing of the tree k over cs with exactly its operators gives a tree, which is the same once brackets are taken away: what
-- is compared of it, and where the root is no semicolon all of it. That tree is plain too, and is written as the same tokens.
pub record ReadsBack (k : Token) (cs : Forest) (version : ℤ) (source_length : ℕ) : Type 0 where
  pub root : Token
  pub children : Forest
  pub reads : read (written_tree k cs) (uses (written_tree k cs)) version source_length ≡ tree root children
  pub agrees : comparable (taken_away false (node root children nil) nil) ≡ comparable (taken_away false (node k cs nil) nil)
  pub agrees_in_all : eqb k.op Operator.semicolon ≡ false
      → taken_away false (node root children nil) nil ≡ taken_away false (node k cs nil) nil
  pub plain_again : unplain_at root children ≡ none
  pub writes_again : written_tree root children ≡ written_tree k cs

-- A list that is a well-formed text, if its own operators serve it, is read to the text's tree.
own-reading : (version : ℤ) (source_length : ℕ) (t : Text) → well_formed (rules version) t ≡ true → (ks : List Token) → tokens t [] ≡ ks
    → (any (uses ks) (Operator.assignment ∷ Operator.semicolon ∷ []) ≡ true → ends_in Operator.semicolon ks ≡ true)
    → (k : Token) (cs : Forest) → trees none t nil ≡ node k cs nil → read ks (uses ks) version source_length ≡ tree k cs
own-reading version len t h ks e ends k cs is =
    let g = text-reads version t h (uses ks) (subst (Serves (uses ks)) (sym e) (record { has = λ n u. u; ends = ends })) len in
    let same : node g.root g.children nil ≡ node k cs nil = sym g.tree_of ∙ is in
    ap (λ (l : List Token). read l (uses ks) version len) (sym e) ∙ g.reads ∙ cc

-- An expression has neither `=` nor `;`.
unserved : (k : Token) (cs : Forest) → PlainExpression at_root 1 k cs
    → any (uses (written_tree k cs)) (Operator.assignment ∷ Operator.semicolon ∷ []) ≡ false
unfolding any is_one_of uses is_under_semicolon
unserved k cs plain =
    rw (
      written_tree-expression k cs plain.other,
      written-unstated Operator.assignment refl at_root 1 k cs plain refl [],
      written-unstated Operator.semicolon refl at_root 1 k cs plain refl [],
    ) refl

expression-back : (k : Token) (cs : Forest) → PlainExpression at_root 1 k cs → (version : ℤ) (source_length : ℕ)
    → ReadsBack k cs version source_length
unfolding rules is_right_of_question is_under_math_call is_under_semicolon well_formed is_list operand_tokens operand_tree
expression-back k cs plain version len =
    let six = is_from 6 (effective version) in
    let x = text_of six six (is_from 5 (effective version)) at_root 1 k cs refl refl plain in
    let other = plain.other in
    let back = written_tree-expression k cs other in
    let same = taken-paired at_root 1 k cs plain false nil in
    record {
      root = k;
      children = paired k cs;
      reads = own-reading version len x.text (rw (x.fits.states, x.holds) refl) (written_tree k cs) (x.writes.spells [] ∙ sym back)
          (λ u. absurd (false≢true (sym (unserved k cs plain) ∙ u))) k
          (paired k cs) (x.writes.becomes nil);
      agrees = ap comparable same;
      agrees_in_all = λ h. same;
      plain_again = tree_plain k (paired k cs) (expression (plain-paired at_root 1 1 k cs plain));
      writes_again = written_tree-expression k (paired k cs) other ∙ written-paired k cs [] ∙ sym back;
    }

-- What is compared of a script are its statements.
script-compared : (k : Token) (cs : Forest) → k.op ≡ Operator.semicolon
    → comparable (taken_away false (node k cs nil) nil)
    ≡ node (spanning Operator.semicolon 0 0) (comparable_trees (taken_away false cs nil)) nil
unfolding comparable comparable_trees comparable_token computed
script-compared k cs e = ap comparable (taken-kept false k cs nil (ap is_bracket e)) ∙ rw e refl

script-back : (k s : Token) (ss rest : Forest) → eqb k.op Operator.semicolon ≡ true → PlainStatements (node s ss rest)
    → (version : ℤ) (source_length : ℕ)
    → ReadsBack k (node s ss rest) version source_length
unfolding rules well_formed is_list is_text outline tokens trees bare
script-back k s ss rest h plain version len =
    let six = is_from 6 (effective version) in
    let x = lined six six (is_from 5 (effective version)) s ss rest plain in
    let back = written_tree-script k (node s ss rest) h in
    let fs = trees none x.text nil in
    let root = bare Operator.semicolon x.lead in
    record {
      root = root;
      children = fs;
      reads = own-reading version len (Definition.script x.text) (rw (are-lines x.kind, x.holds) refl)
          (written_tree k (node s ss rest)) (x.spells [] ∙ sym back) (λ u. rw back (statements-end s ss rest plain)) root fs
          (led-tree x.kind fs);
      agrees = script-compared root fs refl ∙ ap (λ (f : Forest). node (spanning Operator.semicolon 0 0) f nil) x.again.strips
          ∙ sym (script-compared k (node s ss rest) (eqb-true k.op Operator.semicolon h));
      agrees_in_all = λ o. absurd (true≢false (sym h ∙ o));
      plain_again = tree_plain root fs (a-script root fs refl x.full x.again.plain);
      writes_again = written_tree-script root fs refl ∙ x.again.writes [] ∙ sym back;
    }

-- Every plain tree reads back, wherever it came from, at every version and source length.
pub round_trip : (k : Token) (cs : Forest) → unplain_at k cs ≡ none → (version : ℤ) (source_length : ℕ) → ReadsBack k cs version source_length
round_trip k cs plain version len = split cs (plain-tree k cs plain)
  where
    split : (cs : Forest) → PlainTree k cs → ReadsBack k cs version len
    split cs (expression e) = expression-back k cs e version len
    split (node x xs rest) (script h s) = script-back k x xs rest h s version len

-- The words that are left of the two trees.
pub record SameWords (k : Token) (cs : Forest) (version : ℤ) (source_length : ℕ) : Type 0 where
  pub root : Token
  pub children : Forest
  pub reads : read (written_tree k cs) (uses (written_tree k cs)) version source_length ≡ tree root children
  pub words : tree_words (comparable (taken_away false (node root children nil) nil)) ≡ tree_words
      (comparable (taken_away false (node k cs nil) nil))
  pub all_words : eqb k.op Operator.semicolon ≡ false
      → tree_words (taken_away false (node root children nil) nil) ≡ tree_words (taken_away false (node k cs nil) nil)

-- DEMAND 3. Take any plain tree. At any version and source length, reading its written list with each operator of its tokens and no other
-- gives a tree; and the two trees, with every one-child bracket taken away that is no call's argument, are the same words in the same
-- order: operators, payloads, spans, child counts and seventh words alike; but in a script not the spans, payloads and seventh words of
-- semicolons. (It does not matter which reading gave the tree, nor how long its writing is. `Entries` has the demand's three calls, which
-- say both.)
pub demand-3 : (k : Token) (cs : Forest) → unplain_at k cs ≡ none → (version : ℤ) (source_length : ℕ) → SameWords k cs version source_length
demand-3 k cs plain version source_length =
    let again = round_trip k cs plain version source_length in
    record {
      root = again.root;
      children = again.children;
      reads = again.reads;
      words = ap tree_words again.agrees;
      all_words = λ h. ap tree_words (again.agrees_in_all h);
    }
