-- A plain script is written as a text with semicolons, under the rules of every version: a line for each statement. The trees of the lines
-- are plain statements, are written as the same tokens, and nothing that is compared of them is lost.
use Prim.Native.Nat.{ℕ}
use mathlib.Core.{Path.{◌≡◌, refl, ap, sym, ◌∙◌}, Bool.{Bool, true, false, true≢false, false≢true}, Option.{none}}
use mathlib.Core.List.{List, [], ◌∷◌, ◌++◌}
use lib.Dec.{eqb}
use Rattle.molang.specs.Operator
use Rattle.molang.specs.{Operator.{is_bracket}, Forest.{Token, Forest, nil, node, bare}, Free.{is_nil}}
use Rattle.molang.specs.Plain.{is_right_of_question, is_under_math_call, under_semicolon}
use Rattle.molang.specs.Write.{spanning, operand_tokens, written, written_statements, taken_away, comparable_token, comparable_trees}
use Rattle.molang.specs.Grammar.{Text, line, lines, tokens, tokens_before, Sort, a_statement, a_line, some_lines, several, is_statement}
use Rattle.molang.specs.Grammar.{is_line, are_lines, are_rest, outline, all_are, is_text, listed, trees, ends_in}
use Rattle.molang.proofs.{Computed.{computed}, PlainTrees.{PlainExpression, PlainStatements, ended, statement, PlainTree, script}}
use Rattle.molang.proofs.{Paired.{operand_tree, paired, written-paired, plain-paired}, Writing.{written-before}}
use Rattle.molang.proofs.{TakingAway.{taken-later, taken-kept}, Grammar.Levels.{ruled}, RoundTrip.Taken.{taken-paired}}
use Rattle.molang.proofs.RoundTrip.Texts.{text_of}

-- What is compared of a statement is what it holds.
pub statement-compared : (k : Token) (cs rest : Forest) → k.op ≡ Operator.semicolon
    → comparable_trees (taken_away false (node k cs rest) nil) ≡ node (spanning Operator.semicolon 0 0)
    (comparable_trees (taken_away false cs nil)) (comparable_trees (taken_away false rest nil))
unfolding comparable_trees comparable_token computed
statement-compared k cs rest e =
    ap comparable_trees (taken-later false k cs rest nil ∙ taken-kept false k cs (taken_away false rest nil) (ap is_bracket e))
    ∙ rw e refl

-- The statements of fs are those of cs as they are read.
pub record Again (fs cs : Forest) : Type 0 where
  pub plain : PlainStatements fs
  pub writes : (r : List Token) → written_statements fs r ≡ written_statements cs r
  pub strips : comparable_trees (taken_away false fs nil) ≡ comparable_trees (taken_away false cs nil)

again-none : Again nil nil
again-none = record { plain = ended; writes = λ r. refl; strips = refl }

again-one : (l s : Token) (n : ℕ) (x : Token) (xs fs rest : Forest) → l.op ≡ Operator.semicolon → s.op ≡ Operator.semicolon
    → PlainExpression under_semicolon n x xs
    → Again fs rest → Again (node l (node x (paired x xs) nil) fs) (node s (node x xs nil) rest)
unfolding written_statements
again-one l s n x xs fs rest h g e i = record {
  plain = statement l n x h (plain-paired under_semicolon n n x xs e) i.plain;
  writes = λ r. written-paired x xs (bare Operator.semicolon x ∷ written_statements fs r)
      ∙ ap (λ (ks : List Token). written x xs (bare Operator.semicolon x ∷ ks)) (i.writes r);
  strips = statement-compared l (node x (paired x xs) nil) fs h
      ∙ (λ j. node (spanning Operator.semicolon 0 0) (comparable_trees (taken-paired under_semicolon n x xs e false nil j)) (i.strips j))
      ∙ sym (statement-compared s (node x xs nil) rest g);
}

-- They make a script.
pub a-script : (k : Token) (cs : Forest) → eqb k.op Operator.semicolon ≡ true → is_nil cs ≡ false → PlainStatements cs → PlainTree k cs
unfolding is_nil
a-script k nil h f s = absurd (true≢false f)
a-script k (node x xs rest) h f s = script h s

-- The list ends with the last statement's semicolon.
ends-later : (n : ℕ) (k : Token) (ks : List Token) → ends_in n ks ≡ true → ends_in n (k ∷ ks) ≡ true
unfolding ends_in
ends-later n k [] h = absurd (false≢true h)
ends-later n k (l ∷ ks) h = h

ends-behind : (n : ℕ) (js ks : List Token) → ends_in n ks ≡ true → ends_in n (js ++ ks) ≡ true
ends-behind n [] ks h = h
ends-behind n (j ∷ js) ks h = ends-later n j (js ++ ks) (ends-behind n js ks h)

pub statements-end : (s : Token) (ss rest : Forest) → PlainStatements (node s ss rest)
    → ends_in Operator.semicolon (written_statements (node s ss rest) []) ≡ true
unfolding written_statements
statements-end s nil rest x'' = elim x'' [ ]
statements-end s (node x xs (node _ _ _)) rest x9 = elim x9 [ ]
statements-end s (node x xs nil) nil (statement _ n _ h e ended) =
    rw (written-before x xs (bare Operator.semicolon x ∷ []))
    (ends-behind Operator.semicolon (written x xs []) (bare Operator.semicolon x ∷ []) (unfold ends_in bare in refl))
statements-end s (node x xs nil) (node t ts rest) (statement _ n _ h e later) =
    rw (written-before x xs (bare Operator.semicolon x ∷ written_statements (node t ts rest) []))
    (ends-behind Operator.semicolon (written x xs []) _ (ends-later Operator.semicolon (bare Operator.semicolon x) _
    (statements-end t ts rest later)))

-- Lines whose first semicolon is k.
pub data Led (k : Token) : Sort → Type 0 where
  alone : Led k (a_line k)
  before : Led k (some_lines k)

pub are-lines : {k : Token} {s : Sort} → Led k s → are_lines s ≡ true
unfolding are_lines
are-lines alone = refl
are-lines before = refl

are-rest : {k : Token} {s : Sort} → Led k s → are_rest s ≡ true
unfolding are_rest
are-rest alone = refl
are-rest before = refl

pub led-tree : {k : Token} {s : Sort} → Led k s → (f : Forest) → listed s f nil ≡ node (bare Operator.semicolon k) f nil
unfolding listed
led-tree alone f = refl
led-tree before f = refl

module _ (c a p : Bool) where
  -- THE LINES of a script's statements.
  pub record Lined (cs : Forest) : Type 0 where
    pub text : Text
    pub lead : Token
    pub spells : (r : List Token) → tokens text r ≡ written_statements cs r
    pub holds : is_text (ruled c a p) text ≡ true
    pub kind : Led lead (outline text).sort
    pub full : is_nil (trees none text nil) ≡ false
    pub again : Again (trees none text nil) cs

  line-holds : (x : Token) (t : Text) → (outline t).sort ≡ a_statement → is_text (ruled c a p) t ≡ true
      → is_text (ruled c a p) (line (bare Operator.semicolon x) [] t) ≡ true
  unfolding is_text all_are is_statement bare
  line-holds x t s h = rw (s, h) refl

  pub lined : (s : Token) (ss rest : Forest) → PlainStatements (node s ss rest) → Lined (node s ss rest)
  unfolding tokens tokens_before written_statements is_text is_line outline several trees operand_tree operand_tokens bare
      is_right_of_question is_under_math_call is_nil
  lined s nil rest x'' = elim x'' [ ]
  lined s (node x xs (node _ _ _)) rest x9 = elim x9 [ ]
  lined s (node x xs nil) nil (statement _ n _ h e ended) =
      let y = text_of c a p under_semicolon n x xs refl refl e in
      record {
        text = line (bare Operator.semicolon x) [] y.text;
        lead = bare Operator.semicolon x;
        spells = λ r. y.writes.spells (bare Operator.semicolon x ∷ r);
        holds = line-holds x y.text y.fits.states y.holds;
        kind = alone;
        full = refl;
        again = rw (y.writes.becomes nil) (again-one _ s n x xs nil nil refl h e again-none);
      }
  lined s (node x xs nil) (node t ts rest) (statement _ n _ h e later) =
      let y = text_of c a p under_semicolon n x xs refl refl e in
      let i = lined t ts rest later in
      record {
        text = lines (line (bare Operator.semicolon x) [] y.text) i.text;
        lead = bare Operator.semicolon x;
        spells = λ r. y.writes.spells (bare Operator.semicolon x ∷ tokens i.text r)
            ∙ ap (λ (ks : List Token). written x xs (bare Operator.semicolon x ∷ ks)) (i.spells r);
        holds = rw (are-rest i.kind, line-holds x y.text y.fits.states y.holds, i.holds) refl;
        kind = before;
        full = refl;
        again = rw (y.writes.becomes nil) (again-one _ s n x xs _ _ refl h e i.again);
      }
