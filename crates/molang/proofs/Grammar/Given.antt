-- THE RULES GIVE WHAT EACH VIEW ASKS: a text that keeps them is canonical.
use Prim.Native.Nat.{ℕ}
use mathlib.Core.{Path.{◌≡◌, refl, ap, sym, ◌∙◌}, Bool.{Bool, true, false, ◌&&◌, true≢false, false≢true, and-eq-true_iff, and-false}}
use mathlib.Core.{List.{List, [], ◌∷◌}, Logic.{◌⊎◌, inl, inr}}
use lib.Dec.{eqb, leb}
use borrow.Author.Tests.{not-true, eq-eqb}
use Rattle.molang.specs.Operator
use Rattle.molang.specs.{Operator.{any, is_one_of, is_math_call, is_query_or_loop, before_minus}, Forest.{Token}, Read.{uses}}
use Rattle.molang.specs.Grammar.{Text, section, query, math_call, math_empty, index, script, tokens, Sort, a_statement, a_script, a_line}
use Rattle.molang.specs.Grammar.{some_lines, a_last, several, is_statement, is_line, are_rest, lacks, is_operand}
use Rattle.molang.specs.Grammar as Grammar
use Rattle.molang.proofs.{Computed.{computed}, Booleans.{or-neither}}
use Rattle.molang.proofs.Grammar.Shape.{Shape, Plain, Curly, Round, Shaped, Stated, is_item, is_list, is_one_expression, ends_bare, opens}
use Rattle.molang.proofs.{Grammar.Shape.{are_ended, are_lines, starts_statement, has_semicolon, semicolon_of}, Grammar.Views.{blanks}}
use Rattle.molang.proofs.{Grammar.Signed.{Unsigned}, Grammar.Canonical.{arrow_rank}, Grammar.Used.{Each, EachIn}}
use Rattle.molang.proofs.{Grammar.Numbers.{apart, infixes, plainly, unsigned, unpointed}, OperatorNumbers.{none_of, every, each-one}}
use Rattle.molang.proofs.Grammar.Kept.{All}
use Rattle.molang.proofs.Grammar.Shape as Shapes

-- ---- what the operators of tokens are not

-- A token that stands by itself in the list of operands and operators.
pub record Lone (k : Token) : Type 0 where
  pub plain : Plain k
  pub unpointed : arrow_rank k.op ≡ 0
  pub unsigned : Unsigned k
  pub silent : eqb k.op Operator.return ≡ false

pub an-operand : (k : Token) → is_operand k.op ≡ true → Lone k
unfolding computed
an-operand k h = record {
  plain = plainly is_operand refl refl k h;
  unpointed = unpointed is_operand refl k.op h;
  unsigned = unsigned is_operand refl refl k h;
  silent = apart is_operand k.op Operator.return h refl;
}

pub a-query : (k : Token) → is_query_or_loop k.op ≡ true → Lone k
unfolding computed
a-query k h = record {
  plain = plainly is_query_or_loop refl refl k h;
  unpointed = unpointed is_query_or_loop refl k.op h;
  unsigned = unsigned is_query_or_loop refl refl k h;
  silent = apart is_query_or_loop k.op Operator.return h refl;
}

-- What stands before an operand or between two.
abbrev pub joins : List ℕ
joins = Operator.negate ∷ Operator.logical_not ∷ Operator.return ∷ infixes

-- Such a token takes no bracket.
pub record Joins (k : Token) : Type 0 where
  pub plain : Plain k
  pub unpointed : arrow_rank k.op ≡ 0
  pub uncalled : is_query_or_loop k.op ≡ false

a-join : (k : Token) → is_one_of joins k.op ≡ true → Joins k
unfolding computed
a-join k h = record {
  plain = plainly (is_one_of joins) refl refl k h;
  unpointed = unpointed (is_one_of joins) refl k.op h;
  uncalled = none_of (is_one_of joins) (Operator.query_function ∷ Operator.loop ∷ Operator.for_each ∷ []) k.op h refl;
}

pub one-join : (k : Token) (m : ℕ) → k.op ≡ m → is_one_of joins m ≡ true → Joins k
one-join k m e h = a-join k (ap (is_one_of joins) e ∙ h)

pub an-infix-join : (k : Token) → is_one_of infixes k.op ≡ true → Joins k
unfolding computed every
an-infix-join k h = a-join k (each-one (is_one_of joins) infixes refl k.op h)

pub infix-unary : (n : ℕ) → is_one_of infixes n ≡ true → before_minus n ≡ Operator.operator
unfolding computed every
infix-unary n h =
    rw (
      apart (is_one_of infixes) n Operator.negate h refl,
      none_of (is_one_of infixes) (Operator.continue ∷ Operator.expression_array ∷ []) n h refl,
      each-one (is_one_of Operator.operators_before) infixes refl n h,
      before_minus,
    ) refl

pub infix-unsigned : (k : Token) → is_one_of infixes k.op ≡ true → Unsigned k
unfolding computed
infix-unsigned k h = unsigned (is_one_of infixes) refl refl k h

pub infix-silent : (n : ℕ) → is_one_of infixes n ≡ true → eqb n Operator.return ≡ false
unfolding computed
infix-silent n h = apart (is_one_of infixes) n Operator.return h refl

-- The label of a section, and of a math call.
pub record Labels (k : Token) : Type 0 where
  pub unpointed : arrow_rank k.op ≡ 0
  pub unsigned : Unsigned k
  pub silent : eqb k.op Operator.return ≡ false
  pub unlevelled : is_one_of infixes k.op ≡ false

labels : (P : ℕ → Bool) → any P (Operator.pointer ∷ Operator.negate ∷ Operator.logical_not ∷ Operator.return ∷ []) ≡ false
    → any P infixes ≡ false
    → (k : Token) → P k.op ≡ true → Labels k
unfolding any
labels P o i k h =
    let a = or-neither (P Operator.pointer) _ o in
    let b = or-neither (P Operator.negate) _ a.1 in
    let d = or-neither (P Operator.logical_not) _ b.1 in
    let e = or-neither (P Operator.return) _ d.1 in
    record {
      unpointed = unpointed P a.0 k.op h;
      unsigned = unsigned P b.0 d.0 k h;
      silent = apart P k.op Operator.return h e.0;
      unlevelled = none_of P infixes k.op h i;
    }

one_label : (m : ℕ) → any (λ n. eqb n m) (Operator.pointer ∷ Operator.negate ∷ Operator.logical_not ∷ Operator.return ∷ []) ≡ false
    → any (λ n. eqb n m) infixes ≡ false → (k : Token) → k.op ≡ m → Labels k
one_label m o i k e = labels (λ n. eqb n m) o i k (eq-eqb k.op m e)

pub round-label : (o e : Token) → Round o e → Labels o
unfolding computed
round-label o e h = one_label Operator.left_parenthesis refl refl o h.0

pub section-label : (o e : Token) → Curly o e ⊎ Round o e → Labels o
unfolding computed
section-label o e (inl h) = one_label Operator.left_brace refl refl o h.0
section-label o e (inr h) = round-label o e h

pub math-label : (k : Token) → is_math_call k.op ≡ true → Labels k
unfolding computed
math-label k h = labels is_math_call refl refl k h

pub operand-label : (k : Token) → is_operand k.op ≡ true → Labels k
unfolding computed
operand-label k h = labels is_operand refl refl k h

pub query-label : (k : Token) → is_query_or_loop k.op ≡ true → Labels k
unfolding computed
query-label k h = labels is_query_or_loop refl refl k h

-- ---- shapes

pub and_both : (a b : Bool) → a ≡ true → b ≡ true → (a && b) ≡ true
and_both true b e f = f
and_both false b e f = absurd (false≢true e)

item-list : (s : Shape) → is_item s ≡ true → is_list s ≡ true
unfolding is_item is_list
item-list (Shapes.token k) h = refl
item-list (Shapes.beside x y) h = h
item-list (Shapes.chain b ms) h = refl
item-list (Shapes.section o c x) h = refl
item-list (Shapes.query k o c x) h = refl
item-list (Shapes.math_call k o c x) h = refl
item-list (Shapes.math_empty k o c) h = refl
item-list (Shapes.index k o c x) h = refl
item-list (Shapes.pointer k x y) h = h
item-list (Shapes.script q x) h = absurd (false≢true h)
item-list (Shapes.statement e x) h = absurd (false≢true h)
item-list (Shapes.last x) h = absurd (false≢true h)
item-list (Shapes.blank e) h = absurd (false≢true h)

-- A statement with its semicolons.
pub record Line (s : Shape) (e : Token) : Type 0 where
  pub ended : are_ended s ≡ true
  pub lined : are_lines s ≡ true
  pub starts : starts_statement s ≡ true
  pub semicolons : has_semicolon s ≡ true
  pub first : semicolon_of s ≡ e
  pub called : ends_bare s ≡ false

pub record Lines (s : Shape) (e : Token) : Type 0 where
  pub lined : are_lines s ≡ true
  pub starts : starts_statement s ≡ true
  pub semicolons : has_semicolon s ≡ true
  pub first : semicolon_of s ≡ e

-- What the shape of a text is, by what the text is.
abbrev pub Sorted : Sort → Shape → Type 0
Sorted a_statement s = is_item s ≡ true
Sorted a_script s = is_list s ≡ true
Sorted (a_line e) s = Line s e
Sorted (some_lines e) s = Lines s e
Sorted a_last s = are_lines s ≡ true

pub one_line : (e : Token) (s : Shape) → is_item s ≡ true → Line (Shapes.statement e s) e
unfolding are_ended are_lines starts_statement has_semicolon semicolon_of ends_bare is_item
one_line e s i = record { ended = i; lined = i; starts = refl; semicolons = refl; first = refl; called = refl }

pub last_line : (s : Shape) → is_item s ≡ true → are_lines (Shapes.last s) ≡ true
unfolding are_lines is_item
last_line s i = i

pub blank-line : (e : Token) (es : List Token) (s : Shape) → Line s e → Line (blanks s es) e
unfolding blanks
blank-line e [] s h = h
blank-line e (f ∷ es) s h = blank-line e es (Shapes.beside s (Shapes.blank f)) (
    unfold are_ended are_lines starts_statement has_semicolon semicolon_of ends_bare in record {
      ended = and_both (are_ended s) true h.ended refl;
      lined = and_both (are_ended s) true h.ended refl;
      starts = h.starts;
      semicolons = h.semicolons;
      first = h.first;
      called = refl;
    }
    )

pub lines-sorted : (s t : Sort) (x y : Shape) → is_line s ≡ true → are_rest t ≡ true → Sorted s x → Sorted t y
    → Sorted (several s) (Shapes.beside x y)
unfolding is_line are_rest several are_ended
lines-sorted a_statement t x y h g m n = absurd (false≢true h)
lines-sorted a_script t x y h g m n = absurd (false≢true h)
lines-sorted (a_line e) t x y h g m n = unfold are_lines starts_statement has_semicolon semicolon_of in record {
  lined = and_both (are_ended x) (are_lines y) m.ended (rest t n g);
  starts = m.starts;
  semicolons = m.semicolons;
  first = m.first;
}
  where
    rest : (t : Sort) → Sorted t y → are_rest t ≡ true → are_lines y ≡ true
    rest a_statement n g = absurd (false≢true g)
    rest a_script n g = absurd (false≢true g)
    rest (a_line e) n g = n.lined
    rest (some_lines e) n g = n.lined
    rest a_last n g = n
lines-sorted (some_lines e) t x y h g m n = absurd (false≢true h)
lines-sorted a_last t x y h g m n = absurd (false≢true h)

pub script-sorted : (s : Sort) (x : Shape) → Grammar.are_lines s ≡ true → Sorted s x
    → (are_lines x && (starts_statement x && has_semicolon x)) ≡ true
unfolding Grammar.are_lines
script-sorted a_statement x h m = absurd (false≢true h)
script-sorted a_script x h m = absurd (false≢true h)
script-sorted (a_line e) x h m = and_both (are_lines x) _ m.lined
    (and_both (starts_statement x) (has_semicolon x) m.starts m.semicolons)
script-sorted (some_lines e) x h m = and_both (are_lines x) _ m.lined
    (and_both (starts_statement x) (has_semicolon x) m.starts m.semicolons)
script-sorted a_last x h m = absurd (false≢true h)

pub statement-sorted : (s : Sort) (x : Shape) → is_statement s ≡ true → Sorted s x → is_item x ≡ true
unfolding is_statement
statement-sorted a_statement x h m = m
statement-sorted a_script x h m = absurd (false≢true h)
statement-sorted (a_line e) x h m = absurd (false≢true h)
statement-sorted (some_lines e) x h m = absurd (false≢true h)
statement-sorted a_last x h m = absurd (false≢true h)

pub list-sorted : (s : Sort) (x : Shape) → Grammar.is_list s ≡ true → Sorted s x → is_list x ≡ true
unfolding Grammar.is_list
list-sorted a_statement x h m = item-list x m
list-sorted a_script x h m = m
list-sorted (a_line e) x h m = absurd (false≢true h)
list-sorted (some_lines e) x h m = absurd (false≢true h)
list-sorted a_last x h m = absurd (false≢true h)

pub bare-sorted : (s : Sort) (x : Shape) → is_line s ≡ true → Sorted s x → ends_bare x ≡ false
unfolding is_line
bare-sorted a_statement x h m = absurd (false≢true h)
bare-sorted a_script x h m = absurd (false≢true h)
bare-sorted (a_line e) x h m = m.called
bare-sorted (some_lines e) x h m = absurd (false≢true h)
bare-sorted a_last x h m = absurd (false≢true h)

-- No semicolon among the tokens: none in the shape.
abbrev pub Unended : Shape → Type 0
Unended s = EachIn (λ k. eqb k.op Operator.semicolon ≡ false) s

none-there : (s : Shape) → Shaped s → Unended s → has_semicolon s ≡ true → ⊥
unfolding has_semicolon
none-there (Shapes.token k) g u h = false≢true h
none-there (Shapes.beside x y) g u h = none-there x g.1 u.0 h
none-there (Shapes.chain b ms) g u h = false≢true h
none-there (Shapes.section o c x) g u h = false≢true h
none-there (Shapes.query k o c x) g u h = false≢true h
none-there (Shapes.math_call k o c x) g u h = false≢true h
none-there (Shapes.math_empty k o c) g u h = false≢true h
none-there (Shapes.index k o c x) g u h = false≢true h
none-there (Shapes.pointer k x y) g u h = false≢true h
none-there (Shapes.script q x) g u h = false≢true h
none-there (Shapes.statement e x) g u h = true≢false (sym (eq-eqb e.op Operator.semicolon g.0) ∙ u.0)
none-there (Shapes.last x) g u h = false≢true h
none-there (Shapes.blank e) g u h = true≢false (sym (eq-eqb e.op Operator.semicolon g) ∙ u)

pub one-expression : (s : Shape) → Shaped s → Stated s → is_list s ≡ true → Unended s → is_one_expression s ≡ true
unfolding is_one_expression is_list is_item are_lines starts_statement has_semicolon
one-expression (Shapes.token k) g m h u = refl
one-expression (Shapes.beside x y) g m h u =
    let b = (and-eq-true_iff (is_item x) (is_item y)).0 h in
    and_both (is_one_expression x) (is_one_expression y) (one-expression x g.1 m.0 (item-list x b.0) u.0)
    (one-expression y g.2 m.1 (item-list y b.1) u.1)
one-expression (Shapes.chain b ms) g m h u = refl
one-expression (Shapes.section o c x) g m h u = one-expression x g.1 m.1 m.0 u.2
one-expression (Shapes.query k o c x) g m h u = one-expression x g.3 m.2 m.1 u.3
one-expression (Shapes.math_call k o c x) g m h u = one-expression x g.2 m.1 m.0 u.3
one-expression (Shapes.math_empty k o c) g m h u = refl
one-expression (Shapes.index k o c x) g m h u = m.0
one-expression (Shapes.pointer k x y) g m h u =
    let b = (and-eq-true_iff (is_item x) (is_item y)).0 h in
    and_both (is_one_expression x) (is_one_expression y) (one-expression x g.1 m.0 (item-list x b.0) u.1)
    (one-expression y g.2 m.1 (item-list y b.1) u.2)
one-expression (Shapes.script q x) g m h u =
    let b = (and-eq-true_iff (are_lines x) (starts_statement x && has_semicolon x)).0 h in
    absurd (none-there x g u ((and-eq-true_iff (starts_statement x) (has_semicolon x)).0 b.1).1)
one-expression (Shapes.statement e x) g m h u = absurd (false≢true h)
one-expression (Shapes.last x) g m h u = absurd (false≢true h)
one-expression (Shapes.blank e) g m h u = absurd (false≢true h)

-- A text that lacks an operator.
each-lacks : (n : ℕ) → leb n Operator.host_math_volatile ≡ true → (ks : List Token) → uses ks n ≡ false → Each (λ k. eqb k.op n ≡ false) ks
unfolding uses
each-lacks n l [] h = tt
each-lacks n l (k ∷ ks) h =
    let b = or-neither (leb n Operator.host_math_volatile && eqb k.op n) (uses ks n) h in (rw l at b.0, each-lacks n l ks b.1)

pub lacking : (n : ℕ) (x : Text) → leb n Operator.host_math_volatile ≡ true → lacks n x ≡ true
    → Each (λ k. eqb k.op n ≡ false) (tokens x [])
unfolding lacks
lacking n x l h = each-lacks n l (tokens x []) (not-true (uses (tokens x []) n) h)

pub shaped-blanks : (s : Shape) (es : List Token) → Shaped s → All Operator.semicolon es → Shaped (blanks s es)
unfolding blanks opens
shaped-blanks s [] g h = g
shaped-blanks s (e ∷ es) g h = shaped-blanks (Shapes.beside s (Shapes.blank e)) es (and-false (ends_bare s), g, h.0) h.1

pub stated-blanks : (s : Shape) (es : List Token) → Stated s → Stated (blanks s es)
unfolding blanks
stated-blanks s [] g = g
stated-blanks s (e ∷ es) g = stated-blanks (Shapes.beside s (Shapes.blank e)) es (g, tt)

pub joined-shapes : (k : Token) (x y : Shape) → Joins k → Shaped x → Shaped y → Shaped (Shapes.beside x (Shapes.beside (Shapes.token k) y))
unfolding ends_bare opens
joined-shapes k x y j g h = (and-false (ends_bare x), g, (ap (λ (b : Bool). b && opens y) j.uncalled, j.plain, h))
