-- THE GRAMMAR: what a well-formed text looks like, what its tokens are, what its tree is, and what must hold beside an operator under the
-- rules of a version. Neither reading nor writing uses this file: the theorem `text-reads` (proofs/Grammar) says that reading a text's
-- tokens gives the text's tree. It is checked beside document 01's passes, and docs/GRAMMAR.md is its table.
use Rattle.std.specs.Prelude.{ℕ, suc, ◌≡◌, Bool, true, false, ◌&&◌, ◌||◌, not, List, [], ◌∷◌, eqb, leb, length, pos}
use Rattle.std.proofs.Math.Option.{Option, none, some}
use Rattle.molang.specs.Operator
use Rattle.molang.specs.Operator.{any, is_math_call, is_query_or_loop, is_host, has_members, before_minus}
use Rattle.molang.specs.Forest.{Token, Forest, nil, node, bare, renamed, closed_by}
use Rattle.molang.specs.Free.{is_prefix, is_conditional, is_return, operators_of}
use Rattle.molang.specs.Statements.{is_entered}
use Rattle.molang.specs.Order.{Rules, rules, Pass, order}
use Rattle.molang.specs.Read.{uses}

-- A text, by the tokens that it is made of: an operand; a base with its member accessors, at least one; a section with its opener and
-- closer; a query or loop, a math call, an empty math call, an array name, each with its section; a `->`; a minus or not before its
-- operand; a `return`; an operator between its operands; a minus between them, and two of them; `c ? t` and `c ? t : e` from 5; a list
-- with semicolons; in it a statement with its semicolon and the empty ones after it; a statement before others; the last statement
-- without a semicolon.
pub data Text : Type 0 where
  operand : Token → Text
  member : Token → Token → List Token → Text
  section : Token → Token → Text → Text
  query : Token → Token → Token → Text → Text
  math_call : Token → Token → Token → Text → Text
  math_empty : Token → Token → Token → Text
  index : Token → Token → Token → Text → Text
  arrow : Token → Text → Text → Text
  prefix : Token → Text → Text
  returned : Token → Text → Text
  between : Token → Text → Text → Text
  minus : Token → Text → Text → Text
  minuses : Token → Token → Text → Text → Text
  choice : Token → Text → Text → Text
  chosen : Token → Token → Text → Text → Text → Text
  script : Text → Text
  line : Token → List Token → Text → Text
  lines : Text → Text → Text
  final : Text → Text

-- ---- tokens

-- Tokens before others.
unfoldable pub tokens_before : List Token → List Token → List Token
tokens_before [] r = r
tokens_before (k ∷ ks) r = k ∷ tokens_before ks r

-- The tokens of a text, before those of r.
unfoldable pub tokens : Text → List Token → List Token
tokens (operand k) r = k ∷ r
tokens (member b a ms) r = b ∷ a ∷ tokens_before ms r
tokens (section o c x) r = o ∷ tokens x (c ∷ r)
tokens (query k o c x) r = k ∷ o ∷ tokens x (c ∷ r)
tokens (math_call k o c x) r = k ∷ o ∷ tokens x (c ∷ r)
tokens (math_empty k o c) r = k ∷ o ∷ c ∷ r
tokens (index k o c x) r = k ∷ o ∷ tokens x (c ∷ r)
tokens (arrow k x y) r = tokens x (k ∷ tokens y r)
tokens (prefix k x) r = k ∷ tokens x r
tokens (returned k x) r = k ∷ tokens x r
tokens (between k x y) r = tokens x (k ∷ tokens y r)
tokens (minus k x y) r = tokens x (k ∷ tokens y r)
tokens (minuses k l x y) r = tokens x (k ∷ l ∷ tokens y r)
tokens (choice q c t) r = tokens c (q ∷ tokens t r)
tokens (chosen q k c t e) r = tokens c (q ∷ tokens t (k ∷ tokens e r))
tokens (script x) r = tokens x r
tokens (line e es x) r = tokens x (e ∷ tokens_before es r)
tokens (lines x y) r = tokens x (tokens y r)
tokens (final x) r = tokens x r

-- ---- precedence

-- The number of passes after the first one that works on the operator; 0 if none does.
unfoldable pub rank_in : List Pass → ℕ → ℕ
rank_in [] n = 0
rank_in (p ∷ ps) n = elim (operators_of p n) [ true ↦ length ps | false ↦ rank_in ps n ]

-- The rank of an operator under the rules of a version: what binds tighter has the higher one, since its pass comes earlier.
unfoldable pub rank : Rules → ℕ → ℕ
rank r n = rank_in (order r) n

-- How tightly a text holds together: by the rank of the operator that makes it; what closes itself holds tighter than any operator, and
-- what is no expression holds as loosely as a `return`.
unfoldable pub strength : Rules → Text → ℕ
strength r (operand k) = length (order r)
strength r (member b a ms) = length (order r)
strength r (section o c x) = length (order r)
strength r (query k o c x) = length (order r)
strength r (math_call k o c x) = rank r k.op
strength r (math_empty k o c) = rank r k.op
strength r (index k o c x) = length (order r)
strength r (arrow k x y) = rank r k.op
strength r (prefix k x) = rank r k.op
strength r (returned k x) = 0
strength r (between k x y) = rank r k.op
strength r (minus k x y) = rank r Operator.add
strength r (minuses k l x y) = rank r Operator.add
strength r (choice q c t) = rank r q.op
strength r (chosen q k c t e) = rank r q.op
strength r (script x) = 0
strength r (line e es x) = 0
strength r (lines x y) = 0
strength r (final x) = 0

-- What stands beside an operator that pairs to the left: on its left what holds as tightly, on its right what holds more tightly.
unfoldable pub fits : Rules → ℕ → Text → Text → Bool
fits r n x y = leb (rank r n) (strength r x) && leb (suc (rank r n)) (strength r y)

-- An operator between two operands, from `/` to `=`; from 5 `?` and `:` are none.
unfoldable pub is_infix : Rules → ℕ → Bool
is_infix r n = Operator.between 1 (rank r Operator.div) (rank r n) && not (r.pairs_right && is_conditional n)

-- ---- what a text is to those beside it

-- What a text is: a statement (an expression, or a `return` before one), a list with semicolons, a statement with its semicolon (the
-- first, if there are several), such a one before others, the last statement without a semicolon.
pub data Sort : Type 0 where
  a_statement a_script : Sort
  a_line some_lines : Token → Sort
  a_last : Sort

-- A statement with its semicolon before others.
unfoldable pub several : Sort → Sort
several s = elim s [ a_statement ↦ a_last | a_script ↦ a_last | a_line e ↦ some_lines e | some_lines e ↦ a_last | a_last ↦ a_last ]

unfoldable pub is_statement : Sort → Bool
is_statement s = elim s [ a_statement ↦ true | a_script ↦ false | a_line e ↦ false | some_lines e ↦ false | a_last ↦ false ]

-- A whole list: of the text, or of a section.
unfoldable pub is_list : Sort → Bool
is_list s = elim s [ a_statement ↦ true | a_script ↦ true | a_line e ↦ false | some_lines e ↦ false | a_last ↦ false ]

-- One statement with its semicolon.
unfoldable pub is_line : Sort → Bool
is_line s = elim s [ a_statement ↦ false | a_script ↦ false | a_line e ↦ true | some_lines e ↦ false | a_last ↦ false ]

-- Statements, the first of which has a semicolon.
unfoldable pub are_lines : Sort → Bool
are_lines s = elim s [ a_statement ↦ false | a_script ↦ false | a_line e ↦ true | some_lines e ↦ true | a_last ↦ false ]

-- What may follow a statement with its semicolon: such statements, or the last one without.
unfoldable pub are_rest : Sort → Bool
are_rest s = elim s [ a_statement ↦ false | a_script ↦ false | a_line e ↦ true | some_lines e ↦ true | a_last ↦ true ]

-- What a text is; the token whose span its statement has; the operator of its last item, which a minus after it looks at; whether a `:`
-- after it would belong to a `?` in it.
pub record Outline : Type 0 where
  pub sort : Sort
  pub first : Token
  pub last : ℕ
  pub is_open : Bool

abbrev row : Sort → Token → ℕ → Bool → Outline
row s k n b = record { sort = s; first = k; last = n; is_open = b }

-- The last accessor of a member.
unfoldable pub top_of : Token → List Token → Token
top_of a [] = a
top_of a (m ∷ ms) = top_of m ms

unfoldable pub outline : Text → Outline
outline (operand k) = row a_statement k k.op false
outline (member b a ms) = row a_statement (top_of a ms) Operator.member_accessor false
outline (section o c x) = row a_statement o o.op false
outline (query k o c x) = row a_statement k k.op false
outline (math_call k o c x) = row a_statement k k.op false
outline (math_empty k o c) = row a_statement k k.op false
outline (index k o c x) = row a_statement k Operator.array false
outline (arrow k x y) = row a_statement (outline x).first k.op false
outline (prefix k x) = row a_statement k (outline x).last false
outline (returned k x) = row a_statement k (outline x).last false
outline (between k x y) = row a_statement (outline x).first (outline y).last false
outline (minus k x y) = row a_statement (outline x).first (outline y).last false
outline (minuses k l x y) = row a_statement (outline x).first (outline y).last false
outline (choice q c t) = row a_statement (outline c).first (outline t).last true
outline (chosen q k c t e) = row a_statement (outline c).first (outline e).last (outline e).is_open
outline (script x) = row a_script (outline x).first Operator.semicolon false
outline (line e es x) = row (a_line e) (outline x).first Operator.semicolon false
outline (lines x y) = row (several (outline x).sort) (outline x).first (outline y).last false
outline (final x) = row a_last (outline x).first Operator.semicolon false

-- A minus after the text is binary: it ends with an operand, not with a block, a loop, `break`, `continue` or an expression array.
unfoldable pub ends_operand : Text → Bool
ends_operand x = elim (before_minus (outline x).last)
    [ Operator.operand ↦ true | Operator.operator ↦ false | Operator.minus ↦ false | Operator.unknown ↦ false ]

-- The text begins with a minus.
unfoldable pub begins_with : ℕ → List Token → Bool
begins_with n [] = false
begins_with n (k ∷ ks) = eqb k.op n

-- No token of the text, at any depth, has the operator.
unfoldable pub lacks : ℕ → Text → Bool
lacks n x = not (uses (tokens x []) n)

-- ---- the rules

-- The operands: 40-44, 46-49, 61-70, 76, 77 and the hosts' own.
unfoldable pub is_operand : ℕ → Bool
is_operand n =
    Operator.between Operator.query_function Operator.temp_variable n || Operator.between Operator.string_literal Operator.texture_variable n
    || Operator.between Operator.float Operator.continue n || Operator.between Operator.this Operator.expression_array n || is_host n

-- All tokens have the operator.
unfoldable pub all_are : ℕ → List Token → Bool
all_are n [] = true
all_are n (k ∷ ks) = eqb k.op n && all_are n ks

-- A pair of brackets, by its opener and closer.
unfoldable pub is_pair : ℕ → ℕ → Token → Token → Bool
is_pair m n o c = eqb o.op m && eqb c.op n

unfoldable pub is_round : Token → Token → Bool
is_round o c = is_pair Operator.left_parenthesis Operator.right_parenthesis o c

-- THE RULES: what must hold of a text under the rules of a version.
unfoldable pub is_text : Rules → Text → Bool
is_text r (operand k) = is_operand k.op
is_text r (member b a ms) = is_operand b.op && has_members b.op && all_are Operator.member_accessor (a ∷ ms)
is_text r (section o c x) = (is_pair Operator.left_brace Operator.right_brace o c || is_round o c) && is_list (outline x).sort && is_text r x
is_text r (query k o c x) =
    is_query_or_loop k.op && is_round o c && is_list (outline x).sort && (is_entered k.op || lacks Operator.semicolon x) && is_text r x
is_text r (math_call k o c x) = is_math_call k.op && is_round o c && is_list (outline x).sort && is_text r x
is_text r (math_empty k o c) = is_math_call k.op && is_round o c
is_text r (index k o c x) =
    eqb k.op Operator.array_variable && is_pair Operator.left_bracket Operator.right_bracket o c
    && is_list (outline x).sort && lacks Operator.semicolon x && is_text r x
is_text r (arrow k x y) = eqb k.op Operator.pointer && fits r Operator.pointer x y && is_text r x && is_text r y
is_text r (prefix k x) =
    is_prefix k.op && leb (rank r k.op) (strength r x) && not (eqb k.op Operator.negate && begins_with Operator.negate (tokens x []))
    && is_text r x
is_text r (returned k x) = is_return k.op && leb 1 (strength r x) && lacks Operator.return x && is_text r x
is_text r (between k x y) = is_infix r k.op && fits r k.op x y && is_text r x && is_text r y
is_text r (minus k x y) =
    eqb k.op Operator.negate && ends_operand x && not (begins_with Operator.negate (tokens y [])) && fits r Operator.add x y
    && is_text r x && is_text r y
is_text r (minuses k l x y) =
    all_are Operator.negate (k ∷ l ∷ []) && ends_operand x && not (begins_with Operator.negate (tokens y [])) && fits r Operator.add x y
    && is_text r x && is_text r y
is_text r (choice q c t) =
    r.pairs_right && eqb q.op Operator.conditional
    && leb (suc (rank r Operator.conditional)) (strength r c) && leb (rank r Operator.conditional) (strength r t) && is_text r c
    && is_text r t
is_text r (chosen q k c t e) =
    r.pairs_right && eqb q.op Operator.conditional && eqb k.op Operator.conditional_else
    && leb (suc (rank r Operator.conditional)) (strength r c) && leb (rank r Operator.conditional) (strength r t) && not (outline t).is_open
    && leb (rank r Operator.conditional) (strength r e) && is_text r c && is_text r t && is_text r e
is_text r (script x) = are_lines (outline x).sort && is_text r x
is_text r (line e es x) = all_are Operator.semicolon (e ∷ es) && is_statement (outline x).sort && is_text r x
is_text r (lines x y) = is_line (outline x).sort && are_rest (outline y).sort && is_text r x && is_text r y
is_text r (final x) = is_statement (outline x).sort && is_text r x

-- WELL-FORMED: a whole list that keeps the rules.
unfoldable pub well_formed : Rules → Text → Bool
well_formed r t = is_list (outline t).sort && is_text r t

-- ---- trees

-- A tree, under the minus of a subtraction if one stands before it.
unfoldable pub signed : Option Token → Token → Forest → Forest → Forest
signed none k cs r = node k cs r
signed (some m) k cs r = node (bare Operator.negate m) (node k cs nil) r

-- What the last accessor of a member stands over.
unfoldable pub inside_of : Token → Forest → List Token → Forest
inside_of a cs [] = cs
inside_of a cs (m ∷ ms) = inside_of m (node a cs nil) ms

-- A list with semicolons has the span of its first one.
unfoldable pub listed : Sort → Forest → Forest → Forest
listed a_statement f r = r
listed a_script f r = r
listed (a_line e) f r = node (bare Operator.semicolon e) f r
listed (some_lines e) f r = node (bare Operator.semicolon e) f r
listed a_last f r = r

-- THE TREE of a text, before the trees of r; s is the minus of a subtraction if one stands before the text's first operand. No version
-- changes it: the version says which texts are well-formed.
unfoldable pub trees : Option Token → Text → Forest → Forest
trees s (operand k) r = signed s k nil r
trees s (member b a ms) r = signed s (top_of a ms) (inside_of a (node b nil nil) ms) r
trees s (section o c x) r = signed s (closed_by c o) (trees none x nil) r
trees s (query k o c x) r = signed s k (node (closed_by c o) (trees none x nil) nil) r
trees s (math_call k o c x) r = signed s k (node (closed_by c o) (trees none x nil) nil) r
trees s (math_empty k o c) r = signed s k (node (closed_by c o) nil nil) r
trees s (index k o c x) r = signed s (renamed Operator.array k) (trees none x nil) r
trees s (arrow k x y) r = signed s k (trees none x (trees none y nil)) r
trees s (prefix k x) r = signed s k (trees none x nil) r
trees s (returned k x) r = node k (trees none x nil) r
trees s (between k x y) r = node k (trees s x (trees none y nil)) r
trees s (minus k x y) r = node (renamed Operator.add k) (trees s x (trees (some k) y nil)) r
trees s (minuses k l x y) r = node (renamed Operator.add k) (trees s x (trees none y nil)) r
trees s (choice q c t) r = node q (trees s c (trees none t nil)) r
trees s (chosen q k c t e) r = node q (trees s c (node k (trees none t (trees none e nil)) nil)) r
trees s (script x) r = listed (outline x).sort (trees none x nil) r
trees s (line e es x) r = node (bare Operator.semicolon (outline x).first) (trees none x nil) r
trees s (lines x y) r = trees none x (trees none y r)
trees s (final x) r = node (bare Operator.semicolon (outline x).first) (trees none x nil) r

-- ---- reading

-- The list ends with the operator.
unfoldable pub ends_in : ℕ → List Token → Bool
ends_in n [] = false
ends_in n (k ∷ []) = eqb k.op n
ends_in n (k ∷ l ∷ ks) = ends_in n (l ∷ ks)

-- A used set that serves a list: it has the list's operators; and if it has `=` or `;`, the list ends with a semicolon.
pub record Serves (u : ℕ → Bool) (ks : List Token) : Type 0 where
  pub has : (n : ℕ) → uses ks n ≡ true → u n ≡ true
  pub ends : any u (Operator.assignment ∷ Operator.semicolon ∷ []) ≡ true → ends_in Operator.semicolon ks ≡ true

-- The text with every conditional as operators between operands, as they are below 5.
unfoldable pub unpaired : Text → Text
unpaired (operand k) = operand k
unpaired (member b a ms) = member b a ms
unpaired (section o c x) = section o c (unpaired x)
unpaired (query k o c x) = query k o c (unpaired x)
unpaired (math_call k o c x) = math_call k o c (unpaired x)
unpaired (math_empty k o c) = math_empty k o c
unpaired (index k o c x) = index k o c (unpaired x)
unpaired (arrow k x y) = arrow k (unpaired x) (unpaired y)
unpaired (prefix k x) = prefix k (unpaired x)
unpaired (returned k x) = returned k (unpaired x)
unpaired (between k x y) = between k (unpaired x) (unpaired y)
unpaired (minus k x y) = minus k (unpaired x) (unpaired y)
unpaired (minuses k l x y) = minuses k l (unpaired x) (unpaired y)
unpaired (choice q c t) = between q (unpaired c) (unpaired t)
unpaired (chosen q k c t e) = between q (unpaired c) (between k (unpaired t) (unpaired e))
unpaired (script x) = script (unpaired x)
unpaired (line e es x) = line e es (unpaired x)
unpaired (lines x y) = lines (unpaired x) (unpaired y)
unpaired (final x) = final (unpaired x)

-- The text is well-formed under the rules of all versions, which change at 5 and at 6: no operator whose rank a version changes stands
-- beside another without brackets. So it has one tree at all of them.
unfoldable pub same_at_all : Text → Bool
same_at_all t = well_formed (rules (pos 4)) (unpaired t) && well_formed (rules (pos 5)) t && well_formed (rules (pos 6)) t
