-- THREE VIEWS OF A TEXT, each of which the theorem of some passes speaks of: its shape (up to the math calls), its list of operands and
-- operators (the prefix operators), its ranked expression (the pointer's level, and all levels from
-- the first binary one on). Which stage a list is at is the form that is taken of a view.
use mathlib.Core.List.{List, [], ◌∷◌}
use Rattle.molang.specs.Operator
use Rattle.molang.specs.Forest.{Token, nil, node, bare, renamed, closed_by}
use Rattle.molang.specs.Grammar.{Text, operand, member, section, query, math_call, math_empty, index, arrow, prefix, returned, between}
use Rattle.molang.specs.Grammar.{minus, minuses, choice, chosen, script, line, lines, final, top_of, inside_of}
use Rattle.molang.proofs.Grammar.Shape as Shapes
use Rattle.molang.proofs.{Grammar.Shape.{Shape}, Grammar.Ranked.{Exp}, Grammar.Prefixed.{raw, read}}
use Rattle.molang.proofs.Grammar.Ranked as Ranks
use Rattle.molang.proofs.Grammar.Prefixed as Prefixes

-- ---- the shape

-- Semicolons after a statement.
unfoldable pub blanks : Shape → List Token → Shape
blanks x [] = x
blanks x (e ∷ es) = blanks (Shapes.beside x (Shapes.blank e)) es

unfoldable pub shape : Text → Shape
shape (operand k) = Shapes.token k
shape (member b a ms) = Shapes.chain b (a ∷ ms)
shape (section o c x) = Shapes.section o c (shape x)
shape (query k o c x) = Shapes.query k o c (shape x)
shape (math_call k o c x) = Shapes.math_call k o c (shape x)
shape (math_empty k o c) = Shapes.math_empty k o c
shape (index k o c x) = Shapes.index k o c (shape x)
shape (arrow k x y) = Shapes.pointer k (shape x) (shape y)
shape (prefix k x) = Shapes.beside (Shapes.token k) (shape x)
shape (returned k x) = Shapes.beside (Shapes.token k) (shape x)
shape (between k x y) = Shapes.beside (shape x) (Shapes.beside (Shapes.token k) (shape y))
shape (minus k x y) = Shapes.beside (shape x) (Shapes.beside (Shapes.token k) (shape y))
shape (minuses k l x y) = Shapes.beside (shape x) (Shapes.beside (Shapes.token k) (Shapes.beside (Shapes.token l) (shape y)))
shape (choice q c t) = Shapes.beside (shape c) (Shapes.beside (Shapes.token q) (shape t))
shape (chosen q k c t e) =
    Shapes.beside (shape c) (Shapes.beside (Shapes.token q) (Shapes.beside (shape t) (Shapes.beside (Shapes.token k) (shape e))))
shape (script x) = Shapes.script (Shapes.semicolon_of (shape x)) (shape x)
shape (line e es x) = blanks (Shapes.statement e (shape x)) es
shape (lines x y) = Shapes.beside (shape x) (shape y)
shape (final x) = Shapes.last (shape x)

-- ---- expressions

-- Accessors over an expression.
unfoldable pub over : Exp → List Token → Exp
over e [] = e
over e (a ∷ ms) = over (Ranks.over a e) ms

-- As the pointer's level finds it: prefixes, math calls and operators are tokens side by side.
unfoldable pub points : Text → Exp
points (operand k) = Ranks.leaf k
points (member b a ms) = over (Ranks.over a (Ranks.leaf b)) ms
points (section o c x) = Ranks.over (closed_by c o) (points x)
points (query k o c x) = Ranks.over k (Ranks.over (closed_by c o) (points x))
points (math_call k o c x) = Ranks.beside (Ranks.leaf k) (Ranks.over (closed_by c o) (points x))
points (math_empty k o c) = Ranks.beside (Ranks.leaf k) (Ranks.leaf (closed_by c o))
points (index k o c x) = Ranks.over (renamed Operator.array k) (points x)
points (arrow k x y) = Ranks.between k (points x) (points y)
points (prefix k x) = Ranks.beside (Ranks.leaf k) (points x)
points (returned k x) = Ranks.beside (Ranks.leaf k) (points x)
points (between k x y) = Ranks.beside (points x) (Ranks.beside (Ranks.leaf k) (points y))
points (minus k x y) = Ranks.beside (points x) (Ranks.beside (Ranks.leaf k) (points y))
points (minuses k l x y) = Ranks.beside (points x) (Ranks.beside (Ranks.leaf k) (Ranks.beside (Ranks.leaf l) (points y)))
points (choice q c t) = Ranks.beside (points c) (Ranks.beside (Ranks.leaf q) (points t))
points (chosen q k c t e) =
    Ranks.beside (points c) (Ranks.beside (Ranks.leaf q) (Ranks.beside (points t) (Ranks.beside (Ranks.leaf k) (points e))))
points (script x) = Ranks.over (bare Operator.semicolon (Shapes.semicolon_of (shape x))) (points x)
points (line e es x) = Ranks.over (bare Operator.semicolon (Shapes.first_of (shape x))) (points x)
points (lines x y) = Ranks.beside (points x) (points y)
points (final x) = Ranks.over (bare Operator.semicolon (Shapes.first_of (shape x))) (points x)

-- The first operand of a list under a minus.
unfoldable pub negated : Token → Exp → Exp
negated k (Ranks.leaf l) = Ranks.over (bare Operator.negate k) (Ranks.leaf l)
negated k (Ranks.over l x) = Ranks.over (bare Operator.negate k) (Ranks.over l x)
negated k (Ranks.beside x y) = Ranks.beside (negated k x) y
negated k (Ranks.between l x y) = Ranks.between l (negated k x) y
negated k (Ranks.choice q c t) = Ranks.choice q (negated k c) t
negated k (Ranks.chosen q l c t e) = Ranks.chosen q l (negated k c) t e

-- From the first binary level on.
unfoldable pub ranked : Text → Exp
ranked (operand k) = Ranks.leaf k
ranked (member b a ms) = over (Ranks.over a (Ranks.leaf b)) ms
ranked (section o c x) = Ranks.over (closed_by c o) (ranked x)
ranked (query k o c x) = Ranks.over k (Ranks.over (closed_by c o) (ranked x))
ranked (math_call k o c x) = Ranks.over k (Ranks.over (closed_by c o) (ranked x))
ranked (math_empty k o c) = Ranks.over k (Ranks.leaf (closed_by c o))
ranked (index k o c x) = Ranks.over (renamed Operator.array k) (ranked x)
ranked (arrow k x y) = Ranks.over k (Ranks.beside (ranked x) (ranked y))
ranked (prefix k x) = Ranks.over k (ranked x)
ranked (returned k x) = Ranks.beside (Ranks.leaf k) (ranked x)
ranked (between k x y) = Ranks.between k (ranked x) (ranked y)
ranked (minus k x y) = Ranks.between (renamed Operator.add k) (ranked x) (negated k (ranked y))
ranked (minuses k l x y) = Ranks.between (renamed Operator.add k) (ranked x) (ranked y)
ranked (choice q c t) = Ranks.choice q (ranked c) (ranked t)
ranked (chosen q k c t e) = Ranks.chosen q k (ranked c) (ranked t) (ranked e)
ranked (script x) = Ranks.over (bare Operator.semicolon (Shapes.semicolon_of (shape x))) (ranked x)
ranked (line e es x) = Ranks.over (bare Operator.semicolon (Shapes.first_of (shape x))) (ranked x)
ranked (lines x y) = Ranks.beside (ranked x) (ranked y)
ranked (final x) = Ranks.over (bare Operator.semicolon (Shapes.first_of (shape x))) (ranked x)

-- ---- operands and operators

-- A node over a list that the pass of the prefix operators reads.
unfoldable pub holds : Token → Prefixes.Text → Prefixes.Text
holds k x = Prefixes.item k (raw x nil) (read x nil)

-- A token with the bracket that holds a list.
unfoldable pub calling : Token → Token → Token → Prefixes.Text → Prefixes.Text
calling k o c x = Prefixes.item k (node (closed_by c o) (raw x nil) nil) (node (closed_by c o) (read x nil) nil)

-- As the pass of the prefix operators finds it.
unfoldable pub prefixed : Text → Prefixes.Text
prefixed (operand k) = Prefixes.item k nil nil
prefixed (member b a ms) = Prefixes.item (top_of b (a ∷ ms)) (inside_of b nil (a ∷ ms)) (inside_of b nil (a ∷ ms))
prefixed (section o c x) = holds (closed_by c o) (prefixed x)
prefixed (query k o c x) = calling k o c (prefixed x)
prefixed (math_call k o c x) = calling k o c (prefixed x)
prefixed (math_empty k o c) = Prefixes.item k (node (closed_by c o) nil nil) (node (closed_by c o) nil nil)
prefixed (index k o c x) = holds (renamed Operator.array k) (prefixed x)
prefixed (arrow k x y) = holds k (Prefixes.beside (prefixed x) (prefixed y))
prefixed (prefix k x) = Prefixes.prefix k (prefixed x)
prefixed (returned k x) = Prefixes.beside (Prefixes.item k nil nil) (prefixed x)
prefixed (between k x y) = Prefixes.between k (prefixed x) (prefixed y)
prefixed (minus k x y) = Prefixes.minus k (prefixed x) (prefixed y)
prefixed (minuses k l x y) = Prefixes.minuses k l (prefixed x) (prefixed y)
prefixed (choice q c t) = Prefixes.between q (prefixed c) (prefixed t)
prefixed (chosen q k c t e) = Prefixes.between q (prefixed c) (Prefixes.between k (prefixed t) (prefixed e))
prefixed (script x) = holds (bare Operator.semicolon (Shapes.semicolon_of (shape x))) (prefixed x)
prefixed (line e es x) = holds (bare Operator.semicolon (Shapes.first_of (shape x))) (prefixed x)
prefixed (lines x y) = Prefixes.beside (prefixed x) (prefixed y)
prefixed (final x) = holds (bare Operator.semicolon (Shapes.first_of (shape x))) (prefixed x)
