-- What the list of a well-formed text looks like up to the math calls: everything that a pass before the prefix operators folds, and
-- tokens side by side. A stage says which of these passes have been made.
use mathlib.Core.{Path.{◌≡◌}, Bool.{Bool, true, false, ◌&&◌, ◌||◌}, List.{List, [], ◌∷◌}, Option.{none}, Logic.{◌⊎◌}}
use lib.Dec.{eqb}
use Rattle.molang.specs.Operator
use Rattle.molang.specs.Operator.{is_math_call, is_query_or_loop, is_closer, closing_of, has_members}
use Rattle.molang.specs.{Forest.{Token, Forest, nil, node, renamed, bare, closed_by}, Statements.{is_entered}}
unfoldable pub use Rattle.molang.specs.Grammar.{top_of, inside_of}

-- A token; two lists side by side; a base and its member accessors; a section between its two tokens; a query or loop with its bracket; a
-- math call with its bracket, which may be empty; an array name with its index; a `->` between two operands; a list with semicolons, with
-- the first of them; in such a list a statement with its semicolon, the last statement without one, and a semicolon after no statement.
pub data Shape : Type 0 where
  token : Token → Shape
  beside : Shape → Shape → Shape
  chain : Token → List Token → Shape
  section : Token → Token → Shape → Shape
  query : Token → Token → Token → Shape → Shape
  math_call : Token → Token → Token → Shape → Shape
  math_empty : Token → Token → Token → Shape
  index : Token → Token → Token → Shape → Shape
  pointer : Token → Shape → Shape → Shape
  script : Token → Shape → Shape
  statement : Token → Shape → Shape
  last : Shape → Shape
  blank : Token → Shape

-- The passes that have been made.
pub record Stage : Type 0 where
  pub members : Bool
  pub sections : Bool
  pub calls : Bool
  pub statements : Bool
  pub arrays : Bool
  pub pointers : Bool
  pub maths : Bool

-- Leaves before a list.
unfoldable pub row : List Token → Forest → Forest
row [] r = r
row (k ∷ ks) r = node k nil (row ks r)

-- Each accessor over the tree before it.
unfoldable pub grown : Token → Forest → List Token → Forest → Forest
grown k cs [] r = node k cs r
grown k cs (a ∷ ms) r = grown a (node k cs nil) ms r

unfoldable pub chained : Bool → Token → List Token → Forest → Forest
chained true b ms r = grown b nil ms r
chained false b ms r = node b nil (row ms r)

-- A section: closed, or its two tokens with what stands between them.
unfoldable pub within : Bool → Token → Token → (Forest → Forest) → Forest → Forest
within true o c X r = node (closed_by c o) (X nil) r
within false o c X r = node o nil (X (node c nil r))

-- A token before what it takes: folded, or flat.
unfoldable pub ahead : Bool → Token → (Forest → Forest) → Forest → Forest
ahead true k X r = node k (X nil) r
ahead false k X r = node k nil (X r)

-- An array: with the contents of its index, or its name before the section.
unfoldable pub indexed : Bool → Bool → Token → Token → Token → (Forest → Forest) → Forest → Forest
indexed true s k o c X r = node (renamed Operator.array k) (X nil) r
indexed false s k o c X r = node k nil (within s o c X r)

-- An operator between its operands: folded, or flat.
unfoldable pub amid : Bool → Token → (Forest → Forest) → (Forest → Forest) → Forest → Forest
amid true k X Y r = node k (X (Y nil)) r
amid false k X Y r = X (node k nil (Y r))

-- The statement list, a statement of it, and an empty one, with the token that a statement begins with.
unfoldable pub listed : Bool → Token → (Forest → Forest) → Forest → Forest
listed true q X r = node (bare Operator.semicolon q) (X nil) r
listed false q X r = X r

unfoldable pub ended : Bool → Token → Token → (Forest → Forest) → Forest → Forest
ended true f s X r = node (bare Operator.semicolon f) (X nil) r
ended false f s X r = X (node s nil r)

unfoldable pub skipped : Bool → Token → Forest → Forest
skipped true s r = r
skipped false s r = node s nil r

-- The label of the first tree of the list as the statement pass finds it.
unfoldable pub first_of : Shape → Token
first_of (token k) = k
first_of (beside x y) = first_of x
first_of (chain b ms) = top_of b ms
first_of (section o c x) = closed_by c o
first_of (query k o c x) = k
first_of (math_call k o c x) = k
first_of (math_empty k o c) = k
first_of (index k o c x) = k
first_of (pointer k x y) = first_of x
first_of (script q x) = first_of x
first_of (statement s x) = first_of x
first_of (last x) = first_of x
first_of (blank s) = s

-- The list of a shape at a stage, before r.
unfoldable pub form : Stage → Shape → Forest → Forest
form s (token k) r = node k nil r
form s (beside x y) r = form s x (form s y r)
form s (chain b ms) r = chained s.members b ms r
form s (section o c x) r = within s.sections o c (form s x) r
form s (query k o c x) r = ahead s.calls k (within s.sections o c (form s x)) r
form s (math_call k o c x) r = ahead s.maths k (within s.sections o c (form s x)) r
form s (math_empty k o c) r = ahead s.maths k (within s.sections o c (λ r. r)) r
form s (index k o c x) r = indexed s.arrays s.sections k o c (form s x) r
form s (pointer k x y) r = amid s.pointers k (form s x) (form s y) r
form s (script q x) r = listed s.statements q (form s x) r
form s (statement e x) r = ended s.statements (first_of x) e (form s x) r
form s (last x) r = listed s.statements (first_of x) (form s x) r
form s (blank e) r = skipped s.statements e r

-- The stages, one after the other.
abbrev pub raw : Stage
raw = record { members = false; sections = false; calls = false; statements = false; arrays = false; pointers = false; maths = false }

abbrev pub joined : Stage
joined = record { members = true; sections = false; calls = false; statements = false; arrays = false; pointers = false; maths = false }

abbrev pub sectioned : Stage
sectioned = record { members = true; sections = true; calls = false; statements = false; arrays = false; pointers = false; maths = false }

abbrev pub called : Stage
called = record { members = true; sections = true; calls = true; statements = false; arrays = false; pointers = false; maths = false }

abbrev pub stated : Stage
stated = record { members = true; sections = true; calls = true; statements = true; arrays = false; pointers = false; maths = false }

abbrev pub arrayed : Stage
arrayed = record { members = true; sections = true; calls = true; statements = true; arrays = true; pointers = false; maths = false }

abbrev pub pointed : Stage
pointed = record { members = true; sections = true; calls = true; statements = true; arrays = true; pointers = true; maths = false }

abbrev pub counted : Stage
counted = record { members = true; sections = true; calls = true; statements = true; arrays = true; pointers = true; maths = true }

-- A bare call or loop stands last in the list, so that a round bracket after it would be its own.
unfoldable pub ends_bare : Shape → Bool
ends_bare (token k) = is_query_or_loop k.op
ends_bare (beside x y) = ends_bare y
ends_bare (chain b []) = is_query_or_loop b.op
ends_bare (chain b (a ∷ ms)) = false
ends_bare (section o c x) = false
ends_bare (query k o c x) = false
ends_bare (math_call k o c x) = false
ends_bare (math_empty k o c) = false
ends_bare (index k o c x) = false
ends_bare (pointer k x y) = ends_bare y
ends_bare (script q x) = ends_bare x
ends_bare (statement e x) = false
ends_bare (last x) = ends_bare x
ends_bare (blank e) = false

-- A section stands first in the list.
unfoldable pub opens : Shape → Bool
opens (token k) = false
opens (beside x y) = opens x
opens (chain b ms) = false
opens (section o c x) = true
opens (query k o c x) = false
opens (math_call k o c x) = false
opens (math_empty k o c) = false
opens (index k o c x) = false
opens (pointer k x y) = opens x
opens (script q x) = opens x
opens (statement e x) = opens x
opens (last x) = opens x
opens (blank e) = false

-- No semicolon stands in it.
unfoldable pub is_one_expression : Shape → Bool
is_one_expression (token k) = true
is_one_expression (beside x y) = is_one_expression x && is_one_expression y
is_one_expression (chain b ms) = true
is_one_expression (section o c x) = is_one_expression x
is_one_expression (query k o c x) = is_one_expression x
is_one_expression (math_call k o c x) = is_one_expression x
is_one_expression (math_empty k o c) = true
is_one_expression (index k o c x) = is_one_expression x
is_one_expression (pointer k x y) = is_one_expression x && is_one_expression y
is_one_expression (script q x) = false
is_one_expression (statement e x) = false
is_one_expression (last x) = false
is_one_expression (blank e) = false

-- A token that no pass here takes but as a bare call, a bare array name or an operator of a later pass.
abbrev pub Plain : Token → Type 0
Plain k =
    (closing_of k.op ≡ none) × (is_closer k.op ≡ false) × (eqb k.op Operator.member_accessor ≡ false) × (is_math_call k.op ≡ false)
    × (eqb k.op Operator.pointer ≡ false) × (eqb k.op Operator.semicolon ≡ false)

-- Accessors.
abbrev pub Accessors : List Token → Type 0
Accessors [] = Unit {0}
Accessors (a ∷ ms) = (a.op ≡ Operator.member_accessor) × Accessors ms

-- The two tokens of a section, by its kind.
abbrev pub Round : Token → Token → Type 0
Round o c = (o.op ≡ Operator.left_parenthesis) × (c.op ≡ Operator.right_parenthesis)

abbrev pub Curly : Token → Token → Type 0
Curly o c = (o.op ≡ Operator.left_brace) × (c.op ≡ Operator.right_brace)

abbrev pub Square : Token → Token → Type 0
Square o c = (o.op ≡ Operator.left_bracket) × (c.op ≡ Operator.right_bracket)

-- What holds of the shape of a well-formed text.
abbrev pub Shaped : Shape → Type 0
Shaped (token k) = Plain k
Shaped (beside x y) = ((ends_bare x && opens y) ≡ false) × Shaped x × Shaped y
Shaped (chain b ms) = Plain b × (has_members b.op ≡ true) × Accessors ms
Shaped (section o c x) = (Curly o c ⊎ Round o c) × Shaped x
Shaped (query k o c x) = (is_query_or_loop k.op ≡ true) × Plain k × Round o c × Shaped x
Shaped (math_call k o c x) = (is_math_call k.op ≡ true) × Round o c × Shaped x
Shaped (math_empty k o c) = (is_math_call k.op ≡ true) × Round o c
Shaped (index k o c x) = (k.op ≡ Operator.array_variable) × Square o c × Shaped x
Shaped (pointer k x y) = (k.op ≡ Operator.pointer) × Shaped x × Shaped y
Shaped (script q x) = Shaped x
Shaped (statement e x) = (e.op ≡ Operator.semicolon) × Shaped x
Shaped (last x) = Shaped x
Shaped (blank e) = (e.op ≡ Operator.semicolon)

-- The list has no semicolon of its own: an expression, or a part of one.
unfoldable pub is_item : Shape → Bool
is_item (token k) = true
is_item (beside x y) = is_item x && is_item y
is_item (chain b ms) = true
is_item (section o c x) = true
is_item (query k o c x) = true
is_item (math_call k o c x) = true
is_item (math_empty k o c) = true
is_item (index k o c x) = true
is_item (pointer k x y) = is_item x && is_item y
is_item (script q x) = false
is_item (statement e x) = false
is_item (last x) = false
is_item (blank e) = false

-- Statements with their semicolons, and semicolons after none.
unfoldable pub are_ended : Shape → Bool
are_ended (token k) = false
are_ended (beside x y) = are_ended x && are_ended y
are_ended (chain b ms) = false
are_ended (section o c x) = false
are_ended (query k o c x) = false
are_ended (math_call k o c x) = false
are_ended (math_empty k o c) = false
are_ended (index k o c x) = false
are_ended (pointer k x y) = false
are_ended (script q x) = false
are_ended (statement e x) = is_item x
are_ended (last x) = false
are_ended (blank e) = true

-- The same, or with a last statement that has no semicolon.
unfoldable pub are_lines : Shape → Bool
are_lines (token k) = false
are_lines (beside x y) = are_ended x && are_lines y
are_lines (chain b ms) = false
are_lines (section o c x) = false
are_lines (query k o c x) = false
are_lines (math_call k o c x) = false
are_lines (math_empty k o c) = false
are_lines (index k o c x) = false
are_lines (pointer k x y) = false
are_lines (script q x) = false
are_lines (statement e x) = is_item x
are_lines (last x) = is_item x
are_lines (blank e) = true

-- A statement stands first.
unfoldable pub starts_statement : Shape → Bool
starts_statement (token k) = true
starts_statement (beside x y) = starts_statement x
starts_statement (chain b ms) = true
starts_statement (section o c x) = true
starts_statement (query k o c x) = true
starts_statement (math_call k o c x) = true
starts_statement (math_empty k o c) = true
starts_statement (index k o c x) = true
starts_statement (pointer k x y) = true
starts_statement (script q x) = true
starts_statement (statement e x) = true
starts_statement (last x) = true
starts_statement (blank e) = false

-- The first semicolon of statements; of anything else it does not matter.
unfoldable pub semicolon_of : Shape → Token
semicolon_of (token k) = k
semicolon_of (beside x y) = semicolon_of x
semicolon_of (chain b ms) = b
semicolon_of (section o c x) = o
semicolon_of (query k o c x) = k
semicolon_of (math_call k o c x) = k
semicolon_of (math_empty k o c) = k
semicolon_of (index k o c x) = k
semicolon_of (pointer k x y) = k
semicolon_of (script q x) = q
semicolon_of (statement e x) = e
semicolon_of (last x) = semicolon_of x
semicolon_of (blank e) = e

-- The first statement has one.
unfoldable pub has_semicolon : Shape → Bool
has_semicolon (token k) = false
has_semicolon (beside x y) = has_semicolon x
has_semicolon (chain b ms) = false
has_semicolon (section o c x) = false
has_semicolon (query k o c x) = false
has_semicolon (math_call k o c x) = false
has_semicolon (math_empty k o c) = false
has_semicolon (index k o c x) = false
has_semicolon (pointer k x y) = false
has_semicolon (script q x) = false
has_semicolon (statement e x) = true
has_semicolon (last x) = false
has_semicolon (blank e) = true

-- A whole list, of the text or of a section.
unfoldable pub is_list : Shape → Bool
is_list (token k) = true
is_list (beside x y) = is_item x && is_item y
is_list (chain b ms) = true
is_list (section o c x) = true
is_list (query k o c x) = true
is_list (math_call k o c x) = true
is_list (math_empty k o c) = true
is_list (index k o c x) = true
is_list (pointer k x y) = is_item x && is_item y
is_list (script q x) = are_lines x && (starts_statement x && has_semicolon x)
is_list (statement e x) = false
is_list (last x) = false
is_list (blank e) = false

-- What the statement pass asks besides: every list is one, and what the pass does not enter has no semicolons.
abbrev pub Stated : Shape → Type 0
Stated (token k) = Unit {0}
Stated (beside x y) = Stated x × Stated y
Stated (chain b ms) = Unit {0}
Stated (section o c x) = (is_list x ≡ true) × Stated x
Stated (query k o c x) = ((is_entered k.op || is_one_expression x) ≡ true) × (is_list x ≡ true) × Stated x
Stated (math_call k o c x) = (is_list x ≡ true) × Stated x
Stated (math_empty k o c) = Unit {0}
Stated (index k o c x) = (is_one_expression x ≡ true) × (is_list x ≡ true) × Stated x
Stated (pointer k x y) = Stated x × Stated y
Stated (script q x) = (semicolon_of x ≡ q) × Stated x
Stated (statement e x) = Stated x
Stated (last x) = Stated x
Stated (blank e) = Unit {0}
