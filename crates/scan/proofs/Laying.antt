-- THE NODES OF A TEXT, in preorder: those of a text before others, of a statement as one tree, of an item under a minus, of a joint between its
-- operands.
use Prim.Native.Nat.{ℕ, suc}
use mathlib.Core.{Path.{◌≡◌, refl, ap, ap₂, sym, ◌∙◌}, Bool.{Bool, true, false, false≢true}, List.{List, ◌∷◌}}
use mathlib.Core.Option.{Option, none, some}
use Rattle.molang.specs.Operator
use Rattle.molang.specs.Forest.{Token, Forest, nil, node, count, bare, renamed}
use Rattle.molang.specs.Grammar.{Text, operand, member, section, query, math_call, math_empty, index, arrow, prefix, returned, between, minus}
use Rattle.molang.specs.Grammar.{minuses, choice, chosen, script, line, lines, final, Sort, a_statement, a_script, a_line, some_lines, a_last, several}
use Rattle.molang.specs.Grammar.{is_statement, outline, signed, listed, trees}
use Rattle.scan.specs.Laid.{Entry, laid_onto}
use Rattle.scan.proofs.Frames.{placed, Joint, plain, less, asks, lesses, chooses, build, label_of, sign_of, held_by, Stated}

signed-onto : (s : Option Token) (k : Token) (cs f : Forest) (L : List Entry) → laid_onto (signed s k cs f) L ≡ laid_onto (signed s k cs nil) (laid_onto f L)
unfolding signed laid_onto
signed-onto none k cs f L = refl
signed-onto (some m) k cs f L = refl

listed-onto : (s : Sort) (cs f : Forest) (L : List Entry) → laid_onto (listed s cs f) L ≡ laid_onto (listed s cs nil) (laid_onto f L)
unfolding listed laid_onto
listed-onto a_statement cs f L = refl
listed-onto a_script cs f L = refl
listed-onto (a_line e) cs f L = refl
listed-onto (some_lines e) cs f L = refl
listed-onto a_last cs f L = refl

-- The nodes of a text before others.
pub onto-before : (s : Option Token) (x : Text) (f : Forest) (L : List Entry) → laid_onto (trees s x f) L ≡ laid_onto (trees s x nil) (laid_onto f L)
unfolding trees laid_onto
onto-before s (operand k) f L = signed-onto s _ _ f L
onto-before s (member b a ms) f L = signed-onto s _ _ f L
onto-before s (section o c x) f L = signed-onto s _ _ f L
onto-before s (query k o c x) f L = signed-onto s _ _ f L
onto-before s (math_call k o c x) f L = signed-onto s _ _ f L
onto-before s (math_empty k o c) f L = signed-onto s _ _ f L
onto-before s (index k o c x) f L = signed-onto s _ _ f L
onto-before s (arrow k x y) f L = signed-onto s _ _ f L
onto-before s (prefix k x) f L = signed-onto s _ _ f L
onto-before s (returned k x) f L = refl
onto-before s (between k x y) f L = refl
onto-before s (minus k x y) f L = refl
onto-before s (minuses k l x y) f L = refl
onto-before s (choice q c t) f L = refl
onto-before s (chosen q k c t e) f L = refl
onto-before s (script x) f L = listed-onto (outline x).sort _ f L
onto-before s (line e es x) f L = refl
onto-before s (lines x y) f L =
    onto-before none x (trees none y f) L ∙ ap (laid_onto (trees none x nil)) (onto-before none y f L)
    ∙ sym (onto-before none x (trees none y nil) (laid_onto f L))
onto-before s (final x) f L = refl

signed-count : (s : Option Token) (k : Token) (cs f : Forest) → count (signed s k cs f) ≡ suc (count f)
unfolding signed count
signed-count none k cs f = refl
signed-count (some m) k cs f = refl

no-several : (s : Sort) → is_statement (several s) ≡ true → ⊥
unfolding several is_statement
no-several a_statement h = false≢true h
no-several a_script h = false≢true h
no-several (a_line e) h = false≢true h
no-several (some_lines e) h = false≢true h
no-several a_last h = false≢true h

-- A statement is one tree.
pub one_more : (s : Option Token) (x : Text) (f : Forest) → Stated x → count (trees s x f) ≡ suc (count f)
unfolding trees count outline is_statement
one_more s (operand k) f h = signed-count s _ _ f
one_more s (member b a ms) f h = signed-count s _ _ f
one_more s (section o c x) f h = signed-count s _ _ f
one_more s (query k o c x) f h = signed-count s _ _ f
one_more s (math_call k o c x) f h = signed-count s _ _ f
one_more s (math_empty k o c) f h = signed-count s _ _ f
one_more s (index k o c x) f h = signed-count s _ _ f
one_more s (arrow k x y) f h = signed-count s _ _ f
one_more s (prefix k x) f h = signed-count s _ _ f
one_more s (returned k x) f h = refl
one_more s (between k x y) f h = refl
one_more s (minus k x y) f h = refl
one_more s (minuses k l x y) f h = refl
one_more s (choice q c t) f h = refl
one_more s (chosen q k c t e) f h = refl
one_more s (script x) f h = absurd (false≢true h)
one_more s (line e es x) f h = absurd (false≢true h)
one_more s (lines x y) f h = absurd (no-several (outline x).sort h)
one_more s (final x) f h = absurd (false≢true h)

pub two-trees : (s u : Option Token) (x y : Text) → Stated x → Stated y → count (trees s x (trees u y nil)) ≡ 2
unfolding count
two-trees s u x y h i = one_more s x (trees u y nil) h ∙ ap suc (one_more u y nil i)

pub one-tree : (s : Option Token) (x : Text) → Stated x → count (trees s x nil) ≡ 1
unfolding count
one-tree s x h = one_more s x nil h

-- ---- items

-- What a prefix stands before, and a minus is put over.
unfoldable pub is_item : Text → Bool
is_item (operand k) = true
is_item (member b a ms) = true
is_item (section o c x) = true
is_item (query k o c x) = true
is_item (math_call k o c x) = true
is_item (math_empty k o c) = true
is_item (index k o c x) = true
is_item (arrow k x y) = true
is_item (prefix k x) = true
is_item (returned k x) = false
is_item (between k x y) = false
is_item (minus k x y) = false
is_item (minuses k l x y) = false
is_item (choice q c t) = false
is_item (chosen q k c t e) = false
is_item (script x) = false
is_item (line e es x) = false
is_item (lines x y) = false
is_item (final x) = false

signed-item : (m k : Token) (cs : Forest) (L : List Entry)
    → laid_onto (signed (some m) k cs nil) L ≡ placed (bare Operator.negate m) 1 ∷ laid_onto (signed none k cs nil) L
unfolding signed laid_onto count
signed-item m k cs L = refl

-- An item under the minus of a subtraction.
pub under-minus : (m : Token) (x : Text) (L : List Entry) → is_item x ≡ true
    → laid_onto (trees (some m) x nil) L ≡ placed (bare Operator.negate m) 1 ∷ laid_onto (trees none x nil) L
unfolding trees is_item
under-minus m (operand k) L h = signed-item m _ _ L
under-minus m (member b a ms) L h = signed-item m _ _ L
under-minus m (section o c x) L h = signed-item m _ _ L
under-minus m (query k o c x) L h = signed-item m _ _ L
under-minus m (math_call k o c x) L h = signed-item m _ _ L
under-minus m (math_empty k o c) L h = signed-item m _ _ L
under-minus m (index k o c x) L h = signed-item m _ _ L
under-minus m (arrow k x y) L h = signed-item m _ _ L
under-minus m (prefix k x) L h = signed-item m _ _ L
under-minus m (returned k x) L h = absurd (false≢true h)
under-minus m (between k x y) L h = absurd (false≢true h)
under-minus m (minus k x y) L h = absurd (false≢true h)
under-minus m (minuses k l x y) L h = absurd (false≢true h)
under-minus m (choice q c t) L h = absurd (false≢true h)
under-minus m (chosen q k c t e) L h = absurd (false≢true h)
under-minus m (script x) L h = absurd (false≢true h)
under-minus m (line e es x) L h = absurd (false≢true h)
under-minus m (lines x y) L h = absurd (false≢true h)
under-minus m (final x) L h = absurd (false≢true h)

-- ---- joints

-- A node over two texts.
over-two : (l : Token) (s u : Option Token) (x y : Text) (L : List Entry) → Stated x → Stated y
    → laid_onto (node l (trees s x (trees u y nil)) nil) L
    ≡ placed l 2 ∷ laid_onto (trees s x nil) (laid_onto (trees u y nil) L)
unfolding laid_onto
over-two l s u x y L h i =
    ap₂ (λ (n : ℕ) (M : List Entry). placed l n ∷ M) (two-trees s u x y h i) (onto-before s x (trees u y nil) L)

-- A node over one text.
pub over-one : (l : Token) (x : Text) (L : List Entry) → Stated x
    → laid_onto (node l (trees none x nil) nil) L ≡ placed l 1 ∷ laid_onto (trees none x nil) L
unfolding laid_onto
over-one l x L h = ap (λ (n : ℕ). placed l n ∷ laid_onto (trees none x nil) L) (one-tree none x h)

one-node : (k : Token) (cs : Forest) → count (node k cs nil) ≡ 1
unfolding count
one-node k cs = refl

-- A joint between its operands.
pub onto-built : (s : Option Token) (j : Joint) (x y : Text) (L : List Entry) → Stated x → Stated y
    → ((q k : Token) (t : Text) → j ≡ chooses q k t → Stated t)
    → laid_onto (trees s (build j x y) nil) L
    ≡ placed (label_of j) 2 ∷ laid_onto (trees s x nil) (held_by j (laid_onto (trees (sign_of j) y nil) L))
unfolding trees build label_of held_by sign_of laid_onto
onto-built s (plain k) x y L h i t = over-two k s none x y L h i
onto-built s (less k) x y L h i t = over-two (renamed Operator.add k) s (some k) x y L h i
onto-built s (asks q) x y L h i t = over-two q s none x y L h i
onto-built s (lesses k l) x y L h i t = over-two (renamed Operator.add k) s none x y L h i
onto-built s (chooses q k d) x y L h i t =
    let u = t q k d refl in
    let f = node k (trees none d (trees none y nil)) nil in
    ap₂ (λ (n : ℕ) (M : List Entry). placed q n ∷ M) (one_more s x f h ∙ ap suc (one-node k (trees none d (trees none y nil))))
    (onto-before s x f L ∙ ap (laid_onto (trees s x nil)) (over-two k none none d y L u i))

-- A joint between its operands is a statement.
pub stated-built : (j : Joint) (x y : Text) → Stated (build j x y)
unfolding build outline is_statement
stated-built (plain k) x y = refl
stated-built (less k) x y = refl
stated-built (asks q) x y = refl
stated-built (lesses k l) x y = refl
stated-built (chooses q k t) x y = refl
