-- THE SECTIONS: the pass takes the list in which accessors are over their bases to the one in which sections hold their contents and close
-- where their closers end.
use Prim.Native.Nat.{ℕ, ◌+◌}
use mathlib.Core.{Path.{◌≡◌, refl, ap, sym, ◌∙◌}, Bool.{true, false}, List.{List, [], ◌∷◌}, Option.{none, some}, Logic.{◌⊎◌, inl, inr}}
use lib.Dec.{eqb}
use borrow.Author.Tests.{eq-eqb}
use Rattle.molang.specs.Operator
use Rattle.molang.specs.Operator.{any, is_one_of, is_math_call, closing_of, is_closer, between}
use Rattle.molang.specs.{Forest.{Token, Forest, nil, node, closed_by, turned_onto, in_order}, Message.{ok, closer}}
use Rattle.molang.specs.Sections.{Open, outside, section as an_open, placed, position, closing, closed, bracket, sections}
use Rattle.molang.proofs.Forests.{Turns, in_order-turned}
use Rattle.molang.proofs.Grammar.Shape.{Shape, token, beside, chain, section, query, math_call, math_empty, index, pointer, script}
use Rattle.molang.proofs.Grammar.Shape.{statement, last, blank, grown, chained, within, ahead, indexed, amid, listed, ended}
use Rattle.molang.proofs.Grammar.Shape.{skipped, top_of, form, joined, sectioned, Plain, Accessors, Curly, Round, Square}
use Rattle.molang.proofs.{Grammar.Shape.{Shaped}, Grammar.ShapeForms.{turned-form, grown-one, inside_of}, Grammar.Members.{apart}}

-- More trees in the innermost open section.
unfoldable pub over : Forest → Open → Open
over f (outside d) = outside (turned_onto f d)
over f (an_open o i d s) = an_open o i (turned_onto f d) s

over-nil : (s : Open) → over nil s ≡ s
unfolding over turned_onto
over-nil (outside d) = refl
over-nil (an_open o i d s) = refl

abbrev Reads : (Forest → Forest) → (Forest → Forest) → Type 0
Reads F G = (i : ℕ) (s : Open) (r : Forest) → (j : ℕ) × (sections i s (F r) ≡ sections j (over (G nil) s) r)

over-both : (G H : Forest → Forest) → Turns G → (s : Open) → over (H nil) (over (G nil) s) ≡ over (G (H nil)) s
unfolding over
over-both G H t (outside d) = ap outside (sym (t (H nil) d))
over-both G H t (an_open o i d s) = ap (λ (d : Forest). an_open o i d s) (sym (t (H nil) d))

over-node : (k : Token) (cs : Forest) (s : Open) → placed k cs s ≡ over (node k cs nil) s
unfolding over placed turned_onto
over-node k cs (outside d) = refl
over-node k cs (an_open o i d s) = refl

read-both : (F F' G G' : Forest → Forest) → Turns G → Reads F G → Reads F' G' → Reads (λ r. F (F' r)) (λ r. G (G' r))
read-both F F' G G' t f g i s r =
    let a = f i s (F' r) in
    let b = g a.0 (over (G nil) s) r in
    (b.0, a.1 ∙ b.1 ∙ ap (λ (t : Open). sections b.0 t r) (over-both G G' t s))

-- What is no bracket is placed.
read-node : (k : Token) (cs : Forest) → closing_of k.op ≡ none → is_closer k.op ≡ false → Reads (node k cs) (node k cs)
unfolding sections bracket
read-node k cs h g i s r =
    (position i s, rw (h, bracket, sections) (rw (g) (ap (λ (t : Open). sections (position i s) t r) (over-node k cs s))))

abbrev Pair : Token → Token → Type 0
Pair o c = (closing_of o.op ≡ some c.op) × (closing_of c.op ≡ none) × (is_closer c.op ≡ true)

pair_of : (o c : Token) (a b : ℕ) → o.op ≡ a → c.op ≡ b → closing_of a ≡ some b → closing_of b ≡ none → is_closer b ≡ true → Pair o c
pair_of o c a b p q h g i = (ap closing_of p ∙ h ∙ ap some (sym q), ap closing_of q ∙ g, ap is_closer q ∙ i)

curly : (o c : Token) → Curly o c → Pair o c
unfolding closing_of is_closer is_one_of any
curly o c h = pair_of o c 0 1 h.0 h.1 refl refl refl

round : (o c : Token) → Round o c → Pair o c
unfolding closing_of is_closer is_one_of any
round o c h = pair_of o c 4 5 h.0 h.1 refl refl refl

square : (o c : Token) → Square o c → Pair o c
unfolding closing_of is_closer is_one_of any
square o c h = pair_of o c 2 3 h.0 h.1 refl refl refl

opens : (o c : Token) → Pair o c → (i : ℕ) (s : Open) (r : Forest)
    → sections i s (node o nil r) ≡ sections (position i s) (an_open o (position i s + 1) nil s) r
unfolding sections bracket
opens o c h i s r = rw (h.0, bracket, sections) refl

shuts : (o c : Token) → Pair o c → (d : Forest) (i j : ℕ) (s : Open) (r : Forest)
    → sections i (an_open o j d s) (node c nil r) ≡ sections (i + 1) (over (node (closed_by c o) (in_order d) nil) s) r
unfolding sections bracket closing closer position
shuts o c h d i j s r =
    let matches : eqb (closer o) c.op ≡ true = rw (h.0, closer) (eq-eqb c.op c.op refl) in
    rw (h.1, bracket, sections) (rw h.2 (rw (matches, closing)
    (ap (λ (t : Open). sections (i + 1) t r) (over-node (closed_by c o) (in_order d) s))))

read-section : (o c : Token) → Pair o c → (F G : Forest → Forest) → Reads F G → Reads (within false o c F) (within true o c G)
unfolding within over
read-section o c h F G f i s r =
    let a = f (position i s) (an_open o (position i s + 1) nil s) (node c nil r) in (
      a.0 + 1,
      opens o c h i s (F (node c nil r)) ∙ a.1 ∙ shuts o c h (turned_onto (G nil) nil) a.0 (position i s + 1) s r
          ∙ ap (λ (f : Forest). sections (a.0 + 1) (over (node (closed_by c o) f nil) s) r) (in_order-turned (G nil)),
    )

read-nothing : Reads (λ r. r) (λ r. r)
read-nothing i s r = (i, ap (λ (t : Open). sections i t r) (sym (over-nil s)))

-- The number tells that a token is no bracket.
read_number : (k : Token) (m : ℕ) → k.op ≡ m → closing_of m ≡ none → is_closer m ≡ false → (cs : Forest) → Reads (node k cs) (node k cs)
read_number k m e h g cs = read-node k cs (ap closing_of e ∙ h) (ap is_closer e ∙ g)

-- One tree before what the pass makes of the rest.
read-before : (k : Token) (F G : Forest → Forest) → Reads (node k nil) (node k nil) → Reads F G → Reads (ahead false k F) (ahead false k G)
unfolding ahead
read-before k F G n f = read-both (node k nil) F (node k nil) G (λ r d. unfold turned_onto in refl) n f

pub top-number : (b : Token) (a : Token) (ms : List Token) → Accessors (a ∷ ms) → (top_of b (a ∷ ms)).op ≡ Operator.member_accessor
unfolding top_of
top-number b a [] g = g.0
top-number b a (c ∷ ms) g = top-number a c ms g.1

read-chain : (b : Token) (ms : List Token) → Plain b → Accessors ms → Reads (chained true b ms) (chained true b ms)
unfolding chained grown closing_of is_closer is_one_of any
read-chain b [] p g i s r = read-node b nil p.0 p.1 i s r
read-chain b (a ∷ ms) p g i s r =
    let e = grown-one b nil (a ∷ ms) in
    let n = read_number (top_of b (a ∷ ms)) Operator.member_accessor (top-number b a ms g) refl refl (inside_of b nil (a ∷ ms)) i s r in
    (n.0, ap (sections i s) (e r) ∙ n.1 ∙ ap (λ (f : Forest). sections n.0 (over f s) r) (sym (e nil)))

section-reads : (o c : Token) → Curly o c ⊎ Round o c → (F G : Forest → Forest) → Reads F G → Reads (within false o c F) (within true o c G)
section-reads o c (inl h) = read-section o c (curly o c h)
section-reads o c (inr h) = read-section o c (round o c h)

-- A math call's name is no bracket.
math-none : (is_math_call 0 ≡ false) × (is_math_call 1 ≡ false) × (is_math_call 2 ≡ false) × (is_math_call 3 ≡ false) × (is_math_call 4 ≡ false)
    × (is_math_call 5 ≡ false)
unfolding is_math_call between
math-none = (refl, refl, refl, refl, refl, refl)

unopened : (n : ℕ) → eqb n 0 ≡ false → eqb n 2 ≡ false → eqb n 4 ≡ false → closing_of n ≡ none
unfolding closing_of
unopened n a b c = rw (a, closing_of) (rw b (rw c refl))

unclosing : (n : ℕ) → eqb n 1 ≡ false → eqb n 3 ≡ false → eqb n 5 ≡ false → is_closer n ≡ false
unfolding is_closer is_one_of any
unclosing n a b c = rw (a, b, c) refl

math-token : (k : Token) → is_math_call k.op ≡ true → Reads (node k nil) (node k nil)
math-token k h =
    let not : (m : ℕ) → is_math_call m ≡ false → eqb k.op m ≡ false = λ m. apart is_math_call k.op m h in
    let n = math-none in
    read-node k nil (unopened k.op (not 0 n.0) (not 2 n.2) (not 4 n.4))
    (unclosing k.op (not 1 n.1) (not 3 n.3) (not 5 n.5))

read-index : (k o c : Token) (X X' : Forest → Forest) → Reads (ahead false k (within false o c X)) (ahead false k (within true o c X'))
    → Reads (indexed false false k o c X) (indexed false true k o c X')
unfolding ahead indexed
read-index k o c X X' h = h

read_between : (k : Token) (X X' Y Y' : Forest → Forest) → Reads (node k nil) (node k nil) → Turns X' → Reads X X' → Reads Y Y'
    → Reads (amid false k X Y) (amid false k X' Y')
unfolding amid
read_between k X X' Y Y' n t x y =
    read-both X (λ r. node k nil (Y r)) X' (λ r. node k nil (Y' r)) t x
    (read-both (node k nil) Y (node k nil) Y' (λ r d. unfold turned_onto in refl) n y)

number : (k : Token) (m : ℕ) → k.op ≡ m → closing_of m ≡ none → is_closer m ≡ false → Reads (node k nil) (node k nil)
number k m e h g = read_number k m e h g nil

pub reads : (x : Shape) → Shaped x → Reads (form joined x) (form sectioned x)
unfolding form listed ended skipped closing_of is_closer is_one_of any
reads (token k) g = read-node k nil g.0 g.1
reads (beside x y) g =
    read-both (form joined x) (form joined y) (form sectioned x) (form sectioned y) (turned-form sectioned x) (reads x g.1)
    (reads y g.2)
reads (chain b ms) g = read-chain b ms g.0 g.2
reads (section o c x) g = section-reads o c g.0 (form joined x) (form sectioned x) (reads x g.1)
reads (query k o c x) g =
    read-before k (within false o c (form joined x)) (within true o c (form sectioned x)) (read-node k nil g.1.0 g.1.1)
    (read-section o c (round o c g.2) (form joined x) (form sectioned x) (reads x g.3))
reads (math_call k o c x) g =
    read-before k (within false o c (form joined x)) (within true o c (form sectioned x)) (math-token k g.0)
    (read-section o c (round o c g.1) (form joined x) (form sectioned x) (reads x g.2))
reads (math_empty k o c) g =
    read-before k (within false o c (λ r. r)) (within true o c (λ r. r)) (math-token k g.0)
    (read-section o c (round o c g.1) (λ r. r) (λ r. r) read-nothing)
reads (index k o c x) g =
    read-index k o c (form joined x) (form sectioned x)
    (read-before k (within false o c (form joined x)) (within true o c (form sectioned x))
    (number k Operator.array_variable g.0 refl refl)
    (read-section o c (square o c g.1) (form joined x) (form sectioned x) (reads x g.2)))
reads (pointer k x y) g =
    read_between k (form joined x) (form sectioned x) (form joined y) (form sectioned y) (number k Operator.pointer g.0 refl refl)
    (turned-form sectioned x)
    (reads x g.1) (reads y g.2)
reads (script q x) g = reads x g
reads (statement e x) g =
    read-both (form joined x) (node e nil) (form sectioned x) (node e nil) (turned-form sectioned x) (reads x g.1)
    (number e Operator.semicolon g.0 refl refl)
reads (last x) g = reads x g
reads (blank e) g = number e Operator.semicolon g refl refl

-- THE PASS over a whole list.
pub section-pass : (x : Shape) → Shaped x → sections 0 (outside nil) (form joined x nil) ≡ ok (form sectioned x nil)
unfolding sections closed over
section-pass x g = (reads x g 0 (outside nil) nil).1 ∙ ap ok (in_order-turned (form sectioned x nil))
