-- THE MEMBER ACCESSORS: the pass takes the tokens of a shape to the list in which accessors are over their bases.
use Prim.Native.Nat.{ℕ}
use mathlib.Core.{Path.{◌≡◌, refl, ap, sym, ◌∙◌}, Bool.{Bool, true, false, true≢false}, List.{List, [], ◌∷◌}, Logic.{◌⊎◌, inl, inr}}
use borrow.Author.Tests.{eqb-true}
use Rattle.molang.proofs.{Booleans.{either}, Forests.{Turns, in_order-turned}}
use Rattle.molang.proofs.Grammar.Shape.{Shape, token, beside, chain, section, query, math_call, math_empty, index, pointer, script}
use Rattle.molang.proofs.Grammar.Shape.{statement, last, blank, row, grown, chained, within, ahead, indexed, amid, listed, ended}
use Rattle.molang.proofs.Grammar.Shape.{skipped, form, raw, joined, Plain, Accessors, Curly, Round, Shaped}
use Rattle.molang.proofs.Grammar.ShapeForms.{turned-form, turned-nothing}
use lib.Dec.{eqb}
use Rattle.molang.specs.Operator
use Rattle.molang.specs.Operator.{any, is_one_of, is_math_call, has_members, between}
use Rattle.molang.specs.{Forest.{Token, Forest, nil, node, turned_onto}, Message.{ok}, Sections.{members, with_member}}

abbrev Reads : (Forest → Forest) → (Forest → Forest) → Type 0
Reads F G = (d r : Forest) → members d (F r) ≡ members (turned_onto (G nil) d) r

read-both : (X X' Y Y' : Forest → Forest) → Reads X X' → Reads Y Y' → Turns X' → Reads (λ r. X (Y r)) (λ r. X' (Y' r))
read-both X X' Y Y' x y t d r = x d (Y r) ∙ y _ r ∙ ap (λ (e : Forest). members e r) (sym (t (Y' nil) d))

read-token : (k : Token) → eqb k.op Operator.member_accessor ≡ false → Reads (node k nil) (node k nil)
unfolding members turned_onto
read-token k h d r = rw (h, members) refl

-- An accessor takes the tree before it.
taken : (k a : Token) (cs d r : Forest) → has_members k.op ≡ true → a.op ≡ Operator.member_accessor
    → members (node k cs d) (node a nil r) ≡ members (node a (node k cs nil) d) r
unfolding members with_member
taken k a cs d r h e = rw (ap (λ (n : ℕ). eqb n Operator.member_accessor) e, members) (rw (h, with_member) refl)

member-again : has_members Operator.member_accessor ≡ true
unfolding has_members is_one_of any
member-again = refl

-- Accessors after a tree that can have members.
read-accessors : (k : Token) (cs : Forest) (ms : List Token) → has_members k.op ≡ true → Accessors ms → (d r : Forest)
    → members (node k cs d) (row ms r) ≡ members (turned_onto (grown k cs ms nil) d) r
unfolding row grown turned_onto
read-accessors k cs [] h g d r = refl
read-accessors k cs (a ∷ ms) h g d r =
    taken k a cs d (row ms r) h g.0 ∙ read-accessors a (node k cs nil) ms (ap has_members g.0 ∙ member-again) g.1 d r

read-chain : (b : Token) (ms : List Token) → Plain b → has_members b.op ≡ true → Accessors ms
    → Reads (chained false b ms) (chained true b ms)
unfolding chained
read-chain b ms p h g d r = read-token b p.2 d (row ms r) ∙ (unfold turned_onto in read-accessors b nil ms h g d r)

-- Two tokens around a list, and one before it.
read-around : (o c : Token) (X X' : Forest → Forest) → eqb o.op Operator.member_accessor ≡ false
    → eqb c.op Operator.member_accessor ≡ false → Turns X'
    → Reads X X' → Reads (within false o c X) (within false o c X')
unfolding within turned_onto
read-around o c X X' a b t x d r =
    read-token o a d (X (node c nil r)) ∙ x (node o nil d) (node c nil r) ∙ read-token c b _ r
    ∙ ap (λ (e : Forest). members e r) (sym (t (node c nil nil) (node o nil d)))

read-before : (k : Token) (X X' : Forest → Forest) → eqb k.op Operator.member_accessor ≡ false → Reads X X'
    → Reads (ahead false k X) (ahead false k X')
unfolding ahead turned_onto
read-before k X X' a x d r = read-token k a d (X r) ∙ x (node k nil d) r

read_between : (k : Token) (X X' Y Y' : Forest → Forest) → eqb k.op Operator.member_accessor ≡ false → Turns X' → Reads X X' → Reads Y Y'
    → Reads (amid false k X Y) (amid false k X' Y')
unfolding amid turned_onto
read_between k X X' Y Y' a t x y = read-both X X' (λ r. node k nil (Y r)) (λ r. node k nil (Y' r)) x
    (λ d r. read-token k a d (Y r) ∙ y (node k nil d) r) t

-- A number that passes a test is none that does not.
pub apart : (test : ℕ → Bool) (n m : ℕ) → test n ≡ true → test m ≡ false → eqb n m ≡ false
apart test n m h g = either (eqb n m) (λ e. absurd (true≢false (sym h ∙ ap test (eqb-true n m e) ∙ g))) (λ e. e)

no-math : is_math_call Operator.member_accessor ≡ false
unfolding is_math_call between
no-math = refl

-- No accessor.
by_number : (n m : ℕ) → n ≡ m → eqb m Operator.member_accessor ≡ false → eqb n Operator.member_accessor ≡ false
by_number n m e h = ap (λ (n : ℕ). eqb n Operator.member_accessor) e ∙ h

section-reads : (o c : Token) (X X' : Forest → Forest) → Curly o c ⊎ Round o c → Turns X' → Reads X X'
    → Reads (within false o c X) (within false o c X')
section-reads o c X X' (inl h) t x = read-around o c X X' (by_number o.op 0 h.0 refl) (by_number c.op 1 h.1 refl) t x
section-reads o c X X' (inr h) t x = read-around o c X X' (by_number o.op 4 h.0 refl) (by_number c.op 5 h.1 refl) t x

read-index : (k o c : Token) (X X' : Forest → Forest) → Reads (ahead false k (within false o c X)) (ahead false k (within false o c X'))
    → Reads (indexed false false k o c X) (indexed false false k o c X')
unfolding ahead indexed
read-index k o c X X' h = h

reads_nothing : Reads (λ r. r) (λ r. r)
unfolding turned_onto
reads_nothing d r = refl

pub reads : (x : Shape) → Shaped x → Reads (form raw x) (form joined x)
unfolding form listed ended skipped
reads (token k) g = read-token k g.2
reads (beside x y) g = read-both (form raw x) (form joined x) (form raw y) (form joined y) (reads x g.1) (reads y g.2)
    (turned-form joined x)
reads (chain b ms) g = read-chain b ms g.0 g.1 g.2
reads (section o c x) g = section-reads o c (form raw x) (form joined x) g.0 (turned-form joined x) (reads x g.1)
reads (query k o c x) g =
    read-before k _ _ g.1.2 (section-reads o c (form raw x) (form joined x) (inr g.2) (turned-form joined x) (reads x g.3))
reads (math_call k o c x) g =
    read-before k _ _ (apart is_math_call k.op Operator.member_accessor g.0 no-math)
    (section-reads o c (form raw x) (form joined x) (inr g.1) (turned-form joined x) (reads x g.2))
reads (math_empty k o c) g =
    read-before k _ _ (apart is_math_call k.op Operator.member_accessor g.0 no-math)
    (section-reads o c (λ r. r) (λ r. r) (inr g.1) turned-nothing reads_nothing)
reads (index k o c x) g = read-index k o c (form raw x) (form joined x)
    (read-before k (within false o c (form raw x)) (within false o c (form joined x)) (by_number k.op Operator.array_variable g.0 refl)
    (read-around o c (form raw x) (form joined x) (by_number o.op 2 g.1.0 refl) (by_number c.op 3 g.1.1 refl)
    (turned-form joined x) (reads x g.2)))
reads (pointer k x y) g =
    read_between k (form raw x) (form joined x) (form raw y) (form joined y) (by_number k.op Operator.pointer g.0 refl)
    (turned-form joined x)
    (reads x g.1) (reads y g.2)
reads (script q x) g = reads x g
reads (statement e x) g =
    read-both (form raw x) (form joined x) (node e nil) (node e nil) (reads x g.1)
    (read-token e (by_number e.op Operator.semicolon g.0 refl))
    (turned-form joined x)
reads (last x) g = reads x g
reads (blank e) g = read-token e (by_number e.op Operator.semicolon g refl)

-- THE PASS over a whole list.
pub member-pass : (x : Shape) → Shaped x → members nil (form raw x nil) ≡ ok (form joined x nil)
member-pass x g = reads x g nil nil ∙ (unfold members in ap ok (in_order-turned (form joined x nil)))
