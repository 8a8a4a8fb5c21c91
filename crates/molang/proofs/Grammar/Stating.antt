-- STATEMENTS: the pass takes the list in which queries and loops have their brackets to the one in which every list with semicolons is a
-- node over its statements.
use Prim.Native.Nat.{ℕ}
use mathlib.Core.{Path.{◌≡◌, refl, ap, sym, ◌∙◌}, Bool.{Bool, true, false, ◌||◌, ◌&&◌, true≢false, false≢true, and-eq-true_iff}}
use mathlib.Core.{List.{List, [], ◌∷◌}, Logic.{◌⊎◌, inl, inr}}
use lib.Dec.{eqb}
use Rattle.molang.specs.Operator
use Rattle.molang.specs.{Operator.{any, is_one_of, is_math_call}, Forest.{Token, Forest, nil, node, bare, closed_by, turned_onto, in_order}}
use Rattle.molang.specs.{Message.{ok}, Level.{Level, on, into, walk, through}}
use Rattle.molang.specs.Statements.{Split, unsplit, after, inside, split_of, is_entered, gather, end_statement, enter_split}
use Rattle.molang.specs.{Statements.{statement_step, statement_resume, statement_finish, statement_level}, Free.{free, is_semicolon}}
use Rattle.molang.proofs.{Statements.{statement-free}, Booleans.{or-second}, Forests.{in_order-turned}}
use Rattle.molang.proofs.Grammar.Walk.{walk-on, walk-into}
use Rattle.molang.proofs.Grammar.Shape.{Shape, token, beside, chain, section, query, math_call, math_empty, index, pointer, script}
use Rattle.molang.proofs.Grammar.Shape.{statement, last, blank, grown, chained, within, ahead, indexed, amid, listed, ended}
use Rattle.molang.proofs.Grammar.Shape.{skipped, top_of, first_of, form, called, stated, is_one_expression, is_item, are_ended, are_lines}
use Rattle.molang.proofs.Grammar.Shape.{starts_statement, is_list, semicolon_of, has_semicolon, Stated, Plain, Accessors, Curly, Round}
use Rattle.molang.proofs.{Grammar.Shape.{Shaped}, Grammar.ShapeForms.{turned-form, grown-one, inside_of}}
use Rattle.molang.proofs.{Grammar.Members.{apart}, Grammar.Sectioning.{top-number}}

abbrev L : Level Split
L = statement_level

-- ---- gathering

-- The trees of a list, gathered one after the other.
unfoldable gathers : Forest → Split → Split
gathers nil m = m
gathers (node k cs rest) m = gathers rest (gather k cs m)

gathers-unsplit : (f d : Forest) → gathers f (unsplit d) ≡ unsplit (turned_onto f d)
unfolding gathers gather turned_onto
gathers-unsplit nil d = refl
gathers-unsplit (node k cs f) d = gathers-unsplit f (node k cs d)

gathers-inside : (q : Token) (done : Forest) (s : Token) (f d : Forest) → gathers f (inside q done s d) ≡ inside q done s (turned_onto f d)
unfolding gathers gather turned_onto
gathers-inside q done s nil d = refl
gathers-inside q done s (node k cs f) d = gathers-inside q done s f (node k cs d)

-- One list after another.
abbrev Adds : (Forest → Forest) → Type 0
Adds F = (r : Forest) (m : Split) → gathers (F r) m ≡ gathers r (gathers (F nil) m)

-- ---- a part of a list without semicolons

abbrev Carried : (Forest → Forest) → (Forest → Forest) → Type 0
Carried F G = (m : Split) (r : Forest) → walk L m (F r) ≡ walk L (gathers (G nil) m) r

both : (X X' Y Y' : Forest → Forest) → Adds X' → Carried X X' → Carried Y Y' → Carried (λ r. X (Y r)) (λ r. X' (Y' r))
both X X' Y Y' t x y m r = x m (Y r) ∙ y _ r ∙ ap (λ (m : Split). walk L m r) (sym (t (Y' nil) m))

leaf-walk : (k : Token) → eqb k.op Operator.semicolon ≡ false → Carried (node k nil) (node k nil)
unfolding gathers statement_level statement_step
leaf-walk k h m r = walk-on L m (gather k nil m) k nil r (rw (h, statement_step) refl)

-- A node whose children the pass enters, or leaves as they are either way.
enters : (m : Split) (k c : Token) (cs rest : Forest) → is_entered k.op ≡ true
    → statement_step m k (node c cs rest) ≡ into m (split_of (node c cs rest))
unfolding statement_step enter_split
enters (unsplit d) k c cs rest h = refl
enters (after q done) k c cs rest h = rw (h, enter_split) refl
enters (inside q done s d) k c cs rest h = rw (h, enter_split) refl

goes_in : (k c : Token) (cs rest kids : Forest) (m : Split) (r : Forest)
    → statement_step m k (node c cs rest) ≡ into m (split_of (node c cs rest))
    → through L (node c cs rest) ≡ ok kids → walk L m (node k (node c cs rest) r) ≡ walk L (gather k kids m) r
unfolding statement_level through statement_resume
goes_in k c cs rest kids m r h e = walk-into L m m (split_of (node c cs rest)) k (node c cs rest) kids r h e

goes_by : (k c : Token) (cs rest kids : Forest) (m : Split) (r : Forest)
    → statement_step m k (node c cs rest) ≡ on (gather k (node c cs rest) m)
    → node c cs rest ≡ kids → walk L m (node k (node c cs rest) r) ≡ walk L (gather k kids m) r
unfolding statement_level
goes_by k c cs rest kids m r h e =
    walk-on L m (gather k (node c cs rest) m) k (node c cs rest) r h ∙ ap (λ (f : Forest). walk L (gather k f m) r) e

filled-walk : (k c : Token) (cs rest kids : Forest) (m : Split) (r : Forest) → (b : Bool) → is_entered k.op ≡ b
    → through L (node c cs rest) ≡ ok kids
    → (b ≡ true) ⊎ (node c cs rest ≡ kids) → walk L m (node k (node c cs rest) r) ≡ walk L (gather k kids m) r
filled-walk k c cs rest kids m r true h e g = goes_in k c cs rest kids m r (enters m k c cs rest h) e
filled-walk k c cs rest kids m r false h e (inl g) = absurd (false≢true g)
filled-walk k c cs rest kids (unsplit d) r false h e (inr g) = goes_in k c cs rest kids (unsplit d) r (unfold statement_step in refl) e
filled-walk k c cs rest kids (after q done) r false h e (inr g) =
    goes_by k c cs rest kids (after q done) r (unfold statement_step enter_split in rw (h, enter_split) refl) g
filled-walk k c cs rest kids (inside q done s d) r false h e (inr g) =
    goes_by k c cs rest kids (inside q done s d) r (unfold statement_step enter_split in rw (h, enter_split) refl) g

empty-list : through L nil ≡ ok nil
unfolding through statement_level walk split_of statement_finish in_order turned_onto
empty-list = refl

node-walk : (k : Token) (cs kids : Forest) → eqb k.op Operator.semicolon ≡ false → through L cs ≡ ok kids
    → (is_entered k.op ≡ true) ⊎ (cs ≡ kids)
    → Carried (node k cs) (node k kids)
unfolding gathers
node-walk k nil kids h e g m r = leaf-walk k h m r
    ∙ (unfold gathers in ap (λ (c : Forest). walk L (gather k c m) r) (let n : ok nil ≡ ok kids = sym empty-list ∙ e in cc))
node-walk k (node c cs rest) kids h e g m r = filled-walk k c cs rest kids m r (is_entered k.op) refl e g

-- ---- a list that has none

-- The list has no semicolon of its own before the rest.
abbrev Unsplit : (Forest → Forest) → Type 0
Unsplit F = (r : Forest) → split_of (F r) ≡ split_of r

unsplit-node : (k : Token) (cs : Forest) → eqb k.op Operator.semicolon ≡ false → Unsplit (node k cs)
unfolding split_of
unsplit-node k nil h r = rw (h, split_of) refl
unsplit-node k (node c cs rest) h r = refl

-- What holds of a part without semicolons: how it is walked, that it splits nothing, how it is gathered, and its first tree.
record Items (F G : Forest → Forest) (first : Token) : Type 0 where
  carried : Carried F G
  unsplits : Unsplit F
  adds : Adds G
  below : Forest → Forest
  rest : Forest → Forest
  starts : (r : Forest) → G r ≡ node first (below r) (rest r)

items-node : (k : Token) (cs kids : Forest) → eqb k.op Operator.semicolon ≡ false → through L cs ≡ ok kids
    → (is_entered k.op ≡ true) ⊎ (cs ≡ kids)
    → Items (node k cs) (node k kids) k
unfolding gathers
items-node k cs kids h e g = record {
  carried = node-walk k cs kids h e g;
  unsplits = unsplit-node k cs h;
  adds = λ r m. refl;
  below = λ r. kids;
  rest = λ r. r;
  starts = λ r. refl;
}

items-leaf : (k : Token) → eqb k.op Operator.semicolon ≡ false → Items (node k nil) (node k nil) k
items-leaf k h = items-node k nil nil h empty-list (inr refl)

items-both : (X X' Y Y' : Forest → Forest) (a b : Token) → Items X X' a → Items Y Y' b → Items (λ r. X (Y r)) (λ r. X' (Y' r)) a
items-both X X' Y Y' a b x y = record {
  carried = both X X' Y Y' x.adds x.carried y.carried;
  unsplits = λ r. x.unsplits (Y r) ∙ y.unsplits r;
  adds = λ r m. x.adds (Y' r) m ∙ y.adds r (gathers (X' nil) m) ∙ ap (gathers r) (sym (x.adds (Y' nil) m));
  below = λ r. x.below (Y' r);
  rest = λ r. x.rest (Y' r);
  starts = λ r. x.starts (Y' r);
}

split-nil : split_of nil ≡ unsplit nil
unfolding split_of
split-nil = refl

finish-unsplit : (d : Forest) → walk L (unsplit d) nil ≡ ok (in_order d)
unfolding walk statement_level statement_finish
finish-unsplit d = refl

-- A whole list without semicolons.
items-list : (F G : Forest → Forest) (a : Token) → Items F G a → through L (F nil) ≡ ok (G nil)
unfolding through statement_level
items-list F G a x =
    ap (λ (m : Split). walk L m (F nil)) (x.unsplits nil ∙ split-nil) ∙ x.carried (unsplit nil) nil
    ∙ ap (λ (m : Split). walk L m nil) (gathers-unsplit (G nil) nil) ∙ finish-unsplit (turned_onto (G nil) nil)
    ∙ ap ok (in_order-turned (G nil))

-- ---- statements

-- What a statement has been gathered to.
opened : (F G : Forest → Forest) (a : Token) → Items F G a → (q : Token) (done : Forest)
    → gathers (G nil) (after q done) ≡ inside q done (bare Operator.semicolon a) (turned_onto (G nil) nil)
unfolding gathers gather turned_onto
opened F G a x q done =
    ap (λ (f : Forest). gathers f (after q done)) (x.starts nil)
    ∙ gathers-inside q done (bare Operator.semicolon a) (x.rest nil) (node a (x.below nil) nil)
    ∙ ap (λ (f : Forest). inside q done (bare Operator.semicolon a) (turned_onto f nil)) (sym (x.starts nil))

-- A statement with its semicolon, after a semicolon.
statement-walk : (F G : Forest → Forest) (a e q : Token) (done r : Forest) → Items F G a → e.op ≡ Operator.semicolon
    → walk L (after q done) (F (node e nil r)) ≡ walk L (after q (node (bare Operator.semicolon a) (G nil) done)) r
unfolding statement_level
statement-walk F G a e q done r x h =
    x.carried (after q done) (node e nil r)
    ∙ ap (λ (m : Split). walk L m (node e nil r)) (opened F G a x q done)
    ∙ walk-on L (inside q done (bare Operator.semicolon a) (turned_onto (G nil) nil))
    (after q (node (bare Operator.semicolon a) (in_order (turned_onto (G nil) nil)) done)) e nil r
    (unfold statement_step end_statement in rw (ap (λ (n : ℕ). eqb n Operator.semicolon) h, statement_step) refl)
    ∙ ap (λ (f : Forest). walk L (after q (node (bare Operator.semicolon a) f done)) r) (in_order-turned (G nil))

-- The last statement, without one.
finish-inside : (q s : Token) (done d : Forest) → walk L (inside q done s d) nil ≡ ok (node q (in_order (node s (in_order d) done)) nil)
unfolding walk statement_level statement_finish
finish-inside q s done d = refl

last-walk : (F G : Forest → Forest) (a q : Token) (done : Forest) → Items F G a
    → walk L (after q done) (F nil) ≡ ok (node q (in_order (node (bare Operator.semicolon a) (G nil) done)) nil)
last-walk F G a q done x =
    x.carried (after q done) nil ∙ ap (λ (m : Split). walk L m nil) (opened F G a x q done)
    ∙ finish-inside q (bare Operator.semicolon a) done (turned_onto (G nil) nil)
    ∙ ap (λ (f : Forest). ok (node q (in_order (node (bare Operator.semicolon a) f done)) nil)) (in_order-turned (G nil))

finish-after : (q : Token) (done : Forest) → walk L (after q done) nil ≡ ok (node q (in_order done) nil)
unfolding walk statement_level statement_finish
finish-after q done = refl

unfoldable is_filled : Forest → Bool
is_filled nil = false
is_filled (node k cs rest) = true

blank-walk : (e q : Token) (done r : Forest) → e.op ≡ Operator.semicolon → is_filled done ≡ true
    → walk L (after q done) (node e nil r) ≡ walk L (after q done) r
unfolding is_filled statement_level
blank-walk e q nil r h f = absurd (false≢true f)
blank-walk e q (node t ts done) r h f = walk-on L (after q (node t ts done)) (after q (node t ts done)) e nil r
    (unfold statement_step end_statement in rw (ap (λ (n : ℕ). eqb n Operator.semicolon) h, statement_step) refl)

split_at : (e : Token) (r : Forest) → e.op ≡ Operator.semicolon → split_of (node e nil r) ≡ after (bare Operator.semicolon e) nil
unfolding split_of
split_at e r h = rw (ap (λ (n : ℕ). eqb n Operator.semicolon) h, split_of) refl

-- Statements with their semicolons.
record Ended (F G : Forest → Forest) (q : Token) (done : Forest) : Type 0 where
  walks : (r : Forest) → walk L (after q done) (F r) ≡ walk L (after q (turned_onto (G nil) done)) r
  fills : is_filled (turned_onto (G nil) done) ≡ true

record Law (x : Shape) : Type 0 where
  item : is_item x ≡ true → Items (form called x) (form stated x) (first_of x)
  ends : are_ended x ≡ true → (q : Token) (done : Forest) → (starts_statement x || is_filled done) ≡ true
      → Ended (form called x) (form stated x) q done
  splits : are_ended x ≡ true → (r : Forest) → split_of (form called x r) ≡ after (bare Operator.semicolon (semicolon_of x)) nil
  lines : are_lines x ≡ true → (q : Token) (done : Forest) → (starts_statement x || is_filled done) ≡ true
      → walk L (after q done) (form called x nil) ≡ ok (node q (in_order (turned_onto (form stated x nil) done)) nil)
  first : are_lines x ≡ true → has_semicolon x ≡ true → split_of (form called x nil) ≡ after (bare Operator.semicolon (semicolon_of x)) nil
  list : is_list x ≡ true → through L (form called x nil) ≡ ok (form stated x nil)

-- A shape without semicolons of its own.
law-items : (x : Shape) → are_ended x ≡ false → are_lines x ≡ false → Items (form called x) (form stated x) (first_of x) → Law x
law-items x e l i = record {
  item = λ h. i;
  ends = λ h q done s. absurd (true≢false (sym h ∙ e));
  splits = λ h r. absurd (true≢false (sym h ∙ e));
  lines = λ h q done s. absurd (true≢false (sym h ∙ l));
  first = λ h s. absurd (true≢false (sym h ∙ l));
  list = λ h. items-list (form called x) (form stated x) (first_of x) i;
}

-- ---- what has no semicolons stays

and_parts : (a b : Bool) → (a && b) ≡ true → (a ≡ true) × (b ≡ true)
and_parts a b h = (and-eq-true_iff a b).0 h

pub same : (x : Shape) → is_one_expression x ≡ true → (r : Forest) → form called x r ≡ form stated x r
unfolding form is_one_expression chained within ahead indexed amid
same (token k) h r = refl
same (beside x y) h r = let p = and_parts (is_one_expression x) (is_one_expression y) h in
    same x p.0 (form called y r) ∙ ap (form stated x) (same y p.1 r)
same (chain b ms) h r = refl
same (section o c x) h r = ap (λ (f : Forest). node (closed_by c o) f r) (same x h nil)
same (query k o c x) h r = ap (λ (f : Forest). node k (node (closed_by c o) f nil) r) (same x h nil)
same (math_call k o c x) h r = ap (λ (f : Forest). node k nil (node (closed_by c o) f r)) (same x h nil)
same (math_empty k o c) h r = refl
same (index k o c x) h r = ap (λ (f : Forest). node k nil (node (closed_by c o) f r)) (same x h nil)
same (pointer k x y) h r =
    let p = and_parts (is_one_expression x) (is_one_expression y) h in
    same x p.0 (node k nil (form called y r)) ∙ ap (λ (f : Forest). form stated x (node k nil f)) (same y p.1 r)
same (script q x) h r = absurd (false≢true h)
same (statement e x) h r = absurd (false≢true h)
same (last x) h r = absurd (false≢true h)
same (blank e) h r = absurd (false≢true h)

-- ---- the parts of an expression

items-eq : (F F' G G' : Forest → Forest) (a : Token) → ((r : Forest) → F r ≡ F' r) → ((r : Forest) → G r ≡ G' r) → Items F' G' a
    → Items F G a
items-eq F F' G G' a f g x = record {
  carried = λ m r. ap (walk L m) (f r) ∙ x.carried m r ∙ ap (λ (h : Forest). walk L (gathers h m) r) (sym (g nil));
  unsplits = λ r. ap split_of (f r) ∙ x.unsplits r;
  adds = λ r m. ap (λ (h : Forest). gathers h m) (g r) ∙ x.adds r m ∙ ap (λ (h : Forest). gathers r (gathers h m)) (sym (g nil));
  below = x.below;
  rest = x.rest;
  starts = λ r. g r ∙ x.starts r;
}

free-inside : (k : Token) (cs : Forest) (ms : List Token) → free is_semicolon cs ≡ true → free is_semicolon (node k cs nil) ≡ true
    → free is_semicolon (inside_of k cs ms) ≡ true
unfolding inside_of
free-inside k cs [] i h = i
free-inside k cs (a ∷ ms) i h = free-inside a (node k cs nil) ms h (free-over a k cs h)
  where
    and-on : (b : Bool) → b ≡ true → (b && true) ≡ true
    and-on true e = refl
    and-on false e = e

    free-over : (a k : Token) (cs : Forest) → free is_semicolon (node k cs nil) ≡ true → free is_semicolon (node a (node k cs nil) nil) ≡ true
    free-over a k cs h = unfold free in and-on (free is_semicolon (node k cs nil)) h

items-chain : (b : Token) (ms : List Token) → Plain b → Accessors ms → Items (chained true b ms) (chained true b ms) (top_of b ms)
unfolding chained grown top_of
items-chain b [] p g = items-leaf b p.5
items-chain b (a ∷ ms) p g =
    items-eq (grown b nil (a ∷ ms)) (node (top_of b (a ∷ ms)) (inside_of b nil (a ∷ ms))) (grown b nil (a ∷ ms))
    (node (top_of b (a ∷ ms)) (inside_of b nil (a ∷ ms)))
    (top_of b (a ∷ ms)) (grown-one b nil (a ∷ ms)) (grown-one b nil (a ∷ ms))
    (items-node (top_of b (a ∷ ms)) (inside_of b nil (a ∷ ms)) (inside_of b nil (a ∷ ms))
    (ap (λ (n : ℕ). eqb n Operator.semicolon) (top-number b a ms g))
    (statement-free (inside_of b nil (a ∷ ms)) (free-inside b nil (a ∷ ms) (unfold free in refl) base)) (inr refl))
  where
    base : free is_semicolon (node b nil nil) ≡ true
    base = unfold free is_semicolon in rw p.5 refl

entered-numbers : (is_entered 0 ≡ true) × (is_entered 4 ≡ true)
unfolding is_entered is_one_of any
entered-numbers = (refl, refl)

-- A section.
items-section : (o c : Token) (X X' : Forest → Forest) → eqb o.op Operator.semicolon ≡ false → through L (X nil) ≡ ok (X' nil)
    → (is_entered o.op ≡ true) ⊎ (X nil ≡ X' nil)
    → Items (within true o c X) (within true o c X') (closed_by c o)
unfolding within closed_by
items-section o c X X' n e g = items-node (closed_by c o) (X nil) (X' nil) n e g

not-semicolon : (k : Token) (m : ℕ) → k.op ≡ m → eqb m Operator.semicolon ≡ false → eqb k.op Operator.semicolon ≡ false
not-semicolon k m e h = ap (λ (n : ℕ). eqb n Operator.semicolon) e ∙ h

items-entered : (o c : Token) (X X' : Forest → Forest) → Curly o c ⊎ Round o c → through L (X nil) ≡ ok (X' nil)
    → Items (within true o c X) (within true o c X') (closed_by c o)
items-entered o c X X' (inl h) e = items-section o c X X' (not-semicolon o 0 h.0 refl) e (inl (ap is_entered h.0 ∙ entered-numbers.0))
items-entered o c X X' (inr h) e = items-section o c X X' (not-semicolon o 4 h.0 refl) e (inl (ap is_entered h.0 ∙ entered-numbers.1))

items-query : (k o c : Token) (X X' : Forest → Forest) → eqb k.op Operator.semicolon ≡ false → Round o c
    → through L (X nil) ≡ ok (X' nil)
    → (is_entered k.op ≡ true) ⊎ (X nil ≡ X' nil) → Items (ahead true k (within true o c X)) (ahead true k (within true o c X')) k
unfolding ahead within
items-query k o c X X' n h e g =
    items-node k (node (closed_by c o) (X nil) nil) (node (closed_by c o) (X' nil) nil) n
    (items-list (within true o c X) (within true o c X') (closed_by c o) (items-entered o c X X' (inr h) e)) (either_way g)
  where
    either_way : (is_entered k.op ≡ true) ⊎ (X nil ≡ X' nil)
        → (is_entered k.op ≡ true) ⊎ (node (closed_by c o) (X nil) nil ≡ node (closed_by c o) (X' nil) nil)
    either_way (inl g) = inl g
    either_way (inr g) = inr (ap (λ (f : Forest). node (closed_by c o) f nil) g)

items-before : (k a : Token) (X X' : Forest → Forest) → eqb k.op Operator.semicolon ≡ false → Items X X' a
    → Items (ahead false k X) (ahead false k X') k
unfolding ahead
items-before k a X X' n x = items-both (node k nil) (node k nil) X X' k a (items-leaf k n) x

items-index : (k o c : Token) (X X' : Forest → Forest) → Items (ahead false k (within true o c X)) (ahead false k (within true o c X')) k
    → Items (indexed false true k o c X) (indexed false true k o c X') k
unfolding ahead indexed
items-index k o c X X' h = h

items-amid : (k a b : Token) (X X' Y Y' : Forest → Forest) → eqb k.op Operator.semicolon ≡ false → Items X X' a → Items Y Y' b
    → Items (amid false k X Y) (amid false k X' Y') a
unfolding amid ahead
items-amid k a b X X' Y Y' n x y = items-both X X' (λ r. node k nil (Y r)) (λ r. node k nil (Y' r)) a k x (items-before k b Y Y' n y)

math-free : (k : Token) → is_math_call k.op ≡ true → eqb k.op Operator.semicolon ≡ false
unfolding is_math_call Operator.between
math-free k h = apart is_math_call k.op Operator.semicolon h refl

either-case : (a b : Bool) (A : Type 0) → (a || b) ≡ true → (a ≡ true → A) → (b ≡ true → A) → A
either-case true b A h f g = f refl
either-case false b A h f g = g h

-- ---- all shapes

starts-on : (b c : Bool) → c ≡ true → (b || c) ≡ true
starts-on b c h = or-second b c h

law-beside : (x y : Shape) → Law x → Law y → Law (beside x y)
unfolding form is_item are_ended are_lines is_list starts_statement semicolon_of has_semicolon first_of
law-beside x y p q = record {
  item = λ h. let b = and_parts (is_item x) (is_item y) h in items x y (p.item b.0) (q.item b.1);
  ends = λ h t done s. let b = and_parts (are_ended x) (are_ended y) h in
      let e = p.ends b.0 t done s in
      let f = q.ends b.1 t (turned_onto (form stated x nil) done) (starts-on (starts_statement y) _ e.fills) in
      record {
        walks = λ r. e.walks (form called y r) ∙ f.walks r
            ∙ ap (λ (d : Forest). walk L (after t d) r) (sym (turned-form stated x (form stated y nil) done));
        fills = ap is_filled (turned-form stated x (form stated y nil) done) ∙ f.fills;
      };
  splits = λ h r. let b = and_parts (are_ended x) (are_ended y) h in p.splits b.0 (form called y r);
  lines = λ h t done s. let b = and_parts (are_ended x) (are_lines y) h in
      let e = p.ends b.0 t done s in
      e.walks (form called y nil) ∙ q.lines b.1 t (turned_onto (form stated x nil) done) (starts-on (starts_statement y) _ e.fills)
      ∙ ap (λ (d : Forest). ok (node t (in_order d) nil)) (sym (turned-form stated x (form stated y nil) done));
  first = λ h s. let b = and_parts (are_ended x) (are_lines y) h in p.splits b.0 (form called y nil);
  list = λ h. let b = and_parts (is_item x) (is_item y) h in
      items-list (λ r. form called x (form called y r)) (λ r. form stated x (form stated y r)) (first_of x)
      (items x y (p.item b.0) (q.item b.1));
}
  where
    items : (x y : Shape) → Items (form called x) (form stated x) (first_of x) → Items (form called y) (form stated y) (first_of y)
        → Items (λ r. form called x (form called y r)) (λ r. form stated x (form stated y r)) (first_of x)
    items x y a b = items-both (form called x) (form stated x) (form called y) (form stated y) (first_of x) (first_of y) a b

law-statement : (e : Token) (x : Shape) → e.op ≡ Operator.semicolon → Law x → Law (statement e x)
unfolding form ended is_item are_ended are_lines is_list starts_statement semicolon_of has_semicolon turned_onto is_filled
law-statement e x h p = record {
  item = λ b. absurd (false≢true b);
  ends = λ b t done s. record {
    walks = λ r. statement-walk (form called x) (form stated x) (first_of x) e t done r (p.item b) h;
    fills = refl;
  };
  splits = λ b r. (p.item b).unsplits (node e nil r) ∙ split_at e r h;
  lines = λ b t done s.
      statement-walk (form called x) (form stated x) (first_of x) e t done nil (p.item b) h
      ∙ finish-after t (node (bare Operator.semicolon (first_of x)) (form stated x nil) done);
  first = λ b s. (p.item b).unsplits (node e nil nil) ∙ split_at e nil h;
  list = λ b. absurd (false≢true b);
}

law-last : (x : Shape) → Law x → Law (last x)
unfolding form listed is_item are_ended are_lines is_list starts_statement semicolon_of has_semicolon turned_onto is_filled
law-last x p = record {
  item = λ b. absurd (false≢true b);
  ends = λ b t done s. absurd (false≢true b);
  splits = λ b r. absurd (false≢true b);
  lines = λ b t done s. last-walk (form called x) (form stated x) (first_of x) t done (p.item b);
  first = λ b s. absurd (false≢true s);
  list = λ b. absurd (false≢true b);
}

law-blank : (e : Token) → e.op ≡ Operator.semicolon → Law (blank e)
unfolding form skipped is_item are_ended are_lines is_list starts_statement semicolon_of has_semicolon turned_onto
law-blank e h = record {
  item = λ b. absurd (false≢true b);
  ends = λ b t done s. record { walks = λ r. blank-walk e t done r h s; fills = s };
  splits = λ b r. split_at e r h;
  lines = λ b t done s. blank-walk e t done nil h s ∙ finish-after t done;
  first = λ b s. split_at e nil h;
  list = λ b. absurd (false≢true b);
}

law-script : (q : Token) (x : Shape) → semicolon_of x ≡ q → Law x → Law (script q x)
unfolding form listed is_item are_ended are_lines is_list starts_statement has_semicolon
law-script q x h p = record {
  item = λ b. absurd (false≢true b);
  ends = λ b t done s. absurd (false≢true b);
  splits = λ b r. absurd (false≢true b);
  lines = λ b t done s. absurd (false≢true b);
  first = λ b s. absurd (false≢true b);
  list = λ b. let c = and_parts (are_lines x) (starts_statement x && has_semicolon x) b in
      let d = and_parts (starts_statement x) (has_semicolon x) c.1 in
      let root = bare Operator.semicolon q in
      begins ∙ ap (λ (m : Split). walk L m (form called x nil))
      (p.first c.0 d.1 ∙ ap (λ (k : Token). after (bare Operator.semicolon k) nil) h)
      ∙ p.lines c.0 root nil (or-on (starts_statement x) d.0)
      ∙ ap (λ (f : Forest). ok (node root f nil)) (in_order-turned (form stated x nil));
}
  where
    begins : through L (form called x nil) ≡ walk L (split_of (form called x nil)) (form called x nil)
    begins = unfold through statement_level in refl

    or-on : (b : Bool) → b ≡ true → (b || is_filled nil) ≡ true
    or-on true e = refl
    or-on false e = absurd (false≢true e)

law : (x : Shape) → Shaped x → Stated x → Law x
unfolding form is_item are_ended are_lines first_of
law (token k) g t = law-items (token k) refl refl (items-leaf k g.5)
law (beside x y) g t = law-beside x y (law x g.1 t.0) (law y g.2 t.1)
law (chain b ms) g t = law-items (chain b ms) refl refl (items-chain b ms g.0 g.2)
law (section o c x) g t =
    law-items (section o c x) refl refl (items-entered o c (form called x) (form stated x) g.0 ((law x g.1 t.1).list t.0))
law (query k o c x) g t =
    let i = (law x g.3 t.2).list t.1 in
    law-items (query k o c x) refl refl (items-query k o c (form called x) (form stated x) g.1.5 g.2 i
    (either-case (is_entered k.op) (is_one_expression x) _ t.0 (λ e. inl e) (λ e. inr (same x e nil))))
law (math_call k o c x) g t =
    law-items (math_call k o c x) refl refl
    (items-before k (closed_by c o) (within true o c (form called x)) (within true o c (form stated x)) (math-free k g.0)
    (items-entered o c (form called x) (form stated x) (inr g.1) ((law x g.2 t.1).list t.0)))
law (math_empty k o c) g t =
    law-items (math_empty k o c) refl refl
    (items-before k (closed_by c o) (within true o c (λ r. r)) (within true o c (λ r. r)) (math-free k g.0)
    (items-entered o c (λ r. r) (λ r. r) (inr g.1) empty-list))
law (index k o c x) g t =
    law-items (index k o c x) refl refl (items-index k o c (form called x) (form stated x)
    (items-before k (closed_by c o) (within true o c (form called x)) (within true o c (form stated x))
    (not-semicolon k Operator.array_variable g.0 refl)
    (items-section o c (form called x) (form stated x) (not-semicolon o 2 g.1.0 refl) ((law x g.2 t.2).list t.1)
    (inr (same x t.0 nil)))))
law (pointer k x y) g t = law-pointer (law x g.1 t.0) (law y g.2 t.1)
  where
    law-pointer : Law x → Law y → Law (pointer k x y)
    law-pointer p q = record {
      item = λ h. let b = and_parts (is_item x) (is_item y) h in items (p.item b.0) (q.item b.1);
      ends = λ h t done s. absurd (false≢true h);
      splits = λ h r. absurd (false≢true h);
      lines = λ h t done s. absurd (false≢true h);
      first = λ h s. absurd (false≢true h);
      list = λ h. let b = and_parts (is_item x) (is_item y) (unfold is_list in h) in
          items-list _ _ (first_of x) (items (p.item b.0) (q.item b.1));
    }
      where
        items : Items (form called x) (form stated x) (first_of x) → Items (form called y) (form stated y) (first_of y)
            → Items (form called (pointer k x y)) (form stated (pointer k x y)) (first_of x)
        items a b = items-amid k (first_of x) (first_of y) (form called x) (form stated x) (form called y) (form stated y)
            (not-semicolon k Operator.pointer g.0 refl) a b
law (script q x) g t = law-script q x t.0 (law x g t.1)
law (statement e x) g t = law-statement e x g.0 (law x g.1 t)
law (last x) g t = law-last x (law x g t)
law (blank e) g t = law-blank e g

-- THE PASS over a whole list.
pub statement-pass : (x : Shape) → Shaped x → Stated x → is_list x ≡ true
    → through statement_level (form called x nil) ≡ ok (form stated x nil)
statement-pass x g t h = (law x g t).list h
