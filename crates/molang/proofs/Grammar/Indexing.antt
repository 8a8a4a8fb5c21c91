-- ARRAYS with one index: the pass takes the list of statements to the one in which arrays hold the contents of their indices.
use Prim.Native.Nat.{ℕ}
use mathlib.Core.{Path.{◌≡◌, refl, ap, sym, ◌∙◌}, Bool.{Bool, true, false, ◌&&◌, true≢false, false≢true, and-eq-true_iff}}
use mathlib.Core.{List.{List, [], ◌∷◌}, Option.{Option, none, some}, Logic.{◌⊎◌, inl, inr}}
use lib.Dec.{eqb}
use borrow.Author.Tests.{eqb-true}
use Rattle.molang.specs.Operator
use Rattle.molang.specs.Operator.{any, is_one_of, is_math_call, has_members}
use Rattle.molang.specs.{Forest.{Token, Forest, nil, node, bare, renamed, closed_by, turned_onto, in_order}, Message.{ok}}
use Rattle.molang.specs.{Level.{Level, walk, through}, Free.{free, is_array_name}}
use Rattle.molang.specs.Calls.{Indexing, unindexed, named, indexed as holding, flushed, is_index, index as index_step, array_step}
use Rattle.molang.specs.Calls.{array_resume, array_finish, array_level}
use Rattle.molang.proofs.{Arrays.{array-free}, Booleans.{either}, Forests.{Turns, in_order-turned}, Grammar.Walk.{walk-on, walk-into}}
use Rattle.molang.proofs.Grammar.Shape.{Shape, token, beside, chain, section, query, math_call, math_empty, index, pointer, script}
use Rattle.molang.proofs.Grammar.Shape.{statement, last, blank, grown, chained, within, ahead, indexed, amid, listed, ended, skipped}
use Rattle.molang.proofs.Grammar.Shape.{top_of, first_of, form, stated, arrayed, is_one_expression, is_item, is_list, Stated, Plain}
use Rattle.molang.proofs.{Grammar.Shape.{Accessors, Curly, Round, Shaped}, Grammar.ShapeForms.{turned-form, grown-one, inside_of}}
use Rattle.molang.proofs.{Grammar.Members.{apart}, Grammar.Sectioning.{top-number}, Grammar.Calling.{Filled}}

abbrev L : Level Indexing
L = array_level

record Reads (F G : Forest → Forest) (s : Indexing) (r : Forest) : Type 0 where
  state : Indexing
  flushes : flushed state ≡ turned_onto (G nil) (flushed s)
  walks : walk L s (F r) ≡ walk L state r

abbrev Carried : (Forest → Forest) → (Forest → Forest) → Type 0
Carried F G = (s : Indexing) (r : Forest) → Reads F G s r

both : (X X' Y Y' : Forest → Forest) → Turns X' → Carried X X' → Carried Y Y' → Carried (λ r. X (Y r)) (λ r. X' (Y' r))
both X X' Y Y' t x y s r =
    let p = x s (Y r) in
    let q = y p.state r in
    record {
      state = q.state;
      flushes = q.flushes ∙ ap (turned_onto (Y' nil)) p.flushes ∙ sym (t (Y' nil) (flushed s));
      walks = p.walks ∙ q.walks;
    }

-- A leaf that is no index: an array name waits.
leaf-case : (k : Token) → is_index k ≡ false → (b : Bool) → eqb k.op Operator.array_variable ≡ b → Carried (node k nil) (node k nil)
unfolding array_level flushed turned_onto
leaf-case k h true e s r = record {
  state = named (flushed s) k;
  flushes = refl;
  walks = walk-on L s (named (flushed s) k) k nil r (unfold array_step in rw (h, array_step) (rw e refl));
}
leaf-case k h false e s r = record {
  state = unindexed (node k nil (flushed s));
  flushes = refl;
  walks = walk-on L s (unindexed (node k nil (flushed s))) k nil r (unfold array_step in rw (h, array_step) (rw e refl));
}

leaf-walk : (k : Token) → is_index k ≡ false → Carried (node k nil) (node k nil)
leaf-walk k h = leaf-case k h (eqb k.op Operator.array_variable) refl

empty-list : walk L (unindexed nil) nil ≡ ok nil
unfolding walk array_level array_finish flushed in_order turned_onto
empty-list = refl

node-walk : (k : Token) (cs kids : Forest) → is_index k ≡ false → eqb k.op Operator.array_variable ≡ false
    → walk L (unindexed nil) cs ≡ ok kids
    → Carried (node k cs) (node k kids)
unfolding array_level flushed turned_onto
node-walk k nil kids h a e s r =
    let n : nil ≡ kids = (let m : ok nil ≡ ok kids = sym empty-list ∙ e in cc) in
    record {
      state = unindexed (node k kids (flushed s));
      flushes = refl;
      walks =
          walk-on L s (unindexed (node k nil (flushed s))) k nil r (unfold array_step in rw (h, array_step) (rw a refl))
          ∙ ap (λ (f : Forest). walk L (unindexed (node k f (flushed s))) r) n;
    }
node-walk k (node c cs rest) kids h a e s r = record {
  state = unindexed (node k kids (flushed s));
  flushes = refl;
  walks =
      walk-into L s (unindexed (flushed s)) (unindexed nil) k (node c cs rest) kids r (unfold array_step in rw (h, array_step) refl) e
      ∙ ap (λ (t : Indexing). walk L t r) (unfold array_resume in refl);
}

-- A whole list.
whole : (F G : Forest → Forest) → Carried F G → walk L (unindexed nil) (F nil) ≡ ok (G nil)
unfolding walk array_level array_finish flushed
whole F G c =
    let p = c (unindexed nil) nil in
    p.walks ∙ ap (λ (f : Forest). ok (in_order f)) p.flushes ∙ ap ok (in_order-turned (G nil))

-- An array name with its index.
indexing : (s : Indexing) (k b : Token) (cs kids r : Forest) → is_index k ≡ false → eqb k.op Operator.array_variable ≡ true
    → is_index b ≡ true → Filled cs
    → walk L (unindexed nil) cs ≡ ok kids
    → walk L s (node k nil (node b cs r)) ≡ walk L (holding (flushed s) (renamed Operator.array k) (turned_onto kids nil)) r
unfolding array_level
indexing s k b cs kids r h a i f e =
    walk-on L s (named (flushed s) k) k nil (node b cs r) (unfold array_step in rw (h, array_step) (rw a refl))
    ∙ ap (λ (cs : Forest). walk L (named (flushed s) k) (node b cs r)) f.starts
    ∙ walk-into L (named (flushed s) k) (holding (flushed s) (renamed Operator.array k) nil) (unindexed nil) b
    (node f.first f.below f.rest) kids r
    (unfold array_step index_step in rw (i, array_step) refl) (ap (walk L (unindexed nil)) (sym f.starts) ∙ e)
    ∙ ap (λ (t : Indexing). walk L t r) (unfold array_resume in refl)

index-walk : (k o c : Token) (X X' : Forest → Forest) → k.op ≡ Operator.array_variable → o.op ≡ Operator.left_bracket → Filled (X nil)
    → walk L (unindexed nil) (X nil) ≡ ok (X' nil) → Carried (indexed false true k o c X) (indexed true true k o c X')
unfolding indexed within flushed turned_onto
index-walk k o c X X' h g f e s r = record {
  state = holding (flushed s) (renamed Operator.array k) (turned_onto (X' nil) nil);
  flushes = ap (λ (f : Forest). node (renamed Operator.array k) f (flushed s)) (in_order-turned (X' nil));
  walks =
      indexing s k (closed_by c o) (X nil) (X' nil) r (unfold is_index in ap (λ (n : ℕ). eqb n Operator.left_bracket) h)
      (ap (λ (n : ℕ). eqb n Operator.array_variable) h) (unfold is_index closed_by in ap (λ (n : ℕ). eqb n Operator.left_bracket) g) f e;
}

-- ---- shapes

and_parts : (a b : Bool) → (a && b) ≡ true → (a ≡ true) × (b ≡ true)
and_parts a b h = (and-eq-true_iff a b).0 h

filled-grown : (k : Token) (cs : Forest) (ms : List Token) (r : Forest) → Filled (grown k cs ms r)
filled-grown k cs ms r = record { first = top_of k ms; below = inside_of k cs ms; rest = r; starts = grown-one k cs ms r }

pub filled-item : (x : Shape) → is_item x ≡ true → (r : Forest) → Filled (form stated x r)
unfolding form is_item chained within ahead indexed amid
filled-item (token k) h r = record { first = k; below = nil; rest = r; starts = refl }
filled-item (beside x y) h r = filled-item x (and_parts (is_item x) (is_item y) h).0 (form stated y r)
filled-item (chain b ms) h r = filled-grown b nil ms r
filled-item (section o c x) h r = record { first = closed_by c o; below = form stated x nil; rest = r; starts = refl }
filled-item (query k o c x) h r = record { first = k; below = node (closed_by c o) (form stated x nil) nil; rest = r; starts = refl }
filled-item (math_call k o c x) h r = record { first = k; below = nil; rest = node (closed_by c o) (form stated x nil) r; starts = refl }
filled-item (math_empty k o c) h r = record { first = k; below = nil; rest = node (closed_by c o) nil r; starts = refl }
filled-item (index k o c x) h r = record { first = k; below = nil; rest = node (closed_by c o) (form stated x nil) r; starts = refl }
filled-item (pointer k x y) h r = filled-item x (and_parts (is_item x) (is_item y) h).0 (node k nil (form stated y r))
filled-item (script q x) h r = absurd (false≢true h)
filled-item (statement e x) h r = absurd (false≢true h)
filled-item (last x) h r = absurd (false≢true h)
filled-item (blank e) h r = absurd (false≢true h)

list-item : (x : Shape) → is_list x ≡ true → is_one_expression x ≡ true → is_item x ≡ true
unfolding is_item is_list is_one_expression
list-item (token k) h g = refl
list-item (beside x y) h g = h
list-item (chain b ms) h g = refl
list-item (section o c x) h g = refl
list-item (query k o c x) h g = refl
list-item (math_call k o c x) h g = refl
list-item (math_empty k o c) h g = refl
list-item (index k o c x) h g = refl
list-item (pointer k x y) h g = h
list-item (script q x) h g = g
list-item (statement e x) h g = h
list-item (last x) h g = h
list-item (blank e) h g = h

-- A token by its number, and a plain one.
no_index : (k : Token) (m : ℕ) → k.op ≡ m → eqb m Operator.left_bracket ≡ false → is_index k ≡ false
unfolding is_index
no_index k m e h = ap (λ (n : ℕ). eqb n Operator.left_bracket) e ∙ h

no_name : (k : Token) (m : ℕ) → k.op ≡ m → eqb m Operator.array_variable ≡ false → eqb k.op Operator.array_variable ≡ false
no_name k m e h = ap (λ (n : ℕ). eqb n Operator.array_variable) e ∙ h

plain-index : (k : Token) → Plain k → is_index k ≡ false
unfolding is_index Operator.closing_of
plain-index k p =
    either (eqb k.op Operator.left_bracket)
    (λ e. absurd (some-none (sym (ap Operator.closing_of (eqb-true k.op Operator.left_bracket e)) ∙ p.0))) (λ e. e)
  where
    some-none : some Operator.right_bracket ≡ none → ⊥
    some-none h = true≢false (ap (λ (o : Option ℕ). elim o [ none ↦ false | some n ↦ true ]) h)

math-index : (k : Token) → is_math_call k.op ≡ true → is_index k ≡ false
unfolding is_index is_math_call Operator.between
math-index k h = apart is_math_call k.op Operator.left_bracket h refl

free-inside : (k : Token) (cs : Forest) (ms : List Token) → free is_array_name cs ≡ true → free is_array_name (node k cs nil) ≡ true
    → free is_array_name (inside_of k cs ms) ≡ true
unfolding inside_of
free-inside k cs [] i h = i
free-inside k cs (a ∷ ms) i h = free-inside a (node k cs nil) ms h (free-over a k cs h)
  where
    and-on : (b : Bool) → b ≡ true → (b && true) ≡ true
    and-on true e = refl
    and-on false e = e

    free-over : (a k : Token) (cs : Forest) → free is_array_name (node k cs nil) ≡ true → free is_array_name (node a (node k cs nil) nil) ≡ true
    free-over a k cs h = unfold free in and-on (free is_array_name (node k cs nil)) h

chain-walk : (b : Token) (ms : List Token) → Plain b → has_members b.op ≡ true → Accessors ms
    → Carried (chained true b ms) (chained true b ms)
unfolding chained grown
chain-walk b [] p m g s r = leaf-walk b (plain-index b p) s r
chain-walk b (a ∷ ms) p m g s r =
    let top = top_of b (a ∷ ms) in
    let inside = inside_of b nil (a ∷ ms) in
    let one = grown-one b nil (a ∷ ms) in
    let number = top-number b a ms g in
    let w = node-walk top inside inside (no_index top Operator.member_accessor number refl)
    (no_name top Operator.member_accessor number refl) kept s r in
    record {
      state = w.state;
      flushes = w.flushes ∙ ap (λ (f : Forest). turned_onto f (flushed s)) (sym (one nil));
      walks = ap (walk L s) (one r) ∙ w.walks;
    }
  where
    unnamed : eqb b.op Operator.array_variable ≡ false
    unnamed = apart has_members b.op Operator.array_variable m (unfold has_members is_one_of any in refl)

    base : free is_array_name (node b nil nil) ≡ true
    base = unfold free is_array_name in rw unnamed refl

    kept : walk L (unindexed nil) (inside_of b nil (a ∷ ms)) ≡ ok (inside_of b nil (a ∷ ms))
    kept = (unfold through array_level in array-free (inside_of b nil (a ∷ ms)) (free-inside b nil (a ∷ ms) (unfold free in refl) base))

section-walk : (o c : Token) (X X' : Forest → Forest) → Curly o c ⊎ Round o c → walk L (unindexed nil) (X nil) ≡ ok (X' nil)
    → Carried (within true o c X) (within true o c X')
unfolding within closed_by
section-walk o c X X' (inl h) e =
    node-walk (closed_by c o) (X nil) (X' nil) (no_index (closed_by c o) 0 h.0 refl) (no_name (closed_by c o) 0 h.0 refl) e
section-walk o c X X' (inr h) e =
    node-walk (closed_by c o) (X nil) (X' nil) (no_index (closed_by c o) 4 h.0 refl) (no_name (closed_by c o) 4 h.0 refl) e

before : (k : Token) (X X' : Forest → Forest) → is_index k ≡ false → Carried X X' → Carried (ahead false k X) (ahead false k X')
unfolding ahead
before k X X' h x = both (node k nil) (node k nil) X X' (λ r d. unfold turned_onto in refl) (leaf-walk k h) x

query-walk : (k o c : Token) (X X' : Forest → Forest) → is_index k ≡ false → eqb k.op Operator.array_variable ≡ false → Round o c
    → walk L (unindexed nil) (X nil) ≡ ok (X' nil) → Carried (ahead true k (within true o c X)) (ahead true k (within true o c X'))
unfolding ahead
query-walk k o c X X' h a g e =
    node-walk k (within true o c X nil) (within true o c X' nil) h a
    (whole (within true o c X) (within true o c X') (section-walk o c X X' (inr g) e))

between-walk : (k : Token) (X X' Y Y' : Forest → Forest) → is_index k ≡ false → Turns X' → Carried X X' → Carried Y Y'
    → Carried (amid false k X Y) (amid false k X' Y')
unfolding amid ahead
between-walk k X X' Y Y' h t x y = both X X' (λ r. node k nil (Y r)) (λ r. node k nil (Y' r)) t x (before k Y Y' h y)

list-walk : (q : Token) (X X' : Forest → Forest) → walk L (unindexed nil) (X nil) ≡ ok (X' nil)
    → Carried (node (bare Operator.semicolon q) (X nil)) (node (bare Operator.semicolon q) (X' nil))
unfolding bare
list-walk q X X' e =
    node-walk (bare Operator.semicolon q) (X nil) (X' nil) (no_index (bare Operator.semicolon q) Operator.semicolon refl refl)
    (no_name (bare Operator.semicolon q) Operator.semicolon refl refl) e

query-name : (k : Token) → Operator.is_query_or_loop k.op ≡ true → eqb k.op Operator.array_variable ≡ false
unfolding Operator.is_query_or_loop is_one_of any
query-name k h = apart Operator.is_query_or_loop k.op Operator.array_variable h refl

skip-walk : Carried (λ r. r) (λ r. r)
unfolding turned_onto
skip-walk s r = record { state = s; flushes = refl; walks = refl }

reads : (x : Shape) → Shaped x → Stated x → Carried (form stated x) (form arrayed x)
unfolding form listed ended skipped
reads (token k) g t = leaf-walk k (plain-index k g)
reads (beside x y) g t =
    both (form stated x) (form arrayed x) (form stated y) (form arrayed y) (turned-form arrayed x) (reads x g.1 t.0)
    (reads y g.2 t.1)
reads (chain b ms) g t = chain-walk b ms g.0 g.1 g.2
reads (section o c x) g t = section-walk o c (form stated x) (form arrayed x) g.0
    (whole (form stated x) (form arrayed x) (reads x g.1 t.1))
reads (query k o c x) g t =
    query-walk k o c (form stated x) (form arrayed x) (plain-index k g.1) (query-name k g.0) g.2
    (whole (form stated x) (form arrayed x) (reads x g.3 t.2))
reads (math_call k o c x) g t =
    before k (within true o c (form stated x)) (within true o c (form arrayed x)) (math-index k g.0)
    (section-walk o c (form stated x) (form arrayed x) (inr g.1) (whole (form stated x) (form arrayed x) (reads x g.2 t.1)))
reads (math_empty k o c) g t =
    before k (within true o c (λ r. r)) (within true o c (λ r. r)) (math-index k g.0)
    (section-walk o c (λ r. r) (λ r. r) (inr g.1) empty-list)
reads (index k o c x) g t =
    index-walk k o c (form stated x) (form arrayed x) g.0 g.1.0 (filled-item x (list-item x t.1 t.0) nil)
    (whole (form stated x) (form arrayed x) (reads x g.2 t.2))
reads (pointer k x y) g t =
    between-walk k (form stated x) (form arrayed x) (form stated y) (form arrayed y) (no_index k Operator.pointer g.0 refl)
    (turned-form arrayed x)
    (reads x g.1 t.0) (reads y g.2 t.1)
reads (script q x) g t = list-walk q (form stated x) (form arrayed x) (whole (form stated x) (form arrayed x) (reads x g t.1))
reads (statement e x) g t = list-walk (first_of x) (form stated x) (form arrayed x)
    (whole (form stated x) (form arrayed x) (reads x g.1 t))
reads (last x) g t = list-walk (first_of x) (form stated x) (form arrayed x) (whole (form stated x) (form arrayed x) (reads x g t))
reads (blank e) g t = skip-walk

-- THE PASS over a whole list.
pub array-pass : (x : Shape) → Shaped x → Stated x → through array_level (form stated x nil) ≡ ok (form arrayed x nil)
unfolding through array_level
array-pass x g t = whole (form stated x) (form arrayed x) (reads x g t)
