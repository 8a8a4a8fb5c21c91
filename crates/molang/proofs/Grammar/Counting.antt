-- MATH CALLS: the pass takes the list in which pointers hold their operands to the one in which math calls hold their brackets.
use Prim.Native.Nat.{ℕ}
use mathlib.Core.{Path.{◌≡◌, refl, ap, sym, ◌∙◌}, Bool.{Bool, true, false, true≢false}, List.{List, [], ◌∷◌}, Logic.{◌⊎◌, inl, inr}}
use lib.Dec.{eqb}
use Rattle.molang.specs.Operator
use Rattle.molang.specs.Operator.{any, is_one_of, is_query_or_loop, is_math_call, is_bracket}
use Rattle.molang.specs.{Forest.{Token, Forest, nil, node, bare, renamed, closed_by, turned_onto}, Message.{ok}}
use Rattle.molang.specs.Level.{Level, walk, through, Gathered, gathered, waiting, nothing}
use Rattle.molang.specs.Calls.{math, calls, call_leaf, call_step, call_resume, call_level}
use Rattle.molang.proofs.{Booleans.{either}, Forests.{Turns}}
use Rattle.molang.proofs.Grammar.Walk.{walk-on, walk-into, Carries, Passes, carry-both, carry-node}
use Rattle.molang.proofs.{Grammar.Walk.{carry-whole}, Grammar.Calling.{call-gathers, call_ends}}
use Rattle.molang.proofs.Grammar.Shape.{Shape, token, beside, chain, section, query, math_call, math_empty, index, pointer, script}
use Rattle.molang.proofs.Grammar.Shape.{statement, last, blank, grown, chained, within, ahead, indexed, amid, listed, ended}
use Rattle.molang.proofs.Grammar.Shape.{skipped, top_of, first_of, form, pointed, counted, Plain, Accessors, Curly, Round}
use Rattle.molang.proofs.{Grammar.Shape.{Shaped}, Grammar.ShapeForms.{turned-form, grown-one, inside_of}, Grammar.Members.{apart}}
use Rattle.molang.proofs.{Grammar.Chains.{kept-inside}, Grammar.Sectioning.{top-number}}

abbrev L : Level Gathered
L = call_level math

abbrev anything : Forest → Bool
anything r = true

abbrev Carried : (Forest → Forest) → (Forest → Forest) → Type 0
Carried = Carries L gathered anything

whole : (F G : Forest → Forest) → Carried F G → walk L (gathered nil) (F nil) ≡ ok (G nil)
whole F G c = carry-whole L gathered anything (call_ends math) refl F G c

passes : (k : Token) → is_math_call k.op ≡ false → Passes L gathered anything k
unfolding call_level call_step call_leaf calls
passes k q d = rw (q, call_leaf) refl

carry : (k : Token) (cs cs' : Forest) → is_math_call k.op ≡ false → walk L (gathered nil) cs ≡ ok cs' → Carried (node k cs) (node k cs')
carry k cs cs' q e = carry-node L gathered anything (call-gathers math) k cs cs' (passes k q) e

leaf : (k : Token) → is_math_call k.op ≡ false → Carried (node k nil) (node k nil)
leaf k q = carry k nil nil q (call-gathers math).begins

both : (X X' Y Y' : Forest → Forest) → Turns X' → Carried X X' → Carried Y Y' → Carried (λ r. X (Y r)) (λ r. X' (Y' r))
both X X' Y Y' t x y = carry-both L gathered anything X X' Y Y' x y t (λ r f. refl)

numbers : (is_math_call 0 ≡ false) × (is_math_call 2 ≡ false) × (is_math_call 4 ≡ false) × (is_math_call Operator.member_accessor ≡ false)
    × (is_math_call Operator.array ≡ false) × (is_math_call Operator.pointer ≡ false) × (is_math_call Operator.semicolon ≡ false)
unfolding is_math_call Operator.between
numbers = (refl, refl, refl, refl, refl, refl, refl)

-- A math call that waits takes the bracket.
takes : (k b : Token) (d cs kids r : Forest) → is_bracket b.op ≡ true → walk L (gathered nil) cs ≡ ok kids
    → walk L (waiting d k) (node b cs r) ≡ walk L (gathered (node k (node b kids nil) d)) r
unfolding call_level
takes k b d nil kids r h e =
    walk-on L (waiting d k) (gathered (node k (node b nil nil) d)) b nil r (unfold call_step in rw (h, call_step) refl)
    ∙ ap (λ (f : Forest). walk L (gathered (node k (node b f nil) d)) r)
    (let n : ok nil ≡ ok kids = sym (call-gathers math).begins ∙ e in cc)
takes k b d (node c cs rest) kids r h e =
    walk-into L (waiting d k) (waiting d k) (gathered nil) b (node c cs rest) kids r (unfold call_step in rw (h, call_step) refl) e
    ∙ ap (λ (t : Gathered). walk L t r) (unfold call_resume in refl)

call-walk : (k o c : Token) (X X' : Forest → Forest) → is_math_call k.op ≡ true → Round o c → walk L (gathered nil) (X nil) ≡ ok (X' nil)
    → Carried (ahead false k (within true o c X)) (ahead true k (within true o c X'))
unfolding ahead within turned_onto call_level
call-walk k o c X X' q g e d r f =
    walk-on L (gathered d) (waiting d k) k nil (node (closed_by c o) (X nil) r) (unfold call_step call_leaf calls in rw (q, call_leaf) refl)
    ∙ takes k (closed_by c o) d (X nil) (X' nil) r (unfold is_bracket closed_by in ap (λ (n : ℕ). eqb n Operator.left_parenthesis) g.0) e

section-walk : (o c : Token) (X X' : Forest → Forest) → Curly o c ⊎ Round o c → walk L (gathered nil) (X nil) ≡ ok (X' nil)
    → Carried (within true o c X) (within true o c X')
unfolding within closed_by
section-walk o c X X' (inl h) e = carry (closed_by c o) (X nil) (X' nil) (ap is_math_call h.0 ∙ numbers.0) e
section-walk o c X X' (inr h) e = carry (closed_by c o) (X nil) (X' nil) (ap is_math_call h.0 ∙ numbers.2) e

chain-walk : (b : Token) (ms : List Token) → Plain b → Accessors ms → Carried (chained true b ms) (chained true b ms)
unfolding chained grown
chain-walk b [] p g d r f = leaf b p.3 d r f
chain-walk b (a ∷ ms) p g d r f =
    let one = grown-one b nil (a ∷ ms) in
    ap (walk L (gathered d)) (one r)
    ∙ carry (top_of b (a ∷ ms)) (inside_of b nil (a ∷ ms)) (inside_of b nil (a ∷ ms)) (ap is_math_call (top-number b a ms g) ∙ numbers.3) kept
    d r f
    ∙ ap (λ (t : Forest). walk L (gathered (turned_onto t d)) r) (sym (one nil))
  where
    kept : walk L (gathered nil) (inside_of b nil (a ∷ ms)) ≡ ok (inside_of b nil (a ∷ ms))
    kept = kept-inside L gathered (call-gathers math) (call_ends math) b nil (a ∷ ms) (call-gathers math).begins
        (whole (node b nil) (node b nil) (leaf b p.3))

query-math : (k : Token) → is_query_or_loop k.op ≡ true → is_math_call k.op ≡ false
query-math k h = either (is_math_call k.op) (λ e. absurd (true≢false (sym h ∙ no e))) (λ e. e)
  where
    no : is_math_call k.op ≡ true → is_query_or_loop k.op ≡ false
    no e = unfold is_math_call Operator.between is_query_or_loop is_one_of any in
        rw (
          apart is_math_call k.op Operator.query_function e refl,
          apart is_math_call k.op Operator.loop e refl,
          apart is_math_call k.op
              Operator.for_each e refl,
        ) refl

list-walk : (q : Token) (X X' : Forest → Forest) → walk L (gathered nil) (X nil) ≡ ok (X' nil)
    → Carried (node (bare Operator.semicolon q) (X nil)) (node (bare Operator.semicolon q) (X' nil))
unfolding bare
list-walk q X X' e = carry (bare Operator.semicolon q) (X nil) (X' nil) numbers.6 e

index-walk : (k o c : Token) (X X' : Forest → Forest) → walk L (gathered nil) (X nil) ≡ ok (X' nil)
    → Carried (indexed true true k o c X) (indexed true true k o c X')
unfolding indexed renamed
index-walk k o c X X' e = carry (renamed Operator.array k) (X nil) (X' nil) numbers.4 e

query-walk : (k o c : Token) (X X' : Forest → Forest) → is_math_call k.op ≡ false → Round o c → walk L (gathered nil) (X nil) ≡ ok (X' nil)
    → Carried (ahead true k (within true o c X)) (ahead true k (within true o c X'))
unfolding ahead
query-walk k o c X X' h g e =
    carry k (within true o c X nil) (within true o c X' nil) h
    (whole (within true o c X) (within true o c X') (section-walk o c X X' (inr g) e))

pointer-walk : (k : Token) (X X' Y Y' : Forest → Forest) → k.op ≡ Operator.pointer → Turns X' → Carried X X' → Carried Y Y'
    → Carried (amid true k X Y) (amid true k X' Y')
unfolding amid
pointer-walk k X X' Y Y' h t x y =
    carry k (X (Y nil)) (X' (Y' nil)) (ap is_math_call h ∙ numbers.5) (whole (λ r. X (Y r)) (λ r. X' (Y' r)) (both X X' Y Y' t x y))

reads : (x : Shape) → Shaped x → Carried (form pointed x) (form counted x)
unfolding form listed ended skipped turned_onto
reads (token k) g = leaf k g.3
reads (beside x y) g = both (form pointed x) (form counted x) (form pointed y) (form counted y) (turned-form counted x) (reads x g.1)
    (reads y g.2)
reads (chain b ms) g = chain-walk b ms g.0 g.2
reads (section o c x) g = section-walk o c (form pointed x) (form counted x) g.0
    (whole (form pointed x) (form counted x) (reads x g.1))
reads (query k o c x) g = query-walk k o c (form pointed x) (form counted x) (query-math k g.0) g.2
    (whole (form pointed x) (form counted x) (reads x g.3))
reads (math_call k o c x) g = call-walk k o c (form pointed x) (form counted x) g.0 g.1
    (whole (form pointed x) (form counted x) (reads x g.2))
reads (math_empty k o c) g = call-walk k o c (λ r. r) (λ r. r) g.0 g.1 (call-gathers math).begins
reads (index k o c x) g = index-walk k o c (form pointed x) (form counted x) (whole (form pointed x) (form counted x) (reads x g.2))
reads (pointer k x y) g =
    pointer-walk k (form pointed x) (form counted x) (form pointed y) (form counted y) g.0 (turned-form counted x) (reads x g.1)
    (reads y g.2)
reads (script q x) g = list-walk q (form pointed x) (form counted x) (whole (form pointed x) (form counted x) (reads x g))
reads (statement e x) g = list-walk (first_of x) (form pointed x) (form counted x) (whole (form pointed x) (form counted x) (reads x g.1))
reads (last x) g = list-walk (first_of x) (form pointed x) (form counted x) (whole (form pointed x) (form counted x) (reads x g))
reads (blank e) g = λ d r f. refl

-- THE PASS over a whole list.
pub math-pass : (x : Shape) → Shaped x → through (call_level math) (form pointed x nil) ≡ ok (form counted x nil)
unfolding through call_level nothing
math-pass x g = whole (form pointed x) (form counted x) (reads x g)
