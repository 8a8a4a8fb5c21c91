-- QUERIES AND LOOPS: the call pass gives each of them the bracket after it.
use Prim.Native.Nat.{ℕ}
use mathlib.Core.{Path.{◌≡◌, refl, ap, sym, ◌∙◌}, Bool.{Bool, true, false, ◌&&◌, true≢false, false≢true}, List.{List, [], ◌∷◌}}
use mathlib.Core.{Option.{Option, none, some}, Logic.{◌⊎◌, inl, inr}}
use lib.Dec.{eqb}
use borrow.Author.Tests.{eqb-true}
use Rattle.molang.specs.Operator
use Rattle.molang.specs.Operator.{any, is_one_of, is_query_or_loop, is_math_call, is_bracket, closing_of}
use Rattle.molang.specs.{Forest.{Token, Forest, nil, node, closed_by, turned_onto, in_order}, Message.{ok}}
use Rattle.molang.specs.Level.{Level, on, into, walk, Gathered, gathered, waiting}
use Rattle.molang.specs.Calls.{CallKind, query_or_loop, calls, call_leaf, call_step, call_resume, call_finish, call_level}
use Rattle.molang.proofs.{Booleans.{either}, Forests.{Turns, in_order-turned}, Grammar.Walk.{walk-on, walk-into, Gathers}}
use Rattle.molang.proofs.Grammar.Shape.{Shape, token, beside, chain, section, query, math_call, math_empty, index, pointer, script}
use Rattle.molang.proofs.Grammar.Shape.{statement, last, blank, grown, chained, within, ahead, indexed, amid, listed, ended}
use Rattle.molang.proofs.Grammar.Shape.{skipped, top_of, form, sectioned, called, ends_bare, opens, Plain, Accessors, Curly}
use Rattle.molang.proofs.{Grammar.Shape.{Round, Shaped}, Grammar.ShapeForms.{turned-form, grown-one, inside_of}}
use Rattle.molang.proofs.{Grammar.Members.{apart}, Grammar.Chains.{kept-inside}, Grammar.Sectioning.{top-number}}

-- A call pass gathers what no call takes.
pub call-gathers : (kind : CallKind) → Gathers (call_level kind) gathered
unfolding walk call_level call_step call_resume call_finish in_order turned_onto
call-gathers kind = record { enters = λ d k c cs r. refl; resumes = λ d k kids. refl; begins = refl }

pub call_ends : (kind : CallKind) (d : Forest) → (call_level kind).finish (gathered d) ≡ ok (in_order d)
unfolding call_level call_finish
call_ends kind d = refl

abbrev L : Level Gathered
L = call_level query_or_loop

-- The trees so far, a call that waits being the last.
unfoldable pub flushed : Gathered → Forest
flushed (gathered d) = d
flushed (waiting d q) = node q nil d

unfoldable pub is_waiting : Gathered → Bool
is_waiting (gathered d) = false
is_waiting (waiting d q) = true

-- What the level makes of a part of a list: F becomes G, and a call waits behind it only where it ends with a bare one.
pub record Reads (bare : Bool) (F G : Forest → Forest) (s : Gathered) (r : Forest) : Type 0 where
  state : Gathered
  flushes : flushed state ≡ turned_onto (G nil) (flushed s)
  waits : is_waiting state ≡ true → bare ≡ true
  walks : walk L s (F r) ≡ walk L state r

-- For every state in which no bracket would be taken away from what stands before.
abbrev pub Carried : Bool → Bool → (Forest → Forest) → (Forest → Forest) → Type 0
Carried first bare F G = (s : Gathered) (r : Forest) → (is_waiting s && first) ≡ false → Reads bare F G s r

-- ---- single trees

leaf-step : (s : Gathered) (k : Token) → is_bracket k.op ≡ false → call_step query_or_loop s k nil ≡ call_leaf query_or_loop (flushed s) k
unfolding call_step flushed
leaf-step (gathered d) k h = refl
leaf-step (waiting d q) k h = rw (h, call_step) refl

-- A leaf that is no bracket: a call waits, anything else is gathered.
leaf-walk : (k : Token) → is_bracket k.op ≡ false → (b : Bool) → is_query_or_loop k.op ≡ b → Carried false b (node k nil) (node k nil)
unfolding call_level call_leaf calls flushed turned_onto is_waiting
leaf-walk k h true e s r n = record {
  state = waiting (flushed s) k;
  flushes = refl;
  waits = λ w. refl;
  walks = walk-on L s (waiting (flushed s) k) k nil r (leaf-step s k h ∙ rw (e, call_leaf) refl);
}
leaf-walk k h false e s r n = record {
  state = gathered (node k nil (flushed s));
  flushes = refl;
  waits = λ w. absurd (false≢true w);
  walks = walk-on L s (gathered (node k nil (flushed s))) k nil r (leaf-step s k h ∙ rw (e, call_leaf) refl);
}

-- A node that is no call, and no bracket of one that waits.
enter : (s : Gathered) (k c : Token) (cs r : Forest) → (is_waiting s && is_bracket k.op) ≡ false
    → call_step query_or_loop s k (node c cs r) ≡ into (gathered (flushed s)) (gathered nil)
unfolding call_step flushed is_waiting
enter (gathered d) k c cs r h = refl
enter (waiting d q) k c cs r h = rw (h, call_step) refl

leaf-again : (s : Gathered) (k : Token) → (is_waiting s && is_bracket k.op) ≡ false → is_query_or_loop k.op ≡ false
    → call_step query_or_loop s k nil ≡ on (gathered (node k nil (flushed s)))
unfolding call_step flushed is_waiting call_leaf calls
leaf-again (gathered d) k h e = rw (e, call_leaf) refl
leaf-again (waiting d q) k h e = rw (h, call_step) (rw (e, call_leaf) refl)

node-walk : (k : Token) (cs kids : Forest) (first : Bool) → is_query_or_loop k.op ≡ false → (is_bracket k.op ≡ true → first ≡ true)
    → walk L (gathered nil) cs ≡ ok kids → Carried first false (node k cs) (node k kids)
unfolding flushed is_waiting turned_onto
node-walk k cs kids first q b e s r n = record {
  state = gathered (node k kids (flushed s));
  flushes = refl;
  waits = λ w. absurd (false≢true w);
  walks = walked cs e;
}
  where
    clear : (w f i : Bool) → (w && f) ≡ false → (i ≡ true → f ≡ true) → (w && i) ≡ false
    clear true f true h g = absurd (true≢false (sym (g refl) ∙ h))
    clear true f false h g = refl
    clear false f i h g = refl

    now : (is_waiting s && is_bracket k.op) ≡ false
    now = clear (is_waiting s) first (is_bracket k.op) n b

    walked : (cs : Forest) → walk L (gathered nil) cs ≡ ok kids → walk L s (node k cs r) ≡ walk L (gathered (node k kids (flushed s))) r
    walked nil h =
        walk-on L s (gathered (node k nil (flushed s))) k nil r (unfold call_level in leaf-again s k now q)
        ∙ ap (λ (c : Forest). walk L (gathered (node k c (flushed s))) r)
        (let n : ok nil ≡ ok kids = sym (call-gathers query_or_loop).begins ∙ h in cc)
    walked (node c cs rest) h =
        walk-into L s (gathered (flushed s)) (gathered nil) k (node c cs rest) kids r (unfold call_level in enter s k c cs rest now) h
        ∙ ap (λ (t : Gathered). walk L t r) (unfold call_level call_resume in refl)

-- ---- parts side by side

both : (a b c : Bool) (X X' Y Y' : Forest → Forest) (f : Bool) → (b && c) ≡ false → Turns X' → Carried a b X X' → Carried c f Y Y'
    → Carried a f (λ r. X (Y r)) (λ r. X' (Y' r))
both a b c X X' Y Y' f h t x y s r n =
    let p = x s (Y r) n in
    let q = y p.state r (apart_from (is_waiting p.state) b c h p.waits) in
    record {
      state = q.state;
      flushes = q.flushes ∙ ap (turned_onto (Y' nil)) p.flushes ∙ sym (t (Y' nil) (flushed s));
      waits = q.waits;
      walks = p.walks ∙ q.walks;
    }
  where
    apart_from : (w b c : Bool) → (b && c) ≡ false → (w ≡ true → b ≡ true) → (w && c) ≡ false
    apart_from true b c h g = ap (λ (b : Bool). b && c) (sym (g refl)) ∙ h
    apart_from false b c h g = refl

-- A whole list.
whole : (b : Bool) (a : Bool) (F G : Forest → Forest) → Carried a b F G → walk L (gathered nil) (F nil) ≡ ok (G nil)
whole b a F G c =
    let p = c (gathered nil) nil (unfold is_waiting in refl) in
    p.walks ∙ finish p.state ∙ ap (λ (f : Forest). ok (in_order f)) p.flushes ∙ (unfold flushed in ap ok (in_order-turned (G nil)))
  where
    finish : (s : Gathered) → walk L s nil ≡ ok (in_order (flushed s))
    finish (gathered d) = unfold walk call_level call_finish flushed in refl
    finish (waiting d q) = unfold walk call_level call_finish flushed in refl

-- ---- the call itself

pub record Filled (f : Forest) : Type 0 where
  pub first : Token
  pub below : Forest
  pub rest : Forest
  pub starts : f ≡ node first below rest

takes : (k b : Token) (d cs kids r : Forest) → is_bracket b.op ≡ true → Filled cs → walk L (gathered nil) cs ≡ ok kids
    → walk L (waiting d k) (node b cs r) ≡ walk L (gathered (node k (node b kids nil) d)) r
takes k b d cs kids r h f e =
    ap (λ (cs : Forest). walk L (waiting d k) (node b cs r)) f.starts
    ∙ walk-into L (waiting d k) (waiting d k) (gathered nil) b (node f.first f.below f.rest) kids r
    (unfold call_level call_step in rw (h, call_step) refl) (ap (walk L (gathered nil)) (sym f.starts) ∙ e)
    ∙ ap (λ (t : Gathered). walk L t r) (unfold call_level call_resume in refl)

call-walk : (k o c : Token) (X X' : Forest → Forest) → is_query_or_loop k.op ≡ true → is_bracket k.op ≡ false
    → is_bracket (closed_by c o).op ≡ true
    → Filled (X nil) → walk L (gathered nil) (X nil) ≡ ok (X' nil)
    → Carried false false (ahead false k (within true o c X)) (ahead true k (within true o c X'))
unfolding ahead within flushed turned_onto is_waiting
call-walk k o c X X' q h b f e s r n =
    record {
      state = gathered (node k (node (closed_by c o) (X' nil) nil) (flushed s));
      flushes = refl;
      waits = λ w. absurd (false≢true w);
      walks =
          walk-on L s (waiting (flushed s) k) k nil (node (closed_by c o) (X nil) r)
          (unfold call_level in leaf-step s k h ∙ (unfold call_leaf calls in rw (q, call_leaf) refl))
          ∙ takes k (closed_by c o) (flushed s) (X nil) (X' nil) r b f e;
    }

-- ---- a shape

filled_within : (b : Bool) (o c : Token) (X : Forest → Forest) (r : Forest) → Filled (within b o c X r)
unfolding within
filled_within true o c X r = record { first = closed_by c o; below = X nil; rest = r; starts = refl }
filled_within false o c X r = record { first = o; below = nil; rest = X (node c nil r); starts = refl }

filled-grown : (k : Token) (cs : Forest) (ms : List Token) (r : Forest) → Filled (grown k cs ms r)
filled-grown k cs ms r = record { first = top_of k ms; below = inside_of k cs ms; rest = r; starts = grown-one k cs ms r }

pub filled : (x : Shape) (r : Forest) → Filled (form sectioned x r)
unfolding form chained ahead indexed amid listed ended skipped
filled (token k) r = record { first = k; below = nil; rest = r; starts = refl }
filled (beside x y) r = filled x (form sectioned y r)
filled (chain b ms) r = filled-grown b nil ms r
filled (section o c x) r = filled_within true o c (form sectioned x) r
filled (query k o c x) r = record { first = k; below = nil; rest = within true o c (form sectioned x) r; starts = refl }
filled (math_call k o c x) r = record { first = k; below = nil; rest = within true o c (form sectioned x) r; starts = refl }
filled (math_empty k o c) r = record { first = k; below = nil; rest = within true o c (λ r. r) r; starts = refl }
filled (index k o c x) r = record { first = k; below = nil; rest = within true o c (form sectioned x) r; starts = refl }
filled (pointer k x y) r = filled x (node k nil (form sectioned y r))
filled (script q x) r = filled x r
filled (statement e x) r = filled x (node e nil r)
filled (last x) r = filled x r
filled (blank e) r = record { first = e; below = nil; rest = r; starts = refl }

-- A plain token is no bracket.
unbracketed : (k : Token) → Plain k → is_bracket k.op ≡ false
unfolding is_bracket closing_of
unbracketed k p =
    either (eqb k.op Operator.left_parenthesis)
    (λ e. absurd (some-none (sym (ap closing_of (eqb-true k.op Operator.left_parenthesis e)) ∙ p.0))) (λ e. e)
  where
    some-none : {n : ℕ} → some n ≡ none → ⊥
    some-none h = true≢false (ap is_some h)
      where
        is_some : Option ℕ → Bool
        is_some none = false
        is_some (some n) = true

no-calls : (is_query_or_loop 0 ≡ false) × (is_query_or_loop 2 ≡ false) × (is_query_or_loop 4 ≡ false)
    × (is_query_or_loop Operator.member_accessor ≡ false)
    × (is_query_or_loop Operator.array_variable ≡ false) × (is_query_or_loop Operator.pointer ≡ false) × (is_query_or_loop Operator.semicolon ≡ false)
unfolding is_query_or_loop is_one_of any
no-calls = (refl, refl, refl, refl, refl, refl, refl)

-- A leaf by its number.
numbered : (k : Token) (m : ℕ) → k.op ≡ m → is_query_or_loop m ≡ false → is_bracket m ≡ false → Carried false false (node k nil) (node k nil)
numbered k m e h g = leaf-walk k (ap is_bracket e ∙ g) false (ap is_query_or_loop e ∙ h)

math-leaf : (k : Token) → is_math_call k.op ≡ true → Carried false false (node k nil) (node k nil)
unfolding is_math_call Operator.between is_bracket is_query_or_loop is_one_of any
math-leaf k h =
    let not : (m : ℕ) → is_math_call m ≡ false → eqb k.op m ≡ false = λ m. apart is_math_call k.op m h in
    leaf-walk k (not 4 refl) false (rw (not Operator.query_function refl, not Operator.loop refl, not Operator.for_each refl) refl)

-- A section that no call takes.
section-walk : (o c : Token) (X X' : Forest → Forest) → is_query_or_loop o.op ≡ false → walk L (gathered nil) (X nil) ≡ ok (X' nil)
    → Carried true false (within true o c X) (within true o c X')
unfolding within closed_by
section-walk o c X X' h e = node-walk (closed_by c o) (X nil) (X' nil) true h (λ b. refl) e

-- A leaf before what follows it.
before : (k : Token) (a b : Bool) (X X' : Forest → Forest) → Carried false false (node k nil) (node k nil) → Carried a b X X'
    → Carried false b (ahead false k X) (ahead false k X')
unfolding ahead
before k a b X X' h x = both false false a (node k nil) (node k nil) X X' b refl (λ r d. unfold turned_onto in refl) h x

chain-walk : (b : Token) (ms : List Token) → Plain b → Accessors ms
    → Carried false (ends_bare (chain b ms)) (chained true b ms) (chained true b ms)
unfolding chained grown ends_bare is_bracket
chain-walk b [] p g s r n = leaf-walk b (unbracketed b p) (is_query_or_loop b.op) refl s r n
chain-walk b (a ∷ ms) p g s r n =
    let top = top_of b (a ∷ ms) in
    let inside = inside_of b nil (a ∷ ms) in
    let one = grown-one b nil (a ∷ ms) in
    let number = top-number b a ms g in
    let w = node-walk top inside inside false (ap is_query_or_loop number ∙ no-calls.3)
    (λ (h : is_bracket top.op ≡ true). absurd (true≢false (sym h ∙ ap is_bracket number))) kept s r n in
    record {
      state = w.state;
      flushes = w.flushes ∙ ap (λ (f : Forest). turned_onto f (flushed s)) (sym (one nil));
      waits = w.waits;
      walks = ap (walk L s) (one r) ∙ w.walks;
    }
  where
    base : walk L (gathered nil) (node b nil nil) ≡ ok (node b nil nil)
    base = whole (is_query_or_loop b.op) false (node b nil) (node b nil) (leaf-walk b (unbracketed b p) (is_query_or_loop b.op) refl)

    kept : walk L (gathered nil) (inside_of b nil (a ∷ ms)) ≡ ok (inside_of b nil (a ∷ ms))
    kept = kept-inside L gathered (call-gathers query_or_loop) (call_ends query_or_loop) b nil (a ∷ ms) (call-gathers query_or_loop).begins base

round-bracket : (o c : Token) → Round o c → is_bracket (closed_by c o).op ≡ true
unfolding is_bracket closed_by
round-bracket o c h = ap (λ (n : ℕ). eqb n Operator.left_parenthesis) h.0

uncalled : (o c : Token) → Curly o c ⊎ Round o c → is_query_or_loop o.op ≡ false
uncalled o c (inl h) = ap is_query_or_loop h.0 ∙ no-calls.0
uncalled o c (inr h) = ap is_query_or_loop h.0 ∙ no-calls.2

and-off : (b : Bool) → (b && false) ≡ false
and-off true = refl
and-off false = refl

mutual-whole : (x : Shape) → Carried (opens x) (ends_bare x) (form sectioned x) (form called x)
    → walk L (gathered nil) (form sectioned x nil) ≡ ok (form called x nil)
mutual-whole x c = whole (ends_bare x) (opens x) (form sectioned x) (form called x) c

index-walk : (k o c : Token) (X X' : Forest → Forest)
    → Carried false false (ahead false k (within true o c X)) (ahead false k (within true o c X'))
    → Carried false false (indexed false true k o c X) (indexed false true k o c X')
unfolding ahead indexed
index-walk k o c X X' h = h

between-walk : (k : Token) (a b c d : Bool) (X X' Y Y' : Forest → Forest) → Carried false false (node k nil) (node k nil) → Turns X'
    → Carried a b X X' → Carried c d Y Y'
    → Carried a d (amid false k X Y) (amid false k X' Y')
unfolding amid ahead
between-walk k a b c d X X' Y Y' n t x y = both a b false X X' (λ r. node k nil (Y r)) (λ r. node k nil (Y' r)) d (and-off b) t x
    (before k c d Y Y' n y)

pub reads : (x : Shape) → Shaped x → Carried (opens x) (ends_bare x) (form sectioned x) (form called x)
unfolding form listed ended skipped opens ends_bare is_bracket
reads (token k) g = leaf-walk k (unbracketed k g) (is_query_or_loop k.op) refl
reads (beside x y) g =
    both (opens x) (ends_bare x) (opens y) (form sectioned x) (form called x) (form sectioned y) (form called y) (ends_bare y) g.0
    (turned-form called x)
    (reads x g.1) (reads y g.2)
reads (chain b ms) g = chain-walk b ms g.0 g.2
reads (section o c x) g = section-walk o c (form sectioned x) (form called x) (uncalled o c g.0) (mutual-whole x (reads x g.1))
reads (query k o c x) g =
    call-walk k o c (form sectioned x) (form called x) g.0 (unbracketed k g.1) (round-bracket o c g.2) (filled x nil)
    (mutual-whole x (reads x g.3))
reads (math_call k o c x) g =
    before k true false (within true o c (form sectioned x)) (within true o c (form called x)) (math-leaf k g.0)
    (section-walk o c (form sectioned x) (form called x) (uncalled o c (inr g.1)) (mutual-whole x (reads x g.2)))
reads (math_empty k o c) g =
    before k true false (within true o c (λ r. r)) (within true o c (λ r. r)) (math-leaf k g.0)
    (section-walk o c (λ r. r) (λ r. r) (uncalled o c (inr g.1)) (call-gathers query_or_loop).begins)
reads (index k o c x) g =
    index-walk k o c (form sectioned x) (form called x)
    (before k true false (within true o c (form sectioned x)) (within true o c (form called x))
    (numbered k Operator.array_variable g.0 no-calls.4 refl)
    (section-walk o c (form sectioned x) (form called x) (ap is_query_or_loop g.1.0 ∙ no-calls.1) (mutual-whole x (reads x g.2))))
reads (pointer k x y) g =
    between-walk k (opens x) (ends_bare x) (opens y) (ends_bare y) (form sectioned x) (form called x) (form sectioned y) (form called y)
    (numbered k Operator.pointer g.0 no-calls.5 refl) (turned-form called x) (reads x g.1) (reads y g.2)
reads (script q x) g = reads x g
reads (statement e x) g =
    both (opens x) (ends_bare x) false (form sectioned x) (form called x) (node e nil) (node e nil) false (and-off (ends_bare x))
    (turned-form called x)
    (reads x g.1) (numbered e Operator.semicolon g.0 no-calls.6 refl)
reads (last x) g = reads x g
reads (blank e) g = numbered e Operator.semicolon g no-calls.6 refl

-- THE PASS over a whole list.
pub query-pass : (x : Shape) → Shaped x → walk (call_level query_or_loop) (gathered nil) (form sectioned x nil) ≡ ok (form called x nil)
query-pass x g = mutual-whole x (reads x g)
