-- A. CANONICAL TEXTS READ TO THEIR TREES: with every used set that has their operators, under the rules of every version.
use Prim.Native.Nat.{ℕ, ◌≤◌}
use mathlib.Core.Path.{◌≡◌, refl, ap, sym, ◌∙◌}
use mathlib.Core.{Bool.{Bool, true, false, ◌&&◌, ◌||◌, not, true≢false, false≢true, or-false, and-eq-true_iff}, List.{List, [], ◌∷◌}}
use mathlib.Core.Logic.{◌⊎◌, inl, inr}
use native.Mathlib.Omega.{arith}
use lib.Dec.{eqb, leb}
use borrow.Author.Tests.{not-true, eqb-true, eq-eqb, leb-true, leb-false, le-leb}
use Rattle.molang.specs.Operator
use Rattle.molang.specs.{Operator.{any, is_one_of, is_math_call, is_query_or_loop}, Forest.{Token, Forest, nil, node, closed_by, leaves}}
use Rattle.molang.specs.{Message.{ok}, Calls.{calls}}
use Rattle.molang.specs.Free.{free, tokens_only, flat, is_semicolon, is_array_name, is_prefix, operators_of, works_on}
use Rattle.molang.specs.Order.{Rules, last_token, member_accessors, sectioning, call_pass, statements, arrays, pointer, math_calls}
use Rattle.molang.specs.{Order.{unary_minus_and_not, returns, order, runs, apply}, Read.{rooted, grouped, uses}, Grammar.{Text, tokens}}
use Rattle.molang.specs.Order as Orders
use Rattle.molang.proofs.{Booleans.{either, eight-ways, never, or-neither, or-first, or-second}, NoMasks.{no-masks}}
use Rattle.molang.proofs.OperatorNumbers.{none_below, no-math, any_none, every, each-one}
use Rattle.molang.proofs.Grammar.Shape.{Shape, token, beside, chain, section, query, math_call, math_empty, index, script, statement}
use Rattle.molang.proofs.Grammar.Shape.{last, blank, Stage, row, grown, chained, within, ahead, indexed, amid, listed, ended}
use Rattle.molang.proofs.Grammar.Shape.{skipped, top_of, inside_of, form, raw, joined, sectioned, called, stated, arrayed}
use Rattle.molang.proofs.{Grammar.Shape.{pointed, counted, Accessors, Shaped}, Grammar.Views.{shape, ranked}}
use Rattle.molang.proofs.{Grammar.Canonical.{Canonical, trees}, Grammar.Used.{Each, EachIn, EachOf, UsedToken}}
use Rattle.molang.proofs.{Grammar.ShapeForms.{grown-one}, Grammar.Sectioning.{top-number}, Grammar.FreeForms.{free-form}}
use Rattle.molang.proofs.{Grammar.Ranked.{Exp}, Grammar.Returned.{is_return_leaf, Returnless, Once, Returning}}
use Rattle.molang.proofs.Grammar.Ranks.{Kind, plain, plus, ternary, operators_in, pass_of, kind_of, kinds_of, levels, rank, pairing}
use Rattle.molang.proofs.{Grammar.Gating.{map, each_map, in-shape, in-ranked}, Grammar.Returning.{same}}
use Rattle.molang.proofs.{Grammar.TextForms.{raw-tokens}, Grammar.Levels.{ruled, Lacks, Gated}}
use Rattle.molang.proofs.Grammar.Reading.{folded, Unneeded, calls-made, returns-made, canonical-reads}
use Rattle.molang.proofs.Grammar.Shape as Shapes
use Rattle.molang.proofs.Grammar.Ranked as Ranks

-- ---- what a pass that does not run says of the used set

abbrev all_low : List ℕ → Bool
all_low ops = every (λ n. leb n 110) ops

-- The used set lacks every number that passes P.
abbrev Gone : (ℕ → Bool) → (ℕ → Bool) → Type 0
Gone u P = (n : ℕ) → P n ≡ true → (n ≤ 110) × (u n ≡ false)

gone-ops : (u : ℕ → Bool) (ops : List ℕ) → any u ops ≡ false → all_low ops ≡ true → Gone u (is_one_of ops)
gone-ops u ops h l n m = (leb-true n 110 (each-one (λ n. leb n 110) ops l n m), any_none u ops h n m)

gone_one : (u : ℕ → Bool) (o : ℕ) → any u (o ∷ []) ≡ false → o ≤ 110 → Gone u (λ n. eqb n o)
unfolding any
gone_one u o h l n m = let e = eqb-true n o m in (omega (arith, e, l), ap u e ∙ (or-neither (u o) false h).0)

lacks : (u P : ℕ → Bool) → Gone u P → (k : Token) → UsedToken u k → P k.op ≡ false
lacks u P g k h = never (P k.op) (λ e. let q = g k.op e in true≢false (sym (h q.0) ∙ q.1))

-- ---- flat lists

flat-row : (ks : List Token) (r : Forest) → flat r ≡ true → flat (row ks r) ≡ true
unfolding flat row
flat-row [] r h = h
flat-row (k ∷ ks) r h = flat-row ks r h

flat-chain : (b : Token) (ms : List Token) → Accessors ms → (r : Forest) → flat r ≡ true → flat (grown b nil ms r) ≡ true
flat-chain b [] g r h = unfold grown flat in h
flat-chain b (a ∷ ms) g r h = ap flat (grown-one b nil (a ∷ ms) r) ∙ over (inside_of b nil (a ∷ ms))
  where
    and-on : (x y : Bool) → x ≡ true → y ≡ true → (x && y) ≡ true
    and-on true y e f = f
    and-on false y e f = absurd (false≢true e)

    over : (cs : Forest) → flat (node (top_of b (a ∷ ms)) cs r) ≡ true
    over nil = unfold flat in h
    over (node c cs s) =
        unfold flat in and-on (eqb (top_of b (a ∷ ms)).op Operator.member_accessor) (flat r)
        (eq-eqb (top_of b (a ∷ ms)).op Operator.member_accessor (top-number b a ms g)) h

flat-joined : (x : Shape) → Shaped x → (r : Forest) → flat r ≡ true → flat (form joined x r) ≡ true
unfolding form chained within ahead indexed amid listed ended skipped flat
flat-joined (token k) g r h = h
flat-joined (beside x y) g r h = flat-joined x g.1 (form joined y r) (flat-joined y g.2 r h)
flat-joined (chain b ms) g r h = flat-chain b ms g.2 r h
flat-joined (section o c x) g r h = flat-joined x g.1 (node c nil r) h
flat-joined (query k o c x) g r h = flat-joined x g.3 (node c nil r) h
flat-joined (math_call k o c x) g r h = flat-joined x g.2 (node c nil r) h
flat-joined (math_empty k o c) g r h = h
flat-joined (index k o c x) g r h = flat-joined x g.2 (node c nil r) h
flat-joined (Shapes.pointer k x y) g r h = flat-joined x g.1 (node k nil (form joined y r)) (flat-joined y g.2 r h)
flat-joined (script q x) g r h = flat-joined x g r h
flat-joined (statement e x) g r h = flat-joined x g.1 (node e nil r) h
flat-joined (last x) g r h = flat-joined x g r h
flat-joined (blank e) g r h = h

tokens-only : (ks : List Token) → tokens_only (leaves ks) ≡ true
unfolding tokens_only leaves
tokens-only [] = refl
tokens-only (k ∷ ks) = tokens-only ks

-- ---- queries, where no bracket is used

uncalled : (u : ℕ → Bool) → u Operator.left_parenthesis ≡ false → (x : Shape) → Shaped x → EachIn (UsedToken u) x → (r : Forest)
    → form called x r ≡ form sectioned x r
unfolding form chained within ahead indexed amid listed ended skipped
uncalled u h (token k) g e r = refl
uncalled u h (beside x y) g e r = uncalled u h x g.1 e.0 (form called y r) ∙ ap (form sectioned x) (uncalled u h y g.2 e.1 r)
uncalled u h (chain b ms) g e r = refl
uncalled u h (section o c x) g e r = ap (λ (f : Forest). node (closed_by c o) f r) (uncalled u h x g.1 e.2 nil)
uncalled u h (query k o c x) g e r =
    let n = g.2.0 in absurd (true≢false (sym (e.1 (omega (arith, n))) ∙ ap u n ∙ h))
uncalled u h (math_call k o c x) g e r = ap (λ (f : Forest). node k nil (node (closed_by c o) f r)) (uncalled u h x g.2 e.3 nil)
uncalled u h (math_empty k o c) g e r = refl
uncalled u h (index k o c x) g e r = ap (λ (f : Forest). node k nil (node (closed_by c o) f r)) (uncalled u h x g.2 e.3 nil)
uncalled u h (Shapes.pointer k x y) g e r =
    uncalled u h x g.1 e.1 (node k nil (form called y r))
    ∙ ap (λ (f : Forest). form sectioned x (node k nil f)) (uncalled u h y g.2 e.2 r)
uncalled u h (script q x) g e r = uncalled u h x g e r
uncalled u h (statement s x) g e r = uncalled u h x g.1 e.1 (node s nil r)
uncalled u h (last x) g e r = uncalled u h x g e r
uncalled u h (blank s) g e r = refl

-- ---- levels and `return`

lacks-in : (ops : List ℕ) (e : Exp) (all : List Kind) (p : ℕ) → EachOf (λ n. is_one_of ops n ≡ false) e → Lacks all p ops e
lacks-in ops (Ranks.leaf k) all p h = tt
lacks-in ops (Ranks.over k x) all p h = lacks-in ops x all p h
lacks-in ops (Ranks.beside x y) all p h = (lacks-in ops x all p h.0, lacks-in ops y all p h.1)
lacks-in ops (Ranks.between k x y) all p h = (h.0, lacks-in ops x all p h.1, lacks-in ops y all p h.2)
lacks-in ops (Ranks.choice q c t) all p h = (h.0, lacks-in ops c all p h.1, lacks-in ops t all p h.2)
lacks-in ops (Ranks.chosen q k c t e) all p h =
    (h.0, h.1, lacks-in ops c all p h.2, lacks-in ops t all p h.3, lacks-in ops e all p h.4)

each-so : (Q R : ℕ → Type 0) → ((n : ℕ) → Q n → R n) → (e : Exp) → EachOf Q e → EachOf R e
each-so Q R f (Ranks.leaf k) h = f k.op h
each-so Q R f (Ranks.over k x) h = each-so Q R f x h
each-so Q R f (Ranks.beside x y) h = (each-so Q R f x h.0, each-so Q R f y h.1)
each-so Q R f (Ranks.between k x y) h = (f k.op h.0, each-so Q R f x h.1, each-so Q R f y h.2)
each-so Q R f (Ranks.choice q c t) h = (f q.op h.0, each-so Q R f c h.1, each-so Q R f t h.2)
each-so Q R f (Ranks.chosen q k c t e) h = (
  f q.op h.0,
  f k.op h.1,
  each-so Q R f c h.2,
  each-so Q R f t h.3,
  each-so Q R
      f e h.4,
)

-- No operator of a level that does not run; a minus counts as a plus where the level is that of plus.
abbrev Off : List ℕ → ℕ → Type 0
Off ops n = (is_one_of ops n ≡ false) × ((is_one_of ops Operator.add ≡ false) ⊎ (eqb n Operator.negate ≡ false))

off-plus : (ops : List ℕ) → Off ops Operator.negate → Off ops Operator.add
off-plus ops (a, inl h) = (h, inl h)
off-plus ops (a, inr h) = absurd (true≢false h)

-- What is to be computed of each level.
abbrev Fine : (ℕ → Bool) → Kind → Type 0
Fine u κ = runs u (pass_of κ) ≡ false → (any u (operators_in κ) ≡ false)
    × ((is_one_of (operators_in κ) Operator.add ≡ false) ⊎ (u Operator.negate ≡ false))

abbrev AllFine : (ℕ → Bool) → List Kind → Type 0
AllFine u [] = Unit {0}
AllFine u (κ ∷ κs) = (all_low (operators_in κ) ≡ true) × Fine u κ × AllFine u κs

fine-plain : (u : ℕ → Bool) (ops : List ℕ) → is_one_of ops Operator.add ≡ false → Fine u (plain ops)
unfolding runs pass_of operators_in
fine-plain u ops h w = (w, inl h)

fine-ternary : (u : ℕ → Bool) → Fine u ternary
unfolding runs pass_of operators_in is_one_of any
fine-ternary u w = (w, inl refl)

fine-plus : (u : ℕ → Bool) → Fine u plus
unfolding runs pass_of operators_in any
fine-plus u w = let p = or-neither (u Operator.negate) (u Operator.add || false) w in (p.1, inr p.0)

-- The same as a test.
unfoldable is_fine : Kind → Bool
is_fine (plain ops) = all_low ops && not (is_one_of ops Operator.add)
is_fine plus = true
is_fine ternary = true

unfoldable are_fine : List Kind → Bool
are_fine [] = true
are_fine (κ ∷ κs) = is_fine κ && are_fine κs

fine : (u : ℕ → Bool) (κ : Kind) → is_fine κ ≡ true → (all_low (operators_in κ) ≡ true) × Fine u κ
unfolding is_fine operators_in every any
fine u (plain ops) h =
    let p = (and-eq-true_iff (all_low ops) (not (is_one_of ops Operator.add))).0 h in
    (p.0, fine-plain u ops (not-true (is_one_of ops Operator.add) p.1))
fine u plus h = (refl, fine-plus u)
fine u ternary h = (refl, fine-ternary u)

fines : (u : ℕ → Bool) (κs : List Kind) → are_fine κs ≡ true → AllFine u κs
unfolding are_fine
fines u [] h = tt
fines u (κ ∷ κs) h =
    let p = (and-eq-true_iff (is_fine κ) (are_fine κs)).0 h in let f = fine u κ p.0 in (f.0, f.1, fines u κs p.1)

levels-fine : (c a p : Bool) → are_fine (levels (ruled c a p)) ≡ true
unfolding levels kinds_of kind_of order Orders.comparisons Orders.logic Orders.conditionals are_fine is_fine every is_one_of any
levels-fine = eight-ways (λ c a p. are_fine (levels (ruled c a p)) ≡ true) refl refl refl refl refl refl refl refl

all-fine : (c a p : Bool) (u : ℕ → Bool) → AllFine u (levels (ruled c a p))
all-fine c a p u = fines u (levels (ruled c a p)) (levels-fine c a p)

off-token : (u : ℕ → Bool) (κ : Kind) → all_low (operators_in κ) ≡ true → (any u (operators_in κ) ≡ false)
    × ((is_one_of (operators_in κ) Operator.add ≡ false) ⊎ (u Operator.negate ≡ false))
    → (k : Token) → UsedToken u k → Off (operators_in κ) k.op
off-token u κ l (h, inl g) k e = (lacks u (is_one_of (operators_in κ)) (gone-ops u (operators_in κ) h l) k e, inl g)
off-token u κ l (h, inr g) k e = (
  lacks u (is_one_of (operators_in κ)) (gone-ops u (operators_in κ) h l) k e,
  inr (never (eqb k.op Operator.negate) (λ q. let n = eqb-true k.op Operator.negate q in
      true≢false (sym (e (omega (arith, n))) ∙ ap u n ∙ g))),
)

-- Where no `return` is used, none is there.
no-return-leaf : (x : Exp) → EachOf (λ n. eqb n Operator.return ≡ false) x → is_return_leaf x ≡ false
unfolding is_return_leaf
no-return-leaf (Ranks.leaf k) h = h
no-return-leaf (Ranks.over k x) h = refl
no-return-leaf (Ranks.beside x y) h = refl
no-return-leaf (Ranks.between k x y) h = refl
no-return-leaf (Ranks.choice q c t) h = refl
no-return-leaf (Ranks.chosen q k c t e) h = refl

once-off : (b : Bool) (rank : ℕ → ℕ) (y : Exp) (A B : Type 0) → b ≡ false → Once b rank y A B → A × B
once-off true rank y A B h o = absurd (true≢false h)
once-off false rank y A B h o = o

pub returnless : (rank : ℕ → ℕ) (e : Exp) → Returning rank e → EachOf (λ n. eqb n Operator.return ≡ false) e → Returnless e
returnless rank (Ranks.leaf k) g h = h
returnless rank (Ranks.over k x) g h = (g.0, returnless rank x g.1 h)
returnless rank (Ranks.beside x y) g h =
    let o = once-off (is_return_leaf x) rank y (Returning rank x) (Returning rank y) (no-return-leaf x h.0) g in
    (returnless rank x o.0 h.0, returnless rank y o.1 h.1)
returnless rank (Ranks.between k x y) g h = (g.0, returnless rank x g.1 h.1, returnless rank y g.2 h.2)
returnless rank (Ranks.choice q c t) g h = (g.0, returnless rank c g.1 h.1, returnless rank t g.2 h.2)
returnless rank (Ranks.chosen q k c t e) g h =
    (g.0, g.1, returnless rank c g.2 h.2, returnless rank t g.3 h.3, returnless rank e g.4 h.4)

-- The exact used set has every operator of the list.
pub each-used : (u : ℕ → Bool) (ks : List Token) → ((n : ℕ) → uses ks n ≡ true → u n ≡ true) → Each (UsedToken u) ks
unfolding uses
each-used u [] h = tt
each-used u (k ∷ ks) h = (
  (λ low. h k.op (or-first (leb k.op Operator.host_math_volatile && eqb k.op k.op) (uses ks k.op)
      (and-on (leb k.op 110) (eqb k.op k.op) (le-leb k.op 110 low) (eq-eqb k.op k.op refl)))),
  each-used u ks (λ n e. h n (or-second (leb n Operator.host_math_volatile && eqb k.op n) (uses ks n) e)),
)
  where
    and-on : (x y : Bool) → x ≡ true → y ≡ true → (x && y) ≡ true
    and-on true y e f = f
    and-on false y e f = absurd (false≢true e)

module _ (c a p : Bool) (t : Text) (g : Canonical (ruled c a p) t) (u : ℕ → Bool) (used : Each (UsedToken u) (tokens t [])) where
  gated : (κs : List Kind) → AllFine u κs → Gated (levels (ruled c a p)) (pairing (ruled c a p)) u (ranked t) κs
  gated [] f = tt
  gated (κ ∷ κs) f = ((λ w. level (f.1 w)), gated κs f.2)
    where
      level : (any u (operators_in κ) ≡ false) × ((is_one_of (operators_in κ) Operator.add ≡ false) ⊎ (u Operator.negate ≡ false))
          → Lacks (levels (ruled c a p)) (pairing (ruled c a p)) (operators_in κ) (ranked t)
      level w =
          lacks-in (operators_in κ) (ranked t) (levels (ruled c a p)) (pairing (ruled c a p))
          (each-so (Off (operators_in κ)) (λ n. is_one_of (operators_in κ) n ≡ false) (λ n h. h.0) (ranked t)
          (in-ranked (Off (operators_in κ)) (off-plus (operators_in κ)) t [] g.arrows
          (each_map (UsedToken u) (λ k. Off (operators_in κ) k.op) (off-token u κ f.0 w) (tokens t []) used)).0)

  -- ---- the passes before the levels

  abbrev r : Rules
  r = ruled c a p

  shaped : EachIn (UsedToken u) (shape t)
  shaped = (in-shape (UsedToken u) t [] used).0

  -- A stage of the text has no leaf of a test that the used set lacks.
  nothing_left : (s : Stage) (P : ℕ → Bool) → (s.arrays ≡ true → P Operator.array ≡ false)
      → (s.statements ≡ true → P Operator.semicolon ≡ false) → Gone u P
      → free P (form s (shape t) nil) ≡ true
  nothing_left s P m n w =
      free-form P s m n (shape t) (map (UsedToken u) (λ k. P k.op ≡ false) (lacks u P w) (shape t) shaped) nil (unfold free in refl)

  members-idle : (len : ℕ) → runs u member_accessors ≡ false
      → apply len member_accessors (form raw (shape t) nil) ≡ ok (form raw (shape t) nil)
  unfolding runs operators_of works_on every any leaves
  members-idle len w =
      no-masks len member_accessors (form raw (shape t) nil) (ap tokens_only (raw-tokens t []) ∙ tokens-only (tokens t []))
      (nothing_left raw (operators_of member_accessors) (λ e. absurd (false≢true e)) (λ e. absurd (false≢true e))
      (gone-ops u (Operator.member_accessor ∷ []) w refl))

  sections-idle : (len : ℕ) → runs u sectioning ≡ false → apply len sectioning (form joined (shape t) nil) ≡ ok (form joined (shape t) nil)
  unfolding runs operators_of works_on every any flat
  sections-idle len w =
      no-masks len sectioning (form joined (shape t) nil) (flat-joined (shape t) g.shaped nil refl)
      (nothing_left joined (operators_of sectioning) (λ e. absurd (false≢true e)) (λ e. absurd (false≢true e))
      (gone-ops u (Operator.left_brace ∷ Operator.left_bracket ∷ Operator.left_parenthesis ∷ []) w refl))

  statements-idle : (len : ℕ) → runs u statements ≡ false
      → apply len statements (form called (shape t) nil) ≡ ok (form called (shape t) nil)
  unfolding runs operators_of works_on is_semicolon
  statements-idle len w =
      no-masks len statements (form called (shape t) nil) refl
      (nothing_left called (operators_of statements) (λ e. absurd (false≢true e)) (λ e. absurd (false≢true e))
      (gone_one u Operator.semicolon w (omega arith)))

  arrays-idle : (len : ℕ) → runs u arrays ≡ false → apply len arrays (form stated (shape t) nil) ≡ ok (form stated (shape t) nil)
  unfolding runs operators_of works_on is_array_name
  arrays-idle len w =
      no-masks len arrays (form stated (shape t) nil) refl
      (nothing_left stated (operators_of arrays) (λ e. absurd (false≢true e)) (λ e. refl)
      (gone_one u Operator.array_variable w (omega arith)))

  pointers-idle : (len : ℕ) → runs u pointer ≡ false → apply len pointer (form arrayed (shape t) nil) ≡ ok (form arrayed (shape t) nil)
  unfolding runs operators_of works_on every is_one_of any
  pointers-idle len w =
      no-masks len pointer (form arrayed (shape t) nil) refl
      (nothing_left arrayed (operators_of pointer) (λ e. refl) (λ e. refl) (gone-ops u (Operator.pointer ∷ []) w refl))

  math-low : (n : ℕ) → is_math_call n ≡ true → n ≤ 110
  unfolding is_math_call Operator.between
  math-low n h = either (leb n 110) (λ e. leb-true n 110 e) (λ e. absurd (true≢false (sym h ∙ no-math n (leb-false n 110 e))))

  maths-idle : (len : ℕ) → runs u math_calls ≡ false → apply len math_calls (form pointed (shape t) nil) ≡ ok (form pointed (shape t) nil)
  unfolding runs operators_of works_on calls is_math_call Operator.between
  maths-idle len w = no-masks len math_calls (form pointed (shape t) nil) refl
      (nothing_left pointed (operators_of math_calls) (λ e. refl) (λ e. refl) gone)
    where
      gone : Gone u (operators_of math_calls)
      gone n h =
          let l = math-low n h in
          let b : (u n && is_math_call n) ≡ false = none_below 111 (λ n. u n && is_math_call n) w n (omega (arith, l)) in
          (l, and_first (u n) (is_math_call n) h b)
        where
          and_first : (x y : Bool) → y ≡ true → (x && y) ≡ false → x ≡ false
          and_first true y e f = absurd (true≢false (sym e ∙ f))
          and_first false y e f = refl

  prefixes-idle : (len : ℕ) → runs u unary_minus_and_not ≡ false
      → apply len unary_minus_and_not (form counted (shape t) nil) ≡ ok (form counted (shape t) nil)
  unfolding runs operators_of works_on is_prefix
  prefixes-idle len w = no-masks len unary_minus_and_not (form counted (shape t) nil) refl
      (nothing_left counted (operators_of unary_minus_and_not) (λ e. refl) (λ e. refl) gone)
    where
      gone : Gone u (operators_of unary_minus_and_not)
      gone n h = gone-ops u (Operator.negate ∷ Operator.logical_not ∷ []) w (unfold every any in refl) n
          (unfold is_one_of any in ap (λ (b : Bool). eqb n Operator.negate || b) (or-false (eqb n Operator.logical_not)) ∙ h)

  calls-idle : (len : ℕ) → runs u call_pass ≡ false → apply len call_pass (form sectioned (shape t) nil) ≡ ok (form sectioned (shape t) nil)
  unfolding runs operators_of works_on
  calls-idle len w =
      by (any u (Operator.left_brace ∷ Operator.left_bracket ∷ Operator.left_parenthesis ∷ Operator.query_function ∷ Operator.array_variable
      ∷ Operator.semicolon ∷ [])) refl w
    where
      uncalling : u Operator.left_parenthesis ≡ false → apply len call_pass (form sectioned (shape t) nil) ≡ ok (form sectioned (shape t) nil)
      uncalling h = calls-made c a p t g len ∙ ap ok (uncalled u h (shape t) g.shaped shaped nil)

      idle : any u (Operator.query_function ∷ Operator.loop ∷ Operator.for_each ∷ []) ≡ false
          → apply len call_pass (form sectioned (shape t) nil) ≡ ok (form sectioned (shape t) nil)
      idle h =
          no-masks len call_pass (form sectioned (shape t) nil) (unfold works_on in refl)
          (nothing_left sectioned (operators_of call_pass) (λ e. absurd (false≢true e)) (λ e. absurd (false≢true e))
          (unfold operators_of calls is_query_or_loop in
          gone-ops u (Operator.query_function ∷ Operator.loop ∷ Operator.for_each ∷ []) h (unfold every any in refl)))

      by : (b : Bool) → any u (Operator.left_brace ∷ Operator.left_bracket ∷ Operator.left_parenthesis ∷ Operator.query_function
          ∷ Operator.array_variable ∷ Operator.semicolon ∷ []) ≡ b
          → (b && any u (Operator.query_function ∷ Operator.loop ∷ Operator.for_each ∷ [])) ≡ false
          → apply len call_pass (form sectioned (shape t) nil) ≡ ok (form sectioned (shape t) nil)
      by true e h = idle h
      by false e h = uncalling (any_none u _ e Operator.left_parenthesis (unfold is_one_of any in refl))

  returns-idle : (len : ℕ) → runs u returns ≡ false → apply len returns (folded c a p t g) ≡ ok (folded c a p t g)
  unfolding runs trees
  returns-idle len w = returns-made c a p t g len
      ∙ ap ok (sym (same (λ n. leb 1 (rank r n)) (ranked t) (returnless (rank r) (ranked t) g.returning none) nil))
    where
      none : EachOf (λ n. eqb n Operator.return ≡ false) (ranked t)
      none =
          (in-ranked (λ n. eqb n Operator.return ≡ false) (λ h. refl) t [] g.arrows
          (each_map (UsedToken u) (λ k. eqb k.op Operator.return ≡ false)
          (lacks u (λ n. eqb n Operator.return) (gone_one u Operator.return w (omega arith))) (tokens t []) used)).0

  -- No pass that does not run is needed.
  pub unneeded : (len : ℕ) → Unneeded c a p t g len u
  unneeded len = record {
    members = members-idle len;
    sections = sections-idle len;
    calls = calls-idle len;
    statements = statements-idle len;
    arrays = arrays-idle len;
    pointers = pointers-idle len;
    maths = maths-idle len;
    prefixes = prefixes-idle len;
    levels = gated (levels (ruled c a p)) (all-fine c a p u);
    returns = returns-idle len;
  }

-- THE THEOREM OF THE VIEWS: under the rules of every version and every used set that has the text's operators, the tokens of a canonical
-- text
-- read to its trees, if the check of the last token lets them through.
pub canonical : (c a p : Bool) (t : Text) → Canonical (ruled c a p) t → (len : ℕ) (u : ℕ → Bool)
    → ((n : ℕ) → uses (tokens t []) n ≡ true → u n ≡ true)
    → (runs u last_token ≡ true → apply len last_token (leaves (tokens t [])) ≡ ok (leaves (tokens t [])))
    → grouped len u (order (ruled c a p)) [] (leaves (tokens t [])) ≡ rooted len [] (trees (ruled c a p) t nil)
canonical c a p t g len u h e = canonical-reads c a p t g len u e (unneeded c a p t g u (each-used u (tokens t []) h) len)
