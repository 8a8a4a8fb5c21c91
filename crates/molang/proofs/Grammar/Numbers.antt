-- WHAT THE OPERATORS OF A TEXT'S TOKENS ARE NOT, by computing it once for each test; and the ranks of the grammar are those of the levels.
use Prim.Native.Nat.{ℕ, suc, ◌<◌, ◌≤◌}
use mathlib.Core.Path.{◌≡◌, refl, ap, sym, ◌∙◌}
use mathlib.Core.{Bool.{Bool, true, false, ◌&&◌, ◌||◌, not, true≢false, false≢true, and-eq-true_iff, or-false}, List.{List, [], ◌∷◌, ◌++◌}}
use native.Mathlib.Omega.{arith}
use lib.{Dec.{eqb, leb, lit<}, ListN.{length}}
use borrow.Author.Tests.{not-true, eqb-true, eq-eqb, leb-true, leb-false}
use Rattle.molang.specs.Operator
use Rattle.molang.specs.{Operator.{any, is_one_of, is_math_call, closing_of, is_closer}, Forest.{Token}}
use Rattle.molang.specs.Free.{is_return, is_conditional, operators_of}
use Rattle.molang.specs.Order.{Rules, Pass, last_token, member_accessors, sectioning, call_pass, statements, arrays, pointer, math_calls}
use Rattle.molang.specs.{Order.{unary_minus_and_not, returns, order, some_below}, Grammar.{is_infix}}
use Rattle.molang.specs.Order as Orders
use Rattle.molang.specs.Grammar as Grammar
use Rattle.molang.proofs.{Computed.{computed}, Booleans.{either, eight-ways, never, or-neither}}
use Rattle.molang.proofs.OperatorNumbers.{none_below, no-math, none_of, every, each-one}
use Rattle.molang.proofs.{Grammar.Shape.{Plain}, Grammar.Signed.{Unsigned}, Grammar.Canonical.{arrow_rank}}
use Rattle.molang.proofs.Grammar.Ranks.{Kind, plain, plus, ternary, operators_in, pass_of, passes_of, kind_of, kinds_of, levels, rank_in}
use Rattle.molang.proofs.{Grammar.Ranks.{rank, pairing}, Grammar.Levels.{ruled, good-levels}, Grammar.Reading.{in_order}}

-- A number that passes a test is none that does not.
pub apart : (P : ℕ → Bool) (n m : ℕ) → P n ≡ true → P m ≡ false → eqb n m ≡ false
apart P n m h o = never (eqb n m) (λ e. true≢false (sym h ∙ ap P (eqb-true n m e) ∙ o))

-- The operators between operands.
abbrev pub infixes : List ℕ
infixes =
    Operator.div ∷ Operator.mul ∷ Operator.add ∷ Operator.less_than ∷ Operator.less_equal ∷ Operator.greater_equal ∷ Operator.greater_than
    ∷ Operator.logical_equal ∷ Operator.logical_not_equal ∷ Operator.logical_or ∷ Operator.logical_and ∷ Operator.null_coalescing
    ∷ Operator.conditional ∷ Operator.conditional_else ∷ Operator.comma ∷ Operator.assignment ∷ []

-- Brackets and what else the passes before the prefix operators fold by a token of its own.
abbrev special : List ℕ
special =
    Operator.left_brace ∷ Operator.left_bracket ∷ Operator.left_parenthesis ∷ Operator.right_brace ∷ Operator.right_bracket
    ∷ Operator.right_parenthesis ∷ Operator.member_accessor ∷ Operator.pointer ∷ Operator.semicolon ∷ []

-- What is to be computed of a test, so that the tokens that pass it are none of another kind.
pub unmath : (P : ℕ → Bool) → some_below 111 (λ n. P n && is_math_call n) ≡ false → (n : ℕ) → P n ≡ true → is_math_call n ≡ false
unmath P h n t =
    either (leb n 110)
    (λ e. let l = leb-true n 110 e in second (P n) (is_math_call n) t (none_below 111 (λ n. P n && is_math_call n) h n (omega (arith, l))))
    (λ e. no-math n (leb-false n 110 e))
  where
    second : (a b : Bool) → a ≡ true → (a && b) ≡ false → b ≡ false
    second true b e f = f
    second false b e f = absurd (false≢true e)

pub plainly : (P : ℕ → Bool) → any P special ≡ false → some_below 111 (λ n. P n && is_math_call n) ≡ false → (k : Token) → P k.op ≡ true
    → Plain k
unfolding any closing_of is_closer is_one_of
plainly P o m k h =
    let e : (n : ℕ) → P n ≡ false → eqb k.op n ≡ false = λ n f. apart P k.op n h f in
    let a = or-neither (P Operator.left_brace) _ o in
    let b = or-neither (P Operator.left_bracket) _ a.1 in
    let c = or-neither (P Operator.left_parenthesis) _ b.1 in
    let d = or-neither (P Operator.right_brace) _ c.1 in
    let f = or-neither (P Operator.right_bracket) _ d.1 in
    let g = or-neither (P Operator.right_parenthesis) _ f.1 in
    let i = or-neither (P Operator.member_accessor) _ g.1 in
    let j = or-neither (P Operator.pointer) _ i.1 in
    let l = or-neither (P Operator.semicolon) _ j.1 in (
      rw (e Operator.left_brace a.0, e Operator.left_bracket b.0, e Operator.left_parenthesis c.0, closing_of) refl,
      rw (e Operator.right_brace d.0, e Operator.right_bracket f.0, e Operator.right_parenthesis g.0) refl,
      e Operator.member_accessor i.0,
      unmath P m k.op h,
      e Operator.pointer j.0,
      e Operator.semicolon l.0,
    )

pub unsigned : (P : ℕ → Bool) → P Operator.negate ≡ false → P Operator.logical_not ≡ false → (k : Token) → P k.op ≡ true → Unsigned k
unsigned P a b k h = (apart P k.op Operator.negate h a, apart P k.op Operator.logical_not h b)

pub unpointed : (P : ℕ → Bool) → P Operator.pointer ≡ false → (n : ℕ) → P n ≡ true → arrow_rank n ≡ 0
unfolding arrow_rank
unpointed P o n h = rw (apart P n Operator.pointer h o, arrow_rank) refl

-- ---- ranks by the levels

unfoldable all_infix : List Kind → Bool
all_infix [] = true
all_infix (κ ∷ κs) = every (is_one_of infixes) (operators_in κ) && all_infix κs

none-ranked : (κs : List Kind) → all_infix κs ≡ true → (n : ℕ) → is_one_of infixes n ≡ false → rank_in κs n ≡ 0
unfolding rank_in all_infix
none-ranked [] h n o = refl
none-ranked (κ ∷ κs) h n o =
    let p = (and-eq-true_iff (every (is_one_of infixes) (operators_in κ)) (all_infix κs)).0 h in
    let e : is_one_of (operators_in κ) n ≡ false = never (is_one_of (operators_in κ) n)
    (λ t. true≢false (sym (each-one (is_one_of infixes) (operators_in κ) p.0 n t) ∙ o)) in
    rw (e, rank_in) (none-ranked κs p.1 n o)

all-infix : (c a p : Bool) → all_infix (levels (ruled c a p)) ≡ true
unfolding levels kinds_of kind_of order Orders.comparisons Orders.logic Orders.conditionals all_infix every operators_in is_one_of any
all-infix = eight-ways (λ c a p. all_infix (levels (ruled c a p)) ≡ true) refl refl refl refl refl refl refl refl

-- ---- ranks by the order

-- Passes that do not work on an operator do not change its rank.
skips : (es ps : List Pass) (n : ℕ) → Grammar.rank_in (es ++ ps) n < length ps → Grammar.rank_in (es ++ ps) n ≡ Grammar.rank_in ps n
unfolding Grammar.rank_in
skips [] ps n l = refl
skips (e ∷ es) ps n l = either (operators_of e n)
    (λ t. let m : length (es ++ ps) < length ps = (rw (t, Grammar.rank_in) at l) in let q = longer es in absurd (omega (arith, m, q)))
    (λ f. let m : Grammar.rank_in (es ++ ps) n < length ps = (rw (f, Grammar.rank_in) at l) in rw (f, Grammar.rank_in) (skips es ps n m))
  where
    longer : (es : List Pass) → length ps ≤ length (es ++ ps)
    longer [] = omega arith
    longer (e ∷ es) = let q = longer es in omega (arith, q)

-- Passes that do not work on an operator.
abbrev Idle : List Pass → ℕ → Type 0
Idle [] n = Unit {0}
Idle (e ∷ es) n = (operators_of e n ≡ false) × Idle es n

idle : (es ps : List Pass) (n : ℕ) → Idle es n → Grammar.rank_in (es ++ ps) n ≡ Grammar.rank_in ps n
unfolding Grammar.rank_in
idle [] ps n h = refl
idle (e ∷ es) ps n h = rw (h.0, Grammar.rank_in) (idle es ps n h.1)

-- The levels and `return`.
abbrev late : List Kind → List Pass
late κs = passes_of κs ++ (returns ∷ [])

late-length : (κs : List Kind) → length (late κs) ≡ suc (length κs)
unfolding passes_of
late-length [] = refl
late-length (κ ∷ κs) = ap suc (late-length κs)

alike : (n : ℕ) → is_conditional n ≡ is_one_of (Operator.conditional ∷ Operator.conditional_else ∷ []) n
unfolding is_conditional is_one_of any
alike n = ap (λ (b : Bool). eqb n Operator.conditional || b) (sym (or-false (eqb n Operator.conditional_else)))

told-kind : (κ : Kind) (n : ℕ) → operators_of (pass_of κ) n ≡ is_one_of (operators_in κ) n
unfolding operators_of pass_of operators_in is_conditional is_one_of any
told-kind (plain ops) n = refl
told-kind plus n = refl
told-kind ternary n = alike n

late-rank : (κs : List Kind) (n : ℕ) → Grammar.rank_in (late κs) n ≡ rank_in κs n
unfolding Grammar.rank_in rank_in passes_of operators_of
late-rank [] n = either (is_return n) (λ t. rw (t, Grammar.rank_in) refl) (λ f. rw (f, Grammar.rank_in) refl)
late-rank (κ ∷ κs) n = either (is_one_of (operators_in κ) n)
    (λ t. rw (told-kind κ n ∙ t, Grammar.rank_in) (rw (t, rank_in) (late-length κs)))
    (λ f. rw (told-kind κ n ∙ f, Grammar.rank_in) (rw (f, rank_in) (late-rank κs n)))

abbrev early : List Pass
early = last_token ∷ member_accessors ∷ sectioning ∷ call_pass ∷ statements ∷ arrays ∷ pointer ∷ math_calls ∷ unary_minus_and_not ∷ []

-- The level of conditionals that pair to the right has no other operators.
told-ternary : (c a : Bool) (n : ℕ) → is_conditional n ≡ eqb (rank (ruled c a true) n) (pairing (ruled c a true))
unfolding levels kinds_of kind_of order Orders.comparisons Orders.logic Orders.conditionals rank pairing operators_in is_one_of any is_conditional
    rank_in
told-ternary true true n = alike n ∙ (good-levels true true true).1.1.1.1.1.1.1.0 n
told-ternary true false n = alike n ∙ (good-levels true false true).1.1.1.1.1.1.1.0 n
told-ternary false true n = alike n ∙ (good-levels false true true).1.1.1.1.1.1.1.1.1.1.1.0 n
told-ternary false false n = alike n ∙ (good-levels false false true).1.1.1.1.1.1.1.1.1.1.1.0 n

apart-pairing : (c a p : Bool) (n : ℕ) → 0 < rank (ruled c a p) n → not (p && is_conditional n) ≡ true
    → rank (ruled c a p) n ≡ pairing (ruled c a p) → ⊥
apart-pairing c a false n l h e = let z : pairing (ruled c a false) ≡ 0 = (unfold pairing in refl) in omega (arith, l, e, z)
apart-pairing c a true n l h e =
    true≢false (sym (told-ternary c a n ∙ eq-eqb (rank (ruled c a true) n) (pairing (ruled c a true)) e) ∙ not-true (is_conditional n) h)

module _ (c a p : Bool) where
  abbrev r : Rules
  r = ruled c a p

  -- The number of levels.
  abbrev pub height : ℕ
  height = length (levels r)

  in-early : (n : ℕ) → Grammar.rank r n ≡ Grammar.rank_in (early ++ late (levels r)) n
  unfolding Grammar.rank
  in-early n = ap (λ (ps : List Pass). Grammar.rank_in ps n) (in_order c a p)

  -- An operator that is none of the passes before the levels has its rank by them.
  pub rank-level : (n : ℕ) → Grammar.rank r n ≤ height → Grammar.rank r n ≡ rank r n
  unfolding rank
  rank-level n h =
      let e = in-early n in let l = late-length (levels r) in
      e ∙ skips early (late (levels r)) n (omega (arith, e, h, l)) ∙ late-rank (levels r) n

  pub rank-pointer : Grammar.rank r Operator.pointer ≡ suc (suc (suc height))
  unfolding computed
  rank-pointer = in-early Operator.pointer ∙ ap (λ (n : ℕ). suc (suc n)) (late-length (levels r))

  pub rank-negate : Grammar.rank r Operator.negate ≡ suc height
  unfolding computed
  rank-negate = in-early Operator.negate ∙ late-length (levels r)

  pub rank-not : Grammar.rank r Operator.logical_not ≡ suc height
  unfolding computed
  rank-not = in-early Operator.logical_not ∙ late-length (levels r)

  pub rank-math : (n : ℕ) → is_math_call n ≡ true → Grammar.rank r n ≡ suc (suc height)
  unfolding computed
  rank-math n h =
      let d : (m : ℕ) → is_math_call m ≡ false → eqb n m ≡ false = λ m f. apart is_math_call n m h f in
      let o : (ops : List ℕ) → any is_math_call ops ≡ false → is_one_of ops n ≡ false = λ ops f. none_of is_math_call ops n h f in
      let last : Grammar.rank_in (math_calls ∷ unary_minus_and_not ∷ late (levels r)) n ≡ suc (suc height) =
      (rw (h, Grammar.rank_in) (ap suc (late-length (levels r)))) in
      in-early n
      ∙ idle (last_token ∷ member_accessors ∷ sectioning ∷ call_pass ∷ statements ∷ arrays ∷ pointer ∷ [])
      (math_calls ∷ unary_minus_and_not ∷ late (levels r)) n (
        refl,
        (
          o (Operator.member_accessor ∷ []) refl,
          (
            o (Operator.left_brace ∷ Operator.left_bracket ∷ Operator.left_parenthesis ∷ []) refl,
            (
              o (Operator.query_function ∷ Operator.loop ∷ Operator.for_each ∷ []) refl,
              (
                d Operator.semicolon refl,
                (
                  d Operator.array_variable refl,
                  (o (Operator.pointer ∷ []) refl, tt),
                ),
              ),
            ),
          ),
        ),
      )
      ∙ last

  -- What is none of the levels' operators has no rank by them.
  pub unranked : (P : ℕ → Bool) → any P infixes ≡ false → (n : ℕ) → P n ≡ true → rank r n ≡ 0
  unfolding rank
  unranked P o n h = none-ranked (levels r) (all-infix c a p) n (none_of P infixes n h o)

  pub none-unranked : (n : ℕ) → is_one_of infixes n ≡ false → rank r n ≡ 0
  unfolding rank
  none-unranked n o = none-ranked (levels r) (all-infix c a p) n o

  -- ---- an operator between operands

  pub record Infix (n : ℕ) : Type 0 where
    pub same : Grammar.rank r n ≡ rank r n
    pub low : Grammar.rank r n ≤ height
    pub positive : 0 < Grammar.rank r n
    pub listed : is_one_of infixes n ≡ true
    pub unpaired : rank r n ≡ pairing r → ⊥

  rank-div : Grammar.rank r Operator.div ≡ height
  unfolding computed levels kinds_of kind_of rank_in operators_in
  rank-div = in-early Operator.div ∙ late-rank (levels r) Operator.div

  pub an-infix : (n : ℕ) → is_infix r n ≡ true → Infix n
  unfolding is_infix Operator.between rank
  an-infix n h =
      let b = (and-eq-true_iff (Operator.between 1 (Grammar.rank r Operator.div) (Grammar.rank r n))
      (not (r.pairs_right && is_conditional n))).0 h in
      let q = (and-eq-true_iff (leb 1 (Grammar.rank r n)) (leb (Grammar.rank r n) (Grammar.rank r Operator.div))).0 b.0 in
      let one = leb-true 1 (Grammar.rank r n) q.0 in
      let most = leb-true (Grammar.rank r n) (Grammar.rank r Operator.div) q.1 in
      let top = rank-div in
      let low : Grammar.rank r n ≤ height = omega (arith, most, top) in
      let e = rank-level n low in
      record {
        same = e;
        low = low;
        positive = one;
        listed = either (is_one_of infixes n) (λ t. t)
            (λ f. let z = none-ranked (levels r) (all-infix c a p) n f in absurd (omega (arith, z, e, one)));
        unpaired = apart-pairing c a r.pairs_right n (omega (arith, e, one)) b.1;
      }

-- The plus of a binary minus is one of them.
pub plus-infix : (c a p : Bool) → Infix c a p Operator.add
unfolding computed
plus-infix c a p =
    an-infix c a p Operator.add
    (eight-ways (λ c a p. is_infix (ruled c a p) Operator.add ≡ true) refl refl refl refl refl refl refl refl c a p)

-- A `?` that pairs to the right, and its `:`.
pub record Question (c a p : Bool) : Type 0 where
  pub positive : 0 < pairing (ruled c a p)
  pub low : pairing (ruled c a p) ≤ height c a p
  pub given : Grammar.rank (ruled c a p) Operator.conditional ≡ pairing (ruled c a p)
  pub question : rank (ruled c a p) Operator.conditional ≡ pairing (ruled c a p)
  pub colon : rank (ruled c a p) Operator.conditional_else ≡ pairing (ruled c a p)

pub a-question : (c a p : Bool) → p ≡ true → Question c a p
unfolding computed levels kinds_of kind_of rank pairing rank_in operators_in
a-question true true true e = record { positive = lit< tt; low = omega arith; given = refl; question = refl; colon = refl }
a-question true false true e = record { positive = lit< tt; low = omega arith; given = refl; question = refl; colon = refl }
a-question false true true e = record { positive = lit< tt; low = omega arith; given = refl; question = refl; colon = refl }
a-question false false true e = record { positive = lit< tt; low = omega arith; given = refl; question = refl; colon = refl }
a-question true true false e = absurd (false≢true e)
a-question true false false e = absurd (false≢true e)
a-question false true false e = absurd (false≢true e)
a-question false false false e = absurd (false≢true e)
