-- The tables of ranks are the definition's order: one law for a rank that runs by some of its operators, whose test antt computes, and each
-- table rank by rank. Assumes nothing.
use mathlib.Core.{Path.{◌≡◌, refl, sym, ap, ap₂, ◌∙◌, subst}, Bool.{Bool, true, false, ◌&&◌, ◌||◌, and-false, true≢false}}
use mathlib.Core.List.{List, [], ◌∷◌}
use Prim.Native.Nat.{ℕ, zero, suc, ◌<◌}
use native.Mathlib.Omega.{arith}
use lib.{Dec.{T, eqb, ltb}, IntN.{ℤ, pos, negsuc}, ListN.{length}}
use borrow.Author.Tests.{eqb-true, eqb-false, ne_eqb, ltb-true, leb-true, le-leb}
use Rattle.molang.specs.Operator
use Rattle.molang.specs.Operator.{any, is_one_of, between, is_math_call, is_query_or_loop}
use Rattle.molang.specs.Order.{Rules, is_from, Pass, call_pass, statements, arrays, pointer, math_calls, unary_minus_and_not, addition}
use Rattle.molang.specs.{Order.{conditional, returns, binary, comparisons, logic, conditionals, order, some_below, runs}, Parse.{in_halves}}
use Rattle.ops.specs.{Classes.{pass_classes, own_classes, in_class, bit_at, meets}, declared.sets.OpSet.{OpSet}}
use Rattle.ops.proofs.{OperatorLaws.{agree, agree_at, and_left, and_right}, BitLaws.{some_same, none_below}}
use Rattle.ops.proofs.{ClassLaws.{stands_for_only, stands-for-only}, SetLaws.{math-used}}
use Rattle.levels.specs.declared.turns.Pass.{Pass as State}
use Rattle.levels.specs.declared.turns.Pass.TheVariants.{Calls, MathCalls, Unsplit, Split, Arrays, Unary, Binary, Conditional, Returns}
use Rattle.std.specs.{Prelude.{None, Some}, Bool.{then_some}}
use Rattle.order.specs.declared.Rank.{Rank}
use Rattle.order.specs.Ranks.{used_by, rules_of, later, Starts, call, unsplit_pass, array, math_call, unary, conditional_pass, return_pass}
use Rattle.order.specs.Ranks.{point, plus, level, call_gate, is_open, is_used, AtRank, past, first, unranked, Ranked, Chosen, over}
use Rattle.order.specs.Ranks.{unused, used}

-- ---- One of some operators is used

or_swap : (a b x y : Bool) → ((a || b) || (x || y)) ≡ ((a || x) || (b || y))
or_swap true b x y = refl
or_swap false true true y = refl
or_swap false true false y = refl
or_swap false false x y = refl

and-or : (a b c : Bool) → (a && (b || c)) ≡ ((a && b) || (a && c))
and-or true b c = refl
and-or false b c = refl

some_or : (k : ℕ) (f g : ℕ → Bool) → some_below k (λ n. f n || g n) ≡ (some_below k f || some_below k g)
unfolding some_below
some_or zero f g = refl
some_or (suc k) f g = ap (λ (x : Bool). (f k || g k) || x) (some_or k f g) ∙ or_swap (f k) (g k) (some_below k f) (some_below k g)

module _ (u : ℕ → Bool) where
  some_at : (o k : ℕ) → o < k → some_below k (λ n. u n && eqb n o) ≡ u o
  unfolding some_below
  some_at o zero h = absurd (omega arith)
  some_at o (suc k) h = go (eqb k o) refl (λ later. some_at o k later)
    where
      or-none : (a : Bool) → (a || false) ≡ a
      or-none true = refl
      or-none false = refl

      and-all : (a : Bool) → (a && true) ≡ a
      and-all true = refl
      and-all false = refl

      go : (b : Bool) → eqb k o ≡ b → (o < k → some_below k (λ n. u n && eqb n o) ≡ u o)
          → ((u k && eqb k o) || some_below k (λ n. u n && eqb n o)) ≡ u o
      go true e rest =
          let none : some_below k (λ n. u n && eqb n o) ≡ false =
          none_below k (λ n. u n && eqb n o) (λ n h. rw (ne_eqb n o (λ z. omega (arith, eqb-true k o e))) (and-false (u n))) in
          rw (e, none) (or-none (u k && true) ∙ (and-all (u k) ∙ ap u (eqb-true k o e)))
      go false e rest =
          let other = eqb-false k o e in
          rw (e, and-false (u k)) (rest (omega (arith, other)))

  abbrev below : ℕ → List ℕ → Bool
  below k [] = true
  below k (o ∷ os) = ltb o k && below k os

  any_some : (k : ℕ) (os : List ℕ) → T (below k os) → any u os ≡ some_below k (λ n. u n && is_one_of os n)
  unfolding any is_one_of
  any_some k [] t = sym (none_below k (λ n. u n && false) (λ n h. and-false (u n)))
  any_some k (o ∷ os) t =
      ap₂ (λ (a b : Bool). a || b) (sym (some_at o k (ltb-true o k (is_true (ltb o k) (and_left (ltb o k) (below k os) t)))))
      (any_some k os (and_right (ltb o k) (below k os) t))
      ∙ (sym (some_or k (λ n. u n && eqb n o) (λ n. u n && any (eqb n) os))
      ∙ some_same k (λ n. (u n && eqb n o) || (u n && any (eqb n) os)) (λ n. u n && (eqb n o || any (eqb n) os))
      (λ n h. sym (and-or (u n) (eqb n o) (any (eqb n) os))))
    where
      is_true : (b : Bool) → T b → b ≡ true
      is_true true t = refl
      is_true false t = absurd t

-- The test of a list of operators against the two halves of a set.
abbrev masks : List ℕ → ℕ → ℕ → Bool
masks os low high = below (λ n. true) 128 os && agree (in_halves low high) (is_one_of os) 128

asked : (u : ℕ → Bool) (os : List ℕ) (low high : ℕ) → T (masks os low high) → any u os ≡ some_below 128 (λ n. u n && in_halves low high n)
asked u os low high t =
    any_some u 128 os (and_left (below (λ n. true) 128 os) _ t)
    ∙ some_same 128 (λ n. u n && is_one_of os n) (λ n. u n && in_halves low high n)
    (λ n h. ap (λ (b : Bool). u n && b) (sym (agree_at (in_halves low high) (is_one_of os) 128
    (and_right (below (λ n. true) 128 os) _ t) n h)))

-- ---- A rank

-- The pass stands at the rank.
abbrev IsRank : Pass → Rank → Type 0
IsRank p r = Starts p r.pass × ((set : OpSet) → runs (used_by set) p ≡ (is_open set r.pass && is_used set r))

abbrev rank_of : State → ℕ → ℕ → Rank
rank_of state low high = record { pass = state; operators = record { low = low; high = high } }

abbrev level_at : ℕ → ℕ → ℕ → Rank
level_at c low high = rank_of (Binary (record { 0 = c }) 0) low high

-- It runs by one of some operators.
by : {p : Pass} {state : State} (os : List ℕ) (low high : ℕ) → Starts p state → ((set : OpSet) → is_open set state ≡ true)
    → ((set : OpSet) → runs (used_by set) p ≡ any (used_by set) os) → T (masks os low high) → IsRank p (rank_of state low high)
by {state = state} os low high s o e t =
    (s, λ set. e set ∙ (asked (used_by set) os low high t ∙ sym (ap (λ (b : Bool). b && is_used set (rank_of state low high)) (o set))))

of-level : (os : List ℕ) (c low high : ℕ) → T (stands_for_only c os) → T (masks os low high)
    → IsRank (binary os) (level_at c low high)
of-level os c low high t m = unfold runs in by os low high (level (stands-for-only c os t)) (λ set. refl) (λ set. refl) m

-- ---- A table

-- Each pass at its rank.
data Each : List Pass → List Rank → Type 0 where
  done : Each [] []
  next : {p : Pass} {ps : List Pass} {r : Rank} {rs : List Rank} → IsRank p r → Each ps rs → Each (p ∷ ps) (r ∷ rs)

no-bit : (n : ℕ) → n < 128 → in_halves 0 0 n ≡ false
no-bit n h = unfold in_halves in agree_at (in_halves 0 0) (λ n. false) 128 tt n h

no-operator : (set : OpSet) → is_used set unranked ≡ false
no-operator set =
    none_below 128 (λ n. used_by set n && in_halves 0 0 n)
    (λ n h. ap (λ (b : Bool). used_by set n && b) (no-bit n h) ∙ and-false (used_by set n))

ranked : {ps : List Pass} {rs : List Rank} → Each ps rs → Ranked ps rs
ranked done zero = past no-operator
ranked done (suc k) = past no-operator
ranked (next i e) zero = first i.0 i.1
ranked (next i e) (suc k) = ranked e k

as-many : {ps : List Pass} {rs : List Rank} → Each ps rs → length rs ≡ length ps
as-many done = refl
as-many (next i e) = ap suc (as-many e)

-- Ranks 0 to 8, at every version.
abbrev front : List Pass → List Pass
front ps =
    call_pass ∷ statements ∷ arrays ∷ pointer ∷ math_calls ∷ unary_minus_and_not ∷ binary (Operator.div ∷ []) ∷ binary
    (Operator.mul ∷ []) ∷ addition ∷ ps

abbrev front-ranks : List Rank → List Rank
front-ranks rs =
    rank_of Calls 0x100_0000_0000 0x18
    ∷ rank_of Unsplit 0 0x200
    ∷ rank_of (Arrays 0 0) 0x200_0000_0000 0
    ∷ level_at 0x8 0 0x100
    ∷ rank_of MathCalls 0xff_7fef_fd00 0x7fff_ffff_c000
    ∷ rank_of Unary 0xc0 0
    ∷ level_at 0x20 0x10_0000 0
    ∷ level_at 0x40 0x8000_0000 0
    ∷ level_at 0x40_0000 0x240 0
    ∷ rs

front-each : {ps : List Pass} {rs : List Rank} → Each ps rs → Each (front ps) (front-ranks rs)
unfolding any is_one_of between is_math_call is_query_or_loop some_below pass_classes own_classes in_class bit_at meets in_halves runs
front-each e =
    next
    ((
      call,
      λ set. ap (λ (b : Bool). any (used_by set) call_gate && b)
          (asked (used_by set) (Operator.query_function ∷ Operator.loop ∷ Operator.for_each ∷ []) 0x100_0000_0000 0x18 tt),
    ))
    (next (by (Operator.semicolon ∷ []) 0 0x200 unsplit_pass (λ set. refl) (λ set. refl) tt)
    (next (by (Operator.array_variable ∷ []) 0x200_0000_0000 0 array (λ set. refl) (λ set. refl) tt)
    (next (by (Operator.pointer ∷ []) 0 0x100 (point (stands-for-only 0x8 (Operator.pointer ∷ []) tt)) (λ set. refl) (λ set. refl) tt)
    (next ((math_call, λ set. sym (math-used set.low set.high)))
    (next (by (Operator.negate ∷ Operator.logical_not ∷ []) 0xc0 0 unary (λ set. refl) (λ set. refl) tt)
    (next (of-level (Operator.div ∷ []) 0x20 0x10_0000 0 tt tt)
    (next (of-level (Operator.mul ∷ []) 0x40 0x8000_0000 0 tt tt)
    (next (by (Operator.negate ∷ Operator.add ∷ []) 0x240 0 (plus (stands-for-only 0x40_0000 (Operator.add ∷ []) tt)) (λ set. refl)
    (λ set. refl) tt) e))))))))

-- Below version 6 each comparison.
abbrev compared : List Pass → List Pass
compared ps =
    binary (Operator.less_than ∷ []) ∷ binary (Operator.logical_equal ∷ []) ∷ binary (Operator.greater_equal ∷ []) ∷ binary
    (Operator.greater_than ∷ []) ∷ binary (Operator.less_equal ∷ []) ∷ binary (Operator.logical_not_equal ∷ []) ∷ ps

abbrev compared-ranks : List Rank → List Rank
compared-ranks rs =
    level_at 0x100 0x4_0000_0000_0000 0
    ∷ level_at 0x1000 0x40_0000_0000_0000 0
    ∷ level_at 0x400 0x10_0000_0000_0000 0
    ∷ level_at 0x800 0x20_0000_0000_0000 0
    ∷ level_at 0x200 0x8_0000_0000_0000 0
    ∷ level_at 0x2000 0x80_0000_0000_0000 0
    ∷ rs

compared-each : {ps : List Pass} {rs : List Rank} → Each ps rs → Each (compared ps) (compared-ranks rs)
unfolding any is_one_of between is_math_call is_query_or_loop some_below pass_classes own_classes in_class bit_at meets in_halves runs
compared-each e =
    next (of-level (Operator.less_than ∷ []) 0x100 0x4_0000_0000_0000 0 tt tt)
    (next (of-level (Operator.logical_equal ∷ []) 0x1000 0x40_0000_0000_0000 0 tt tt)
    (next (of-level (Operator.greater_equal ∷ []) 0x400 0x10_0000_0000_0000 0 tt tt)
    (next (of-level (Operator.greater_than ∷ []) 0x800 0x20_0000_0000_0000 0 tt tt)
    (next (of-level (Operator.less_equal ∷ []) 0x200 0x8_0000_0000_0000 0 tt tt)
    (next (of-level (Operator.logical_not_equal ∷ []) 0x2000 0x80_0000_0000_0000 0 tt tt) e)))))

-- From version 6 the comparisons together, and the equalities.
abbrev compared-together : List Pass → List Pass
compared-together ps =
    binary (Operator.less_than ∷ Operator.less_equal ∷ Operator.greater_equal ∷ Operator.greater_than ∷ []) ∷ binary
    (Operator.logical_equal ∷ Operator.logical_not_equal ∷ []) ∷ ps

abbrev compared-together-ranks : List Rank → List Rank
compared-together-ranks rs =
    level_at 0xf00 0x3c_0000_0000_0000 0
    ∷ level_at 0x3000 0xc0_0000_0000_0000 0
    ∷ rs

compared-together-each : {ps : List Pass} {rs : List Rank} → Each ps rs → Each (compared-together ps) (compared-together-ranks rs)
unfolding any is_one_of between is_math_call is_query_or_loop some_below pass_classes own_classes in_class bit_at meets in_halves runs
compared-together-each e =
    next
    (of-level (Operator.less_than ∷ Operator.less_equal ∷ Operator.greater_equal ∷ Operator.greater_than ∷ []) 0xf00
    0x3c_0000_0000_0000 0 tt tt)
    (next (of-level (Operator.logical_equal ∷ Operator.logical_not_equal ∷ []) 0x3000 0xc0_0000_0000_0000 0 tt tt) e)

-- OR before AND, and AND before OR.
abbrev or-and : List Pass → List Pass
or-and ps = binary (Operator.logical_or ∷ []) ∷ binary (Operator.logical_and ∷ []) ∷ ps

abbrev or-and-ranks : List Rank → List Rank
or-and-ranks rs =
    level_at 0x4000 0x100_0000_0000_0000 0
    ∷ level_at 0x8000 0x200_0000_0000_0000 0
    ∷ rs

or-and-each : {ps : List Pass} {rs : List Rank} → Each ps rs → Each (or-and ps) (or-and-ranks rs)
unfolding any is_one_of between is_math_call is_query_or_loop some_below pass_classes own_classes in_class bit_at meets in_halves runs
or-and-each e =
    next (of-level (Operator.logical_or ∷ []) 0x4000 0x100_0000_0000_0000 0 tt tt)
    (next (of-level (Operator.logical_and ∷ []) 0x8000 0x200_0000_0000_0000 0 tt tt) e)

abbrev and-or-passes : List Pass → List Pass
and-or-passes ps = binary (Operator.logical_and ∷ []) ∷ binary (Operator.logical_or ∷ []) ∷ ps

abbrev and-or-ranks : List Rank → List Rank
and-or-ranks rs =
    level_at 0x8000 0x200_0000_0000_0000 0
    ∷ level_at 0x4000 0x100_0000_0000_0000 0
    ∷ rs

and-or-each : {ps : List Pass} {rs : List Rank} → Each ps rs → Each (and-or-passes ps) (and-or-ranks rs)
unfolding any is_one_of between is_math_call is_query_or_loop some_below pass_classes own_classes in_class bit_at meets in_halves runs
and-or-each e =
    next (of-level (Operator.logical_and ∷ []) 0x8000 0x200_0000_0000_0000 0 tt tt)
    (next (of-level (Operator.logical_or ∷ []) 0x4000 0x100_0000_0000_0000 0 tt tt) e)

-- Below version 5 `:` and `?` as binary operators.
abbrev branched : List Pass → List Pass
branched ps = binary (Operator.conditional_else ∷ []) ∷ binary (Operator.conditional ∷ []) ∷ ps

abbrev branched-ranks : List Rank → List Rank
branched-ranks rs =
    level_at 0x100_0000 0x1000_0000_0000_0000 0
    ∷ level_at 0x80_0000 0x800_0000_0000_0000 0
    ∷ rs

branched-each : {ps : List Pass} {rs : List Rank} → Each ps rs → Each (branched ps) (branched-ranks rs)
unfolding any is_one_of between is_math_call is_query_or_loop some_below pass_classes own_classes in_class bit_at meets in_halves runs
branched-each e =
    next (of-level (Operator.conditional_else ∷ []) 0x100_0000 0x1000_0000_0000_0000 0 tt tt)
    (next (of-level (Operator.conditional ∷ []) 0x80_0000 0x800_0000_0000_0000 0 tt tt) e)

-- From version 5 the conditional pass.
abbrev folded : List Pass → List Pass
folded ps = conditional ∷ ps

abbrev folded-ranks : List Rank → List Rank
folded-ranks rs =
    rank_of (Conditional 0) 0x1800_0000_0000_0000 0
    ∷ rs

folded-each : {ps : List Pass} {rs : List Rank} → Each ps rs → Each (folded ps) (folded-ranks rs)
unfolding any is_one_of between is_math_call is_query_or_loop some_below pass_classes own_classes in_class bit_at meets in_halves runs
folded-each e =
    next
    (by (Operator.conditional ∷ Operator.conditional_else ∷ []) 0x1800_0000_0000_0000 0 conditional_pass (λ set. refl) (λ set. refl) tt) e

-- The last four.
abbrev end : List Pass → List Pass
end ps = binary (Operator.null_coalescing ∷ []) ∷ binary (Operator.comma ∷ []) ∷ binary (Operator.assignment ∷ []) ∷ returns ∷ ps

abbrev end-ranks : List Rank → List Rank
end-ranks rs =
    level_at 0x2_0000 0x400_0000_0000_0000 0
    ∷ level_at 0x4_0000 0 0x800
    ∷ level_at 0x8_0000 0 0x80
    ∷ rank_of Returns 0 0x400
    ∷ rs

end-each : {ps : List Pass} {rs : List Rank} → Each ps rs → Each (end ps) (end-ranks rs)
unfolding any is_one_of between is_math_call is_query_or_loop some_below pass_classes own_classes in_class bit_at meets in_halves runs
end-each e =
    next (of-level (Operator.null_coalescing ∷ []) 0x2_0000 0x400_0000_0000_0000 0 tt tt)
    (next (of-level (Operator.comma ∷ []) 0x4_0000 0 0x800 tt tt)
    (next (of-level (Operator.assignment ∷ []) 0x8_0000 0 0x80 tt tt)
    (next (by (Operator.return ∷ []) 0 0x400 return_pass (λ set. refl) (λ set. refl) tt) e)))

abbrev ruled : Bool → Bool → Rules
ruled from6 from5 = record { comparisons_first = from6; and_first = from6; pairs_right = from5 }

six-five : (v : ℤ) → is_from 6 v ≡ true → is_from 5 v ≡ true
unfolding is_from
six-five (pos n) e = le-leb 5 n (omega (arith, leb-true 6 n e))
six-five (negsuc n) e = e

-- The table has the rank of each pass of the version, and no more.
abbrev IsTable : ℤ → List Rank → Type 0
IsTable v table = Ranked (later (rules_of v)) table × (length table ≡ length (later (rules_of v)))

module _ (v : ℤ) where
  table_is : (b6 b5 : Bool) (table : List Rank) → is_from 6 v ≡ b6 → is_from 5 v ≡ b5 → Each (later (ruled b6 b5)) table → IsTable v table
  table_is b6 b5 table e6 e5 e =
      subst (λ (r : Rules). Ranked (later r) table × (length table ≡ length (later r))) (sym (ap₂ ruled e6 e5)) (ranked e, as-many e)

  pub before-5 : is_from 6 v ≡ false → is_from 5 v ≡ false
      → IsTable v (front-ranks (compared-ranks (or-and-ranks (branched-ranks (end-ranks [])))))
  unfolding order comparisons logic conditionals
  before-5 e6 e5 = table_is false false _ e6 e5 (front-each (compared-each (or-and-each (branched-each (end-each done)))))

  pub at_5 : is_from 6 v ≡ false → is_from 5 v ≡ true → IsTable v (front-ranks (compared-ranks (or-and-ranks (folded-ranks (end-ranks [])))))
  unfolding order comparisons logic conditionals
  at_5 e6 e5 = table_is false true _ e6 e5 (front-each (compared-each (or-and-each (folded-each (end-each done)))))

  pub from-6 : is_from 6 v ≡ true → IsTable v (front-ranks (compared-together-ranks (and-or-ranks (folded-ranks (end-ranks [])))))
  unfolding order comparisons logic conditionals
  from-6 e6 =
      table_is true true _ e6 (six-five v e6)
      (front-each (compared-together-each (and-or-each (folded-each (end-each done)))))

-- ---- What is chosen

module _ (set : OpSet) (rank : Rank) where
  pub chosen-run : is_used set rank ≡ true → is_open set rank.pass ≡ true → (ps : List Pass) → AtRank ps rank
      → Chosen (used_by set) ps (Some rank.pass)
  chosen-run e o ps (past none) = absurd (true≢false (sym e ∙ none set))
  chosen-run e o ps (first s asks) = used (asks set ∙ rw (o, e)) s

  skip : (is_open set rank.pass && is_used set rank) ≡ false → (ps : List Pass) → AtRank ps rank → Chosen (used_by set) ps None
  skip e ps (past none) = over
  skip e ps (first s asks) = unused (asks set ∙ e)

  pub chosen-unused : is_used set rank ≡ false → (ps : List Pass) → AtRank ps rank → Chosen (used_by set) ps None
  chosen-unused e = skip (ap (λ (b : Bool). is_open set rank.pass && b) e ∙ and-false (is_open set rank.pass))

  -- calls, behind their gate
  pub chosen-gated : rank.pass ≡ Calls → is_used set rank ≡ true → (b : Bool) → any (used_by set) call_gate ≡ b → (ps : List Pass)
      → AtRank ps rank → Chosen (used_by set) ps (then_some b Calls)
  chosen-gated e t true gate ps at = subst (λ (p : State). Chosen (used_by set) ps (Some p)) e (chosen-run t (ap (is_open set) e ∙ gate) ps at)
  chosen-gated e t false gate ps at = skip (ap (λ (b : Bool). b && is_used set rank) (ap (is_open set) e ∙ gate)) ps at

pub gate-open : (set : OpSet) → any (used_by set) call_gate ≡ some_below 128 (λ n. used_by set n && in_halves 0x300_0000_0015 0x200 n)
gate-open set = unfold any is_one_of in_halves in asked (used_by set) call_gate 0x300_0000_0015 0x200 tt

pub open-other : (set : OpSet) (p : State) → (p ≡ Calls → ⊥) → is_open set p ≡ true
open-other set Calls other = absurd (other refl)
open-other set MathCalls other = refl
open-other set Unsplit other = refl
open-other set (Split n) other = refl
open-other set (Arrays a b) other = refl
open-other set Unary other = refl
open-other set (Binary classes pending) other = refl
open-other set (Conditional tokens) other = refl
open-other set Returns other = refl
