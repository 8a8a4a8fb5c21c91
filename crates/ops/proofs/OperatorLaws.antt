-- What an arm of a `match` on an operator shows: what a function gives at each number of the arm's range, by one test that antt
-- computes, and that a number apart from each of a list is none of them. Assumes nothing.
use mathlib.Core.{Path.{◌≡◌, refl, subst}, Bool.{Bool, true, false, not, ◌&&◌, ◌||◌, beq}, List.{List, [], ◌∷◌, ◌++◌}}
use mathlib.Core.{Logic.{inl, inr, ⊎_elim}, Option.{Option, none, some}}
use Prim.Native.Nat.{ℕ, zero, suc, ◌+◌, ◌-◌, ◌<◌, ◌≤◌}
use native.Mathlib.{Nat.{eq-or-lt_of_le}, Omega.{arith}}
use lib.Dec.{T, eqb}
use types.Run.{OneOf}
use borrow.Author.Tests.{eq-eqb, ne_eqb}
use Rattle.molang.specs.Operator.{left_brace, right_brace, left_bracket, left_parenthesis, negate, logical_not, add, div, mul, less_than}
use Rattle.molang.specs.Operator.{less_equal, greater_equal, greater_than, logical_equal, logical_not_equal, logical_or, logical_and}
use Rattle.molang.specs.Operator.{null_coalescing, conditional, conditional_else, loop, for_each, break, continue, assignment, semicolon}
use Rattle.molang.specs.Operator.{return, comma, expression_array, any, is_one_of, closing_of, BeforeMinus, operand, operator, minus, unknown}
use Rattle.molang.specs.{Operator.{is_closer, before_minus}, Nesting.{open_after}}
use Rattle.ops.specs.Operators.{raise_of}

-- The test passes at the k numbers from lo on.
abbrev pub passes : (ℕ → Bool) → ℕ → ℕ → Bool
passes p lo zero = true
passes p lo (suc k) = p lo && passes p (suc lo) k

pub and_left : (a b : Bool) → T (a && b) → T a
and_left true b t = tt
and_left false b t = t

pub and_right : (a b : Bool) → T (a && b) → T b
and_right true b t = t
and_right false b t = absurd t

pub passes_at : (p : ℕ → Bool) (lo k : ℕ) → T (passes p lo k) → (n : ℕ) → lo ≤ n → n < lo + k → T (p n)
passes_at p lo zero t n from to = absurd (omega arith)
passes_at p lo (suc k) t n from to =
    ⊎_elim (λ e. subst (λ (m : ℕ). T (p m)) e (and_left (p lo) (passes p (suc lo) k) t))
    (λ later. passes_at p (suc lo) k (and_right (p lo) (passes p (suc lo) k) t) n later (omega arith))
    (eq-or-lt_of_le from)

is_true : (b : Bool) → T b → true ≡ b
is_true true t = refl
is_true false t = absurd t

is_false : (b : Bool) → T (not b) → false ≡ b
is_false true t = absurd t
is_false false t = refl

pub true-at : (f : ℕ → Bool) (lo k : ℕ) → T (passes f lo k) → (n : ℕ) → lo ≤ n → n < lo + k → true ≡ f n
true-at f lo k t n from to = is_true (f n) (passes_at f lo k t n from to)

pub false-at : (f : ℕ → Bool) (lo k : ℕ) → T (passes (λ n. not (f n)) lo k) → (n : ℕ) → lo ≤ n → n < lo + k → false ≡ f n
false-at f lo k t n from to = is_false (f n) (passes_at (λ n. not (f n)) lo k t n from to)

same : (a b : Bool) → T (beq a b) → a ≡ b
same true true t = refl
same true false t = absurd t
same false true t = absurd t
same false false t = refl

-- Two functions agree below k.
abbrev pub agree : (ℕ → Bool) → (ℕ → Bool) → ℕ → Bool
agree f g k = passes (λ n. beq (f n) (g n)) 0 k

pub agree_at : (f g : ℕ → Bool) (k : ℕ) → T (agree f g k) → (n : ℕ) → n < k → f n ≡ g n
agree_at f g k t n below = same (f n) (g n) (passes_at (λ n. beq (f n) (g n)) 0 k t n (omega arith) (omega arith))

-- The number is none of the list.
abbrev pub Apart : ℕ → List ℕ → Type 0
Apart n [] = Unit {0}
Apart n (o ∷ os) = (n ≡ o → ⊥) × Apart n os

pub apart : (os : List ℕ) (n : ℕ) → Apart n os → false ≡ is_one_of os n
unfolding is_one_of any
apart [] n a = refl
apart (o ∷ os) n a = rw (ne_eqb n o a.0) (apart os n a.1)

or_right : (a b : Bool) → true ≡ b → true ≡ (a || b)
or_right true b e = refl
or_right false b e = e

-- What is known of a number in an arm of several numbers, and in the arms after it.
pub one_of : (os : List ℕ) (n : ℕ) → OneOf os n → true ≡ is_one_of os n
unfolding is_one_of any
one_of [] n h = absurd h
one_of (o ∷ []) n h = rw (eq-eqb n o h)
one_of (o ∷ p ∷ os) n h = ⊎_elim (λ e. rw (eq-eqb n o e)) (λ later. or_right (eqb n o) (is_one_of (p ∷ os) n) (one_of (p ∷ os) n later)) h

pub none_of : (os : List ℕ) (n : ℕ) → (OneOf os n → ⊥) → Apart n os
none_of [] n h = tt
none_of (o ∷ []) n h = (h, tt)
none_of (o ∷ p ∷ os) n h = (λ e. h (inl e), none_of (p ∷ os) n (λ later. h (inr later)))

-- What is no opener has no closer.
pub no-closer : (n : ℕ) → Apart n (left_brace ∷ left_bracket ∷ left_parenthesis ∷ []) → closing_of n ≡ none
unfolding closing_of
no-closer n a =
    rw (ne_eqb n left_brace a.0, closing_of)
    (rw (ne_eqb n left_bracket a.1.0, closing_of) (rw (ne_eqb n left_parenthesis a.1.1.0, closing_of)))

-- No operator adds more than one, and the count after it is by what it adds.
pub raise-few : (n : ℕ) → raise_of n ≤ 2
unfolding raise_of
raise-few n = split (closing_of n) (is_closer n)
  where
    split : (o : Option ℕ) (b : Bool) → elim o [ some c ↦ 2 | none ↦ elim b [ true ↦ 0 | false ↦ 1 ] ] ≤ 2
    split (some c) b = omega arith
    split none true = omega arith
    split none false = omega arith

pub open-raised : (depth n : ℕ) → open_after depth n ≡ depth + raise_of n - 1
unfolding open_after raise_of
open-raised depth n = split (closing_of n) (is_closer n)
  where
    split : (o : Option ℕ) (b : Bool)
        → elim o [ some c ↦ suc depth | none ↦ elim b [ true ↦ depth - 1 | false ↦ depth ] ]
        ≡ depth + elim o [ some c ↦ 2 | none ↦ elim b [ true ↦ 0 | false ↦ 1 ] ] - 1
    split (some c) b = omega arith
    split none true = omega arith
    split none false = omega arith

-- What stands before a minus: the operators on a range, and an operand where a number is none of the others.
abbrev is_operator : BeforeMinus → Bool
is_operator operand = false
is_operator operator = true
is_operator minus = false
is_operator unknown = false

is-operator : (k : BeforeMinus) → T (is_operator k) → operator ≡ k
is-operator operand t = absurd t
is-operator operator t = refl
is-operator minus t = absurd t
is-operator unknown t = absurd t

pub operator-at : (lo k : ℕ) → T (passes (λ n. is_operator (before_minus n)) lo k) → (n : ℕ) → lo ≤ n → n < lo + k → operator ≡ before_minus n
operator-at lo k t n from to = is-operator (before_minus n) (passes_at (λ n. is_operator (before_minus n)) lo k t n from to)

apart-join : (os ps : List ℕ) (n : ℕ) → Apart n os → Apart n ps → Apart n (os ++ ps)
apart-join [] ps n a b = b
apart-join (o ∷ os) ps n a b = (a.0, apart-join os ps n a.1 b)

-- The operators that make a minus unary, in the definition's order: by range in the code, or by themselves.
abbrev braces : List ℕ
braces = left_brace ∷ right_brace ∷ []

abbrev arithmetic : List ℕ
arithmetic = logical_not ∷ add ∷ div ∷ mul ∷ []

abbrev middle : List ℕ
middle =
    less_than ∷ less_equal ∷ greater_equal ∷ greater_than ∷ logical_equal ∷ logical_not_equal ∷ logical_or ∷ logical_and ∷ null_coalescing
    ∷ conditional ∷ conditional_else ∷ loop ∷ for_each ∷ break ∷ []

abbrev last : List ℕ
last = semicolon ∷ return ∷ comma ∷ []

abbrev pub Single : ℕ → Type 0
Single n = Apart n (negate ∷ continue ∷ expression_array ∷ []) × Apart n arithmetic × Apart n (assignment ∷ [])

abbrev pub Ranged : ℕ → Type 0
Ranged n = Apart n braces × Apart n middle × Apart n last

operators : (n : ℕ) → Single n → Ranged n → Apart n (braces ++ (arithmetic ++ (middle ++ assignment ∷ last)))
operators n s r =
    apart-join braces (arithmetic ++ (middle ++ assignment ∷ last)) n r.0
    (apart-join arithmetic (middle ++ assignment ∷ last) n s.1 (apart-join middle (assignment ∷ last) n r.1 (s.2.0, r.2)))

-- What is none of these, no minus and not unknown is an operand.
pub operand-apart : (n : ℕ) → Single n → Ranged n → operand ≡ before_minus n
unfolding before_minus
operand-apart n s r =
    rw (ne_eqb n negate s.0.0, before_minus)
    (rw (← apart (continue ∷ expression_array ∷ []) n s.0.1, before_minus)
    (rw (← apart (braces ++ (arithmetic ++ (middle ++ assignment ∷ last))) n (operators n s r), before_minus)))
