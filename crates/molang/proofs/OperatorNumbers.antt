-- What holds of every operator number: computed for the 111 numbers of document 01, and shown of those above.
use Prim.Native.Nat.{ℕ, zero, suc, ◌<◌}
use mathlib.Core.{Path.{◌≡◌, refl, ap, sym, ◌∙◌}, Bool.{Bool, true, false, ◌&&◌, not, true≢false, false≢true, and-false}}
use mathlib.Core.List.{List, [], ◌∷◌}
use native.Mathlib.Omega.{arith}
use lib.Dec.{eqb, leb, lit<}
use borrow.Author.Tests.{eqb-true, eqb-false, ne_eqb, lt-leb, leb-true, leb-false, not-true, not-false}
use Rattle.molang.specs.{Operator.{any, is_one_of, between, is_math_call}, Order.{some_below}}
use Rattle.molang.proofs.Booleans.{either, never, or-neither}

-- What no number below m passes.
pub none_below : (m : ℕ) (test : ℕ → Bool) → some_below m test ≡ false → (n : ℕ) → n < m → test n ≡ false
unfolding some_below
none_below zero test h n l = absurd (omega arith)
none_below (suc m) test h n l =
    let parts = or-neither (test m) (some_below m test) h in
    let earlier : n < m → test n ≡ false = none_below m test parts.1 n in
    either (eqb n m) (λ e. ap test (eqb-true n m e) ∙ parts.0) (λ e. earlier (let q : ¬ (n ≡ m) = eqb-false n m e in omega arith))

-- A test that passes only where another does: computed, and shown of the numbers above.
pub implied : (P Q : ℕ → Bool) → some_below 111 (λ n. P n && not (Q n)) ≡ false → ((n : ℕ) → 110 < n → P n ≡ true → Q n ≡ true)
    → (n : ℕ) → P n ≡ true → Q n ≡ true
implied P Q h above n t =
    either (leb n 110)
    (λ e. let f : (P n && not (Q n)) ≡ false = none_below 111 (λ n. P n && not (Q n)) h n (omega (arith, leb-true n 110 e)) in
    not-false (Q n) (rw t at f))
    (λ e. above n (leb-false n 110 e) t)

-- No number above 110 is one of the operators.
pub not-one : (o : ℕ) → o < 111 → (n : ℕ) → 110 < n → eqb n o ≡ false
not-one o small n l = ne_eqb n o (λ q. omega arith)

pub not-between : (a b : ℕ) → b < 111 → (n : ℕ) → 110 < n → between a b n ≡ false
unfolding between
not-between a b small n l = rw (lt-leb n b (omega arith)) (and-false (leb a n))

-- No math call is above 110.
pub no-math : (n : ℕ) → 110 < n → is_math_call n ≡ false
unfolding is_math_call
no-math n l =
    rw (
      not-one 8 (lit< tt) n l,
      not-between 10 19 (lit< tt) n l,
      not-between 21 30 (lit< tt) n l,
      not-between 32 39
          (lit< tt) n l,
      not-between 78 110 (lit< tt) n l,
    ) refl

-- What no operator of a list passes, none that is one of them passes; and one that passes it is none of them.
pub any_none : (u : ℕ → Bool) (ops : List ℕ) → any u ops ≡ false → (n : ℕ) → is_one_of ops n ≡ true → u n ≡ false
unfolding any is_one_of
any_none u [] h n m = absurd (false≢true m)
any_none u (o ∷ os) h n m =
    let p = or-neither (u o) (any u os) h in
    let later : is_one_of os n ≡ true → u n ≡ false = any_none u os p.1 n in
    either (eqb n o) (λ e. ap u (eqb-true n o e) ∙ p.0) (λ e. later (rw e at m))

pub none_of : (P : ℕ → Bool) (ops : List ℕ) (n : ℕ) → P n ≡ true → any P ops ≡ false → is_one_of ops n ≡ false
none_of P ops n h o = never (is_one_of ops n) (λ m. true≢false (sym h ∙ any_none P ops o n m))

-- What each operator of a list passes.
unfoldable pub every : (ℕ → Bool) → List ℕ → Bool
every P ops = not (any (λ n. not (P n)) ops)

pub each-one : (P : ℕ → Bool) (ops : List ℕ) → every P ops ≡ true → (n : ℕ) → is_one_of ops n ≡ true → P n ≡ true
unfolding every
each-one P ops h n m = not-false (P n) (any_none (λ n. not (P n)) ops (not-true (any (λ n. not (P n)) ops) h) n m)
