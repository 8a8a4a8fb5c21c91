-- Laws of Booleans that the proofs share: a case on a test that keeps its answer, and what an `||` says of its sides.
use mathlib.Core.{Path.{◌≡◌, refl, sym, ◌∙◌}, Bool.{Bool, true, false, ◌||◌, true≢false, false≢true}}

-- Either way of a test, with what it answered.
pub either : {A : Type 0} (b : Bool) → (b ≡ true → A) → (b ≡ false → A) → A
either true passed failed = passed refl
either false passed failed = failed refl

-- What holds whatever three tests answer.
pub eight-ways : (P : Bool → Bool → Bool → Type 0) → P true true true → P true true false → P true false true → P true false false
    → P false true true → P false true false → P false false true → P false false false → (a b c : Bool) → P a b c
eight-ways P q r s t u v w x true true true = q
eight-ways P q r s t u v w x true true false = r
eight-ways P q r s t u v w x true false true = s
eight-ways P q r s t u v w x true false false = t
eight-ways P q r s t u v w x false true true = u
eight-ways P q r s t u v w x false true false = v
eight-ways P q r s t u v w x false false true = w
eight-ways P q r s t u v w x false false false = x

pub false-true : {A : Type 0} → false ≡ true → A
false-true e = absurd (false≢true e)

-- A test that cannot pass.
pub never : (b : Bool) → (b ≡ true → ⊥) → b ≡ false
never true h = absurd (h refl)
never false h = refl

pub or-first : (a b : Bool) → a ≡ true → (a || b) ≡ true
or-first a b h = rw h refl

pub or-second : (a b : Bool) → b ≡ true → (a || b) ≡ true
or-second true b h = refl
or-second false b h = h

pub or-neither : (a b : Bool) → (a || b) ≡ false → (a ≡ false) × (b ≡ false)
or-neither true b h = absurd (true≢false h)
or-neither false b h = (refl, h)

pub or-only-first : (a b : Bool) → b ≡ false → (a || b) ≡ true → a ≡ true
or-only-first true b n h = refl
or-only-first false b n h = absurd (true≢false (sym h ∙ n))
