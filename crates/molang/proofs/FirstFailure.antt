-- Laws of 'first failure wins': when no check answers, and checks in parts.
use mathlib.Core.{Path.{◌≡◌, refl, sym, ◌∙◌}, Bool.{Bool, true, false}, List.{List, [], ◌∷◌, ◌++◌}, Option.{Option, none, some}}
use Prim.Native.Nat.{ℕ}
use Rattle.molang.specs.{FirstFailure.{must, first_of}, Words.{with_place, with_number}}
use Rattle.molang.proofs.Trees.{some-none}

module _ {A : Type 0} where
  -- A test that answers nothing holds.
  pub must-none : (b : Bool) (a : A) → must b a ≡ none → b ≡ true
  unfolding must
  must-none true a e = refl
  must-none false a e = some-none e

  pub must-true : (b : Bool) (a : A) → b ≡ true → must b a ≡ none
  must-true b a e = unfold must in rw e

  pub must-false : (b : Bool) (a : A) → b ≡ false → must b a ≡ some a
  must-false b a e = unfold must in rw e

  -- What a test answers is its answer.
  pub must-some : (b : Bool) (a c : A) → must b a ≡ some c → a ≡ c
  unfolding must
  must-some true a c e = some-none (sym e)
  must-some false a c e = cc

  -- No check answers: not the first, and none after it.
  pub first-none : (o : Option A) (later : List (Option A)) → first_of (o ∷ later) ≡ none → (o ≡ none) × (first_of later ≡ none)
  unfolding first_of
  first-none none later e = (refl, e)
  first-none (some a) later e = some-none e

  pub then-none : (o : Option A) (later : List (Option A)) → o ≡ none → first_of later ≡ none → first_of (o ∷ later) ≡ none
  then-none o later e h = unfold first_of in rw e h

  -- The same where the first check is a test.
  pub passed : (b : Bool) (a : A) (later : List (Option A)) → first_of (must b a ∷ later) ≡ none → (b ≡ true) × (first_of later ≡ none)
  passed b a later e = let both = first-none (must b a) later e in (must-none b a both.0, both.1)

  pub passes : (b : Bool) (a : A) (later : List (Option A)) → b ≡ true → first_of later ≡ none → first_of (must b a ∷ later) ≡ none
  passes b a later e = then-none (must b a) later (must-true b a e)

  pub all-passed : first_of {A = A} [] ≡ none
  all-passed = unfold first_of in refl

  -- The first check answers.
  pub found : (o : Option A) (a : A) (later : List (Option A)) → o ≡ some a → first_of (o ∷ later) ≡ some a
  unfolding first_of
  found o a later e = rw e

  -- One check alone, after one that does not answer, or before one that does not.
  pub last_one : (o : Option A) → first_of (o ∷ []) ≡ o
  unfolding first_of
  last_one none = refl
  last_one (some a) = refl

  pub after_none : (o last : Option A) → o ≡ none → first_of (o ∷ last ∷ []) ≡ last
  after_none o last e = unfold first_of in rw e (last_one last)

  -- What is answered by a test or, where it holds, by the check after it.
  pub one_of : {Q : Type 0} (b : Bool) (a c : A) (last : Option A) → first_of (must b a ∷ last ∷ []) ≡ some c → (b ≡ false → a ≡ c → Q)
      → (b ≡ true → last ≡ some c → Q)
      → Q
  unfolding first_of must
  one_of true a c last e first later = later refl (sym (last_one last) ∙ e)
  one_of false a c last e first later = first refl (cc)

  pub before-none : (o last : Option A) → last ≡ none → first_of (o ∷ last ∷ []) ≡ o
  unfolding first_of
  before-none none last e = rw e
  before-none (some a) last e = refl

  -- An answer stays where it stays of the last check.
  pub later-found : (o x y : Option A) (a : A) → (x ≡ some a → y ≡ some a) → first_of (o ∷ x ∷ []) ≡ some a → first_of (o ∷ y ∷ []) ≡ some a
  unfolding first_of
  later-found none x y a h e = last_one y ∙ h (sym (last_one x) ∙ e)
  later-found (some b) x y a h e = e

  -- Checks that are made first, as one of them all.
  pub in_parts : (checks later : List (Option A)) → first_of (checks ++ later) ≡ first_of (first_of checks ∷ later)
  unfolding first_of
  in_parts [] later = refl
  in_parts (none ∷ checks) later = in_parts checks later
  in_parts (some a ∷ checks) later = refl

  -- Checks behind the same first one.
  pub behind : (o : Option A) (checks others : List (Option A)) → first_of checks ≡ first_of others
      → first_of (o ∷ checks) ≡ first_of (o ∷ others)
  unfolding first_of
  behind none checks others e = e
  behind (some a) checks others e = refl

-- What holds of what was found, if anything was.
abbrev pub All : {A : Type 0} → (A → Type 0) → Option A → Type 0
All P none = Unit {0}
All P (some a) = P a

-- What holds of each answer holds of the first.
module _ {A : Type 0} (P : A → Type 0) where
  pub all_first : (o : Option A) (later : List (Option A)) → All P o → All P (first_of later) → All P (first_of (o ∷ later))
  unfolding first_of
  all_first none later x y = y
  all_first (some a) later x y = x

  pub all-last : (o : Option A) → All P o → All P (first_of (o ∷ []))
  all-last o x = rw (last_one o) x

  pub all-must : (b : Bool) (a : A) → P a → All P (must b a)
  unfolding must
  all-must true a x = tt
  all-must false a x = x

  -- One check more after the first.
  pub all-between : (o more : Option A) (later : List (Option A)) → All P more → All P (first_of (o ∷ later))
      → All P (first_of (o ∷ more ∷ later))
  unfolding first_of
  all-between none more later x y = all_first more later x y
  all-between (some a) more later x y = y

  -- The later ones are asked where the first test holds.
  pub all-must-then : (b : Bool) (a : A) (later : List (Option A)) → P a → (b ≡ true → All P (first_of later))
      → All P (first_of (must b a ∷ later))
  unfolding first_of must
  all-must-then true a later x y = y refl
  all-must-then false a later x y = x

-- Nothing was found.
pub with_place-none : (place : ℕ) (o : Option ℕ) → with_place place o ≡ none → o ≡ none
with_place-none place none e = refl
with_place-none place (some n) e = some-none e

pub with_number-none : (number : ℕ) (o : Option ℕ) → with_number number o ≡ none → o ≡ none
with_number-none number none e = refl
with_number-none number (some n) e = some-none e

pub without-number : (number : ℕ) (o : Option ℕ) → o ≡ none → with_number number o ≡ none
without-number number o e = rw e
