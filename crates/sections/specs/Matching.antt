-- Nothing lost in the brackets (card 13), of the function that is the bracket step: what `sections` promises of a childless list besides
-- the definition's answer. What is matched, and that trees have all of a list, is said in molang/specs/Matching.
use Rattle.std.specs.Prelude.{ℕ, ◌≡◌, List, [], Result, Ok, is_ok}
use Rattle.molang.specs.Forest.{Token, Forest, leaves}
use Rattle.molang.specs.Matching.{matched, Whole}
use Rattle.nodes.specs.Store.{InArray}
use Rattle.sections.specs.Flat.{CanSection}
use Rattle.levels.specs.declared.failure.Fault.{Fault}

-- Trees that have all of the list ks stand in the m words from `base` on.
pub record StandsWhole (W X : List ℕ) (base lo hi m : ℕ) (ks : List Token) : Type 0 where
  pub trees : Forest
  pub array : InArray W X base m lo hi trees
  pub whole : Whole ks trees

-- NOTHING IS LOST of a childless list, the tokens ks: `sections` leaves a list exactly when the brackets of ks are matched, and then the trees
-- that stand in the words have all of ks.
pub record LosesNothing (W : List ℕ) (base n : ℕ) (r : Result ℕ Fault) (W' : List ℕ) : Type 0 where
  pub matches : (g : CanSection W base n) (ks : List Token) → g.f ≡ leaves ks → is_ok r ≡ matched [] ks
  pub whole : (g : CanSection W base n) (ks : List Token) → g.f ≡ leaves ks → (m : ℕ) → r ≡ Ok m
      → StandsWhole W' g.X base g.lo g.hi m ks
