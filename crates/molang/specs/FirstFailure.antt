-- Document 01, 'Where the entry turns a call back': "Checked from the top, first failure wins". Every check of words, of calls and of a
-- plain tree's nodes is said by these two.
use Rattle.std.specs.Prelude.{Bool, true, false, List, [], ◌∷◌}
use Rattle.std.proofs.Math.Option.{Option, none, some}

-- The answer is given where the test fails.
unfoldable pub must : {A : Type 0} → Bool → A → Option A
must true a = none
must false a = some a

-- The first answer that is given, if there is one.
unfoldable pub first_of : {A : Type 0} → List (Option A) → Option A
first_of [] = none
first_of (none ∷ later) = first_of later
first_of (some a ∷ later) = some a
