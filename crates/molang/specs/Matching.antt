-- NOTHING LOST IN THE BRACKETS (card 13): when the bracket step over a childless list succeeds, and that its trees then have all of the
-- list. Neither reading nor writing uses this file: the theorem `nothing-lost` (proofs/Matching) and the promise of the function that is
-- the bracket step (`sections`, in the crate of that name) speak of it.
use Rattle.std.specs.Prelude.{ℕ, ◌≡◌, Bool, true, false, ◌&&◌, List, [], ◌∷◌, ◌++◌, eqb}
use Rattle.std.proofs.Math.Option.{none, some}
use Rattle.molang.specs.Operator.{closing_of, is_closer}
use Rattle.molang.specs.Forest.{Token, Forest, nil, node}
use Rattle.molang.specs.Message.{Result, ok, fail}

-- ---- When it succeeds

-- No section is open. Open sections are given by the closers that they wait for, the innermost first.
unfoldable pub none_open : List ℕ → Bool
none_open [] = true
none_open (c ∷ waiting) = false

-- MATCHED: every closer met inside an open section matches the innermost, and no section is open at the end.
unfoldable pub matched : List ℕ → List Token → Bool
matched waiting [] = none_open waiting
matched waiting (k ∷ ks) =
    elim (closing_of k.op) [
      | some c ↦ matched (c ∷ waiting) ks
      | none ↦
          elim (is_closer k.op) [
            | true ↦ elim waiting [ [] ↦ matched [] ks | c ∷ outer ↦ eqb c k.op && matched outer ks ]
            | false ↦ matched waiting ks
          ]
    ]

-- The step gave a list of trees and no message.
unfoldable pub succeeds : Result → Bool
succeeds (ok f) = true
succeeds (fail m) = false

-- ---- What its trees have

-- The operators of a list, in order.
unfoldable pub operators_in : List Token → List ℕ
operators_in [] = []
operators_in (k ∷ ks) = k.op ∷ operators_in ks

-- For an opener its closer, before the operators r.
unfoldable pub with_closer : ℕ → List ℕ → List ℕ
with_closer n r = elim (closing_of n) [ some c ↦ c ∷ r | none ↦ r ]

-- SPELLED: each node, then its children, then for each opener its closer, before the operators r.
unfoldable pub spelled : Forest → List ℕ → List ℕ
spelled nil r = r
spelled (node k cs rest) r = k.op ∷ spelled cs (with_closer k.op (spelled rest r))

-- The trees of the first list, then those of the second.
unfoldable pub followed_by : Forest → Forest → Forest
followed_by nil r = r
followed_by (node k cs f) r = node k cs (followed_by f r)

-- The token k, which stood between xs and ys, is a leaf there: the trees before it spell xs, and those after it ys.
pub record LeafBetween (xs : List Token) (k : Token) (ys : List Token) (trees : Forest) : Type 0 where
  pub left : Forest
  pub right : Forest
  pub is : trees ≡ followed_by left (node k nil right)
  pub before : spelled left [] ≡ operators_in xs
  pub after : spelled right [] ≡ operators_in ys

-- The trees have all of the list ks: they spell its operators in order, and each closer met with nothing open (the brackets before it are
-- matched) is kept as a leaf.
pub record Whole (ks : List Token) (trees : Forest) : Type 0 where
  pub spells : spelled trees [] ≡ operators_in ks
  pub keeps : (xs : List Token) (k : Token) (ys : List Token) → ks ≡ xs ++ (k ∷ ys) → is_closer k.op ≡ true → matched [] xs ≡ true
      → LeafBetween xs k ys trees

-- NOTHING IS LOST of the childless list ks, by what the bracket step answers to it: it succeeds exactly when the brackets are matched, and
-- on success its trees have all of the list.
pub record NothingLost (ks : List Token) (answer : Result) : Type 0 where
  pub matches : succeeds answer ≡ matched [] ks
  pub whole : (trees : Forest) → answer ≡ ok trees → Whole ks trees
