-- The counts: the last four add up to the first, and lists counted one by one come to the counts over all of them, since no count of fewer
-- than 2 ^ 64 lists stops short.
use Prim.Native.Nat.{ℕ, suc, ◌+◌, ◌^◌, ◌≤◌, ◌<◌}
use mathlib.Core.{Path.{◌≡◌, refl, ◌∙◌}, Bool.{Bool, true, false, not}, List.{List, [], ◌∷◌}}
use native.Mathlib.{Nat.{add-zero}, Omega.{arith}}
use lib.{Dec.{ltb}, IntN.{ℤ}, ListN.{length}}
use borrow.Author.Tests.{lt-ltb}
use Rattle.molang.specs.{Forest.{nil, node}, Words.{tree_words}, Read.{Answer, tree, messages}, Lift.{eq_words, are_same}}
use Rattle.own.specs.Own.{reading_of}
use Rattle.liftcount.specs.declared.run.Counts.{Counts}
use Rattle.liftcount.specs.Counting.{are_different, one_has_messages, both_have_messages, same_tree, different_trees}
use Rattle.liftcount.specs.{Counting.{message_at_one, message_at_both, how_many}, Running.{more, more_if, counted}}

-- One where a test holds.
abbrev one_if : Bool → ℕ
one_if true = 1
one_if false = 0

-- Two answers pass exactly one of the four tests.
either : (b : Bool) → one_if b + one_if (not b) + 0 + 0 ≡ 1
either true = refl
either false = refl

exactly-one : (a b : Answer)
    → one_if (are_same a b) + one_if (are_different a b) + one_if (one_has_messages a b) + one_if (both_have_messages a b) ≡ 1
unfolding are_same are_different one_has_messages both_have_messages
exactly-one (tree k cs) (tree l ds) = either (eq_words (tree_words (node k cs nil)) (tree_words (node l ds nil)))
exactly-one (tree k cs) (messages ms) = refl
exactly-one (messages ms) (tree l ds) = refl
exactly-one (messages ms) (messages ns) = refl

-- How many pass, with one list more.
by-test : (b : Bool) (n : ℕ) → elim b [ true ↦ suc n | false ↦ n ] ≡ one_if b + n
by-test true n = omega arith
by-test false n = omega arith

how-many : (test : List ℕ → Bool) (l : List ℕ) (ls : List (List ℕ)) → how_many test (l ∷ ls) ≡ one_if (test l) + how_many test ls
how-many test l ls = unfold how_many in by-test (test l) (how_many test ls)

-- THE LAST FOUR COUNTS ADD UP TO THE FIRST: every list passes exactly one of the four tests.
pub adds-up : (from to : ℤ) (ls : List (List ℕ))
    → length ls
    ≡ how_many (same_tree from to) ls + how_many (different_trees from to) ls + how_many (message_at_one from to) ls
    + how_many (message_at_both from to) ls
unfolding how_many same_tree different_trees message_at_one message_at_both
adds-up from to [] = refl
adds-up from to (l ∷ ls) =
    omega (
      arith,
      how-many (same_tree from to) l ls,
      how-many (different_trees from to) l ls,
      how-many (message_at_one from to) l ls,
      how-many (message_at_both from to) l ls,
      exactly-one (reading_of l from) (reading_of l to),
      adds-up from to ls,
    )

-- A count rises by one at most, and by one where it has room.
most : (b : Bool) (n : ℕ) → elim b [ true ↦ n + 1 | false ↦ n ] ≤ n + 1
most true n = omega arith
most false n = omega arith

more-most : (n : ℕ) → more n ≤ n + 1
more-most n = unfold more in most (ltb n 18446744073709551615) n

more-if-most : (b : Bool) (n : ℕ) → more_if b n ≤ n + 1
unfolding more_if
more-if-most true n = more-most n
more-if-most false n = omega arith

pub more-is : (n : ℕ) → n + 1 < 2 ^ 64 → more n ≡ n + 1
more-is n room = unfold more in rw (lt-ltb n 18446744073709551615 (omega arith), more)

more-if-is : (b : Bool) (n : ℕ) → n + 1 < 2 ^ 64 → more_if b n ≡ n + one_if b
unfolding more_if
more-if-is true n room = more-is n room
more-if-is false n room = omega arith

one_more : (test : List ℕ → Bool) (l : List ℕ) (ls : List (List ℕ)) (n : ℕ) → n + 1 < 2 ^ 64
    → more_if (test l) n + how_many test ls ≡ n + how_many test (l ∷ ls)
one_more test l ls n room = omega (arith, more-if-is (test l) n room, how-many test l ls)

-- Counts that stay below 2 ^ 64 with so many lists more.
pub record Fits (c : Counts) (n : ℕ) : Type 0 where
  pub read : c.read + n < 2 ^ 64
  pub same : c.same + n < 2 ^ 64
  pub different : c.different + n < 2 ^ 64
  pub one : c.one + n < 2 ^ 64
  pub both : c.both + n < 2 ^ 64

module _ (from to : ℤ) where
  -- Lists counted one after the other.
  unfoldable pub counted_all : List (List ℕ) → Counts → Counts
  counted_all [] c = c
  counted_all (l ∷ ls) c = counted_all ls (counted from to l c)

  -- Counts and, added to them, those over some lists.
  abbrev pub total : Counts → List (List ℕ) → Counts
  total c ls =
      record {
        read = c.read + length ls;
        same = c.same + how_many (same_tree from to) ls;
        different = c.different + how_many (different_trees from to) ls;
        one = c.one + how_many (message_at_one from to) ls;
        both = c.both + how_many (message_at_both from to) ls;
      }

  total-on : (l : List ℕ) (ls : List (List ℕ)) (c : Counts) → Fits c (suc (length ls)) → total (counted from to l c) ls ≡ total c (l ∷ ls)
  unfolding counted
  total-on l ls c fits =
      let read : more c.read + length ls ≡ c.read + suc (length ls) = omega (arith, more-is c.read (omega arith)) in
      rw (
        read,
        one_more (same_tree from to) l ls c.same (omega arith),
        one_more (different_trees from to) l ls c.different (omega arith),
        one_more (message_at_one from to) l ls c.one (omega arith),
        one_more (message_at_both from to) l ls c.both (omega arith),
      )

  still-fits : (l : List ℕ) (n : ℕ) (c : Counts) → Fits c (suc n) → Fits (counted from to l c) n
  unfolding counted
  still-fits l n c fits =
      omega (
        arith,
        more-most c.read,
        more-if-most (same_tree from to l) c.same,
        more-if-most (different_trees from to l) c.different,
        more-if-most (message_at_one from to l) c.one,
        more-if-most (message_at_both from to l) c.both,
      )

  -- COUNTED ONE BY ONE, lists come to the counts over all of them.
  pub counted-all : (ls : List (List ℕ)) (c : Counts) → Fits c (length ls) → counted_all ls c ≡ total c ls
  unfolding counted_all how_many
  counted-all [] c fits = simp add-zero
  counted-all (l ∷ ls) c fits = counted-all ls (counted from to l c) (still-fits l (length ls) c fits) ∙ total-on l ls c fits
