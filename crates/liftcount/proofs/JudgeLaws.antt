-- What a list comes to at both versions: the trees in two buffers; the checks before the reading.
-- Assumes nothing.
use Prim.Native.Nat.{ℕ, ◌*◌, ◌/◌, ◌%◌, ◌≤◌, ◌<◌}
use mathlib.Core.{Path.{◌≡◌, refl, ap}, List.{List}, Option.{Option, none, some}}
use native.Mathlib.Omega.{arith}
use lib.{Dec.{eqb}, IntN.{ℤ}, ListN.{length, take, drop}, Seq.{take_at}}
use borrow.Author.Tests.{eq-eqb, ne_eqb, eqb-true, eqb-false, le-leb, lt-leb}
use Rattle.molang.specs.{FirstFailure.{must, first_of}, Forest.{Forest, nil, node, size}}
use Rattle.molang.specs.{Words.{Refusal, row, operator_field, words_refusal, tokens_of, tree_words}, Read.{Answer, tree, messages}}
use Rattle.molang.specs.{Parse.{Told, a_tree, some_messages, refused, told, in_front, tree_in}, Lift.{eq_words}}
use Rattle.parse.specs.Answers.{told_of}
use Rattle.words.specs.Refusals.{refusal_row}
use Rattle.words.specs.declared.refusals.Refusal as code
use Rattle.molang.proofs.{Booleans.{either}, Bounds.{Bounded, few_nodes, few_messages, read-bounded, tree_words-length}}
use Rattle.molang.proofs.{FirstFailure.{last_one}, ListWords.{tokens-count}}
use Rattle.derived.specs.Derived.{named, highest}
use Rattle.own.{specs.Own.{reading_of}, proofs.BesideLaws.{counts-differ}}
use Rattle.std.specs.Prelude.{Ok, Err}
use Rattle.liftcount.specs.{declared.judge.Verdict.TheVariants.{Different}, Running.{open_fault}}
use Rattle.liftcount.specs.Judging.{trees_by, verdict_on, judged, Holds, trees_told, verdict_told}

-- TWO TREES in front of their buffers.
tree-front : (f : Forest) (n : ℕ) (buffer : List ℕ) → n ≡ size f → take (7 * n) (in_front (tree_words f) buffer) ≡ tree_words f
unfolding in_front
tree-front f n buffer e =
    take_at (tree_words f) (drop (length (tree_words f)) buffer) (7 * n) (omega (arith, tree_words-length f, e))

trees-told : (f g : Forest) (b d : List ℕ)
    → trees_told (size f) (size g) (in_front (tree_words f) b) (in_front (tree_words g) d) ≡ trees_by (eq_words (tree_words f) (tree_words g))
unfolding trees_told
trees-told f g b d =
    either (eqb (size f) (size g)) (λ e.
    rw (e, trees_told) (rw (tree-front f (size f) b refl, tree-front g (size f) d (eqb-true (size f) (size g) e)) refl)) (λ e.
    rw (e, trees_told)
    (rw (counts-differ (tree_words f) (tree_words g)
    (λ l. eqb-false (size f) (size g) e (omega (arith, l, tree_words-length f, tree_words-length g)))) refl))

-- The same by the code's tests.
module _ (n m : ℕ) (first second : List ℕ) where
  pub trees-other : (n ≡ m → ⊥) → Different ≡ trees_told n m first second
  trees-other h = unfold trees_told in rw (ne_eqb n m h, trees_told) refl

  pub trees-by : n ≡ m → trees_by (eq_words (take (7 * n) first) (take (7 * n) second)) ≡ trees_told n m first second
  trees-by h = unfold trees_told in rw (eq-eqb n m h, trees_told) refl

-- What is told of two readings, and the trees in their buffers, are the verdict.
pub verdict-told : (fault : Option Refusal) (first second : Answer) (b d : List ℕ)
    → verdict_told (told fault first) (told fault second) (tree_in fault first b) (tree_in fault second d) ≡ judged fault first second
unfolding told tree_in judged verdict_on
verdict-told (some r) first second b d = refl
verdict-told none (tree k cs) (tree l ds) b d = ap Ok (trees-told (node k cs nil) (node l ds nil) b d)
verdict-told none (tree k cs) (messages ms) b d = refl
verdict-told none (messages ms) (tree l ds) b d = refl
verdict-told none (messages ms) (messages ns) b d = refl

-- What is told of a refusal, and of nothing else.
refused_as : Told → Refusal
refused_as (a_tree n) = row 0 0
refused_as (some_messages n) = row 0 0
refused_as (refused number place) = row number place

is_refused : Told → ℕ
is_refused (a_tree n) = 0
is_refused (some_messages n) = 0
is_refused (refused number place) = 1

-- A reading that is turned back is so for a fault of the words, which turns back the list.
pub turned-back : (r : code.Refusal) (fault : Option Refusal) (answer first second : Answer) → told_of (Err r) ≡ told fault answer
    → Err (refusal_row r) ≡ judged fault first second
unfolding told judged is_refused refused_as
turned-back r (some q) answer first second e = ap (λ (t : Told). Err (refused_as t)) e
turned-back r none (tree k cs) first second e = let z : ◌≡◌ {A = ℕ} 1 0 = ap is_refused e in absurd (omega (arith, z))
turned-back r none (messages ms) first second e = let z : ◌≡◌ {A = ℕ} 1 0 = ap is_refused e in absurd (omega (arith, z))

-- A tree of at most three nodes to a token has room in its buffer.
bounded-holds : {n : ℕ} {answer : Answer} (fault : Option Refusal) → Bounded n answer → (buffer : List ℕ) → 7 * n ≤ length buffer
    → Holds (told fault answer) buffer
unfolding told
bounded-holds (some r) bound buffer h = tt
bounded-holds none (few_nodes k) buffer h = omega arith
bounded-holds none (few_messages k l) buffer h = tt

pub holds : (fault : Option Refusal) (list : List ℕ) (version : ℤ) (buffer : List ℕ) → 21 * (length list / 5) ≤ length buffer
    → Holds (told fault (reading_of list version)) buffer
unfolding reading_of
holds fault list version buffer h =
    bounded-holds fault (read-bounded (tokens_of list) (named operator_field list) version (highest operator_field 0 list)) buffer
    (omega (arith, tokens-count list))

-- THE CHECKS before the reading.
module _ (words : ℕ) (list : List ℕ) where
  pub not-whole : (words % 5 ≡ 0 → ⊥) → (first second : Answer) → Err (row 1 0) ≡ judged (open_fault words list) first second
  not-whole h first second = unfold open_fault must first_of judged in rw (ne_eqb (words % 5) 0 h) refl

  pub too_many : words % 5 ≡ 0 → 640 < words → (first second : Answer) → Err (row 2 0) ≡ judged (open_fault words list) first second
  too_many whole h first second = unfold open_fault must first_of judged in rw (eq-eqb (words % 5) 0 whole, lt-leb words 640 h) refl

  pub open-fault : words % 5 ≡ 0 → words ≤ 640 → open_fault words list ≡ words_refusal 0 operator_field 0 (take words list)
  unfolding open_fault must first_of
  open-fault whole h =
      rw (eq-eqb (words % 5) 0 whole, le-leb words 640 h) (last_one (words_refusal 0 operator_field 0 (take words list)))
