-- The reading by ranks, as a loop over them folds it: at each rank nothing is chosen and nothing happens, or the state that was chosen is
-- of a pass whose result decides how the reading goes on. Assumes nothing.
use mathlib.Core.{Path.{◌≡◌, refl, sym, ap, ◌∙◌}, Bool.{Bool, true, false, ◌&&◌, ◌||◌}, List.{List, [], ◌∷◌, ◌++◌}}
use Prim.Native.Nat.{ℕ, zero, suc, ◌+◌}
use native.Mathlib.{Numerals.{add-one}, Omega.{arith}}
use lib.{Dec.{eqb}, ListN.{drop, length}}
use borrow.Author.Tests.{ne_eqb}
use Rattle.molang.specs.Operator
use Rattle.molang.specs.{Forest.{Forest, nil}, Message.{Message, multiple_roots, Result, ok, fail}, Calls.{query_or_loop, math}}
use Rattle.molang.specs.Order.{Rules, Pass, comparisons, logic, conditionals, order, runs, apply}
use Rattle.molang.specs.{Read.{Answer, messages, ends_reading, grouped, rooted}, Work.{Kind, pass_of, pass}}
use Rattle.molang.proofs.{Trees.{both as both_true}, Passes.{is_nested, all_nested, grouped-nil}}
use Rattle.molang.specs.Work as kinds
use Rattle.levels.specs.{Passes.{Runs}, declared.turns.Pass.{Pass as State}}
use Rattle.levels.specs.Passes as levels
use Rattle.std.specs.Prelude.{None, Some}
use Rattle.order.specs.Ranks.{later, Starts, call, unsplit_pass, array, math_call, unary, conditional_pass, return_pass, point, plus}
use Rattle.order.specs.Ranks.{level, Chosen, over, unused, used}

-- ---- A pass that runs, and one that does not

module _ (n : ℕ) (u : ℕ → Bool) (p : Pass) where
  -- What follows a pass that runs, before the passes qs.
  abbrev pub failed : List Pass → List Message → List Message → Bool → Answer
  failed qs so_far m true = messages (so_far ++ m)
  failed qs so_far m false = grouped n u qs (so_far ++ m) nil

  abbrev pub next : List Pass → List Message → Result → Answer
  next qs so_far (ok g) = grouped n u qs so_far g
  next qs so_far (fail m) = failed qs so_far m (ends_reading p)

  pub run-first : runs u p ≡ true → (qs : List Pass) (so_far : List Message) (f : Forest)
      → grouped n u (p ∷ qs) so_far f ≡ next qs so_far (apply n p f)
  unfolding grouped
  run-first e qs so_far f = rw (e, grouped) (go (apply n p f))
    where
      ended : (m : List Message) (b : Bool)
          → ◌≡◌ {A = Answer} (elim b [ true ↦ messages (so_far ++ m) | false ↦ grouped n u qs (so_far ++ m) nil ]) (failed qs so_far m b)
      ended m true = refl
      ended m false = refl

      go : (x : Result)
          → ◌≡◌ {A = Answer}
          (elim x [
            | ok g ↦ grouped n u qs so_far g
            | fail m ↦ elim (ends_reading p) [ true ↦ messages (so_far ++ m) | false ↦ grouped n u qs (so_far ++ m) nil ]
          ])
          (next qs so_far x)
      go (ok g) = refl
      go (fail m) = ended m (ends_reading p)

  pub skip_first : runs u p ≡ false → (qs : List Pass) (so_far : List Message) (f : Forest)
      → grouped n u (p ∷ qs) so_far f ≡ grouped n u qs so_far f
  skip_first e qs so_far f = unfold grouped in rw (e, grouped)

-- ---- The passes from a rank on

abbrev tail : List Pass → List Pass
tail [] = []
tail (p ∷ ps) = ps

no-first : {p : Pass} {ps : List Pass} → ◌≡◌ {A = List Pass} [] (p ∷ ps) → ⊥
no-first h = let z : ◌≡◌ {A = ℕ} 0 1 = cc in omega arith

drop-next : (ps : List Pass) (k : ℕ) → drop (suc k) ps ≡ tail (drop k ps)
drop-next [] zero = refl
drop-next [] (suc k) = refl
drop-next (p ∷ ps) zero = refl
drop-next (p ∷ ps) (suc k) = drop-next ps k

-- At each rank but 3 a failure ends the reading; every pass goes through nested lists.
abbrev ends-but : ℕ → List Pass → Bool
ends-but k [] = true
ends-but k (p ∷ ps) = (eqb k 3 || ends_reading p) && ends-but (suc k) ps

abbrev right : List Pass → Bool
right ps = ends-but 0 ps && all_nested ps

later-right : (r : Rules) → right (later r) ≡ true
unfolding order comparisons logic conditionals ends_reading is_nested all_nested
later-right r = go r.comparisons_first r.and_first r.pairs_right
  where
    go : (a b c : Bool) → right (later (record { comparisons_first = a; and_first = b; pairs_right = c })) ≡ true
    go true true true = refl
    go true true false = refl
    go true false true = refl
    go true false false = refl
    go false true true = refl
    go false true false = refl
    go false false true = refl
    go false false false = refl

later-ends : (r : Rules) → ends-but 0 (later r) ≡ true
later-ends r = (both_true (ends-but 0 (later r)) _ (later-right r)).0

later-nested : (r : Rules) → all_nested (later r) ≡ true
later-nested r = (both_true (ends-but 0 (later r)) _ (later-right r)).1

drop-all : (ps : List Pass) → drop (length ps) ps ≡ []
drop-all [] = refl
drop-all (p ∷ ps) = drop-all ps

nested-from : (ps : List Pass) → all_nested ps ≡ true → (k : ℕ) → all_nested (drop k ps) ≡ true
unfolding all_nested
nested-from ps e zero = e
nested-from [] e (suc k) = refl
nested-from (p ∷ ps) e (suc k) = nested-from ps (both_true (is_nested p) (all_nested ps) e).1 k

-- The pass at a rank j other than 3, where the ranks are counted from i on.
ends_at : (ps : List Pass) (i k j : ℕ) → i + k ≡ j → ends-but i ps ≡ true → (j ≡ 3 → ⊥) → (p : Pass) (qs : List Pass) → drop k ps ≡ p ∷ qs
    → ends_reading p ≡ true
ends_at [] i zero j z e other p qs h = absurd (no-first h)
ends_at [] i (suc k) j z e other p qs h = absurd (no-first h)
ends_at (q ∷ ps) i zero j z e other p qs h =
    let here : (eqb i 3 || ends_reading q) ≡ true = (both_true (eqb i 3 || ends_reading q) (ends-but (suc i) ps) e).0 in
    let same : q ≡ p = cc in
    sym (ap ends_reading same) ∙ (rw (ne_eqb i 3 (λ t. other (omega arith))) at here)
ends_at (q ∷ ps) i (suc k) j z e other p qs h =
    ends_at ps (suc i) k j (omega arith) (both_true (eqb i 3 || ends_reading q) (ends-but (suc i) ps) e).1 other p qs h

-- Rank 3 is the pointer's.
abbrev head-ends : List Pass → Bool
head-ends [] = true
head-ends (p ∷ ps) = ends_reading p

pointer-rank : (r : Rules) (k : ℕ) → k ≡ 3 → (p : Pass) (qs : List Pass) → drop k (later r) ≡ p ∷ qs → ends_reading p ≡ false
pointer-rank r k at p qs h = unfold order ends_reading in sym (ap head-ends (ap (λ (j : ℕ). drop j (later r)) (sym at) ∙ h))

-- ---- The kinds

-- A state of a level's pass that does what the definition's pass does.
pub record OfKind (p : Pass) (state : State) : Type 0 where
  pub kind : Kind
  pub runs-kind : Runs kind state
  pub does : (source_length : ℕ) (f : Forest) → apply source_length p f ≡ pass kind f

pub of-kind : {p : Pass} {state : State} → Starts p state → OfKind p state
unfolding apply pass pass_of
of-kind call = record { kind = kinds.calls query_or_loop; runs-kind = levels.call; does = λ n f. refl }
of-kind unsplit_pass = record { kind = kinds.statements; runs-kind = levels.unsplit_pass; does = λ n f. refl }
of-kind array = record { kind = kinds.arrays; runs-kind = levels.array; does = λ n f. refl }
of-kind math_call = record { kind = kinds.calls math; runs-kind = levels.math_call; does = λ n f. refl }
of-kind unary = record { kind = kinds.unary_minus_and_not; runs-kind = levels.unary; does = λ n f. refl }
of-kind conditional_pass = record { kind = kinds.conditional; runs-kind = levels.conditional_pass; does = λ n f. refl }
of-kind return_pass = record { kind = kinds.returns; runs-kind = levels.return_pass; does = λ n f. refl }
of-kind (point covers) = record { kind = kinds.binary (Operator.pointer ∷ []); runs-kind = levels.level covers; does = λ n f. refl }
of-kind (plus covers) = record { kind = kinds.binary (Operator.add ∷ []); runs-kind = levels.level covers; does = λ n f. refl }
of-kind (level {ops = ops} covers) = record { kind = kinds.binary ops; runs-kind = levels.level covers; does = λ n f. refl }

-- ---- The reading

-- After the last rank: the roots.
pub grouped-last : (n : ℕ) (u : ℕ → Bool) (r : Rules) (so_far : List Message) (f : Forest)
    → grouped n u (drop (length (later r)) (later r)) so_far f ≡ rooted n so_far f
grouped-last n u r so_far f = unfold grouped in ap (λ (l : List Pass). grouped n u l so_far f) (drop-all (later r))

module _ (n : ℕ) (u : ℕ → Bool) (r : Rules) (k : ℕ) (so_far : List Message) (f : Forest) where
  -- The reading from rank j on.
  abbrev from : ℕ → List Message → Forest → Answer
  from j before g = grouped n u (drop j (later r)) before g

  from_next : drop (k + 1) (later r) ≡ tail (drop k (later r))
  from_next = ap (λ (j : ℕ). drop j (later r)) (add-one k) ∙ drop-next (later r) k

  skipped : (qs : List Pass) → Chosen u qs None → grouped n u qs so_far f ≡ grouped n u (tail qs) so_far f
  skipped qs over = refl
  skipped qs (unused {p = p} {ps = ps} e) = skip_first n u p e ps so_far f

  pub grouped-skip : Chosen u (drop k (later r)) None → from k so_far f ≡ from (k + 1) so_far f
  grouped-skip c = skipped (drop k (later r)) c ∙ ap (λ (l : List Pass). grouped n u l so_far f) (sym from_next)

  -- What the state that was chosen at rank k makes of the reading. Rank 3 is the pointer's, whose failure leaves an empty list.
  pub record RankRuns (state : State) : Type 0 where
    pub kind : Kind
    pub starts : (p : Pass) × Starts p state
    pub runs-kind : Runs kind state
    pub goes_on : (g : Forest) → pass kind f ≡ ok g → from k so_far f ≡ from (k + 1) so_far g
    pub ends : (m : List Message) → (k ≡ 3 → ⊥) → pass kind f ≡ fail m → from k so_far f ≡ messages (so_far ++ m)
    pub pointer-ends : (m : List Message) → k ≡ 3 → pass kind f ≡ fail m
        → from k so_far f ≡ messages ((so_far ++ m) ++ (multiple_roots 0 n 0 ∷ []))

  module _ (p : Pass) (ps : List Pass) (at : drop k (later r) ≡ p ∷ ps) (t : runs u p ≡ true) where
    opened : (x : Result) → apply n p f ≡ x → from k so_far f ≡ next n u p (drop (k + 1) (later r)) so_far x
    opened x e =
        ap (λ (l : List Pass). grouped n u l so_far f) at
        ∙ (run-first n u p t ps so_far f
        ∙ (ap (next n u p ps so_far) e ∙ ap (λ (l : List Pass). next n u p l so_far x) (sym (from_next ∙ ap tail at))))

    rank-kind : (state : State) → Starts p state → OfKind p state → RankRuns state
    rank-kind state s of =
        record {
          kind = of.kind;
          starts = (p, s);
          runs-kind = of.runs-kind;
          goes_on = λ g e. opened (ok g) (of.does n f ∙ e);
          ends = λ m other e.
              opened (fail m) (of.does n f ∙ e)
              ∙ ap (failed n u p (drop (k + 1) (later r)) so_far m) (ends_at (later r) 0 k k (omega arith) (later-ends r) other p ps at);
          pointer-ends = λ m here e.
              opened (fail m) (of.does n f ∙ e)
              ∙ (ap (failed n u p (drop (k + 1) (later r)) so_far m) (pointer-rank r k here p ps at)
              ∙ grouped-nil n u (drop (k + 1) (later r)) (so_far ++ m) (nested-from (later r) (later-nested r) (k + 1)));
        }

  run : (state : State) (qs : List Pass) → drop k (later r) ≡ qs → Chosen u qs (Some state) → RankRuns state
  run state qs at (used {p = p} {ps = ps} t s) = rank-kind p ps at t state s (of-kind s)

  pub rank-runs : (state : State) → Chosen u (drop k (later r)) (Some state) → RankRuns state
  rank-runs state c = run state (drop k (later r)) refl c
