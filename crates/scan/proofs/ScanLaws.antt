-- The walk's start, and its answer under the table of a version.
use Prim.Native.Nat.{ℕ, ◌%◌}
use native.Mathlib.Omega.{arith}
use mathlib.Core.{Path.{◌≡◌, refl, ap, sym, subst, ◌∙◌}, Bool.{false}, List.{List, [], ◌∷◌}}
use lib.{IntN.{ℤ}, ListN.{length}, Seq.{drop-length}}
use Rattle.molang.specs.Operator
use Rattle.molang.specs.{Operator.{any}, Order.{Rules, rules}, Parse.{in_halves}}
use Rattle.ops.specs.declared.sets.OpSet.{OpSet}
use Rattle.std.specs.Prelude.{Option, None}
use Rattle.scan.specs.declared.stack.State.{State}
use Rattle.scan.specs.{Tables.{table_of, IsLow, HasOpeners}, Views.{View, pushed, Based, bottom}}
use Rattle.scan.specs.{Turns.{want, Walks, stays, start}, States.{stack_of, view_of, Becomes, given, Goes}}
use Rattle.scan.specs.Scanning.{CanSetOut, ScanAnswers, reached, stopped, HasGone, Scans, found, none, HasScanned}
use Rattle.scan.proofs.TableLaws.{low-table, openers-table}

-- The state before the first word is pushed.
abbrev pub first : List ℕ → List ℕ → State
first list W = record { left = length list; depth = 0; top = 0; out = length W }

module _ (list W : List ℕ) (can : CanSetOut list W) {W' : List ℕ} {s : State} (b : Becomes W W' s (pushed 229376 (view_of W
    (first list W)))) where
  starts : view_of W' s ≡ start (length list)
  unfolding start pushed view_of stack_of
  starts = b.same ∙ ap (λ (R : List ℕ). record { left = length list; stack = 229376 ∷ []; records = R }) (drop-length W)

  pub scan-goes : (table : List ℕ) (used : OpSet) → Goes list table used want W' s
  unfolding view_of start
  scan-goes table used =
      let n = ap (λ (v : View). v.left) starts in
      let w = can.whole in
      record {
        can = record {
          sound = b.sound;
          based = subst Based (sym (ap (λ (v : View). v.stack) starts)) (bottom refl);
          place = record { place = ap (λ (n : ℕ). n % 5) n ∙ w; within = omega (arith, n) };
        };
        walks = subst (λ (v : View). Walks (given list table used) (want (start (length list))) (want v)) (sym starts) stays;
      }

-- The table of some version has low grades, and its openers are brackets.
pub low-of : (r : Rules) (table : List ℕ) → table ≡ table_of r → IsLow table
low-of r table e = subst IsLow (sym e) (low-table r)

pub openers-of : (r : Rules) (table : List ℕ) → table ≡ table_of r → HasOpeners table
openers-of r table e = subst HasOpeners (sym e) (openers-table r)

answered : (list : List ℕ) (used : OpSet) (version : ℤ) {W : List ℕ} {r : Option ℕ}
    → any (in_halves used.low used.high) (Operator.assignment ∷ Operator.semicolon ∷ []) ≡ false
    → ScanAnswers list (table_of (rules version)) used W r → Scans list used version W r
answered list used version n (reached e) = found e n
answered list used version n stopped = none

pub has-scanned : (list table : List ℕ) (used : OpSet) (version : ℤ) (W : List ℕ) {W₁ W' : List ℕ} {r : Option ℕ}
    → table ≡ table_of (rules version)
    → any (in_halves used.low used.high) (Operator.assignment ∷ Operator.semicolon ∷ []) ≡ false → length W₁ ≡ length W
    → HasGone list table used W₁ W' r → HasScanned list used version W W' r
has-scanned list table used version W {W'} {r} e n l h =
    record { scans = answered list used version n (subst (λ (t : List ℕ). ScanAnswers list t used W' r) e h.answers); long = h.long ∙ l }

pub gives_up : (list : List ℕ) (used : OpSet) (version : ℤ) (W : List ℕ) → HasScanned list used version W W None
gives_up list used version W = record { scans = none; long = refl }
