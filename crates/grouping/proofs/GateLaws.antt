-- A pass leaves a list as it is where none of its tokens stands in it, and slot 0 notes whether one does: such a pass need not run.
use Prim.Native.Nat.{ℕ, ◌≤◌}
use mathlib.Core.{Path.{◌≡◌, refl, sym, ◌∙◌, subst}, Bool.{true, false}, List.{List}}
use native.Mathlib.Omega.{arith}
use lib.ListN.{length}
use borrow.Author.Tests.{not-false}
use Rattle.molang.specs.{Forest.{Forest}, Message.{ok}, Calls.{query_or_loop, math}, Free.{free, operators_of, works_on}}
use Rattle.molang.specs.Work.{Kind, calls, statements, arrays, unary_minus_and_not, conditional, returns, binary, pass_of, pass}
use Rattle.molang.proofs.NoMasks.{no-masks}
use Rattle.molang.specs.Order
use Rattle.ops.specs.Classes.{shares}
use Rattle.nodes.{specs.Store.{slot_end, classes_at}, proofs.Classes.{notes-meet}}
use Rattle.levels.{specs.Passes.{classes_of, operators}, specs.declared.turns.Pass.{Pass}, proofs.PassClasses.{runs-covers}}
use Rattle.std.specs.Prelude.{Option, Some, Result, Ok}
use Rattle.levels.specs.declared.failure.Failure.{Failure}
use Rattle.grouping.specs.{Driver.{CanRun, done, HasRun}, Choice.{CanChoose, Chosen}}

-- 'No masks' for the passes that go through nested lists.
pub pass-free : (κ : Kind) (f : Forest) → free (operators κ) f ≡ true → pass κ f ≡ ok f
unfolding pass pass_of operators operators_of works_on
pass-free (calls query_or_loop) f h = no-masks 0 Order.call_pass f refl h
pass-free (calls math) f h = no-masks 0 Order.math_calls f refl h
pass-free statements f h = no-masks 0 Order.statements f refl h
pass-free arrays f h = no-masks 0 Order.arrays f refl h
pass-free unary_minus_and_not f h = no-masks 0 Order.unary_minus_and_not f refl h
pass-free conditional f h = no-masks 0 Order.conditional f refl h
pass-free returns f h = no-masks 0 Order.returns f refl h
pass-free (binary ops) f h = no-masks 0 (Order.binary ops) f refl h

-- ---- the gate

-- slot 0 notes no class of the pass
pub gate-shut : {W : List ℕ} {base n : ℕ} {p : Pass} → CanRun W base n p → shares (classes_at W 0) (classes_of p) ≡ false
    → HasRun W base n p (Ok n) W
gate-shut {W} {p = p} h shut =
    record {
      to = λ g.
          let v = g.list.owned in
          done (pass-free g.κ g.F (not-false (free (operators g.κ) g.F)
          (sym (notes-meet (classes_of p) (operators g.κ) (runs-covers g.κ p g.runs) v.notes) ∙ shut)))
          g.list;
      beyond = λ g. record { kept = λ j x y. refl; long = refl };
    }

-- ---- by what was chosen

pub chosen-can-run : {W : List ℕ} {base n : ℕ} (c : Option Pass) (p : Pass) → c ≡ Some p → CanChoose W base n c → CanRun W base n p
chosen-can-run {W} {base} {n} c p e h = subst (λ (x : Option Pass). CanChoose W base n x) e h

pub chosen-run : {W W' : List ℕ} {base n : ℕ} {r : Result ℕ Failure} (c : Option Pass) (p : Pass) → c ≡ Some p → HasRun W base n p r W'
    → Chosen W base n c r W'
chosen-run {W} {W'} {base} {n} {r} c p e h = subst (λ (x : Option Pass). Chosen W base n x r W') (sym e) h

-- slot 0 is within the words
pub root-within : {W : List ℕ} {base n : ℕ} {p : Pass} → CanRun W base n p → slot_end 0 ≤ length W
root-within g = let own = g.own in let below = g.below in let room = g.room in omega arith
