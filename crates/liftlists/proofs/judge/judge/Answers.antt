-- `liftlists::judge::judge` meets its contract: it has room for the list, and the fate is what the lift tells. Assumes nothing.
use Prim.Native.Nat.{◌+◌, ◌*◌, ◌/◌}
use mathlib.Core.{Path.{refl, ap, ◌∙◌}}
use native.Mathlib.Omega.{arith}
use lib.{IntN.{ℤ}, ListN.{length}, Seq.{length-take-le}}
use mir.{Syntax.{w16}, Facts.{to_z-of_z}}
use Rattle.lift.specs.Answers.{engine}
use Rattle.liftlists.proofs.{CutLaws.{not-whole}, JudgeLaws.{judged}}
use Rattle.liftlists.proofs.judge.judge.Goals as goal

pub overflow_mul-room : goal.overflow_mul-room
overflow_mul-room c = omega (arith, c.requires.list_len_bound)

pub overflow_add-room : goal.overflow_add-room
overflow_add-room c = omega (arith, c.requires.list_len_bound)

pub returns-clause-fate : goal.returns-clause-fate
returns-clause-fate c =
    let a = c.args in
    rw c.fate_of.ensures
    (judged c.lift-outcome.ensures
    (record {
      whole = c.if-list-ne0.false;
      few = c.requires.list_len_bound.0;
      first_tree = omega arith;
      second_tree = omega arith;
      two_records = refl;
      work_words = length-take-le (64 * (length a.list.now / 5) + 64) a.scratch.now.work (omega (arith, c.requires.list_len_bound.0));
      output_words = omega arith;
    })
    (omega arith) a.from a.to (ap (λ (v : ℤ). engine v 4096) (to_z-of_z {w = w16} {z = c.version_of.result} (record { sfits = c.version_of.type_inv }) ∙ c.version_of.ensures))
    (ap (λ (v : ℤ). engine v 4096)
    (to_z-of_z {w = w16} {z = c.version_of-2.result} (record { sfits = c.version_of-2.type_inv }) ∙ c.version_of-2.ensures)))

pub returns-then-list-ne0-clause-fate : goal.returns-then-list-ne0-clause-fate
returns-then-list-ne0-clause-fate c =
    not-whole _ _ _ c.if-list-ne0.true
