-- `liftlists::close::close` meets its contract: what is laid is what becomes of the list. Assumes nothing.
use Prim.Native.Nat.{◌*◌}
use mathlib.Core.{Path.{ap}}
use native.Mathlib.Omega.{arith}
use lib.{Seq.{length-take-le}}
use Rattle.liftlists.specs.{LiftedFile.{file_list, all_words}}
use Rattle.liftlists.proofs.{CutLaws.{carried-behind}, JudgeLaws.{carried_same, carried-lifted, listed}}
use Rattle.liftlists.proofs.close.close.Goals as goal

pub overflow_mul-end : goal.overflow_mul-end
overflow_mul-end c =
    let came_out = rw c.in-Lifted.is at c.judge-fate.ensures.fate in omega (arith, came_out.1, c.judge-fate.ensures.output_len)

pub shared_ref_as_front-put_list : goal.shared_ref_as_front-put_list
shared_ref_as_front-put_list c = let came_out = rw c.in-Lifted.is at c.judge-fate.ensures.fate in omega (arith, came_out.1)

pub put_list-requires-in-Lifted : goal.put_list-requires-in-Lifted
put_list-requires-in-Lifted c =
    let came_out = rw c.in-Lifted.is at c.judge-fate.ensures.fate in
    omega (arith, came_out.1, length-take-le (5 * c.in-Lifted.tokens) c.judge-fate.new.scratch.output came_out.1, c.judge-fate.ensures.output_len, c.requires.list_len_bound.3)

pub returns-in-Same : goal.returns-in-Same
returns-in-Same c =
    let a = c.args in
    let parts = listed (omega (arith, c.requires.list_len_bound.0))
    (carried_same a.opener a.to a.list.now c.requires.list_len_bound.1 (rw c.in-Same.is at c.judge-fate.ensures.fate))
    c.put_list.ensures in
    record { upper_bound = parts.0; wrote = parts.1 }

pub returns-in-Lifted : goal.returns-in-Lifted
returns-in-Lifted c =
    let came_out = rw c.in-Lifted.is at c.judge-fate.ensures.fate in
    let a = c.args in
    let parts = listed (omega (arith, length-take-le (5 * c.in-Lifted.tokens) c.judge-fate.new.scratch.output came_out.1, came_out.1, c.judge-fate.ensures.output_len))
    (carried-lifted a.opener a.to a.list.now c.requires.list_len_bound.1 _ came_out.0) c.put_list-in-Lifted.ensures in
    record { upper_bound = parts.0; wrote = parts.1 }

pub returns-in-Behind : goal.returns-in-Behind
returns-in-Behind c =
    let a = c.args in
    let parts = listed (omega (arith, c.requires.list_len_bound.0))
    (ap all_words (carried-behind a.to (file_list a.opener a.list.now) (rw c.in-Behind.is at c.judge-fate.ensures.fate)))
    c.put_list-in-Behind.ensures in
    record { upper_bound = parts.0; wrote = parts.1 }
