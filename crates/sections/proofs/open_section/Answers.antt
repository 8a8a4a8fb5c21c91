-- `sections::open_section` meets its contract.
use native.Mathlib.Omega.{arith}
use lib.ListN.{length-set}
use Rattle.sections.proofs.open_section.Goals as goal

pub bounds-work-marks : goal.bounds-work-marks
bounds-work-marks c =
    simp length-set (omega arith)

pub bounds-work-marks-2 : goal.bounds-work-marks-2
bounds-work-marks-2 c =
    simp length-set (omega arith)
