-- `sections::members` meets its contract.
use Rattle.sections.specs.Flat.{CanJoin}
use Rattle.sections.proofs.MemberLaws.{Joining}
use Rattle.sections.proofs.members.Given as goal

abbrev pub invariant-loop-read : goal.invariant-loop-read
invariant-loop-read l =
    (g : CanJoin l.initial.work l.base l.n) → Joining l.initial.work l.base l.n g l.work l.read l.write
