-- `treelist::count_rest`: what came so far, of at most 65,536 bytes a turn.
use Rattle.std.proofs.Common.{◌*◌, ◌≤◌}
use Rattle.treelist.specs.Input.{RestRead}
use Rattle.treelist.proofs.count_rest.Given as goal

abbrev pub invariant-loop : goal.invariant-loop
invariant-loop g l = (l.rest.bytes ≤ 65536 * l.counter) × RestRead l.space l.rest.last l.rest.bytes
