-- `everylist::read::read_rest`: what came so far is whole words, since every chunk filled the space; 65,536 bytes a turn.
use Rattle.std.proofs.Common.{◌≡◌, ◌*◌, ◌%◌, ◌≤◌}
use Rattle.everylist.specs.Input.{RestRead}
use Rattle.everylist.proofs.read.read_rest.Given as goal

abbrev pub invariant-loop : goal.invariant-loop
invariant-loop g l = (l.rest.bytes ≤ 65536 * l.counter) × (l.rest.bytes % 4 ≡ 0) × RestRead l.space l.rest
