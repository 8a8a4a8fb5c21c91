-- `liftlists::read_on` meets its contract: the whole words of what came are fed.
use Rattle.std.proofs.Common.{arith, ◌*◌, ◌/◌, ◌≤◌, length, length-take-le}
use Rattle.liftlists.proofs.read_on.Goals as goal

pub feed-step-requires : goal.feed-step-requires
feed-step-requires g c =
    let p = c.requires in
    let last = c.came_of-last.result in
    let few : last ≤ length c.fill-filled.new.buffer = omega (arith, c.came_of-last.ensures, c.fill-filled.ensures.prefix_len.0) in
    record {
      list_len = (p.list_len.1, p.list_len.2, omega (arith, few, length-take-le (last / 4 * 4) c.fill-filled.new.buffer (omega (arith, few))));
      fine = p.fine;
    }

pub returns-clause-turned : goal.returns-clause-turned
returns-clause-turned g c =
    record {
      fed_to = c.feed-step.ensures;
      whole = omega (arith, c.came_of-last.ensures);
      most = omega (arith, c.came_of-last.ensures);
      room = c.fill-filled.ensures.prefix_len.0;
    }
