-- `write::spell::write_leaf` meets its contract: its span is taken in, and its token and a bracket's closer are all that is written of it.
-- Assumes nothing.
use Rattle.std.proofs.Common.{◌∙◌, arith}
use Rattle.shape.specs.Shaped.{first_five}
use Rattle.write.proofs.StepLaws.{Puts, node-long, none-token, none-closer, none-spans, none-writes}
use Rattle.write.proofs.spell.write_leaf.Goals as goal

pub put_token-requires : goal.put_token-requires
put_token-requires c =
    (omega (arith, node-long c.requires.0), rw c.widen.ensures.to_after (none-token c.requires.0 c.requires.1))

pub put_closer-requires : goal.put_closer-requires
put_closer-requires c =
    let put = c.put_token in
    let puts : Puts (first_five c.args.words.now) c.args.list.now c.args.pen.now.to put.new.list put.new.self.to =
    (rw c.widen.ensures.to_after at put.ensures.list_after, rw c.widen.ensures.to_after at put.ensures.to_after) in
    (node-long c.requires.0, none-closer c.requires.0 c.requires.1 put.new.list put.new.self.to puts)

pub returns : goal.returns
returns c =
    let put = c.put_token in
    let puts : Puts (first_five c.args.words.now) c.args.list.now c.args.pen.now.to put.new.list put.new.self.to =
    (rw c.widen.ensures.to_after at put.ensures.list_after, rw c.widen.ensures.to_after at put.ensures.to_after) in
    let closes = c.put_closer in
    let writes =
    none-writes c.requires.0 c.requires.1 put.new.list put.new.self.to puts closes.new.list closes.new.self.to
    (closes.ensures.list_after, closes.ensures.to_after)
    in
    let taken = closes.ensures.seen_after ∙ (put.ensures.seen_after ∙ c.widen.ensures.seen_after) in
    record {
      result_value = writes.0;
      list_after = writes.1.0;
      to_after = writes.1.1;
      seen_after = none-spans c.requires.0 c.args.pen.now.seen closes.new.self.seen taken c.requires.1;
    }
