-- `everylist::read::read_rest` meets its contract: the bytes of the chunks are counted, and their words are looked at.
use Rattle.std.proofs.Common.{refl, [], ◌≡◌, ◌+◌, ◌%◌, ◌≤◌, length, take, arith}
use Rattle.std.proofs.lemmas.List.{length-take-le}
use Rattle.listing.specs.Lists.{words_in}
use Rattle.everylist.specs.EveryList.{all_numbers}
use Rattle.everylist.proofs.InputLaws.{rest-on}
use Rattle.everylist.proofs.read.read_rest.Goals as goal

pub loop-init : goal.loop-init
unfolding words_in all_numbers
loop-init g c = (omega arith, refl, record { before = []; bytes = refl; fine = refl; room = omega arith })

pub returns-then-next-space : goal.returns-then-next-space
returns-then-next-space g c =
    let on = c.in-Some.ensures.onward in
    rest-on c.loop.space _ c.loop.rest _ c.in-Some.next.last c.loop.invariant.2 c.loop.invariant.1 on.0 (omega (arith, on.0)) on.1

pub loop-preserved : goal.loop-preserved
loop-preserved g c =
    let on = c.in-Some.ensures.onward in
    let space = c.read_on.new.space in
    let came : length (take c.in-Some.next.last space) ≡ c.in-Some.next.last = length-take-le c.in-Some.next.last space on.0 in
    let bytes : c.in-Some.next.bytes ≡ c.loop.rest.bytes + length (take c.in-Some.next.last space) = on.1.bytes in
    let few : c.in-Some.next.last ≤ length space = on.0 in
    let whole : c.loop.rest.bytes % 4 ≡ 0 = c.loop.invariant.1 in (
      omega arith,
      omega arith,
      rest-on c.loop.space _ c.loop.rest _ c.in-Some.next.last c.loop.invariant.2 c.loop.invariant.1 on.0 (omega (arith, on.0)) on.1,
    )
