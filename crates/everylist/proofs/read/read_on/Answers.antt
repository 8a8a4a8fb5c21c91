-- `everylist::read::read_on` meets its contract: the chunk that came is counted, and its words are looked at.
use Rattle.std.proofs.Common.{ℕ, ◌≡◌, ◌≤◌, ◌∙◌, sym, subst, length, take, arith}
use Rattle.std.proofs.lemmas.List.{length-take-le}
use Rattle.std.specs.Io.KnownBytes.{Consumes}
use Rattle.everylist.specs.Input.{Onward}
use Rattle.everylist.proofs.read.read_on.Goals as goal

pub and-requires : goal.and-requires
and-requires g c =
    let few = c.in-Ok.ensures.prefix_len.0 in
    omega (arith, few, length-take-le c.in-Ok.last c.fill.new.buffer few)

pub returns-clause-onward : goal.returns-clause-onward
returns-clause-onward g c =
    let space = c.fill.new.buffer in
    let few = c.in-Ok.ensures.prefix_len.0 in
    let long : c.and.result.last ≡ c.in-Ok.last = c.and.ensures.last ∙ length-take-le c.in-Ok.last space few in
    subst (λ (n : ℕ). (n ≤ length space) × Onward c.args.rest (take n space) c.and.result) (sym long) (few, c.and.ensures)

pub returns-clause-taken : goal.returns-clause-taken
returns-clause-taken g c =
    let space = c.fill.new.buffer in
    let few = c.in-Ok.ensures.prefix_len.0 in
    let long : c.and.result.last ≡ c.in-Ok.last = c.and.ensures.last ∙ length-take-le c.in-Ok.last space few in
    subst (λ (n : ℕ). Consumes (g.R.Read.remaining c.args.input.now) (g.R.Read.remaining c.fill.new.input) (take n space)) (sym long)
    c.in-Ok.ensures.taken
