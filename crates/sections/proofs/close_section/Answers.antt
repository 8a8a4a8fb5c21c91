-- `sections::close_section` meets its contract.
use Prim.Native.Nat.{ℕ, ◌+◌, ◌-◌, ◌≤◌, ◌<◌}
use mathlib.Core.{Path.{◌≡◌, refl, ap, ◌∙◌}, Option.{get_or}}
use native.Mathlib.Omega.{arith}
use lib.ListN.{length}
use Rattle.molang.specs.Operator.{closing_of}
use Rattle.nodes.{specs.Store.{wd, slot_end}, specs.Slots.{op_at}, specs.Children.{CanGive}, proofs.Store.{tree-below}}
use Rattle.sections.proofs.{SectionOpen.{standing-named}, SectionLooking.{close-in, close-differs, close-closed, look_in}}
use Rattle.sections.proofs.close_section.Goals as goal
use Rattle.sections.proofs.close_section.Lts as lts
use Rattle.sections.proofs.close_section.Tie as tie
use Rattle.sections.proofs.close_section.Reads as reads

-- the innermost opener is written, its slot is in the store, and what is written after it can be given to it
body : (c : (lts.After-opener_at tie.the-claims reads.Pre reads.Post tie.handed_clauses))
    → let a = c.args in
    let p = c.opener_at-innermost.result in
    let W = a.work.now in
    (p < a.at.write) × (slot_end (wd W (a.base + p)) ≤ a.base)
    × CanGive W (wd W (a.base + p)) (a.base + (p + 1)) (a.at.write - (p + 1))
body c =
    let g = c.requires.0 in
    close-in g.standing c.requires.1 c.opener_at-innermost.result c.opener_at-innermost.ensures
    (omega (arith, g.below, g.tree.low, tree-below g.tree)) (omega (arith, g.apart, g.room))

within : (c : (lts.After-opener_at tie.the-claims reads.Pre reads.Post tie.handed_clauses))
    → let a = c.args in
    a.base + c.opener_at-innermost.result < length a.work.now
within c = let g = c.requires.0 in omega (arith, (body c).0, g.apart, g.room)

-- the closer that is looked for
looked-for : (c : (lts.After-closer_of tie.the-claims reads.Pre reads.Post tie.handed_clauses)) → let a = c.args in
    c.closer_of.result ≡ get_or (closing_of (op_at a.work.now (wd a.work.now (a.base + c.opener_at-innermost.result)))) 0
looked-for c = c.closer_of.ensures ∙ ap (λ (n : ℕ). get_or (closing_of n) 0) c.operator_of.ensures

pub operator_of-requires-2 : goal.operator_of-requires-2
operator_of-requires-2 c =
    let g = c.requires.0 in
    omega (arith, look_in g, g.apart, g.room)

pub still_open-named-requires : goal.still_open-named-requires
still_open-named-requires c =
    let g = c.requires.0 in
    standing-named g.standing c.requires.1 (omega (arith, g.apart, g.room)) (omega (arith, g.room))

pub returns-then-closer_of-operator_of : goal.returns-then-closer_of-operator_of
returns-then-closer_of-operator_of c =
    record {
      closed = record {
        answer = λ g.
            close-differs g.standing c.requires.1 g.tree c.opener_at-innermost.result _ _ c.args.at.index
            c.still_open-named.result c.opener_at-innermost.ensures (looked-for c.before.before.before.before) c.operator_of-2.ensures
            c.if-closer_of-operator_of.true c.still_open-named.ensures;
        same = λ g j f. refl;
        long = refl;
      };
      result_value = refl;
    }

-- where the opener was found, from where its closer is known to match
abbrev found : (lts.Else1 tie.the-claims reads.Pre reads.Post tie.handed_clauses) → (lts.After-opener_at tie.the-claims reads.Pre reads.Post tie.handed_clauses)
found c = c.before.before.before.before.before

-- the opener's slot lies within the words that have its children
opener-in : (c : (lts.After-give_children tie.the-claims reads.Pre reads.Post tie.handed_clauses)) → let o = found c.before.before.before in let a = o.args in
    slot_end (wd a.work.now (a.base + o.opener_at-innermost.result)) ≤ length c.give_children.new.work
opener-in c = let o = found c.before.before.before in omega (arith, (body o).1, within o, c.give_children.ensures.long)

pub set_close-requires : goal.set_close-requires
set_close-requires c =
    let g = (found c.before.before.before.before.before.before).requires.0 in
    (opener-in c.before.before.before, omega (arith, look_in g, g.apart, g.room, c.give_children.ensures.long))

pub returns : goal.returns
returns c =
    let set = c.set_close in
    let o = found c.before.before.before.before.before.before.before.before.before.before in
    record {
      closed = close-closed c.requires.1 o.opener_at-innermost.result _ _ c.args.at.index c.give_children.new.work set.new.work
          o.opener_at-innermost.ensures (looked-for c.before.before.before.before.before.before.before.before.before.before.before.before) c.operator_of-2.ensures c.if-closer_of-operator_of.false
          c.give_children.ensures set.ensures (opener-in c.before.before.before.before.before.before.before);
      result_value = refl;
    }

pub overflow_add-opener : goal.overflow_add-opener
overflow_add-opener c =
    omega (arith, within c)

pub offset_bounds-work-base : goal.offset_bounds-work-base
offset_bounds-work-base c =
    omega (arith, within c)

pub bounds-work-base : goal.bounds-work-base
bounds-work-base c =
    within c.before.before

pub operator_of-requires : goal.operator_of-requires
operator_of-requires c =
    omega (arith, (body c.before).1, within c.before)

pub overflow_add-from : goal.overflow_add-from
overflow_add-from c =
    omega (arith, within (found c))

pub overflow_add-base : goal.overflow_add-base
overflow_add-base c =
    omega (arith, within (found c.before))

pub overflow_sub-at : goal.overflow_sub-at
overflow_sub-at c =
    omega (arith, (body (found c.before.before)).0)

pub give_children-requires : goal.give_children-requires
give_children-requires c =
    (body (found c.before.before)).2
