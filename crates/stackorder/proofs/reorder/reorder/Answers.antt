-- `stackorder::reorder::reorder` meets its contract. The loop's invariant: what is out and what is to come are the whole tree in the other
-- order. The measure is the way that is left, to read and to write. Assumes nothing.
use mathlib.Core.Path.{◌≡◌, refl, ap, ◌∙◌}
use lib.ListN.{length}
use Rattle.stackorder.specs.{declared.reorder.Direction.{Direction}, Reorder.{CanReorder, other_way, first_end}}
use Rattle.stackorder.proofs.ReorderLaws.{last_within, begins, can, again, less, ends}
use Rattle.stackorder.proofs.reorder.reorder.Goals as goal
use Rattle.stackorder.proofs.reorder.reorder.Lts as lts
use Rattle.stackorder.proofs.reorder.reorder.Tie as tie
use Rattle.stackorder.proofs.reorder.reorder.Reads as reads

-- Where the first node of the walk ends, and where the last one does.
starts : (c : (lts.After-first2 tie.the-claims reads.Pre reads.Post goal.the-invariant-loop-cursor goal.the-decreases-loop-cursor)) →
    let a = c.args in
    c.first-start.result ≡ first_end a.direction (length a.words.now)
starts c = c.first-start.ensures

lasts : (c : (lts.After-first2 tie.the-claims reads.Pre reads.Post goal.the-invariant-loop-cursor goal.the-decreases-loop-cursor)) →
    let a = c.args in
    c.first-last.result ≡ first_end (other_way a.direction) (length a.words.now)
lasts c =
    let a = c.args in
    c.first-last.ensures ∙ ap (λ (d : Direction). first_end d (length a.words.now)) c.turned.ensures

pub turn-cursor-requires : goal.turn-cursor-requires
turn-cursor-requires c =
    let g = c.requires in
    can g (starts c.before.before.before.before.before.before) (lasts c.before.before.before.before.before.before) c.next-past.ensures (c.loop-cursor.invariant g) c.loop-cursor-test.true

pub loop-cursor-smaller : goal.loop-cursor-smaller
loop-cursor-smaller c =
    let g = c.requires in
    less g (starts c.before.before.before.before.before.before.before.before.before) (lasts c.before.before.before.before.before.before.before.before.before) c.next-past.ensures (c.loop-cursor.invariant g)
    c.loop-cursor-test.true c.turn-cursor.ensures

pub loop-cursor-preserved : goal.loop-cursor-preserved
loop-cursor-preserved c =
    λ g. again g (starts c.before.before.before.before.before.before.before.before.before) (lasts c.before.before.before.before.before.before.before.before.before) c.next-past.ensures (c.loop-cursor.invariant g)
    c.loop-cursor-test.true c.turn-cursor.ensures

pub shape_of-output : goal.shape_of-output
shape_of-output c = (c.loop-cursor.invariant c.requires).at.same-long

pub returns : goal.returns
returns c =
    let room = c.requires.room in
    λ t.
    let g : CanReorder c.args.direction c.args.words.now c.args.output.now = record { one = t; room = room } in
    ends g (starts c.before.before.before.before.before) (lasts c.before.before.before.before.before) c.next-past.ensures (c.loop-cursor.invariant g) c.loop-cursor-test.false

pub next-past-requires : goal.next-past-requires
next-past-requires c =
    last_within c.requires (starts c.before) (lasts c.before) refl

pub loop-cursor-init : goal.loop-cursor-init
loop-cursor-init c =
    λ g. begins g (starts c.before.before) (lasts c.before.before) c.next-past.ensures
