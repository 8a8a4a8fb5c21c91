-- Writing a node and writing an operand meet their contracts. Each answer is one of StepLaws or SpineLaws, handed what the calls on the way
-- gave. Assumes nothing.
use Rattle.std.proofs.Common.{ℕ, ◌≡◌, ◌+◌, ◌-◌, ◌*◌, ◌<◌, List, length, drop, get_or, refl, ap, sym, ◌∙◌, arith}
use lib.Seq.{length-take-le}
use Rattle.molang.specs.Words.{low_of}
use Rattle.words.specs.{Records.{laid_at}, Tokens.{node_length}, declared.extent.Extent.{Extent}}
use Rattle.shape.specs.Shaped.{count_index, first_five}
use Rattle.write.specs.{Seats.{right_seat}, Spelling.{Room, node_tokens, node_written}, Spine.{the_root}}
use Rattle.write.proofs.StepLaws.{leaf-unpaired, Puts, Writes, tail, tail-part, nodes_left, operand-long, alone-room, alone-writes, inner_room, close-room}
use Rattle.write.proofs.StepLaws.{pair-spans, pair-writes}
use Rattle.write.proofs.SpineLaws.{Climbing, Turn, room-opens, leaf-within, leaf-place, leaf_room, climbing-begins}
use Rattle.write.proofs.SpineLaws.{up-longer, up-front, own-long, count-here, operator-in, pair-asked}
use Rattle.write.proofs.SpineLaws.{token-room, closer-room, climbed-one, between-room, next-within, right-fewer, right-room}
use Rattle.write.proofs.SpineLaws.{climbed-two, climbed-within, climbed-writes, climbed-spans}
use Rattle.write.proofs.spell.+write_node_write_operand.Goals as goal

-- A turn of the loop.
turn : {W L list : List ℕ} {from node place next to : ℕ} {seen : Extent} → Room node_tokens W L from
    → Climbing W L from node place next list to seen
    → 0 < node
    → Turn W L from node place next list to seen
turn r climbed below = record { opens = room-opens r the_root; fits = r.room; climbed = climbed; below = below }

-- The count of a node's children, as it is read of the part of the words that the node opens.
one-child : (n : ℕ) (W : List ℕ) {k : ℕ} → k ≡ low_of (get_or (tail n W) count_index 0) → (k ≡ 2 → ⊥)
    → low_of (get_or (drop n W) count_index 0) ≡ 2
    → ⊥
one-child n W here other e = other (here ∙ (count-here n W ∙ e))

two-children : (n : ℕ) (W : List ℕ) {k : ℕ} → k ≡ low_of (get_or (tail n W) count_index 0) → k ≡ 2
    → low_of (get_or (drop n W) count_index 0) ≡ 2
two-children n W here two = sym (count-here n W) ∙ (sym here ∙ two)

-- The token of a node, put from the part of the words that the node opens.
token-puts : (n : ℕ) (W L : List ℕ) (to : ℕ) {L1 : List ℕ} {to1 : ℕ} → L1 ≡ laid_at to (first_five (tail n W)) L
    → to1 ≡ to + length (first_five (tail n W))
    → Puts (first_five (drop n W)) L to L1 to1
token-puts n W L to laid on = (rw (tail-part n W) at laid, rw (tail-part n W) at on)

pub write_node-overflow_add-place : goal.write_node-overflow_add-place
write_node-overflow_add-place t c =
    omega (arith, c.well_formed, leaf-place c.requires c.descend-end.ensures.0)

pub write_node-slice_bounds-write_leaf-count : goal.write_node-slice_bounds-write_leaf-count
write_node-slice_bounds-write_leaf-count t c =
    omega (arith, leaf-within c.requires c.descend-end.ensures.0)

pub write_node-slice_bounds-write_leaf-start : goal.write_node-slice_bounds-write_leaf-start
write_node-slice_bounds-write_leaf-start t c =
    omega (arith, leaf-within c.requires c.descend-end.ensures.0)

pub write_node-write_leaf-requires : goal.write_node-write_leaf-requires
write_node-write_leaf-requires t c =
    rw c.new-row.ensures.to (leaf_room c.requires c.descend-end.ensures.0 c.descend-end.ensures.1)

pub write_node-loop-node-init : goal.write_node-loop-node-init
write_node-loop-node-init t c =
    let leaf = c.write_leaf in
    let row = c.new-row.ensures in
    climbing-begins c.requires c.descend-end.ensures.0 leaf.result.now leaf.new.list leaf.new.pen.to leaf.new.pen.seen
    (leaf.ensures.result_value, (rw row.to at leaf.ensures.list_after, rw row.to at leaf.ensures.to_after)) (rw row.seen at leaf.ensures.seen_after)

pub write_node-rise-place-requires-clause-node_length_in_bounds : goal.write_node-rise-place-requires-clause-node_length_in_bounds
write_node-rise-place-requires-clause-node_length_in_bounds t c =
    let v = turn c.requires c.loop-node.invariant c.loop-node-test.true in
    (up-longer v, up-front v)

pub write_node-rise-place-requires-clause-le_place : goal.write_node-rise-place-requires-clause-le_place
write_node-rise-place-requires-clause-le_place t c =
    pair-asked (turn c.requires c.loop-node.invariant c.loop-node-test.true)

pub write_node-offset_bounds-words-node-in-loop-node : goal.write_node-offset_bounds-words-node-in-loop-node
write_node-offset_bounds-words-node-in-loop-node t c =
    omega (arith, c.well_formed, up-longer (turn c.requires c.loop-node.invariant c.loop-node-test.true))

pub write_node-slice_bounds-own-count : goal.write_node-slice_bounds-own-count
write_node-slice_bounds-own-count t c =
    omega (arith, up-longer (turn c.requires c.loop-node.invariant c.loop-node-test.true))

pub write_node-slice_bounds-own-start : goal.write_node-slice_bounds-own-start
write_node-slice_bounds-own-start t c =
    omega (arith, up-longer (turn c.requires c.loop-node.invariant c.loop-node-test.true))

pub write_node-bounds-own-5 : goal.write_node-bounds-own-5
write_node-bounds-own-5 t c =
    omega (arith, own-long (turn c.requires c.loop-node.invariant c.loop-node-test.true))

pub write_node-put_round-requires-clause-node_length_in_bounds : goal.write_node-put_round-requires-clause-node_length_in_bounds
write_node-put_round-requires-clause-node_length_in_bounds t c =
    let v = turn c.requires c.loop-node.invariant c.loop-node-test.true in
    let up = c.rise-place.ensures in
    let one = one-child (c.loop-node.node - node_length) c.args.words.now c.low.ensures c.if-low-ne2.true in
    (own-long v, rw up.value (token-room v up.list_after up.to_after one))

pub write_node-put_round-requires-clause-words_in_bounds : goal.write_node-put_round-requires-clause-words_in_bounds
write_node-put_round-requires-clause-words_in_bounds t c =
    let v = turn c.requires c.loop-node.invariant c.loop-node-test.true in
    let up = c.rise-place.ensures in
    let one = one-child (c.loop-node.node - node_length) c.args.words.now c.low.ensures c.if-low-ne2.true in
    rw (tail-part (c.loop-node.node - node_length) c.args.words.now) (closer-room v up.list_after up.to_after one)

pub write_node-loop-node-preserved-then-low-ne2 : goal.write_node-loop-node-preserved-then-low-ne2
write_node-loop-node-preserved-then-low-ne2 t c =
    let v = turn c.requires c.loop-node.invariant c.loop-node-test.true in
    let up = c.rise-place.ensures in
    let round = c.put_round.ensures in
    let one = one-child (c.loop-node.node - node_length) c.args.words.now c.low.ensures c.if-low-ne2.true in
    rw up.value
    (climbed-one v up.list_after up.to_after one (
      rw (tail-part (c.loop-node.node - node_length) c.args.words.now, up.value) at round.list_after,
      rw (tail-part (c.loop-node.node - node_length) c.args.words.now) at round.to_after,
    )
    (round.seen_after ∙ up.seen_after))

pub write_node-put_token-requires : goal.write_node-put_token-requires
write_node-put_token-requires t c =
    let v = turn c.requires c.loop-node.invariant c.loop-node-test.true in
    let up = c.rise-place.ensures in
    let two = two-children (c.loop-node.node - node_length) c.args.words.now c.low.ensures c.if-low-ne2.false in
    (omega (arith, own-long v), between-room v up.list_after up.to_after two)

pub write_node-offset_bounds-words-next : goal.write_node-offset_bounds-words-next
write_node-offset_bounds-words-next t c =
    let v = turn c.requires c.loop-node.invariant c.loop-node-test.true in
    let up = c.rise-place.ensures in
    let two = two-children (c.loop-node.node - node_length) c.args.words.now c.low.ensures c.if-low-ne2.false in
    omega (arith, c.well_formed, next-within v up.list_after up.to_after two)

pub write_node-slice_bounds-below-count : goal.write_node-slice_bounds-below-count
write_node-slice_bounds-below-count t c =
    let v = turn c.requires c.loop-node.invariant c.loop-node-test.true in
    let up = c.rise-place.ensures in
    let two = two-children (c.loop-node.node - node_length) c.args.words.now c.low.ensures c.if-low-ne2.false in
    next-within v up.list_after up.to_after two

pub write_node-slice_bounds-below-start : goal.write_node-slice_bounds-below-start
write_node-slice_bounds-below-start t c =
    let v = turn c.requires c.loop-node.invariant c.loop-node-test.true in
    let up = c.rise-place.ensures in
    let two = two-children (c.loop-node.node - node_length) c.args.words.now c.low.ensures c.if-low-ne2.false in
    next-within v up.list_after up.to_after two

pub write_node-bounds-below-5 : goal.write_node-bounds-below-5
write_node-bounds-below-5 t c =
    let v = turn c.requires c.loop-node.invariant c.loop-node-test.true in
    let up = c.rise-place.ensures in
    let two = two-children (c.loop-node.node - node_length) c.args.words.now c.low.ensures c.if-low-ne2.false in
    let put = token-puts (c.loop-node.node - node_length) c.args.words.now c.rise-place.new.list c.rise-place.new.pen.to c.put_token.ensures.list_after c.put_token.ensures.to_after in
    omega (arith, operand-long _ (right-room v up.list_after up.to_after two put refl))

pub write_node-write_leaf-requires-then-low-eq0 : goal.write_node-write_leaf-requires-then-low-eq0
write_node-write_leaf-requires-then-low-eq0 t c =
    let v = turn c.requires c.loop-node.invariant c.loop-node-test.true in
    let up = c.rise-place.ensures in
    let two = two-children (c.loop-node.node - node_length) c.args.words.now c.low.ensures c.if-low-ne2.false in
    let put = token-puts (c.loop-node.node - node_length) c.args.words.now c.rise-place.new.list c.rise-place.new.pen.to c.put_token.ensures.list_after c.put_token.ensures.to_after in
    let none = sym c.low-in-loop-node.ensures ∙ c.if-low-eq0.true in
    (alone-room _ (right-room v up.list_after up.to_after two put refl) (leaf-unpaired _ _ _ none), none)

pub write_node-loop-node-preserved-then-low-eq0 : goal.write_node-loop-node-preserved-then-low-eq0
write_node-loop-node-preserved-then-low-eq0 t c =
    let v = turn c.requires c.loop-node.invariant c.loop-node-test.true in
    let up = c.rise-place.ensures in
    let two = two-children (c.loop-node.node - node_length) c.args.words.now c.low.ensures c.if-low-ne2.false in
    let put = token-puts (c.loop-node.node - node_length) c.args.words.now c.rise-place.new.list c.rise-place.new.pen.to c.put_token.ensures.list_after c.put_token.ensures.to_after in
    let none = sym c.low-in-loop-node.ensures ∙ c.if-low-eq0.true in
    let right = c.write_leaf-then-low-eq0 in
    let writes =
    alone-writes _ (right-room v up.list_after up.to_after two put refl) (leaf-unpaired _ _ _ none) right.result.now right.new.list right.new.pen.to
    (right.ensures.result_value, (right.ensures.list_after, right.ensures.to_after))
    in
    rw up.value
    (climbed-two v up.list_after up.to_after two put refl writes (c.put_token.ensures.seen_after ∙ up.seen_after) right.ensures.seen_after)

pub write_node-bounds-own-0 : goal.write_node-bounds-own-0
write_node-bounds-own-0 t c =
    omega (arith, own-long (turn c.requires c.loop-node.invariant c.loop-node-test.true))

pub write_node-write_operand-requires : goal.write_node-write_operand-requires
write_node-write_operand-requires t c =
    let v = turn c.requires c.loop-node.invariant c.loop-node-test.true in
    let up = c.rise-place.ensures in
    let two = two-children (c.loop-node.node - node_length) c.args.words.now c.low.ensures c.if-low-ne2.false in
    let put = token-puts (c.loop-node.node - node_length) c.args.words.now c.rise-place.new.list c.rise-place.new.pen.to c.put_token.ensures.list_after c.put_token.ensures.to_after in
    let seat = c.seat_of_right-seat.ensures ∙ ap right_seat (c.operator.ensures ∙ operator-in (c.loop-node.node - node_length) c.args.words.now) in
    (omega (arith, c.decreases, right-fewer v up.list_after up.to_after two), right-room v up.list_after up.to_after two put seat)

pub write_node-loop-node-preserved : goal.write_node-loop-node-preserved
write_node-loop-node-preserved t c =
    let v = turn c.requires c.loop-node.invariant c.loop-node-test.true in
    let up = c.rise-place.ensures in
    let two = two-children (c.loop-node.node - node_length) c.args.words.now c.low.ensures c.if-low-ne2.false in
    let put = token-puts (c.loop-node.node - node_length) c.args.words.now c.rise-place.new.list c.rise-place.new.pen.to c.put_token.ensures.list_after c.put_token.ensures.to_after in
    let seat = c.seat_of_right-seat.ensures ∙ ap right_seat (c.operator.ensures ∙ operator-in (c.loop-node.node - node_length) c.args.words.now) in
    let right = c.write_operand.ensures in
    rw up.value
    (climbed-two v up.list_after up.to_after two put seat (right.result_value, (right.list_after, right.to_after))
    (c.put_token.ensures.seen_after ∙ up.seen_after) right.seen_after)

pub write_node-slice_bounds-result-end : goal.write_node-slice_bounds-result-end
write_node-slice_bounds-result-end t c =
    sym (length-take-le c.loop-node.next c.args.words.now (climbed-within c.requires c.loop-node.invariant c.loop-node-test.false))

pub write_node-returns : goal.write_node-returns
write_node-returns t c =
    let writes = climbed-writes c.requires c.loop-node.invariant c.loop-node-test.false in
    record {
      result_value = writes.0;
      list_after = writes.1.0;
      to_after = writes.1.1;
      seen_after = climbed-spans c.requires c.loop-node.invariant c.loop-node-test.false c.args.pen.now.seen _ c.widened-pen.ensures;
    }

pub write_operand-write_leaf-requires : goal.write_operand-write_leaf-requires
write_operand-write_leaf-requires t c =
    let none = sym c.low-children.ensures ∙ c.if-children-eq0.true in
    (alone-room c.args.seat c.requires (leaf-unpaired c.args.seat _ _ none), none)

pub write_operand-returns-then-children-eq0 : goal.write_operand-returns-then-children-eq0
write_operand-returns-then-children-eq0 t c =
    let leaf = c.write_leaf in
    let none = sym c.low-children.ensures ∙ c.if-children-eq0.true in
    let writes =
    alone-writes c.args.seat c.requires (leaf-unpaired c.args.seat _ _ none) leaf.result.now leaf.new.list leaf.new.pen.to
    (leaf.ensures.result_value, (leaf.ensures.list_after, leaf.ensures.to_after))
    in
    record { result_value = writes.0; list_after = writes.1.0; to_after = writes.1.1; seen_after = leaf.ensures.seen_after }

pub write_operand-write_node-requires : goal.write_operand-write_node-requires
write_operand-write_node-requires t c =
    let less : 2 * nodes_left c.args.words.now < t = omega (arith, c.decreases) in
    let alone = rw (c.operator.ensures, c.low-children.ensures) at (sym c.is_paired.ensures ∙ c.if-not-is_paired.true) in
    (less, alone-room c.args.seat c.requires alone)

pub write_operand-returns-then-not-is_paired : goal.write_operand-returns-then-not-is_paired
write_operand-returns-then-not-is_paired t c =
    let node = c.write_node in
    let alone = rw (c.operator.ensures, c.low-children.ensures) at (sym c.is_paired.ensures ∙ c.if-not-is_paired.true) in
    let writes =
    alone-writes c.args.seat c.requires alone node.result.now node.new.list node.new.pen.to
    (node.ensures.result_value, (node.ensures.list_after, node.ensures.to_after))
    in
    record { result_value = writes.0; list_after = writes.1.0; to_after = writes.1.1; seen_after = node.ensures.seen_after }

pub write_operand-write_node-operand-requires : goal.write_operand-write_node-operand-requires
write_operand-write_node-operand-requires t c =
    let less : 2 * nodes_left c.args.words.now < t = omega (arith, c.decreases) in
    let paired = rw (c.operator.ensures, c.low-children.ensures) at (sym c.is_paired.ensures ∙ c.if-not-is_paired.false) in
    (less, rw c.new.ensures.to (inner_room c.args.seat c.requires paired))

pub write_operand-put_pair-requires : goal.write_operand-put_pair-requires
write_operand-put_pair-requires t c =
    let inner = c.write_node-operand in
    let paired = rw (c.operator.ensures, c.low-children.ensures) at (sym c.is_paired.ensures ∙ c.if-not-is_paired.false) in
    close-room c.args.seat c.requires paired inner.result.now inner.new.list inner.new.pen.to
    (inner.ensures.result_value, (rw c.new.ensures.to at inner.ensures.list_after, rw c.new.ensures.to at inner.ensures.to_after))

pub write_operand-returns : goal.write_operand-returns
write_operand-returns t c =
    let inner = c.write_node-operand in
    let pair = c.put_pair in
    let paired = rw (c.operator.ensures, c.low-children.ensures) at (sym c.is_paired.ensures ∙ c.if-not-is_paired.false) in
    let wrote : Writes (node_written c.args.words.now) c.args.words.now c.args.list.now (c.args.pen.now.to + 5) inner.result.now inner.new.list inner.new.pen.to =
    (inner.ensures.result_value, (rw c.new.ensures.to at inner.ensures.list_after, rw c.new.ensures.to at inner.ensures.to_after)) in
    let spans = rw c.new.ensures.seen at inner.ensures.seen_after in
    let writes =
    pair-writes c.args.seat c.requires paired inner.result.now inner.new.list inner.new.pen.to wrote inner.new.pen.seen spans
    pair.new.list pair.new.self.to pair.ensures.list_after pair.ensures.to_after
    in
    record {
      result_value = writes.0;
      list_after = writes.1.0;
      to_after = writes.1.1;
      seen_after =
          pair-spans c.args.seat c.requires paired inner.result.now inner.new.list inner.new.pen.to wrote inner.new.pen.seen spans
          c.args.pen.now.seen _ (rw pair.ensures.seen_after at c.widened-pen.ensures);
    }
