-- `write::plain::judge_from` meets its contract: each node that is passed is a `Turn`. Assumes nothing.
use Rattle.std.proofs.Common.{◌-◌, ap, sym, ◌∙◌, refl, arith, get_or}
use Rattle.write.specs.{declared.plain.Seat.TheVariants.{Enclosed}, declared.reader.TreeReader.{TreeReader}}
use Rattle.write.proofs.ReaderLaws.{passes, passes-none}
use Rattle.write.proofs.JudgeLaws.{Turn, few-tokens, judging-begins, bounds, judging-refused, judging-none, judging-one}
use Rattle.write.proofs.JudgeLaws.{judging-room-two, judging-two, judging-ends}
use Rattle.write.proofs.plain.judge_from.Goals as goal
use Rattle.write.proofs.plain.judge_from.Goals.{In-Some}

turn : (c : In-Some) → let l = c.loop-seen in
    Turn c.args.tree.now l.waiting l.top l.tokens l.seen-iterator.at c.in-Some.seen c.next.new.self (get_or l.waiting (l.top - 1) Enclosed)
turn c =
    record {
      one = c.requires.0;
      inv = c.loop-seen.invariant.3;
      passed = passes c.loop-seen.invariant.2 c.in-Some.ensures.steps;
      is_seat = refl;
    }

pub loop-seen-init : goal.loop-seen-init
loop-seen-init c =
    let made = c.into_iter-seen-iterator.ensures.into_iter_gives ∙ c.new-seen-items.ensures in
    (tt, tt, ap (λ (r : TreeReader). r.words.now) made, judging-begins c.requires.0 c.requires.1 (ap (λ (r : TreeReader). r.at) made))

pub overflow_sub-top : goal.overflow_sub-top
overflow_sub-top c = (bounds (turn (goal.at.overflow_sub-top c).In-Some)).0

pub bounds-waiting-top : goal.bounds-waiting-top
bounds-waiting-top c = omega (arith, bounds (turn (goal.at.bounds-waiting-top c).In-Some))

pub returns-then-not-is_plain : goal.returns-then-not-is_plain
returns-then-not-is_plain c =
    rw c.at.ensures
    (judging-refused (turn (goal.at.returns-then-not-is_plain c).In-Some) (sym c.is_plain.ensures ∙ c.if-not-is_plain.true))

pub overflow_add-tokens : goal.overflow_add-tokens
overflow_add-tokens c =
    let t = turn (goal.at.overflow_add-tokens c).In-Some in
    omega (arith, c.tokens_for-tokens.ensures, t.inv.few, bounds t, few-tokens (get_or c.loop-seen.waiting (c.loop-seen.top - 1) Enclosed) c.in-Some.seen.op c.in-Some.seen.children)

pub bounds-waiting-top-in-1 : goal.bounds-waiting-top-in-1
bounds-waiting-top-in-1 c = omega (arith, bounds (turn (goal.at.bounds-waiting-top-in-1 c).In-Some))

pub loop-seen-preserved-in-1 : goal.loop-seen-preserved-in-1
loop-seen-preserved-in-1 c =
    let t = turn (goal.at.loop-seen-preserved-in-1 c).In-Some in
    let plain = sym c.is_plain.ensures ∙ c.if-not-is_plain.false in
    (tt, tt, t.passed.words, rw (c.seat_below.ensures, c.tokens_for-tokens.ensures) (judging-one t plain c.in-1.is))

pub bounds-waiting-top-in-2 : goal.bounds-waiting-top-in-2
bounds-waiting-top-in-2 c = omega (arith, bounds (turn (goal.at.bounds-waiting-top-in-2 c).In-Some))

pub bounds-waiting-top-in-2-2 : goal.bounds-waiting-top-in-2-2
bounds-waiting-top-in-2-2 c = judging-room-two (turn (goal.at.bounds-waiting-top-in-2-2 c).In-Some) c.in-2.is

pub overflow_add-top-in-2 : goal.overflow_add-top-in-2
overflow_add-top-in-2 c = omega (arith, bounds (turn (goal.at.overflow_add-top-in-2 c).In-Some))

pub loop-seen-preserved-in-2 : goal.loop-seen-preserved-in-2
loop-seen-preserved-in-2 c =
    let t = turn (goal.at.loop-seen-preserved-in-2 c).In-Some in
    let plain = sym c.is_plain.ensures ∙ c.if-not-is_plain.false in
    (tt, tt, t.passed.words, rw (c.seat_of_left.ensures, c.seat_of_right.ensures, c.tokens_for-tokens.ensures) (judging-two t plain c.in-2.is))

pub loop-seen-preserved : goal.loop-seen-preserved
loop-seen-preserved c =
    let t = turn (goal.at.loop-seen-preserved c).In-Some in
    let plain = sym c.is_plain.ensures ∙ c.if-not-is_plain.false in
    (tt, tt, t.passed.words, rw c.tokens_for-tokens.ensures (judging-none t plain (λ e. omega arith) (λ e. omega arith)))

pub returns : goal.returns
returns c = judging-ends c.loop-seen.invariant.3 (passes-none c.loop-seen.invariant.2 c.in-None.ensures.steps)
