-- `lift::entry::lift_entry` meets its contract: by the output's length, and then by what the lift comes to. Assumes nothing.
use native.Mathlib.Omega.{arith}
use Prim.Native.Nat.{ℕ}
use mathlib.Core.{Path.{◌≡◌}, List.{List}}
use lib.IntN.{ℤ}
use mir.Syntax.{w16}
use mir.Facts.{to_z-of_z}
use Rattle.std.specs.Prelude.{Result}
use Rattle.words.specs.declared.refusals.Refusal.{Refusal}
use Rattle.lift.specs.{declared.Outcome.{Outcome}, Answers.{engine, lift_call, HasLifted}}
use Rattle.lift.proofs.{EntryLaws.{can-tell, short-entered, long-entered}}
use Rattle.lift.proofs.entry.lift_entry.Goals as goal

-- What the lift promises.
lifts : {list tree again messages work output : List ℕ} {from to from' to' : ℤ} {limit_from limit_to : ℕ} {r : Result Outcome Refusal}
    {tree' again' messages' work' output' : List ℕ}
    → from' ≡ from
    → to' ≡ to
    → HasLifted (lift_call list tree again messages work output (engine from' limit_from) (engine to' limit_to)) r tree' again' messages' work'
    output'
    → HasLifted (lift_call list tree again messages work output (engine from limit_from) (engine to limit_to)) r tree' again' messages' work'
    output'
lifts f t h = rw t at (rw f at h)

pub tell-requires : goal.tell-requires
tell-requires c =
    can-tell
    (lift_call c.args.list.now c.args.tree.now c.args.again.now c.args.messages.now c.args.work.now c.args.output.now
    (engine c.args.from c.args.limit_from) (engine c.args.to c.args.limit_to))
    (lifts (to_z-of_z {w = w16} c.ranges.from) (to_z-of_z {w = w16} c.ranges.to) c.lift-outcome.ensures) _ c.min.ensures

pub returns-then-output-lt-OUTPUT_WORDS : goal.returns-then-output-lt-OUTPUT_WORDS
returns-then-output-lt-OUTPUT_WORDS c =
    short-entered
    (lift_call c.args.list.now c.args.tree.now c.args.again.now c.args.messages.now c.args.work.now c.args.output.now
    (engine c.args.from c.args.limit_from) (engine c.args.to c.args.limit_to))
    c.if-output-lt-OUTPUT_WORDS.true c.min.ensures c.short.ensures

pub returns : goal.returns
returns c =
    long-entered
    (lift_call c.args.list.now c.args.tree.now c.args.again.now c.args.messages.now c.args.work.now c.args.output.now
    (engine c.args.from c.args.limit_from) (engine c.args.to c.args.limit_to))
    (omega (arith, c.if-output-lt-OUTPUT_WORDS.false))
    (lifts (to_z-of_z {w = w16} c.ranges.from) (to_z-of_z {w = w16} c.ranges.to) c.lift-outcome.ensures) c.min.ensures c.tell.ensures
