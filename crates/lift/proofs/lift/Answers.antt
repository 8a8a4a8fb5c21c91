-- `lift::lift` meets its contract: the lengths, then the first reading, whose answer and buffers are handed on. Assumes nothing.
use mathlib.Core.Path.{◌≡◌, sym, ap, ◌∙◌}
use Prim.Native.Nat.{ℕ, ◌/◌, min}
use lib.ListN.{length}
use lib.IntN.{ℤ}
use mathlib.Core.List.{List}
use mir.Syntax.{w16}
use mir.Facts.{to_z-of_z}
use Rattle.accept.specs.Accepting.{Verdict, verdict, length_refusal}
use Rattle.own.{specs.Own.{own_call}, proofs.CallLaws.{same-call}}
use Rattle.std.specs.Prelude.{Result}
use Rattle.words.specs.declared.refusals.Refusal.{Refusal}
use Rattle.std.proofs.lemmas.Result.{err_from_is_err_and}
use Rattle.parse.specs.{Answers.{HasParsed}, declared.Answer.{Answer}}
use Rattle.lift.specs.{Lifting.{LiftCall, room_refusal, first_limit, first_call}, Answers.{engine, lift_call}}
use Rattle.lift.proofs.{CallLaws.{no_room, has_room, has_first}}
use Rattle.lift.proofs.lift.Goals as goal

-- What the lengths say.
found : (c : LiftCall) {v : Verdict} {n : ℕ} → n ≡ min (length c.tree) (length c.again)
    → v
    ≡ verdict (length c.list / 5)
    (length_refusal c.list (record { tree = n; messages = length c.messages; work = length c.work; source = 0 }))
    → v ≡ verdict (length c.list / 5) (room_refusal c)
unfolding room_refusal
found c e h =
    h
    ∙ ap (λ (n : ℕ). verdict (length c.list / 5)
    (length_refusal c.list (record { tree = n; messages = length c.messages; work = length c.work; source = 0 })))
    e

-- What the first reading told and left.
parsed : (c : LiftCall) {limit : ℕ} → limit ≡ first_limit c.from.limit c.to.limit
    → {version : ℤ} → version ≡ c.from.version
    → {first : Result Answer Refusal} {tree messages work : List ℕ}
    → HasParsed (own_call c.list c.tree c.messages c.work version limit) first tree messages work
    → HasParsed (first_call c) first tree messages work
unfolding first_call
parsed c l v h = same-call (λ i. own_call c.list c.tree c.messages c.work (v i) (l i)) h

pub after_first-requires : goal.after_first-requires
after_first-requires c =
    let p =
    parsed (lift_call c.args.list.now c.args.tree.now c.args.again.now c.args.messages.now c.args.work.now c.args.output.now
    (engine c.args.from c.args.limit_from) (engine c.args.to c.args.limit_to))
    c.first_limit-limit.ensures (to_z-of_z {w = w16} c.ranges.from) c.read_own-first.ensures
    in
    record { call = _; says = sym p.told; left = p.tree }

pub returns-in_err-lengths : goal.returns-in_err-lengths
returns-in_err-lengths c =
    let given =
    (lift_call c.args.list.now c.args.tree.now c.args.again.now c.args.messages.now c.args.work.now c.args.output.now
    (engine c.args.from c.args.limit_from) (engine c.args.to c.args.limit_to))
    in
    let p = err_from_is_err_and c.from_residual.result c.from_residual.ensures.1 in
    rw (p.1, p.2) (no_room given _ (found given c.min.ensures c.in_err-lengths.ensures))

pub returns : goal.returns
returns c =
    let given =
    (lift_call c.args.list.now c.args.tree.now c.args.again.now c.args.messages.now c.args.work.now c.args.output.now
    (engine c.args.from c.args.limit_from) (engine c.args.to c.args.limit_to))
    in
    let free = has_room given _ _ (found given c.min.ensures c.in_ok-lengths.ensures) in
    has_first given free
    (parsed given c.first_limit-limit.ensures (to_z-of_z {w = w16} c.ranges.from) c.read_own-first.ensures)
    (to_z-of_z {w = w16} c.ranges.to) c.after_first.ensures
