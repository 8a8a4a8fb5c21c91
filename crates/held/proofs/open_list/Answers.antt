-- `held::open_list` meets its contract: a slice that is too short, or a list that is kept if the entry accepts it. Assumes nothing.
use Prim.Native.Nat.{ℕ, ◌/◌}
use mathlib.Core.{Path.{◌≡◌, ap, ◌∙◌}, List.{List}}
use native.Mathlib.Omega.{arith}
use mir.{Syntax.{w16}, Facts.{to_z-of_z}}
use lib.{IntN.{ℤ}, ListN.{length}}
use Rattle.std.proofs.lemmas.Result.{err_from_is_err_and}
use Rattle.words.proofs.RecordLaws.{laid-front}
use Rattle.held.specs.{declared.Held.{Held}, Held.{lent_call, opened}, Answers.{lent}}
use Rattle.held.proofs.CallLaws.{open-short, open-turned, open-room, has-opened}
use Rattle.held.proofs.open_list.Goals as goal

pub returns-then-words-lt-HELD_WORDS : goal.returns-then-words-lt-HELD_WORDS
returns-then-words-lt-HELD_WORDS c =
    let a = c.args in
    rw c.at.ensures
    (open-short a.words.now a.list.now (lent a.tree.now a.messages.now a.work.now a.limit) a.version c.if-words-lt-HELD_WORDS.true)

pub returns-in_err-answer : goal.returns-in_err-answer
unfolding lent_call
returns-in_err-answer c =
    let a = c.args in
    let p = err_from_is_err_and c.from_residual.result c.from_residual.ensures.1 in
    rw (p.1, p.2)
    (open-turned a.words.now a.list.now (lent a.tree.now a.messages.now a.work.now a.limit) a.version c.if-words-lt-HELD_WORDS.false
    (rw (to_z-of_z {w = w16} c.ranges.version) at c.in_err-answer.ensures))

-- The held numbers.
held-is : (words list : List ℕ) (version : ℤ) {v : ℤ} → v ≡ version
    → ◌≡◌ {A = Held} (record { tokens = length list / 5; version = v; edits = 0 }) (opened words list version).held
unfolding opened
held-is words list version same = ap (λ (v : ℤ). record { tokens = length list / 5; version = v; edits = 0 }) same

pub returns : goal.returns
unfolding lent_call
returns c =
    let a = c.args in
    let version = to_z-of_z {w = w16} c.ranges.version in
    has-opened a.words.now a.list.now (lent a.tree.now a.messages.now a.work.now a.limit) a.version c.if-words-lt-HELD_WORDS.false
    (rw version at c.in_ok-answer.ensures) (held-is a.words.now a.list.now a.version version)
    (c.copy_words.ensures ∙ laid-front _ _)

pub copy_words-requires : goal.copy_words-requires
unfolding lent_call
copy_words-requires c =
    let a = c.args in
    let room = open-room a.words.now a.list.now (lent a.tree.now a.messages.now a.work.now a.limit) a.version c.if-words-lt-HELD_WORDS.false
    (rw (to_z-of_z {w = w16} c.ranges.version) at c.in_ok-answer.ensures)
    in
    omega (arith, room)
