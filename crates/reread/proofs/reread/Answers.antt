-- `reread::reread` meets its contract: what the first call told and left is handed on, and so the three calls are made. Assumes nothing.
use mathlib.Core.Path.{◌≡◌, refl, sym, ap, ◌∙◌}
use lib.IntN.{ℤ}
use mir.{Syntax.{w16}, Facts.{to_z-of_z}}
use Rattle.std.specs.Prelude.{Ok, Err}
use Rattle.std.proofs.lemmas.Result.{err_from_is_err_and}
use Rattle.parse.specs.Answers.{told_of, call}
use Rattle.reread.specs.{declared.TurnedBack.TheVariants.{First}, Answers.{left_of, handed_of, rereading}}
use Rattle.own.proofs.CallLaws.{same-call}
use Rattle.reread.proofs.CallLaws.{has-reread, parsed-as, turned-first, first-messages, ok-before, err-before}
use Rattle.reread.proofs.reread.Goals as goal

-- What the first call told and left is by the first call of the definition.

pub write_and_read-requires : goal.write_and_read-requires
write_and_read-requires c =
    let a = c.args in
    let p = same-call
    (ap (λ (z : ℤ). call a.list.now a.tree.now a.messages.now a.work.now a.source_length z a.used_low a.used_high a.limit)
    (to_z-of_z {w = w16} c.ranges.version)) c.parse-first.ensures in
    let w = ok-before _ _ _ c.map_err.ensures.cases c.in_ok-records.was ∙ ap (λ x. Ok x) c.in-Tree.is in
    record {
      first = call a.list.now a.tree.now a.messages.now a.work.now a.source_length a.version a.used_low a.used_high a.limit;
      says = sym p.told ∙ ap told_of w;
      left = p.tree;
    }

pub returns-in_err-records : goal.returns-in_err-records
returns-in_err-records c =
    let a = c.args in
    let p = same-call
    (ap (λ (z : ℤ). call a.list.now a.tree.now a.messages.now a.work.now a.source_length z a.used_low a.used_high a.limit)
    (to_z-of_z {w = w16} c.ranges.version)) c.parse-first.ensures in
    let k = rereading (call a.list.now a.tree.now a.messages.now a.work.now a.source_length a.version a.used_low a.used_high a.limit)
    a.written.now a.again.now a.source_length_again a.version_again a.limit_again in
    let r = err_from_is_err_and c.from_residual.result c.from_residual.ensures.1 in
    let e = err-before _ _ _ c.map_err.ensures.cases c.in_err-records.was in
    let first = c.parse-first.new in
    let named : c.in_err-records.field-0.0 ≡ First e.0 = e.2 in
    rw (r.1, r.2)
    (has-reread k (parsed-as e.1 p) refl
    (ap (λ x. left_of (Err x) first.tree a.written.now a.again.now first.messages first.work) named
    ∙ turned-first (handed_of first.tree a.written.now a.again.now first.messages first.work a.source_length_again a.version_again a.limit_again) e.0))

pub returns-in-Messages : goal.returns-in-Messages
returns-in-Messages c =
    let a = c.args in
    let p = same-call
    (ap (λ (z : ℤ). call a.list.now a.tree.now a.messages.now a.work.now a.source_length z a.used_low a.used_high a.limit)
    (to_z-of_z {w = w16} c.ranges.version)) c.parse-first.ensures in
    let k = rereading (call a.list.now a.tree.now a.messages.now a.work.now a.source_length a.version a.used_low a.used_high a.limit)
    a.written.now a.again.now a.source_length_again a.version_again a.limit_again in
    let w = ok-before _ _ _ c.map_err.ensures.cases c.in_ok-records.was ∙ ap (λ x. Ok x) c.in-Messages.is in
    let first = c.parse-first.new in
    has-reread k (parsed-as w p) refl
    (first-messages (handed_of first.tree a.written.now a.again.now first.messages first.work a.source_length_again a.version_again a.limit_again) _)

pub returns-in-Tree : goal.returns-in-Tree
returns-in-Tree c =
    let a = c.args in
    let p = same-call
    (ap (λ (z : ℤ). call a.list.now a.tree.now a.messages.now a.work.now a.source_length z a.used_low a.used_high a.limit)
    (to_z-of_z {w = w16} c.ranges.version)) c.parse-first.ensures in
    let k = rereading (call a.list.now a.tree.now a.messages.now a.work.now a.source_length a.version a.used_low a.used_high a.limit)
    a.written.now a.again.now a.source_length_again a.version_again a.limit_again in
    let w = ok-before _ _ _ c.map_err.ensures.cases c.in_ok-records.was ∙ ap (λ x. Ok x) c.in-Tree.is in
    has-reread k (parsed-as w p) (to_z-of_z {w = w16} c.ranges.version_again) c.write_and_read.ensures
