-- `write::write` meets its contract: answer 12, answer 13, or what filling the list answers; each is the first that holds in the
-- table's order. Assumes nothing.
use Rattle.std.proofs.Common.{◌≡◌, sym, ap, ◌∙◌}
use Rattle.std.proofs.Math.Option.{none}
use Rattle.std.proofs.lemmas.Result.{err_from_is_err_and}
use Rattle.molang.specs.{Words.{operator_field}, WriteEntry.{tree_fault}}
use Rattle.shape.{specs.Answers.{refusal_of, shape}, proofs.ShapeLaws.{one-tree}}
use Rattle.write.proofs.EntryLaws.{fault-answer, no-fault, tree-answer, unplain-answer, plain-writable}
use Rattle.write.proofs.write.Goals as goal
use Rattle.write.proofs.write.Goals.{In_default}

whole : (c : In_default) → none ≡ tree_fault 0 operator_field 0 (shape 1 0) c.args.tree.now
whole c = no-fault c.args.tree.now (ap refusal_of (sym c.in_default.is) ∙ c.first_fault.ensures)

pub returns-in-Some : goal.returns-in-Some
returns-in-Some c =
    let parts =
    fault-answer c.args.tree.now c.args.list.now c.in-Some.place (ap refusal_of (sym c.in-Some.is) ∙ c.first_fault.ensures)
    in
    record { result_value = rw c.at.ensures parts.0; list_after = parts.1 }

pub judge-requires : goal.judge-requires
judge-requires c = one-tree c.args.tree.now (sym (whole (goal.at.judge-requires c).In_default))

pub returns-in_err-tokens : goal.returns-in_err-tokens
returns-in_err-tokens c =
    let sound = whole (goal.at.returns-in_err-tokens c).In_default in
    let refusal = c.in_err-tokens.field-0.0 in
    let parts =
    unplain-answer c.args.list.now sound (one-tree c.args.tree.now (sym sound)) _ refusal.place c.in_err-tokens.ensures
    in
    let p = err_from_is_err_and c.from_residual.result c.from_residual.ensures.1 in
    record { result_value = rw (p.1, p.2) parts.0; list_after = parts.1 }

pub fill-requires : goal.fill-requires
fill-requires c =
    let sound = whole (goal.at.fill-requires c).In_default in
    plain-writable c.args.list.now sound (one-tree c.args.tree.now (sym sound)) c.in_ok-tokens.tokens c.in_ok-tokens.ensures

pub returns : goal.returns
returns c =
    let answer = tree-answer c.args.tree.now c.args.list.now (whole (goal.at.returns c).In_default) in
    record { result_value = c.fill.ensures.result_value ∙ answer.0; list_after = c.fill.ensures.list_after ∙ answer.1 }
