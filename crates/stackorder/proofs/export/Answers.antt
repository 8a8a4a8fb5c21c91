-- `stackorder::export` meets its contract: answer 12 first, then 25, or the words in the other order. Assumes nothing.
use mathlib.Core.Path.{◌∙◌}
use Rattle.molang.{specs.StackOrder.{export_answered, exported_after, export_refusal}, proofs.StackOrder.{export-accepts}}
use Rattle.shape.proofs.CaseLaws.{numbered-12}
use Rattle.stackorder.specs.{Answers.{call}, declared.reorder.Direction.TheVariants.{Forward}}
use Rattle.stackorder.proofs.EntryLaws.{told-back, can-reorder, put-in-order}
use Rattle.stackorder.proofs.export.Goals as goal

pub returns-in_err-and : goal.returns-in_err-and
unfolding export_answered exported_after export_refusal
returns-in_err-and c =
    let asked = c.faultless-one_tree.ensures ∙ (numbered-12 c.first_fault.result ∙ c.first_fault.ensures) in
    let back = told-back Forward c.args.tree.now c.args.output.now _ _ asked c.roomy-room.ensures _ c.in_err-and.ensures c.from_residual.ensures.1 in
    record { result_value = back.tells; output_after = back.leaves }

pub reorder-requires : goal.reorder-requires
unfolding export_refusal
reorder-requires c =
    let asked = c.faultless-one_tree.ensures ∙ (numbered-12 c.first_fault.result ∙ c.first_fault.ensures) in
    let W = c.args.tree.now in
    let O = c.args.output.now in
    can-reorder Forward W O _ _ asked c.roomy-room.ensures c.in_ok-and.ensures (export-accepts (call W O)).0

pub returns : goal.returns
unfolding export_answered exported_after export_refusal
returns c =
    let asked = c.faultless-one_tree.ensures ∙ (numbered-12 c.first_fault.result ∙ c.first_fault.ensures) in
    let W = c.args.tree.now in
    let O = c.args.output.now in
    let put = put-in-order Forward W O _ _ asked c.roomy-room.ensures c.in_ok-and.ensures (export-accepts (call W O)).0 c.reorder.ensures in
    record { result_value = put.tells; output_after = put.leaves }
