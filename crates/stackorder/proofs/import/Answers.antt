-- `stackorder::import` meets its contract: answer 24 first, then 25, or the words in the other order. Assumes nothing.
use mathlib.Core.Path.{ap, ◌∙◌}
use Rattle.molang.specs.Words.{with_number}
use Rattle.molang.{specs.StackOrder.{import_answered, imported_after, import_refusal}, proofs.StackOrder.{import-accepts}}
use Rattle.stackorder.specs.{Answers.{call}, declared.reorder.Direction.TheVariants.{Backward}}
use Rattle.stackorder.proofs.EntryLaws.{told-back, can-reorder, put-in-order}
use Rattle.stackorder.proofs.import.Goals as goal

pub returns-in_err-and : goal.returns-in_err-and
unfolding import_answered imported_after import_refusal
returns-in_err-and c =
    let asked = c.faultless-one_stack.ensures ∙ ap (with_number 24) c.stack_fault.ensures in
    let back = told-back Backward c.args.words.now c.args.output.now _ _ asked c.roomy-room.ensures _ c.in_err-and.ensures c.from_residual.ensures.1 in
    record { result_value = back.tells; output_after = back.leaves }

pub reorder-requires : goal.reorder-requires
unfolding import_refusal
reorder-requires c =
    let asked = c.faultless-one_stack.ensures ∙ ap (with_number 24) c.stack_fault.ensures in
    let W = c.args.words.now in
    let O = c.args.output.now in
    can-reorder Backward W O _ _ asked c.roomy-room.ensures c.in_ok-and.ensures (import-accepts (call W O)).0

pub returns : goal.returns
unfolding import_answered imported_after import_refusal
returns c =
    let asked = c.faultless-one_stack.ensures ∙ ap (with_number 24) c.stack_fault.ensures in
    let W = c.args.words.now in
    let O = c.args.output.now in
    let put = put-in-order Backward W O _ _ asked c.roomy-room.ensures c.in_ok-and.ensures (import-accepts (call W O)).0 c.reorder.ensures in
    record { result_value = put.tells; output_after = put.leaves }
