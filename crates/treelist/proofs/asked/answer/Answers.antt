-- `treelist::asked::answer` meets its contract: a refusal of the program, or the reading of the list.
use Rattle.std.proofs.Common.{◌≡◌, ◌+◌, ◌-◌, ◌∙◌, length, take, drop, get_or, length-take, length-drop, arith}
use Rattle.std.proofs.Math.Option.{none}
use Rattle.std.proofs.lemmas.Result.{err_from_is_err_and}
use mir.{Syntax.{w16}, Val.{to_z, of_z}, Facts.{to_z-of_z}}
use Rattle.treelist.specs.Listing.{turned_back}
use Rattle.treelist.proofs.AskedLaws.{back-told, back-tree, back-messages, read-fault, read_answer}
use Rattle.treelist.proofs.asked.answer.Goals as goal

pub returns-in_err-n : goal.returns-in_err-n
returns-in_err-n c =
    let p = err_from_is_err_and c.from_residual.result c.from_residual.ensures.1 in
    let bytes = c.args.bytes in
    let words = c.args.words.now in
    let back = c.in_err-n.ensures.result_value in
    record {
      result_value = rw (p.1, p.2) (back-told bytes words _ _ back);
      tree_after = back-tree bytes words _ _ back _;
      messages_after = back-messages bytes words _ _ back _;
    }

pub version_of-version-requires : goal.version_of-version-requires
version_of-version-requires c = c.in_ok-n.ensures.counted.3

pub read_list-requires : goal.read_list-requires
read_list-requires c =
    let fit = c.in_ok-n.ensures.counted in
    let n = c.in_ok-n.n in
    let words = c.args.words.now in
    let whole : length (take (n + 1 - 1) (drop 1 words)) ≡ n =
    omega (arith, fit, length-take (n + 1 - 1) (drop 1 words), length-drop 1 words)
    in
    record {
      few = omega (arith, fit);
      whole = rw whole fit.2;
      tree_room = omega (arith, fit);
      message_room = omega arith;
      work_room = omega (arith, fit);
    }

pub returns : goal.returns
returns c =
    let fit = c.in_ok-n.ensures.counted in
    let version = c.version_of-version in
    let bytes = c.args.bytes in
    let words = c.args.words.now in
    let goes : none ≡ turned_back bytes (get_or words 0 0) = c.in_ok-n.ensures.result_value in
    let fault = read-fault bytes words c.in_ok-n.n goes fit.0 in
    let answered =
    read_answer bytes words c.in_ok-n.n (to_z w16 (of_z w16 version.result)) fit.0
    (to_z-of_z {w = w16} {z = version.result} (record { sfits = version.type_inv }) ∙ version.ensures)
    in
    let read = c.read_list.ensures in
    record {
      result_value = rw (fault, answered) at read.result_value;
      tree_after = rw (fault, answered) at read.tree_after;
      messages_after = rw (fault, answered) at read.messages_after;
    }

pub overflow_add-n : goal.overflow_add-n
overflow_add-n c = omega (arith, c.in_ok-n.ensures.counted)

pub slice_bounds-read_list-end : goal.slice_bounds-read_list-end
slice_bounds-read_list-end c = omega (arith, c.in_ok-n.ensures.counted)
