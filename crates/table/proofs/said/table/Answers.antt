-- `table::said::table` meets its contract: antt computes the text of every line and finds the constant. Assumes nothing.
use mathlib.Core.Path.{refl}
use Rattle.molang.specs.Lines.{items_of, marks_of, answers_of, lines_of, version_of}
use Rattle.text.specs.Text.{decimal_in, decimal, numbered}
use Rattle.table.specs.Said.{text_in, signs, operator_text, operand_text, named_text, item_text, operands_after, items_text, list_text}
use Rattle.table.specs.Said.{children_text, node_text, tree_text, integer_text, version_text, zeros_text, repeated_text, read_at_text}
use Rattle.table.specs.Said.{read_within_text, read_at_all_text, writing_text, asked_text, line_text, lines_text, table_text}
use Rattle.table.proofs.said.table.Goals as goal

pub returns : goal.returns
unfolding items_of marks_of answers_of lines_of version_of decimal_in decimal numbered text_in signs operator_text operand_text named_text item_text
    operands_after items_text list_text children_text node_text tree_text integer_text version_text zeros_text repeated_text read_at_text
    read_within_text read_at_all_text writing_text asked_text line_text lines_text table_text
returns c = refl
