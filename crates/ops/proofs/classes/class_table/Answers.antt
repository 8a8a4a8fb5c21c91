-- `ops::classes::class_table` meets its contract: antt computes the rule at each of the 111 operators and finds the table's entry.
-- Assumes nothing.
use mathlib.Core.Path.{refl}
use Rattle.molang.specs.{Operator.{any, is_one_of, between, is_math_call, is_query_or_loop}, Read.{set_number}}
use Rattle.ops.specs.Classes.{pass_classes, own_classes, in_class, up_to, class_word, class_table}
use Rattle.ops.proofs.classes.class_table.Goals as goal

pub returns : goal.returns
returns c =
    unfold any is_one_of between is_math_call is_query_or_loop pass_classes own_classes in_class set_number up_to class_word class_table in refl
