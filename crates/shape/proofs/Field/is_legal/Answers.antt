-- `shape::Field::is_legal` meets its contract: field by field, by the check of that word. Assumes nothing.
use mathlib.Core.Path.{ap, ◌∙◌}
use Rattle.molang.specs.Words.{field_kind, low_fault, word_fault}
use Rattle.shape.specs.Answers.{is_legal}
use Rattle.shape.proofs.CaseLaws.{legal-good}
use Rattle.shape.proofs.Field.is_legal.Goals as goal

pub returns-in-Start : goal.returns-in-Start
unfolding word_fault field_kind low_fault
returns-in-Start c = rw c.in-Start.is (c.is_ok.ensures.value ∙ (legal-good _ ∙ ap is_legal c.span_word.ensures))

pub returns-in-End : goal.returns-in-End
unfolding word_fault field_kind low_fault
returns-in-End c = rw c.in-End.is (c.is_ok-in-End.ensures.value ∙ (legal-good _ ∙ ap is_legal c.span_word-in-End.ensures))

pub returns-in-Upper : goal.returns-in-Upper
unfolding word_fault field_kind low_fault
returns-in-Upper c = rw c.in-Upper.is (c.is_ok-in-Upper.ensures.value ∙ (legal-good _ ∙ ap is_legal c.half_word.ensures))

pub returns-in-Lower : goal.returns-in-Lower
unfolding word_fault field_kind low_fault
returns-in-Lower c = rw c.in-Lower.is (c.is_ok-in-Lower.ensures.value ∙ (legal-good _ ∙ ap is_legal c.half_word-in-Lower.ensures))

pub returns-in-Close : goal.returns-in-Close
unfolding word_fault field_kind low_fault
returns-in-Close c = rw c.in-Close.is (c.is_ok-in-Close.ensures.value ∙ (legal-good _ ∙ ap is_legal c.span_word-in-Close.ensures))

pub returns-in-Operator : goal.returns-in-Operator
returns-in-Operator c =
    unfold word_fault field_kind low_fault in rw c.in-Operator.is c.is_operator.ensures

pub returns-in-Count : goal.returns-in-Count
returns-in-Count c =
    unfold word_fault field_kind low_fault in rw c.in-Count.is c.is_count.ensures
