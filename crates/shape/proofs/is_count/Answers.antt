-- `shape::is_count` meets its contract: by the word's kind and its low bits. Assumes nothing.
use mathlib.Core.Path.{sym, ◌∙◌}
use borrow.Author.{Tests.{eqb-true}}
use Rattle.molang.specs.{Words.{field_kind, word_fault}, FirstFailure.{must, first_of}}
use Rattle.shape.proofs.{CaseLaws.{legal-count}}
use Rattle.shape.proofs.is_count.Goals as goal

pub returns-then-not-is_of : goal.returns-then-not-is_of
returns-then-not-is_of c = unfold word_fault field_kind first_of must in rw (← c.is_of.ensures, c.if-not-is_of.true)

pub returns : goal.returns
returns c = rw c.low.ensures (sym (legal-count _ (eqb-true _ _ (sym c.is_of.ensures ∙ c.if-not-is_of.false))))
