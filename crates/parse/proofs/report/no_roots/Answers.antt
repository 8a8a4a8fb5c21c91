-- `parse::report::no_roots` meets its contract. Assumes nothing.
use Prim.Native.Nat.{ℕ}
use mathlib.Core.{Path.{ap, ◌∙◌}, List.{List}}
use Rattle.words.specs.Records.{words_of, laid_at}
use Rattle.parse.proofs.{ReportLaws.{no-roots-words}}
use Rattle.parse.proofs.report.no_roots.Goals as goal

pub returns : goal.returns
returns c =
    let a = c.args in
    c.put.ensures
    ∙ ap (λ (ws : List ℕ). laid_at a.at ws a.messages.now) (ap words_of c.new.ensures ∙ no-roots-words a.source)
