-- `shortlists::alphabet::all_legal` meets its contract: the test of each letter.
use Rattle.std.proofs.Common.{rules, ◌∙◌}
use Rattle.std.proofs.lemmas.Iterator.{YieldsList-from_slice}
use Rattle.std.proofs.lemmas.Iterator.Search.{all_from_yields_List}
use Rattle.molang.specs.Operator.{is_operator}
use Rattle.shortlists.proofs.AlphabetLaws.{legal-all}
use Rattle.shortlists.proofs.alphabet.all_legal.Goals as goal
use borrow.Author.Tests.{tests}

pub returns : goal.returns
returns c =
    all_from_yields_List is_operator _ _ c.all.result c.all.ensures.ran (YieldsList-from_slice c.args.alphabet.now cc)
    (λ x b q k. search (rules, tests))
    ∙ legal-all c.args.alphabet.now
