-- `everylist::kept::all_numbers` meets its contract: the test of each word.
use Rattle.std.proofs.Common.{rules, ◌∙◌}
use lib.Dec.{leb}
use Rattle.std.proofs.lemmas.Iterator.{YieldsList-from_slice}
use Rattle.std.proofs.lemmas.Iterator.Search.{all_from_yields_List}
use Rattle.everylist.proofs.NumberLaws.{numbers-listed}
use Rattle.everylist.proofs.kept.all_numbers.Goals as goal
use borrow.Author.Tests.{tests}

pub returns : goal.returns
returns c =
    all_from_yields_List (λ w. leb w 65535) _ _ c.all.result c.all.ensures.ran (YieldsList-from_slice c.args.words.now cc)
    (λ x b q k. search (rules, tests))
    ∙ numbers-listed c.args.words.now
