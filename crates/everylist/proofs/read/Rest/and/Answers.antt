-- `everylist::read::Rest::and` meets its contract: the chunk is counted, and its words are looked at.
use Rattle.std.proofs.Common.{refl, ap, sym, ◌∙◌, Bool, ◌&&◌}
use Rattle.listing.specs.Lists.{words_in}
use Rattle.everylist.specs.EveryList.{all_numbers}
use Rattle.everylist.proofs.read.Rest.and.Goals as goal

pub returns-then-self : goal.returns-then-self
returns-then-self c =
    let words = all_numbers (words_in c.args.chunk.now) in
    record {
      bytes = refl;
      fine = c.fine_words-fine.ensures ∙ sym (ap (λ (b : Bool). b && words) c.if-self.true);
      last = refl;
    }
