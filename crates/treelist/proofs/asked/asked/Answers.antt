-- `treelist::asked::asked` meets its contract: the tests in the definition's order.
use Rattle.std.proofs.Common.{refl, arith}
use Rattle.treelist.specs.Listing.{list_length}
use Rattle.treelist.proofs.AskedLaws.{turned-part, turned-empty, turned-first, turned-words, turned-long, not-turned}
use Rattle.treelist.proofs.asked.asked.Goals as goal

pub returns-then-bytes-ne0 : goal.returns-then-bytes-ne0
returns-then-bytes-ne0 c =
    record { result_value = rw c.at.ensures (turned-part c.args.bytes c.args.first c.if-bytes-ne0.true); counted = tt }

pub returns-then-bytes-eq0 : goal.returns-then-bytes-eq0
returns-then-bytes-eq0 c =
    record { result_value = rw (c.at-then-bytes-eq0.ensures, c.if-bytes-eq0.true) (turned-empty c.args.first); counted = tt }

pub returns-then-first-gt65535 : goal.returns-then-first-gt65535
returns-then-first-gt65535 c =
    record {
      result_value = rw c.at-then-first-gt65535.ensures
          (turned-first c.args.bytes c.args.first c.if-bytes-ne0.false c.if-bytes-eq0.false (omega arith));
      counted = tt;
    }

pub returns-then-words-ne0 : goal.returns-then-words-ne0
unfolding list_length
returns-then-words-ne0 c =
    record {
      result_value = rw c.at-then-words-ne0.ensures
          (turned-words c.args.bytes c.args.first c.if-bytes-ne0.false c.if-bytes-eq0.false (omega arith) c.if-words-ne0.true);
      counted = tt;
    }

pub returns-then-words-gt-MOST_WORDS : goal.returns-then-words-gt-MOST_WORDS
unfolding list_length
returns-then-words-gt-MOST_WORDS c =
    record {
      result_value = rw c.at-then-words-gt-MOST_WORDS.ensures
          (turned-long c.args.bytes c.args.first c.if-bytes-ne0.false c.if-bytes-eq0.false (omega arith) c.if-words-ne0.false (omega arith));
      counted = tt;
    }

pub returns : goal.returns
unfolding list_length
returns c =
    record {
      result_value = not-turned c.args.bytes c.args.first c.if-bytes-ne0.false c.if-bytes-eq0.false (omega arith)
          c.if-words-ne0.false (omega arith);
      counted = (refl, omega arith, c.if-words-ne0.false, omega arith);
    }
