-- `held::faults::claim_fault` meets its contract: a row for each test. Assumes nothing.
use Rattle.held.specs.Answers.{state}
use Rattle.held.proofs.FaultLaws.{claim-short, claim-many, claim-right}
use Rattle.held.proofs.faults.claim_fault.Goals as goal

pub returns-then-words-lt-HELD_WORDS : goal.returns-then-words-lt-HELD_WORDS
returns-then-words-lt-HELD_WORDS c =
    rw c.at.ensures (claim-short (state c.args.held c.args.words.now) c.if-words-lt-HELD_WORDS.true)

pub returns-then-held-gt-MOST_TOKENS : goal.returns-then-held-gt-MOST_TOKENS
returns-then-held-gt-MOST_TOKENS c =
    rw c.at-then-held-gt-MOST_TOKENS.ensures (claim-many (state c.args.held c.args.words.now) c.if-words-lt-HELD_WORDS.false c.if-held-gt-MOST_TOKENS.true)

pub returns : goal.returns
returns c =
    claim-right (state c.args.held c.args.words.now) c.if-words-lt-HELD_WORDS.false c.if-held-gt-MOST_TOKENS.false
