-- `shortlists::count` meets its contract: the alphabet first, then the length, then the powers of its letters' number.
use mathlib.Core.{Path.{ap, sym, ◌∙◌}}
use Rattle.shortlists.specs.{Answers.{found}}
use Rattle.shortlists.proofs.{AlphabetLaws.{alphabet}, EntryLaws.{no-alphabet, too_long, counted}, ShortLists.{counts}}
use Rattle.shortlists.proofs.count.Goals as goal

pub returns-then-not-is_alphabet : goal.returns-then-not-is_alphabet
returns-then-not-is_alphabet c =
    let a = c.args in
    no-alphabet a.alphabet.now a.length (sym c.is_alphabet.ensures ∙ c.if-not-is_alphabet.true)

pub returns-then-length-gt-LONGEST : goal.returns-then-length-gt-LONGEST
returns-then-length-gt-LONGEST c =
    let a = c.args in too_long a.alphabet.now a.length (sym c.is_alphabet.ensures ∙ c.if-not-is_alphabet.false) c.if-length-gt-LONGEST.true

pub total-requires : goal.total-requires
total-requires c =
    record { few = (alphabet c.args.alphabet.now (sym c.is_alphabet.ensures ∙ c.if-not-is_alphabet.false)).few; short = c.if-length-gt-LONGEST.false }

pub returns : goal.returns
returns c =
    let a = c.args in
    let list = a.alphabet.now in
    ap found (c.total.ensures ∙ sym (counts list a.length))
    ∙ counted list a.length (sym c.is_alphabet.ensures ∙ c.if-not-is_alphabet.false) c.if-length-gt-LONGEST.false
