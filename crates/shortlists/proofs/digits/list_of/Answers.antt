-- `shortlists::digits::list_of` meets its contract.
use Rattle.std.proofs.Common.{ℕ, ◌*◌, ap, refl, ◌∙◌, List, replicate, arith}
use Rattle.molang.specs.{Forest.{Token}, Parse.{in_front}, Words.{list_words}}
use Rattle.words.specs.Records.{laid_at}
use Rattle.shortlists.proofs.{AlphabetLaws.{alphabet, legal-at}, ShortLists.{counts}}
use Rattle.shortlists.proofs.DigitLaws.{listed_at, listed-length, laying-first, laying-digit, laying-next, laying-last}
use Rattle.shortlists.proofs.digits.list_of.Goals as goal

pub find_length-standing-requires : goal.find_length-standing-requires
find_length-standing-requires c =
    let list = c.args.alphabet.now in
    let is = alphabet list c.requires.alphabet in
    record { some = is.some; few = is.few; below = rw (counts list 6) at c.requires.below }

pub loop-i-init : goal.loop-i-init
loop-i-init c =
    let list = c.args.alphabet.now in
    let standing = c.find_length-standing.result in
    let told = c.find_length-standing.ensures in
    laying-first list standing.length _ standing.size standing.left (replicate 30 0) told.size told.left refl
    (ap (λ (ks : List Token). in_front (list_words ks) (replicate 30 0)) (listed_at list c.args.position standing told))

pub nonzero_div-size : goal.nonzero_div-size
nonzero_div-size c = (alphabet c.args.alphabet.now c.requires.alphabet).some

pub nonzero_div-digit : goal.nonzero_div-digit
nonzero_div-digit c =
    (laying-digit _ _ _ _ _ _ _ c.loop-i.invariant (alphabet c.args.alphabet.now c.requires.alphabet).some c.loop-i-test.true).some

pub nonzero_rem-left : goal.nonzero_rem-left
nonzero_rem-left c =
    (laying-digit _ _ _ _ _ _ _ c.loop-i.invariant (alphabet c.args.alphabet.now c.requires.alphabet).some c.loop-i-test.true).some

pub bounds-alphabet-digit : goal.bounds-alphabet-digit
bounds-alphabet-digit c =
    (laying-digit _ _ _ _ _ _ _ c.loop-i.invariant (alphabet c.args.alphabet.now c.requires.alphabet).some c.loop-i-test.true).first

pub token_of-requires : goal.token_of-requires
token_of-requires c =
    let list = c.args.alphabet.now in
    let is = alphabet list c.requires.alphabet in
    let digit = (laying-digit _ _ _ _ _ _ _ c.loop-i.invariant is.some c.loop-i-test.true).first in
    (legal-at list is.legal _ digit, omega (arith, c.find_length-standing.ensures.short))

pub loop-i-preserved : goal.loop-i-preserved
loop-i-preserved c =
    let list = c.args.alphabet.now in
    let at = c.loop-i in
    laying-next list c.find_length-standing.result.length _ at.size at.left at.words at.i at.invariant
    (alphabet list c.requires.alphabet).some c.loop-i-test.true c.find_length-standing.ensures.short _ _ c.lay.new.words refl refl
    (c.lay.ensures ∙ ap (λ (ws : List ℕ). laid_at (at.i * 5) ws at.words) c.token_of.ensures)

pub returns-clause-tokens_value : goal.returns-clause-tokens_value
returns-clause-tokens_value c =
    listed-length c.args.alphabet.now c.args.position c.find_length-standing.result c.find_length-standing.ensures

pub returns-clause-words_value : goal.returns-clause-words_value
returns-clause-words_value c =
    laying-last c.args.alphabet.now c.find_length-standing.result.length _ c.loop-i.size c.loop-i.left c.loop-i.words c.loop-i.i
    c.loop-i.invariant c.loop-i-test.false
