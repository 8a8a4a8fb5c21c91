-- `shortlists::alphabet::all_different` meets its contract: a letter that occurs again, or what is left decides.
use Rattle.std.proofs.Common.{sym, ◌∙◌}
use Rattle.shortlists.proofs.AlphabetLaws.{among-told, different-here, different-later, different-none}
use Rattle.shortlists.proofs.alphabet.all_different.Goals as goal

pub returns-then-contains : goal.returns-then-contains
returns-then-contains c =
    let list = c.args.alphabet.now in
    let i = c.loop-i.i in
    let again = sym (among-told list i _ c.contains.ensures.value) ∙ c.if-contains.true in
    sym (sym c.loop-i.invariant ∙ different-here list i c.loop-i-test.true again)

pub loop-i-preserved : goal.loop-i-preserved
loop-i-preserved c =
    let list = c.args.alphabet.now in
    let i = c.loop-i.i in
    let never = sym (among-told list i _ c.contains.ensures.value) ∙ c.if-contains.false in
    sym (different-later list i c.loop-i-test.true never) ∙ c.loop-i.invariant

pub returns : goal.returns
returns c = sym (sym c.loop-i.invariant ∙ different-none c.args.alphabet.now c.loop-i.i c.loop-i-test.false)
