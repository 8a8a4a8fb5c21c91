-- `everylist::kept::Kept::fault` meets its contract: the tests in the definition's order.
use Rattle.std.proofs.Common.{◌/◌, sym, ◌∙◌, arith, rules}
use Rattle.std.proofs.Math.Option.{none, some}
use Rattle.std.proofs.lemmas.Result.{err_from_is_err_and}
use Rattle.molang.specs.Words.{row}
use Rattle.shortlists.{specs.ShortLists.{count_refusal}, proofs.EntryLaws.{counts-told}}
use Rattle.everylist.proofs.KeptLaws.{looked, letters-same, not-whole, too_short, no_number, not-fine, counted-so, count-refused}
use Rattle.everylist.proofs.kept.Kept.fault.Goals as goal

pub returns-then-self-ne0 : goal.returns-then-self-ne0
returns-then-self-ne0 c = let k = c.args.self.now in not-whole k.bytes k.words k.fine c.if-self-ne0.true

pub returns-then-self-lt8 : goal.returns-then-self-lt8
returns-then-self-lt8 c = let k = c.args.self.now in too_short k.bytes k.words k.fine c.if-self-ne0.false (omega arith)

pub returns-then-not-all_numbers : goal.returns-then-not-all_numbers
returns-then-not-all_numbers c =
    let k = c.args.self.now in
    let numbers = looked _ (k.bytes / 4) k.words _ c.count-n.ensures (search rules) c.all_numbers.ensures in
    no_number k.bytes k.words k.fine c.if-self-ne0.false (omega arith) (sym numbers ∙ c.if-not-all_numbers.true)

pub returns-then-not-self : goal.returns-then-not-self
returns-then-not-self c =
    let k = c.args.self.now in
    let numbers = looked _ (k.bytes / 4) k.words _ c.count-n.ensures (search rules) c.all_numbers.ensures in
    not-fine k.bytes k.words k.fine c.if-self-ne0.false (omega arith) (sym numbers ∙ c.if-not-all_numbers.false) c.if-not-self.true

pub returns-in_err-count : goal.returns-in_err-count
returns-in_err-count c =
    let p = err_from_is_err_and c.from_residual.result c.from_residual.ensures.1 in
    let k = c.args.self.now in
    let numbers = looked _ (k.bytes / 4) k.words _ c.count-n.ensures (search rules) c.all_numbers.ensures in
    let letters = letters-same _ (k.bytes / 4) k.words c.count-n.ensures (search rules) in
    rw (p.1, p.2)
    (counted-so k.bytes k.words k.fine c.if-self-ne0.false (omega arith) (sym numbers ∙ c.if-not-all_numbers.false) c.if-not-self.false
    (some (row _ 0)) (sym (λ i. count_refusal (letters i) (c.from.ensures i)) ∙ count-refused _ _ _ c.in_err-count.ensures))

pub returns : goal.returns
returns c =
    let k = c.args.self.now in
    let numbers = looked _ (k.bytes / 4) k.words _ c.count-n.ensures (search rules) c.all_numbers.ensures in
    let letters = letters-same _ (k.bytes / 4) k.words c.count-n.ensures (search rules) in
    counted-so k.bytes k.words k.fine c.if-self-ne0.false (omega arith) (sym numbers ∙ c.if-not-all_numbers.false) c.if-not-self.false
    none (sym (λ i. count_refusal (letters i) (c.from.ensures i)) ∙ (counts-told _ _ _ c.in_ok-count.ensures).unrefused)
