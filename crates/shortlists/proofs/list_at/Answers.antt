-- `shortlists::list_at` meets its contract: it is turned back as `count` is, then by the position.
use Rattle.std.proofs.Common.{◌∙◌, ap, arith}
use Rattle.std.proofs.lemmas.Result.{err_from_is_err_and}
use Rattle.shortlists.specs.Answers.{found}
use Rattle.shortlists.proofs.{EntryLaws.{counts-told, refused-too, past, listed}, ShortLists.{still-below}}
use Rattle.shortlists.proofs.list_at.Goals as goal

pub returns-in_err-lists-clause-listed_value : goal.returns-in_err-lists-clause-listed_value
returns-in_err-lists-clause-listed_value c =
    let p = err_from_is_err_and c.from_residual.result c.from_residual.ensures.1 in
    rw (p.1, p.2) (refused-too c.args.alphabet.now c.args.length c.args.position _ c.in_err-lists.ensures).0

pub returns-in_err-lists-clause-words_value : goal.returns-in_err-lists-clause-words_value
returns-in_err-lists-clause-words_value c =
    let p = err_from_is_err_and c.from_residual.result c.from_residual.ensures.1 in
    rw (p.1) (refused-too c.args.alphabet.now c.args.length c.args.position _ c.in_err-lists.ensures).1

pub list_of-requires : goal.list_of-requires
list_of-requires c =
    let told = counts-told c.args.alphabet.now c.args.length c.in_ok-lists.lists (rw c.in_ok-lists.was at c.count.ensures) in
    record {
      alphabet = told.alphabet;
      below = still-below c.args.alphabet.now c.args.length 6 c.args.position told.short (omega (arith, told.all, c.if-position-lists.true));
    }

pub returns-then-position-lists-clause-listed_value : goal.returns-then-position-lists-clause-listed_value
returns-then-position-lists-clause-listed_value c =
    let told = counts-told c.args.alphabet.now c.args.length c.in_ok-lists.lists (rw c.in_ok-lists.was at c.count.ensures) in
    ap found c.list_of.ensures.tokens_value
    ∙ (listed _ c.args.length c.args.position told.unrefused told.short (omega (arith, told.all, c.if-position-lists.true))).0

pub returns-then-position-lists-clause-words_value : goal.returns-then-position-lists-clause-words_value
returns-then-position-lists-clause-words_value c =
    let told = counts-told c.args.alphabet.now c.args.length c.in_ok-lists.lists (rw c.in_ok-lists.was at c.count.ensures) in
    c.list_of.ensures.words_value
    ∙ (listed _ c.args.length c.args.position told.unrefused told.short (omega (arith, told.all, c.if-position-lists.true))).1

pub returns-else-position-lists-clause-listed_value : goal.returns-else-position-lists-clause-listed_value
returns-else-position-lists-clause-listed_value c =
    let told = counts-told c.args.alphabet.now c.args.length c.in_ok-lists.lists (rw c.in_ok-lists.was at c.count.ensures) in
    (past c.args.alphabet.now c.args.length c.args.position told.unrefused (omega (arith, told.all, c.if-position-lists.false))).0

pub returns-else-position-lists-clause-words_value : goal.returns-else-position-lists-clause-words_value
returns-else-position-lists-clause-words_value c =
    let told = counts-told c.args.alphabet.now c.args.length c.in_ok-lists.lists (rw c.in_ok-lists.was at c.count.ensures) in
    (past c.args.alphabet.now c.args.length c.args.position told.unrefused (omega (arith, told.all, c.if-position-lists.false))).1
