-- `scan::given::Given::have_by` meets its contract. Assumes nothing.
use Rattle.scan.specs.{Turns.{have_by}}
use Rattle.scan.proofs.{ClassLaws.{have-class, have-operator, have-opener}}
use Rattle.scan.proofs.given.Given.have_by.Goals as goal

pub returns-in-1 : goal.returns-in-1
returns-in-1 c =
    have-operator _ _ c.args.self.used _ _ c.requires.stands_free.1 c.entry_of-entry.ensures c.in-1.is
    c.operator.ensures

pub returns-in-2 : goal.returns-in-2
returns-in-2 c =
    have-opener _ _ c.args.self.used _ _ c.requires.stands_free.1 c.entry_of-entry.ensures c.in-2.is
    c.opener.ensures

pub returns-in-3 : goal.returns-in-3
unfolding have_by
returns-in-3 c =
    have-class _ _ c.args.self.used _ _ c.requires.stands_free.1 c.entry_of-entry.ensures 3 c.in-3.is
    c.minus.ensures

pub returns-in-4 : goal.returns-in-4
unfolding have_by
returns-in-4 c =
    have-class _ _ c.args.self.used _ _ c.requires.stands_free.1 c.entry_of-entry.ensures 4 c.in-4.is
    c.prefix.ensures

pub returns-in-7 : goal.returns-in-7
unfolding have_by
returns-in-7 c =
    have-class _ _ c.args.self.used _ _ c.requires.stands_free.1 c.entry_of-entry.ensures 7 c.in-7.is
    c.question.ensures

pub returns-in-8 : goal.returns-in-8
unfolding have_by
returns-in-8 c =
    have-class _ _ c.args.self.used _ _ c.requires.stands_free.1 c.entry_of-entry.ensures 8 c.in-8.is
    c.operator-in-8.ensures
