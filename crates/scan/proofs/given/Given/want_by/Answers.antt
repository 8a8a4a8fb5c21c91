-- `scan::given::Given::want_by` meets its contract. Assumes nothing.
use Rattle.scan.specs.{Turns.{want_by}}
use Rattle.scan.proofs.{ClassLaws.{want-class, want-closer}}
use Rattle.scan.proofs.given.Given.want_by.Goals as goal

pub returns-in-1 : goal.returns-in-1
unfolding want_by
returns-in-1 c =
    want-class _ _ c.args.self.used _ _ c.requires.stands_free.1 c.entry_of.ensures 1 c.in-1.is
    c.leaf.ensures

pub returns-in-2 : goal.returns-in-2
returns-in-2 c =
    want-closer _ _ c.args.self.used _ _ c.requires.stands_free.1 c.entry_of.ensures c.in-2.is
    c.wait.ensures

pub returns-in-5 : goal.returns-in-5
unfolding want_by
returns-in-5 c =
    want-class _ _ c.args.self.used _ _ c.requires.stands_free.1 c.entry_of.ensures 5 c.in-5.is
    c.empty.ensures
