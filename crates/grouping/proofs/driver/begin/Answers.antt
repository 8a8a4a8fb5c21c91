-- `begin`: the pass begins as StartLaws says, arm by arm.
use Rattle.grouping.proofs.{StartLaws.{begin-can-start, begun-started, begun-right, begun-as}}
use Rattle.grouping.proofs.driver.begin.Goals as goal
use borrow.Enum.Refused.{opened}

pub returns-in-Unsplit : goal.returns-in-Unsplit
returns-in-Unsplit c =
    begun-started c.args.pass c.start.result c.in-Unsplit.in-Unsplit-own.keys1 c.requires c.start.ensures

pub returns-in-Unary : goal.returns-in-Unary
returns-in-Unary c =
    begun-right c.args.pass c.moved.result c.in-Unary.is c.moved.ensures

pub returns-in_default : goal.returns-in_default
returns-in_default c = begun-as c.args.pass c.begun.result (opened c.in_default.in_default-own.keys3) c.begun.ensures

pub start-requires : goal.start-requires
start-requires c =
    begin-can-start c.requires
