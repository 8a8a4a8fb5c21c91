-- `ops::closer_of` meets its contract: the closer of each opener, and 0 of anything else. Assumes nothing.
use Rattle.molang.specs.Operator.{closing_of}
use Rattle.ops.proofs.{OperatorLaws.{no-closer}}
use Rattle.ops.proofs.closer_of.Goals as goal

pub returns-in_default : goal.returns-in_default
returns-in_default c = rw (no-closer c.args.op (c.in_default.in_default-own.rest.0.0.1, (c.in_default.in_default-own.rest.0.1, (c.in_default.in_default-own.rest.1, tt))))

pub returns-in-0 : goal.returns-in-0
returns-in-0 c =
    unfold closing_of in rw c.in-0.is

pub returns-in-2 : goal.returns-in-2
returns-in-2 c =
    unfold closing_of in rw c.in-2.is

pub returns-in-4 : goal.returns-in-4
returns-in-4 c =
    unfold closing_of in rw c.in-4.is
