-- `shape::Field::next` meets its contract: case by case. Assumes nothing.
use Rattle.molang.specs.WriteEntry.{next_in_node}
use Rattle.shape.proofs.Field.next.Goals as goal

pub returns-in-Operator : goal.returns-in-Operator
returns-in-Operator c =
    unfold next_in_node in rw c.in-Operator.is

pub returns-in-Start : goal.returns-in-Start
returns-in-Start c =
    unfold next_in_node in rw c.in-Start.is

pub returns-in-End : goal.returns-in-End
returns-in-End c =
    unfold next_in_node in rw c.in-End.is

pub returns-in-Upper : goal.returns-in-Upper
returns-in-Upper c =
    unfold next_in_node in rw c.in-Upper.is

pub returns-in-Lower : goal.returns-in-Lower
returns-in-Lower c =
    unfold next_in_node in rw c.in-Lower.is

pub returns-in-Count : goal.returns-in-Count
returns-in-Count c =
    unfold next_in_node in rw c.in-Count.is

pub returns-in-Close : goal.returns-in-Close
returns-in-Close c =
    unfold next_in_node in rw c.in-Close.is
