-- `passes::unary::subtract` meets its contract.
use Rattle.passes.proofs.{UnaryPrefix.{prefix-made, subtracted}}
use Rattle.passes.proofs.unary.subtract.Goals as goal

pub prefix-requires : goal.prefix-requires
prefix-requires c =
    prefix-made c.requires c.spare-negate.ensures
    c.make.ensures

pub returns : goal.returns
returns c =
    subtracted
    c.spare-negate.ensures
    c.make.ensures
    c.prefix.ensures
    c.to_add.ensures c.keep_right.ensures.1
    c.keep_right.ensures.0
