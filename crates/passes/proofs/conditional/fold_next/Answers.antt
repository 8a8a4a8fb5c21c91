-- `fold_next`: an item with its operands, a `?` and its else-pair, or an item as it is (ConditionalScan, ConditionalPair).
use Prim.Native.Nat.{◌-◌}
use mathlib.Core.Path.{sym, ◌∙◌}
use native.Mathlib.Omega.{arith}
use Rattle.passes.proofs.{ConditionalPair.{else-can, next-if}, ConditionalScan.{scan-look, scan-fold, next-else, next-on}}
use Rattle.passes.proofs.conditional.fold_next.Goals as goal

pub is_else-requires : goal.is_else-requires
is_else-requires c =
    scan-look c.requires.scan

pub fold_last-requires : goal.fold_last-requires
fold_last-requires c =
    scan-fold c.requires.scan c.requires.two

pub returns-then-is_else : goal.returns-then-is_else
returns-then-is_else c =
    rw c.moved.ensures (next-else c.requires.two c.if-is_else.true c.is_else.ensures c.fold_last.ensures)

pub is_token-requires : goal.is_token-requires
is_token-requires c =
    (scan-look c.requires.scan).slot (c.args.scan.read - 1) (omega (arith, c.requires.two))

pub fold_last-requires-then-is_token : goal.fold_last-requires-then-is_token
fold_last-requires-then-is_token c =
    scan-fold c.requires.scan c.requires.two

pub fold_else-requires : goal.fold_else-requires
fold_else-requires c =
    rw c.moved-rest.ensures
    (else-can c.requires.scan c.requires.two (sym c.is_token.ensures ∙ c.if-is_token.true) c.fold_last-then-is_token.ensures)

pub returns-then-is_token : goal.returns-then-is_token
returns-then-is_token c =
    let e = rw c.moved-rest.ensures at c.fold_else.ensures in
    next-if c.requires.two (sym c.is_token.ensures ∙ c.if-is_token.true) c.fold_last-then-is_token.ensures e.0 e.1

pub returns : goal.returns
returns c =
    let k = rw c.moved-2.ensures at c.keep_right.ensures in
    rw k.0
    (next-on c.requires.two c.if-is_else.false c.is_else.ensures (sym c.is_token.ensures ∙ c.if-is_token.false) k.1
    (omega (arith, c.requires.two, c.requires.scan.behind)) c.requires.scan.full)
