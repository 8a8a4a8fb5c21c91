-- `accept::values` meets its contract: the rows in the table's order. Assumes nothing.
use mathlib.Core.{Path.{◌≡◌, sym, ◌∙◌}, Bool.{true, false}}
use Prim.Native.Nat.{◌+◌, ◌*◌, ◌^◌}
use native.Mathlib.Omega.{arith}
use lib.Dec.{ltb}
use borrow.Author.{Tests.{le-leb, lt-leb}}
use Rattle.molang.specs.{FirstFailure.{must, first_of}, Parse.{is_limit}}
use Rattle.accept.specs.Accepting.{value_refusal}
use Rattle.accept.proofs.values.Goals as goal
use Rattle.accept.proofs.values.Goals.{Else-not-is_legal}

pub returns-then-not-is_legal : goal.returns-then-not-is_legal
unfolding value_refusal first_of must
returns-then-not-is_legal c =
    let a = c.args in
    let illegal : ltb (a.used.high * 2 ^ 64 + a.used.low) (2 ^ 111) ≡ false =
    sym c.is_legal.ensures ∙ c.if-not-is_legal.true
    in
    rw (c.at.ensures, illegal)

-- A used set that the first test passed.
legal-set : (c : Else-not-is_legal) → let u = c.args.used in ltb (u.high * 2 ^ 64 + u.low) (2 ^ 111) ≡ true
legal-set c = sym c.is_legal.ensures ∙ c.if-not-is_legal.false

pub returns-then-source-gt-MOST_SOURCE : goal.returns-then-source-gt-MOST_SOURCE
unfolding value_refusal first_of must
returns-then-source-gt-MOST_SOURCE c =
    let a = c.args in
    rw (c.at-then-source-gt-MOST_SOURCE.ensures, legal-set c.before.before, lt-leb a.source 536870911 (omega arith))

pub returns-then-not-is_limit : goal.returns-then-not-is_limit
unfolding value_refusal first_of must
returns-then-not-is_limit c =
    let a = c.args in
    let tested = c.is_limit in
    let outside : is_limit a.limit ≡ false = sym tested.ensures ∙ c.if-not-is_limit.true in
    rw (c.at-then-not-is_limit.ensures, legal-set c.before.before.before.before, le-leb a.source 536870911 (omega arith), outside)

pub returns : goal.returns
unfolding value_refusal first_of must
returns c =
    let a = c.args in
    let tested = c.is_limit in
    let inside : is_limit a.limit ≡ true = sym tested.ensures ∙ c.if-not-is_limit.false in
    rw (legal-set c.before.before.before, le-leb a.source 536870911 (omega arith), inside)
