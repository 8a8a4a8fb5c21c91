-- `accept::nesting` meets its contract: what the operator-bitss of the whole list answer is answered by the tokens that are left. Assumes
-- nothing.
use Prim.Native.Nat.{ℕ}
use mathlib.Core.{Path.{◌≡◌, sym, ap, ◌∙◌}, Option.{Option}}
use native.Mathlib.Omega.{arith}
use Rattle.molang.specs.{Nesting.{open_after}, Words.{with_number}}
use Rattle.accept.specs.Accepting.{verdict}
use Rattle.accept.proofs.AcceptLaws.{same-open, within_first, within-short, within-last, within_on, goes_above}
use Rattle.accept.proofs.nesting.Goals as goal

pub returns-then-n-most : goal.returns-then-n-most
returns-then-n-most c =
    let a = c.args in
    let within = within-short a.list.now a.limit a.n (omega arith) (omega arith) in
    ap (λ (o : Option ℕ). verdict a.n (with_number 18 o)) (sym within)

pub returns-then-most-depth : goal.returns-then-most-depth
returns-then-most-depth c =
    let a = c.args in
    let depth = c.loop-index.depth in
    let bits = ap (λ (n : ℕ). open_after depth n) c.operator_bits.ensures in
    let opened = c.open_after-depth.ensures ∙ (bits ∙ same-open depth _) in
    let deep = goes_above a.list.now a.limit a.n c.loop-index.index c.loop-index.depth c.loop-index.invariant (omega arith) (omega arith)
    (omega (arith, opened)) in
    rw (c.at.ensures, deep)

pub loop-index-preserved : goal.loop-index-preserved
loop-index-preserved c =
    let a = c.args in
    let depth = c.loop-index.depth in
    let bits = ap (λ (n : ℕ). open_after depth n) c.operator_bits.ensures in
    let opened = c.open_after-depth.ensures ∙ (bits ∙ same-open depth _) in
    rw opened
    (within_on a.list.now a.limit a.n c.loop-index.index c.loop-index.depth c.loop-index.invariant (omega arith) (omega arith)
    (omega (arith, opened)))

pub returns : goal.returns
returns c =
    let a = c.args in
    let all : c.loop-index.index ≡ a.n = omega arith in
    ap (λ (o : Option ℕ). verdict a.n (with_number 18 o))
    (sym (within-last a.list.now a.limit a.n c.loop-index.depth (omega arith) (rw all at c.loop-index.invariant)))

pub loop-index-init : goal.loop-index-init
loop-index-init c =
    let a = c.args in within_first a.list.now a.limit a.n
