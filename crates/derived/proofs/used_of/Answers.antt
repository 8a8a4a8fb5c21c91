-- `derived::used_of` meets its contract. The loop's invariant: the operators seen so far and those of the words that are left are those of
-- all. The measure is what is left of the words. Assumes nothing.
use Prim.Native.Nat.{◌+◌}
use mathlib.Core.{Path.{sym, ap, ◌∙◌}, Bool.{Bool, ◌||◌, or-false, or_assoc}}
use native.Mathlib.Omega.{arith}
use lib.ListN.{drop}
use Rattle.molang.specs.{Parse.{in_halves}, Words.{operator_field}}
use Rattle.derived.specs.Derived.{named}
use Rattle.derived.proofs.{SetLaws.{in-none}, WordLaws.{named-on, named_end}}
use Rattle.derived.proofs.used_of.Goals as goal

pub loop-i-preserved : goal.loop-i-preserved
loop-i-preserved c n =
    let list = c.args.list.now in
    let seen = in_halves c.loop-i.used.low c.loop-i.used.high n in
    ap (λ (b : Bool). b || named operator_field (drop (c.loop-i.i + 5) list) n) (c.with_word-used.ensures n)
    ∙ (or_assoc seen _ _
    ∙ (ap (λ (b : Bool). seen || b) (sym (named-on list c.loop-i.i c.loop-i-test.true n)) ∙ c.loop-i.invariant n))

pub returns : goal.returns
returns c n =
    let list = c.args.list.now in
    let seen = in_halves c.loop-i.used.low c.loop-i.used.high n in
    sym (ap (λ (b : Bool). seen || b) (named_end list c.loop-i.i c.loop-i-test.false n) ∙ or-false seen) ∙ c.loop-i.invariant n

pub returns-2 : goal.returns-2
returns-2 c n =
    let list = c.args.list.now in
    let seen = in_halves c.loop-i.used.low c.loop-i.used.high n in
    let now = in_halves c.with_word-used.result.low c.with_word-used.result.high n in
    sym (ap (λ (b : Bool). now || b) (named_end list (c.loop-i.i + 5) (omega arith) n) ∙ or-false now)
    ∙
    (ap (λ (b : Bool). b || named operator_field (drop (c.loop-i.i + 5) list) n) (c.with_word-used.ensures n)
    ∙ (or_assoc seen _ _
    ∙ (ap (λ (b : Bool). seen || b) (sym (named-on list c.loop-i.i c.loop-i-test.true n)) ∙ c.loop-i.invariant n)))

pub loop-i-init : goal.loop-i-init
loop-i-init c n =
    ap (λ (b : Bool). b || named operator_field c.args.list.now n) (in-none n)
