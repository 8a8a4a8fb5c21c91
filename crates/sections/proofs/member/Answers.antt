-- `sections::member` meets its contract.
use mathlib.Core.{Path.{◌≡◌, refl, sym, ◌∙◌}, Bool.{true, false}}
use native.Mathlib.Omega.{arith}
use lib.ListN.{length-set}
use Rattle.molang.specs.Operator.{has_members}
use Rattle.sections.proofs.{SectionWritten.{store_kept}, MemberLaws.{member-in, member-under, member-after}}
use Rattle.sections.proofs.member.Goals as goal

pub attach-requires : goal.attach-requires
attach-requires c = let g = c.requires in omega (arith, member-in g, g.room)

pub returns-then-takes_member : goal.returns-then-takes_member
returns-then-takes_member c =
    let o = c.operator_of in
    let test = c.takes_member in
    let a = c.attach in
    let h : has_members o.result ≡ true = sym test.ensures ∙ c.if-takes_member.true in
    record {
      joined = λ g. (member-under g o.result a.new.work _ o.ensures h a.ensures refl).0;
      more = omega arith;
      kept = λ g. (member-under g o.result a.new.work _ o.ensures h a.ensures refl).1;
      long = simp length-set a.ensures.long;
    }

pub returns : goal.returns
returns c =
    let o = c.operator_of in
    let h : has_members o.result ≡ false = sym c.takes_member.ensures ∙ c.if-takes_member.false in
    record {
      joined = λ g. member-after g o.result _ o.ensures h refl;
      more = omega arith;
      kept = λ g. store_kept c.args.work.now _ g.X c.args.base g.lo g.m c.args.write c.args.item refl;
      long = simp length-set;
    }

pub operator_of-requires : goal.operator_of-requires
operator_of-requires c =
    let g = c.requires in omega (arith, member-in g, g.room)
