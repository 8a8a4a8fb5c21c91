-- `sections::members` meets its contract.
use mathlib.Core.Path.{refl, sym, ◌∙◌}
use native.Mathlib.Omega.{arith}
use Rattle.nodes.proofs.Tokens.{from_bits, to_bits}
use Rattle.sections.proofs.MemberLaws.{join-start, join-turn, join-in, join-leading, join-accessor, join-member, join-other, join-done}
use Rattle.sections.proofs.members.Goals as goal
use Rattle.sections.proofs.members.Goals.{then-operator_bits_of-eq-MEMBER_ACCESSOR+else-write-eq0, else-operator_bits_of-eq-MEMBER_ACCESSOR}

pub loop-read-init : goal.loop-read-init
loop-read-init c = λ g. join-start g

pub operator_bits_of-requires : goal.operator_bits_of-requires
operator_bits_of-requires c =
    let v = c.loop-read.invariant c.requires in
    (join-in (join-turn v.0 v.1 v.2 c.loop-read-test.true _ refl)).1

pub returns-then-write-eq0 : goal.returns-then-write-eq0
returns-then-write-eq0 c =
    let accessor = from_bits _ 45 (omega arith) (sym c.operator_bits_of.ensures ∙ c.if-operator_bits_of-eq-MEMBER_ACCESSOR.true) in
    record {
      answer = λ g. let v = c.loop-read.invariant g in
          join-leading (join-turn v.0 v.1 v.2 c.loop-read-test.true _ refl) accessor c.if-write-eq0.true;
      kept = λ g. (c.loop-read.invariant g).2.kept;
      long = c.loop-read.auto.work;
    }

pub member-write-requires : goal.member-write-requires
member-write-requires c =
    let accessor = from_bits _ 45 (omega arith) (sym c.operator_bits_of.ensures ∙ c.if-operator_bits_of-eq-MEMBER_ACCESSOR.true) in
    let v = c.loop-read.invariant c.requires in
    join-accessor (join-turn v.0 v.1 v.2 c.loop-read-test.true _ refl) accessor c.if-write-eq0.false

pub overflow_add-work : goal.overflow_add-work
overflow_add-work c =
    let v = c.loop-read.invariant c.requires in
    omega (arith, (join-in (join-turn v.0 v.1 v.2 c.loop-read-test.true _ refl)).0, c.well_formed, c.loop-read.auto.work)

pub offset_bounds-work-base-else-operator_bits_of-eq-MEMBER_ACCESSOR : goal.offset_bounds-work-base-else-operator_bits_of-eq-MEMBER_ACCESSOR
offset_bounds-work-base-else-operator_bits_of-eq-MEMBER_ACCESSOR c =
    let v = c.loop-read.invariant c.requires in
    omega (arith, (join-in (join-turn v.0 v.1 v.2 c.loop-read-test.true _ refl)).0, c.well_formed, c.loop-read.auto.work)

pub bounds-work-base-else-operator_bits_of-eq-MEMBER_ACCESSOR : goal.bounds-work-base-else-operator_bits_of-eq-MEMBER_ACCESSOR
bounds-work-base-else-operator_bits_of-eq-MEMBER_ACCESSOR c =
    let v = c.loop-read.invariant c.requires in
    (join-in (join-turn v.0 v.1 v.2 c.loop-read-test.true _ refl)).0

pub overflow_add-write : goal.overflow_add-write
overflow_add-write c =
    let v = c.loop-read.invariant c.requires in
    omega (arith, (join-in (join-turn v.0 v.1 v.2 c.loop-read-test.true _ refl)).0, c.well_formed, c.loop-read.auto.work)

pub loop-read-preserved : goal.loop-read-preserved
loop-read-preserved c g =
    let v = c.loop-read.invariant g in
    let turn = join-turn v.0 v.1 v.2 c.loop-read-test.true _ refl in
    elim c.if-operator_bits_of-eq-MEMBER_ACCESSOR.branch [
      | then-operator_bits_of-eq-MEMBER_ACCESSOR+else-write-eq0 w ↦
          rw (w.work-is, w.write-is) (join-member turn
          (from_bits _ 45 (omega arith) (sym c.operator_bits_of.ensures ∙ w.if-operator_bits_of-eq-MEMBER_ACCESSOR.true))
          w.if-write-eq0.false w.member-write.result w.member-write.new.work w.member-write.ensures)
      | else-operator_bits_of-eq-MEMBER_ACCESSOR w ↦
          rw (w.work-is, w.write-is) (join-other turn
          (λ e. w.if-operator_bits_of-eq-MEMBER_ACCESSOR.false (c.operator_bits_of.ensures ∙ to_bits _ 45 (omega arith) e)) _ refl)
    ]

pub returns : goal.returns
returns c =
    record {
      answer = λ g. let v = c.loop-read.invariant g in join-done v.0 v.1 v.2 c.loop-read-test.false;
      kept = λ g. (c.loop-read.invariant g).2.kept;
      long = c.loop-read.auto.work;
    }
