-- `sections::look` meets its contract.
use Prim.Native.Nat.{ℕ, ◌+◌, ◌^◌, ◌≤◌}
use mathlib.Core.{Path.{◌≡◌, refl, sym, ap, ◌∙◌}, Logic.{◌⊎◌, inl, inr, ⊎_elim}, Bool.{true, false}}
use native.Mathlib.Omega.{arith}
use lib.ListN.{length-set}
use Rattle.molang.specs.{Operator.{is_closer}, Words.{operator_bits}}
use Rattle.ops.{specs.Operators.{is_opener}, proofs.OperatorLaws.{apart, no-closer}}
use Rattle.words.proofs.FieldLaws.{same-by-bits}
use Rattle.nodes.{specs.Slots.{op_at}, proofs.Runs.{set_other}}
use Rattle.sections.proofs.SectionCases.{closer-open}
use Rattle.sections.proofs.SectionLooking.{look_in, look-position, look-places, look-other, look-opens, look-closes, looked-on}
use Rattle.sections.proofs.{SectionLooking.{position-small, opens-same}}
use Rattle.sections.proofs.look.Goals as goal

-- No number above the brackets opens or closes, so the operator's bits as they stand do as the operator does.
no-opener : (n : ℕ) → 6 ≤ n → is_opener n ≡ false
no-opener n above = unfold is_opener in rw (no-closer n ((λ e. omega arith), ((λ e. omega arith), ((λ e. omega arith), tt))), is_opener)

no_end : (n : ℕ) → 6 ≤ n → is_closer n ≡ false
no_end n above = unfold is_closer in sym (apart _ n ((λ e. omega arith), ((λ e. omega arith), ((λ e. omega arith), tt))))

opens-by-bits : (n b : ℕ) → b ≡ operator_bits n 0 → is_opener n ≡ is_opener b
opens-by-bits n b e = sym (same-by-bits is_opener false (λ m h. no-opener m (omega arith)) n) ∙ ap is_opener (sym e)

closes-by-bits : (n b : ℕ) → b ≡ operator_bits n 0 → is_closer n ≡ is_closer b
closes-by-bits n b e = sym (same-by-bits is_closer false (λ m h. no_end m (omega arith)) n) ∙ ap is_closer (sym e)

pub open_section-requires : goal.open_section-requires
open_section-requires c =
    let e = c.position-index in
    let a = c.args.at in
    let g = c.requires.0 in
    record {
      apart = g.apart;
      room = g.room;
      word = omega (arith, c.requires.1);
      start = position-small a.depth a.write a.index e.result (2 ^ 32) e.ensures.0 e.ensures.1 c.requires.1 c.requires.2;
    }

pub returns-then-is_opener : goal.returns-then-is_opener
returns-then-is_opener c =
    let e = c.position-index in
    let o = op_at c.args.work.now c.args.item in
    let bits = c.operator_bits_of-operator in
    let h : is_opener o ≡ true = opens-by-bits _ bits.result bits.ensures ∙ (sym c.is_opener.ensures ∙ c.if-is_opener.true) in
    let r = c.open_section in
    let parts = looked-on c.requires.0 c.args.at.index e.result r.result r.new.work e.ensures.0 e.ensures.1
    (λ g. look-opens g o e.result r.result r.new.work refl h r.ensures.words r.ensures.more
    r.ensures.deeper r.ensures.at)
    (opens-same c.args.work.now r.new.work c.args.base c.args.marks c.args.at.write c.args.at.depth c.args.item
    e.result r.ensures.words) r.auto.work in
    record { looked = parts.0; result_value = parts.1 }

pub close_section-requires : goal.close_section-requires
close_section-requires c =
    let e = c.position-index in
    let a = c.args.at in (
      c.requires.0,
      c.if-depth-ne0.true,
      omega (arith, position-small a.depth a.write a.index e.result (2 ^ 32) e.ensures.0 e.ensures.1 c.requires.1 c.requires.2),
    )

pub returns-then-depth-ne0 : goal.returns-then-depth-ne0
returns-then-depth-ne0 c =
    let e = c.position-index in
    let o = op_at c.args.work.now c.args.item in
    let bits = c.operator_bits_of-operator in
    let h : is_opener o ≡ false = opens-by-bits _ bits.result bits.ensures ∙ (sym c.is_opener.ensures ∙ c.if-is_opener.false) in
    let closes : is_closer o ≡ true = closes-by-bits _ bits.result bits.ensures ∙ (sym c.is_closer.ensures ∙ c.if-is_closer.true) in
    let r = c.close_section in
    let w = r.ensures.closed in
    let fewer = closer-open c.args.at.depth o h closes in
    record {
      looked = record {
        answer = λ g.
            look-position g c.args.at.index e.result r.result r.new.work e.ensures.0 e.ensures.1
            (look-closes g o e.result r.result r.new.work refl h closes w);
        same = λ g j f x y. w.same g j f;
        long = w.long;
      };
      result_value = r.ensures.result_value ∙ sym fewer;
    }

pub returns : goal.returns
returns c =
    let e = c.position-index in
    let o = op_at c.args.work.now c.args.item in
    let bits = c.operator_bits_of-operator in
    let h : is_opener o ≡ false = opens-by-bits _ bits.result bits.ensures ∙ (sym c.is_opener.ensures ∙ c.if-is_opener.false) in
    let other : (is_closer o ≡ false) ⊎ (c.args.at.depth ≡ 0) =
    ⊎_elim (λ w. inr w.1) (λ w. inl (closes-by-bits _ bits.result bits.ensures ∙ (sym c.is_closer.ensures ∙ w))) c.else-is_closer.either
    in
    let parts = looked-on c.requires.0 c.args.at.index e.result _ _ e.ensures.0 e.ensures.1
    (λ g. look-places g e.result _ refl (look-other g o e.result refl h other))
    (λ j x y. set_other c.args.work.now _ (c.args.base + c.args.at.write) c.args.item refl j
    (⊎_elim (λ w. omega arith) (λ w. omega arith) x)) (simp length-set) in
    record { looked = parts.0; result_value = parts.1 }

pub operator_bits_of-operator-requires : goal.operator_bits_of-operator-requires
operator_bits_of-operator-requires c =
    let g = c.requires.0 in omega (arith, look_in g, g.apart, g.room)
