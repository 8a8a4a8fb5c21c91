-- `liftlists::feed::feed` meets its contract. Assumes nothing.
use Prim.Native.Nat.{ℕ}
use mathlib.Core.{Path.{◌≡◌, refl, ap, sym, ◌∙◌}, List.{List, [], ◌++◌, append_assoc, append-nil}}
use native.Mathlib.Omega.{arith}
use lib.ListN.{length, length-append}
use Rattle.liftlists.specs.{Steps.{held_in}, Going.{file_from}}
use Rattle.liftlists.proofs.GoingLaws.{reached_then, word-goes, none-left}
use Rattle.liftlists.proofs.feed.feed.Goals as goal

pub loop-word-init : goal.loop-word-init
loop-word-init g c =
    let p = c.requires in
    let items = c.chunks_exact-word-items.ensures in
    rw (c.into_iter-word-iterator.ensures.into_iter_gives, items.rest) (
      items.size,
      record {
        came = [];
        split = refl;
        whole = p.list_len.2;
        outs = omega arith;
        laid = p.list_len.1;
        fine = p.fine.0;
        goes = record { gave = []; on = λ rest. refl };
      },
    )

pub spill-requires : goal.spill-requires
spill-requires g c =
    let at = c.loop-word in
    let inv = at.invariant.1 in (
      omega (arith, inv.laid),
      record { later = file_from c.args.to (held_in at.then at.list); reached = reached_then c.requires.fine.1 inv.goes },
    )

pub take_word-step-requires : goal.take_word-step-requires
take_word-step-requires g c =
    record { list_len = (c.requires.list_len.0, omega (arith, c.in_ok-start.ensures.0)); fine = c.loop-word.invariant.1.fine }

pub loop-word-preserved : goal.loop-word-preserved
loop-word-preserved g c =
    let at = c.loop-word in
    let inv = at.invariant.1 in
    let word = c.in-Some.word.now in
    let later = c.next.new.self.rest.now in
    let s = c.in-Some.ensures.steps in
    let next = s.1 in
    let four : length word ≡ 4 = next.1 ∙ at.invariant.0 in
    let spilled = c.in_ok-start.ensures in
    let took = c.take_word-step.ensures in (
      s.0 ∙ at.invariant.0,
      record {
        came = inv.came ++ word;
        split = inv.split ∙ ap (λ (l : List ℕ). inv.came ++ l) next.0 ∙ sym (append_assoc inv.came word later);
        whole = omega (arith, inv.whole, four, ap length next.0, length-append word later);
        outs = omega arith;
        laid = omega (arith, took.few, spilled.0);
        fine = took.fine;
        goes = word-goes c.args.to (held_in at.then at.list) at.out at.end c.in_ok-start.start inv.came word four (omega (arith, spilled.0, inv.outs)) inv.goes
            (spilled.1 (file_from c.args.to (held_in at.then at.list)))
            (rw c.word_of-w.ensures at took);
      },
    )

pub returns : goal.returns
returns g c =
    let at = c.loop-word in
    let inv = at.invariant.1 in
    let none = none-left at.word-iterator.rest.now inv.whole (omega (arith, c.in-None.ensures.steps.1.0, at.invariant.0)) in
    (inv.fine, inv.laid, rw (inv.split, none, append-nil inv.came) inv.goes)
