-- `sections::sections` meets its contract.
use mathlib.Core.{Path.{refl, ◌∙◌}}
use native.Mathlib.Omega.{arith}
use Rattle.sections.proofs.SectionWalk.{walk_start, walk_turn, walk-look, walk-on, walk-differs, walk-done, walk-named, walk-unclosed}
use Rattle.sections.proofs.MatchingLaws.{loses-nothing}
use Rattle.sections.proofs.sections.Goals as goal

pub tokens-init : goal.tokens-init
tokens-init c = (c.requires, refl, λ g. walk_start g)

pub open-init : goal.open-init
open-init c = (omega arith, c.if-n-read.false, λ W₀ g v. v)

pub look-requires : goal.look-requires
look-requires c =
    let g = c.requires in
    let v = c.open.invariant.2 _ g (c.tokens.invariant.2 g) in
    let t = walk_turn v.0 v.1 v.2 c.open.invariant.1 _ refl in
    (walk-look t, omega (arith, t.behind, t.count, g.small), omega (arith, t.near, t.count, g.small))

pub tokens-preserved : goal.tokens-preserved
tokens-preserved c = (
  c.tokens.invariant.0,
  c.if-at-eq0.true,
  λ g. let v = c.open.invariant.2 _ g (c.tokens.invariant.2 g) in
      walk-on (walk_turn v.0 v.1 v.2 c.open.invariant.1 _ refl) c.look.result c.in-Ok.after c.look.new.work c.look.ensures.looked c.in-Ok.is,
)

pub still_open-requires : goal.still_open-requires
still_open-requires c =
    let g = c.requires in
    let v = c.open.invariant.2 _ g (c.tokens.invariant.2 g) in
    walk-named (walk-on (walk_turn v.0 v.1 v.2 c.open.invariant.1 _ refl) c.look.result c.in-Ok.after c.look.new.work c.look.ensures.looked c.in-Ok.is).2
    c.if-at-eq0.false

pub open-preserved : goal.open-preserved
open-preserved c =
    let i = c.open.invariant in (
      omega (arith, i.0),
      c.if-n-read-2.false,
      λ W₀ g w. let v = i.2 W₀ g w in
          walk-on (walk_turn v.0 v.1 v.2 i.1 _ refl) c.look.result c.in-Ok.after c.look.new.work c.look.ensures.looked c.in-Ok.is,
    )

pub returns-then-n-read : goal.returns-then-n-read
returns-then-n-read c =
    let i = c.tokens.invariant in
    let parts = loses-nothing
    (record {
      answer = λ g. let v = i.2 g in walk-done v.0 v.1 v.2 c.if-n-read.true i.1;
      kept = λ g. (i.2 g).2.kept;
      long = c.tokens.auto.work;
    }) in
    record { sectioned = parts.0; loses_nothing = parts.1 }

pub returns-then-n-read-2 : goal.returns-then-n-read-2
returns-then-n-read-2 c =
    let parts = loses-nothing
    (record {
      answer = λ g.
          let v = c.open.invariant.2 _ g (c.tokens.invariant.2 g) in
          let w = walk-on (walk_turn v.0 v.1 v.2 c.open.invariant.1 _ refl) c.look.result c.in-Ok.after c.look.new.work c.look.ensures.looked c.in-Ok.is in
          walk-unclosed w.0 w.1 w.2 c.if-n-read-2.true c.if-at-eq0.false c.still_open.result c.still_open.ensures;
      kept = λ g.
          let v = c.open.invariant.2 _ g (c.tokens.invariant.2 g) in
          (walk-on (walk_turn v.0 v.1 v.2 c.open.invariant.1 _ refl) c.look.result c.in-Ok.after c.look.new.work c.look.ensures.looked c.in-Ok.is).2.kept;
      long = c.look.ensures.looked.long ∙ c.open.auto.work ∙ c.tokens.auto.work;
    }) in
    record { sectioned = parts.0; loses_nothing = parts.1 }

pub returns-in-Err : goal.returns-in-Err
returns-in-Err c =
    let parts = loses-nothing
    (record {
      answer = λ g. let v = c.open.invariant.2 _ g (c.tokens.invariant.2 g) in
          (walk-differs (walk_turn v.0 v.1 v.2 c.open.invariant.1 _ refl) c.look.result c.in-Err.differs c.look.new.work c.look.ensures.looked c.in-Err.is).0;
      kept = λ g. let v = c.open.invariant.2 _ g (c.tokens.invariant.2 g) in
          (walk-differs (walk_turn v.0 v.1 v.2 c.open.invariant.1 _ refl) c.look.result c.in-Err.differs c.look.new.work c.look.ensures.looked c.in-Err.is).1;
      long = c.look.ensures.looked.long ∙ c.open.auto.work ∙ c.tokens.auto.work;
    }) in
    rw c.from.ensures (record { sectioned = parts.0; loses_nothing = parts.1 })
