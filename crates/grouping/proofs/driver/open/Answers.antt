-- `open`: the owner's children are taken, and the list begins with them.
use Prim.Native.Nat.{ℕ, ◌≤◌}
use mathlib.Core.{Path.{sym, subst}, List.{List}}
use native.Mathlib.Omega.{arith}
use lib.ListN.{length}
use Rattle.nodes.specs.{Store.{slot_end}, Children.{CanTake}}
use Rattle.nodes.specs.Children as children
use Rattle.levels.specs.declared.turns.Pass.{Pass}
use Rattle.grouping.specs.Driver.{CanOpen, CanBegin}
use Rattle.grouping.proofs.{StartLaws.{open-can-take}}
use Rattle.grouping.proofs.driver.open.Goals as goal
use Rattle.grouping.proofs.driver.open.Lts as lts
use Rattle.grouping.proofs.driver.open.Tie as tie
use Rattle.grouping.proofs.driver.open.Reads as reads

slot : {W : List ℕ} {owner base : ℕ} {p : Pass} → CanOpen W owner base p → slot_end owner ≤ length W
slot g = let own = g.own in let below = g.below in let room = g.room in omega arith

-- the owner's chain, in the list's words
abbrev taken : (c : (lts.After-take_chain tie.the-claims reads.Pre reads.Post)) →
    let a = c.args in
    CanBegin c.take_chain-len.new.work a.owner a.base c.take_chain-len.result a.pass
taken c =
    let a = c.args in
    record {
      before = a.work.now;
      opens = c.requires;
      taken =
          subst (λ (x : ℕ). children.Taken a.work.now x a.base c.take_chain-len.result c.take_chain-len.new.work)
          c.first_of-first.ensures c.take_chain-len.ensures;
    }

pub take_chain-len-requires : goal.take_chain-len-requires
take_chain-len-requires c =
    subst (λ (x : ℕ). CanTake c.args.work.now x c.args.base)
    (sym c.first_of-first.ensures) (open-can-take c.requires)

pub first_of-first-requires : goal.first_of-first-requires
first_of-first-requires c =
    slot c.requires

pub begin-requires : goal.begin-requires
begin-requires c =
    taken c.before.before

pub returns : goal.returns
returns c =
    c.begin.ensures.opened (taken c.before.before.before)
