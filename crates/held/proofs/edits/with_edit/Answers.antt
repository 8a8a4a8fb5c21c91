-- `held::edits::with_edit` meets its contract. Assumes nothing.
use Prim.Native.Nat.{◌+◌, ◌-◌, ◌/◌}
use native.Mathlib.Numerals.{add-one}
use mathlib.Core.Path.{◌≡◌}
use mir.{Syntax.{w16}, Val.{of_z, to_z}}
use borrow.Author.Rules.{rules}
use lib.ListN.{length}
use Rattle.held.specs.Editing.{counted}
use Rattle.held.proofs.edits.with_edit.Goals as goal

pub returns : goal.returns
unfolding counted
returns c =
    let a = c.args in
    let same : to_z w16 (of_z w16 a.held.version) ≡ a.held.version = search rules in
    (λ i. record {
      tokens = a.held.tokens - a.removed + length a.put.now / 5;
      version = same i;
      edits = add-one a.held.edits i;
    })
