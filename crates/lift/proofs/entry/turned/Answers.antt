-- `lift::entry::turned` meets its contract: the checks at the limit of the first reading. Assumes nothing.
use Prim.Native.Nat.{ℕ, ◌/◌}
use mathlib.Core.Path.{ap, ◌∙◌}
use lib.ListN.{length}
use Rattle.molang.specs.Parse.{refusal}
use Rattle.accept.specs.Accepting.{verdict, call_of}
use Rattle.lift.proofs.entry.turned.Goals as goal

pub returns : goal.returns
returns c =
    let a = c.args in
    c.accept.ensures
    ∙ ap (λ (n : ℕ). verdict (length a.list.now / 5) (refusal (call_of a.list.now a.sizes (record { low = 0; high = 0 }) n)))
    c.first_limit-limit.ensures
