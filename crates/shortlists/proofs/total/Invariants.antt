-- `shortlists::total`: the lists of so many letters at most are added up, and of so many letters there are `size`.
use Rattle.std.proofs.Common.{◌≡◌, ◌+◌, ◌^◌}
use Rattle.shortlists.specs.ShortLists.{powers}
use Rattle.shortlists.proofs.total.Given as goal

abbrev pub invariant-loop : goal.invariant-loop
invariant-loop l = (l.size ≡ l.letters ^ l.counter) × (l.all ≡ powers l.letters (l.counter + 1))
