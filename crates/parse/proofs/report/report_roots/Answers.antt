-- `parse::report::report_roots` meets its contract: the first tree's extent, then the last one's, over words whose slots are the same.
-- Assumes nothing.
use Prim.Native.Nat.{ℕ}
use mathlib.Core.{Path.{refl, ap, ◌∙◌}, List.{List}}
use native.Mathlib.Omega.{arith}
use Rattle.words.specs.Records.{words_of, laid_at}
use Rattle.parse.proofs.{RecordLaws.{with_first_lem}, RootLaws.{roots-follow, roots-some, last-measure, roots-reported}}
use Rattle.parse.proofs.report.report_roots.Goals as goal

pub extent_of-ends-requires : goal.extent_of-ends-requires
extent_of-ends-requires c =
    let a = c.args in
    let first = c.extent_of-starts in
    last-measure a.work.now first.new.work a.head a.n first.result first.ensures c.requires
    c.last_of_chain-tail.ensures

pub put-requires : goal.put-requires
put-requires c =
    omega (arith, c.requires.room)

pub returns : goal.returns
returns c =
    let a = c.args in
    let tail = c.last_of_chain-tail in
    let last = c.extent_of-ends in
    let words = ap words_of (with_first_lem c.naming.ensures c.new.ensures refl refl) in
    roots-reported a.work.now c.extent_of-starts.new.work a.head a.n c.extent_of-starts.result c.extent_of-starts.ensures
    a.messages.now c.put.new.messages last.new.work tail.result c.count_chain-roots.result last.result c.requires
    c.count_chain-roots.ensures tail.ensures last.ensures
    (c.put.ensures ∙ ap (λ (ws : List ℕ). laid_at 0 ws a.messages.now) words)

pub count_chain-roots-requires : goal.count_chain-roots-requires
count_chain-roots-requires c =
    roots-follow c.requires

pub last_of_chain-tail-requires : goal.last_of_chain-tail-requires
last_of_chain-tail-requires c =
    let p = c.requires in (roots-follow p, roots-some p)
