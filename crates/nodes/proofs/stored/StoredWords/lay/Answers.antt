-- `nodes::stored::StoredWords::lay` meets its contract: five stores, one after another. Assumes nothing.
use native.Mathlib.{Numerals.{towards_suc}, Omega.{arith}}
use lib.ListN.{length-set}
use Rattle.nodes.specs.Stored.{stored_list}
use Rattle.words.proofs.RecordLaws.{laid-sets}
use Rattle.nodes.proofs.stored.StoredWords.lay.Goals as goal

pub returns : goal.returns
returns c = simp towards_suc (laid-sets (stored_list c.args.self) c.args.words.now c.args.at c.requires)

pub bounds-words-at-2 : goal.bounds-words-at-2
bounds-words-at-2 c =
    simp length-set (omega arith)

pub bounds-words-at-3 : goal.bounds-words-at-3
bounds-words-at-3 c =
    simp length-set (omega arith)

pub bounds-words-at-4 : goal.bounds-words-at-4
bounds-words-at-4 c =
    simp length-set (omega arith)

pub bounds-words-at-5 : goal.bounds-words-at-5
bounds-words-at-5 c =
    simp length-set (omega arith)
