-- What each case of an answer says: document 01's number and values for it.
use Rattle.std.specs.Prelude.{ℕ, List, length, Result, Ok, Err}
use Rattle.molang.specs.Forest.{Forest, nil, node}
use Rattle.molang.specs.Words.{with_number}
use Rattle.molang.specs.Plain.{unplain_at}
use Rattle.molang.specs.WriteEntry.{WriteCall, WriteTold, tokens, unwritten, forest_refusal, write_told, list_in}
use Rattle.words.specs.Refusals.{reason_number}
use Rattle.words.specs.declared.refusals.Refusal.{Refusal}

-- The answer of the write entry and of its parts: the token count, or the refusal's number and place.
abbrev pub told_of : Result ℕ Refusal → WriteTold
told_of (Ok count) = tokens count
told_of (Err refusal) = unwritten (reason_number refusal.reason) refusal.place

-- What is told of a tree where only answer 13 is looked at.
unfoldable pub judgement : Forest → WriteTold
judgement nil = tokens 0
judgement (node k cs rest) = write_told (with_number 13 (unplain_at k cs)) (node k cs rest)

-- A call of the write entry.
abbrev pub call : List ℕ → List ℕ → WriteCall
call tree list = record { tree = tree; list = list }

-- What is answered to words that are one tree.
unfoldable pub filling : Forest → List ℕ → WriteTold
filling f list = write_told (forest_refusal f (length list)) f

-- What the list holds after it.
unfoldable pub filled : Forest → List ℕ → List ℕ
filled f list = list_in (forest_refusal f (length list)) f list
