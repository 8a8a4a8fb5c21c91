-- The binary levels with the mark of binary.rs (document 01: "a left side marked unfolded is gone through again"). Reading does not use this
-- file: the theorem `through-again` of proofs/Unfolded says that this level and the definition's, which has no mark (Binary), give the same
-- of every list.
use Rattle.std.specs.Prelude.{ℕ, zero, suc, Bool, true, false, ◌&&◌, ◌||◌, List, [], ◌∷◌, get_or, drop}
use Rattle.molang.specs.Operator.{is_one_of}
use Rattle.molang.specs.Forest.{Forest, nil, node, in_order}
use Rattle.molang.specs.Message.{Message, binary_at_end, Result, ok, fail}
use Rattle.molang.specs.Level.{Gathered, gathered, waiting}
use Rattle.molang.specs.Binary.{joined}
use Rattle.molang.specs.Free.{is_nil}

-- What the level gives of a list: the list and whether it holds an operator that was not folded (`finish`), or messages.
pub data MarkedResult : Type 0 where
  given : Forest → Bool → MarkedResult
  told : List Message → MarkedResult

-- The same without the mark.
unfoldable pub without_mark : MarkedResult → Result
without_mark (given f mark) = ok f
without_mark (told m) = fail m

-- Some tree is marked (`!unfolded.is_empty()`).
unfoldable pub is_any_marked : List Bool → Bool
is_any_marked [] = false
is_any_marked (mark ∷ marks) = mark || is_any_marked marks

-- The last tree so far, the left operand: its children are gone through again exactly if it is marked, and it stays marked.
unfoldable pub left_again : (Forest → MarkedResult) → Bool → Forest → MarkedResult
left_again second mark nil = given nil mark
left_again second false (node l ls d) = given (node l ls d) false
left_again second true (node l ls d) = elim (second ls) [ told m ↦ told m | given kids mark ↦ given (node l kids d) true ]

-- THE LEVEL over the rest of a list, with the trees so far and a mark for each, the last first; `second` goes through a list again. A right
-- operand that is an operator leaf stays unfolded.
unfoldable pub walk_marked : List ℕ → (Forest → MarkedResult) → Gathered → List Bool → Forest → MarkedResult
walk_marked ops second (gathered d) marks nil = given (in_order d) (is_any_marked marks)
walk_marked ops second (waiting d q) marks nil = told (binary_at_end q ∷ [])
walk_marked ops second (gathered d) marks (node k cs rest) =
    elim (is_nil cs && is_one_of ops k.op) [
      | true ↦ elim (is_nil d) [ true ↦ told (binary_at_end k ∷ []) | false ↦ walk_marked ops second (waiting d k) marks rest ]
      | false ↦
          elim (walk_marked ops second (gathered nil) [] cs) [
            | told m ↦ told m
            | given kids mark ↦ walk_marked ops second (gathered (node k kids d)) (mark ∷ marks) rest
          ]
    ]
walk_marked ops second (waiting d q) marks (node k cs rest) =
    elim (left_again second (get_or marks 0 false) d) [
      | told m ↦ told m
      | given e left ↦
          elim (walk_marked ops second (gathered nil) [] cs) [
            | told m ↦ told m
            | given kids right ↦
                walk_marked ops second (gathered (joined e q k kids))
                ((left || (right || (is_nil cs && is_one_of ops k.op))) ∷ drop 1 marks)
                rest
          ]
    ]

-- The level over a list, if left sides may be gone through again n times, one walk within another.
unfoldable pub through_marked : ℕ → List ℕ → Forest → MarkedResult
through_marked zero ops f = walk_marked ops (λ ls. given ls true) (gathered nil) [] f
through_marked (suc n) ops f = walk_marked ops (through_marked n ops) (gathered nil) [] f
