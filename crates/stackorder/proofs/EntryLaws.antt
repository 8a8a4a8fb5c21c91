-- The entries' answers: what the two judgements make of a call, and of the output that it lends. Assumes nothing.
use Prim.Native.Nat.{ℕ, ◌/◌}
use mathlib.Core.{Path.{◌≡◌, refl, sym, ap}, List.{List, [], ◌∷◌}, Option.{Option, none}}
use lib.{Dec.{leb}, ListN.{length}}
use Rattle.std.specs.Prelude.{Result, Ok, Err, IsErrAnd, ⊤}
use Rattle.molang.specs.{Forest.{nil, node}, FirstFailure.{must, first_of}, Words.{row, tree_words}}
use Rattle.std.specs.Result.{result_and}
use Rattle.std.proofs.lemmas.Result.{err_from_is_err_and}
use Rattle.molang.specs.Words as definition
use Rattle.molang.specs.StackOrder.{stack_words, stack_trees, output_refusal, reorder_told, output_in, IsOneTree}
use Rattle.molang.specs.WriteEntry.{trees_of}
use Rattle.molang.proofs.StackOrder.{trees-of-tree, trees-of-stack, Reorderable}
use Rattle.words.{specs.declared.refusals.Refusal.{Refusal}}
use Rattle.stackorder.specs.{declared.reorder.Direction.{Direction}, declared.reorder.Direction.TheVariants.{Forward, Backward}}
use Rattle.stackorder.specs.{Reorder.{read_in, written_in, CanReorder, HasReordered}, Answers.{call, told_of, refusal_in}}

-- The words in the other order.
abbrev pub other_order : Direction → List ℕ → List ℕ
other_order Forward W = stack_words (trees_of W)
other_order Backward W = tree_words (stack_trees nil W)

-- A tree in the order that is written is its words in the other order.
other-order : (d : Direction) (W : List ℕ) (t : IsOneTree (read_in d) W) → written_in d (node t.root t.children nil) ≡ other_order d W
other-order Forward W t = ap stack_words (sym (trees-of-tree t))
other-order Backward W t = ap tree_words (sym (trees-of-stack t))

-- What an entry tells and leaves, the words being judged first, by `asked`, then the output.
abbrev pub judged : List ℕ → List ℕ → Option definition.Refusal → Option definition.Refusal
judged W O asked = first_of (asked ∷ output_refusal (call W O) ∷ [])

pub record Answered (d : Direction) (W O : List ℕ) (asked : Option definition.Refusal) (r : Result ℕ Refusal) (O' : List ℕ) : Type 0 where
  pub tells : told_of r ≡ reorder_told (judged W O asked) W
  pub leaves : O' ≡ output_in (judged W O asked) (other_order d W) O

-- The first of two refusals.
first-refusal : (a b : Result ⊤ Refusal) → refusal_in (result_and a b) ≡ first_of (refusal_in a ∷ refusal_in b ∷ [])
unfolding first_of
first-refusal (Ok x) (Ok y) = refl
first-refusal (Ok x) (Err r) = refl
first-refusal (Err r) b = refl

module _ (d : Direction) (W O : List ℕ) {asked : Option definition.Refusal} (whole room : Result ⊤ Refusal)
    (words : refusal_in whole ≡ asked) (output : refusal_in room ≡ must (leb (length W) (length O)) (row 25 0)) where
  judgement : {both : Result ⊤ Refusal} → both ≡ result_and whole room → refusal_in both ≡ judged W O asked
  unfolding output_refusal
  judgement e = rw (e, first-refusal whole room, words, output) refl

  pub told-back : (r : Refusal) → Err r ≡ result_and whole room → {result : Result ℕ Refusal} → IsErrAnd result (λ e. e ≡ r)
      → Answered d W O asked result O
  unfolding reorder_told output_in
  told-back r e {result = result} is =
      let p = err_from_is_err_and result is in
      let back = sym (judgement e) in
      record { tells = rw (p.1, p.2, back) refl; leaves = rw back refl }

  module _ {x : ⊤} (passed : Ok x ≡ result_and whole room) (accepts : judged W O asked ≡ none → Reorderable (read_in d) (call W O)) where
    pub can-reorder : CanReorder d W O
    can-reorder = let r = accepts (sym (judgement passed)) in record { one = r.one_tree; room = r.room }

    pub put-in-order : {O' : List ℕ} → HasReordered d W O O' → Answered d W O asked (Ok (length W / 7)) O'
    unfolding reorder_told output_in
    put-in-order filled =
        let none = sym (judgement passed) in
        let t = can-reorder.one in
        record { tells = rw none refl; leaves = rw (none, ← other-order d W t) (filled t) }
