-- Computed examples of card 12 (document 02): two write calls whose lists come back from lifts at 4, 5 and 6, word for word, though the
-- tree has a leaf and an operator that close elsewhere and a host's leaf; and that the limit's premise is needed. And of the lift of a list
-- from one engine to another, each of its lots.
use Prim.Native.Nat.{ℕ, ◌+◌, ◌*◌, ◌/◌}
use mathlib.Core.{Path.{◌≡◌, refl}, List.{List, [], ◌∷◌}, Option.{Option, none, some}}
use lib.{IntN.{pos}, ListN.{length, replicate}}
use Rattle.molang.specs.Operator
use Rattle.molang.specs.{Forest.{Forest, nil, node}, Words.{tokens_of, tree_words, list_words}, Reread.{Lift, words_of, lifted, by_way_of}}
use Rattle.molang.specs.{Lines.{tokens_from}, Matching.{operators_in}, Lift.{Lifted, same, lifted as Lifted·lifted, behind, lift_of}}
use Rattle.molang.proofs.Computed.{computed}

-- The node of an operator at a position, that closes somewhere, before others.
abbrev closing : ℕ → ℕ → ℕ → Forest → Forest → Forest
closing o i close below rest = node (record { op = o; variant = 0; value = 0; start = i; end = i + 1; close = close }) below rest

abbrev over : ℕ → ℕ → Forest → Forest → Forest
over o i below rest = closing o i (i + 1) below rest

abbrev leaf : ℕ → Forest → Forest
leaf i rest = over Operator.float i nil rest

-- `a + b + c + d`, the third operand a host's, the first leaf and the first plus closing elsewhere.
abbrev sum : Forest
sum =
    over Operator.add 5 (over Operator.add 3 (closing Operator.add 1 9 (closing Operator.float 0 7 nil (leaf 2 nil)) (over 300 4 nil nil))
    (leaf 6 nil)) nil

-- `v = a * (b + c) ; return -v ;`, where the bracket is the author's, and the statements' semicolons stand anywhere.
abbrev script : Forest
script =
    over Operator.semicolon 8
    (over Operator.semicolon 0 (over Operator.assignment 1 (over Operator.temp_variable 0 nil
    (over Operator.mul 3 (leaf 2 (closing Operator.left_parenthesis 4 9 (over Operator.add 6 (leaf 5 (leaf 7 nil)) nil) nil)) nil)) nil)
    (over Operator.semicolon 3 (over Operator.return 10 (over Operator.negate 11 (over Operator.temp_variable 12 nil nil) nil) nil) nil)) nil

-- A lift of a list of so many words, with just the room that it asks.
abbrev lift : ℕ → ℕ → ℕ → Lift
lift words version limit =
    record {
      tree = replicate (21 * (words / 5)) 0;
      messages = replicate 16 0;
      work = replicate (64 * (words / 5) + 64) 1;
      written = replicate words 0;
      source_length = 20;
      version = pos version;
      limit = limit;
    }

-- What is written of a tree, and what lifts at 4, 5 and 6 make of it.
written : Forest → Option (List ℕ)
written f = words_of (tree_words f) (replicate 200 0)

relifted : ℕ → Option (List ℕ) → List (Option (List ℕ))
relifted limit none = []
relifted limit (some list) =
    let n = length list in
    lifted (lift n 4 limit) list ∷ lifted (lift n 5 limit) list ∷ lifted (lift n 6 limit) list
    ∷ by_way_of (lift n 6 limit ∷ lift n 4 limit ∷ lift n 5 limit ∷ []) list
    ∷ []

abbrev four_times : Option (List ℕ) → List (Option (List ℕ))
four_times o = o ∷ o ∷ o ∷ o ∷ []

sum-again : relifted 2 (written sum) ≡ four_times (written sum)
unfolding computed written relifted
sum-again = refl

script-again : relifted 2 (written script) ≡ four_times (written script)
unfolding computed written relifted
script-again = refl

-- How many tokens are written.
token_count : Option (List ℕ) → ℕ
token_count none = 0
token_count (some list) = length (tokens_of list)

counts : (token_count (written sum) ≡ 11) × (token_count (written script) ≡ 18)
unfolding computed written token_count
counts = (refl, refl)

-- Two brackets are open in the sum's list, so at a limit of 1 it comes to nothing.
sum-too-deep : relifted 1 (written sum) ≡ four_times none
unfolding computed written relifted
sum-too-deep = refl

-- ---- The lift of a list

-- What becomes of a list of operators, one a position, that is lifted to an engine with this limit.
between : ℕ → ℕ → ℕ → List ℕ → Lifted
between from to limit os =
    lift_of (record { version = pos from; limit = 4096 }) (record { version = pos to; limit = limit }) (list_words (tokens_from 0 os))

-- The operators of what comes out.
operators_out : Lifted → List ℕ
operators_out same = []
operators_out (Lifted·lifted out) = operators_in (tokens_of out)
operators_out (behind number place) = []

-- `a && b || c` is the same at 4 and 5, and for 6 is written `a && (b || c)`; in a statement, `v = (a && (b || c)) ;`.
abbrev logic : List ℕ
logic = 61 ∷ 57 ∷ 61 ∷ 56 ∷ 61 ∷ []

lists-come-out : (between 4 5 1 logic ≡ same) × (operators_out (between 5 6 1 logic) ≡ 61 ∷ 57 ∷ 4 ∷ 61 ∷ 56 ∷ 61 ∷ 5 ∷ [])
    × (operators_out (between 5 6 2 (44 ∷ 71 ∷ 61 ∷ 57 ∷ 61 ∷ 56 ∷ 61 ∷ 73 ∷ []))
    ≡ 44 ∷ 71 ∷ 4 ∷ 61 ∷ 57 ∷ 4 ∷ 61 ∷ 56 ∷ 61 ∷ 5 ∷ 5 ∷ 73 ∷ [])
unfolding computed between operators_out
lists-come-out = (refl, refl, refl)

-- Nothing is no tree; `a && b || 45` is not plain at 5; `((a))` is too deep for a limit of 1, and so is `a && b || c && d || e` as written.
lists-stay-behind : (between 4 6 1 [] ≡ behind 0 1) × (between 5 6 1 (61 ∷ 57 ∷ 61 ∷ 56 ∷ 45 ∷ []) ≡ behind 13 4)
    × (between 4 6 1 (4 ∷ 4 ∷ 61 ∷ 5 ∷ 5 ∷ []) ≡ behind 18 1)
    × (between 5 6 1 (61 ∷ 57 ∷ 61 ∷ 56 ∷ 61 ∷ 57 ∷ 61 ∷ 56 ∷ 61 ∷ []) ≡ behind 18 3)
unfolding computed between
lists-stay-behind = (refl, refl, refl, refl)
