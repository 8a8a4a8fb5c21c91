-- Which leaves stand in a forest, and on which leaves a pass works. Neither reading nor writing uses this file: the theorem 'no masks'
-- (proofs/NoMasks) and the contracts of the crates below the entries speak of it.
use Rattle.std.specs.Prelude.{ℕ, Bool, true, false, ◌&&◌, ◌||◌, not, [], ◌∷◌, eqb}
use Rattle.molang.specs.Operator
use Rattle.molang.specs.Operator.{is_one_of}
use Rattle.molang.specs.Forest.{Forest, nil, node}
use Rattle.molang.specs.Calls.{query_or_loop, math, calls}
use Rattle.molang.specs.Order.{Pass, last_token, member_accessors, sectioning, call_pass, statements, arrays, pointer, math_calls}
use Rattle.molang.specs.Order.{unary_minus_and_not, addition, conditional, returns, binary}

-- The list has no trees.
unfoldable pub is_nil : Forest → Bool
is_nil nil = true
is_nil (node k cs rest) = false

-- No leaf at any depth has an operator that passes P.
unfoldable pub free : (ℕ → Bool) → Forest → Bool
free P nil = true
free P (node k nil rest) = not (P k.op) && free P rest
free P (node k (node c cs r) rest) = free P (node c cs r) && free P rest

-- No tree of the list itself is such a leaf.
unfoldable pub clear : (ℕ → Bool) → Forest → Bool
clear P nil = true
clear P (node k nil rest) = not (P k.op) && clear P rest
clear P (node k (node c cs r) rest) = clear P rest

-- A list of tokens: no tree has children.
unfoldable pub tokens_only : Forest → Bool
tokens_only nil = true
tokens_only (node k nil rest) = tokens_only rest
tokens_only (node k (node c cs r) rest) = false

-- The list before its sections are made: only member accessors have children.
unfoldable pub flat : Forest → Bool
flat nil = true
flat (node k nil rest) = flat rest
flat (node k (node c cs r) rest) = eqb k.op Operator.member_accessor && flat rest

-- The token of the statement pass.
unfoldable pub is_semicolon : ℕ → Bool
is_semicolon n = eqb n Operator.semicolon

-- The token of the array pass.
unfoldable pub is_array_name : ℕ → Bool
is_array_name n = eqb n Operator.array_variable

-- The tokens of the unary pass.
unfoldable pub is_prefix : ℕ → Bool
is_prefix n = eqb n Operator.negate || eqb n Operator.logical_not

-- The tokens of the conditional pass.
unfoldable pub is_conditional : ℕ → Bool
is_conditional n = eqb n Operator.conditional || eqb n Operator.conditional_else

-- The token of the return pass.
unfoldable pub is_return : ℕ → Bool
is_return n = eqb n Operator.return

-- The operators whose leaves a pass works on: the classes that a mask of the Rust stands for. The check of the last token works on none.
unfoldable pub operators_of : Pass → ℕ → Bool
operators_of last_token = is_one_of []
operators_of member_accessors = is_one_of (Operator.member_accessor ∷ [])
operators_of sectioning = is_one_of (Operator.left_brace ∷ Operator.left_bracket ∷ Operator.left_parenthesis ∷ [])
operators_of call_pass = calls query_or_loop
operators_of statements = is_semicolon
operators_of arrays = is_array_name
operators_of pointer = is_one_of (Operator.pointer ∷ [])
operators_of math_calls = calls math
operators_of unary_minus_and_not = is_prefix
operators_of addition = is_one_of (Operator.add ∷ [])
operators_of conditional = is_conditional
operators_of returns = is_return
operators_of (binary ops) = is_one_of ops

-- The lists that a pass works on. The check of the last token works on none: it asks for a token and makes no node. Member accessors are
-- read in the list of tokens, sections are made in a flat list, and every other pass goes through any list.
unfoldable pub works_on : Pass → Forest → Bool
works_on last_token f = false
works_on member_accessors f = tokens_only f
works_on sectioning f = flat f
works_on call_pass f = true
works_on statements f = true
works_on arrays f = true
works_on pointer f = true
works_on math_calls f = true
works_on unary_minus_and_not f = true
works_on addition f = true
works_on conditional f = true
works_on returns f = true
works_on (binary ops) f = true
