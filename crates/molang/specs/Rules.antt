-- Which rule made a node (document 02, card 5): the pass that first gave it children. The passes look at operators only, so a copy of the
-- list is read in which the payload value of each node is the number of its rule, 0 as long as it has none.
use Rattle.std.specs.Prelude.{ℕ, ◌*◌, ◌/◌, Bool, true, false, List, [], ◌∷◌, ◌++◌, eqb, leb, ℤ, length}
use Rattle.std.proofs.Math.Option.{Option, none, some}
use Rattle.molang.specs.Operator
use Rattle.molang.specs.Forest.{Token, Forest, nil, node, leaves}
use Rattle.molang.specs.Message.{ok, fail}
use Rattle.molang.specs.Order.{rules, Pass, last_token, member_accessors, sectioning, call_pass, statements, arrays, pointer, math_calls}
use Rattle.molang.specs.Order.{unary_minus_and_not, addition, conditional, returns, binary, order, runs, apply}
use Rattle.molang.specs.Read.{Answer, tree, messages}
use Rattle.molang.specs.FirstFailure.{must, first_of}
use Rattle.molang.specs.Words.{Refusal, row, tokens_of}
use Rattle.molang.specs.Parse.{Call, Told, told, length_rows, value_rows, reading, in_halves, in_front, tree_in, messages_in, work_in}

-- The number beside n in a table, 0 where n is not in it.
unfoldable pub number_beside : ℕ → List (ℕ × ℕ) → ℕ
number_beside n [] = 0
number_beside n (entry ∷ entries) = elim (eqb entry.0 n) [ true ↦ entry.1 | false ↦ number_beside n entries ]

-- The numbers of the levels of one binary operator: below version 6 each comparison and each equality is one of them, and below 5 each
-- half of the conditional.
abbrev pub level_numbers : List (ℕ × ℕ)
level_numbers =
    (Operator.div, 9) ∷ (Operator.mul, 10)
    ∷ (Operator.less_than, 12) ∷ (Operator.less_equal, 12) ∷ (Operator.greater_equal, 12) ∷ (Operator.greater_than, 12)
    ∷ (Operator.logical_equal, 12) ∷ (Operator.logical_not_equal, 12)
    ∷ (Operator.logical_and, 14) ∷ (Operator.logical_or, 15) ∷ (Operator.conditional, 16) ∷ (Operator.conditional_else, 16)
    ∷ (Operator.null_coalescing, 17) ∷ (Operator.comma, 18) ∷ (Operator.assignment, 19) ∷ []

-- The number of a binary level: both equalities together are 13, the four comparisons together 12.
unfoldable pub binary_rule : List ℕ → ℕ
binary_rule [] = 0
binary_rule (o ∷ []) = number_beside o level_numbers
binary_rule (o ∷ p ∷ ops) = elim (eqb o Operator.logical_equal) [ true ↦ 13 | false ↦ 12 ]

-- The number of a pass, as the card has them; the look at the last token gives no node children.
unfoldable pub rule_of : Pass → ℕ
rule_of last_token = 0
rule_of member_accessors = 1
rule_of sectioning = 2
rule_of call_pass = 3
rule_of statements = 4
rule_of arrays = 5
rule_of pointer = 6
rule_of math_calls = 7
rule_of unary_minus_and_not = 8
rule_of addition = 11
rule_of conditional = 16
rule_of returns = 20
rule_of (binary ops) = binary_rule ops

-- A token of the copy with the number n.
unfoldable pub with_rule_number : ℕ → Token → Token
with_rule_number n k = record { op = k.op; variant = 0; value = n; start = k.start; end = k.end; close = k.close }

-- A token of the copy: it has no rule yet.
unfoldable pub unruled : Token → Token
unruled k = with_rule_number 0 k

-- A token of the copy with the number n for its rule, if it has none yet.
unfoldable pub with_rule : ℕ → Token → Token
with_rule n k = elim (eqb k.value 0) [ true ↦ with_rule_number n k | false ↦ k ]

-- Every node that has children and no rule yet gets the number n.
unfoldable pub ruled : ℕ → Forest → Forest
ruled n nil = nil
ruled n (node k nil rest) = node k nil (ruled n rest)
ruled n (node k (node c cs more) rest) = node (with_rule n k) (ruled n (node c cs more)) (ruled n rest)

-- The passes over the copy, each of which that ran puts its number on. Where a pass fails no tree comes, and there is nothing to number.
unfoldable pub ruling : (ℕ → Bool) → List Pass → Forest → Forest
ruling u [] f = f
ruling u (p ∷ ps) f =
    elim (runs u p) [
      | false ↦ ruling u ps f
      | true ↦ elim (apply 0 p f) [ ok g ↦ ruling u ps (ruled (rule_of p) g) | fail m ↦ nil ]
    ]

-- The numbers of trees of the copy, in tree order: 0 for a leaf.
unfoldable pub rules_in : Forest → List ℕ
rules_in nil = []
rules_in (node k nil rest) = 0 ∷ rules_in rest
rules_in (node k (node c cs more) rest) = k.value ∷ (rules_in (node c cs more) ++ rules_in rest)

-- The copy of a list.
unfoldable pub copied : List Token → List Token
copied [] = []
copied (k ∷ ks) = unruled k ∷ copied ks

-- THE RULES of a list's tree, one number a node, in tree order.
unfoldable pub rules_of : List Token → (ℕ → Bool) → ℤ → List ℕ
rules_of tokens u version = rules_in (ruling u (order (rules version)) (leaves (copied tokens)))

-- A call of the parse entry with a rule buffer, of bytes.
pub record RuleCall : Type 0 where
  pub call : Call
  pub rules : List ℕ

-- The table with answer 16 after 5: three bytes a token.
unfoldable pub rule_refusal : RuleCall → Option Refusal
rule_refusal c =
    first_of
    (length_rows c.call ++ (must (leb (3 * (length c.call.list / 5)) (length c.rules)) (row 16 0) ∷ value_rows c.call))

-- THE ANSWER to a call with a rule buffer: as without it, under that table.
unfoldable pub rule_answered : RuleCall → Told
rule_answered c = told (rule_refusal c) (reading c.call)

-- THE TREE BUFFER after it.
unfoldable pub ruled_tree_after : RuleCall → List ℕ
ruled_tree_after c = tree_in (rule_refusal c) (reading c.call) c.call.tree

-- THE MESSAGE BUFFER after it.
unfoldable pub ruled_messages_after : RuleCall → List ℕ
ruled_messages_after c = messages_in (rule_refusal c) (reading c.call) c.call.messages

-- THE WORK BUFFER after it.
unfoldable pub ruled_work_after : RuleCall → List ℕ
ruled_work_after c = work_in (rule_refusal c) c.call.work

-- The numbers fill the front of the rule buffer where a tree comes; messages and refusals leave it as it was.
unfoldable pub rules_for : Option Refusal → Answer → List ℕ → List ℕ → List ℕ
rules_for (some r) a numbers buffer = buffer
rules_for none (tree k cs) numbers buffer = in_front numbers buffer
rules_for none (messages ms) numbers buffer = buffer

-- THE RULE BUFFER after it.
unfoldable pub rules_after : RuleCall → List ℕ
rules_after c =
    let numbers = rules_of (tokens_of c.call.list) (in_halves c.call.used_low c.call.used_high) c.call.version in
    rules_for (rule_refusal c) (reading c.call) numbers c.rules
