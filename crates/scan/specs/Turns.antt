-- THE WALK, as a function of its state: tokens are read from the last to the first, and each is one turn. An operand is wanted, or one has
-- been read. A word of the stack is an operator's (its grade from bit 27 on, below bit 26 the record that it becomes), that of a `:` that
-- waits for its `?` (bit 26 alone above the record), or a closer's (its number from bit 15 on, its place below); the lowest is the whole
-- list's. The walk gives up where it does not read a list; nothing is said of such a list.
use Rattle.std.specs.Prelude.{ℕ, ◌+◌, ◌*◌, ◌-◌, ◌/◌, ◌%◌, Bool, true, false, ◌&&◌, ◌||◌, List, [], ◌∷◌, eqb, leb, ltb}
use Rattle.molang.specs.Operator
use Rattle.molang.specs.Forest.{Token}
use Rattle.scan.specs.Entries.{token_at}
use Rattle.scan.specs.Views.{View, top_word, read_from, pushed, popped, laid, taken, settled}

-- What a walk is given: the list's tokens, the used set, and the table's entry of an operator's number.
pub record Walking : Type 0 where
  pub tokens : List Token
  pub used : ℕ → Bool
  pub entry : ℕ → ℕ

-- An operand is wanted; one has been read; the list is read; the walk gives up.
pub data Turning : Type 0 where
  want have done : View → Turning
  gives_up : Turning

-- ---- what stands at a place

unfoldable pub op_of_place : Walking → ℕ → ℕ
op_of_place g at = (token_at g.tokens at).op

-- The operator before a place; the list begins as if after an opening bracket.
unfoldable pub op_before : Walking → ℕ → ℕ
op_before g at = elim (eqb at 0) [ true ↦ Operator.left_parenthesis | false ↦ op_of_place g (at - 5) ]

-- The used set has the operator; a host's has no bit.
unfoldable pub is_let : Walking → ℕ → Bool
is_let g n = leb 111 n || g.used n

-- What an entry says of its operator where an operand is wanted, and where one has been read; what a minus after it is; how it is called;
-- its grade, in the place that it has in a word of the stack.
unfoldable pub want_class : ℕ → ℕ
want_class e = e % 8

unfoldable pub have_class : ℕ → ℕ
have_class e = e / 8 % 16

unfoldable pub minus_class : ℕ → ℕ
minus_class e = e / 128 % 4

unfoldable pub call_class : ℕ → ℕ
call_class e = e / 512 % 4

unfoldable pub grade_bits : ℕ → ℕ
grade_bits e = e / 134217728 * 134217728

-- ---- an operand has been read

-- An operator: those from a number on are settled, then it waits. A `:` may not be left over below what binds looser.
unfoldable pub operator_turn : ℕ → ℕ → ℕ → View → Turning
operator_turn at word from v =
    elim (eqb (top_word (settled from v).stack / 67108864 % 2) 1 && leb from 671088640)
    [ true ↦ gives_up | false ↦ want (pushed (at + word) (read_from at (settled from v))) ]

unfoldable pub wait_turn : ℕ → ℕ → View → Turning
wait_turn at word v = want (pushed (at + word) (read_from at v))

-- A `?` where conditionals pair to the right: it takes the `:` that waits on top.
unfoldable pub question_turn : ℕ → View → Turning
question_turn at v =
    elim (eqb (top_word (settled 805306368 v).stack / 67108864 % 2) 1) [
      | true ↦ wait_turn at 805830656 (taken (settled 805306368 v))
      | false ↦ wait_turn at 805830656 (settled 805306368 v)
    ]

-- A minus or not before its operand.
unfoldable pub prefix_turn : ℕ → View → Turning
prefix_turn at v = have (laid (at + 262144) (read_from at v))

-- A minus between operands: the minus that it leaves is laid down over what has been read, then the plus that it is waits.
unfoldable pub subtract_turn : ℕ → View → Turning
subtract_turn at v = operator_turn at 2013822976 2147483648 (laid (at + 327680) v)

-- The token before is a minus, too, and the one before that ends an operand.
unfoldable pub is_doubled : Walking → ℕ → Bool
is_doubled g at = ltb 5 at && (eqb (op_of_place g (at - 5)) Operator.negate && eqb (minus_class (g.entry (op_of_place g (at - 10)))) 2)

unfoldable pub minus_turn : Walking → ℕ → View → Turning
minus_turn g at v =
    elim (eqb (minus_class (g.entry (op_before g at))) 1) [
      | true ↦ prefix_turn at v
      | false ↦
          elim (eqb (minus_class (g.entry (op_before g at))) 2) [
            | true ↦ subtract_turn at v
            | false ↦ elim (is_doubled g at) [ true ↦ operator_turn (at - 5) 2013822976 2147483648 v | false ↦ gives_up ]
          ]
    ]

-- A closed section, with its child's bit: its closer, which waits on top, waits no more.
unfoldable pub section_laid : ℕ → ℕ → View → View
section_laid child at v = laid (2147483648 + child + top_word v.stack % 32768 * 32768 + at) (read_from at (popped v))

-- The name before it, over it.
unfoldable pub call_laid : ℕ → View → View
call_laid at v = laid (at - 5 + 262144) (read_from (at - 5) v)

-- A section that no name before it takes.
unfoldable pub is_plain : Walking → ℕ → ℕ → Bool
is_plain g op at = eqb op Operator.left_brace || eqb (call_class (g.entry (op_before g at))) 0

-- The name before the place is one of a query or a math call, and used.
unfoldable pub is_callable : Walking → ℕ → Bool
is_callable g at = ltb 0 at && (eqb (call_class (g.entry (op_of_place g (at - 5))) % 2) 1 && is_let g (op_of_place g (at - 5)))

-- What an opener closes from the right, once everything in it is settled.
unfoldable pub opened_turn : Walking → ℕ → ℕ → View → Turning
opened_turn g op at v =
    elim (is_plain g op at) [
      | true ↦ have (section_laid 1073741824 at v)
      | false ↦ elim (is_callable g at) [ true ↦ have (call_laid at (section_laid 1073741824 at v)) | false ↦ gives_up ]
    ]

-- An opener of a block or a bracket: the closer that waits below the operators must be its own.
unfoldable pub opener_turn : Walking → ℕ → ℕ → View → Turning
opener_turn g op at v =
    elim (eqb op Operator.left_bracket) [
      | true ↦ gives_up
      | false ↦
          elim (eqb (top_word (settled 268435456 v).stack / 32768) (op + 1))
          [ true ↦ opened_turn g op at (settled 268435456 v) | false ↦ gives_up ]
    ]

-- A token after which an operand has been read, by its class.
unfoldable pub have_by : Walking → ℕ → ℕ → View → Turning
have_by g class at v =
    elim (eqb class 1) [
      | true ↦ operator_turn at (524288 + grade_bits (g.entry (op_of_place g at))) (grade_bits (g.entry (op_of_place g at)) + 134217728) v
      | false ↦
          elim (eqb class 2) [
            | true ↦ opener_turn g (op_of_place g at) at v
            | false ↦
                elim (eqb class 3) [
                  | true ↦ minus_turn g at v
                  | false ↦
                      elim (eqb class 4) [
                        | true ↦ prefix_turn at v
                        | false ↦
                            elim (eqb class 7) [
                              | true ↦ question_turn at v
                              | false ↦ elim (eqb class 8) [ true ↦ operator_turn at 67633152 805306368 v | false ↦ gives_up ]
                            ]
                      ]
                ]
          ]
    ]

-- The list's start is reached: everything is settled, and nothing waits but the list itself.
unfoldable pub end_turn : View → Turning
end_turn v =
    elim (eqb (top_word (settled 268435456 v).stack / 32768) 7) [ true ↦ done (settled 268435456 v) | false ↦ gives_up ]

unfoldable pub have_turn : Walking → View → Turning
have_turn g v =
    elim (eqb v.left 0) [
      | true ↦ end_turn v
      | false ↦
          elim (is_let g (op_of_place g (v.left - 5)))
          [ true ↦ have_by g (have_class (g.entry (op_of_place g (v.left - 5)))) (v.left - 5) v | false ↦ gives_up ]
    ]

-- ---- an operand is wanted

unfoldable pub leaf_turn : ℕ → View → Turning
leaf_turn at v = have (laid at (read_from at v))

-- A closer waits for its opener.
unfoldable pub closer_turn : ℕ → ℕ → View → Turning
closer_turn op at v = want (pushed (at + op * 32768) (read_from at v))

-- A bracket with nothing in it is a math call's.
unfoldable pub is_empty_call : Walking → ℕ → View → Bool
is_empty_call g at v =
    eqb (top_word v.stack / 32768) Operator.right_parenthesis
    && (ltb 0 at && (eqb (call_class (g.entry (op_of_place g (at - 5)))) 3 && is_let g (op_of_place g (at - 5))))

unfoldable pub empty_turn : Walking → ℕ → View → Turning
empty_turn g at v = elim (is_empty_call g at v) [ true ↦ have (call_laid at (section_laid 0 at v)) | false ↦ gives_up ]

-- A token where an operand is wanted, by its class.
unfoldable pub want_by : Walking → ℕ → ℕ → View → Turning
want_by g class at v =
    elim (eqb class 1) [
      | true ↦ leaf_turn at v
      | false ↦
          elim (eqb class 2) [
            | true ↦ closer_turn (op_of_place g at) at v
            | false ↦ elim (eqb class 5) [ true ↦ empty_turn g at v | false ↦ gives_up ]
          ]
    ]

unfoldable pub want_turn : Walking → View → Turning
want_turn g v =
    elim (eqb v.left 0) [
      | true ↦ gives_up
      | false ↦
          elim (is_let g (op_of_place g (v.left - 5)))
          [ true ↦ want_by g (want_class (g.entry (op_of_place g (v.left - 5)))) (v.left - 5) v | false ↦ gives_up ]
    ]

-- ---- the walk

-- One turn.
unfoldable pub turned_once : Walking → Turning → Turning
turned_once g (want v) = want_turn g v
turned_once g (have v) = have_turn g v
turned_once g (done v) = done v
turned_once g gives_up = gives_up

-- THE WALK comes from one answer to another, by turns.
pub data Walks (g : Walking) (a : Turning) : Turning → Type 0 where
  stays : Walks g a a
  goes : {b : Turning} → Walks g a b → Walks g a (turned_once g b)

-- Where it starts: behind the last token, nothing read, and only the list itself waits.
unfoldable pub start : ℕ → View
start words = record { left = words; stack = 229376 ∷ []; records = [] }
