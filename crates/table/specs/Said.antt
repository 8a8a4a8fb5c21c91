-- The text of each line of the table: the list or tree that it asks for, and the version or the limit. Bytes are ASCII.
use Rattle.std.specs.Prelude.{ℕ, ◌+◌, ◌-◌, ◌/◌, ◌%◌, true, false, List, [], ◌∷◌, ◌++◌, eqb, leb, ltb, ℤ, pos, negsuc, get_or}
use Prim.Native.String.{String}
use Rattle.molang.specs.Operator.{
  left_brace,
  right_brace,
  left_bracket,
  right_bracket,
  left_parenthesis,
  right_parenthesis,
  negate,
  logical_not,
  add,
  div,
  mul,
  sin,
  query_function,
  array_variable,
  entity_variable,
  member_accessor,
  less_than,
  less_equal,
  greater_equal,
  greater_than,
  logical_equal,
  logical_not_equal,
  logical_or,
  logical_and,
  null_coalescing,
  conditional,
  conditional_else,
  float,
  continue,
  assignment,
  pointer,
  semicolon,
  return,
  comma,
}
use Rattle.molang.specs.Lines.{Line, any_mark, write_mark, zeros_mark, repeated_mark, at_mark, within_mark, version_of, marks_of, lines_of}
use Rattle.text.specs.Text.{ascii, decimal, numbered, space, line_end}

-- OPERATORS. The text that a table has beside an operator, or another text if it has none.
unfoldable pub text_in : List (ℕ × String) → ℕ → List ℕ → List ℕ
text_in [] op other = other
text_in ((o, s) ∷ rest) op other = elim (eqb op o) [ true ↦ ascii s | false ↦ text_in rest op other ]

-- The operators that a line names by a sign or a word; an operand of a tree is `a`.
unfoldable pub signs : List (ℕ × String)
signs =
    (left_brace, "{")
    ∷ (right_brace, "}")
    ∷ (left_bracket, "[")
    ∷ (right_bracket, "]")
    ∷ (left_parenthesis, "(")
    ∷ (right_parenthesis, ")")
    ∷ (logical_not, "!")
    ∷ (semicolon, ";")
    ∷ (comma, ",")
    ∷ (member_accessor, ".")
    ∷ (pointer, "->")
    ∷ (negate, "-")
    ∷ (add, "+")
    ∷ (div, "/")
    ∷ (mul, "*")
    ∷ (less_than, "<")
    ∷ (less_equal, "<=")
    ∷ (greater_equal, ">=")
    ∷ (greater_than, ">")
    ∷ (logical_equal, "==")
    ∷ (logical_not_equal, "!=")
    ∷ (logical_or, "||")
    ∷ (logical_and, "&&")
    ∷ (null_coalescing, "??")
    ∷ (conditional, "?")
    ∷ (conditional_else, ":")
    ∷ (assignment, "=")
    ∷ (float, "a")
    ∷ (sin, "sin")
    ∷ (query_function, "query")
    ∷ (array_variable, "array")
    ∷ (entity_variable, "variable")
    ∷ (continue, "continue")
    ∷ (return, "return")
    ∷ []

-- An operator as it is written, or its number.
unfoldable pub operator_text : ℕ → List ℕ
operator_text op = text_in signs op (decimal op)

-- LISTS. The n-th operand: a letter from a to z.
unfoldable pub operand_text : ℕ → List ℕ
operand_text n = get_or (ascii "abcdefghijklmnopqrstuvwxyz") (n % 26) 0 ∷ []

-- An operator of a list, before which so many operands stand.
unfoldable pub named_text : ℕ → ℕ → List ℕ
named_text operands op = elim (eqb op float) [ true ↦ operand_text operands | false ↦ operator_text op ]

-- The same with a space after it.
unfoldable pub item_text : ℕ → ℕ → List ℕ
item_text operands op = named_text operands op ++ ascii " "

-- How many operands stand before the next.
unfoldable pub operands_after : ℕ → ℕ → ℕ
operands_after operands op = elim (eqb op float) [ true ↦ operands + 1 | false ↦ operands ]

-- The operators from there on.
unfoldable pub items_text : ℕ → List ℕ → List ℕ
items_text operands [] = []
items_text operands (op ∷ ops) = item_text operands op ++ items_text (operands_after operands op) ops

-- A list.
unfoldable pub list_text : List ℕ → List ℕ
list_text [] = ascii "no tokens "
list_text (op ∷ ops) = items_text 0 (op ∷ ops)

-- TREES. A count of children, if there are some.
unfoldable pub children_text : ℕ → List ℕ
children_text n = elim (eqb n 0) [ true ↦ [] | false ↦ ascii "/" ++ decimal n ]

-- A node, which is op_c_ss_ee in decimal digits, with the end of its closer in front if it is a closed section.
unfoldable pub node_text : ℕ → List ℕ
node_text node = operator_text (node / 100000 % 1000) ++ children_text (node / 10000 % 10) ++ ascii " "

-- The nodes of a tree, parent first.
unfoldable pub tree_text : List ℕ → List ℕ
tree_text [] = []
tree_text (node ∷ nodes) = node_text node ++ tree_text nodes

-- WHAT A LINE ASKS. A version as a number.
unfoldable pub integer_text : ℤ → List ℕ
integer_text (pos n) = decimal n
integer_text (negsuc n) = ascii "-" ++ decimal (n + 1)

-- A version by its sixteen bits; more bits are none.
unfoldable pub version_text : ℕ → List ℕ
version_text bits = elim (ltb bits 65536) [ true ↦ integer_text (version_of bits) | false ↦ ascii "no version" ]

-- What a line asks whose mark or items are none that are known.
abbrev pub unknown_text : List ℕ
unknown_text = ascii "not known"

-- So many words 0.
unfoldable pub zeros_text : List ℕ → List ℕ
zeros_text [] = unknown_text
zeros_text (n ∷ []) = numbered n space ++ ascii "words 0"
zeros_text (n ∷ m ∷ ms) = unknown_text

-- So many tokens of one operator.
unfoldable pub repeated_text : List ℕ → List ℕ
repeated_text [] = unknown_text
repeated_text (n ∷ []) = unknown_text
repeated_text (n ∷ op ∷ []) = numbered n space ++ ascii "tokens " ++ operator_text op
repeated_text (n ∷ op ∷ m ∷ ms) = unknown_text

-- A list that is read at one version.
unfoldable pub read_at_text : List ℕ → ℕ → List ℕ
read_at_text operators bits = list_text operators ++ ascii "at " ++ version_text bits

-- A list that is read with a nesting limit.
unfoldable pub read_within_text : List ℕ → ℕ → List ℕ
read_within_text operators limit = list_text operators ++ ascii "within " ++ decimal limit

-- A list that is read at 4, 5 and 6.
unfoldable pub read_at_all_text : List ℕ → List ℕ
read_at_all_text operators = list_text operators ++ ascii "at 4, 5 and 6"

-- A tree that is written.
unfoldable pub writing_text : List ℕ → List ℕ
writing_text nodes = ascii "writing " ++ tree_text nodes

-- A mark and its items, as molang's `asked_of` has them.
unfoldable pub asked_text : ℕ → List ℕ → List ℕ
asked_text mark items =
    elim (leb within_mark mark) [
      | true ↦ read_within_text items (mark - within_mark)
      | false ↦
          elim (leb at_mark mark) [
            | true ↦ read_at_text items (mark - at_mark)
            | false ↦
                elim (eqb mark any_mark) [
                  | true ↦ read_at_all_text items
                  | false ↦
                      elim (eqb mark write_mark) [
                        | true ↦ writing_text items
                        | false ↦
                            elim (eqb mark zeros_mark) [
                              | true ↦ zeros_text items
                              | false ↦ elim (eqb mark repeated_mark) [ true ↦ repeated_text items | false ↦ unknown_text ]
                            ]
                      ]
                ]
          ]
    ]

-- THE TEXT OF A LINE, and the line's end.
unfoldable pub line_text : Line → List ℕ
line_text line = asked_text line.asked.mark line.asked.items ++ (line_end ∷ [])

-- The lines one after another.
unfoldable pub lines_text : List Line → List ℕ
lines_text [] = []
lines_text (line ∷ lines) = line_text line ++ lines_text lines

-- The text of the table of these numbers.
unfoldable pub table_text : List ℕ → List ℕ
table_text numbers = lines_text (lines_of (marks_of numbers))
