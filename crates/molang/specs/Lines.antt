-- The table of lines: what the numbers of src/lines.rt say, and that each line is answered as it says. A line asks something of an entry
-- and says what is answered. What is told is compared, and all words of the lent tree, message and work buffers, or of the lent list.
use Rattle.std.specs.Prelude.{◌≡◌, ℕ, ◌+◌, ◌-◌, ◌*◌, ◌/◌, ◌%◌, ◌^◌, true, false, List, [], ◌∷◌, ◌++◌, eqb, leb, ltb, ℤ, pos, negsuc, length, take, replicate}
use Rattle.molang.specs.Forest.{Token}
use Rattle.molang.specs.Read.{uses, set_number}
use Rattle.molang.specs.Words.{word, operator_bits, list_words}
use Rattle.molang.specs.Parse.{Call, most_tokens, Told, a_tree, some_messages, refused, answered, in_front, tree_after, messages_after}
use Rattle.molang.specs.Parse.{work_after}
use Rattle.molang.specs.WriteEntry.{WriteCall, WriteTold, tokens, unwritten, write_answered, list_after}

-- The marks, as src/lines.rt names them. A number from `any_mark` on is a mark, and the numbers after it up to the next mark are its items;
-- a mark below `tree_mark` asks, and the others answer. `any_mark`: a list to be read at 4, 5 and 6.
abbrev pub any_mark : ℕ
any_mark = 1000000000

-- A tree to be written.
abbrev pub write_mark : ℕ
write_mark = 1000000001

-- A number of words 0.
abbrev pub zeros_mark : ℕ
zeros_mark = 1000000002

-- A number of tokens of one operator.
abbrev pub repeated_mark : ℕ
repeated_mark = 1000000003

-- A list to be read at a version, whose 16 bits are added to the mark.
abbrev pub at_mark : ℕ
at_mark = 1100000000

-- A list to be read at 6 with a nesting limit, which is added to the mark.
abbrev pub within_mark : ℕ
within_mark = 1200000000

-- A tree is answered.
abbrev pub tree_mark : ℕ
tree_mark = 2000000000

-- A message is answered.
abbrev pub message_mark : ℕ
message_mark = 2000000001

-- A written list is answered.
abbrev pub list_mark : ℕ
list_mark = 2000000002

-- The call is turned back.
abbrev pub refused_mark : ℕ
refused_mark = 2000000003

-- A mark with its items.
pub record Marked : Type 0 where
  pub mark : ℕ
  pub items : List ℕ

-- What is asked, and the answers, which are several marks for two messages.
pub record Line : Type 0 where
  pub asked : Marked
  pub answers : List Marked

-- The items in front of the next mark.
unfoldable pub items_of : List ℕ → List ℕ
items_of [] = []
items_of (n ∷ ns) = elim (leb any_mark n) [ true ↦ [] | false ↦ n ∷ items_of ns ]

-- The marks of a table, each with its items.
unfoldable pub marks_of : List ℕ → List Marked
marks_of [] = []
marks_of (n ∷ ns) = elim (leb any_mark n) [ true ↦ record { mark = n; items = items_of ns } ∷ marks_of ns | false ↦ marks_of ns ]

-- The answers in front of the next mark that asks.
unfoldable pub answers_of : List Marked → List Marked
answers_of [] = []
answers_of (m ∷ ms) = elim (leb tree_mark m.mark) [ true ↦ m ∷ answers_of ms | false ↦ [] ]

-- The lines of a table: each mark that asks, with its answers.
unfoldable pub lines_of : List Marked → List Line
lines_of [] = []
lines_of (m ∷ ms) = elim (leb tree_mark m.mark) [ true ↦ lines_of ms | false ↦ record { asked = m; answers = answers_of ms } ∷ lines_of ms ]

-- WHAT IS ASKED. A list is given by its operators: payload 0, the i-th token at the span i to i + 1.
unfoldable pub tokens_from : ℕ → List ℕ → List Token
tokens_from i [] = []
tokens_from i (o ∷ os) = record { op = o; variant = 0; value = 0; start = i; end = i + 1; close = i + 1 } ∷ tokens_from (i + 1) os

-- A call for n tokens: buffers just as long as the entry asks, and a source of length n. The work buffer is of ones and the others are of
-- zeros: a work buffer that was cleared differs from one that was left as it was.
unfoldable pub call_for : ℕ → List ℕ → ℕ → ℤ → ℕ → Call
call_for n list used version limit =
    record {
      list = list;
      tree = replicate (21 * n) 0;
      messages = replicate 16 0;
      work = replicate (64 * n + 64) 1;
      source_length = n;
      version = version;
      used_low = used % 2 ^ 64;
      used_high = used / 2 ^ 64;
      limit = limit;
    }

-- The list of these operators, read at a version under its exact used set with a nesting limit.
unfoldable pub limited_call : List ℕ → ℤ → ℕ → Call
limited_call os version limit = call_for (length os) (list_words (tokens_from 0 os)) (set_number (uses (tokens_from 0 os)) 111) version limit

-- The same with the highest limit.
unfoldable pub list_call : List ℕ → ℤ → Call
list_call os version = limited_call os version most_tokens

-- Where a node of the table closes: at the digit in front of its other eight, or at its own end.
unfoldable pub close_in : ℕ → ℕ
close_in n = elim (ltb n 100000000) [ true ↦ n % 100 | false ↦ n / 100000000 ]

-- A tree node is op_c_ss_ee in decimal digits: operator (at most three digits), child count (one digit), span start and end (two digits
-- each); payload 0. A closed section is z_ooo_c_ss_ee, z being the end of its closer.
unfoldable pub node_words : List ℕ → List ℕ
node_words [] = []
node_words (n ∷ ns) =
    let m = n % 100000000 in
    word 1 (operator_bits (m / 100000) 0)
    ∷ word 2 (m / 100 % 100)
    ∷ word 3 (m % 100)
    ∷ word 4 0
    ∷ word 5 0
    ∷ word 6 (m / 10000 % 10)
    ∷ word 7 (close_in n)
    ∷ node_words ns

-- A tree to be written, and room for the three tokens that a node can bring.
unfoldable pub tree_call : List ℕ → WriteCall
tree_call ns = record { tree = node_words ns; list = replicate (15 * length ns) 0 }

-- A version is 16 bits in two's complement.
unfoldable pub version_of : ℕ → ℤ
version_of n = elim (ltb n 32768) [ true ↦ pos n | false ↦ negsuc (65535 - n) ]

-- The calls of a line; none where its items are not those of its mark.
pub data Asked : Type 0 where
  parse : List Call → Asked
  write : WriteCall → Asked
  unclear : Asked

-- So many words 0.
unfoldable pub zeros_call : List ℕ → Asked
zeros_call [] = unclear
zeros_call (n ∷ []) = parse (call_for (n / 5) (replicate n 0) 0 (pos 6) most_tokens ∷ [])
zeros_call (n ∷ m ∷ ms) = unclear

-- So many tokens of one operator, all at the span 0 to 0.
unfoldable pub repeated_call : List ℕ → Asked
repeated_call [] = unclear
repeated_call (n ∷ []) = unclear
repeated_call (n ∷ o ∷ []) =
    let k : Token = record { op = o; variant = 0; value = 0; start = 0; end = 0; close = 0 } in
    parse (call_for n (list_words (replicate n k)) (2 ^ o) (pos 6) most_tokens ∷ [])
repeated_call (n ∷ o ∷ m ∷ ms) = unclear

-- A line that names neither a version nor a limit is read at 4, 5 and 6.
unfoldable pub asked_of : Marked → Asked
asked_of m =
    elim (leb within_mark m.mark) [
      | true ↦ parse (limited_call m.items (pos 6) (m.mark - within_mark) ∷ [])
      | false ↦
          elim (leb at_mark m.mark) [
            | true ↦ parse (list_call m.items (version_of (m.mark - at_mark)) ∷ [])
            | false ↦
                elim (eqb m.mark any_mark) [
                  | true ↦ parse (list_call m.items (pos 4) ∷ list_call m.items (pos 5) ∷ list_call m.items (pos 6) ∷ [])
                  | false ↦
                      elim (eqb m.mark write_mark) [
                        | true ↦ write (tree_call m.items)
                        | false ↦ elim (eqb m.mark zeros_mark) [ true ↦ zeros_call m.items | false ↦ repeated_call m.items ]
                      ]
                ]
          ]
    ]

-- WHAT IS ANSWERED: what the caller is told, and the words of the lent tree and message buffers or of the lent list.
pub data Outcome : Type 0 where
  parsed : Told → List ℕ → List ℕ → Outcome
  wrote : WriteTold → List ℕ → Outcome
  unreadable : Outcome

-- A message is number_ss_ee, and after it the arguments up to the last that is not 0.
unfoldable pub record_of : List ℕ → List ℕ
record_of [] = []
record_of (n ∷ arguments) = n / 10000 ∷ n / 100 % 100 ∷ n % 100 ∷ take 5 (arguments ++ replicate 5 0)

-- The records of the messages, one after another.
unfoldable pub records_of : List Marked → List ℕ
records_of [] = []
records_of (m ∷ ms) = record_of m.items ++ records_of ms

-- A written token is op_ss_ee.
unfoldable pub written_of : List ℕ → List Token
written_of [] = []
written_of (n ∷ ns) = record { op = n / 10000; variant = 0; value = 0; start = n / 100 % 100; end = n % 100; close = n % 100 } ∷ written_of ns

-- A refusal is its number and place.
unfoldable pub refusal_of : (ℕ → ℕ → Outcome) → List ℕ → Outcome
refusal_of told [] = unreadable
refusal_of told (n ∷ []) = unreadable
refusal_of told (n ∷ place ∷ []) = told n place
refusal_of told (n ∷ place ∷ m ∷ ms) = unreadable

-- What the answers of a line say of a call of the parse entry.
unfoldable pub wanted_of : List Marked → Call → Outcome
wanted_of [] c = unreadable
wanted_of (m ∷ ms) c =
    elim (eqb m.mark tree_mark) [
      | true ↦ parsed (a_tree (length m.items)) (in_front (node_words m.items) c.tree) c.messages
      | false ↦
          elim (eqb m.mark message_mark) [
            | true ↦ parsed (some_messages (length (m ∷ ms))) c.tree (in_front (records_of (m ∷ ms)) c.messages)
            | false ↦ refusal_of (λ n place. parsed (refused n place) c.tree c.messages) m.items
          ]
    ]

-- What the answer of a line says of a call of the write entry.
unfoldable pub write_wanted_of : List Marked → WriteCall → Outcome
write_wanted_of [] c = unreadable
write_wanted_of (m ∷ ms) c =
    elim (eqb m.mark list_mark) [
      | true ↦ wrote (tokens (length m.items)) (in_front (list_words (written_of m.items)) c.list)
      | false ↦ refusal_of (λ n place. wrote (unwritten n place) c.list) m.items
    ]

-- What the definition gives for a call of the parse entry.
unfoldable pub parsed_by : Call → Outcome
parsed_by c = parsed (answered c) (tree_after c) (messages_after c)

-- What it gives for a call of the write entry.
unfoldable pub wrote_by : WriteCall → Outcome
wrote_by c = wrote (write_answered c) (list_after c)

-- What a call with this outcome leaves in the work buffer: 0 in every word after a tree or messages, and what it held after a refusal.
unfoldable pub work_left : Outcome → List ℕ → List ℕ
work_left (parsed (a_tree n) tree messages) work = replicate (length work) 0
work_left (parsed (some_messages n) tree messages) work = replicate (length work) 0
work_left (parsed (refused n place) tree messages) work = work
work_left (wrote told list) work = work
work_left unreadable work = work

-- An outcome and a work buffer of the definition beside those that a line wants; a writing has no work buffer.
pub record Compared : Type 0 where
  pub given : Outcome
  pub wanted : Outcome
  pub work : List ℕ
  pub wanted_work : List ℕ

-- A line's calls of the parse entry, one after another.
unfoldable pub compared_calls : List Marked → List Call → List Compared
compared_calls ms [] = []
compared_calls ms (c ∷ cs) =
    record { given = parsed_by c; wanted = wanted_of ms c; work = work_after c; wanted_work = work_left (wanted_of ms c) c.work }
    ∷ compared_calls ms cs

-- All that a line compares. What is not clear is compared with something else, so that it does not hold.
unfoldable pub compared : List Marked → Asked → List Compared
compared ms (parse cs) = compared_calls ms cs
compared ms (write c) = record { given = wrote_by c; wanted = write_wanted_of ms c; work = []; wanted_work = [] } ∷ []
compared ms unclear = record { given = unreadable; wanted = parsed (a_tree 0) [] []; work = []; wanted_work = [] } ∷ []

-- All that the lines compare.
unfoldable pub all_compared : List Line → List Compared
all_compared [] = []
all_compared (l ∷ ls) = compared l.answers (asked_of l.asked) ++ all_compared ls

-- What the definition gives, line by line.
unfoldable pub givens : List Compared → List Outcome
givens [] = []
givens (c ∷ cs) = c.given ∷ givens cs

-- What the lines want.
unfoldable pub wanteds : List Compared → List Outcome
wanteds [] = []
wanteds (c ∷ cs) = c.wanted ∷ wanteds cs

-- The work buffers of the definition, line by line.
unfoldable pub works : List Compared → List (List ℕ)
works [] = []
works (c ∷ cs) = c.work ∷ works cs

-- Those that the lines want.
unfoldable pub wanted_works : List Compared → List (List ℕ)
wanted_works [] = []
wanted_works (c ∷ cs) = c.wanted_work ∷ wanted_works cs

-- The number of lines.
unfoldable pub line_count : List ℕ → ℕ
line_count table = length (lines_of (marks_of table))

-- Every line of the table is answered as it says.
unfoldable pub Answered : List ℕ → Type 0
Answered table = givens (all_compared (lines_of (marks_of table))) ≡ wanteds (all_compared (lines_of (marks_of table)))

-- Every line's calls leave the work buffer as the line says.
unfoldable pub WorkAnswered : List ℕ → Type 0
WorkAnswered table = works (all_compared (lines_of (marks_of table))) ≡ wanted_works (all_compared (lines_of (marks_of table)))
