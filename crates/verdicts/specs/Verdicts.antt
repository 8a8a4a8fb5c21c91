-- Whether a line is answered as it says: what the definition tells for the calls that the line asks for, and what it leaves in the lent
-- buffers. What a line asks and says by its numbers is table's.
use Rattle.std.specs.Prelude.{Result, Ok, Err, ⊤, ℕ, zero, suc, ◌+◌, ◌-◌, ◌*◌, ◌/◌, Bool, true, false, List, [], ◌∷◌, eqb, ℤ, length, take, drop, get_or, replicate}
use Rattle.std.proofs.Math.Option.{Option, none, some}
use Rattle.molang.specs.FirstFailure.{must, first_of}
use Rattle.molang.specs.Words.{operator_field}
use Rattle.molang.specs.Read.{set_number}
use Rattle.molang.specs.Parse.{Call, Told, a_tree, some_messages, refused, answered, tree_after, messages_after, work_after}
use Rattle.molang.specs.WriteEntry.{WriteCall, WriteTold, tokens, unwritten, write_answered, list_after}
use Rattle.molang.specs.Lines.{write_mark, tree_mark, message_mark, list_mark, call_for, version_of}
use Rattle.derived.specs.Derived.{named}
use Rattle.own.specs.Own.{named_call}
use Rattle.table.specs.Marked.{second_at, marked_count, first_words, fitting}
use Rattle.table.specs.Asked.{first_version, last_version, limit_of}
use Rattle.table.specs.Answers.{is_count, is_refusal, holding, is_left}
use Rattle.verdicts.specs.declared.Difference as code
use Rattle.verdicts.specs.declared.Difference.TheVariants.{Answer, Words}

-- What can differ from what a line says.
pub data Difference : Type 0 where
  another_answer other_words : Difference

-- What the code finds to differ, or that nothing does.
abbrev pub verdict_of : Result ⊤ code.Difference → Option Difference
verdict_of (Ok _) = none
verdict_of (Err Answer) = some another_answer
verdict_of (Err Words) = some other_words

-- What a call is told and what it leaves are each as the line says, or the first that is not.
unfoldable pub verdict : Bool → Bool → Option Difference
verdict told left = first_of (must told another_answer ∷ must left other_words ∷ [])

-- READING. Whether a line says what a parse call is told.
unfoldable pub is_read : Told → List ℕ → Bool
is_read (a_tree n) said = is_count tree_mark n said
is_read (some_messages n) said = is_count message_mark n said
is_read (refused number place) said = is_refusal number place said

-- Whether a parse call is answered as the line says.
unfoldable pub read_verdict : Call → List ℕ → Option Difference
read_verdict c said = verdict (is_read (answered c) said) (is_left (tree_after c) (messages_after c) (work_after c) said)

-- The call for a list whose text is as long as it has tokens, with the operators that it has, a lent tree and a lent work buffer.
abbrev pub lent_call : List ℕ → ℤ → ℕ → List ℕ → List ℕ → Call
lent_call list version limit tree work = named_call list tree (replicate 16 0) work (length list / 5) version limit

-- The same with buffers as molang's lines have them.
unfoldable pub list_call : List ℕ → ℤ → ℕ → Call
list_call list version limit = call_for (length list / 5) list (set_number (named operator_field list) 111) version limit

-- Whether a list is answered so at n versions from these bits on.
unfoldable pub from_version : ℕ → ℕ → List ℕ → ℕ → List ℕ → Option Difference
from_version zero bits list limit said = none
from_version (suc n) bits list limit said =
    first_of (read_verdict (list_call list (version_of bits) limit) said ∷ from_version n (bits + 1) list limit said ∷ [])

-- Whether it is at every version that the mark asks for, with the nesting limit that it asks for.
unfoldable pub at_versions : List ℕ → ℕ → List ℕ → Option Difference
at_versions list mark said = from_version (last_version mark + 1 - first_version mark) (first_version mark) list (limit_of mark) said

-- WRITING. Whether a line says what a write call is told.
unfoldable pub is_written : WriteTold → List ℕ → Bool
is_written (tokens n) said = is_count list_mark n said
is_written (unwritten number place) said = is_refusal number place said

-- Whether a write call is answered as the line says.
unfoldable pub write_verdict : WriteCall → List ℕ → Option Difference
write_verdict c said = verdict (is_written (write_answered c) said) (holding list_mark said 0 (list_after c))

-- The call for a tree, with room for three tokens a node.
unfoldable pub tree_call : List ℕ → WriteCall
tree_call tree = record { tree = tree; list = replicate (length tree / 7 * 15) 0 }

-- THE VERDICT ON A LINE. Whether the calls for these words that the mark asks for are answered as the line says.
unfoldable pub words_verdict : List ℕ → ℕ → List ℕ → Option Difference
words_verdict words mark said =
    elim (eqb mark write_mark) [ true ↦ write_verdict (tree_call words) said | false ↦ at_versions words mark said ]

-- The words that a mark and its items stand for; none if they are more than those of 4,097 tokens.
unfoldable pub asked_words : List ℕ → List ℕ
asked_words asked = take (fitting 20485 (marked_count asked)) (first_words 20485 asked)

-- Whether the definition answers what a mark with its items asks as these numbers say.
unfoldable pub asked_verdict : List ℕ → List ℕ → Option Difference
asked_verdict asked said = words_verdict (asked_words asked) (get_or asked 0 0) said

-- Whether the definition answers a line as it says: the mark that asks, and the marks that answer.
unfoldable pub line_verdict : List ℕ → Option Difference
line_verdict line = asked_verdict (take (second_at line) line) (drop (second_at line) line)
