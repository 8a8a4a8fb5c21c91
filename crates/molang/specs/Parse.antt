-- The parse entry: what a call is given, where it is turned back (document 01, 'Where the entry turns a call back', answers 1-11 in the
-- table's order, and 17 and 18 of document 02's card 8), what it answers and what it leaves in each lent buffer.
use Rattle.std.specs.Prelude.{ℕ, ◌+◌, ◌*◌, ◌/◌, ◌%◌, ◌^◌, Bool, ◌&&◌, List, [], ◌∷◌, ◌++◌, eqb, leb, ltb, ℤ, length, drop, replicate}
use Rattle.std.proofs.Math.Option.{Option, none, some}
use Rattle.molang.specs.Forest.{nil, node, size}
use Rattle.molang.specs.Message.{Message, message_record}
use Rattle.molang.specs.Read.{Answer, tree, messages, read}
use Rattle.molang.specs.FirstFailure.{must, first_of}
use Rattle.molang.specs.Words.{Refusal, row, with_number, operator_field, words_refusal, tokens_of, tree_words}
use Rattle.molang.specs.Nesting.{too_deep}

-- What a call is given.
pub record Call : Type 0 where
  pub list : List ℕ
  pub tree : List ℕ
  pub messages : List ℕ
  pub work : List ℕ
  pub source_length : ℕ
  pub version : ℤ
  pub used_low : ℕ
  pub used_high : ℕ
  pub limit : ℕ

-- The operator's bit in the used set's two halves of 64 bits.
unfoldable pub in_halves : ℕ → ℕ → ℕ → Bool
in_halves low high n = eqb ((high * 2 ^ 64 + low) / 2 ^ n % 2) 1

-- The most tokens of a list.
abbrev pub most_tokens : ℕ
most_tokens = 4096

-- A nesting limit is 1 to 4,096.
unfoldable pub is_limit : ℕ → Bool
is_limit limit = leb 1 limit && leb limit most_tokens

-- The table's rows by lengths alone, from the top.
unfoldable pub length_rows : Call → List (Option Refusal)
length_rows c =
    let tokens = length c.list / 5 in
    must (eqb (length c.list % 5) 0) (row 1 0)
    ∷ must (leb tokens most_tokens) (row 2 0)
    ∷ must (leb (21 * tokens) (length c.tree)) (row 3 0)
    ∷ must (leb 16 (length c.messages)) (row 4 0)
    ∷ must (leb (64 * tokens + 64) (length c.work)) (row 5 0)
    ∷ []

-- Its rows after these, by what the call brings.
unfoldable pub value_rows : Call → List (Option Refusal)
value_rows c =
    must (ltb (c.used_high * 2 ^ 64 + c.used_low) (2 ^ 111)) (row 6 0)
    ∷ must (leb c.source_length 536870911) (row 7 0)
    ∷ must (is_limit c.limit) (row 17 0)
    ∷ words_refusal 0 operator_field 0 c.list
    ∷ with_number 18 (too_deep c.limit (tokens_of c.list))
    ∷ []

-- The table: the first failure wins.
unfoldable pub refusal : Call → Option Refusal
refusal c = first_of (length_rows c ++ value_rows c)

-- The reading of a list that is not turned back.
unfoldable pub reading : Call → Answer
reading c = read (tokens_of c.list) (in_halves c.used_low c.used_high) c.version c.source_length

-- The records of the messages, one after another.
unfoldable pub record_words : List Message → List ℕ
record_words [] = []
record_words (m ∷ ms) = message_record m ++ record_words ms

-- What the caller is told: a tree with its node count, messages with their count, or a refusal.
pub data Told : Type 0 where
  a_tree : ℕ → Told
  some_messages : ℕ → Told
  refused : ℕ → ℕ → Told

-- What is told of a call that is turned back, or else of its reading.
unfoldable pub told : Option Refusal → Answer → Told
told (some r) a = refused r.number r.place
told none (tree k cs) = a_tree (size (node k cs nil))
told none (messages ms) = some_messages (length ms)

-- THE ANSWER to a call.
unfoldable pub answered : Call → Told
answered c = told (refusal c) (reading c)

-- The words in front of a buffer, the rest as it was.
unfoldable pub in_front : List ℕ → List ℕ → List ℕ
in_front ws buffer = ws ++ drop (length ws) buffer

-- A tree fills the front of the tree buffer; messages and refusals leave it as it was.
unfoldable pub tree_in : Option Refusal → Answer → List ℕ → List ℕ
tree_in (some r) a buffer = buffer
tree_in none (tree k cs) buffer = in_front (tree_words (node k cs nil)) buffer
tree_in none (messages ms) buffer = buffer

-- THE TREE BUFFER after a call.
unfoldable pub tree_after : Call → List ℕ
tree_after c = tree_in (refusal c) (reading c) c.tree

-- Messages fill the front of the message buffer; trees and refusals leave it as it was.
unfoldable pub messages_in : Option Refusal → Answer → List ℕ → List ℕ
messages_in (some r) a buffer = buffer
messages_in none (tree k cs) buffer = buffer
messages_in none (messages ms) buffer = in_front (record_words ms) buffer

-- THE MESSAGE BUFFER after a call.
unfoldable pub messages_after : Call → List ℕ
messages_after c = messages_in (refusal c) (reading c) c.messages

-- The work buffer is all zero after a tree or messages.
unfoldable pub work_in : Option Refusal → List ℕ → List ℕ
work_in (some r) buffer = buffer
work_in none buffer = replicate (length buffer) 0

-- THE WORK BUFFER after a call.
unfoldable pub work_after : Call → List ℕ
work_after c = work_in (refusal c) c.work
