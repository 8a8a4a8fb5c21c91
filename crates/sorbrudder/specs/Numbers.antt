-- The entries' answers as one number, as the exports give them: bits 0-31 a count or a refusal's place, bits 32-39 a refusal's number, else
-- 0, bits 40-47 the kind of the answer: 0 a tree, tokens or nodes in the other order, 1 messages, 2 a refusal. And the way back; and the
-- promises of the exported readers.
use Rattle.std.specs.Prelude.{ℕ, zero, suc, ◌+◌, ◌*◌, ◌/◌, ◌%◌, ◌^◌, ◌<◌, ◌≡◌, List, Result, Ok, Err}
use Rattle.molang.specs.Parse.{Call, Told, a_tree, some_messages, refused, answered, tree_after, messages_after, work_after}
use Rattle.molang.specs.Rules.{RuleCall, rule_answered, ruled_tree_after, ruled_messages_after, ruled_work_after, rules_after}
use Rattle.molang.specs.WriteEntry.{WriteTold, tokens, unwritten}
use Rattle.words.specs.Refusals.{reason_number}
use Rattle.words.specs.declared.refusals.Refusal as code
use Rattle.molang.specs.StackOrder.{ReorderTold, reordered, not_reordered}

-- A number by its three fields.
abbrev pub packed : ℕ → ℕ → ℕ → ℕ
packed kind number low = kind * 2 ^ 40 + number * 2 ^ 32 + low

-- The kind of the answer.
abbrev pub kind_in : ℕ → ℕ
kind_in n = n / 2 ^ 40

-- The refusal's number.
abbrev pub number_in : ℕ → ℕ
number_in n = n / 2 ^ 32 % 2 ^ 8

-- The count or the place.
abbrev pub low_in : ℕ → ℕ
low_in n = n % 2 ^ 32

-- THE PARSE ENTRY'S ANSWER as a number.
abbrev pub told_number : Told → ℕ
told_number (a_tree nodes) = packed 0 0 nodes
told_number (some_messages records) = packed 1 0 records
told_number (refused number place) = packed 2 number place

-- The answer of a kind with these values.
abbrev pub told_of_kind : ℕ → ℕ → ℕ → Told
told_of_kind zero number low = a_tree low
told_of_kind (suc zero) number low = some_messages low
told_of_kind (suc (suc k)) number low = refused number low

-- The answer that a number stands for.
abbrev pub told_back : ℕ → Told
told_back n = told_of_kind (kind_in n) (number_in n) (low_in n)

-- THE WRITE ENTRY'S ANSWER as a number.
abbrev pub write_number : WriteTold → ℕ
write_number (tokens count) = packed 0 0 count
write_number (unwritten number place) = packed 2 number place

-- The answer of a kind with these values.
abbrev pub write_of_kind : ℕ → ℕ → ℕ → WriteTold
write_of_kind zero number low = tokens low
write_of_kind (suc k) number low = unwritten number low

-- The answer that a number stands for.
abbrev pub write_back : ℕ → WriteTold
write_back n = write_of_kind (kind_in n) (number_in n) (low_in n)

-- THE ANSWER OF EXPORT AND IMPORT as a number.
abbrev pub reorder_number : ReorderTold → ℕ
reorder_number (reordered nodes) = packed 0 0 nodes
reorder_number (not_reordered number place) = packed 2 number place

-- The answer of a kind with these values.
abbrev pub reorder_of_kind : ℕ → ℕ → ℕ → ReorderTold
reorder_of_kind zero number low = reordered low
reorder_of_kind (suc k) number low = not_reordered number low

-- The answer that a number stands for.
abbrev pub reorder_back : ℕ → ReorderTold
reorder_back n = reorder_of_kind (kind_in n) (number_in n) (low_in n)

-- A COUNT OR A REFUSAL, as the writer, export and import give it, as a number.
abbrev pub count_number : Result ℕ code.Refusal → ℕ
count_number (Ok count) = packed 0 0 count
count_number (Err r) = packed 2 (reason_number r.reason) r.place

-- Its values fit the fields.
abbrev pub FitsCount : Result ℕ code.Refusal → Type 0
FitsCount (Ok count) = count < 2 ^ 32
FitsCount (Err r) = (reason_number r.reason < 2 ^ 8) × (r.place < 2 ^ 32)

-- An answer whose values fit the fields.
abbrev pub FitsTold : Told → Type 0
FitsTold (a_tree nodes) = nodes < 2 ^ 32
FitsTold (some_messages records) = records < 2 ^ 32
FitsTold (refused number place) = (number < 2 ^ 8) × (place < 2 ^ 32)

-- THE EXPORTED READER'S PROMISE: the answer's number, and what each lent buffer holds after the call.
pub record HasParsedTo (c : Call) (number : ℕ) (tree' messages' work' : List ℕ) : Type 0 where
  pub told : number ≡ told_number (answered c)
  pub tree : tree' ≡ tree_after c
  pub messages : messages' ≡ messages_after c
  pub work : work' ≡ work_after c

-- THE SAME WITH A RULE BUFFER.
pub record HasRuledTo (c : RuleCall) (number : ℕ) (tree' messages' work' rules' : List ℕ) : Type 0 where
  pub told : number ≡ told_number (rule_answered c)
  pub tree : tree' ≡ ruled_tree_after c
  pub messages : messages' ≡ ruled_messages_after c
  pub work : work' ≡ ruled_work_after c
  pub rules : rules' ≡ rules_after c
