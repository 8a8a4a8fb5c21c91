-- What each case of the entry's answer says: document 01's values for a tree and for messages, and the number and place of a refusal. The
-- call that the entry is given, as the definition takes it; and what the entry promises of it.
use Rattle.std.specs.Prelude.{ℕ, ◌≡◌, List, ℤ, Result, Ok, Err}
use Rattle.molang.specs.Parse.{Call, Told, a_tree, some_messages, refused, answered, tree_after, messages_after, work_after}
use Rattle.words.specs.Refusals.{reason_number}
use Rattle.words.specs.declared.refusals.Refusal as code
use Rattle.parse.specs.declared.Answer.{Answer}
use Rattle.parse.specs.declared.Answer.TheVariants.{Tree, Messages}

-- The parse entry's answer.
abbrev pub told_of : Result Answer code.Refusal → Told
told_of (Ok (Tree nodes)) = a_tree nodes
told_of (Ok (Messages records)) = some_messages records
told_of (Err r) = refused (reason_number r.reason) r.place

-- A call of the parse entry, in the order of its parameters.
abbrev pub call : List ℕ → List ℕ → List ℕ → List ℕ → ℕ → ℤ → ℕ → ℕ → ℕ → Call
call list tree messages work source_length version used_low used_high limit =
    record {
      list = list;
      tree = tree;
      messages = messages;
      work = work;
      source_length = source_length;
      version = version;
      used_low = used_low;
      used_high = used_high;
      limit = limit;
    }

-- THE ENTRY'S PROMISE: what the caller is told by the answer r, and what each lent buffer holds after the call.
pub record HasParsed (c : Call) (r : Result Answer code.Refusal) (tree' messages' work' : List ℕ) : Type 0 where
  pub told : told_of r ≡ answered c
  pub tree : tree' ≡ tree_after c
  pub messages : messages' ≡ messages_after c
  pub work : work' ≡ work_after c
