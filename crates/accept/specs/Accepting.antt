-- What each answer of the checks says, the call that a list and the sizes beside it stand for, and the parts of the table that come before
-- the words and after them.
use Rattle.std.specs.Prelude.{ℕ, ◌+◌, ◌*◌, ◌^◌, List, [], ◌∷◌, leb, ltb, pos, replicate, Result, Ok, Err}
use Rattle.std.proofs.Math.Option.{Option, none, some}
use Rattle.molang.specs.FirstFailure.{must, first_of}
use Rattle.molang.specs.Words.{Refusal, row, with_number, tokens_of}
use Rattle.molang.specs.Nesting.{too_deep}
use Rattle.molang.specs.Parse.{Call, is_limit, length_rows}
use Rattle.words.specs.Refusals.{reason_number}
use Rattle.words.specs.declared.refusals.Refusal as code
use Rattle.ops.specs.declared.sets.OpSet.{OpSet}
use Rattle.accept.specs.declared.Sizes.{Sizes}

-- What the checks find of a call: it is read, with so many tokens, or it is turned back with document 01's number and place.
pub data Verdict : Type 0 where
  is_read : ℕ → Verdict
  is_refused : ℕ → ℕ → Verdict

-- What an answer of the checks says.
abbrev pub verdict_of : Result ℕ code.Refusal → Verdict
verdict_of (Ok n) = is_read n
verdict_of (Err r) = is_refused (reason_number r.reason) r.place

-- What is to be said of a list of n tokens, by its refusal.
abbrev pub verdict : ℕ → Option Refusal → Verdict
verdict n none = is_read n
verdict n (some r) = is_refused r.number r.place

-- A call with these lengths. What the lent buffers hold, and the version, decide no refusal (`same-refusal`).
abbrev pub call_of : List ℕ → Sizes → OpSet → ℕ → Call
call_of list sizes used limit =
    record {
      list = list;
      tree = replicate sizes.tree 0;
      messages = replicate sizes.messages 0;
      work = replicate sizes.work 0;
      source_length = sizes.source;
      version = pos 0;
      used_low = used.low;
      used_high = used.high;
      limit = limit;
    }

-- Answers 1 to 5. The used set and the limit have no part in them.
abbrev pub length_refusal : List ℕ → Sizes → Option Refusal
length_refusal list sizes = first_of (length_rows (call_of list sizes (record { low = 0; high = 0 }) 0))

-- Answers 6, 7 and 17.
unfoldable pub value_refusal : ℕ → OpSet → ℕ → Option Refusal
value_refusal source_length used limit =
    first_of
    (must (ltb (used.high * 2 ^ 64 + used.low) (2 ^ 111)) (row 6 0)
    ∷ must (leb source_length 536870911) (row 7 0)
    ∷ must (is_limit limit) (row 17 0)
    ∷ [])

-- Answer 18.
abbrev pub nesting_refusal : ℕ → List ℕ → Option Refusal
nesting_refusal limit list = with_number 18 (too_deep limit (tokens_of list))
