-- What each case of the outcome says; and what the functions' parameters are, as the definition takes them.
use Rattle.std.specs.Prelude.{ℕ, List, ℤ, Result, Ok, Err}
use Rattle.molang.specs.Parse.{Call}
use Rattle.molang.specs.Reread.{Handed, Rereading, RereadTold, two_trees, first_messages, second_messages, turned_back, RereadLeft}
use Rattle.words.specs.Refusals.{reason_number}
use Rattle.reread.specs.declared.Outcome.{Outcome}
use Rattle.reread.specs.declared.Outcome.TheVariants.{Trees, Messages, MessagesAgain}
use Rattle.reread.specs.declared.TurnedBack.{TurnedBack}
use Rattle.reread.specs.declared.TurnedBack.TheVariants.{First, Write, Second}

-- What the caller is told: of a call that is turned back its number, 1, 2 or 3, and the refusal's number and place.
abbrev pub reread_of : Result Outcome TurnedBack → RereadTold
reread_of (Ok (Trees nodes count again)) = two_trees nodes count again
reread_of (Ok (Messages records)) = first_messages records
reread_of (Ok (MessagesAgain records)) = second_messages records
reread_of (Err (First refusal)) = turned_back 1 (reason_number refusal.reason) refusal.place
reread_of (Err (Write refusal)) = turned_back 2 (reason_number refusal.reason) refusal.place
reread_of (Err (Second refusal)) = turned_back 3 (reason_number refusal.reason) refusal.place

-- The outcome, and what each lent buffer holds after the calls.
abbrev pub left_of : Result Outcome TurnedBack → List ℕ → List ℕ → List ℕ → List ℕ → List ℕ → RereadLeft
left_of r tree written again messages work =
    record { told = reread_of r; tree = tree; written = written; again = again; messages = messages; work = work }

-- What `write_and_read` is lent and given, and what is left of it.
abbrev pub handed_of : List ℕ → List ℕ → List ℕ → List ℕ → List ℕ → ℕ → ℤ → ℕ → Handed
handed_of tree written again messages work source_length version limit =
    record {
      tree = tree;
      written = written;
      again = again;
      messages = messages;
      work = work;
      source_length = source_length;
      version = version;
      limit = limit;
    }

-- What `reread` is lent and given, after the first call.
abbrev pub rereading : Call → List ℕ → List ℕ → ℕ → ℤ → ℕ → Rereading
rereading first written again source_length version limit =
    record { first = first; written = written; again = again; source_length = source_length; version = version; limit = limit }
