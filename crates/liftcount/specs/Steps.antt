-- What the code's steps come to, by their parts: the stage after a word, how the next list opens, what an ending prints; and what chunks
-- lead to.
use Rattle.std.specs.Prelude.{Option, Result, Ok, Err, ℕ, ◌^◌, ◌<◌, ◌≡◌, List, ◌++◌, ℤ, length, take}
use Rattle.std.specs.Io.KnownBytes.{Consumes}
use Rattle.liftcount.specs.declared.run.Stage.{Stage}
use Rattle.liftcount.specs.declared.run.Stage.TheVariants.{InList}
use Rattle.liftcount.specs.declared.run.Counts.{Counts}
use Rattle.molang.specs.Words.{Refusal}
use Rattle.liftcount.specs.Counting.{refusal_line, printed}
use Rattle.liftcount.specs.Running.{State, Progress, fed, started, lines_of}

-- What whole words came to, by its parts.
abbrev pub at_stage : Result Stage Refusal → Counts → List ℕ → Progress
at_stage stage counts list = record { stage = stage; counts = counts; list = list }

-- WHAT CHUNKS OF AN INPUT LEAD TO, from where the program starts with a list's buffer: some bytes, and behind them those that came last,
-- which lie in front of the space. No input of 2 ^ 57 bytes is read.
pub record Reached (list space : List ℕ) (last : ℕ) (s : State) : Type 0 where
  pub before : List ℕ
  pub few : length (before ++ take last space) < 2 ^ 57
  pub is : s ≡ fed (started list) (before ++ take last space)

-- WHAT IS TAKEN FROM A READER leads there: these bytes and no others were taken from it, each once and in order.
pub record TakenFrom (old new : Option (List ℕ)) (list space : List ℕ) (last : ℕ) (s : State) : Type 0 where
  pub before : List ℕ
  pub all : Consumes old new (before ++ take last space)
  pub is : s ≡ fed (started list) (before ++ take last space)

-- The state that a whole input leads to.
pub record Came (s : State) : Type 0 where
  pub list : List ℕ
  pub room : length list ≡ 640
  pub input : List ℕ
  pub few : length input < 2 ^ 57
  pub is : s ≡ fed (started list) input

-- A text that is printed for an input.
pub record IsPrinted (text : List ℕ) : Type 0 where
  pub input : List ℕ
  pub is : text ≡ printed input

-- The state after a whole word.
abbrev pub after_word : Progress → State
after_word p = record { held = 0; partial = 0; progress = p }

-- What whole words came to where an opener has ended a list so.
abbrev pub opened_after : Result Counts Refusal → ℤ → ℤ → Counts → List ℕ → Progress
opened_after (Err r) from to counts list = at_stage (Err r) counts list
opened_after (Ok next) from to counts list = at_stage (Ok (InList from to 0)) next list

-- What is printed where the input ends so.
abbrev pub ending_text : Result Counts Refusal → List ℕ
ending_text (Err r) = refusal_line r.number r.place
ending_text (Ok counts) = lines_of counts
