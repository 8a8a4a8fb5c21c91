-- How the run goes through a file: what is given for the bytes that came, whatever bytes follow, and what is handed to `write`.
use Rattle.std.specs.Prelude.{Option, Some, None, ℕ, ◌+◌, ◌≤◌, ◌≡◌, List, [], ◌++◌, length, take}
use Rattle.streams.specs.Came.{came}
use Rattle.listing.specs.Lists.{words_in}
use Rattle.liftlists.specs.declared.step.Step.{Step}
use Rattle.liftlists.specs.declared.Turn.{Turn}
use Rattle.liftlists.specs.LiftedFile.{bytes_of, bytes_behind, lifted_words, lifted_file}
use Rattle.liftlists.specs.Steps.{Fine, held_in}

-- FROM ONE PLACE OF THE RUN TO ANOTHER. A place is what is yet to be given, by the bytes that are yet to come; between the two places these
-- bytes came, and what was given for them is given.
pub record FileGoes (here : List ℕ → List ℕ) (came : List ℕ) (there : List ℕ → List ℕ) : Type 0 where
  pub gave : List ℕ
  pub on : (rest : List ℕ) → here (came ++ rest) ≡ gave ++ there rest

-- What a file gives from words on that are held.
unfoldable pub file_from : ℕ → List ℕ → List ℕ → List ℕ
file_from to held bytes = bytes_of (lifted_words to (held ++ words_in bytes)) ++ bytes_behind bytes

-- THE PLACE where so many bytes are laid and not handed over, and words are held.
abbrev pub yet : ℕ → List ℕ → List ℕ → ℕ → List ℕ → List ℕ
yet to held out at bytes = take at out ++ file_from to held bytes

-- A place that the run reaches, from the beginning of an input.
pub record PlaceReached (there : List ℕ → List ℕ) : Type 0 where
  pub came : List ℕ
  pub goes : FileGoes lifted_file came there

-- Bytes that come next in the lifted file, whatever the input goes on with.
pub record IsNextPiece (text : List ℕ) : Type 0 where
  pub later : List ℕ → List ℕ
  pub reached : PlaceReached (λ bytes. text ++ later bytes)

-- The last bytes of the lifted file, for an input that is read to its end or is refused.
pub record IsLastPiece (text : List ℕ) : Type 0 where
  pub input : List ℕ
  pub before : List ℕ
  pub is : lifted_file input ≡ before ++ text

-- What `spill` leaves: the bytes that are laid, or none of them.
abbrev pub Spilled : Option ℕ → List ℕ → ℕ → Type 0
Spilled (Some start) out at =
    (start ≤ 65535) ×
    ((later : List ℕ → List ℕ) → FileGoes (λ bytes. take at out ++ later bytes) [] (λ bytes. take start out ++ later bytes))
Spilled None out at = Unit {0}

-- Where a chunk leads.
abbrev pub FedTo : ℕ → (List ℕ → List ℕ) → List ℕ → Option Step → List ℕ → List ℕ → Type 0
FedTo to here chunk (Some step) list out =
    Fine step.stage list × (step.at ≤ 147463) × FileGoes here chunk (yet to (held_in step.stage list) out step.at)
FedTo to here chunk None list out = Unit {0}

-- WHAT A CHUNK LEADS TO, which lies in front of the space: its whole words lead on, and at most three bytes are behind them.
pub record ChunkTurned (to : ℕ) (here : List ℕ → List ℕ) (r : Turn) (space list out : List ℕ) : Type 0 where
  pub fed_to : FedTo to here (take r.whole space) r.step list out
  pub whole : r.whole ≤ came r.filled
  pub most : came r.filled ≤ r.whole + 3
  pub room : came r.filled ≤ length space
