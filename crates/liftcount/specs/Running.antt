-- The run of the program over an input, byte by byte: what it holds after each, and what is printed at the end. That this is `printed` of
-- the whole input, whatever the chunks that it came in, is a theorem (`Stands`).
use Rattle.std.specs.Prelude.{Result, Ok, Err, ℕ, ◌+◌, ◌*◌, ◌/◌, ◌%◌, ◌^◌, Bool, true, false, List, [], ◌∷◌, eqb, leb, ltb, ℤ, take, set}
use Rattle.std.proofs.Math.Option.{Option, none, some}
use Rattle.molang.specs.FirstFailure.{must, first_of}
use Rattle.molang.specs.Words.{Refusal, row, operator_field, words_refusal}
use Rattle.molang.specs.Lines.{version_of}
use Rattle.words.specs.Refusals.{refusal_row}
use Rattle.words.specs.declared.refusals.Refusal as code
use Rattle.liftcount.specs.declared.run.Stage.{Stage}
use Rattle.liftcount.specs.declared.run.Stage.TheVariants.{First, Second, Opener, InList}
use Rattle.liftcount.specs.declared.run.Counts.{Counts}
use Rattle.liftcount.specs.declared.run.Run.{Run}
use Rattle.liftcount.specs.Counting.{opens, is_version, same_tree, different_trees, message_at_one, message_at_both, count_lines, refusal_line}

-- A result with its refusal as the definition has it: the number and the place.
abbrev pub refused_row : {T : Type 0} → Result T code.Refusal → Result T Refusal
refused_row (Ok x) = Ok x
refused_row (Err r) = Err (refusal_row r)

-- What the run has come to after whole words: its stage or the refusal, its counts, and the words of the open list in front of a buffer of 640.
pub record Progress : Type 0 where
  pub stage : Result Stage Refusal
  pub counts : Counts
  pub list : List ℕ

-- One more, up to the highest number of 64 bits: no sum wraps.
unfoldable pub more : ℕ → ℕ
more n = elim (ltb n 18446744073709551615) [ true ↦ n + 1 | false ↦ n ]

-- One more where a test holds.
unfoldable pub more_if : Bool → ℕ → ℕ
more_if true n = more n
more_if false n = n

-- The counts with a list that is read at both versions.
unfoldable pub counted : ℤ → ℤ → List ℕ → Counts → Counts
counted from to list c =
    record {
      read = more c.read;
      same = more_if (same_tree from to list) c.same;
      different = more_if (different_trees from to list) c.different;
      one = more_if (message_at_one from to list) c.one;
      both = more_if (message_at_both from to list) c.both;
    }

-- Where the open list of so many words is turned back. No more than 640 of its words are kept, and no more are needed.
unfoldable pub open_fault : ℕ → List ℕ → Option Refusal
open_fault words list =
    first_of (must (eqb (words % 5) 0) (row 1 0) ∷ must (leb words 640) (row 2 0) ∷ words_refusal 0 operator_field 0 (take words list) ∷ [])

-- An opener ends the open list, which is counted or refused.
unfoldable pub reopened : ℤ → ℤ → ℕ → Counts → List ℕ → Progress
reopened from to words counts list =
    elim (open_fault words list) [
      | some r ↦ record { stage = Err r; counts = counts; list = list }
      | none ↦ record {
        stage = Ok (InList from to 0);
        counts = counted from to (take words list) counts;
        list = list;
      }
    ]

-- The version that a version word says.
unfoldable pub version_taken : ℕ → Result ℤ Refusal
version_taken w = elim (is_version w) [ true ↦ Ok (version_of w) | false ↦ Err (row 8 0) ]

-- The stage that a version leads to.
abbrev pub staged : (ℤ → Stage) → Result ℤ Refusal → Result Stage Refusal
staged stage (Ok version) = Ok (stage version)
staged stage (Err r) = Err r

-- A WORD of the input. After a refusal none is looked at.
unfoldable pub word_taken : Result Stage Refusal → Counts → List ℕ → ℕ → Progress
word_taken (Ok First) counts list w = record { stage = staged Second (version_taken w); counts = counts; list = list }
word_taken (Ok (Second from)) counts list w = record { stage = staged (Opener from) (version_taken w); counts = counts; list = list }
word_taken (Ok (Opener from to)) counts list w =
    record { stage = elim (opens w) [ true ↦ Ok (InList from to 0) | false ↦ Err (row 8 0) ]; counts = counts; list = list }
word_taken (Ok (InList from to words)) counts list w =
    elim (opens w) [
      | true ↦ reopened from to words counts list
      | false ↦ record {
        stage = Ok (InList from to (more words));
        counts = counts;
        list = set list words w;
      }
    ]
word_taken (Err r) counts list w = record { stage = Err r; counts = counts; list = list }

-- What the program holds: how many bytes of a word have come, these bytes in the upper bits of a word, and what whole words came to.
pub record State : Type 0 where
  pub held : ℕ
  pub partial : ℕ
  pub progress : Progress

-- The state that a run and its list's buffer are.
abbrev pub state_of : Run → List ℕ → State
state_of run list =
    record { held = run.held; partial = run.partial; progress = record { stage = refused_row run.stage; counts = run.counts; list = list } }

-- A byte of the input enters at the top of the word that has begun; with the fourth the word is taken.
unfoldable pub byte_taken : State → ℕ → State
byte_taken s b =
    let w = s.partial / 2 ^ 8 + b * 2 ^ 24 in
    let p = s.progress in
    elim (ltb s.held 3) [
      | true ↦ record { held = s.held + 1; partial = w; progress = p }
      | false ↦ record {
        held = 0;
        partial = 0;
        progress = word_taken p.stage p.counts p.list w;
      }
    ]

-- A CHUNK of the input.
unfoldable pub fed : State → List ℕ → State
fed s [] = s
fed s (b ∷ bytes) = fed (byte_taken s b) bytes

-- Where the program starts, with a list's buffer.
unfoldable pub started : List ℕ → State
started list =
    record {
      held = 0;
      partial = 0;
      progress = record { stage = Ok First; counts = record { read = 0; same = 0; different = 0; one = 0; both = 0 }; list = list };
    }

-- The lines of counts.
unfoldable pub lines_of : Counts → List ℕ
lines_of c = count_lines c.read c.same c.different c.one c.both

-- What is printed after whole words: the end of the input ends the open list.
unfoldable pub progress_text : Result Stage Refusal → Counts → List ℕ → List ℕ
progress_text (Ok First) counts list = refusal_line 8 0
progress_text (Ok (Second from)) counts list = refusal_line 8 0
progress_text (Ok (Opener from to)) counts list = lines_of counts
progress_text (Ok (InList from to words)) counts list =
    elim (open_fault words list) [ some r ↦ refusal_line r.number r.place | none ↦ lines_of (counted from to (take words list) counts) ]
progress_text (Err r) counts list = refusal_line r.number r.place

-- WHAT IS PRINTED at the end of the input: bytes of a word that is not whole are answered first.
unfoldable pub end_text : State → List ℕ
end_text s =
    elim (eqb s.held 0) [ true ↦ progress_text s.progress.stage s.progress.counts s.progress.list | false ↦ refusal_line 1 0 ]
