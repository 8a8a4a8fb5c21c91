-- What `scan` asks and ensures: a list of whole tokens, 4,096 at most, and words to walk it in; if it does not give up, the model's walk
-- of the list comes to its end, and its records stand at the words' end.
use Rattle.std.specs.Prelude.{ℕ, ◌%◌, ◌≤◌, ◌≡◌, false, List, [], ◌∷◌, Option, Some, None, ℤ, length, drop}
use Rattle.molang.specs.Operator
use Rattle.molang.specs.Operator.{any}
use Rattle.molang.specs.Order.{rules}
use Rattle.molang.specs.Parse.{in_halves}
use Rattle.ops.specs.declared.sets.OpSet.{OpSet}
use Rattle.scan.specs.Tables.{table_of}
use Rattle.scan.specs.Views.{View}
use Rattle.scan.specs.Turns.{want, done, Walks, start}
use Rattle.scan.specs.States.{given}

pub record CanSetOut (list W : List ℕ) : Type 0 where
  pub whole : length list % 5 ≡ 0
  pub few : length list ≤ 20480
  pub room : 1 ≤ length W

-- The model's walk of a list comes to its end, and its records are the words from one on.
pub record ComesToEnd (list table : List ℕ) (used : OpSet) (W : List ℕ) (from : ℕ) : Type 0 where
  pub view : View
  pub walks : Walks (given list table used) (want (start (length list))) (done view)
  pub within : from ≤ length W
  pub records : drop from W ≡ view.records

-- The records, or nothing.
pub data ScanAnswers (list table : List ℕ) (used : OpSet) (W : List ℕ) : Option ℕ → Type 0 where
  reached : {from : ℕ} → ComesToEnd list table used W from → ScanAnswers list table used W (Some from)
  stopped : ScanAnswers list table used W None

pub record HasGone (list table : List ℕ) (used : OpSet) (W W' : List ℕ) (r : Option ℕ) : Type 0 where
  pub answers : ScanAnswers list table used W' r
  pub long : length W' ≡ length W

-- The same under the table of a version; the used set of a list that was walked has neither `=` nor `;`.
pub data Scans (list : List ℕ) (used : OpSet) (version : ℤ) (W : List ℕ) : Option ℕ → Type 0 where
  found : {from : ℕ} → ComesToEnd list (table_of (rules version)) used W from
      → any (in_halves used.low used.high) (Operator.assignment ∷ Operator.semicolon ∷ []) ≡ false
      → Scans list used version W (Some from)
  none : Scans list used version W None

pub record HasScanned (list : List ℕ) (used : OpSet) (version : ℤ) (W W' : List ℕ) (r : Option ℕ) : Type 0 where
  pub scans : Scans list used version W' r
  pub long : length W' ≡ length W
