-- THE WALK'S STATE IN WORDS: what waits is a stack of one word each from the first word on, the records stand at the words' end.
-- Everything that the walk does to the words is said of the view that they are of, and nothing of the words between.
use Rattle.std.specs.Prelude.{ℕ, zero, suc, ◌-◌, ◌%◌, ◌≤◌, ◌<◌, ◌≡◌, Bool, true, false, ◌||◌, List, [], ◌∷◌, Option, Some, None, length, get_or, drop, eqb, leb}
use Rattle.molang.specs.Operator
use Rattle.molang.specs.Words.{tokens_of}
use Rattle.molang.specs.Parse.{in_halves}
use Rattle.ops.specs.declared.sets.OpSet.{OpSet}
use Rattle.scan.specs.declared.given.Given.{Given}
use Rattle.scan.specs.declared.stack.State.{State}
use Rattle.scan.specs.declared.steps.Turn.{Turn}
use Rattle.scan.specs.declared.steps.Turn.TheVariants.{Want, Have, Done}
use Rattle.scan.specs.Entries.{token_at}
use Rattle.scan.specs.Tables.{entry_in}
use Rattle.scan.specs.Views.{View, top_word, Based}
use Rattle.scan.specs.Turns.{Walking, Turning, want, have, done, Walks, start}

-- The words of a stack so deep, from the top.
unfoldable pub stack_of : List ℕ → ℕ → List ℕ
stack_of W zero = []
stack_of W (suc d) = get_or W d 0 ∷ stack_of W d

-- The view of a state in words.
unfoldable pub view_of : List ℕ → State → View
view_of W s = record { left = s.left; stack = stack_of W s.depth; records = drop s.out W }

-- Stack and records stand apart, within the words; the top is the stack's.
pub record Sound (W : List ℕ) (s : State) : Type 0 where
  pub apart : s.depth ≤ s.out
  pub within : s.out ≤ length W
  pub top : s.top ≡ top_word (stack_of W s.depth)

-- A word is free; two wait.
abbrev pub HasRoom : State → Type 0
HasRoom s = s.depth < s.out

abbrev pub HasTwo : State → Type 0
HasTwo s = 2 ≤ s.depth

-- How many words are free.
abbrev pub free_of : State → ℕ
free_of s = s.out - s.depth

-- Some word of the stack is below a number.
pub data Grounded (from : ℕ) : List ℕ → Type 0 where
  here : {w : ℕ} {S : List ℕ} → w < from → Grounded from (w ∷ S)
  there : {w : ℕ} {S : List ℕ} → Grounded from S → Grounded from (w ∷ S)

-- The state stands in the words, the whole list's word lowest, and so many words are free.
pub record StandsFree (W : List ℕ) (s : State) (free : ℕ) : Type 0 where
  pub sound : Sound W s
  pub based : Based (stack_of W s.depth)
  pub room : free ≤ free_of s

-- The words W are now W', and the state in them r, which is v.
pub record Becomes (W W' : List ℕ) (r : State) (v : View) : Type 0 where
  pub sound : Sound W' r
  pub same : view_of W' r ≡ v
  pub long : length W' ≡ length W

-- The words W are now W', and the turn is the answer, or the walk gives up.
pub data Turns (W W' : List ℕ) : Option Turn → Turning → Type 0 where
  wants : {t : State} {v : View} → Becomes W W' t v → Turns W W' (Some (Want t)) (want v)
  haves : {t : State} {v : View} → Becomes W W' t v → Turns W W' (Some (Have t)) (have v)
  ends : {n : ℕ} {v : View} → n ≤ length W' → drop n W' ≡ v.records → length W' ≡ length W → Turns W W' (Some (Done n)) (done v)
  stops : {a : Turning} → length W' ≡ length W → Turns W W' None a

-- ---- the list

-- What the walk of a list is given, under a table and a used set.
abbrev pub given : List ℕ → List ℕ → OpSet → Walking
given list table used = record { tokens = tokens_of list; used = in_halves used.low used.high; entry = entry_in table }

-- The operator of the token at a place, and of the one before a place.
abbrev pub operator_of_place : List ℕ → ℕ → ℕ
operator_of_place list at = (token_at (tokens_of list) at).op

abbrev pub operator_before : List ℕ → ℕ → ℕ
operator_before list at = elim (eqb at 0) [ true ↦ Operator.left_parenthesis | false ↦ operator_of_place list (at - 5) ]

-- The used set has the operator; a host's has no bit.
abbrev pub lets : OpSet → ℕ → Bool
lets used n = leb 111 n || in_halves used.low used.high n

-- What the walk of a list is given, as the code has it.
abbrev pub walking : Given → Walking
walking g = given g.list.now g.table.now g.used

-- A place of a list between two tokens.
pub record UpTo (list : List ℕ) (at : ℕ) : Type 0 where
  pub place : at % 5 ≡ 0
  pub within : at ≤ length list

-- The operator that was found at a place, a number of twelve bits.
pub record LookedUp (list : List ℕ) (at op : ℕ) : Type 0 where
  pub found : op ≡ operator_of_place list at
  pub small : op < 4096

-- A state from which the walk can make a turn.
pub record CanMakeTurn (list W : List ℕ) (s : State) : Type 0 where
  pub sound : Sound W s
  pub based : Based (stack_of W s.depth)
  pub place : UpTo list s.left

-- ---- the walk

-- The walk of the list came here by turns, and can go on.
pub record Goes (list table : List ℕ) (used : OpSet) (answer : View → Turning) (W : List ℕ) (s : State) : Type 0 where
  pub can : CanMakeTurn list W s
  pub walks : Walks (given list table used) (want (start (length list))) (answer (view_of W s))
