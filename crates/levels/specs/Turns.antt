-- THE CONTRACTS between the driver and the levels: what a level's turn, its taking back of an item and its end ask and ensure. Each says by
-- an equation between what is left of the pass before and after (`work`) that the pass's result never changes.
use Rattle.std.specs.Prelude.{ℕ, ◌+◌, ◌*◌, ◌^◌, ◌≤◌, ◌<◌, ◌≡◌, true, false, List, ◌∷◌, length, Result, Ok, Err}
use Rattle.molang.specs.Forest.{Token, Forest, nil, count, size}
use Rattle.molang.specs.Message.{Message, ok, fail}
use Rattle.molang.specs.Calls.{indexed, starts_with_index}
use Rattle.molang.specs.Free.{is_nil}
use Rattle.molang.specs.Work.{Kind, arrays, statements, State, work, begins, in_reading, takes, and_then}
use Rattle.nodes.specs.Store.{slot_start, RepT, InArray, Kept}
use Rattle.nodes.specs.declared.frames.List.{List as Items}
use Rattle.levels.specs.Passes.{classes_of, waits}
use Rattle.levels.specs.Sides.{OpenArray, Holds, Waits}
use Rattle.levels.specs.Failures.{Tells}
use Rattle.levels.specs.declared.failure.Failure.{Failure}
use Rattle.levels.specs.declared.turns.Pass.{Pass}
use Rattle.levels.specs.declared.turns.Pass.TheVariants.{Calls, MathCalls, Unsplit, Split, Arrays, Unary, Binary, Conditional}
use Rattle.levels.specs.declared.turns.Pass.TheVariants.{Returns}
use Rattle.levels.specs.declared.turns.Walk.{Walk}
use Rattle.levels.specs.declared.turns.Turn.{Turn}
use Rattle.levels.specs.declared.turns.Turn.TheVariants.{On, Enter, Over}
use Rattle.levels.specs.declared.turns.Finished.{Finished}

-- The same list of the same pass.
pub record SameList (w w' : Walk) : Type 0 where
  pub owner : w'.list.owner ≡ w.list.owner
  pub base : w'.list.base ≡ w.list.base
  pub len : w'.list.len ≡ w.list.len
  pub classes : classes_of w'.pass ≡ classes_of w.pass

-- What is changed: free slots of the list's interval and the list's own words.
pub record Within (W W' X : List ℕ) (lo hi : ℕ) (v : Items) : Type 0 where
  pub kept : Kept W W' X lo hi v.base (v.base + v.len)
  pub long : length W' ≡ length W

-- ---- a turn

-- The list is at a turn, in the state s with the items `rest` unread.
pub record CanTurn (W : List ℕ) (w : Walk) : Type 0 where
  pub κ : Kind
  pub X : List ℕ
  pub lo : ℕ
  pub hi : ℕ
  pub s : State κ
  pub rest : Forest
  pub holds : Holds κ W X lo hi w s rest
  pub small : length W < 2 ^ 32

-- What bounds the turns of a list: three for each unread node, and one where an array waits.
abbrev pub turns_left : (κ : Kind) → State κ → Forest → ℕ
turns_left κ s rest = 3 * size rest + waits κ s

-- The array name that an item's contents complete, or 0.
abbrev pub lent_of : Pass → ℕ
lent_of Calls = 0
lent_of MathCalls = 0
lent_of Unsplit = 0
lent_of (Split done) = 0
lent_of (Arrays array lent) = lent
lent_of Unary = 0
lent_of (Binary classes pending) = 0
lent_of (Conditional tokens) = 0
lent_of Returns = 0

-- How the children cs of an entered item begin, in the state u: as their own list does; or, where an array was lent to them, with that one,
-- which stands in the slots from lo to l, before them.
pub data Begins (W X : List ℕ) (lo l : ℕ) (cs : Forest) : (κ : Kind) → Pass → State κ → Type 0 where
  afresh : {κ : Kind} {p : Pass} → lent_of p ≡ 0 → lo ≤ l → Begins W X lo l cs κ p (begins κ cs)
  lent : {array a : ℕ} {q : Token} → OpenArray W X a lo l q nil → starts_with_index cs ≡ true
      → Begins W X lo l cs arrays (Arrays array a) (indexed nil q nil)

-- Where a turn leads to, from the state s with the items `rest` unread.
pub data TurnTo (κ : Kind) (W' X : List ℕ) (lo hi : ℕ) (w : Walk) (s : State κ) (rest : Forest) : Result Turn Failure → Type 0 where
  goes : {w' : Walk} {s' : State κ} {rest' : Forest} → SameList w w' → Holds κ W' X lo hi w' s' rest'
      → work κ s rest ≡ work κ s' rest'
      → count rest' ≤ count rest → size rest' + count rest ≤ size rest + count rest' → turns_left κ s' rest' < turns_left κ s rest
      → TurnTo κ W' X lo hi w s rest (Ok (On w'))
  enters : {w' : Walk} {b l n m : ℕ} {t u : State κ} {rest' : Forest} {k : Token} {cs : Forest} → SameList w w'
      → Waits κ W' X lo l m hi w' t rest'
      → RepT W' X b n m k cs → is_nil cs ≡ false → Begins W' (b ∷ X) l n cs κ w'.pass u
      → work κ s rest ≡ and_then (work κ u (in_reading κ cs)) (λ kids. work κ (takes κ t k kids) rest')
      → count rest' ≤ count rest → size cs + size rest' + count rest ≤ size rest + count rest' + 1 → 1 + size cs + size rest' ≤ size rest
      → waits κ t + waits κ u ≤ waits κ s + 1
      → TurnTo κ W' X lo hi w s rest (Ok (Enter w' b))
  ends : {w' : Walk} {s' : State κ} → SameList w w' → Holds κ W' X lo hi w' s' nil → waits κ s' ≡ 0
      → work κ s rest ≡ work κ s' nil
      → TurnTo κ W' X lo hi w s rest (Ok (Over w'))
  fails : {f : Failure} {ms : List Message} → Tells W' f ms → work κ s rest ≡ fail ms → TurnTo κ W' X lo hi w s rest (Err f)

-- The turn leads where `TurnTo` says, and changes only what is the list's.
pub record Turned (W : List ℕ) (w : Walk) (r : Result Turn Failure) (W' : List ℕ) : Type 0 where
  pub to : (g : CanTurn W w) → TurnTo g.κ W' g.X g.lo g.hi w g.s g.rest r
  pub within : (g : CanTurn W w) → Within W W' g.X g.lo g.hi w.list

-- ---- an item whose children have become kids is taken back

-- The list waits in the state t for the item, whose token is k and whose children are kids now; no name is lent.
pub record CanResume (W : List ℕ) (w : Walk) (item : ℕ) : Type 0 where
  pub κ : Kind
  pub X : List ℕ
  pub lo : ℕ
  pub l : ℕ
  pub m : ℕ
  pub hi : ℕ
  pub t : State κ
  pub rest : Forest
  pub k : Token
  pub kids : Forest
  pub waits : Waits κ W X lo l m hi w t rest
  pub unlent : lent_of w.pass ≡ 0
  pub tree : RepT W X item l m k kids
  pub full : is_nil kids ≡ false
  pub small : length W < 2 ^ 32

-- The list is at a turn again, the item taken as the pass takes it.
pub record Resumed (W : List ℕ) (w : Walk) (item : ℕ) (w' : Walk) (W' : List ℕ) : Type 0 where
  pub list : SameList w w'
  pub holds : (g : CanResume W w item) → Holds g.κ W' g.X g.lo g.hi w' (takes g.κ g.t g.k g.kids) g.rest
  pub within : (g : CanResume W w item) → Within W W' g.X g.lo g.hi w.list

-- ---- every item is done

-- The list is at a turn with nothing unread, and no array waits.
pub record CanFinish (W : List ℕ) (w : Walk) : Type 0 where
  pub κ : Kind
  pub X : List ℕ
  pub lo : ℕ
  pub hi : ℕ
  pub s : State κ
  pub holds : Holds κ W X lo hi w s nil
  pub idle : waits κ s ≡ 0
  pub small : length W < 2 ^ 32

-- The n finished items that stand from `from` on.
abbrev pub ended_at : ℕ → ℕ → Finished
ended_at from n = record { from = from; items = n }

-- The n words from `from` on are the list that the pass gives.
pub data FinishTo (κ : Kind) (W' X : List ℕ) (lo hi : ℕ) (v : Items) (s : State κ) : Result Finished Failure → Type 0 where
  gives : {from n : ℕ} {f : Forest} → work κ s nil ≡ ok f → InArray W' X from n lo hi f → v.base ≤ from → from + n ≤ v.base + v.len
      → FinishTo κ W' X lo hi v s (Ok (ended_at from n))
  fails : {f : Failure} {ms : List Message} → Tells W' f ms → work κ s nil ≡ fail ms → FinishTo κ W' X lo hi v s (Err f)

-- The end gives what `FinishTo` says, and changes only what is the list's.
pub record Ends (W : List ℕ) (w : Walk) (r : Result Finished Failure) (W' : List ℕ) : Type 0 where
  pub to : (g : CanFinish W w) → FinishTo g.κ W' g.X g.lo g.hi w.list g.s r
  pub within : (g : CanFinish W w) → Within W W' g.X g.lo g.hi w.list

-- ---- a list begins

-- The children f of the list's owner stand in its words, unread.
pub record CanStart (W : List ℕ) (v : Items) : Type 0 where
  pub X : List ℕ
  pub lo : ℕ
  pub hi : ℕ
  pub f : Forest
  pub array : InArray W X v.base v.len lo hi f
  pub unread : v.read ≡ 0
  pub unwritten : v.write ≡ 0
  pub below : slot_start hi ≤ v.base
  pub within : v.base + v.len ≤ length W
  pub small : length W < 2 ^ 32

-- The statement pass looks at the whole list first.
pub record Started (W : List ℕ) (v : Items) (w : Walk) : Type 0 where
  pub list : w.list ≡ v
  pub holds : (g : CanStart W v) → Holds statements W g.X g.lo g.hi w (begins statements g.f) g.f
