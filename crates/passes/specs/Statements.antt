-- What the statement pass's own functions ask and ensure, word by word; the laws of proofs/ lift it to trees.
use Rattle.std.specs.Prelude.{ℕ, ◌+◌, ◌-◌, ◌^◌, ◌≤◌, ◌<◌, ◌≢◌, ◌≡◌, Bool, true, false, not, List, length, set, Result, Ok, Err}
use Rattle.molang.specs.Operator.{semicolon}
use Rattle.molang.specs.Statements.{is_entered}
use Rattle.molang.specs.Free.{clear, is_semicolon}
use Rattle.nodes.specs.Store.{wd, slot_end}
use Rattle.nodes.specs.Slots.{op_at, Made}
use Rattle.nodes.specs.Children.{CanGive, Given}
use Rattle.nodes.specs.declared.frames.List.{List as Items}
use Rattle.levels.specs.Passes.{walk_of, moved_to}
use Rattle.levels.specs.Turns.{CanStart}
use Rattle.levels.specs.declared.failure.Failure.{Failure}
use Rattle.levels.specs.declared.failure.Failure.TheVariants.{LeadingSemicolon}
use Rattle.levels.specs.declared.turns.Pass.{Pass}
use Rattle.levels.specs.declared.turns.Pass.TheVariants.{Split as SplitAt}
use Rattle.levels.specs.declared.turns.Turn.{Turn}
use Rattle.levels.specs.declared.turns.Turn.TheVariants.{On, Enter}

-- ---- `has_semicolon`

-- r says whether a leaf of the list itself is a semicolon.
pub record HasSemicolon (W : List ℕ) (v : Items) (r : Bool) : Type 0 where
  pub answer : (g : CanStart W v) → r ≡ not (clear is_semicolon g.f)

-- ---- `end_statement`

-- The n items from `at` on became the children of a new statement at `slot`, which has the span of the first of them and stands in the
-- word of the first.
pub record Grouped (W : List ℕ) (slot at n : ℕ) (W' : List ℕ) : Type 0 where
  pub made : List ℕ
  pub given : List ℕ
  pub make : Made W slot semicolon (wd W at) made
  pub give : Given made slot at n given
  pub stored : W' ≡ set given at slot

-- ---- `inner`

-- The item's children come first, or it is kept as it is.
pub data InnerTo (W : List ℕ) (l : Items) (item : ℕ) (p : Pass) : Turn → List ℕ → Type 0 where
  entered : is_entered (op_at W item) ≡ true → InnerTo W l item p (Enter (walk_of l p) item) W
  kept : {W' : List ℕ} → is_entered (op_at W item) ≡ false → W' ≡ set W (l.base + l.write) item
      → InnerTo W l item p (On (walk_of (moved_to l l.read (l.write + 1)) p)) W'

-- ---- `begin_list`, `semicolon`

-- The list's own node is made with the first statement, two slots behind the semicolon that ends that statement.
pub data ListMade (W : List ℕ) (item done : ℕ) : List ℕ → Type 0 where
  there : done ≢ 0 → ListMade W item done W
  begun : {W' : List ℕ} → done ≡ 0 → Made W (item + 2) semicolon item W' → ListMade W item done W'

-- The semicolon's three slots are below the stack, and so are the open statement's items.
pub record CanEnd (W : List ℕ) (l : Items) (item done : ℕ) : Type 0 where
  pub own : slot_end (item + 2) ≤ l.base
  pub from : done ≤ l.write
  pub within : l.base + l.write ≤ length W
  pub small : length W < 2 ^ 32
  pub give : done < l.write → CanGive W item (l.base + done) (l.write - done)

-- The semicolon stands first, or after another, or ends a statement.
pub data SemicolonTo (W : List ℕ) (l : Items) (item done : ℕ) : Result Turn Failure → List ℕ → Type 0 where
  leading : l.write ≡ 0 → SemicolonTo W l item done (Err (LeadingSemicolon item)) W
  again : l.write ≢ 0 → l.write ≡ done → SemicolonTo W l item done (Ok (On (walk_of l (SplitAt done)))) W
  ended : {W1 W' : List ℕ} → done < l.write → ListMade W item done W1 → Grouped W1 item (l.base + done) (l.write - done) W'
      → SemicolonTo W l item done (Ok (On (walk_of (moved_to l l.read (done + 1)) (SplitAt (done + 1))))) W'

-- ---- `end_open`

-- The last finished statement's slot and the one after it are below the stack, and so are the open statement's items.
pub record CanClose (W : List ℕ) (l : Items) (done : ℕ) : Type 0 where
  pub finished : 0 < done
  pub from : done ≤ l.write
  pub within : l.base + l.write ≤ length W
  pub small : length W < 2 ^ 32
  pub last : slot_end (wd W (l.base + done - 1) + 2) ≤ l.base
  pub give : done < l.write → CanGive W (wd W (l.base + done - 1) + 1) (l.base + done) (l.write - done)

-- No statement is open, or the open one stands in the slot after the last finished one's.
pub data ClosedTo (W : List ℕ) (l : Items) (done : ℕ) : ℕ → List ℕ → Type 0 where
  complete : l.write ≡ done → ClosedTo W l done done W
  closing : {W' : List ℕ} → done < l.write → Grouped W (wd W (l.base + done - 1) + 1) (l.base + done) (l.write - done) W'
      → ClosedTo W l done (done + 1) W'
