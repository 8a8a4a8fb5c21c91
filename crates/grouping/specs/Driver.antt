-- The driver's stack and what its functions ask and ensure: where a pass is, as the list on top and the lists that wait below it. A turn
-- leaves the result of the whole pass as it is, and there are fewer turns left after it.
use Rattle.std.specs.Prelude.{ℕ, ◌+◌, ◌*◌, ◌^◌, ◌≤◌, ◌<◌, ◌≡◌, ◌⊎◌, false, List, [], ◌∷◌, length, Result, Ok, Err}
use Rattle.molang.specs.Forest.{Token, Forest, nil, count, size}
use Rattle.molang.specs.Message.{Message, Result as Answer, ok, fail}
use Rattle.molang.specs.Free.{is_nil}
use Rattle.molang.specs.Work.{Kind, State, work, pass, in_reading, takes, and_then, Held, held, unwound}
use Rattle.nodes.specs.Store.{wd, slot_start, first_at, TokenAt, Seg, Out, RepT, Owned, Free}
use Rattle.nodes.specs.Children.{Taken}
use Rattle.nodes.specs.Frames.{FrameAt}
use Rattle.nodes.specs.declared.frames.List.{List as Items}
use Rattle.levels.specs.Passes.{classes_of, held_of, Runs, waits}
use Rattle.levels.specs.Sides.{Holds, Waits}
use Rattle.levels.specs.Failures.{Tells}
use Rattle.levels.specs.Turns.{turns_left, lent_of, Begins}
use Rattle.levels.specs.declared.failure.Failure.{Failure}
use Rattle.levels.specs.declared.turns.Pass.{Pass}
use Rattle.levels.specs.declared.turns.Pass.TheVariants.{Calls, MathCalls, Unsplit, Split, Arrays, Unary, Binary, Conditional, Returns}
use Rattle.levels.specs.declared.turns.Walk.{Walk}
use Rattle.grouping.specs.declared.driver.Next.{Next}
use Rattle.grouping.specs.declared.driver.Next.TheVariants.{On, Done}

-- ---- the stack

-- There are enough words behind the list for what is unread: eight for each node, less the words that its items have in the list.
abbrev pub Room : List ℕ → Items → Forest → Type 0
Room W v rest = v.base + v.len + 8 * size rest ≤ length W + count rest

-- A list that waits for the children of its item b, the token k, which has the slots from l to m: its state, and its frame right above it.
pub record FrameOf (κ : Kind) (classes : ℕ) (W X : List ℕ) (lo l m hi : ℕ) (w : Walk) (b : ℕ) (t : State κ) (k : Token) (rest : Forest)
    : Type 0 where
  pub waiting : Waits κ W X lo l m hi w t rest
  pub unlent : lent_of w.pass ≡ 0
  pub same : classes_of w.pass ≡ classes
  pub token : TokenAt W b k
  pub low : l ≤ b
  pub high : b < m
  pub pos : 0 < b
  pub out : Out b X
  pub words : FrameAt W (w.list.base + w.list.len) w.list (held_of w.pass)
  pub room : Room W w.list rest

-- The lists that wait below the list of `owner` at base, which has the slots from lo to hi that are neither the owner nor in X. The
-- outermost list is that of slot 0.
pub data Stack (κ : Kind) (classes : ℕ) (W : List ℕ) (base0 hi0 : ℕ) : List ℕ → ℕ → ℕ → ℕ → ℕ → List (Held κ) → Type 0 where
  bottom : Stack κ classes W base0 hi0 [] 0 0 hi0 base0 []
  over : {X : List ℕ} {lo l m hi b : ℕ} {w : Walk} {t : State κ} {k : Token} {rest : Forest} {S : List (Held κ)}
      → Stack κ classes W base0 hi0 X w.list.owner lo hi w.list.base S
      → FrameOf κ classes W (w.list.owner ∷ X) lo l m hi w b t k rest
      → Stack κ classes W base0 hi0 (w.list.owner ∷ X) b l m (w.list.base + w.list.len + 6) (held t k rest ∷ S)

-- No pass empties a list: r, which the list on top gives, is not empty, and what each list below then gives is not empty either.
abbrev pub Full : (κ : Kind) → List (Held κ) → Answer → Type 0
Full κ [] r = Unit {0}
Full κ (held t k rest ∷ S) r = ((f : Forest) → r ≡ ok f → is_nil f ≡ false) × Full κ S (and_then r (λ kids. work κ (takes κ t k kids) rest))

-- Where a pass is: on the list w, in the state s, with the items `rest` unread, and the lists of S below it.
pub record Going (κ : Kind) (classes : ℕ) (W : List ℕ) (base0 hi0 : ℕ) (w : Walk) (S : List (Held κ)) (s : State κ) (rest : Forest)
    : Type 0 where
  pub X : List ℕ
  pub lo : ℕ
  pub hi : ℕ
  pub stack : Stack κ classes W base0 hi0 X w.list.owner lo hi w.list.base S
  pub holds : Holds κ W (w.list.owner ∷ X) lo hi w s rest
  pub same : classes_of w.pass ≡ classes
  pub room : Room W w.list rest
  pub full : Full κ S (work κ s rest)
  pub some : 0 < hi0
  pub small : length W < 2 ^ 32

-- How many turns the lists that wait have left at most, and one more for each of them.
abbrev pub turns_below : (κ : Kind) → List (Held κ) → ℕ
turns_below κ [] = 0
turns_below κ (held t k rest ∷ S) = turns_left κ t rest + 1 + turns_below κ S

-- Only the slots below hi0 and the words of the stack, from base0 on, are changed.
pub record Beyond (W W' : List ℕ) (base0 hi0 : ℕ) : Type 0 where
  pub kept : (j : ℕ) → Free [] 0 hi0 j → j < base0 → wd W' j ≡ wd W j
  pub long : length W' ≡ length W

-- The outermost list F: under slot 0, and its n items in the words from base on as well.
pub record Outermost (W : List ℕ) (base n hi : ℕ) (F : Forest) : Type 0 where
  pub owned : Owned W [] 0 0 hi F
  pub seg : Seg W base owned.cs
  pub count : n ≡ length owned.cs

-- ---- `begin`, `open`

-- The children cs of `owner` are a list of the pass, to begin in the state u; the words from `base` on have room for its items.
pub record CanOpen (W : List ℕ) (owner base : ℕ) (p : Pass) : Type 0 where
  pub κ : Kind
  pub X : List ℕ
  pub lo : ℕ
  pub n : ℕ
  pub hi : ℕ
  pub cs : Forest
  pub u : State κ
  pub runs : Runs κ p
  pub owned : Owned W X owner n hi cs
  pub begins : Begins W (owner ∷ X) lo n cs κ p u
  pub own : owner < hi
  pub below : slot_start hi ≤ base
  pub room : base + count cs ≤ length W
  pub small : length W < 2 ^ 32

-- w is at the beginning of that list, whose items stand from `base` on; all other words are as they were.
pub record Opened (W : List ℕ) (owner base : ℕ) (p : Pass) (w : Walk) (W' : List ℕ) : Type 0 where
  pub owned : w.list.owner ≡ owner
  pub based : w.list.base ≡ base
  pub classes : classes_of w.pass ≡ classes_of p
  pub count : (g : CanOpen W owner base p) → w.list.len ≡ count g.cs
  pub holds : (g : CanOpen W owner base p) → Holds g.κ W' (owner ∷ g.X) g.lo g.hi w g.u (in_reading g.κ g.cs)
  pub same : (j : ℕ) → (j < base) ⊎ (base + w.list.len ≤ j) → wd W' j ≡ wd W j
  pub long : length W' ≡ length W

-- The owner's children have been taken to the list's words.
pub record CanBegin (W : List ℕ) (owner base len : ℕ) (p : Pass) : Type 0 where
  pub before : List ℕ
  pub opens : CanOpen before owner base p
  pub taken : Taken before (first_at before owner) base len W

-- w is at the beginning of the owner's list, as `Opened` says it of the words before its children were taken.
pub record Begun (W : List ℕ) (owner base len : ℕ) (p : Pass) (w : Walk) : Type 0 where
  pub opened : (g : CanBegin W owner base len p) → Opened g.before owner base p w W

-- ---- `kept`

-- The passes that take an item back as it is.
abbrev pub Keeping : Pass → Type 0
Keeping Calls = Unit {0}
Keeping MathCalls = Unit {0}
Keeping Unsplit = Unit {0}
Keeping (Split done) = Unit {0}
Keeping (Arrays array lent) = ⊥
Keeping Unary = ⊥
Keeping (Binary classes pending) = ⊥
Keeping (Conditional tokens) = Unit {0}
Keeping Returns = Unit {0}

-- ---- `descend`

-- The list of w waits for the children cs of `item`, which has some and which begin in the state u; there is room for its frame and for
-- them.
pub record CanDescend (W : List ℕ) (w : Walk) (item : ℕ) : Type 0 where
  pub κ : Kind
  pub classes : ℕ
  pub base0 : ℕ
  pub hi0 : ℕ
  pub X : List ℕ
  pub lo : ℕ
  pub l : ℕ
  pub n : ℕ
  pub m : ℕ
  pub hi : ℕ
  pub S : List (Held κ)
  pub t : State κ
  pub u : State κ
  pub k : Token
  pub cs : Forest
  pub rest : Forest
  pub stack : Stack κ classes W base0 hi0 X w.list.owner lo hi w.list.base S
  pub waiting : Waits κ W (w.list.owner ∷ X) lo l m hi w t rest
  pub same : classes_of w.pass ≡ classes
  pub tree : RepT W (w.list.owner ∷ X) item n m k cs
  pub some : is_nil cs ≡ false
  pub full : Full κ S (and_then (work κ u (in_reading κ cs)) (λ kids. work κ (takes κ t k kids) rest))
  pub begins : Begins W (item ∷ w.list.owner ∷ X) l n cs κ w.pass u
  pub room : Room W w.list rest
  pub inner : w.list.base + w.list.len + 6 + 8 * size cs ≤ length W
  pub small : length W < 2 ^ 32

-- The pass is at the beginning of those children, and the list of w is the first that waits below them.
pub record Descended (W : List ℕ) (w : Walk) (item : ℕ) (w' : Walk) (W' : List ℕ) : Type 0 where
  pub going : (g : CanDescend W w item)
      → Going g.κ g.classes W' g.base0 g.hi0 w' (held g.t g.k g.rest ∷ g.S) g.u (in_reading g.κ g.cs)
  pub beyond : (g : CanDescend W w item) → Beyond W W' g.base0 g.hi0

-- ---- `move_down`

-- The n words from `from` on lie in the buffer, and `base` is not above them.
pub record CanMove (W : List ℕ) (from n base : ℕ) : Type 0 where
  pub down : base ≤ from
  pub within : from + n ≤ length W

-- The n words that stood from `from` on stand from `base` on, and the words below `base` are as they were.
pub record Moved (W : List ℕ) (from n base : ℕ) (W' : List ℕ) : Type 0 where
  pub words : (i : ℕ) → i < n → wd W' (base + i) ≡ wd W (from + i)
  pub same : (j : ℕ) → j < base → wd W' j ≡ wd W j
  pub long : length W' ≡ length W

-- ---- `close`, `advance`

-- Where a turn of the driver leads to, from what is left to be done: the same result with fewer turns, or the end of the whole pass.
pub data NextTo (κ : Kind) (classes : ℕ) (W' : List ℕ) (base0 hi0 : ℕ) (r : Answer) (turns : ℕ) : Result Next Failure → Type 0 where
  goes : {w' : Walk} {S' : List (Held κ)} {s' : State κ} {rest' : Forest} → Going κ classes W' base0 hi0 w' S' s' rest'
      → r ≡ unwound κ S' (work κ s' rest') → turns_left κ s' rest' + turns_below κ S' < turns
      → NextTo κ classes W' base0 hi0 r turns (Ok (On w'))
  ends : {f : Forest} {n : ℕ} → r ≡ ok f → Outermost W' base0 n hi0 f → NextTo κ classes W' base0 hi0 r turns (Ok (Done n))
  fails : {f : Failure} {ms : List Message} → r ≡ fail ms → Tells W' f ms → NextTo κ classes W' base0 hi0 r turns (Err f)

-- The pass is somewhere in its lists (`Going`).
pub record CanAdvance (W : List ℕ) (w : Walk) (base0 : ℕ) : Type 0 where
  pub κ : Kind
  pub classes : ℕ
  pub hi0 : ℕ
  pub S : List (Held κ)
  pub s : State κ
  pub rest : Forest
  pub going : Going κ classes W base0 hi0 w S s rest

-- One turn leads on with the same result and fewer turns left, or to the end of the whole pass.
pub record Advanced (W : List ℕ) (w : Walk) (base0 : ℕ) (r : Result Next Failure) (W' : List ℕ) : Type 0 where
  pub to : (g : CanAdvance W w base0)
      → NextTo g.κ g.classes W' base0 g.hi0 (unwound g.κ g.S (work g.κ g.s g.rest))
      (turns_left g.κ g.s g.rest + turns_below g.κ g.S) r
  pub beyond : (g : CanAdvance W w base0) → Beyond W W' base0 g.hi0

-- Every item of the list on top is done.
pub record CanClose (W : List ℕ) (w : Walk) (base0 : ℕ) : Type 0 where
  pub κ : Kind
  pub classes : ℕ
  pub hi0 : ℕ
  pub S : List (Held κ)
  pub s : State κ
  pub going : Going κ classes W base0 hi0 w S s nil
  pub idle : waits κ s ≡ 0

-- The end of the list on top leads on with the same result, or to the end of the whole pass.
pub record Closed (W : List ℕ) (w : Walk) (base0 : ℕ) (r : Result Next Failure) (W' : List ℕ) : Type 0 where
  pub to : (g : CanClose W w base0)
      → NextTo g.κ g.classes W' base0 g.hi0 (unwound g.κ g.S (work g.κ g.s nil)) (turns_below g.κ g.S) r
  pub beyond : (g : CanClose W w base0) → Beyond W W' base0 g.hi0

-- ---- `run`

-- The outermost list F has n items, and the words from base on have room for the lists under work.
pub record CanRun (W : List ℕ) (base n : ℕ) (p : Pass) : Type 0 where
  pub κ : Kind
  pub hi : ℕ
  pub F : Forest
  pub runs : Runs κ p
  pub unlent : lent_of p ≡ 0
  pub list : Outermost W base n hi F
  pub own : 0 < hi
  pub below : slot_start hi ≤ base
  pub room : base + 8 * size F ≤ length W
  pub small : length W < 2 ^ 32

-- The pass ran to its end: its result r is a list, which is the outermost one now, or the messages of the failure.
pub data RanTo (W' : List ℕ) (base hi : ℕ) (r : Answer) : Result ℕ Failure → Type 0 where
  done : {f : Forest} {n : ℕ} → r ≡ ok f → Outermost W' base n hi f → RanTo W' base hi r (Ok n)
  failed : {f : Failure} {ms : List Message} → r ≡ fail ms → Tells W' f ms → RanTo W' base hi r (Err f)

-- The run came to the result of the definition's pass over the outermost list.
pub record HasRun (W : List ℕ) (base n : ℕ) (p : Pass) (r : Result ℕ Failure) (W' : List ℕ) : Type 0 where
  pub to : (g : CanRun W base n p) → RanTo W' base g.hi (pass g.κ g.F) r
  pub beyond : (g : CanRun W base n p) → Beyond W W' base g.hi
