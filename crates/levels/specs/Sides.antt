-- What a pass holds of a list while it works on it. The list's trees stand in the slots from lo to hi that are not in X, the owner's and
-- its ancestors': from the left what is done below l, what is unread from m on; from the right (the unary pass) the other way round. In
-- between, from l to m, stands the item whose children are out, if any. Each pass says in its own terms what its state keeps of the done
-- side.
use Rattle.std.specs.Prelude.{ℕ, ◌+◌, ◌≤◌, ◌<◌, ◌≡◌, ◌⊎◌, Bool, true, false, List, [], ◌∷◌, length}
use Rattle.std.proofs.Math.Option.{none, some}
use Rattle.molang.specs.Operator.{is_one_of, semicolon, array}
use Rattle.molang.specs.Forest.{Token, Forest, nil, node, bare}
use Rattle.molang.specs.Level.{Gathered, gathered, waiting}
use Rattle.molang.specs.Calls.{Indexing, unindexed, named, indexed, starts_with_index}
use Rattle.molang.specs.Statements.{Split, unsplit, after, inside, split_of}
use Rattle.molang.specs.Binary.{unfolded}
use Rattle.molang.specs.Order.{last_of}
use Rattle.molang.specs.Free.{clear, is_nil, is_conditional}
use Rattle.molang.specs.Work.{Kind, calls, statements, arrays, unary_minus_and_not, conditional, returns, binary, Right, right, State}
use Rattle.ops.specs.declared.classes.TokenClasses.{TokenClasses}
use Rattle.nodes.specs.Store.{wd, slot_start, first_at, TokenAt, Chain, SegB, Out, OutFrom, RepT, RepB, InArray}
use Rattle.nodes.specs.declared.frames.List.{List as Items}
use Rattle.levels.specs.Passes.{Runs}
use Rattle.levels.specs.Items.{BackArray, Ahead}
use Rattle.levels.specs.declared.turns.Pass.{Pass}
use Rattle.levels.specs.declared.turns.Pass.TheVariants.{Calls, MathCalls, Unsplit, Split as SplitAt, Arrays, Unary, Binary}
use Rattle.levels.specs.declared.turns.Pass.TheVariants.{Conditional, Returns}
use Rattle.levels.specs.declared.turns.Walk.{Walk}

-- ---- calls and `return`: the trees that are done. A call that waits for its section is never seen between two turns: the code looks
-- ahead.

-- What calls and `return` hold.
pub data GatherSide (W X : List ℕ) (base write lo l : ℕ) : Gathered → Type 0 where
  all : {d : Forest} → BackArray W X base write lo l d → GatherSide W X base write lo l (gathered d)

-- ---- the binary levels: none of the done trees is itself a token of the level. An operator waits only while the children of its right
-- side are out; its left side has nothing unfolded below it.

-- What a binary level holds.
pub data LevelSide (W X : List ℕ) (base write lo l : ℕ) (ops : List ℕ) : Pass → Gathered → Type 0 where
  all : {d : Forest} {classes : TokenClasses} → clear (is_one_of ops) d ≡ true → BackArray W X base write lo l d
      → LevelSide W X base write lo l ops (Binary classes 0) (gathered d)
  operator : {d : Forest} {classes : TokenClasses} {pending m : ℕ} {q : Token} → clear (is_one_of ops) d ≡ true
      → BackArray W X base write lo m d → is_nil d ≡ false
      → unfolded ops d ≡ none
      → RepT W X pending m l q nil → LevelSide W X base write lo l ops (Binary classes pending) (waiting d q)

-- ---- the conditional: the trees as they are, and how many of them are `?` or `:`

-- The trees of the list itself that are leaves of P.
unfoldable pub tokens_in : (ℕ → Bool) → Forest → ℕ
tokens_in P nil = 0
tokens_in P (node k nil rest) = elim (P k.op) [ true ↦ 1 + tokens_in P rest | false ↦ tokens_in P rest ]
tokens_in P (node k (node c cs r) rest) = tokens_in P rest

-- What the conditional holds.
pub data ConditionalSide (W X : List ℕ) (base write lo l : ℕ) : Pass → Forest → Type 0 where
  all : {d : Forest} {tokens : ℕ} → tokens ≡ tokens_in is_conditional d → BackArray W X base write lo l d
      → ConditionalSide W X base write lo l (Conditional tokens) d

-- ---- statements

-- The finished statements, the last first, each in the slot of the semicolon that ended it; the two slots after that are free.
pub data Ended (W X : List ℕ) : List ℕ → ℕ → ℕ → Forest → Type 0 where
  nothing : {lo l : ℕ} → lo ≤ l → Ended W X [] lo l nil
  statement : {b : ℕ} {ds : List ℕ} {lo m l : ℕ} {d : Forest} {s : Token} {k : Forest}
      → Ended W X ds lo m d → RepT W X b m (b + 1) s k → OutFrom b 3 X → b + 3 ≤ l → Ended W X (b ∷ ds) lo l (node s k d)

-- The n finished statements stand in the words from base on. With the first one, the statement list's own token q was laid down two slots
-- behind it.
pub record EndedAt (W X : List ℕ) (base n lo l : ℕ) (q : Token) (done : Forest) : Type 0 where
  pub ds : List ℕ
  pub seg : SegB W base ds
  pub count : n ≡ length ds
  pub rep : Ended W X ds lo l done
  pub list : is_nil done ≡ false → TokenAt W (wd W base + 2) q

-- The open statement s: the trees of d after the n finished statements; s has the span of the first of them.
pub record OpenAt (W X : List ℕ) (base n write m l : ℕ) (s : Token) (d : Forest) : Type 0 where
  pub first : Token
  pub earliest : last_of none d ≡ some first
  pub named : s ≡ bare semicolon first
  pub count : ℕ
  pub reached : n + count ≡ write
  pub items : BackArray W X (base + n) count m l d

-- What the statement pass holds, in a list without semicolons, after a statement's end, and inside a statement.
pub data StatementSide (W X : List ℕ) (base write lo l : ℕ) : Pass → Split → Type 0 where
  whole : {d : Forest} → BackArray W X base write lo l d → StatementSide W X base write lo l Unsplit (unsplit d)
  closed : {done : Forest} {q : Token} → EndedAt W X base write lo l q done
      → StatementSide W X base write lo l (SplitAt write) (after q done)
  current : {n m : ℕ} {done d : Forest} {q s : Token} → EndedAt W X base n lo m q done → OpenAt W X base n write m l s d
      → StatementSide W X base write lo l (SplitAt n) (inside q done s d)

-- ---- arrays

-- The array q at the slot a, its contents in the slots after it, the last first, a chain from its last child on. Its classes are not noted
-- yet.
pub record OpenArray (W X : List ℕ) (a lo l : ℕ) (q : Token) (contents : Forest) : Type 0 where
  pub cs : List ℕ
  pub low : lo ≤ a
  pub high : a < l
  pub pos : 0 < a
  pub out : Out a X
  pub token : TokenAt W a q
  pub is_array : q.op ≡ array
  pub chain : Chain W (first_at W a) cs
  pub kids : RepB W (a ∷ X) cs (a + 1) l contents

-- What the array pass holds, without an array that may take a further index and with one.
pub data ArraySide (W X : List ℕ) (base write lo l : ℕ) : Pass → Indexing → Type 0 where
  all : {d : Forest} {lent : ℕ} → BackArray W X base write lo l d → ArraySide W X base write lo l (Arrays 0 lent) (unindexed d)
  growing : {d contents : Forest} {q : Token} {a lent m : ℕ} → BackArray W X base write lo m d → OpenArray W X a m l q contents
      → ArraySide W X base write lo l (Arrays a lent) (indexed d q contents)

-- ---- unary: the done trees stand at the list's end

-- What the unary pass holds.
pub data RightSide (W X : List ℕ) (base write len m hi : ℕ) : Right → Type 0 where
  all : {d : Forest} {n : ℕ} → write + n ≡ len → InArray W X (base + write) n m hi d → RightSide W X base write len m hi (right false d)

-- ---- a list of any pass

-- What is done.
abbrev pub DoneSide : (κ : Kind) → List ℕ → List ℕ → ℕ → ℕ → ℕ → ℕ → Walk → State κ → Type 0
DoneSide (calls kind) W X lo l m hi w s = GatherSide W X w.list.base w.list.write lo l s
DoneSide returns W X lo l m hi w s = GatherSide W X w.list.base w.list.write lo l s
DoneSide (binary ops) W X lo l m hi w s = LevelSide W X w.list.base w.list.write lo l ops w.pass s
DoneSide conditional W X lo l m hi w s = ConditionalSide W X w.list.base w.list.write lo l w.pass s
DoneSide statements W X lo l m hi w s = StatementSide W X w.list.base w.list.write lo l w.pass s
DoneSide arrays W X lo l m hi w s = ArraySide W X w.list.base w.list.write lo l w.pass s
DoneSide unary_minus_and_not W X lo l m hi w s = RightSide W X w.list.base w.list.write w.list.len m hi s

-- What is unread, in reading order.
abbrev pub UnreadSide : Kind → List ℕ → List ℕ → ℕ → ℕ → ℕ → ℕ → Items → Forest → Type 0
UnreadSide (calls kind) W X lo l m hi v rest = Ahead W X v.base v.read v.len m hi rest
UnreadSide returns W X lo l m hi v rest = Ahead W X v.base v.read v.len m hi rest
UnreadSide (binary ops) W X lo l m hi v rest = Ahead W X v.base v.read v.len m hi rest
UnreadSide conditional W X lo l m hi v rest = Ahead W X v.base v.read v.len m hi rest
UnreadSide statements W X lo l m hi v rest = Ahead W X v.base v.read v.len m hi rest
UnreadSide arrays W X lo l m hi v rest = Ahead W X v.base v.read v.len m hi rest
UnreadSide unary_minus_and_not W X lo l m hi v rest = BackArray W X v.base v.read lo l rest

-- What the statement pass's state says of the unread items: while no statement is finished, the semicolon whose span q has is unread.
abbrev pub SplitAgrees : Split → Forest → Type 0
SplitAgrees (unsplit d) rest = Unit {0}
SplitAgrees (after q nil) rest = split_of rest ≡ after q nil
SplitAgrees (after q (node s k done)) rest = Unit {0}
SplitAgrees (inside q nil s d) rest = split_of rest ≡ after q nil
SplitAgrees (inside q (node t k done) s d) rest = Unit {0}

-- What the array pass's state says of them: an array that waits before the list's first item was lent to the list, which begins with its
-- index.
abbrev pub ArrayAgrees : Items → Indexing → Forest → Type 0
ArrayAgrees v (unindexed d) rest = Unit {0}
ArrayAgrees v (named d q) rest = Unit {0}
ArrayAgrees v (indexed d q contents) rest = (v.write < v.read) ⊎ (starts_with_index rest ≡ true)

-- What the state of any pass says of the unread items.
abbrev pub Agrees : (κ : Kind) → Items → State κ → Forest → Type 0
Agrees (calls kind) v s rest = Unit {0}
Agrees returns v s rest = Unit {0}
Agrees (binary ops) v s rest = Unit {0}
Agrees conditional v s rest = Unit {0}
Agrees statements v s rest = SplitAgrees s rest
Agrees arrays v s rest = ArrayAgrees v s rest
Agrees unary_minus_and_not v s rest = Unit {0}

-- Both sides of a list.
pub record Sides (κ : Kind) (W X : List ℕ) (lo l m hi : ℕ) (w : Walk) (s : State κ) (rest : Forest) : Type 0 where
  pub runs : Runs κ w.pass
  pub done : DoneSide κ W X lo l m hi w s
  pub unread : UnreadSide κ W X lo l m hi w.list rest
  pub agrees : Agrees κ w.list s rest
  pub low : lo ≤ l
  pub mid : l ≤ m
  pub high : m ≤ hi
  pub below : slot_start hi ≤ w.list.base
  pub within : w.list.base + w.list.len ≤ length W

-- Between two turns no operator waits and no name is lent; the items of the conditional pass stay where they are.
abbrev pub AtTurn : Items → Pass → Type 0
AtTurn v Calls = v.write ≤ v.read
AtTurn v MathCalls = v.write ≤ v.read
AtTurn v Unsplit = v.write ≤ v.read
AtTurn v (SplitAt n) = v.write ≤ v.read
AtTurn v (Arrays a lent) = (lent ≡ 0) × (v.write ≤ v.read)
AtTurn v Unary = v.read ≤ v.write
AtTurn v (Binary classes pending) = (pending ≡ 0) × (v.write ≤ v.read)
AtTurn v (Conditional tokens) = v.write ≡ v.read
AtTurn v Returns = v.write ≤ v.read

-- While the children of an item are out, a word of the list is free for the item.
abbrev pub InFrame : Items → Pass → Type 0
InFrame v Calls = v.write < v.read
InFrame v MathCalls = v.write < v.read
InFrame v Unsplit = v.write < v.read
InFrame v (SplitAt n) = v.write < v.read
InFrame v (Arrays a lent) = v.write < v.read
InFrame v Unary = v.read < v.write
InFrame v (Binary classes pending) = v.write < v.read
InFrame v (Conditional tokens) = v.write + 1 ≡ v.read
InFrame v Returns = v.write < v.read

-- The list at a turn: in the state s, with the unread items `rest`.
pub record Holds (κ : Kind) (W X : List ℕ) (lo hi : ℕ) (w : Walk) (s : State κ) (rest : Forest) : Type 0 where
  pub l : ℕ
  pub m : ℕ
  pub sides : Sides κ W X lo l m hi w s rest
  pub turning : AtTurn w.list w.pass

-- The list while the children of the item between l and m are out: it waits in the state t, with the items `rest` after that one.
pub record Waits (κ : Kind) (W X : List ℕ) (lo l m hi : ℕ) (w : Walk) (t : State κ) (rest : Forest) : Type 0 where
  pub sides : Sides κ W X lo l m hi w t rest
  pub framed : InFrame w.list w.pass
