-- A level that goes from the left has read an item of its list: what the functions on that item ask and ensure. The trees of d are done,
-- those of `rest` unread; the item's own tree stands between the two.
use Rattle.std.specs.Prelude.{ℕ, ◌+◌, ◌^◌, ◌≤◌, ◌<◌, ◌≡◌, Bool, true, List, length, Result}
use Rattle.molang.specs.Operator.{is_one_of}
use Rattle.molang.specs.Forest.{Token, Forest, nil, node}
use Rattle.molang.specs.Level.{gathered}
use Rattle.molang.specs.Calls.{CallKind, query_or_loop, math, unindexed, calls as is_call}
use Rattle.molang.specs.Statements.{unsplit}
use Rattle.molang.specs.Free.{clear, is_array_name, is_semicolon, is_return}
use Rattle.molang.specs.Work.{Kind, calls, statements, arrays, returns, binary, State}
use Rattle.nodes.specs.Store.{slot_start, RepT}
use Rattle.nodes.specs.declared.frames.List.{List as Items}
use Rattle.ops.specs.declared.classes.TokenClasses.{TokenClasses}
use Rattle.levels.specs.Passes.{walk_of, Covers}
use Rattle.levels.specs.Items.{BackArray, Ahead}
use Rattle.levels.specs.Turns.{Within, TurnTo}
use Rattle.levels.specs.declared.failure.Failure.{Failure}
use Rattle.levels.specs.declared.turns.Pass.{Pass}
use Rattle.levels.specs.declared.turns.Pass.TheVariants.{Calls, MathCalls, Unsplit, Split, Arrays, Unary, Binary, Conditional, Returns}
use Rattle.levels.specs.declared.turns.Walk.{Walk}
use Rattle.levels.specs.declared.turns.Turn.{Turn}

-- The item at the slot b, the tree k over cs, was read and is not done yet.
pub record AtItem (W X : List ℕ) (l : Items) (b lo hi : ℕ) (d : Forest) (k : Token) (cs rest : Forest) : Type 0 where
  pub a : ℕ
  pub m : ℕ
  pub done : BackArray W X l.base l.write lo a d
  pub tree : RepT W X b a m k cs
  pub ahead : Ahead W X l.base l.read l.len m hi rest
  pub behind : l.write < l.read
  pub below : slot_start hi ≤ l.base
  pub within : l.base + l.len ≤ length W
  pub small : length W < 2 ^ 32

-- The item at the slot b is a leaf.
pub record AtToken (W : List ℕ) (l : Items) (b : ℕ) : Type 0 where
  pub X : List ℕ
  pub lo : ℕ
  pub hi : ℕ
  pub d : Forest
  pub k : Token
  pub rest : Forest
  pub item : AtItem W X l b lo hi d k nil rest

-- The turn goes on from there, where the token is one of the pass (P) and the trees before it are as the pass leaves them (good).
pub record TokenTurned (κ : Kind) (idle : Forest → State κ) (P : ℕ → Bool) (good : Forest → Bool) (W : List ℕ) (w : Walk) (b : ℕ)
    (r : Result Turn Failure) (W' : List ℕ) : Type 0 where
  pub to : (g : AtToken W w.list b) → P g.k.op ≡ true → good g.d ≡ true
      → TurnTo κ W' g.X g.lo g.hi w (idle g.d) (node g.k nil g.rest) r
  pub within : (g : AtToken W w.list b) → Within W W' g.X g.lo g.hi w.list

-- Calls, arrays, `return` and a list without semicolons ask nothing of the trees before a token.
abbrev pub unasked : Forest → Bool
unasked d = true

-- The turn of `return`.
abbrev pub ReturnTurned : List ℕ → Items → ℕ → Result Turn Failure → List ℕ → Type 0
ReturnTurned W l b r W' = TokenTurned returns gathered is_return unasked W (walk_of l Returns) b r W'

-- The turn of a call or of a math call.
abbrev pub CallTurned : CallKind → Pass → List ℕ → Items → ℕ → Result Turn Failure → List ℕ → Type 0
CallTurned kind p W l b r W' = TokenTurned (calls kind) gathered (is_call kind) unasked W (walk_of l p) b r W'

-- The turn of an operator of a binary level, before which no other of the level is left.
abbrev pub LevelTurned : List ℕ → TokenClasses → List ℕ → Items → ℕ → Result Turn Failure → List ℕ → Type 0
LevelTurned ops classes W l b r W' =
    TokenTurned (binary ops) gathered (is_one_of ops) (clear (is_one_of ops)) W (walk_of l (Binary classes 0)) b r W'

-- ---- the levels that seek their tokens from the left

-- The pass is one of them, with no array and no operator that waits.
abbrev pub Seeks : Pass → Type 0
Seeks Calls = Unit {0}
Seeks MathCalls = Unit {0}
Seeks Unsplit = Unit {0}
Seeks (Split done) = ⊥
Seeks (Arrays array lent) = (array ≡ 0) × (lent ≡ 0)
Seeks Unary = ⊥
Seeks (Binary classes pending) = pending ≡ 0
Seeks (Conditional tokens) = ⊥
Seeks Returns = Unit {0}

-- What is said of a level: of its pass in the definition, its states between two tokens, its tokens, and the trees before a token.
abbrev pub Saying : Type 1
Saying = (κ : Kind) → (Forest → State κ) → (ℕ → Bool) → (Forest → Bool) → Type 0

-- What T says, of the level that the pass is; of a pass that seeks in another way nothing.
abbrev pub OfLevel : Saying → Pass → Type 0
OfLevel T Calls = T (calls query_or_loop) gathered (is_call query_or_loop) unasked
OfLevel T MathCalls = T (calls math) gathered (is_call math) unasked
OfLevel T Unsplit = T statements unsplit is_semicolon unasked
OfLevel T (Split done) = Unit {0}
OfLevel T (Arrays array lent) = T arrays unindexed is_array_name unasked
OfLevel T Unary = Unit {0}
OfLevel T (Binary classes pending) =
    (ops : List ℕ) → Covers classes.0 (is_one_of ops) → T (binary ops) gathered (is_one_of ops) (clear (is_one_of ops))
OfLevel T (Conditional tokens) = Unit {0}
OfLevel T Returns = T returns gathered is_return unasked

-- The turn of a token of the pass.
pub record TokenOf (p : Pass) (W : List ℕ) (l : Items) (b : ℕ) (r : Result Turn Failure) (W' : List ℕ) : Type 0 where
  pub turned : OfLevel (λ κ idle P good. TokenTurned κ idle P good W (walk_of l p) b r W') p
