-- What is left of a pass at a moment of its run: a state and the items that are not read yet, in reading order, give the pass's result. The
-- levels from the left have the definition's `walk`; the unary pass reads from the right, so its items stand the last first. The lists that
-- wait in frames for the children of one of their items are unwound one after another. Neither reading nor writing uses this file: the
-- theorem 'no frames' (proofs/NoFrames) and the contracts of the levels and the driver speak of it.
use Rattle.std.specs.Prelude.{Bool, false, List, [], ◌∷◌, ℕ}
use Rattle.std.proofs.Math.Option.{Option, none, some}
use Rattle.molang.specs.Forest.{Token, Forest, nil, node, in_order}
use Rattle.molang.specs.Message.{Result, ok, fail}
use Rattle.molang.specs.Level.{walk, Gathered}
use Rattle.molang.specs.Calls.{CallKind, query_or_loop, math, Indexing, call_level, array_level}
use Rattle.molang.specs.Statements.{Split, statement_level}
use Rattle.molang.specs.Unary.{done, undone, unary, unary_node, turned, return_level}
use Rattle.molang.specs.Binary.{binary_level}
use Rattle.molang.specs.Conditional.{conditional_level}
use Rattle.molang.specs.Order
use Rattle.molang.specs.Order.{apply}

-- The passes that go through nested lists.
pub data Kind : Type 0 where
  calls : CallKind → Kind
  statements arrays unary_minus_and_not conditional returns : Kind
  binary : List ℕ → Kind

-- What the unary pass holds of a list: whether the last unread item turns into `+`, and the trees that are done, in order.
pub data Right : Type 0 where
  right : Bool → Forest → Right

-- What a pass holds of a list.
abbrev pub State : Kind → Type 0
State (calls c) = Gathered
State statements = Split
State arrays = Indexing
State unary_minus_and_not = Right
State conditional = Forest
State returns = Gathered
State (binary ops) = Gathered

-- The token before the ones that are read, from the right.
unfoldable pub before : Forest → Option Token
before nil = none
before (node k cs left) = some k

-- The unary pass over the items that are left, the last first.
unfoldable pub from_right : Right → Forest → Result
from_right (right pair r) nil = ok r
from_right (right pair r) (node k cs left) =
    elim (unary none cs) [
      | undone m ↦ fail m
      | done inner kids ↦
          elim (unary_node (before left) (turned pair k) cs kids r) [ undone m ↦ fail m | done p s ↦ from_right (right p s) left ]
    ]

-- The pass over the items that are left, in reading order.
unfoldable pub work : (κ : Kind) → State κ → Forest → Result
work (calls c) s f = walk (call_level c) s f
work statements s f = walk statement_level s f
work arrays s f = walk array_level s f
work unary_minus_and_not s f = from_right s f
work conditional s f = walk conditional_level s f
work returns s f = walk return_level s f
work (binary ops) s f = walk (binary_level ops) s f

-- The state at the beginning of a list.
unfoldable pub begins : (κ : Kind) → Forest → State κ
begins (calls c) f = (call_level c).start f
begins statements f = statement_level.start f
begins arrays f = array_level.start f
begins unary_minus_and_not f = right false nil
begins conditional f = conditional_level.start f
begins returns f = return_level.start f
begins (binary ops) f = (binary_level ops).start f

-- The items of a list in reading order.
unfoldable pub in_reading : Kind → Forest → Forest
in_reading (calls c) f = f
in_reading statements f = f
in_reading arrays f = f
in_reading unary_minus_and_not f = in_order f
in_reading conditional f = f
in_reading returns f = f
in_reading (binary ops) f = f

-- An item taken back with its children as they have become.
unfoldable pub takes : (κ : Kind) → State κ → Token → Forest → State κ
takes (calls c) s k kids = (call_level c).resume s k kids
takes statements s k kids = statement_level.resume s k kids
takes arrays s k kids = array_level.resume s k kids
takes unary_minus_and_not (right pair r) k kids = right false (node (turned pair k) kids r)
takes conditional s k kids = conditional_level.resume s k kids
takes returns s k kids = return_level.resume s k kids
takes (binary ops) s k kids = (binary_level ops).resume s k kids

-- The definition's pass of each kind; the pointer's and the addition's are binary levels.
unfoldable pub pass_of : Kind → Order.Pass
pass_of (calls query_or_loop) = Order.call_pass
pass_of (calls math) = Order.math_calls
pass_of statements = Order.statements
pass_of arrays = Order.arrays
pass_of unary_minus_and_not = Order.unary_minus_and_not
pass_of conditional = Order.conditional
pass_of returns = Order.returns
pass_of (binary ops) = Order.binary ops

-- The definition's pass over a list. (Only the check of the last token looks at the length of the source.)
unfoldable pub pass : Kind → Forest → Result
pass κ f = apply 0 (pass_of κ) f

-- What comes after a list that was gone through; a failure ends everything.
unfoldable pub and_then : Result → (Forest → Result) → Result
and_then (ok f) g = g f
and_then (fail m) g = fail m

-- A list that waits for the children of its item k: its state, and the items after k.
pub data Held (κ : Kind) : Type 0 where
  held : State κ → Token → Forest → Held κ

-- The result of the outermost list from that of the innermost.
unfoldable pub unwound : (κ : Kind) → List (Held κ) → Result → Result
unwound κ [] r = r
unwound κ (held s k f ∷ S) r = unwound κ S (and_then r (λ kids. work κ (takes κ s k kids) f))
