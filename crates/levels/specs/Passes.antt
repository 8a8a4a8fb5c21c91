-- The pass states of the code and the passes of the definition: which state is of which pass, what a frame keeps of a state, and the tokens
-- that a pass works on.
use Rattle.std.specs.Prelude.{ℕ, ◌≡◌, Bool, true, false, List, eqb, Option, None, Some, if◌then◌else◌}
use Rattle.molang.specs.Operator.{is_one_of}
use Rattle.molang.specs.Calls.{query_or_loop, math, unindexed, named, indexed, calls as is_call}
use Rattle.molang.specs.Free.{is_array_name, is_semicolon, is_prefix, is_conditional, is_return}
use Rattle.molang.specs.Work.{Kind, calls, statements, arrays, unary_minus_and_not, conditional, returns, binary, State}
use Rattle.ops.specs.Classes.{meets}
use Rattle.ops.specs.declared.classes.TokenClasses.{TokenClasses}
use Rattle.nodes.specs.declared.frames.List.{List as Items}
use Rattle.nodes.specs.declared.frames.Held.{Held}
use Rattle.levels.specs.declared.turns.Pass.{Pass}
use Rattle.levels.specs.declared.turns.Pass.TheVariants.{Calls, MathCalls, Unsplit, Split, Arrays, Unary, Binary, Conditional}
use Rattle.levels.specs.declared.turns.Pass.TheVariants.{Returns}
use Rattle.levels.specs.declared.turns.Walk.{Walk}

-- A pass on a list.
abbrev pub walk_of : Items → Pass → Walk
walk_of list pass = record { list = list; pass = pass }

-- The list read and written up to these items.
abbrev pub moved_to : Items → ℕ → ℕ → Items
moved_to list read write = record { owner = list.owner; base = list.base; len = list.len; read = read; write = write }

-- The classes whose leaves the pass works on.
abbrev pub classes_of : Pass → ℕ
classes_of Calls = 0x1
classes_of MathCalls = 0x20_0000
classes_of Unsplit = 0x2
classes_of (Split done) = 0x2
classes_of (Arrays array lent) = 0x4
classes_of Unary = 0x10
classes_of (Binary classes pending) = classes.0
classes_of (Conditional tokens) = 0x1_0000
classes_of Returns = 0x10_0000

-- Two words of a frame.
abbrev pub held_words : ℕ → ℕ → Held
held_words first second = record { first = first; second = second }

-- What a frame keeps of each pass's state.
abbrev pub held_of : Pass → Held
held_of Calls = held_words 0 0
held_of MathCalls = held_words 0 0
held_of Unsplit = held_words 0 0
held_of (Split done) = held_words 1 done
held_of (Arrays array lent) = held_words array 0
held_of Unary = held_words 0 0
held_of (Binary classes pending) = held_words pending 0
held_of (Conditional tokens) = held_words tokens 0
held_of Returns = held_words 0 0

-- The statement pass by a frame's words.
unfoldable pub split_or : ℕ → ℕ → Pass
split_or split done = elim (eqb split 0) [ true ↦ Unsplit | false ↦ Split done ]

-- A state of the same pass, with what a frame's words say.
unfoldable pub resumed_with : Pass → Held → Pass
resumed_with Calls held = Calls
resumed_with MathCalls held = MathCalls
resumed_with Unsplit held = split_or held.first held.second
resumed_with (Split done) held = split_or held.first held.second
resumed_with (Arrays array lent) held = Arrays held.first 0
resumed_with Unary held = Unary
resumed_with (Binary classes pending) held = Binary classes held.first
resumed_with (Conditional tokens) held = Conditional held.first
resumed_with Returns held = Returns

-- The array that waits for an index.
unfoldable pub waiting_of : Pass → Option ℕ
waiting_of Calls = None
waiting_of MathCalls = None
waiting_of Unsplit = None
waiting_of (Split done) = None
waiting_of (Arrays array lent) = if eqb array 0 then None else Some array
waiting_of Unary = None
waiting_of (Binary classes pending) = None
waiting_of (Conditional tokens) = None
waiting_of Returns = None

-- A state of the same pass at the start of a list: it holds nothing but the array that is lent to the list.
unfoldable pub begun_of : Pass → Pass
begun_of Calls = Calls
begun_of MathCalls = MathCalls
begun_of Unsplit = Unsplit
begun_of (Split done) = Split done
begun_of (Arrays array lent) = Arrays lent 0
begun_of Unary = Unary
begun_of (Binary classes pending) = Binary classes 0
begun_of (Conditional tokens) = Conditional 0
begun_of Returns = Returns

-- The operators of the tokens that a pass works on.
unfoldable pub operators : Kind → ℕ → Bool
operators (calls kind) = is_call kind
operators statements = is_semicolon
operators arrays = is_array_name
operators unary_minus_and_not = is_prefix
operators conditional = is_conditional
operators returns = is_return
operators (binary ops) = is_one_of ops

-- The classes c cover the operators P: a number is in one of the classes exactly where it is one of P.
abbrev pub Covers : ℕ → (ℕ → Bool) → Type 0
Covers c P = (n : ℕ) → meets c n ≡ P n

-- The state is one of the pass.
pub data Runs : Kind → Pass → Type 0 where
  call : Runs (calls query_or_loop) Calls
  math_call : Runs (calls math) MathCalls
  unsplit_pass : Runs statements Unsplit
  split : {done : ℕ} → Runs statements (Split done)
  array : {array lent : ℕ} → Runs arrays (Arrays array lent)
  unary : Runs unary_minus_and_not Unary
  level : {ops : List ℕ} {classes : TokenClasses} {pending : ℕ} → Covers classes.0 (is_one_of ops)
      → Runs (binary ops) (Binary classes pending)
  conditional_pass : {tokens : ℕ} → Runs conditional (Conditional tokens)
  return_pass : Runs returns Returns

-- Whether an array waits for a further index: 1, else 0.
unfoldable pub waits : (κ : Kind) → State κ → ℕ
waits (calls kind) s = 0
waits statements s = 0
waits arrays (unindexed d) = 0
waits arrays (named d q) = 1
waits arrays (indexed d q contents) = 1
waits unary_minus_and_not s = 0
waits conditional s = 0
waits returns s = 0
waits (binary ops) s = 0
