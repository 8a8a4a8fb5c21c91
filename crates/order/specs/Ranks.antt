-- The definition's order of passes by rank: what it means that a table has the order's pass at each rank, and that the code chose the pass
-- of a rank: the state in which that pass starts if the pass runs, and nothing if it does not or if no pass is left.
use Rattle.std.specs.Prelude.{ℕ, ◌≡◌, Bool, true, false, ◌&&◌, List, [], ◌∷◌, ℤ, get_or, drop, Option, None, Some}
use Rattle.molang.specs.Operator
use Rattle.molang.specs.Operator.{any, is_one_of}
use Rattle.molang.specs.Order.{Rules, is_from, Pass, call_pass, statements, arrays, pointer, math_calls, unary_minus_and_not, addition}
use Rattle.molang.specs.Order.{conditional, returns, binary, order, some_below, runs}
use Rattle.molang.specs.Parse.{in_halves}
use Rattle.ops.specs.declared.classes.TokenClasses.{TokenClasses}
use Rattle.ops.specs.declared.sets.OpSet.{OpSet}
use Rattle.levels.specs.Passes.{Covers}
use Rattle.levels.specs.declared.turns.Pass.{Pass as State}
use Rattle.levels.specs.declared.turns.Pass.TheVariants.{Calls, MathCalls, Unsplit, Split, Arrays, Unary, Binary, Conditional, Returns}
use Rattle.order.specs.declared.Rank.{Rank}

-- The set of two halves as the definition takes it.
abbrev pub used_by : OpSet → ℕ → Bool
used_by set n = in_halves set.low set.high n

-- The rules of a version as the rules use it: `rules v` of the definition is this at `effective v`.
abbrev pub rules_of : ℤ → Rules
rules_of version = record { comparisons_first = is_from 6 version; and_first = is_from 6 version; pairs_right = is_from 5 version }

-- The passes after the three flat ones, from rank 0 on.
abbrev pub later : Rules → List Pass
later r = drop 3 (order r)

-- ---- A table of ranks

-- The state is that of the pass at its beginning.
pub data Starts : Pass → State → Type 0 where
  call : Starts call_pass Calls
  unsplit_pass : Starts statements Unsplit
  array : Starts arrays (Arrays 0 0)
  math_call : Starts math_calls MathCalls
  unary : Starts unary_minus_and_not Unary
  conditional_pass : Starts conditional (Conditional 0)
  return_pass : Starts returns Returns
  point : {classes : TokenClasses} → Covers classes.0 (is_one_of (Operator.pointer ∷ [])) → Starts pointer (Binary classes 0)
  plus : {classes : TokenClasses} → Covers classes.0 (is_one_of (Operator.add ∷ [])) → Starts addition (Binary classes 0)
  level : {ops : List ℕ} {classes : TokenClasses} → Covers classes.0 (is_one_of ops) → Starts (binary ops) (Binary classes 0)

-- The first of the two tests around the call pass (`runs`).
abbrev pub call_gate : List ℕ
call_gate =
    Operator.left_brace ∷ Operator.left_bracket ∷ Operator.left_parenthesis ∷ Operator.query_function
    ∷ Operator.array_variable ∷ Operator.semicolon ∷ []

-- What a pass that starts in this state asks of a used set besides an operator of its rank: a call asks for one of the gate.
abbrev pub is_open : OpSet → State → Bool
is_open set Calls = any (used_by set) call_gate
is_open set MathCalls = true
is_open set Unsplit = true
is_open set (Split done) = true
is_open set (Arrays a b) = true
is_open set Unary = true
is_open set (Binary classes pending) = true
is_open set (Conditional tokens) = true
is_open set Returns = true

-- An operator of the rank is used.
abbrev pub is_used : OpSet → Rank → Bool
is_used set rank = some_below 128 (λ n. used_by set n && used_by rank.operators n)

-- The rank of the first of these passes: the state in which it starts, and what it runs by; or an empty one if none is left.
pub data AtRank : List Pass → Rank → Type 0 where
  past : {rank : Rank} → ((set : OpSet) → is_used set rank ≡ false) → AtRank [] rank
  first : {p : Pass} {ps : List Pass} {rank : Rank} → Starts p rank.pass
      → ((set : OpSet) → runs (used_by set) p ≡ (is_open set rank.pass && is_used set rank)) → AtRank (p ∷ ps) rank

-- A rank of no operator.
abbrev pub unranked : Rank
unranked = record { pass = Calls; operators = record { low = 0; high = 0 } }

-- The table has the rank of each of the passes, in their order.
abbrev pub Ranked : List Pass → List Rank → Type 0
Ranked ps table = (k : ℕ) → AtRank (drop k ps) (get_or table k unranked)

-- ---- What is chosen

-- What is chosen of the first of these passes, under a used set.
pub data Chosen (u : ℕ → Bool) : List Pass → Option State → Type 0 where
  over : Chosen u [] None
  unused : {p : Pass} {ps : List Pass} → runs u p ≡ false → Chosen u (p ∷ ps) None
  used : {p : Pass} {ps : List Pass} {state : State} → runs u p ≡ true → Starts p state → Chosen u (p ∷ ps) (Some state)
