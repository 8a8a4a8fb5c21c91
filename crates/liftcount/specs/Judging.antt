-- What the open list comes to, by the cases of the code: what two answers are beside each other, and how a list ends.
use Rattle.std.specs.Prelude.{Result, Ok, Err, ℕ, ◌*◌, ◌≤◌, Bool, true, false, List, eqb, length, take}
use Rattle.std.proofs.Math.Option.{Option, none, some}
use Rattle.molang.specs.Forest.{nil, node}
use Rattle.molang.specs.Words.{Refusal, row, tree_words}
use Rattle.molang.specs.Read.{Answer, tree as Answer·tree, messages as Answer·messages}
use Rattle.molang.specs.Parse.{Told, a_tree, some_messages, refused}
use Rattle.molang.specs.Lift.{eq_words}
use Rattle.liftcount.specs.declared.run.Counts.{Counts}
use Rattle.liftcount.specs.declared.judge.Verdict.{Verdict}
use Rattle.liftcount.specs.declared.judge.Verdict.TheVariants.{Same, Different, One, Both}
use Rattle.liftcount.specs.Running.{more}

-- ---- Two answers

-- Two trees, by whether their words are equal.
abbrev pub trees_by : Bool → Verdict
trees_by true = Same
trees_by false = Different

-- The two answers to a list that is not turned back.
unfoldable pub verdict_on : Answer → Answer → Verdict
verdict_on (Answer·tree k cs) (Answer·tree l ds) = trees_by (eq_words (tree_words (node k cs nil)) (tree_words (node l ds nil)))
verdict_on (Answer·tree k cs) (Answer·messages ms) = One
verdict_on (Answer·messages ms) (Answer·tree l ds) = One
verdict_on (Answer·messages ms) (Answer·messages ns) = Both

-- WHAT A LIST COMES TO: it is turned back, or it is read at both versions.
unfoldable pub judged : Option Refusal → Answer → Answer → Result Verdict Refusal
judged (some r) first second = Err r
judged none first second = Ok (verdict_on first second)

-- ---- The same by what is told and what the buffers hold

-- A buffer is long enough for the tree that is told.
abbrev pub Holds : Told → List ℕ → Type 0
Holds (a_tree n) buffer = 7 * n ≤ length buffer
Holds (some_messages n) buffer = Unit {0}
Holds (refused number place) buffer = Unit {0}

-- Two trees of so many nodes.
unfoldable pub trees_told : ℕ → ℕ → List ℕ → List ℕ → Verdict
trees_told n m tree again = elim (eqb n m) [ true ↦ trees_by (eq_words (take (7 * n) tree) (take (7 * n) again)) | false ↦ Different ]

-- What is told at both.
abbrev pub verdict_told : Told → Told → List ℕ → List ℕ → Result Verdict Refusal
verdict_told (a_tree n) (a_tree m) tree again = Ok (trees_told n m tree again)
verdict_told (a_tree n) (some_messages m) tree again = Ok One
verdict_told (a_tree n) (refused number place) tree again = Err (row number place)
verdict_told (some_messages n) (a_tree m) tree again = Ok One
verdict_told (some_messages n) (some_messages m) tree again = Ok Both
verdict_told (some_messages n) (refused number place) tree again = Err (row number place)
verdict_told (refused number place) second tree again = Err (row number place)

-- ---- The end of a list

-- The counts with a list that came to this.
abbrev pub tallied_by : Verdict → Counts → Counts
tallied_by Same c =
    record { read = more c.read; same = more c.same; different = c.different; one = c.one; both = c.both }
tallied_by Different c =
    record { read = more c.read; same = c.same; different = more c.different; one = c.one; both = c.both }
tallied_by One c =
    record { read = more c.read; same = c.same; different = c.different; one = more c.one; both = c.both }
tallied_by Both c =
    record { read = more c.read; same = c.same; different = c.different; one = c.one; both = more c.both }

-- HOW A LIST ENDS: refused, or with these counts.
unfoldable pub ended_by : Option Refusal → Counts → Result Counts Refusal
ended_by (some r) c = Err r
ended_by none c = Ok c
