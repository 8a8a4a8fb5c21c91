-- The end of a list: the counts after it. Assumes nothing.
use Prim.Native.Nat.{ℕ}
use mathlib.Core.{Path.{◌≡◌, refl, ap}, Bool.{Bool, true, false, not}, List.{List}, Option.{Option, none, some}}
use lib.IntN.{ℤ}
use Rattle.molang.specs.{Forest.{nil, node}, Words.{Refusal, tree_words}, Read.{Answer, tree, messages}, Lift.{eq_words, are_same}}
use Rattle.own.specs.Own.{reading_of}
use Rattle.std.specs.Prelude.{Result, Ok, Err}
use Rattle.liftcount.specs.{declared.run.Counts.{Counts}, declared.judge.Verdict.{Verdict}}
use Rattle.liftcount.specs.Counting.{are_different, one_has_messages, both_have_messages, same_tree, different_trees}
use Rattle.liftcount.specs.{Counting.{message_at_one, message_at_both}, Running.{more, more_if, counted}}
use Rattle.liftcount.specs.Judging.{trees_by, verdict_on, judged, tallied_by, ended_by}

-- The counts by the four tests of two answers.
abbrev counted_on : Answer → Answer → Counts → Counts
counted_on first second c =
    record {
      read = more c.read;
      same = more_if (are_same first second) c.same;
      different = more_if (are_different first second) c.different;
      one = more_if (one_has_messages first second) c.one;
      both = more_if (both_have_messages first second) c.both;
    }

-- Two trees are counted as the same or as different.
trees-tallied : (same : Bool) (c : Counts)
    → tallied_by (trees_by same) c
    ≡ record {
      read = more c.read;
      same = more_if same c.same;
      different = more_if (not same) c.different;
      one = c.one;
      both = c.both;
    }
unfolding more_if
trees-tallied true c = refl
trees-tallied false c = refl

on-tallied : (first second : Answer) (c : Counts) → tallied_by (verdict_on first second) c ≡ counted_on first second c
unfolding verdict_on are_same are_different one_has_messages both_have_messages more_if
on-tallied (tree k cs) (tree l ds) c = trees-tallied (eq_words (tree_words (node k cs nil)) (tree_words (node l ds nil))) c
on-tallied (tree k cs) (messages ms) c = refl
on-tallied (messages ms) (tree l ds) c = refl
on-tallied (messages ms) (messages ns) c = refl

-- The counts after a verdict that stands.
abbrev pub then_tallied : Result Verdict Refusal → Counts → Result Counts Refusal
then_tallied (Ok v) c = Ok (tallied_by v c)
then_tallied (Err r) c = Err r

-- A list's end, by what it came to.
pub tallied-ends : (fault : Option Refusal) (from to : ℤ) (list : List ℕ) (c : Counts)
    → then_tallied (judged fault (reading_of list from) (reading_of list to)) c ≡ ended_by fault (counted from to list c)
unfolding judged ended_by counted same_tree different_trees message_at_one message_at_both
tallied-ends (some r) from to list c = refl
tallied-ends none from to list c = ap Ok (on-tallied (reading_of list from) (reading_of list to) c)
