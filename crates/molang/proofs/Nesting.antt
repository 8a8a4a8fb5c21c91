-- Laws of the nesting limit (document 02, card 8): a list no longer than the limit is within it, and answer 18's place is that of the first
-- opener with which more than the limit are open, and of no other. What follows for the entries' calls is in Limits.
use Prim.Native.Nat.{ℕ, suc, ◌+◌, ◌≤◌, ◌<◌}
use mathlib.Core.{Path.{◌≡◌, refl, sym, ap, ◌∙◌}, Bool.{Bool, true, false}, List.{List, [], ◌∷◌, ◌++◌}, Option.{Option, none, some}}
use native.Mathlib.Omega.{arith}
use lib.{Dec.{leb}, ListN.{length}}
use borrow.Author.Tests.{leb-true, leb-false, le-leb, lt-leb}
use Rattle.molang.specs.Operator
use Rattle.molang.specs.{Operator.{any, is_one_of, closing_of, is_closer}, Forest.{Token}, FirstFailure.{must, first_of}}
use Rattle.molang.specs.{Nesting.{open_after, first_above, too_deep}, Limits.{open_behind, FirstDeep}, Parse.{most_tokens}}
use Rattle.molang.specs.Write.{spanning}
use Rattle.molang.proofs.{Trees.{either, maybe, some-none}, FirstFailure.{must-true, must-false, first-none, then-none, passed}}
use Rattle.molang.proofs.FirstFailure.{passes, found, all-passed, last_one, after_none}

-- ---- The shortcut

-- An operator adds at most one.
pub opens_one : (depth n : ℕ) → open_after depth n ≤ suc depth
unfolding open_after
opens_one depth n =
    maybe (λ d. d ≤ suc depth) (closing_of n) _ _ (λ c. omega arith)
    (either (λ d. d ≤ suc depth) (is_closer n) _ _ (omega arith) (omega arith))

-- A LIST NO LONGER THAN WHAT IS LEFT OF THE LIMIT IS WITHIN IT.
pub short-within : (limit i depth : ℕ) (ks : List Token) → depth + length ks ≤ limit → first_above limit i depth ks ≡ none
unfolding first_above
short-within limit i depth [] h = refl
short-within limit i depth (k ∷ ks) h =
    let after = open_after depth k.op in
    let most = opens_one depth k.op in
    passes (leb after limit) i _ (le-leb after limit (omega arith))
    (then-none _ _ (short-within limit (suc i) after ks (omega arith)) all-passed)

-- AT 4,096 NO LIST IS TOO DEEP.
pub never-18 : (ks : List Token) → length ks ≤ most_tokens → too_deep most_tokens ks ≡ none
never-18 ks few = unfold too_deep in short-within most_tokens 0 0 ks (omega arith)

-- ---- The place

-- Only an opener goes above the limit.
goes_above : (limit depth n : ℕ) → depth ≤ limit → leb (open_after depth n) limit ≡ false → (c : ℕ) × (closing_of n ≡ some c)
unfolding open_after
goes_above limit depth n within above = split (closing_of n) (is_closer n) refl refl
  where
    split : (o : Option ℕ) (b : Bool) → closing_of n ≡ o → is_closer n ≡ b → (c : ℕ) × (closing_of n ≡ some c)
    split (some c) b e f = (c, e)
    split none true e f = absurd (omega (arith, leb-false _ limit (rw (e, open_after, f) at above)))
    split none false e f = absurd (omega (arith, leb-false _ limit (rw (e, open_after, f) at above)))

-- ANSWER 18'S PLACE IS THE FIRST SUCH OPENER'S.
pub first-deep : (limit i depth : ℕ) (ks : List Token) (place : ℕ) → depth ≤ limit → first_above limit i depth ks ≡ some place
    → FirstDeep limit i depth ks place
unfolding first_above first_of must open_behind
first-deep limit i depth [] place within e = some-none (sym e)
first-deep limit i depth (k ∷ ks) place within e =
    split (leb (open_after depth k.op) limit) refl (first-deep limit (suc i) (open_after depth k.op) ks place) e
  where
    after : ℕ
    after = open_after depth k.op

    rest : Option ℕ
    rest = first_above limit (suc i) after ks

    split : (b : Bool) → leb after limit ≡ b → (after ≤ limit → rest ≡ some place → FirstDeep limit (suc i) after ks place)
        → first_of (must b i ∷ rest ∷ []) ≡ some place
        → FirstDeep limit i depth (k ∷ ks) place
    split true e next h =
        let later = next (leb-true after limit e) (sym (last_one rest) ∙ h) in
        let others = first_above limit (suc i) after later.before in
        record {
          before = k ∷ later.before;
          opener = later.opener;
          after = later.after;
          stands = ap (λ (l : List Token). k ∷ l) later.stands;
          index = omega (arith, later.index);
          within = passes (leb after limit) i (others ∷ []) e (then-none others [] later.within all-passed);
          closer = later.closer;
          opens = later.opens;
          above = later.above;
        }
    split false e next h =
        let opener = goes_above limit depth k.op within e in
        let same : i ≡ place = cc in
        record {
          before = [];
          opener = k;
          after = ks;
          stands = refl;
          index = omega arith;
          within = refl;
          closer = opener.0;
          opens = opener.1;
          above = leb-false _ limit e;
        }

-- The other way round: the place of such an opener is answered.
pub deep-first : (limit i depth : ℕ) (ks : List Token) (place : ℕ) → FirstDeep limit i depth ks place
    → first_above limit i depth ks ≡ some place
unfolding first_above open_behind
deep-first limit i depth ks place d =
    rw d.stands (behind-all d.before i depth d.within d.above ∙ ap some d.index)
  where
    behind-all : (before : List Token) (i depth : ℕ) → first_above limit i depth before ≡ none
        → limit < open_after (open_behind depth before) d.opener.op
        → first_above limit i depth (before ++ (d.opener ∷ d.after)) ≡ some (i + length before)
    behind-all [] i depth w a =
        found _ i _ (must-false (leb (open_after depth d.opener.op) limit) i (lt-leb _ _ a)) ∙ ap some (omega arith)
    behind-all (k ∷ ks) i depth w a =
        let here = passed (leb (open_after depth k.op) limit) i _ w in
        let later = behind-all ks (suc i) (open_after depth k.op) (first-none _ _ here.1).0 a in
        after_none _ _ (must-true _ i here.0) ∙ later ∙ ap some (omega arith)

-- So `( a )` is not too deep at 5, though its opener is the first.
bracketed : List Token
bracketed = spanning Operator.left_parenthesis 0 1 ∷ spanning Operator.temp_variable 2 3 ∷ spanning Operator.right_parenthesis 4 5 ∷ []

shallow : (place : ℕ) → FirstDeep 5 0 0 bracketed place → ⊥
unfolding bracketed spanning first_above open_after closing_of is_closer is_one_of any first_of must
shallow place d = some-none (sym (deep-first 5 0 0 bracketed place d))
