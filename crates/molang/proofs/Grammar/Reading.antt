-- CANONICAL TEXTS READ TO THEIR TREES, under the rules of every version, with every used set that has their operators.
use Prim.Native.Nat.{ℕ, suc}
use mathlib.Core.{Path.{◌≡◌, refl, ap, sym, ◌∙◌, fun_ext}, Bool.{Bool, true, false, or-false}, List.{List, [], ◌∷◌, ◌++◌}}
use native.Mathlib.Omega.{arith}
use lib.{Dec.{eqb, leb}, ListN.{length}}
use borrow.Author.Tests.{lt-leb}
use Rattle.molang.specs.Operator
use Rattle.molang.specs.{Operator.{any, is_one_of}, Forest.{Forest, nil, leaves}, Message.{ok}}
use Rattle.molang.specs.{Level.{walk, through, gathered, nothing}, Calls.{call_level}, Binary.{binary_level}}
use Rattle.molang.specs.Order.{Rules, Pass, last_token, member_accessors, sectioning, call_pass, statements, arrays, pointer, math_calls}
use Rattle.molang.specs.{Order.{unary_minus_and_not, returns, order, runs, apply}, Unary.{unary_pass}}
use Rattle.molang.specs.{Read.{rooted, grouped}, Grammar.{Text, tokens}}
use Rattle.molang.specs.Order as Orders
use Rattle.molang.proofs.{Booleans.{eight-ways}, Grammar.Shape.{raw, joined, sectioned, called, stated, arrayed, pointed, counted}}
use Rattle.molang.proofs.Grammar.Ranks.{kind_of, kinds_of, levels, pass_of, passes_of, rank_in, rank, pairing}
use Rattle.molang.proofs.{Grammar.Views.{shape, points, prefixed, ranked}, Grammar.Canonical.{arrow_rank, Canonical, trees}}
use Rattle.molang.proofs.{Grammar.Members.{member-pass}, Grammar.Sectioning.{section-pass}, Grammar.Calling.{query-pass}}
use Rattle.molang.proofs.{Grammar.Stating.{statement-pass}, Grammar.Indexing.{array-pass}, Grammar.Counting.{math-pass}}
use Rattle.molang.proofs.{Grammar.Prefixes.{prefix-pass}, Grammar.BinaryLevels.{OfRank, binary-level}}
use Rattle.molang.proofs.Grammar.Returning.{return-pass}
use Rattle.molang.proofs.Grammar.Levels.{ruled, good-levels, placed-levels, rank-bound, Gated, level-passes}
use Rattle.molang.proofs.Grammar.TextForms.{raw-tokens, form-points, counted-raw, nothing_yet, read-ranked}
use Rattle.molang.proofs.Grammar.Ranks as Ranking
use Rattle.molang.proofs.Grammar.Shape as Shapes
use Rattle.molang.proofs.Grammar.Ranked as Ranks

arrow-told : (n : ℕ) → is_one_of (Operator.pointer ∷ []) n ≡ eqb (arrow_rank n) 1
unfolding is_one_of any arrow_rank
arrow-told n = or-false (eqb n Operator.pointer) ∙ by (eqb n Operator.pointer) refl
  where
    by : (b : Bool) → eqb n Operator.pointer ≡ b → eqb n Operator.pointer ≡ eqb (arrow_rank n) 1
    by true e = e ∙ sym (rw (e, arrow_rank) refl)
    by false e = e ∙ sym (rw (e, arrow_rank) refl)

grouped-end : (len : ℕ) (u : ℕ → Bool) (f : Forest) → grouped len u [] [] f ≡ rooted len [] f
unfolding grouped
grouped-end len u f = refl

-- ---- the passes of a text, one after another

module _ (c a p : Bool) (t : Text) (g : Canonical (ruled c a p) t) where
  abbrev r : Rules
  r = ruled c a p

  -- The list at each stage.
  abbrev pub at : Shapes.Stage → Forest
  at s = Shapes.form s (shape t) nil

  -- The list after the prefix operators, and with everything folded but `return`.
  abbrev pub unfolded : Forest
  unfolded = Ranks.form nothing_yet (ranked t) nil

  abbrev pub folded : Forest
  folded = Ranks.form (λ n. leb 1 (rank r n)) (ranked t) nil

  pub members-made : (len : ℕ) → apply len member_accessors (at raw) ≡ ok (at joined)
  unfolding apply
  members-made len = member-pass (shape t) g.shaped

  pub sections-made : (len : ℕ) → apply len sectioning (at joined) ≡ ok (at sectioned)
  unfolding apply
  sections-made len = section-pass (shape t) g.shaped

  pub calls-made : (len : ℕ) → apply len call_pass (at sectioned) ≡ ok (at called)
  unfolding apply through call_level nothing
  calls-made len = query-pass (shape t) g.shaped

  pub statements-made : (len : ℕ) → apply len statements (at called) ≡ ok (at stated)
  unfolding apply
  statements-made len = statement-pass (shape t) g.shaped g.stated g.list

  pub arrays-made : (len : ℕ) → apply len arrays (at stated) ≡ ok (at arrayed)
  unfolding apply
  arrays-made len = array-pass (shape t) g.shaped g.stated

  arrow-rank : OfRank arrow_rank 0 1 (Operator.pointer ∷ [])
  arrow-rank = record { positive = omega arith; told = arrow-told; apart = λ e. omega (arith, e) }

  pub pointers-made : (len : ℕ) → apply len pointer (at arrayed) ≡ ok (at pointed)
  unfolding apply through binary_level nothing
  pointers-made len =
      ap (walk (binary_level (Operator.pointer ∷ [])) (gathered nil))
      (form-points false (λ n. leb 2 (arrow_rank n)) (unfold arrow_rank in refl) t g.arrows nil)
      ∙ binary-level arrow_rank 0 1 (Operator.pointer ∷ []) arrow-rank (points t) g.tight
      ∙ ap ok (sym (form-points true (λ n. leb 1 (arrow_rank n)) (unfold arrow_rank in refl) t g.arrows nil))

  pub maths-made : (len : ℕ) → apply len math_calls (at pointed) ≡ ok (at counted)
  unfolding apply
  maths-made len = math-pass (shape t) g.shaped

  pub prefixes-made : (len : ℕ) → apply len unary_minus_and_not (at counted) ≡ ok unfolded
  unfolding apply
  prefixes-made len =
      ap unary_pass (counted-raw t nil) ∙ prefix-pass (prefixed t) g.signed ∙ ap ok (read-ranked t nil)

  pub returns-made : (len : ℕ) → apply len returns folded ≡ ok (trees r t nil)
  unfolding apply trees
  returns-made len = return-pass (rank r) (pairing r) (ranked t) g.ordered g.returning

  -- ---- all passes

  -- A pass that does not run leaves the list as it is.
  pub record Unneeded (len : ℕ) (u : ℕ → Bool) : Type 0 where
    pub members : runs u member_accessors ≡ false → apply len member_accessors (at raw) ≡ ok (at raw)
    pub sections : runs u sectioning ≡ false → apply len sectioning (at joined) ≡ ok (at joined)
    pub calls : runs u call_pass ≡ false → apply len call_pass (at sectioned) ≡ ok (at sectioned)
    pub statements : runs u statements ≡ false → apply len statements (at called) ≡ ok (at called)
    pub arrays : runs u arrays ≡ false → apply len arrays (at stated) ≡ ok (at stated)
    pub pointers : runs u pointer ≡ false → apply len pointer (at arrayed) ≡ ok (at arrayed)
    pub maths : runs u math_calls ≡ false → apply len math_calls (at pointed) ≡ ok (at pointed)
    pub prefixes : runs u unary_minus_and_not ≡ false → apply len unary_minus_and_not (at counted) ≡ ok (at counted)
    pub levels : Gated (Ranking.levels r) (pairing r) u (ranked t) (Ranking.levels r)
    pub returns : runs u returns ≡ false → apply len returns folded ≡ ok folded

  step : (len : ℕ) (u : ℕ → Bool) (q : Pass) (ps : List Pass) (f h : Forest) → apply len q f ≡ ok h
      → (runs u q ≡ false → apply len q f ≡ ok f)
      → grouped len u (q ∷ ps) [] f ≡ grouped len u ps [] h
  unfolding grouped
  step len u q ps f h e n = go (runs u q) refl
    where
      go : (b : Bool) → runs u q ≡ b → grouped len u (q ∷ ps) [] f ≡ grouped len u ps [] h
      go true w = rw (w, grouped) (rw e refl)
      go false w = rw (w, grouped) (ap (grouped len u ps []) (let m : ok f ≡ ok h = sym (n w) ∙ e in cc))

  first_step : (len : ℕ) (u : ℕ → Bool) (ps : List Pass) (f : Forest) → (runs u last_token ≡ true → apply len last_token f ≡ ok f)
      → grouped len u (last_token ∷ ps) [] f ≡ grouped len u ps [] f
  unfolding grouped
  first_step len u ps f n = go (runs u last_token) refl
    where
      go : (b : Bool) → runs u last_token ≡ b → grouped len u (last_token ∷ ps) [] f ≡ grouped len u ps [] f
      go true w = rw (w, grouped) (rw (n w) refl)
      go false w = rw (w, grouped) refl

  -- Before the levels nothing is folded: no rank is above their number.
  none_above : (λ (n : ℕ). leb (suc (length (Ranking.levels r))) (rank r n)) ≡ nothing_yet
  unfolding rank
  none_above = fun_ext (λ n. let b = rank-bound (Ranking.levels r) n in
      lt-leb (suc (length (Ranking.levels r))) (rank_in (Ranking.levels r) n) (omega (arith, b)))

  -- The passes after the check of the last token.
  abbrev pub later : List Pass
  later = member_accessors ∷ sectioning ∷ call_pass ∷ statements ∷ arrays ∷ pointer ∷ math_calls ∷ unary_minus_and_not
      ∷ (passes_of (Ranking.levels r) ++ (returns ∷ []))

  tokens-raw : leaves (tokens t []) ≡ at raw
  unfolding leaves
  tokens-raw = sym (raw-tokens t [])

  -- All of them take the text's tokens to its trees.
  pub canonical-later : (len : ℕ) (u : ℕ → Bool) → Unneeded len u
      → grouped len u later [] (leaves (tokens t [])) ≡ rooted len [] (trees r t nil)
  unfolding rank
  canonical-later len u n =
      let last = passes_of (Ranking.levels r) ++ (returns ∷ []) in
      ap (grouped len u later []) tokens-raw
      ∙ step len u member_accessors _ (at raw) (at joined) (members-made len) n.members
      ∙ step len u sectioning _ (at joined) (at sectioned) (sections-made len) n.sections
      ∙ step len u call_pass _ (at sectioned) (at called) (calls-made len) n.calls
      ∙ step len u statements _ (at called) (at stated) (statements-made len) n.statements
      ∙ step len u arrays _ (at stated) (at arrayed) (arrays-made len) n.arrays
      ∙ step len u pointer _ (at arrayed) (at pointed) (pointers-made len) n.pointers
      ∙ step len u math_calls _ (at pointed) (at counted) (maths-made len) n.maths
      ∙ step len u unary_minus_and_not last (at counted) unfolded (prefixes-made len) n.prefixes
      ∙ ap (λ (σ : ℕ → Bool). grouped len u last [] (Ranks.form σ (ranked t) nil)) (sym none_above)
      ∙ level-passes (Ranking.levels r) (pairing r) len u (ranked t) g.ordered (Ranking.levels r) (good-levels c a p)
      (placed-levels c a p) n.levels (returns ∷ [])
      ∙ step len u returns [] folded (trees r t nil) (returns-made len) n.returns ∙ grouped-end len u (trees r t nil)

-- The versioned order is these passes.
pub in_order : (c a p : Bool) → order (ruled c a p) ≡ last_token ∷ member_accessors ∷ sectioning ∷ call_pass ∷ statements ∷ arrays ∷ pointer
    ∷ math_calls ∷ unary_minus_and_not
    ∷ (passes_of (levels (ruled c a p)) ++ (returns ∷ []))
unfolding levels kinds_of kind_of order Orders.comparisons Orders.logic Orders.conditionals passes_of pass_of
in_order = eight-ways (λ c a p. order (ruled c a p) ≡ last_token ∷ member_accessors ∷ sectioning ∷ call_pass ∷ statements ∷ arrays ∷ pointer
    ∷ math_calls ∷ unary_minus_and_not ∷ (passes_of (levels (ruled c a p)) ++ (returns ∷ [])))
    refl refl refl refl refl refl refl refl

-- Reading takes the tokens of a canonical text to its trees.
pub canonical-reads : (c a p : Bool) (t : Text) (g : Canonical (ruled c a p) t) (len : ℕ) (u : ℕ → Bool)
    → (runs u last_token ≡ true → apply len last_token (leaves (tokens t [])) ≡ ok (leaves (tokens t []))) → Unneeded c a p t g len u
    → grouped len u (order (ruled c a p)) [] (leaves (tokens t [])) ≡ rooted len [] (trees (ruled c a p) t nil)
canonical-reads c a p t g len u e n =
    ap (λ (ps : List Pass). grouped len u ps [] (leaves (tokens t []))) (in_order c a p)
    ∙ first_step c a p t g len u (later c a p t g) (leaves (tokens t [])) e ∙ canonical-later c a p t g len u n
