-- The levels that seek their tokens from the left, by their pass: what GatherLaws says of such a level holds of each. Assumes nothing.
use mathlib.Core.{Path.{◌≡◌, refl, sym, ap, ◌∙◌, subst}, Bool.{Bool, true, false}, List.{List, [], ◌∷◌}}
use Prim.Native.Nat.{ℕ, ◌+◌}
use types.Run.{OneOf, miss}
use denote.Enum.Declared.{tag_of}
use lib.{Dec.{eqb}, ListN.{set}}
use borrow.Author.Tests.{eqb-true}
use Rattle.std.{specs.Prelude.{None, Some, Ok, if◌then◌else◌}, proofs.lemmas.Option.{none-some}}
use Rattle.ops.specs.declared.classes.TokenClasses.{TokenClasses}
use Rattle.nodes.specs.declared.frames.List.{List as Items}
use Rattle.levels.specs.{Passes.{walk_of, moved_to, classes_of, waiting_of}, Items.{Sought}, Turns.{CanTurn}, declared.items.Found.{Found}}
use Rattle.levels.specs.{declared.turns.Turn.{Turn}, declared.turns.Turn.TheVariants.{On}, declared.turns.Pass.{Pass}}
use Rattle.levels.specs.declared.turns.Pass.TheVariants.{Calls, MathCalls, Unsplit, Split, Arrays, Unary, Binary, Conditional, Returns}
use Rattle.levels.specs.contracts.turns.Pass.{the_type}
use Rattle.passes.specs.TokenTurns.{TokenTurned, Seeks, Saying, OfLevel, TokenOf}
use Rattle.passes.proofs.{GatherLaws.{Nothing-told, Standing}, CallLaws.{query-stands, math-stands}}
use Rattle.passes.proofs.{StatementLaws.{unsplit-stands, unsplit-kept}, ArrayTurns.{array-stands}, BinaryLaws.{level-stands}}
use Rattle.passes.proofs.{ReturnLaws.{return-stands}, TurnLaws.{Step}}

module _ {T : Saying} (W : List ℕ) (v : Items) where
  pub left-stands : (pass : Pass) → Seeks pass → OfLevel T pass → Standing T W v pass
  left-stands Calls u t = query-stands W v t
  left-stands MathCalls u t = math-stands W v t
  left-stands Unsplit u t = unsplit-stands W v t
  left-stands (Split done) u t = absurd u
  left-stands (Arrays array lent) u t =
      subst (Standing T W v) (sym (ap (λ (a : ℕ). Arrays a lent) u.0 ∙ ap (Arrays 0) u.1)) (array-stands W v t)
  left-stands Unary u t = absurd u
  left-stands (Binary classes pending) u t = subst (Standing T W v) (sym (ap (Binary classes) u)) (level-stands W v classes t)
  left-stands (Conditional tokens) u t = absurd u
  left-stands Returns u t = return-stands W v t

nothing-of : (pass : Pass) → OfLevel Nothing-told pass
nothing-of Calls = tt
nothing-of MathCalls = tt
nothing-of Unsplit = tt
nothing-of (Split done) = tt
nothing-of (Arrays array lent) = tt
nothing-of Unary = tt
nothing-of (Binary classes pending) = λ ops covers. tt
nothing-of (Conditional tokens) = tt
nothing-of Returns = tt

-- The list at any turn, before what is said of a token.
pub standing : (W : List ℕ) (v : Items) (pass : Pass) → Seeks pass → Standing Nothing-told W v pass
standing W v pass u = left-stands W v pass u (nothing-of pass)

-- The classes that are sought are the pass's.
pub sought-of : {W W' : List ℕ} {v : Items} {c : ℕ} {f : Found} (p : Pass) → c ≡ classes_of p → Sought W v c f W'
    → Sought W v (classes_of p) f W'
sought-of {W} {W'} {v} {c} {f} p e h = subst (λ (x : ℕ). Sought W v x f W') e h

-- ---- by the arms of the driver's functions

idle-none : (b : Bool) (x : ℕ) → (if b then None else Some x) ≡ None → b ≡ true
idle-none true x e = refl
idle-none false x e = absurd (none-some x (sym e))

-- The passes that only seek, at a turn.
pub seeks-at : {W : List ℕ} {v : Items} (p : Pass) → OneOf (0 ∷ 1 ∷ 2 ∷ 4 ∷ 6 ∷ 8 ∷ []) (tag_of the_type p) → waiting_of p ≡ None
    → CanTurn W (walk_of v p)
    → Seeks p
unfolding waiting_of
seeks-at Calls t n g = tt
seeks-at MathCalls t n g = tt
seeks-at Unsplit t n g = tt
seeks-at (Split done) t n g = absurd (miss (0 ∷ 1 ∷ 2 ∷ 4 ∷ 6 ∷ 8 ∷ []) 3 tt t)
seeks-at (Arrays array lent) t n g = (eqb-true array 0 (idle-none (eqb array 0) array n), g.holds.turning.0)
seeks-at Unary t n g = absurd (miss (0 ∷ 1 ∷ 2 ∷ 4 ∷ 6 ∷ 8 ∷ []) 5 tt t)
seeks-at (Binary classes pending) t n g = g.holds.turning.0
seeks-at (Conditional tokens) t n g = absurd (miss (0 ∷ 1 ∷ 2 ∷ 4 ∷ 6 ∷ 8 ∷ []) 7 tt t)
seeks-at Returns t n g = tt

pub array-none : (p : Pass) {a l : ℕ} → p ≡ Arrays a l → Seeks p → p ≡ Arrays 0 0
array-none p {a} {l} e u = let none = subst Seeks e u in e ∙ (ap (λ (x : ℕ). Arrays x l) none.0 ∙ ap (Arrays 0) none.1)

pub level-idle : (p : Pass) {classes : TokenClasses} {q : ℕ} → p ≡ Binary classes q → Seeks p → p ≡ Binary classes 0
level-idle p {classes} e u = e ∙ ap (Binary classes) (subst Seeks e u)

module _ {W W' : List ℕ} {v : Items} {b : ℕ} where
  pub token-by : {r : Step} (p q : Pass) → p ≡ q → OfLevel (λ κ idle P good. TokenTurned κ idle P good W (walk_of v q) b r W') q
      → TokenOf p W v b r W'
  token-by {r} p q e t = subst (λ (x : Pass). TokenOf x W v b r W') (sym e) (record { turned = t })

  pub token-kept : {v' : Items} {r : Turn} (p : Pass) → OneOf (2 ∷ 3 ∷ 5 ∷ 7 ∷ []) (tag_of the_type p) → W' ≡ set W (v.base + v.write) b
      → v' ≡ moved_to v v.read (v.write + 1)
      → r ≡ On (walk_of v' p) → TokenOf p W v b (Ok r) W'
  token-kept Calls t e el er = absurd (miss (2 ∷ 3 ∷ 5 ∷ 7 ∷ []) 0 tt t)
  token-kept MathCalls t e el er = absurd (miss (2 ∷ 3 ∷ 5 ∷ 7 ∷ []) 1 tt t)
  token-kept Unsplit t e el er = record { turned = unsplit-kept e el er }
  token-kept (Split done) t e el er = record { turned = tt }
  token-kept (Arrays array lent) t e el er = absurd (miss (2 ∷ 3 ∷ 5 ∷ 7 ∷ []) 4 tt t)
  token-kept Unary t e el er = record { turned = tt }
  token-kept (Binary classes pending) t e el er = absurd (miss (2 ∷ 3 ∷ 5 ∷ 7 ∷ []) 6 tt t)
  token-kept (Conditional tokens) t e el er = record { turned = tt }
  token-kept Returns t e el er = absurd (miss (2 ∷ 3 ∷ 5 ∷ 7 ∷ []) 8 tt t)
