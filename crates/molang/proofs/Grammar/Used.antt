-- Something holds of every token of a text, of its shape, of every operator of an expression.
use Prim.Native.Nat.{ℕ, ◌≤◌}
use mathlib.Core.{Path.{◌≡◌}, Bool.{Bool, true}, List.{List, [], ◌∷◌}}
use Rattle.molang.specs.Forest.{Token}
use Rattle.molang.proofs.Grammar.Shape.{Shape, token, beside, chain, section, query, math_call, math_empty, index, pointer, script}
use Rattle.molang.proofs.{Grammar.Shape.{statement, last, blank}, Grammar.Ranked.{Exp}}
use Rattle.molang.proofs.Grammar.Ranked as Ranks

abbrev pub Each : (Token → Type 0) → List Token → Type 0
Each Q [] = Unit {0}
Each Q (k ∷ ks) = Q k × Each Q ks

abbrev pub EachIn : (Token → Type 0) → Shape → Type 0
EachIn Q (token k) = Q k
EachIn Q (beside x y) = EachIn Q x × EachIn Q y
EachIn Q (chain b ms) = Q b × Each Q ms
EachIn Q (section o c x) = Q o × Q c × EachIn Q x
EachIn Q (query k o c x) = Q k × Q o × Q c × EachIn Q x
EachIn Q (math_call k o c x) = Q k × Q o × Q c × EachIn Q x
EachIn Q (math_empty k o c) = Q k × Q o × Q c
EachIn Q (index k o c x) = Q k × Q o × Q c × EachIn Q x
EachIn Q (pointer k x y) = Q k × EachIn Q x × EachIn Q y
EachIn Q (script q x) = EachIn Q x
EachIn Q (statement e x) = Q e × EachIn Q x
EachIn Q (last x) = EachIn Q x
EachIn Q (blank e) = Q e

-- Every leaf, and every operator between operands, by its number.
abbrev pub EachOf : (ℕ → Type 0) → Exp → Type 0
EachOf Q (Ranks.leaf k) = Q k.op
EachOf Q (Ranks.over k x) = EachOf Q x
EachOf Q (Ranks.beside x y) = EachOf Q x × EachOf Q y
EachOf Q (Ranks.between k x y) = Q k.op × EachOf Q x × EachOf Q y
EachOf Q (Ranks.choice q c t) = Q q.op × EachOf Q c × EachOf Q t
EachOf Q (Ranks.chosen q k c t e) = Q q.op × Q k.op × EachOf Q c × EachOf Q t × EachOf Q e

-- Of document 01's operators, the used set has it.
abbrev pub IsUsed : (ℕ → Bool) → ℕ → Type 0
IsUsed u n = n ≤ 110 → u n ≡ true

abbrev pub UsedToken : (ℕ → Bool) → Token → Type 0
UsedToken u k = IsUsed u k.op
