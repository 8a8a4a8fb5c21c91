-- A base with its accessors, as every level that gathers leaves it.
use mathlib.Core.{Path.{◌≡◌, ap, ◌∙◌}, List.{List, [], ◌∷◌}}
use Rattle.molang.specs.{Forest.{Token, Forest, nil, node, turned_onto, in_order}, Message.{ok}, Level.{Level, walk}}
use Rattle.molang.proofs.{Grammar.Walk.{walk-into, Gathers}, Grammar.ShapeForms.{inside_of}}

module _ {S : Type 0} (L : Level S) (at : Forest → S) (g : Gathers L at) (ends : (d : Forest) → L.finish (at d) ≡ ok (in_order d)) where
  abbrev pub Kept : Forest → Type 0
  Kept f = walk L (at nil) f ≡ ok f

  -- A node over what is kept.
  pub kept-over : (a k : Token) (cs : Forest) → Kept (node k cs nil) → Kept (node a (node k cs nil) nil)
  unfolding walk in_order turned_onto
  kept-over a k cs h =
      walk-into L (at nil) (at nil) (at nil) a (node k cs nil) (node k cs nil) nil (g.enters nil a k cs nil) h
      ∙ ap (λ (s : S). walk L s nil) (g.resumes nil a (node k cs nil)) ∙ ends (node a (node k cs nil) nil)

  pub kept-inside : (k : Token) (cs : Forest) (ms : List Token) → Kept cs → Kept (node k cs nil) → Kept (inside_of k cs ms)
  unfolding inside_of
  kept-inside k cs [] i h = i
  kept-inside k cs (a ∷ ms) i h = kept-inside a (node k cs nil) ms h (kept-over a k cs h)
