-- The nodes of trees in preorder, as the walk lays them down (from the last to the first): each with its label and its number of children.
use Rattle.std.specs.Prelude.{ℕ, List, ◌∷◌}
use Rattle.molang.specs.Forest.{Token, Forest, nil, node, count}

pub record Entry : Type 0 where
  pub label : Token
  pub children : ℕ

-- The nodes of trees, before those of L.
unfoldable pub laid_onto : Forest → List Entry → List Entry
laid_onto nil L = L
laid_onto (node k cs rest) L = record { label = k; children = count cs } ∷ laid_onto cs (laid_onto rest L)
