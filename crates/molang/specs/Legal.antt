-- Tokens and trees that words can hold. The definitions of reading and writing do not use this: the laws of the word formats and the
-- contracts of the node store speak of it, and what is said of words that are one tree (StackOrder).
use Rattle.std.specs.Prelude.{◌^◌, ◌≤◌, ◌<◌, ◌≡◌, true}
use Rattle.molang.specs.Operator.{is_operator}
use Rattle.molang.specs.Forest.{Token, Forest, nil, node, count}

-- Its operator, its payload variant, its value, both ends of its span and where it closes fit their words; under variant 0 the value is
-- 0.
pub record Legal (k : Token) : Type 0 where
  pub op : is_operator k.op ≡ true
  pub variant : k.variant ≤ 12
  pub value : k.value < 2 ^ 32
  pub no_payload : k.variant ≡ 0 → k.value ≡ 0
  pub start : k.start < 2 ^ 29
  pub end : k.end < 2 ^ 29
  pub close : k.close < 2 ^ 29

-- Every token of the trees is legal, and the child counts fit their words.
pub data LegalTrees : Forest → Type 0 where
  no_trees : LegalTrees nil
  legal_tree : {k : Token} {cs rest : Forest} → Legal k → count cs < 2 ^ 14 → LegalTrees cs → LegalTrees rest → LegalTrees (node k cs rest)
