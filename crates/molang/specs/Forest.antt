-- Tokens, and lists of trees of tokens. The passes look at nothing of a token but its operator and at whether it has children;
-- payload and span are carried along, and are opened only for the messages (Message; the spans of 1 and 2 in Read and Order) and by the
-- word formats (Words).
use Rattle.std.specs.Prelude.{ℕ, suc, ◌+◌, List, [], ◌∷◌}

-- A token of a list, and the label of a tree's node: operator number 0-110 or 256-1,023, payload variant 0-12 and value, span start and
-- end, and where it closes (a node's seventh word): a closed section at the end of its closer, everything else at its own span end.
pub record Token : Type 0 where
  pub op : ℕ
  pub variant : ℕ
  pub value : ℕ
  pub start : ℕ
  pub end : ℕ
  pub close : ℕ

-- A list of trees: the first tree's token and its children, then the trees after it.
pub data Forest : Type 0 where
  nil : Forest
  node : Token → Forest → Forest → Forest

-- The same token under another operator.
unfoldable pub renamed : ℕ → Token → Token
renamed o k = record { op = o; variant = k.variant; value = k.value; start = k.start; end = k.end; close = k.close }

-- A new token with the span of k and payload 0 (`Node::token(op, Payload::None, span)` in the Rust). It closes at its own end, also
-- where k is a section that closes later.
unfoldable pub bare : ℕ → Token → Token
bare o k = record { op = o; variant = 0; value = 0; start = k.start; end = k.end; close = k.end }

-- The section of the opener o, closed by k: it closes at the end of its closer (card 2).
unfoldable pub closed_by : Token → Token → Token
closed_by k o = record { op = o.op; variant = o.variant; value = o.value; start = o.start; end = o.end; close = k.end }

-- The opener of a section, as a token of a list: it closes at its own end.
unfoldable pub unclosed : Token → Token
unclosed k = closed_by k k

-- The token list as a list of leaves.
unfoldable pub leaves : List Token → Forest
leaves [] = nil
leaves (k ∷ ks) = node k nil (leaves ks)

-- The trees of the first list, the last one first, before those of the second.
unfoldable pub turned_onto : Forest → Forest → Forest
turned_onto nil out = out
turned_onto (node k cs rest) out = turned_onto rest (node k cs out)

-- A list that was gathered the last tree first, in its own order.
unfoldable pub in_order : Forest → Forest
in_order gathered = turned_onto gathered nil

-- The number of trees in the list.
unfoldable pub count : Forest → ℕ
count nil = 0
count (node k cs rest) = suc (count rest)

-- The number of nodes in the trees.
unfoldable pub size : Forest → ℕ
size nil = 0
size (node k cs rest) = 1 + size cs + size rest
