-- The bracket structure: member accessors and sections, both in the flat list (sections.rs).
use Rattle.std.specs.Prelude.{ℕ, ◌+◌, true, false, List, [], ◌∷◌, eqb}
use Rattle.std.proofs.Math.Option.{Option, none, some}
use Rattle.molang.specs.Operator.{member_accessor, has_members, closing_of, is_closer}
use Rattle.molang.specs.Forest.{Token, Forest, nil, node, in_order, count, closed_by}
use Rattle.molang.specs.Message.{Message, leading_member_accessor, closing_mismatch, section_not_closed, no_closing_symbol, Result, ok, fail}
use Rattle.molang.specs.Message.{closer}

-- `X.name` becomes the accessor over X where X can have members; after anything else the accessor stays a leaf, and none stands first.
unfoldable pub with_member : Token → Forest → Option Forest
with_member k nil = none
with_member k (node x xs d) = elim (has_members x.op) [ true ↦ some (node k (node x xs nil) d) | false ↦ some (node k nil (node x xs d)) ]

-- d holds the trees so far, the last first.
unfoldable pub members : Forest → Forest → Result
members d nil = ok (in_order d)
members d (node k cs rest) =
    elim (eqb k.op member_accessor) [
      | false ↦ members (node k cs d) rest
      | true ↦ elim (with_member k d) [ none ↦ fail (leading_member_accessor k ∷ []) | some e ↦ members e rest ]
    ]

-- What has been read, the last tree first: outside every section, or in an open section, with its opener, the opener's position
-- counted from 1, and what the section stands in.
pub data Open : Type 0 where
  outside : Forest → Open
  section : Token → ℕ → Forest → Open → Open

-- One tree more in the innermost open section.
unfoldable pub placed : Token → Forest → Open → Open
placed k cs (outside d) = outside (node k cs d)
placed k cs (section o i d s) = section o i (node k cs d) s

-- The position that the messages give: in the list as it is when a section outside all others is looked for, with the sections before it
-- collapsed and the rest flat.
unfoldable pub position : ℕ → Open → ℕ
position i (outside d) = count d
position i (section o j d s) = i + 1

-- The opener of the outermost open section, o being that of the innermost.
unfoldable pub outermost : Token → Open → Token
outermost o (outside d) = o
outermost o (section p j d s) = outermost p s

-- After one more token: what has been read, or the messages about a closer that does not match.
pub data Walked : Type 0 where
  going : Open → Walked
  mismatch : List Message → Walked

-- A closer that matches ends the innermost section, which closes at the closer's end; with nothing open it stays a leaf.
unfoldable pub closing : Token → Forest → ℕ → Open → Walked
closing k cs i (outside d) = going (outside (node k cs d))
closing k cs i (section o j d s) =
    elim (eqb (closer o) k.op) [
      | true ↦ going (placed (closed_by k o) (in_order d) s)
      | false ↦ mismatch (closing_mismatch o j k i ∷ section_not_closed (outermost o s) ∷ [])
    ]

-- One more token: an opener opens a section, a closer ends the innermost one, anything else is placed in it.
unfoldable pub bracket : Token → Forest → ℕ → Open → Walked
bracket k cs i s =
    elim (closing_of k.op) [
      | some c ↦ going (section k (i + 1) nil s)
      | none ↦ elim (is_closer k.op) [ true ↦ closing k cs i s | false ↦ going (placed k cs s) ]
    ]

-- At the list's end no section may be open.
unfoldable pub closed : Open → Result
closed (outside d) = ok (in_order d)
closed (section o i d s) = fail (no_closing_symbol o i ∷ section_not_closed (outermost o s) ∷ [])

-- Each opener takes everything up to its matching closer as its children; i is the position of the token before.
unfoldable pub sections : ℕ → Open → Forest → Result
sections i s nil = closed s
sections i s (node k cs rest) = elim (bracket k cs (position i s) s) [ going t ↦ sections (position i s) t rest | mismatch m ↦ fail m ]
