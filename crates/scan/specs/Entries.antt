-- What a record stands for in a list: the label of its node and its number of children.
use Rattle.std.specs.Prelude.{ℕ, zero, suc, ◌/◌, true, false, List, [], ◌∷◌}
use Rattle.molang.specs.Operator
use Rattle.molang.specs.Forest.{Token, renamed, bare, closed_by}
use Rattle.scan.specs.Laid.{Entry}
use Rattle.scan.specs.Records.{is_section, token_place, closer_place, children_of, form_of}

-- The token of a number in a list; behind the last one a token of zeros.
unfoldable pub nth : List Token → ℕ → Token
nth [] i = record { op = 0; variant = 0; value = 0; start = 0; end = 0; close = 0 }
nth (k ∷ ks) zero = k
nth (k ∷ ks) (suc i) = nth ks i

-- The token at a place of the list: tokens stand five words apart.
unfoldable pub token_at : List Token → ℕ → Token
token_at T place = nth T (place / 5)

-- The label of a node by its form: the token as it is, a plus made of a minus, the minus that it leaves, a statement or a list of them, an
-- array.
unfoldable pub label_of : ℕ → Token → Token
label_of zero k = k
label_of (suc zero) k = renamed Operator.add k
label_of (suc (suc zero)) k = bare Operator.negate k
label_of (suc (suc (suc zero))) k = bare Operator.semicolon k
label_of (suc (suc (suc (suc n)))) k = renamed Operator.array k

-- A record's node.
unfoldable pub record_entry : List Token → ℕ → Entry
record_entry T w =
    record {
      label = elim (is_section w) [
        | true ↦ closed_by (token_at T (closer_place w)) (token_at T (token_place w))
        | false ↦ label_of (form_of w) (token_at T (token_place w))
      ];
      children = children_of w;
    }

unfoldable pub entries_of : List Token → List ℕ → List Entry
entries_of T [] = []
entries_of T (w ∷ ws) = record_entry T w ∷ entries_of T ws
