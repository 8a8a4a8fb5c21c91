-- What emission asks and ensures: the words of a record's node, by the list's words.
use Rattle.std.specs.Prelude.{ℕ, zero, suc, ◌+◌, ◌*◌, ◌-◌, ◌≤◌, ◌<◌, List, [], ◌∷◌, ◌++◌, length, get_or}
use Rattle.molang.specs.Words.{word, low_of}
use Rattle.words.specs.Fields.{with_operator}
use Rattle.words.specs.Tokens.{token_words_at, bare_words, node_words}
use Rattle.words.specs.declared.tokens.TokenWords.{TokenWords}
use Rattle.scan.specs.Records.{token_place, closer_place, children_of, form_of}

-- The words of a token under another operator.
abbrev pub renamed_words : ℕ → TokenWords → TokenWords
renamed_words op k =
    record { operator = with_operator k.operator op; start = k.start; end = k.end; upper = k.upper; lower = k.lower }

-- The words of a label by its form.
unfoldable pub label_words : ℕ → TokenWords → TokenWords
label_words zero k = k
label_words (suc zero) k = renamed_words 9 k
label_words (suc (suc zero)) k = bare_words 6 k
label_words (suc (suc (suc zero))) k = bare_words 73 k
label_words (suc (suc (suc (suc n)))) k = renamed_words 63 k

-- The words of a record's node.
unfoldable pub words_of_record : List ℕ → ℕ → List ℕ
words_of_record list w =
    node_words (label_words (form_of w) (token_words_at list (token_place w))) (children_of w) (word 7 (low_of (get_or list (closer_place w + 2) 0)))

unfoldable pub words_of_records : List ℕ → List ℕ → List ℕ
words_of_records list [] = []
words_of_records list (w ∷ ws) = words_of_record list w ++ words_of_records list ws

-- The words of the record's token and those of its closer are in the list.
pub record IsPlaced (list : List ℕ) (w : ℕ) : Type 0 where
  pub token : token_place w + 5 ≤ length list
  pub closer : closer_place w + 5 ≤ length list

-- Records of tokens of the list, and room for their words.
pub record CanEmitRecords (list W tree : List ℕ) (from : ℕ) : Type 0 where
  pub within : from ≤ length W
  pub placed : (r : ℕ) → from ≤ r → r < length W → IsPlaced list (get_or W r 0)
  pub room : 7 * (length W - from) ≤ length tree
