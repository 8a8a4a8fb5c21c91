-- What the loop over whole nodes asks of a node's words.
use Rattle.std.specs.Prelude.{ℕ, ◌+◌, ◌≡◌, true, List, get_or}
use Rattle.molang.specs.Words.{operator_field, start_field, end_field, upper_field, lower_field, count_field, close_field}
use Rattle.molang.specs.Words.{word_fault, variant_after}
use Rattle.shape.specs.Answers.{is_legal}

-- The seven words from `at` on are legal, each in its field.
pub record LegalNode (tree : List ℕ) (at : ℕ) : Type 0 where
  pub operator : is_legal (word_fault operator_field 0 (get_or tree at 0)) ≡ true
  pub start : is_legal (word_fault start_field 0 (get_or tree (at + 1) 0)) ≡ true
  pub end : is_legal (word_fault end_field 0 (get_or tree (at + 2) 0)) ≡ true
  pub upper : is_legal (word_fault upper_field (variant_after operator_field 0 (get_or tree at 0)) (get_or tree (at + 3) 0)) ≡ true
  pub lower : is_legal (word_fault lower_field (variant_after operator_field 0 (get_or tree at 0)) (get_or tree (at + 4) 0)) ≡ true
  pub count : is_legal (word_fault count_field 0 (get_or tree (at + 5) 0)) ≡ true
  pub close : is_legal (word_fault close_field 0 (get_or tree (at + 6) 0)) ≡ true
