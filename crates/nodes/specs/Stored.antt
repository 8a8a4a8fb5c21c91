-- A token's words as the store holds them: made of a list's token, read from a buffer and laid into one, and turned into a list's again.
use Rattle.std.specs.Prelude.{ℕ, ◌+◌, ◌/◌, ◌%◌, ◌^◌, List, [], ◌∷◌, get_or}
use Rattle.molang.specs.Words.{word, low_of}
use Rattle.words.specs.Fields.{value_of}
use Rattle.words.specs.declared.tokens.TokenWords.{TokenWords}
use Rattle.nodes.specs.declared.stored.StoredWords.{StoredWords}

-- The words for a token of a list, which closes at its end.
abbrev pub stored_of : TokenWords → StoredWords
stored_of k =
    record {
      operator = k.operator;
      start = k.start;
      end = k.end;
      value = value_of k.upper k.lower;
      close = word 7 (low_of k.end);
    }

-- The five words that stand in a buffer from `at` on.
abbrev pub stored_at : List ℕ → ℕ → StoredWords
stored_at W at =
    record {
      operator = get_or W at 0;
      start = get_or W (at + 1) 0;
      end = get_or W (at + 2) 0;
      value = get_or W (at + 3) 0;
      close = get_or W (at + 4) 0;
    }

-- The words of a token of op with the span of k and payload 0, which closes at its own end.
abbrev pub bare_stored : ℕ → StoredWords → StoredWords
bare_stored op k =
    record { operator = word 1 (op % 2 ^ 8); start = k.start; end = k.end; value = 0; close = word 7 (low_of k.end) }

-- The five words, in the order in which they stand.
abbrev pub stored_list : StoredWords → List ℕ
stored_list k = k.operator ∷ k.start ∷ k.end ∷ k.value ∷ k.close ∷ []

-- The words of a list's token again.
abbrev pub token_of_stored : StoredWords → TokenWords
token_of_stored k =
    record {
      operator = k.operator;
      start = k.start;
      end = k.end;
      upper = word 4 (k.value / 2 ^ 16);
      lower = word 5 (k.value % 2 ^ 16);
    }
