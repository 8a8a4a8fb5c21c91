-- A token's words as the code holds them, read from a buffer and laid into one.
use Rattle.std.specs.Prelude.{ℕ, ◌+◌, ◌%◌, ◌^◌, List, [], ◌∷◌, ◌++◌, get_or}
use Rattle.molang.specs.Words.{word}
use Rattle.words.specs.declared.tokens.TokenWords.{TokenWords}

-- The five words that stand in a buffer from `at` on.
abbrev pub token_words_at : List ℕ → ℕ → TokenWords
token_words_at W at =
    record {
      operator = get_or W at 0;
      start = get_or W (at + 1) 0;
      end = get_or W (at + 2) 0;
      upper = get_or W (at + 3) 0;
      lower = get_or W (at + 4) 0;
    }

-- The words of a token of op with the span of k and payload 0.
abbrev pub bare_words : ℕ → TokenWords → TokenWords
bare_words op k = record { operator = word 1 (op % 2 ^ 8); start = k.start; end = k.end; upper = word 4 0; lower = word 5 0 }

-- The five words, in the order in which they stand.
abbrev pub five_words : TokenWords → List ℕ
five_words k = k.operator ∷ k.start ∷ k.end ∷ k.upper ∷ k.lower ∷ []

-- How many words a node is.
abbrev pub node_length : ℕ
node_length = 7

-- The words of a node: those of its token, how many children it has, and the word of where it closes.
abbrev pub node_words : TokenWords → ℕ → ℕ → List ℕ
node_words k children close = five_words k ++ (word 6 (children % 2 ^ 14) ∷ close ∷ [])
