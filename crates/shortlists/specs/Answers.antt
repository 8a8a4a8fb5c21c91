-- What each case of the answers of `count` and `list_at` says, what is told of a call, and the words that the list is given back in.
use Rattle.std.specs.Prelude.{ℕ, List, [], length, replicate, Result, Ok, Err}
use Rattle.std.proofs.Math.Option.{Option, none, some}
use Rattle.molang.specs.Forest.{Token}
use Rattle.molang.specs.Words.{Refusal, list_words}
use Rattle.molang.specs.Parse.{in_front}
use Rattle.words.specs.declared.refusals.Reason.{Reason}
use Rattle.words.specs.Refusals.{reason_number}
use Rattle.shortlists.specs.declared.Short.{Short}
use Rattle.shortlists.specs.ShortLists.{up_to, count_refusal, list_refusal, list_at}

-- What is told: a number, of lists or of tokens, or a refusal's number; its place is 0.
pub data Told : Type 0 where
  found : ℕ → Told
  refused : ℕ → Told

-- What is told of a call that is turned back, or else the number.
unfoldable pub told : Option Refusal → ℕ → Told
told none n = found n
told (some r) n = refused r.number

-- The answer of `count`.
abbrev pub counted_of : Result ℕ Reason → Told
counted_of (Ok n) = found n
counted_of (Err reason) = refused (reason_number reason)

-- The answer of `list_at`.
abbrev pub listed_of : Result Short Reason → Told
listed_of (Ok short) = found short.tokens
listed_of (Err reason) = refused (reason_number reason)

-- The words that it gives: a refusal has none.
abbrev pub short_words : Result Short Reason → List ℕ
short_words (Ok short) = short.words
short_words (Err reason) = replicate 30 0

-- HOW MANY LISTS there are.
unfoldable pub count_told : List ℕ → ℕ → Told
count_told letters n = told (count_refusal letters n) (length (up_to letters n))

-- HOW MANY TOKENS the list at a position has.
unfoldable pub list_told : List ℕ → ℕ → ℕ → Told
list_told letters n position = told (list_refusal letters n position) (length (list_at letters n position))

-- The tokens that are given back: none if the call is turned back.
unfoldable pub tokens_given : Option Refusal → List Token → List Token
tokens_given none ks = ks
tokens_given (some r) ks = []

-- ITS WORDS, in front of thirty; those behind them are 0.
unfoldable pub words_at : List ℕ → ℕ → ℕ → List ℕ
words_at letters n position =
    in_front (list_words (tokens_given (list_refusal letters n position) (list_at letters n position))) (replicate 30 0)
