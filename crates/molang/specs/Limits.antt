-- What the nesting limit changes (document 02, card 8), said of both reading entries: "Lists within the limit read as today", and answer
-- 18's place, "the token index of the first such opener". Neither reading nor writing uses this file: it states that promise.
use Rattle.std.specs.Prelude.{ℕ, ◌+◌, ◌<◌, ◌≡◌, true, List, [], ◌∷◌, ◌++◌, length}
use Rattle.std.proofs.Math.Option.{Option, none, some}
use Rattle.molang.specs.Operator.{closing_of}
use Rattle.molang.specs.Forest.{Token}
use Rattle.molang.specs.Words.{Refusal, tokens_of}
use Rattle.molang.specs.Nesting.{open_after, first_above, too_deep}
use Rattle.molang.specs.Parse.{Call, most_tokens, is_limit, refused}
use Rattle.molang.specs.Left.{left}

-- The number of brackets open after these tokens, so many being open before them.
unfoldable pub open_behind : ℕ → List Token → ℕ
open_behind depth [] = depth
open_behind depth (k ∷ ks) = open_behind (open_after depth k.op) ks

-- The token at this place is an opener with which more than `limit` are open, and those before it are within the limit; i is the index of
-- the first of them, and `depth` are open before it.
pub record FirstDeep (limit i depth : ℕ) (ks : List Token) (place : ℕ) : Type 0 where
  pub before : List Token
  pub opener : Token
  pub after : List Token
  pub stands : ks ≡ before ++ (opener ∷ after)
  pub index : i + length before ≡ place
  pub within : first_above limit i depth before ≡ none
  pub closer : ℕ
  pub opens : closing_of opener.op ≡ some closer
  pub above : limit < open_after (open_behind depth before) opener.op

-- The same call with another limit.
abbrev pub with_limit : Call → ℕ → Call
with_limit c limit =
    record {
      list = c.list;
      tree = c.tree;
      messages = c.messages;
      work = c.work;
      source_length = c.source_length;
      version = c.version;
      used_low = c.used_low;
      used_high = c.used_high;
      limit = limit;
    }

-- WHAT A LIMIT CHANGES of a call of either entry: whether it is turned back with 17 or 18, and nothing else. A call that is read is read at
-- 4,096, and comes to the same there and at every limit at which it is read. A call that is turned back for another reason is turned back
-- alike at every legal limit. Answer 18 is at the first opener above the limit, and at 4,096 it cannot be.
pub record LimitOnly (rules : Option (List ℕ)) (c : Call) : Type 0 where
  pub at_most : (left rules c).turned ≡ none → left rules (with_limit c most_tokens) ≡ left rules c
  pub at_other : (limit : ℕ) → (left rules c).turned ≡ none → (left rules (with_limit c limit)).turned ≡ none
      → left rules (with_limit c limit) ≡ left rules c
  pub other_reason : (r : Refusal) (limit : ℕ) → (left rules c).turned ≡ some r → (r.number ≡ 17 → ⊥) → (r.number ≡ 18 → ⊥)
      → is_limit limit ≡ true
      → left rules (with_limit c limit) ≡ left rules c
  pub deep : (place : ℕ) → (left rules c).told ≡ refused 18 place
      → (too_deep c.limit (tokens_of c.list) ≡ some place) × FirstDeep c.limit 0 0 (tokens_of c.list) place
  pub never18 : c.limit ≡ most_tokens → (place : ℕ) → (left rules c).told ≡ refused 18 place → ⊥
