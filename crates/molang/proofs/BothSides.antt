-- Literal examples of the definitions that stand on both sides of a theorem, which would therefore not notice if they left something out:
-- what is compared of two trees (demand 3, cards 1 and 2), what is left of a word without its payload (card 6), a call with 76 in the
-- hosts' stead (card 7), and what trees spell (card 13). Each result is written out, and the checker computes it. Which brackets are taken
-- away has its examples in `RoundTrip/Examples` (`what-is-left`).
use Prim.Native.Nat.{ℕ, ◌+◌}
use mathlib.Core.{Path.{◌≡◌, refl}, List.{List, [], ◌∷◌, map}}
use lib.IntN.{pos}
use Rattle.molang.specs.{Forest.{Token, Forest, nil, node}, Parse.{Call}, Rules.{RuleCall}, WriteEntry.{WriteCall}}
use Rattle.molang.specs.{Write.{comparable_token, comparable_trees, comparable}, Reread.{Rereading, bracketless}}
use Rattle.molang.specs.{Matching.{operators_in, spelled}, Hosts.{with_this_word, hostless}}
use Rattle.molang.specs.Payloads.{without_payload, with_list, ruled_with_list, with_tree, reread_with_list}
use Rattle.molang.proofs.Computed.{computed}

-- ---- What is compared

-- A token with a payload, a start above its end, and a close of its own.
abbrev full : ℕ → ℕ → Token
full o i = record { op = o; variant = 3; value = 70000 + i; start = i + 9; end = i; close = i + 4 }

abbrev plain_semicolon : Token
plain_semicolon = record { op = 73; variant = 0; value = 0; start = 0; end = 0; close = 0 }

compared_tokens : List Token
compared_tokens = comparable_token (full 44 1) ∷ comparable_token (full 300 2) ∷ comparable_token (full 4 3) ∷ comparable_token (full 73 4) ∷ []

tokens-compared : compared_tokens ≡ full 44 1 ∷ full 300 2 ∷ full 4 3 ∷ plain_semicolon ∷ []
unfolding computed compared_tokens
tokens-compared = refl

-- `v = a ; return b ;`: of the semicolons their operator, of all else everything. Below another root a semicolon is compared in all.
abbrev script : (ℕ → Token) → Forest
script semicolon =
    node (semicolon 1)
    (node (semicolon 2) (node (full 71 3) (node (full 44 4) nil (node (full 61 5) nil nil)) nil)
    (node (semicolon 6) (node (full 74 7) (node (full 46 8) nil nil) nil) nil)) nil

abbrev sum : Forest
sum = node (full 9 1) (node (full 73 2) (node (full 61 3) nil nil) (node (full 76 4) nil nil)) nil

compared_trees : List Forest
compared_trees = comparable (script (full 73)) ∷ comparable sum ∷ comparable_trees (node (full 61 1) nil sum) ∷ []

trees-compared : compared_trees ≡
    script (λ i. plain_semicolon)
    ∷ sum
    ∷ node (full 61 1) nil (node (full 9 1) (node plain_semicolon (node (full 61 3) nil nil) (node (full 76 4) nil nil)) nil)
    ∷ []
unfolding computed compared_trees
trees-compared = refl

-- A node's seven words, before others: operator word, start, end, halves of the value, child count, close.
abbrev words : ℕ → ℕ → ℕ → ℕ → ℕ → List ℕ → List ℕ
words op start end children close rest =
    (0x2000_0000 + op) ∷ (0x4000_0000 + start) ∷ (0x6000_0000 + end) ∷ 0x8000_0001 ∷ 0xa000_0002 ∷ (0xc000_0000 + children) ∷ (0xe000_0000 + close)
    ∷ rest

-- A semicolon's, of a script as it is compared.
abbrev semicolon_words : ℕ → List ℕ → List ℕ
semicolon_words children rest =
    0x2000_0049 ∷ 0x4000_0000 ∷ 0x6000_0000 ∷ 0x8000_0000 ∷ 0xa000_0000 ∷ (0xc000_0000 + children) ∷ 0xe000_0000 ∷ rest

-- `( v ) = query ( ( a ) ) ;`, `( 300 ) * sin ( )` and `( ( a ) )`: the author's brackets go, those of calls stay. Variant 12 is bits 8-11.
words_compared : List (List ℕ)
words_compared =
    bracketless
    (words 0xc49 1 2 1 3 (words 0xc49 4 5 1 6 (words 0xc47 7 8 2 9
    (words 0xc04 10 11 1 12 (words 0xc2c 13 14 0 15
    (words 0xc28 16 17 1 18 (words 0xc04 19 20 1 21 (words 0xc04 22 23 1 24 (words 0xc3d 26 25 0 27 [])))))))))
    ∷ bracketless (words 0xc1f 1 2 2 3 (words 0xc04 4 5 1 6 (words 0x1c2c 7 8 0 9 (words 0xc24 10 11 1 12 (words 0xc04 13 14 0 15 [])))))
    ∷ bracketless (words 0xc04 1 2 1 3 (words 0xc04 4 5 1 6 (words 0xc3d 7 8 0 9 [])))
    ∷ []

words-compared : words_compared ≡
    semicolon_words 1 (semicolon_words 1 (words 0xc47 7 8 2 9 (words 0xc2c 13 14 0 15
    (words 0xc28 16 17 1 18 (words 0xc04 19 20 1 21 (words 0xc3d 26 25 0 27 []))))))
    ∷ words 0xc1f 1 2 2 3 (words 0x1c2c 7 8 0 9 (words 0xc24 10 11 1 12 (words 0xc04 13 14 0 15 [])))
    ∷ words 0xc3d 7 8 0 9 []
    ∷ []
unfolding computed words_compared
words-compared = refl

-- ---- Words without their payload

-- A node's seven words: the payload's bits go, the operator's upper four stay.
payloadless : List ℕ
payloadless =
    map without_payload (0x2000_3cff ∷ 0x5fff_ffff ∷ 0x7fff_ffff ∷ 0x8000_ffff ∷ 0xa000_1234 ∷ 0xc000_3fff ∷ 0xffff_ffff ∷ [])

without-payload : payloadless ≡ 0x2000_30ff ∷ 0x5fff_ffff ∷ 0x7fff_ffff ∷ 0x8000_0000 ∷ 0xa000_0000 ∷ 0xc000_3fff ∷ 0xffff_ffff ∷ []
unfolding computed payloadless
without-payload = refl

-- ---- Calls with another list or tree

-- A call in which no two numbers are the same.
abbrev call : List ℕ → Call
call list =
    record {
      list = list;
      tree = 1 ∷ [];
      messages = 2 ∷ [];
      work = 3 ∷ [];
      source_length = 4;
      version = pos 5;
      used_low = 6;
      used_high = 7;
      limit = 8;
    }

abbrev rereading : List ℕ → Rereading
rereading list =
    record { first = call list; written = 9 ∷ []; again = 10 ∷ []; source_length = 11; version = pos 12; limit = 13 }

-- The same with a rule buffer, and a write call.
abbrev ruled_call : List ℕ → RuleCall
ruled_call list = record { call = call list; rules = 22 ∷ [] }

abbrev write_call : List ℕ → WriteCall
write_call tree = record { tree = tree; list = 22 ∷ [] }

with-list : with_list (call (20 ∷ [])) (21 ∷ []) ≡ call (21 ∷ [])
unfolding computed
with-list = refl

ruled-with-list : ruled_with_list (ruled_call (20 ∷ [])) (21 ∷ []) ≡ ruled_call (21 ∷ [])
unfolding computed
ruled-with-list = refl

with-tree : with_tree (write_call (20 ∷ [])) (21 ∷ []) ≡ write_call (21 ∷ [])
unfolding computed
with-tree = refl

reread-with-list : reread_with_list (rereading (20 ∷ [])) (21 ∷ []) ≡ rereading (21 ∷ [])
unfolding computed
reread-with-list = refl

-- ---- With 76 in the hosts' stead

-- The numbers 256, 300 of variant 12 and 1,023 are hosts', 255, 110 and 1,024 are none; a start that has a host's bits is no operator.
with_this : List ℕ
with_this =
    map with_this_word (0x2000_1000 ∷ 0x2000_1c2c ∷ 0x2000_30ff ∷ 0x2000_00ff ∷ 0x2000_0c6e ∷ 0x2000_4000 ∷ 0x4000_1c2c ∷ [])

with-this : with_this ≡ 0x2000_004c ∷ 0x2000_0c4c ∷ 0x2000_004c ∷ 0x2000_00ff ∷ 0x2000_0c6e ∷ 0x2000_4000 ∷ 0x4000_1c2c ∷ []
unfolding computed with_this
with-this = refl

hosts-away : hostless (call (0x2000_1c2c ∷ 0x4000_0001 ∷ 0x6000_0002 ∷ 0x8000_0001 ∷ 0xa000_0002 ∷ []))
    ≡ call (0x2000_0c4c ∷ 0x4000_0001 ∷ 0x6000_0002 ∷ 0x8000_0001 ∷ 0xa000_0002 ∷ [])
unfolding computed
hosts-away = refl

-- ---- What trees spell

-- `( a [ b ] ) { } c` as trees, and a closer that is a leaf; then the operators of a list.
spellings : List (List ℕ)
spellings =
    spelled
    (node (full 4 1) (node (full 61 2) nil (node (full 2 3) (node (full 62 4) nil nil) nil)) (node (full 0 5) nil (node (full 76 6) nil nil)))
    []
    ∷ spelled (node (full 5 1) nil (node (full 40 2) (node (full 61 3) nil nil) nil)) (99 ∷ [])
    ∷ operators_in (full 4 1 ∷ full 61 2 ∷ full 300 3 ∷ full 5 4 ∷ [])
    ∷ []

spelled_out : spellings ≡
    (4 ∷ 61 ∷ 2 ∷ 62 ∷ 3 ∷ 5 ∷ 0 ∷ 1 ∷ 76 ∷ [])
    ∷ (5 ∷ 40 ∷ 61 ∷ 99 ∷ [])
    ∷ (4 ∷ 61 ∷ 300 ∷ 5 ∷ [])
    ∷ []
unfolding computed spellings
spelled_out = refl
