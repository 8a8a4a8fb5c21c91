-- The text of an answer: it depends on the buffers' fronts only, it is the text of a list that is read, and it has room where the longest
-- has. Assumes nothing.
use Prim.Native.Nat.{ℕ, zero, suc, ◌+◌, ◌*◌, ◌/◌, ◌%◌, ◌≤◌}
use mathlib.Core.{Path.{◌≡◌, refl, sym}, List.{List, [], ◌++◌}, Option.{Option, none, some}}
use native.Mathlib.Omega.{arith}
use lib.{IntN.{ℤ}, ListN.{length, drop, length-drop, get_or-append}, Seq.{take-append-le, drop-append-le}}
use borrow.Author.Tests.{eq-eqb, le-leb}
use Rattle.molang.specs.{FirstFailure.{must, first_of}, Forest.{nil, node, size}}
use Rattle.molang.specs.{Words.{Refusal, operator_field, words_refusal, tokens_of, tree_words}, Read.{Answer, tree, messages}}
use Rattle.molang.specs.Parse.{record_words, told, in_front, tree_in, messages_in}
use Rattle.molang.proofs.{Bounds.{Bounded, few_nodes, few_messages, read-bounded, records-length, tree_words-length}, FirstFailure.{last_one}}
use Rattle.molang.proofs.ListWords.{tokens-count}
use Rattle.derived.specs.Derived.{named, highest}
use Rattle.listing.specs.{Rows.{node_numbers, node_rows, record_rows, answer_text, CanPut}, Lists.{list_fault, list_text}}
use Rattle.own.specs.Own.{reading_of}

-- THE FRONT of a buffer has all that is printed of it.
module _ (front rest : List ℕ) where
  node-front : (from : ℕ) → from + 7 ≤ length front → node_numbers (front ++ rest) from ≡ node_numbers front from
  unfolding node_numbers
  node-front from h =
      rw (
        get_or-append front rest 0 from (omega arith),
        get_or-append front rest 0 (from + 5) (omega arith),
        get_or-append front rest 0 (from + 1) (omega arith),
        get_or-append front rest 0 (from + 2) (omega arith),
      ) refl

  node-rows-front : (n : ℕ) → 7 * n ≤ length front → node_rows n (front ++ rest) ≡ node_rows n front
  unfolding node_rows
  node-rows-front zero h = refl
  node-rows-front (suc i) h = rw (node-rows-front i (omega arith), node-front (7 * i) (omega arith)) refl

  record-rows-front : (n : ℕ) → 8 * n ≤ length front → record_rows n (front ++ rest) ≡ record_rows n front
  unfolding record_rows
  record-rows-front zero h = refl
  record-rows-front (suc i) h =
      rw (
        record-rows-front i (omega arith),
        drop-append-le (8 * i) front rest (omega arith),
        take-append-le 8 (drop (8 * i) front) rest (omega (arith, length-drop (8 * i) front)),
      ) refl

-- So what the buffers held before the answer is not printed.
pub text-of-front : (fault : Option Refusal) (answer : Answer) (b m : List ℕ)
    → answer_text (told fault answer) (tree_in fault answer b) (messages_in fault answer m)
    ≡ answer_text (told fault answer) (tree_in fault answer []) (messages_in fault answer [])
unfolding answer_text told tree_in messages_in in_front
text-of-front (some r) answer b m = refl
text-of-front none (tree k cs) b m =
    let words = tree_words (node k cs nil) in
    let n = size (node k cs nil) in
    let room : 7 * n ≤ length words = omega (arith, tree_words-length (node k cs nil)) in
    rw (node-rows-front words (drop (length words) b) n room, node-rows-front words (drop (length words) []) n room) refl
text-of-front none (messages ms) b m =
    let words = record_words ms in
    let n = length ms in
    let room : 8 * n ≤ length words = omega (arith, records-length ms) in
    rw (record-rows-front words (drop (length words) m) n room, record-rows-front words (drop (length words) []) n room) refl

-- THE TEXT OF A LIST that is read: of whole tokens and of at most 128, only a word can turn it back.
pub readable-fault : (list : List ℕ) → length list % 5 ≡ 0 → length list ≤ 640 → list_fault list ≡ words_refusal 0 operator_field 0 list
unfolding list_fault must first_of
readable-fault list whole few =
    rw (eq-eqb (length list % 5) 0 whole, le-leb (length list) 640 few) (last_one (words_refusal 0 operator_field 0 list))

pub list-text : (list : List ℕ) (version : ℤ) → length list % 5 ≡ 0 → length list ≤ 640 → (b m : List ℕ)
    → list_text list version
    ≡ answer_text (told (words_refusal 0 operator_field 0 list) (reading_of list version))
    (tree_in (words_refusal 0 operator_field 0 list) (reading_of list version) b)
    (messages_in (words_refusal 0 operator_field 0 list) (reading_of list version) m)
unfolding list_text
list-text list version whole few b m =
    rw (readable-fault list whole few) (sym (text-of-front (words_refusal 0 operator_field 0 list) (reading_of list version) b m))

-- ROOM FOR IT: at most three nodes to a token, and two messages.
bounded-put : {n : ℕ} {answer : Answer} (fault : Option Refusal) → Bounded n answer → (at : ℕ) (out b m : List ℕ)
    → at + 366 ≤ length out
    → at + 26 + 84 * n ≤ length out
    → 7 * n ≤ length b
    → 16 ≤ length m
    → CanPut (told fault answer) at out b m
unfolding told
bounded-put (some r) bound at out b m longest rows nodes records = omega arith
bounded-put none (few_nodes k) at out b m longest rows nodes records = (omega arith, omega arith)
bounded-put none (few_messages k l) at out b m longest rows nodes records = (omega arith, omega arith)

pub can-put : (fault : Option Refusal) (list : List ℕ) (version : ℤ) (at : ℕ) (out b m : List ℕ)
    → at + 366 ≤ length out
    → at + 26 + 252 * (length list / 5) ≤ length out
    → 21 * (length list / 5) ≤ length b
    → 16 ≤ length m
    → CanPut (told fault (reading_of list version)) at out b m
unfolding reading_of
can-put fault list version at out b m longest rows nodes records =
    bounded-put fault (read-bounded (tokens_of list) (named operator_field list) version (highest operator_field 0 list)) at out b m
    longest (omega (arith, tokens-count list)) (omega (arith, tokens-count list)) records
