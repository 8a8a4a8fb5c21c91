-- Where the program turns an input back, the list of one that it reads, and what is printed. Assumes nothing.
use Prim.Native.Nat.{ℕ, suc, ◌+◌, ◌-◌, ◌*◌, ◌%◌, ◌^◌, ◌≤◌, ◌<◌}
use mathlib.Core.{Path.{◌≡◌, refl, ap, sym, ◌∙◌}, Bool.{◌&&◌}, List.{List, [], ◌∷◌, ◌++◌}, Option.{Option, none, some}}
use native.Mathlib.Omega.{arith}
use lib.{Dec.{eqb, leb, ltb}, IntN.{ℤ}, ListN.{length, take, drop, get_or, replicate, length-take, length-drop}}
use lib.Seq.{take_all, take-append_seam}
use borrow.Author.Tests.{leb-true, eq-eqb, ne_eqb, le-leb, lt-leb, lt-ltb, le-ltb}
use Rattle.molang.specs.{FirstFailure.{must, first_of}, Words.{Refusal, row, operator_field, words_refusal}, Read.{Answer}}
use Rattle.molang.specs.{Parse.{Told, refused, told, tree_in, messages_in}, Lines.{version_of}}
use Rattle.molang.proofs.FirstFailure.{first-none, passed, after_none, in_parts}
use Rattle.own.specs.Own.{reading_of}
use Rattle.listing.{specs.Rows.{answer_text, CanPut}, specs.Lists.{words_in, list_fault, list_text}, proofs.AnswerLaws.{text-of-front, can-put}}
use Rattle.treelist.specs.Listing.{printed, list_length, turned_back, list_of, fault_of, answer_of}

-- WHERE AN INPUT IS TURNED BACK
pub turned-part : (bytes first : ℕ) → (bytes % 4 ≡ 0 → ⊥) → some (row 1 0) ≡ turned_back bytes first
turned-part bytes first h = unfold turned_back must first_of in rw (ne_eqb (bytes % 4) 0 h) refl

-- Whole words: the other tests decide.
whole_words : (bytes first : ℕ) → bytes % 4 ≡ 0
    → turned_back bytes first
    ≡ first_of
    (must (leb 4 bytes && ltb first (2 ^ 16)) (row 8 0)
    ∷ must (eqb (list_length bytes % 5) 0) (row 1 0)
    ∷ must (leb (list_length bytes) 640) (row 2 0)
    ∷ [])
whole_words bytes first h = unfold turned_back must first_of in rw (eq-eqb (bytes % 4) 0 h) refl

pub turned-empty : (first : ℕ) → some (row 8 0) ≡ turned_back 0 first
turned-empty first = unfold turned_back must first_of in refl

pub turned-first : (bytes first : ℕ) → bytes % 4 ≡ 0 → (bytes ≡ 0 → ⊥) → 65535 < first → some (row 8 0) ≡ turned_back bytes first
unfolding must first_of
turned-first bytes first whole some_bytes h =
    rw (whole_words bytes first whole, le-leb 4 bytes (omega arith), le-ltb first 65536 (omega arith)) refl

pub turned-words : (bytes first : ℕ) → bytes % 4 ≡ 0 → (bytes ≡ 0 → ⊥) → first ≤ 65535 → (list_length bytes % 5 ≡ 0 → ⊥)
    → some (row 1 0) ≡ turned_back bytes first
unfolding must first_of
turned-words bytes first whole some_bytes low h =
    rw (
      whole_words bytes first whole,
      le-leb 4 bytes (omega arith),
      lt-ltb first 65536 (omega arith),
      ne_eqb (list_length bytes % 5) 0 h,
    ) refl

pub turned-long : (bytes first : ℕ) → bytes % 4 ≡ 0 → (bytes ≡ 0 → ⊥) → first ≤ 65535 → list_length bytes % 5 ≡ 0 → 640 < list_length bytes
    → some (row 2 0) ≡ turned_back bytes first
unfolding must first_of
turned-long bytes first whole some_bytes low tokens h =
    rw (
      whole_words bytes first whole,
      le-leb 4 bytes (omega arith),
      lt-ltb first 65536 (omega arith),
      eq-eqb (list_length bytes % 5) 0 tokens,
      lt-leb (list_length bytes) 640 h,
    ) refl

pub not-turned : (bytes first : ℕ) → bytes % 4 ≡ 0 → (bytes ≡ 0 → ⊥) → first ≤ 65535 → list_length bytes % 5 ≡ 0 → list_length bytes ≤ 640
    → none ≡ turned_back bytes first
unfolding must first_of
not-turned bytes first whole some_bytes low tokens h =
    rw (
      whole_words bytes first whole,
      le-leb 4 bytes (omega arith),
      lt-ltb first 65536 (omega arith),
      eq-eqb (list_length bytes % 5) 0 tokens,
      le-leb (list_length bytes) 640 h,
    ) refl

-- THE ANSWER
module _ (bytes : ℕ) (words : List ℕ) where
  -- An input that the program turns back.
  pub back-told : (number place : ℕ) → some (row number place) ≡ turned_back bytes (get_or words 0 0)
      → refused number place ≡ told (fault_of bytes words) (answer_of bytes words)
  back-told number place h = unfold fault_of first_of told in rw (← h) refl

  pub back-tree : (number place : ℕ) → some (row number place) ≡ turned_back bytes (get_or words 0 0) → (tree : List ℕ)
      → tree ≡ tree_in (fault_of bytes words) (answer_of bytes words) tree
  back-tree number place h tree = unfold fault_of first_of tree_in in rw (← h) refl

  pub back-messages : (number place : ℕ) → some (row number place) ≡ turned_back bytes (get_or words 0 0) → (messages : List ℕ)
      → messages ≡ messages_in (fault_of bytes words) (answer_of bytes words) messages
  back-messages number place h messages = unfold fault_of first_of messages_in in rw (← h) refl

  -- The list of one that it reads.
  same-list : (n : ℕ) → n ≡ list_length bytes → take (n + 1 - 1) (drop 1 words) ≡ list_of bytes words
  unfolding list_of
  same-list n e =
      let m : n + 1 - 1 ≡ list_length bytes = omega arith in ap (λ (m : ℕ). take m (drop 1 words)) m

  pub read-fault : (n : ℕ) → none ≡ turned_back bytes (get_or words 0 0) → n ≡ list_length bytes
      → words_refusal 0 operator_field 0 (take (n + 1 - 1) (drop 1 words)) ≡ fault_of bytes words
  unfolding fault_of
  read-fault n h e =
      ap (words_refusal 0 operator_field 0) (same-list n e)
      ∙ sym (after_none (turned_back bytes (get_or words 0 0)) (words_refusal 0 operator_field 0 (list_of bytes words)) (sym h))

  pub read_answer : (n : ℕ) (version : ℤ) → n ≡ list_length bytes → version ≡ version_of (get_or words 0 0)
      → reading_of (take (n + 1 - 1) (drop 1 words)) version ≡ answer_of bytes words
  read_answer n version e v i = unfold answer_of in reading_of (same-list n e i) (v i)

-- What is answered has room in the text and in the buffers.
pub printable : (bytes : ℕ) (words out tree messages : List ℕ) → length words ≡ 641 → length out ≡ 32768 → length tree ≡ 2688
    → length messages ≡ 16
    → CanPut (told (fault_of bytes words) (answer_of bytes words)) 0 out tree messages
unfolding answer_of list_of
printable bytes words out tree messages size space nodes records =
    let list = list_of bytes words in
    let few : length list ≤ 640 = omega (arith, length-take (list_length bytes) (drop 1 words), length-drop 1 words) in
    can-put (fault_of bytes words) list (version_of (get_or words 0 0)) 0 out tree messages (omega arith) (omega arith) (omega arith)
    (omega arith)

-- What is printed, by what was read.
pub listed : (bytes : ℕ) (front words : List ℕ) (t : Told) (tree messages : List ℕ) → words ≡ words_in front
    → t ≡ told (fault_of bytes words) (answer_of bytes words)
    → tree ≡ tree_in (fault_of bytes words) (answer_of bytes words) (replicate 2688 0)
    → messages ≡ messages_in (fault_of bytes words) (answer_of bytes words) (replicate 16 0)
    → answer_text t tree messages ≡ printed bytes front
unfolding printed
listed bytes front words t tree messages e a b d =
    (λ i. answer_text (a i) (b i) (d i))
    ∙ ap (λ (ws : List ℕ).
    answer_text (told (fault_of bytes ws) (answer_of bytes ws)) (tree_in (fault_of bytes ws) (answer_of bytes ws) (replicate 2688 0))
    (messages_in (fault_of bytes ws) (answer_of bytes ws) (replicate 16 0))) e

-- THE TEXT OF A LIST. The program prints of a list what the shared `list_text` says.

-- What is printed of a fault, or of an answer where there is none.
abbrev text_of : Option Refusal → Answer → List ℕ
text_of fault answer = answer_text (told fault answer) (tree_in fault answer []) (messages_in fault answer [])

-- The same of a list whose words are checked after other tests.
abbrev text_after : Option Refusal → List ℕ → ℤ → List ℕ
text_after fault list version = text_of (first_of (fault ∷ words_refusal 0 operator_field 0 list ∷ [])) (reading_of list version)

-- Where those tests turn it back, its words are not looked at.
turned-alike : (fault : Option Refusal) (xs ys : List ℕ) (version : ℤ) → (fault ≡ none → xs ≡ ys)
    → text_after fault xs version ≡ text_after fault ys version
unfolding first_of told tree_in messages_in answer_text
turned-alike none xs ys version h = ap (λ (list : List ℕ). text_after none list version) (h refl)
turned-alike (some r) xs ys version h = refl

module _ (first : ℕ) (list : List ℕ) (low : first < 2 ^ 16) where
  -- The tests of a list's length.
  abbrev length_checks : List (Option Refusal)
  length_checks = must (eqb (length list % 5) 0) (row 1 0) ∷ must (leb (length list) 640) (row 2 0) ∷ []

  -- How many bytes the version and the list have.
  abbrev size : ℕ
  size = 4 * suc (length list)

  counted : list_length size ≡ length list
  unfolding list_length
  counted = omega arith

  turned-list : turned_back size first ≡ first_of length_checks
  unfolding first_of must
  turned-list = rw (whole_words size first (omega arith), le-leb 4 size (omega arith), lt-ltb first 65536 (omega arith), counted) refl

  -- The front has the whole of a list that is not too long.
  whole-list : (rest : List ℕ) → turned_back size first ≡ none → list_of size (first ∷ (take 640 list ++ rest)) ≡ list
  unfolding list_of
  whole-list rest e =
      let long = (first-none (must (eqb (length list % 5) 0) (row 1 0)) _ (sym turned-list ∙ e)).1 in
      let few = leb-true (length list) 640 (passed (leb (length list) 640) (row 2 0) [] long).0 in
      rw (counted, take_all 640 list few) (take-append_seam list rest)

  -- A VERSION AND A LIST, however long: where their first 641 words are the front's, what is printed is the text of the list, refused or
  -- read.
  pub prints-as-listed : (front rest : List ℕ) → words_in front ≡ first ∷ (take 640 list ++ rest)
      → printed (4 * suc (length list)) front ≡ list_text list (version_of first)
  unfolding printed fault_of answer_of list_text list_fault
  prints-as-listed front rest e =
      let words = first ∷ (take 640 list ++ rest) in
      let version = version_of first in
      rw e
      (text-of-front (fault_of size words) (answer_of size words) (replicate 2688 0) (replicate 16 0)
      ∙ turned-alike (turned_back size first) (list_of size words) list version (whole-list rest)
      ∙ ap (λ (fault : Option Refusal). text_after fault list version) turned-list
      ∙ ap (λ (fault : Option Refusal). text_of fault (reading_of list version))
      (sym (in_parts length_checks (words_refusal 0 operator_field 0 list ∷ []))))
