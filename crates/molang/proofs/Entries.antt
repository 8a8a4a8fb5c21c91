-- DEMAND 3 OVER THE ENTRIES' DEFINITIONS: three calls, each of which gets what the one before left in its buffer. The second reading is not
-- turned back and gives a tree; with brackets taken away it has the first tree's words.
use Prim.Native.Nat.{ℕ, ◌+◌, ◌*◌, ◌≤◌}
use mathlib.Core.{Path.{◌≡◌, refl, ap, ◌∙◌}, Bool.{true, false}, List.{List}, Option.{none}}
use lib.{Dec.{eqb}, ListN.{length, take}}
use Rattle.molang.specs.Operator
use Rattle.molang.specs.{Forest.{Token, Forest, nil, node, size}, Read.{read, uses}, Words.{list_words, tree_words}, Nesting.{too_deep}}
use Rattle.molang.specs.{Parse.{Call, is_limit, in_halves, reading, a_tree, answered, tree_after}, Plain.{unplain_at}}
use Rattle.molang.specs.Write.{written_tree, taken_away, comparable}
use Rattle.molang.specs.WriteEntry.{WriteCall, write_refusal, tokens, write_answered, list_after}
use Rattle.molang.proofs.{Words.{LegalTokens, AtEnds, tokens-back}, ListWords.{uses-legal}, UsedSet.{used-few}}
use Rattle.molang.proofs.Accepted.{Acceptable, call-acceptable}
use Rattle.molang.proofs.HandedTree.{Parsed, tree-front, tree-told, tree-written-legal, tree-written-ends, write_done}
use Rattle.molang.proofs.RoundTrip.{round_trip}

-- THE THREE CALLS, the first of which reads the tree k over cs; nobody else writes the tree buffer or the list in between.
pub record ThreeCalls (first : Call) (write : WriteCall) (second : Call) (k : Token) (cs : Forest) : Type 0 where
  -- The first call is not turned back and ends with the tree.
  pub parsed : Parsed first k cs
  -- The writer gets the words that the first call put into the tree buffer, seven to a node, and is not turned back.
  pub tree_handed : write.tree ≡ take (7 * size (node k cs nil)) (tree_after first)
  pub writes : write_refusal write ≡ none
  -- The second call gets exactly the words written, five to a token; its used set has each operator of those tokens and no other.
  pub list_handed : second.list ≡ take (5 * length (written_tree k cs)) (list_after write)
  pub used_exactly : (m : ℕ) → in_halves second.used_low second.used_high m ≡ uses (written_tree k cs) m
  -- Its buffers are long enough by the table, its source length and its limit are legal, and those tokens are within the limit. Its
  -- version is any.
  pub tree_room : 21 * length (written_tree k cs) ≤ length second.tree
  pub message_room : 16 ≤ length second.messages
  pub work_room : 64 * length (written_tree k cs) + 64 ≤ length second.work
  pub legal_length : second.source_length ≤ 536870911
  pub legal_limit : is_limit second.limit ≡ true
  pub within_limit : too_deep second.limit (written_tree k cs) ≡ none

-- WHAT COMES OF THEM.
pub record SameTrees (first : Call) (write : WriteCall) (second : Call) (k : Token) (cs : Forest) : Type 0 where
  -- The first tree's words were handed on, and the words of its writing, whose token count the writer told.
  pub tree_got : write.tree ≡ tree_words (node k cs nil)
  pub told : write_answered write ≡ tokens (length (written_tree k cs))
  pub list_got : second.list ≡ list_words (written_tree k cs)
  -- The second call is not turned back and ends with a tree; it answers the node count and leaves the words in front of its tree buffer.
  pub root : Token
  pub children : Forest
  pub parsed : Parsed second root children
  pub answers : answered second ≡ a_tree (size (node root children nil))
  pub front : take (7 * size (node root children nil)) (tree_after second) ≡ tree_words (node root children nil)
  -- What is compared of the two trees, with brackets taken away, has the same words in the same order; where the first root is no
  -- semicolon, that is everything.
  pub words : tree_words (comparable (taken_away false (node root children nil) nil)) ≡ tree_words
      (comparable (taken_away false (node k cs nil) nil))
  pub all_words : eqb k.op Operator.semicolon ≡ false
      → tree_words (taken_away false (node root children nil) nil) ≡ tree_words (taken_away false (node k cs nil) nil)
  -- The second tree is plain, and its writing is the first one's (card 12).
  pub plain_again : unplain_at root children ≡ none
  pub writes_again : written_tree root children ≡ written_tree k cs

-- A call whose list is the words of legal tokens, and whose used set is exactly theirs, reads those tokens.
reads-list : (d : Call) (ks : List Token) → d.list ≡ list_words ks → LegalTokens ks → AtEnds ks
    → ((m : ℕ) → in_halves d.used_low d.used_high m ≡ uses ks m)
    → reading d ≡ read ks (uses ks) d.version d.source_length
unfolding reading
reads-list d ks list legal ends used =
    let same : in_halves d.used_low d.used_high ≡ uses ks = λ i m. used m i in rw (list, tokens-back ks legal ends, same) refl

-- What was written of a plain tree is read back by a call that gets its words and exactly its operators, and is not turned back.
pub list_read : (d : Call) (k : Token) (cs : Forest) (plain : unplain_at k cs ≡ none) → Acceptable d (written_tree k cs)
    → AtEnds (written_tree k cs)
    → ((m : ℕ) → in_halves d.used_low d.used_high m ≡ uses (written_tree k cs) m)
    → Parsed d (round_trip k cs plain d.version d.source_length).root (round_trip k cs plain d.version d.source_length).children
list_read d k cs plain a ends used =
    record {
      accepted = call-acceptable d (written_tree k cs) a;
      reads = reads-list d (written_tree k cs) a.list a.legal ends used
          ∙ (round_trip k cs plain d.version d.source_length).reads;
    }

-- DEMAND 3 OVER THE ENTRIES.
pub three-calls : (first : Call) (write : WriteCall) (second : Call) (k : Token) (cs : Forest) → ThreeCalls first write second k cs
    → SameTrees first write second k cs
three-calls first write second k cs t =
    let ks = written_tree k cs in
    let p = t.parsed in
    let tree_got = t.tree_handed ∙ tree-front p in
    let wrote = write_done p write tree_got t.writes in
    let list_got = t.list_handed ∙ wrote.front in
    let legal = tree-written-legal p in
    let ends = tree-written-ends p wrote.plain in
    let acceptable : Acceptable second ks =
    record {
      list = list_got;
      legal = legal;
      few = wrote.few;
      tree = t.tree_room;
      messages = t.message_room;
      work = t.work_room;
      used = used-few second.used_low second.used_high (λ m above. t.used_exactly m ∙ uses-legal legal m above);
      source_length = t.legal_length;
      limit = t.legal_limit;
      nesting = rw (list_got, tokens-back ks legal ends) t.within_limit;
    }
    in
    let again = round_trip k cs wrote.plain second.version second.source_length in
    let parsed = list_read second k cs wrote.plain acceptable ends t.used_exactly in
    record {
      tree_got = tree_got;
      told = wrote.told;
      list_got = list_got;
      root = again.root;
      children = again.children;
      parsed = parsed;
      answers = tree-told parsed;
      front = tree-front parsed;
      words = ap tree_words again.agrees;
      all_words = λ h. ap tree_words (again.agrees_in_all h);
      plain_again = again.plain_again;
      writes_again = again.writes_again;
    }
