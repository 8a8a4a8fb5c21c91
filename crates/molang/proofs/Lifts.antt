-- BY WAY OF A THIRD VERSION (document 02, card 12): a list that was written is read and written again as it was, at every version, and so
-- it comes out of any number of lifts as it went in. This holds of every call that is written, wherever its tree came from.
use Prim.Native.Nat.{ℕ, ◌*◌, ◌/◌, ◌%◌, ◌^◌, ◌≤◌}
use mathlib.Core.{Path.{◌≡◌, refl, ap, sym, ◌∙◌}, Bool.{false}, List.{List, [], ◌∷◌, ◌++◌}, Option.{none, some}}
use native.Mathlib.Omega.{arith}
use lib.ListN.{length, take}
use Rattle.molang.specs.{Forest.{Token, Forest, nil, node, size}, Read.{uses, set_number}}
use Rattle.molang.specs.{Words.{operator_field, tokens_of, list_words, tree_words}, Parse.{Call, most_tokens, in_halves, tree_after}}
use Rattle.molang.specs.{Plain.{unplain_at}, Write.{written_tree}}
use Rattle.molang.specs.WriteEntry.{tree_fault, trees_of, WriteCall, write_refusal, tokens, write_answered, list_after}
use Rattle.molang.specs.StackOrder.{IsOneTree}
use Rattle.molang.specs.Reread.{exact_call, Lift, words_written, words_of, lifted_by, lifted, by_way_of, CanLift, EachCanLift, LiftsTo}
use Rattle.molang.proofs.{FirstFailure.{first-none, with_number-none}, Words.{LegalTokens, tokens-back}}
use Rattle.molang.proofs.{ListWords.{list_words-length, uses-legal}, UsedSet.{used-few, halves-exact}, TreeWords.{tree-fault-none}}
use Rattle.molang.proofs.{StackOrder.{trees-of-tree}, Accepted.{Acceptable}}
use Rattle.molang.proofs.HandedTree.{Parsed, tree-front, tree-told, tree-back, tree-unfaulted, tree-tells, tree-wrote, write-of-told}
use Rattle.molang.proofs.{Entries.{list_read}, RoundTrip.{round_trip}, Settled.{WrittenList, written-list}}

-- ---- Writing a tree's words

-- The words of a plain tree are written into any list with room.
tree-words : (ws : List ℕ) (k : Token) (cs : Forest) → tree_fault 0 operator_field 0 (record { called = 1; begun = 0 }) ws ≡ none
    → trees_of ws ≡ node k cs nil
    → unplain_at k cs ≡ none
    → length (written_tree k cs) ≤ most_tokens
    → (list : List ℕ) → 5 * length (written_tree k cs) ≤ length list → words_of ws list ≡ some (list_words (written_tree k cs))
unfolding words_of words_written
tree-words ws k cs whole trees plain few list room =
    let w : WriteCall = record { tree = ws; list = list } in
    let tells = (tree-tells k cs w whole trees).writes plain few room in
    rw tells (ap some (tree-wrote k cs w whole trees (write-of-told w (length (written_tree k cs)) tells)).front)

-- The words of a plain tree that a reading left are written into any list with room.
parsed-words : {d : Call} {k : Token} {cs : Forest} → Parsed d k cs → unplain_at k cs ≡ none → length (written_tree k cs) ≤ most_tokens
    → (list : List ℕ) → 5 * length (written_tree k cs) ≤ length list
    → words_of (take (7 * size (node k cs nil)) (tree_after d)) list ≡ some (list_words (written_tree k cs))
parsed-words {d} {k} {cs} p =
    rw (tree-front p) (tree-words (tree_words (node k cs nil)) k cs (tree-unfaulted p) (tree-back p))

-- ---- One lift, and any number

-- The two halves of a call that reads a list with each of its operators and no other.
pub exactly-used : (list : List ℕ) (ks : List Token) → tokens_of list ≡ ks → LegalTokens ks → (m : ℕ)
    → in_halves (set_number (uses (tokens_of list)) 111 % 2 ^ 64) (set_number (uses (tokens_of list)) 111 / 2 ^ 64) m ≡ uses ks m
exactly-used list ks same legal m =
    let few : (m : ℕ) → 111 ≤ m → uses (tokens_of list) m ≡ false = λ m above. rw same (uses-legal legal m above) in
    halves-exact (uses (tokens_of list)) few m ∙ ap (λ (l : List Token). uses l m) same

module _ {ws : List ℕ} (t : WrittenList ws) where
  written-tokens : tokens_of ws ≡ written_tree t.root t.children
  written-tokens = ap tokens_of t.words ∙ tokens-back (written_tree t.root t.children) t.legal t.ends

  written-long : length ws ≡ 5 * length (written_tree t.root t.children)
  written-long = ap length t.words ∙ list_words-length (written_tree t.root t.children)

  -- The tree of a reading that is written as the list lifts to it.
  lifts-back : {d : Call} {k : Token} {cs : Forest} → Parsed d k cs → unplain_at k cs ≡ none
      → written_tree k cs ≡ written_tree t.root t.children
      → (list : List ℕ) → length ws ≤ length list → words_of (take (7 * size (node k cs nil)) (tree_after d)) list ≡ some ws
  lifts-back p plain same list room =
      let few = t.few in
      let long = written-long in
      parsed-words p plain (rw same few) list (rw same (omega arith)) ∙ ap some (ap list_words same ∙ sym t.words)

  -- TOKEN FOR TOKEN.
  pub lift-again : (l : Lift) → CanLift ws l → lifted l ws ≡ some ws
  unfolding lifted lifted_by exact_call
  lift-again l can =
      let ks = written_tree t.root t.children in
      let d = exact_call ws l.tree l.messages l.work l.source_length l.version l.limit in
      let used = exactly-used ws ks written-tokens t.legal in
      let long = written-long in
      let acceptable : Acceptable d ks =
      record {
        list = t.words;
        legal = t.legal;
        few = t.few;
        tree = omega (arith, can.tree_room);
        messages = can.message_room;
        work = omega (arith, can.work_room);
        used = used-few d.used_low d.used_high (λ m above. used m ∙ uses-legal t.legal m above);
        source_length = can.legal_length;
        limit = can.legal_limit;
        nesting = can.within_limit;
      }
      in
      let again = round_trip t.root t.children t.plain l.version l.source_length in
      let parsed : Parsed d again.root again.children = list_read d t.root t.children t.plain acceptable t.ends used in
      rw (tree-told parsed) (lifts-back parsed again.plain_again again.writes_again l.written can.list_room)

  -- ANY NUMBER.
  pub any_way_lem : (ls : List Lift) → EachCanLift ws ls → by_way_of ls ws ≡ some ws
  unfolding by_way_of
  any_way_lem [] can = refl
  any_way_lem (l ∷ ls) can = rw (lift-again l can.0, by_way_of) (any_way_lem ls can.1)

  -- So the tree of a reading that is written as the list lifts to it, whichever way.
  pub parsed-lifts : {d : Call} {k : Token} {cs : Forest} → Parsed d k cs → unplain_at k cs ≡ none
      → written_tree k cs ≡ written_tree t.root t.children
      → LiftsTo (take (7 * size (node k cs nil)) (tree_after d)) ws
  parsed-lifts p plain same = record { writes = lifts-back p plain same; again = lift-again; any_way = any_way_lem }

-- ---- Every call that is written

-- EVERY CALL THAT IS WRITTEN, wherever its tree came from and wherever its nodes close: its tree lifts to what was written, whichever way.
pub written-lifts : (w : WriteCall) (count : ℕ) → write_answered w ≡ tokens count → LiftsTo w.tree (take (5 * count) (list_after w))
unfolding write_refusal
written-lifts w count told =
    let writes = write-of-told w count told in
    let whole = with_number-none 12 _ (first-none _ _ writes).0 in
    let t : IsOneTree tree_words w.tree = (tree-fault-none w.tree).0 whole in
    let k = t.root in
    let cs = t.children in
    let trees = trees-of-tree t in
    let wrote = tree-wrote k cs w whole trees writes in
    let said = wrote.told in
    let counted : count ≡ length (written_tree k cs) = cc in
    let is : take (5 * count) (list_after w) ≡ list_words (written_tree k cs) =
    ap (λ (n : ℕ). take (5 * n) (list_after w)) counted ∙ wrote.front
    in
    let long = list_words-length (written_tree k cs) in
    let listed = written-list k cs wrote.plain t.legal wrote.few in
    rw is
    (record {
      writes = λ list room. tree-words w.tree k cs whole trees wrote.plain wrote.few list (omega arith);
      again = lift-again listed;
      any_way = any_way_lem listed;
    })

-- GOING BY WAY OF OTHER VERSIONS EQUALS GOING STRAIGHT: further lifts come to the same after any number of lifts as without them, whatever
-- they come to.
pub straight : {words list : List ℕ} → LiftsTo words list → (ls : List Lift) → EachCanLift list ls → (further : List Lift)
    → by_way_of (ls ++ further) list ≡ by_way_of further list
unfolding by_way_of
straight t [] can further = refl
straight t (l ∷ ls) can further = rw (t.again l can.0, by_way_of) (straight t ls can.1 further)
