-- After any sequence of calls from an accepted opening on: the held words are the opened ones with the accepted edits made in order, an ask
-- that changes nothing is answered as reading them afresh, and an accepted commit answers as the edit was asked. Assumes nothing.
use Prim.Native.Nat.{ℕ, suc, ◌*◌, ◌-◌, ◌/◌, ◌%◌, ◌≤◌}
use mathlib.Core.{Path.{◌≡◌, refl, ap, sym, ◌∙◌}, List.{List, [], ◌∷◌, ◌++◌}, Option.{Option, none, some}}
use native.Mathlib.Omega.{arith}
use lib.{IntN.{ℤ}, ListN.{length, take, drop, length-append, length-drop}, Seq.{take-append_seam}}
use borrow.Author.Tests.{eqb-true, leb-true, le-leb}
use Rattle.molang.specs.{FirstFailure.{must, first_of}, Forest.{nil, node, size}, Words.{Refusal, tree_words}, Read.{Answer, tree, messages}}
use Rattle.molang.specs.Parse.{Call, a_tree, some_messages, length_rows, value_rows, refusal, reading, record_words, told, in_front, tree_in}
use Rattle.molang.specs.Parse.{messages_in}
use Rattle.molang.proofs.{Accepted.{call-accepted}, Bounds.{records-length, tree_words-length}}
use Rattle.molang.proofs.{FirstFailure.{must-none, first-none, then-none, last_one}, HandedTree.{front-words}}
use Rattle.own.specs.Own.{named_call, own_call}
use Rattle.held.specs.declared.Held.{Held}
use Rattle.held.specs.Held.{State, Edit, Lent, held_list, edited, slice_row, claim_row, seen_row, edit_row, count_row, lent_call, edit_call}
use Rattle.held.specs.Held.{left_by, open_refusal, ask_refusal, commit_refusal, ask_left, commit_left, opened, with_edit, committed}
use Rattle.held.specs.Held.{with_version, adopted, Act, asks, commits, adopts, stepped, after, edits_made, version_set}
use Rattle.held.specs.Histories.{nothing, SameLent, AsAsked}

-- What holds of a state from the opening on: its tokens are few, and its slice has room.
pub record Sound (s : State) : Type 0 where
  pub few : s.held.tokens ≤ 4096
  pub room : 20480 ≤ length s.slice

-- ---- The edit count tells whether anything held has moved

-- A call leaves the state, or adds one to the edit count.
data Moved (s next : State) : Type 0 where
  stays : next ≡ s → Moved s next
  counts : next.held.edits ≡ suc s.held.edits → Moved s next

moved : (s : State) (a : Act) → Moved s (stepped s a)
unfolding stepped committed adopted with_edit with_version
moved s (asks e l) = stays refl
moved s (commits seen e l) = by (commit_refusal s seen e l)
  where
    by : (o : Option Refusal) → Moved s (elim o [ some r ↦ s | none ↦ with_edit s e ])
    by (some r) = stays refl
    by none = unfold with_edit in counts refl
moved s (adopts v) = by (count_row s.held)
  where
    by : (o : Option Refusal) → Moved s (record { held = elim o [ some r ↦ s.held | none ↦ with_version s.held v ]; slice = s.slice })
    by (some r) = stays refl
    by none = unfold with_version in counts refl

never-fewer : (s : State) (acts : List Act) → s.held.edits ≤ (after s acts).held.edits
unfolding after
never-fewer s [] = omega arith
never-fewer s (a ∷ later) = by (moved s a) (never-fewer (stepped s a) later)
  where
    by : Moved s (stepped s a) → (stepped s a).held.edits ≤ (after (stepped s a) later).held.edits
        → s.held.edits ≤ (after (stepped s a) later).held.edits
    by (stays e) h = let same = ap (λ (t : State). t.held.edits) e in omega arith
    by (counts e) h = omega arith

-- WHERE IT HAS NOT MOVED, nothing held has.
pub unmoved : (s : State) (acts : List Act) → (after s acts).held.edits ≡ s.held.edits → after s acts ≡ s
unfolding after
unmoved s [] h = refl
unmoved s (a ∷ later) h = by (moved s a) (unmoved (stepped s a) later) (never-fewer (stepped s a) later)
  where
    by : Moved s (stepped s a)
        → ((after (stepped s a) later).held.edits ≡ (stepped s a).held.edits → after (stepped s a) later ≡ stepped s a)
        → (stepped s a).held.edits ≤ (after (stepped s a) later).held.edits
        → after (stepped s a) later ≡ s
    by (stays e) inner more = inner (h ∙ sym (ap (λ (t : State). t.held.edits) e)) ∙ e
    by (counts e) inner more = absurd (omega arith)

-- ---- The words

-- An accepted commit's edit is within the list, and the list that it makes is whole and not too long.
record Made (s : State) (e : Edit) : Type 0 where
  whole : length (edited e (held_list s)) % 5 ≡ 0
  few : length (edited e (held_list s)) / 5 ≤ 4096

-- The rows of a commit that is accepted.
record Accepted (s : State) (seen : ℕ) (e : Edit) (l : Lent) : Type 0 where
  slice : slice_row s.slice ≡ none
  claim : claim_row s ≡ none
  seen-is : seen_row s seen ≡ none
  edit : edit_row s e ≡ none
  entry : refusal (edit_call s e l) ≡ none

accepted : (s : State) (seen : ℕ) (e : Edit) (l : Lent) → commit_refusal s seen e l ≡ none → Accepted s seen e l
unfolding commit_refusal
accepted s seen e l h =
    let one = first-none _ _ h in
    let two = first-none _ _ one.1 in
    let three = first-none _ _ two.1 in
    let four = first-none _ _ three.1 in
    let five = first-none _ _ four.1 in
    record {
      slice = one.0;
      claim = two.0;
      seen-is = three.0;
      edit = four.0;
      entry = sym (last_one (refusal (edit_call s e l))) ∙ five.1;
    }

made : (s : State) (seen : ℕ) (e : Edit) (l : Lent) → Accepted s seen e l → Made s e
unfolding edit_call lent_call own_call named_call
made s seen e l a = let c = call-accepted (edit_call s e l) a.entry in record { whole = c.whole; few = c.tokens }

-- The state stays sound, and its words are the edited ones.
commit-made : (s : State) (e : Edit) → Sound s → Made s e → Sound (with_edit s e) × (held_list (with_edit s e) ≡ edited e (held_list s))
unfolding with_edit held_list in_front
commit-made s e w m =
    let new = edited e (held_list s) in
    let whole = m.whole in
    let few = m.few in
    let counted : 5 * (length new / 5) ≡ length new = omega arith in
    let room = w.room in
    let total = length-append new (drop (length new) s.slice) in
    let rest = length-drop (length new) s.slice in (
      record { few = few; room = omega arith },
      ap (λ (n : ℕ). take n (new ++ drop (length new) s.slice)) counted ∙ take-append_seam new (drop (length new) s.slice),
    )

commit-held : (s : State) (seen : ℕ) (d : Edit) (l : Lent) → Sound s → (words : List ℕ) → held_list s ≡ words
    → Sound (committed s seen d l)
    × (held_list (committed s seen d l) ≡ (elim (commit_refusal s seen d l) as (λ o. List ℕ) [ some r ↦ words | none ↦ edited d words ]))
unfolding committed
commit-held s seen d l w words e = by (commit_refusal s seen d l) (λ h. made s seen d l (accepted s seen d l h))
  where
    by : (o : Option Refusal) → (o ≡ none → Made s d)
        → Sound (elim o [ some r ↦ s | none ↦ with_edit s d ])
        × (held_list (elim o [ some r ↦ s | none ↦ with_edit s d ]) ≡ (elim o as (λ o. List ℕ) [ some r ↦ words | none ↦ edited d words ]))
    by (some r) m = (w, e)
    by none m = let c = commit-made s d w (m refl) in (c.0, c.1 ∙ ap (edited d) e)

adopt-held : (s : State) (v : ℤ) → Sound s → (words : List ℕ) → held_list s ≡ words
    → Sound (stepped s (adopts v)) × (held_list (stepped s (adopts v)) ≡ words)
unfolding stepped adopted
adopt-held s v w words e = by (count_row s.held)
  where
    next : Option Refusal → State
    next o = record { held = elim o [ some r ↦ s.held | none ↦ with_version s.held v ]; slice = s.slice }

    by : (o : Option Refusal) → Sound (next o) × (held_list (next o) ≡ words)
    by (some r) = (record { few = w.few; room = w.room }, unfold held_list in e)
    by none = unfold with_version held_list in (record { few = w.few; room = w.room }, e)

-- THE WORDS after a sequence of calls, refused ones among them.
after-held : (s : State) (acts : List Act) → Sound s → (words : List ℕ) → held_list s ≡ words
    → Sound (after s acts) × (held_list (after s acts) ≡ edits_made s acts words)
unfolding after edits_made stepped
after-held s [] w words e = (w, e)
after-held s (asks d l ∷ acts) w words e = after-held s acts w words e
after-held s (commits seen d l ∷ acts) w words e =
    let next = commit-held s seen d l w words e in after-held (committed s seen d l) acts next.0 _ next.1
after-held s (adopts v ∷ acts) w words e =
    let next = adopt-held s v w words e in after-held (stepped s (adopts v)) acts next.0 words next.1

-- An accepted opening is sound, and holds the list.
opening : (slice list : List ℕ) (l : Lent) (v : ℤ) → open_refusal slice list l v ≡ none
    → Sound (opened slice list v) × (held_list (opened slice list v) ≡ list)
unfolding open_refusal opened slice_row lent_call own_call named_call held_list in_front
opening slice list l v h =
    let one = first-none _ _ h in
    let room = leb-true 20480 (length slice) (must-none _ _ one.0) in
    let c = call-accepted (lent_call list l v) (sym (last_one (refusal (lent_call list l v))) ∙ one.1) in
    let whole : length list % 5 ≡ 0 = c.whole in
    let few : length list / 5 ≤ 4096 = c.tokens in
    let counted : 5 * (length list / 5) ≡ length list = omega arith in
    let total = length-append list (drop (length list) slice) in
    let rest = length-drop (length list) slice in (
      record { few = few; room = omega arith },
      ap (λ (n : ℕ). take n (list ++ drop (length list) slice)) counted ∙ take-append_seam list (drop (length list) slice),
    )

-- THE WORDS HELD after any sequence of calls from an opening on are the opened ones with the accepted edits made in order.
pub words-held : (slice list : List ℕ) (l : Lent) (v : ℤ) → open_refusal slice list l v ≡ none → (acts : List Act)
    → held_list (after (opened slice list v) acts) ≡ edits_made (opened slice list v) acts list
words-held slice list l v h acts =
    let o = opening slice list l v h in (after-held (opened slice list v) acts o.0 list o.1).1

-- THE VERSION HELD is the one last set.
version-from : (s : State) (acts : List Act) (v : ℤ) → s.held.version ≡ v → (after s acts).held.version ≡ version_set s acts v
unfolding after version_set stepped
version-from s [] v e = e
version-from s (asks d l ∷ acts) v e = version-from s acts v e
version-from s (commits seen d l ∷ acts) v e =
    version-from (committed s seen d l) acts v (unfold committed in by (commit_refusal s seen d l))
  where
    by : (o : Option Refusal) → (elim o as (λ o. State) [ some r ↦ s | none ↦ with_edit s d ]).held.version ≡ v
    by (some r) = e
    by none = unfold with_edit in e
version-from s (adopts w ∷ acts) v e =
    version-from (stepped s (adopts w)) acts _ (unfold stepped adopted in by (count_row s.held))
  where
    by : (o : Option Refusal) → (elim o as (λ o. Held) [ some r ↦ s.held | none ↦ with_version s.held w ]).version
        ≡ (elim o as (λ o. ℤ) [ some r ↦ v | none ↦ w ])
    by (some r) = e
    by none = unfold with_version in refl

-- ---- Afresh

-- An ask that removes and puts in nothing is answered as reading the held words.
ask-nothing : (s : State) (l : Lent) → Sound s
    → ask_left s nothing l ≡ left_by (refusal (lent_call (held_list s) l s.held.version)) (lent_call (held_list s) l s.held.version)
unfolding ask_left ask_refusal slice_row claim_row edit_row edit_call edited first_of must nothing
ask-nothing s l w =
    let few = w.few in
    let room = w.room in
    let tokens = s.held.tokens in
    let c = lent_call (held_list s) l s.held.version in
    rw (
      le-leb 20480 (length s.slice) room,
      le-leb tokens 4096 few,
      le-leb 0 tokens (omega arith),
      le-leb 0 (tokens - 0) (omega arith),
      last_one (refusal c),
    ) refl

-- AFRESH: after any sequence an ask at place 0 that removes and puts in nothing is told, and leaves, what reading the opened words with the
-- accepted edits made does, at the version last set.
pub afresh : (slice list : List ℕ) (l : Lent) (v : ℤ) → open_refusal slice list l v ≡ none → (acts : List Act) (lent : Lent)
    → ask_left (after (opened slice list v) acts) nothing lent
    ≡ left_by (refusal (lent_call (edits_made (opened slice list v) acts list) lent (version_set (opened slice list v) acts v)))
    (lent_call (edits_made (opened slice list v) acts list) lent (version_set (opened slice list v) acts v))
afresh slice list l v h acts lent =
    let s = opened slice list v in
    let o = opening slice list l v h in
    let held = after-held s acts o.0 list o.1 in
    let version = version-from s acts v (unfold opened in refl) in
    ask-nothing (after s acts) lent held.0
    ∙ (λ i. left_by (refusal (lent_call (held.1 i) lent (version i))) (lent_call (held.1 i) lent (version i)))

-- ---- As asked

-- The entry's refusal of a list depends on the lengths of the lent buffers and on the limit.
same-refusal : (list : List ℕ) (a b : Lent) (v : ℤ) → SameLent a b → refusal (lent_call list a v) ≡ refusal (lent_call list b v)
unfolding lent_call own_call named_call refusal length_rows value_rows
same-refusal list a b v s = rw (s.tree, s.messages, s.work, s.limit) refl

-- Its reading depends on neither.
same-reading : (list : List ℕ) (a b : Lent) (v : ℤ) → reading (lent_call list a v) ≡ reading (lent_call list b v)
same-reading list a b v = unfold lent_call own_call named_call reading in refl

-- The front words are the answer's, whatever the buffers held.
tree-words : (a : Answer) (b d : List ℕ) (nodes : ℕ) → told none a ≡ a_tree nodes
    → take (7 * nodes) (tree_in none a d) ≡ take (7 * nodes) (tree_in none a b)
unfolding told tree_in
tree-words (tree k cs) b d nodes h =
    let words = tree_words (node k cs nil) in
    let n : nodes ≡ size (node k cs nil) = cc in
    let whole : length words ≡ 7 * nodes = tree_words-length (node k cs nil) ∙ ap (λ (m : ℕ). 7 * m) (sym n) in
    front-words words d (7 * nodes) whole ∙ sym (front-words words b (7 * nodes) whole)
tree-words (messages ms) b d nodes h = absurd (let z : ◌≡◌ {A = ℕ} 0 1 = cc in omega arith)

record-words : (a : Answer) (b d : List ℕ) (records : ℕ) → told none a ≡ some_messages records
    → take (8 * records) (messages_in none a d) ≡ take (8 * records) (messages_in none a b)
unfolding told messages_in
record-words (tree k cs) b d records h = absurd (let z : ◌≡◌ {A = ℕ} 0 1 = cc in omega arith)
record-words (messages ms) b d records h =
    let words = record_words ms in
    let n : records ≡ length ms = cc in
    let whole : length words ≡ 8 * records = records-length ms ∙ ap (λ (m : ℕ). 8 * m) (sym n) in
    front-words words d (8 * records) whole ∙ sym (front-words words b (8 * records) whole)

same-words : (c d : Call) → reading d ≡ reading c → AsAsked (left_by none c) (left_by none d)
unfolding left_by
same-words c d e =
    rw e
    (record {
      told = refl;
      tree = tree-words (reading c) c.tree d.tree;
      messages = record-words (reading c) c.messages d.messages;
    })

-- An accepted commit at the state that was asked.
at_once : (s : State) (e : Edit) (lent : Lent) (seen : ℕ) (again : Lent) → SameLent lent again → commit_refusal s seen e again ≡ none
    → AsAsked (ask_left s e lent) (commit_left s seen e again)
unfolding ask_left commit_left ask_refusal edit_call
at_once s e lent seen again same h =
    let a = accepted s seen e again h in
    let list = edited e (held_list s) in
    let version = s.held.version in
    let entry : refusal (lent_call list lent version) ≡ none = same-refusal list lent again version same ∙ a.entry in
    let asked : ask_refusal s e lent ≡ none =
    then-none _ _ a.slice (then-none _ _ a.claim (then-none _ _ a.edit (last_one _ ∙ entry)))
    in
    rw (h, asked) (same-words (lent_call list lent version) (lent_call list again version) (sym (same-reading list lent again version)))

-- AS ASKED: whatever calls come between, an accepted commit of the asked edit that names the edit count seen when asking answers as asked,
-- over buffers of the same lengths and the same limit.
pub as-asked : (s : State) (e : Edit) (lent : Lent) (acts : List Act) (seen : ℕ) (again : Lent) → seen ≡ s.held.edits
    → SameLent lent again
    → commit_refusal (after s acts) seen e again ≡ none
    → AsAsked (ask_left s e lent) (commit_left (after s acts) seen e again)
unfolding seen_row
as-asked s e lent acts seen again names same h =
    let a = accepted (after s acts) seen e again h in
    let count : seen ≡ (after s acts).held.edits = eqb-true seen (after s acts).held.edits (must-none _ _ a.seen-is) in
    let still = unmoved s acts (sym count ∙ names) in
    rw still (at_once s e lent seen again same (rw still at h))
