-- THE LIFT OF A LIST (`specs/Lift`): what comes out of it reads at the new engine as the given list did at the old one; lifted again, and
-- by way of any number of engines, it comes to the same trees, and once it is written to the same words; and a list stays behind for the
-- reason told and no other.
use Prim.Native.Nat.{ℕ, ◌/◌, ◌%◌, ◌≤◌}
use mathlib.Core.{Path.{◌≡◌, refl, ap, sym, ◌∙◌}, Bool.{Bool, true, false, ◌&&◌, true≢false}, List.{List, [], ◌∷◌}}
use mathlib.Core.Option.{Option, none, some}
use native.Mathlib.Omega.{arith}
use lib.{Dec.{eqb, leb}, IntN.{ℤ}, ListN.{length}}
use borrow.Author.Tests.{eqb-true, eq-eqb, leb-true, le-leb}
use Rattle.molang.specs.{Forest.{Token, Forest, nil, node, leaves}, Read.{Answer, tree, messages, read, highest_end, uses}}
use Rattle.molang.specs.Words.{Refusal, row, operator_field, words_refusal, tokens_of, list_words, tree_words}
use Rattle.molang.specs.{Nesting.{too_deep}, Parse.{most_tokens, is_limit}, Plain.{unplain_at}, Write.{written_tree}, WriteEntry.{trees_of}}
use Rattle.molang.specs.Lift.{Engine, own_reading, eq_words, are_same, lift_refusal, unwritable, Lifted, same, lifted, behind, or_behind}
use Rattle.molang.specs.Lift.{or_written, after_old, lift_of, out_of, by_engines, last_engine, ReadsAlike, SameOr, stays, becomes, CanHold}
use Rattle.molang.specs.Lift.{Reason, refused_list, has_messages, too_deep_as_it_is, not_written, CanCome}
use Rattle.molang.proofs.FirstFailure.{first-none, then-none, passed, passes, all-passed, with_number-none, without-number}
use Rattle.molang.proofs.{Trees.{both, and-true-true, some-none}, Booleans.{either}}
use Rattle.molang.proofs.Words.{LegalTokens, AtEnds, words_back, tokens-back, tokens-end}
use Rattle.molang.proofs.{Legal.{read-legal, read_back}, ListWords.{list-unrefused, list_words-length}, HandedTree.{root-legal}}
use Rattle.molang.proofs.{Closes.{read-closes, plain-ends}, RoundTrip.{round_trip}}

-- ---- Words that are equal

equal_words : (xs ys : List ℕ) → eq_words xs ys ≡ true → xs ≡ ys
unfolding eq_words
equal_words [] [] e = refl
equal_words [] (y ∷ ys) e = absurd (true≢false (sym e))
equal_words (x ∷ xs) [] e = absurd (true≢false (sym e))
equal_words (x ∷ xs) (y ∷ ys) e =
    let h = both (eqb x y) (eq_words xs ys) e in
    let a = eqb-true x y h.0 in
    let b = equal_words xs ys h.1 in
    cc

words-equal : (xs : List ℕ) → eq_words xs xs ≡ true
unfolding eq_words
words-equal [] = refl
words-equal (x ∷ xs) = and-true-true (eqb x x) (eq_words xs xs) (eq-eqb x x refl) (words-equal xs)

-- ---- The table's rows of a list

-- A list that is not turned back: legal tokens, and what each row asks.
pub record Entered (from to : Engine) (list : List ℕ) : Type 0 where
  pub whole : length list % 5 ≡ 0
  pub tokens : length list / 5 ≤ most_tokens
  pub old : is_limit from.limit ≡ true
  pub new : is_limit to.limit ≡ true
  pub words : words_refusal 0 operator_field 0 list ≡ none
  pub within : too_deep from.limit (tokens_of list) ≡ none

pub entered : (from to : Engine) (list : List ℕ) → lift_refusal from to list ≡ none → Entered from to list
unfolding lift_refusal
entered from to list h =
    let one = passed (eqb (length list % 5) 0) (row 1 0) _ h in
    let two = passed (leb (length list / 5) most_tokens) (row 2 0) _ one.1 in
    let limits = passed (is_limit from.limit && is_limit to.limit) (row 17 0) _ two.1 in
    let each = both (is_limit from.limit) (is_limit to.limit) limits.0 in
    let words = first-none _ _ limits.1 in
    record {
      whole = eqb-true (length list % 5) 0 one.0;
      tokens = leb-true (length list / 5) most_tokens two.0;
      old = each.0;
      new = each.1;
      words = words.0;
      within = with_number-none 18 (too_deep from.limit (tokens_of list)) (first-none _ _ words.1).0;
    }

pub enters : (from to : Engine) (list : List ℕ) → Entered from to list → lift_refusal from to list ≡ none
unfolding lift_refusal
enters from to list e =
    passes _ (row 1 0) _ (eq-eqb _ _ e.whole)
    (passes _ (row 2 0) _ (le-leb _ _ e.tokens)
    (passes _ (row 17 0) _ (and-true-true _ _ e.old e.new)
    (then-none _ _ e.words (then-none _ _ (without-number 18 (too_deep from.limit (tokens_of list)) e.within) all-passed))))

-- Its tokens are legal and few.
module _ {from to : Engine} {list : List ℕ} (e : Entered from to list) where
  legal-tokens : LegalTokens (tokens_of list)
  legal-tokens = (words_back 0 0 list e.words e.whole).1

  few-tokens : length (tokens_of list) ≤ most_tokens
  few-tokens =
      let back = (words_back 0 0 list e.words e.whole).0 in
      omega (arith, e.tokens, ap length back, list_words-length (tokens_of list))

  -- Two versions read it as trees of the same words: these are one tree.
  one-tree : (v w : ℤ) (k : Token) (cs : Forest) → own_reading v list ≡ tree k cs → are_same (tree k cs) (own_reading w list) ≡ true
      → own_reading w list ≡ tree k cs
  unfolding own_reading are_same
  one-tree v w k cs reads h = split (own_reading w list) refl
    where
      split : (a : Answer) → own_reading w list ≡ a → own_reading w list ≡ tree k cs
      split (messages ms) f = absurd (true≢false (sym (rw (f, are_same) at h)))
      split (tree l ds) f =
          let words = equal_words _ _ (rw (f, are_same) at h) in
          let first = read_back _ _ _ _ k cs legal-tokens few-tokens reads in
          let second = read_back _ _ _ _ l ds legal-tokens few-tokens f in
          let is : node k cs nil ≡ node l ds nil = sym first ∙ (ap trees_of words ∙ second) in
          f ∙ cc is

-- ---- What a list comes to

-- EACH LIST HAS EXACTLY ONE LOT, and its lift is that one.
pub data Lot (from to : Engine) (list : List ℕ) (l : Lifted) : Type 0 where
  reads_same : {k : Token} {cs : Forest} → CanCome from to list k cs → are_same (tree k cs) (own_reading to.version list) ≡ true → l ≡ same
      → Lot from to list l
  is_written : {k : Token} {cs : Forest} → CanCome from to list k cs → are_same (tree k cs) (own_reading to.version list) ≡ false
      → unwritable to.limit k cs ≡ none → l ≡ lifted (list_words (written_tree k cs)) → Lot from to list l
  stays_behind : (number place : ℕ) → Reason from to list number place → l ≡ behind number place → Lot from to list l

pub lot : (from to : Engine) (list : List ℕ) → Lot from to list (lift_of from to list)
unfolding lift_of after_old or_behind or_written
lot from to list = first (lift_refusal from to list) refl
  where
    last : (k : Token) (cs : Forest) (can : CanCome from to list k cs) → are_same (tree k cs) (own_reading to.version list) ≡ false
        → (o : Option Refusal) → unwritable to.limit k cs ≡ o → Lot from to list (lift_of from to list)
    last k cs can e (some r) f =
        stays_behind r.number r.place (not_written can.accepted can.reads can.within e f)
        (rw (can.accepted, can.reads, can.within, e, f) refl)
    last k cs can e none f = is_written can e f (rw (can.accepted, can.reads, can.within, e, f) refl)

    beside : (k : Token) (cs : Forest) (can : CanCome from to list k cs) (b : Bool)
        → are_same (tree k cs) (own_reading to.version list) ≡ b
        → Lot from to list (lift_of from to list)
    beside k cs can true e = reads_same can e (rw (can.accepted, can.reads, can.within, e) refl)
    beside k cs can false e = last k cs can e (unwritable to.limit k cs) refl

    deep : (k : Token) (cs : Forest) → lift_refusal from to list ≡ none → own_reading from.version list ≡ tree k cs → (o : Option ℕ)
        → too_deep to.limit (tokens_of list) ≡ o
        → Lot from to list (lift_of from to list)
    deep k cs a r (some place) e = stays_behind 18 place (too_deep_as_it_is a r e refl) (rw (a, r, e) refl)
    deep k cs a r none e =
        beside k cs (record { accepted = a; reads = r; within = e }) (are_same (tree k cs) (own_reading to.version list)) refl

    read-old : lift_refusal from to list ≡ none → (a : Answer) → own_reading from.version list ≡ a → Lot from to list (lift_of from to list)
    read-old a (messages ms) e = stays_behind 0 (length ms) (has_messages a e refl refl) (rw (a, e) refl)
    read-old a (tree k cs) e = deep k cs a e (too_deep to.limit (tokens_of list)) refl

    first : (o : Option Refusal) → lift_refusal from to list ≡ o → Lot from to list (lift_of from to list)
    first (some r) e = stays_behind r.number r.place (refused_list e) (rw e refl)
    first none e = read-old e (own_reading from.version list) refl

-- ---- What is written

-- What is written of the tree k over cs: a list as tokens, of at most 4,096.
record Writes (k : Token) (cs : Forest) : Type 0 where
  plain : unplain_at k cs ≡ none
  legal : LegalTokens (written_tree k cs)
  ends : AtEnds (written_tree k cs)
  few : length (written_tree k cs) ≤ most_tokens

-- What a limit lets be written.
pub record Written (limit : ℕ) (k : Token) (cs : Forest) : Type 0 where
  pub plain : unplain_at k cs ≡ none
  pub few : length (written_tree k cs) ≤ most_tokens
  pub within : too_deep limit (written_tree k cs) ≡ none

pub writable : (limit : ℕ) (k : Token) (cs : Forest) → unwritable limit k cs ≡ none → Written limit k cs
unfolding unwritable
writable limit k cs h =
    let plain = first-none _ _ h in
    let few = passed (leb (length (written_tree k cs)) most_tokens) (row 14 0) _ plain.1 in
    record {
      plain = with_number-none 13 (unplain_at k cs) plain.0;
      few = leb-true (length (written_tree k cs)) most_tokens few.0;
      within = with_number-none 18 (too_deep limit (written_tree k cs)) (first-none _ _ few.1).0;
    }

pub can_write : (limit : ℕ) (k : Token) (cs : Forest) → Written limit k cs → unwritable limit k cs ≡ none
unfolding unwritable
can_write limit k cs w =
    then-none _ _ (without-number 13 (unplain_at k cs) w.plain)
    (passes _ (row 14 0) _ (le-leb _ _ w.few)
    (then-none _ _ (without-number 18 (too_deep limit (written_tree k cs)) w.within) all-passed))

-- A tree that was read of a list that is not turned back.
writes : {from to : Engine} {list : List ℕ} {k : Token} {cs : Forest} → CanCome from to list k cs → unplain_at k cs ≡ none
    → length (written_tree k cs) ≤ most_tokens
    → Writes k cs
unfolding own_reading
writes {from} {to} {list} {k} {cs} can plain few =
    let e = entered from to list can.accepted in
    record {
      plain = plain;
      legal = root-legal k cs (read-legal _ _ _ _ k cs (legal-tokens e) (few-tokens e) can.reads);
      ends = plain-ends k cs plain (read-closes _ _ _ _ k cs (tokens-end list) can.reads);
      few = few;
    }

module _ {k : Token} {cs : Forest} (w : Writes k cs) where
  tokens-of : tokens_of (list_words (written_tree k cs)) ≡ written_tree k cs
  tokens-of = tokens-back (written_tree k cs) w.legal w.ends

  -- The source length of its reading.
  abbrev end_of : ℕ
  end_of = highest_end 0 (leaves (written_tree k cs))

  -- It reads back at every version.
  reads-back : (v : ℤ)
      → own_reading v (list_words (written_tree k cs))
      ≡ tree (round_trip k cs w.plain v end_of).root (round_trip k cs w.plain v end_of).children
  unfolding own_reading
  reads-back v =
      ap (λ (ks : List Token). read ks (uses ks) v (highest_end 0 (leaves ks))) tokens-of ∙ (round_trip k cs w.plain v end_of).reads

  -- No engine turns it back that can hold it.
  enters-again : (here next : Engine) → CanHold here (list_words (written_tree k cs)) → is_limit next.limit ≡ true
      → lift_refusal here next (list_words (written_tree k cs)) ≡ none
  enters-again here next h legal =
      let long = list_words-length (written_tree k cs) in
      let few = w.few in
      enters here next (list_words (written_tree k cs))
      (record {
        whole = omega arith;
        tokens = omega arith;
        old = h.legal_limit;
        new = legal;
        words = list-unrefused w.legal 0 0;
        within = h.within;
      })

  -- Lifted again, it stays or is written as it was.
  written-again : (here next : Engine) → CanHold here (list_words (written_tree k cs)) → CanHold next (list_words (written_tree k cs))
      → SameOr (list_words (written_tree k cs)) (lift_of here next (list_words (written_tree k cs)))
  unfolding lift_of after_old or_behind or_written
  written-again here next h n =
      let list = list_words (written_tree k cs) in
      let a = enters-again here next h n.legal_limit in
      let back = round_trip k cs w.plain here.version end_of in
      let can : Written next.limit back.root back.children =
      record {
        plain = back.plain_again;
        few = rw back.writes_again w.few;
        within = rw (back.writes_again, ← tokens-of) n.within;
      }
      in
      split (are_same (tree back.root back.children) (own_reading next.version list)) refl a (reads-back here.version)
      (can_write next.limit back.root back.children can) back.writes_again
    where
      split : {l : Token} {ds : Forest} (b : Bool)
          → are_same (tree l ds) (own_reading next.version (list_words (written_tree k cs))) ≡ b
          → lift_refusal here next (list_words (written_tree k cs)) ≡ none
          → own_reading here.version (list_words (written_tree k cs)) ≡ tree l ds
          → unwritable next.limit l ds ≡ none
          → written_tree l ds ≡ written_tree k cs
          → SameOr (list_words (written_tree k cs)) (lift_of here next (list_words (written_tree k cs)))
      split true e a r u s = stays (rw (a, r, n.within, e) refl)
      split {l} {ds} false e a r u s = becomes (rw (a, r, n.within, e, u) (ap (λ (ks : List Token). lifted (list_words ks)) s))

-- ---- On the way

-- What has become of a list that the first engine read as the tree k over cs, where another is reached: it is as it was and reads as that
-- tree there, or it is what was written of that tree; and the engine holds it.
data Carried (k : Token) (cs : Forest) (list : List ℕ) (here : Engine) (out : List ℕ) : Type 0 where
  as_it_was : out ≡ list → own_reading here.version list ≡ tree k cs → lift_refusal here here list ≡ none → Carried k cs list here out
  as_written : out ≡ list_words (written_tree k cs) → Writes k cs → CanHold here (list_words (written_tree k cs)) → Carried k cs list here out

-- A list that comes out is taken on by its lot.
stayed-out : (list out : List ℕ) (l : Lifted) → l ≡ same → out_of list l ≡ some out → out ≡ list
stayed-out list out l e h = unfold out_of in let g = rw (e, out_of) at h in cc

lifted-out : (list out ws : List ℕ) (l : Lifted) → l ≡ lifted ws → out_of list l ≡ some out → out ≡ ws
lifted-out list out ws l e h = unfold out_of in let g = rw (e, out_of) at h in cc

behind-out : {A : Type 0} (list out : List ℕ) (number place : ℕ) (l : Lifted) → l ≡ behind number place → out_of list l ≡ some out → A
behind-out list out number place l e h = unfold out_of in some-none (sym (rw (e, out_of) at h))

-- The engine that a list can come to does not turn it back.
held-there : {from to : Engine} {list : List ℕ} {k : Token} {cs : Forest} → CanCome from to list k cs → lift_refusal to to list ≡ none
held-there {from} {to} {list} can =
    let e = entered from to list can.accepted in
    enters to to list
    (record { whole = e.whole; tokens = e.tokens; old = e.new; new = e.new; words = e.words; within = can.within })

module _ (here next : Engine) (list out : List ℕ) where
  -- From where it was read.
  first_on : out_of list (lift_of here next list) ≡ some out → (k : Token) (cs : Forest) → own_reading here.version list ≡ tree k cs
      → Carried k cs list next out
  first_on h k cs reads = split (lot here next list)
    where
      split : Lot here next list (lift_of here next list) → Carried k cs list next out
      split (reads_same {k = l} {cs = ds} can e f) =
          as_it_was (stayed-out list out _ f h)
          (one-tree (entered here next list can.accepted) here.version next.version l ds can.reads e
          ∙ (sym can.reads ∙ reads)) (held-there can)
      split (is_written {k = l} {cs = ds} can e u f) =
          let w = writable next.limit l ds u in
          let got = can.reads in
          let root : k ≡ l = cc in
          let children : cs ≡ ds = cc in
          let written : Writes l ds = writes can w.plain w.few in
          let holds : CanHold next (list_words (written_tree l ds)) =
          record { legal_limit = (entered here next list can.accepted).new; within = rw (tokens-of written) w.within }
          in
          rw (root, children) (as_written (lifted-out list out _ _ f h) written holds)
      split (stays_behind n p r f) = behind-out list out n p _ f h

module _ {k : Token} {cs : Forest} (w : Writes k cs) (here next : Engine) (out : List ℕ) where
  -- Where it is written already.
  written_on : CanHold here (list_words (written_tree k cs))
      → out_of (list_words (written_tree k cs)) (lift_of here next (list_words (written_tree k cs))) ≡ some out
      → (out ≡ list_words (written_tree k cs)) × CanHold next (list_words (written_tree k cs))
  written_on holds h =
      let there = at (lot here next (list_words (written_tree k cs))) in
      (taken (written-again w here next holds there), there)
    where
      at : Lot here next (list_words (written_tree k cs)) (lift_of here next (list_words (written_tree k cs)))
          → CanHold next (list_words (written_tree k cs))
      at (reads_same can e f) = record { legal_limit = (entered here next _ can.accepted).new; within = can.within }
      at (is_written can e u f) = record { legal_limit = (entered here next _ can.accepted).new; within = can.within }
      at (stays_behind n p r f) = behind-out (list_words (written_tree k cs)) out n p _ f h

      taken : SameOr (list_words (written_tree k cs)) (lift_of here next (list_words (written_tree k cs)))
          → out ≡ list_words (written_tree k cs)
      taken (stays e) = stayed-out (list_words (written_tree k cs)) out _ e h
      taken (becomes e) = lifted-out (list_words (written_tree k cs)) out _ _ e h

carried_on : {k : Token} {cs : Forest} {list : List ℕ} {here : Engine} {got : List ℕ} (next : Engine) (out : List ℕ)
    → Carried k cs list here got
    → out_of got (lift_of here next got) ≡ some out
    → Carried k cs list next out
carried_on {k} {cs} {list} {here} {got} next out (as_it_was e reads a) h =
    first_on here next list out (rw e at h) k cs reads
carried_on {k} {cs} {list} {here} {got} next out (as_written e w holds) h =
    let on = written_on w here next out holds (rw e at h) in as_written on.0 w on.1

carried-all : {k : Token} {cs : Forest} {list : List ℕ} {here : Engine} {got : List ℕ} (more : List Engine) (out : List ℕ)
    → Carried k cs list here got
    → by_engines here more got ≡ some out
    → Carried k cs list (last_engine here more) out
unfolding by_engines last_engine
carried-all {got = got} [] out c h = let is : got ≡ out = cc in rw is at c
carried-all {k} {cs} {list} {here} {got} (next ∷ more) out c h =
    go (out_of got (lift_of here next got)) refl (λ ws. carried-all more out)
  where
    go : (o : Option (List ℕ)) → out_of got (lift_of here next got) ≡ o
        → ((ws : List ℕ) → Carried k cs list next ws → by_engines next more ws ≡ some out → Carried k cs list (last_engine next more) out)
        → Carried k cs list (last_engine next more) out
    go none e onward = some-none (sym (rw (e, by_engines) at h))
    go (some ws) e onward = onward ws (carried_on next ws c e) (rw (e, by_engines) at h)

-- The tree that a list that comes out is read as.
record ReadAs (here next : Engine) (list : List ℕ) : Type 0 where
  root : Token
  children : Forest
  can : CanCome here next list root children

read_as : (here next : Engine) (list out : List ℕ) → out_of list (lift_of here next list) ≡ some out → ReadAs here next list
read_as here next list out h = split (lot here next list)
  where
    split : Lot here next list (lift_of here next list) → ReadAs here next list
    split (reads_same can e f) = record { root = _; children = _; can = can }
    split (is_written can e u f) = record { root = _; children = _; can = can }
    split (stays_behind n p r f) = behind-out list out n p _ f h

-- What was carried reads as the tree that it was.
alike : {from here : Engine} {list out : List ℕ} {k : Token} {cs : Forest} → own_reading from.version list ≡ tree k cs
    → Carried k cs list here out
    → ReadsAlike from here list out
alike {k = k} {cs = cs} reads (as_it_was e again a) =
    rw e
    (record {
      root = k;
      children = cs;
      reads = reads;
      accepted = a;
      root_again = k;
      children_again = cs;
      reads_again = again;
      words = refl;
      all_words = λ h. refl;
    })
alike {here = here} {k = k} {cs = cs} reads (as_written e w holds) =
    let back = round_trip k cs w.plain here.version (end_of w) in
    rw e
    (record {
      root = k;
      children = cs;
      reads = reads;
      accepted = enters-again w here here holds holds.legal_limit;
      root_again = back.root;
      children_again = back.children;
      reads_again = reads-back w here.version;
      words = ap tree_words back.agrees;
      all_words = λ h. ap tree_words (back.agrees_in_all h);
    })

-- ---- WHAT COMES OUT READS AT THE NEW ENGINE AS IT DID AT THE OLD

pub lift-reads : (from to : Engine) (list out : List ℕ) → out_of list (lift_of from to list) ≡ some out → ReadsAlike from to list out
lift-reads from to list out h =
    let t = read_as from to list out h in
    alike t.can.reads (first_on from to list out h t.root t.children t.can.reads)

-- NO EXCUSE: a list that the old engine reads as a tree, and that is within the new limit, stays if the new engine reads the same tree, and
-- comes out if its tree is plain and what is written of it has at most 4,096 tokens, within the new limit.
pub comes-same : (from to : Engine) (list : List ℕ) (k : Token) (cs : Forest) → CanCome from to list k cs
    → own_reading to.version list ≡ tree k cs
    → lift_of from to list ≡ same
unfolding lift_of after_old or_behind or_written are_same
comes-same from to list k cs can again = rw (can.accepted, can.reads, can.within, again, words-equal (tree_words (node k cs nil))) refl

pub comes-out : (from to : Engine) (list : List ℕ) (k : Token) (cs : Forest) → CanCome from to list k cs → unplain_at k cs ≡ none
    → length (written_tree k cs) ≤ most_tokens
    → too_deep to.limit (written_tree k cs) ≡ none
    → SameOr (list_words (written_tree k cs)) (lift_of from to list)
unfolding lift_of after_old or_behind or_written
comes-out from to list k cs can plain few within =
    either (are_same (tree k cs) (own_reading to.version list))
    (λ e. stays (rw (can.accepted, can.reads, can.within, e) refl))
    (λ e. becomes (rw (
      can.accepted,
      can.reads,
      can.within,
      e,
      can_write to.limit k cs
          (record { plain = plain; few = few; within = within }),
    ) refl))

-- ---- LIFTED AGAIN

-- What was written stays so, at every two engines that can hold it, whatever their versions.
pub lifted-again : (from to : Engine) (list out : List ℕ) → lift_of from to list ≡ lifted out → (here next : Engine) → CanHold here out
    → CanHold next out
    → SameOr out (lift_of here next out)
unfolding out_of
lifted-again from to list out h here next a b = split (lot from to list)
  where
    split : Lot from to list (lift_of from to list) → SameOr out (lift_of here next out)
    split (reads_same can e f) = let z : ◌≡◌ {A = ℕ} 0 1 = cc in absurd (omega arith)
    split (is_written {k = k} {cs = cs} can e u f) =
        let is : out ≡ list_words (written_tree k cs) = cc in
        let w = writable to.limit k cs u in
        rw is (written-again (writes can w.plain w.few) here next (rw is at a) (rw is at b))
    split (stays_behind n p r f) = let z : ◌≡◌ {A = ℕ} 0 1 = cc in absurd (omega arith)

-- What stayed as it was is lifted on as from where it came.
pub stays_on : (from to : Engine) (list : List ℕ) → lift_of from to list ≡ same → (next : Engine)
    → lift_of to next list ≡ lift_of from next list
unfolding lift_of lift_refusal
stays_on from to list h next = split (lot from to list)
  where
    split : Lot from to list (lift_of from to list) → lift_of to next list ≡ lift_of from next list
    split (reads_same {k = k} {cs = cs} can e f) =
        let enters = entered from to list can.accepted in
        let again = one-tree enters from.version to.version k cs can.reads e ∙ sym can.reads in
        rw (again, enters.old, enters.new, enters.within, can.within) refl
    split (is_written can e u f) = let z : ◌≡◌ {A = ℕ} 0 1 = cc in absurd (omega arith)
    split (stays_behind n p r f) = let z : ◌≡◌ {A = ℕ} 0 1 = cc in absurd (omega arith)

-- BY WAY OF ANY NUMBER of engines what comes out reads at the last as the list did at the first.
pub any-engines : (from next : Engine) (more : List Engine) (list out : List ℕ) → by_engines from (next ∷ more) list ≡ some out
    → ReadsAlike from (last_engine next more) list out
unfolding by_engines
any-engines from next more list out h = go (out_of list (lift_of from next list)) refl
  where
    go : (o : Option (List ℕ)) → out_of list (lift_of from next list) ≡ o → ReadsAlike from (last_engine next more) list out
    go none e = some-none (sym (rw (e, by_engines) at h))
    go (some ws) e =
        let t = read_as from next list ws e in
        let reads = t.can.reads in
        alike reads (carried-all more out (first_on from next list ws e t.root t.children reads) (rw (e, by_engines) at h))

-- A list that enters by way of one engine enters straight to another with a legal limit.
straight-in : {from next : Engine} {list : List ℕ} → Entered from next list → (last : Engine) → is_limit last.limit ≡ true
    → lift_refusal from last list ≡ none
straight-in {from} {next} {list} e last legal =
    enters from last list
    (record { whole = e.whole; tokens = e.tokens; old = e.old; new = legal; words = e.words; within = e.within })

-- From the first engine straight to one where a list was carried.
straight-from : (from last : Engine) (list out : List ℕ) {next : Engine} {k : Token} {cs : Forest} → Entered from next list
    → too_deep last.limit (tokens_of list) ≡ none
    → own_reading from.version list ≡ tree k cs
    → Carried k cs list last out
    → SameOr out (lift_of from last list)
straight-from from last list out {k = k} {cs = cs} first within reads (as_it_was e again a) =
    stays
    (comes-same from last list k cs
    (record { accepted = straight-in first last (entered last last list a).new; reads = reads; within = within }) again)
straight-from from last list out {k = k} {cs = cs} first within reads (as_written e w holds) =
    rw e
    (comes-out from last list k cs
    (record { accepted = straight-in first last holds.legal_limit; reads = reads; within = within }) w.plain w.few
    (rw (tokens-of w) at holds.within))

-- And it is what going straight gives, or going straight leaves the list, which the last engine then reads as the first does; if the list
-- as it is is within the last limit.
pub going-straight : (from next : Engine) (more : List Engine) (list out : List ℕ) → by_engines from (next ∷ more) list ≡ some out
    → too_deep (last_engine next more).limit (tokens_of list) ≡ none
    → SameOr out (lift_of from (last_engine next more) list)
unfolding by_engines
going-straight from next more list out h within = go (out_of list (lift_of from next list)) refl
  where
    go : (o : Option (List ℕ)) → out_of list (lift_of from next list) ≡ o → SameOr out (lift_of from (last_engine next more) list)
    go none e = some-none (sym (rw (e, by_engines) at h))
    go (some ws) e =
        let t = read_as from next list ws e in
        let reads = t.can.reads in
        let first = entered from next list t.can.accepted in
        straight-from from (last_engine next more) list out first within reads
        (carried-all more out (first_on from next list ws e t.root t.children reads) (rw (e, by_engines) at h))

-- ---- BEHIND FOR THE REASON TOLD

pub behind-for : (from to : Engine) (list : List ℕ) (number place : ℕ) → lift_of from to list ≡ behind number place
    → Reason from to list number place
behind-for from to list number place h = split (lot from to list)
  where
    split : Lot from to list (lift_of from to list) → Reason from to list number place
    split (reads_same can e f) = let z : ◌≡◌ {A = ℕ} 0 1 = cc in absurd (omega arith)
    split (is_written can e u f) = let z : ◌≡◌ {A = ℕ} 0 1 = cc in absurd (omega arith)
    split (stays_behind n p r f) =
        let number_is : n ≡ number = cc in
        let place_is : p ≡ place = cc in
        rw (number_is, place_is) at r

pub reason-behind : (from to : Engine) (list : List ℕ) (number place : ℕ) → Reason from to list number place
    → lift_of from to list ≡ behind number place
unfolding lift_of after_old or_behind or_written
reason-behind from to list number place (refused_list a) = rw a refl
reason-behind from to list number place (has_messages a r n p) = rw (a, r, n, p) refl
reason-behind from to list number place (too_deep_as_it_is a r d n) = rw (a, r, d, n) refl
reason-behind from to list number place (not_written a r d s u) = rw (a, r, d, s, u) refl
