-- The entry of the lift: where it is turned back, that this changes nothing, and that what it tells of every other call is the definition's
-- lift. Assumes nothing.
use Prim.Native.Nat.{ℕ, ◌/◌, ◌%◌, ◌≤◌, ◌<◌, min}
use mathlib.Core.{Path.{◌≡◌, refl, sym, ap, ◌∙◌, subst}, List.{List, [], ◌∷◌}, Option.{Option, none, some}}
use native.Mathlib.Omega.{arith}
use lib.{Dec.{eqb, leb}, ListN.{length}}
use borrow.Author.Tests.{eq-eqb, le-leb, lt-leb}
use Rattle.molang.specs.{FirstFailure.{must, first_of}, Nesting.{too_deep}, Parse.{most_tokens, is_limit, answered, told, refusal}}
use Rattle.molang.specs.Parse.{tree_after, tree_in, messages_after, messages_in, work_after, work_in}
use Rattle.molang.specs.{Words.{Refusal, row, with_number, operator_field, words_refusal, tokens_of}, Lift.{behind, lift_refusal, lift_of}}
use Rattle.molang.proofs.{FirstFailure.{All, first-none, last_one}, Refusals.{Within, refusal-within}}
use Rattle.accept.{specs.declared.Sizes.{Sizes}, specs.Accepting.{is_read, is_refused, verdict, call_of, length_refusal, value_refusal, nesting_refusal}}
use Rattle.accept.proofs.AcceptLaws.{table}
use Rattle.own.specs.Own.{named_call, own_call}
use Rattle.lift.specs.Lifting.{LiftCall, Handed, room_refusal, first_limit, LiftTold, stays_same, comes_out, has_messages, stays_behind}
use Rattle.lift.specs.Lifting.{LiftLeft, unread, handed, first_call, after_first, by_room, lift_left, tree_by, tree_left}
use Rattle.lift.specs.{Lifting.{stopped}, declared.Outcome.{Outcome}}
use Rattle.std.specs.Prelude.{Result}
use Rattle.words.specs.declared.refusals.Refusal.{Refusal as Refused}
use Rattle.lift.proofs.{CallLaws.{told-within}, Within.{IsLiftWithin, by_lengths, by_output, list_stays, list_comes, list_told, list_behind}}
use Rattle.lift.specs.Answers.{lift_told, HasLifted}
use Rattle.lift.specs.Entry.{LotTold, lot_of, or_turned, turned_back, entry_refusal, entry_told, entry_left, lot_lift, turned_by, CanTell}
use Rattle.lift.specs.Entry.{left_behind, left_unwritten, kept_or, behind_as, HasEntered}
use Rattle.lift.proofs.Lifted.{limit-rows, after-rows, rooms, first-refusal}

-- ---- Where it is turned back

-- The rows but the last, in which the output has no part.
abbrev pub turned_row : LiftCall → Option Refusal
turned_row c = first_of (room_refusal c ∷ lift_refusal c.from c.to c.list ∷ [])

-- The lengths that the checks are given, the shorter tree buffer's as it was found.
abbrev pub sizes_by : LiftCall → ℕ → Sizes
sizes_by c shorter = record { tree = shorter; messages = length c.messages; work = length c.work; source = 0 }

abbrev pub shorter_of : LiftCall → ℕ
shorter_of c = min (length c.tree) (length c.again)

-- Rows after a first one.
later_rows : (o v w d l : Option Refusal) → (o ≡ none → first_of (v ∷ w ∷ d ∷ []) ≡ l) → first_of (o ∷ v ∷ w ∷ d ∷ []) ≡ first_of (o ∷ l ∷ [])
unfolding first_of
later_rows none v w d l h = h refl ∙ sym (last_one l)
later_rows (some r) v w d l h = refl

-- Of a set without operators and no source only the limit is left.
only-limit : (limit : ℕ) → value_refusal 0 (record { low = 0; high = 0 }) limit ≡ must (is_limit limit) (row 17 0)
unfolding value_refusal must first_of
only-limit limit = last_one (must (is_limit limit) (row 17 0))

-- The rows of a list that has room are the lift's.
list-rows : (c : LiftCall) → room_refusal c ≡ none
    → let limit = first_limit c.from.limit c.to.limit in
    first_of
    (value_refusal 0 (record { low = 0; high = 0 }) limit
    ∷ words_refusal 0 operator_field 0 c.list
    ∷ nesting_refusal limit c.list
    ∷ [])
    ≡ lift_refusal c.from c.to c.list
unfolding lift_refusal
list-rows c free =
    let ok = (rooms c free).0 in
    let limit = first_limit c.from.limit c.to.limit in
    let words = words_refusal 0 operator_field 0 c.list in
    ap (λ (v : Option Refusal). first_of (v ∷ words ∷ nesting_refusal limit c.list ∷ [])) (only-limit limit)
    ∙ limit-rows c.from.limit c.to.limit words (tokens_of c.list)
    ∙ sym
    (after-rows (eqb (length c.list % 5) 0) (leb (length c.list / 5) most_tokens) _ (eq-eqb _ _ ok.whole)
    (le-leb _ _ ok.tokens))

-- The check by lengths and limits finds those rows.
pub turned-is : (c : LiftCall) (n : ℕ) → n ≡ shorter_of c → turned_by c.list (sizes_by c n) c.from.limit c.to.limit ≡ turned_row c
unfolding room_refusal
turned-is c n e =
    ap (λ (m : ℕ). turned_by c.list (sizes_by c m) c.from.limit c.to.limit) e
    ∙ (table c.list (sizes_by c (shorter_of c)) (record { low = 0; high = 0 }) (first_limit c.from.limit c.to.limit)
    ∙ later_rows (length_refusal c.list (sizes_by c (shorter_of c))) _ _ _ _ (list-rows c))

-- Their numbers are at most 18, and their places are within a list.
pub turned-within : (c : LiftCall) → All (Within 18 20480) (turned_row c)
turned-within c =
    subst (All (Within 18 20480)) (turned-is c (shorter_of c) refl)
    (refusal-within
    (call_of c.list (sizes_by c (shorter_of c)) (record { low = 0; high = 0 }) (first_limit c.from.limit c.to.limit)))

-- A first reading that is turned back leaves each buffer.
first-kept : (c : LiftCall) (r : Refusal) → refusal (first_call c) ≡ some r → (handed c ≡ unread c) × (tree_after (first_call c) ≡ c.tree)
unfolding handed unread tree_after tree_in messages_after messages_in work_after work_in first_call own_call named_call
first-kept c r e = (rw e refl, rw e refl)

-- A CALL THAT IS TURNED BACK IS LEFT AS IT WAS.
pub turned_left : (c : LiftCall) (r : Refusal) → turned_row c ≡ some r
    → (lift_left c ≡ stopped (unread c) (stays_behind r.number r.place)) × (tree_left c ≡ c.tree)
unfolding lift_left tree_left by_room tree_by after_first answered told first_of
turned_left c r e = by (room_refusal c) refl e
  where
    by : (o : Option Refusal) → room_refusal c ≡ o → first_of (o ∷ lift_refusal c.from c.to c.list ∷ []) ≡ some r
        → (lift_left c ≡ stopped (unread c) (stays_behind r.number r.place)) × (tree_left c ≡ c.tree)
    by (some s) f g = let is : s ≡ r = cc in (rw (f, is) refl, rw f refl)
    by none f g =
        let first = first-refusal c f ∙ (sym (last_one (lift_refusal c.from c.to c.list)) ∙ g) in
        let kept = first-kept c r first in
        (rw (f, first) (ap (λ (h : Handed). stopped h (stays_behind r.number r.place)) kept.0), rw f kept.1)

tell-any : (o : Option Refusal) (t : LiftTold) → o ≡ none → CanTell o t
tell-any o (stays_same nodes) e = e
tell-any o (comes_out tokens) e = e
tell-any o (has_messages records) e = e
tell-any o (stays_behind number place) e = tt

-- Only a list that stays behind can have been turned back.
row-tells : (c : LiftCall) → CanTell (turned_row c) (lift_left c).told
row-tells c = by (turned_row c) refl
  where
    by : (o : Option Refusal) → turned_row c ≡ o → CanTell (turned_row c) (lift_left c).told
    by none e = tell-any (turned_row c) (lift_left c).told e
    by (some r) e =
        subst (λ (l : LiftLeft). CanTell (turned_row c) l.told) (sym (turned_left c r e).0) (unfold stopped in tt)

pub can-tell : (c : LiftCall) {r : Result Outcome Refused} {tree again messages work output : List ℕ} → HasLifted c r tree again messages work output
    → (n : ℕ) → n ≡ shorter_of c
    → CanTell (turned_by c.list (sizes_by c n) c.from.limit c.to.limit) (lift_told r)
can-tell c {r} h n e =
    subst (λ (o : Option Refusal). CanTell o (lift_told r)) (sym (turned-is c n e))
    (subst (λ (l : LiftLeft). CanTell (turned_row c) l.told) (sym h.left) (row-tells c))

-- ---- What is told

-- A list that stays behind does so for the same reason in both ways.
behind-lift : (deep : Option ℕ) (number place : ℕ) (output : List ℕ)
    → behind number place ≡ lot_lift (lot_of deep (stays_behind number place)) output
unfolding lot_lift
behind-lift none number place output = refl
behind-lift (some token) number place output = refl

-- THE DEFINITION'S LIFT is told, where the output has room for all that can be written.
pub told-lift : (c : LiftCall) → room_refusal c ≡ none → 20480 ≤ length c.output → (deep : Option ℕ) (t : LiftTold) (output : List ℕ)
    → IsLiftWithin c t output
    → lift_of c.from c.to c.list ≡ lot_lift (lot_of deep t) output
unfolding lot_lift
told-lift c free room deep t output (by_lengths e f) = let z : ◌≡◌ {A = ℕ} 0 1 = cc in absurd (omega arith)
told-lift c free room deep t output (by_output reads plain few short f) = absurd (omega (arith, few, short, room))
told-lift c free room deep t output (list_stays e f) = rw f e
told-lift c free room deep t output (list_comes e within f) = rw f e
told-lift c free room deep t output (list_told e f) = rw f e
told-lift c free room deep t output (list_behind {number} {place} e f) = rw f (e ∙ behind-lift deep number place output)

-- ---- THE PROMISE

-- The last row is looked at where no other turns the call back.
abbrev pub or_last : Option Refusal → Option Refusal → Option Refusal
or_last (some r) d = some r
or_last none d = d

pub last_row : (a b d : Option Refusal) → first_of (a ∷ b ∷ d ∷ []) ≡ or_last (first_of (a ∷ b ∷ [])) d
unfolding first_of
last_row (some r) b d = refl
last_row none (some r) d = refl
last_row none none d = last_one d

entry-short : (c : LiftCall) → length c.output < 20480 → entry_refusal c ≡ or_last (turned_row c) (some (row 15 0))
unfolding entry_refusal must
entry-short c short = rw (lt-leb 20480 (length c.output) short) (last_row _ _ (some (row 15 0)))

entry-long : (c : LiftCall) → 20480 ≤ length c.output → entry_refusal c ≡ turned_row c
unfolding entry_refusal must
entry-long c long = rw (le-leb 20480 (length c.output) long) (last_row _ _ none ∙ as-it-is (turned_row c))
  where
    as-it-is : (o : Option Refusal) → or_last o none ≡ o
    as-it-is none = refl
    as-it-is (some r) = refl

-- A call that is not turned back has room.
pub room-free : (c : LiftCall) → entry_refusal c ≡ none → room_refusal c ≡ none
unfolding entry_refusal
room-free c e = (first-none _ _ e).0

-- A call that is turned back.
turned-entered : (c : LiftCall) (r : Refusal) → entry_refusal c ≡ some r → {says : LotTold} → says ≡ turned_back r.number r.place
    → {tree again messages work output : List ℕ} → tree ≡ c.tree → again ≡ c.again → messages ≡ c.messages → work ≡ c.work
    → output ≡ c.output
    → HasEntered c says tree again messages work output
unfolding entry_told entry_left kept_or
turned-entered c r e says tree again messages work output =
    record {
      told = rw e says;
      tree = rw e tree;
      again = rw e again;
      messages = rw e messages;
      work = rw e work;
      output = rw e output;
      lift = λ free. absurd (let z : ◌≡◌ {A = ℕ} 0 1 = cc in omega arith);
    }

-- A call whose output is too short.
pub short-entered : (c : LiftCall) → length c.output < 20480 → {n : ℕ} → n ≡ shorter_of c → {says : LotTold}
    → says ≡ or_turned (turned_by c.list (sizes_by c n) c.from.limit c.to.limit) (turned_back 15 0)
    → HasEntered c says c.tree c.again c.messages c.work c.output
short-entered c short {n} m {says} e = by (turned_row c) refl
  where
    told : says ≡ or_turned (turned_row c) (turned_back 15 0)
    told = e ∙ ap (λ (o : Option Refusal). or_turned o (turned_back 15 0)) (turned-is c n m)

    by : (o : Option Refusal) → turned_row c ≡ o → HasEntered c says c.tree c.again c.messages c.work c.output
    by none f = turned-entered c (row 15 0) (entry-short c short ∙ rw f refl) (told ∙ rw f refl) refl refl refl refl refl
    by (some r) f = turned-entered c r (entry-short c short ∙ rw f refl) (told ∙ rw f refl) refl refl refl refl refl

-- Every other call.
pub long-entered : (c : LiftCall) → 20480 ≤ length c.output → {r : Result Outcome Refused} {tree again messages work output : List ℕ}
    → HasLifted c r tree again messages work output
    → {n : ℕ} → n ≡ shorter_of c
    → {says : LotTold}
    → says ≡ or_turned (turned_by c.list (sizes_by c n) c.from.limit c.to.limit)
    (lot_of (too_deep c.to.limit (tokens_of c.list)) (lift_told r))
    → HasEntered c says tree again messages work output
unfolding entry_told entry_left kept_or stopped unread
long-entered c long {r} {tree} {again} {messages} {work} {output} h {n} m {says} e = by (turned_row c) refl
  where
    deep : Option ℕ
    deep = too_deep c.to.limit (tokens_of c.list)

    told : says ≡ or_turned (turned_row c) (lot_of deep (lift_left c).told)
    told =
        e ∙ (λ i. or_turned (turned-is c n m i) (lot_of deep (h.left i).told))

    by : (o : Option Refusal) → turned_row c ≡ o → HasEntered c says tree again messages work output
    by (some s) f =
        let kept = h.left ∙ (turned_left c s f).0 in
        turned-entered c s (entry-long c long ∙ f) (told ∙ rw f refl) (h.tree ∙ (turned_left c s f).1)
        (ap (λ (l : LiftLeft). l.again) kept) (ap (λ (l : LiftLeft). l.messages) kept) (ap (λ (l : LiftLeft). l.work) kept) (ap (λ (l : LiftLeft). l.output) kept)
    by none f =
        let free = entry-long c long ∙ f in
        let is : says ≡ lot_of deep (lift_left c).told = told ∙ rw f refl in
        record {
          told = rw free is;
          tree = rw free h.tree;
          again = rw free (ap (λ (l : LiftLeft). l.again) h.left);
          messages = rw free (ap (λ (l : LiftLeft). l.messages) h.left);
          work = rw free (ap (λ (l : LiftLeft). l.work) h.left);
          output = rw free (ap (λ (l : LiftLeft). l.output) h.left);
          lift = λ e.
              told-lift c (first-none _ _ f).0 long deep (lift_told r) output (told-within h)
              ∙ ap (λ (x : LotTold). lot_lift x output) (sym (is ∙ ap (λ (l : LiftLeft). lot_of deep l.told) (sym h.left)));
        }

-- ---- What the functions below it tell

-- By what the check of the nesting says: it passes where the list is not too deep.
pub not-deep : {m : ℕ} (n : ℕ) (deep : Option ℕ) (number place : ℕ) → is_read m ≡ verdict n (with_number 18 deep)
    → left_unwritten number place ≡ behind_as deep number place
not-deep n none number place e = refl
not-deep n (some token) number place e = let z : ◌≡◌ {A = ℕ} 0 1 = cc in absurd (omega arith)

pub too-deep : {k p : ℕ} (n : ℕ) (deep : Option ℕ) (number place : ℕ) → is_refused k p ≡ verdict n (with_number 18 deep)
    → left_behind number place ≡ behind_as deep number place
too-deep n none number place e = let z : ◌≡◌ {A = ℕ} 0 1 = cc in absurd (omega arith)
too-deep n (some token) number place e = refl

-- Of a call that is not turned back.
pub tell-free : {o : Option Refusal} → o ≡ none → {says told : LotTold} → says ≡ told → says ≡ or_turned o told
tell-free e h = rw e h
