-- The list with an edit made: how long it is, that three copies lay it, and where the entry turns it back by its length alone. Assumes
-- nothing.
use Prim.Native.Nat.{ℕ, ◌+◌, ◌*◌, ◌-◌, ◌/◌, ◌%◌, ◌≤◌, ◌<◌}
use mathlib.Core.{Path.{◌≡◌, refl, ap, sym, ◌∙◌}, List.{List, ◌++◌, append_assoc}, Option.{some}}
use native.Mathlib.Omega.{arith}
use lib.{IntN.{ℤ}, ListN.{length, take, drop, length-append, length-drop}, Seq.{length-take-le, take_all}}
use borrow.Author.Tests.{eq-eqb, ne_eqb, lt-leb}
use Rattle.molang.specs.{FirstFailure.{must, first_of}, Words.{row}}
use Rattle.molang.specs.Parse.{Call, in_front, length_rows, refusal, told, answered, tree_in, tree_after, messages_in, messages_after, work_in}
use Rattle.molang.specs.Parse.{work_after}
use Rattle.words.{specs.Records.{laid_at}, proofs.RecordLaws.{laid-front, laid-laid}}
use Rattle.parse.specs.{Answers.{HasParsed}}
use Rattle.std.specs.Prelude.{Result, Ok, Err, OnOk}
use Rattle.words.specs.{Refusals.{reason_number}, declared.refusals.Reason.{Reason}}
use Rattle.words.specs.declared.refusals.Reason.TheVariants.{ListNotWhole, TooManyTokens}
use Rattle.own.specs.Own.{named_call, own_call}
use Rattle.held.specs.{Held.{Edit, edited}, Editing.{CanSplice, CanEdit}}

-- Three rows of words, laid one behind the other in front of a buffer.
laid-three : (xs ys zs buffer : List ℕ) (second third : ℕ) → second ≡ length xs → third ≡ second + length ys
    → laid_at third zs (laid_at second ys (laid_at 0 xs buffer)) ≡ in_front (xs ++ (ys ++ zs)) buffer
laid-three xs ys zs buffer second third p q =
    let one : second ≡ 0 + length xs = omega arith in
    let two : third ≡ 0 + length (xs ++ ys) = omega (arith, length-append xs ys) in
    (λ i. laid_at (two i) zs (laid_at (one i) ys (laid_at 0 xs buffer)))
    ∙ (ap (laid_at (0 + length (xs ++ ys)) zs) (laid-laid 0 xs ys buffer (omega arith))
    ∙ (laid-laid 0 (xs ++ ys) zs buffer (omega arith)
    ∙ (ap (λ (l : List ℕ). laid_at 0 l buffer) (append_assoc xs ys zs) ∙ laid-front (xs ++ (ys ++ zs)) buffer)))

-- An edit within a list.
module _ (e : Edit) (list : List ℕ) (within : 5 * (e.place + e.removed) ≤ length list) where
  front_long : length (take (5 * e.place) list) ≡ 5 * e.place
  front_long = length-take-le (5 * e.place) list (omega arith)

  pub edited-length : length (edited e list) ≡ 5 * e.place + length e.put + (length list - 5 * (e.place + e.removed))
  unfolding edited
  edited-length =
      let front = take (5 * e.place) list in
      let back = drop (5 * (e.place + e.removed)) list in
      omega (
        arith,
        length-append front (e.put ++ back),
        length-append e.put back,
        front_long,
        length-drop (5 * (e.place + e.removed)) list,
      )

  -- Three copies, of what stands before the place, of what is put in, and of what stands behind what is removed.
  pub edited-laid : (new : List ℕ) {one two three : List ℕ} → one ≡ laid_at 0 (take (5 * e.place) list) new
      → two ≡ laid_at (5 * e.place) e.put one
      → three
      ≡ laid_at (5 * e.place + length e.put)
      (take (length list - 5 * (e.place + e.removed)) (drop (5 * (e.place + e.removed)) list)) two
      → three ≡ in_front (edited e list) new
  unfolding edited
  edited-laid new {one} {two} p q r =
      let front = 5 * e.place in
      let back = 5 * (e.place + e.removed) in
      let rest : take (length list - back) (drop back list) ≡ drop back list =
      take_all (length list - back) (drop back list) (omega (arith, length-drop back list))
      in
      r
      ∙ ((λ i. laid_at (front + length e.put) (rest i) ((q ∙ ap (laid_at front e.put) p) i))
      ∙ laid-three (take front list) e.put (drop back list) new front (front + length e.put) (sym front_long) refl)

-- Its tokens are those of the list but for the removed ones, and those put in.
pub edited-tokens : (e : Edit) (list : List ℕ) → 5 * (e.place + e.removed) ≤ length list → length list % 5 ≡ 0
    → length (edited e list) / 5 ≡ length list / 5 - e.removed + length e.put / 5
edited-tokens e list within whole = omega (arith, edited-length e list within)

-- It has whole tokens where as many are put in.
pub edited-whole : (e : Edit) (list : List ℕ) → 5 * (e.place + e.removed) ≤ length list → length list % 5 ≡ 0
    → length (edited e list) % 5 ≡ length e.put % 5
edited-whole e list within whole = omega (arith, edited-length e list within)

-- ---- The entry's first two rows

row-1 : (c : Call) → (length c.list % 5 ≡ 0 → ⊥) → refusal c ≡ some (row 1 0)
row-1 c h = unfold refusal length_rows must first_of in rw (ne_eqb (length c.list % 5) 0 h) refl

row-2 : (c : Call) → length c.list % 5 ≡ 0 → 4096 < length c.list / 5 → refusal c ≡ some (row 2 0)
row-2 c h k = unfold refusal length_rows must first_of in rw (eq-eqb (length c.list % 5) 0 h, lt-leb (length c.list / 5) 4096 k) refl

-- A call that is turned back leaves all as it was.
pub turned-back : (c : Call) (reason : Reason) (place : ℕ) → refusal c ≡ some (row (reason_number reason) place)
    → HasParsed c (Err (record { reason = reason; place = place })) c.tree c.messages c.work
unfolding answered told tree_after tree_in messages_after messages_in work_after work_in
turned-back c reason place e = record { told = rw e refl; tree = rw e refl; messages = rw e refl; work = rw e refl }

-- An edit of a list of whole tokens, and the call that reads the list with the edit made.
module _ (e : Edit) (new list : List ℕ) (can : CanEdit new list e) where
  abbrev kept : ℕ
  kept = length list / 5 - e.removed

  pub can-splice : length e.put % 5 ≡ 0 → length e.put / 5 ≤ 4096 - kept → CanSplice new list e
  can-splice h k =
      record {
        within = can.within;
        room = omega (
          arith,
          edited-whole e list can.within can.whole,
          edited-tokens e list can.within can.whole,
          can.few,
          can.room,
        );
      }

  module _ (tree messages work : List ℕ) (version : ℤ) (limit : ℕ) where
    abbrev called : Call
    called = own_call (edited e list) tree messages work version limit

    pub not-whole : (length e.put % 5 ≡ 0 → ⊥) → HasParsed called (Err (record { reason = ListNotWhole; place = 0 })) tree messages work
    unfolding own_call named_call
    not-whole h = turned-back called ListNotWhole 0 (row-1 called (λ w. h (sym (edited-whole e list can.within can.whole) ∙ w)))

    pub too_many : length e.put % 5 ≡ 0 → 4096 - kept < length e.put / 5 → HasParsed called (Err (record { reason = TooManyTokens; place = 0 })) tree messages work
    unfolding own_call named_call
    too_many h k =
        let tokens = edited-tokens e list can.within can.whole in
        turned-back called TooManyTokens 0 (row-2 called (edited-whole e list can.within can.whole ∙ h) (omega (arith, tokens)))

-- What holds anyway holds of an `Ok`.
pub always : {T E P : Type 0} (r : Result T E) → P → OnOk r P
always (Ok x) p = p
always (Err e) p = tt
