-- The whole of a run: what comes chunk by chunk is the input behind its front, what is kept is kept of the input, and what is handed over
-- position by position is what is printed for it. Assumes nothing.
use Prim.Native.Nat.{ℕ, suc, ◌+◌, ◌-◌, ◌%◌, ◌≤◌}
use mathlib.Core.{Path.{◌≡◌, refl, ap, sym, ◌∙◌}, Bool.{Bool, true, ◌&&◌}, List.{List, ◌++◌, append_assoc, append-nil}}
use mathlib.Core.Option.{none}
use native.Mathlib.{Nat.{zero-add}, Omega.{arith}}
use lib.{ListN.{length, take, replicate, length-append, drop_of_length-le}, Seq.{take_all, take_at, drop_at, length-take-le}}
use Rattle.words.specs.Records.{laid_at}
use Rattle.listing.{specs.Lists.{words_in}, proofs.ByteLaws.{front-over-zeros}}
use Rattle.everylist.specs.{declared.read.Rest.{Rest}, EveryList.{all_numbers}, Steps.{Kept, kept, kept_of, text_at, texts_from}}
use Rattle.everylist.specs.Input.{Onward, RestRead, Came, OfInput, Handed, none_yet, one_more, Whole}
use Rattle.everylist.proofs.{NumberLaws.{fine-chunks}, Prints.{behind, text-early, kept-prints}}

-- ---- What came

-- ONE CHUNK MORE behind whole words.
pub rest-on : (space space' : List ℕ) (rest next : Rest) (last : ℕ) → RestRead space rest → rest.bytes % 4 ≡ 0 → last ≤ length space'
    → rest.bytes + last ≤ 72057594037927936
    → Onward rest (take last space') next
    → RestRead space' next
rest-on space space' rest next last q whole few room o =
    let came = q.before ++ take rest.last space in
    let chunk = take last space' in
    let long : length chunk ≡ last = length-take-le last space' few in
    let same : take next.last space' ≡ chunk = ap (λ (n : ℕ). take n space') (o.last ∙ long) in
    record {
      before = came;
      bytes = rw same (omega (arith, o.bytes, q.bytes, length-append came chunk));
      fine = rw same
          (o.fine
          ∙ ap (λ (b : Bool). b && all_numbers (words_in chunk)) q.fine
          ∙ sym (fine-chunks came chunk (omega (arith, q.bytes))));
      room = omega (arith, o.bytes);
    }

-- An input that ended within the front, and one that went on behind it.
pub short-input : (front : List ℕ) (n : ℕ) → length front ≡ 44 → n ≤ length front → Came (take n front) n true
unfolding words_in all_numbers
short-input front n size few =
    let long = length-take-le n front few in
    record {
      input = take n front;
      first = take_all 44 (take n front) (omega arith);
      size = long;
      rest = ap (λ (l : List ℕ). all_numbers (words_in l)) (drop_of_length-le (take n front) {i = 44} (omega arith));
    }

pub long-input : (front space : List ℕ) (rest : Rest) → length front ≡ 44 → RestRead space rest → Came front (44 + rest.bytes) rest.fine
long-input front space rest size q =
    let came = q.before ++ take rest.last space in
    record {
      input = front ++ came;
      first = take_at front came 44 size;
      size = omega (arith, length-append front came, q.bytes);
      rest = ap (λ (l : List ℕ). all_numbers (words_in l)) (drop_at front came 44 size) ∙ sym q.fine;
    }

-- WHAT IS KEPT of what came.
pub kept-came : (front whole words : List ℕ) (bytes : ℕ) (fine : Bool) → Came front bytes fine → whole ≡ laid_at 0 front (replicate 44 0)
    → words ≡ words_in whole
    → OfInput (kept bytes words fine)
unfolding kept_of
kept-came front whole words bytes fine q laid read =
    let input = q.input in
    let over = laid ∙ front-over-zeros 44 input front q.first in
    record {
      input = input;
      is = λ i. kept (sym q.size i) ((read ∙ ap words_in over) i) (sym q.rest i);
    }

-- ---- What was handed over

-- Up to a position.
pub record Sofar (k : Kept) (position : ℕ) : Type 0 where
  pub text : List ℕ
  pub steps : Handed k position text

module _ (k : Kept) where
  few-positions : (p : ℕ) (text : List ℕ) → Handed k p text → p ≤ 299593
  few-positions _ _ none_yet = omega arith
  few-positions _ _ (one_more {position} h t e) =
      omega (arith, text-early k position (λ n. absurd (let z : ◌≡◌ {A = ℕ} 0 1 = cc in omega arith)))

  -- They are the first texts.
  first-texts : (p : ℕ) (text : List ℕ) (n : ℕ) → Handed k p text → texts_from (p + n) k 0 ≡ text ++ texts_from n k p
  first-texts _ _ n none_yet = rw (zero-add n) refl
  first-texts _ _ n (one_more {position} {before} h t e) =
      let one : position + 1 + n ≡ position + suc n = omega arith in
      let here : texts_from (suc n) k position ≡ t ++ texts_from n k (position + 1) = unfold texts_from in rw (e, texts_from) refl in
      ap (λ (m : ℕ). texts_from m k 0) one
      ∙ first-texts position before (suc n) h
      ∙ ap (λ (l : List ℕ). before ++ l) here
      ∙ sym (append_assoc before t (texts_from n k (position + 1)))

  -- THE TEXTS UP TO A POSITION THAT HAS NONE are what is printed for the input.
  pub all-printed : (p : ℕ) (q : Sofar k p) → text_at k p ≡ none → Whole k p
  all-printed p q e =
      let text = q.text in
      let left : p + (299594 - p) ≡ 299594 = omega (arith, few-positions p text q.steps) in
      let all : texts_from 299594 k 0 ≡ text =
      ap (λ (m : ℕ). texts_from m k 0) (sym left)
      ∙ first-texts p text (299594 - p) q.steps
      ∙ ap (λ (l : List ℕ). text ++ l) (behind k (299594 - p) p e)
      ∙ append-nil text
      in
      record {
        text = text;
        steps = q.steps;
        prints = λ input is. sym all ∙ ap (λ (k' : Kept). texts_from 299594 k' 0) is ∙ kept-prints input;
      }
