-- The run over whole words against the lists that the words are cut into. The run goes from their front and the cut from their end: the
-- words before the first opener of the rest belong to the list that is open.
use Prim.Native.Nat.{ℕ, suc, ◌+◌, ◌%◌, ◌^◌, ◌≤◌, ◌<◌}
use mathlib.Core.{Path.{◌≡◌, refl, ap, sym, ◌∙◌}, Bool.{Bool, true, false}, List.{List, [], ◌∷◌, ◌++◌, append-nil}}
use mathlib.Core.Option.{Option, none, some}
use native.Mathlib.{Numerals.{add-one}, Omega.{arith}}
use lib.{Dec.{eqb, leb}, IntN.{ℤ}, ListN.{length, take, set, length-append, length-set}, Seq.{take-suc-set, append_snoc}}
use borrow.Author.Tests.{leb-true}
use Rattle.std.specs.Prelude.{Ok, Err}
use Rattle.molang.specs.{FirstFailure.{must, first_of}, Words.{Refusal, row, operator_field, words_refusal}}
use Rattle.molang.proofs.FirstFailure.{passed, after_none, behind}
use Rattle.listing.specs.Lists.{list_fault}
use Rattle.liftcount.specs.{declared.run.Stage.TheVariants.{InList}, declared.run.Counts.{Counts}}
use Rattle.liftcount.specs.Counting.{opens, cut, first_fault, refusal_line}
use Rattle.liftcount.specs.Running.{Progress, counted, open_fault, reopened, word_taken, lines_of, progress_text}
use Rattle.liftcount.proofs.{ByteLaws.{with_word}, Adding.{more-is, counted_all}}

-- Words taken one after the other.
unfoldable pub words_taken : Progress → List ℕ → Progress
words_taken p [] = p
words_taken p (w ∷ words) = words_taken (with_word p w) words

-- What is printed where the input ends.
abbrev pub text_of : Progress → List ℕ
text_of p = progress_text p.stage p.counts p.list

-- After a refusal nothing but its line is printed.
pub refused-stays : (r : Refusal) (counts : Counts) (list words : List ℕ)
    → text_of (words_taken (record { stage = Err r; counts = counts; list = list }) words) ≡ refusal_line r.number r.place
unfolding words_taken word_taken progress_text
refused-stays r counts list [] = refl
refused-stays r counts list (w ∷ words) = refused-stays r counts list words

-- The cut at an opener, and at another word.
pub cut_opened : (w : ℕ) (words : List ℕ) → opens w ≡ true
    → cut (w ∷ words) ≡ record { before = []; lists = (cut words).before ∷ (cut words).lists }
cut_opened w words e = unfold cut in rw (e, cut)

cut-kept : (w : ℕ) (words : List ℕ) → opens w ≡ false
    → cut (w ∷ words) ≡ record { before = w ∷ (cut words).before; lists = (cut words).lists }
cut-kept w words e = unfold cut in rw (e, cut)

-- There are no more lists than words: each has its opener.
few-more : (w : ℕ) (words : List ℕ) (b : Bool) → opens w ≡ b → length (cut words).lists ≤ length words
    → length (cut (w ∷ words)).lists ≤ suc (length words)
few-more w words true e h = rw (cut_opened w words e) (omega arith)
few-more w words false e h = rw (cut-kept w words e) (omega arith)

pub cut-few : (words : List ℕ) → length (cut words).lists ≤ length words
unfolding cut
cut-few [] = omega arith
cut-few (w ∷ words) = few-more w words (opens w) refl (cut-few words)

-- THE OPEN LIST has come to the words p: the buffer has them in its front where they are no more than 640.
abbrev Open : List ℕ → List ℕ → Type 0
Open p list = length p ≤ 640 → take (length p) list ≡ p

-- It is turned back as a list of these words is: where they are more than 640, their number alone decides.
rows_agree : (p list : List ℕ) → Open p list → (b : Bool) → leb (length p) 640 ≡ b
    → first_of (must b (row 2 0) ∷ words_refusal 0 operator_field 0 (take (length p) list) ∷ [])
    ≡ first_of (must b (row 2 0) ∷ words_refusal 0 operator_field 0 p ∷ [])
unfolding must first_of
rows_agree p list held true e = rw (held (leb-true (length p) 640 e))
rows_agree p list held false e = refl

open-fault : (p list : List ℕ) → Open p list → open_fault (length p) list ≡ list_fault p
unfolding open_fault list_fault
open-fault p list held =
    behind (must (eqb (length p % 5) 0) (row 1 0))
    (must (leb (length p) 640) (row 2 0) ∷ words_refusal 0 operator_field 0 (take (length p) list) ∷ [])
    (must (leb (length p) 640) (row 2 0) ∷ words_refusal 0 operator_field 0 p ∷ []) (rows_agree p list held (leb (length p) 640) refl)

-- A list that is not turned back has no more than 640 words.
not-long : (p : List ℕ) → list_fault p ≡ none → length p ≤ 640
unfolding list_fault
not-long p e =
    let first = passed (eqb (length p % 5) 0) (row 1 0) (must (leb (length p) 640) (row 2 0) ∷ words_refusal 0 operator_field 0 p ∷ []) e in
    leb-true (length p) 640 (passed (leb (length p) 640) (row 2 0) (words_refusal 0 operator_field 0 p ∷ []) first.1).0

-- A word more of it.
open_more : (p list : List ℕ) (w : ℕ) → 640 ≤ length list → Open p list → Open (p ++ (w ∷ [])) (set list (length p) w)
open_more p list w room held few =
    let longer : length (p ++ (w ∷ [])) ≡ suc (length p) = omega (arith, length-append p (w ∷ [])) in
    rw longer (take-suc-set list (length p) w (omega arith) ∙ ap (λ (l : List ℕ). l ++ (w ∷ [])) (held (omega arith)))

-- A refusal's line where there is one, else a text.
unfoldable pub line_or : Option Refusal → List ℕ → List ℕ
line_or (some r) text = refusal_line r.number r.place
line_or none text = text

module _ (from to : ℤ) where
  -- What is printed for lists, where others before them are counted.
  unfoldable pub outcome : List (List ℕ) → Counts → List ℕ
  outcome ls counts = line_or (first_fault ls) (lines_of (counted_all from to ls counts))

  outcome-refused : (l : List ℕ) (ls : List (List ℕ)) (counts : Counts) (r : Refusal) → list_fault l ≡ some r
      → outcome (l ∷ ls) counts ≡ refusal_line r.number r.place
  outcome-refused l ls counts r e = unfold outcome line_or first_fault first_of in rw e

  outcome-counted : (l : List ℕ) (ls : List (List ℕ)) (counts : Counts) → list_fault l ≡ none
      → outcome (l ∷ ls) counts ≡ outcome ls (counted from to l counts)
  outcome-counted l ls counts e = unfold outcome first_fault counted_all in rw (after_none (list_fault l) (first_fault ls) e)

  -- The progress in a list of so many words.
  abbrev inside : ℕ → Counts → List ℕ → Progress
  inside n counts list = record { stage = Ok (InList from to n); counts = counts; list = list }

  -- THE END OF THE OPEN LIST, by the end of the input or by an opener: it is turned back or counted.
  module _ (p : List ℕ) (counts : Counts) (list : List ℕ) (held : Open p list) where
    ended : (o : Option Refusal) → list_fault p ≡ o → text_of (inside (length p) counts list) ≡ outcome (p ∷ []) counts
    unfolding progress_text outcome line_or first_fault counted_all
    ended (some r) e = rw (open-fault p list held ∙ e, progress_text) (sym (outcome-refused p [] counts r e))
    ended none e = rw (open-fault p list held ∙ e, progress_text, held (not-long p e)) (sym (outcome-counted p [] counts e))

    reopens : (words : List ℕ) (ls : List (List ℕ))
        → text_of (words_taken (inside 0 (counted from to p counts) list) words) ≡ outcome ls (counted from to p counts)
        → (o : Option Refusal)
        → list_fault p ≡ o
        → text_of (words_taken (reopened from to (length p) counts list) words) ≡ outcome (p ∷ ls) counts
    unfolding reopened
    reopens words ls rest (some r) e =
        rw (open-fault p list held ∙ e, reopened)
        (refused-stays r counts list words ∙ sym (outcome-refused p ls counts r e))
    reopens words ls rest none e =
        rw (open-fault p list held ∙ e, reopened, held (not-long p e)) (rest ∙ sym (outcome-counted p ls counts e))

  -- A word in a list: an opener, and another.
  opener-taken : (n w : ℕ) (counts : Counts) (list : List ℕ) → opens w ≡ true
      → with_word (inside n counts list) w ≡ reopened from to n counts list
  opener-taken n w counts list e = unfold word_taken in rw (e, word_taken)

  other-taken : (n w : ℕ) (counts : Counts) (list : List ℕ) → opens w ≡ false → n + 1 < 2 ^ 64
      → with_word (inside n counts list) w ≡ inside (suc n) counts (set list n w)
  other-taken n w counts list e fits = unfold word_taken in rw (e, word_taken, more-is n fits, add-one n)

  -- THE OPEN LIST AND THE REST: words up to the first opener go on with the open list, and the lists cut behind it follow.
  abbrev Run-on : List ℕ → Type 0
  Run-on words =
      (p : List ℕ) (counts : Counts) (list : List ℕ) → 640 ≤ length list → length p + length words < 2 ^ 64 → Open p list
      → text_of (words_taken (inside (length p) counts list) words) ≡ outcome ((p ++ (cut words).before) ∷ (cut words).lists) counts

  word_more : (w : ℕ) (words : List ℕ) → Run-on words → (b : Bool) → opens w ≡ b → Run-on (w ∷ words)
  unfolding words_taken
  word_more w words on true e p counts list room fits held =
      rw (cut_opened w words e, append-nil p)
      (ap (λ (q : Progress). text_of (words_taken q words)) (opener-taken (length p) w counts list e)
      ∙ reopens p counts list held words ((cut words).before ∷ (cut words).lists)
      (on [] (counted from to p counts) list room (omega arith) (λ few. refl)) (list_fault p) refl)
  word_more w words on false e p counts list room fits held =
      let longer : length (p ++ (w ∷ [])) ≡ suc (length p) = omega (arith, length-append p (w ∷ [])) in
      rw (cut-kept w words e)
      (ap (λ (q : Progress). text_of (words_taken q words)) (other-taken (length p) w counts list e (omega arith))
      ∙ rw (append_snoc p w (cut words).before, longer) at
      (on (p ++ (w ∷ [])) counts (set list (length p) w) (omega (arith, length-set list (length p) w)) (omega arith)
      (open_more p list w room held)))

  pub run_on : (words : List ℕ) → Run-on words
  unfolding words_taken cut
  run_on [] = λ p counts list room fits held. rw (append-nil p) (ended p counts list held (list_fault p) refl)
  run_on (w ∷ words) = word_more w words (run_on words) (opens w) refl
