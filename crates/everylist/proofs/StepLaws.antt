-- What a step lays, by the case: the refusal's line, the text of a list, or nothing.
use Prim.Native.Nat.{ℕ, ◌/◌, ◌≤◌}
use mathlib.Core.{Path.{◌≡◌, refl, ap, sym, subst}, Bool.{Bool, true}, List.{List, []}, Option.{Option, none, some}}
use native.Mathlib.Omega.{arith}
use lib.{IntN.{ℤ}, ListN.{length, take, drop, get_or, replicate}}
use borrow.Author.Tests.{eq-eqb, ne_eqb, lt-ltb, le-ltb, le-leb}
use Rattle.molang.specs.{FirstFailure.{must, first_of}, Lines.{version_of}, Parse.{refused}, Words.{row}}
use Rattle.text.proofs.TextLaws.{wrote-front}
use Rattle.listing.specs.Rows.{answer_text}
use Rattle.shortlists.{specs.ShortLists.{up_to, count_refusal}, proofs.AlphabetLaws.{alphabet}, proofs.ShortLists.{only}}
use Rattle.shortlists.specs.Answers as Answers
use Rattle.everylist.specs.EveryList.{refusal_line}
use Rattle.everylist.specs.Steps.{Kept, kept, kept_words, kept_lists, kept_fault, text_by, text_at, Stepped, words_text}
use Rattle.std.proofs.Common.{None, Some}
use Rattle.std.specs.declared.option.Option as code
use Rattle.everylist.proofs.{KeptLaws.{Unturned}, ListLaws.{past-last, at_position, all-legal, words-text}}

-- A step by an equal text; and one that lays a text, which has room, at a position that has one.
pub stepped : {o p : Option (List ℕ)} (a b : List ℕ) (r : code.Option ℕ) → o ≡ p → Stepped p a r b → Stepped o a r b
stepped a b r e s = subst (λ (o : Option (List ℕ)). Stepped o a r b) (sym e) s

pub stepped-room : (o : Option (List ℕ)) (a b : List ℕ) (r : code.Option ℕ) (n : ℕ) → r ≡ Some n → Stepped o a r b
    → (n ≤ length b) × (o ≡ none → ⊥)
stepped-room o a b r n e s = by o (subst (λ (r : code.Option ℕ). Stepped o a r b) e s)
  where
    by : (o : Option (List ℕ)) → Stepped o a (Some n) b → (n ≤ length b) × (o ≡ none → ⊥)
    by (some text) s = (s.0, λ e. absurd (let z : ◌≡◌ {A = ℕ} 0 1 = cc in omega arith))
    by none s = absurd s

-- What was laid is the text, and where nothing was there is none.
pub stepped-text : (o : Option (List ℕ)) (a b : List ℕ) (r : code.Option ℕ) (n : ℕ) → r ≡ Some n → Stepped o a r b → o ≡ some (take n b)
stepped-text o a b r n e s = by o (subst (λ (r : code.Option ℕ). Stepped o a r b) e s)
  where
    by : (o : Option (List ℕ)) → Stepped o a (Some n) b → o ≡ some (take n b)
    by (some text) s = ap some (sym (wrote-front s.1))
    by none s = absurd s

pub stepped-done : (o : Option (List ℕ)) (a b : List ℕ) (r : code.Option ℕ) → r ≡ None → Stepped o a r b → o ≡ none
stepped-done o a b r e s = by o (subst (λ (r : code.Option ℕ). Stepped o a r b) e s)
  where
    by : (o : Option (List ℕ)) → Stepped o a None b → o ≡ none
    by (some text) s = absurd s
    by none s = refl

-- THE REFUSAL'S LINE. What the answer's buffers hold does not matter.
pub refused-first : (number position : ℕ) (k : Kept) (tree messages : List ℕ) → position ≡ 0
    → text_by (some (row number 0)) k position ≡ some (answer_text (refused number 0) tree messages)
refused-first number position k tree messages first = unfold text_by refusal_line answer_text in rw (eq-eqb position 0 first, text_by) refl

pub refused-later : (number position : ℕ) (k : Kept) → (position ≡ 0 → ⊥) → text_by (some (row number 0)) k position ≡ none
refused-later number position k later = unfold text_by in rw (ne_eqb position 0 later, text_by) refl

-- THE TEXT OF A LIST, in an input that is not turned back
module _ (bytes : ℕ) (words : List ℕ) (fine : Bool) (ok : Unturned bytes words fine) (position : ℕ) where
  abbrev letters : List ℕ
  letters = drop 2 (take (bytes / 4) words)

  abbrev most : ℕ
  most = get_or words 1 0

  pub none-there : (number : ℕ) → Answers.refused number ≡ Answers.list_told letters most position
      → text_by none (kept bytes words fine) position ≡ none
  unfolding text_by kept_lists kept_words count_refusal must first_of
  none-there number e =
      let counted : count_refusal letters most ≡ none = rw (ok.alphabet, le-leb most 6 ok.short) refl in
      rw (le-ltb position (length (up_to letters most)) (past-last letters most position number counted e), text_by) refl

  pub few-tokens : (tokens : ℕ) → Answers.found tokens ≡ Answers.list_told letters most position → tokens ≤ 6
  few-tokens tokens e =
      let at = at_position letters most position tokens e in
      omega (arith, at.size, (only letters most position at.below).1, ok.short)

  pub text-there : (tokens : ℕ) (list : List ℕ) (version : ℤ) → Answers.found tokens ≡ Answers.list_told letters most position
      → list ≡ Answers.words_at letters most position
      → version ≡ version_of (get_or words 0 0)
      → text_by none (kept bytes words fine) position ≡ some (words_text version tokens list)
  unfolding text_by kept_lists kept_words
  text-there tokens list version e f v =
      let at = at_position letters most position tokens e in
      let l = get_or (up_to letters most) position [] in
      let legal = all-legal letters l (alphabet letters ok.alphabet).legal (only letters most position at.below).0 in
      let there = lt-ltb position (length (up_to letters most)) at.below in
      rw (there, text_by, at.size, f, at.words, words-text version l (replicate 30 0) legal, v) refl

-- THE STEP, by where the input is turned back
pub back_step : (k : Kept) (number position : ℕ) → some (row number 0) ≡ kept_fault k
    → text_at k position ≡ text_by (some (row number 0)) (kept 0 [] true) position
back_step k number position e = unfold text_at text_by in rw (← e) refl

pub on_step : (k : Kept) (position : ℕ) → none ≡ kept_fault k → text_at k position ≡ text_by none k position
on_step k position e = unfold text_at in rw (← e) refl
