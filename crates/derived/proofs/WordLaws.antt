-- The words of a list token by token: which of the five count, what a legal list's exact set and highest end are, and their bounds.
-- Assumes nothing.
use mathlib.Core.{Path.{◌≡◌, refl, sym, ap, ◌∙◌}, Bool.{Bool, true, false, ◌||◌, ◌&&◌, false≢true}, List.{List, [], ◌∷◌}, Option.{Option, none, some}}
use Prim.Native.Nat.{ℕ, suc, ◌+◌, ◌*◌, ◌%◌, ◌^◌, ◌<◌, ◌≤◌, max}
use native.Mathlib.Omega.{arith}
use lib.{Dec.{eqb, leb}, ListN.{length, drop, get_or, drop_of_length-le}, Seq.{drop-cons, drop-drop}}
use borrow.Author.Tests.{ne_eqb, lt-leb, leb-true, leb-false}
use Rattle.std.specs.Prelude.{⊤, Result, Ok, Err, is_err}
use Rattle.molang.specs.{Forest.{leaves}, Parse.{in_halves}, Read.{uses, highest_end}}
use Rattle.molang.specs.Words.{Field, operator_field, start_field, end_field, upper_field, lower_field, count_field, close_field, low_of, number_in}
use Rattle.molang.specs.Words.{low_fault, word_fault, variant_after, next_in_token, words_refusal, token_of, tokens_of}
use Rattle.molang.proofs.{Booleans.{either}, Words.{next_word}, UsedSet.{used-few}}
use Rattle.words.specs.{Checks.{number_of}, Refusals.{reason_number}, declared.refusals.Reason.{Reason}}
use Rattle.derived.specs.Derived.{names, named, end_after, highest}

-- The words after a token's first name nothing, and those after its third have no end.
first-only : (ws : List ℕ) (n : ℕ) → named start_field ws n ≡ named operator_field (drop 4 ws) n
unfolding named names next_in_token
first-only [] n = refl
first-only (b ∷ []) n = refl
first-only (b ∷ c ∷ []) n = refl
first-only (b ∷ c ∷ d ∷ []) n = refl
first-only (b ∷ c ∷ d ∷ e ∷ ws) n = refl

third-only : (m : ℕ) (ws : List ℕ) → highest upper_field m ws ≡ highest end_field m (drop 4 ws)
unfolding highest end_after next_in_token
third-only m [] = refl
third-only m (d ∷ []) = refl
third-only m (d ∷ e ∷ []) = refl
third-only m (d ∷ e ∷ a ∷ []) = refl
third-only m (d ∷ e ∷ a ∷ b ∷ ws) = refl

-- The first end is the third word's.
pub from-third : (m : ℕ) (ws : List ℕ) → highest end_field m (drop 2 ws) ≡ highest operator_field m ws
unfolding highest end_after next_in_token
from-third m [] = refl
from-third m (a ∷ []) = refl
from-third m (a ∷ b ∷ ws) = refl

module _ (list : List ℕ) (i : ℕ) where
  five-on : drop 4 (drop (suc i) list) ≡ drop (i + 5) list
  five-on = let e : suc i + 4 ≡ i + 5 = omega arith in drop-drop 4 (suc i) list ∙ ap (λ (j : ℕ). drop j list) e

  -- One token further on.
  pub named-on : i < length list → (n : ℕ)
      → named operator_field (drop i list) n ≡ (names operator_field (get_or list i 0) n || named operator_field (drop (i + 5) list) n)
  unfolding named next_in_token
  named-on below n =
      ap (λ (ws : List ℕ). named operator_field ws n) (drop-cons list i 0 below)
      ∙ ap (λ (b : Bool). names operator_field (get_or list i 0) n || b)
      (first-only (drop (suc i) list) n ∙ ap (λ (ws : List ℕ). named operator_field ws n) five-on)

  pub highest-on : i < length list → (m : ℕ)
      → highest end_field m (drop i list) ≡ highest end_field (end_after end_field m (get_or list i 0)) (drop (i + 5) list)
  unfolding highest next_in_token
  highest-on below m =
      ap (highest end_field m) (drop-cons list i 0 below)
      ∙
      (third-only (end_after end_field m (get_or list i 0)) (drop (suc i) list)
      ∙ ap (highest end_field (end_after end_field m (get_or list i 0))) five-on)

  -- No token is left.
  pub named_end : length list ≤ i → (n : ℕ) → named operator_field (drop i list) n ≡ false
  named_end past n = unfold named in ap (λ (ws : List ℕ). named operator_field ws n) (drop_of_length-le list past)

  pub highest-end : length list ≤ i → (m : ℕ) → highest end_field m (drop i list) ≡ m
  highest-end past m = unfold highest in ap (highest end_field m) (drop_of_length-le list past)

-- A word without fault counts; another does not.
pub names-legal : (w n : ℕ) → word_fault operator_field 0 w ≡ none → names operator_field w n ≡ (leb n 110 && eqb (number_in (low_of w)) n)
names-legal w n e = unfold names in rw (e, names) refl

pub names-fault : (w n : ℕ) (fault : ℕ) → word_fault operator_field 0 w ≡ some fault → names operator_field w n ≡ false
names-fault w n fault e = unfold names in rw (e, names) refl

pub end-legal : (m w : ℕ) → word_fault end_field 0 w ≡ none → end_after end_field m w ≡ max m (low_of w)
end-legal m w e = unfold end_after in rw (e, end_after) refl

pub end-fault : (m w : ℕ) (fault : ℕ) → word_fault end_field 0 w ≡ some fault → end_after end_field m w ≡ m
end-fault m w fault e = unfold end_after in rw (e, end_after) refl

-- A word that is not good has a fault.
pub names-bad : (w n : ℕ) (x : Result ⊤ Reason) → is_err x ≡ true → number_of x ≡ word_fault operator_field 0 w → names operator_field w n ≡ false
names-bad w n (Ok _) bad e = absurd (false≢true bad)
names-bad w n (Err r) bad e = names-fault w n (reason_number r) (sym e)

pub end-bad : (m w : ℕ) (x : Result ⊤ Reason) → is_err x ≡ true → number_of x ≡ word_fault end_field 0 w → end_after end_field m w ≡ m
end-bad m w (Ok _) bad e = absurd (false≢true bad)
end-bad m w (Err r) bad e = end-fault m w (reason_number r) (sym e)

-- A good word has none.
pub good-word : (x : Result ⊤ Reason) → is_err x ≡ false → number_of x ≡ none
good-word (Ok _) good = refl
good-word (Err r) good = absurd (false≢true (sym good))

-- A number up to 110 is named by itself alone; one above it, a host's, names nothing.
low-alone : (op n : ℕ) → op ≤ 110 → (leb n 110 && eqb op n) ≡ eqb op n
low-alone op n l =
    either (leb n 110) (λ e. rw e refl)
    (λ e. rw (e, ne_eqb op n (λ same. omega (arith, leb-false n 110 e))) refl)

pub names-low : (w n : ℕ) → word_fault operator_field 0 w ≡ none → number_in (low_of w) ≤ 110
    → names operator_field w n ≡ eqb (number_in (low_of w)) n
names-low w n e l = names-legal w n e ∙ low-alone (number_in (low_of w)) n l

pub names-host : (w n : ℕ) → word_fault operator_field 0 w ≡ none → 110 < number_in (low_of w) → names operator_field w n ≡ false
names-host w n e h =
    names-legal w n e
    ∙ either (leb n 110) (λ l. rw (l, ne_eqb (number_in (low_of w)) n (λ same. omega (arith, leb-true n 110 l))) refl) (λ l. rw l refl)

-- THE BOUNDS: no operator above 110, no end above 29 bits.
names-few : (w n : ℕ) → 111 ≤ n → names operator_field w n ≡ false
names-few w n above = go (word_fault operator_field 0 w) refl
  where
    go : (o : Option ℕ) → word_fault operator_field 0 w ≡ o → names operator_field w n ≡ false
    go none e = names-legal w n e ∙ rw (lt-leb n 110 above) refl
    go (some fault) e = names-fault w n fault e

pub named-few : (field : Field) (ws : List ℕ) (n : ℕ) → 111 ≤ n → named field ws n ≡ false
unfolding named names next_in_token
named-few field [] n above = refl
named-few operator_field (w ∷ ws) n above = rw (names-few w n above) (named-few start_field ws n above)
named-few start_field (w ∷ ws) n above = named-few end_field ws n above
named-few end_field (w ∷ ws) n above = named-few upper_field ws n above
named-few upper_field (w ∷ ws) n above = named-few lower_field ws n above
named-few lower_field (w ∷ ws) n above = named-few operator_field ws n above
named-few count_field (w ∷ ws) n above = named-few operator_field ws n above
named-few close_field (w ∷ ws) n above = named-few operator_field ws n above

low-few : (w : ℕ) → low_of w ≤ 536870911
low-few w = unfold low_of in omega arith

end-few : (m w : ℕ) → m ≤ 536870911 → end_after end_field m w ≤ 536870911
end-few m w h = go (word_fault end_field 0 w) refl
  where
    go : (o : Option ℕ) → word_fault end_field 0 w ≡ o → end_after end_field m w ≤ 536870911
    go none e = rw (end-legal m w e) (omega (arith, low-few w))
    go (some fault) e = rw (end-fault m w fault e) h

pub highest-few : (field : Field) (m : ℕ) (ws : List ℕ) → m ≤ 536870911 → highest field m ws ≤ 536870911
unfolding highest end_after next_in_token
highest-few field m [] h = h
highest-few operator_field m (w ∷ ws) h = highest-few start_field m ws h
highest-few start_field m (w ∷ ws) h = highest-few end_field m ws h
highest-few end_field m (w ∷ ws) h = highest-few upper_field _ ws (end-few m w h)
highest-few upper_field m (w ∷ ws) h = highest-few lower_field m ws h
highest-few lower_field m (w ∷ ws) h = highest-few operator_field m ws h
highest-few count_field m (w ∷ ws) h = highest-few operator_field m ws h
highest-few close_field m (w ∷ ws) h = highest-few operator_field m ws h

-- A set with exactly these operators is one that the entry does not turn back.
pub exact-few : (low high : ℕ) (ws : List ℕ) → ((n : ℕ) → in_halves low high n ≡ named operator_field ws n) → high * 2 ^ 64 + low < 2 ^ 111
exact-few low high ws exactly = used-few low high (λ n above. exactly n ∙ named-few operator_field ws n above)

-- FOR A LEGAL LIST they are the tokens' operators and their highest end.
pub record OfTokens (m : ℕ) (ws : List ℕ) : Type 0 where
  pub operators : (n : ℕ) → named operator_field ws n ≡ uses (tokens_of ws) n
  pub end : highest operator_field m ws ≡ highest_end m (leaves (tokens_of ws))

pub legal-list : (i v m : ℕ) (ws : List ℕ) → words_refusal i operator_field v ws ≡ none → length ws % 5 ≡ 0 → OfTokens m ws
unfolding named names highest end_after next_in_token variant_after tokens_of token_of uses leaves highest_end word_fault low_fault
legal-list i v m [] h n = record { operators = λ n. refl; end = refl }
legal-list i v m (a ∷ []) h n = absurd (omega arith)
legal-list i v m (a ∷ b ∷ []) h n = absurd (omega arith)
legal-list i v m (a ∷ b ∷ c ∷ []) h n = absurd (omega arith)
legal-list i v m (a ∷ b ∷ c ∷ d ∷ []) h n = absurd (omega arith)
legal-list i v m (a ∷ b ∷ c ∷ d ∷ e ∷ ws) h n =
    let u = variant_after operator_field v a in
    let ra = next_word i operator_field v a (b ∷ c ∷ d ∷ e ∷ ws) h in
    let rb = next_word (suc i) start_field u b (c ∷ d ∷ e ∷ ws) ra.1 in
    let rc = next_word (suc (suc i)) end_field u c (d ∷ e ∷ ws) rb.1 in
    let rd = next_word (suc (suc (suc i))) upper_field u d (e ∷ ws) rc.1 in
    let re = next_word (suc (suc (suc (suc i)))) lower_field u e ws rd.1 in
    let later = legal-list (suc (suc (suc (suc (suc i))))) u (max m (low_of c)) ws re.1 (omega arith) in
    record {
      operators = λ n. rw (names-legal a n ra.0, later.operators n) refl;
      end = ap (λ (m : ℕ). highest upper_field m (d ∷ e ∷ ws)) (end-legal m c rc.0) ∙ later.end;
    }
