-- The line `list`, letter by letter: what is laid of it, and how long it is.
use Prim.Native.Nat.{ℕ, zero, suc, ◌+◌, ◌*◌, ◌≤◌}
use mathlib.Core.{Path.{◌≡◌, refl, ap, sym, ◌∙◌}, List.{List, [], ◌∷◌, ◌++◌, append_assoc, append-nil}}
use native.Mathlib.{Numerals.{add-one}, Omega.{arith}}
use lib.ListN.{length, get_or, length-append}
use Rattle.words.specs.Fields.{operator_of}
use Rattle.text.{specs.Text.{ascii, decimal, space, line_end, Wrote}, proofs.TextLaws.{wrote_then, decimal-length}}
use Rattle.listing.proofs.RowLaws.{three}
use Rattle.everylist.specs.{EveryList.{spaced_out, head_text}, Steps.{letters_in}}

spaced-append : (ms ns : List ℕ) → spaced_out (ms ++ ns) ≡ spaced_out ms ++ spaced_out ns
unfolding spaced_out
spaced-append [] ns = refl
spaced-append (m ∷ ms) ns = rw (spaced-append ms ns) (sym (append_assoc (space ∷ decimal m) (spaced_out ms) (spaced_out ns)))

-- LENGTHS
spaced-length : (ns : List ℕ) → length (spaced_out ns) ≤ 21 * length ns
unfolding spaced_out
spaced-length [] = omega arith
spaced-length (n ∷ ns) = omega (arith, length-append (decimal n) (spaced_out ns), decimal-length n, spaced-length ns)

letters-length : (i : ℕ) (list : List ℕ) → length (letters_in i list) ≡ i
unfolding letters_in
letters-length zero list = refl
letters-length (suc i) list =
    omega (arith, length-append (letters_in i list) (operator_of (get_or list (5 * i) 0) ∷ []), letters-length i list)

pub letters-room : (i : ℕ) (list : List ℕ) → length (spaced_out (letters_in i list)) ≤ 21 * i
letters-room i list = omega (arith, spaced-length (letters_in i list), letters-length i list)

pub head-length : (i : ℕ) (list : List ℕ) → length (head_text (letters_in i list)) ≤ 5 + 21 * i
head-length i list = unfold head_text in omega (arith, length-append (spaced_out (letters_in i list)) (line_end ∷ []), letters-room i list)

-- LAID: one letter more, and the line's end.
pub letters-on : {a b c : List ℕ} {at m r : ℕ} → at ≤ length a → (list : List ℕ) (i n : ℕ) → n ≡ operator_of (get_or list (5 * i) 0)
    → Wrote a at (spaced_out (letters_in i list)) m b
    → Wrote b m (space ∷ decimal n) r c
    → Wrote a at (spaced_out (letters_in (i + 1) list)) r c
unfolding letters_in spaced_out
letters-on h list i n e p q =
    let o = operator_of (get_or list (5 * i) 0) in
    let letters : letters_in (i + 1) list ≡ letters_in i list ++ (o ∷ []) = ap (λ (k : ℕ). letters_in k list) (add-one i) in
    let step : spaced_out (letters_in (i + 1) list) ≡ spaced_out (letters_in i list) ++ (space ∷ decimal o) =
    ap spaced_out letters
    ∙ (spaced-append (letters_in i list) (o ∷ []) ∙ ap (λ (t : List ℕ). spaced_out (letters_in i list) ++ t) (append-nil (space ∷ decimal o)))
    in
    rw step (wrote_then h p (rw e at q))

pub head_done : {a b c d : List ℕ} {at m r : ℕ} (list : List ℕ) (i tokens : ℕ) → i ≡ tokens → Wrote a 0 (ascii "list") at b
    → Wrote b at (spaced_out (letters_in i list)) m c
    → Wrote c m (line_end ∷ []) r d
    → Wrote a 0 (head_text (letters_in tokens list)) r d
head_done list i tokens e n p q = unfold head_text in three (omega arith) n (rw e at p) q
