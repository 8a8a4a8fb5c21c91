-- What holds of every entry of a table, computed over the whole table.
use Prim.Native.Nat.{ℕ, zero, suc, ◌+◌, ◌/◌, ◌%◌, ◌≤◌, ◌<◌}
use native.Mathlib.{Omega.{arith}, Nat.{not-suc-le-zero, le_of_suc-le-suc}}
use mathlib.Core.{Path.{◌≡◌, refl, ap, sym, ◌∙◌}, Bool.{Bool, true, false, ◌&&◌, ◌||◌, not}, List.{List, [], ◌∷◌}}
use lib.{Dec.{eqb, leb, ltb}, ListN.{length, get_or}, IntN.{ℤ, pos, negsuc}}
use borrow.Author.Tests.{ltb-true, leb-true, le-leb, eq-eqb}
use Rattle.molang.specs.Order.{Rules, rules, is_from, effective}
use Rattle.scan.specs.{Tables.{below_five, at_five, from_six, table_of, entry_in, IsLow, HasOpeners}, Turns.{have_class}}
use Rattle.scan.proofs.SectionLaws.{first-true, second-true}

-- A test of every entry with its number.
abbrev pub run : (ℕ → ℕ → Bool) → ℕ → List ℕ → Bool
run t k [] = true
run t k (x ∷ xs) = t k x && run t (suc k) xs

at-run : (t : ℕ → ℕ → Bool) (k : ℕ) (xs : List ℕ) → run t k xs ≡ true → (i : ℕ) → i < length xs → t (k + i) (get_or xs i 0) ≡ true
at-run t k [] e i l = absurd (not-suc-le-zero l)
at-run t k (x ∷ xs) e zero l = let z : k + 0 ≡ k = omega arith in ap (λ (n : ℕ). t n x) z ∙ first-true (t k x) _ e
at-run t k (x ∷ xs) e (suc i) l =
    let z : k + suc i ≡ suc k + i = omega arith in
    ap (λ (n : ℕ). t n (get_or xs i 0)) z ∙ at-run t (suc k) xs (second-true (t k x) _ e) i (le_of_suc-le-suc l)

abbrev pub right : ℕ → ℕ → Bool
right k x = ltb x 4026531840 && (not (eqb (x / 8 % 16) 2) || leb k 4)

module _ (table : List ℕ) (long : length table ≡ 112) (computed : run right 0 table ≡ true) where
  abbrev index : ℕ → ℕ
  index n = elim (ltb n 111) [ true ↦ n | false ↦ 111 ]

  below : (n : ℕ) → index n < 112
  below n = by (ltb n 111) refl
    where
      by : (b : Bool) → ltb n 111 ≡ b → index n < 112
      by true e = let l = ltb-true n 111 e in rw (e, index) (omega (arith, l))
      by false e = rw (e, index) (omega arith)

  rights : (n : ℕ) → right (index n) (entry_in table n) ≡ true
  unfolding entry_in
  rights n =
      let z = below n in
      let e : 0 + index n ≡ index n = omega arith in
      ap (λ (k : ℕ). right k (entry_in table n)) (sym e) ∙ at-run right 0 table computed (index n) (omega (arith, long, z))

  pub low : IsLow table
  low n = ltb-true (entry_in table n) 4026531840 (first-true (ltb (entry_in table n) 4026531840) _ (rights n))

  pub openers : HasOpeners table
  unfolding have_class
  openers n e =
      let c = eq-eqb (entry_in table n / 8 % 16) 2 e in
      let r = second-true (ltb (entry_in table n) 4026531840) _ (rights n) in
      let l = leb-true (index n) 4 (rw c at r) in
      by (ltb n 111) refl l
    where
      by : (b : Bool) → ltb n 111 ≡ b → index n ≤ 4 → n ≤ 4
      by true t l = rw (t, index) at l
      by false t l = let m : 111 ≤ 4 = rw (t, index) at l in absurd (omega (arith, m))

-- The three tables.
pub low-table : (r : Rules) → IsLow (table_of r)
unfolding table_of below_five at_five from_six
low-table r = by r.pairs_right r.and_first
  where
    by : (p a : Bool) → IsLow (elim p [ false ↦ below_five | true ↦ elim a [ false ↦ at_five | true ↦ from_six ] ])
    by false a = low below_five refl refl
    by true false = low at_five refl refl
    by true true = low from_six refl refl

pub openers-table : (r : Rules) → HasOpeners (table_of r)
unfolding table_of below_five at_five from_six
openers-table r = by r.pairs_right r.and_first
  where
    by : (p a : Bool) → HasOpeners (elim p [ false ↦ below_five | true ↦ elim a [ false ↦ at_five | true ↦ from_six ] ])
    by false a = openers below_five refl refl
    by true false = openers at_five refl refl
    by true true = openers from_six refl refl

-- From 6 is from 5.
later : (v : ℤ) → is_from 6 v ≡ true → is_from 5 v ≡ true
unfolding is_from
later (pos n) e = let l = leb-true 6 n e in le-leb 5 n (omega (arith, l))
later (negsuc n) e = e

-- The table of a version, by what the version decides.
module _ (v : ℤ) where
  pub below-five : is_from 5 (effective v) ≡ false → below_five ≡ table_of (rules v)
  unfolding table_of rules
  below-five e = rw (e, table_of) refl

  pub at_five_lem : is_from 5 (effective v) ≡ true → is_from 6 (effective v) ≡ false → at_five ≡ table_of (rules v)
  unfolding table_of rules
  at_five_lem e d = rw (e, d, table_of) refl

  pub from-six : is_from 6 (effective v) ≡ true → from_six ≡ table_of (rules v)
  unfolding table_of rules
  from-six d = rw (later (effective v) d, d, table_of) refl
