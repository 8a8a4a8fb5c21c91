-- The operator at a place of the list, in its words and among its tokens.
use Prim.Native.Nat.{ℕ, zero, suc, ◌+◌, ◌*◌, ◌-◌, ◌/◌, ◌%◌, ◌≤◌, ◌<◌, min}
use mathlib.Core.{Path.{◌≡◌, refl, ap, sym, ◌∙◌}, Bool.{Bool, true, false, ◌&&◌}, List.{List, [], ◌∷◌}}
use lib.{Dec.{eqb, ltb}, ListN.{length, get_or}}
use borrow.Author.Tests.{lt-ltb, ltb-true, ltb-false, eq-eqb, ne_eqb}
use Rattle.ops.specs.declared.sets.OpSet.{OpSet}
use native.Mathlib.Omega.{arith}
use Rattle.molang.specs.Words.{tokens_of, token_of, number_in}
use Rattle.words.specs.Fields.{operator_of}
use Rattle.scan.specs.{Entries.{nth, token_at}, Tables.{entry_in}, Views.{View, top_word}}
use Rattle.scan.specs.Turns.{op_of_place, op_before, is_let, minus_class, call_class, is_doubled, is_plain, is_callable, is_empty_call}
use Rattle.scan.specs.States.{UpTo, given, operator_of_place, operator_before, lets, LookedUp}

-- Token i is made of the words from 5 i on.
pub nth-op : (list : List ℕ) (i : ℕ) → 5 * i + 5 ≤ length list → (nth (tokens_of list) i).op ≡ operator_of (get_or list (5 * i) 0)
unfolding tokens_of nth token_of operator_of
nth-op [] i l = absurd (omega (arith, l))
nth-op (a ∷ []) i l = absurd (omega (arith, l))
nth-op (a ∷ b ∷ []) i l = absurd (omega (arith, l))
nth-op (a ∷ b ∷ c ∷ []) i l = absurd (omega (arith, l))
nth-op (a ∷ b ∷ c ∷ d ∷ []) i l = absurd (omega (arith, l))
nth-op (a ∷ b ∷ c ∷ d ∷ e ∷ ws) zero l = refl
nth-op (a ∷ b ∷ c ∷ d ∷ e ∷ ws) (suc i) l =
    let next : 5 * suc i ≡ suc (suc (suc (suc (suc (5 * i))))) = omega arith in
    nth-op ws i (omega (arith, l)) ∙ ap (λ (n : ℕ). operator_of (get_or (a ∷ b ∷ c ∷ d ∷ e ∷ ws) n 0)) (sym next)

pub looked : (list : List ℕ) (at r : ℕ) → length list % 5 ≡ 0 → UpTo list at → at < length list → r ≡ operator_of (get_or list at 0) → LookedUp list at r
unfolding token_at operator_of number_in
looked list at r w u l e =
    let p = u.place in
    let back : at ≡ 5 * (at / 5) = omega (arith, p) in
    let m : 5 * (at / 5) + 5 ≤ length list = omega (arith, p, w, l) in
    record { found = e ∙ ap (λ (n : ℕ). operator_of (get_or list n 0)) back ∙ sym (nth-op list (at / 5) m); small = omega (arith, e) }

-- ---- what is seen at a place

pub both : {a b : Bool} → a ≡ true → b ≡ true → (a && b) ≡ true
both {a} {b} p q = rw p q

pub before-first : (list : List ℕ) (at : ℕ) → at ≡ 0 → 4 ≡ operator_before list at
before-first list at e = rw (eq-eqb at 0 e, operator_before) refl

pub before-other : (list : List ℕ) (at : ℕ) → (at ≡ 0 → ⊥) → operator_of_place list (at - 5) ≡ operator_before list at
before-other list at n = rw (ne_eqb at 0 n, operator_before) refl

pub entry-at : (table : List ℕ) (op : ℕ) → get_or table (min op 111) 0 ≡ entry_in table op
unfolding entry_in
entry-at table op = by (ltb op 111) refl
  where
    by : (b : Bool) → ltb op 111 ≡ b → get_or table (min op 111) 0 ≡ entry_in table op
    by true e = let l = ltb-true op 111 e in let m : min op 111 ≡ op = omega (arith, l) in rw (e, m, entry_in) refl
    by false e = let l = ltb-false op 111 e in let m : min op 111 ≡ 111 = omega (arith, l) in rw (e, m, entry_in) refl

module _ (list table : List ℕ) (used : OpSet) (at : ℕ) where
  -- The name before a place: its entry is such a one, and it is used.
  named : (test : ℕ → Bool) {name e : ℕ} → 0 < at → name ≡ operator_of_place list (at - 5) → e ≡ entry_in table name → test e ≡ true
      → lets used name ≡ true
      → (ltb 0 at && (test (entry_in table (operator_of_place list (at - 5))) && lets used (operator_of_place list (at - 5)))) ≡ true
  named test {name} z n d t l =
      both (lt-ltb 0 at z)
      (both (ap test (sym (d ∙ ap (entry_in table) n)) ∙ t) (ap (lets used) (sym n) ∙ l))

  pub callable : {name e : ℕ} → 0 < at → name ≡ operator_of_place list (at - 5) → e ≡ entry_in table name → e / 512 % 4 % 2 ≡ 1
      → lets used name ≡ true
      → is_callable (given list table used) at ≡ true
  unfolding is_callable op_of_place is_let call_class
  callable {e = e} z n d t l = named (λ (e : ℕ). eqb (e / 512 % 4 % 2) 1) z n d (eq-eqb (e / 512 % 4 % 2) 1 t) l

  pub empty-call : (top : ℕ) {name e : ℕ} → top / 32768 ≡ 5 → 0 < at → name ≡ operator_of_place list (at - 5) → e ≡ entry_in table name
      → e / 512 % 4 ≡ 3
      → lets used name ≡ true → (v : View) → top_word v.stack ≡ top → is_empty_call (given list table used) at v ≡ true
  unfolding is_empty_call op_of_place is_let call_class
  empty-call top {e = e} p z n d t l v s =
      both (ap (λ (w : ℕ). eqb (w / 32768) 5) s ∙ eq-eqb (top / 32768) 5 p)
      (named (λ (e : ℕ). eqb (e / 512 % 4) 3) z n d (eq-eqb (e / 512 % 4) 3 t) l)

  pub pair-seen : {name e : ℕ} → 5 < at → operator_of_place list (at - 5) ≡ 6 → name ≡ operator_of_place list (at - 10) → e ≡ entry_in table name
      → eqb (e / 128 % 4) 2 ≡ true → is_doubled (given list table used) at ≡ true
  unfolding is_doubled op_of_place minus_class
  pair-seen z m n d t =
      both (lt-ltb 5 at z) (both (eq-eqb (operator_of_place list (at - 5)) 6 m) (ap (λ (e : ℕ). eqb (e / 128 % 4) 2) (sym (d ∙ ap
      (entry_in table) n)) ∙ t))

  pub plain-block : (op : ℕ) → op ≡ 0 → true ≡ is_plain (given list table used) op at
  unfolding is_plain
  plain-block op e = rw (eq-eqb op 0 e, is_plain) refl

  pub plain-seen : (op : ℕ) {name e : ℕ} → (op ≡ 0 → ⊥) → name ≡ operator_before list at → e ≡ entry_in table name
      → eqb (e / 512 % 4) 0 ≡ is_plain (given list table used) op at
  unfolding is_plain op_before op_of_place call_class
  plain-seen op z n d = rw (ne_eqb op 0 z, is_plain) (ap (λ (e : ℕ). eqb (e / 512 % 4) 0) (d ∙ ap (entry_in table) n))
