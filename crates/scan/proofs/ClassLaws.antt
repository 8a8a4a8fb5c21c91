-- A turn by the class of its token.
use Prim.Native.Nat.{ℕ, ◌+◌, ◌*◌, ◌/◌, ◌%◌, ◌-◌, ◌≤◌, ◌<◌}
use native.Mathlib.Omega.{arith}
use mathlib.Core.{Path.{◌≡◌, refl, ap, sym, subst, ◌∙◌}, Bool.{Bool, true, false}, List.{List}}
use lib.{Dec.{eqb, ltb}, ListN.{length}}
use borrow.Author.Tests.{eq-eqb, ne_eqb, eqb-true, eqb-false, ltb-true}
use Rattle.ops.specs.declared.sets.OpSet.{OpSet}
use Rattle.std.specs.Prelude.{Option}
use Rattle.scan.specs.{declared.steps.Turn.{Turn}, Views.{View}, Tables.{entry_in}}
use Rattle.scan.specs.Turns.{Walking, op_of_place, op_before, is_let, want_class, have_class, minus_class, grade_bits, is_doubled, operator_turn}
use Rattle.scan.specs.Turns.{prefix_turn, subtract_turn, minus_turn, opener_turn, closer_turn, wait_turn, have_by, want_by, end_turn, have_turn}
use Rattle.scan.specs.{Turns.{want_turn}, States.{Turns, UpTo, given, operator_of_place, operator_before, lets}}
use Rattle.scan.proofs.SectionLaws.{first-true}

pub pair_far : (g : Walking) (at : ℕ) → is_doubled g at ≡ true → 5 < at
unfolding is_doubled
pair_far g at y = ltb-true 5 at (first-true (ltb 5 at) _ y)

-- The place before one that is not the first.
pub up-before : (list : List ℕ) (at : ℕ) → UpTo list at → (at ≡ 0 → ⊥) → UpTo list (at - 5) × (at - 5 < length list)
up-before list at u n =
    let p = u.place in
    let w = u.within in
    let z : 5 ≤ at = far at p n in
    (record { place = omega (arith, p, z); within = omega (arith, w) }, omega (arith, w, z))
  where
    far : (at : ℕ) → at % 5 ≡ 0 → (at ≡ 0 → ⊥) → 5 ≤ at
    far at p n = by (eqb at 0) refl
      where
        by : (b : Bool) → eqb at 0 ≡ b → 5 ≤ at
        by true e = absurd (n (eqb-true at 0 e))
        by false e = let m = eqb-false at 0 e in omega (arith, p, m)

pub up-two : (list : List ℕ) (at : ℕ) → length list ≤ 20480 → UpTo list at → 5 < at → at - 5 < 32768
up-two list at f u z = let w = u.within in omega (arith, w, f)

module _ (list table : List ℕ) (used : OpSet) (at : ℕ) (v : View) where
  -- ---- a minus
  module _ {name e : ℕ} (n : name ≡ operator_before list at) (d : e ≡ entry_in table name) where
    class : (k : ℕ) → e / 128 % 4 ≡ k → minus_class (entry_in table (op_before (given list table used) at)) ≡ k
    unfolding minus_class op_before op_of_place
    class k q = ap (λ (e : ℕ). e / 128 % 4) (sym (d ∙ ap (entry_in table) n)) ∙ q

    other : (k : ℕ) → (e / 128 % 4 ≡ k → ⊥) → eqb (minus_class (entry_in table (op_before (given list table used) at))) k ≡ false
    other k q = ne_eqb _ k (λ z. q (sym (class (e / 128 % 4) refl) ∙ z))

    pub minus-prefix : {W W' : List ℕ} {t : Option Turn} → e / 128 % 4 ≡ 1 → Turns W W' t (prefix_turn at v)
        → Turns W W' t (minus_turn (given list table used) at v)
    unfolding minus_turn
    minus-prefix {W} {W'} {t} q h = rw (class 1 q, minus_turn) h

    pub minus-binary : {W W' : List ℕ} {t : Option Turn} → e / 128 % 4 ≡ 2 → Turns W W' t (subtract_turn at v)
        → Turns W W' t (minus_turn (given list table used) at v)
    unfolding minus_turn
    minus-binary {W} {W'} {t} q h = rw (other 1 (λ z. omega (arith, z, q)), eq-eqb _ 2 (class 2 q), minus_turn) h

    pub minus-two : {W W' : List ℕ} {t : Option Turn} → (e / 128 % 4 ≡ 1 → ⊥) → (e / 128 % 4 ≡ 2 → ⊥) → is_doubled (given list table used) at ≡ true
        → Turns W W' t (operator_turn (at - 5) 2013822976 2147483648 v) → Turns W W' t (minus_turn (given list table used) at v)
    unfolding minus_turn
    minus-two {W} {W'} {t} p q y h = rw (other 1 p, other 2 q, y, minus_turn) h

  -- ---- the token by its entry
  module _ {op e : ℕ} (o : op ≡ operator_of_place list at) (d : e ≡ entry_in table op) where
    pub have-class : {W W' : List ℕ} {t : Option Turn} → (n : ℕ) → e / 8 % 16 ≡ n → Turns W W' t (have_by (given list table used) n at v)
        → Turns W W' t (have_by (given list table used) (have_class (entry_in table op)) at v)
    unfolding have_class
    have-class {W} {W'} {t} n q h = subst (λ (m : ℕ). Turns W W' t (have_by (given list table used) m at v)) (sym q ∙ ap (λ
        (e : ℕ). e / 8 % 16) d) h

    pub want-class : {W W' : List ℕ} {t : Option Turn} → (n : ℕ) → e % 8 ≡ n → Turns W W' t (want_by (given list table used) n at v)
        → Turns W W' t (want_by (given list table used) (want_class (entry_in table op)) at v)
    unfolding want_class
    want-class {W} {W'} {t} n q h = subst (λ (m : ℕ). Turns W W' t (want_by (given list table used) m at v)) (sym q ∙ ap (λ
        (e : ℕ). e % 8) d) h

    pub have-operator : {W W' : List ℕ} {t : Option Turn} → e / 8 % 16 ≡ 1
        → Turns W W' t (operator_turn at (524288 + e / 134217728 * 134217728) (e / 134217728 * 134217728 + 134217728) v)
        → Turns W W' t (have_by (given list table used) (have_class (entry_in table op)) at v)
    unfolding have_by grade_bits op_of_place
    have-operator {W} {W'} {t} q h =
        have-class 1 q
        (subst (λ (n : ℕ). Turns W W' t (operator_turn at (524288 + n / 134217728 * 134217728) (n / 134217728 * 134217728 + 134217728) v))
        (d ∙ ap (entry_in table) o) h)

    pub have-opener : {W W' : List ℕ} {t : Option Turn} → e / 8 % 16 ≡ 2 → Turns W W' t (opener_turn (given list table used) op at v)
        → Turns W W' t (have_by (given list table used) (have_class (entry_in table op)) at v)
    unfolding have_by op_of_place
    have-opener {W} {W'} {t} q h = have-class 2 q (subst (λ (n : ℕ). Turns W W' t (opener_turn (given list table used) n at v)) o h)

    pub want-closer : {W W' : List ℕ} {t : Option Turn} → e % 8 ≡ 2 → Turns W W' t (wait_turn at (op * 32768) v)
        → Turns W W' t (want_by (given list table used) (want_class (entry_in table op)) at v)
    unfolding want_by op_of_place closer_turn wait_turn
    want-closer {W} {W'} {t} q h = want-class 2 q (subst (λ (n : ℕ). Turns W W' t (wait_turn at (n * 32768) v)) o h)

-- ---- the next token

module _ (list table : List ℕ) (used : OpSet) (v : View) where
  pub have-end : {W W' : List ℕ} {t : Option Turn} → v.left ≡ 0 → Turns W W' t (end_turn v) → Turns W W' t (have_turn (given list table used) v)
  unfolding have_turn
  have-end {W} {W'} {t} z h = rw (eq-eqb v.left 0 z, have_turn) h

  module _ (n : v.left ≡ 0 → ⊥) {op : ℕ} (o : op ≡ operator_of_place list (v.left - 5)) (l : lets used op ≡ true) where
    let-it : is_let (given list table used) (op_of_place (given list table used) (v.left - 5)) ≡ true
    unfolding is_let op_of_place
    let-it = ap (lets used) (sym o) ∙ l

    pub have-next : {W W' : List ℕ} {t : Option Turn}
        → Turns W W' t (have_by (given list table used) (have_class (entry_in table op)) (v.left - 5) v)
        → Turns W W' t (have_turn (given list table used) v)
    unfolding have_turn op_of_place
    have-next {W} {W'} {t} h =
        rw (ne_eqb v.left 0 n, let-it, have_turn)
        (subst (λ (m : ℕ). Turns W W' t (have_by (given list table used) (have_class (entry_in table m)) (v.left - 5) v)) o h)

    pub want-next : {W W' : List ℕ} {t : Option Turn}
        → Turns W W' t (want_by (given list table used) (want_class (entry_in table op)) (v.left - 5) v)
        → Turns W W' t (want_turn (given list table used) v)
    unfolding want_turn op_of_place
    want-next {W} {W'} {t} h =
        rw (ne_eqb v.left 0 n, let-it, want_turn)
        (subst (λ (m : ℕ). Turns W W' t (want_by (given list table used) (want_class (entry_in table m)) (v.left - 5) v)) o h)
