-- Every turn reads a token at least, comes to a place between two tokens, and leaves the lowest word of the stack.
use Prim.Native.Nat.{ℕ, ◌+◌, ◌/◌, ◌%◌, ◌-◌, ◌≤◌, ◌<◌}
use native.Mathlib.Omega.{arith}
use mathlib.Core.{Path.{◌≡◌, refl}, Bool.{Bool, true, false, ◌&&◌}}
use lib.Dec.{eqb, leb}
use borrow.Author.Tests.{eqb-true, eqb-false}
use Rattle.scan.specs.Views.{View, top_word, read_from, pushed, popped, laid, taken, settled, Based, above}
use Rattle.scan.specs.Turns.{Walking, Turning, want, have, done, gives_up, op_of_place, op_before, have_class, minus_class, grade_bits}
use Rattle.scan.specs.Turns.{is_let, is_doubled, is_plain, is_callable, is_empty_call, operator_turn, wait_turn, question_turn, prefix_turn}
use Rattle.scan.specs.Turns.{subtract_turn, minus_turn, section_laid, call_laid, opened_turn, opener_turn, have_by, end_turn, have_turn}
use Rattle.scan.specs.Turns.{leaf_turn, closer_turn, empty_turn, want_by, want_turn}
use Rattle.scan.proofs.{SettleLaws.{based-settled, based-tail}, TurnLaws.{pair-above}, SectionLaws.{callable-far, empty-far}}
use Rattle.scan.proofs.ClassLaws.{pair_far}

pub record Fit (l : ℕ) (v : View) : Type 0 where
  pub based : Based v.stack
  pub place : v.left % 5 ≡ 0
  pub less : v.left < l

pub data Fits (l : ℕ) : Turning → Type 0 where
  at-want : {v : View} → Fit l v → Fits l (want v)
  at_have : {v : View} → Fit l v → Fits l (have v)
  at_done : {v : View} → Fits l (done v)
  at_none : Fits l gives_up

either : (l : ℕ) (b : Bool) {x y : Turning} → (b ≡ true → Fits l x) → (b ≡ false → Fits l y) → Fits l (elim b [ true ↦ x | false ↦ y ])
either l true f g = f refl
either l false f g = g refl

module _ (l at : ℕ) (v : View) (b : Based v.stack) (p : at % 5 ≡ 0) (m : at < l) where
  operator-fits : (word from : ℕ) → 262144 ≤ from → Fits l (operator_turn at word from v)
  unfolding operator_turn settled pushed read_from
  operator-fits word from f =
      either l (eqb (top_word (settled from v).stack / 67108864 % 2) 1 && leb from 671088640) (λ e. at_none)
      (λ e. at-want {v = pushed (at + word) (read_from at (settled from v))}
      (record { based = above (based-settled from f v.stack v.records b); place = p; less = m }))

  question-fits : Fits l (question_turn at v)
  unfolding question_turn wait_turn settled pushed read_from taken popped laid
  question-fits =
      let s = based-settled 805306368 (omega arith) v.stack v.records b in
      either l (eqb (top_word (settled 805306368 v).stack / 67108864 % 2) 1) (λ e. at-want (record {
        based = above (based-tail s
            (pair-above _ e));
        place = p;
        less = m;
      })) (λ e. at-want (record { based = above s; place = p; less = m }))

  prefix-fits : Fits l (prefix_turn at v)
  unfolding prefix_turn laid read_from
  prefix-fits = at_have (record { based = b; place = p; less = m })

  leaf-fits : Fits l (leaf_turn at v)
  unfolding leaf_turn laid read_from
  leaf-fits = at_have (record { based = b; place = p; less = m })

  closer-fits : (op : ℕ) → Fits l (closer_turn op at v)
  unfolding closer_turn pushed read_from
  closer-fits op = at-want (record { based = above b; place = p; less = m })

  section-fits : (child : ℕ) → (top_word v.stack / 32768 ≡ 7 → ⊥) → Fits l (have (section_laid child at v))
  unfolding section_laid laid read_from popped
  section-fits child n = at_have (record { based = based-tail b n; place = p; less = m })

  call_fits : (child : ℕ) → 5 ≤ at → (top_word v.stack / 32768 ≡ 7 → ⊥) → Fits l (have (call_laid at (section_laid child at v)))
  unfolding call_laid section_laid laid read_from popped
  call_fits child f n = at_have {v = call_laid at (section_laid child at v)} (record {
    based = based-tail b n;
    place = omega
        (arith, p, f);
    less = omega (arith, m);
  })

  opened-fits : (g : Walking) (op : ℕ) → (top_word v.stack / 32768 ≡ 7 → ⊥) → Fits l (opened_turn g op at v)
  unfolding opened_turn
  opened-fits g op n =
      either l (is_plain g op at) (λ e. section-fits 1073741824 n)
      (λ e. either l (is_callable g at) (λ c. call_fits 1073741824 (callable-far g at p c) n) (λ c. at_none))

  empty-fits : (g : Walking) → Fits l (empty_turn g at v)
  unfolding empty_turn
  empty-fits g =
      either l (is_empty_call g at v) (λ e. let f = empty-far g at v p e in call_fits 0 f.0 (λ z. omega (arith, z, f.1))) (λ e. at_none)

subtract-fits : (l at : ℕ) (v : View) → Based v.stack → at % 5 ≡ 0 → at < l → Fits l (subtract_turn at v)
unfolding subtract_turn laid
subtract-fits l at v b p m = operator-fits l at (laid (at + 327680) v) b p m 2013822976 2147483648 (omega arith)

opener-fits : (l at : ℕ) (v : View) → Based v.stack → at % 5 ≡ 0 → at < l → (g : Walking) (op : ℕ) → op ≤ 4 → Fits l (opener_turn g op at v)
unfolding opener_turn settled
opener-fits l at v b p m g op o =
    either l (eqb op 2) (λ e. at_none)
    (λ e. either l (eqb (top_word (settled 268435456 v).stack / 32768) (op + 1))
    (λ t. opened-fits l at (settled 268435456 v) (based-settled 268435456 (omega arith) v.stack v.records b) p m g op
    (λ z. let q = eqb-true (top_word (settled 268435456 v).stack / 32768) (op + 1) t in omega (arith, q, z, o)))
    (λ t. at_none))

minus-fits : (l at : ℕ) (v : View) → Based v.stack → at % 5 ≡ 0 → at < l → (g : Walking) → Fits l (minus_turn g at v)
unfolding minus_turn
minus-fits l at v b p m g =
    let before = minus_class (g.entry (op_before g at)) in
    either l (eqb before 1) (λ e. prefix-fits l at v b p m)
    (λ e. either l (eqb before 2) (λ d. subtract-fits l at v b p m)
    (λ d. either l (is_doubled g at)
    (λ y. let f = pair_far g at y in operator-fits l (at - 5) v b (omega (arith, p, f)) (omega (arith, m)) 2013822976 2147483648
    (omega arith))
    (λ y. at_none)))

have-by-fits : (g : Walking) → ((n : ℕ) → have_class (g.entry n) ≡ 2 → n ≤ 4) → (l at : ℕ) (v : View) → Based v.stack → at % 5 ≡ 0 → at < l
    → Fits l (have_by g (have_class (g.entry (op_of_place g at))) at v)
unfolding have_by grade_bits
have-by-fits g o l at v b p m =
    let class = have_class (g.entry (op_of_place g at)) in
    either l (eqb class 1) (λ e. operator-fits l at v b p m _ _ (omega arith))
    (λ e. either l (eqb class 2) (λ t. opener-fits l at v b p m g (op_of_place g at) (o (op_of_place g at) (eqb-true class 2 t)))
    (λ t. either l (eqb class 3) (λ t. minus-fits l at v b p m g)
    (λ t. either l (eqb class 4) (λ t. prefix-fits l at v b p m)
    (λ t. either l (eqb class 7) (λ t. question-fits l at v b p m)
    (λ t. either l (eqb class 8) (λ t. operator-fits l at v b p m 67633152 805306368 (omega arith)) (λ t. at_none))))))

want-by-fits : (g : Walking) (class l at : ℕ) (v : View) → Based v.stack → at % 5 ≡ 0 → at < l → Fits l (want_by g class at v)
unfolding want_by
want-by-fits g class l at v b p m =
    either l (eqb class 1) (λ e. leaf-fits l at v b p m)
    (λ e. either l (eqb class 2) (λ t. closer-fits l at v b p m (op_of_place g at))
    (λ t. either l (eqb class 5) (λ t. empty-fits l at v b p m g) (λ t. at_none)))

end_fits : (l : ℕ) (v : View) → Fits l (end_turn v)
unfolding end_turn
end_fits l v = either l (eqb (top_word (settled 268435456 v).stack / 32768) 7) (λ e. at_done {v = settled 268435456 v}) (λ e. at_none)

five : (n : ℕ) → n % 5 ≡ 0 → eqb n 0 ≡ false → ((n - 5) % 5 ≡ 0) × (n - 5 < n)
five n p e = let m = eqb-false n 0 e in (omega (arith, p, m), omega (arith, p, m))

pub have-fits : (g : Walking) → ((n : ℕ) → have_class (g.entry n) ≡ 2 → n ≤ 4) → (v : View) → Based v.stack → v.left % 5 ≡ 0
    → Fits v.left (have_turn g v)
unfolding have_turn
have-fits g o v b p =
    either v.left (eqb v.left 0) (λ e. end_fits v.left v)
    (λ e. let f = five v.left p e in
    either v.left (is_let g (op_of_place g (v.left - 5))) (λ t. have-by-fits g o v.left (v.left - 5) v b f.0 f.1) (λ t. at_none))

pub want-fits : (g : Walking) (v : View) → Based v.stack → v.left % 5 ≡ 0 → Fits v.left (want_turn g v)
unfolding want_turn
want-fits g v b p =
    either v.left (eqb v.left 0) (λ e. at_none)
    (λ e. let f = five v.left p e in
    either v.left (is_let g (op_of_place g (v.left - 5))) (λ t. want-by-fits g _ v.left (v.left - 5) v b f.0 f.1) (λ t. at_none))
