-- Every record of the walk has the places of tokens of the list: that of its own token, and that of its closer if it is a section.
use Prim.Native.Nat.{ℕ, ◌+◌, ◌*◌, ◌-◌, ◌/◌, ◌%◌, ◌≤◌, ◌<◌}
use mathlib.Core.{Path.{◌≡◌, refl, ap, sym, subst, ◌∙◌}, Bool.{Bool, true, false, ◌&&◌, and-eq-true_iff}, List.{List, [], ◌∷◌}}
use native.Mathlib.Omega.{arith}
use lib.{Dec.{eqb, leb, ltb}}
use borrow.Author.Tests.{lt-ltb, ltb-true, eqb-false}
use Rattle.molang.specs.Operator
use Rattle.scan.specs.Records.{is_section, token_place, closer_place}
use Rattle.scan.specs.Views.{View, top_word, tail_of, read_from, pushed, popped, laid, taken, settled_lists, settled}
use Rattle.scan.specs.Turns

-- A token of a list of n words begins at the place.
pub record IsPlace (n at : ℕ) : Type 0 where
  pub whole : at % 5 ≡ 0
  pub inside : at < n

-- Each word of a list of words has its place; of records their closers' too.
pub data AllPlaced (P : ℕ → Type 0) : List ℕ → Type 0 where
  none : AllPlaced P []
  more : {w : ℕ} {ws : List ℕ} → P w → AllPlaced P ws → AllPlaced P (w ∷ ws)

module _ (n : ℕ) where
  abbrev Waits : ℕ → Type 0
  Waits w = IsPlace n (w % 32768)

  pub record Stands (w : ℕ) : Type 0 where
    pub token : IsPlace n (token_place w)
    pub closer : IsPlace n (closer_place w)

  pub record Placed (v : View) : Type 0 where
    pub left : v.left % 5 ≡ 0
    pub within : v.left ≤ n
    pub stack : AllPlaced Waits v.stack
    pub records : AllPlaced Stands v.records

  -- What an answer has.
  abbrev pub Answered : Turns.Turning → Type 0
  Answered (Turns.want v) = Placed v
  Answered (Turns.have v) = Placed v
  Answered (Turns.done v) = Placed v
  Answered Turns.gives_up = Unit {0}

  -- A record that is no section's.
  stands : (w : ℕ) → w < 2147483648 → IsPlace n (w % 32768) → Stands w
  unfolding token_place closer_place is_section
  stands w h p = record { token = p; closer = subst (IsPlace n) (sym (by (ltb 2147483647 w) refl)) p }
    where
      by : (b : Bool) → ltb 2147483647 w ≡ b → closer_place w ≡ w % 32768
      by true e = absurd (let l = ltb-true 2147483647 w e in omega (arith, l, h))
      by false e = rw (e, closer_place) refl

  -- A word that waits becomes a record.
  cut : (w : ℕ) → Waits w → Stands (w % 67108864)
  cut w p =
      let e : w % 67108864 % 32768 ≡ w % 32768 = omega arith in
      stands (w % 67108864) (omega arith) (subst (IsPlace n) (sym e) p)

  settles : (from : ℕ) (S R : List ℕ) → AllPlaced Waits S → AllPlaced Stands R
      → AllPlaced Waits (settled_lists from S R).stack × AllPlaced Stands (settled_lists from S R).records
  unfolding settled_lists
  settles from [] R s r = (none, r)
  settles from (w ∷ S) R (more p s) r = by (leb from w) refl (settles from S (w % 67108864 ∷ R) s (more (cut w p) r))
    where
      by : (b : Bool) → leb from w ≡ b
          → AllPlaced Waits (settled_lists from S (w % 67108864 ∷ R)).stack × AllPlaced Stands (settled_lists from S (w % 67108864 ∷ R)).records
          → AllPlaced Waits (settled_lists from (w ∷ S) R).stack × AllPlaced Stands (settled_lists from (w ∷ S) R).records
      by true e i = rw (e, settled_lists) i
      by false e i = rw (e, settled_lists) (more p s, r)

  settled-placed : (from : ℕ) (v : View) → Placed v → Placed (settled from v)
  unfolding settled
  settled-placed from v p =
      let s = settles from v.stack v.records p.stack p.records in
      record { left = p.left; within = p.within; stack = s.0; records = s.1 }

  top_placed : (S : List ℕ) → AllPlaced Waits S → 0 < n → Waits (top_word S)
  unfolding top_word
  top_placed [] none h = record { whole = refl; inside = h }
  top_placed (w ∷ S) (more x y) h = x

  -- ---- a word more

  -- A place with bits above it.
  module _ (at : ℕ) (p : IsPlace n at) (few : n ≤ 32768) where
    waits : (word : ℕ) → word % 32768 ≡ 0 → Waits (at + word)
    waits word h = let i = p.inside in let e : (at + word) % 32768 ≡ at = omega (arith, h, i, few) in subst (IsPlace n) (sym e) p

    stands_by : (word : ℕ) → word % 32768 ≡ 0 → at + word < 2147483648 → Stands (at + word)
    stands_by word h l = stands (at + word) l (waits word h)

    moved_pushed : (v : View) (word : ℕ) → word % 32768 ≡ 0 → Placed v → Placed (pushed (at + word) (read_from at v))
    unfolding pushed read_from
    moved_pushed v word h q =
        let i = p.inside in record { left = p.whole; within = omega (arith, i); stack = more (waits word h) q.stack; records = q.records }

    moved-laid : (v : View) (w : ℕ) → Stands w → Placed v → Placed (laid w (read_from at v))
    unfolding laid read_from
    moved-laid v w s q =
        let i = p.inside in record { left = p.whole; within = omega (arith, i); stack = q.stack; records = more s q.records }

  laid-placed : (v : View) (w : ℕ) → Stands w → Placed v → Placed (laid w v)
  unfolding laid
  laid-placed v w s q = record { left = q.left; within = q.within; stack = q.stack; records = more s q.records }

  tail-placed : (S : List ℕ) → AllPlaced Waits S → AllPlaced Waits (tail_of S)
  unfolding tail_of
  tail-placed [] none = none
  tail-placed (w ∷ S) (more p s) = s

  popped-placed : (v : View) → Placed v → Placed (popped v)
  unfolding popped
  popped-placed v q = record { left = q.left; within = q.within; stack = tail-placed v.stack q.stack; records = q.records }

  -- The top becomes a record.
  taken-placed : (v : View) → Placed v → 0 < n → Placed (taken v)
  unfolding taken
  taken-placed v q h = popped-placed _ (laid-placed v _ (cut _ (top_placed v.stack q.stack h)) q)

-- The closer's place in a section's record.
closer-field : (bit t at : ℕ) → t < 32768 → at < 32768 → (2147483648 + bit * 1073741824 + t * 32768 + at) / 32768 % 32768 ≡ t
closer-field bit t at a b = ap (λ (m : ℕ). m % 32768) above ∙ rest
  where
    above : (2147483648 + bit * 1073741824 + t * 32768 + at) / 32768 ≡ 65536 + bit * 32768 + t
    above = omega (arith, b)

    rest : (65536 + bit * 32768 + t) % 32768 ≡ t
    rest = omega (arith, a)

-- A grade stands above a place.
grade-bits : (e : ℕ) → (524288 + Turns.grade_bits e) % 32768 ≡ 0
unfolding Turns.grade_bits
grade-bits e = let q = e / 134217728 in multiple q
  where
    multiple : (q : ℕ) → (524288 + q * 134217728) % 32768 ≡ 0
    multiple q = omega arith

-- ---- each turn keeps the places

after-five : (at : ℕ) → ltb 5 at ≡ true → ltb 0 at ≡ true
after-five at e = let l = ltb-true 5 at e in lt-ltb 0 at (omega (arith, l))

module _ (g : Turns.Walking) (n : ℕ) (few : n ≤ 32763) (some : 0 < n) where
  -- An answer by a test.
  chosen : (b : Bool) (x y : Turns.Turning) → (b ≡ true → Answered n x) → (b ≡ false → Answered n y)
      → Answered n (elim b [ true ↦ x | false ↦ y ])
  chosen true x y p q = p refl
  chosen false x y p q = q refl

  before : (at : ℕ) → IsPlace n at → ltb 0 at ≡ true → IsPlace n (at - 5)
  before at p e =
      let l = ltb-true 0 at e in
      let h = p.whole in
      let i = p.inside in
      record { whole = omega (arith, h, l); inside = omega (arith, i) }

  module _ (at : ℕ) (p : IsPlace n at) where
    roomy : n ≤ 32768
    roomy = omega (arith, few)

    operator-kept : (word from : ℕ) → word % 32768 ≡ 0 → (v : View) → Placed n v → Answered n (Turns.operator_turn at word from v)
    unfolding Turns.operator_turn
    operator-kept word from h v q =
        chosen (eqb (top_word (settled from v).stack / 67108864 % 2) 1 && leb from 671088640) Turns.gives_up
        (Turns.want (pushed (at + word) (read_from at (settled from v)))) (λ e. tt {0})
        (λ e. moved_pushed n at p roomy (settled from v) word h (settled-placed n from v q))

    question-kept : (v : View) → Placed n v → Answered n (Turns.question_turn at v)
    unfolding Turns.question_turn Turns.wait_turn
    question-kept v q =
        let s = settled-placed n 805306368 v q in
        let w = settled 805306368 v in
        chosen (eqb (top_word w.stack / 67108864 % 2) 1) (Turns.want (pushed (at + 805830656) (read_from at (taken w))))
        (Turns.want (pushed (at + 805830656) (read_from at w)))
        (λ e. moved_pushed n at p roomy (taken w) 805830656 refl (taken-placed n w s some)) (λ e. moved_pushed n at p roomy w 805830656 refl s)

    prefix-kept : (v : View) → Placed n v → Answered n (Turns.prefix_turn at v)
    unfolding Turns.prefix_turn
    prefix-kept v q = let i = p.inside in moved-laid n at p roomy v _ (stands_by n at p roomy 262144 refl (omega (arith, i, few))) q

    subtract-kept : (v : View) → Placed n v → Answered n (Turns.subtract_turn at v)
    unfolding Turns.subtract_turn
    subtract-kept v q =
        let i = p.inside in
        operator-kept 2013822976 2147483648 refl _ (laid-placed n v _ (stands_by n at p roomy 327680 refl (omega (arith, i, few))) q)

    -- A section, over its closer that waits on top.
    section-stands : (bit child top : ℕ) → child ≡ bit * 1073741824 → Waits n top → Stands n (2147483648 + child + top % 32768 * 32768 + at)
    unfolding token_place closer_place is_section
    section-stands bit child top a t =
        let i = p.inside in
        let w = 2147483648 + child + top % 32768 * 32768 + at in
        let here : w % 32768 ≡ at = omega (arith, a, i, few) in
        let there : w / 32768 % 32768 ≡ top % 32768 =
        ap (λ (c : ℕ). (2147483648 + c + top % 32768 * 32768 + at) / 32768 % 32768) a ∙ closer-field bit (top % 32768) at (omega arith) (omega (arith, i, few))
        in
        let far : ltb 2147483647 w ≡ true = lt-ltb 2147483647 w (omega arith) in
        record { token = subst (IsPlace n) (sym here) p; closer = rw (far, closer_place) (subst (IsPlace n) (sym there) t) }

    section-placed : (bit child : ℕ) → child ≡ bit * 1073741824 → (v : View) → Placed n v → Placed n (Turns.section_laid child at v)
    unfolding Turns.section_laid
    section-placed bit child a v q =
        moved-laid n at p roomy (popped v) _ (section-stands bit child (top_word v.stack) a (top_placed n v.stack q.stack some)) (popped-placed n v q)

    closer-kept : (op : ℕ) (v : View) → Placed n v → Answered n (Turns.closer_turn op at v)
    unfolding Turns.closer_turn
    closer-kept op v q = moved_pushed n at p roomy v (op * 32768) (omega arith) q

    leaf-kept : (v : View) → Placed n v → Answered n (Turns.leaf_turn at v)
    unfolding Turns.leaf_turn
    leaf-kept v q = let i = p.inside in moved-laid n at p roomy v at (stands n at (omega (arith, i, few)) (subst (IsPlace n) (small at i) p)) q
      where
        small : (at : ℕ) → at < n → at ≡ at % 32768
        small at i = omega (arith, i, few)

    -- The name before it.
    call-placed : ltb 0 at ≡ true → (v : View) → Placed n v → Placed n (Turns.call_laid at v)
    unfolding Turns.call_laid
    call-placed e v q =
        let b = before at p e in
        let i = b.inside in
        moved-laid n (at - 5) b roomy v _ (stands_by n (at - 5) b roomy 262144 refl (omega (arith, i, few))) q

  operator-before : (at : ℕ) → IsPlace n at → ltb 0 at ≡ true → (v : View) → Placed n v
      → Answered n (Turns.operator_turn (at - 5) 2013822976 2147483648 v)
  operator-before at p e v q = operator-kept (at - 5) (before at p e) 2013822976 2147483648 refl v q

  module _ (at : ℕ) (p : IsPlace n at) where
    minus-kept : (v : View) → Placed n v → Answered n (Turns.minus_turn g at v)
    unfolding Turns.minus_turn Turns.is_doubled
    minus-kept v q =
        let c = Turns.minus_class (g.entry (Turns.op_before g at)) in
        let two = ltb 5 at && (eqb (Turns.op_of_place g (at - 5)) Operator.negate && eqb (Turns.minus_class (g.entry (Turns.op_of_place g (at - 10)))) 2) in
        let pair = Turns.operator_turn (at - 5) 2013822976 2147483648 v in
        chosen (eqb c 1) (Turns.prefix_turn at v)
        (elim (eqb c 2) [ true ↦ Turns.subtract_turn at v | false ↦ elim two [ true ↦ pair | false ↦ Turns.gives_up ] ])
        (λ e. prefix-kept at p v q)
        (λ e. chosen (eqb c 2) (Turns.subtract_turn at v) (elim two [ true ↦ pair | false ↦ Turns.gives_up ]) (λ f. subtract-kept at p v q)
        (λ f. chosen two pair Turns.gives_up
        (λ h. operator-before at p (after-five at ((and-eq-true_iff (ltb 5 at) _).0 h).0) v q) (λ h. tt {0})))

    opened-kept : (op : ℕ) (v : View) → Placed n v → Answered n (Turns.opened_turn g op at v)
    unfolding Turns.opened_turn Turns.is_callable
    opened-kept op v q =
        let s = section-placed at p 1 1073741824 refl v q in
        let w = Turns.section_laid 1073741824 at v in
        let b = ltb 0 at && (eqb (Turns.call_class (g.entry (Turns.op_of_place g (at - 5))) % 2) 1 && Turns.is_let g (Turns.op_of_place g (at - 5))) in
        let called = Turns.have (Turns.call_laid at w) in
        chosen (Turns.is_plain g op at) (Turns.have w) (elim b [ true ↦ called | false ↦ Turns.gives_up ]) (λ e. s)
        (λ e. chosen b called Turns.gives_up (λ h. call-placed at p ((and-eq-true_iff (ltb 0 at) _).0 h).0 w s) (λ h. tt {0}))

    opener-kept : (op : ℕ) (v : View) → Placed n v → Answered n (Turns.opener_turn g op at v)
    unfolding Turns.opener_turn
    opener-kept op v q =
        let w = settled 268435456 v in
        let b = eqb (top_word w.stack / 32768) (op + 1) in
        chosen (eqb op Operator.left_bracket) Turns.gives_up (elim b [ true ↦ Turns.opened_turn g op at w | false ↦ Turns.gives_up ]) (λ e. tt {0})
        (λ e. chosen b (Turns.opened_turn g op at w) Turns.gives_up (λ f. opened-kept op w (settled-placed n 268435456 v q)) (λ f. tt {0}))

    empty-kept : (v : View) → Placed n v → Answered n (Turns.empty_turn g at v)
    unfolding Turns.empty_turn Turns.is_empty_call
    empty-kept v q =
        let b = eqb (top_word v.stack / 32768) Operator.right_parenthesis
        && (ltb 0 at && (eqb (Turns.call_class (g.entry (Turns.op_of_place g (at - 5)))) 3 && Turns.is_let g (Turns.op_of_place g (at - 5))))
        in
        let w = Turns.section_laid 0 at v in
        chosen b (Turns.have (Turns.call_laid at w)) Turns.gives_up
        (λ h. call-placed at p ((and-eq-true_iff (ltb 0 at) _).0 ((and-eq-true_iff (eqb (top_word v.stack / 32768) Operator.right_parenthesis) _).0 h).1).0 w
        (section-placed at p 0 0 refl v q)) (λ h. tt {0})

    have-by-kept : (class : ℕ) (v : View) → Placed n v → Answered n (Turns.have_by g class at v)
    unfolding Turns.have_by
    have-by-kept class v q =
        let e = g.entry (Turns.op_of_place g at) in
        let a1 = Turns.operator_turn at (524288 + Turns.grade_bits e) (Turns.grade_bits e + 134217728) v in
        let a2 = Turns.opener_turn g (Turns.op_of_place g at) at v in
        let a3 = Turns.minus_turn g at v in
        let a4 = Turns.prefix_turn at v in
        let a7 = Turns.question_turn at v in
        let a8 = Turns.operator_turn at 67633152 805306368 v in
        let b8 : Turns.Turning = elim (eqb class 8) [ true ↦ a8 | false ↦ Turns.gives_up ] in
        let b7 : Turns.Turning = elim (eqb class 7) [ true ↦ a7 | false ↦ b8 ] in
        let b4 : Turns.Turning = elim (eqb class 4) [ true ↦ a4 | false ↦ b7 ] in
        let b3 : Turns.Turning = elim (eqb class 3) [ true ↦ a3 | false ↦ b4 ] in
        let b2 : Turns.Turning = elim (eqb class 2) [ true ↦ a2 | false ↦ b3 ] in
        chosen (eqb class 1) a1 b2 (λ x. operator-kept at p _ _ (grade-bits e) v q)
        (λ x. chosen (eqb class 2) a2 b3 (λ y. opener-kept (Turns.op_of_place g at) v q)
        (λ y. chosen (eqb class 3) a3 b4 (λ z. minus-kept v q)
        (λ z. chosen (eqb class 4) a4 b7 (λ u. prefix-kept at p v q)
        (λ u. chosen (eqb class 7) a7 b8 (λ t. question-kept at p v q)
        (λ t. chosen (eqb class 8) a8 Turns.gives_up (λ s. operator-kept at p 67633152 805306368 refl v q) (λ s. tt {0}))))))

    want-by-kept : (class : ℕ) (v : View) → Placed n v → Answered n (Turns.want_by g class at v)
    unfolding Turns.want_by
    want-by-kept class v q =
        let a2 = Turns.closer_turn (Turns.op_of_place g at) at v in
        let a5 = Turns.empty_turn g at v in
        let b5 : Turns.Turning = elim (eqb class 5) [ true ↦ a5 | false ↦ Turns.gives_up ] in
        let b2 : Turns.Turning = elim (eqb class 2) [ true ↦ a2 | false ↦ b5 ] in
        chosen (eqb class 1) (Turns.leaf_turn at v) b2 (λ x. leaf-kept at p v q)
        (λ x. chosen (eqb class 2) a2 b5 (λ y. closer-kept at p (Turns.op_of_place g at) v q)
        (λ y. chosen (eqb class 5) a5 Turns.gives_up (λ z. empty-kept v q) (λ z. tt {0})))

  -- The token before what has been read.
  next : (v : View) → Placed n v → eqb v.left 0 ≡ false → IsPlace n (v.left - 5)
  next v q e =
      let d = eqb-false v.left 0 e in
      let l = q.left in
      let w = q.within in
      record { whole = omega (arith, d, l); inside = omega (arith, d, l, w) }

  want_kept : (v : View) → Placed n v → Answered n (Turns.want_turn g v)
  unfolding Turns.want_turn
  want_kept v q =
      let at = v.left - 5 in
      let b = Turns.is_let g (Turns.op_of_place g at) in
      let a = Turns.want_by g (Turns.want_class (g.entry (Turns.op_of_place g at))) at v in
      chosen (eqb v.left 0) Turns.gives_up (elim b [ true ↦ a | false ↦ Turns.gives_up ]) (λ e. tt {0})
      (λ e. chosen b a Turns.gives_up (λ f. want-by-kept at (next v q e) _ v q) (λ f. tt {0}))

  end_kept : (v : View) → Placed n v → Answered n (Turns.end_turn v)
  unfolding Turns.end_turn
  end_kept v q =
      let w = settled 268435456 v in
      chosen (eqb (top_word w.stack / 32768) 7) (Turns.done w) Turns.gives_up (λ e. settled-placed n 268435456 v q) (λ e. tt {0})

  have-kept : (v : View) → Placed n v → Answered n (Turns.have_turn g v)
  unfolding Turns.have_turn
  have-kept v q =
      let at = v.left - 5 in
      let b = Turns.is_let g (Turns.op_of_place g at) in
      let a = Turns.have_by g (Turns.have_class (g.entry (Turns.op_of_place g at))) at v in
      chosen (eqb v.left 0) (Turns.end_turn v) (elim b [ true ↦ a | false ↦ Turns.gives_up ]) (λ e. end_kept v q)
      (λ e. chosen b a Turns.gives_up (λ f. have-by-kept at (next v q e) _ v q) (λ f. tt {0}))

  turn-kept : (a : Turns.Turning) → Answered n a → Answered n (Turns.turned_once g a)
  unfolding Turns.turned_once
  turn-kept (Turns.want v) q = want_kept v q
  turn-kept (Turns.have v) q = have-kept v q
  turn-kept (Turns.done v) q = q
  turn-kept Turns.gives_up q = q

  walked : {a b : Turns.Turning} → Turns.Walks g a b → Answered n a → Answered n b
  walked Turns.stays q = q
  walked (Turns.goes {b} w) q = turn-kept b (walked w q)

  -- THE RECORDS of a walk over n words.
  pub all_placed : (v : View) → n % 5 ≡ 0 → Turns.Walks g (Turns.want (Turns.start n)) (Turns.done v) → AllPlaced (Stands n) v.records
  unfolding Turns.start
  all_placed v h w =
      (walked w (record { left = h; within = omega arith; stack = more (record { whole = refl; inside = some }) none; records = none })).records
