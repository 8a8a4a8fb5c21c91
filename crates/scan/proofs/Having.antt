-- THE TURNS AFTER AN OPERAND HAS BEEN READ keep what holds of the walk: prefixes, operators, minuses, conditionals.
use Prim.Native.Nat.{ℕ, suc, ◌+◌, ◌*◌, ◌-◌, ◌/◌, ◌%◌, ◌≤◌, ◌<◌}
use mathlib.Core.Path.{◌≡◌, refl, ap, ap₂, sym, subst, ◌∙◌}
use mathlib.Core.{Bool.{Bool, true, false, ◌&&◌, ◌||◌, not, true≢false, false≢true, and-eq-true_iff}, List.{List, [], ◌∷◌}}
use mathlib.Core.Option.{Option, none}
use native.Mathlib.Omega.{arith}
use lib.{Dec.{eqb, leb, ltb}}
use borrow.Author.Tests.{leb-true, leb-false, le-leb, eqb-true, eq-eqb, ne_eqb, ltb-true}
use Rattle.molang.specs.Operator
use Rattle.molang.specs.{Operator.{is_operator}, Forest.{Token, nil, renamed}, Free.{is_prefix}, Order.{Rules}}
use Rattle.molang.specs.Grammar.{Text, tokens, rank, strength, outline, is_statement, is_infix, is_text, all_are, ends_operand, begins_with}
use Rattle.molang.specs.Grammar.{signed, trees}
use Rattle.molang.proofs.{Booleans.{either, never}, Computed.{computed}, Grammar.Given.{and_both}}
use Rattle.molang.specs.Grammar as Texts
use Rattle.scan.specs.{Laid.{Entry, laid_onto}, Entries.{token_at, entries_of}}
use Rattle.scan.specs.Views.{View, top_word, tail_of, read_from, pushed, popped, laid, taken, settled_lists, settled}
use Rattle.scan.specs.Turns.{Walking, gives_up, op_of_place, op_before, is_let, have_class, minus_class, grade_bits}
use Rattle.scan.specs.Turns.{operator_turn, wait_turn, question_turn, prefix_turn, subtract_turn, is_doubled, minus_turn}
use Rattle.scan.proofs.Frames.{Joint, plain, less, asks, lesses, chooses, Frames, outside, waits, colon, closes, front, after}
use Rattle.scan.proofs.Frames.{label_of, sign_of, held_by, laid_after, is_minus, has_minus, has_colon, rank_of, Joins, Stacked}
use Rattle.scan.proofs.Laying.{is_item, over-one, under-minus}
use Rattle.scan.proofs.Settling.{Operates, Pairs, StackIs, bottom, joint, pair, closer, Cuts, Stands, Settled, settles, cuts-after, cuts-at}
use Rattle.scan.proofs.Told.{infix_test, implies, implied}
use Rattle.scan.proofs.EntryLaws.{over-entry, minus-entry, operates, operates-minus, pairs-word}
use Rattle.scan.proofs.Reaching.{At, back, before-is, Seen, seen_more, begins-same}
use Rattle.scan.proofs.Kept.{Known, Expected, Awaits, Reads, Holds, reads-item, unsigned, ends-before, small}
use Rattle.scan.proofs.Joining.{Ranked, joins-plain, joins-less, joins-lesses, Asked, colons, joins-asks, joins-chooses}
use Rattle.scan.proofs.Wanting.{legal-at, branch}

-- A `:` waits on top.
data TopColon (T : List Token) (r : Rules) (grade : ℕ → ℕ) : Frames → List ℕ → Type 0 where
  top-colon : {c : Token} {e : Text} {W : Frames} {w : ℕ} {S : List ℕ} → Pairs T w c → StackIs T r grade W S
      → TopColon T r grade (colon c e W) (w ∷ S)

top-is-colon : (T : List Token) (r : Rules) (grade : ℕ → ℕ) (W : Frames) (S : List ℕ) → StackIs T r grade W S
    → top_word S / 67108864 % 2 ≡ 1 → TopColon T r grade W S
unfolding top_word
top-is-colon T r grade outside [] x4 l = elim x4 [ ]
top-is-colon T r grade outside (w ∷ (_ ∷ _)) x10 l = elim x10 [ ]
top-is-colon T r grade (waits j y W) [] x5 l = elim x5 [ ]
top-is-colon T r grade (colon k e W) [] x6 l = elim x6 [ ]
top-is-colon T r grade (closes c W) [] x7 l = elim x7 [ ]
top-is-colon T r grade outside (w ∷ []) (bottom z) l = let e : w / 67108864 ≡ 0 = omega (arith, z) in absurd (omega (arith, e, l))
top-is-colon T r grade (waits j y W) (w ∷ S) (joint o q) l = let a = o.plain in absurd (omega (arith, a, l))
top-is-colon T r grade (colon k e W) (w ∷ S) (pair o q) l = top-colon o q
top-is-colon T r grade (closes c W) (w ∷ S) (closer o q) l =
    let a = o.op in let b = o.small in let e : w / 67108864 ≡ 0 = omega (arith, a, b) in absurd (omega (arith, e, l))

module _ (r : Rules) (g : Walking) (h : Known r g) where
  abbrev T : List Token
  T = g.tokens

  abbrev grade : ℕ → ℕ
  grade = h.told.grade

  abbrev Ex : ℕ → Type 0
  Ex = Expected r g h

  -- A `:` on top shows in its word.
  colon-bit : (W : Frames) (S : List ℕ) → StackIs T r grade W S → has_colon W ≡ true → eqb (top_word S / 67108864 % 2) 1 ≡ true
  unfolding has_colon top_word
  colon-bit outside [] x4 c = elim x4 [ ]
  colon-bit outside (w ∷ (_ ∷ _)) x10 c = elim x10 [ ]
  colon-bit (waits j y W) [] x5 c = elim x5 [ ]
  colon-bit (colon k e W) [] x6 c = elim x6 [ ]
  colon-bit (closes d W) [] x7 c = elim x7 [ ]
  colon-bit outside (w ∷ []) (bottom z) c = absurd (false≢true c)
  colon-bit (waits j y W) (w ∷ S) (joint o q) c = absurd (false≢true c)
  colon-bit (colon k e W) (w ∷ S) (pair o q) c = ap (λ (n : ℕ). eqb (n % 2) 1) o.grade
  colon-bit (closes d W) (w ∷ S) (closer o q) c = absurd (false≢true c)

  colon-pairs : (W : Frames) → Stacked r Ex W → has_colon W ≡ true → r.pairs_right ≡ true
  unfolding has_colon
  colon-pairs outside s c = absurd (false≢true c)
  colon-pairs (waits j y W) s c = absurd (false≢true c)
  colon-pairs (colon k e W) s c = s.0.pairs
  colon-pairs (closes d W) s c = absurd (false≢true c)

  second-false : (a b : Bool) → (a && b) ≡ false → a ≡ true → b ≡ false
  second-false true b e t = e
  second-false false b e t = absurd (false≢true t)

  -- The operand that has been read settles the operators from a rank on.
  module _ (f m : ℕ) (cut : Cuts grade f m) (s : Option Token) (x : Text) (W : Frames) (L : List Token) (S R : List ℕ)
      (d : Stands T r grade Ex s x W L (record { stack = S; records = R })) where
    pub settling : Settled T r grade Ex m s x L (settled_lists (f * 134217728) S R)
    settling = settles T r grade Ex f m cut s L x W S R d d.stack

  -- ---- an operator that waits

  -- A joint, its word at the place, and what is to be known of it once those of a higher rank are settled.
  module _ (j : Joint) (n at f word : ℕ) (x : Text) (W : Frames) (L M : List Token) (left : ℕ) (S R : List ℕ)
      (d : Stands T r grade Ex (sign_of j) x W L (record { stack = S; records = R }))
      (cut : Cuts grade f (suc n)) (tight : rank r Operator.negate ≤ strength r x) (loose : n < rank r Operator.negate)
      (other : r.pairs_right ≡ true → n ≡ rank r Operator.conditional → ⊥)
      (above : r.pairs_right ≡ true → leb (f * 134217728) 671088640 ≡ false → rank r Operator.conditional ≤ n)
      (word_of : Operates T (at + word) (grade (rank_of r j)) (label_of j))
      (fronts : (y : List Token) → y ≡ L → front j y ≡ M)
      (holds : (L : List Entry) → held_by j L ≡ L)
      (joins : (y : Text) (X : Frames) → tokens y (after X) ≡ L → Ranked r Ex T grade n y X → Joins r j y X)
      (place : At T at M) (seen : Seen g M) (expects : is_minus j ≡ true → Ex (op_before g at)) where
    abbrev q : Settled T r grade Ex (suc n) (sign_of j) x L (settled_lists (f * 134217728) S R)
    q = settling f (suc n) cut (sign_of j) x W L S R d

    pub operator-kept : Holds r g h (operator_turn at word (f * 134217728) (record { left = left; stack = S; records = R }))
    unfolding operator_turn settled pushed read_from after laid_after has_minus
    operator-kept =
        branch r g h (eqb (top_word (settled_lists (f * 134217728) S R).stack / 67108864 % 2) 1 && leb (f * 134217728) 671088640) gives_up _ (λ b. tt) (λ b.
        let k = q.stands in
        let y = q.operand in
        let X = q.frames in
        let e : front j (tokens y (after X)) ≡ M = fronts (tokens y (after X)) k.read in
        let u = q.tight (omega (arith, tight, loose)) in
        record {
          frames = waits j y X;
          stacked = (
            joins y X k.read
                (record {
                  held = k.held;
                  low = q.low;
                  tight = u;
                  loose = loose;
                  other = other;
                  paired = λ c. above (colon-pairs X k.held.stacked c) (second-false _ _ b (colon-bit X (settled_lists (f * 134217728) S R).stack k.stack c));
                }),
            k.held.stacked,
          );
          stack = joint word_of k.stack;
          records = k.records ∙ sym (holds (laid_onto (trees (sign_of j) y nil) (laid_after X)));
          place = subst (At T at) (sym e) place;
          seen = subst (Seen g) (sym e) seen;
          expects = expects;
        })

  -- The number before a place is legal.
  legal-before : (at : ℕ) → is_operator (op_before g at) ≡ true
  unfolding op_before
  legal-before at = either (eqb at 0) (λ y. rw (y, op_before) (unfold computed in refl)) (λ y. rw (y, op_before) (legal-at r g h (at - 5)))

  -- What is told of an operator between operands.
  record Infix (n e : ℕ) : Type 0 where
    between : is_infix r n ≡ true
    graded : e / 134217728 ≡ grade (rank r n)
    loose : rank r n < rank r Operator.negate
    other : r.pairs_right ≡ true → rank r n ≡ rank r Operator.conditional → ⊥
    above : r.pairs_right ≡ true → 5 ≤ grade (rank r n) → rank r Operator.conditional ≤ rank r n

  either_way : (a b : Bool) → (a || b) ≡ true → (b ≡ false → a ≡ true)
  either_way true b e f = refl
  either_way false b e f = absurd (true≢false (sym e ∙ f))

  infix-of : (n e : ℕ) → infix_test r grade n e ≡ true → Infix n e
  unfolding infix_test
  infix-of n e t =
      let p = rank r Operator.conditional in
      let m = rank r n in
      let near = leb (suc m) p && leb (grade m) 4 in
      let far = leb (suc p) m in
      let a = (and-eq-true_iff (is_infix r n) _).0 t in
      let b = (and-eq-true_iff (eqb (e / 134217728) (grade m)) _).0 a.1 in
      let c = (and-eq-true_iff (leb (suc m) (rank r Operator.negate)) (implies r.pairs_right (near || far))).0 b.1 in
      let l = leb-true (suc m) (rank r Operator.negate) c.0 in
      record {
        between = a.0;
        graded = eqb-true (e / 134217728) (grade m) b.0;
        loose = l;
        other = λ s q. either far
            (λ y. let d = leb-true (suc p) m y in omega (arith, d, q))
            (λ y. let x = (and-eq-true_iff (leb (suc m) p) (leb (grade m) 4)).0 (either_way near far (implied r.pairs_right (near || far) c.1 s) y) in
            let d = leb-true (suc m) p x.0 in omega (arith, d, q));
        above = λ s q. either far
            (λ y. let d = leb-true (suc p) m y in omega (arith, d))
            (λ y. let x = (and-eq-true_iff (leb (suc m) p) (leb (grade m) 4)).0 (either_way near far (implied r.pairs_right (near || far) c.1 s) y) in
            let d = leb-true (grade m) 4 x.1 in absurd (omega (arith, d, q)));
      }

  -- ---- the turns

  module _ (v : View) (a : Reads r g h v) (z : eqb v.left 0 ≡ false) (u : is_let g (op_of_place g (v.left - 5)) ≡ true) where
    abbrev at : ℕ
    at = v.left - 5

    abbrev k : Token
    k = token_at T at

    abbrev x : Text
    x = a.operand

    abbrev W : Frames
    W = a.frames

    abbrev L : List Token
    L = a.read

    here : At T at (k ∷ L)
    here = back a.place z

    low : at < 32768
    low = small r g h at (k ∷ L) here

    seen_here : Seen g (k ∷ L)
    unfolding op_of_place
    seen_here = seen_more g k L u a.seen

    -- After a minus no minus stands first.
    unsigned-now : eqb k.op Operator.negate ≡ true → begins_with Operator.negate L ≡ false
    unfolding op_of_place
    unsigned-now e =
        never (begins_with Operator.negate L)
        (λ b. let f : eqb (op_of_place g at) Operator.negate ≡ false =
        subst (λ (n : ℕ). eqb n Operator.negate ≡ false) (before-is g v.left z) (a.signs b) in
        true≢false (sym e ∙ f))

    begins-now : (y : Text) (X : Frames) → tokens y (after X) ≡ L → begins_with Operator.negate L ≡ false
        → begins_with Operator.negate (tokens y []) ≡ false
    begins-now y X e b = begins-same Operator.negate y [] (after X) ∙ ap (begins_with Operator.negate) e ∙ b

    -- A minus or not before its operand.
    prefix-by : is_prefix k.op ≡ true → rank r k.op ≡ rank r Operator.negate
        → (eqb k.op Operator.negate && begins_with Operator.negate (tokens x [])) ≡ false
        → (begins_with Operator.negate (k ∷ L) ≡ true → eqb (op_before g at) Operator.negate ≡ false)
        → Holds r g h (prefix_turn at v)
    unfolding prefix_turn laid read_from entries_of tokens trees signed is_text strength outline is_statement is_item ends_operand
    prefix-by p e b s =
        let t = a.tight in
        let d = a.stands.held in
        reads-item r g h (Texts.prefix k x) W at v.stack ((at + 262144) ∷ v.records) (k ∷ L)
        (record {
          text =
              and_both _ (is_text r x)
              (and_both _ (not (eqb k.op Operator.negate && begins_with Operator.negate (tokens x [])))
              (and_both (is_prefix k.op) (leb (rank r k.op) (strength r x)) p (le-leb (rank r k.op) (strength r x) (omega (arith, t, e)))) (ap not b))
              d.text;
          stated = refl;
          item = refl;
          tight = omega (arith, e);
          shut = refl;
          ends = λ m. ends-before r g h x W d.fits m;
        }) d.stacked a.stands.stack
        (ap₂ (λ (i : Entry) (M : List Entry). i ∷ M) (over-entry T at low) a.stands.records ∙ sym (over-one k x (laid_after W) d.stated))
        (ap (λ (M : List Token). k ∷ M) a.stands.read) here seen_here s

    pub not-kept : eqb (have_class (g.entry (op_of_place g at))) 4 ≡ true → Holds r g h (prefix_turn at v)
    unfolding op_of_place is_prefix
    not-kept c =
        let e = eqb-true k.op Operator.logical_not (h.told.not (op_of_place g at) (legal-at r g h at) c) in
        let d : eqb k.op Operator.negate ≡ false = ne_eqb k.op Operator.negate (λ i. omega (arith, e, i)) in
        prefix-by (rw (d, is_prefix) (eq-eqb k.op Operator.logical_not e)) (ap (rank r) e ∙ h.told.signs)
        (ap (λ (b : Bool). b && begins_with Operator.negate (tokens x [])) d) (unsigned r g h k L _ d)

    sign_kept : eqb (have_class (g.entry (op_of_place g at))) 3 ≡ true → eqb (minus_class (g.entry (op_before g at))) 1 ≡ true
        → Holds r g h (prefix_turn at v)
    unfolding op_of_place is_prefix
    sign_kept c d =
        let i = h.told.minus (op_of_place g at) (legal-at r g h at) c in
        let e = eqb-true k.op Operator.negate i in
        let f = begins-now x W a.stands.read (unsigned-now i) in
        prefix-by (rw (i, is_prefix) refl) (ap (rank r) e) (ap₂ (λ (b c : Bool). b && c) i f)
        (λ b. h.told.unary (op_before g at) (legal-before at) d)

    -- An operator.
    pub between-kept : eqb (have_class (g.entry (op_of_place g at))) 1 ≡ true
        → Holds r g h (operator_turn at (524288 + grade_bits (g.entry (op_of_place g at))) (grade_bits (g.entry (op_of_place g at)) + 134217728) v)
    unfolding grade_bits op_of_place sign_of front held_by is_minus rank_of label_of
    between-kept c =
        let e = g.entry k.op in
        let n = rank r k.op in
        let i = infix-of k.op e (h.told.between k.op (legal-at r g h at) c) in
        let w : e / 134217728 * 134217728 ≡ grade n * 134217728 = ap (λ (m : ℕ). m * 134217728) i.graded in
        let f : grade n * 134217728 + 134217728 ≡ suc (grade n) * 134217728 = omega arith in
        let one = h.told.ground n in
        rw (w, f)
        (operator-kept (plain k) n at (suc (grade n)) (524288 + grade n * 134217728) x W L (k ∷ L) v.left v.stack v.records a.stands
        (cuts-after grade h.told.ordered n one) a.tight i.loose i.other
        (λ s b. let d = leb-false (suc (grade n) * 134217728) 671088640 b in i.above s (omega (arith, d)))
        (operates T at low (grade n)) (λ y q. ap (λ (M : List Token). k ∷ M) q) (λ M. refl) (λ y X q d. joins-plain r Ex T grade k y X i.between d) here seen_here
        (λ m. absurd (false≢true m)))

    -- ---- minuses

    -- The number after the grade of a plus cuts behind its rank.
    cut-plus : Cuts grade 16 (suc (rank r Operator.add))
    cut-plus =
        let e : suc (grade (rank r Operator.add)) ≡ 16 = ap suc h.told.plus in
        subst (λ (f : ℕ). Cuts grade f (suc (rank r Operator.add))) e
        (cuts-after grade h.told.ordered (rank r Operator.add) (h.told.ground (rank r Operator.add)))

    other-plus : r.pairs_right ≡ true → rank r Operator.add ≡ rank r Operator.conditional → ⊥
    other-plus s e = let d = h.told.conditional in omega (arith, d, e)

    above-plus : r.pairs_right ≡ true → leb 2147483648 671088640 ≡ false → rank r Operator.conditional ≤ rank r Operator.add
    above-plus s b = let d = h.told.conditional in omega (arith, d)

    -- A minus between operands.
    subtract-kept : eqb (have_class (g.entry (op_of_place g at))) 3 ≡ true → eqb (minus_class (g.entry (op_before g at))) 2 ≡ true
        → Holds r g h (subtract_turn at v)
    unfolding subtract_turn laid op_of_place sign_of front held_by is_minus rank_of label_of entries_of
    subtract-kept c d =
        let i = h.told.minus (op_of_place g at) (legal-at r g h at) c in
        let b = unsigned-now i in
        let s = a.stands in
        let p = h.told.plus in
        operator-kept (less k) (rank r Operator.add) at 16 2013822976 x W L (k ∷ L) v.left v.stack ((at + 327680) ∷ v.records)
        (record {
          held = s.held;
          stack = s.stack;
          records =
              ap₂ (λ (i : Entry) (M : List Entry). i ∷ M) (minus-entry T at low) s.records ∙ sym (under-minus k x (laid_after W) a.item);
          read = s.read;
        })
        cut-plus a.tight h.told.sum other-plus above-plus
        (subst (λ (m : ℕ). Operates T (at + 2013822976) m (renamed Operator.add k)) (sym p) (operates-minus T at low 15))
        (λ y q. ap (λ (M : List Token). k ∷ M) q) (λ M. refl)
        (λ y X q n. joins-less r Ex T grade k y X i (begins-now y X q b) n) here seen_here (λ m. d)

    -- Two of them.
    pair-kept : eqb (have_class (g.entry (op_of_place g at))) 3 ≡ true → is_doubled g at ≡ true
        → Holds r g h (operator_turn (at - 5) 2013822976 2147483648 v)
    unfolding is_doubled op_of_place sign_of front held_by is_minus rank_of label_of all_are
    pair-kept c d =
        let i = h.told.minus (op_of_place g at) (legal-at r g h at) c in
        let b = unsigned-now i in
        let l = token_at T (at - 5) in
        let e = (and-eq-true_iff (ltb 5 at) (eqb l.op Operator.negate && eqb (minus_class (g.entry (op_of_place g (at - 10)))) 2)).0 d in
        let f = (and-eq-true_iff (eqb l.op Operator.negate) (eqb (minus_class (g.entry (op_of_place g (at - 10)))) 2)).0 e.1 in
        let five = ltb-true 5 at e.0 in
        let y : eqb at 0 ≡ false = ne_eqb at 0 (λ q. omega (arith, five, q)) in
        let y5 : eqb (at - 5) 0 ≡ false = ne_eqb (at - 5) 0 (λ q. omega (arith, five, q)) in
        let there = back here y in
        let lowl = small r g h (at - 5) (l ∷ k ∷ L) there in
        let same : l.op ≡ k.op = eqb-true l.op Operator.negate f.0 ∙ sym (eqb-true k.op Operator.negate i) in
        let ten : at - 5 - 5 ≡ at - 10 = omega arith in
        let p = h.told.plus in
        operator-kept (lesses l k) (rank r Operator.add) (at - 5) 16 2013822976 x W L (l ∷ k ∷ L) v.left v.stack v.records a.stands
        cut-plus a.tight h.told.sum other-plus above-plus
        (subst (λ (m : ℕ). Operates T (at - 5 + 2013822976) m (renamed Operator.add l)) (sym p) (operates-minus T (at - 5) lowl 15))
        (λ y q. ap (λ (M : List Token). l ∷ k ∷ M) q) (λ M. refl)
        (λ y X q n. joins-lesses r Ex T grade l k y X (and_both (eqb l.op Operator.negate) _ f.0 (and_both (eqb k.op Operator.negate) true i refl))
        (begins-now y X q b) n)
        there (seen_more g l (k ∷ L) (ap (is_let g) same ∙ u) seen_here)
        (λ m. subst (λ (n : ℕ). Ex n) (sym (before-is g (at - 5) y5 ∙ ap (op_of_place g) ten)) f.1)

    pub minus-kept : eqb (have_class (g.entry (op_of_place g at))) 3 ≡ true → Holds r g h (minus_turn g at v)
    unfolding minus_turn
    minus-kept c =
        branch r g h (eqb (minus_class (g.entry (op_before g at))) 1) _ _ (λ d. sign_kept c d) (λ n.
        branch r g h (eqb (minus_class (g.entry (op_before g at))) 2) _ _ (λ d. subtract-kept c d) (λ n.
        branch r g h (is_doubled g at) _ _ (λ d. pair-kept c d) (λ n. tt)))

    -- ---- conditionals that pair to the right

    module _ (s : r.pairs_right ≡ true) where
      abbrev p : ℕ
      p = rank r Operator.conditional

      six : grade p ≡ 6
      six = h.told.question s

      cut-ask : Cuts grade 6 p
      cut-ask = let e = six in subst (λ (f : ℕ). Cuts grade f p) e (cuts-at grade h.told.ordered p (omega (arith, e)))

      loose-ask : p < rank r Operator.negate
      loose-ask = let a = h.told.conditional in let b = h.told.sum in omega (arith, a, b)

      abbrev settled_ask : Settled T r grade Ex p none x L (settled_lists 805306368 v.stack v.records)
      settled_ask = settling 6 p cut-ask none x W L v.stack v.records a.stands

      abbrev topped : List ℕ
      topped = (settled_lists 805306368 v.stack v.records).stack

      asked : Asked r Ex T grade settled_ask.operand settled_ask.frames
      asked =
          let t = a.tight in
          let l = loose-ask in
          record { held = settled_ask.stands.held; low = settled_ask.low; tight = settled_ask.tight (omega (arith, t, l)); loose = l; pairs = s }

      colon-by : k.op ≡ Operator.conditional_else → Holds r g h (operator_turn at 67633152 805306368 v)
      unfolding operator_turn settled pushed read_from after laid_after has_minus
      colon-by i =
          branch r g h (eqb (top_word topped / 67108864 % 2) 1 && leb 805306368 671088640) gives_up _ (λ b. tt) (λ b.
          let t = settled_ask.stands in
          let e : k ∷ tokens settled_ask.operand (after settled_ask.frames) ≡ k ∷ L = ap (λ (M : List Token). k ∷ M) t.read in
          record {
            frames = colon k settled_ask.operand settled_ask.frames;
            stacked = (colons r Ex T grade k settled_ask.operand settled_ask.frames i asked, t.held.stacked);
            stack = pair (pairs-word T at low) t.stack;
            records = t.records;
            place = subst (At T at) (sym e) here;
            seen = subst (Seen g) (sym e) seen_here;
            expects = λ m. absurd (false≢true m);
          })

      -- A `?` with its `:`.
      chooses-by : (y : Text) (X : Frames) (S R : List ℕ) → TopColon T r grade X S
          → Stands T r grade Ex none y X L (record { stack = S; records = R }) → k.op ≡ Operator.conditional
          → Awaits r g h (pushed (at + 805830656) (read_from at (taken (record { left = v.left; stack = S; records = R }))))
      unfolding taken popped laid tail_of top_word pushed read_from after front laid_after held_by sign_of has_minus is_minus rank_of label_of entries_of
      chooses-by y outside S R x4 t i = elim x4 [ ]
      chooses-by y (waits _ _ _) S R x8 t i = elim x8 [ ]
      chooses-by y (colon c e X) [] R x9 t i = elim x9 [ ]
      chooses-by y (closes _ _) S R x9 t i = elim x9 [ ]
      chooses-by y (colon c e X) (w ∷ S) R (top-colon o n) t i =
          let d = t.held in
          let f : k ∷ tokens y (c ∷ tokens e (after X)) ≡ k ∷ L = ap (λ (M : List Token). k ∷ M) t.read in
          record {
            frames = waits (chooses k c y) e X;
            stacked = (joins-chooses r Ex T grade k c y e X i loose-ask d.text d.stated d.fits d.stacked.0, d.stacked.1);
            stack =
                joint (subst (λ (m : ℕ). Operates T (at + 805830656) m k) (sym (ap (λ (n : ℕ). grade (rank r n)) i ∙ six)) (operates T at low 6)) n;
            records = ap₂ (λ (i : Entry) (M : List Entry). i ∷ M) o.entry t.records;
            place = subst (At T at) (sym f) here;
            seen = subst (Seen g) (sym f) seen_here;
            expects = λ m. absurd (false≢true m);
          }

      -- A `?` without one.
      asks-by : k.op ≡ Operator.conditional → eqb (top_word topped / 67108864 % 2) 1 ≡ false
          → Awaits r g h (pushed (at + 805830656) (read_from at (settled 805306368 v)))
      unfolding settled pushed read_from after front laid_after held_by sign_of has_minus is_minus rank_of label_of
      asks-by i b =
          let t = settled_ask.stands in
          let e : k ∷ tokens settled_ask.operand (after settled_ask.frames) ≡ k ∷ L = ap (λ (M : List Token). k ∷ M) t.read in
          let f : has_colon settled_ask.frames ≡ false =
          never (has_colon settled_ask.frames) (λ c. true≢false (sym (colon-bit settled_ask.frames topped t.stack c) ∙ b)) in
          record {
            frames = waits (asks k) settled_ask.operand settled_ask.frames;
            stacked = (joins-asks r Ex T grade k settled_ask.operand settled_ask.frames i f asked, t.held.stacked);
            stack =
                joint (subst (λ (m : ℕ). Operates T (at + 805830656) m k) (sym (ap (λ (n : ℕ). grade (rank r n)) i ∙ six)) (operates T at low 6))
                t.stack;
            records = t.records;
            place = subst (At T at) (sym e) here;
            seen = subst (Seen g) (sym e) seen_here;
            expects = λ m. absurd (false≢true m);
          }

      question-by : k.op ≡ Operator.conditional → Holds r g h (question_turn at v)
      unfolding question_turn wait_turn settled
      question-by i =
          branch r g h (eqb (top_word topped / 67108864 % 2) 1) _ _
          (λ b. chooses-by settled_ask.operand settled_ask.frames topped (settled_lists 805306368 v.stack v.records).records
          (top-is-colon T r grade settled_ask.frames topped settled_ask.stands.stack (eqb-true (top_word topped / 67108864 % 2) 1 b)) settled_ask.stands i)
          (λ b. asks-by i b)

    pub colon-kept : eqb (have_class (g.entry (op_of_place g at))) 8 ≡ true → Holds r g h (operator_turn at 67633152 805306368 v)
    unfolding op_of_place
    colon-kept c =
        let b = (and-eq-true_iff r.pairs_right (eqb k.op Operator.conditional_else)).0 (h.told.colon (op_of_place g at) (legal-at r g h at) c) in
        colon-by b.0 (eqb-true k.op Operator.conditional_else b.1)

    pub question-kept : eqb (have_class (g.entry (op_of_place g at))) 7 ≡ true → Holds r g h (question_turn at v)
    unfolding op_of_place
    question-kept c =
        let b = (and-eq-true_iff r.pairs_right (eqb k.op Operator.conditional)).0 (h.told.asks (op_of_place g at) (legal-at r g h at) c) in
        question-by b.0 (eqb-true k.op Operator.conditional b.1)
