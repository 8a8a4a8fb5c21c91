-- WHAT MAY WAIT NEXT: an operator once those of a higher rank are settled, a `:` and a `?` once conditionals are.
use Prim.Native.Nat.{ℕ, suc, ◌≤◌, ◌<◌}
use mathlib.Core.Path.{◌≡◌, refl, ap, sym, subst, ◌∙◌}
use mathlib.Core.{Bool.{true, false, not, true≢false, false≢true}, List.{List, [], ◌∷◌}}
use native.Mathlib.Omega.{arith}
use lib.Dec.{eqb, leb}
use borrow.Author.Tests.{le-leb, eq-eqb}
use Rattle.molang.specs.Operator
use Rattle.molang.specs.{Operator.{before_minus}, Forest.{Token}, Order.{Rules}}
use Rattle.molang.specs.Grammar.{Text, tokens, rank, strength, outline, fits, is_infix, is_text, all_are, ends_operand, begins_with}
use Rattle.molang.proofs.{Booleans.{either}, Grammar.Given.{and_both}}
use Rattle.molang.specs.Grammar as Texts
use Rattle.scan.proofs.Frames.{Joint, plain, less, asks, lesses, chooses, Frames, outside, waits, colon, closes, build}
use Rattle.scan.proofs.Frames.{is_ask, is_minus, has_colon, rank_of, left_rank, Stated, FitsBetween, Fits, Joins, Colons, Stacked}
use Rattle.scan.proofs.Settling.{Low, Held}

module _ (r : Rules) (Expected : ℕ → Type 0) where
  abbrev p : ℕ
  p = rank r Operator.conditional

  left-plain : (j : Joint) → is_ask j ≡ false → left_rank r j ≡ rank_of r j
  unfolding is_ask left_rank rank_of
  left-plain (plain k) h = refl
  left-plain (less k) h = refl
  left-plain (asks q) h = absurd (true≢false h)
  left-plain (lesses k l) h = refl
  left-plain (chooses q k t) h = absurd (true≢false h)

  left-ask : (j : Joint) → is_ask j ≡ true → left_rank r j ≡ suc (rank_of r j)
  unfolding is_ask left_rank rank_of
  left-ask (plain k) h = absurd (false≢true h)
  left-ask (less k) h = absurd (false≢true h)
  left-ask (asks q) h = refl
  left-ask (lesses k l) h = absurd (false≢true h)
  left-ask (chooses q k t) h = refl

  -- A minus after a text sees the text's last item.
  ends-alike : (t x : Text) → (outline t).last ≡ (outline x).last → ends_operand x ≡ true → ends_operand t ≡ true
  unfolding ends_operand
  ends-alike t x e h = subst (λ (n : ℕ). elim (before_minus n)
      [ Operator.operand ↦ true | Operator.operator ↦ false | Operator.minus ↦ false | Operator.unknown ↦ false ] ≡ true) (sym e) h

  module _ (T : List Token) (grade : ℕ → ℕ) where
    -- A text of rank n, over an operand that fits, fits if what waits on top has no higher rank.
    pub fits-joint : (t x : Text) (W : Frames) (n : ℕ) → strength r t ≡ n → (outline t).is_open ≡ false → (outline t).last ≡ (outline x).last
        → Fits r x W → Low T r grade Expected (suc n) W → Stacked r Expected W → (r.pairs_right ≡ true → n ≡ p → ⊥)
        → (has_colon W ≡ true → p ≤ n) → Fits r t W
    unfolding has_colon
    fits-joint t x outside n s o l f low k a c = tt
    fits-joint t x (waits j y W) n s o l f low k a c =
        record { tight = either (is_ask j) asking plainly; ends = λ m. ends-alike t x l (f.ends m) }
      where
        asking : is_ask j ≡ true → left_rank r j ≤ strength r t
        asking e =
            let b = k.0.asking e in
            let d = b.1 in
            let q = left-ask j e in
            let ne : ¬ (n ≡ p) = a b.0 in omega (arith, s, low, d, q, ne)

        plainly : is_ask j ≡ false → left_rank r j ≤ strength r t
        plainly e = let q = left-plain j e in omega (arith, s, low, q)
    fits-joint t x (colon q d W) n s o l f low k a c =
        let b = c refl in record { tight = omega (arith, s, b); shut = o }
    fits-joint t x (closes d W) n s o l f low k a c = tt

    -- A conditional fits if what waits on top has a lower rank; if a `:` does, it must not be open.
    pub fits-ask : (t x : Text) (W : Frames) → strength r t ≡ p → (has_colon W ≡ true → (outline t).is_open ≡ false)
        → (outline t).last ≡ (outline x).last → Fits r x W → Low T r grade Expected p W → Stacked r Expected W → Fits r t W
    unfolding has_colon
    fits-ask t x outside s o l f low k = tt
    fits-ask t x (waits j y W) s o l f low k =
        record { tight = either (is_ask j) asking plainly; ends = λ m. ends-alike t x l (f.ends m) }
      where
        asking : is_ask j ≡ true → left_rank r j ≤ strength r t
        asking e = let b = k.0.asking e in let d = b.1 in absurd (omega (arith, low, d))

        plainly : is_ask j ≡ false → left_rank r j ≤ strength r t
        plainly e = let q = left-plain j e in omega (arith, s, low, q)
    fits-ask t x (colon q d W) s o l f low k = record { tight = omega (arith, s); shut = o refl }
    fits-ask t x (closes d W) s o l f low k = tt

    pub record Ranked (n : ℕ) (x : Text) (W : Frames) : Type 0 where
      pub held : Held T r grade Expected x W
      pub low : Low T r grade Expected (suc n) W
      pub tight : suc n ≤ strength r x
      pub loose : n < rank r Operator.negate
      pub other : r.pairs_right ≡ true → n ≡ p → ⊥
      pub paired : has_colon W ≡ true → p ≤ n

    fits_both : (n : ℕ) (x y : Text) → rank r n ≤ strength r x → suc (rank r n) ≤ strength r y → fits r n x y ≡ true
    unfolding fits
    fits_both n x y a b =
        and_both (leb (rank r n) (strength r x)) (leb (suc (rank r n)) (strength r y)) (le-leb (rank r n) (strength r x) a)
        (le-leb (suc (rank r n)) (strength r y) b)

    none_between : (j : Joint) → is_ask j ≡ false → (q k : Token) (t : Text) → j ≡ chooses q k t → Stated t
    unfolding is_ask
    none_between j e q k t i = absurd (true≢false (sym (ap is_ask i) ∙ e))

    -- An operator.
    pub joins-plain : (k : Token) (y : Text) (W : Frames) → is_infix r k.op ≡ true → Ranked (rank r k.op) y W → Joins r (plain k) y W
    unfolding build is_text strength outline is_minus is_ask left_rank
    joins-plain k y W i n =
        let c = n.loose in
        record {
          text = λ x h f.
              and_both _ (is_text r y) (and_both _ (is_text r x) (and_both (is_infix r k.op) (fits r k.op x y) i (fits_both k.op x y f.tight n.tight)) h)
              n.held.text;
          fits = λ x. fits-joint (Texts.between k x y) y W (rank r k.op) refl refl refl n.held.fits n.low n.held.stacked n.other n.paired;
          loose = omega (arith, c);
          asking = λ e. absurd (false≢true e);
          stated = n.held.stated;
          between = none_between (plain k) refl;
        }

    -- A minus.
    pub joins-less : (k : Token) (y : Text) (W : Frames) → eqb k.op Operator.negate ≡ true → begins_with Operator.negate (tokens y []) ≡ false
        → Ranked (rank r Operator.add) y W → Joins r (less k) y W
    unfolding build is_text strength outline is_minus is_ask left_rank
    joins-less k y W i b n =
        let c = n.loose in
        record {
          text = λ x h f.
              and_both _ (is_text r y)
              (and_both _ (is_text r x)
              (and_both _ (fits r Operator.add x y)
              (and_both _ (not (begins_with Operator.negate (tokens y []))) (and_both (eqb k.op Operator.negate) (ends_operand x) i (f.ends refl)) (ap not b))
              (fits_both Operator.add x y f.tight n.tight)) h)
              n.held.text;
          fits = λ x. fits-joint (Texts.minus k x y) y W (rank r Operator.add) refl refl refl n.held.fits n.low n.held.stacked n.other n.paired;
          loose = omega (arith, c);
          asking = λ e. absurd (false≢true e);
          stated = n.held.stated;
          between = none_between (less k) refl;
        }

    -- Two of them.
    pub joins-lesses : (k l : Token) (y : Text) (W : Frames) → all_are Operator.negate (k ∷ l ∷ []) ≡ true
        → begins_with Operator.negate (tokens y []) ≡ false → Ranked (rank r Operator.add) y W → Joins r (lesses k l) y W
    unfolding build is_text strength outline is_minus is_ask left_rank
    joins-lesses k l y W i b n =
        let c = n.loose in
        record {
          text = λ x h f.
              and_both _ (is_text r y)
              (and_both _ (is_text r x)
              (and_both _ (fits r Operator.add x y)
              (and_both _ (not (begins_with Operator.negate (tokens y [])))
              (and_both (all_are Operator.negate (k ∷ l ∷ [])) (ends_operand x) i (f.ends refl)) (ap not b))
              (fits_both Operator.add x y f.tight n.tight)) h)
              n.held.text;
          fits = λ x. fits-joint (Texts.minuses k l x y) y W (rank r Operator.add) refl refl refl n.held.fits n.low n.held.stacked n.other n.paired;
          loose = omega (arith, c);
          asking = λ e. absurd (false≢true e);
          stated = n.held.stated;
          between = none_between (lesses k l) refl;
        }

    pub record Asked (x : Text) (W : Frames) : Type 0 where
      pub held : Held T r grade Expected x W
      pub low : Low T r grade Expected p W
      pub tight : p ≤ strength r x
      pub loose : p < rank r Operator.negate
      pub pairs : r.pairs_right ≡ true

    -- What fits before a `:` that waits on top is not open.
    shut-before : (x : Text) (W : Frames) → Fits r x W → has_colon W ≡ true → (outline x).is_open ≡ false
    unfolding has_colon
    shut-before x outside f c = absurd (false≢true c)
    shut-before x (waits j y W) f c = absurd (false≢true c)
    shut-before x (colon k e W) f c = f.shut
    shut-before x (closes k W) f c = absurd (false≢true c)

    -- A `:`.
    pub colons : (k : Token) (e : Text) (W : Frames) → k.op ≡ Operator.conditional_else → Asked e W → Colons r k e W
    unfolding strength outline
    colons k e W i n =
        record {
          op = i;
          pairs = n.pairs;
          text = n.held.text;
          tight = n.tight;
          fits = λ q x t o. fits-ask (Texts.chosen q k x t e) e W (ap (rank r) o) (shut-before e W n.held.fits) refl n.held.fits n.low n.held.stacked;
          stated = n.held.stated;
        }

    -- A `?` if no `:` waits on top.
    pub joins-asks : (q : Token) (y : Text) (W : Frames) → q.op ≡ Operator.conditional → has_colon W ≡ false → Asked y W → Joins r (asks q) y W
    unfolding build is_text strength outline is_minus is_ask left_rank rank_of
    joins-asks q y W i c n =
        let d = n.loose in
        let e : rank r q.op ≡ p = ap (rank r) i in
        record {
          text = λ x h f.
              let t = f.tight in
              and_both _ (is_text r y)
              (and_both _ (is_text r x)
              (and_both _ (leb p (strength r y))
              (and_both _ (leb (suc p) (strength r x)) (and_both r.pairs_right (eqb q.op Operator.conditional) n.pairs (eq-eqb q.op Operator.conditional i))
              (le-leb (suc p) (strength r x) (omega (arith, t, e))))
              (le-leb p (strength r y) n.tight)) h)
              n.held.text;
          fits = λ x. fits-ask (Texts.choice q x y) y W e (λ z. absurd (true≢false (sym z ∙ c))) refl n.held.fits n.low n.held.stacked;
          loose = omega (arith, d, e);
          asking = λ z. (n.pairs, e);
          stated = n.held.stated;
          between = λ a b t z. absurd (no-choice a b t z);
        }
      where
        no-choice : (a b : Token) (t : Text) → asks q ≡ chooses a b t → ⊥
        no-choice a b t z = let s : ◌≡◌ {A = ℕ} 0 1 = cc in omega arith

    -- A `?` if one does: the `:` is its own.
    pub joins-chooses : (q k : Token) (t e : Text) (W : Frames) → q.op ≡ Operator.conditional → p < rank r Operator.negate
        → is_text r t ≡ true → Stated t → FitsBetween r t → Colons r k e W → Joins r (chooses q k t) e W
    unfolding build is_text strength outline is_minus is_ask left_rank rank_of
    joins-chooses q k t e W i d text stated f c =
        let j : rank r q.op ≡ p = ap (rank r) i in
        record {
          text = λ x h b.
              let u = b.tight in
              and_both _ (is_text r e)
              (and_both _ (is_text r t)
              (and_both _ (is_text r x)
              (and_both _ (leb p (strength r e))
              (and_both _ (not (outline t).is_open)
              (and_both _ (leb p (strength r t))
              (and_both _ (leb (suc p) (strength r x))
              (and_both _ (eqb k.op Operator.conditional_else)
              (and_both r.pairs_right (eqb q.op Operator.conditional) c.pairs (eq-eqb q.op Operator.conditional i))
              (eq-eqb k.op Operator.conditional_else c.op))
              (le-leb (suc p) (strength r x) (omega (arith, u, j))))
              (le-leb p (strength r t) f.tight))
              (ap not f.shut))
              (le-leb p (strength r e) c.tight)) h) text) c.text;
          fits = λ x. c.fits q x t i;
          loose = omega (arith, d, j);
          asking = λ z. (c.pairs, j);
          stated = c.stated;
          between = λ a b u z. subst Stated (same z) stated;
        }
      where
        same : {a b : Token} {u : Text} → chooses q k t ≡ chooses a b u → t ≡ u
        same z = cc
