-- THE TURNS BY WHICH AN OPERAND IS WANTED keep what holds of the walk: a leaf, a closer, an empty math call.
use Prim.Native.Nat.{ℕ, ◌+◌, ◌*◌, ◌-◌, ◌/◌, ◌%◌, ◌≤◌, ◌<◌}
use mathlib.Core.Path.{◌≡◌, refl, ap, ap₂, sym, subst, ◌∙◌}
use mathlib.Core.{Bool.{Bool, true, false, ◌&&◌, not, false≢true, and-eq-true_iff}, List.{List, [], ◌∷◌}}
use native.Mathlib.Omega.{arith}
use lib.{Dec.{eqb, leb, ltb}, ListN.{drop}}
use borrow.Author.Tests.{leb-true, eqb-true, eq-eqb, ne_eqb, not-true, ltb-true}
use Rattle.molang.specs.Operator
use Rattle.molang.{specs.Operator.{is_operator, is_math_call}, specs.Forest.{Token, count, closed_by}, specs.Order.{Rules}}
use Rattle.molang.specs.Grammar.{Text, tokens, rank, strength, outline, is_statement, is_text, is_pair, is_round, ends_operand, begins_with}
use Rattle.molang.{specs.Grammar.{signed, trees}, proofs.Grammar.Given.{and_both}}
use Rattle.molang.specs.Grammar as Texts
use Rattle.scan.specs.{Laid.{Entry, laid_onto}, Entries.{token_at, entries_of}}
use Rattle.scan.specs.Views.{View, top_word, tail_of, read_from, pushed, popped, laid}
use Rattle.scan.specs.Turns.{Walking, Turning, gives_up, op_of_place, is_let, want_class, minus_class, call_class}
use Rattle.scan.specs.Turns.{section_laid, call_laid, leaf_turn, closer_turn, is_empty_call, empty_turn, want_by, want_turn}
use Rattle.scan.proofs.Frames.{placed, Frames, outside, waits, colon, closes, after, laid_after, has_minus, rank_of}
use Rattle.scan.proofs.{Frames.{Stacked}, Laying.{is_item}, Settling.{StackIs, bottom, joint, pair, closer, Closes}}
use Rattle.scan.proofs.Told.{leaf_test, binary_test, math_test, ends_before, implies, implied}
use Rattle.scan.proofs.EntryLaws.{leaf-entry, over-entry, section-entry}
use Rattle.scan.proofs.Reaching.{At, back, token-there, before-is, Seen, seen_more}
use Rattle.scan.proofs.Kept.{Known, Awaits, Reads, Holds, reads-item, unsigned, small}

-- A closer waits on top.
pub data TopCloser (T : List Token) (r : Rules) (grade : ℕ → ℕ) : Frames → List ℕ → Type 0 where
  top-closer : {c : Token} {W : Frames} {w : ℕ} {S : List ℕ} → Closes T w c W → StackIs T r grade W S
      → TopCloser T r grade (closes c W) (w ∷ S)

pub top-is-closer : (T : List Token) (r : Rules) (grade : ℕ → ℕ) → ((j : ℕ) → 1 ≤ grade j) → (W : Frames) (S : List ℕ)
    → StackIs T r grade W S → top_word S / 32768 ≤ 5 → TopCloser T r grade W S
unfolding top_word
top-is-closer T r grade one outside [] x4 l = elim x4 [ ]
top-is-closer T r grade one outside (w ∷ (_ ∷ _)) x10 l = elim x10 [ ]
top-is-closer T r grade one (waits j y W) [] x5 l = elim x5 [ ]
top-is-closer T r grade one (colon k e W) [] x6 l = elim x6 [ ]
top-is-closer T r grade one (closes c W) [] x7 l = elim x7 [ ]
top-is-closer T r grade one outside (w ∷ []) (bottom z) l = absurd (omega (arith, z, l))
top-is-closer T r grade one (waits j y W) (w ∷ S) (joint o q) l =
    let a = o.grade in let b = one (rank_of r j) in absurd (omega (arith, a, b, l))
top-is-closer T r grade one (colon k e W) (w ∷ S) (pair o q) l = let a = o.grade in absurd (omega (arith, a, l))
top-is-closer T r grade one (closes c W) (w ∷ S) (closer o q) l = top-closer o q

-- A round bracket, by its opener and closer.
pub round : (o c : Token) → eqb o.op Operator.left_parenthesis ≡ true → c.op ≡ 5 → is_round o c ≡ true
unfolding is_round is_pair
round o c e i = and_both (eqb o.op Operator.left_parenthesis) (eqb c.op Operator.right_parenthesis) e (eq-eqb c.op 5 i)

module _ (r : Rules) (g : Walking) (h : Known r g) where
  abbrev T : List Token
  T = g.tokens

  -- The number at a place is legal.
  pub legal-at : (at : ℕ) → is_operator (op_of_place g at) ≡ true
  unfolding op_of_place token_at
  legal-at at = h.legal (at / 5)

  module _ (v : View) (a : Awaits r g h v) (z : eqb v.left 0 ≡ false) (u : is_let g (op_of_place g (v.left - 5)) ≡ true) where
    abbrev at : ℕ
    at = v.left - 5

    abbrev k : Token
    k = token_at T at

    abbrev W : Frames
    W = a.frames

    here : At T at (k ∷ after W)
    here = back a.place z

    low : at < 32768
    low = small r g h at (k ∷ after W) here

    seen_here : Seen g (k ∷ after W)
    unfolding op_of_place
    seen_here = seen_more g k (after W) u a.seen

    expected : has_minus W ≡ true → eqb (minus_class (g.entry (op_of_place g at))) 2 ≡ true
    expected m = subst (λ (n : ℕ). eqb (minus_class (g.entry n)) 2 ≡ true) (before-is g v.left z) (a.expects m)

    leaf-kept : eqb (want_class (g.entry (op_of_place g at))) 1 ≡ true → Holds r g h (leaf_turn at v)
    unfolding leaf_turn laid read_from entries_of tokens trees signed laid_onto count is_text strength outline is_statement is_item op_of_place
    leaf-kept c =
        let n = op_of_place g at in
        let t = (and-eq-true_iff (Texts.is_operand n) (not (eqb n Operator.negate))).0 (unfold leaf_test in h.told.leaf n (legal-at at) c) in
        let e : has_minus W ≡ true → ends_operand (Texts.operand k) ≡ true = λ m.
        (unfold ends_operand ends_before in
        implied (Texts.is_operand n) (ends_before n)
        ((and-eq-true_iff (not (eqb n Operator.right_brace)) (implies (Texts.is_operand n) (ends_before n))).0
        (unfold binary_test in h.told.binary n (legal-at at) (expected m))).1 t.0) in
        reads-item r g h (Texts.operand k) W at v.stack (at ∷ v.records) (k ∷ after W)
        (record { text = t.0; stated = refl; item = refl; tight = h.told.height; shut = refl; ends = e }) a.stacked a.stack
        (ap₂ (λ (i : Entry) (M : List Entry). i ∷ M) (leaf-entry T at low) a.records) refl here seen_here
        (unsigned r g h k (after W) _ (not-true (eqb n Operator.negate) t.1))

    closer-kept : eqb (want_class (g.entry (op_of_place g at))) 2 ≡ true → Holds r g h (closer_turn (op_of_place g at) at v)
    unfolding closer_turn pushed read_from after laid_after has_minus op_of_place
    closer-kept c =
        let n = op_of_place g at in
        let five = leb-true n 5 (h.told.closer n (legal-at at) c) in
        let w = at + n * 32768 in
        let l = low in
        let p = here.place in
        let i : w % 32768 ≡ at = omega (arith, l) in
        let j : at / 5 ≡ here.index = omega (arith, p) in
        record {
          frames = closes k W;
          stacked = (expected, a.stacked);
          stack =
              closer {c = k} {W = W} {w = w}
              (record {
                op = omega (arith, l);
                small = five;
                place = omega (arith, i, p);
                text = ap (λ (m : ℕ). drop (m / 5) T) i ∙ ap (λ (m : ℕ). drop m T) j ∙ here.rest;
              })
              a.stack;
          records = a.records;
          place = here;
          seen = seen_here;
          expects = λ m. absurd (false≢true m);
        }

  pub some-place : (at : ℕ) → ltb 0 at ≡ true → eqb at 0 ≡ false
  some-place at l = let d = ltb-true 0 at l in ne_eqb at 0 (λ e. omega (arith, d, e))

  -- ---- an empty bracket after a math call's name

  -- A math call's name.
  pub record Math (n : ℕ) : Type 0 where
    pub calls : is_math_call n ≡ true
    pub tight : rank r Operator.negate ≤ rank r n
    pub ends : ends_before n ≡ true
    pub unsigned : eqb n Operator.negate ≡ false

  pub math-of : (n : ℕ) → math_test r n ≡ true → Math n
  unfolding math_test
  math-of n t =
      let a = (and-eq-true_iff (is_math_call n) (leb (rank r Operator.negate) (rank r n) && (ends_before n && not (eqb n Operator.negate)))).0 t in
      let b = (and-eq-true_iff (leb (rank r Operator.negate) (rank r n)) (ends_before n && not (eqb n Operator.negate))).0 a.1 in
      let c = (and-eq-true_iff (ends_before n) (not (eqb n Operator.negate))).0 b.1 in
      record {
        calls = a.0;
        tight = leb-true (rank r Operator.negate) (rank r n) b.0;
        ends = c.0;
        unsigned = not-true (eqb n Operator.negate) c.1;
      }

  module _ (at : ℕ) (R : List ℕ) (y : eqb at 0 ≡ false) where
    abbrev o : Token
    o = token_at T at

    abbrev m : Token
    m = token_at T (at - 5)

    empty-by : (X : Frames) (S : List ℕ) (left : ℕ) → TopCloser T r h.told.grade X S → Stacked r (λ n. eqb (minus_class (g.entry n)) 2 ≡ true) X
        → entries_of T R ≡ laid_after X → At T at (o ∷ after X) → Seen g (o ∷ after X) → eqb o.op Operator.left_parenthesis ≡ true
        → top_word S / 32768 ≡ 5 → Math m.op → is_let g m.op ≡ true
        → Reads r g h (call_laid at (section_laid 0 at (record { left = left; stack = S; records = R })))
    unfolding call_laid section_laid laid read_from popped top_word tail_of entries_of tokens after trees signed laid_onto count is_text strength outline is_statement
        is_item laid_after ends_operand ends_before
    empty-by outside S left x9 k e a n op five math u = elim x9 [ ]
    empty-by (waits _ _ _) S left x13 k e a n op five math u = elim x13 [ ]
    empty-by (colon _ _ _) S left x14 k e a n op five math u = elim x14 [ ]
    empty-by (closes c X) [] left x21 k e a n op five math u = elim x21 [ ]
    empty-by (closes c X) (w ∷ S) left (top-closer d s) k e a n op five math u =
        let b = back a y in
        let low = small r g h (at - 5) _ b in
        let lowa = small r g h at _ a in
        let p = token-there T (w % 32768) c (after X) d.text in
        let i : c.op ≡ 5 = sym d.op ∙ five in
        reads-item r g h (Texts.math_empty m o c) X (at - 5) S _ (m ∷ o ∷ c ∷ after X)
        (record {
          text = and_both (is_math_call m.op) (is_round o c) math.calls (round o c op i);
          stated = refl;
          item = refl;
          tight = math.tight;
          shut = refl;
          ends = λ z. math.ends;
        }) k.1 s
        (ap₂ (λ (i : Entry) (M : List Entry). i ∷ M) (over-entry T (at - 5) low)
        (ap₂ (λ (i : Entry) (M : List Entry). i ∷ M)
        (section-entry T at lowa (w % 32768) 0 (omega arith) (omega arith) ∙ ap (λ (t : Token). placed (closed_by t o) 0) p) e))
        refl b (seen_more g m (o ∷ c ∷ after X) u n) (unsigned r g h m (o ∷ c ∷ after X) _ math.unsigned)

    call-parts : (S : List ℕ) → (eqb (top_word S / 32768) 5 && (ltb 0 at && (eqb (call_class (g.entry (op_of_place g (at - 5)))) 3 && is_let g (op_of_place g (at - 5))))) ≡ true
        → (top_word S / 32768 ≡ 5) × Math m.op × (is_let g m.op ≡ true)
    unfolding op_of_place
    call-parts S e =
        let c = eqb (call_class (g.entry m.op)) 3 in
        let a = (and-eq-true_iff (eqb (top_word S / 32768) 5) (ltb 0 at && (c && is_let g m.op))).0 e in
        let b = (and-eq-true_iff (ltb 0 at) (c && is_let g m.op)).0 a.1 in
        let d = (and-eq-true_iff c (is_let g m.op)).0 b.1 in
        (eqb-true (top_word S / 32768) 5 a.0, math-of m.op (h.told.math m.op (legal-at (at - 5)) d.0), d.1)

  empty-kept : (v : View) (a : Awaits r g h v) (z : eqb v.left 0 ≡ false) (u : is_let g (op_of_place g (v.left - 5)) ≡ true)
      → eqb (want_class (g.entry (op_of_place g (v.left - 5)))) 5 ≡ true → is_empty_call g (v.left - 5) v ≡ true
      → Reads r g h (call_laid (v.left - 5) (section_laid 0 (v.left - 5) v))
  unfolding is_empty_call op_of_place
  empty-kept v a z u c e =
      let at = v.left - 5 in
      let y : eqb at 0 ≡ false = some-place at
      ((and-eq-true_iff (ltb 0 at) (eqb (call_class (g.entry (op_of_place g (at - 5)))) 3 && is_let g (op_of_place g (at - 5)))).0
      ((and-eq-true_iff (eqb (top_word v.stack / 32768) 5)
      (ltb 0 at && (eqb (call_class (g.entry (op_of_place g (at - 5)))) 3 && is_let g (op_of_place g (at - 5))))).0 e).1).0 in
      let q = call-parts at v.records y v.stack e in
      let five = q.0 in
      empty-by at v.records y a.frames v.stack v.left
      (top-is-closer T r h.told.grade h.told.ground a.frames v.stack a.stack (omega (arith, five))) a.stacked a.records
      (back a.place z) (seen_more g (token_at T at) (after a.frames) u a.seen) (h.told.empty (op_of_place g at) (legal-at at) c) five q.1 q.2

  -- ---- the turn

  -- An answer by a test.
  pub branch : (b : Bool) (p q : Turning) → (b ≡ true → Holds r g h p) → (b ≡ false → Holds r g h q)
      → Holds r g h (elim b [ true ↦ p | false ↦ q ])
  branch true p q f n = f refl
  branch false p q f n = n refl

  -- WHERE AN OPERAND IS WANTED, a turn keeps what holds.
  pub want_kept : (v : View) → Awaits r g h v → Holds r g h (want_turn g v)
  unfolding want_turn want_by empty_turn is_empty_call
  want_kept v a =
      let at = v.left - 5 in
      let class = want_class (g.entry (op_of_place g at)) in
      branch (eqb v.left 0) gives_up _ (λ z. tt) (λ z.
      branch (is_let g (op_of_place g at)) _ gives_up (λ u.
      branch (eqb class 1) _ _ (λ c. leaf-kept v a z u c) (λ n.
      branch (eqb class 2) _ _ (λ c. closer-kept v a z u c) (λ n.
      branch (eqb class 5) _ gives_up (λ c.
      branch (is_empty_call g at v) _ gives_up (λ e. empty-kept v a z u c e) (λ n. tt)) (λ n. tt)))) (λ n. tt))
