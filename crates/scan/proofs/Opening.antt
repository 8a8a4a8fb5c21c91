-- AN OPENER, after an operand has been read: the section closes, and the name before it takes it, or none does.
use Prim.Native.Nat.{ℕ, ◌+◌, ◌*◌, ◌-◌, ◌/◌, ◌%◌, ◌≤◌}
use mathlib.Core.Path.{◌≡◌, refl, ap, ap₂, sym, subst, ◌∙◌}
use mathlib.Core.{Bool.{Bool, true, false, ◌&&◌, ◌||◌, not, true≢false, false≢true, and-eq-true_iff}, List.{List, [], ◌∷◌}}
use mathlib.Core.Option.{none}
use native.Mathlib.Omega.{arith}
use lib.{Dec.{eqb, leb, ltb}, ListN.{drop}}
use borrow.Author.Tests.{le-leb, eqb-true, eqb-false, eq-eqb, ne_eqb, not-true}
use Rattle.molang.specs.Operator
use Rattle.molang.specs.Operator.{is_one_of, any, is_math_call, is_query_or_loop, before_minus}
use Rattle.molang.specs.{Forest.{Token, nil, node, count, closed_by}, Order.{Rules}, Statements.{is_entered}}
use Rattle.molang.specs.Grammar.{Text, tokens, rank, strength, outline, Sort, is_statement, is_list, is_text, is_round, lacks, ends_operand}
use Rattle.molang.specs.Grammar.{begins_with, signed, trees}
use Rattle.molang.proofs.{Booleans.{either, or-first, or-second, or-neither}, Computed.{computed}, Grammar.Given.{and_both}}
use Rattle.molang.specs.Grammar as Texts
use Rattle.scan.specs.{Laid.{Entry, laid_onto}, Entries.{token_at, entries_of}}
use Rattle.scan.specs.Views.{View, top_word, tail_of, read_from, popped, laid, settled_lists, settled}
use Rattle.scan.specs.Turns.{Walking, gives_up, op_of_place, is_let, have_class, minus_class, call_class}
use Rattle.scan.specs.Turns.{section_laid, call_laid, is_plain, is_callable, opened_turn, opener_turn, end_turn, have_by, have_turn}
use Rattle.scan.proofs.Frames.{placed, Frames, outside, waits, colon, closes, after, laid_after, rank_of, Stated}
use Rattle.scan.proofs.{Laying.{is_item, over-one}}
use Rattle.scan.proofs.Settling.{StackIs, bottom, joint, pair, closer, Cuts, Stands, Settled, cuts-at}
use Rattle.scan.proofs.{Told.{binary_test, math_test, ends_before}, EntryLaws.{over-entry, section-entry}}
use Rattle.scan.proofs.Reaching.{At, back, token-there, Seen, seen_more, seen-less, lacks-unused}
use Rattle.scan.proofs.Kept.{Known, Expected, Reads, Finished, Holds, reads-item, unsigned, small}
use Rattle.scan.proofs.Wanting.{TopCloser, top-closer, top-is-closer, round, legal-at, Math, math-of, some-place, branch}
use Rattle.scan.proofs.Having.{settling, not-kept, between-kept, minus-kept, colon-kept, question-kept}

-- A statement is a whole list.
pub stated-list : (x : Text) → Stated x → is_list (outline x).sort ≡ true
stated-list x h = by (outline x).sort h
  where
    by : (s : Sort) → is_statement s ≡ true → is_list s ≡ true
    by Texts.a_statement h = unfold is_list in refl
    by Texts.a_script h = unfold is_list in refl
    by (Texts.a_line e) h = absurd (false≢true (unfold is_statement in h))
    by (Texts.some_lines e) h = absurd (false≢true (unfold is_statement in h))
    by Texts.a_last h = absurd (false≢true (unfold is_statement in h))

-- A pair of brackets of a section.
data Bracket (o c : Token) : Type 0 where
  curly : o.op ≡ 0 → c.op ≡ 1 → Bracket o c
  rounded : o.op ≡ 4 → c.op ≡ 5 → Bracket o c

bracketed : (o c : Token) → Bracket o c → (Texts.is_pair Operator.left_brace Operator.right_brace o c || is_round o c) ≡ true
unfolding Texts.is_pair
bracketed o c (curly i j) =
    or-first (Texts.is_pair Operator.left_brace Operator.right_brace o c) (is_round o c)
    (and_both (eqb o.op Operator.left_brace) (eqb c.op Operator.right_brace) (eq-eqb o.op 0 i) (eq-eqb c.op 1 j))
bracketed o c (rounded i j) =
    or-second (Texts.is_pair Operator.left_brace Operator.right_brace o c) (is_round o c) (round o c (eq-eqb o.op 4 i) j)

bracket-unsigned : (o c : Token) → Bracket o c → eqb o.op Operator.negate ≡ false
bracket-unsigned o c (curly i j) = ne_eqb o.op Operator.negate (λ e. omega (arith, i, e))
bracket-unsigned o c (rounded i j) = ne_eqb o.op Operator.negate (λ e. omega (arith, i, e))

-- A minus after it is binary, unless it is a block.
bracket-ends : (o c : Token) → Bracket o c → eqb c.op Operator.right_brace ≡ false → ends_before o.op ≡ true
bracket-ends o c (curly i j) e = absurd (eqb-false c.op Operator.right_brace e j)
bracket-ends o c (rounded i j) e = ap ends_before i ∙ (unfold computed ends_before in refl)

module _ (r : Rules) (g : Walking) (h : Known r g) where
  abbrev T : List Token
  T = g.tokens

  abbrev Ex : ℕ → Type 0
  Ex = Expected r g h

  abbrev grade : ℕ → ℕ
  grade = h.told.grade

  no-brace : (n : ℕ) → Ex n → (e : eqb (minus_class (g.entry n)) 2 ≡ true) → binary_test n ≡ true → eqb n Operator.right_brace ≡ false
  unfolding binary_test
  no-brace n x e b = not-true (eqb n Operator.right_brace) ((and-eq-true_iff (not (eqb n Operator.right_brace)) _).0 b).0

  -- The number of a closer is legal.
  closer-legal : (c : Token) → c.op ≤ 5 → Operator.is_operator c.op ≡ true
  unfolding Operator.is_operator
  closer-legal c l = or-first (leb c.op Operator.host_math_volatile) (Operator.is_host c.op) (le-leb c.op 110 (omega (arith, l)))

  module _ (at left : ℕ) (R : List ℕ) (L : List Token) where
    abbrev o : Token
    o = token_at T at

    abbrev m : Token
    m = token_at T (at - 5)

    -- A section that no name takes.
    section-by : (y : Text) (X : Frames) (S : List ℕ) → TopCloser T r grade X S
        → Stands T r grade Ex none y X L (record { stack = S; records = R }) → ((c : Token) → c.op ≡ top_word S / 32768 → Bracket o c)
        → At T at (o ∷ L) → Seen g (o ∷ L)
        → Reads r g h (section_laid 1073741824 at (record { left = left; stack = S; records = R }))
    unfolding section_laid laid read_from popped top_word tail_of entries_of tokens after trees signed is_text strength outline is_statement is_item laid_after
        ends_operand ends_before
    section-by y outside S x5 t f a n = elim x5 [ ]
    section-by y (waits _ _ _) S x9 t f a n = elim x9 [ ]
    section-by y (colon _ _ _) S x10 t f a n = elim x10 [ ]
    section-by y (closes c X) [] x13 t f a n = elim x13 [ ]
    section-by y (closes c X) (w ∷ S) (top-closer d s) t f a n =
        let b = f c (sym d.op) in
        let k = t.held in
        let p = token-there T (w % 32768) c (after X) d.text in
        let low = small r g h at (o ∷ L) a in
        reads-item r g h (Texts.section o c y) X at S _ (o ∷ L)
        (record {
          text =
              and_both _ (is_text r y)
              (and_both (Texts.is_pair Operator.left_brace Operator.right_brace o c || is_round o c) (is_list (outline y).sort) (bracketed o c b) (stated-list y k.stated))
              k.text;
          stated = refl;
          item = refl;
          tight = h.told.height;
          shut = refl;
          ends = λ z. bracket-ends o c b (no-brace c.op (k.stacked.0 z) (k.stacked.0 z) (h.told.binary c.op (closer-legal c d.small) (k.stacked.0 z)));
        }) k.stacked.1 s
        (ap₂ (λ (i : Entry) (M : List Entry). i ∷ M)
        (section-entry T at low (w % 32768) 1 (omega arith) (omega arith) ∙ ap (λ (t : Token). placed (closed_by t o) 1) p) t.records
        ∙ sym (over-one (closed_by c o) y (laid_after X) k.stated))
        (ap (λ (M : List Token). o ∷ M) t.read) a n (unsigned r g h o L _ (bracket-unsigned o c b))

    -- ---- calls

    -- The records of a name over its section.
    call-records : (y : Text) (c : Token) (X : Frames) (w : ℕ) → Stated y → At T at (o ∷ L) → At T (at - 5) (m ∷ o ∷ L)
        → drop (w % 32768 / 5) T ≡ c ∷ after X → entries_of T R ≡ laid_onto (trees none y nil) (laid_after X)
        → entries_of T ((at - 5 + 262144) ∷ (2147483648 + 1073741824 + w % 32768 * 32768 + at) ∷ R)
        ≡ laid_onto (node m (node (closed_by c o) (trees none y nil) nil) nil) (laid_after X)
    unfolding entries_of laid_onto count
    call-records y c X w st a b d e =
        let p = token-there T (w % 32768) c (after X) d in
        ap₂ (λ (i : Entry) (M : List Entry). i ∷ M) (over-entry T (at - 5) (small r g h (at - 5) (m ∷ o ∷ L) b))
        (ap₂ (λ (i : Entry) (M : List Entry). i ∷ M)
        (section-entry T at (small r g h at (o ∷ L) a) (w % 32768) 1 (omega arith) (omega arith) ∙ ap (λ (t : Token). placed (closed_by t o) 1) p) e
        ∙ sym (over-one (closed_by c o) y (laid_after X) st))

    module _ (z : eqb at 0 ≡ false) (a : At T at (o ∷ L)) (n : Seen g (o ∷ L)) (u : is_let g m.op ≡ true) (four : o.op ≡ 4) where
      there : At T (at - 5) (m ∷ o ∷ L)
      there = back a z

      seen-there : Seen g (m ∷ o ∷ L)
      seen-there = seen_more g m (o ∷ L) u n

      math-by : (y : Text) (X : Frames) (S : List ℕ) → TopCloser T r grade X S
          → Stands T r grade Ex none y X L (record { stack = S; records = R }) → top_word S / 32768 ≡ 5 → Math r g h m.op
          → Reads r g h (call_laid at (section_laid 1073741824 at (record { left = left; stack = S; records = R })))
      unfolding call_laid section_laid laid read_from popped top_word tail_of tokens after trees signed is_text strength outline is_statement is_item laid_after
          ends_operand ends_before
      math-by y outside S x4 t five f = elim x4 [ ]
      math-by y (waits _ _ _) S x8 t five f = elim x8 [ ]
      math-by y (colon _ _ _) S x9 t five f = elim x9 [ ]
      math-by y (closes c X) [] x11 t five f = elim x11 [ ]
      math-by y (closes c X) (w ∷ S) (top-closer d s) t five f =
          let k = t.held in
          reads-item r g h (Texts.math_call m o c y) X (at - 5) S _ (m ∷ o ∷ L)
          (record {
            text =
                and_both _ (is_text r y)
                (and_both _ (is_list (outline y).sort) (and_both (is_math_call m.op) (is_round o c) f.calls (round o c (eq-eqb o.op 4 four) (sym d.op ∙ five)))
                (stated-list y k.stated))
                k.text;
            stated = refl;
            item = refl;
            tight = f.tight;
            shut = refl;
            ends = λ z. f.ends;
          }) k.stacked.1 s
          (call-records y c X w k.stated a there d.text t.records) (ap (λ (M : List Token). m ∷ o ∷ M) t.read) there seen-there
          (unsigned r g h m (o ∷ L) _ f.unsigned)

      query-by : (y : Text) (X : Frames) (S : List ℕ) → TopCloser T r grade X S
          → Stands T r grade Ex none y X L (record { stack = S; records = R }) → top_word S / 32768 ≡ 5 → m.op ≡ Operator.query_function
          → Reads r g h (call_laid at (section_laid 1073741824 at (record { left = left; stack = S; records = R })))
      unfolding call_laid section_laid laid read_from popped top_word tail_of tokens after trees signed is_text strength outline is_statement is_item laid_after
          ends_operand ends_before
      query-by y outside S x4 t five f = elim x4 [ ]
      query-by y (waits _ _ _) S x8 t five f = elim x8 [ ]
      query-by y (colon _ _ _) S x9 t five f = elim x9 [ ]
      query-by y (closes c X) [] x11 t five f = elim x11 [ ]
      query-by y (closes c X) (w ∷ S) (top-closer d s) t five f =
          let k = t.held in
          let lacking : lacks Operator.semicolon y ≡ true = lacks-unused g Operator.semicolon y (c ∷ after X)
          (subst (Seen g) (sym t.read) (seen-less g o L n)) h.unsplit in
          reads-item r g h (Texts.query m o c y) X (at - 5) S _ (m ∷ o ∷ L)
          (record {
            text =
                and_both _ (is_text r y)
                (and_both _ (is_entered m.op || lacks Operator.semicolon y)
                (and_both _ (is_list (outline y).sort) (and_both (is_query_or_loop m.op) (is_round o c) (ap is_query_or_loop f ∙ (unfold computed in refl)) (round o c (eq-eqb o.op 4 four) (sym d.op ∙ five)))
                (stated-list y k.stated))
                (or-second (is_entered m.op) (lacks Operator.semicolon y) lacking))
                k.text;
            stated = refl;
            item = refl;
            tight = h.told.height;
            shut = refl;
            ends = λ z. ap ends_before f ∙ (unfold computed ends_before in refl);
          }) k.stacked.1 s
          (call-records y c X w k.stated a there d.text t.records) (ap (λ (M : List Token). m ∷ o ∷ M) t.read) there seen-there
          (unsigned r g h m (o ∷ L) _ (ne_eqb m.op Operator.negate (λ e. omega (arith, f, e))))

  -- ---- the turns

  -- The number of an assignment's grade cuts before all operators.
  cut_all : Cuts grade 2 1
  cut_all = let e = h.told.one in subst (λ (f : ℕ). Cuts grade f 1) e (cuts-at grade h.told.ordered 1 (omega (arith, e)))

  module _ (v : View) (a : Reads r g h v) where
    abbrev y : Settled T r grade Ex 1 none a.operand a.read (settled_lists 268435456 v.stack v.records)
    y = settling r g h 2 1 cut_all none a.operand a.frames a.read v.stack v.records a.stands

    abbrev S : List ℕ
    S = (settled_lists 268435456 v.stack v.records).stack

    abbrev R : List ℕ
    R = (settled_lists 268435456 v.stack v.records).records

    -- ---- the list's start

    data Bottom : Frames → Type 0 where
      at-bottom : Bottom outside

    is-bottom : (W : Frames) (S : List ℕ) → StackIs T r grade W S → top_word S / 32768 ≡ 7 → Bottom W
    unfolding top_word
    is-bottom outside [] x4 e = elim x4 [ ]
    is-bottom outside (w ∷ (_ ∷ _)) x10 e = elim x10 [ ]
    is-bottom (waits j x W) [] x6 e = elim x6 [ ]
    is-bottom (colon k x W) [] x7 e = elim x7 [ ]
    is-bottom (closes k W) [] x7 e = elim x7 [ ]
    is-bottom outside (w ∷ []) (bottom z) e = at-bottom
    is-bottom (waits j x W) (w ∷ S) (joint o q) e = let c = o.grade in let b = h.told.ground (rank_of r j) in absurd (omega (arith, c, b, e))
    is-bottom (colon k x W) (w ∷ S) (pair o q) e = let c = o.grade in absurd (omega (arith, c, e))
    is-bottom (closes k W) (w ∷ S) (closer o q) e = let c = o.op in let b = o.small in absurd (omega (arith, c, b, e))

    finished : (x : Text) (W : Frames) (S R : List ℕ) → Bottom W → Stands T r grade Ex none x W a.read (record { stack = S; records = R })
        → v.left ≡ 0 → Finished r g h (record { left = v.left; stack = S; records = R })
    unfolding after laid_after
    finished x (waits _ _ _) S R x7 t z = elim x7 [ ]
    finished x (colon _ _ _) S R x8 t z = elim x8 [ ]
    finished x (closes _ _) S R x8 t z = elim x8 [ ]
    finished x outside S R at-bottom t z =
        let p = a.place in
        let i = p.place in
        let zero-index : p.index ≡ 0 = omega (arith, i, z) in
        let all : T ≡ a.read = sym (ap (λ (n : ℕ). drop n T) zero-index) ∙ p.rest in
        record {
          text = x;
          formed = t.held.text;
          stated = t.held.stated;
          same = t.read ∙ sym all;
          nodes = t.records;
          seen = subst (Seen g) (sym all) a.seen;
        }

    end_kept : eqb v.left 0 ≡ true → Holds r g h (end_turn v)
    unfolding end_turn settled
    end_kept z =
        branch r g h (eqb (top_word S / 32768) 7) _ gives_up
        (λ e. finished y.operand y.frames S R (is-bottom y.frames S y.stands.stack (eqb-true (top_word S / 32768) 7 e)) y.stands (eqb-true v.left 0 z))
        (λ e. tt)

    -- ---- an opener

    module _ (z : eqb v.left 0 ≡ false) (u : is_let g (op_of_place g (v.left - 5)) ≡ true) where
      abbrev at : ℕ
      at = v.left - 5

      abbrev k : Token
      k = token_at T at

      abbrev L : List Token
      L = a.read

      here : At T at (k ∷ L)
      here = back a.place z

      seen_here : Seen g (k ∷ L)
      unfolding op_of_place
      seen_here = seen_more g k L u a.seen

      -- A block's opener, or a bracket's.
      opener-is : is_one_of (Operator.left_brace ∷ Operator.left_bracket ∷ Operator.left_parenthesis ∷ []) k.op ≡ true
          → eqb k.op Operator.left_bracket ≡ false → eqb k.op Operator.left_brace ≡ false → k.op ≡ 4
      unfolding is_one_of any
      opener-is t b c = by (eqb k.op Operator.left_brace) (eqb k.op Operator.left_bracket) (eqb k.op Operator.left_parenthesis) refl t b c
        where
          by : (p q s : Bool) → eqb k.op Operator.left_parenthesis ≡ s → (p || (q || (s || false))) ≡ true → q ≡ false → p ≡ false → k.op ≡ 4
          by true q s i t b c = absurd (true≢false c)
          by false true s i t b c = absurd (true≢false b)
          by false false true i t b c = eqb-true k.op 4 i
          by false false false i t b c = absurd (false≢true t)

      module _ (t : is_one_of (Operator.left_brace ∷ Operator.left_bracket ∷ Operator.left_parenthesis ∷ []) k.op ≡ true)
          (b : eqb k.op Operator.left_bracket ≡ false) (e : top_word S / 32768 ≡ k.op + 1) where
        brackets : (c : Token) → c.op ≡ top_word S / 32768 → Bracket k c
        brackets c i = either (eqb k.op Operator.left_brace)
            (λ p. let q = eqb-true k.op Operator.left_brace p in curly q (omega (arith, q, e, i)))
            (λ p. let q = opener-is t b p in rounded q (omega (arith, q, e, i)))

        small-op : top_word S / 32768 ≤ 5
        small-op = either (eqb k.op Operator.left_brace)
            (λ p. let q = eqb-true k.op Operator.left_brace p in omega (arith, q, e))
            (λ p. let q = opener-is t b p in omega (arith, q, e))

        top : TopCloser T r grade y.frames S
        top = top-is-closer T r grade h.told.ground y.frames S y.stands.stack small-op

        -- A name takes the bracket.
        call_kept : is_plain g k.op at ≡ false → is_callable g at ≡ true
            → Reads r g h (call_laid at (section_laid 1073741824 at (record { left = v.left; stack = S; records = R })))
        unfolding is_plain is_callable op_of_place
        call_kept p c =
            let n = op_of_place g (at - 5) in
            let f = (and-eq-true_iff (ltb 0 at) (eqb (call_class (g.entry n) % 2) 1 && is_let g n)).0 c in
            let i = (and-eq-true_iff (eqb (call_class (g.entry n) % 2) 1) (is_let g n)).0 f.1 in
            let d = some-place r g h at f.0 in
            let four = opener-is t b (or-neither (eqb k.op Operator.left_brace) _ p).0 in
            let five : top_word S / 32768 ≡ 5 = omega (arith, four, e) in
            let w = h.told.call n (legal-at r g h (at - 5)) i.0 in
            either (eqb n Operator.query_function)
            (λ q. query-by at v.left R L d here seen_here i.1 four y.operand y.frames S top y.stands five (eqb-true n Operator.query_function q))
            (λ q. math-by at v.left R L d here seen_here i.1 four y.operand y.frames S top y.stands five
            (math-of r g h n (second (eqb n Operator.query_function) (math_test r n) w q)))
          where
            second : (p q : Bool) → (p || q) ≡ true → p ≡ false → q ≡ true
            second true q e f = absurd (true≢false f)
            second false q e f = e

        opened-kept : Holds r g h (opened_turn g k.op at (settled 268435456 v))
        unfolding opened_turn settled
        opened-kept =
            branch r g h (is_plain g k.op at) _ _
            (λ p. section-by at v.left R L y.operand y.frames S top y.stands brackets here seen_here) (λ p.
            branch r g h (is_callable g at) _ gives_up (λ c. call_kept p c) (λ c. tt))

      opener-kept : eqb (have_class (g.entry (op_of_place g at))) 2 ≡ true → Holds r g h (opener_turn g (op_of_place g at) at v)
      unfolding opener_turn settled op_of_place
      opener-kept c =
          let t = h.told.opener (op_of_place g at) (legal-at r g h at) c in
          branch r g h (eqb k.op Operator.left_bracket) gives_up _ (λ b. tt) (λ b.
          branch r g h (eqb (top_word S / 32768) (k.op + 1)) _ gives_up (λ e. opened-kept t b (eqb-true (top_word S / 32768) (k.op + 1) e)) (λ e. tt))

  -- AFTER AN OPERAND HAS BEEN READ, a turn keeps what holds.
  pub have-kept : (v : View) → Reads r g h v → Holds r g h (have_turn g v)
  unfolding have_turn have_by
  have-kept v a =
      let at = v.left - 5 in
      let class = have_class (g.entry (op_of_place g at)) in
      branch r g h (eqb v.left 0) _ _ (λ z. end_kept v a z) (λ z.
      branch r g h (is_let g (op_of_place g at)) _ gives_up (λ u.
      branch r g h (eqb class 1) _ _ (λ c. between-kept r g h v a z u c) (λ n.
      branch r g h (eqb class 2) _ _ (λ c. opener-kept v a z u c) (λ n.
      branch r g h (eqb class 3) _ _ (λ c. minus-kept r g h v a z u c) (λ n.
      branch r g h (eqb class 4) _ _ (λ c. not-kept r g h v a z u c) (λ n.
      branch r g h (eqb class 7) _ _ (λ c. question-kept r g h v a z u c) (λ n.
      branch r g h (eqb class 8) _ gives_up (λ c. colon-kept r g h v a z u c) (λ n. tt))))))) (λ n. tt))
