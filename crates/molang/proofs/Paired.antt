-- The tree as which the writing of a plain expression is read (document 02, card 12): the expression itself, with a bracket where writing
-- adds a pair. It is written as the same tokens, since a bracket gets no pair, an added bracket has its operand's extent and closes at that
-- extent's end; and it is plain.
use Prim.Native.Nat.{ℕ, suc, ◌+◌}
use mathlib.Core.{Path.{◌≡◌, refl, ap, sym, ◌∙◌}, Bool.{Bool, true, false, ◌||◌, ◌&&◌, true≢false, false≢true, and-false}}
use mathlib.Core.{List.{List, [], ◌∷◌}, Option.{none, some}}
use lib.Dec.{eqb}
use Rattle.molang.specs.Operator
use Rattle.molang.specs.{Operator.{is_one_of, is_bracket}, Forest.{Token, Forest, nil, node, size, closed_by, unclosed}}
use Rattle.molang.specs.Plain.{Seat, is_right_of_question, is_under_semicolon, seat_under, is_plain_binary, is_call, expression_form, unplain}
use Rattle.molang.specs.Write.{spanning, opener_for, closer_for, closer_of, stands_alone, stands_left, stands_right, operand_tokens, written}
use Rattle.molang.proofs.{Booleans.{never, or-first, or-neither}, Computed.{computed}, Trees.{both, and-true-true}}
use Rattle.molang.proofs.PlainTrees.{no-trees, other-seat, left-seat, right-seat, PlainExpression, inner, outer}
use Rattle.molang.proofs.Writing.{written_one, written-two}

-- An operand before the trees r, the node k over cs, which is read over ds: as it is, or in an added bracket.
unfoldable pub operand_tree : Bool → Token → Forest → Forest → Forest → Forest
operand_tree true k cs ds r = node k ds r
operand_tree false k cs ds r = node (opener_for k cs) (node k ds nil) r

-- THE CHILDREN over which k is read, where it was written over cs. (No plain node has three.)
unfoldable pub paired : Token → Forest → Forest
paired k nil = nil
paired k (node x xs nil) =
    elim (is_bracket k.op) [ true ↦ node x (paired x xs) nil | false ↦ operand_tree (stands_alone x xs) x xs (paired x xs) nil ]
paired k (node x xs (node y ys nil)) =
    operand_tree (stands_left k x xs) x xs (paired x xs) (operand_tree (stands_right k y ys) y ys (paired y ys) nil)
paired k (node x xs (node y ys (node z zs more))) = node x xs (node y ys (node z zs more))

pub paired-one : (b : Bool) (k x : Token) (xs : Forest) → is_bracket k.op ≡ b
    → paired k (node x xs nil) ≡ (elim b as (λ t. Forest) [
      | true ↦ node x (paired x xs) nil
      | false ↦ operand_tree (stands_alone x xs) x xs (paired x xs) nil
    ])
paired-one b k x xs h = unfold paired in rw (← h) refl

pub paired-two : (k x : Token) (xs : Forest) (y : Token) (ys : Forest)
    → paired k (node x xs (node y ys nil))
    ≡ operand_tree (stands_left k x xs) x xs (paired x xs) (operand_tree (stands_right k y ys) y ys (paired y ys) nil)
paired-two k x xs y ys = unfold paired in refl

-- ---- It is written as the same tokens

-- The two tokens of an added bracket are the added pair.
opener-again : (k : Token) (cs : Forest) → unclosed (opener_for k cs) ≡ opener_for k cs
opener-again k cs = unfold unclosed closed_by opener_for spanning in refl

closer-again : (k : Token) (cs : Forest) → closer_of (opener_for k cs) ≡ closer_for k cs
closer-again k cs = unfold closer_of closer_for opener_for spanning in refl

opener-bracket : (k : Token) (cs : Forest) → is_bracket (opener_for k cs).op ≡ true
unfolding computed
opener-bracket k cs = refl

-- The operand as it is read: it gets no pair any more, and is written as it was.
record Again (stands : Token → Forest → Bool) (b : Bool) (k : Token) (cs ds : Forest) : Type 0 where
  root : Token
  below : Forest
  is : (r : Forest) → operand_tree b k cs ds r ≡ node root below r
  alone : stands root below ≡ true
  writes : (r : List Token) → written root below r ≡ operand_tokens b k cs (written k cs) r

operand-again : (stands : Token → Forest → Bool) (b : Bool) (k : Token) (cs ds : Forest) → (b ≡ true → stands k ds ≡ true)
    → ((l x : Token) (xs : Forest) → is_bracket l.op ≡ true → stands l (node x xs nil) ≡ true)
    → ((r : List Token) → written k ds r ≡ written k cs r)
    → Again stands b k cs ds
unfolding operand_tree operand_tokens
operand-again stands true k cs ds s t w = record { root = k; below = ds; is = λ r. refl; alone = s refl; writes = w }
operand-again stands false k cs ds s t w = record {
  root = opener_for k cs;
  below = node k ds nil;
  is = λ r. refl;
  alone = t (opener_for k cs) k ds (opener-bracket k cs);
  writes = λ r. written_one true (opener_for k cs) k ds r (opener-bracket k cs)
      ∙ rw (opener-again k cs, closer-again k cs) (ap (λ (ks : List Token). opener_for k cs ∷ ks) (w (closer_for k cs ∷ r)));
}

-- A leaf stays one, and every other node one with children.
alone-again : (k : Token) (cs : Forest) → stands_alone k (paired k cs) ≡ stands_alone k cs
unfolding stands_alone paired
alone-again k nil = refl
alone-again k (node x xs nil) = split (is_bracket k.op) (stands_alone x xs) refl refl
  where
    split : (b c : Bool) → is_bracket k.op ≡ b → stands_alone x xs ≡ c → stands_alone k (paired k (node x xs nil)) ≡ is_bracket k.op
    split true c e f = rw (paired-one true k x xs e) refl
    split false true e f = rw (paired-one false k x xs e, f) (unfold operand_tree in refl)
    split false false e f = rw (paired-one false k x xs e, f) (unfold operand_tree in refl)
alone-again k (node x xs (node y ys nil)) = split (stands_left k x xs) (stands_right k y ys)
  where
    split : (b c : Bool) → stands_alone k (operand_tree b x xs (paired x xs) (operand_tree c y ys (paired y ys) nil)) ≡ is_bracket k.op
    split true c = unfold operand_tree in refl
    split false c = unfold operand_tree in refl
alone-again k (node x xs (node y ys (node z zs more))) = refl

bracket-alone : (l x : Token) (xs : Forest) → is_bracket l.op ≡ true → stands_alone l (node x xs nil) ≡ true
bracket-alone l x xs h = unfold stands_alone in h

bracket-left : (k l x : Token) (xs : Forest) → is_bracket l.op ≡ true → stands_left k l (node x xs nil) ≡ true
bracket-left k l x xs h = unfold stands_left in or-first _ _ (bracket-alone l x xs h)

bracket-right : (k l x : Token) (xs : Forest) → is_bracket l.op ≡ true → stands_right k l (node x xs nil) ≡ true
bracket-right k l x xs h = unfold stands_right in or-first _ _ (bracket-alone l x xs h)

left-again : (k x : Token) (xs : Forest) → stands_left k x (paired x xs) ≡ stands_left k x xs
left-again k x xs = unfold stands_left in rw (alone-again x xs) refl

right-again : (k x : Token) (xs : Forest) → stands_right k x (paired x xs) ≡ stands_right k x xs
right-again k x xs = unfold stands_right in rw (alone-again x xs) refl

-- An operand that stands alone is written as it is.
unpaired : (b : Bool) (k : Token) (cs : Forest) (F : List Token → List Token) (r : List Token) → b ≡ true → operand_tokens b k cs F r ≡ F r
unfolding operand_tokens
unpaired b k cs F r h = rw h refl

one_again : (k x : Token) (xs ds : Forest) (r : List Token) → is_bracket k.op ≡ false → Again stands_alone (stands_alone x xs) x xs ds
    → written k (operand_tree (stands_alone x xs) x xs ds nil) r ≡ written k (node x xs nil) r
one_again k x xs ds r b a =
    ap (λ (f : Forest). written k f r) (a.is nil)
    ∙ (written_one false k a.root a.below r b
    ∙ (ap (λ (ks : List Token). k ∷ ks)
    (unpaired (stands_alone a.root a.below) a.root a.below (written a.root a.below) r a.alone ∙ a.writes r)
    ∙ sym (written_one false k x xs r b)))

two-again : (k x : Token) (xs ds : Forest) (y : Token) (ys es : Forest) (r : List Token)
    → Again (stands_left k) (stands_left k x xs) x xs ds
    → Again (stands_right k) (stands_right k y ys) y ys es
    → written k (operand_tree (stands_left k x xs) x xs ds (operand_tree (stands_right k y ys) y ys es nil)) r
    ≡ written k (node x xs (node y ys nil)) r
two-again k x xs ds y ys es r a c =
    ap (λ (f : Forest). written k (operand_tree (stands_left k x xs) x xs ds f) r) (c.is nil)
    ∙ (ap (λ (f : Forest). written k f r) (a.is (node c.root c.below nil))
    ∙ (written-two k a.root a.below c.root c.below r
    ∙ (unpaired (stands_left k a.root a.below) a.root a.below (written a.root a.below) _ a.alone
    ∙ (ap (λ (ks : List Token). written a.root a.below (k ∷ ks))
    (unpaired (stands_right k c.root c.below) c.root c.below (written c.root c.below) r c.alone ∙ c.writes r)
    ∙ (a.writes (k ∷ operand_tokens (stands_right k y ys) y ys (written y ys) r) ∙ sym (written-two k x xs y ys r))))))

-- TOKEN FOR TOKEN.
pub written-paired : (k : Token) (cs : Forest) (r : List Token) → written k (paired k cs) r ≡ written k cs r
written-paired k nil r = unfold paired in refl
written-paired k (node x xs nil) r = split (is_bracket k.op) refl (written-paired x xs)
  where
    split : (b : Bool) → is_bracket k.op ≡ b → ((r : List Token) → written x (paired x xs) r ≡ written x xs r)
        → written k (paired k (node x xs nil)) r ≡ written k (node x xs nil) r
    split true b w =
        rw (paired-one true k x xs b, written_one true k x (paired x xs) r b, written_one true k x xs r b)
        (ap (λ (ks : List Token). unclosed k ∷ ks) (w (closer_of k ∷ r)))
    split false b w =
        rw (paired-one false k x xs b)
        (one_again k x xs (paired x xs) r b
        (operand-again stands_alone (stands_alone x xs) x xs (paired x xs) (λ h. alone-again x xs ∙ h) bracket-alone w))
written-paired k (node x xs (node y ys nil)) r =
    ap (λ (f : Forest). written k f r) (paired-two k x xs y ys)
    ∙ two-again k x xs (paired x xs) y ys (paired y ys) r
    (operand-again (stands_left k) (stands_left k x xs) x xs (paired x xs) (λ h. left-again k x xs ∙ h) (bracket-left k)
    (written-paired x xs))
    (operand-again (stands_right k) (stands_right k y ys) y ys (paired y ys) (λ h. right-again k y ys ∙ h) (bracket-right k)
    (written-paired y ys))
written-paired k (node x xs (node y ys (node z zs more))) r = unfold paired in refl

-- ---- It is plain

-- What holds though a test of it fails holds whether or not that passes, and so it does where another passes in its stead.
loosened : (a b d : Bool) → (a || (b && false)) ≡ true → (a || (b && d)) ≡ true
loosened true b d h = refl
loosened false b d h = absurd (false≢true (sym (and-false b) ∙ h))

loosened-twice : (a b c d : Bool) → ((a || false) || (c && false)) ≡ true → ((a || b) || (c && d)) ≡ true
loosened-twice true b c d h = refl
loosened-twice false b c d h = absurd (false≢true (sym (and-false c) ∙ h))

bracketed-form : (a b c d : Bool) → ((a || (b && c)) || d) ≡ true → ((a || (b && true)) || d) ≡ true
bracketed-form true b c d h = refl
bracketed-form false true c d h = refl
bracketed-form false false c d h = h

-- A bracket, a minus or a `!`, over any one child.
abbrev is_prefixed : Token → Bool
is_prefixed k = is_one_of (Operator.left_parenthesis ∷ Operator.negate ∷ Operator.logical_not ∷ []) k.op

-- A node with children that is no operand as it stands, and neither a `:` nor what only a statement holds, is plain in every seat.
any-seat : (p q : Seat) (k : Token) (cs : Forest) → expression_form p k cs ≡ true → stands_alone k cs ≡ false → is_under_semicolon p ≡ false
    → (eqb k.op Operator.conditional_else && is_right_of_question p) ≡ false → expression_form q k cs ≡ true
unfolding expression_form stands_alone
any-seat p q k nil h a s c = absurd (true≢false a)
any-seat p q k (node x xs nil) h a s c =
    loosened (is_prefixed k || (is_call k.op && is_bracket x.op)) (eqb k.op Operator.return) (is_under_semicolon q) (rw s at h)
any-seat p q k (node x xs (node y ys nil)) h a s c =
    loosened-twice (is_plain_binary k.op) _ (eqb k.op Operator.assignment) _ (rw (s, c) at h)
any-seat p q k (node x xs (node y ys (node z zs r))) h a s c = absurd (false≢true h)

opener-other : (k : Token) (cs : Forest) → eqb (opener_for k cs).op Operator.semicolon ≡ false
unfolding computed
opener-other k cs = refl

opener-form : (p : Seat) (k : Token) (cs : Forest) (x : Token) (xs : Forest) → expression_form p (opener_for k cs) (node x xs nil) ≡ true
unfolding computed
opener-form p k cs x xs = refl

-- An added bracket over such a node is plain wherever the node was.
plain-operand : (b : Bool) (k : Token) (i m : ℕ) (x : Token) (xs ds rest : Forest) → eqb k.op Operator.semicolon ≡ false
    → ((m : ℕ) → PlainExpression (seat_under k i) m x ds)
    → (b ≡ false → stands_alone x ds ≡ false)
    → (b ≡ false → (eqb x.op Operator.conditional_else && is_right_of_question (seat_under k i)) ≡ false)
    → ((m : ℕ) → unplain (some k) (suc i) m rest ≡ none)
    → unplain (some k) i m (operand_tree b x xs ds rest) ≡ none
unfolding operand_tree
plain-operand true k i m x xs ds rest o e a c later = outer k i m x ds rest (e (suc m)) (later _)
plain-operand false k i m x xs ds rest o e a c later =
    let l = opener_for x xs in
    let inside = e (suc (suc m)) in
    outer k i m l (node x ds nil) rest
    (record {
      other = opener-other x xs;
      form = opener-form (seat_under k i) x xs x ds;
      below = outer l 0 (suc m) x ds nil
          (record {
            other = inside.other;
            form = any-seat (seat_under k i) (seat_under l 0) x ds inside.form (a refl) (other-seat k i o) (c refl);
            below = inside.below;
          })
          (no-trees (some l) 1 _);
    })
    (later _)

-- The form of a node is plain over its children as they are read.
one_form : (p : Seat) (b : Bool) (k x : Token) (xs ds : Forest) → expression_form p k (node x xs nil) ≡ true
    → expression_form p k (operand_tree b x xs ds nil) ≡ true
unfolding expression_form operand_tree
one_form p true k x xs ds h = h
one_form p false k x xs ds h =
    rw (opener-bracket x xs)
    (bracketed-form (is_prefixed k) (is_call k.op) (is_bracket x.op) (eqb k.op Operator.return && is_under_semicolon p) h)

two-form : (p : Seat) (b c : Bool) (k x : Token) (xs ds : Forest) (y : Token) (ys es : Forest)
    → expression_form p k (node x xs (node y ys nil)) ≡ true
    → expression_form p k (operand_tree b x xs ds (operand_tree c y ys es nil)) ≡ true
unfolding expression_form operand_tree
two-form p true true k x xs ds y ys es h = h
two-form p true false k x xs ds y ys es h = h
two-form p false true k x xs ds y ys es h = h
two-form p false false k x xs ds y ys es h = h

-- A left operand stands right of no `?`; a right one that gets a pair is not the `:` of its `?`.
left-colon : (k x : Token) → (eqb x.op Operator.conditional_else && is_right_of_question (seat_under k 0)) ≡ false
left-colon k x = rw (left-seat k) (and-false (eqb x.op Operator.conditional_else))

right-colon : (k x : Token) (xs : Forest) → stands_right k x xs ≡ false
    → (eqb x.op Operator.conditional_else && is_right_of_question (seat_under k 1)) ≡ false
unfolding stands_right
right-colon k x xs h =
    let other = (or-neither (stands_alone x xs) _ h).1 in
    never (eqb x.op Operator.conditional_else && is_right_of_question (seat_under k 1))
    (λ t. let e = both (eqb x.op Operator.conditional_else) (is_right_of_question (seat_under k 1)) t in
    true≢false (sym (and-true-true (eqb k.op Operator.conditional) _ (right-seat k e.1) e.0) ∙ other))

not-alone : (k : Token) (cs : Forest) (b : Bool) → (stands_alone k cs || b) ≡ false → stands_alone k (paired k cs) ≡ false
not-alone k cs b h = alone-again k cs ∙ (or-neither (stands_alone k cs) b h).0

-- THE TREE THAT IS READ IS PLAIN.
pub plain-paired : (p : Seat) (n m : ℕ) (k : Token) (cs : Forest) → PlainExpression p n k cs → PlainExpression p m k (paired k cs)
unfolding stands_left stands_right
plain-paired p n m k nil e =
    record { other = e.other; form = unfold paired in e.form; below = unfold paired in no-trees (some k) 0 m }
plain-paired p n m k (node x xs nil) e =
    let a = inner k 0 n x xs nil e.other e.below in
    split (is_bracket k.op) refl (λ m. plain-paired (seat_under k 0) (suc n) m x xs a.0)
  where
    split : (b : Bool) → is_bracket k.op ≡ b → ((m : ℕ) → PlainExpression (seat_under k 0) m x (paired x xs))
        → PlainExpression p m k (paired k (node x xs nil))
    split true b i =
        rw (paired-one true k x xs b)
        (record {
          other = e.other;
          form = unfold expression_form in e.form;
          below = outer k 0 m x (paired x xs) nil (i (suc m)) (no-trees (some k) 1 _);
        })
    split false b i =
        rw (paired-one false k x xs b)
        (record {
          other = e.other;
          form = one_form p (stands_alone x xs) k x xs (paired x xs) e.form;
          below = plain-operand (stands_alone x xs) k 0 m x xs (paired x xs) nil e.other i (λ h. alone-again x xs ∙ h)
              (λ h. left-colon k x) (no-trees (some k) 1);
        })
plain-paired p n m k (node x xs (node y ys nil)) e =
    let a = inner k 0 n x xs (node y ys nil) e.other e.below in
    let b = inner k 1 (suc n + size xs) y ys nil e.other a.1 in
    rw (paired-two k x xs y ys)
    (record {
      other = e.other;
      form = two-form p (stands_left k x xs) (stands_right k y ys) k x xs (paired x xs) y ys (paired y ys) e.form;
      below = plain-operand (stands_left k x xs) k 0 m x xs (paired x xs) (operand_tree (stands_right k y ys) y ys (paired y ys) nil)
          e.other (λ m. plain-paired (seat_under k 0) (suc n) m x xs a.0) (not-alone x xs _) (λ h. left-colon k x)
          (λ m. plain-operand (stands_right k y ys) k 1 m y ys (paired y ys) nil e.other
          (λ m. plain-paired (seat_under k 1) (suc (suc n + size xs)) m y ys b.0) (not-alone y ys _) (right-colon k y ys)
          (no-trees (some k) 2));
    })
plain-paired p n m k (node x xs (node y ys (node z zs more))) e = absurd (false≢true (unfold expression_form in e.form))
