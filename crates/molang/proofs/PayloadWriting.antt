-- Writing and payloads: trees that differ in payloads only are plain alike and are written as lists that do, and these in no more tokens
-- than the trees in nodes. Each node's token is put in once; brackets, closers and semicolons that are put in have none.
use Prim.Native.Nat.{ℕ, suc, ◌+◌, ◌≤◌, min, max}
use mathlib.Core.{Path.{◌≡◌, refl, ap, sym, ◌∙◌}, Bool.{Bool, true, false}, List.{List, [], ◌∷◌}, Option.{none}}
use native.Mathlib.Omega.{arith}
use lib.{Dec.{eqb}, ListN.{length}}
use Rattle.molang.specs.Operator
use Rattle.molang.specs.{Operator.{is_bracket}, Forest.{Token, Forest, nil, node, bare, closed_by, unclosed}}
use Rattle.molang.specs.{Read.{lowest_start, highest_end}, Plain.{unplain, unplain_at}}
use Rattle.molang.specs.Write.{opener_for, closer_for, closer_of, stands_alone, stands_left, stands_right, operand_tokens, written}
use Rattle.molang.specs.Write.{written_statements, written_tree}
use Rattle.molang.proofs.Writing.{written_none, written_one, written-two, written-more, written_tree-expression, written_tree-script}
use Rattle.molang.proofs.{Relabelling.{relabelled, tokens_for}, PlainRelabelled.{unplain_at-relabelled}}
use Rattle.molang.proofs.{OneName.{blank, apart, tokens_apart, nodes_apart}, PayloadWords.{Alike, both_nil, both_node, apart-itself}}

-- ---- Plain without payloads

-- Trees that differ in payloads only are plain alike.
pub plain-alike : (k l : Token) (cs ds : Forest) → relabelled blank (node k cs nil) ≡ relabelled blank (node l ds nil)
    → unplain_at k cs ≡ unplain_at l ds
unfolding unplain_at relabelled blank
plain-alike k l cs ds e =
    sym (unplain_at-relabelled blank (λ t. refl) k cs) ∙ (ap (unplain none 0 0) e ∙ unplain_at-relabelled blank (λ t. refl) l ds)

-- ---- Writing

-- Lists that differ in payloads only, and in at most n tokens.
pub record Beside (n : ℕ) (ks ls : List Token) : Type 0 where
  pub same : tokens_for blank ks ≡ tokens_for blank ls
  pub few : tokens_apart ks ls ≤ n

-- Two tokens before them, a token that both have, and more to count.
two-tokens : (k l : Token) {n : ℕ} {ks ls : List Token} → blank k ≡ blank l → Beside n ks ls → Beside (apart k l + n) (k ∷ ks) (l ∷ ls)
two-tokens k l e b = unfold tokens_for tokens_apart in record { same = rw (e, b.same) refl; few = omega (arith, b.few) }

one_token : (k l : Token) {n : ℕ} {ks ls : List Token} → k ≡ l → Beside n ks ls → Beside n (k ∷ ks) (l ∷ ls)
unfolding tokens_for tokens_apart
one_token k l {n} {ks} {ls} e b =
    rw (← e) (record { same = ap (λ (ts : List Token). blank k ∷ ts) b.same; few = omega (arith, b.few, apart-itself k) })

counted : {n m : ℕ} {ks ls : List Token} → n ≤ m → Beside n ks ls → Beside m ks ls
counted h b = record { same = b.same; few = omega (arith, b.few) }

same_op : (k l : Token) → blank k ≡ blank l → k.op ≡ l.op
same_op k l e = unfold blank in ap (λ (t : Token). t.op) e

same_start : (k l : Token) → blank k ≡ blank l → k.start ≡ l.start
same_start k l e = unfold blank in ap (λ (t : Token). t.start) e

same_end : (k l : Token) → blank k ≡ blank l → k.end ≡ l.end
same_end k l e = unfold blank in ap (λ (t : Token). t.end) e

lowest-alike : {f g : Forest} → Alike f g → (m : ℕ) → lowest_start m f ≡ lowest_start m g
unfolding lowest_start
lowest-alike both_nil m = refl
lowest-alike (both_node {k = k} {l = l} e below after) m =
    rw (same_start k l e, lowest-alike below (min m l.start)) (lowest-alike after _)

highest-alike : {f g : Forest} → Alike f g → (m : ℕ) → highest_end m f ≡ highest_end m g
unfolding highest_end
highest-alike both_nil m = refl
highest-alike (both_node {k = k} {l = l} e below after) m =
    rw (same_end k l e, highest-alike below (max m l.end)) (highest-alike after _)

-- The tokens that are put in are the same.
opener-alike : (k l : Token) {cs ds : Forest} → blank k ≡ blank l → Alike cs ds → opener_for k cs ≡ opener_for l ds
unfolding opener_for
opener-alike k l e a =
    rw (same_start k l e, same_end k l e, lowest-alike a l.start, highest-alike a l.end) refl

closer-alike : (k l : Token) {cs ds : Forest} → blank k ≡ blank l → Alike cs ds → closer_for k cs ≡ closer_for l ds
closer-alike k l e a = unfold closer_for in rw (same_end k l e, highest-alike a l.end) refl

section-alike : (k l : Token) → blank k ≡ blank l → closer_of k ≡ closer_of l
section-alike k l e = unfold closer_of blank in ap closer_of e

bare_alike : (o : ℕ) (k l : Token) → blank k ≡ blank l → bare o k ≡ bare o l
bare_alike o k l e = unfold bare blank in ap (bare o) e

-- The opener of a section keeps its payload.
unclosed-beside : (k l : Token) {n : ℕ} {ks ls : List Token} → blank k ≡ blank l → Beside n ks ls
    → Beside (apart k l + n) (unclosed k ∷ ks) (unclosed l ∷ ls)
unfolding unclosed closed_by blank apart
unclosed-beside k l e b = two-tokens (unclosed k) (unclosed l) (ap (λ (t : Token). closed_by t t) e) b

alone-alike : (k l : Token) {cs ds : Forest} → blank k ≡ blank l → Alike cs ds → stands_alone k cs ≡ stands_alone l ds
unfolding stands_alone
alone-alike k l e both_nil = refl
alone-alike k l e (both_node d below after) = ap is_bracket (same_op k l e)

left-alike : (p q k l : Token) {cs ds : Forest} → blank p ≡ blank q → blank k ≡ blank l → Alike cs ds
    → stands_left p k cs ≡ stands_left q l ds
left-alike p q k l d e a = unfold stands_left in rw (alone-alike k l e a, same_op p q d, same_op k l e) refl

right-alike : (p q k l : Token) {cs ds : Forest} → blank p ≡ blank q → blank k ≡ blank l → Alike cs ds
    → stands_right p k cs ≡ stands_right q l ds
right-alike p q k l d e a = unfold stands_right in rw (alone-alike k l e a, same_op p q d, same_op k l e) refl

-- F and G put lists before lists that are apart in n tokens more.
abbrev Puts : ℕ → (List Token → List Token) → (List Token → List Token) → Type 0
Puts n F G = (m : ℕ) (r s : List Token) → Beside m r s → Beside (n + m) (F r) (G s)

operand-beside : (n : ℕ) (b : Bool) (k l : Token) {cs ds : Forest} (F G : List Token → List Token) → blank k ≡ blank l → Alike cs ds
    → Puts n F G
    → Puts n (operand_tokens b k cs F) (operand_tokens b l ds G)
unfolding operand_tokens
operand-beside n true k l F G e a f m r s x = f m r s x
operand-beside n false k l F G e a f m r s x =
    one_token _ _ (opener-alike k l e a) (f m _ _ (one_token _ _ (closer-alike k l e a) x))

-- An expression.
written-beside : (k l : Token) {cs ds : Forest} → blank k ≡ blank l → Alike cs ds
    → Puts (apart k l + nodes_apart cs ds) (written k cs) (written l ds)
unfolding nodes_apart
written-beside k l e both_nil m r s x = split (is_bracket l.op) refl
  where
    split : (b : Bool) → is_bracket l.op ≡ b → Beside (apart k l + 0 + m) (written k nil r) (written l nil s)
    split true h =
        rw (written_none true k r (ap is_bracket (same_op k l e) ∙ h), written_none true l s h)
        (counted (omega arith) (unclosed-beside k l e (one_token _ _ (section-alike k l e) x)))
    split false h =
        rw (written_none false k r (ap is_bracket (same_op k l e) ∙ h), written_none false l s h)
        (counted (omega arith) (two-tokens k l e x))
written-beside k l e (both_node {k = x} {l = y} {cs = xs} {ds = ys} d below both_nil) m r s z =
    split (is_bracket l.op) refl (written-beside x y d below)
  where
    split : (b : Bool) → is_bracket l.op ≡ b → Puts (apart x y + nodes_apart xs ys) (written x xs) (written y ys)
        → Beside (apart k l + (apart x y + nodes_apart xs ys + 0) + m) (written k (node x xs nil) r) (written l (node y ys nil) s)
    split true h f =
        rw (written_one true k x xs r (ap is_bracket (same_op k l e) ∙ h), written_one true l y ys s h)
        (counted (omega arith) (unclosed-beside k l e (f m _ _ (one_token _ _ (section-alike k l e) z))))
    split false h f =
        rw (written_one false k x xs r (ap is_bracket (same_op k l e) ∙ h), written_one false l y ys s h, alone-alike x y d below)
        (counted (omega arith) (two-tokens k l e (operand-beside _ (stands_alone y ys) x y (written x xs) (written y ys) d below f m r s z)))
written-beside k l e
    (both_node {k = x} {l = y} {cs = xs} {ds = ys} d below (both_node {k = v} {l = w} {cs = vs} {ds = ws} g beside both_nil)) m r s z =
    rw (
      written-two k x xs v vs r,
      written-two l y ys w ws s,
      left-alike k l x y e d below,
      right-alike k l v w e g beside,
    )
    (counted (omega arith)
    (operand-beside _ (stands_left l y ys) x y (written x xs) (written y ys) d below (written-beside x y d below) _ _ _
    (two-tokens k l e
    (operand-beside _ (stands_right l w ws) v w (written v vs) (written w ws) g beside (written-beside v w g beside) m r s z))))
written-beside k l e (both_node {k = x} {l = y} {cs = xs} {ds = ys} d below
    (both_node {k = v} {l = w} {cs = vs} {ds = ws} g beside
    (both_node {k = t} {l = u} {cs = ts} {ds = us} {rest = tr} {more = ur} i third others)))
    m r s z =
    rw (written-more k x xs v vs t ts tr r, written-more l y ys w ws u us ur s) (counted (omega arith) (two-tokens k l e z))

-- The statements of a script.
statements-beside : {cs ds : Forest} → Alike cs ds → Beside (nodes_apart cs ds) (written_statements cs []) (written_statements ds [])
unfolding written_statements nodes_apart tokens_for tokens_apart
statements-beside both_nil = record { same = refl; few = omega arith }
statements-beside (both_node d both_nil after) = counted (omega arith) (statements-beside after)
statements-beside (both_node d (both_node {k = x} {l = y} e below others) after) =
    counted (omega arith)
    (written-beside x y e below _ _ _ (one_token _ _ (bare_alike Operator.semicolon x y e) (statements-beside after)))

-- TREES THAT DIFFER IN PAYLOADS ONLY ARE WRITTEN ALIKE, apart in no more tokens than nodes.
pub tree-beside : (k l : Token) {cs ds : Forest} → blank k ≡ blank l → Alike cs ds
    → Beside (apart k l + nodes_apart cs ds) (written_tree k cs) (written_tree l ds)
unfolding tokens_for tokens_apart
tree-beside k l {cs} {ds} e a = split (eqb l.op Operator.semicolon) refl
  where
    split : (b : Bool) → eqb l.op Operator.semicolon ≡ b
        → Beside (apart k l + nodes_apart cs ds) (written_tree k cs) (written_tree l ds)
    split true h =
        rw (written_tree-script k cs (ap (λ (n : ℕ). eqb n Operator.semicolon) (same_op k l e) ∙ h), written_tree-script l ds h)
        (counted (omega arith) (statements-beside a))
    split false h =
        rw (written_tree-expression k cs (ap (λ (n : ℕ). eqb n Operator.semicolon) (same_op k l e) ∙ h), written_tree-expression l ds h)
        (counted (omega arith) (written-beside k l e a 0 [] [] (record { same = refl; few = omega arith })))

-- Lists that differ in payloads only are as long.
pub blank-length : (ks : List Token) → length (tokens_for blank ks) ≡ length ks
unfolding tokens_for
blank-length [] = refl
blank-length (k ∷ ks) = ap suc (blank-length ks)

pub beside-length : {n : ℕ} (ks ls : List Token) → Beside n ks ls → length ls ≡ length ks
beside-length ks ls b = sym (blank-length ls) ∙ (ap length (sym b.same) ∙ blank-length ks)
