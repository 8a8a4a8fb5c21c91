-- WHERE THE WALK STANDS: the tokens from a place on, and what has been seen of them.
use Prim.Native.Nat.{ℕ, zero, suc, ◌*◌, ◌-◌, ◌/◌, ◌≤◌, ◌<◌}
use mathlib.Core.Path.{◌≡◌, refl, ap, ap₂, sym, ◌∙◌}
use mathlib.Core.{Bool.{Bool, true, false, ◌&&◌, ◌||◌, not, true≢false, false≢true, and-eq-true_iff}, List.{List, [], ◌∷◌}}
use native.Mathlib.Omega.{arith}
use lib.{Dec.{eqb, leb}, ListN.{length, drop}}
use borrow.Author.Tests.{eqb-true, eqb-false, leb-true, lt-leb}
use Rattle.molang.specs.Operator
use Rattle.molang.specs.{Operator.{is_operator}, Forest.{Token}, Read.{uses}, Grammar.{Text, tokens, tokens_before, begins_with, lacks}}
use Rattle.molang.proofs.Booleans.{either, never, or-second}
use Rattle.molang.specs.Grammar as Texts
use Rattle.scan.specs.{Entries.{nth, token_at}, Turns.{Walking, op_of_place, op_before, is_let}}

nth_drop : (T : List Token) (i : ℕ) → i < length T → drop i T ≡ nth T i ∷ drop (suc i) T
unfolding nth
nth_drop [] i l = absurd (omega arith)
nth_drop (k ∷ ks) zero l = refl
nth_drop (k ∷ ks) (suc i) l = nth_drop ks i (omega arith)

nth_of : (T : List Token) (i : ℕ) (c : Token) (M : List Token) → drop i T ≡ c ∷ M → nth T i ≡ c
unfolding nth
nth_of [] zero c M e = let z : ◌≡◌ {A = ℕ} 0 1 = cc in absurd (omega arith)
nth_of [] (suc i) c M e = let z : ◌≡◌ {A = ℕ} 0 1 = cc in absurd (omega arith)
nth_of (k ∷ ks) zero c M e = cc
nth_of (k ∷ ks) (suc i) c M e = nth_of ks i c M e

-- The tokens from a place on.
pub record At (T : List Token) (left : ℕ) (L : List Token) : Type 0 where
  pub index : ℕ
  pub place : left ≡ 5 * index
  pub within : index ≤ length T
  pub rest : drop index T ≡ L

-- One token to the left.
pub back : {T : List Token} {left : ℕ} {L : List Token} → At T left L → eqb left 0 ≡ false → At T (left - 5) (token_at T (left - 5) ∷ L)
unfolding token_at
back {T} {left} {L} a z = by a.index a.place a.within a.rest
  where
    by : (i : ℕ) → left ≡ 5 * i → i ≤ length T → drop i T ≡ L → At T (left - 5) (nth T ((left - 5) / 5) ∷ L)
    by zero p w e = absurd (eqb-false left 0 z p)
    by (suc i) p w e =
        let q : (left - 5) / 5 ≡ i = omega arith in
        record {
          index = i;
          place = omega arith;
          within = omega arith;
          rest = nth_drop T i (omega arith) ∙ ap₂ (λ (k : Token) (M : List Token). k ∷ M) (ap (nth T) (sym q)) e;
        }

-- The token that stands first.
pub token-at : {T : List Token} {left : ℕ} {k : Token} {L : List Token} → At T left (k ∷ L) → token_at T left ≡ k
unfolding token_at
token-at {T} {left} {k} {L} a =
    let p = a.place in let q : left / 5 ≡ a.index = omega (arith, p) in ap (nth T) q ∙ nth_of T a.index k L a.rest

pub token-there : (T : List Token) (place : ℕ) (c : Token) (M : List Token) → drop (place / 5) T ≡ c ∷ M → token_at T place ≡ c
unfolding token_at
token-there T place c M e = nth_of T (place / 5) c M e

-- The operator before a place, if there is one.
pub before-is : (g : Walking) (left : ℕ) → eqb left 0 ≡ false → op_before g left ≡ op_of_place g (left - 5)
unfolding op_before
before-is g left z = rw (z, op_before) refl

-- ---- what has been seen

-- Every operator that has been read is in the used set.
abbrev pub Seen : Walking → List Token → Type 0
Seen g L = (n : ℕ) → uses L n ≡ true → g.used n ≡ true

seen_by : (b : Bool) (u v : Bool) → (b ≡ true → v ≡ true) → (u ≡ true → v ≡ true) → (b || u) ≡ true → v ≡ true
seen_by true u v f h e = f refl
seen_by false u v f h e = h e

pub seen_more : (g : Walking) (k : Token) (L : List Token) → is_let g k.op ≡ true → Seen g L → Seen g (k ∷ L)
unfolding uses is_let
seen_more g k L h s n e = seen_by (leb n Operator.host_math_volatile && eqb k.op n) (uses L n) (g.used n) here (s n) e
  where
    here : (leb n Operator.host_math_volatile && eqb k.op n) ≡ true → g.used n ≡ true
    here t =
        let p = (and-eq-true_iff (leb n Operator.host_math_volatile) (eqb k.op n)).0 t in
        let l = leb-true n 110 p.0 in
        let i = eqb-true k.op n p.1 in
        let f : leb 111 k.op ≡ false = lt-leb 111 k.op (omega (arith, l, i)) in
        let u : g.used k.op ≡ true = (rw f at h) in ap g.used (sym i) ∙ u

pub seen-less : (g : Walking) (k : Token) (L : List Token) → Seen g (k ∷ L) → Seen g L
unfolding uses
seen-less g k L s n e = s n (or-second (leb n Operator.host_math_volatile && eqb k.op n) (uses L n) e)

-- ---- the first token of a text

-- A text has a token, and what comes after it does not change that.
pub begins-same : (n : ℕ) (x : Text) (L M : List Token) → begins_with n (tokens x L) ≡ begins_with n (tokens x M)
unfolding tokens begins_with
begins-same n (Texts.operand k) L M = refl
begins-same n (Texts.member b a ms) L M = refl
begins-same n (Texts.section o c x) L M = refl
begins-same n (Texts.query k o c x) L M = refl
begins-same n (Texts.math_call k o c x) L M = refl
begins-same n (Texts.math_empty k o c) L M = refl
begins-same n (Texts.index k o c x) L M = refl
begins-same n (Texts.arrow k x y) L M = begins-same n x _ _
begins-same n (Texts.prefix k x) L M = refl
begins-same n (Texts.returned k x) L M = refl
begins-same n (Texts.between k x y) L M = begins-same n x _ _
begins-same n (Texts.minus k x y) L M = begins-same n x _ _
begins-same n (Texts.minuses k l x y) L M = begins-same n x _ _
begins-same n (Texts.choice q c t) L M = begins-same n c _ _
begins-same n (Texts.chosen q k c t e) L M = begins-same n c _ _
begins-same n (Texts.script x) L M = begins-same n x L M
begins-same n (Texts.line e es x) L M = begins-same n x _ _
begins-same n (Texts.lines x y) L M = begins-same n x _ _
begins-same n (Texts.final x) L M = begins-same n x L M

-- ---- parts of what has been seen

-- What one list uses, the other does.
abbrev Within : ℕ → List Token → List Token → Type 0
Within n A B = uses A n ≡ true → uses B n ≡ true

more : (n : ℕ) (k : Token) (A B : List Token) → Within n A B → Within n (k ∷ A) (k ∷ B)
unfolding uses
more n k A B f e = either (leb n Operator.host_math_volatile && eqb k.op n) (λ t. rw t refl) (λ z. rw z (f (rw z at e)))

befores : (n : ℕ) (ms A B : List Token) → Within n A B → Within n (tokens_before ms A) (tokens_before ms B)
unfolding tokens_before
befores n [] A B f = f
befores n (m ∷ ms) A B f = more n m _ _ (befores n ms A B f)

uses-within : (n : ℕ) (x : Text) (A B : List Token) → Within n A B → Within n (tokens x A) (tokens x B)
unfolding tokens
uses-within n (Texts.operand k) A B f = more n k _ _ f
uses-within n (Texts.member b a ms) A B f = more n b _ _ (more n a _ _ (befores n ms A B f))
uses-within n (Texts.section o c x) A B f = more n o _ _ (uses-within n x _ _ (more n c _ _ f))
uses-within n (Texts.query k o c x) A B f = more n k _ _ (more n o _ _ (uses-within n x _ _ (more n c _ _ f)))
uses-within n (Texts.math_call k o c x) A B f = more n k _ _ (more n o _ _ (uses-within n x _ _ (more n c _ _ f)))
uses-within n (Texts.math_empty k o c) A B f = more n k _ _ (more n o _ _ (more n c _ _ f))
uses-within n (Texts.index k o c x) A B f = more n k _ _ (more n o _ _ (uses-within n x _ _ (more n c _ _ f)))
uses-within n (Texts.arrow k x y) A B f = uses-within n x _ _ (more n k _ _ (uses-within n y _ _ f))
uses-within n (Texts.prefix k x) A B f = more n k _ _ (uses-within n x _ _ f)
uses-within n (Texts.returned k x) A B f = more n k _ _ (uses-within n x _ _ f)
uses-within n (Texts.between k x y) A B f = uses-within n x _ _ (more n k _ _ (uses-within n y _ _ f))
uses-within n (Texts.minus k x y) A B f = uses-within n x _ _ (more n k _ _ (uses-within n y _ _ f))
uses-within n (Texts.minuses k l x y) A B f = uses-within n x _ _ (more n k _ _ (more n l _ _ (uses-within n y _ _ f)))
uses-within n (Texts.choice q c t) A B f = uses-within n c _ _ (more n q _ _ (uses-within n t _ _ f))
uses-within n (Texts.chosen q k c t e) A B f =
    uses-within n c _ _ (more n q _ _ (uses-within n t _ _ (more n k _ _ (uses-within n e _ _ f))))
uses-within n (Texts.script x) A B f = uses-within n x A B f
uses-within n (Texts.line e es x) A B f = uses-within n x _ _ (more n e _ _ (befores n es A B f))
uses-within n (Texts.lines x y) A B f = uses-within n x _ _ (uses-within n y A B f)
uses-within n (Texts.final x) A B f = uses-within n x A B f

-- A text whose tokens have been seen lacks what the used set lacks.
pub lacks-unused : (g : Walking) (n : ℕ) (x : Text) (L : List Token) → Seen g (tokens x L) → g.used n ≡ false → lacks n x ≡ true
unfolding lacks
lacks-unused g n x L s u =
    ap not (never (uses (tokens x []) n)
    (λ t. true≢false (sym (s n (uses-within n x [] L (λ e. absurd (false≢true (unfold uses in e))) t)) ∙ u)))
