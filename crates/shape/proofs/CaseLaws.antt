-- What the arm of a `match` on an enum says where it stands for several variants.
use Prim.Native.Nat.{ℕ, ◌/◌, ◌^◌, ◌≤◌, ◌<◌}
use mathlib.Core.{Path.{◌≡◌, refl, ap, ◌∙◌}, Bool.{Bool, true, false, ◌&&◌, and-false}, List.{[], ◌∷◌}}
use native.Mathlib.Omega.{arith}
use lib.Dec.{eqb, leb, ltb}
use borrow.Author.Tests.{eq-eqb, eqb-true, le-leb, lt-leb, lt-ltb, le-ltb}
use Rattle.molang.{specs.Operator.{is_operator}, specs.FirstFailure.{must, first_of}}
use Rattle.molang.specs.Words.{kind_of, low_of, operator_field, count_field, field_kind, low_fault, word_fault}
use Rattle.molang.{proofs.Booleans.{either}, proofs.FirstFailure.{must-true, after_none}}
use Rattle.words.{proofs.CheckLaws.{operator-tests}, specs.Fields.{operator_of, variant_of}, specs.Checks.{number_of}}
use Rattle.words.specs.declared.refusals.Reason.{Reason}
use Rattle.std.specs.Prelude.{⊤, Result, Ok, Err, is_ok}
use Rattle.shape.specs.{declared.Field.{Field}, declared.Field.TheVariants.{Operator, Start, End, Upper, Lower, Count, Close}}
use Rattle.std.specs.Prelude.{Option as Found, Some, None}
use Rattle.molang.specs.Words.{with_number}
use Rattle.shape.specs.Answers.{is_legal, place_of, refusal_of}

legal-must : (b : Bool) (n : ℕ) → is_legal (must b n) ≡ b
unfolding must
legal-must true n = refl
legal-must false n = refl

-- A word of kind 6 is legal by its low bits.
pub legal-count : (w : ℕ) → kind_of w ≡ 6 → is_legal (word_fault count_field 0 w) ≡ ltb (low_of w) (2 ^ 14)
unfolding word_fault field_kind low_fault
legal-count w e =
    ap is_legal (after_none (must (eqb (kind_of w) 6) 8) (must (ltb (low_of w) (2 ^ 14)) 11) (must-true _ 8 (eq-eqb _ 6 e)))
    ∙ legal-must (ltb (low_of w) (2 ^ 14)) 11

-- A word of kind 1 is legal by its fields: kind and other bits, operator, payload variant.
module _ (w : ℕ) where
  four-tests : (k a b c : Bool)
      → is_legal (first_of (must k 8 ∷ first_of (must a 9 ∷ must b 10 ∷ must c 11 ∷ []) ∷ [])) ≡ ((k && c) && (b && a))
  unfolding first_of must
  four-tests true true true true = refl
  four-tests true true true false = refl
  four-tests true true false true = refl
  four-tests true true false false = refl
  four-tests true false true true = refl
  four-tests true false true false = refl
  four-tests true false false true = refl
  four-tests true false false false = refl
  four-tests false a b c = refl

  legal-operator : is_legal (word_fault operator_field 0 w)
      ≡ ((eqb (kind_of w) 1 && ltb (low_of w) 65536) && (leb (variant_of w) 12 && is_operator (operator_of w)))
  legal-operator = unfold word_fault field_kind in rw (operator-tests w) (four-tests (eqb (kind_of w) 1) _ _ _)

  pub other-kind : (w / 65536 ≡ 8192 → ⊥) → is_legal (word_fault operator_field 0 w) ≡ false
  unfolding kind_of low_of
  other-kind differs =
      legal-operator
      ∙ either (eqb (kind_of w) 1)
      (λ e. rw (e, le-ltb (low_of w) 65536 (either_way (eqb-true _ _ e))) refl)
      (λ e. rw e refl)
    where
      either_way : kind_of w ≡ 1 → 65536 ≤ low_of w
      either_way e = omega arith

  pub high-variant : 12 < variant_of w → is_legal (word_fault operator_field 0 w) ≡ false
  high-variant h = legal-operator ∙ rw (lt-leb (variant_of w) 12 h) (and-false (eqb (kind_of w) 1 && ltb (low_of w) 65536))

  pub by_number : w / 65536 ≡ 8192 → variant_of w ≤ 12 → is_legal (word_fault operator_field 0 w) ≡ is_operator (operator_of w)
  unfolding kind_of low_of
  by_number e h =
      let kind : kind_of w ≡ 1 = omega arith in
      let room : low_of w < 65536 = omega arith in
      legal-operator ∙ rw (eq-eqb _ 1 kind, lt-ltb _ 65536 room, le-leb (variant_of w) 12 h) refl

-- A word's check is legal where it is no error.
pub legal-good : (x : Result ⊤ Reason) → is_ok x ≡ is_legal (number_of x)
legal-good (Ok _) = refl
legal-good (Err r) = refl

-- What holds of every field but the operator, and of every field but the operator and the count.
pub not-operator : (P : Field → Type 0) → P Start → P End → P Upper → P Lower → P Count → P Close → (s : Field) → (s ≡ Operator → ⊥) → P s
not-operator P b c d e n g Operator h = absurd (h refl)
not-operator P b c d e n g Start h = b
not-operator P b c d e n g End h = c
not-operator P b c d e n g Upper h = d
not-operator P b c d e n g Lower h = e
not-operator P b c d e n g Count h = n
not-operator P b c d e n g Close h = g

pub neither : (P : Field → Type 0) → P Start → P End → P Upper → P Lower → P Close → (s : Field) → (s ≡ Operator → ⊥) → (s ≡ Count → ⊥) → P s
neither P b c d e g Count h m = absurd (m refl)
neither P b c d e g Operator h m = absurd (h refl)
neither P b c d e g Start h m = b
neither P b c d e g End h m = c
neither P b c d e g Upper h m = d
neither P b c d e g Lower h m = e
neither P b c d e g Close h m = g

-- A fault under the number 12.
pub numbered-12 : (fault : Found ℕ) → with_number 12 (place_of fault) ≡ refusal_of fault
numbered-12 None = refl
numbered-12 (Some place) = refl
