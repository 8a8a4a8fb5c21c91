-- Whether a tree is plain, and where it is not, depends on its operators alone: an exchange of tokens that keeps these keeps it plain.
-- Other payloads are such an exchange (card 6), other seventh words too (card 12).
use Prim.Native.Nat.{ℕ, suc, ◌+◌}
use mathlib.Core.{Path.{◌≡◌, refl}, Bool.{true, false}, Option.{Option, none, some}}
use lib.Dec.{eqb}
use Rattle.molang.specs.Operator
use Rattle.molang.specs.Forest.{Token, Forest, nil, node, size}
use Rattle.molang.specs.Plain.{Seat, at_root, under_semicolon, elsewhere, right_of_question, under_math_call, seat_under, expression_form}
use Rattle.molang.specs.Plain.{all_semicolons, semicolon_form, plain_form, seat_of, unplain, unplain_at}
use Rattle.molang.proofs.Relabelling.{relabelled, rel-size}

module _ (φ : Token → Token) (same : (k : Token) → (φ k).op ≡ k.op) where
  expression-relabelled : (p : Seat) (k : Token) (cs : Forest) → expression_form p (φ k) (relabelled φ cs) ≡ expression_form p k cs
  unfolding expression_form relabelled
  expression-relabelled p k nil = rw (same k) refl
  expression-relabelled p k (node x xs nil) = rw (same k, same x) refl
  expression-relabelled p k (node x xs (node y ys nil)) = rw (same k) refl
  expression-relabelled p k (node x xs (node y ys (node z zs r))) = refl

  semicolons-relabelled : (f : Forest) → all_semicolons (relabelled φ f) ≡ all_semicolons f
  unfolding all_semicolons relabelled
  semicolons-relabelled nil = refl
  semicolons-relabelled (node k cs rest) = rw (same k, semicolons-relabelled rest) refl

  semicolon-relabelled : (p : Seat) (cs : Forest) → semicolon_form p (relabelled φ cs) ≡ semicolon_form p cs
  unfolding semicolon_form relabelled
  semicolon-relabelled at_root nil = refl
  semicolon-relabelled at_root (node x xs rest) = semicolons-relabelled (node x xs rest)
  semicolon-relabelled under_semicolon nil = refl
  semicolon-relabelled under_semicolon (node x xs nil) = rw (same x) refl
  semicolon-relabelled under_semicolon (node x xs (node y ys r)) = refl
  semicolon-relabelled elsewhere cs = refl
  semicolon-relabelled right_of_question cs = refl
  semicolon-relabelled under_math_call cs = refl

  plain-relabelled : (p : Seat) (k : Token) (cs : Forest) → plain_form p (φ k) (relabelled φ cs) ≡ plain_form p k cs
  unfolding plain_form
  plain-relabelled p k cs =
      rw (same k, plain_form)
      (λ i. elim (eqb k.op Operator.semicolon) [ true ↦ semicolon-relabelled p cs i | false ↦ expression-relabelled p k cs i ])

  unplain-relabelled : (p q : Option Token) → ((i : ℕ) → seat_of q i ≡ seat_of p i) → (i n : ℕ) (f : Forest)
      → unplain q i n (relabelled φ f) ≡ unplain p i n f
  unfolding unplain relabelled seat_of seat_under
  unplain-relabelled p q s i n nil = refl
  unplain-relabelled p q s i n (node k cs rest) =
      rw (
        s i,
        plain-relabelled (seat_of p i) k cs,
        unplain-relabelled (some k) (some (φ k)) (λ j. rw (same k) refl) 0 (suc n) cs,
        rel-size φ cs,
        unplain-relabelled p q s (suc i) (suc n + size cs) rest,
      ) refl

  -- WHETHER A TREE IS PLAIN, AND WHERE NOT, depends on its operators alone.
  pub unplain_at-relabelled : (k : Token) (cs : Forest) → unplain_at (φ k) (relabelled φ cs) ≡ unplain_at k cs
  unplain_at-relabelled k cs = unfold unplain_at relabelled in unplain-relabelled none none (λ i. refl) 0 0 (node k cs nil)
