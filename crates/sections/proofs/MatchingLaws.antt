-- What `sections` leaves is the definition's answer, and the bracket step of the definition loses nothing of a childless list; so neither
-- does the function.
use Prim.Native.Nat.{ℕ}
use mathlib.Core.{Path.{◌≡◌, refl, sym, ◌∙◌, subst}, List.{List, []}}
use Rattle.molang.{specs.Forest.{Token, Forest, nil, leaves}, specs.Message.{Message, Result as Answer}, specs.Sections.{outside, sections}}
use Rattle.molang.{specs.Matching.{matched, succeeds, NothingLost}, proofs.Matching.{nothing-lost}}
use Rattle.sections.specs.{Flat.{FlatTells, Answers, CanSection, Sectioned}, Matching.{StandsWhole, LosesNothing}}
use Rattle.levels.specs.declared.failure.Fault.{Fault}
use Rattle.std.specs.Prelude.{Result, Ok, Err, is_ok}

-- A list is left where the answer is one.
done-succeeds : {E : Type 0} (Told : E → List Message → Type 0) (W X : List ℕ) (base lo hi n : ℕ) (answer : Answer) (r : Result ℕ E)
    → Answers Told W X base lo hi n answer r → is_ok r ≡ succeeds answer
unfolding succeeds
done-succeeds Told W X base lo hi n answer (Ok m) a = rw a.is refl
done-succeeds Told W X base lo hi n answer (Err e) a = rw a.is refl

pub loses-nothing : {W W' : List ℕ} {base n : ℕ} {r : Result ℕ Fault} → Sectioned W base n r W'
    → Sectioned W base n r W' × LosesNothing W base n r W'
loses-nothing {W} {W'} {base} {n} {r} v = (v, record { matches = matches; whole = whole })
  where
    nothing : (g : CanSection W base n) (ks : List Token) → g.f ≡ leaves ks → NothingLost ks (sections 0 (outside nil) g.f)
    nothing g ks e = subst (λ (f : Forest). NothingLost ks (sections 0 (outside nil) f)) (sym e) (nothing-lost ks)

    matches : (g : CanSection W base n) (ks : List Token) → g.f ≡ leaves ks → is_ok r ≡ matched [] ks
    matches g ks e = done-succeeds (FlatTells W') W' g.X base g.lo g.hi n _ r (v.answer g) ∙ (nothing g ks e).matches

    whole : (g : CanSection W base n) (ks : List Token) → g.f ≡ leaves ks → (m : ℕ) → r ≡ Ok m
        → StandsWhole W' g.X base g.lo g.hi m ks
    whole g ks e m d =
        let a = subst (λ (r : Result ℕ Fault). Answers (FlatTells W') W' g.X base g.lo g.hi n (sections 0 (outside nil) g.f) r) d (v.answer g) in
        record { trees = a.forest; array = a.array; whole = (nothing g ks e).whole a.forest a.is }
