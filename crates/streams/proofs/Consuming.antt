-- Bytes that were taken one part after the other, into a part of a buffer behind those that lie there.
use Rattle.std.proofs.Common.{◌≡◌, refl, ℕ, ◌+◌, ◌≤◌, List, [], ◌++◌, None, Some, length, take, drop, ap, sym, ◌∙◌, subst, append_assoc}
use Rattle.std.proofs.lemmas.List.{take-append-le}
use Rattle.std.proofs.lemmas.Slice.{take-put_mid_below}
use Rattle.std.proofs.Common.{drop_at, length-take-le, le_refl}
use Rattle.std.proofs.Math.Seq.{take-add}
use Rattle.std.specs.Io.KnownBytes.{Consumes, Keeps}
use Rattle.std.specs.declared.option.Option.{Option}
use borrow.Rule.Slice.PartMut.{put_mid, post_of}

pub none-taken : (a : Option (List ℕ)) → Consumes a a []
none-taken None = tt
none-taken (Some x) = refl

taken-then : (a b c : Option (List ℕ)) (bs cs : List ℕ) → Consumes a b bs → Consumes b c cs → Consumes a c (bs ++ cs)
taken-then None b c bs cs p q = tt
taken-then (Some x) None c bs cs p q = absurd p
taken-then (Some x) (Some y) None bs cs p q = absurd q
taken-then (Some x) (Some y) (Some z) bs cs p q = p ∙ ap (λ (l : List ℕ). bs ++ l) q ∙ sym (append_assoc bs cs z)

taken-kept : (a b c : Option (List ℕ)) (bs : List ℕ) → Consumes a b bs → Keeps b c → Consumes a c bs
taken-kept None b c bs p q = tt
taken-kept (Some x) None c bs p q = absurd p
taken-kept (Some x) (Some y) None bs p q = absurd q
taken-kept (Some x) (Some y) (Some z) bs p q = p ∙ ap (λ (l : List ℕ). bs ++ l) (sym q)

-- The first `a + n` bytes, where n of a part's bytes were written behind the first a.
behind : (a k n : ℕ) (xs ys : List ℕ) → a ≤ length xs → n ≤ length ys → take (a + n) (put_mid a k xs ys) ≡ take a xs ++ take n ys
behind a k n xs ys within fits =
    take-add a n (put_mid a k xs ys)
    ∙ (ap (λ (l : List ℕ). l ++ take n (drop a (put_mid a k xs ys))) (take-put_mid_below a k xs ys a (le_refl a) within)
    ∙ ap (λ (l : List ℕ). take a xs ++ l)
    (ap (take n) (drop_at (take a xs) (ys ++ post_of a k xs) a (length-take-le a xs within)) ∙ take-append-le n ys (post_of a k xs) fits))

-- One read more, and one that gave nothing.
pub taken-on : (r s t : Option (List ℕ)) (a k n : ℕ) (xs ys : List ℕ) → a ≤ length xs → n ≤ length ys → Consumes r s (take a xs)
    → Consumes s t (take n ys)
    → Consumes r t (take (a + n) (put_mid a k xs ys))
taken-on r s t a k n xs ys within fits p q =
    subst (Consumes r t) (sym (behind a k n xs ys within fits)) (taken-then r s t (take a xs) (take n ys) p q)

pub taken-failed : (r s t : Option (List ℕ)) (a k : ℕ) (xs ys : List ℕ) → a ≤ length xs → Consumes r s (take a xs) → Keeps s t
    → Consumes r t (take a (put_mid a k xs ys))
taken-failed r s t a k xs ys within p q =
    subst (Consumes r t) (sym (take-put_mid_below a k xs ys a (le_refl a) within)) (taken-kept r s t (take a xs) p q)
