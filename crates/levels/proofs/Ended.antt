-- Finished statements of a list that is split at its semicolons: where the first stands, and what a change of words leaves of them.
use Prim.Native.Nat.{ℕ, ◌+◌, ◌≤◌, ◌<◌}
use mathlib.Core.{Path.{◌≡◌, refl, sym, ap, ◌∙◌, subst}, Bool.{false, true≢false}, List.{List}}
use native.Mathlib.Omega.{arith}
use lib.ListN.{length}
use Rattle.molang.specs.{Forest.{Token, Forest}, Free.{is_nil}}
use Rattle.nodes.{specs.Store.{wd, TokenAt, SegB, OutFrom}, proofs.Runs.{seg_b-keep}, proofs.Tokens.{token-keep}, proofs.Store.{tree-keep}}
use Rattle.levels.specs.Sides.{EndedAt, Ended, nothing, statement}
use Rattle.levels.proofs.Reading.{SameSlots, SameWords}

pub ended-le : {W X ds : List ℕ} {lo l : ℕ} {d : Forest} → Ended W X ds lo l d → lo ≤ l
ended-le (nothing e) = e
ended-le (statement r t o e) = let z = ended-le r in omega (arith, t.low)

pub ended-keep : (W W' : List ℕ) {X ds : List ℕ} {lo l : ℕ} {d : Forest} → SameSlots W W' X lo l → Ended W X ds lo l d
    → Ended W' X ds lo l d
ended-keep W W' h (nothing e) = nothing e
ended-keep W W' h (statement r t o e) =
    let z = ended-le r in
    let low = t.low in
    statement (ended-keep W W' (λ s i x y u p. h s i x (omega arith) u p) r)
    (tree-keep W W' (λ s i x y u p n. h s i (omega arith) (omega arith) u p) t) o e

-- the first of them: its slot and the two after it
pub record FirstEnded (X : List ℕ) (lo l p : ℕ) : Type 0 where
  pub low : lo ≤ p
  pub high : p + 3 ≤ l
  pub pos : 0 < p
  pub out : OutFrom p 3 X

pub ended-first : {W X ds : List ℕ} {lo l : ℕ} {d : Forest} (base : ℕ) → Ended W X ds lo l d → SegB W base ds → is_nil d ≡ false
    → FirstEnded X lo l (wd W base)
unfolding is_nil
ended-first base (nothing e) g n = absurd (true≢false n)
ended-first {W} {X} {lo = lo} {l = l} base (statement {b = b} (nothing z) t o e) g n =
    let at : b ≡ wd W base = sym g.0 ∙ ap (wd W) (omega arith) in
    subst (λ (x : ℕ). FirstEnded X lo l x) at (record { low = omega (arith, t.low); high = e; pos = t.pos; out = o })
ended-first base (statement (statement r u w z) t o e) g n =
    let f = ended-first base (statement r u w z) g.1 refl in
    record { low = f.low; high = omega (arith, f.high, t.low); pos = f.pos; out = f.out }

pub ended-at-keep : (W W' : List ℕ) {X : List ℕ} {base n lo l : ℕ} {q : Token} {done : Forest} → SameSlots W W' X lo l
    → SameWords W W' base (base + n)
    → EndedAt W X base n lo l q done → EndedAt W' X base n lo l q done
unfolding is_nil
ended-at-keep W W' {X} {base} {n} {lo} {l} {q} {done} slots words v =
    record {
      ds = v.ds;
      seg = seg_b-keep W W' base v.ds (λ j a b. words j a (omega (arith, v.count))) v.seg;
      count = v.count;
      rep = ended-keep W W' slots v.rep;
      list = λ e. listed e (ended-first base v.rep v.seg e) (some-ended v.rep e);
    }
  where
    some-ended : {ds : List ℕ} {lo l : ℕ} {d : Forest} → Ended W X ds lo l d → is_nil d ≡ false → 0 < length ds
    some-ended (nothing z) e = absurd (true≢false e)
    some-ended (statement r t o z) e = omega arith

    listed : is_nil done ≡ false → FirstEnded X lo l (wd W base) → 0 < length v.ds → TokenAt W' (wd W' base + 2) q
    listed e f nonempty =
        let same : wd W base ≡ wd W' base = sym (words base (omega arith) (omega (arith, v.count))) in
        let p = wd W base in
        let low = f.low in let high = f.high in
        subst (λ (x : ℕ). TokenAt W' (x + 2) q) same
        (token-keep W W' (p + 2)
        (λ o z. slots (p + 2) o (omega arith) (omega arith) (omega arith) (f.out (p + 2) (omega arith) (omega arith))) (v.list e))
