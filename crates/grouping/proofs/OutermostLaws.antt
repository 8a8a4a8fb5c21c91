-- The outermost list between two passes: given to slot 0 it still stands where it stood, it can be moved down, and the next pass may take
-- it from there.
use Prim.Native.Nat.{ℕ, ◌+◌, ◌≤◌, ◌<◌}
use mathlib.Core.{Path.{◌≡◌, refl, sym, ap, ◌∙◌, subst}, List.{List, [], ◌∷◌}}
use native.Mathlib.{Omega.{arith}, Nat.{add-zero}}
use lib.{ListN.{length}}
use Rattle.molang.specs.Forest.{Forest}
use Rattle.nodes.specs.{Store.{wd, first_field, classes_field, slot_start, next_word, first_at, Seg, InArray}, Children.{Taken, Given}}
use Rattle.nodes.proofs.{Runs.{off-above, seg-keep, chain-unique}, Store.{rep-lower, rep-keep, links-keep, roots-above}}
use Rattle.nodes.proofs.Trees.{array_owned}
use Rattle.grouping.specs.Driver.{Outermost, Moved}

-- slot 0 takes an array, which stays where it is
pub give-outermost : {W W' : List ℕ} {at n lo hi : ℕ} {f : Forest} → Given W 0 at n W' → InArray W (0 ∷ []) at n lo hi f → 0 < hi
    → slot_start hi ≤ at → Outermost W' at n hi f
give-outermost {W} {W'} {at} {n} {lo} {hi} w v own below =
    let o = array_owned w v in
    let items : v.bs ≡ o.cs = chain-unique W' (first_at W' 0) v.bs o.cs (w.linked v.bs v.seg (sym v.count)) o.chain in
    let stays : Seg W' at v.bs
    = seg-keep W W' at v.bs
    (λ j a b. w.same v.bs v.seg (sym v.count) j (omega arith) (omega arith)
    (off-above v.bs 1 hi (roots-above v.rep own) (omega arith)))
    v.seg in
    record {
      owned = record { cs = o.cs; chain = o.chain; notes = o.notes; kids = rep-lower (omega arith) o.kids };
      seg = subst (λ (cs : List ℕ). Seg W' at cs) items stays;
      count = v.count ∙ ap length items;
    }

seg-move : (W W' : List ℕ) (at to : ℕ) (cs : List ℕ) → ((i : ℕ) → i < length cs → wd W' (to + i) ≡ wd W (at + i)) → Seg W at cs
    → Seg W' to cs
seg-move W W' at to [] h s = tt
seg-move W W' at to (c ∷ cs) h s =
    let first : wd W' to ≡ wd W at = rw (sym (add-zero to), sym (add-zero at)) (h 0 (omega arith)) in (
      first ∙ s.0,
      seg-move W W' (at + 1) (to + 1) cs
          (λ i e. subst (λ (x : ℕ). wd W' x ≡ wd W (at + 1 + i)) (omega arith)
          (subst (λ (x : ℕ). wd W' (to + (1 + i)) ≡ wd W x) (omega arith) (h (1 + i) (omega arith)))) s.1,
    )

-- its items are moved to other words above the slots
pub move-outermost : {W W' : List ℕ} {from n base hi : ℕ} {f : Forest} → Moved W from n base W' → Outermost W from n hi f → 0 < hi
    → slot_start hi ≤ base → Outermost W' base n hi f
move-outermost {W} {W'} {from} {n} {base} {hi} {f} w v own below =
    let o = v.owned in
    record {
      owned = record {
        cs = o.cs;
        chain =
            rw (w.same first_field (omega arith))
            (links-keep W W' (first_at W 0) o.kids (λ s a b x. w.same (next_word s) (omega arith)) o.chain);
        notes = rw (w.same classes_field (omega arith)) o.notes;
        kids = rep-keep W W' (λ s i a b c x y. w.same (slot_start s + i) (omega arith)) o.kids;
      };
      seg = seg-move W W' from base o.cs (λ i e. w.words i (omega (arith, v.count))) v.seg;
      count = v.count;
    }

-- it need not be taken from slot 0
pub outermost-taken : {W : List ℕ} {base n hi : ℕ} {f : Forest} → Outermost W base n hi f → Taken W (first_at W 0) base n W
outermost-taken {W} {base} {n} v =
    let o = v.owned in
    record {
      count = λ cs c. v.count ∙ ap length (chain-unique W (first_at W 0) o.cs cs o.chain c);
      seg = λ cs c. subst (λ (l : List ℕ). Seg W base l) (chain-unique W (first_at W 0) o.cs cs o.chain c) v.seg;
      same = λ j x. refl;
      long = refl;
    }
