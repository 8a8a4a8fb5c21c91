-- Forests in the work buffer: where their roots stand, how intervals widen, and THE AGREEMENT LAW (`rep-keep`, `tree-keep`, `back_keep`):
-- words that agree on the slots of the interval, those of the ancestors and the roots' `next` words aside, keep a forest as it is.
use Prim.Native.Nat.{ℕ, suc, ◌+◌, ◌≤◌, ◌<◌}
use mathlib.Core.{Path.{◌≡◌, refl, ap, ◌∙◌, subst}, Logic.{◌≢◌, ◌⊎◌, inl, inr, ⊎_elim}, Bool.{true, false}, List.{List, ◌∷◌}}
use native.Mathlib.{Omega.{arith}, Nat.{le_refl}}
use lib.{Dec.{eqb}, ListN.{length}}
use borrow.Author.Tests.{eqb-true}
use Rattle.molang.specs.{Operator.{negate, semicolon}, Forest.{Token, Forest, nil, node, turned_onto, count}}
use Rattle.molang.proofs.Trees.{decided, either}
use Rattle.ops.specs.Classes.{bit_at}
use Rattle.nodes.specs.Store.{wd, slot_words, first_field, next_field, classes_field, slot_start, first_at, next_at, Notes, reserve, Chain}
use Rattle.nodes.specs.Store.{Inc, Out, OutFrom, onto, RepF, ends, more, RepT, RepB, begins, put, AllLegal, Agree}
use Rattle.nodes.proofs.{Runs.{inc-le, inc-lower, out_below, chain-unique}, Tokens.{token-keep, token-unique}}

-- every node keeps its own slot
pub reserve-pos : (t : Token) (k : Forest) → 0 < reserve t k
unfolding reserve
reserve-pos t nil =
    either (λ n. 0 < n) (eqb t.op semicolon) 3 (elim (eqb t.op negate) [ true ↦ 2 | false ↦ 1 ]) (omega arith)
    (either (λ n. 0 < n) (eqb t.op negate) 2 1 (omega arith) (omega arith))
reserve-pos t (node c cs r) = omega arith

pub reserve-most : (t : Token) (k : Forest) → reserve t k ≤ 3
unfolding reserve
reserve-most t nil =
    either (λ n. n ≤ 3) (eqb t.op semicolon) 3 (elim (eqb t.op negate) [ true ↦ 2 | false ↦ 1 ]) (omega arith)
    (either (λ n. n ≤ 3) (eqb t.op negate) 2 1 (omega arith) (omega arith))
reserve-most t (node c cs r) = omega arith

pub reserve-semicolon : (t : Token) → t.op ≡ semicolon → reserve t nil ≡ 3
reserve-semicolon t e = unfold reserve in rw e

pub reserve-minus : (t : Token) → t.op ≡ negate → reserve t nil ≡ 2
reserve-minus t e = unfold reserve in rw e

pub reserve-other : (t : Token) → t.op ≢ semicolon → t.op ≢ negate → reserve t nil ≡ 1
unfolding reserve
reserve-other t a b =
    decided (λ n. n ≡ 1) (eqb t.op semicolon) 3 (elim (eqb t.op negate) [ true ↦ 2 | false ↦ 1 ])
    (λ e. absurd (a (eqb-true t.op semicolon e)))
    (λ e. decided (λ n. n ≡ 1) (eqb t.op negate) 2 1 (λ h. absurd (b (eqb-true t.op negate h))) (λ h. refl))

-- a node's own slot is none of its ancestors'
pub own_out : (b : ℕ) (t : Token) (k : Forest) (X : List ℕ) → OutFrom b (reserve t k) X → Out b X
own_out b t k X o = o b (le_refl b) (omega (arith, reserve-pos t k))

pub noted-keep : {w w' : ℕ} {f : Forest} → w' ≡ w → Notes w f → Notes w' f
noted-keep e n = record { bits = λ i h. ap (λ (x : ℕ). bit_at x i) e ∙ n.bits i h }

-- ---- the roots, and intervals

pub roots-inc : {W X : List ℕ} {lo hi : ℕ} {bs : List ℕ} {F : Forest} → RepF W X bs lo hi F → Inc lo hi bs
roots-inc (ends h) = h
roots-inc (more {bs = bs} {hi = hi} {t = t} {k = k} a c d z p tk n ch ks r) =
    let e = reserve-pos t k in
    (omega arith, inc-lower bs hi (omega arith) (roots-inc r))

-- slot 0 is no root
pub roots-above : {W X : List ℕ} {lo hi : ℕ} {bs : List ℕ} {F : Forest} → RepF W X bs lo hi F → 0 < hi → Inc 1 hi bs
roots-above (ends h) e = e
roots-above (more {bs = bs} {hi = hi} {t = t} {k = k} a c d z p tk n ch ks r) e =
    let g = reserve-pos t k in
    (z, inc-lower bs hi (omega arith) (roots-inc r))

pub rep-le : {W X : List ℕ} {lo hi : ℕ} {bs : List ℕ} {F : Forest} → RepF W X bs lo hi F → lo ≤ hi
rep-le {bs = bs} r = inc-le bs (roots-inc r)

pub rep-lower : {W X : List ℕ} {lo lo' hi : ℕ} {bs : List ℕ} {F : Forest} → lo' ≤ lo → RepF W X bs lo hi F → RepF W X bs lo' hi F
rep-lower {lo' = lo'} e (ends {hi = hi} h) = let g : lo' ≤ hi = omega arith in ends g
rep-lower {lo' = lo'} e (more {l = l} a c d z p t n ch k r) = let g : lo' ≤ l = omega arith in more g c d z p t n ch k r

pub rep-raise : {W X : List ℕ} {lo hi hi' : ℕ} {bs : List ℕ} {F : Forest} → hi ≤ hi' → RepF W X bs lo hi F → RepF W X bs lo hi' F
rep-raise {hi' = hi'} e (ends {lo = lo} h) = let g : lo ≤ hi' = omega arith in ends g
rep-raise e (more a c d z p t n ch k r) = more a c d z p t n ch k (rep-raise e r)

-- the ancestors matter only as far as the interval goes
pub rep-avoid : {W X Y : List ℕ} {lo hi : ℕ} {bs : List ℕ} {F : Forest} → ((s : ℕ) → lo ≤ s → s < hi → Out s X → Out s Y)
    → RepF W X bs lo hi F → RepF W Y bs lo hi F
rep-avoid h (ends e) = ends e
rep-avoid h (more {b = b} a c d z p t n ch k r) =
    let e = rep-le r in
    more a c d z (λ s u v. h s (omega arith) (omega arith) (p s u v)) t n ch
    (rep-avoid (λ s u v o. (o.0, h s (omega arith) (omega arith) o.1)) k)
    (rep-avoid (λ s u v o. h s (omega arith) v o) r)

pub rep-count : {W X : List ℕ} {lo hi : ℕ} {bs : List ℕ} {F : Forest} → RepF W X bs lo hi F → length bs ≡ count F
unfolding count
rep-count (ends e) = refl
rep-count (more a c d z p t n ch k r) = ap suc (rep-count r)

pub rep-legal : {W X : List ℕ} {lo hi : ℕ} {bs : List ℕ} {F : Forest} → RepF W X bs lo hi F → AllLegal F
rep-legal (ends e) = tt
rep-legal (more a c d z p t n ch k r) = (t.legal, rep-legal k, rep-legal r)

-- a chain over the roots of a forest
pub links-keep : (W W' : List ℕ) {X : List ℕ} {lo hi : ℕ} {bs : List ℕ} {F : Forest} (f : ℕ) → RepF W X bs lo hi F
    → ((s : ℕ) → lo ≤ s → s < hi → Out s X → next_at W' s ≡ next_at W s) → Chain W f bs → Chain W' f bs
links-keep W W' f (ends e) h p = p
links-keep W W' {X} f (more {b = b} {t = t} {k = j} a c d z q tk n ch k r) h p =
    let mh = rep-le r in
    let own = reserve-pos t j in (
      p.0,
      p.1,
      rw (h b (omega arith) (omega arith) (own_out b t j X q))
          (links-keep W W' (next_at W b) r (λ s u v o. h s (omega arith) v o) p.2),
    )

-- ---- THE AGREEMENT LAW

pub rep-keep : (W W' : List ℕ) {X : List ℕ} {lo hi : ℕ} {bs : List ℕ} {F : Forest} → Agree W W' X bs lo hi → RepF W X bs lo hi F
    → RepF W' X bs lo hi F
rep-keep W W' h (ends e) = ends e
rep-keep W W' {X} h (more {b = b} {bs = bs} {l = l} {m = m} {hi = hi} {t = t} {k = j} {cs = cs} a c d z p tk n ch k r) =
    let mh = rep-le r in
    let ib = roots-inc r in
    let pos = reserve-pos t j in
    let kid : (s o : ℕ) → l ≤ s → s < m → o < slot_words → Out s (b ∷ X) → wd W' (slot_start s + o) ≡ wd W (slot_start s + o)
    = λ s o u v w x. h s o (omega arith) (omega arith) w x.1 (inr (x.0, out_below bs m hi ib v)) in
    let own : (o : ℕ) → o < slot_words → o ≢ next_field → wd W' (slot_start b + o) ≡ wd W (slot_start b + o)
    = λ o w x. h b o (omega arith) (omega arith) w (own_out b t j X p) (inl x) in
    let ch' : Chain W' (first_at W' b) cs
    =
    rw (own first_field (omega arith) (omega arith))
    (links-keep W W' (first_at W b) k (λ s u v x. kid s next_field u v (omega arith) x) ch) in
    more a c d z p (token-keep W W' b (λ o w. own o (omega arith) (omega arith)) tk)
    (noted-keep (own classes_field (omega arith) (omega arith)) n)
    ch'
    (rep-keep W W' (λ s o u v w x y. kid s o u v w x) k)
    (rep-keep W W' (λ s o u v w x y. h s o (omega arith) v w x (⊎_elim (λ q. inl q) (λ q. inr (omega arith, q)) y)) r)

-- ---- a tree by itself

pub tree-more : {W X : List ℕ} {b : ℕ} {bs : List ℕ} {lo l m hi : ℕ} {t : Token} {k f : Forest} → lo ≤ l → RepT W X b l m t k
    → RepF W X bs m hi f → RepF W X (b ∷ bs) lo hi (node t k f)
tree-more a v r = more a v.low v.high v.pos v.out v.token v.noted v.chain v.kids r

-- the first tree of a forest
pub record First (W X : List ℕ) (b : ℕ) (bs : List ℕ) (lo hi : ℕ) (t : Token) (k f : Forest) : Type 0 where
  pub l : ℕ
  pub m : ℕ
  pub low : lo ≤ l
  pub tree : RepT W X b l m t k
  pub rest : RepF W X bs m hi f

pub tree-first : {W X : List ℕ} {b : ℕ} {bs : List ℕ} {lo hi : ℕ} {t : Token} {k f : Forest} → RepF W X (b ∷ bs) lo hi (node t k f)
    → First W X b bs lo hi t k f
tree-first (more {l = l} {m = m} {cs = cs} a c d z p t n ch k r) =
    record {
      l = l;
      m = m;
      low = a;
      tree = record { cs = cs; low = c; high = d; pos = z; out = p; token = t; noted = n; chain = ch; kids = k };
      rest = r;
    }

pub tree-below : {W X : List ℕ} {b l m : ℕ} {t : Token} {k : Forest} → RepT W X b l m t k → b < m
tree-below {t = t} {k = k} v = omega (arith, v.high, reserve-pos t k)

pub tree-out : {W X : List ℕ} {b l m : ℕ} {t : Token} {k : Forest} → RepT W X b l m t k → Out b X
tree-out {X = X} {b} {t = t} {k = k} v = own_out b t k X v.out

pub tree-widen : {W X : List ℕ} {b l l' m m' : ℕ} {t : Token} {k : Forest} → l' ≤ l → m ≤ m' → RepT W X b l m t k → RepT W X b l' m' t k
tree-widen e f v =
    record {
      cs = v.cs;
      low = omega (arith, v.low);
      high = omega (arith, v.high);
      pos = v.pos;
      out = v.out;
      token = v.token;
      noted = v.noted;
      chain = v.chain;
      kids = rep-raise f (rep-lower e v.kids);
    }

pub tree-avoid : {W X Y : List ℕ} {b l m : ℕ} {t : Token} {k : Forest} → ((s : ℕ) → l ≤ s → s < m → Out s X → Out s Y) → RepT W X b l m t k
    → RepT W Y b l m t k
tree-avoid h v =
    record {
      cs = v.cs;
      low = v.low;
      high = v.high;
      pos = v.pos;
      out = λ s x y. h s (omega (arith, v.low)) (omega (arith, v.high)) (v.out s x y);
      token = v.token;
      noted = v.noted;
      chain = v.chain;
      kids = rep-avoid (λ s x y q. (q.0, h s x y q.1)) v.kids;
    }

pub tree-keep : (W W' : List ℕ) {X : List ℕ} {b l m : ℕ} {t : Token} {k : Forest}
    → ((s o : ℕ) → l ≤ s → s < m → o < slot_words → Out s X → (o ≢ next_field) ⊎ (s ≢ b) → wd W' (slot_start s + o) ≡ wd W (slot_start s + o))
    → RepT W X b l m t k → RepT W' X b l m t k
tree-keep W W' {X} {b} {l} {m} {t} {k} h v =
    let own : (o : ℕ) → o < slot_words → o ≢ next_field → wd W' (slot_start b + o) ≡ wd W (slot_start b + o)
    = λ o w x. h b o v.low (tree-below v) w (tree-out v) (inl x) in
    record {
      cs = v.cs;
      low = v.low;
      high = v.high;
      pos = v.pos;
      out = v.out;
      token = token-keep W W' b (λ o w. own o (omega arith) (omega arith)) v.token;
      noted = noted-keep (own classes_field (omega arith) (omega arith)) v.noted;
      chain =
          rw (own first_field (omega arith) (omega arith))
          (links-keep W W' (first_at W b) v.kids (λ s u w x. h s next_field u w (omega arith) x.1 (inr x.0)) v.chain);
      kids = rep-keep W W' (λ s o u w z x y. h s o u w z x.1 (inr x.0)) v.kids;
    }

-- ---- trees gathered the last first

pub back-le : {W X ds : List ℕ} {lo hi : ℕ} {d : Forest} → RepB W X ds lo hi d → lo ≤ hi
back-le (begins h) = h
back-le (put r t h) = let e = back-le r in omega (arith, t.low, tree-below t)

pub back-raise : {W X ds : List ℕ} {lo hi hi' : ℕ} {d : Forest} → hi ≤ hi' → RepB W X ds lo hi d → RepB W X ds lo hi' d
back-raise {lo = lo} {hi' = hi'} e (begins h) = let g : lo ≤ hi' = omega arith in begins g
back-raise {hi' = hi'} e (put {m = m} r t h) = let g : m ≤ hi' = omega arith in put r t g

pub back-avoid : {W X Y ds : List ℕ} {lo hi : ℕ} {d : Forest} → ((s : ℕ) → lo ≤ s → s < hi → Out s X → Out s Y) → RepB W X ds lo hi d
    → RepB W Y ds lo hi d
back-avoid h (begins e) = begins e
back-avoid h (put r t e) =
    let g = back-le r in
    put (back-avoid (λ s u v o. h s u (omega (arith, t.low, tree-below t)) o) r)
    (tree-avoid (λ s u v o. h s (omega arith) (omega arith) o) t) e

pub back_above : {W X ds : List ℕ} {lo hi : ℕ} {d : Forest} {s : ℕ} → hi ≤ s → RepB W X ds lo hi d → Out s ds
back_above e (begins h) = tt
back_above {s = s} e (put {l = l} r t h) =
    let g : l ≤ s = omega (arith, t.low, tree-below t) in (omega (arith, tree-below t), back_above g r)

pub back_count : {W X ds : List ℕ} {lo hi : ℕ} {d : Forest} → RepB W X ds lo hi d → length ds ≡ count d
unfolding count
back_count (begins e) = refl
back_count (put r t h) = ap suc (back_count r)

pub back_keep : (W W' : List ℕ) {X ds : List ℕ} {lo hi : ℕ} {d : Forest} → Agree W W' X ds lo hi → RepB W X ds lo hi d
    → RepB W' X ds lo hi d
back_keep W W' h (begins e) = begins e
back_keep W W' h (put r t e) =
    let g = back-le r in
    let below = tree-below t in
    put
    (back_keep W W' (λ s o u v w x y. h s o u (omega (arith, t.low)) w x (⊎_elim (λ n. inl n) (λ n. inr (omega (arith, t.low), n)) y)) r)
    (tree-keep W W' (λ s o u v w x y. h s o (omega arith) (omega arith) w x (⊎_elim (λ n. inl n) (λ n. inr (n, back_above u r)) y)) t)
    e

-- what is done, closed in order before what comes after it
pub back-onto : {W X ds rs : List ℕ} {lo m hi : ℕ} {d f : Forest} → RepB W X ds lo m d → RepF W X rs m hi f
    → RepF W X (onto ds rs) lo hi (turned_onto d f)
unfolding turned_onto
back-onto (begins h) r = rep-lower h r
back-onto (put {l = l} b t h) r = back-onto b (tree-more (le_refl l) t (rep-lower h r))

-- the other way round: a forest goes on what is gathered the last first
pub onto-back : {W X ds rs : List ℕ} {lo m hi : ℕ} {d f : Forest} → RepB W X ds lo m d → RepF W X rs m hi f
    → RepB W X (onto rs ds) lo hi (turned_onto f d)
unfolding turned_onto
onto-back b (ends h) = back-raise h b
onto-back b (more {m = m} {cs = cs} a c d z p t n ch k r) =
    onto-back
    (put (back-raise a b) (record { cs = cs; low = c; high = d; pos = z; out = p; token = t; noted = n; chain = ch; kids = k })
    (le_refl m)) r

-- ---- the words say which forest it is

pub rep-unique : {W X Y : List ℕ} {lo hi lo' hi' : ℕ} {bs : List ℕ} {F G : Forest} → RepF W X bs lo hi F → RepF W Y bs lo' hi' G → F ≡ G
rep-unique (ends a) (ends b) = refl
rep-unique {W} {Y = Y} (more {b = b} {t = t} {k = k} {cs = cs} a c d z p tk n ch ks r)
    (more {l = l'} {m = m'} {t = t'} {k = k'} {cs = cs'} a' c' d' z' p' tk' n' ch' ks' r') =
    let ek = chain-unique W (first_at W b) cs' cs ch' ch in
    let e1 : k ≡ k' = rep-unique {Y = b ∷ Y} {lo' = l'} {hi' = m'} ks (subst (λ (l : List ℕ). RepF W (b ∷ Y) l l' m' k') ek ks') in
    let e2 = rep-unique r r' in
    let e3 : t ≡ t' = token-unique tk tk' in
    cc
