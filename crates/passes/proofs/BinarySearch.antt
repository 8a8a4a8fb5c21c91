-- The loop of `first_leaf`. It goes down to children or on to the next sibling. Each turn leaves a slot of the interval behind for good, as
-- an ancestor or to the left, and the loop has at least as many turns as there are slots left (`vacant`).
use Prim.Native.Nat.{ℕ, zero, suc, ◌+◌, ◌-◌, ◌≤◌, ◌<◌}
use mathlib.Core.{Path.{◌≡◌, refl, sym, ap, ◌∙◌, subst}, Logic.{◌≢◌}, Bool.{Bool, true, false, ◌&&◌, true≢false}, List.{List, [], ◌∷◌}}
use mathlib.Core.Option.{Option, none, some}
use native.Mathlib.{Omega.{arith}, Decide.{ℕ_discrete}}
use lib.{Dec.{eqb}, ListN.{length}}
use borrow.Author.Tests.{eq-eqb, ne_eqb}
use Rattle.molang.specs.{Operator.{is_one_of}, Forest.{Token, Forest, nil, node}, Binary.{first_leaf}, Free.{free, is_nil}}
use Rattle.molang.proofs.{Trees.{free-leaf, free-tree}, Unfolded.{free-first_leaf, first_leaf-free}}
use Rattle.ops.specs.Classes.{shares, meets}
use Rattle.nodes.specs.Store.{slot_start, slot_end, first_at, next_at, classes_at, TokenAt, Chain, Out, RepF, ends, more, RepT}
use Rattle.nodes.proofs.{Store.{reserve-pos, tree-below, tree-out, rep-le}, Classes.{free-split}, Trees.{leaf_first}}
use Rattle.levels.{specs.Passes.{Covers}, proofs.Reading.{tree_free, tree-unfree, unfree-leaf, unfree-tree}}
use Rattle.passes.specs.Binary.{CanSearch, IsFirst}

-- ---- the slots of an interval that are none of X

pub outside : ℕ → List ℕ → ℕ
outside s [] = 1
outside s (x ∷ X) = elim (eqb s x) [ true ↦ 0 | false ↦ outside s X ]

pub vacant : List ℕ → ℕ → ℕ → ℕ
vacant X lo zero = 0
vacant X lo (suc n) = outside lo X + vacant X (lo + 1) n

outside-own : (b : ℕ) (X : List ℕ) → outside b (b ∷ X) ≡ 0
outside-own b X = unfold outside in rw (eq-eqb b b refl, outside) refl

outside-less : (s b : ℕ) (X : List ℕ) → outside s (b ∷ X) ≤ outside s X
unfolding outside
outside-less s b X =
    elim (ℕ_discrete s b) [ yes e ↦ rw (eq-eqb s b e, outside) (omega arith) | no n ↦ rw (ne_eqb s b n, outside) (omega arith) ]

outside-out : (s : ℕ) (X : List ℕ) → Out s X → outside s X ≡ 1
unfolding outside
outside-out s [] o = refl
outside-out s (x ∷ X) o = rw (ne_eqb s x o.0, outside) (outside-out s X o.1)

outside-most : (s : ℕ) (X : List ℕ) → outside s X ≤ 1
unfolding outside
outside-most s [] = omega arith
outside-most s (x ∷ X) =
    elim (ℕ_discrete s x) [ yes e ↦ rw (eq-eqb s x e, outside) (omega arith) | no n ↦ rw (ne_eqb s x n, outside) (outside-most s X) ]

vacant-most : (X : List ℕ) (lo n : ℕ) → vacant X lo n ≤ n
unfolding vacant
vacant-most X lo zero = omega arith
vacant-most X lo (suc n) = omega (arith, outside-most lo X, vacant-most X (lo + 1) n)

vacant-more : (b : ℕ) (X : List ℕ) (lo n : ℕ) → vacant (b ∷ X) lo n ≤ vacant X lo n
unfolding vacant
vacant-more b X lo zero = omega arith
vacant-more b X lo (suc n) = omega (arith, outside-less lo b X, vacant-more b X (lo + 1) n)

-- one ancestor more
vacant-below : (b : ℕ) (X : List ℕ) (lo n : ℕ) → lo ≤ b → b < lo + n → Out b X → vacant (b ∷ X) lo n + 1 ≤ vacant X lo n
unfolding vacant
vacant-below b X lo zero l h o = absurd (omega arith)
vacant-below b X lo (suc n) l h o =
    elim (ℕ_discrete lo b) [
      | yes e ↦
          let z : outside lo (b ∷ X) ≡ 0 = rw e (outside-own b X) in
          let y : outside lo X ≡ 1 = rw e (outside-out b X o) in
          omega (arith, vacant-more b X (lo + 1) n)
      | no e ↦ omega (arith, outside-less lo b X, vacant-below b X (lo + 1) n (omega arith) (omega arith) o)
    ]

-- parts of the interval
vacant-add : (X : List ℕ) (lo k n : ℕ) → vacant X lo (k + n) ≡ vacant X lo k + vacant X (lo + k) n
unfolding vacant
vacant-add X lo zero n = let e : lo + 0 ≡ lo = omega arith in let f : 0 + n ≡ n = omega arith in rw (e, f) (omega arith)
vacant-add X lo (suc k) n =
    let e : lo + suc k ≡ lo + 1 + k = omega arith in
    let f : suc k + n ≡ suc (k + n) = omega arith in
    let g : vacant X lo (suc (k + n)) ≡ outside lo X + vacant X (lo + 1) (k + n) = refl in
    rw (e, f) (omega (arith, g, vacant-add X (lo + 1) k n))

-- a tree at the slot b, from l to m, of an interval from lo to hi: what is below it, and what comes after it
vacant-part : (X : List ℕ) (lo l b m hi i j k : ℕ) → lo + i ≡ l → l + j ≡ m → m + k ≡ hi → l ≤ b → b < m → Out b X
    → (vacant (b ∷ X) l j + 1 ≤ vacant X lo (i + (j + k))) × (vacant X m k + 1 ≤ vacant X lo (i + (j + k)))
vacant-part X lo l b m hi i j k e f g h h' o =
    let whole = vacant-add X lo i (j + k) in
    let part : vacant X (lo + i) (j + k) ≡ vacant X l j + vacant X m k =
    rw (e) (vacant-add X l j k ∙ ap (λ (x : ℕ). vacant X l j + vacant X x k) f) in
    let less = vacant-below b X l j h (omega arith) o in
    (omega arith, omega arith)

-- ---- what holds at the loop's test

pub data SearchAt (W : List ℕ) (c leaf s fuel : ℕ) : Forest → Type 0 where
  start : {X : List ℕ} {a m : ℕ} {k : Token} {cs : Forest} → RepT W X s a m k cs → shares (classes_at W s) c ≡ true → slot_start m ≤ length W
      → length W ≤ fuel → SearchAt W c leaf s fuel (node k cs nil)
  amid : {X bs : List ℕ} {lo hi : ℕ} {f target : Forest} (n : ℕ) → Chain W s bs → RepF W X bs lo hi f → free (meets c) f ≡ false
      → slot_start hi ≤ length W → lo + n ≡ hi → vacant X lo n < fuel
      → ((ops : List ℕ) → Covers c (is_one_of ops) → first_leaf ops target ≡ first_leaf ops f) → SearchAt W c leaf s fuel target
  found : {t : Token} {target : Forest} → s ≡ 0 → TokenAt W leaf t
      → ((ops : List ℕ) → Covers c (is_one_of ops) → first_leaf ops target ≡ some t) → 0 < fuel → SearchAt W c leaf s fuel target

abbrev pub Searching : List ℕ → ℕ → ℕ → ℕ → ℕ → ℕ → Type 0
Searching W top c leaf s fuel = (g : CanSearch W top c) → SearchAt W c leaf s fuel (node g.k g.cs nil)

pub search-start : (W : List ℕ) (top c : ℕ) → Searching W top c top top (length W)
search-start W top c g = start g.tree g.some g.within (omega arith)

pub search-in : {W : List ℕ} {c leaf s fuel : ℕ} {target : Forest} → SearchAt W c leaf s fuel target → s ≢ 0 → slot_end s ≤ length W
unfolding free
search-in (start t sh room f) n = omega (arith, tree-below t)
search-in (found e t h f) n = absurd (n e)
search-in {W} {s = s} (amid {bs = bs} n' ch rep sh room e fuel same) n = go bs ch rep room
  where
    go : {X : List ℕ} {lo hi : ℕ} {f : Forest} (bs : List ℕ) → Chain W s bs → RepF W X bs lo hi f → slot_start hi ≤ length W
        → slot_end s ≤ length W
    go [] ch rep room = absurd (n ch)
    go (b ∷ bs) ch (more {t = t} {k = k} a d r z p tk q x y rest) room = omega (arith, ch.0, rep-le rest, r, reserve-pos t k)

-- ---- the first leaf

first-over : (ops : List ℕ) (k : Token) (cs rest : Forest) → free (is_one_of ops) (node k cs nil) ≡ true
    → first_leaf ops (node k cs rest) ≡ first_leaf ops rest
unfolding first_leaf
first-over ops k nil rest h = rw ((free-leaf (is_one_of ops) k nil h).0, first_leaf) refl
first-over ops k (node c cs r) rest h = rw (free-first_leaf ops (node c cs r) (free-tree (is_one_of ops) k c cs r nil h).0, first_leaf) refl

first-own : (ops : List ℕ) (k : Token) (rest : Forest) → is_one_of ops k.op ≡ true → first_leaf ops (node k nil rest) ≡ some k
first-own ops k rest e = unfold first_leaf in rw (e, first_leaf) refl

first-down : (ops : List ℕ) (k c : Token) (cs r rest : Forest) → free (is_one_of ops) (node c cs r) ≡ false
    → first_leaf ops (node k (node c cs r) rest) ≡ first_leaf ops (node c cs r)
unfolding first_leaf
first-down ops k c cs r rest h = go (first_leaf ops (node c cs r)) refl
  where
    go : (o : Option Token) → first_leaf ops (node c cs r) ≡ o
        → ◌≡◌ {A = Option Token} (elim o [ some t ↦ some t | none ↦ first_leaf ops rest ]) o
    go (some t) e = refl
    go none e = absurd (true≢false (sym (first_leaf-free ops (node c cs r) e) ∙ h))

both_false : (a b : Bool) → (a && b) ≡ false → a ≡ true → b ≡ false
both_false true b h e = h
both_false false b h e = absurd (true≢false (sym e))

-- ---- a turn of the loop

tree-down : {W X : List ℕ} {c s a m fuel : ℕ} {k : Token} (cs rest : Forest) {target : Forest} (j : ℕ) → RepT W X s a m k cs
    → shares (classes_at W s) c ≡ true → slot_start m ≤ length W → a + j ≡ m
    → vacant (s ∷ X) a j < fuel → ((ops : List ℕ) → Covers c (is_one_of ops) → first_leaf ops target ≡ first_leaf ops (node k cs rest))
    → SearchAt W c s (first_at W s) fuel target
unfolding is_nil
tree-down {c = c} {k = k} nil rest j t sh room e f same =
    found (leaf_first t) t.token
    (λ ops ex. same ops ex ∙ first-own ops k rest (unfree-leaf (is_one_of ops) k (tree-unfree c (is_one_of ops) ex t sh))) (omega arith)
tree-down {c = c} {k = k} (node d ds r) rest j t sh room e f same =
    amid j t.chain t.kids (unfree-tree (meets c) k (node d ds r) refl (tree-unfree c (meets c) (λ n. refl) t sh)) room e f
    (λ ops ex. same ops ex ∙ first-down ops k d ds r rest
    (unfree-tree (is_one_of ops) k (node d ds r) refl (tree-unfree c (is_one_of ops) ex t sh)))

-- The list's first tree, at the slot s.
record At (W X : List ℕ) (s lo n hi : ℕ) (k : Token) (cs rest : Forest) : Type 0 where
  l : ℕ
  m : ℕ
  bs : List ℕ
  tree : RepT W X s l m k cs
  next : Chain W (next_at W s) bs
  after : RepF W X bs m hi rest
  low : lo ≤ l
  high : m ≤ hi
  down : vacant (s ∷ X) l (m - l) + 1 ≤ vacant X lo n
  on : vacant X m (hi - m) + 1 ≤ vacant X lo n

data AtHead (W X : List ℕ) (s lo n hi : ℕ) : Forest → Type 0 where
  head : {k : Token} {cs rest : Forest} → At W X s lo n hi k cs rest → AtHead W X s lo n hi (node k cs rest)

at_head : {W X bs : List ℕ} {s lo n hi : ℕ} {f : Forest} → Chain W s bs → RepF W X bs lo hi f → s ≢ 0 → lo + n ≡ hi → AtHead W X s lo n hi f
at_head ch (ends h) z e = absurd (z ch)
at_head {W} {X} {s = s} {lo = lo} {n = n} {hi = hi} ch
    (more {b = b} {bs = bs} {l = l} {m = m} {t = t} {k = k} {cs = cs} a d r y p tk q x ks rest) z e =
    let le = rep-le rest in
    let own : RepT W X b l m t k = record { cs = cs; low = d; high = r; pos = y; out = p; token = tk; noted = q; chain = x; kids = ks } in
    let same : b ≡ s = sym ch.0 in
    let here = subst (λ (i : ℕ). RepT W X i l m t k) same own in
    let below = tree-below here in let above = here.low in
    let v = vacant-part X lo l s m hi (l - lo) (m - l) (hi - m) (omega arith) (omega arith) (omega arith) above below (tree-out here) in
    let w : l - lo + (m - l + (hi - m)) ≡ n = omega arith in
    head
    (record {
      l = l;
      m = m;
      bs = bs;
      tree = here;
      next = subst (λ (i : ℕ). Chain W (next_at W i) bs) same ch.2;
      after = rest;
      low = a;
      high = le;
      down = rw w at v.0;
      on = rw w at v.1;
    })

pub search-down : {W : List ℕ} {c leaf s fuel : ℕ} {target : Forest} → SearchAt W c leaf s fuel target → s ≢ 0
    → shares (classes_at W s) c ≡ true → SearchAt W c s (first_at W s) (fuel - 1) target
search-down {W} {s = s} {fuel = fuel} (start {X = X} {a = a} {m = m} {cs = cs} t sh room f) n h =
    let below = tree-below t in let low = t.low in
    let j : a + (m - a) ≡ m = omega arith in
    let v : vacant (s ∷ X) a (m - a) < fuel - 1 = omega (arith, vacant-most (s ∷ X) a (m - a)) in
    tree-down cs nil (m - a) t h room j v (λ ops ex. refl)
search-down (found e t g f) n h = absurd (n e)
search-down {W} {c} {s = s} {fuel = fuel} {target = target} (amid {X = X} {lo = lo} {hi = hi} size ch rep sh room e f same) n h =
    go (at_head ch rep n e) same
  where
    go : {f : Forest} → AtHead W X s lo size hi f → ((ops : List ℕ) → Covers c (is_one_of ops) → first_leaf ops target ≡ first_leaf ops f)
        → SearchAt W c s (first_at W s) (fuel - 1) target
    go (head {cs = cs} {rest = rest} x) same =
        let below = tree-below x.tree in let low = x.tree.low in let high = x.high in let down = x.down in
        let r : slot_start x.m ≤ length W = omega arith in let j : x.l + (x.m - x.l) ≡ x.m = omega arith in
        let v : vacant (s ∷ X) x.l (x.m - x.l) < fuel - 1 = omega arith in
        tree-down cs rest (x.m - x.l) x.tree h r j v same

pub search-next : {W : List ℕ} {c leaf s fuel : ℕ} {target : Forest} → SearchAt W c leaf s fuel target → s ≢ 0
    → shares (classes_at W s) c ≡ false → SearchAt W c leaf (next_at W s) (fuel - 1) target
search-next (start t sh room f) n h = absurd (true≢false (sym sh ∙ h))
search-next (found e t g f) n h = absurd (n e)
search-next {W} {c} {leaf} {s} {fuel} {target} (amid {X = X} {lo = lo} {hi = hi} size ch rep sh room e f same) n h =
    go (at_head ch rep n e) sh same
  where
    go : {f : Forest} → AtHead W X s lo size hi f → free (meets c) f ≡ false
        → ((ops : List ℕ) → Covers c (is_one_of ops) → first_leaf ops target ≡ first_leaf ops f)
        → SearchAt W c leaf (next_at W s) (fuel - 1) target
    go (head {k = k} {cs = cs} {rest = rest} x) sh same =
        let high = x.high in let on = x.on in
        let j : x.m + (hi - x.m) ≡ hi = omega arith in
        let v : vacant X x.m (hi - x.m) < fuel - 1 = omega arith in
        amid (hi - x.m) x.next x.after
        (both_false (free (meets c) (node k cs nil)) (free (meets c) rest) (sym (free-split (meets c) k cs rest) ∙ sh)
        (tree_free c (meets c) (λ n. refl) x.tree h)) room j v
        (λ ops ex. same ops ex ∙ first-over ops k cs rest (tree_free c (is_one_of ops) ex x.tree h))

none-unfree : {W X bs : List ℕ} {s lo hi : ℕ} {f : Forest} (c : ℕ) → Chain W s bs → RepF W X bs lo hi f → s ≡ 0 → free (meets c) f ≡ false
    → ⊥
unfolding free
none-unfree c ch (ends h) z e = true≢false e
none-unfree c ch (more a d r y p tk q x ks rest) z e = omega arith

pub search-done : {W : List ℕ} {c leaf s fuel : ℕ} {target : Forest} → SearchAt W c leaf s fuel target → s ≡ 0 → (ops : List ℕ)
    → Covers c (is_one_of ops) → IsFirst W leaf ops target
search-done (start t sh room f) z ops ex = absurd (omega (arith, t.pos))
search-done {c = c} (amid size ch rep sh room e f same) z ops ex = absurd (none-unfree c ch rep z sh)
search-done (found {t = t} e token first f) z ops ex = record { t = t; first = first ops ex; token = token }

pub search-left : {W : List ℕ} {c leaf s fuel : ℕ} {target : Forest} → SearchAt W c leaf s fuel target → 0 < fuel
search-left (start t sh room f) = omega (arith, tree-below t)
search-left (amid size ch rep sh room e f same) = omega arith
search-left (found e token first f) = f
