-- What the functions do to the words, said of trees: a leaf laid down, a tree put under a node, two trees, a whole list given to its owner
-- or taken from it; and what the tests of a slot say of its tree.
use Prim.Native.Nat.{ℕ, ◌+◌, ◌≤◌, ◌<◌}
use mathlib.Core.{Path.{◌≡◌, sym, ◌∙◌, subst}, Logic.{◌≢◌, ◌⊎◌, inl, inr, ⊎_elim}, Bool.{false}, List.{List, [], ◌∷◌}}
use native.Mathlib.{Omega.{arith}, Nat.{le_refl}}
use borrow.Author.Tests.{eq-eqb, ne_eqb}
use lib.ListN.{length, set}
use Rattle.molang.specs.{Forest.{Token, Forest, nil, node, in_order, count}, Conditional.{is_token}, Free.{free, is_nil}}
use Rattle.ops.specs.Classes.{in_class}
use Rattle.nodes.specs.Store.{wd, first_field, next_field, classes_field, slot_start, first_word, next_word, classes_word, first_at}
use Rattle.nodes.specs.Store.{classes_at, TokenAt, Noted, reserve, Chain, Seg, SegB, Out, OutFrom, onto, RepF, ends, more, RepT, Owned}
use Rattle.nodes.specs.{Store.{RepB, InArray, Free}, Slots.{op_at, is_leaf_at, is_token_at}}
use Rattle.nodes.specs.Children.{Attached, AttachedTwo, CanTake, Taken, CanGive, Given}
use Rattle.nodes.proofs.{Runs.{set_other, chain-keep, off-word, off-out, seg_b-onto, length-onto}, Tokens.{token-keep, token-op}}
use Rattle.nodes.proofs.Store.{reserve-pos, roots-above, rep-keep, rep-count, tree-more, tree-below, tree-out, tree-keep, tree-avoid}
use Rattle.nodes.proofs.{Store.{back-onto}, Classes.{notes-leaf, notes-over, notes-below, notes-more, roots-note}}

-- ---- one slot and its interval

-- the slot q alone is kept free
pub one_out : (q : ℕ) (X : List ℕ) → Out q X → OutFrom q 1 X
one_out q X o s a b = let e : q ≡ s = omega arith in subst (λ (x : ℕ). Out x X) e o

-- what stands beside the slot q can stand below it
pub tree-under : {W X : List ℕ} (q : ℕ) {b l m : ℕ} {t : Token} {k : Forest} → (q < l) ⊎ (m ≤ q) → RepT W X b l m t k
    → RepT W (q ∷ X) b l m t k
tree-under q (inl h) v = tree-avoid (λ s x y o. (omega arith, o)) v
tree-under q (inr h) v = tree-avoid (λ s x y o. (omega arith, o)) v

-- ---- leaves

pub first-none : {W X cs : List ℕ} {f lo hi : ℕ} → Chain W f cs → RepF W X cs lo hi nil → f ≡ 0
first-none c (ends e) = c

pub leaf-tree : {W X : List ℕ} {b l m : ℕ} {t : Token} → l ≤ b → b + reserve t nil ≤ m → 0 < b → OutFrom b (reserve t nil) X
    → TokenAt W b t → Noted (classes_at W b) t nil → first_at W b ≡ 0 → RepT W X b l m t nil
leaf-tree {l = l} {m = m} {t = t} low high pos out token noted none =
    let e : l ≤ m = omega (arith, reserve-pos t nil) in
    record { cs = []; low = low; high = high; pos = pos; out = out; token = token; noted = noted; chain = none; kids = ends e }

pub leaf_first : {W X : List ℕ} {b l m : ℕ} {t : Token} → RepT W X b l m t nil → first_at W b ≡ 0
leaf_first v = first-none v.chain v.kids

-- ---- a tree under a node

module _ {W W' X : List ℕ} {q b lo l m hi : ℕ} {t : Token} {k : Forest} (w : Attached W q b W') (v : RepT W (q ∷ X) b l m t k) where
  pub attach-tree : {o : Token} → TokenAt W q o → 0 < q → Out q X → lo ≤ q → q < hi → lo ≤ l → m ≤ hi → RepT W' X q lo hi o (node t k nil)
  unfolding reserve
  attach-tree {o} token pos out low high lower upper =
      let child : RepT W' (q ∷ X) b l m t k
      =
      tree-keep W W'
      (λ s i x y z p n. w.same (slot_start s + i) (omega arith) (⊎_elim (λ e. omega arith) (λ e. omega arith) n) (omega arith)) v in
      record {
        cs = b ∷ [];
        low = low;
        high = omega arith;
        pos = pos;
        out = one_out q X out;
        token = token-keep W W' q (λ i z. w.same (slot_start q + i) (omega arith) (omega arith) (omega arith)) token;
        noted = rw w.classes (notes-over o v.noted);
        chain = (w.first, v.pos, w.last);
        kids = tree-more lower child (ends upper);
      }

  pub attach-kept : Out q X → lo ≤ q → q < hi → lo ≤ l → m ≤ hi → (j : ℕ) → Free X lo hi j → wd W' j ≡ wd W j
  attach-kept out low high lower upper j f =
      w.same j (f q first_field low high (omega arith) out)
      (f b next_field (omega (arith, v.low)) (omega (arith, tree-below v)) (omega arith) (tree-out v).1)
      (f q classes_field low high (omega arith) out)

-- ---- two trees under a node

module _ {W W' X : List ℕ} {q b c lo l m l' m' hi : ℕ} {t u : Token} {k j : Forest}
    (w : AttachedTwo W q b c W') (v : RepT W (q ∷ X) b l m t k) (x : RepT W (q ∷ X) c l' m' u j) (apart : m ≤ l') where
  pub attach-two-trees : {o : Token} → TokenAt W q o → 0 < q → Out q X → lo ≤ q → q < hi → lo ≤ l → m' ≤ hi
      → RepT W' X q lo hi o (node t k (node u j nil))
  unfolding reserve
  attach-two-trees {o} token pos out low high lower upper =
      let vl = v.low in let vh = tree-below v in let xl = x.low in let xh = tree-below x in
      let left : RepT W' (q ∷ X) b l m t k
      =
      tree-keep W W'
      (λ s i y z e p n. w.same (slot_start s + i) (omega arith) (⊎_elim (λ g. omega arith) (λ g. omega arith) n) (omega arith)
      (omega arith)) v in
      let right : RepT W' (q ∷ X) c l' m' u j
      =
      tree-keep W W'
      (λ s i y z e p n. w.same (slot_start s + i) (omega arith) (omega arith) (⊎_elim (λ g. omega arith) (λ g. omega arith) n)
      (omega arith)) x in
      record {
        cs = b ∷ c ∷ [];
        low = low;
        high = omega arith;
        pos = pos;
        out = one_out q X out;
        token = token-keep W W' q (λ i z. w.same (slot_start q + i) (omega arith) (omega arith) (omega arith) (omega arith)) token;
        noted = notes-over o (notes-more v.noted x.noted w.classes);
        chain = (w.first, v.pos, (w.next, x.pos, w.last));
        kids = tree-more lower left (tree-more apart right (ends upper));
      }

  pub attach-two-kept : Out q X → lo ≤ q → q < hi → lo ≤ l → m' ≤ hi → (i : ℕ) → Free X lo hi i → wd W' i ≡ wd W i
  attach-two-kept out low high lower upper i f =
      let vl = v.low in let vh = tree-below v in let xl = x.low in let xh = tree-below x in
      w.same i (f q first_field low high (omega arith) out)
      (f b next_field (omega arith) (omega arith) (omega arith) (tree-out v).1)
      (f c next_field (omega arith) (omega arith) (omega arith) (tree-out x).1)
      (f q classes_field low high (omega arith) out)

-- ---- a list given to its owner

module _ {W W' X : List ℕ} {q from n lo hi : ℕ} {bs : List ℕ} {f : Forest} (w : Given W q from n W') (g : Seg W from bs) (e : length bs ≡ n)
    (r : RepF W (q ∷ X) bs lo hi f) where
  pub give-owned : Owned W' X q lo hi f
  give-owned =
      record {
        cs = bs;
        chain = w.linked bs g e;
        notes = record { bits = λ i h. w.classes bs g e i ∙ roots-note r i h };
        kids =
            rep-keep W W'
            (λ s o x y z p y'. w.same bs g e (slot_start s + o) (omega arith) (omega arith)
            (⊎_elim (λ m. off-word bs s o z m) (λ m. off-out bs s o z m) y')) r;
      }

  -- the words of every token stay
  pub give-token : {s : ℕ} {o : Token} → TokenAt W s o → TokenAt W' s o
  give-token {s} t =
      token-keep W W' s
      (λ i h. w.same bs g e (slot_start s + i) (omega arith) (omega arith) (off-word bs s i (omega arith) (omega arith))) t

-- the same of an array
pub array-give : {W X : List ℕ} {q at n lo hi : ℕ} {f : Forest} → InArray W X at n lo hi f → q < hi → slot_start hi ≤ at → at + n ≤ length W
    → CanGive W q at n
array-give {hi = hi} v own below room =
    record {
      hi = hi;
      cs = v.bs;
      seg = v.seg;
      count = sym v.count;
      inc = roots-above v.rep (omega arith);
      own = own;
      below = below;
      room = room;
    }

pub array_owned : {W W' X : List ℕ} {q at n lo hi : ℕ} {f : Forest} → Given W q at n W' → InArray W (q ∷ X) at n lo hi f
    → Owned W' X q lo hi f
array_owned w v = give-owned w v.seg (sym v.count) v.rep

-- what is done, the last first, is an array in order
pub gathered-array : {W X : List ℕ} {at lo hi : ℕ} {ds : List ℕ} {d : Forest} → RepB W X ds lo hi d → SegB W at ds
    → InArray W X at (length ds) lo hi (in_order d)
unfolding in_order
gathered-array {W} {at = at} {hi = hi} {ds = ds} r g =
    record {
      bs = onto ds [];
      seg = seg_b-onto W at ds [] g tt;
      count = omega (arith, length-onto ds []);
      rep = back-onto r (ends (le_refl hi));
    }

-- the owner is a tree again
pub owned-tree : {W X : List ℕ} {q lo hi : ℕ} {o c : Token} {cs r : Forest} → TokenAt W q o → 0 < q → Out q X → lo ≤ q → q < hi
    → Owned W X q lo hi (node c cs r) → RepT W X q lo hi o (node c cs r)
unfolding reserve
owned-tree {X = X} {q = q} {o = o} token pos out low high v =
    record {
      cs = v.cs;
      low = low;
      high = omega arith;
      pos = pos;
      out = one_out q X out;
      token = token;
      noted = notes-over o v.notes;
      chain = v.chain;
      kids = v.kids;
    }

-- a store to a word of the owner's token leaves its list as it was
pub owned-store : (W W' : List ℕ) (v : ℕ) {X : List ℕ} {q lo hi i : ℕ} {f : Forest} → W' ≡ set W (slot_start q + i) v → i < 5 → q < hi
    → Owned W X q lo hi f → Owned W' X q lo hi f
owned-store W W' v {q = q} {hi = hi} {i = i} e inside own o =
    let other = set_other W W' (slot_start q + i) v e in
    record {
      cs = o.cs;
      chain = rw (other (first_word q) (omega arith))
          (chain-keep W W' (first_at W q) o.cs 1 hi (roots-above o.kids (omega arith)) (λ c a b. other (next_word c) (omega arith))
          o.chain);
      notes = rw (other (classes_word q) (omega arith)) o.notes;
      kids = rep-keep W W' (λ s p x y z out n. let apart = out.0 in other (slot_start s + p) (omega arith)) o.kids;
    }

-- an owner that was given nothing is a leaf of no class
pub owned-leaf : {W X : List ℕ} {q lo hi : ℕ} {o : Token} → TokenAt W q o → 0 < q → OutFrom q (reserve o nil) X → lo ≤ q
    → q + reserve o nil ≤ hi
    → ((i : ℕ) → i < 32 → in_class i o.op ≡ false) → Owned W X q lo hi nil → RepT W X q lo hi o nil
unfolding free
owned-leaf {o = o} token pos out low high h v =
    record {
      cs = v.cs;
      low = low;
      high = high;
      pos = pos;
      out = out;
      token = token;
      noted = notes-leaf (λ i e. v.notes.bits i e ∙ sym (h i e));
      chain = v.chain;
      kids = v.kids;
    }

-- a tree with children owns them
pub tree-owned : {W X : List ℕ} {q lo hi : ℕ} {o c : Token} {cs r : Forest} → RepT W X q lo hi o (node c cs r)
    → Owned W X q lo hi (node c cs r)
tree-owned v = record { cs = v.cs; chain = v.chain; notes = notes-below v.noted; kids = v.kids }

-- ---- a list taken from its owner

pub can-take : {W X : List ℕ} {q to lo hi : ℕ} {f : Forest} → (v : Owned W X q lo hi f) → q < hi → slot_start hi ≤ to
    → to + count f ≤ length W
    → CanTake W (first_at W q) to
can-take {hi = hi} v own below room =
    record {
      hi = hi;
      cs = v.cs;
      chain = v.chain;
      inc = roots-above v.kids (omega arith);
      below = below;
      room = omega (arith, rep-count v.kids);
    }

-- its slots stand in an array, the trees as they were
pub take-array : {W W' X : List ℕ} {q to r lo hi : ℕ} {f : Forest} → Taken W (first_at W q) to r W' → slot_start hi ≤ to → Owned W X q lo hi f
    → InArray W' (q ∷ X) to r lo hi f
take-array {W} {W'} {hi = hi} w below v =
    record {
      bs = v.cs;
      seg = w.seg v.cs v.chain;
      count = w.count v.cs v.chain;
      rep = rep-keep W W' (λ s o x y z p n. w.same (slot_start s + o) (inl (omega arith))) v.kids;
    }

-- ---- tests of a slot

first_some : {W X cs : List ℕ} {f lo hi : ℕ} {t : Token} {k g : Forest} → Chain W f cs → RepF W X cs lo hi (node t k g) → f ≢ 0
first_some c (more a b d z o t n ch k r) = omega arith

pub leaf-test : {W X : List ℕ} {b l m : ℕ} {t : Token} (k : Forest) → RepT W X b l m t k → is_leaf_at W b ≡ is_nil k
unfolding is_nil
leaf-test {W} {b = b} nil v = eq-eqb (first_at W b) 0 (first-none v.chain v.kids)
leaf-test {W} {b = b} (node c cs r) v = ne_eqb (first_at W b) 0 (first_some v.chain v.kids)

pub tree-op : {W X : List ℕ} {b l m : ℕ} {t : Token} {k : Forest} → RepT W X b l m t k → op_at W b ≡ t.op
tree-op v = token-op v.token

pub token-test : {W X : List ℕ} {b l m : ℕ} {t : Token} (p : ℕ) (k : Forest) → RepT W X b l m t k
    → is_token_at W b p ≡ is_token p t k
unfolding is_token is_nil
token-test p nil v = rw (leaf-test nil v, tree-op v)
token-test p (node c cs r) v = rw (leaf-test (node c cs r) v)
