-- Linked trees: which trees are linked from a slot on is said by the words; how a linked list is opened at its first node; and where linked
-- trees come from.
use Prim.Native.Nat.{ℕ, ◌≤◌, ◌<◌}
use mathlib.Core.{Path.{◌≡◌, refl, subst}, List.{List, [], ◌∷◌}}
use native.Mathlib.{Omega.{arith}, Nat.{le_refl}}
use lib.ListN.{length}
use Rattle.molang.specs.Forest.{Token, Forest, nil, node}
use Rattle.nodes.specs.Store.{wd, slot_start, next_word, first_at, next_at, TokenAt, Chain, RepF, ends, more, RepT, Owned}
use Rattle.nodes.{specs.Children.{CanFollow}, proofs.Runs.{chain-unique, chain-keep}}
use Rattle.nodes.{proofs.Store.{reserve-pos, roots-above, rep-le, rep-raise, rep-unique, tree-more}, proofs.Trees.{first-none}}
use Rattle.buffers.specs.Emit.{Linked}

pub linked-unique : {W : List ℕ} {first hi hi' : ℕ} {f g : Forest} → Linked W first hi f → Linked W first hi' g → f ≡ g
linked-unique {W} {first} {hi} {hi'} {f} {g} v w =
    let e = chain-unique W first w.bs v.bs w.chain v.chain in
    rep-unique v.rep (subst (λ (l : List ℕ). RepF W w.X l w.lo hi' g) e w.rep)

-- ---- where they come from

-- a tree that has no sibling after it
pub tree-linked : {W X : List ℕ} {b l m hi : ℕ} {t : Token} {k : Forest} → RepT W X b l m t k → next_at W b ≡ 0 → m ≤ hi
    → Linked W b hi (node t k nil)
tree-linked {X = X} {b} {l} v last h =
    record { X = X; bs = b ∷ []; lo = l; chain = (refl, v.pos, last); rep = tree-more (le_refl l) v (ends h) }

-- the children of a slot
pub owned-linked : {W X : List ℕ} {q lo hi : ℕ} {f : Forest} → Owned W X q lo hi f → Linked W (first_at W q) hi f
owned-linked {X = X} {q} {lo} v = record { X = q ∷ X; bs = v.cs; lo = lo; chain = v.chain; rep = v.kids }

-- ---- none, or a node

none_left : {W X bs : List ℕ} {s lo hi : ℕ} {f : Forest} → Chain W s bs → RepF W X bs lo hi f → s ≡ 0 → f ≡ nil
none_left c (ends e) z = refl
none_left c (more a b d z' o t n ch k r) z = absurd (omega arith)

pub linked-nil : {W : List ℕ} {s hi : ℕ} → Linked W s hi nil → s ≡ 0
linked-nil v = first-none v.chain v.rep

pub linked-none : {W : List ℕ} {s hi : ℕ} {f : Forest} → Linked W s hi f → s ≡ 0 → f ≡ nil
linked-none v z = none_left v.chain v.rep z

-- The first node of linked trees: its token, its children and the trees after it.
pub record Opened (W : List ℕ) (s hi : ℕ) (k : Token) (cs rest : Forest) : Type 0 where
  pub inside : s < hi
  pub token : TokenAt W s k
  pub children : Linked W (first_at W s) hi cs
  pub after : Linked W (next_at W s) hi rest

opened : {W X bs : List ℕ} {s lo hi : ℕ} {k : Token} {cs rest : Forest} → Chain W s bs → RepF W X bs lo hi (node k cs rest)
    → Opened W s hi k cs rest
opened {X = X} ch (more {b = b} {bs = bs} {l = l} {m = m} {t = t} {k = j} {cs = cs} a c d z p tk n kids ks r) =
    let high = rep-le r in
    let pos = reserve-pos t j in
    rw ch.0
    (record {
      inside = omega arith;
      token = tk;
      children = record { X = b ∷ X; bs = cs; lo = l; chain = kids; rep = rep-raise high ks };
      after = record { X = X; bs = bs; lo = m; chain = ch.2; rep = r };
    })

pub linked-open : {W : List ℕ} {s hi : ℕ} {k : Token} {cs rest : Forest} → Linked W s hi (node k cs rest) → Opened W s hi k cs rest
linked-open v = opened v.chain v.rep

-- ---- in words that have the same slots

module _ (W Z : List ℕ) (hi : ℕ) (same : (j : ℕ) → j < slot_start hi → wd Z j ≡ wd W j) (within : slot_start hi ≤ length Z) where
  pub linked-chain : {s : ℕ} {f : Forest} → 0 < hi → (v : Linked W s hi f) → Chain Z s v.bs
  linked-chain {s} h v = chain-keep W Z s v.bs 1 hi (roots-above v.rep h) (λ c a b. same (next_word c) (omega arith)) v.chain

  pub linked-follow : {s : ℕ} {f : Forest} → 0 < hi → Linked W s hi f → CanFollow Z s
  linked-follow h v = record { hi = hi; cs = v.bs; chain = linked-chain h v; inc = roots-above v.rep h; within = within }
