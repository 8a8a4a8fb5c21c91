-- The roots: the extent of the first of linked trees over their words, and of the last, which is linked by itself.
use Prim.Native.Nat.{ℕ, ◌+◌, ◌*◌, ◌-◌, ◌^◌, ◌≤◌, ◌<◌}
use mathlib.Core.{Path.{◌≡◌, refl, sym, ap, ◌∙◌}, List.{List, [], ◌∷◌}, Option.{none}}
use native.Mathlib.Omega.{arith}
use lib.ListN.{length, take, drop}
use Rattle.molang.specs.{Forest.{Token, Forest, nil, node, count, size}, Message.{message_record, record8}}
use Rattle.molang.specs.{Read.{lowest_start, highest_end, last_end, rooted}, Words.{tree_words}, Legal.{LegalTrees, no_trees, legal_tree}}
use Rattle.molang.specs.{WriteEntry.{trees_of}, Parse.{record_words, messages_in}}
use Rattle.molang.proofs.{Trees.{count-size}, Words.{trees-back}, Bounds.{tree_words-length}}
use Rattle.words.{specs.Records.{unnamed, with_first, words_of, laid_at}, specs.Extents.{first_extent}, specs.Tokens.{node_length}}
use Rattle.words.{specs.declared.extent.Extent.{Extent}, proofs.RecordLaws.{laid-front}}
use Rattle.nodes.specs.{Store.{slot_start, next_at, Chain, RepF, AllLegal}, Children.{CanFollow, Counted, IsLast, last_from}}
use Rattle.nodes.proofs.Store.{rep-legal, rep-keep, rep-le, rep-count, tree-first}
use Rattle.buffers.specs.Emit.{Linked, CanEmit, Emitted}
use Rattle.buffers.proofs.{Runs.{seg-part}, Linking.{tree-linked, linked-chain, linked-follow, linked-none}}
use Rattle.parse.specs.Reports.{CanMeasure, Measured, CanReportRoots, RootsReported}

-- ---- the extent of the first tree

legal-trees : (f : Forest) → AllLegal f → size f < 2 ^ 14 → LegalTrees f
unfolding size
legal-trees nil l h = no_trees
legal-trees (node k cs rest) l h =
    legal_tree {cs = cs} l.0 (omega (arith, count-size cs)) (legal-trees cs l.1 (omega arith)) (legal-trees rest l.2 (omega arith))

pub measure-emit : {W : List ℕ} {first n : ℕ} → CanMeasure W first n → CanEmit W first (28 * n + 28) (24 * n + 24)
measure-emit {n = n} p =
    let few = p.few in
    let nodes = p.nodes in
    let room = p.room in
    record {
      hi = 3 * n + 3;
      trees = p.trees;
      linked = p.linked;
      below = omega arith;
      spare = omega arith;
      room = omega arith;
      few = omega arith;
    }

pub measure-few : {W : List ℕ} {first n to stack r : ℕ} {W' : List ℕ} → CanMeasure W first n → Emitted W first to stack r W' → r ≤ 3 * n
measure-few {n = n} p v = omega (arith, p.nodes, v.count (3 * n + 3) p.trees p.linked)

pub measured : (W W' : List ℕ) (first n to stack nodes : ℕ) (r : Extent) → CanMeasure W first n → to ≡ 28 * n + 28 → stack ≡ 24 * n + 24
    → Emitted W first to stack nodes W' → r ≡ first_extent (trees_of (take (to + node_length * nodes - to) (drop to W')))
    → Measured W first n r W'
measured W W' first n to stack nodes r p at above v e =
    record {
      extent = λ f w. e ∙ ap first_extent (ap trees_of (words f w) ∙ trees-back f (legal f w));
      same = λ j h. v.same j (omega arith);
      long = v.long;
    }
  where
    words : (f : Forest) → Linked W first (3 * n + 3) f → take (to + node_length * nodes - to) (drop to W') ≡ tree_words f
    words f w =
        let long = tree_words-length f in
        let few = measure-few p v in
        let count : to + node_length * nodes - to ≡ length (tree_words f) = omega (arith, v.count (3 * n + 3) f w) in
        rw count (seg-part W' to (tree_words f) (omega (arith, p.room, v.long)) (v.words (3 * n + 3) f w))

    legal : (f : Forest) → Linked W first (3 * n + 3) f → LegalTrees f
    legal f w = legal-trees f (rep-legal w.rep) (omega (arith, measure-few p v, p.few, v.count (3 * n + 3) f w))

-- ---- the last tree

-- The last of the trees, the first of which is k over cs, is linked from the slot s on, by itself.
pub record LastTree (W : List ℕ) (s hi : ℕ) (k : Token) (cs rest : Forest) : Type 0 where
  pub t : Token
  pub below : Forest
  pub linked : Linked W s hi (node t below nil)
  pub ends : last_end k cs rest ≡ highest_end t.end below
  pub small : size (node t below nil) ≤ size (node k cs rest)

last-tree : {W X : List ℕ} (f b : ℕ) (bs : List ℕ) {lo hi : ℕ} (k : Token) (cs rest : Forest) → Chain W f (b ∷ bs)
    → RepF W X (b ∷ bs) lo hi (node k cs rest)
    → LastTree W (last_from b bs) hi k cs rest
unfolding last_end last_from size count
last-tree f b [] k cs nil c r =
    let v = tree-first r in
    record { t = k; below = cs; linked = tree-linked v.tree c.2 (rep-le v.rest); ends = refl; small = omega arith }
last-tree f b (d ∷ bs) k cs nil c r = absurd (omega (arith, rep-count r))
last-tree f b [] k cs (node l ls rest) c r = absurd (omega (arith, rep-count r))
last-tree {W} f b (d ∷ bs) k cs (node l ls rest) c r =
    let v = last-tree (next_at W b) d bs l ls rest c.2 (tree-first r).rest in
    record { t = v.t; below = v.below; linked = v.linked; ends = v.ends; small = omega (arith, v.small) }

-- The same of the slot that `last_of_chain` finds.
last_of : {W : List ℕ} {head hi r : ℕ} {k : Token} {cs rest : Forest} → Linked W head hi (node k cs rest) → IsLast W head r
    → LastTree W r hi k cs rest
last_of {W} {head} {hi} {r} {k} {cs} {rest} v last = go v.bs v.chain v.rep
  where
    go : {X : List ℕ} {lo : ℕ} (bs : List ℕ) → Chain W head bs → RepF W X bs lo hi (node k cs rest) → LastTree W r hi k cs rest
    go {X = X} {lo = lo} [] c q = elim q [ ]
    go (b ∷ bs) c q = rw (last.last b bs c) (last-tree head b bs k cs rest c q)

-- ---- message 1 over several roots

pub roots-follow : {W m : List ℕ} {head n : ℕ} → CanReportRoots W m head n → CanFollow W head
roots-follow {W} {m} {head} {n} p =
    let v = p.measure in
    linked-follow W W (3 * n + 3) (λ j h. refl) (omega (arith, v.room)) (omega arith) v.linked

pub roots-some : {W m : List ℕ} {head n : ℕ} → CanReportRoots W m head n → (head ≡ 0 → ⊥)
roots-some p h = unfold count in let none_left = ap count (linked-none p.measure.linked h) in omega (arith, p.several)

module _ (W W' : List ℕ) (head n : ℕ) (starts : Extent) (v : Measured W head n starts W') where
  kept : {s : ℕ} {f : Forest} → 24 * n + 24 ≤ length W → Linked W s (3 * n + 3) f → Linked W' s (3 * n + 3) f
  kept room w =
      record {
        X = w.X;
        bs = w.bs;
        lo = w.lo;
        chain = linked-chain W W' (3 * n + 3) (λ j h. v.same j (omega arith)) (omega (arith, v.long)) (omega arith) w;
        rep = rep-keep W W' (λ s o a b c d e. v.same (slot_start s + o) (omega arith)) w.rep;
      }

  pub last-measure : {m : List ℕ} {tail : ℕ} → CanReportRoots W m head n → IsLast W head tail → CanMeasure W' tail n
  unfolding count
  last-measure {m} {tail} p last = go p.measure.trees p.measure.linked p.measure.nodes p.several
    where
      go : (f : Forest) → Linked W head (3 * n + 3) f → size f ≤ 3 * n → 2 ≤ count f → CanMeasure W' tail n
      go nil w few several = absurd (omega arith)
      go (node k cs rest) w few several =
          let t = last_of w last in
          record {
            trees = node t.t t.below nil;
            linked = kept (omega (arith, p.measure.room)) t.linked;
            nodes = omega (arith, t.small);
            few = p.measure.few;
            room = omega (arith, p.measure.room, v.long);
          }

  pub roots-reported : (m m' W'' : List ℕ) (tail roots : ℕ) (last : Extent) → CanReportRoots W m head n → Counted W head roots
      → IsLast W head tail
      → Measured W' tail n last W'' → m' ≡ laid_at 0 (words_of (with_first (unnamed 1 starts.start last.end) roots 0)) m
      → RootsReported W m head n W'' m'
  unfolding count rooted messages_in record_words words_of message_record record8 first_extent last_end
  roots-reported m m' W'' tail roots last p counted is_last u e =
      record { message = go; same = λ j h. u.same j h ∙ v.same j h; long = u.long ∙ v.long }
    where
      go : (f : Forest) → Linked W head (3 * n + 3) f → 2 ≤ count f → (source_length : ℕ) → m' ≡ messages_in none (rooted source_length [] f) m
      go nil w several source_length = absurd (omega arith)
      go (node k cs nil) w several source_length = absurd (omega arith)
      go (node k cs (node l ls rest)) w several source_length =
          let f = node k cs (node l ls rest) in
          let t = last_of w is_last in
          let first : starts.start ≡ lowest_start k.start cs = ap (λ (x : Extent). x.start) (v.extent f w) in
          let end : last.end ≡ last_end l ls rest =
          ap (λ (x : Extent). x.end) (u.extent (node t.t t.below nil) (kept (omega (arith, p.measure.room)) t.linked))
          ∙ sym t.ends in
          let number : roots ≡ count f = counted.count w.bs w.chain ∙ rep-count w.rep in
          e ∙ (laid-front (words_of (with_first (unnamed 1 starts.start last.end) roots 0)) m ∙ rw (first, end, number))
