-- Copying a run of words to the front of a buffer, a word a turn; and laying a tree out: the words that emission leaves, copied.
use Prim.Native.Nat.{ℕ, ◌+◌, ◌*◌, ◌≤◌, ◌<◌}
use mathlib.Core.{Path.{◌≡◌, ap, ◌∙◌}, List.{List}}
use native.Mathlib.{Omega.{arith}}
use lib.{ListN.{length, get_or, take, drop, set}}
use Rattle.molang.{specs.Forest.{Forest}, specs.Words.{tree_words}, specs.Parse.{in_front}, proofs.Bounds.{tree_words-length}}
use Rattle.words.{specs.{Tokens.{node_length}, Records.{laid_at}}, proofs.LaidLaws.{laid_next}}
use Rattle.buffers.specs.Emit.{Linked, CanEmit, Emitted, CanLayOut, LaidOut}
use Rattle.buffers.proofs.Runs.{seg-part}

-- One word more of ws in front of d.
pub copy_step : (ws d l : List ℕ) (i : ℕ) → length ws ≤ length d → i < length ws → l ≡ in_front (take i ws) d
    → set l i (get_or ws i 0) ≡ in_front (take (i + 1) ws) d
unfolding laid_at
copy_step ws d l i room h e = let z : 0 + i ≡ i = omega arith in rw z at (laid_next d l 0 ws i (omega arith) h e)

-- ---- `lay_out`

pub lay-room : {W buffer : List ℕ} {root n : ℕ} → CanLayOut W buffer root n → CanEmit W root (28 * n + 28) (24 * n + 24)
lay-room {n = n} p =
    let few = p.few in
    let nodes = p.nodes in
    let room = p.work-room in
    record {
      hi = 3 * n + 3;
      trees = p.trees;
      linked = p.linked;
      below = omega arith;
      spare = omega arith;
      room = omega arith;
      few = omega arith;
    }

pub lay-count : {W buffer : List ℕ} {root n to stack r : ℕ} {W' : List ℕ} → CanLayOut W buffer root n → Emitted W root to stack r W'
    → r ≤ 3 * n
lay-count {n = n} p v = omega (arith, p.nodes, v.count (3 * n + 3) p.trees p.linked)

pub lay_done : {W buffer : List ℕ} {root n r : ℕ} {W' buffer' : List ℕ} → CanLayOut W buffer root n
    → Emitted W root (28 * n + 28) (24 * n + 24) r W'
    → buffer' ≡ in_front (take (node_length * r) (drop (28 * n + 28) W')) buffer → LaidOut W buffer root n r W' buffer'
lay_done {W} {buffer} {root} {n} {r} {W'} {buffer'} p v e =
    record {
      count = v.count (3 * n + 3);
      words = λ f w. e ∙ ap (λ (ws : List ℕ). in_front ws buffer) (front f w);
      same = v.same;
      long = v.long;
    }
  where
    front : (f : Forest) → Linked W root (3 * n + 3) f → take (node_length * r) (drop (28 * n + 28) W') ≡ tree_words f
    front f w =
        let words = tree_words-length f in
        let few = lay-count p v in
        let count : node_length * r ≡ length (tree_words f) = omega (arith, v.count (3 * n + 3) f w) in
        rw count (seg-part W' (28 * n + 28) (tree_words f) (omega (arith, p.work-room, v.long)) (v.words (3 * n + 3) f w))
