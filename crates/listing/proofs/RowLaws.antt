-- The lines of an answer, one behind the other, and how long they are.
use Prim.Native.Nat.{ℕ, zero, suc, ◌+◌, ◌-◌, ◌*◌, ◌≤◌}
use mathlib.Core.{Path.{◌≡◌, ap}, List.{List, [], ◌∷◌, ◌++◌}}
use native.Mathlib.{Numerals.{add-one}, Omega.{arith}}
use lib.ListN.{length, take, drop, get_or, length-append, length-take, length-drop}
use Rattle.molang.specs.Words.{low_of}
use Rattle.words.specs.Fields.{operator_of}
use Rattle.text.{specs.Text.{numbered, line_end, space, Wrote}, proofs.TextLaws.{wrote_then, numbered-length}}
use Rattle.listing.specs.Rows.{spaced, row, node_numbers, node_rows, record_rows}

-- LENGTHS
pub spaced-length : (i : ℕ) (ns : List ℕ) → length (spaced i ns) ≤ 21 * i
unfolding spaced
spaced-length zero ns = omega arith
spaced-length (suc i) ns = omega (
  arith,
  length-append (spaced i ns) (numbered (get_or ns i 0) space),
  numbered-length (get_or ns i 0) space,
  spaced-length i ns,
)

pub row-length : (ns : List ℕ) → 1 ≤ length ns → length (row ns) ≤ 21 * length ns
unfolding row
row-length ns h =
    let k = length ns - 1 in
    omega (
      arith,
      length-append (spaced k ns) (numbered (get_or ns k 0) line_end),
      numbered-length (get_or ns k 0) line_end,
      spaced-length k ns,
    )

pub node-rows-length : (i : ℕ) (tree : List ℕ) → length (node_rows i tree) ≤ 84 * i
unfolding node_rows node_numbers
node-rows-length zero tree = omega arith
node-rows-length (suc i) tree =
    omega (
      arith,
      length-append (node_rows i tree) (row (node_numbers tree (7 * i))),
      node-rows-length i tree,
      row-length (node_numbers tree (7 * i)) (omega arith),
    )

pub record-rows-length : (i : ℕ) (messages : List ℕ) → 8 * i ≤ length messages → length (record_rows i messages) ≤ 168 * i
unfolding record_rows
record-rows-length zero messages h = omega arith
record-rows-length (suc i) messages h =
    let eight = take 8 (drop (8 * i) messages) in
    let eights : length eight ≡ 8 = omega (arith, length-take 8 (drop (8 * i) messages), length-drop (8 * i) messages) in
    omega (
      arith,
      length-append (record_rows i messages) (row eight),
      record-rows-length i messages (omega arith),
      row-length eight (omega arith),
    )

-- ROWS, one after the other
pub spaced-on : {a b c : List ℕ} {at m r : ℕ} → at ≤ length a → (ns : List ℕ) (i n : ℕ) → n ≡ get_or ns i 0 → Wrote a at (spaced i ns) m b
    → Wrote b m (numbered n space) r c
    → Wrote a at (spaced (i + 1) ns) r c
unfolding spaced
spaced-on h ns i n e p q =
    let step : spaced (i + 1) ns ≡ spaced i ns ++ numbered (get_or ns i 0) space = ap (λ (k : ℕ). spaced k ns) (add-one i) in
    rw step (wrote_then h p (rw e at q))

pub row_done : {a b c : List ℕ} {at m r : ℕ} → at ≤ length a → (ns : List ℕ) (i n : ℕ) → i ≡ length ns - 1 → n ≡ get_or ns (length ns - 1) 0
    → Wrote a at (spaced i ns) m b
    → Wrote b m (numbered n line_end) r c
    → Wrote a at (row ns) r c
row_done h ns i n k e p q = unfold row in wrote_then h (rw k at p) (rw e at q)

pub node-laid : {a b : List ℕ} {at r operator children start end : ℕ} (tree : List ℕ) (from : ℕ) → operator ≡ operator_of (get_or tree from 0)
    → children ≡ low_of (get_or tree (from + 5) 0)
    → start ≡ low_of (get_or tree (from + 1) 0)
    → end ≡ low_of (get_or tree (from + 2) 0)
    → Wrote a at (row (operator ∷ children ∷ start ∷ end ∷ [])) r b
    → Wrote a at (row (node_numbers tree from)) r b
node-laid tree from o n s e w = unfold node_numbers in rw (o, n, s, e) at w

pub nodes-on : {a b c : List ℕ} {at m r : ℕ} → at ≤ length a → (tree : List ℕ) (i : ℕ) → Wrote a at (node_rows i tree) m b
    → Wrote b m (row (node_numbers tree (7 * i))) r c
    → Wrote a at (node_rows (i + 1) tree) r c
unfolding node_rows
nodes-on h tree i p q =
    let step : node_rows (i + 1) tree ≡ node_rows i tree ++ row (node_numbers tree (7 * i)) = ap (λ (k : ℕ). node_rows k tree) (add-one i) in
    rw step (wrote_then h p q)

pub records-on : {a b c : List ℕ} {at m r : ℕ} → at ≤ length a → (messages : List ℕ) (i : ℕ) → Wrote a at (record_rows i messages) m b
    → Wrote b m (row (take 8 (drop (8 * i) messages))) r c
    → Wrote a at (record_rows (i + 1) messages) r c
unfolding record_rows
records-on h messages i p q =
    let step : record_rows (i + 1) messages ≡ record_rows i messages ++ row (take 8 (drop (8 * i) messages)) =
    ap (λ (k : ℕ). record_rows k messages) (add-one i)
    in
    rw step (wrote_then h p q)

-- Three texts.
pub three : {a b c d : List ℕ} {at m k r : ℕ} {s t u : List ℕ} → at ≤ length a → Wrote a at s m b → Wrote b m t k c → Wrote c k u r d
    → Wrote a at ((s ++ t) ++ u) r d
three h p q w = wrote_then h (wrote_then h p q) w
