-- Trees as rows of nodes, each of seven words, in the two orders; and the mirror image of trees: its preorder is their stack order from the
-- last node to the first, and its stack order their preorder so. Assumes nothing.
use Prim.Native.Nat.{ℕ, ◌+◌}
use mathlib.Core.Path.{◌≡◌, refl, ap, sym, ◌∙◌}
use mathlib.Core.List.{List, [], ◌∷◌, ◌++◌, append_assoc, append-nil, reverse, reverse-cons, reverse-append, reverse-reverse}
use native.Mathlib.Omega.{arith}
use lib.ListN.{length, length-append, length-reverse}
use Rattle.molang.specs.{Forest.{Forest, nil, node, count, size}, Words.{token_words, node_words_of, tree_words}, StackOrder.{stack_words}}
use Rattle.words.specs.Tokens.{node_length}
use Rattle.stackorder.specs.{declared.reorder.Direction.{Direction}, declared.reorder.Direction.TheVariants.{Forward, Backward}}
use Rattle.stackorder.specs.Reorder.{read_in, written_in}

-- ---- rows of nodes

-- The words of a row.
abbrev pub joined : List (List ℕ) → List ℕ
joined [] = []
joined (x ∷ xs) = x ++ joined xs

pub joined-append : (xs ys : List (List ℕ)) → joined (xs ++ ys) ≡ joined xs ++ joined ys
joined-append [] ys = refl
joined-append (x ∷ xs) ys = rw (joined-append xs ys) (sym (append_assoc x (joined xs) (joined ys)))

-- Each is a node's words.
abbrev pub Sevens : List (List ℕ) → Type 0
Sevens [] = Unit {0}
Sevens (x ∷ xs) = (length x ≡ node_length) × Sevens xs

sevens-append : (xs ys : List (List ℕ)) → Sevens xs → Sevens ys → Sevens (xs ++ ys)
sevens-append [] ys p q = q
sevens-append (x ∷ xs) ys p q = (p.0, sevens-append xs ys p.1 q)

-- ---- the two orders

-- Each node before its children.
abbrev pub preorder : Forest → List (List ℕ)
preorder nil = []
preorder (node k cs rest) = node_words_of k (count cs) ∷ (preorder cs ++ preorder rest)

-- Each node after them.
abbrev pub stack_order : Forest → List (List ℕ)
stack_order nil = []
stack_order (node k cs rest) = stack_order cs ++ (node_words_of k (count cs) ∷ stack_order rest)

preorder-words : (f : Forest) → joined (preorder f) ≡ tree_words f
unfolding tree_words
preorder-words nil = refl
preorder-words (node k cs rest) = rw (joined-append (preorder cs) (preorder rest), preorder-words cs, preorder-words rest) refl

stack_order-words : (f : Forest) → joined (stack_order f) ≡ stack_words f
unfolding stack_words
stack_order-words nil = refl
stack_order-words (node k cs rest) =
    rw (joined-append (stack_order cs) (node_words_of k (count cs) ∷ stack_order rest), stack_order-words cs, stack_order-words rest) refl

pub preorder-length : (f : Forest) → length (preorder f) ≡ size f
unfolding size
preorder-length nil = refl
preorder-length (node k cs rest) =
    omega (arith, length-append (preorder cs) (preorder rest), preorder-length cs, preorder-length rest)

pub stack_order-length : (f : Forest) → length (stack_order f) ≡ size f
unfolding size
stack_order-length nil = refl
stack_order-length (node k cs rest) =
    omega
    (arith, length-append (stack_order cs) (node_words_of k (count cs) ∷ stack_order rest), stack_order-length cs, stack_order-length rest)

pub preorder-sevens : (f : Forest) → Sevens (preorder f)
unfolding node_words_of token_words
preorder-sevens nil = tt
preorder-sevens (node k cs rest) = (refl, sevens-append (preorder cs) (preorder rest) (preorder-sevens cs) (preorder-sevens rest))

-- ---- the mirror image

-- The mirror image of the first trees, before the second.
abbrev pub mirror_onto : Forest → Forest → Forest
mirror_onto nil out = out
mirror_onto (node k cs rest) out = mirror_onto rest (node k (mirror_onto cs nil) out)

pub mirror-count : (f out : Forest) → count (mirror_onto f out) ≡ count f + count out
unfolding count
mirror-count nil out = omega arith
mirror-count (node k cs rest) out = mirror-count rest (node k (mirror_onto cs nil) out) ∙ omega arith

mirrored-count : (f : Forest) → count (mirror_onto f nil) ≡ count f
mirrored-count f = unfold count in mirror-count f nil ∙ omega arith

mirror-preorder : (f out : Forest) → preorder (mirror_onto f out) ≡ reverse (stack_order f) ++ preorder out
mirror-preorder nil out = refl
mirror-preorder (node k cs rest) out =
    let own = node_words_of k (count cs) in
    let below = reverse (stack_order cs) in
    let after = reverse (stack_order rest) in
    let whole : reverse (stack_order (node k cs rest)) ≡ after ++ (own ∷ below) =
    reverse-append (stack_order cs) (own ∷ stack_order rest)
    ∙ (rw (reverse-cons own (stack_order rest)) (append_assoc after (own ∷ []) below))
    in
    mirror-preorder rest (node k (mirror_onto cs nil) out)
    ∙ rw (whole, mirrored-count cs, mirror-preorder cs nil, append-nil below, append_assoc after (own ∷ below) (preorder out)) refl

mirror-stack_order : (f out : Forest) → stack_order (mirror_onto f out) ≡ reverse (preorder f) ++ stack_order out
mirror-stack_order nil out = refl
mirror-stack_order (node k cs rest) out =
    let own = node_words_of k (count cs) in
    let below = reverse (preorder cs) in
    let after = reverse (preorder rest) in
    let whole : reverse (preorder (node k cs rest)) ≡ after ++ (below ++ (own ∷ [])) =
    reverse-cons own (preorder cs ++ preorder rest)
    ∙ (rw (reverse-append (preorder cs) (preorder rest)) (append_assoc after below (own ∷ [])))
    in
    mirror-stack_order rest (node k (mirror_onto cs nil) out)
    ∙ rw (
      whole,
      mirrored-count cs,
      mirror-stack_order cs nil,
      append-nil below,
      append_assoc after (below ++ (own ∷ [])) (stack_order out),
      append_assoc below (own ∷ []) (stack_order out),
    ) refl

-- ---- by direction

-- The trees as the walk sees them.
abbrev pub seen : Direction → Forest → Forest
seen Forward f = f
seen Backward f = mirror_onto f nil

-- A row that is counted in the direction, from the left.
abbrev pub from_left : Direction → List (List ℕ) → List (List ℕ)
from_left Forward xs = xs
from_left Backward xs = reverse xs

pub read-words : (d : Direction) (f : Forest) → read_in d f ≡ joined (from_left d (preorder (seen d f)))
read-words Forward f = sym (preorder-words f)
read-words Backward f =
    rw (mirror-preorder f nil, append-nil (reverse (stack_order f)), reverse-reverse (stack_order f)) (sym (stack_order-words f))

pub written-words : (d : Direction) (f : Forest) → written_in d f ≡ joined (from_left d (stack_order (seen d f)))
written-words Forward f = sym (stack_order-words f)
written-words Backward f =
    rw (mirror-stack_order f nil, append-nil (reverse (preorder f)), reverse-reverse (preorder f)) (sym (preorder-words f))

pub seen-count : (d : Direction) (f : Forest) → count (seen d f) ≡ count f
seen-count Forward f = refl
seen-count Backward f = mirrored-count f

pub seen_size : (d : Direction) (f : Forest) → size (seen d f) ≡ size f
seen_size Forward f = refl
seen_size Backward f =
    sym (preorder-length (mirror_onto f nil))
    ∙ (ap length (mirror-preorder f nil ∙ append-nil (reverse (stack_order f)))
    ∙ (length-reverse (stack_order f) ∙ stack_order-length f))
