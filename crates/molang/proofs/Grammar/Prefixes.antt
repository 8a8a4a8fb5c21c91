-- THE PREFIX OPERATORS: the pass takes a list of operands and operators to the one in which prefixes are over their operands and a binary
-- minus
-- is a plus.
use Prim.Native.Nat.{ℕ}
use mathlib.Core.{Path.{◌≡◌, refl, ap, sym, ◌∙◌}, Bool.{true, false, false≢true}, Option.{Option, none, some}, Logic.{◌⊎◌, inl, inr}}
use lib.Dec.{eqb}
use borrow.Author.Tests.{eqb-true}
use Rattle.molang.specs.Operator.{negate, logical_not, add, operand, minus as a_minus, before_minus}
use Rattle.molang.specs.{Forest.{Token, Forest, nil, node, renamed, bare}, Message.{ok}}
use Rattle.molang.specs.Unary.{done, unary, minus_after, not_before, unary_leaf, unary_node, turned, unary_pass}
use Rattle.molang.proofs.Grammar.Prefixed.{Text, item, prefix, between, minus, minuses, beside, raw, negated, read, last_of}
use Rattle.molang.proofs.Grammar.Prefixed.{is_operand, Unary, Item, Fits}

-- ---- one node

-- A leaf that is no prefix operator.
leaf-kept : (p : Option Token) (k : Token) (rest r : Forest) → eqb k.op negate ≡ false → eqb k.op logical_not ≡ false
    → unary (some k) rest ≡ done false r → unary p (node k nil rest) ≡ done false (node k nil r)
unfolding unary unary_node unary_leaf turned
leaf-kept p k rest r n m e = rw (e, unary) (rw (n, unary_leaf) (rw m refl))

item-kept : (p : Option Token) (k : Token) (cs kids rest r : Forest) → Item k cs kids → unary (some k) rest ≡ done false r
    → unary p (node k cs rest) ≡ done false (node k kids r)
unfolding unary unary_node turned
item-kept p k nil kids rest r g e = leaf-kept p k rest r g.0 g.1 e ∙ ap (λ (f : Forest). done false (node k f r)) (sym g.2)
item-kept p k (node c cs s) kids rest r g e = rw (e, unary) (rw (g, unary) refl)

not-minus : (k : Token) → eqb k.op logical_not ≡ true → eqb k.op negate ≡ false
not-minus k o = ap (λ (n : ℕ). eqb n negate) (eqb-true k.op logical_not o)

-- A not, or a unary minus, over the first node after it.
over_first : (p : Option Token) (k : Token) (rest : Forest) (n : Token) (ns r : Forest)
    → (eqb k.op logical_not ≡ true) ⊎ ((eqb k.op negate ≡ true) × Unary p)
    → unary (some k) rest ≡ done false (node n ns r) → unary p (node k nil rest) ≡ done false (node k (node n ns nil) r)
unfolding unary unary_node unary_leaf not_before minus_after turned
over_first p k rest n ns r (inl o) e = rw (e, unary) (rw (not-minus k o, unary_leaf) (rw o refl))
over_first none k rest n ns r (inr o) e = rw (e, unary) (rw (o.0, unary_leaf) refl)
over_first (some q) k rest n ns r (inr o) e = rw (e, unary) (rw (o.0, unary_leaf) (rw (o.1, minus_after) refl))

-- A minus after an operand.
plus-over : (q k : Token) (rest r : Forest) (n : Token) (ns s : Forest) → eqb k.op negate ≡ true → before_minus q.op ≡ operand
    → r ≡ node n ns s
    → unary (some k) rest ≡ done false r → unary (some q) (node k nil rest) ≡ done false (node (renamed add k) nil (negated k r))
unfolding unary unary_node unary_leaf minus_after turned negated renamed bare
plus-over q k rest r n ns s o b g e = rw (e, unary) (rw (o, unary_leaf) (rw (g) (rw (b, minus_after) refl)))

-- Of two minuses after an operand the second vanishes, and the first is a plus.
before-minus : (k : Token) → eqb k.op negate ≡ true → before_minus k.op ≡ a_minus
unfolding before_minus
before-minus k o = rw (o, before_minus) refl

pair_turns : (p : Option Token) (k l : Token) (rest : Forest) (n : Token) (ns r : Forest) → eqb k.op negate ≡ true
    → eqb l.op negate ≡ true
    → unary (some l) rest ≡ done false (node n ns r)
    → unary p (node k nil (node l nil rest)) ≡ done false (node (renamed add k) nil (node n ns r))
unfolding unary unary_node unary_leaf minus_after turned renamed
pair_turns p k l rest n ns r o q e = rw (second, unary) refl
  where
    second : unary (some k) (node l nil rest) ≡ done true (node n ns r)
    second = rw (e, unary) (rw (q, unary_leaf) (rw (before-minus k o, minus_after) refl))

-- ---- a list

record First (F : Forest → Forest) : Type 0 where
  tree : Forest → Token
  below : Forest → Forest
  rest : Forest → Forest
  starts : (r : Forest) → F r ≡ node (tree r) (below r) (rest r)

first : (t : Text) → First (read t)
unfolding read
first (item k cs kids) = record { tree = λ r. k; below = λ r. kids; rest = λ r. r; starts = λ r. refl }
first (prefix k x) = record { tree = λ r. k; below = λ r. read x nil; rest = λ r. r; starts = λ r. refl }
first (between k x y) = let f = first x in record {
  tree = λ r. f.tree (node k nil (read y r));
  below = λ r. f.below (node k nil (read y r));
  rest = λ r. f.rest (node k nil (read y r));
  starts = λ r. f.starts (node k nil (read y r));
}
first (minus k x y) = let f = first x in record {
  tree = λ r. f.tree (node (renamed add k) nil (negated k (read y r)));
  below = λ r. f.below (node (renamed add k) nil (negated k (read y r)));
  rest = λ r. f.rest (node (renamed add k) nil (negated k (read y r)));
  starts = λ r. f.starts (node (renamed add k) nil (negated k (read y r)));
}
first (minuses k l x y) = let f = first x in record {
  tree = λ r. f.tree (node (renamed add k) nil (read y r));
  below = λ r. f.below (node (renamed add k) nil (read y r));
  rest = λ r. f.rest (node (renamed add k) nil (read y r));
  starts = λ r. f.starts (node (renamed add k) nil (read y r));
}
first (beside x y) = let f = first x in record {
  tree = λ r. f.tree (read y r);
  below = λ r. f.below (read y r);
  rest = λ r. f.rest (read y r);
  starts = λ r. f.starts (read y r);
}

-- An operand with its prefixes is one tree.
one-tree : (t : Text) → is_operand t ≡ true → (r : Forest) → read t r ≡ node ((first t).tree nil) ((first t).below nil) r
unfolding read is_operand first
one-tree (item k cs kids) h r = refl
one-tree (prefix k x) h r = refl
one-tree (between k x y) h r = absurd (false≢true h)
one-tree (minus k x y) h r = absurd (false≢true h)
one-tree (minuses k l x y) h r = absurd (false≢true h)
one-tree (beside x y) h r = absurd (false≢true h)

-- The pass over a list before r, which becomes s.
reads : (t : Text) (p : Option Token) (r s : Forest) → Fits p t → unary (some (last_of t)) r ≡ done false s
    → unary p (raw t r) ≡ done false (read t s)
unfolding raw read last_of
reads (item k cs kids) p r s g e = item-kept p k cs kids r s g e
reads (prefix k x) p r s g e =
    over_first p k (raw x r) ((first x).tree nil) ((first x).below nil) s g.0
    (reads x (some k) r s g.2 e ∙ ap (done false) (one-tree x g.1 s))
    ∙ ap (λ (f : Forest). done false (node k f s)) (sym (one-tree x g.1 nil))
reads (between k x y) p r s g e =
    reads x p (node k nil (raw y r)) (node k nil (read y s)) g.2
    (leaf-kept (some (last_of x)) k (raw y r) (read y s) g.0 g.1 (reads y (some k) r s g.3 e))
reads (minus k x y) p r s g e =
    reads x p (node k nil (raw y r)) (node (renamed add k) nil (negated k (read y s))) g.2
    (plus-over (last_of x) k (raw y r) (read y s) ((first y).tree s) ((first y).below s) ((first y).rest s) g.0 g.1 ((first y).starts s)
    (reads y (some k) r s g.3 e))
reads (minuses k l x y) p r s g e =
    reads x p (node k nil (node l nil (raw y r))) (node (renamed add k) nil (read y s)) g.3
    (pair_turns (some (last_of x)) k l (raw y r) ((first y).tree s) ((first y).below s) ((first y).rest s) g.0 g.1
    (reads y (some l) r s g.4 e ∙ ap (done false) ((first y).starts s))
    ∙ ap (λ (f : Forest). done false (node (renamed add k) nil f)) (sym ((first y).starts s)))
reads (beside x y) p r s g e = reads x p (raw y r) (read y s) g.0 (reads y (some (last_of x)) r s g.1 e)

-- The same of the list below a node.
pub list-reads : (t : Text) → Fits none t → unary none (raw t nil) ≡ done false (read t nil)
list-reads t g = reads t none nil nil g (unfold unary in refl)

-- What makes an item: it is no prefix operator, and its children are done.
pub an_item : (k : Token) (cs kids : Forest) → eqb k.op negate ≡ false → eqb k.op logical_not ≡ false
    → unary none cs ≡ done false kids → Item k cs kids
unfolding unary
an_item k nil kids n m e = (n, m, (let p : done false nil ≡ done false kids = e in cc))
an_item k (node c cs r) kids n m e = e

-- The pass takes a whole list to the one in which prefixes are over their operands.
pub prefix-pass : (t : Text) → Fits none t → unary_pass (raw t nil) ≡ ok (read t nil)
unfolding unary_pass
prefix-pass t g = rw (reads t none nil nil g (unfold unary in refl), unary_pass) refl
