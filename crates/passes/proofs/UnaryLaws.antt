-- The unary pass from the right, as an equation between what is left of it before and after each step of the code: an item without a prefix
-- operator is passed over, a node is entered, and a minus or a not takes the next done tree, by what stands before it.
use mathlib.Core.{Path.{◌≡◌, refl, sym, ap, ◌∙◌}, Bool.{Bool, true, false, ◌||◌, true≢false}, List.{[], ◌∷◌}, Option.{Option, none, some}}
use native.Mathlib.Omega.{arith}
use lib.Dec.{eqb}
use borrow.Author.Tests.{eq-eqb, ne_eqb}
use Rattle.molang.specs.Operator
use Rattle.molang.specs.Operator.{operand, operator, minus, unknown, before_minus}
use Rattle.molang.specs.Forest.{Token, Forest, nil, node, renamed, bare, count, size}
use Rattle.molang.specs.Message.{Result, fail, negate_without_operand, not_without_operand, unknown_operation}
use Rattle.molang.specs.{Unary.{done, minus_after, not_before, unary_leaf, turned, unary, unary_pass}, Order.{apply}}
use Rattle.molang.specs.Free.{free, is_nil, is_prefix}
use Rattle.molang.specs.Work.{right, before, from_right, work, begins, in_reading, takes, pass_of, pass, unary_minus_and_not, and_then}
use Rattle.molang.proofs.{Trees.{free-leaf, free-tree}, Booleans.{or-neither}, Unary.{unary-free}}
use Rattle.molang.proofs.Work.{left_of, pass-begins, at_leaf, at-node}
use Rattle.levels.specs.Passes as passes
use Rattle.levels.specs.{Passes.{operators, Covers}, declared.turns.Pass.TheVariants.{Unary as UnaryPass}}
use Rattle.levels.proofs.PassClasses.{runs-covers}
use Rattle.passes.specs.Unary.{Moved}

-- ---- one item

pub at-tree : (k : Token) (cs d left : Forest) → is_nil cs ≡ false
    → work unary_minus_and_not (right false d) (node k cs left)
    ≡ and_then (work unary_minus_and_not (right false nil) (in_reading unary_minus_and_not cs))
    (λ kids. work unary_minus_and_not (takes unary_minus_and_not (right false d) k kids) left)
unfolding is_nil work takes turned in_reading pass pass_of apply begins
at-tree k nil d left e = absurd (true≢false e)
at-tree k (node c cs r) d left e =
    at-node false k c cs r d left
    ∙ ap (λ (u : Result). and_then u (λ kids. from_right (right false (node k kids d)) left)) (pass-begins unary_minus_and_not (node c cs r))

-- An item without a minus or a not stays as it is.
kept-node : (k c : Token) (cs r d left : Forest) → unary none (node c cs r) ≡ done false (node c cs r)
    → and_then (unary_pass (node c cs r)) (λ kids. from_right (right false (node k kids d)) left)
    ≡ from_right (right false (node k (node c cs r) d)) left
kept-node k c cs r d left e = unfold unary_pass and_then in rw (e, unary_pass, and_then) refl

pub passed_over : (k : Token) (cs d left : Forest) → free is_prefix (node k cs nil) ≡ true
    → from_right (right false d) (node k cs left) ≡ from_right (right false (node k cs d)) left
unfolding left_of unary_leaf is_prefix turned
passed_over k nil d left h =
    let o = or-neither (eqb k.op Operator.negate) (eqb k.op Operator.logical_not) (free-leaf is_prefix k nil h).0 in
    at_leaf false k d left ∙ rw (o.0, unary_leaf) (rw o.1 refl)
passed_over k (node c cs r) d left h =
    at-node false k c cs r d left ∙ kept-node k c cs r d left (unary-free none (node c cs r) (free-tree is_prefix k c cs r nil h).0)

-- ---- a minus

module _ (k : Token) (e : k.op ≡ Operator.negate) where
  minus-leaf : (p : Option Token) (r : Forest) → unary_leaf p k r ≡ minus_after p k r
  minus-leaf p r = unfold unary_leaf in rw (eq-eqb k.op Operator.negate e, unary_leaf) refl

  at-minus : (d left : Forest) → from_right (right false d) (node k nil left) ≡ left_of left (minus_after (before left) k d)
  at-minus d left = unfold turned in at_leaf false k d left ∙ ap (left_of left) (minus-leaf (before left) d)

  -- with nothing after it
  pub minus-alone : (left : Forest) → from_right (right false nil) (node k nil left) ≡ fail (negate_without_operand k ∷ [])
  minus-alone left = unfold minus_after left_of in at-minus nil left

  -- at the start of the list
  pub minus-first : (n : Token) (ns r : Forest)
      → from_right (right false (node n ns r)) (node k nil nil) ≡ from_right (right false (node k (node n ns nil) r)) nil
  minus-first n ns r = unfold minus_after left_of before in at-minus (node n ns r) nil

  module _ (n : Token) (ns r : Forest) (p : Token) (ps left : Forest) where
    after : left_of (node p ps left) (minus_after (some p) k (node n ns r))
        ≡ from_right (right false (node n ns r)) (node k nil (node p ps left))
    unfolding before
    after = sym (at-minus (node n ns r) (node p ps left))

    -- after an operator
    pub minus-operator : before_minus p.op ≡ operator
        → from_right (right false (node n ns r)) (node k nil (node p ps left))
        ≡ from_right (right false (node k (node n ns nil) r)) (node p ps left)
    minus-operator b = unfold minus_after left_of in sym after ∙ rw (b, minus_after, left_of) refl

    -- after an operand
    pub minus-operand : before_minus p.op ≡ operand
        → from_right (right false (node n ns r)) (node k nil (node p ps left))
        ≡ from_right (right false (node (renamed Operator.add k) nil (node (bare Operator.negate k) (node n ns nil) r))) (node p ps left)
    minus-operand b = unfold minus_after left_of in sym after ∙ rw (b, minus_after, left_of) refl

    -- after a minus, which becomes `+` at once
    pub minus_minus : before_minus p.op ≡ minus
        → from_right (right false (node n ns r)) (node k nil (node p ps left))
        ≡ from_right (right false (node n ns r)) (node (renamed Operator.add p) ps left)
    minus_minus b = unfold minus_after left_of from_right turned in sym after ∙ rw (b, minus_after, left_of) refl

    -- after what no minus can stand after
    pub minus-unknown : before_minus p.op ≡ unknown
        → from_right (right false (node n ns r)) (node k nil (node p ps left)) ≡ fail (unknown_operation k p ∷ [])
    minus-unknown b = unfold minus_after left_of in sym after ∙ rw (b, minus_after, left_of) refl

-- ---- a not

prefix-not : (a b : Bool) → (a || b) ≡ true → a ≡ false → b ≡ true
prefix-not true b h e = absurd (true≢false e)
prefix-not false b h e = h

module _ (k : Token) (h : is_prefix k.op ≡ true) (e : k.op ≡ Operator.negate → ⊥) where
  at-not : (d left : Forest) → from_right (right false d) (node k nil left) ≡ left_of left (not_before k d)
  unfolding is_prefix unary_leaf turned
  at-not d left =
      let other = ne_eqb k.op Operator.negate e in
      at_leaf false k d left
      ∙ ap (left_of left)
      (rw (other, unary_leaf) (rw (prefix-not (eqb k.op Operator.negate) (eqb k.op Operator.logical_not) h other) refl))

  pub not-alone : (left : Forest) → from_right (right false nil) (node k nil left) ≡ fail (not_without_operand k ∷ [])
  not-alone left = unfold not_before left_of in at-not nil left

  pub not-takes : (n : Token) (ns r left : Forest)
      → from_right (right false (node n ns r)) (node k nil left) ≡ from_right (right false (node k (node n ns nil) r)) left
  not-takes n ns r left = unfold not_before left_of in at-not (node n ns r) left

-- ---- the items passed over

pub moved_none : (d rest : Forest) → Moved d rest d rest
moved_none d rest = record { same = refl; fewer = omega arith; smaller = omega arith }

pub moved_more : {d rest d' : Forest} (k : Token) (cs rest' : Forest) → Moved d rest d' (node k cs rest')
    → free is_prefix (node k cs nil) ≡ true → Moved d rest (node k cs d') rest'
unfolding count size
moved_more {d' = d'} k cs rest' m h =
    let fewer = m.fewer in
    let smaller = m.smaller in
    record { same = m.same ∙ passed_over k cs d' rest' h; fewer = omega arith; smaller = omega arith }

-- ---- the classes

pub unary-covers : Covers 0x10 is_prefix
unary-covers = unfold operators in runs-covers unary_minus_and_not UnaryPass passes.unary
