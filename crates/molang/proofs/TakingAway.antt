-- Laws of taking brackets away: what stays of a node, tree by tree; that taking away twice is taking away once; and that of a plain
-- expression everything that is left is compared.
use Prim.Native.Nat.{ℕ, suc, ◌+◌}
use mathlib.Core.{Path.{◌≡◌, refl, ap, sym, ◌∙◌}, Bool.{Bool, true, false, ◌&&◌, not, true≢false, false≢true, and-eq-true_iff, and-false}}
use mathlib.Core.Option.{none}
use native.Mathlib.Omega.{arith}
use lib.Dec.{eqb}
use borrow.Author.Tests.{ne_eqb}
use Rattle.molang.specs.Operator
use Rattle.molang.specs.{Operator.{is_bracket}, Forest.{Token, Forest, nil, node, count}}
use Rattle.molang.specs.{Plain.{Seat, at_root, seat_under, is_call, unplain_at}, Write.{is_single, taken_away, comparable}}
use Rattle.molang.proofs.PlainTrees.{PlainExpression, inner, PlainTree, expression, script, plain-tree}

taken-by : (taken c : Bool) (k : Token) (cs rest r : Forest) → (is_bracket k.op && is_single cs && not c) ≡ taken
    → taken_away c (node k cs rest) r ≡ (elim taken as (λ t. Forest) [
      | true ↦ taken_away false cs (taken_away c rest r)
      | false ↦ node k (taken_away (is_call k.op) cs nil) (taken_away c rest r)
    ])
taken-by taken c k cs rest r h = unfold taken_away in rw (← h) refl

taken-nil : (c : Bool) → taken_away c nil nil ≡ nil
taken-nil c = unfold taken_away in refl

pub taken-later : (c : Bool) (k : Token) (cs r R : Forest) → taken_away c (node k cs r) R ≡ taken_away c (node k cs nil) (taken_away c r R)
taken-later c k cs r R = unfold taken_away in refl

-- A node that is no bracket stays, and a bracket under a call stays.
pub taken-kept : (c : Bool) (k : Token) (cs R : Forest) → is_bracket k.op ≡ false
    → taken_away c (node k cs nil) R ≡ node k (taken_away (is_call k.op) cs nil) R
taken-kept c k cs R h = unfold taken_away in taken-by false c k cs nil R (rw h refl)

pub taken-call : (k : Token) (cs R : Forest) → taken_away true (node k cs nil) R ≡ node k (taken_away (is_call k.op) cs nil) R
taken-call k cs R = unfold taken_away in taken-by false true k cs nil R (and-false (is_bracket k.op && is_single cs))

pub taken-bracket : (k x : Token) (xs R : Forest) → is_bracket k.op ≡ true
    → taken_away false (node k (node x xs nil) nil) R ≡ taken_away false (node x xs nil) R
taken-bracket k x xs R h = unfold taken_away is_single in taken-by true false k (node x xs nil) nil R (rw h refl)

-- Each tree leaves one tree in its place.
single-count : (f : Forest) → is_single f ≡ eqb (count f) 1
unfolding is_single count
single-count nil = refl
single-count (node k cs nil) = refl
single-count (node k cs (node l ls r)) = sym (ne_eqb (suc (suc (count r))) 1 (λ p. omega arith))

one-child : (cs : Forest) → is_single cs ≡ true → count cs ≡ 1
unfolding is_single count
one-child nil h = absurd (false≢true h)
one-child (node k cs nil) h = refl
one-child (node k cs (node l ls r)) h = absurd (false≢true h)

pub taken-count : (c : Bool) (f r : Forest) → count (taken_away c f r) ≡ count f + count r
taken-count c nil r = unfold taken_away count in omega arith
taken-count c (node k cs rest) r = split (is_bracket k.op && is_single cs && not c) refl (taken-count false cs (taken_away c rest r))
    (taken-count c rest r)
  where
    split : (b : Bool) → (is_bracket k.op && is_single cs && not c) ≡ b
        → count (taken_away false cs (taken_away c rest r)) ≡ count cs + count (taken_away c rest r)
        → count (taken_away c rest r) ≡ count rest + count r → count (taken_away c (node k cs rest) r) ≡ count (node k cs rest) + count r
    split true h i j =
        let one = one-child cs ((and-eq-true_iff (is_bracket k.op) (is_single cs)).0
        ((and-eq-true_iff (is_bracket k.op && is_single cs) (not c)).0 h).0).1 in
        rw (taken-by true c k cs rest r h) (unfold count in omega arith)
    split false h i j = rw (taken-by false c k cs rest r h) (unfold count in omega arith)

single-kept : (c : Bool) (cs : Forest) → is_single (taken_away c cs nil) ≡ is_single cs
unfolding count
single-kept c cs =
    let n : count (taken_away c cs nil) ≡ count cs = omega (arith, taken-count c cs nil) in
    single-count (taken_away c cs nil) ∙ ap (λ (n : ℕ). eqb n 1) n ∙ sym (single-count cs)

taken_twice : (c : Bool) (f r R : Forest) → taken_away c (taken_away c f r) R ≡ taken_away c f (taken_away c r R)
taken_twice c nil r R = unfold taken_away in refl
taken_twice c (node k cs rest) r R =
    split c (is_bracket k.op && is_single cs && not c) refl (λ d. taken_twice d cs) (taken_twice c rest r R)
  where
    split : (c b : Bool) → (is_bracket k.op && is_single cs && not c) ≡ b
        → ((d : Bool) (r R : Forest) → taken_away d (taken_away d cs r) R ≡ taken_away d cs (taken_away d r R))
        → taken_away c (taken_away c rest r) R ≡ taken_away c rest (taken_away c r R)
        → taken_away c (taken_away c (node k cs rest) r) R ≡ taken_away c (node k cs rest) (taken_away c r R)
    split true true h i j = absurd (false≢true (sym (and-false (is_bracket k.op && is_single cs)) ∙ h))
    split false true h i j =
        ap (λ (f : Forest). taken_away false f R) (taken-by true false k cs rest r h)
        ∙ i false (taken_away false rest r) R ∙ ap (taken_away false cs) j ∙ sym (taken-by true false k cs rest (taken_away false r R) h)
    split c false h i j =
        ap (λ (f : Forest). taken_away c f R) (taken-by false c k cs rest r h)
        ∙ taken-by false c k (taken_away (is_call k.op) cs nil) (taken_away c rest r) R
        (ap (λ (s : Bool). is_bracket k.op && s && not c) (single-kept (is_call k.op) cs) ∙ h)
        ∙ ap (λ (f : Forest). node k f (taken_away c (taken_away c rest r) R))
        (i (is_call k.op) nil nil ∙ ap (taken_away (is_call k.op) cs) (taken-nil (is_call k.op)))
        ∙ ap (node k (taken_away (is_call k.op) cs nil)) j
        ∙ sym (taken-by false c k cs rest (taken_away c r R) h)

-- TAKING AWAY IS IDEMPOTENT, of every list of trees, under a call or not.
pub taken-idempotent : (c : Bool) (f : Forest) → taken_away c (taken_away c f nil) nil ≡ taken_away c f nil
taken-idempotent c f = unfold taken_away in taken_twice c f nil nil

-- ---- What is compared

-- The list begins with a tree whose root is no semicolon.
record Unstated (f : Forest) : Type 0 where
  first : Token
  below : Forest
  rest : Forest
  starts : f ≡ node first below rest
  other : eqb first.op Operator.semicolon ≡ false

several-kept : (c : Bool) (k : Token) (cs R : Forest) → is_single cs ≡ false
    → taken_away c (node k cs nil) R ≡ node k (taken_away (is_call k.op) cs nil) R
several-kept c k cs R h = unfold taken_away in taken-by false c k cs nil R (rw (h, and-false (is_bracket k.op)) refl)

-- What is left of a plain expression begins with no semicolon.
left-unstated : (p : Seat) (n : ℕ) (k : Token) (cs : Forest) → PlainExpression p n k cs → (c : Bool) (R : Forest)
    → Unstated (taken_away c (node k cs nil) R)
left-unstated p n k nil e c R =
    record { first = k; below = _; rest = R; starts = several-kept c k nil R (unfold is_single in refl); other = e.other }
left-unstated p n k (node x xs nil) e c R =
    let a = inner k 0 n x xs nil e.other e.below in
    split (is_bracket k.op) c refl (left-unstated (seat_under k 0) (suc n) x xs a.0 false R)
  where
    split : (b c : Bool) → is_bracket k.op ≡ b → Unstated (taken_away false (node x xs nil) R)
        → Unstated (taken_away c (node k (node x xs nil) nil) R)
    split true false h i = record {
      first = i.first;
      below = i.below;
      rest = i.rest;
      starts = taken-bracket k x xs R h ∙ i.starts;
      other = i.other;
    }
    split true true h i = record { first = k; below = _; rest = R; starts = taken-call k (node x xs nil) R; other = e.other }
    split false c h i = record { first = k; below = _; rest = R; starts = taken-kept c k (node x xs nil) R h; other = e.other }
left-unstated p n k (node x xs (node y ys r)) e c R =
    record {
      first = k;
      below = _;
      rest = R;
      starts = several-kept c k (node x xs (node y ys r)) R (unfold is_single in refl);
      other = e.other;
    }

compared-first : (k : Token) (cs rest : Forest) → eqb k.op Operator.semicolon ≡ false → comparable (node k cs rest) ≡ node k cs rest
compared-first k cs rest h = unfold comparable in rw (h, comparable) refl

-- OF A PLAIN EXPRESSION EVERYTHING IS COMPARED: what is compared of it, with brackets taken away, is all that is left.
pub compared-in-all : (k : Token) (cs : Forest) → unplain_at k cs ≡ none → eqb k.op Operator.semicolon ≡ false
    → comparable (taken_away false (node k cs nil) nil) ≡ taken_away false (node k cs nil) nil
compared-in-all k cs plain other = split cs (plain-tree k cs plain)
  where
    split : (cs : Forest) → PlainTree k cs → comparable (taken_away false (node k cs nil) nil) ≡ taken_away false (node k cs nil) nil
    split cs (expression e) =
        let f = left-unstated at_root 1 k cs e false nil in
        ap comparable f.starts ∙ compared-first f.first f.below f.rest f.other ∙ sym f.starts
    split cs (script h s) = absurd (true≢false (sym h ∙ other))
