-- What `unplain` says of a list of trees that has no node that is not plain, tree by tree: a plain tree is an expression, or a script each
-- of whose statements holds one, and each of these is plain; and the seats that its nodes have.
use Prim.Native.Nat.{ℕ, suc, ◌+◌}
use mathlib.Core.{Path.{◌≡◌, refl, sym, ◌∙◌}, Bool.{true, false, ◌&&◌, true≢false, false≢true, and-eq-true_iff, and-false}}
use mathlib.Core.Option.{Option, none, some}
use lib.Dec.{eqb}
use borrow.Author.Tests.{eqb-true, eq-eqb, not-true}
use Rattle.molang.specs.Operator
use Rattle.molang.specs.{Operator.{is_math_call}, Forest.{Token, Forest, nil, node, size}}
use Rattle.molang.specs.Plain.{Seat, at_root, under_semicolon, elsewhere, right_of_question, under_math_call, is_right_of_question}
use Rattle.molang.specs.Plain.{is_under_semicolon, seat_under, expression_form, all_semicolons, semicolon_form, plain_form, seat_of, unplain}
use Rattle.molang.specs.Plain.{unplain_at}
use Rattle.molang.proofs.{FirstFailure.{first-none, then-none, passed, passes, all-passed}, Booleans.{either}}
use Rattle.molang.proofs.{Trees.{decided, both, and-true-true}, Computed.{computed}}

-- The first tree's root has a plain form, and there is no other node below it or in the trees after it.
pub record Plain (p : Option Token) (i n : ℕ) (k : Token) (cs rest : Forest) : Type 0 where
  pub here : plain_form (seat_of p i) k cs ≡ true
  pub below : unplain (some k) 0 (suc n) cs ≡ none
  pub after : unplain p (suc i) (suc n + size cs) rest ≡ none

pub plain-parts : (p : Option Token) (i n : ℕ) (k : Token) (cs rest : Forest) → unplain p i n (node k cs rest) ≡ none
    → Plain p i n k cs rest
unfolding unplain
plain-parts p i n k cs rest h =
    let root = passed (plain_form (seat_of p i) k cs) n _ h in
    let trees = first-none _ _ root.1 in
    record { here = root.0; below = trees.0; after = (first-none _ _ trees.1).0 }

-- The other way round.
pub plain-whole : (p : Option Token) (i n : ℕ) (k : Token) (cs rest : Forest) → Plain p i n k cs rest
    → unplain p i n (node k cs rest) ≡ none
unfolding unplain
plain-whole p i n k cs rest h =
    passes (plain_form (seat_of p i) k cs) n _ h.here (then-none _ _ h.below (then-none _ _ h.after all-passed))

pub no-trees : (p : Option Token) (i n : ℕ) → unplain p i n nil ≡ none
no-trees p i n = unfold unplain in refl

-- Where the numbering begins does not matter.
pub renumbered : (p : Option Token) (i n m : ℕ) (f : Forest) → unplain p i n f ≡ none → unplain p i m f ≡ none
renumbered p i n m nil h = no-trees p i m
renumbered p i n m (node k cs rest) h =
    let a = plain-parts p i n k cs rest h in
    plain-whole p i m k cs rest
    (record {
      here = a.here;
      below = renumbered (some k) 0 (suc n) (suc m) cs a.below;
      after = renumbered p (suc i) (suc n + size cs) (suc m + size cs) rest a.after;
    })

-- ---- Seats

-- What holds of every seat that the i-th child of k can have holds of its seat.
pub seat-cases : (Q : Seat → Type 0) (k : Token) (i : ℕ) → (is_math_call k.op ≡ true → Q under_math_call)
    → (eqb k.op Operator.semicolon ≡ true → Q under_semicolon)
    → ((eqb k.op Operator.conditional && eqb i 1) ≡ true → Q right_of_question) → Q elsewhere → Q (seat_under k i)
unfolding seat_under
seat-cases Q k i m s c e =
    decided Q (is_math_call k.op) under_math_call _ m
    (λ a. decided Q (eqb k.op Operator.semicolon) under_semicolon _ s
    (λ b. decided Q (eqb k.op Operator.conditional && eqb i 1) right_of_question elsewhere c (λ d. e)))

-- The children of a semicolon stand under it.
pub semicolon-seat : (k : Token) (i : ℕ) → eqb k.op Operator.semicolon ≡ true → seat_under k i ≡ under_semicolon
unfolding computed
semicolon-seat k i h = let e : k.op ≡ Operator.semicolon = eqb-true k.op Operator.semicolon h in rw e refl

-- No child of another node stands under a semicolon, or is one.
pub other-seat : (k : Token) (i : ℕ) → eqb k.op Operator.semicolon ≡ false → is_under_semicolon (seat_under k i) ≡ false
unfolding is_under_semicolon
other-seat k i h =
    seat-cases (λ s. is_under_semicolon s ≡ false) k i (λ e. refl) (λ e. absurd (true≢false (sym e ∙ h))) (λ e. refl) refl

-- A first child does not stand right of its `?`, and only a `?` has a child that does.
pub left-seat : (k : Token) → is_right_of_question (seat_under k 0) ≡ false
unfolding is_right_of_question
left-seat k =
    seat-cases (λ s. is_right_of_question s ≡ false) k 0 (λ e. refl) (λ e. refl)
    (λ e. absurd (false≢true (sym (and-false (eqb k.op Operator.conditional)) ∙ e))) refl

pub right-seat : (k : Token) → is_right_of_question (seat_under k 1) ≡ true → eqb k.op Operator.conditional ≡ true
unfolding is_right_of_question
right-seat k =
    seat-cases (λ s. is_right_of_question s ≡ true → eqb k.op Operator.conditional ≡ true) k 1 (λ e h. absurd (false≢true h))
    (λ e h. absurd (false≢true h)) (λ e h. ((and-eq-true_iff (eqb k.op Operator.conditional) (eqb 1 1)).0 e).0)
    (λ h. absurd (false≢true h))

no-statements : (k : Token) (i : ℕ) (cs : Forest) → eqb k.op Operator.semicolon ≡ false → semicolon_form (seat_under k i) cs ≡ false
unfolding semicolon_form
no-statements k i cs h =
    seat-cases (λ s. semicolon_form s cs ≡ false) k i (λ e. refl) (λ e. absurd (true≢false (sym e ∙ h))) (λ e. refl) refl

-- ---- Forms

form-other : (p : Seat) (k : Token) (cs : Forest) → eqb k.op Operator.semicolon ≡ false → plain_form p k cs ≡ true
    → expression_form p k cs ≡ true
form-other p k cs e h = unfold plain_form in rw (e, plain_form) at h

form-semicolon : (p : Seat) (k : Token) (cs : Forest) → eqb k.op Operator.semicolon ≡ true → plain_form p k cs ≡ true
    → semicolon_form p cs ≡ true
form-semicolon p k cs e h = unfold plain_form in rw (e, plain_form) at h

pub other-form : (p : Seat) (k : Token) (cs : Forest) → eqb k.op Operator.semicolon ≡ false → expression_form p k cs ≡ true
    → plain_form p k cs ≡ true
other-form p k cs e h = unfold plain_form in rw (e, plain_form) h

pub semicolon-form : (p : Seat) (k : Token) (cs : Forest) → eqb k.op Operator.semicolon ≡ true → semicolon_form p cs ≡ true
    → plain_form p k cs ≡ true
semicolon-form p k cs e h = unfold plain_form in rw (e, plain_form) h

-- An expression, or what a statement holds: the root is no semicolon and has a plain form, and every node below it is plain.
pub record PlainExpression (p : Seat) (n : ℕ) (k : Token) (cs : Forest) : Type 0 where
  pub other : eqb k.op Operator.semicolon ≡ false
  pub form : expression_form p k cs ≡ true
  pub below : unplain (some k) 0 n cs ≡ none

-- Its children are such expressions too.
pub inner : (k : Token) (i n : ℕ) (x : Token) (xs rest : Forest) → eqb k.op Operator.semicolon ≡ false
    → unplain (some k) i n (node x xs rest) ≡ none
    → PlainExpression (seat_under k i) (suc n) x xs × (unplain (some k) (suc i) (suc n + size xs) rest ≡ none)
unfolding seat_of
inner k i n x xs rest o u =
    let a = plain-parts (some k) i n x xs rest u in
    let other = either (eqb x.op Operator.semicolon)
    (λ e. absurd (true≢false (sym (form-semicolon (seat_under k i) x xs e a.here) ∙ no-statements k i xs o))) (λ e. e) in
    (record { other = other; form = form-other (seat_under k i) x xs other a.here; below = a.below }, a.after)

-- Such an expression before trees that are plain.
pub outer : (k : Token) (i n : ℕ) (x : Token) (xs rest : Forest) → PlainExpression (seat_under k i) (suc n) x xs
    → unplain (some k) (suc i) (suc n + size xs) rest ≡ none
    → unplain (some k) i n (node x xs rest) ≡ none
unfolding seat_of
outer k i n x xs rest e later =
    plain-whole (some k) i n x xs rest
    (record { here = other-form (seat_under k i) x xs e.other e.form; below = e.below; after = later })

-- Statements, each of which is a semicolon over one expression.
pub data PlainStatements : Forest → Type 0 where
  ended : PlainStatements nil
  statement : (s : Token) (n : ℕ) (x : Token) {xs rest : Forest} → s.op ≡ Operator.semicolon → PlainExpression under_semicolon n x xs
      → PlainStatements rest
      → PlainStatements (node s (node x xs nil) rest)

statements-of : (k : Token) (i n : ℕ) (cs : Forest) → eqb k.op Operator.semicolon ≡ true → all_semicolons cs ≡ true
    → unplain (some k) i n cs ≡ none
    → PlainStatements cs
unfolding all_semicolons seat_of
statements-of k i n nil h all u = ended
statements-of k i n (node s nil rest) h all u =
    let a = plain-parts (some k) i n s nil rest u in
    let semi = both (eqb s.op Operator.semicolon) (all_semicolons rest) all in
    let form = form-semicolon under_semicolon s nil semi.0 (rw (semicolon-seat k i h) at a.here) in
    absurd (false≢true (unfold semicolon_form in form))
statements-of k i n (node s (node x xs nil) rest) h all u =
    let a = plain-parts (some k) i n s (node x xs nil) rest u in
    let semi = both (eqb s.op Operator.semicolon) (all_semicolons rest) all in
    let form = form-semicolon under_semicolon s (node x xs nil) semi.0 (rw (semicolon-seat k i h) at a.here) in
    let other = not-true (eqb x.op Operator.semicolon) (unfold semicolon_form in form) in
    let b = plain-parts (some s) 0 (suc n) x xs nil a.below in
    statement s (suc (suc n)) x (eqb-true s.op Operator.semicolon semi.0)
    (record {
      other = other;
      form = form-other under_semicolon x xs other (rw (semicolon-seat s 0 semi.0) at b.here);
      below = b.below;
    })
    (statements-of k (suc i) (suc n + size (node x xs nil)) rest h semi.1 a.after)
statements-of k i n (node s (node x xs (node y ys r)) rest) h all u =
    let a = plain-parts (some k) i n s (node x xs (node y ys r)) rest u in
    let semi = both (eqb s.op Operator.semicolon) (all_semicolons rest) all in
    let form = form-semicolon under_semicolon s (node x xs (node y ys r)) semi.0 (rw (semicolon-seat k i h) at a.here) in
    absurd (false≢true (unfold semicolon_form in form))

-- A PLAIN TREE is an expression, or a script of one statement or more.
pub data PlainTree (k : Token) : Forest → Type 0 where
  expression : {cs : Forest} → PlainExpression at_root 1 k cs → PlainTree k cs
  script : {x : Token} {xs rest : Forest} → eqb k.op Operator.semicolon ≡ true → PlainStatements (node x xs rest)
      → PlainTree k (node x xs rest)

pub plain-tree : (k : Token) (cs : Forest) → unplain_at k cs ≡ none → PlainTree k cs
unfolding unplain_at seat_of
plain-tree k cs h =
    let a = plain-parts none 0 0 k cs nil h in
    either (eqb k.op Operator.semicolon)
    (λ e. statements cs e (form-semicolon at_root k cs e a.here) a.below)
    (λ e. expression (record { other = e; form = form-other at_root k cs e a.here; below = a.below }))
  where
    statements : (cs : Forest) → eqb k.op Operator.semicolon ≡ true → semicolon_form at_root cs ≡ true → unplain (some k) 0 1 cs ≡ none
        → PlainTree k cs
    statements nil e f u = absurd (false≢true (unfold semicolon_form in f))
    statements (node x xs rest) e f u = script e (statements-of k 0 1 (node x xs rest) e (unfold semicolon_form in f) u)

-- Each of them is plain.
statements-plain : (k : Token) → eqb k.op Operator.semicolon ≡ true → (i n : ℕ) (cs : Forest) → PlainStatements cs
    → (all_semicolons cs ≡ true) × (unplain (some k) i n cs ≡ none)
unfolding all_semicolons semicolon_form seat_of
statements-plain k h i n nil ended = (refl, no-trees (some k) i n)
statements-plain k h i n (node s nil rest) x3 = elim x3 [ ]
statements-plain k h i n (node s (node x xs (node _ _ _)) rest) x10 = elim x10 [ ]
statements-plain k h i n (node s (node x xs nil) rest) (statement _ m _ e held later) =
    let semi : eqb s.op Operator.semicolon ≡ true = eq-eqb s.op Operator.semicolon e in
    let after = statements-plain k h (suc i) (suc n + size (node x xs nil)) rest later in
    let form : semicolon_form under_semicolon (node x xs nil) ≡ true = rw held.other refl in (
      and-true-true (eqb s.op Operator.semicolon) (all_semicolons rest) semi after.0,
      plain-whole (some k) i n s (node x xs nil) rest
          (record {
            here = rw (semicolon-seat k i h) (semicolon-form under_semicolon s (node x xs nil) semi form);
            below = outer s 0 (suc n) x xs nil
                (record {
                  other = held.other;
                  form = rw (semicolon-seat s 0 semi) held.form;
                  below = renumbered (some x) 0 m (suc (suc n)) xs held.below;
                })
                (no-trees (some s) 1 _);
            after = after.1;
          }),
    )

pub tree_plain : (k : Token) (cs : Forest) → PlainTree k cs → unplain_at k cs ≡ none
unfolding unplain_at seat_of
tree_plain k cs (expression e) =
    plain-whole none 0 0 k cs nil
    (record { here = other-form at_root k cs e.other e.form; below = e.below; after = no-trees none 1 _ })
tree_plain k (node x xs rest) (script h s) =
    let all = statements-plain k h 0 1 (node x xs rest) s in
    plain-whole none 0 0 k (node x xs rest) nil
    (record {
      here = semicolon-form at_root k (node x xs rest) h (unfold semicolon_form in all.0);
      below = all.1;
      after = no-trees none 1 _;
    })
