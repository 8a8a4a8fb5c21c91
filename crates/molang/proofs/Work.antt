-- Laws of what is left of a pass: at its beginning it is the whole pass (`pass-begins`), a list has the same nodes in reading order
-- (`reading-size`), and a failure goes through every list that waits (`unwound-fail`).
use mathlib.Core.{Path.{◌≡◌, refl, ap, sym, ◌∙◌}, Bool.{Bool, false}, List.{List, [], ◌∷◌}, Option.{none, some}}
use Rattle.molang.specs.{Forest.{Token, Forest, nil, node, turned_onto, in_order, count, size}, Message.{Message, Result, ok, fail}}
use Rattle.molang.specs.{Level.{through}, Calls.{query_or_loop, math}, Order.{apply}}
use Rattle.molang.specs.Unary.{Unary, done, undone, unary_leaf, unary, unary_pass, unary_node, turned}
use Rattle.molang.specs.Work.{Kind, calls, statements, arrays, unary_minus_and_not, conditional, returns, binary, right, before}
use Rattle.molang.specs.Work.{from_right, work, begins, in_reading, pass_of, pass, and_then, Held, held, unwound}
use Rattle.molang.proofs.Forests.{reversed-size, reversed-count}

-- ---- the whole pass is what is left at its beginning

-- What the unary pass makes of the items left of some that are done.
unfoldable pub left_of : Forest → Unary → Result
left_of left (undone m) = fail m
left_of left (done pair r) = from_right (right pair r) left

to_result : Unary → Result
to_result (undone m) = fail m
to_result (done pair r) = ok r

done-left : (u : Unary) → to_result u ≡ left_of nil u
unfolding to_result left_of from_right
done-left (undone m) = refl
done-left (done p r) = refl

unary-node : (left : Forest) (k : Token) (cs f : Forest)
    → left_of left (unary (before left) (node k cs f)) ≡ left_of (node k cs left) (unary (some k) f)
unfolding left_of from_right unary
unary-node left k cs f = go (unary (some k) f) refl (unary none cs) refl
  where
    last : (v : Unary) → left_of left v ≡ elim v [ undone m ↦ fail m | done p s ↦ from_right (right p s) left ]
    last (undone m) = refl
    last (done p s) = refl

    go : (u : Unary) → unary (some k) f ≡ u → (v : Unary) → unary none cs ≡ v
        → left_of left (elim u [
          | undone m ↦ undone m
          | done pair r ↦ elim v [ undone m ↦ undone m | done inner kids ↦ unary_node (before left) (turned pair k) cs kids r ]
        ]) ≡ left_of (node k cs left) u
    go (undone m) e v d = refl
    go (done pair r) e (undone m) d = rw (d, left_of, from_right) refl
    go (done pair r) e (done inner kids) d = rw (d, left_of, from_right) (last (unary_node (before left) (turned pair k) cs kids r))

-- The unary pass over the items of `left`, the last first, before those of f.
unary-left : (left f : Forest) → to_result (unary none (turned_onto left f)) ≡ left_of left (unary (before left) f)
unfolding turned_onto before
unary-left nil f = done-left (unary none f)
unary-left (node k cs left) f = unary-left left (node k cs f) ∙ unary-node left k cs f

pub turned-back : (a b : Forest) → in_order (turned_onto a b) ≡ turned_onto b a
unfolding turned_onto in_order
turned-back nil b = refl
turned-back (node k cs a) b = turned-back a (node k cs b)

as-result : (u : Unary) → elim u [ undone m ↦ fail m | done pair r ↦ ok r ] ≡ to_result u
unfolding to_result
as-result (undone m) = refl
as-result (done p r) = refl

unary-begins : (f : Forest) → unary_pass f ≡ from_right (right false nil) (in_order f)
unfolding unary_pass in_order turned_onto left_of unary
unary-begins f =
    as-result (unary none f) ∙ ap (λ (g : Forest). to_result (unary none g)) (sym (turned-back f nil)) ∙ unary-left (in_order f) nil

-- The whole pass, as what is left of it at its beginning.
pub pass-begins : (κ : Kind) (f : Forest) → pass κ f ≡ work κ (begins κ f) (in_reading κ f)
unfolding pass pass_of apply work begins in_reading through
pass-begins (calls query_or_loop) f = refl
pass-begins (calls math) f = refl
pass-begins statements f = refl
pass-begins arrays f = refl
pass-begins unary_minus_and_not f = unary-begins f
pass-begins conditional f = refl
pass-begins returns f = refl
pass-begins (binary ops) f = refl

-- ---- one item of the unary pass

-- What is left after a step that gave u.
after-step : (left : Forest) (u : Unary) → elim u [ undone m ↦ fail m | done p s ↦ from_right (right p s) left ] ≡ left_of left u
unfolding left_of
after-step left (undone m) = refl
after-step left (done p s) = refl

pub at_leaf : (pair : Bool) (k : Token) (d left : Forest)
    → from_right (right pair d) (node k nil left) ≡ left_of left (unary_leaf (before left) (turned pair k) d)
at_leaf pair k d left = unfold from_right unary unary_node in after-step left (unary_leaf (before left) (turned pair k) d)

-- The children come first.
pub at-node : (pair : Bool) (k c : Token) (cs r d left : Forest)
    → from_right (right pair d) (node k (node c cs r) left)
    ≡ and_then (unary_pass (node c cs r)) (λ kids. from_right (right false (node (turned pair k) kids d)) left)
unfolding from_right unary_node unary_pass and_then
at-node pair k c cs r d left = into (unary none (node c cs r))
  where
    into : (u : Unary)
        → elim u [ undone m ↦ fail m | done inner kids ↦ from_right (right false (node (turned pair k) kids d)) left ]
        ≡ and_then (elim u [ undone m ↦ fail m | done p s ↦ ok s ]) (λ kids. from_right (right false (node (turned pair k) kids d)) left)
    into (undone m) = refl
    into (done p s) = refl

-- ---- sizes in reading order

pub reading-size : (κ : Kind) (f : Forest) → size (in_reading κ f) ≡ size f
unfolding in_reading
reading-size (calls kind) f = refl
reading-size statements f = refl
reading-size arrays f = refl
reading-size unary_minus_and_not f = reversed-size f
reading-size conditional f = refl
reading-size returns f = refl
reading-size (binary ops) f = refl

pub reading-count : (κ : Kind) (f : Forest) → count (in_reading κ f) ≡ count f
unfolding in_reading
reading-count (calls kind) f = refl
reading-count statements f = refl
reading-count arrays f = refl
reading-count unary_minus_and_not f = reversed-count f
reading-count conditional f = refl
reading-count returns f = refl
reading-count (binary ops) f = refl

-- ---- failures

pub unwound-fail : (κ : Kind) (S : List (Held κ)) (ms : List Message) → unwound κ S (fail ms) ≡ fail ms
unfolding unwound and_then
unwound-fail κ [] ms = refl
unwound-fail κ (held s k f ∷ S) ms = unwound-fail κ S ms
