-- NO FRAMES. Document 01: "The definition is written without class masks and without the frame stack; both are proved to change nothing."
-- A reader with a frame stack has one list under work. To go through an item's children it puts that list on the stack, in a frame, and
-- takes it from there again when the children are done (`Run`). The definition's pass recurses into the children instead. `no_frames` says
-- that such a run comes to what the definition's pass gives, and to nothing else.
use Prim.Native.Nat.{ℕ, zero, suc, ◌≤◌}
use mathlib.Core.{Path.{◌≡◌, refl, sym, ap, ◌∙◌, subst}, Bool.{false}, List.{List, [], ◌∷◌}}
use native.Mathlib.{Omega.{arith}, Nat.{le_refl}}
use Rattle.molang.specs.{Forest.{Token, Forest, nil, node, size}, Message.{Message, Result, ok, fail}}
use Rattle.molang.specs.{Level.{Step, stop, on, into, Level, walk}, Calls.{call_level, array_level}, Statements.{statement_level}}
use Rattle.molang.specs.{Unary.{Unary, done, undone, unary_leaf, turned, return_level}, Binary.{binary_level}}
use Rattle.molang.specs.{Conditional.{conditional_level}, Order.{apply}}
use Rattle.molang.specs.Work.{Kind, calls, statements, arrays, unary_minus_and_not, conditional, returns, binary, Right, right, State}
use Rattle.molang.specs.Work.{before, from_right, work, begins, in_reading, takes, pass_of, pass, and_then, Held, held, unwound}
use Rattle.molang.proofs.Walks.{back, onward, walk-onward}
use Rattle.molang.proofs.Work.{pass-begins, left_of, at_leaf, at-node, reading-size, unwound-fail}

-- ---- the run

-- What the unary pass does with a leaf, by what it makes of it.
unfoldable pub unary_on : Unary → Step Right
unary_on (undone m) = stop m
unary_on (done pair r) = on (right pair r)

-- What a pass does with the next item, k over cs, before the items `rest`.
unfoldable pub step : (κ : Kind) → State κ → Token → Forest → Forest → Step (State κ)
step (calls c) s k cs rest = (call_level c).step s k cs
step statements s k cs rest = statement_level.step s k cs
step arrays s k cs rest = array_level.step s k cs
step unary_minus_and_not (right pair r) k nil rest = unary_on (unary_leaf (before rest) (turned pair k) r)
step unary_minus_and_not (right pair r) k (node c cs x) rest = into (right pair r) (right false nil)
step conditional s k cs rest = conditional_level.step s k cs
step returns s k cs rest = return_level.step s k cs
step (binary ops) s k cs rest = (binary_level ops).step s k cs

-- What the pass comes to from the state s, with these items unread, while the lists of S wait in frames. At an item it stops, goes on, or
-- puts the list in a frame and enters the children. At a list's end it fails, takes the list on top of the stack again, or is done.
pub data Run (κ : Kind) : List (Held κ) → State κ → Forest → Result → Type 0 where
  stops : {S : List (Held κ)} {s : State κ} {k : Token} {cs rest : Forest} {m : List Message} → step κ s k cs rest ≡ stop m
      → Run κ S s (node k cs rest) (fail m)
  goes : {S : List (Held κ)} {s t : State κ} {k : Token} {cs rest : Forest} {r : Result} → step κ s k cs rest ≡ on t
      → Run κ S t rest r → Run κ S s (node k cs rest) r
  enters : {S : List (Held κ)} {s t u : State κ} {k : Token} {cs rest : Forest} {r : Result} → step κ s k cs rest ≡ into t u
      → Run κ (held t k rest ∷ S) u (in_reading κ cs) r → Run κ S s (node k cs rest) r
  fails : {S : List (Held κ)} {s : State κ} {m : List Message} → work κ s nil ≡ fail m → Run κ S s nil (fail m)
  resumes : {S : List (Held κ)} {s t : State κ} {k : Token} {kids rest : Forest} {r : Result} → work κ s nil ≡ ok kids
      → Run κ S (takes κ t k kids) rest r → Run κ (held t k rest ∷ S) s nil r
  ends : {s : State κ} {f : Forest} → work κ s nil ≡ ok f → Run κ [] s nil (ok f)

-- ---- what is left of a pass, by its next step

unfoldable pub stepped : (κ : Kind) → Token → Forest → Forest → Step (State κ) → Result
stepped κ k cs rest (stop m) = fail m
stepped κ k cs rest (on t) = work κ t rest
stepped κ k cs rest (into t u) = and_then (work κ u (in_reading κ cs)) (λ kids. work κ (takes κ t k kids) rest)

module _ {S : Type 0} (L : Level S) (k : Token) (cs rest : Forest) where
  back-then : (t : S) (x : Result) → back L t k rest x ≡ and_then x (λ kids. walk L (L.resume t k kids) rest)
  unfolding back and_then
  back-then t (ok kids) = refl
  back-then t (fail m) = refl

  -- A level from the left, by what it does with the next item.
  left_step : (next : Step S → Result) → ((m : List Message) → next (stop m) ≡ fail m) → ((t : S) → next (on t) ≡ walk L t rest)
      → ((t u : S) → next (into t u) ≡ and_then (walk L u cs) (λ kids. walk L (L.resume t k kids) rest))
      → (s : S) → walk L s (node k cs rest) ≡ next (L.step s k cs)
  unfolding onward
  left_step next a b c s = walk-onward L s k cs rest ∙ go (L.step s k cs)
    where
      go : (x : Step S) → onward L k cs rest x ≡ next x
      go (stop m) = sym (a m)
      go (on t) = sym (b t)
      go (into t u) = back-then t (walk L u cs) ∙ sym (c t u)

work_step : (κ : Kind) (s : State κ) (k : Token) (cs rest : Forest) → work κ s (node k cs rest) ≡ stepped κ k cs rest (step κ s k cs rest)
unfolding work step stepped pass pass_of apply begins in_reading takes left_of unary_on
work_step (calls c) s k cs rest = left_step (call_level c) k cs rest (stepped (calls c) k cs rest) (λ m. refl) (λ t. refl) (λ t u. refl) s
work_step statements s k cs rest = left_step statement_level k cs rest (stepped statements k cs rest) (λ m. refl) (λ t. refl) (λ t u. refl) s
work_step arrays s k cs rest = left_step array_level k cs rest (stepped arrays k cs rest) (λ m. refl) (λ t. refl) (λ t u. refl) s
work_step conditional s k cs rest =
    left_step conditional_level k cs rest (stepped conditional k cs rest) (λ m. refl) (λ t. refl) (λ t u. refl) s
work_step returns s k cs rest = left_step return_level k cs rest (stepped returns k cs rest) (λ m. refl) (λ t. refl) (λ t u. refl) s
work_step (binary ops) s k cs rest =
    left_step (binary_level ops) k cs rest (stepped (binary ops) k cs rest) (λ m. refl) (λ t. refl) (λ t u. refl) s
work_step unary_minus_and_not (right pair r) k nil rest = at_leaf pair k r rest ∙ go (unary_leaf (before rest) (turned pair k) r)
  where
    go : (u : Unary) → left_of rest u ≡ stepped unary_minus_and_not k nil rest (unary_on u)
    go (undone m) = refl
    go (done p s) = refl
work_step unary_minus_and_not (right pair r) k (node c cs x) rest =
    at-node pair k c cs x r rest
    ∙ ap (λ (y : Result). and_then y (λ kids. from_right (right false (node (turned pair k) kids r)) rest))
    (pass-begins unary_minus_and_not (node c cs x))

-- ---- a run comes to what is left

run-gives : {κ : Kind} {S : List (Held κ)} {s : State κ} {rest : Forest} {r : Result} → Run κ S s rest r → r ≡ unwound κ S (work κ s rest)
unfolding stepped unwound and_then
run-gives {κ} {S} {s} (stops {k = k} {cs = cs} {rest = rest} {m = m} e) =
    sym (ap (unwound κ S) (work_step κ s k cs rest ∙ ap (stepped κ k cs rest) e) ∙ unwound-fail κ S m)
run-gives {κ} {S} {s} (goes {k = k} {cs = cs} {rest = rest} e h) =
    run-gives h ∙ sym (ap (unwound κ S) (work_step κ s k cs rest ∙ ap (stepped κ k cs rest) e))
run-gives {κ} {S} {s} (enters {k = k} {cs = cs} {rest = rest} e h) =
    run-gives h ∙ sym (ap (unwound κ S) (work_step κ s k cs rest ∙ ap (stepped κ k cs rest) e))
run-gives {κ} {S} (fails {m = m} e) = sym (ap (unwound κ S) e ∙ unwound-fail κ S m)
run-gives {κ} (resumes {S = S} {t = t} {k = k} {rest = rest} e h) =
    run-gives h ∙ sym (ap (λ (x : Result). unwound κ S (and_then x (λ kids. work κ (takes κ t k kids) rest))) e)
run-gives (ends e) = sym e

-- ---- and there is one

-- The rest of a run in which the list on top has come to x.
abbrev After : (κ : Kind) → List (Held κ) → Result → Result → Type 0
After κ S (fail m) r = r ≡ fail m
After κ [] (ok f) r = r ≡ ok f
After κ (held t k rest ∷ S) (ok kids) r = Run κ S (takes κ t k kids) rest r

module _ (κ : Kind) where
  done-so : (S : List (Held κ)) (s : State κ) (x r : Result) → work κ s nil ≡ x → After κ S x r → Run κ S s nil r
  done-so S s (fail m) r e h = subst (Run κ S s nil) (sym h) (fails e)
  done-so [] s (ok f) r e h = subst (Run κ [] s nil) (sym h) (ends e)
  done-so (held t k rest ∷ S) s (ok kids) r e h = resumes e h

  module _ (k : Token) (cs rest : Forest) (S : List (Held κ)) (s : State κ) (x r : Result) (h : After κ S x r)
      (later : (t : State κ) → work κ t rest ≡ x → Run κ S t rest r)
      (below : (t u : State κ) → After κ (held t k rest ∷ S) (work κ u (in_reading κ cs)) r
      → Run κ (held t k rest ∷ S) u (in_reading κ cs) r) where
    -- The children have come to y.
    after-children : (t : State κ) (y : Result) → and_then y (λ kids. work κ (takes κ t k kids) rest) ≡ x → After κ (held t k rest ∷ S) y r
    unfolding and_then
    after-children t (fail m) d = subst (λ (z : Result). After κ S z r) (sym d) h
    after-children t (ok kids) d = later (takes κ t k kids) d

    item-so : (y : Step (State κ)) → step κ s k cs rest ≡ y → stepped κ k cs rest y ≡ x → Run κ S s (node k cs rest) r
    unfolding stepped
    item-so (stop m) q d = subst (Run κ S s (node k cs rest)) (sym (subst (λ (z : Result). After κ S z r) (sym d) h)) (stops q)
    item-so (on t) q d = goes q (later t d)
    item-so (into t u) q d = enters q (below t u (after-children t (work κ u (in_reading κ cs)) d))

  -- n bounds the nodes that are unread.
  runs : (n : ℕ) (rest : Forest) → size rest ≤ n → (S : List (Held κ)) (s : State κ) (x r : Result) → work κ s rest ≡ x → After κ S x r
      → Run κ S s rest r
  unfolding size
  runs zero nil small S s x r e h = done-so S s x r e h
  runs zero (node k cs rest) small S s x r e h = absurd (omega arith)
  runs (suc n) nil small S s x r e h = done-so S s x r e h
  runs (suc n) (node k cs rest) small S s x r e h =
      item-so k cs rest S s x r h (λ t d. runs n rest (omega arith) S t x r d h)
      (λ t u a. runs n (in_reading κ cs) (omega (arith, reading-size κ cs)) (held t k rest ∷ S) u (work κ u (in_reading κ cs)) r refl a)
      (step κ s k cs rest) refl (sym (work_step κ s k cs rest) ∙ e)

-- THE THEOREM: a run with the frame stack, over a list from its beginning, comes to what the definition's pass gives of it, and to nothing
-- else.
pub no_frames : (κ : Kind) (f : Forest)
    → Run κ [] (begins κ f) (in_reading κ f) (pass κ f) × ((r : Result) → Run κ [] (begins κ f) (in_reading κ f) r → r ≡ pass κ f)
unfolding unwound
no_frames κ f = (
  runs κ (size (in_reading κ f)) (in_reading κ f) (le_refl _) [] (begins κ f) (pass κ f) (pass κ f) (sym (pass-begins κ f))
      (whole (pass κ f)),
  λ r h. run-gives h ∙ sym (pass-begins κ f),
)
  where
    whole : (x : Result) → After κ [] x x
    whole (ok g) = refl
    whole (fail m) = refl
