-- What the limit is for: while the section pass walks over a list that is read, it has never more sections open than the limit. Joining
-- member accessors before it takes no bracket from the list.
use Prim.Native.Nat.{ℕ, suc, ◌≤◌}
use mathlib.Core.{Path.{◌≡◌, refl, sym, ap, subst, ◌∙◌}, Bool.{true}, List.{List, [], ◌∷◌, ◌++◌, append_assoc}, Option.{Option, none}}
use native.Mathlib.Omega.{arith}
use lib.Dec.{eqb, leb}
use borrow.Author.Tests.{eqb-true, leb-true}
use Rattle.molang.specs.Operator.{query_function, context_variable, entity_variable, temp_variable, member_accessor, any, is_one_of}
use Rattle.molang.specs.{Operator.{has_members, closing_of, is_closer}, Forest.{Token, Forest, nil, node, leaves, turned_onto, in_order}}
use Rattle.molang.specs.Message.{Message, leading_member_accessor, Result, ok, fail}
use Rattle.molang.specs.{Sections.{with_member, members, Open, outside, position, going, bracket}, Words.{tokens_of}}
use Rattle.molang.specs.{Nesting.{open_after, first_above, too_deep}, Parse.{Call, refusal}}
use Rattle.molang.proofs.{Trees.{decided}, Booleans.{either as test, false-true}, Sections.{after_member}}
use Rattle.molang.proofs.{FirstFailure.{first-none, passed}, OpenCount.{depth_of, bracket-depth}, Accepted.{call-accepted}}

-- ---- What is within the limit

-- After none of these tokens more than `limit` are open, so many being open before them.
abbrev Keeps : ℕ → ℕ → List Token → Type 0
Keeps limit depth [] = Unit {0}
Keeps limit depth (k ∷ ks) = (open_after depth k.op ≤ limit) × Keeps limit (open_after depth k.op) ks

none_above : (limit i depth : ℕ) (ks : List Token) → first_above limit i depth ks ≡ none → Keeps limit depth ks
unfolding first_above
none_above limit i depth [] e = tt
none_above limit i depth (k ∷ ks) e =
    let after = open_after depth k.op in
    let here = passed (leb after limit) i _ e in
    (leb-true after limit here.0, none_above limit (suc i) after ks (first-none _ _ here.1).0)

-- A token that changes no count can be left out.
left_out : (limit depth : ℕ) (ks : List Token) (x : Token) (ls : List Token) → ((d : ℕ) → open_after d x.op ≡ d)
    → Keeps limit depth (ks ++ (x ∷ ls)) → Keeps limit depth (ks ++ ls)
left_out limit depth [] x ls same h = subst (λ (d : ℕ). Keeps limit d ls) (same depth) h.1
left_out limit depth (k ∷ ks) x ls same h = (h.0, left_out limit (open_after depth k.op) ks x ls same h.1)

-- ---- The roots of a list

-- The labels of the roots, in order.
abbrev roots_of : Forest → List Token
roots_of nil = []
roots_of (node k cs rest) = k ∷ roots_of rest

roots-leaves : (ks : List Token) → roots_of (leaves ks) ≡ ks
unfolding leaves
roots-leaves [] = refl
roots-leaves (k ∷ ks) = ap (λ (l : List Token). k ∷ l) (roots-leaves ks)

roots-turned : (d f : Forest) → roots_of (turned_onto d f) ≡ roots_of (turned_onto d nil) ++ roots_of f
unfolding turned_onto
roots-turned nil f = refl
roots-turned (node k cs d) f =
    roots-turned d (node k cs f)
    ∙ (sym (append_assoc (roots_of (turned_onto d nil)) (k ∷ []) (roots_of f))
    ∙ ap (λ (l : List Token). l ++ roots_of f) (sym (roots-turned d (node k cs nil))))

-- What can have members is no bracket.
abbrev AllKeep : ℕ → List ℕ → Type 0
AllKeep d [] = Unit {0}
AllKeep d (o ∷ os) = (open_after d o ≡ d) × AllKeep d os

one-keeps : (d : ℕ) (os : List ℕ) → AllKeep d os → (n : ℕ) → is_one_of os n ≡ true → open_after d n ≡ d
unfolding is_one_of any
one-keeps d [] a n h = false-true h
one-keeps d (o ∷ os) a n h =
    let later : is_one_of os n ≡ true → open_after d n ≡ d = one-keeps d os a.1 n in
    test (eqb n o) (λ e. rw (eqb-true n o e) a.0) (λ e. later (rw e at h))

no-bracket : (n : ℕ) → has_members n ≡ true → (d : ℕ) → open_after d n ≡ d
unfolding open_after closing_of is_closer has_members is_one_of any
no-bracket n h d =
    one-keeps d (query_function ∷ context_variable ∷ entity_variable ∷ temp_variable ∷ member_accessor ∷ [])
    (refl, (refl, (refl, (refl, (refl, tt))))) n h

module _ (limit : ℕ) (g : Forest) where
  abbrev Makes : Result → Type 0
  Makes r = r ≡ ok g → Keeps limit 0 (roots_of g)

  -- d holds the trees so far, the last first.
  members-keep : (d f : Forest) → Keeps limit 0 (roots_of (turned_onto d f)) → Makes (members d f)
  unfolding members with_member after_member turned_onto in_order
  members-keep d nil h = λ e. let same : turned_onto d nil ≡ g = cc in subst (λ (f : Forest). Keeps limit 0 (roots_of f)) same h
  members-keep nil (node k cs rest) h =
      decided Makes (eqb k.op member_accessor) _ _ (λ e m. never m) (λ e. members-keep (node k cs nil) rest h)
    where
      never : {ms : List Message} → fail ms ≡ ok g → Keeps limit 0 (roots_of g)
      never m = let z : ◌≡◌ {A = ℕ} 0 1 = cc in absurd (omega arith)
  members-keep (node x xs d) (node k cs rest) h =
      let before = roots_of (turned_onto d nil) in
      let both : Keeps limit 0 (before ++ (x ∷ k ∷ roots_of rest)) = rw (roots-turned d (node x xs (node k cs rest))) at h in
      decided Makes (eqb k.op member_accessor) _ _
      (λ e. decided (λ (o : Option Forest). Makes (after_member (leading_member_accessor k ∷ []) rest o)) (has_members x.op) _ _
      (λ has. members-keep (node k (node x xs nil) d) rest
      (rw (roots-turned d (node k (node x xs nil) rest)) (left_out limit 0 before x (k ∷ roots_of rest) (no-bracket x.op has) both)))
      (λ has. members-keep (node k nil (node x xs d)) rest (rw (roots-turned d (node x xs (node k nil rest))) both)))
      (λ e. members-keep (node k cs (node x xs d)) rest h)

-- ---- The walk

-- The states that the walk comes to from a state over these trees: that one, and after each tree for as long as the walk goes on.
pub data ComesTo : ℕ → Open → Forest → Open → Type 0 where
  here : {i : ℕ} {s : Open} {f : Forest} → ComesTo i s f s
  on : {i : ℕ} {s t u : Open} {k : Token} {cs rest : Forest} → bracket k cs (position i s) s ≡ going t → ComesTo (position i s) t rest u
      → ComesTo i s (node k cs rest) u

comes-within : {limit i : ℕ} {s u : Open} {f : Forest} → ComesTo i s f u → depth_of s ≤ limit → Keeps limit (depth_of s) (roots_of f)
    → depth_of u ≤ limit
comes-within here h k = h
comes-within {limit} (on {i = i} {s = s} {t = t} {k = k} {cs = cs} {rest = rest} e r) h w =
    let same = bracket-depth k cs (position i s) s t e in
    comes-within r (omega arith) (rw same w.1)

-- What the section pass is given of a list of tokens: the list, or what the member accessors made of it.
pub data Given (ks : List Token) : Forest → Type 0 where
  itself : Given ks (leaves ks)
  joined : {f : Forest} → members nil (leaves ks) ≡ ok f → Given ks f

given-keeps : (limit : ℕ) (ks : List Token) {f : Forest} → too_deep limit ks ≡ none → Given ks f → Keeps limit 0 (roots_of f)
unfolding too_deep turned_onto
given-keeps limit ks e itself = rw (roots-leaves ks) (none_above limit 0 0 ks e)
given-keeps limit ks e (joined {f = f} m) = members-keep limit f nil (leaves ks) (rw (roots-leaves ks) (none_above limit 0 0 ks e)) m

-- AT EVERY TOKEN OF A LIST THAT IS READ THE WALK HAS AT MOST `limit` SECTIONS OPEN.
pub open-in-limit : (c : Call) → refusal c ≡ none → {f : Forest} → Given (tokens_of c.list) f → {s : Open} → ComesTo 0 (outside nil) f s
    → depth_of s ≤ c.limit
unfolding depth_of
open-in-limit c accepted given comes =
    comes-within comes (omega arith) (given-keeps c.limit (tokens_of c.list) (call-accepted c accepted).nesting given)
