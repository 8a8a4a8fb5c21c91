-- The loop `settle`, seen through the two lists.
use Prim.Native.Nat.{ℕ, zero, suc, ◌+◌, ◌-◌, ◌/◌, ◌%◌, ◌≤◌, ◌<◌}
use mathlib.Core.{Path.{◌≡◌, refl, ap, sym, subst, ◌∙◌}, Bool.{Bool, true, false}, List.{List, [], ◌∷◌}}
use native.Mathlib.Omega.{arith}
use lib.{ListN.{length, drop, length-drop}, Dec.{leb}}
use borrow.Author.Tests.{le-leb, lt-leb}
use Rattle.scan.specs.declared.stack.State.{State}
use Rattle.scan.specs.Views.{View, top_word, tail_of, popped, laid, taken, Lists, settled_lists, settled, Based, bottom, above}
use Rattle.scan.specs.States.{stack_of, view_of, Sound, HasRoom, HasTwo, free_of, Becomes, Grounded, here, there}

-- ---- lists

-- Where the top is no less than a number and a word is below it, two words wait, and one is below it among the others.
no-ground : (from : ℕ) → Grounded from [] → ⊥
no-ground from = elim [ ]

deeper : (from : ℕ) (S : List ℕ) → Grounded from S → from ≤ top_word S → Grounded from (tail_of S)
unfolding top_word tail_of
deeper from [] x'' t = elim x'' [ ]
deeper from (w ∷ S) (here l) t = absurd (omega (arith, l, t))
deeper from (w ∷ S) (there g) t = g

pub two-wait : (from : ℕ) (W : List ℕ) (d : ℕ) → Grounded from (stack_of W d) → from ≤ top_word (stack_of W d) → 2 ≤ d
unfolding stack_of tail_of
two-wait from W zero g t = absurd (no-ground from g)
two-wait from W (suc zero) g t = absurd (no-ground from (deeper from (stack_of W 1) g t))
two-wait from W (suc (suc d)) g t = omega arith

-- One turn: what is left to settle is the same.
settle-lists : (from : ℕ) (S R : List ℕ) → Grounded from S → from ≤ top_word S
    → settled_lists from (tail_of S) (top_word S % 67108864 ∷ R) ≡ settled_lists from S R
unfolding top_word tail_of settled_lists
settle-lists from [] R g t = absurd (no-ground from g)
settle-lists from (w ∷ S) R g t = rw (le-leb from w t, settled_lists) refl

-- None is left.
settled-lists : (from : ℕ) (S R : List ℕ) → top_word S < from → settled_lists from S R ≡ record { stack = S; records = R }
unfolding top_word settled_lists
settled-lists from [] R t = refl
settled-lists from (w ∷ S) R t = rw (lt-leb from w t, settled_lists) refl

-- ---- a state is what its lists are: how deep the stack is, and where the records begin

pub stack-long : (W : List ℕ) (d : ℕ) → length (stack_of W d) ≡ d
unfolding stack_of
stack-long W zero = refl
stack-long W (suc d) = ap suc (stack-long W d)

pub tail-long : (S : List ℕ) → length (tail_of S) ≡ length S - 1
unfolding tail_of
tail-long [] = refl
tail-long (w ∷ S) = omega arith

pub depth-of : {W W' : List ℕ} {r : State} {v : View} → Becomes W W' r v → r.depth ≡ length v.stack
unfolding view_of
depth-of {W'} {r} b = sym (stack-long W' r.depth) ∙ ap (λ (u : View). length u.stack) b.same

pub out_of : {W W' : List ℕ} {r : State} {v : View} → Becomes W W' r v → r.out + length v.records ≡ length W
unfolding view_of
out_of {W'} {r} b =
    let n = sym (length-drop r.out W') ∙ ap (λ (u : View). length u.records) b.same in
    let l = b.sound.within in
    let e = b.long in
    omega (arith, n, l, e)

-- ---- the loop

pub record Settling (from : ℕ) (W₀ : List ℕ) (s₀ : State) (W : List ℕ) (s : State) : Type 0 where
  pub sound : Sound W s
  pub long : length W ≡ length W₀
  pub same : settled from (view_of W s) ≡ settled from (view_of W₀ s₀)
  pub ground : Grounded from (stack_of W s.depth)
  pub free : free_of s ≡ free_of s₀
  pub room : HasRoom s

pub starts : (from : ℕ) (W : List ℕ) (s : State) → Sound W s → HasRoom s → Grounded from (stack_of W s.depth) → Settling from W s W s
starts from W s g room ground = record { sound = g; long = refl; same = refl; ground = ground; free = refl; room = room }

module _ {from : ℕ} {W₀ : List ℕ} {s₀ : State} {W : List ℕ} {s : State} (i : Settling from W₀ s₀ W s) where
  pub ends : s.top < from → Becomes W₀ W s (settled from (view_of W₀ s₀))
  unfolding settled view_of
  ends t =
      let l = settled-lists from (stack_of W s.depth) (drop s.out W) (omega (arith, t, i.sound.top)) in
      record {
        sound = i.sound;
        same =
            sym (ap (λ (l : Lists). record { left = s.left; stack = l.stack; records = l.records }) l) ∙ i.same;
        long = i.long;
      }

  module _ (t : from ≤ s.top) where
    reaches : from ≤ top_word (stack_of W s.depth)
    reaches = omega (arith, t, i.sound.top)

    pub two : HasTwo s
    two = two-wait from W s.depth i.ground reaches

    module _ {W₁ : List ℕ} {s₁ : State} (a : Becomes W W₁ s₁ (taken (view_of W s))) where
      stacks : stack_of W₁ s₁.depth ≡ tail_of (stack_of W s.depth)
      unfolding view_of taken popped laid
      stacks = ap (λ (u : View). u.stack) a.same

      depths : s₁.depth ≡ s.depth - 1
      depths =
          let n = sym (stack-long W₁ s₁.depth) ∙ ap (λ (S : List ℕ). length S) stacks ∙ tail-long (stack_of W s.depth) in
          let m = stack-long W s.depth in
          omega (arith, n, m)

      pub less : s₁.depth < s.depth
      less = let l = two in omega (arith, l, depths)

      pub again : free_of s₁ ≡ free_of s → Settling from W₀ s₀ W₁ s₁
      unfolding settled view_of taken popped laid
      again f =
          let r = i.room in
          let g = i.free in
          record {
            sound = a.sound;
            long = a.long ∙ i.long;
            same =
                ap (settled from) a.same
                ∙ ap (λ (l : Lists). record { left = s.left; stack = l.stack; records = l.records })
                (settle-lists from (stack_of W s.depth) (drop s.out W) i.ground reaches)
                ∙ i.same;
            ground = subst (Grounded from) (sym stacks) (deeper from (stack_of W s.depth) i.ground reaches);
            free = f ∙ g;
            room = omega (arith, r, f);
          }

-- ---- the lowest word

-- It is below every number from which words are settled, and stays.
pub based-ground : (from : ℕ) → 262144 ≤ from → {S : List ℕ} → Based S → Grounded from S
based-ground from l (bottom {w} e) = let k : w < from = omega (arith, e, l) in here k
based-ground from l (above b) = there (based-ground from l b)

pub based-settled : (from : ℕ) → 262144 ≤ from → (S R : List ℕ) → Based S → Based (settled_lists from S R).stack
unfolding settled_lists
based-settled from l [] R x' = elim x' [ ]
based-settled from l (w ∷ []) R (bottom e) = rw (lt-leb from w (omega (arith, e, l)), settled_lists) (bottom e)
based-settled from l (w ∷ S) R (above b) = by (leb from w) refl (based-settled from l S (w % 67108864 ∷ R) b)
  where
    by : (t : Bool) → leb from w ≡ t → Based (settled_lists from S (w % 67108864 ∷ R)).stack → Based (settled_lists from (w ∷ S) R).stack
    by true e h = rw (e, settled_lists) h
    by false e h = rw (e, settled_lists) (above b)

-- If another word is on top, two wait, and it stays when that word waits no more.
pub based-two : {S : List ℕ} → Based S → (top_word S / 32768 ≡ 7 → ⊥) → 2 ≤ length S
unfolding top_word
based-two (above {w = w} {S = []} b) n = elim b [ ]
based-two (bottom e) n = absurd (n e)
based-two (above {S = w ∷ S} b) n = omega arith

pub based-tail : {S : List ℕ} → Based S → (top_word S / 32768 ≡ 7 → ⊥) → Based (tail_of S)
unfolding top_word tail_of
based-tail (bottom e) n = absurd (n e)
based-tail (above b) n = b
