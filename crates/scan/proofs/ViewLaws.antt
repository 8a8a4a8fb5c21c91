-- Stores, seen through the two lists.
use Prim.Native.Nat.{ℕ, zero, suc, ◌+◌, ◌-◌, ◌≤◌, ◌<◌}
use mathlib.Core.{Path.{◌≡◌, refl, ap, ap₂, sym, ◌∙◌}, List.{List, [], ◌∷◌}}
use native.Mathlib.{Omega.{arith}, Nat.{not-suc-le-zero, le_of_suc-le-suc}}
use lib.{ListN.{length, get_or, set, drop, length-set}, Seq.{get_or-set_same, get_or-set_other}}
use Rattle.scan.specs.{declared.stack.State.{State}, Views.{top_word, tail_of, pushed, popped, laid}}
use Rattle.scan.specs.States.{stack_of, view_of, Sound, HasRoom, HasTwo, Becomes}

-- A store above the stack leaves it.
pub stack-kept : (W : List ℕ) (d i a : ℕ) → d ≤ i → stack_of (set W i a) d ≡ stack_of W d
unfolding stack_of
stack-kept W zero i a l = refl
stack-kept W (suc d) i a l = ap₂ (λ (w : ℕ) (S : List ℕ). w ∷ S) (get_or-set_other W i d a 0 (λ e. omega (arith, l, e)))
    (stack-kept W d i a (omega (arith, l)))

-- One right above it is a word more.
pub stack-more : (W : List ℕ) (d a : ℕ) → d < length W → stack_of (set W d a) (d + 1) ≡ a ∷ stack_of W d
unfolding stack_of
stack-more W d a l =
    let next : d + 1 ≡ suc d = omega arith in
    ap (stack_of (set W d a)) next ∙ ap₂ (λ (w : ℕ) (S : List ℕ). w ∷ S) (get_or-set_same W d a 0 l) (stack-kept W d d a (omega arith))

-- One below the records leaves them.
pub records-kept : (W : List ℕ) (out i a : ℕ) → i < out → drop out (set W i a) ≡ drop out W
records-kept [] out i a l = refl
records-kept (x ∷ W) zero i a l = absurd (not-suc-le-zero l)
records-kept (x ∷ W) (suc out) zero a l = refl
records-kept (x ∷ W) (suc out) (suc i) a l = records-kept W out i a (le_of_suc-le-suc l)

-- One right below them is a record more.
pub record-more : (W : List ℕ) (i a : ℕ) → i < length W → drop i (set W i a) ≡ a ∷ drop (suc i) W
record-more [] i a l = absurd (not-suc-le-zero l)
record-more (x ∷ W) zero a l = refl
record-more (x ∷ W) (suc i) a l = record-more W i a (le_of_suc-le-suc l)

-- ---- the three functions

pub at_push : (W : List ℕ) (s : State) (w : ℕ) → Sound W s → HasRoom s
    → Becomes W (set W s.depth w) (record { left = s.left; depth = s.depth + 1; top = w; out = s.out })
    (pushed w (view_of W s))
unfolding view_of pushed
at_push W s w g room =
    let l = g.within in
    let more = stack-more W s.depth w (omega (arith, l, room)) in
    record {
      sound = record {
        apart = omega (arith, room);
        within = omega (arith, l, length-set W s.depth w);
        top = sym
            (unfold top_word in ap top_word more);
      };
      same =
          ap₂ (λ (S : List ℕ) (R : List ℕ). record { left = s.left; stack = S; records = R })
          more (records-kept W s.out s.depth w room);
      long = length-set W s.depth w;
    }

-- One word less of the stack.
fewer : (W : List ℕ) (d : ℕ) → 2 ≤ d → (stack_of W (d - 1) ≡ tail_of (stack_of W d)) × (get_or W (d - 1 - 1) 0 ≡ top_word (stack_of W (d - 1)))
unfolding stack_of top_word tail_of
fewer W d l =
    let one : d ≡ suc (d - 1) = omega (arith, l) in
    let two : d - 1 ≡ suc (d - 1 - 1) = omega (arith, l) in
    (sym (ap (λ (n : ℕ). tail_of (stack_of W n)) one), sym (ap (λ (n : ℕ). top_word (stack_of W n)) two))

pub at-pop : (W : List ℕ) (s : State) → Sound W s → HasTwo s
    → Becomes W W (record { left = s.left; depth = s.depth - 1; top = get_or W (s.depth - 1 - 1) 0; out = s.out })
    (popped (view_of W s))
unfolding view_of popped
at-pop W s g two =
    let a = g.apart in
    let f = fewer W s.depth two in
    record {
      sound = record { apart = omega (arith, a); within = g.within; top = f.1 };
      same = ap (λ (S : List ℕ). record { left = s.left; stack = S; records = drop s.out W }) f.0;
      long = refl;
    }

pub at-lay : (W : List ℕ) (s : State) (w : ℕ) → Sound W s → HasRoom s
    → Becomes W (set W (s.out - 1) w) (record { left = s.left; depth = s.depth; top = s.top; out = s.out - 1 })
    (laid w (view_of W s))
unfolding view_of laid
at-lay W s w g room =
    let l = g.within in
    let kept = stack-kept W s.depth (s.out - 1) w (omega (arith, room)) in
    let back : suc (s.out - 1) ≡ s.out = omega (arith, room) in
    record {
      sound = record {
        apart = omega (arith, room);
        within = omega (arith, l, length-set W (s.out - 1) w);
        top = g.top ∙ ap top_word (sym kept);
      };
      same =
          ap₂ (λ (S : List ℕ) (R : List ℕ). record { left = s.left; stack = S; records = R }) kept
          (record-more W (s.out - 1) w (omega (arith, l, room)) ∙ ap (λ (n : ℕ). w ∷ drop n W) back);
      long = length-set W (s.out - 1) w;
    }
