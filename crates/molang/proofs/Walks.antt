-- One induction over the levels from the left. What a level says of its states, of each step and of its end holds of the whole walk: the
-- list that it gives is good, in a sense that may depend on a bound, and a list with something in it is not left empty.
use Prim.Native.Nat.{ℕ}
use mathlib.Core.{Path.{◌≡◌, refl}, Bool.{Bool, true, false, ◌||◌, not, or-true, or-false}, List.{List, ◌++◌}}
use lib.ListN.{length}
use Rattle.molang.specs.{Forest.{Token, Forest, nil, node}, Message.{Message, Result, ok, fail}}
use Rattle.molang.specs.{Level.{Step, stop, on, into, Level, walk, through}, Order.{Pass}}
use Rattle.molang.specs.{Read.{Answer, messages, ends_reading, grouped}, Free.{is_nil}}

-- A pass ends in so many messages, or in a list of which Q holds.
pub data Outcome (count : ℕ) (Q : Forest → Type 0) : Result → Type 0 where
  failed : {m : List Message} → length m ≡ count → Outcome count Q (fail m)
  fine : {g : Forest} → Q g → Outcome count Q (ok g)

-- One message, or a list that is good for n and, where that is said, not empty.
abbrev pub Ends : {I : Type 0} → (I → Forest → Type 0) → I → Bool → Result → Type 0
Ends Good n full = Outcome 1 (λ g. Good n g × (full ≡ true → is_nil g ≡ false))

weaker : {I : Type 0} (Good : I → Forest → Type 0) (n : I) {b c : Bool} {x : Result} → (b ≡ true → c ≡ true) → Ends Good n c x
    → Ends Good n b x
weaker Good n h (failed o) = failed o
weaker Good n h (fine e) = fine (e.0, λ b. e.1 (h b))

-- What a level's next step leaves of the bound n, in terms of what it says of a state and the rest of the list.
pub data Onward {I S : Type 0} (Good : I → Forest → Type 0) (L : Level S) (Fits : S → Forest → I → Type 0) (full : S → Bool)
    (k : Token) (cs rest : Forest) (n : I)
    : Step S → Type 0 where
  stops : {m : List Message} → length m ≡ 1 → Onward Good L Fits full k cs rest n (stop m)
  goes : {t : S} → Fits t rest n → full t ≡ true → Onward Good L Fits full k cs rest n (on t)
  enters : {t u : S} (m : I) → Fits u cs m → is_nil cs ≡ false
      → ((kids : Forest) → Good m kids → is_nil kids ≡ false → Fits (L.resume t k kids) rest n × (full (L.resume t k kids) ≡ true))
      → Onward Good L Fits full k cs rest n (into t u)

-- `Fits s f n`: in the state s, before the list f, the level can only reach what is good for n. `full s`: it will reach something.
pub record Keeps {I S : Type 0} (Good : I → Forest → Type 0) (bound : Forest → I) (L : Level S) : Type 1 where
  pub Fits : S → Forest → I → Type 0
  pub full : S → Bool
  pub begins : (f : Forest) → Fits (L.start f) f (bound f)
  pub steps : (s : S) (k : Token) (cs rest : Forest) (n : I) → Fits s (node k cs rest) n
      → Onward Good L Fits full k cs rest n (L.step s k cs)
  pub ends : (s : S) (n : I) → Fits s nil n → Ends Good n (full s) (L.finish s)

-- `walk` by what the next step and the children's list give.
module _ {S : Type 0} (L : Level S) where
  unfoldable pub back : S → Token → Forest → Result → Result
  back t k rest x = elim x [ fail m ↦ fail m | ok kids ↦ walk L (L.resume t k kids) rest ]

  unfoldable pub onward : Token → Forest → Forest → Step S → Result
  unfolding back
  onward k cs rest x = elim x [ stop m ↦ fail m | on t ↦ walk L t rest | into t u ↦ back t k rest (walk L u cs) ]

  pub walk-onward : (s : S) (k : Token) (cs rest : Forest) → walk L s (node k cs rest) ≡ onward k cs rest (L.step s k cs)
  walk-onward s k cs rest = unfold walk onward back in refl

module _ {I S : Type 0} (Good : I → Forest → Type 0) (bound : Forest → I) (L : Level S) (A : Keeps Good bound L) where
  back-keeps : (t : S) (k : Token) (rest : Forest) (n m : I) {x : Result} → Ends Good m true x
      → ((kids : Forest) → Good m kids → is_nil kids ≡ false → Ends Good n true (walk L (L.resume t k kids) rest))
      → Ends Good n true (back L t k rest x)
  unfolding back
  back-keeps t k rest n m (failed o) next = failed o
  back-keeps t k rest n m (fine {g = kids} e) next = next kids e.0 (e.1 refl)

  onward-keeps : (k : Token) (cs rest : Forest) (n : I) {x : Step S} → Onward Good L A.Fits A.full k cs rest n x
      → ((t : S) → A.Fits t rest n → A.full t ≡ true → Ends Good n true (walk L t rest))
      → ((u : S) (m : I) → A.Fits u cs m → is_nil cs ≡ false → Ends Good m true (walk L u cs))
      → Ends Good n true (onward L k cs rest x)
  unfolding onward
  onward-keeps k cs rest n (stops o) later below = failed o
  onward-keeps k cs rest n (goes {t = t} h e) later below = later t h e
  onward-keeps k cs rest n (enters {t = t} {u = u} m h e next) later below =
      back-keeps t k rest n m (below u m h e) (λ kids w e. let z = next kids w e in later (L.resume t k kids) z.0 z.1)

  pub walk-keeps : (s : S) (f : Forest) (n : I) → A.Fits s f n → (b : Bool) → (b ≡ true → (A.full s || not (is_nil f)) ≡ true)
      → Ends Good n b (walk L s f)
  unfolding walk is_nil
  walk-keeps s nil n h b c = weaker Good n (λ e. rw or-false at (c e)) (A.ends s n h)
  walk-keeps s (node k cs rest) n h b c =
      weaker Good n (λ e. refl) (rw (walk-onward L)
      (onward-keeps k cs rest n (A.steps s k cs rest n h) (λ t h e. walk-keeps t rest n h true (λ z. rw e refl))
      (λ u m h e. walk-keeps u cs m h true (λ z. rw (e, or-true) refl))))

  pub through-keeps : (f : Forest) → Ends Good (bound f) (not (is_nil f)) (through L f)
  through-keeps f = unfold through in walk-keeps (L.start f) f (bound f) (A.begins f) (not (is_nil f)) (λ e. rw (e, or-true) refl)

-- `grouped` after a pass that runs, by what the pass gives.
unfoldable pub after_run : ℕ → (ℕ → Bool) → Pass → List Pass → List Message → Result → Answer
after_run l u p ps so_far x =
    elim x [
      | ok g ↦ grouped l u ps so_far g
      | fail m ↦ elim (ends_reading p) [ true ↦ messages (so_far ++ m) | false ↦ grouped l u ps (so_far ++ m) nil ]
    ]
