-- Members and sections raise no weight of a flat list: one in which only member accessors have children, so that every bracket is a leaf.
use Prim.Native.Nat.{ℕ, ◌+◌, ◌≤◌}
use mathlib.Core.{Path.{◌≡◌, refl}, Bool.{true, false}, List.{List, [], ◌∷◌}, Option.{Option, none, some}}
use native.Mathlib.Omega.{arith}
use lib.{Dec.{eqb}, ListN.{length}}
use borrow.Author.Tests.{eqb-true}
use Rattle.molang.specs.Operator
use Rattle.molang.specs.Operator.{has_members, closing_of, is_closer}
use Rattle.molang.specs.Forest.{Token, Forest, nil, node, closed_by, leaves, turned_onto, in_order}
use Rattle.molang.specs.Message.{Message, Result, fail, closer}
use Rattle.molang.specs.Sections.{with_member, members, Open, outside, section, placed, position, Walked, going, mismatch, closing}
use Rattle.molang.specs.{Sections.{bracket, closed, sections}, Free.{flat}, Weight.{Weighing, weight}}
use Rattle.molang.proofs.{Trees.{decided, either, maybe, both, and-true-true}, Walks.{Outcome, failed, fine}}
use Rattle.molang.proofs.Weight.{weight-tree, weight-in_order}

pub leaves-flat : (ks : List Token) → flat (leaves ks) ≡ true
unfolding flat leaves
leaves-flat [] = refl
leaves-flat (k ∷ ks) = leaves-flat ks

flat-rest : (k : Token) (cs rest : Forest) → flat (node k cs rest) ≡ true → flat rest ≡ true
unfolding flat
flat-rest k nil rest h = h
flat-rest k (node c cs r) rest h = (both (eqb k.op Operator.member_accessor) (flat rest) h).1

flat-turned : (d f : Forest) → flat d ≡ true → flat f ≡ true → flat (turned_onto d f) ≡ true
unfolding flat turned_onto
flat-turned nil f hd hf = hf
flat-turned (node k nil d) f hd hf = flat-turned d (node k nil f) hd hf
flat-turned (node k (node c cs r) d) f hd hf =
    let e = both (eqb k.op Operator.member_accessor) (flat d) hd in
    flat-turned d (node k (node c cs r) f) e.1 (and-true-true _ _ e.0 hf)

-- One message, or a flat list no heavier than n.
abbrev pub Flat : Weighing → ℕ → Result → Type 0
Flat W n = Outcome 1 (λ g. (weight W g ≤ n) × (flat g ≡ true))

-- Two messages, or a list no heavier than n.
abbrev pub Sectioned : Weighing → ℕ → Result → Type 0
Sectioned W n = Outcome 2 (λ g. weight W g ≤ n)

-- `members` at an accessor, by what it makes of the trees so far.
unfoldable pub after_member : List Message → Forest → Option Forest → Result
after_member m rest x = elim x [ none ↦ fail m | some e ↦ members e rest ]

-- `sections` at a token, by what it makes of the open sections.
unfoldable pub after_bracket : ℕ → Forest → Walked → Result
after_bracket i rest x = elim x [ going t ↦ sections i t rest | mismatch m ↦ fail m ]

-- A member accessor opens no section.
pub member-unopened : (k : Token) → eqb k.op Operator.member_accessor ≡ true → closing_of k.op ≡ none
member-unopened k e = unfold closing_of in rw (eqb-true k.op Operator.member_accessor e) refl

-- The trees so far with one more member accessor.
data Joined (W : Weighing) (n : ℕ) : Option Forest → Type 0 where
  unjoined : Joined W n none
  joined_to : {e : Forest} → weight W e ≤ n → flat e ≡ true → Joined W n (some e)

module _ (W : Weighing) where
  member-light : (k : Token) (d : Forest) → eqb k.op Operator.member_accessor ≡ true → flat d ≡ true
      → Joined W (W.leaf k.op + weight W d) (with_member k d)
  unfolding with_member weight flat
  member-light k nil e h = unjoined
  member-light k (node x xs d) e h =
      either (Joined W (W.leaf k.op + weight W (node x xs d))) (has_members x.op) _ _
      (joined_to {e = node k (node x xs nil) d} (omega (arith, W.lighter k.op, weight-tree W x xs d))
      (and-true-true _ _ e (flat-rest x xs d h)))
      (joined_to {e = node k nil (node x xs d)} (omega arith) h)

  after_member-light : (m : List Message) (rest : Forest) (n b : ℕ) {x : Option Forest} → length m ≡ 1 → Joined W b x
      → ((e : Forest) → weight W e ≤ b → flat e ≡ true → Flat W n (members e rest)) → Flat W n (after_member m rest x)
  unfolding after_member
  after_member-light m rest n b o unjoined next = failed o
  after_member-light m rest n b o (joined_to {e = e} w h) next = next e w h

  pub members-light : (ks : List Token) (d : Forest) (n : ℕ) → weight W d + weight W (leaves ks) ≤ n → flat d ≡ true
      → Flat W n (members d (leaves ks))
  unfolding members leaves weight in_order flat after_member
  members-light [] d n h f = fine {g = in_order d} (omega (arith, weight-in_order W d), flat-turned d nil f refl)
  members-light (k ∷ ks) d n h f =
      decided (Flat W n) (eqb k.op Operator.member_accessor) _ _
      (λ e. after_member-light _ (leaves ks) n (W.leaf k.op + weight W d) refl (member-light k d e f)
      (λ d w f. members-light ks d n (omega arith) f))
      (λ e. members-light ks (node k nil d) n (omega arith) f)

  open_weight : Open → ℕ
  open_weight (outside d) = weight W d
  open_weight (section o i d s) = W.leaf o.op + weight W d + open_weight s

  placed-light : (k : Token) (cs : Forest) (s : Open) → open_weight (placed k cs s) ≡ weight W (node k cs nil) + open_weight s
  unfolding open_weight placed
  placed-light k cs (outside d) = weight-tree W k cs d
  placed-light k cs (section o i d s) = omega (arith, weight-tree W k cs d)

  -- A section's node is no heavier than its opener and its contents.
  section-light : (o : Token) (d : Forest) → weight W (node o (in_order d) nil) ≤ W.leaf o.op + weight W d
  section-light o d = contents (in_order d) (omega (arith, weight-in_order W d))
    where
      contents : (cs : Forest) → weight W cs ≤ weight W d → weight W (node o cs nil) ≤ W.leaf o.op + weight W d
      contents nil h = unfold weight in omega arith
      contents (node c cs r) h = unfold weight in omega (arith, W.lighter o.op)

  data Walks (n : ℕ) : Walked → Type 0 where
    walks : {s : Open} → open_weight s ≤ n → Walks n (going s)
    differs : {m : List Message} → length m ≡ 2 → Walks n (mismatch m)

  closing-light : (k : Token) (cs : Forest) (i : ℕ) (s : Open) → Walks (weight W (node k cs nil) + open_weight s) (closing k cs i s)
  unfolding closing open_weight closed_by
  closing-light k cs i (outside d) = walks {s = outside (node k cs d)} (omega (arith, weight-tree W k cs d))
  closing-light k cs i (section o j d s) =
      either (Walks (weight W (node k cs nil) + (W.leaf o.op + weight W d + open_weight s))) (eqb (closer o) k.op) _ _
      (walks {s = placed (closed_by k o) (in_order d) s}
      (omega (arith, placed-light (closed_by k o) (in_order d) s, section-light (closed_by k o) d))) (differs refl)

  -- What is no opener.
  unopened-light : (k : Token) (cs : Forest) (i : ℕ) (s : Open)
      → Walks (weight W (node k cs nil) + open_weight s)
      (elim (is_closer k.op) [ true ↦ closing k cs i s | false ↦ going (placed k cs s) ])
  unopened-light k cs i s =
      either (Walks (weight W (node k cs nil) + open_weight s)) (is_closer k.op) _ _ (closing-light k cs i s)
      (walks {s = placed k cs s} (omega (arith, placed-light k cs s)))

  bracket-light : (k : Token) (cs rest : Forest) (i : ℕ) (s : Open) → flat (node k cs rest) ≡ true
      → Walks (weight W (node k cs nil) + open_weight s) (bracket k cs i s)
  unfolding bracket open_weight weight flat
  bracket-light k nil rest i s h =
      maybe (Walks (weight W (node k nil nil) + open_weight s)) (closing_of k.op) _ _
      (λ c. walks {s = section k (i + 1) nil s} (omega arith))
      (unopened-light k nil i s)
  bracket-light k (node c cs r) rest i s h =
      rw (member-unopened k (both (eqb k.op Operator.member_accessor) (flat rest) h).0, bracket) (unopened-light k (node c cs r) i s)

  closed-light : (s : Open) (n : ℕ) → open_weight s ≤ n → Sectioned W n (closed s)
  unfolding closed open_weight
  closed-light (outside d) n h = fine {g = in_order d} (omega (arith, weight-in_order W d))
  closed-light (section o i d s) n h = failed refl

  after_bracket-light : (i : ℕ) (rest : Forest) (n b : ℕ) {x : Walked} → Walks b x
      → ((t : Open) → open_weight t ≤ b → Sectioned W n (sections i t rest)) → Sectioned W n (after_bracket i rest x)
  unfolding after_bracket
  after_bracket-light i rest n b (walks {s = t} h) next = next t h
  after_bracket-light i rest n b (differs o) next = failed o

  open-light : (i : ℕ) (s : Open) (f : Forest) (n : ℕ) → open_weight s + weight W f ≤ n → flat f ≡ true → Sectioned W n (sections i s f)
  unfolding sections weight after_bracket
  open-light i s nil n h e = closed-light s n (omega arith)
  open-light i s (node k cs rest) n h e =
      after_bracket-light (position i s) rest n (weight W (node k cs nil) + open_weight s)
      (bracket-light k cs rest (position i s) s e) λ t w. open-light (position i s) t rest n (omega (arith, weight-tree W k cs rest))
      (flat-rest k cs rest e)

  pub sections-light : (f : Forest) → flat f ≡ true → Sectioned W (weight W f) (sections 0 (outside nil) f)
  sections-light f e = unfold open_weight weight in open-light 0 (outside nil) f (weight W f) (omega arith) e
