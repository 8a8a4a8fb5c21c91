-- The definition one token at a time: which case of `members`, `bracket`, `open_after`, `closing` and `sections` it is, by what is known of
-- the token. And what is known of openers: they are leaves of a flat list, in no class.
use Prim.Native.Nat.{ℕ, suc, ◌+◌, ◌-◌, ◌<◌}
use mathlib.Core.{Path.{◌≡◌, refl, sym, ap, ◌∙◌}, Logic.{◌≢◌, ◌⊎◌, inl, inr, ⊎_elim}, Bool.{Bool, true, false, true≢false}}
use mathlib.Core.{List.{List, [], ◌∷◌}, Option.{Option, none, some}}
use native.Mathlib.Omega.{arith}
use lib.Dec.{eqb}
use borrow.Author.Tests.{eq-eqb, ne_eqb, eqb-true}
use Rattle.molang.specs.Operator.{member_accessor, left_brace, left_bracket, left_parenthesis, any, is_one_of, between, is_math_call, is_query_or_loop}
use Rattle.molang.{specs.Operator.{has_members, closing_of, is_closer}, specs.Forest.{Token, Forest, nil, node, in_order, closed_by}}
use Rattle.molang.specs.Message.{Message, leading_member_accessor, closing_mismatch, section_not_closed, fail, closer}
use Rattle.molang.specs.Sections.{with_member, members, Open, section, placed, position, outermost, Walked, going, mismatch, closing}
use Rattle.molang.{specs.Sections.{bracket, sections}, specs.Nesting.{open_after}, specs.Free.{flat}, proofs.Trees.{both, and-true-true}}
use Rattle.ops.{specs.Operators.{is_opener}, specs.Classes.{pass_classes, own_classes, in_class}, proofs.OperatorLaws.{false-at}}
use Rattle.levels.proofs.Reading.{when_true as taken, when_false as passed}

-- a value that is there
pub found : {A B : Type 0} (o : Option B) (b : B) (y : B → A) (x : A) → o ≡ some b → elim o [ some c ↦ y c | none ↦ x ] ≡ y b
found o b y x e = rw e

pub missed : {A B : Type 0} (o : Option B) (y : B → A) (x : A) → o ≡ none → elim o [ some c ↦ y c | none ↦ x ] ≡ x
missed o y x e = rw e

by-walked : {A : Type 0} (x : Walked) (y : Open → A) (z : List Message → A) (t : Open) → x ≡ going t
    → elim x [ going t ↦ y t | mismatch m ↦ z m ] ≡ y t
by-walked x y z t e = rw e

by-mismatch : {A : Type 0} (x : Walked) (y : Open → A) (z : List Message → A) (m : List Message) → x ≡ mismatch m
    → elim x [ going t ↦ y t | mismatch m ↦ z m ] ≡ z m
by-mismatch x y z m e = rw e

-- ---- `members`

pub members-other : (k : Token) (cs d f : Forest) → k.op ≢ member_accessor → members d (node k cs f) ≡ members (node k cs d) f
members-other k cs d f h = unfold members in passed (eqb k.op member_accessor) _ _ (ne_eqb k.op member_accessor h)

pub members-joined : (k : Token) (cs d e f : Forest) → k.op ≡ member_accessor → with_member k d ≡ some e
    → members d (node k cs f) ≡ members e f
unfolding members
members-joined k cs d e f h j =
    taken (eqb k.op member_accessor) _ _ (eq-eqb k.op member_accessor h) ∙ found (with_member k d) e (λ z. members z f) _ j

pub members-leading : (k : Token) (cs f : Forest) → k.op ≡ member_accessor → members nil (node k cs f) ≡ fail (leading_member_accessor k ∷ [])
members-leading k cs f h = unfold members with_member in taken (eqb k.op member_accessor) _ _ (eq-eqb k.op member_accessor h)

pub joined-under : (k x : Token) (xs d : Forest) → has_members x.op ≡ true → with_member k (node x xs d) ≡ some (node k (node x xs nil) d)
joined-under k x xs d h = unfold with_member in taken (has_members x.op) _ _ h

pub joined-after : (k x : Token) (xs d : Forest) → has_members x.op ≡ false → with_member k (node x xs d) ≡ some (node k nil (node x xs d))
joined-after k x xs d h = unfold with_member in passed (has_members x.op) _ _ h

-- ---- openers

pub opener-closes : (n : ℕ) → is_opener n ≡ true → (c : ℕ) × (closing_of n ≡ some c)
unfolding is_opener
opener-closes n h = there (closing_of n) h
  where
    there : (o : Option ℕ) → elim o [ none ↦ false | some c ↦ true ] ≡ true → (c : ℕ) × (o ≡ some c)
    there none e = absurd (true≢false (sym e))
    there (some c) e = (c, refl)

pub other-closes : (n : ℕ) → is_opener n ≡ false → closing_of n ≡ none
unfolding is_opener
other-closes n h = absent (closing_of n) h
  where
    absent : (o : Option ℕ) → elim o [ none ↦ false | some c ↦ true ] ≡ false → o ≡ none
    absent none e = refl
    absent (some c) e = absurd (true≢false e)

pub is-opener : (n : ℕ) → is_opener n ≡ true → (n ≡ left_brace) ⊎ ((n ≡ left_bracket) ⊎ (n ≡ left_parenthesis))
unfolding is_opener closing_of
is-opener n h =
    by (eqb n left_brace)
    (λ e. inl (eqb-true n left_brace e))
    (λ a. by (eqb n left_bracket)
    (λ e. inr (inl (eqb-true n left_bracket e)))
    (λ b. by (eqb n left_parenthesis)
    (λ e. inr (inr (eqb-true n left_parenthesis e)))
    (λ c. absurd (true≢false (sym h ∙ ap opens (passed (eqb n left_brace) _ _ a ∙ passed (eqb n left_bracket) _ _ b
    ∙ passed (eqb n left_parenthesis) _ _ c))))))
  where
    by : {A : Type 0} (b : Bool) → (b ≡ true → A) → (b ≡ false → A) → A
    by true p q = p refl
    by false p q = q refl

    opens : Option ℕ → Bool
    opens o = elim o [ none ↦ false | some c ↦ true ]

-- an opener is in no class
pub classless : (n : ℕ) → is_opener n ≡ true → (i : ℕ) → i < 32 → in_class i n ≡ false
unfolding in_class pass_classes own_classes is_query_or_loop is_math_call is_one_of any between
classless n h i l =
    ⊎_elim (λ e. rw e (sym (false-at (λ i. in_class i 0) 0 32 tt i (omega arith) l)))
    (λ f. ⊎_elim (λ e. rw e (sym (false-at (λ i. in_class i 2) 0 32 tt i (omega arith) l)))
    (λ e. rw e (sym (false-at (λ i. in_class i 4) 0 32 tt i (omega arith) l))) f)
    (is-opener n h)

-- only accessors have children, so an opener is a leaf
pub opener-leaf : (k : Token) (cs : Forest) → flat (node k cs nil) ≡ true → is_opener k.op ≡ true → cs ≡ nil
unfolding flat is_opener closing_of
opener-leaf k nil f h = refl
opener-leaf k (node c cs r) f h =
    let e : k.op ≡ member_accessor = eqb-true k.op member_accessor (both (eqb k.op member_accessor) true f).0 in
    absurd (true≢false (sym h ∙ ap is_opener e))

-- each tree of a flat list by itself, and those after it
pub flat-first : (k : Token) (cs f : Forest) → flat (node k cs f) ≡ true → (flat (node k cs nil) ≡ true) × (flat f ≡ true)
unfolding flat
flat-first k nil f h = (refl, h)
flat-first k (node c cs r) f h = let e = both (eqb k.op member_accessor) (flat f) h in (and-true-true _ _ e.0 refl, e.1)

-- ---- `bracket`, `closing`, `sections`

pub bracket-opens : (k : Token) (cs : Forest) (i : ℕ) (s : Open) → is_opener k.op ≡ true
    → bracket k cs i s ≡ going (section k (i + 1) nil s)
unfolding bracket
bracket-opens k cs i s h =
    let c = opener-closes k.op h in
    found (closing_of k.op) c.0 (λ z. going (section k (i + 1) nil s)) _ c.1

pub bracket-closes : (k : Token) (cs : Forest) (i : ℕ) (s : Open) → is_opener k.op ≡ false → is_closer k.op ≡ true
    → bracket k cs i s ≡ closing k cs i s
unfolding bracket
bracket-closes k cs i s h e =
    missed (closing_of k.op) (λ z. going (section k (i + 1) nil s)) _ (other-closes k.op h) ∙ taken (is_closer k.op) _ _ e

pub bracket-places : (k : Token) (cs : Forest) (i : ℕ) (s : Open) → is_opener k.op ≡ false → is_closer k.op ≡ false
    → bracket k cs i s ≡ going (placed k cs s)
unfolding bracket
bracket-places k cs i s h e =
    missed (closing_of k.op) (λ z. going (section k (i + 1) nil s)) _ (other-closes k.op h) ∙ passed (is_closer k.op) _ _ e

-- any closer takes one of the open brackets
pub closer-open : (depth n : ℕ) → is_opener n ≡ false → is_closer n ≡ true → open_after depth n ≡ depth - 1
closer-open depth n h e = unfold open_after in missed (closing_of n) (λ c. suc depth) _ (other-closes n h) ∙ taken (is_closer n) _ _ e

pub closing-takes : (k o : Token) (cs d : Forest) (i j : ℕ) (s : Open) → closer o ≡ k.op
    → closing k cs i (section o j d s) ≡ going (placed (closed_by k o) (in_order d) s)
closing-takes k o cs d i j s h = unfold closing in taken (eqb (closer o) k.op) _ _ (eq-eqb (closer o) k.op h)

pub closing-differs : (k o : Token) (cs d : Forest) (i j : ℕ) (s : Open) → closer o ≢ k.op
    → closing k cs i (section o j d s) ≡ mismatch (closing_mismatch o j k i ∷ section_not_closed (outermost o s) ∷ [])
closing-differs k o cs d i j s h = unfold closing in passed (eqb (closer o) k.op) _ _ (ne_eqb (closer o) k.op h)

pub sections-go : (k : Token) (cs f : Forest) (i : ℕ) (s t : Open) → bracket k cs (position i s) s ≡ going t
    → sections i s (node k cs f) ≡ sections (position i s) t f
unfolding sections
sections-go k cs f i s t e = by-walked (bracket k cs (position i s) s) (λ t. sections (position i s) t f) (λ m. fail m) t e

pub sections-end : (k : Token) (cs f : Forest) (i : ℕ) (s : Open) (m : List Message) → bracket k cs (position i s) s ≡ mismatch m
    → sections i s (node k cs f) ≡ fail m
unfolding sections
sections-end k cs f i s m e = by-mismatch (bracket k cs (position i s) s) (λ t. sections (position i s) t f) (λ m. fail m) m e
