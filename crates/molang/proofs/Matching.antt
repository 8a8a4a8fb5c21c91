-- NOTHING LOST IN THE BRACKETS (card 13). Of the bracket step over a childless list `nothing-lost` says all of specs/Matching: it succeeds
-- exactly where the brackets match (`succeeds-matched`), its trees spell the list's operators in order (`spelled_back`), and a closer met
-- with nothing open is a leaf between the trees of what stands before it and of what stands after it (`closer-kept`). The last as a law of
-- the one step, whatever follows, is `lone-closer`.
use Prim.Native.Nat.{ℕ, ◌+◌}
use mathlib.Core.{Path.{◌≡◌, refl, ap, sym, ◌∙◌, subst}, Bool.{Bool, true, false, ◌&&◌, true≢false, false≢true}, List.{List, [], ◌∷◌, ◌++◌}}
use mathlib.Core.Option.{Option, none, some}
use lib.Dec.{eqb}
use native.Mathlib.Omega.{arith}
use borrow.Author.Tests.{eqb-true}
use Rattle.molang.specs.Operator
use Rattle.molang.specs.Operator.{any, is_one_of, closing_of, is_closer}
use Rattle.molang.specs.Forest.{Token, Forest, nil, node, closed_by, leaves, turned_onto, in_order}
use Rattle.molang.specs.Message.{Message, Result, ok, fail, closer}
use Rattle.molang.specs.Sections.{Open, outside, section, placed, position, Walked, going, mismatch, closing, bracket, closed}
use Rattle.molang.specs.Sections.{sections}
use Rattle.molang.specs.Matching.{none_open, matched, succeeds, operators_in, with_closer, spelled, followed_by, LeafBetween, NothingLost}
use Rattle.molang.proofs.{Trees.{decided}, Forests.{turned-followed, in_order-followed, in_order-more}, Sections.{after_bracket}}

-- ---- one token, by its kind: an opener, a closer, anything else

module _ (k : Token) (cs : Forest) (i : ℕ) (s : Open) where
  opens : (c : ℕ) → closing_of k.op ≡ some c → bracket k cs i s ≡ going (section k (i + 1) nil s)
  unfolding bracket
  opens c e = rw (e, bracket) refl

  ends : closing_of k.op ≡ none → is_closer k.op ≡ true → bracket k cs i s ≡ closing k cs i s
  ends e h = unfold bracket in rw (e, bracket) (rw h refl)

  stays : closing_of k.op ≡ none → is_closer k.op ≡ false → bracket k cs i s ≡ going (placed k cs s)
  stays e h = unfold bracket in rw (e, bracket) (rw h refl)

opener-closer : (k : Token) (c : ℕ) → closing_of k.op ≡ some c → closer k ≡ c
opener-closer k c e = unfold closer in rw e refl

-- A closer opens no section.
closer-unopened : (n : ℕ) → is_closer n ≡ true → closing_of n ≡ none
unfolding closing_of is_closer is_one_of any
closer-unopened n h =
    decided (λ c. c ≡ none) (eqb n Operator.left_brace) _ _ (λ e. absurd (opener Operator.left_brace refl e))
    (λ p. decided (λ c. c ≡ none) (eqb n Operator.left_bracket) _ _ (λ e. absurd (opener Operator.left_bracket refl e))
    (λ q. decided (λ c. c ≡ none) (eqb n Operator.left_parenthesis) _ _ (λ e. absurd (opener Operator.left_parenthesis refl e)) (λ r. refl)))
  where
    opener : (o : ℕ) → is_closer o ≡ false → eqb n o ≡ true → ⊥
    opener o f e = true≢false (sym h ∙ ap is_closer (eqb-true n o e) ∙ f)

-- ONE STEP, whatever follows: a closer met with nothing open is kept as a leaf, after the trees so far.
pub lone-closing : (k : Token) (i : ℕ) (d : Forest) → closing k nil i (outside d) ≡ going (outside (node k nil d))
lone-closing k i d = unfold closing in refl

pub lone-closer : (k : Token) (i : ℕ) (d : Forest) → is_closer k.op ≡ true → bracket k nil i (outside d) ≡ going (outside (node k nil d))
lone-closer k i d h = ends k nil i (outside d) (closer-unopened k.op h) h ∙ lone-closing k i d

-- ---- it succeeds exactly where the brackets match

-- The closers that the open sections wait for.
unfoldable waited : Open → List ℕ
waited (outside d) = []
waited (section o i d s) = closer o ∷ waited s

waited-placed : (k : Token) (cs : Forest) (s : Open) → waited (placed k cs s) ≡ waited s
unfolding waited placed
waited-placed k cs (outside d) = refl
waited-placed k cs (section o i d s) = refl

-- `matched` at a closer, by the closers that are waited for.
unfoldable closes : ℕ → List Token → List ℕ → Bool
closes n ks waiting = elim waiting [ [] ↦ matched [] ks | c ∷ outer ↦ eqb c n && matched outer ks ]

module _ (waiting : List ℕ) (k : Token) (ks : List Token) where
  matched-opens : (c : ℕ) → closing_of k.op ≡ some c → matched waiting (k ∷ ks) ≡ matched (c ∷ waiting) ks
  matched-opens c e = unfold matched in rw (e, matched) refl

  matched-ends : closing_of k.op ≡ none → is_closer k.op ≡ true → matched waiting (k ∷ ks) ≡ closes k.op ks waiting
  matched-ends e h = unfold matched closes in rw (e, matched) (rw h refl)

  matched-stays : closing_of k.op ≡ none → is_closer k.op ≡ false → matched waiting (k ∷ ks) ≡ matched waiting ks
  matched-stays e h = unfold matched in rw (e, matched) (rw h refl)

-- From every state of the open sections the step succeeds where the rest matches.
abbrev Succeeds : ℕ → List Token → Type 0
Succeeds i ks = (t : Open) → succeeds (sections i t (leaves ks)) ≡ matched (waited t) ks

closing-matches : (k : Token) (i : ℕ) (s : Open) (ks : List Token) → Succeeds i ks
    → succeeds (after_bracket i (leaves ks) (closing k nil i s)) ≡ closes k.op ks (waited s)
unfolding closing after_bracket waited closes succeeds
closing-matches k i (outside d) ks later = later (outside (node k nil d))
closing-matches k i (section o j d s) ks later =
    let by : Bool → Bool = λ b. b && matched (waited s) ks in
    decided (λ x. succeeds (after_bracket i (leaves ks) x) ≡ by (eqb (closer o) k.op)) (eqb (closer o) k.op) _ _
    (λ e. later _ ∙ ap (λ (w : List ℕ). matched w ks) (waited-placed _ _ s) ∙ ap by (sym e)) (λ e. ap by (sym e))

token-matches : (k : Token) (i : ℕ) (s : Open) (ks : List Token) (c : Option ℕ) (b : Bool) → closing_of k.op ≡ c → is_closer k.op ≡ b
    → Succeeds i ks → succeeds (after_bracket i (leaves ks) (bracket k nil i s)) ≡ matched (waited s) (k ∷ ks)
unfolding after_bracket waited
token-matches k i s ks (some c) b e h later =
    ap (λ (x : Walked). succeeds (after_bracket i (leaves ks) x)) (opens k nil i s c e) ∙ later (section k (i + 1) nil s)
    ∙ ap (λ (n : ℕ). matched (n ∷ waited s) ks) (opener-closer k c e) ∙ sym (matched-opens (waited s) k ks c e)
token-matches k i s ks none true e h later =
    ap (λ (x : Walked). succeeds (after_bracket i (leaves ks) x)) (ends k nil i s e h) ∙ closing-matches k i s ks later
    ∙ sym (matched-ends (waited s) k ks e h)
token-matches k i s ks none false e h later =
    ap (λ (x : Walked). succeeds (after_bracket i (leaves ks) x)) (stays k nil i s e h) ∙ later (placed k nil s)
    ∙ ap (λ (w : List ℕ). matched w ks) (waited-placed k nil s) ∙ sym (matched-stays (waited s) k ks e h)

end-matches : (s : Open) → succeeds (closed s) ≡ matched (waited s) []
unfolding closed succeeds matched waited none_open
end-matches (outside d) = refl
end-matches (section o j d s) = refl

open-matches : (i : ℕ) (ks : List Token) → Succeeds i ks
unfolding sections leaves after_bracket
open-matches i [] s = end-matches s
open-matches i (k ∷ ks) s =
    token-matches k (position i s) s ks (closing_of k.op) (is_closer k.op) refl refl (open-matches (position i s) ks)

-- IT SUCCEEDS EXACTLY WHERE THE BRACKETS MATCH.
pub succeeds-matched : (ks : List Token) → succeeds (sections 0 (outside nil) (leaves ks)) ≡ matched [] ks
succeeds-matched ks = unfold waited in open-matches 0 ks (outside nil)

-- ---- each node, then its children, then for each opener its closer

spelled-followed : (f g : Forest) (r : List ℕ) → spelled (followed_by f g) r ≡ spelled f (spelled g r)
unfolding spelled followed_by
spelled-followed nil g r = refl
spelled-followed (node k cs f) g r = ap (λ (t : List ℕ). k.op ∷ spelled cs (with_closer k.op t)) (spelled-followed f g r)

-- A list that was gathered the last tree first, with one tree more.
spelled-more : (k : Token) (cs d : Forest) (r : List ℕ)
    → spelled (in_order (node k cs d)) r ≡ spelled (in_order d) (spelled (node k cs nil) r)
unfolding in_order turned_onto followed_by
spelled-more k cs d r =
    ap (λ (f : Forest). spelled f r) (turned-followed d nil (node k cs nil)) ∙ spelled-followed (turned_onto d nil) (node k cs nil) r

spelled-leaf : (k : Token) (r : List ℕ) → closing_of k.op ≡ none → spelled (node k nil nil) r ≡ k.op ∷ r
spelled-leaf k r e = unfold spelled with_closer in rw (e, with_closer) refl

spelled-section : (k o : Token) (cs : Forest) (r : List ℕ) → closing_of o.op ≡ some (closer o)
    → spelled (node (closed_by k o) cs nil) r ≡ o.op ∷ spelled cs (closer o ∷ r)
spelled-section k o cs r e = unfold spelled with_closer closed_by in rw (e, with_closer) refl

-- What has been read, as operators before r.
unfoldable spelled_open : Open → List ℕ → List ℕ
spelled_open (outside d) r = spelled (in_order d) r
spelled_open (section o i d s) r = spelled_open s (o.op ∷ spelled (in_order d) r)

spelled-placed : (k : Token) (cs : Forest) (s : Open) (r : List ℕ)
    → spelled_open (placed k cs s) r ≡ spelled_open s (spelled (node k cs nil) r)
unfolding placed spelled_open
spelled-placed k cs (outside d) r = spelled-more k cs d r
spelled-placed k cs (section o i d s) r = ap (λ (t : List ℕ). spelled_open s (o.op ∷ t)) (spelled-more k cs d r)

-- Each open section has an opener.
data Openers : Open → Type 0 where
  none_open_lem : {d : Forest} → Openers (outside d)
  opened : {o : Token} {i : ℕ} {d : Forest} {s : Open} → closing_of o.op ≡ some (closer o) → Openers s → Openers (section o i d s)

placed-openers : (k : Token) (cs : Forest) {s : Open} → Openers s → Openers (placed k cs s)
unfolding placed
placed-openers k cs none_open_lem = none_open_lem
placed-openers k cs (opened e h) = opened e h

-- After one token more: its operator comes next, unless it does not match.
data Adds (k : Token) (s : Open) : Walked → Type 0 where
  adds : {t : Open} → Openers t → ((r : List ℕ) → spelled_open t r ≡ spelled_open s (k.op ∷ r)) → Adds k s (going t)
  differs : {ms : List Message} → Adds k s (mismatch ms)

placed-adds : (k : Token) (s : Open) → closing_of k.op ≡ none → Openers s → Adds k s (going (placed k nil s))
placed-adds k s e o =
    adds {t = placed k nil s} (placed-openers k nil o) (λ r. spelled-placed k nil s r ∙ ap (spelled_open s) (spelled-leaf k r e))

closing-adds : (k : Token) (i : ℕ) (s : Open) → closing_of k.op ≡ none → Openers s → Adds k s (closing k nil i s)
unfolding closing spelled_open placed
closing-adds k i (outside d) e h = placed-adds k (outside d) e h
closing-adds k i (section o j d s) e (opened f h) =
    decided (Adds k (section o j d s)) (eqb (closer o) k.op) _ _
    (λ q. adds {t = placed (closed_by k o) (in_order d) s} (placed-openers (closed_by k o) (in_order d) h)
    (λ r. spelled-placed (closed_by k o) (in_order d) s r ∙ ap (spelled_open s) (spelled-section k o (in_order d) r f)
    ∙ ap (λ (n : ℕ). spelled_open s (o.op ∷ spelled (in_order d) (n ∷ r))) (eqb-true (closer o) k.op q)))
    (λ q. differs)

token-adds : (k : Token) (i : ℕ) (s : Open) (c : Option ℕ) (b : Bool) → closing_of k.op ≡ c → is_closer k.op ≡ b → Openers s
    → Adds k s (bracket k nil i s)
unfolding spelled_open in_order turned_onto spelled
token-adds k i s (some c) b e h o =
    rw (opens k nil i s c e) (adds {t = section k (i + 1) nil s} (opened (e ∙ ap some (sym (opener-closer k c e))) o) (λ r. refl))
token-adds k i s none true e h o = rw (ends k nil i s e h) (closing-adds k i s e o)
token-adds k i s none false e h o = rw (stays k nil i s e h) (placed-adds k s e o)

-- A list that spells these operators, or none.
data Spells (ns : List ℕ) : Result → Type 0 where
  spells : {f : Forest} → spelled f [] ≡ ns → Spells ns (ok f)
  fails : {ms : List Message} → Spells ns (fail ms)

end-spells : (s : Open) → Spells (spelled_open s []) (closed s)
unfolding closed spelled_open
end-spells (outside d) = spells refl
end-spells (section o i d s) = fails

after-spells : (k : Token) (ks : List Token) (i : ℕ) (s : Open) {x : Walked} → Adds k s x
    → ((t : Open) → Openers t → Spells (spelled_open t (operators_in ks)) (sections i t (leaves ks)))
    → Spells (spelled_open s (k.op ∷ operators_in ks)) (after_bracket i (leaves ks) x)
unfolding after_bracket
after-spells k ks i s (adds {t = t} o e) later = rw (sym (e (operators_in ks))) (later t o)
after-spells k ks i s differs later = fails

open-spells : (i : ℕ) (s : Open) (ks : List Token) → Openers s → Spells (spelled_open s (operators_in ks)) (sections i s (leaves ks))
unfolding sections leaves after_bracket operators_in
open-spells i s [] o = end-spells s
open-spells i s (k ∷ ks) o =
    after-spells k ks (position i s) s (token-adds k (position i s) s (closing_of k.op) (is_closer k.op) refl refl o)
    (λ t p. open-spells (position i s) t ks p)

-- THE OPERATORS IN ORDER: on success each node, then its children, then for each opener its closer are the list's.
pub spelled_back : (ks : List Token) (f : Forest) → sections 0 (outside nil) (leaves ks) ≡ ok f → spelled f [] ≡ operators_in ks
spelled_back ks f e = of-list (rw e at (open-spells 0 (outside nil) ks none_open_lem))
  where
    of-list : Spells (spelled_open (outside nil) (operators_in ks)) (ok f) → spelled f [] ≡ operators_in ks
    of-list (spells h) = unfold spelled_open in_order turned_onto spelled in h

-- ---- a closer met with nothing open

-- What holds of two choices by one test.
both-either : {A : Type 0} (Q : A → A → Type 0) (b : Bool) (x y x' y' : A) → Q x x' → Q y y'
    → Q (elim b [ true ↦ x | false ↦ y ]) (elim b [ true ↦ x' | false ↦ y' ])
both-either Q true x y x' y' p q = p
both-either Q false x y x' y' p q = q

both-maybe : {A B : Type 0} (Q : A → A → Type 0) (o : Option B) (y y' : B → A) (x x' : A) → ((b : B) → Q (y b) (y' b)) → Q x x'
    → Q (elim o [ some b ↦ y b | none ↦ x ]) (elim o [ some b ↦ y' b | none ↦ x' ])
both-maybe Q none y y' x x' p q = q
both-maybe Q (some b) y y' x x' p q = p b

-- The second has the trees of d, the last first, before all that the first has; positions aside.
data Beyond (d : Forest) : Open → Open → Type 0 where
  outer : {e : Forest} → Beyond d (outside e) (outside (followed_by e d))
  inner : {o : Token} {i j : ℕ} {e : Forest} {s t : Open} → Beyond d s t → Beyond d (section o i e s) (section o j e t)

data BeyondWalked (d : Forest) : Walked → Walked → Type 0 where
  both_go : {s t : Open} → Beyond d s t → BeyondWalked d (going s) (going t)
  both-differ : {ms ns : List Message} → BeyondWalked d (mismatch ms) (mismatch ns)

data BeyondResult (d : Forest) : Result → Result → Type 0 where
  both-fine : {f : Forest} → BeyondResult d (ok f) (ok (followed_by (in_order d) f))
  both-fail : {ms ns : List Message} → BeyondResult d (fail ms) (fail ns)

module _ (d : Forest) where
  placed-beyond : (k : Token) (cs : Forest) {s t : Open} → Beyond d s t → Beyond d (placed k cs s) (placed k cs t)
  unfolding placed followed_by
  placed-beyond k cs (outer {e = e}) = outer {e = node k cs e}
  placed-beyond k cs (inner h) = inner h

  closing-beyond : (k : Token) (cs : Forest) (i j : ℕ) {s t : Open} → Beyond d s t → BeyondWalked d (closing k cs i s) (closing k cs j t)
  unfolding closing followed_by
  closing-beyond k cs i j (outer {e = e}) = both_go (outer {e = node k cs e})
  closing-beyond k cs i j (inner {o = o} {e = e} h) =
      both-either (BeyondWalked d) (eqb (closer o) k.op) _ _ _ _ (both_go (placed-beyond (closed_by k o) (in_order e) h)) both-differ

  bracket-beyond : (k : Token) (cs : Forest) (i j : ℕ) {s t : Open} → Beyond d s t → BeyondWalked d (bracket k cs i s) (bracket k cs j t)
  unfolding bracket
  bracket-beyond k cs i j h =
      both-maybe (BeyondWalked d) (closing_of k.op) _ _ _ _ (λ c. both_go (inner h))
      (both-either (BeyondWalked d) (is_closer k.op) _ _ _ _ (closing-beyond k cs i j h) (both_go (placed-beyond k cs h)))

  closed-beyond : {s t : Open} → Beyond d s t → BeyondResult d (closed s) (closed t)
  unfolding closed
  closed-beyond (outer {e = e}) = subst (λ (f : Forest). BeyondResult d (ok (in_order e)) (ok f)) (sym (in_order-followed e d)) both-fine
  closed-beyond (inner h) = both-fail

  after-beyond : (rest : Forest) (i j : ℕ) {x y : Walked} → BeyondWalked d x y
      → ((s t : Open) → Beyond d s t → BeyondResult d (sections i s rest) (sections j t rest))
      → BeyondResult d (after_bracket i rest x) (after_bracket j rest y)
  unfolding after_bracket
  after-beyond rest i j (both_go {s = s} {t = t} h) later = later s t h
  after-beyond rest i j both-differ later = both-fail

  sections-beyond : (f : Forest) (i j : ℕ) (s t : Open) → Beyond d s t → BeyondResult d (sections i s f) (sections j t f)
  unfolding sections after_bracket
  sections-beyond nil i j s t h = closed-beyond h
  sections-beyond (node k cs rest) i j s t h =
      after-beyond rest (position i s) (position j t) (bracket-beyond k cs (position i s) (position j t) h)
      (λ s t. sections-beyond rest _ _ s t)

failed-ok : {ms : List Message} {g : Forest} → fail ms ≡ ok g → ⊥
failed-ok e = let z : ◌≡◌ {A = ℕ} 0 1 = cc in absurd (omega arith)

same_ok : {f g : Forest} → ok f ≡ ok g → f ≡ g
same_ok e = cc

-- The step over the first tokens gives f; what comes of the others after them.
record Halfway (f : Forest) (ys : List Token) (answer : Result) : Type 0 where
  done : Forest
  index : ℕ
  trees : in_order done ≡ f
  on : answer ≡ sections index (outside done) (leaves ys)

halfway-end : (f : Forest) (i : ℕ) (s : Open) (ys : List Token) → closed s ≡ ok f → Halfway f ys (sections i s (leaves ys))
unfolding closed
halfway-end f i (outside d) ys h = record { done = d; index = i; trees = same_ok h; on = refl }
halfway-end f i (section o j d s) ys h = absurd (failed-ok h)

halfway-after : (i : ℕ) (f : Forest) (xs ys : List Token) (x : Walked)
    → ((t : Open) → sections i t (leaves xs) ≡ ok f → Halfway f ys (sections i t (leaves (xs ++ ys))))
    → after_bracket i (leaves xs) x ≡ ok f → Halfway f ys (after_bracket i (leaves (xs ++ ys)) x)
unfolding after_bracket
halfway-after i f xs ys (going t) later h = later t h
halfway-after i f xs ys (mismatch ms) later h = absurd (failed-ok h)

halfway : (f : Forest) (i : ℕ) (s : Open) (xs ys : List Token) → sections i s (leaves xs) ≡ ok f
    → Halfway f ys (sections i s (leaves (xs ++ ys)))
unfolding sections leaves after_bracket
halfway f i s [] ys h = halfway-end f i s ys h
halfway f i s (k ∷ xs) ys h =
    halfway-after (position i s) f xs ys (bracket k nil (position i s) s) (λ t e. halfway f (position i s) t xs ys e) h

-- The trees g are those of f, then the leaf k, then those of what follows.
pub record Kept (f : Forest) (k : Token) (following : Result) (g : Forest) : Type 0 where
  pub rest : Forest
  pub given : following ≡ ok rest
  pub is : g ≡ followed_by f (node k nil rest)

kept-after : (k : Token) (d f g : Forest) {x y : Result} → in_order d ≡ f → BeyondResult (node k nil d) x y → y ≡ ok g → Kept f k x g
kept-after k d f g t (both-fine {f = h}) e =
    record { rest = h; given = refl; is = sym (same_ok e) ∙ in_order-more k nil d h ∙ ap (λ (f : Forest). followed_by f (node k nil h)) t }
kept-after k d f g t both-fail e = absurd (failed-ok e)

-- A CLOSER MET WITH NOTHING OPEN IS KEPT AS A LEAF, right after the trees of what stands before it and right before those of what follows.
pub closer-kept : (xs ys : List Token) (k : Token) (f g : Forest) → is_closer k.op ≡ true
    → sections 0 (outside nil) (leaves xs) ≡ ok f → sections 0 (outside nil) (leaves (xs ++ (k ∷ ys))) ≡ ok g
    → Kept f k (sections 0 (outside nil) (leaves ys)) g
unfolding followed_by
closer-kept xs ys k f g c hf hg =
    let w = halfway f 0 (outside nil) xs (k ∷ ys) hf in
    kept-after k w.done f g w.trees (sections-beyond (node k nil w.done) (leaves ys) 0 _ (outside nil) _ outer)
    (sym (w.on ∙ step w.done w.index) ∙ hg)
  where
    step : (d : Forest) (i : ℕ)
        → sections i (outside d) (leaves (k ∷ ys)) ≡ sections (position i (outside d)) (outside (node k nil d)) (leaves ys)
    step d i = unfold sections leaves in rw (lone-closer k (position i (outside d)) d c, sections) refl

-- ---- the statement

succeeded : (x : Result) → succeeds x ≡ true → (f : Forest) × (x ≡ ok f)
unfolding succeeds
succeeded (ok f) h = (f, refl)
succeeded (fail m) h = absurd (false≢true h)

-- NOTHING IS LOST IN THE BRACKETS.
pub nothing-lost : (ks : List Token) → NothingLost ks (sections 0 (outside nil) (leaves ks))
nothing-lost ks =
    record {
      matches = succeeds-matched ks;
      whole = λ g e. record { spells = spelled_back ks g e; keeps = λ xs k ys is c m. between xs k ys g c m (sym (ap given is) ∙ e) };
    }
  where
    given : List Token → Result
    given ks = sections 0 (outside nil) (leaves ks)

    between : (xs : List Token) (k : Token) (ys : List Token) (g : Forest) → is_closer k.op ≡ true → matched [] xs ≡ true
        → given (xs ++ (k ∷ ys)) ≡ ok g → LeafBetween xs k ys g
    between xs k ys g c m e =
        let f = succeeded (given xs) (succeeds-matched xs ∙ m) in
        let kept = closer-kept xs ys k f.0 g c f.1 e in
        record {
          left = f.0;
          right = kept.rest;
          is = kept.is;
          before = spelled_back xs f.0 f.1;
          after = spelled_back ys kept.rest kept.given;
        }
