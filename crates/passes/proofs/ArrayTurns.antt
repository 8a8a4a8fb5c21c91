-- The array pass's turns: a name without an index, a name or an array with its next index, an array that takes no further one; and an item
-- that is taken back, by the list or by the array whose index it is.
use Prim.Native.Nat.{ℕ, ◌+◌, ◌^◌, ◌≤◌, ◌<◌}
use mathlib.Core.{Path.{◌≡◌, refl, sym, ap, ◌∙◌, subst}, Logic.{◌≢◌, ◌⊎◌, inl, inr, ⊎_elim}, Bool.{true, false, true≢false}, List.{List}}
use native.Mathlib.{Omega.{arith}, Nat.{le_refl}}
use borrow.Author.Tests.{eq-eqb, ne_eqb, eqb-true}
use lib.ListN.{length, set}
use Rattle.molang.specs.{Operator.{left_bracket, array_variable, array}, Forest.{Token, Forest, nil, node, renamed, in_order, count, size}}
use Rattle.molang.specs.{Message.{Result}, Level.{through}}
use Rattle.molang.specs.Calls.{Indexing, unindexed, named, indexed, flushed, is_index, starts_with_index, array_step, array_resume, array_level}
use Rattle.molang.specs.{Free.{is_nil, is_array_name}, Work.{Kind, arrays, State, work, begins, in_reading, takes, and_then}}
use Rattle.molang.proofs.Arrays.{array-inert}
use Rattle.words.specs.Fields.{with_operator}
use Rattle.nodes.specs.{Store.{wd, slot_words, first_field, slot_start, operator_word_at, RepT}, declared.frames.List.{List as Items}}
use Rattle.nodes.proofs.{Runs.{set_other, set_long}, Store.{tree-below, tree-out, tree-keep, tree-widen, back-le}, Trees.{leaf-test}}
use Rattle.levels.specs.Passes as passes
use Rattle.levels.specs.{Passes.{walk_of, moved_to, operators, Runs, waits}, Items.{BackArray, Ahead, CanPeek, next_if}}
use Rattle.levels.specs.Sides.{OpenArray, ArraySide, ArrayAgrees, Holds, Waits}
use Rattle.levels.specs.{Turns.{Within, CanTurn, Turned, TurnTo, goes, enters, fails, afresh, lent, CanResume, Resumed}, Failures.{Tells}}
use Rattle.levels.specs.{declared.failure.Failure.TheVariants.{EmptyArrayIndex}, declared.turns.Pass.TheVariants.{Arrays}}
use Rattle.levels.specs.{declared.turns.Turn.{Turn}, declared.turns.Turn.TheVariants.{On, Enter}}
use Rattle.std.specs.Prelude.{None, Some, Ok, Err, unwrap_or}
use Rattle.levels.proofs.Reading.{back-array-keep, ahead-keep, ahead-le, can-peek, NextTo, ended, differs, found, same-within}
use Rattle.levels.proofs.{PassClasses.{runs-covers}, States.{sides-of}}
use Rattle.passes.specs.TokenTurns.{AtItem, AtToken, unasked, Saying}
use Rattle.passes.specs.Arrays.{CanGather, Gathered, CanRound, Rounded, CanIndex, Indexed, empty, opens, NameTurned}
use Rattle.passes.proofs.ArrayLaws.{array-on, array-stop, array-in, name-waits, indexed-empty, indexed-in, indexed-lends}
use Rattle.passes.proofs.ArrayLaws.{lent-indexed, flush}
use Rattle.passes.proofs.ArrayGrowing.{name-open, can-gather, gathered-open, gathered-slot, gathered-word, gathered-kept, can-round}
use Rattle.passes.proofs.ArrayGrowing.{rounded-tree, rounded-slot, rounded-word, rounded-kept, can-lend, LentTo, none, some, lent-to}
use Rattle.passes.proofs.GatherLaws.{walk-node, walk-passed, LeftLevel, item-bounds, item-holds, kept-within, within-then, Stands}
use Rattle.passes.proofs.{GatherLaws.{stands, Standing}, CallLaws.{next_of}, TurnLaws.{Step}}

-- ---- the level, where no array waits

array-node : (d : Forest) (k : Token) (cs rest : Forest) → is_nil cs ≡ false
    → work arrays (unindexed d) (node k cs rest) ≡ and_then (work arrays (begins arrays cs) (in_reading arrays cs))
    (λ kids. work arrays (takes arrays (unindexed d) k kids) rest)
unfolding work begins in_reading takes through array_level array_resume is_nil
array-node d k nil rest e = absurd (true≢false e)
array-node d k (node c cs r) rest e = walk-node array_level is_array_name array-inert d k c cs r rest

array-left : LeftLevel arrays (Arrays 0 0) is_array_name unindexed unasked
unfolding work begins waits operators array_level
array-left =
    record {
      covers = runs-covers arrays (Arrays 0 0) passes.array;
      sides = λ fine done ahead low mid high below within. sides-of passes.array (ArraySide.all done) ahead tt low mid high below within;
      turning = λ v h. (refl, h);
      framed = λ v h. h;
      calm = λ d. refl;
      unlent = refl;
      fresh = λ cs. refl;
      passes = λ p. walk-passed array_level is_array_name array-inert p;
      keeps = λ p h. refl;
      node = array-node;
    }

module _ {T : Saying} (W : List ℕ) (v : Items) where
  pub array-stands : T arrays unindexed is_array_name unasked → Standing T W v (Arrays 0 0)
  array-stands t g = go g.holds.sides.runs g.holds
    where
      side : {X : List ℕ} {lo l m hi : ℕ} {s : Indexing} {rest : Forest} → ArraySide W X v.base v.write lo l (Arrays 0 0) s
          → Ahead W X v.base v.read v.len m hi rest
          → l ≤ m → v.write ≤ v.read → slot_start hi ≤ v.base → v.base + v.len ≤ length W
          → Stands T W v (Arrays 0 0) arrays X lo hi s rest
      side (ArraySide.all done) ahead mid behind below within = stands array-left t refl done ahead mid behind below within g.small
      side (ArraySide.growing done o) ahead mid behind below within = absurd (omega (arith, o.pos))

      go : {κ : Kind} {X : List ℕ} {lo hi : ℕ} {s : State κ} {rest : Forest} → Runs κ (Arrays 0 0)
          → Holds κ W X lo hi (walk_of v (Arrays 0 0)) s rest → Stands T W v (Arrays 0 0) κ X lo hi s rest
      go passes.array h = side h.sides.done h.sides.unread h.sides.mid h.turning.1 h.sides.below h.sides.within

-- ---- an array's next index

-- The index k over cs, at the slot b, comes next; the array q at the slot a waits for it.
pub record AtIndex (W X : List ℕ) (v : Items) (a b lo hi : ℕ) (d : Forest) (q : Token) (contents : Forest) (k : Token) (cs rest : Forest)
    : Type 0 where
  pub p : ℕ
  pub l : ℕ
  pub n : ℕ
  pub m : ℕ
  pub done : BackArray W X v.base v.write lo p d
  pub grows : OpenArray W X a p l q contents
  pub apart : l ≤ n
  pub tree : RepT W X b n m k cs
  pub ahead : Ahead W X v.base (v.read + 1) v.len m hi rest
  pub bracket : k.op ≡ left_bracket
  pub behind : v.write ≤ v.read
  pub below : slot_start hi ≤ v.base
  pub within : v.base + v.len ≤ length W

is-index : (k : Token) → k.op ≡ left_bracket → is_index k ≡ true
is-index k e = unfold is_index in eq-eqb k.op left_bracket e

is_name : (k : Token) → k.op ≡ array_variable → is_array_name k.op ≡ true
is_name k e = unfold is_array_name in eq-eqb k.op array_variable e

name-op : (k : Token) → is_array_name k.op ≡ true → k.op ≡ array_variable
name-op k e = unfold is_array_name in eqb-true k.op array_variable e

no_index : (k : Token) → k.op ≢ left_bracket → is_index k ≡ false
no_index k e = unfold is_index in ne_eqb k.op left_bracket e

module _ {W X : List ℕ} {v : Items} {a b lo hi : ℕ} {d : Forest} {q : Token} {contents : Forest} {k : Token} {cs rest : Forest}
    (i : AtIndex W X v a b lo hi d q contents k cs rest) where
  -- what a law on the numbers needs
  index-bounds : (lo ≤ i.p) × (i.p ≤ a) × (a < i.l) × (i.l ≤ i.n) × (i.n ≤ b) × (b < i.m) × (i.m ≤ hi) × (v.read < v.len)
  index-bounds =
      let le = ahead-le i.ahead in
      (back-le i.done.rep, i.grows.low, i.grows.high, i.apart, i.tree.low, tree-below i.tree, le.0, omega (arith, le.1))

  room : slot_start i.m ≤ length W
  room = let e = index-bounds in let below = i.below in let within = i.within in omega arith

  pub can-index : CanIndex W v b a
  can-index = record { left = index-bounds.7; lends = can-lend i.grows i.tree i.apart room }

  index-waits : {W' : List ℕ} {l' : ℕ} {inner : Forest} (c : ℕ) → BackArray W' X v.base v.write lo i.p d
      → OpenArray W' X a i.p l' q inner
      → Ahead W' X v.base (v.read + 1) v.len i.m hi rest → l' ≤ i.l → length W' ≡ length W
      → Waits arrays W' X lo l' i.m hi (walk_of (moved_to v (v.read + 1) v.write) (Arrays a c)) (indexed d q inner) rest
  index-waits c done o ahead less long =
      let e = index-bounds in let low = o.low in let high = o.high in let behind = i.behind in
      record {
        sides = sides-of passes.array (ArraySide.growing done o) ahead (inl (omega arith)) (omega arith) (omega arith) (omega arith)
            i.below (omega (arith, i.within));
        framed = omega arith;
      }

  module _ {s : Indexing} {rest0 : Forest} (z : ℕ) (same : work arrays s rest0 ≡ work arrays (indexed d q contents) (node k cs rest))
      (less : count (node k cs rest) ≤ count rest0)
      (fewer : size (node k cs rest) + count rest0 ≤ size rest0 + count (node k cs rest))
      (one : is_nil contents ≡ false → waits arrays s ≡ 1) where
    index-empty : is_nil cs ≡ true → TurnTo arrays W X lo hi (walk_of v (Arrays z 0)) s rest0 (Err (EmptyArrayIndex a b))
    unfolding is_nil
    index-empty e = go cs e i.tree same
      where
        go : (cs : Forest) → is_nil cs ≡ true → RepT W X b i.n i.m k cs
            → work arrays s rest0 ≡ work arrays (indexed d q contents) (node k cs rest)
            → TurnTo arrays W X lo hi (walk_of v (Arrays z 0)) s rest0 (Err (EmptyArrayIndex a b))
        go nil e t h =
            fails (Tells.empty_array_index i.grows.token t.token)
            (h ∙ array-stop (indexed d q contents) k nil rest _ (indexed-empty d q k (is-index k i.bracket) contents))
        go (node x xs y) e t h = absurd (true≢false (sym e))

    index-entered : {W' : List ℕ} (c : ℕ) → is_nil cs ≡ false → LentTo W W' X a b i.p i.l i.n c q cs contents
        → TurnTo arrays W' X lo hi (walk_of v (Arrays z 0)) s rest0
        (Ok (Enter (walk_of (moved_to v (v.read + 1) v.write) (Arrays a c)) b))
    unfolding count size waits begins array_level is_nil in_reading
    index-entered {W'} c full (none nought e next) =
        rw e
        (enters {t = indexed d q contents} {u = begins arrays cs} (record { owner = refl; base = refl; len = refl; classes = refl })
        (index-waits c i.done i.grows i.ahead (le_refl i.l) refl) i.tree full (afresh nought i.apart)
        (same ∙ array-in (indexed d q contents) k cs rest (indexed d q contents) (unindexed nil)
        (indexed-in d q k (is-index k i.bracket) contents cs full (next d)))
        (omega arith) (omega arith) (omega arith) (omega arith))
    index-entered {W'} c full (some {t = x} {inner = inner} {p = p} is isx starts low o o' other long out) =
        let e =
        index-bounds in let ol =
        o.low in let oh = o.high in let rl = o'.low in let rh = o'.high in let below = i.below in let once = one (ap is_nil is) in
        let slot : (y u : ℕ) → u < slot_words → (y < i.p) ⊎ (i.n ≤ y) → wd W' (slot_start y + u) ≡ wd W (slot_start y + u)
        =
        λ y u f.
        ⊎_elim (λ g. other (slot_start y + u) (omega arith) (omega arith))
        (λ g. other (slot_start y + u) (omega arith) (omega arith)) in
        let word : (j : ℕ) → slot_start hi ≤ j → wd W' j ≡ wd W j = λ j f. other j (omega arith) (omega arith) in
        enters {t = indexed d q inner} {u = indexed nil (renamed array x) nil}
        (record { owner = refl; base = refl; len = refl; classes = refl })
        (index-waits c (back-array-keep W W' (λ y u f g h _. slot y u h (inl g)) (λ j f g. word j (omega arith)) i.done) o
        (ahead-keep W W' (λ y u f g h _. slot y u h (inr (omega arith))) (λ j f g. word j (omega arith)) i.ahead) low long)
        (tree-keep W W' (λ y u f g h _ n. slot y u h (inr f)) i.tree) full (lent o' starts)
        (same
        ∙ array-in (indexed d q contents) k cs rest (indexed d q inner) (named nil x)
        (ap (λ (y : Forest). array_step (indexed d q y) k cs) is
        ∙ indexed-lends d q k (is-index k i.bracket) x inner cs full (is_name x isx) starts)
        ∙ ap (λ (y : Result). and_then y (λ kids. work arrays (takes arrays (indexed d q inner) k kids) rest))
        (lent-indexed nil x cs starts))
        (omega arith) (omega arith) (omega arith) (omega arith)

    pub index-turn : {W' : List ℕ} {r : Step} → Indexed W v b a r W' → TurnTo arrays W' X lo hi (walk_of v (Arrays z 0)) s rest0 r
    index-turn (empty leafy e er) = rw (er, e) (index-empty (sym (leaf-test cs i.tree) ∙ leafy))
    index-turn (opens {lent = c} full w er) =
        let f = sym (leaf-test cs i.tree) ∙ full in
        rw er (index-entered (unwrap_or c 0) f (lent-to i.apart i.tree f room refl i.grows w))

  lent-within : {W' : List ℕ} {c : ℕ} → LentTo W W' X a b i.p i.l i.n c q cs contents → Within W W' X lo hi v
  lent-within (none nought e next) = rw e same-within
  lent-within {c = c} (some is isx starts low o o' other long out) =
      let e = index-bounds in let ol = o.low in let oh = o.high in let rl = o'.low in let rh = o'.high in
      record {
        kept =
            λ j f g.
            other j (f a first_field (omega arith) (omega arith) (omega arith) i.grows.out)
            (λ h. f c 0 (omega arith) (omega arith) (omega arith) out (h ∙ omega arith));
        long = long;
      }

  pub index-within : {W' : List ℕ} {r : Step} → Indexed W v b a r W' → Within W W' X lo hi v
  index-within (empty leafy e er) = rw e same-within
  index-within (opens full w er) = lent-within (lent-to i.apart i.tree (sym (leaf-test cs i.tree) ∙ full) room refl i.grows w)

-- ---- a name

not-index : (k : Token) → is_array_name k.op ≡ true → is_index k ≡ false
not-index k e = no_index k (λ h. absurd (omega (arith, name-op k e)))

-- no index follows
starts_none : {W X : List ℕ} {v : Items} {lo hi : ℕ} {rest : Forest} → NextTo W X v lo hi left_bracket None rest
    → starts_with_index rest ≡ false
unfolding starts_with_index
starts_none (ended x) = refl
starts_none (differs {k = k} x y) = no_index k y

name-alone : {W W' X : List ℕ} {v : Items} {b lo hi : ℕ} {d : Forest} {k : Token} {rest : Forest} → W' ≡ set W (v.base + v.write) b
    → AtItem W X v b lo hi d k nil rest
    → is_array_name k.op ≡ true → starts_with_index rest ≡ false
    → TurnTo arrays W' X lo hi (walk_of v (Arrays 0 0)) (unindexed d) (node k nil rest)
    (Ok (On (walk_of (moved_to v v.read (v.write + 1)) (Arrays 0 0))))
unfolding count size waits flushed
name-alone {d = d} {k = k} {rest = rest} s i p bare =
    goes {s' = unindexed (node k nil d)} (record { owner = refl; base = refl; len = refl; classes = refl }) (item-holds array-left i s refl)
    (array-on (unindexed d) k nil rest (named d k) (name-waits d k p (not-index k p)) ∙ flush (named d k) rest bare) (omega arith)
    (omega arith) (omega arith)

-- The name at the slot b is an array, and its index comes next, at the slot c.
data NameIndex (W X : List ℕ) (v : Items) (b c lo hi : ℕ) (d : Forest) (k : Token) : Forest → Type 0 where
  next : {t : Token} {ts rest : Forest} → AtIndex W X v b c lo hi d (renamed array k) nil t ts rest
      → NameIndex W X v b c lo hi d k (node t ts rest)

module _ {W W1 : List ℕ} {v : Items} {b : ℕ} (e : W1 ≡ set W (slot_start b) (with_operator (operator_word_at W b) array)) where
  name-index : {X : List ℕ} {c lo m hi : ℕ} {d : Forest} {k : Token} {rest : Forest} → (i : AtItem W X v b lo hi d k nil rest)
      → i.m ≡ m → NextTo W X v m hi left_bracket (Some c) rest → NameIndex W1 X v b c lo hi d k rest
  name-index {X} i em (found {a = p} {m = m} {k = t} {cs = ts} {rest = rest} x o pos low tree ahead) =
      let bounds =
      item-bounds i in let beyond : b < p =
      omega arith in let below =
      i.below in let behind =
      i.behind in let within = i.within in let tl = tree.low in let th = tree-below tree in let le = ahead-le ahead in
      let other = set_other W W1 (slot_start b) (with_operator (operator_word_at W b) array) e in
      let long = set_long W W1 (slot_start b) (with_operator (operator_word_at W b) array) e in
      next
      (record {
        p = i.a;
        l = i.m;
        n = p;
        m = m;
        done = back-array-keep W W1 (λ s u x y z w. other (slot_start s + u) (omega arith)) (λ j x y. other j (omega arith)) i.done;
        grows = name-open e (omega arith) i.tree;
        apart = omega arith;
        tree = tree-keep W W1 (λ s u x y z w g. other (slot_start s + u) (omega arith)) tree;
        ahead = ahead-keep W W1 (λ s u x y z w. other (slot_start s + u) (omega arith)) (λ j x y. other j (omega arith)) ahead;
        bracket = o;
        behind = omega arith;
        below = below;
        within = omega arith;
      })

  name-within : {X : List ℕ} {lo hi : ℕ} {d : Forest} {k : Token} {rest : Forest} → AtItem W X v b lo hi d k nil rest
      → Within W W1 X lo hi v
  name-within i =
      let z = item-bounds i in
      record {
        kept =
            λ j f g.
            set_other W W1 (slot_start b) (with_operator (operator_word_at W b) array) e j
            (λ h. f b 0 (omega arith) (omega arith) (omega arith) (tree-out i.tree) (h ∙ omega arith));
        long = set_long W W1 (slot_start b) (with_operator (operator_word_at W b) array) e;
      }

name-can : {W1 X : List ℕ} {v : Items} {b c lo hi : ℕ} {d : Forest} {k : Token} {rest : Forest} → NameIndex W1 X v b c lo hi d k rest
    → CanIndex W1 v c b
name-can (next i) = can-index i

name-turn : {W1 W' X : List ℕ} {v : Items} {b c lo hi : ℕ} {d : Forest} {k : Token} {rest : Forest} {r : Step} → is_array_name k.op ≡ true
    → Indexed W1 v c b r W' → NameIndex W1 X v b c lo hi d k rest
    → TurnTo arrays W' X lo hi (walk_of v (Arrays 0 0)) (unindexed d) (node k nil rest) r
unfolding count size is_nil starts_with_index
name-turn {d = d} {k = k} isname w (next {t = t} {ts = ts} {rest = rest} i) =
    let starts = is-index t i.bracket in
    index-turn i 0
    (array-on (unindexed d) k nil (node t ts rest) (named d k) (name-waits d k isname (not-index k isname))
    ∙ lent-indexed d k (node t ts rest) starts)
    (omega arith) (omega arith) (λ h. absurd (true≢false h)) w

name-after : {W1 W' X : List ℕ} {v : Items} {b c lo hi : ℕ} {d : Forest} {k : Token} {rest : Forest} {r : Step} → Indexed W1 v c b r W'
    → NameIndex W1 X v b c lo hi d k rest → Within W1 W' X lo hi v
name-after w (next i) = index-within i w

module _ {W : List ℕ} {v : Items} {b : ℕ} where
  pub name-kept : None ≡ next_if W v left_bracket → (W' : List ℕ) (l : Items) (r : Turn)
      → W' ≡ set W (v.base + v.write) b → l ≡ moved_to v v.read (v.write + 1)
      → r ≡ On (walk_of l (Arrays 0 0))
      → NameTurned W v b (Ok r) W'
  name-kept e W' l r s el er =
      rw (er, el)
      (record {
        to = λ g p fine. name-alone s g.item p (starts_none (next_of left_bracket None e g.item.ahead));
        within = λ g. kept-within W W' g.item s;
      })

  module _ {W1 : List ℕ} (c : ℕ) (e : Some c ≡ next_if W v left_bracket)
      (s : W1 ≡ set W (slot_start b) (with_operator (operator_word_at W b) array)) where
    at-index : (g : AtToken W v b) → NameIndex W1 g.X v b c g.lo g.hi g.d g.k g.rest
    at-index g = name-index s g.item refl (next_of left_bracket (Some c) e g.item.ahead)

    pub name-can-index : AtToken W v b → CanIndex W1 v c b
    name-can-index g = name-can (at-index g)

    pub name-indexed : {W' : List ℕ} {r : Step} → Indexed W1 v c b r W' → NameTurned W v b r W'
    name-indexed w =
        record {
          to = λ g p fine. name-turn p w (at-index g);
          within = λ g. within-then refl refl (name-within s g.item) (name-after w (at-index g));
        }

-- ---- an array that waits

data Grows (W X : List ℕ) (v : Items) (a lo hi : ℕ) : Indexing → Forest → Type 0 where
  grows : {d contents rest : Forest} {q : Token} {p l m : ℕ} → BackArray W X v.base v.write lo p d → OpenArray W X a p l q contents
      → Ahead W X v.base v.read v.len m hi rest
      → l ≤ m → v.write ≤ v.read → (v.write < v.read) ⊎ (starts_with_index rest ≡ true) → slot_start hi ≤ v.base
      → v.base + v.len ≤ length W → length W < 2 ^ 32
      → Grows W X v a lo hi (indexed d q contents) rest

grows-side : {W X : List ℕ} {v : Items} {a lo l m hi : ℕ} {s : Indexing} {rest : Forest} → a ≢ 0
    → ArraySide W X v.base v.write lo l (Arrays a 0) s
    → Ahead W X v.base v.read v.len m hi rest → ArrayAgrees v s rest → l ≤ m → v.write ≤ v.read → slot_start hi ≤ v.base
    → v.base + v.len ≤ length W → length W < 2 ^ 32
    → Grows W X v a lo hi s rest
grows-side n (ArraySide.all done) ahead agrees mid behind below within small = absurd (n refl)
grows-side n (ArraySide.growing done o) ahead agrees mid behind below within small = grows done o ahead mid behind agrees below within small

-- The index that `next_if` found, at the slot c.
data NextIndex (W X : List ℕ) (v : Items) (a c lo hi : ℕ) (d : Forest) (q : Token) (contents : Forest) : Forest → Type 0 where
  next : {k : Token} {cs rest : Forest} → AtIndex W X v a c lo hi d q contents k cs rest
      → NextIndex W X v a c lo hi d q contents (node k cs rest)

next-index : {W X : List ℕ} {v : Items} {a c lo hi p l m : ℕ} {d contents rest : Forest} {q : Token}
    → BackArray W X v.base v.write lo p d → OpenArray W X a p l q contents → l ≤ m
    → v.write ≤ v.read → slot_start hi ≤ v.base → v.base + v.len ≤ length W → NextTo W X v m hi left_bracket (Some c) rest
    → NextIndex W X v a c lo hi d q contents rest
next-index {p = p} {l = l} done o mid behind below within (found {a = a'} {m = m'} x op pos low tree ahead) =
    NextIndex.next
    (record {
      p = p;
      l = l;
      n = a';
      m = m';
      done = done;
      grows = o;
      apart = omega arith;
      tree = tree;
      ahead = ahead;
      bracket = op;
      behind = behind;
      below = below;
      within = within;
    })

next-can : {W X : List ℕ} {v : Items} {a c lo hi : ℕ} {d contents rest : Forest} {q : Token} → NextIndex W X v a c lo hi d q contents rest
    → CanIndex W v c a
next-can (NextIndex.next i) = can-index i

next-turn : {W W' X : List ℕ} {v : Items} {a c lo hi : ℕ} {d contents rest : Forest} {q : Token} {r : Step} → Indexed W v c a r W'
    → NextIndex W X v a c lo hi d q contents rest
    → TurnTo arrays W' X lo hi (walk_of v (Arrays a 0)) (indexed d q contents) rest r × Within W W' X lo hi v
next-turn {a = a} w (NextIndex.next i) = unfold waits in (index-turn i a refl (le_refl _) (le_refl _) (λ h. refl) w, index-within i w)

module _ {W : List ℕ} {v : Items} {a : ℕ} (n : a ≢ 0) where
  -- what is shown of every array that waits holds of the turn
  by-array : (T : (κ : Kind) → List ℕ → ℕ → ℕ → State κ → Forest → Type 0)
      → ((X : List ℕ) (lo hi : ℕ) (s : Indexing) (rest : Forest) → Grows W X v a lo hi s rest → T arrays X lo hi s rest)
      → (g : CanTurn W (walk_of v (Arrays a 0))) → T g.κ g.X g.lo g.hi g.s g.rest
  by-array T f g = go g.κ g.X g.lo g.hi g.s g.rest g.holds.sides.runs g.holds
    where
      go : (κ : Kind) (X : List ℕ) (lo hi : ℕ) (s : State κ) (rest : Forest) → Runs κ (Arrays a 0)
          → Holds κ W X lo hi (walk_of v (Arrays a 0)) s rest → T κ X lo hi s rest
      go κ X lo hi s rest passes.array h =
          f X lo hi s rest
          (grows-side n h.sides.done h.sides.unread h.sides.agrees h.sides.mid h.turning.1 h.sides.below
          h.sides.within g.small)

  pub array-peek : CanTurn W (walk_of v (Arrays a 0)) → CanPeek W v
  array-peek = by-array (λ κ X lo hi s rest. CanPeek W v) go
    where
      go : (X : List ℕ) (lo hi : ℕ) (s : Indexing) (rest : Forest) → Grows W X v a lo hi s rest → CanPeek W v
      go X lo hi s rest (grows done o ahead mid behind agrees below within small) = can-peek v ahead below within

  pub array-can-round : CanTurn W (walk_of v (Arrays a 0)) → CanRound W a
  array-can-round = by-array (λ κ X lo hi s rest. CanRound W a) go
    where
      go : (X : List ℕ) (lo hi : ℕ) (s : Indexing) (rest : Forest) → Grows W X v a lo hi s rest → CanRound W a
      go X lo hi s rest (grows done o ahead mid behind agrees below within small) = can-round o (omega (arith, (ahead-le ahead).0))

  module _ (c : ℕ) (e : Some c ≡ next_if W v left_bracket) where
    pub array-can-index : CanTurn W (walk_of v (Arrays a 0)) → CanIndex W v c a
    array-can-index = by-array (λ κ X lo hi s rest. CanIndex W v c a) go
      where
        go : (X : List ℕ) (lo hi : ℕ) (s : Indexing) (rest : Forest) → Grows W X v a lo hi s rest → CanIndex W v c a
        go X lo hi s rest (grows done o ahead mid behind agrees below within small) =
            next-can (next-index done o mid behind below within (next_of left_bracket (Some c) e ahead))

    array-goes : {W' : List ℕ} {r : Step} → Indexed W v c a r W' → (X : List ℕ) (lo hi : ℕ) (s : Indexing) (rest : Forest)
        → Grows W X v a lo hi s rest
        → TurnTo arrays W' X lo hi (walk_of v (Arrays a 0)) s rest r × Within W W' X lo hi v
    array-goes w X lo hi s rest (grows done o ahead mid behind agrees below within small) =
        next-turn w (next-index done o mid behind below within (next_of left_bracket (Some c) e ahead))

    pub array-indexed : {W' : List ℕ} {r : Step} → Indexed W v c a r W' → Turned W (walk_of v (Arrays a 0)) r W'
    array-indexed {W'} {r} w =
        let all =
        by-array (λ κ X lo hi s rest. TurnTo κ W' X lo hi (walk_of v (Arrays a 0)) s rest r × Within W W' X lo hi v) (array-goes w) in
        record { to = λ g. (all g).0; within = λ g. (all g).1 }

  module _ (e : None ≡ next_if W v left_bracket) where
    -- something was read
    array_behind : {X : List ℕ} {m hi : ℕ} {rest : Forest} → (v.write < v.read) ⊎ (starts_with_index rest ≡ true)
        → NextTo W X v m hi left_bracket None rest → v.write < v.read
    array_behind (inl h) t = h
    array_behind (inr h) t = absurd (true≢false (sym h ∙ starts_none t))

    pub array-room : CanTurn W (walk_of v (Arrays a 0)) → v.base + v.write < length W
    array-room = by-array (λ κ X lo hi s rest. v.base + v.write < length W) go
      where
        go : (X : List ℕ) (lo hi : ℕ) (s : Indexing) (rest : Forest) → Grows W X v a lo hi s rest → v.base + v.write < length W
        go X lo hi s rest (grows done o ahead mid behind agrees below within small) =
            omega (arith, array_behind agrees (next_of left_bracket None e ahead), (ahead-le ahead).1)

    array-closes : {W1 W' : List ℕ} → Rounded W a W1 → W' ≡ set W1 (v.base + v.write) a
        → (X : List ℕ) (lo hi : ℕ) (s : Indexing) (rest : Forest) → Grows W X v a lo hi s rest
        → TurnTo arrays W' X lo hi (walk_of v (Arrays a 0)) s rest (Ok (On (walk_of (moved_to v v.read (v.write + 1)) (Arrays 0 0))))
        × Within W W' X lo hi v
    unfolding waits flushed
    array-closes {W1} {W'} w s' X lo hi s rest
        (grows {d = d} {contents = contents} {q = q} {p = p} {l = l} {m = m} done o ahead mid behind agrees below within small) =
        let nx = next_of left_bracket None e ahead in
        let less =
        array_behind agrees nx in let le = ahead-le ahead in let low = o.low in let high = o.high in let dl = back-le done.rep in
        let fits : slot_start l ≤ length W = omega arith in
        let slot = rounded-slot o fits w in
        let word = rounded-word o fits w in
        let i : AtItem W1 X v a lo hi d q (in_order contents) rest
        = record {
          a = p;
          m = m;
          done = back-array-keep W W1 (λ s u x y z g. slot s u z (inl (omega arith))) (λ j x y. word j (omega arith)) done;
          tree = tree-widen (le_refl p) mid (rounded-tree o fits w);
          ahead = ahead-keep W W1 (λ s u x y z g. slot s u z (inr (omega arith))) (λ j x y. word j (omega arith)) ahead;
          behind = less;
          below = below;
          within = omega (arith, w.long);
          small = omega (arith, w.long);
        } in (
          goes {s' = unindexed (node q (in_order contents) d)} (record { owner = refl; base = refl; len = refl; classes = refl })
              (item-holds array-left i s' refl)
              (flush (indexed d q contents) rest (starts_none nx)) (omega arith) (omega arith) (omega arith),
          within-then refl refl (record { kept = λ j f g. rounded-kept o fits w lo hi dl (omega arith) j f; long = w.long })
              (kept-within W1 W' i s'),
        )

    pub array-closed : {W1 : List ℕ} (W' : List ℕ) (l : Items) (r : Turn) → Rounded W a W1 → W' ≡ set W1 (v.base + v.write) a
        → l ≡ moved_to v v.read (v.write + 1) → r ≡ On (walk_of l (Arrays 0 0))
        → Turned W (walk_of v (Arrays a 0)) (Ok r) W'
    array-closed {W1} W' l r w s el er =
        let all
        =
        by-array
        (λ κ X lo hi s rest. TurnTo κ W' X lo hi (walk_of v (Arrays a 0)) s rest
        (Ok (On (walk_of (moved_to v v.read (v.write + 1)) (Arrays 0 0)))) × Within W W' X lo hi v)
        (array-closes w s) in
        rw (er, el) (record { to = λ g. (all g).0; within = λ g. (all g).1 })

-- ---- an item is taken back

side-gathers : {W X : List ℕ} {base write a b lo l m : ℕ} {t : Indexing} {kids : Forest} {k : Token} → a ≢ 0
    → ArraySide W X base write lo l (Arrays a 0) t → RepT W X b l m k kids
    → slot_start m ≤ length W → CanGather W a b
side-gathers n (ArraySide.all done) tree within = absurd (n refl)
side-gathers n (ArraySide.growing done o) tree within = can-gather o tree within

side-gathered : {W W' X : List ℕ} {v : Items} {a b lo l m hi : ℕ} {t : Indexing} {kids rest : Forest} {k : Token} → a ≢ 0
    → Gathered W a b W' → ArraySide W X v.base v.write lo l (Arrays a 0) t → RepT W X b l m k kids
    → Ahead W X v.base v.read v.len m hi rest → v.write < v.read → slot_start hi ≤ v.base → v.base + v.len ≤ length W
    → Holds arrays W' X lo hi (walk_of v (Arrays a 0)) (takes arrays t k kids) rest × Within W W' X lo hi v
unfolding takes array_level array_resume
side-gathered n w (ArraySide.all done) tree ahead behind below within = absurd (n refl)
side-gathered {W} {W'} {X} {lo = lo} {l = l} {m = m} {hi = hi} n w (ArraySide.growing {m = p} done o) tree ahead behind below within =
    let le =
    ahead-le ahead in let low =
    o.low in let high = o.high in let dl = back-le done.rep in let up = tree-below tree in let tl = tree.low in
    let fits : slot_start m ≤ length W = omega arith in
    let slot = gathered-slot o tree fits w in
    let word = gathered-word o tree fits w in (
      record {
        l = m;
        m = m;
        sides = sides-of passes.array
            (ArraySide.growing (back-array-keep W W' (λ s u x y z g. slot s u z (inl (omega arith))) (λ j x y. word j (omega arith)) done)
            (gathered-open o tree fits w))
            (ahead-keep W W' (λ s u x y z g. slot s u z (inr x)) (λ j x y. word j (omega arith)) ahead) (inl behind) (omega arith)
            (le_refl m) le.0 below (omega (arith, w.long));
        turning = (refl, omega arith);
      },
      record { kept = λ j f g. gathered-kept o tree fits w lo hi dl le.0 j f; long = w.long },
    )

side-kept : {W W' X : List ℕ} {v : Items} {a b lo l m hi : ℕ} {t : Indexing} {kids rest : Forest} {k : Token} → a ≡ 0
    → W' ≡ set W (v.base + v.write) b → ArraySide W X v.base v.write lo l (Arrays a 0) t → RepT W X b l m k kids
    → Ahead W X v.base v.read v.len m hi rest → v.write < v.read → slot_start hi ≤ v.base → v.base + v.len ≤ length W
    → length W < 2 ^ 32
    → Holds arrays W' X lo hi (walk_of (moved_to v v.read (v.write + 1)) (Arrays 0 0)) (takes arrays t k kids) rest
    × Within W W' X lo hi v
unfolding takes array_level array_resume
side-kept z s (ArraySide.growing done o) tree ahead behind below within small = absurd (omega (arith, o.pos))
side-kept {W} {W'} {X} {v} {b = b} {lo = lo} {l = l} {m = m} {hi = hi} {kids = kids} {rest = rest} {k = k} z s
    (ArraySide.all {d = d} done) tree ahead behind below within small =
    let i : AtItem W X v b lo hi d k kids rest =
    record { a = l; m = m; done = done; tree = tree; ahead = ahead; behind = behind; below = below; within = within; small = small } in
    (item-holds array-left i s refl, kept-within W W' i s)

module _ {W : List ℕ} {v : Items} {a b : ℕ} where
  pub resume-room : CanResume W (walk_of v (Arrays a 0)) b → v.base + v.write < length W
  resume-room g = go g.waits.sides.runs g.waits
    where
      go : {κ : Kind} {X : List ℕ} {lo l m hi : ℕ} {t : State κ} {rest : Forest} → Runs κ (Arrays a 0)
          → Waits κ W X lo l m hi (walk_of v (Arrays a 0)) t rest → v.base + v.write < length W
      go passes.array h = omega (arith, h.framed, ahead-le h.sides.unread, h.sides.within)

  -- the array takes the index's children
  module _ (n : a ≢ 0) where
    pub resume-gathers : CanResume W (walk_of v (Arrays a 0)) b → CanGather W a b
    resume-gathers g = go g.waits.sides.runs g.waits g.tree
      where
        go : {κ : Kind} {X : List ℕ} {lo l m hi : ℕ} {t : State κ} {rest kids : Forest} {k : Token} → Runs κ (Arrays a 0)
            → Waits κ W X lo l m hi (walk_of v (Arrays a 0)) t rest → RepT W X b l m k kids
            → CanGather W a b
        go passes.array h tree = side-gathers n h.sides.done tree (omega (arith, h.sides.high, h.sides.below, h.sides.within))

    gathered-by : {W' : List ℕ} → Gathered W a b W' → (g : CanResume W (walk_of v (Arrays a 0)) b)
        → Holds g.κ W' g.X g.lo g.hi (walk_of v (Arrays a 0)) (takes g.κ g.t g.k g.kids) g.rest
        × Within W W' g.X g.lo g.hi v
    gathered-by {W'} w g = go g.waits.sides.runs g.waits g.tree
      where
        go : {κ : Kind} {X : List ℕ} {lo l m hi : ℕ} {t : State κ} {rest kids : Forest} {k : Token} → Runs κ (Arrays a 0)
            → Waits κ W X lo l m hi (walk_of v (Arrays a 0)) t rest → RepT W X b l m k kids
            → Holds κ W' X lo hi (walk_of v (Arrays a 0)) (takes κ t k kids) rest × Within W W' X lo hi v
        go passes.array h tree = side-gathered n w h.sides.done tree h.sides.unread h.framed h.sides.below h.sides.within

    pub resumed-gathered : {W' : List ℕ} → Gathered W a b W' → Resumed W (walk_of v (Arrays a 0)) b (walk_of v (Arrays a 0)) W'
    resumed-gathered w =
        record {
          list = record { owner = refl; base = refl; len = refl; classes = refl };
          holds = λ g. (gathered-by w g).0;
          within = λ g. (gathered-by w g).1;
        }

  -- the list takes it
  module _ (z : a ≡ 0) {W' : List ℕ} (s : W' ≡ set W (v.base + v.write) b) where
    kept_by : (g : CanResume W (walk_of v (Arrays a 0)) b)
        → Holds g.κ W' g.X g.lo g.hi (walk_of (moved_to v v.read (v.write + 1)) (Arrays 0 0))
        (takes g.κ g.t g.k g.kids) g.rest × Within W W' g.X g.lo g.hi v
    kept_by g = go g.waits.sides.runs g.waits g.tree
      where
        go : {κ : Kind} {X : List ℕ} {lo l m hi : ℕ} {t : State κ} {rest kids : Forest} {k : Token} → Runs κ (Arrays a 0)
            → Waits κ W X lo l m hi (walk_of v (Arrays a 0)) t rest → RepT W X b l m k kids
            → Holds κ W' X lo hi (walk_of (moved_to v v.read (v.write + 1)) (Arrays 0 0)) (takes κ t k kids) rest × Within W W' X lo hi v
        go passes.array h tree =
            side-kept z s h.sides.done tree h.sides.unread h.framed h.sides.below h.sides.within g.small

    pub resumed-kept : (l : Items) → l ≡ moved_to v v.read (v.write + 1) → Resumed W (walk_of v (Arrays a 0)) b (walk_of l (Arrays a 0)) W'
    resumed-kept l el =
        subst (λ (x : ℕ). Resumed W (walk_of v (Arrays a 0)) b (walk_of l (Arrays x 0)) W') (sym z)
        (rw el (record {
          list = record { owner = refl; base = refl; len = refl; classes = refl };
          holds = λ g. (kept_by g).0;
          within = λ g. (kept_by g).1;
        }))
