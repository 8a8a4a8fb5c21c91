-- An array under work, from what the functions do to the words (specs/Arrays) to what it is of trees: it begins as a bare name, takes the
-- children of an index, lends its last child to an index that completes it, and is closed with its children in order.
use Prim.Native.Nat.{ℕ, ◌+◌, ◌≤◌, ◌<◌}
use mathlib.Core.{Path.{◌≡◌, refl, sym, ap, ◌∙◌, subst}, Logic.{◌≢◌, ◌⊎◌, inl, inr, ⊎_elim}, Bool.{Bool, true, false, true≢false}}
use mathlib.Core.List.{List, [], ◌∷◌}
use native.Mathlib.{Omega.{arith}, Nat.{le_refl}}
use borrow.Author.Tests.{eq-eqb, ne_eqb, eqb-true}
use lib.{Dec.{eqb}, ListN.{length, set}}
use Rattle.molang.specs.Operator.{left_bracket, array_variable, array, is_one_of, any, is_math_call, is_query_or_loop, between}
use Rattle.molang.specs.{Forest.{Token, Forest, nil, node, renamed, in_order, turned_onto}, Level.{into}, Conditional.{is_token}}
use Rattle.molang.specs.{Calls.{unindexed, indexed, is_index, starts_with_index, next_index}, Free.{is_nil}}
use Rattle.ops.{specs.Classes.{in_class, pass_classes, own_classes}, proofs.OperatorLaws.{false-at}}
use Rattle.words.specs.Fields.{with_operator}
use Rattle.nodes.specs.Store.{wd, slot_words, first_field, classes_field, slot_start, slot_end, first_word, next_word, operator_word_at, first_at}
use Rattle.nodes.specs.Store.{next_at, TokenAt, reserve, Chain, Inc, Out, OutFrom, onto, RepF, ends, more, RepT, Owned, RepB, begins, put}
use Rattle.nodes.specs.{Store.{Free}, Slots.{op_at, is_leaf_at, is_token_at}, declared.frames.List.{List as Items}}
use Rattle.nodes.proofs.Runs.{set_same, set_other, set_long, inc-le, out_below, out-above, off-above, off-word, off-out}
use Rattle.nodes.proofs.Tokens.{token-keep, token-op, token-renamed}
use Rattle.nodes.proofs.Store.{reserve-other, roots-inc, roots-above, rep-lower, rep-avoid, rep-keep, tree-below, tree-out, back-le}
use Rattle.nodes.proofs.{Store.{back_keep, back-onto, onto-back}, Classes.{roots-note}, Keeping.{free-inner, roots-off}}
use Rattle.nodes.proofs.Trees.{one_out, leaf_first, owned-tree, owned-leaf, token-test}
use Rattle.levels.specs.{Passes.{walk_of, moved_to}, Sides.{OpenArray}, declared.turns.Pass.TheVariants.{Arrays}, declared.turns.Turn.{Turn}}
use Rattle.levels.specs.declared.turns.Turn.TheVariants.{Enter}
use Rattle.std.specs.Prelude.{Option, None, Some, Ok, unwrap_or}
use Rattle.passes.specs.Arrays.{Apart, CanGather, Gathered, Dec, CanRound, Rounded, CanLend, Lent, nothing, name, Indexed, opens}
use Rattle.passes.proofs.ArrayChain.{dec-out}

-- ---- slots that fall

dec-raise : (cs : List ℕ) (top top' : ℕ) → top ≤ top' → Dec top cs → Dec top' cs
dec-raise [] top top' e h = tt
dec-raise (c ∷ cs) top top' e h = (omega (arith, h.0), h.1)

back-falls : {W X ds : List ℕ} {lo hi : ℕ} {d : Forest} → RepB W X ds lo hi d → Dec hi ds
back-falls (begins h) = tt
back-falls (put {b = b} {ds = ds} {l = l} r t h) = (omega (arith, tree-below t), dec-raise ds l b t.low (back-falls r))

apart_of : (cs ds : List ℕ) (l m : ℕ) → Inc l m cs → Dec l ds → Apart cs ds
apart_of [] ds l m i f = tt
apart_of (c ∷ cs) ds l m i f = (dec-out ds l c f i.0, apart_of cs ds (c + 1) m i.1 (dec-raise ds l (c + 1) (omega (arith, i.0)) f))

-- the first slot of a chain is 0, or below the bound of the chain's slots
back-first : {W X ds : List ℕ} {f lo hi : ℕ} {d : Forest} → Chain W f ds → RepB W X ds lo hi d → (f ≡ 0) ⊎ (f < hi)
back-first c (begins h) = inl c
back-first c (put r t h) = inr (omega (arith, c.0, tree-below t))

roots-first : {W X cs : List ℕ} {f lo hi : ℕ} {d : Forest} → Chain W f cs → RepF W X cs lo hi d → (f ≡ 0) ⊎ (f < hi)
roots-first {W} {cs = cs} {f = f} {lo = lo} {hi = hi} c r = go cs c (roots-inc r)
  where
    go : (cs : List ℕ) → Chain W f cs → Inc lo hi cs → (f ≡ 0) ⊎ (f < hi)
    go [] c i = inl c
    go (d ∷ cs) c i = inr (omega (arith, c.0, inc-le cs i.1))

-- ---- a name becomes an array

pub name-open : {W W' X : List ℕ} {b a m : ℕ} {k : Token} → W' ≡ set W (slot_start b) (with_operator (operator_word_at W b) array)
    → slot_end b ≤ length W → RepT W X b a m k nil
    → OpenArray W' X b a m (renamed array k) nil
unfolding renamed
name-open {W} {W'} {b = b} {m = m} e room t =
    let up : b + 1 ≤ m = omega (arith, tree-below t) in
    record {
      cs = [];
      low = t.low;
      high = tree-below t;
      pos = t.pos;
      out = tree-out t;
      token = token-renamed W W' b array e room (omega arith) t.token;
      is_array = refl;
      chain = set_other W W' (slot_start b) (with_operator (operator_word_at W b) array) e (first_word b) (omega arith) ∙ leaf_first t;
      kids = begins up;
    }

-- ---- the children of an index

module _ {W X : List ℕ} {a b lo l m : ℕ} {q k : Token} {contents kids : Forest} (o : OpenArray W X a lo l q contents)
    (t : RepT W X b l m k kids) (within : slot_start m ≤ length W) where
  gathering : CanGather W a b
  gathering =
      record {
        hi = m;
        cs = t.cs;
        ds = o.cs;
        chain = t.chain;
        gathered = o.chain;
        inc = roots-above t.kids (omega (arith, tree-below t));
        apart = apart_of t.cs o.cs l m (roots-inc t.kids) (back-falls o.kids);
        own = omega (arith, o.high, t.low, tree-below t);
        from = tree-below t;
        within = within;
      }

  pub can-gather : CanGather W a b
  can-gather = gathering

  module _ {W' : List ℕ} (w : Gathered W a b W') where
    pub gathered-open : OpenArray W' X a lo m q (turned_onto kids contents)
    unfolding gathering
    gathered-open =
        let ah = o.high in let up = tree-below t in let tl = t.low in
        let kid : RepF W (a ∷ X) t.cs l m kids = rep-avoid (λ s x y p. (omega arith, p.1)) t.kids in
        record {
          cs = onto t.cs o.cs;
          low = o.low;
          high = omega arith;
          pos = o.pos;
          out = o.out;
          token =
              token-keep W W' a
              (λ i x. w.same gathering (slot_start a + i) (omega arith) (off-word t.cs a i (omega arith) (omega arith))) o.token;
          is_array = o.is_array;
          chain = w.linked gathering;
          kids = onto-back
              (back_keep W W' (λ s i x y z p n. w.same gathering (slot_start s + i) (omega (arith, p.0))
              (off-out t.cs s i z (out_below t.cs l m (roots-inc t.kids) y))) o.kids)
              (rep-keep W W' (λ s i x y z p n. w.same gathering (slot_start s + i) (omega (arith, p.0))
              (⊎_elim (λ e. off-word t.cs s i z e) (λ e. off-out t.cs s i z e) n)) kid);
        }

    pub gathered-slot : (s i : ℕ) → i < slot_words → (s < a) ⊎ (m ≤ s) → wd W' (slot_start s + i) ≡ wd W (slot_start s + i)
    unfolding gathering
    gathered-slot s i x (inl h) =
        let ah = o.high in
        w.same gathering (slot_start s + i) (omega arith)
        (off-out t.cs s i x (out_below t.cs l m (roots-inc t.kids) (omega arith)))
    gathered-slot s i x (inr h) =
        let ah = o.high in let up = tree-below t in let tl = t.low in
        w.same gathering (slot_start s + i) (omega arith) (off-out t.cs s i x (out-above t.cs l m (roots-inc t.kids) h))

    pub gathered-word : (j : ℕ) → slot_start m ≤ j → wd W' j ≡ wd W j
    unfolding gathering
    gathered-word j h =
        let ah = o.high in let up = tree-below t in let tl = t.low in
        w.same gathering j (omega arith) (off-above t.cs l m (roots-inc t.kids) h)

    pub gathered-kept : (lo' hi' : ℕ) → lo' ≤ lo → m ≤ hi' → (j : ℕ) → Free X lo' hi' j → wd W' j ≡ wd W j
    unfolding gathering
    gathered-kept lo' hi' low high j f =
        let ah = o.high in let al = o.low in let up = tree-below t in let tl = t.low in
        w.same gathering j (f a first_field (omega arith) (omega arith) (omega arith) o.out)
        (roots-off j t.kids (free-inner b X lo' hi' l m j (omega arith) high f))

-- ---- the array is closed

-- the operator of an array is in no class
no-class : (n : ℕ) → n ≡ array → (i : ℕ) → i < 32 → in_class i n ≡ false
unfolding in_class pass_classes own_classes is_query_or_loop is_math_call is_one_of any between
no-class n e i h = rw e (sym (false-at (λ i. in_class i 63) 0 32 tt i (omega arith) h))

array-tree : {W X : List ℕ} {a lo hi : ℕ} {q : Token} (f : Forest) → TokenAt W a q → q.op ≡ array → 0 < a → Out a X → lo ≤ a → a < hi
    → Owned W X a lo hi f → RepT W X a lo hi q f
array-tree {X = X} {a = a} {q = q} nil token is pos out low high v =
    let one : reserve q nil ≡ 1 = reserve-other q (λ e. absurd (omega arith)) (λ e. absurd (omega arith)) in
    owned-leaf token pos (subst (λ (n : ℕ). OutFrom a n X) (sym one) (one_out a X out)) low (omega arith) (no-class q.op is) v
array-tree (node c cs r) token is pos out low high v = owned-tree token pos out low high v

module _ {W X : List ℕ} {a lo l : ℕ} {q : Token} {contents : Forest} (o : OpenArray W X a lo l q contents)
    (within : slot_start l ≤ length W) where
  rounding : CanRound W a
  rounding = record { hi = l; cs = o.cs; chain = o.chain; falls = back-falls o.kids; own = o.high; within = within }

  pub can-round : CanRound W a
  can-round = rounding

  in_order_lem : RepF W (a ∷ X) (onto o.cs []) (a + 1) l (in_order contents)
  in_order_lem = unfold in_order in back-onto o.kids (ends (le_refl l))

  module _ {W' : List ℕ} (w : Rounded W a W') where
    pub rounded-tree : RepT W' X a lo l q (in_order contents)
    unfolding rounding
    rounded-tree =
        let low = o.low in
        array-tree (in_order contents)
        (token-keep W W' a (λ i x. w.same rounding (slot_start a + i) (omega arith) (omega arith)
        (off-word (onto o.cs []) a i (omega arith) (omega arith))) o.token)
        o.is_array o.pos o.out low o.high
        (record {
          cs = onto o.cs [];
          chain = w.linked rounding;
          notes = record { bits = λ i h. w.classes rounding i ∙ roots-note in_order_lem i h };
          kids = rep-lower (omega arith)
              (rep-keep W W' (λ s i x y z p n. w.same rounding (slot_start s + i) (omega (arith, p.0)) (omega (arith, p.0))
              (⊎_elim (λ e. off-word (onto o.cs []) s i z e) (λ e. off-out (onto o.cs []) s i z e) n))
              in_order_lem);
        })

    pub rounded-slot : (s i : ℕ) → i < slot_words → (s < a) ⊎ (l ≤ s) → wd W' (slot_start s + i) ≡ wd W (slot_start s + i)
    unfolding rounding
    rounded-slot s i x (inl h) =
        w.same rounding (slot_start s + i) (omega arith) (omega arith)
        (off-out (onto o.cs []) s i x (out_below (onto o.cs []) (a + 1) l (roots-inc in_order_lem) (omega arith)))
    rounded-slot s i x (inr h) =
        let ah = o.high in
        w.same rounding (slot_start s + i) (omega arith) (omega arith)
        (off-out (onto o.cs []) s i x (out-above (onto o.cs []) (a + 1) l (roots-inc in_order_lem) h))

    pub rounded-word : (j : ℕ) → slot_start l ≤ j → wd W' j ≡ wd W j
    unfolding rounding
    rounded-word j h =
        let ah = o.high in w.same rounding j (omega arith) (omega arith) (off-above (onto o.cs []) (a + 1) l (roots-inc in_order_lem) h)

    pub rounded-kept : (lo' hi' : ℕ) → lo' ≤ lo → l ≤ hi' → (j : ℕ) → Free X lo' hi' j → wd W' j ≡ wd W j
    unfolding rounding
    rounded-kept lo' hi' low high j f =
        let ah = o.high in let al = o.low in
        let own : lo' ≤ a = omega arith in let up : a < hi' = omega arith in
        w.same rounding j (f a first_field own up (omega arith) o.out) (f a classes_field own up (omega arith) o.out)
        (roots-off j in_order_lem (free-inner a X lo' hi' (a + 1) l j (omega arith) high f))

-- ---- `lend_name`, by its words

module _ {W : List ℕ} {a b : ℕ} where
  pub lent-no-child : (f : ℕ) → f ≡ first_at W a → f ≡ 0 → Lent W a b None W
  lent-no-child f e z = nothing refl refl (inl (sym e ∙ z))

  pub lent-no-name : (f : ℕ) (t : Bool) → f ≡ first_at W a → t ≡ is_token_at W f array_variable → t ≡ false → Lent W a b None W
  lent-no-name f t e h z = nothing refl refl (inr (inl (ap (λ (x : ℕ). is_token_at W x array_variable) (sym e) ∙ sym h ∙ z)))

  pub lent-no-index : (f n : ℕ) → f ≡ first_at W b → n ≡ op_at W f → n ≢ left_bracket → Lent W a b None W
  lent-no-index f n e h z = nothing refl refl (inr (inr (λ y. z (h ∙ ap (λ (x : ℕ). op_at W x) e ∙ y))))

  pub lent-name : {W1 W' : List ℕ} (r f n rest : ℕ) (t : Bool) → r ≢ 0 → r ≡ first_at W a → t ≡ is_token_at W r array_variable → t ≡ true
      → f ≡ first_at W b → n ≡ op_at W f → n ≡ left_bracket
      → rest ≡ next_at W r → W1 ≡ set W (first_word a) rest → W' ≡ set W1 (slot_start r) (with_operator (operator_word_at W1 r) array)
      → Lent W a b (Some r) W'
  lent-name {W1} r f n rest t nz er et z ef en zn es e1 e2 =
      name refl nz er (sym et ∙ z) (ap (λ (x : ℕ). op_at W x) (sym ef) ∙ sym en ∙ zn) (subst (λ (x : ℕ). W1 ≡ set W (first_word a) x) es e1) e2

-- an index that is entered
pub index-opens : {W W' : List ℕ} {v : Items} {b a x : ℕ} {lent : Option ℕ} {r : Turn} (v' : Items) → is_leaf_at W b ≡ false
    → Lent W a b lent W' → x ≡ unwrap_or lent 0 → v' ≡ moved_to v (v.read + 1) v.write
    → r ≡ Enter (walk_of v' (Arrays a x)) b → Indexed W v b a (Ok r) W'
index-opens v' full w ex e er = opens full w (ap Ok (rw (er, e, ex) refl))

-- ---- what is lent

-- the slots that it reads
pub can-lend : {W X : List ℕ} {a b lo l n m : ℕ} {q k : Token} {contents cs : Forest} → OpenArray W X a lo l q contents
    → RepT W X b n m k cs → l ≤ n → slot_start m ≤ length W → CanLend W a b
can-lend o t apart within =
    let ah = o.high in let up = tree-below t in let tl = t.low in
    record {
      own = omega arith;
      from = omega arith;
      last = ⊎_elim (λ e. omega arith) (λ e. omega arith) (back-first o.chain o.kids);
      contents = ⊎_elim (λ e. omega arith) (λ e. omega arith) (roots-first t.chain t.kids);
    }

first-op : {W X cs : List ℕ} {lo hi : ℕ} {t : Token} {k g : Forest} (f : ℕ) → Chain W f cs → RepF W X cs lo hi (node t k g)
    → op_at W f ≡ t.op
first-op {W} f c (more a b d z o t n ch k r) = ap (λ (x : ℕ). op_at W x) c.0 ∙ token-op t

-- whether the index's contents begin with an index
starts-index : {W X : List ℕ} {b n m : ℕ} {k : Token} (cs : Forest) → is_nil cs ≡ false → RepT W X b n m k cs
    → starts_with_index cs ≡ eqb (op_at W (first_at W b)) left_bracket
unfolding starts_with_index is_index is_nil
starts-index nil e t = absurd (true≢false e)
starts-index {W} {b = b} (node c cs r) e t = rw (first-op (first_at W b) t.chain t.kids) refl

lends-not : {W Y cs : List ℕ} {f lo hi : ℕ} {contents : Forest} (d : Forest) (q : Token) (inner : Forest) → Chain W f cs
    → RepB W Y cs lo hi contents
    → (f ≡ 0) ⊎ ((is_token_at W f array_variable ≡ false) ⊎ (starts_with_index inner ≡ false))
    → next_index d q contents inner ≡ into (indexed d q contents) (unindexed nil)
unfolding next_index is_token
lends-not d q inner c (begins h) z = refl
lends-not {W} {Y} {f = f} d q inner c (put {b = b} {l = l} {m = m} {d = contents} {t = t} {k = k} r v h) z = go k v z
  where
    second : (x : Bool) → eqb t.op array_variable ≡ x → starts_with_index inner ≡ false
        → next_index d q (node t nil contents) inner ≡ into (indexed d q (node t nil contents)) (unindexed nil)
    second true e i = rw (e, next_index) (rw (i, next_index) refl)
    second false e i = rw (e, next_index) refl

    go : (k : Forest) → RepT W Y b l m t k → (f ≡ 0) ⊎ ((is_token_at W f array_variable ≡ false) ⊎ (starts_with_index inner ≡ false))
        → next_index d q (node t k contents) inner ≡ into (indexed d q (node t k contents)) (unindexed nil)
    go (node x xs y) v z = refl
    go nil v (inl z) = absurd (omega (arith, c.0, c.1))
    go nil v (inr (inl z)) =
        let e : eqb t.op array_variable ≡ false =
        sym (token-test array_variable nil v) ∙ ap (λ (x : ℕ). is_token_at W x array_variable) (sym c.0) ∙ z in
        rw (e, next_index) refl
    go nil v (inr (inr z)) = second (eqb t.op array_variable) refl z

-- The last child of a chain is a bare name.
data LastName (W Y : List ℕ) (r lo l : ℕ) : Forest → Type 0 where
  last : {t : Token} {contents : Forest} {ds : List ℕ} {p m : ℕ} → t.op ≡ array_variable → Chain W (next_at W r) ds
      → RepB W Y ds lo p contents → RepT W Y r p m t nil → m ≤ l
      → LastName W Y r lo l (node t nil contents)

last_name : {W Y cs : List ℕ} {r lo l : ℕ} {contents : Forest} → Chain W r cs → RepB W Y cs lo l contents → r ≢ 0
    → is_token_at W r array_variable ≡ true → LastName W Y r lo l contents
unfolding is_token
last_name c (begins h) n e = absurd (n c)
last_name {W} {Y} {r = r} {lo = lo} {l = hi} c (put {b = b} {ds = ds} {l = l} {m = m} {d = contents} {t = t} {k = k} before v h) n e =
    let here : b ≡ r = sym c.0 in
    go k (subst (λ (x : ℕ). RepT W Y x l m t k) here v) (subst (λ (x : ℕ). Chain W (next_at W x) ds) here c.2)
  where
    go : (k : Forest) → RepT W Y r l m t k → Chain W (next_at W r) ds → LastName W Y r lo hi (node t k contents)
    go nil v ch = last (eqb-true t.op array_variable (sym (token-test array_variable nil v) ∙ e)) ch before v h
    go (node x xs y) v ch = absurd (true≢false (sym e ∙ token-test array_variable (node x xs y) v))

-- What an index begins with: nothing is lent, or the array's last child, as an array in the slots from p to n.
pub data LentTo (W W' X : List ℕ) (a b lo l n r : ℕ) (q : Token) (cs contents : Forest) : Type 0 where
  none : r ≡ 0 → W' ≡ W → ((d : Forest) → next_index d q contents cs ≡ into (indexed d q contents) (unindexed nil))
      → LentTo W W' X a b lo l n r q cs contents
  some : {t : Token} {inner : Forest} {p : ℕ} → contents ≡ node t nil inner → t.op ≡ array_variable → starts_with_index cs ≡ true → p ≤ l
      → OpenArray W' X a lo p q inner
      → OpenArray W' (b ∷ X) r p n (renamed array t) nil → ((j : ℕ) → j ≢ first_word a → j ≢ slot_start r → wd W' j ≡ wd W j)
      → length W' ≡ length W → Out r X → LentTo W W' X a b lo l n r q cs contents

module _ {W W' X : List ℕ} {a b lo l n m r : ℕ} {q k : Token} {cs : Forest} (apart : l ≤ n) (t : RepT W X b n m k cs)
    (full : is_nil cs ≡ false) (within : slot_start m ≤ length W) where
  lends : {W1 : List ℕ} {contents : Forest} → OpenArray W X a lo l q contents → starts_with_index cs ≡ true
      → W1 ≡ set W (first_word a) (next_at W r) → W' ≡ set W1 (slot_start r) (with_operator (operator_word_at W1 r) array)
      → LastName W (a ∷ X) r (a + 1) l contents → LentTo W W' X a b lo l n r q cs contents
  unfolding renamed
  lends {W1} o starts e1 e2 (last {t = x} {contents = contents} {ds = ds} {p = p} {m = mx} op ch before v h) =
      let long1 = set_long W W1 (first_word a) (next_at W r) e1 in
      let other1 = set_other W W1 (first_word a) (next_at W r) e1 in
      let other2 = set_other W1 W' (slot_start r) (with_operator (operator_word_at W1 r) array) e2 in
      let up =
      tree-below t in let tl = t.low in let vl = v.low in let vh = tree-below v in let ap' = back-le before in let ah = o.high in
      let other : (j : ℕ) → j ≢ first_word a → j ≢ slot_start r → wd W' j ≡ wd W j = λ j y z. other2 j z ∙ other1 j y in
      let first : first_at W' a ≡ next_at W r =
      other2 (first_word a) (omega arith) ∙ set_same W W1 (first_word a) (next_at W r) e1 (omega arith) in
      let high : r + 1 ≤ n = omega arith in
      some {p = p} refl op starts (omega arith)
      (record {
        cs = ds;
        low = o.low;
        high = omega arith;
        pos = o.pos;
        out = o.out;
        token = token-keep W W' a (λ i z. other (slot_start a + i) (omega arith) (omega arith)) o.token;
        is_array = o.is_array;
        chain = subst (λ (z : ℕ). Chain W' z ds) (sym first) (links ds (next_at W r) other ch);
        kids = back_keep W W' (λ s i y z u w g. other (slot_start s + i) (omega (arith, w.0)) (omega arith)) before;
      })
      (record {
        cs = [];
        low = vl;
        high = omega arith;
        pos = v.pos;
        out = (omega arith, (tree-out v).1);
        token =
            token-renamed W1 W' r array e2 (omega arith) (omega arith)
            (token-keep W W1 r (λ i z. other1 (slot_start r + i) (omega arith)) v.token);
        is_array = refl;
        chain = other (first_word r) (omega arith) (omega arith) ∙ leaf_first v;
        kids = begins high;
      })
      other (set_long W1 W' (slot_start r) (with_operator (operator_word_at W1 r) array) e2 ∙ long1) (tree-out v).1
    where
      links : (ds : List ℕ) (f : ℕ) → ((j : ℕ) → j ≢ first_word a → j ≢ slot_start r → wd W' j ≡ wd W j) → Chain W f ds → Chain W' f ds
      links [] f other c = c
      links (d ∷ ds) f other c = (
        c.0,
        c.1,
        subst (λ (z : ℕ). Chain W' z ds) (sym (other (next_word d) (omega arith) (omega arith)))
            (links ds (next_at W d) other c.2),
      )

  pub lent-to : {x : Option ℕ} {contents : Forest} → r ≡ unwrap_or x 0 → OpenArray W X a lo l q contents → Lent W a b x W'
      → LentTo W W' X a b lo l n r q cs contents
  lent-to is o (nothing e z why) =
      none (is ∙ ap (λ (y : Option ℕ). unwrap_or y 0) e) z
      (λ d. lends-not d q cs o.chain o.kids
      (⊎_elim (λ x. inl x) (λ x. inr (⊎_elim (λ y. inl y)
      (λ y. inr (starts-index cs full t ∙ ne_eqb (op_at W (first_at W b)) left_bracket y)) x)) why))
  lent-to is o (name {n = k} {W1 = W1} e nz er et ei e1 e2) =
      let same : k ≡ r = sym (is ∙ ap (λ (y : Option ℕ). unwrap_or y 0) e) in
      let last : r ≡ first_at W a = sym same ∙ er in
      lends o (starts-index cs full t ∙ eq-eqb (op_at W (first_at W b)) left_bracket ei)
      (subst (λ (y : ℕ). W1 ≡ set W (first_word a) (next_at W y)) same e1)
      (subst (λ (y : ℕ). W' ≡ set W1 (slot_start y) (with_operator (operator_word_at W1 y) array)) same e2)
      (last_name (subst (λ (x : ℕ). Chain W x o.cs) (sym last) o.chain) o.kids (λ z. nz (same ∙ z))
      (subst (λ (y : ℕ). is_token_at W y array_variable ≡ true) same et))
