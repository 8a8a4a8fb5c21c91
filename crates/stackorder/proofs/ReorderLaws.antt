-- The walk. What is out so far and what is to come of the open nodes and the unread trees is the whole tree in stack order; each turn takes
-- one node to what is out, or from the unread trees to the open nodes (`turn-again`). So much is left to be read and written, and each turn
-- leaves less (`turn-less`). Assumes nothing.
use Prim.Native.Nat.{ℕ, suc, ◌+◌, ◌*◌, ◌-◌, ◌^◌, ◌≤◌, ◌<◌}
use mathlib.Core.{Path.{◌≡◌, refl, ap, sym, ◌∙◌, subst}, Logic.{◌≢◌, inl, inr}, List.{List, [], ◌∷◌, ◌++◌, append_assoc, append-nil}}
use native.Mathlib.{Omega.{arith}, Nat.{add-zero, zero-add}}
use lib.ListN.{length, get_or, length-append}
use Rattle.molang.specs.{Forest.{Token, Forest, nil, node, count, size}, Words.{low_of, token_words, node_words_of}, WriteEntry.{most_nodes}}
use Rattle.molang.specs.Parse.{in_front}
use Rattle.molang.proofs.{Trees.{count-size}, Bounds.{tree_words-length}, StackOrder.{stack_words-length}, Words.{low_word}}
use Rattle.words.specs.Tokens.{node_length}
use Rattle.stackorder.specs.{declared.reorder.Direction.{Direction}, declared.reorder.Direction.TheVariants.{Forward, Backward}}
use Rattle.stackorder.specs.declared.reorder.Cursor.{Cursor}
use Rattle.stackorder.specs.Reorder.{read_in, written_in, CanReorder, first_end, next_end, other_way, EndsIn, node_at, children_at, CanTurn}
use Rattle.stackorder.specs.Reorder.{copied, on_leaving, on_passing, on_entering, waiting, Turned, leaves, passes, enters}
use Rattle.stackorder.proofs.Orders.{joined, from_left, preorder, stack_order, preorder-length, stack_order-length, preorder-sevens}
use Rattle.stackorder.proofs.Orders.{seen, seen-count, seen_size, read-words, written-words}
use Rattle.stackorder.proofs.Standing.{start_of, end_of, to_go, end-start, end-within, end-next, end_back, end-past, end-to-go}
use Rattle.stackorder.proofs.Standing.{start-apart, start-within, Kept, laid-length, laid_kept, laid-past, laid-node, stored-length}
use Rattle.stackorder.proofs.Standing.{stored-first, stored-second, stored-kept, stored_past, Stands, stands-kept, stands-more}
use Rattle.stackorder.proofs.Standing.{stands-out, front_of, end-first, end-last, stands-in}

-- An open node that waits: its end, and its children that are not read.
pub record Open : Type 0 where
  pub to : ℕ
  pub trees : Forest

-- What is unread of the nodes that wait, the last one first.
abbrev unread_of : List Open → List (List ℕ)
unread_of [] = []
unread_of (o ∷ os) = preorder o.trees ++ unread_of os

-- What comes after the trees of the innermost open node, which ends at `to`: the node itself, the trees of the one that waits, and so on.
-- Whatever is the innermost when none waits does not come out.
abbrev comes_after : List ℕ → ℕ → List Open → List (List ℕ)
comes_after W to [] = []
comes_after W to (o ∷ os) = node_at W (to - node_length) ∷ (stack_order o.trees ++ comes_after W o.to os)

-- The nodes that wait are more than what is unread of them, by themselves.
after-length : (W : List ℕ) (to : ℕ) (os : List Open) → length (comes_after W to os) ≡ length (unread_of os) + length os
after-length W to [] = refl
after-length W to (o ∷ os) =
    omega (
      arith,
      length-append (stack_order o.trees) (comes_after W o.to os),
      length-append (preorder o.trees) (unread_of os),
      stack_order-length o.trees,
      preorder-length o.trees,
      after-length W o.to os,
    )

-- The nodes that wait, the last one first, stand in the words that are written last.
abbrev Held : Direction → ℕ → List ℕ → List Open → Type 0
Held d n Z [] = Unit {0}
Held d n Z (o ∷ os) =
    let at = start_of d n (n - suc (length os)) in
    EndsIn (node_length * n) o.to × (get_or Z at 0 ≡ o.to) × (get_or Z (at + 1) 0 ≡ count o.trees) × Held d n Z os

held_kept : (d : Direction) (n : ℕ) (Z Z' : List ℕ) (os : List Open) → length os ≤ n
    → ((k : ℕ) → n - length os ≤ k → k < n → Kept Z Z' (start_of d n k)) → Held d n Z os → Held d n Z' os
held_kept d n Z Z' [] l h p = tt
held_kept d n Z Z' (o ∷ os) l h p =
    let k = n - suc (length os) in
    let same = h k (omega arith) (omega arith) in
    let first : get_or Z' (start_of d n k) 0 ≡ get_or Z (start_of d n k) 0 = rw add-zero at (same 0 (omega arith)) in
    let later = held_kept d n Z Z' os (omega arith) (λ m a b. h m (omega arith) b) p.3 in
    (p.0, first ∙ p.1, same 1 (omega arith) ∙ p.2, later)

-- The way that is left, to read and to write.
abbrev pub way_of : Direction → List ℕ → Cursor → ℕ
way_of d W c = to_go d (length W) c.read + to_go d (length W) c.written

no-nodes : (xs : List (List ℕ)) → length xs ≡ 0 → xs ≡ []
no-nodes [] e = refl
no-nodes (x ∷ xs) e = absurd (omega arith)

-- A node's words end in its child count and where it closes.
counted : (W : List ℕ) (p : ℕ) (k : Token) (m : ℕ) → m < 2 ^ 29 → node_at W p ≡ node_words_of k m → children_at W p ≡ m
unfolding node_words_of token_words
counted W p k m h e = ap (λ (ws : List ℕ). low_of (get_or ws 5 0)) e ∙ low_word 6 m h

module _ (d : Direction) (W O : List ℕ) (n : ℕ) (F : Forest) (long : length W ≡ node_length * n) (room : length W ≤ length O)
    (few : n ≤ most_nodes) (sized : size F ≡ n)
  where
    -- At the loop's test: the nodes that are out, how many are read, the unread trees of the innermost open node and the others that wait.
    pub record At (Z : List ℕ) (c : Cursor) (trees : Forest) (opens : List Open) : Type 0 where
      pub done : List (List ℕ)
      pub i : ℕ
      pub read : c.read ≡ end_of d n i
      pub written : c.written ≡ end_of d n (length done)
      pub free : c.free ≡ end_of d n (n - suc (length opens))
      pub left : c.left ≡ count trees
      pub node : EndsIn (node_length * n) c.node
      pub unread : Stands d n W i (preorder trees ++ unread_of opens)
      pub all : i + (size trees + length (unread_of opens)) ≡ n
      pub standing : Stands d n Z 0 done
      pub held : Held d n Z opens
      pub inside : length opens < n
      pub whole : stack_order F ≡ done ++ (stack_order trees ++ comes_after W c.node opens)
      pub same-long : length Z ≡ length O
      pub same : (j : ℕ) → node_length * n ≤ j → get_or Z j 0 ≡ get_or O j 0

    -- What is out and what is to come are all nodes.
    come-all : {Z : List ℕ} {c : Cursor} {trees : Forest} {opens : List Open} (v : At Z c trees opens)
        → length v.done + (size trees + length (unread_of opens) + length opens) ≡ n
    come-all {c = c} {trees = trees} {opens = opens} v =
        omega (
          arith,
          ap length v.whole,
          stack_order-length F,
          length-append v.done (stack_order trees ++ comes_after W c.node opens),
          length-append (stack_order trees) (comes_after W c.node opens),
          stack_order-length trees,
          after-length W c.node opens,
        )

    -- ---- a node goes out

    record Out (Z' : List ℕ) (done : List (List ℕ)) (x : List ℕ) (os : List Open) : Type 0 where
      standing : Stands d n Z' 0 (done ++ x ∷ [])
      held : Held d n Z' os
      same-long : length Z' ≡ length O
      same : (j : ℕ) → node_length * n ≤ j → get_or Z' j 0 ≡ get_or O j 0

    put-out : {Z : List ℕ} {c : Cursor} {trees : Forest} {opens : List Open} (v : At Z c trees opens) (from : ℕ) (os : List Open)
        → length v.done + suc (length os) ≤ n → Held d n Z os
        → Out (copied W from c.written Z) v.done (node_at W (from - node_length)) os
    put-out {Z} {c} v from os h held =
        let t = length v.done in
        let q = start_of d n t in
        let x = node_at W (from - node_length) in
        let index : c.written - node_length ≡ q = omega (arith, v.written, end-start d n t (omega arith)) in
        let fits : q + node_length ≤ length Z = omega (arith, start-within d n t (omega arith), v.same-long) in
        rw index
        (record {
          standing = stands-more d n _ 0 v.done x
              (stands-kept d n Z _ 0 v.done
              (λ k b. laid_kept x Z q refl fits (start_of d n k) (start-apart d n k t (inl (omega arith)) (omega arith) (omega arith)))
              v.standing)
              (rw (zero-add t) (laid-node W Z (from - node_length) q fits));
          held = held_kept d n Z _ os (omega arith)
              (λ k a b. laid_kept x Z q refl fits (start_of d n k) (start-apart d n k t (inr (omega arith)) b (omega arith))) held;
          same-long = laid-length x Z q refl fits ∙ v.same-long;
          same = λ j b. laid-past x Z q refl fits j (omega (arith, start-within d n t (omega arith))) ∙ v.same j b;
        })

    -- The next node to be written, after one more.
    written_next : {Z : List ℕ} {c : Cursor} {trees : Forest} {opens : List Open} (v : At Z c trees opens) (x : List ℕ)
        → length v.done < n
        → next_end d c.written ≡ end_of d n (length (v.done ++ x ∷ []))
    written_next v x h =
        let more : length (v.done ++ x ∷ []) ≡ suc (length v.done) = length-append v.done (x ∷ []) ∙ omega arith in
        rw (v.written, more) (end-next d n (length v.done) h)

    -- The last node that waits.
    popped : {Z : List ℕ} {c : Cursor} {trees : Forest} (o : Open) (os : List Open) → At Z c trees (o ∷ os)
        → next_end d c.free ≡ end_of d n (n - suc (length os))
    popped o os v =
        let l = length os in
        let more : suc (n - suc (suc l)) ≡ n - suc l = omega (arith, v.inside) in
        rw v.free (end-next d n (n - suc (suc l)) (omega (arith, v.inside)) ∙ ap (end_of d n) more)

    popped-start : {Z : List ℕ} {c : Cursor} {trees : Forest} (o : Open) (os : List Open) → At Z c trees (o ∷ os)
        → next_end d c.free - node_length ≡ start_of d n (n - suc (length os))
    popped-start o os v =
        omega (arith, popped o os v, end-start d n (n - suc (length os)) (omega (arith, v.inside)))

    -- The innermost node goes out.
    leave-again : {Z : List ℕ} {c : Cursor} (o : Open) (os : List Open) → At Z c nil (o ∷ os)
        → At (copied W c.node c.written Z) (on_leaving d Z c) o.trees os
    unfolding size
    leave-again {Z} {c} o os v =
        let x = node_at W (c.node - node_length) in
        let came = come-all v in
        let row = length-append (preorder o.trees) (unread_of os) in
        let below = preorder-length o.trees in
        let out = put-out v c.node os (omega arith) v.held.3 in
        let index = popped-start o os v in
        let to : get_or Z (next_end d c.free - node_length) 0 ≡ o.to = rw index v.held.1 in
        record {
          done = v.done ++ x ∷ [];
          i = v.i;
          read = v.read;
          written = written_next v x (omega arith);
          free = popped o os v;
          left = rw index v.held.2;
          node = rw to v.held.0;
          unread = v.unread;
          all = omega (arith, v.all);
          standing = out.standing;
          held = out.held;
          inside = omega (arith, v.inside);
          whole = v.whole ∙ (sym (append_assoc v.done (x ∷ []) (stack_order o.trees ++ comes_after W o.to os))
              ∙ ap (λ (m : ℕ). (v.done ++ x ∷ []) ++ (stack_order o.trees ++ comes_after W m os)) (sym to));
          same-long = out.same-long;
          same = out.same;
        }

    -- The next node to be read.
    read-start : {Z : List ℕ} {c : Cursor} {trees : Forest} {opens : List Open} (v : At Z c trees opens) → v.i < n
        → c.read - node_length ≡ start_of d n v.i
    read-start v h = omega (arith, v.read, end-start d n v.i h)

    read_next : {Z : List ℕ} {c : Cursor} {trees : Forest} {opens : List Open} (v : At Z c trees opens) → v.i < n
        → next_end d c.read ≡ end_of d n (suc v.i)
    read_next v h = rw v.read (end-next d n v.i h)

    -- A leaf goes out.
    pass-again : {Z : List ℕ} {c : Cursor} (k : Token) (rest : Forest) (opens : List Open) → At Z c (node k nil rest) opens
        → At (copied W c.read c.written Z) (on_passing d c) rest opens
    unfolding size count
    pass-again {Z} {c} k rest opens v =
        let x = node_at W (c.read - node_length) in
        let came = come-all v in
        let out = put-out v c.read opens (omega arith) v.held in
        let own : x ≡ node_words_of k (count nil) = rw (read-start v (omega (arith, v.all))) v.unread.0 in
        record {
          done = v.done ++ x ∷ [];
          i = suc v.i;
          read = read_next v (omega (arith, v.all));
          written = written_next v x (omega arith);
          free = v.free;
          left = omega (arith, v.left);
          node = v.node;
          unread = v.unread.1;
          all = omega (arith, v.all);
          standing = out.standing;
          held = out.held;
          inside = v.inside;
          whole = v.whole ∙ (ap (λ (y : List ℕ). v.done ++ (y ∷ (stack_order rest ++ comes_after W c.node opens))) (sym own)
              ∙ sym (append_assoc v.done (x ∷ []) (stack_order rest ++ comes_after W c.node opens)));
          same-long = out.same-long;
          same = out.same;
        }

    -- A node with children is the innermost.
    enter-again : {Z : List ℕ} {c : Cursor} (k : Token) (cs rest : Forest) (opens : List Open) → At Z c (node k cs rest) opens
        → 0 < count cs
        → At (waiting c Z) (on_entering d (count cs) c) cs (record { to = c.node; trees = rest } ∷ opens)
    unfolding size count
    enter-again {Z} {c} k cs rest opens v some =
        let l = length opens in
        let few-out = come-all v in
        let below = count-size cs in
        let q = start_of d n (n - suc l) in
        let last : n - suc l < n = omega (arith, v.inside) in
        let index : c.free - node_length ≡ q = omega (arith, v.free, end-start d n (n - suc l) last) in
        let fits : q + node_length ≤ length Z = omega (arith, start-within d n (n - suc l) last, v.same-long) in
        let less : suc (n - suc (suc l)) ≡ n - suc l = omega arith in
        let own : node_at W (c.read - node_length) ≡ node_words_of k (count cs) = rw (read-start v (omega (arith, v.all))) v.unread.0 in
        let after = stack_order rest ++ comes_after W c.node opens in
        rw index
        (record {
          done = v.done;
          i = suc v.i;
          read = read_next v (omega (arith, v.all));
          written = v.written;
          free = rw (v.free, ← less) (end_back d n (n - suc (suc l)) (omega arith));
          left = refl;
          node = rw v.read (end-within d n v.i (omega (arith, v.all)));
          unread = subst (λ (ns : List (List ℕ)). Stands d n W (suc v.i) ns)
              (append_assoc (preorder cs) (preorder rest) (unread_of opens))
              v.unread.1;
          all = omega (arith, v.all, length-append (preorder rest) (unread_of opens), preorder-length rest);
          standing = stands-kept d n Z _ 0 v.done
              (λ j b. stored-kept Z q _ _ fits (start_of d n j) (start-apart d n j (n - suc l) (inl (omega arith)) (omega arith) last))
              v.standing;
          held = (
            v.node,
            stored-first Z q _ _ fits,
            stored-second Z q _ _ fits ∙ omega (arith, v.left),
            held_kept d n Z _ opens (omega arith)
                (λ j a b. stored-kept Z q _ _ fits (start_of d n j) (start-apart d n j (n - suc l) (inr (omega arith)) b last)) v.held,
          );
          inside = omega arith;
          whole = v.whole ∙ (ap (λ (ns : List (List ℕ)). v.done ++ ns)
              (append_assoc (stack_order cs) (node_words_of k (count cs) ∷ stack_order rest) (comes_after W c.node opens)
              ∙ ap (λ (y : List ℕ). stack_order cs ++ (y ∷ after)) (sym own)));
          same-long = stored-length Z q _ _ fits ∙ v.same-long;
          same = λ j b. stored_past Z q _ _ fits j (omega (arith, start-within d n (n - suc l) last)) ∙ v.same j b;
        })

    -- ---- the loop

    pub record Walking (Z : List ℕ) (c : Cursor) : Type 0 where
      pub trees : Forest
      pub opens : List Open
      pub at : At Z c trees opens

    -- Where a node is left to be written.
    out_below : {Z : List ℕ} {c : Cursor} {trees : Forest} {opens : List Open} (v : At Z c trees opens) → c.written ≢ end_of d n n
        → length v.done < n
    out_below v u =
        let came = come-all v in
        let apart : length v.done ≢ n = λ e. u (v.written ∙ ap (end_of d n) e) in
        omega arith

    can-leave : {Z : List ℕ} {c : Cursor} (trees : Forest) (opens : List Open) → At Z c trees opens → c.written ≢ end_of d n n → c.left ≡ 0
        → EndsIn (node_length * n) (next_end d c.free)
    unfolding count size
    can-leave nil [] v u e = absurd (omega (arith, come-all v, out_below v u))
    can-leave nil (o ∷ os) v u e = rw (popped o os v) (end-within d n (n - suc (length os)) (omega (arith, v.inside)))
    can-leave (node k cs rest) opens v u e = absurd (omega (arith, v.left))

    can-read : {Z : List ℕ} {c : Cursor} (trees : Forest) (opens : List Open) → At Z c trees opens → c.left ≢ 0
        → EndsIn (node_length * n) c.read
    unfolding count size
    can-read nil opens v e = absurd (e v.left)
    can-read (node k cs rest) opens v e = rw v.read (end-within d n v.i (omega (arith, v.all)))

    pub can-turn : {Z : List ℕ} {c : Cursor} → Walking Z c → c.written ≢ end_of d n n → CanTurn d (length W) (length Z) c
    can-turn {Z} {c} w u =
        let v = w.at in
        rw long
        (record {
          room = omega (arith, v.same-long);
          few = omega arith;
          written = rw v.written (end-within d n (length v.done) (out_below v u));
          node = v.node;
          free = rw v.free (end-within d n (n - suc (length w.opens)) (omega (arith, v.inside)));
          waits = can-leave w.trees w.opens v u;
          unread = can-read w.trees w.opens v;
        })

    -- ---- a turn

    leaving : {Z : List ℕ} {c : Cursor} (trees : Forest) (opens : List Open) → At Z c trees opens → c.written ≢ end_of d n n → c.left ≡ 0
        → Walking (copied W c.node c.written Z) (on_leaving d Z c)
    unfolding count size
    leaving nil [] v u e = absurd (omega (arith, come-all v, out_below v u))
    leaving nil (o ∷ os) v u e = record { trees = o.trees; opens = os; at = leave-again o os v }
    leaving (node k cs rest) opens v u e = absurd (omega (arith, v.left))

    children-read : {Z : List ℕ} {c : Cursor} (k : Token) (cs rest : Forest) (opens : List Open) → At Z c (node k cs rest) opens
        → children_at W (c.read - node_length) ≡ count cs
    unfolding size
    children-read k cs rest opens v =
        rw (read-start v (omega (arith, v.all)))
        (counted W (start_of d n v.i) k (count cs) (omega (arith, count-size cs, v.all)) v.unread.0)

    passing : {Z : List ℕ} {c : Cursor} (trees : Forest) (opens : List Open) → At Z c trees opens → c.left ≢ 0
        → children_at W (c.read - node_length) ≡ 0 → Walking (copied W c.read c.written Z) (on_passing d c)
    unfolding count
    passing nil opens v e z = absurd (e v.left)
    passing (node k nil rest) opens v e z = record { trees = rest; opens = opens; at = pass-again k rest opens v }
    passing (node k (node x xs cs) rest) opens v e z = absurd (omega (arith, children-read k (node x xs cs) rest opens v))

    entering : {Z : List ℕ} {c : Cursor} (trees : Forest) (opens : List Open) → At Z c trees opens → c.left ≢ 0
        → children_at W (c.read - node_length) ≢ 0 → Walking (waiting c Z) (on_entering d (children_at W (c.read - node_length)) c)
    unfolding count
    entering nil opens v e s = absurd (e v.left)
    entering {c = c} (node k cs rest) opens v e s =
        let children = children-read k cs rest opens v in
        rw children
        (record {
          trees = cs;
          opens = record { to = c.node; trees = rest } ∷ opens;
          at = enter-again k cs rest opens v (omega arith);
        })

    pub turn-again : {Z Z' : List ℕ} {c r : Cursor} → Walking Z c → c.written ≢ end_of d n n → Turned d W Z c r Z' → Walking Z' r
    turn-again w u (leaves e r o) = rw (r, o) (leaving w.trees w.opens w.at u e)
    turn-again w u (passes e z r o) = rw (r, o) (passing w.trees w.opens w.at e z)
    turn-again w u (enters e s r o) = rw (r, o) (entering w.trees w.opens w.at e s)

    -- Less is left to be read and written.
    next-less : (i : ℕ) → i < n → to_go d (node_length * n) (next_end d (end_of d n i)) < to_go d (node_length * n) (end_of d n i)
    next-less i h = rw (end-next d n i h) (omega (arith, end-to-go d n (suc i) h, end-to-go d n i (omega arith)))

    read-less : {Z : List ℕ} {c : Cursor} (trees : Forest) (opens : List Open) → At Z c trees opens → c.left ≢ 0
        → to_go d (node_length * n) (next_end d c.read) < to_go d (node_length * n) c.read
    unfolding count size
    read-less nil opens v e = absurd (e v.left)
    read-less (node k cs rest) opens v e = rw v.read (next-less v.i (omega (arith, v.all)))

    write-less : {Z : List ℕ} {c : Cursor} {trees : Forest} {opens : List Open} → At Z c trees opens → c.written ≢ end_of d n n
        → to_go d (node_length * n) (next_end d c.written) < to_go d (node_length * n) c.written
    write-less v u = rw v.written (next-less (length v.done) (out_below v u))

    pub turn-less : {Z Z' : List ℕ} {c r : Cursor} → Walking Z c → c.written ≢ end_of d n n → Turned d W Z c r Z'
        → way_of d W r < way_of d W c
    turn-less w u (leaves e r o) = rw (r, long) (omega (arith, write-less w.at u))
    turn-less w u (passes e z r o) = rw (r, long) (omega (arith, write-less w.at u, read-less w.trees w.opens w.at e))
    turn-less w u (enters e s r o) = rw (r, long) (omega (arith, read-less w.trees w.opens w.at e))

    -- ---- its beginning and its end

    pub walk_begins : (c : Cursor) → Stands d n W 0 (preorder F) → count F ≡ 1 → c.read ≡ end_of d n 0 → c.written ≡ end_of d n 0
        → c.free ≡ end_of d n (n - 1) → c.node ≡ end_of d n 0 → c.left ≡ 1 → Walking O c
    walk_begins c stands one read written free own left =
        let some : 0 < n = omega (arith, count-size F) in
        record {
          trees = F;
          opens = [];
          at = record {
            done = [];
            i = 0;
            read = read;
            written = written;
            free = free;
            left = left ∙ sym one;
            node = rw own (end-within d n 0 some);
            unread = subst (λ (ns : List (List ℕ)). Stands d n W 0 ns) (sym (append-nil (preorder F))) stands;
            all = omega arith;
            standing = tt;
            held = tt;
            inside = some;
            whole = sym (append-nil (stack_order F));
            same-long = refl;
            same = λ j b. refl;
          };
        }

    pub walk_ends : {Z : List ℕ} {c : Cursor} → Walking Z c → c.written ≡ end_of d n n → Z ≡ in_front (joined (from_left d (stack_order F))) O
    walk_ends {Z} {c} w e =
        let v = w.at in
        let came = come-all v in
        let all-out : length v.done ≡ n = end-past d n (length v.done) (omega arith) (sym v.written ∙ e) in
        let last = stack_order w.trees ++ comes_after W c.node w.opens in
        let none : last ≡ [] =
        no-nodes last (omega (arith, ap length v.whole, stack_order-length F, length-append v.done last))
        in
        let done : stack_order F ≡ v.done = v.whole ∙ (ap (λ (ns : List (List ℕ)). v.done ++ ns) none ∙ append-nil v.done) in
        let enough : node_length * n ≤ length Z = omega (arith, v.same-long) in
        front_of Z O (joined (from_left d (stack_order F))) (node_length * n)
        (stands-out d n Z v.done v.standing all-out enough ∙ ap (λ (ns : List (List ℕ)). joined (from_left d ns)) (sym done)) enough
        v.same-long v.same

-- ---- `reorder`

read_length : (d : Direction) (f : Forest) → length (read_in d f) ≡ node_length * size f
read_length Forward f = tree_words-length f
read_length Backward f = stack_words-length f

module _ {d : Direction} {W O : List ℕ} (g : CanReorder d W O) where
  abbrev tree : Forest
  tree = node g.one.root g.one.children nil

  pub all_words : length W ≡ node_length * size tree
  all_words = ap length g.one.words ∙ read_length d tree

  one-tree : count tree ≡ 1
  one-tree = unfold count in refl

  some-nodes : 0 < size tree
  some-nodes = unfold size in omega arith

  abbrev pub Walks : List ℕ → Cursor → Type 0
  Walks = Walking d W O (size tree) (seen d tree) all_words g.room g.one.few (seen_size d tree)

  module _ {start last past : ℕ} (s : start ≡ first_end d (length W)) (l : last ≡ first_end (other_way d) (length W))
      (p : past ≡ next_end d last)
    where
      first-end : start ≡ end_of d (size tree) 0
      first-end = s ∙ (ap (first_end d) all_words ∙ end-first d (size tree))

      last_end : last ≡ end_of d (size tree) (size tree - 1)
      last_end = l ∙ (ap (first_end (other_way d)) all_words ∙ end-last d (size tree) some-nodes)

      past_end : past ≡ end_of d (size tree) (size tree)
      past_end =
          let more : suc (size tree - 1) ≡ size tree = omega (arith, some-nodes) in
          p ∙ (ap (next_end d) last_end ∙ (end-next d (size tree) (size tree - 1) (omega (arith, some-nodes))
          ∙ ap (end_of d (size tree)) more))

      pub last_within : (node_length ≤ last) × (last < 2 ^ 32)
      last_within =
          let within : EndsIn (node_length * size tree) last =
          rw last_end (end-within d (size tree) (size tree - 1) (omega (arith, some-nodes)))
          in
          (within.0, omega (arith, g.one.few))

      pub begins : Walks O (record { read = start; written = start; free = last; node = start; left = 1 })
      begins =
          walk_begins d W O (size tree) (seen d tree) all_words g.room g.one.few (seen_size d tree) _
          (stands-in d (size tree) W (preorder (seen d tree)) (g.one.words ∙ read-words d tree)
          (preorder-length (seen d tree) ∙ seen_size d tree) (preorder-sevens (seen d tree)))
          (seen-count d tree ∙ one-tree) first-end first-end last_end first-end refl

      module _ {Z : List ℕ} {c : Cursor} (w : Walks Z c) where
        unfinished : c.written ≢ past → c.written ≢ end_of d (size tree) (size tree)
        unfinished u = λ e. u (e ∙ sym past_end)

        pub can : c.written ≢ past → CanTurn d (length W) (length Z) c
        can u = can-turn d W O (size tree) (seen d tree) all_words g.room g.one.few (seen_size d tree) w (unfinished u)

        pub again : {Z' : List ℕ} {r : Cursor} → c.written ≢ past → Turned d W Z c r Z' → Walks Z' r
        again u t = turn-again d W O (size tree) (seen d tree) all_words g.room g.one.few (seen_size d tree) w (unfinished u) t

        pub less : {Z' : List ℕ} {r : Cursor} → c.written ≢ past → Turned d W Z c r Z' → way_of d W r < way_of d W c
        less u t = turn-less d W O (size tree) (seen d tree) all_words g.room g.one.few (seen_size d tree) w (unfinished u) t

        pub ends : c.written ≡ past → Z ≡ in_front (written_in d tree) O
        ends e =
            walk_ends d W O (size tree) (seen d tree) all_words g.room g.one.few (seen_size d tree) w (e ∙ past_end)
            ∙ ap (λ (ws : List ℕ). in_front ws O) (sym (written-words d tree))
