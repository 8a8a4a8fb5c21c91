-- Calls and math calls: a call takes the section right after it, and is entered where tokens of the pass are below.
use Prim.Native.Nat.{ℕ, ◌+◌, ◌^◌, ◌≤◌, ◌<◌}
use mathlib.Core.{Path.{◌≡◌, refl, sym, ap, ◌∙◌, subst}, Logic.{◌≢◌}, Bool.{Bool, true, false, true≢false}, List.{List, [], ◌∷◌}}
use native.Mathlib.{Omega.{arith}, Nat.{le_refl}}
use lib.{ListN.{length, set}, Dec.{eqb}}
use borrow.Author.Tests.{eq-eqb, ne_eqb, eqb-false}
use Rattle.molang.specs.Operator.{left_parenthesis, is_bracket, is_one_of, any as any_of, is_math_call, is_query_or_loop, between}
use Rattle.molang.specs.Forest.{Token, Forest, nil, node, turned_onto, in_order, count, size}
use Rattle.molang.specs.Message.{math_at_end, math_without_parenthesis, empty_parameter_list, Result, ok, fail}
use Rattle.molang.specs.Level.{on, into, walk, through, Gathered, gathered, waiting, nothing}
use Rattle.molang.specs.Calls.{CallKind, query_or_loop, math, calls as is_call, call_leaf, call_step, call_resume, call_finish, call_level}
use Rattle.molang.specs.{Free.{free, is_nil}, Work.{Kind, calls, State, work, begins, in_reading, takes, and_then}}
use Rattle.molang.proofs.{Calls.{call-inert, call-free}, Walks.{onward, walk-onward}}
use Rattle.ops.specs.Classes.{shares}
use Rattle.nodes.{specs.Store.{wd, slot_start, slot_end, classes_at, RepT}, specs.Children.{Attached}, specs.Slots.{op_at, is_leaf_at}}
use Rattle.nodes.{specs.declared.frames.List.{List as Items}, proofs.Trees.{leaf-test}}
use Rattle.levels.specs.{Passes.{walk_of, moved_to, classes_of, operators, Runs, call, math_call, waits}, Items.{Ahead, CanPeek, next_if}}
use Rattle.levels.specs.{Sides.{GatherSide, all, Holds, AtTurn, InFrame}, Turns.{Within, lent_of, afresh, TurnTo, goes, enters, fails}}
use Rattle.levels.specs.{Failures.{Tells}, declared.failure.Failure.TheVariants.{EmptyParameterList, MathAtEnd, MathWithoutParenthesis}}
use Rattle.levels.specs.{declared.turns.Pass.{Pass}, declared.turns.Pass.TheVariants.{Calls, MathCalls}, declared.turns.Turn.{Turn}}
use Rattle.levels.specs.declared.turns.Turn.TheVariants.{On, Enter}
use Rattle.std.{specs.Prelude.{Option, None, Some, Ok, Err, if◌then◌else◌}, proofs.lemmas.Option.{none-some, same_Some}}
use Rattle.levels.proofs.Reading.{can-peek, unfree-leaf, tree_free, tree-unfree, unfree-tree, free-tree-below, NextTo, ended, differs}
use Rattle.levels.proofs.{Reading.{found, next-to, same-within}, PassClasses.{runs-covers}, States.{sides-of}}
use Rattle.passes.specs.{TokenTurns.{AtItem, AtToken, unasked, CallTurned, Saying}, Calls.{CanCall, Called, opens, stays}}
use Rattle.passes.proofs.GatherLaws.{token-room, next-room, walk-node, walk-passed, LeftLevel, item-holds, item-waits, kept-within}
use Rattle.passes.proofs.GatherLaws.{Attaching, attached, item-attached, within-then, Stands, stands, Standing}

-- ---- the level

call-node : (kind : CallKind) (d : Forest) (k : Token) (cs rest : Forest) → is_nil cs ≡ false
    → work (calls kind) (gathered d) (node k cs rest)
    ≡ and_then (work (calls kind) (begins (calls kind) cs) (in_reading (calls kind) cs))
    (λ kids. work (calls kind) (takes (calls kind) (gathered d) k kids) rest)
unfolding work begins in_reading takes through call_level call_resume is_nil
call-node kind d k nil rest e = absurd (true≢false e)
call-node kind d k (node c cs r) rest e = walk-node (call_level kind) (is_call kind) (call-inert kind) d k c cs r rest

call-level : (kind : CallKind) (pass : Pass) → Runs (calls kind) pass → ((v : Items) → v.write ≤ v.read → AtTurn v pass)
    → ((v : Items) → v.write < v.read → InFrame v pass) → lent_of pass ≡ 0 → LeftLevel (calls kind) pass (is_call kind) gathered unasked
unfolding work begins waits operators call_level nothing
call-level kind pass runs turning framed unlent =
    record {
      covers = runs-covers (calls kind) pass runs;
      sides = λ fine done ahead low mid high below within. sides-of runs (all done) ahead tt low mid high below within;
      turning = turning;
      framed = framed;
      calm = λ d. refl;
      unlent = unlent;
      fresh = λ cs. refl;
      passes = λ p. walk-passed (call_level kind) (is_call kind) (call-inert kind) p;
      keeps = λ p h. refl;
      node = call-node kind;
    }

query-level : LeftLevel (calls query_or_loop) Calls (is_call query_or_loop) gathered unasked
query-level = call-level query_or_loop Calls call (λ v h. h) (λ v h. h) refl

math-level : LeftLevel (calls math) MathCalls (is_call math) gathered unasked
math-level = call-level math MathCalls math_call (λ v h. h) (λ v h. h) refl

module _ {T : Saying} (W : List ℕ) (v : Items) where
  open-side : (kind : CallKind) (pass : Pass) → LeftLevel (calls kind) pass (is_call kind) gathered unasked
      → T (calls kind) gathered (is_call kind) unasked
      → {X : List ℕ} {lo l m hi : ℕ} {s : Gathered} {rest : Forest} → GatherSide W X v.base v.write lo l s
      → Ahead W X v.base v.read v.len m hi rest
      → l ≤ m → v.write ≤ v.read → slot_start hi ≤ v.base → v.base + v.len ≤ length W → length W < 2 ^ 32
      → Stands T W v pass (calls kind) X lo hi s rest
  open-side kind pass level t (all done) ahead mid behind below within small = stands level t refl done ahead mid behind below within small

  pub query-stands : T (calls query_or_loop) gathered (is_call query_or_loop) unasked → Standing T W v Calls
  query-stands t g = go g.holds.sides.runs g.holds
    where
      go : {κ : Kind} {X : List ℕ} {lo hi : ℕ} {s : State κ} {rest : Forest} → Runs κ Calls → Holds κ W X lo hi (walk_of v Calls) s rest
          → Stands T W v Calls κ X lo hi s rest
      go call h =
          open-side query_or_loop Calls query-level t h.sides.done h.sides.unread h.sides.mid h.turning h.sides.below
          h.sides.within g.small

  pub math-stands : T (calls math) gathered (is_call math) unasked → Standing T W v MathCalls
  math-stands t g = go g.holds.sides.runs g.holds
    where
      go : {κ : Kind} {X : List ℕ} {lo hi : ℕ} {s : State κ} {rest : Forest} → Runs κ MathCalls
          → Holds κ W X lo hi (walk_of v MathCalls) s rest → Stands T W v MathCalls κ X lo hi s rest
      go math_call h =
          open-side math MathCalls math-level t h.sides.done h.sides.unread h.sides.mid h.turning h.sides.below
          h.sides.within g.small

-- ---- a call's turn, in the definition

call-waits : (kind : CallKind) (d : Forest) (k : Token) → is_call kind k.op ≡ true → call_step kind (gathered d) k nil ≡ on (waiting d k)
call-waits kind d k p = unfold call_step call_leaf in rw (p, call_leaf) refl

section-enters : (kind : CallKind) (d : Forest) (q k c : Token) (cs r : Forest) → is_bracket k.op ≡ true
    → call_step kind (waiting d q) k (node c cs r) ≡ into (waiting d q) (gathered nil)
unfolding call_step
section-enters query_or_loop d q k c cs r e = rw (e, call_step) refl
section-enters math d q k c cs r e = rw (e, call_step) refl

-- the section is entered below the call
call_opens : (kind : CallKind) (d : Forest) (k t c : Token) (cs r rest : Forest) → is_call kind k.op ≡ true → is_bracket t.op ≡ true
    → work (calls kind) (gathered d) (node k nil (node t (node c cs r) rest))
    ≡ and_then (work (calls kind) (begins (calls kind) (node t (node c cs r) nil)) (in_reading (calls kind) (node t (node c cs r) nil)))
    (λ kids. work (calls kind) (takes (calls kind) (gathered d) k kids) rest)
unfolding work begins in_reading takes walk call_level nothing call_step and_then
call_opens kind d k t c cs r rest p e =
    rw (call-waits kind d k p, walk)
    (rw (section-enters kind d k t c cs r e, walk) (go kind (walk (call_level kind) (gathered nil) (node c cs r))))
  where
    go : (kind : CallKind) (x : Result)
        → elim x [ fail m ↦ fail m | ok kids ↦ walk (call_level kind) (call_resume (waiting d k) t kids) rest ]
        ≡ and_then (elim x [ fail m ↦ fail m | ok kids ↦ walk (call_level kind) (call_resume (gathered nil) t kids) nil ])
        (λ kids. walk (call_level kind) (call_resume (gathered d) k kids) rest)
    go kind (fail m) = refl
    go kind (ok kids) = unfold call_resume call_finish in_order turned_onto in refl

-- the same where the section has something in it
section-opens : (kind : CallKind) (d : Forest) (k t : Token) (ts rest : Forest) → is_call kind k.op ≡ true → is_bracket t.op ≡ true
    → is_nil ts ≡ false
    → work (calls kind) (gathered d) (node k nil (node t ts rest))
    ≡ and_then (work (calls kind) (begins (calls kind) (node t ts nil)) (in_reading (calls kind) (node t ts nil)))
    (λ kids. work (calls kind) (takes (calls kind) (gathered d) k kids) rest)
unfolding is_nil
section-opens kind d k t nil rest p e f = absurd (true≢false f)
section-opens kind d k t (node c cs r) rest p e f = call_opens kind d k t c cs r rest p e

-- a section without calls stays as it is
section-stays : (kind : CallKind) (d : Forest) (k t : Token) (ts rest : Forest) → is_call kind k.op ≡ true → is_bracket t.op ≡ true
    → is_nil ts ≡ false
    → free (is_call kind) (node t ts nil) ≡ true
    → work (calls kind) (gathered d) (node k nil (node t ts rest)) ≡ work (calls kind) (gathered (node k (node t ts nil) d)) rest
unfolding work begins in_reading takes through call_level nothing call_resume and_then
section-stays kind d k t ts rest p e f h =
    section-opens kind d k t ts rest p e f
    ∙ ap (λ (x : Result). and_then x (λ kids. work (calls kind) (takes (calls kind) (gathered d) k kids) rest))
    (call-free kind (node t ts nil) h)

math-empty : (d : Forest) (k t : Token) (rest : Forest) → is_call math k.op ≡ true → is_bracket t.op ≡ true
    → work (calls math) (gathered d) (node k nil (node t nil rest)) ≡ work (calls math) (gathered (node k (node t nil nil) d)) rest
math-empty d k t rest p e = unfold work walk call_level call_step in rw (call-waits math d k p, walk) (rw (e, call_step, walk) refl)

math-stays : (d : Forest) (k t : Token) (ts rest : Forest) → is_call math k.op ≡ true → is_bracket t.op ≡ true
    → free (is_call math) (node t ts nil) ≡ true
    → work (calls math) (gathered d) (node k nil (node t ts rest)) ≡ work (calls math) (gathered (node k (node t ts nil) d)) rest
unfolding is_nil
math-stays d k t nil rest p e h = math-empty d k t rest p e
math-stays d k t (node c cs r) rest p e h = section-stays math d k t (node c cs r) rest p e refl h

query-empty : (d : Forest) (k t : Token) (rest : Forest) → is_call query_or_loop k.op ≡ true → is_bracket t.op ≡ true
    → work (calls query_or_loop) (gathered d) (node k nil (node t nil rest)) ≡ fail (empty_parameter_list k t ∷ [])
query-empty d k t rest p e = unfold work walk call_level call_step in rw (call-waits query_or_loop d k p, walk) (rw (e, call_step, walk) refl)

-- a query without a section
query-last : (d : Forest) (k : Token) → is_call query_or_loop k.op ≡ true
    → work (calls query_or_loop) (gathered d) (node k nil nil) ≡ work (calls query_or_loop) (gathered (node k nil d)) nil
query-last d k p = unfold work walk call_level call_finish in rw (call-waits query_or_loop d k p, walk) refl

query-flushed : (d : Forest) (k t : Token) (ts : Forest) → is_bracket t.op ≡ false
    → call_step query_or_loop (waiting d k) t ts ≡ call_step query_or_loop (gathered (node k nil d)) t ts
unfolding call_step
query-flushed d k t nil e = rw (e, call_step) refl
query-flushed d k t (node c cs r) e = rw (e, call_step) refl

query-alone : (d : Forest) (k t : Token) (ts rest : Forest) → is_call query_or_loop k.op ≡ true → is_bracket t.op ≡ false
    → work (calls query_or_loop) (gathered d) (node k nil (node t ts rest))
    ≡ work (calls query_or_loop) (gathered (node k nil d)) (node t ts rest)
unfolding work walk call_level onward
query-alone d k t ts rest p e =
    walk-onward (call_level query_or_loop) (gathered d) k nil (node t ts rest)
    ∙ ap (onward (call_level query_or_loop) k nil (node t ts rest)) (call-waits query_or_loop d k p)
    ∙ walk-onward (call_level query_or_loop) (waiting d k) t ts rest ∙ ap (onward (call_level query_or_loop) t ts rest) (query-flushed d k t ts e)
    ∙ sym (walk-onward (call_level query_or_loop) (gathered (node k nil d)) t ts rest)

math-last : (d : Forest) (k : Token) → is_call math k.op ≡ true
    → work (calls math) (gathered d) (node k nil nil) ≡ fail (math_at_end k ∷ [])
math-last d k p = unfold work walk call_level call_finish in rw (call-waits math d k p, walk) refl

math-lacks : (d : Forest) (k t : Token) (ts rest : Forest) → is_call math k.op ≡ true → is_bracket t.op ≡ false
    → work (calls math) (gathered d) (node k nil (node t ts rest)) ≡ fail (math_without_parenthesis k ∷ [])
unfolding work walk call_level call_step
math-lacks d k t nil rest p e = rw (call-waits math d k p, walk) (rw (e, call_step, walk) refl)
math-lacks d k t (node c cs r) rest p e = rw (call-waits math d k p, walk) (rw (e, call_step, walk) refl)

-- ---- the section in the words

is-bracket : (t : Token) → t.op ≡ left_parenthesis → is_bracket t.op ≡ true
is-bracket t e = unfold is_bracket in eq-eqb t.op left_parenthesis e

no-bracket : (t : Token) → t.op ≢ left_parenthesis → is_bracket t.op ≡ false
no-bracket t e = unfold is_bracket in ne_eqb t.op left_parenthesis e

no_call : (kind : CallKind) → is_call kind left_parenthesis ≡ false
unfolding is_call is_query_or_loop is_math_call is_one_of any_of between
no_call query_or_loop = refl
no_call math = refl

-- a section with calls in it is not empty
section-full : (kind : CallKind) (t : Token) (ts : Forest) → t.op ≡ left_parenthesis → free (is_call kind) (node t ts nil) ≡ false
    → is_nil ts ≡ false
unfolding is_nil
section-full kind t nil e h = absurd (true≢false (sym (unfree-leaf (is_call kind) t h) ∙ ap (is_call kind) e ∙ no_call kind))
section-full kind t (node c cs r) e h = refl

pick : (a b : Bool) (x c : ℕ) → Some c ≡ (if a then None else (if b then Some x else None)) → (a ≡ false) × (x ≡ c)
pick true b x c e = absurd (none-some c (sym e))
pick false true x c e = (refl, sym (same_Some c x e))
pick false false x c e = absurd (none-some c (sym e))

-- where `next_if` finds an item, it is the next one
pub next_word : (W : List ℕ) (v : Items) (op c : ℕ) → Some c ≡ next_if W v op → (v.read ≢ v.len) × (wd W (v.base + v.read) ≡ c)
unfolding next_if
next_word W v op c e =
    let z = pick (eqb v.read v.len) (eqb (op_at W (wd W (v.base + v.read))) op) (wd W (v.base + v.read)) c e in
    (eqb-false v.read v.len z.0, z.1)

pub can-call : {W : List ℕ} {v : Items} {b : ℕ} (op c : ℕ) → AtToken W v b → Some c ≡ next_if W v op → CanCall W v b c
can-call {W} {v} op c g e = let z = next_word W v op c e in record { token = g; left = (next-room g z.0).0; next = z.1 }

-- ---- a call with its section

attached-within : {W W1 X : List ℕ} {v : Items} {b lo hi : ℕ} {d : Forest} {k : Token} {rest : Forest} → Attaching W W1 X v b lo hi d k rest
    → Within W W1 X lo hi v
attached-within (attached i x) = x

put-within : {W W1 W' X : List ℕ} {v : Items} {b lo hi : ℕ} {d : Forest} {k : Token} {rest : Forest} → W' ≡ set W1 (v.base + v.write) b
    → Attaching W W1 X v b lo hi d k rest → Within W W' X lo hi v
put-within {W1 = W1} {W' = W'} s (attached i x) = within-then refl refl x (kept-within W1 W' i s)

module _ {kind : CallKind} {pass : Pass} (L : LeftLevel (calls kind) pass (is_call kind) gathered unasked) {W W' : List ℕ} {v : Items}
    {b c : ℕ} (e : wd W (v.base + v.read) ≡ c) (n : v.read < v.len) where
  section-entered : {X : List ℕ} {lo hi : ℕ} {d : Forest} {k t : Token} {ts rest : Forest} → is_call kind k.op ≡ true
      → t.op ≡ left_parenthesis
      → shares (classes_at W' b) (classes_of pass) ≡ true → Attaching W W' X v b lo hi d k (node t ts rest)
      → TurnTo (calls kind) W' X lo hi (walk_of v pass) (gathered d) (node k nil (node t ts rest))
      (Ok (Enter (walk_of (moved_to v (v.read + 1) v.write) pass) b))
  unfolding count size waits is_nil begins call_level nothing
  section-entered {d = d} {k = k} {t = t} {ts = ts} {rest = rest} p o h (attached i x) =
      let below = unfree-tree (is_call kind) k (node t ts nil) refl (tree-unfree (classes_of pass) (is_call kind) L.covers i.tree h) in
      enters {t = gathered d} {u = begins (calls kind) (node t ts nil)} (record { owner = refl; base = refl; len = refl; classes = refl })
      (item-waits L i refl) i.tree refl
      (afresh L.unlent (le_refl i.a)) (section-opens kind d k t ts rest p (is-bracket t o) (section-full kind t ts o below))
      (omega arith) (omega arith) (omega arith) (omega arith)

  section-done : {W1 X : List ℕ} {lo hi : ℕ} {d : Forest} {k t : Token} {ts rest : Forest}
      → (free (is_call kind) (node t ts nil) ≡ true → work (calls kind) (gathered d) (node k nil (node t ts rest))
      ≡ work (calls kind) (gathered (node k (node t ts nil) d)) rest)
      → shares (classes_at W1 b) (classes_of pass) ≡ false → W' ≡ set W1 (v.base + v.write) b
      → Attaching W W1 X v b lo hi d k (node t ts rest)
      → TurnTo (calls kind) W' X lo hi (walk_of v pass) (gathered d) (node k nil (node t ts rest))
      (Ok (On (walk_of (moved_to v (v.read + 1) (v.write + 1)) pass)))
  unfolding count size waits is_nil
  section-done {d = d} {k = k} {t = t} {ts = ts} {rest = rest} law h s (attached i x) =
      let clean = free-tree-below (is_call kind) k (node t ts nil) refl (tree_free (classes_of pass) (is_call kind) L.covers i.tree h) in
      goes {s' = gathered (node k (node t ts nil) d)} (record { owner = refl; base = refl; len = refl; classes = refl })
      (item-holds L i s refl) (law clean) (omega arith) (omega arith) (omega arith)

  called-to : {r : Turn} {X : List ℕ} {lo hi : ℕ} {d : Forest} {k t : Token} {ts rest : Forest} → Called W v b c pass r W'
      → AtItem W X v b lo hi d k nil (node t ts rest) → is_call kind k.op ≡ true → t.op ≡ left_parenthesis
      → (free (is_call kind) (node t ts nil) ≡ true → work (calls kind) (gathered d) (node k nil (node t ts rest))
      ≡ work (calls kind) (gathered (node k (node t ts nil) d)) rest)
      → TurnTo (calls kind) W' X lo hi (walk_of v pass) (gathered d) (node k nil (node t ts rest)) (Ok r)
  called-to (opens a h er) i p o law = rw er (section-entered p o h (item-attached i e n a))
  called-to (stays a h s er) i p o law = rw er (section-done law h s (item-attached i e n a))

  called-within : {r : Turn} {X : List ℕ} {lo hi : ℕ} {d : Forest} {k : Token} {rest : Forest} → Called W v b c pass r W'
      → AtItem W X v b lo hi d k nil rest → Within W W' X lo hi v
  called-within (opens a h er) i = attached-within (item-attached i e n a)
  called-within (stays a h s er) i = put-within s (item-attached i e n a)

-- ---- a query's turn

-- what `next_if` found
pub next_of : {W X : List ℕ} {v : Items} {lo hi : ℕ} {rest : Forest} (op : ℕ) (c : Option ℕ) → c ≡ next_if W v op
    → Ahead W X v.base v.read v.len lo hi rest → NextTo W X v lo hi op c rest
next_of {W} {X} {v} {lo} {hi} {rest} op c e a = subst (λ (x : Option ℕ). NextTo W X v lo hi op x rest) (sym e) (next-to v op a)

query-called : {W W' X : List ℕ} {v : Items} {b lo m hi : ℕ} {d : Forest} {k : Token} {rest : Forest} {r : Turn} (c : ℕ)
    → is_leaf_at W c ≡ false → wd W (v.base + v.read) ≡ c → v.read < v.len
    → AtItem W X v b lo hi d k nil rest → is_call query_or_loop k.op ≡ true → Called W v b c Calls r W'
    → NextTo W X v m hi left_parenthesis (Some c) rest
    → TurnTo (calls query_or_loop) W' X lo hi (walk_of v Calls) (gathered d) (node k nil rest) (Ok r)
query-called {d = d} {k = k} c leafy e l i p w (found {k = t} {cs = ts} {rest = rest} x o pos low tree ahead) =
    called-to query-level e l w i p o (section-stays query_or_loop d k t ts rest p (is-bracket t o) (sym (leaf-test ts tree) ∙ leafy))

-- a query whose section is empty
query-fails : {W X : List ℕ} {v : Items} {b lo m hi : ℕ} {d : Forest} {k : Token} {rest : Forest} (c : ℕ) → is_leaf_at W c ≡ true
    → AtItem W X v b lo hi d k nil rest → is_call query_or_loop k.op ≡ true → NextTo W X v m hi left_parenthesis (Some c) rest
    → TurnTo (calls query_or_loop) W X lo hi (walk_of v Calls) (gathered d) (node k nil rest) (Err (EmptyParameterList b c))
unfolding is_nil
query-fails {W} {X} {v} {b} {lo} {hi = hi} {d = d} {k = k} c leafy i p
    (found {a = a} {m = m} {k = t} {cs = ts} {rest = rest} x o pos low tree ahead) =
    go ts (sym (leaf-test ts tree) ∙ leafy) tree
  where
    go : (ts : Forest) → is_nil ts ≡ true → RepT W X c a m t ts
        → TurnTo (calls query_or_loop) W X lo hi (walk_of v Calls) (gathered d) (node k nil (node t ts rest)) (Err (EmptyParameterList b c))
    go nil z tree = fails (Tells.empty_parameter_list i.tree.token tree.token) (query-empty d k t rest p (is-bracket t o))
    go (node y ys s) z tree = absurd (true≢false (sym z))

-- a query without a section
query-keeps : {W W' X : List ℕ} {v : Items} {b lo m hi : ℕ} {d : Forest} {k : Token} {rest : Forest}
    → W' ≡ set W (v.base + v.write) b
    → AtItem W X v b lo hi d k nil rest → is_call query_or_loop k.op ≡ true → NextTo W X v m hi left_parenthesis None rest
    → TurnTo (calls query_or_loop) W' X lo hi (walk_of v Calls) (gathered d) (node k nil rest)
    (Ok (On (walk_of (moved_to v v.read (v.write + 1)) Calls)))
unfolding count size waits
query-keeps {d = d} {k = k} s i p (ended x) =
    goes {s' = gathered (node k nil d)} (record { owner = refl; base = refl; len = refl; classes = refl }) (item-holds query-level i s refl)
    (query-last d k p) (omega arith) (omega arith) (omega arith)
query-keeps {d = d} {k = k} s i p (differs {k = t} {cs = ts} {rest = rest} x y) =
    goes {s' = gathered (node k nil d)} (record { owner = refl; base = refl; len = refl; classes = refl }) (item-holds query-level i s refl)
    (query-alone d k t ts rest p (no-bracket t y)) (omega arith) (omega arith) (omega arith)

module _ {W : List ℕ} {v : Items} {b : ℕ} where
  pub query-on : None ≡ next_if W v left_parenthesis → (W' : List ℕ) (l : Items) (r : Turn)
      → W' ≡ set W (v.base + v.write) b → l ≡ moved_to v v.read (v.write + 1)
      → r ≡ On (walk_of l Calls)
      → CallTurned query_or_loop Calls W v b (Ok r) W'
  query-on e W' l r s el er =
      rw (er, el)
      (record {
        to = λ g p fine. query-keeps s g.item p (next_of left_parenthesis None e g.item.ahead);
        within = λ g. kept-within W W' g.item s;
      })

  module _ (c : ℕ) (e : Some c ≡ next_if W v left_parenthesis) where
    pub query-failed : is_leaf_at W c ≡ true → CallTurned query_or_loop Calls W v b (Err (EmptyParameterList b c)) W
    query-failed leafy =
        record {
          to = λ g p fine. query-fails c leafy g.item p (next_of left_parenthesis (Some c) e g.item.ahead);
          within = λ g. same-within;
        }

    pub query-calls : {r : Turn} {W' : List ℕ} → is_leaf_at W c ≡ false → Called W v b c Calls r W'
        → CallTurned query_or_loop Calls W v b (Ok r) W'
    query-calls leafy w =
        let z = next_word W v left_parenthesis c e in
        record {
          to = λ g p fine. query-called c leafy z.1 (next-room g z.0).0 g.item p w (next_of left_parenthesis (Some c) e g.item.ahead);
          within = λ g. called-within query-level z.1 (next-room g z.0).0 w g.item;
        }

-- ---- a math call's turn

math-called : {W W' X : List ℕ} {v : Items} {b lo m hi : ℕ} {d : Forest} {k : Token} {rest : Forest} {r : Turn} (c : ℕ)
    → wd W (v.base + v.read) ≡ c → v.read < v.len
    → AtItem W X v b lo hi d k nil rest → is_call math k.op ≡ true → Called W v b c MathCalls r W'
    → NextTo W X v m hi left_parenthesis (Some c) rest
    → TurnTo (calls math) W' X lo hi (walk_of v MathCalls) (gathered d) (node k nil rest) (Ok r)
math-called {d = d} {k = k} c e l i p w (found {k = t} {cs = ts} {rest = rest} x o pos low tree ahead) =
    called-to math-level e l w i p o (math-stays d k t ts rest p (is-bracket t o))

math-ends : {W X : List ℕ} {v : Items} {b lo m hi : ℕ} {d : Forest} {k : Token} {rest : Forest} → v.read ≡ v.len
    → AtItem W X v b lo hi d k nil rest → is_call math k.op ≡ true → NextTo W X v m hi left_parenthesis None rest
    → TurnTo (calls math) W X lo hi (walk_of v MathCalls) (gathered d) (node k nil rest) (Err (MathAtEnd b))
math-ends {d = d} {k = k} l i p (ended x) = fails (Tells.math_at_end i.tree.token) (math-last d k p)
math-ends l i p (differs x y) = absurd (omega arith)

math-fails : {W X : List ℕ} {v : Items} {b lo m hi : ℕ} {d : Forest} {k : Token} {rest : Forest} → v.read ≢ v.len
    → AtItem W X v b lo hi d k nil rest → is_call math k.op ≡ true → NextTo W X v m hi left_parenthesis None rest
    → TurnTo (calls math) W X lo hi (walk_of v MathCalls) (gathered d) (node k nil rest) (Err (MathWithoutParenthesis b))
math-fails l i p (ended x) = absurd (l x)
math-fails {d = d} {k = k} l i p (differs {k = t} {cs = ts} {rest = rest} x y) =
    fails (Tells.math_without_parenthesis i.tree.token) (math-lacks d k t ts rest p (no-bracket t y))

module _ {W : List ℕ} {v : Items} {b : ℕ} where
  pub math-ended : None ≡ next_if W v left_parenthesis → v.read ≡ v.len → CallTurned math MathCalls W v b (Err (MathAtEnd b)) W
  math-ended e l =
      record { to = λ g p fine. math-ends l g.item p (next_of left_parenthesis None e g.item.ahead); within = λ g. same-within }

  pub math-failed : None ≡ next_if W v left_parenthesis → v.read ≢ v.len → CallTurned math MathCalls W v b (Err (MathWithoutParenthesis b)) W
  math-failed e l =
      record { to = λ g p fine. math-fails l g.item p (next_of left_parenthesis None e g.item.ahead); within = λ g. same-within }

  pub math-calls : {r : Turn} {W' : List ℕ} (c : ℕ) → Some c ≡ next_if W v left_parenthesis → Called W v b c MathCalls r W'
      → CallTurned math MathCalls W v b (Ok r) W'
  math-calls c e w =
      let z = next_word W v left_parenthesis c e in
      record {
        to = λ g p fine. math-called c z.1 (next-room g z.0).0 g.item p w (next_of left_parenthesis (Some c) e g.item.ahead);
        within = λ g. called-within math-level z.1 (next-room g z.0).0 w g.item;
      }

-- ---- the paths of `called`

pub can-attach : {W : List ℕ} {v : Items} {b c : ℕ} → CanCall W v b c → (slot_end b ≤ length W) × (slot_end c ≤ length W)
can-attach {W} {v} g =
    let left = g.left in
    ((token-room g.token).0, subst (λ (x : ℕ). slot_end x ≤ length W) g.next (next-room g.token (omega arith)).1)

pub can-next : {W : List ℕ} {v : Items} {b : ℕ} → AtToken W v b → CanPeek W v
can-next {v = v} g = can-peek v g.item.ahead g.item.below g.item.within

pub shares_as : {x y z u : ℕ} {b t : Bool} → b ≡ shares x y → x ≡ z → y ≡ u → b ≡ t → shares z u ≡ t
shares_as e f g h = cc

module _ {W W' : List ℕ} {v : Items} {b c : ℕ} {pass : Pass} {r : Turn} where
  pub called-opens : (l : Items) → Attached W b c W' → shares (classes_at W' b) (classes_of pass) ≡ true
      → l ≡ moved_to v (v.read + 1) v.write → r ≡ Enter (walk_of l pass) b
      → Called W v b c pass r W'
  called-opens l a h el er = opens a h (er ∙ ap (λ (x : Items). Enter (walk_of x pass) b) el)

  pub called-stays : {W1 : List ℕ} (l l' : Items) → Attached W b c W1 → shares (classes_at W1 b) (classes_of pass) ≡ false
      → l ≡ moved_to v (v.read + 1) v.write
      → W' ≡ set W1 (l.base + l.write) b → l' ≡ moved_to l l.read (l.write + 1) → r ≡ On (walk_of l' pass) → Called W v b c pass r W'
  called-stays l l' a h el s el' er = stays a h (rw el at s) (rw (er, el', el) refl)
