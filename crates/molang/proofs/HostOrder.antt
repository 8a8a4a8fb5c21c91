-- The nodes with 76 and with hosts' numbers, in tree order, are the tokens with these numbers, in list order (card 7): no pass gives one
-- of them children, moves one behind another, or makes or drops one. The same of writing: its tokens are the tree's nodes.
use Prim.Native.Nat.{ℕ, suc, ◌+◌}
use mathlib.Core.{Path.{◌≡◌, refl, sym, ap, subst, ◌∙◌}, Bool.{Bool, true, false, ◌||◌, ◌&&◌, true≢false, false≢true}}
use mathlib.Core.{List.{List, [], ◌∷◌}, Option.{Option, none, get_or}}
use native.Mathlib.Omega.{arith}
use lib.{Dec.{eqb, leb}, IntN.{ℤ}}
use borrow.Author.Tests.{eqb-true, ne_eqb, leb-true}
use Rattle.molang.specs.Operator
use Rattle.molang.specs.Operator.{is_host, between, is_one_of, any, is_bracket, closing_of, is_closer, is_math_call, is_query_or_loop}
use Rattle.molang.specs.Forest.{Token, Forest, nil, node, renamed, bare, closed_by, unclosed, leaves, turned_onto, in_order, size}
use Rattle.molang.specs.{Message.{Message, Result, closer}, Calls.{calls, is_index}}
use Rattle.molang.specs.{Statements.{split_of, after}, Free.{is_prefix, is_conditional, is_return, tokens_only, flat, works_on}}
use Rattle.molang.specs.Order.{rules, Pass, last_token, member_accessors, sectioning, call_pass, statements, arrays, pointer, math_calls}
use Rattle.molang.specs.Order.{unary_minus_and_not, addition, conditional, returns, binary, order, apply}
use Rattle.molang.specs.Read.{Answer, tree, messages, rooted, ends_reading, grouped, read}
use Rattle.molang.specs.{Hosts.{is_this_or_host, host_before, host_tokens, host_nodes}, Weight.{weight, node_weight}}
use Rattle.molang.specs.Plain.{Seat, at_root, under_semicolon, is_right_of_question, is_under_semicolon, seat_under, is_plain_binary}
use Rattle.molang.specs.Plain.{expression_form, unplain_at}
use Rattle.molang.specs.Write.{spanning, opener_for, closer_for, closer_of, stands_alone, stands_left, stands_right, operand_tokens, written}
use Rattle.molang.specs.Write.{written_statements, written_tree}
use Rattle.molang.proofs.Booleans
use Rattle.molang.proofs.{Trees.{decided, either, both}, Forests.{followed_by, followed-turned}}
use Rattle.molang.proofs.{Walks.{Outcome, fine, failed as stuck}, Sections.{leaves-flat, members-light}, Words.{host-within}}
use Rattle.molang.proofs.{Passes.{is_nested, all_nested, grouped-nil}, Bounds.{after_fail, pass-cases, ends-outcome, order-parts}}
use Rattle.molang.proofs.Writing.{written_none, written_one, written-two, written_tree-expression, written_tree-script}
use Rattle.molang.proofs.PlainTrees.{PlainExpression, PlainStatements, ended as finished, statement, PlainTree, expression, script}
use Rattle.molang.proofs.PlainTrees.{inner, plain-tree}
use Rattle.molang.proofs.Moves.{Inside, opens, more, Stated, begun, void, ended, AllStated, after_one, in_one, May, Moves, stays}
use Rattle.molang.proofs.Moves.{and_then, later, below, bares, takes_next, takes_last, takes_both, closes, names, indexes, states}
use Rattle.molang.proofs.Moves.{splits, pairs, Moved, failed, moved, unsplit-after, may_of, bare-moves}
use Rattle.molang.proofs.Relabelling.{is_named, all_named, named-low, is_quiet, all_quiet, order-quiet, Seen, itself, as_this, math-seen}
use Rattle.molang.proofs.Relabelling.{closing-seen}

-- ---- Which operators have other numbers

-- A named operator is neither 76 nor a host's.
named_other : (n : ℕ) → is_named n ≡ true → is_this_or_host n ≡ false
unfolding is_this_or_host
named_other n h =
    let low = named-low n h in
    rw (low.1, Booleans.never (is_host n) (λ t. omega (arith, (host-within n t).0, low.0))) refl

one_of-other : (ops : List ℕ) → all_named ops ≡ true → (n : ℕ) → is_one_of ops n ≡ true → is_this_or_host n ≡ false
unfolding is_one_of any all_named
one_of-other [] h n e = Booleans.false-true e
one_of-other (o ∷ os) h n e =
    let z = both (is_named o) (all_named os) h in
    Booleans.either (eqb n o) (λ t. rw (eqb-true n o t) (named_other o z.0)) (λ f. one_of-other os z.1 n (rw f at e))

is-other : (o : ℕ) → is_named o ≡ true → (n : ℕ) → eqb n o ≡ true → is_this_or_host n ≡ false
is-other o h n e = rw (eqb-true n o e) (named_other o h)

-- To the passes a host's is 76.
seen : (n : ℕ) → is_this_or_host n ≡ true → Seen Operator.this n
unfolding is_this_or_host
seen n h =
    Booleans.either (is_host n) (λ t. as_this refl (omega (arith, (host-within n t).0)))
    (λ f. itself (sym (eqb-true n Operator.this (Booleans.or-only-first (eqb n Operator.this) (is_host n) f h))))

math-other : (n : ℕ) → is_math_call n ≡ true → is_this_or_host n ≡ false
math-other n h = unfold is_math_call between in Booleans.never (is_this_or_host n) (λ e. true≢false (sym h ∙ sym (math-seen (seen n e))))

-- No token that takes trees has one of the numbers,
quiet-takes : (b : Bool) (p : Pass) → is_quiet p ≡ true → (n : ℕ) → (may_of b p).takes n ≡ true → is_this_or_host n ≡ false
unfolding may_of is_quiet calls is_query_or_loop is_prefix is_conditional is_return all_named is_named
quiet-takes b last_token q n h = Booleans.false-true h
quiet-takes b member_accessors q n h = is-other Operator.member_accessor refl n h
quiet-takes b sectioning q n h = Booleans.false-true h
quiet-takes b call_pass q n h = one_of-other (Operator.query_function ∷ Operator.loop ∷ Operator.for_each ∷ []) refl n h
quiet-takes b statements q n h = Booleans.false-true h
quiet-takes b arrays q n h = Booleans.false-true h
quiet-takes b pointer q n h = one_of-other (Operator.pointer ∷ []) refl n h
quiet-takes b math_calls q n h = math-other n h
quiet-takes b unary_minus_and_not q n h =
    Booleans.either (eqb n Operator.negate) (λ e. is-other Operator.negate refl n e)
    (λ e. is-other Operator.logical_not refl n (rw e at h))
quiet-takes b addition q n h = one_of-other (Operator.add ∷ []) refl n h
quiet-takes b conditional q n h =
    Booleans.either (eqb n Operator.conditional) (λ e. is-other Operator.conditional refl n e)
    (λ e. is-other Operator.conditional_else refl n (rw e at h))
quiet-takes b returns q n h = is-other Operator.return refl n h
quiet-takes b (binary ops) q n h = one_of-other ops q n h

-- and no bracket.
closer-other : (n : ℕ) → is_closer n ≡ true → is_this_or_host n ≡ false
unfolding is_closer all_named is_named
closer-other n h = one_of-other (Operator.right_brace ∷ Operator.right_bracket ∷ Operator.right_parenthesis ∷ []) refl n h

opener-other : (k o : Token) → closer o ≡ k.op → is_closer k.op ≡ true → is_this_or_host o.op ≡ false
unfolding closer is_closer closing_of is_one_of any
opener-other k o same shuts =
    Booleans.never (is_this_or_host o.op) λ h.
    let zero : k.op ≡ 0 = sym same ∙ ap (λ (c : Option ℕ). get_or c 0) (sym (closing-seen (seen o.op h))) in
    true≢false (sym shuts ∙ ap is_closer zero)

-- ---- A move

skipped : (k : Token) → is_this_or_host k.op ≡ false → (r : List Token) → host_before k r ≡ r
unfolding host_before
skipped k h r = rw (h, host_before) refl

-- An operator that is named, by its number.
named-skipped : (o : ℕ) → is_named o ≡ true → (k : Token) → k.op ≡ o → (r : List Token) → host_before k r ≡ r
named-skipped o h k e r = skipped k (ap is_this_or_host e ∙ named_other o h) r

turned-hosts : (d f : Forest) (r : List Token) → host_nodes (turned_onto d f) r ≡ host_nodes (in_order d) (host_nodes f r)
unfolding turned_onto in_order host_nodes
turned-hosts nil f r = refl
turned-hosts (node k cs d) f r = turned-hosts d (node k cs f) r ∙ sym (turned-hosts d (node k cs nil) (host_nodes f r))

inside-other : {s : Token} {d : Forest} → Inside s d → is_this_or_host s.op ≡ false
unfolding bare is_named
inside-other (opens k h) = named_other Operator.semicolon refl
inside-other (more h i) = inside-other i

-- One more statement, and its trees.
stated-one : {s : Token} (past d e : Forest) → Inside s d
    → ((r : List Token) → host_nodes (in_order past) r ≡ host_nodes (in_order e) r) → (r : List Token)
    → host_nodes (in_order (node s (in_order d) past)) r ≡ host_nodes (in_order (followed_by d e)) r
unfolding in_order turned_onto host_nodes
stated-one {s} past d e i same r =
    turned-hosts past (node s (in_order d) nil) r
    ∙ ap (host_nodes (in_order past)) (skipped s (inside-other i) (host_nodes (in_order d) r))
    ∙ same (host_nodes (in_order d) r)
    ∙ sym (ap (λ (f : Forest). host_nodes f r) (followed-turned d e nil) ∙ turned-hosts e (turned_onto d nil) r)

-- A semicolon more.
ended-hosts : (k : Token) (e : Forest) → k.op ≡ Operator.semicolon → (r : List Token)
    → host_nodes (in_order (node k nil e)) r ≡ host_nodes (in_order e) r
unfolding in_order turned_onto host_nodes is_named
ended-hosts k e h r =
    turned-hosts e (node k nil nil) r ∙ ap (host_nodes (in_order e)) (named-skipped Operator.semicolon refl k h r)

stated-hosts : {past e : Forest} → Stated past e → (r : List Token) → host_nodes (in_order past) r ≡ host_nodes (in_order e) r
stated-hosts begun r = refl
stated-hosts (void {k = k} {e = e} h s) r = stated-hosts s r ∙ sym (ended-hosts k e h r)
stated-hosts (ended {k = k} {past = past} {e = e} d h i s) r =
    stated-one past d e i (λ r. stated-hosts s r) r ∙ sym (ended-hosts k (followed_by d e) h r)

all-hosts : {past e : Forest} → AllStated past e → (r : List Token) → host_nodes (in_order past) r ≡ host_nodes (in_order e) r
all-hosts (after_one s) r = stated-hosts s r
all-hosts (in_one {past = past} {e = e} d i s) r = stated-one past d e i (λ r. stated-hosts s r) r

split-other : (f : Forest) (q : Token) → split_of f ≡ after q nil → is_this_or_host q.op ≡ false
unfolding split_of bare is_named
split-other nil q h = absurd (unsplit-after h)
split-other (node k (node c cs r) rest) q h = split-other rest q h
split-other (node k nil rest) q h =
    decided (λ x. x ≡ after q nil → is_this_or_host q.op ≡ false) (eqb k.op Operator.semicolon) _ _
    (λ e z. let same : bare Operator.semicolon k ≡ q = cc in rw (← same) (named_other Operator.semicolon refl))
    (λ e z. split-other rest q z) h

module _ (T : May) (whole : T.bare ≡ false) (quiet : (n : ℕ) → T.takes n ≡ true → is_this_or_host n ≡ false) where
  moves-hosts : {f g : Forest} → Moves T f g → (r : List Token) → host_nodes g r ≡ host_nodes f r
  unfolding host_nodes in_order renamed bare closed_by is_index is_named
  moves-hosts stays r = refl
  moves-hosts (and_then m n) r = moves-hosts n r ∙ moves-hosts m r
  moves-hosts (later {k = k} {cs = cs} m) r = ap (λ (x : List Token). host_before k (host_nodes cs x)) (moves-hosts m r)
  moves-hosts (below {k = k} {f = f} e m) r = ap (host_before k) (moves-hosts m (host_nodes f r))
  moves-hosts (bares e) r = absurd (true≢false (sym e ∙ whole))
  moves-hosts (takes_next e) r = refl
  moves-hosts (takes_last {x = x} {k = k} {xs = xs} {f = f} e) r =
      let other = quiet k.op e in
      rw (skipped k other (host_nodes f r), skipped k other (host_before x (host_nodes xs (host_nodes f r)))) refl
  moves-hosts (takes_both {l = l} {q = q} {k = k} {ls = ls} {cs = cs} {f = f} e) r =
      let other = quiet q.op e in
      let right = host_before k (host_nodes cs (host_nodes f r)) in
      rw (skipped q other right, skipped q other (host_before l (host_nodes ls right))) refl
  moves-hosts (closes {o = o} {f = f} k d e c h) r =
      skipped (closed_by k o) (opener-other k o c h) (host_nodes (in_order d) (host_nodes f r))
      ∙ sym (skipped o (opener-other k o c h) _
      ∙ turned-hosts d (node k nil f) r ∙ ap (host_nodes (in_order d)) (skipped k (closer-other k.op h) (host_nodes f r)))
  moves-hosts (names {k = k} {b = b} {cs = cs} {f = f} e c h i) r =
      named-skipped Operator.array refl (renamed Operator.array k) refl (host_nodes cs (host_nodes f r))
      ∙ sym (named-skipped Operator.array_variable refl k c _
      ∙ named-skipped Operator.left_bracket refl b (eqb-true b.op Operator.left_bracket i) (host_nodes cs (host_nodes f r)))
  moves-hosts (indexes {q = q} {b = b} {cs = cs} {f = f} d e h i) r =
      ap (host_before q)
      (turned-hosts d cs (host_nodes f r)
      ∙ ap (host_nodes (in_order d))
      (sym (named-skipped Operator.left_bracket refl b (eqb-true b.op Operator.left_bracket i) (host_nodes cs (host_nodes f r)))))
  moves-hosts (states {q = q} past e h s a) r = skipped q (split-other (in_order e) q s) (host_nodes (in_order past) r) ∙ all-hosts a r
  moves-hosts (splits {k = k} {n = n} {ns = ns} {f = f} e m) r =
      let rest = host_before n (host_nodes ns (host_nodes f r)) in
      named-skipped Operator.add refl (renamed Operator.add k) refl (host_before (bare Operator.negate k) rest)
      ∙ named-skipped Operator.negate refl (bare Operator.negate k) refl rest
      ∙ sym (named-skipped Operator.negate refl k m rest)
  moves-hosts (pairs {p = p} {k = k} {n = n} {ps = ps} {ns = ns} {f = f} e m o) r =
      let rest = host_before n (host_nodes ns (host_nodes f r)) in
      named-skipped Operator.add refl (renamed Operator.add p) refl (host_nodes ps rest)
      ∙ sym (named-skipped Operator.negate refl p m (host_nodes ps (host_before k rest))
      ∙ ap (host_nodes ps) (named-skipped Operator.negate refl k o rest))

-- ---- Reading

-- The pass tells messages, or gives a list with the same of these nodes.
apply-hosts : (l : ℕ) (p : Pass) (f : Forest) → works_on p f ≡ true → is_quiet p ≡ true → (may_of false p).bare ≡ false
    → Outcome (may_of false p).told (λ g. host_nodes g [] ≡ host_nodes f []) (apply l p f)
apply-hosts l p f works quiet whole = so (bare-moves false l p f works)
  where
    so : {x : Result} → Moved (may_of false p) f x → Outcome (may_of false p).told (λ g. host_nodes g [] ≡ host_nodes f []) x
    so (failed e) = stuck e
    so (moved m) = fine (moves-hosts (may_of false p) whole (quiet-takes false p quiet) m [])

nested-works : (p : Pass) (f : Forest) → is_nested p ≡ true → (works_on p f ≡ true) × ((may_of false p).bare ≡ false)
unfolding is_nested works_on may_of
nested-works last_token f e = Booleans.false-true e
nested-works member_accessors f e = Booleans.false-true e
nested-works sectioning f e = Booleans.false-true e
nested-works call_pass f e = (refl, refl)
nested-works statements f e = (refl, refl)
nested-works arrays f e = (refl, refl)
nested-works pointer f e = (refl, refl)
nested-works math_calls f e = (refl, refl)
nested-works unary_minus_and_not f e = (refl, refl)
nested-works addition f e = (refl, refl)
nested-works conditional f e = (refl, refl)
nested-works returns f e = (refl, refl)
nested-works (binary ops) f e = (refl, refl)

-- Both hold of what a pass gives.
both_so : {c : ℕ} {P Q : Forest → Type 0} {x : Result} → Outcome c P x → Outcome c Q x → Outcome c (λ g. P g × Q g) x
both_so (stuck e) (stuck f) = stuck e
both_so (fine p) (fine q) = fine (p, q)

leaves-only : (ks : List Token) → tokens_only (leaves ks) ≡ true
unfolding tokens_only leaves
leaves-only [] = refl
leaves-only (k ∷ ks) = leaves-only ks

-- Messages, or a tree with these nodes.
data Keeps (hosts : List Token) : Answer → Type 0 where
  told : {ms : List Message} → Keeps hosts (messages ms)
  kept : {k : Token} {cs : Forest} → host_nodes (node k cs nil) [] ≡ hosts → Keeps hosts (tree k cs)

module _ (l : ℕ) (u : ℕ → Bool) (hosts : List Token) where
  rooted-keeps : (f : Forest) → host_nodes f [] ≡ hosts → Keeps hosts (rooted l [] f)
  unfolding rooted
  rooted-keeps nil h = told
  rooted-keeps (node x xs nil) h = kept {k = x} {cs = xs} h
  rooted-keeps (node x xs (node y ys r)) h = told

  grouped-keeps : (ps : List Pass) (f : Forest) → all_nested ps ≡ true → all_quiet ps ≡ true → host_nodes f [] ≡ hosts
      → Keeps hosts (grouped l u ps [] f)
  unfolding grouped all_nested all_quiet after_fail
  grouped-keeps [] f e q h = rooted-keeps f h
  grouped-keeps (p ∷ ps) f e q h =
      let i = both (is_nested p) (all_nested ps) e in
      let j = both (is_quiet p) (all_quiet ps) q in
      let w = nested-works p f i.0 in
      pass-cases l u (Keeps hosts) p ps f _ _ (apply-hosts l p f w.0 j.0 w.1) (grouped-keeps ps f i.1 j.1 h)
      (λ m is o. either (Keeps hosts) (ends_reading p) _ _ told (rw (grouped-nil l u ps m i.1) told))
      (λ g s. grouped-keeps ps g i.1 j.1 (s ∙ h))

  -- The passes over the flat list come first.
  sections-keep : (ps : List Pass) (f : Forest) → all_nested ps ≡ true → all_quiet ps ≡ true → flat f ≡ true → host_nodes f [] ≡ hosts
      → Keeps hosts (grouped l u (sectioning ∷ ps) [] f)
  unfolding after_fail ends_reading works_on is_quiet may_of
  sections-keep ps f e q i h =
      pass-cases l u (Keeps hosts) sectioning ps f _ _ (apply-hosts l sectioning f i refl refl) (grouped-keeps ps f e q h)
      (λ m is o. told) (λ g s. grouped-keeps ps g e q (s ∙ h))

  members-keep : (ps : List Pass) (ks : List Token) → all_nested ps ≡ true → all_quiet ps ≡ true → host_nodes (leaves ks) [] ≡ hosts
      → Keeps hosts (grouped l u (member_accessors ∷ sectioning ∷ ps) [] (leaves ks))
  unfolding apply after_fail ends_reading works_on is_quiet may_of weight flat
  members-keep ps ks e q h =
      pass-cases l u (Keeps hosts) member_accessors (sectioning ∷ ps) (leaves ks) 1 _
      (both_so (members-light node_weight ks nil (weight node_weight (leaves ks)) (omega arith) refl)
      (apply-hosts l member_accessors (leaves ks) (leaves-only ks) refl refl))
      (sections-keep ps (leaves ks) e q (leaves-flat ks) h) (λ m is o. told)
      (λ g s. sections-keep ps g e q s.0.1 (s.1 ∙ h))

  flat_keeps : (ps : List Pass) (ks : List Token) → all_nested ps ≡ true → all_quiet ps ≡ true → host_nodes (leaves ks) [] ≡ hosts
      → Keeps hosts (grouped l u (last_token ∷ member_accessors ∷ sectioning ∷ ps) [] (leaves ks))
  unfolding apply after_fail ends_reading
  flat_keeps ps ks e q h =
      let later = members-keep ps ks e q h in
      pass-cases l u (Keeps hosts) last_token (member_accessors ∷ sectioning ∷ ps) (leaves ks) 1 _ (ends-outcome l (leaves ks)) later
      (λ m is o. told) (λ g w. rw w later)

leaves-hosts : (ks : List Token) → host_nodes (leaves ks) [] ≡ host_tokens ks
unfolding host_nodes host_tokens leaves
leaves-hosts [] = refl
leaves-hosts (k ∷ ks) = ap (host_before k) (leaves-hosts ks)

-- THE NODES WITH 76 AND WITH HOSTS' NUMBERS, IN TREE ORDER, ARE THE TOKENS WITH THESE NUMBERS, IN LIST ORDER.
pub read-hosts : (tokens : List Token) (u : ℕ → Bool) (version : ℤ) (source_length : ℕ) (k : Token) (cs : Forest)
    → read tokens u version source_length ≡ tree k cs → host_nodes (node k cs nil) [] ≡ host_tokens tokens
unfolding read
read-hosts ts u v l k cs e =
    let p = order-parts (rules v) in
    let quiet : all_quiet p.0 ≡ true =
    unfold all_quiet is_quiet in
    subst (λ (ps : List Pass). all_quiet ps ≡ true) p.1
    (order-quiet (rules v).comparisons_first (rules v).and_first (rules v).pairs_right) in
    let all : Keeps (host_tokens ts) (grouped l u (order (rules v)) [] (leaves ts)) =
    rw p.1 (flat_keeps l u (host_tokens ts) p.0 ts p.2 quiet (leaves-hosts ts)) in
    of_tree (rw e at all)
  where
    of_tree : {hosts : List Token} → Keeps hosts (tree k cs) → host_nodes (node k cs nil) [] ≡ hosts
    of_tree (kept h) = h

-- ---- Writing

or-so : {A : Type 0} (a b : Bool) → (a || b) ≡ true → (a ≡ true → A) → (b ≡ true → A) → A
or-so true b h f g = f refl
or-so false b h f g = g h

binary-other : (n : ℕ) → is_plain_binary n ≡ true → is_this_or_host n ≡ false
unfolding is_plain_binary between is_this_or_host is_named
binary-other n h =
    or-so (sums || between Operator.less_than Operator.conditional n) (eqb n Operator.comma) h
    (λ h. or-so sums (between Operator.less_than Operator.conditional n) h
    (λ h. or-so (eqb n Operator.add || eqb n Operator.div) (eqb n Operator.mul) h
    (λ h. or-so (eqb n Operator.add) (eqb n Operator.div) h (λ e. is-other Operator.add refl n e) (λ e. is-other Operator.div refl n e))
    (λ e. is-other Operator.mul refl n e))
    (λ e.
    let high = leb-true n Operator.conditional (both (leb Operator.less_than n) (leb n Operator.conditional) e).1 in
    rw (ne_eqb n Operator.this (λ e. omega arith), Booleans.never (is_host n) (λ t. omega (arith, (host-within n t).0))) refl))
    (λ e. is-other Operator.comma refl n e)
  where
    sums : Bool
    sums = eqb n Operator.add || eqb n Operator.div || eqb n Operator.mul

-- A plain node with two children has another number.
two-other : (p : Seat) (k x : Token) (xs : Forest) (y : Token) (ys : Forest) → expression_form p k (node x xs (node y ys nil)) ≡ true
    → is_this_or_host k.op ≡ false
unfolding expression_form is_named
two-other p k x xs y ys h =
    or-so (is_plain_binary k.op || (eqb k.op Operator.conditional_else && is_right_of_question p))
    (eqb k.op Operator.assignment && is_under_semicolon p) h
    (λ h. or-so (is_plain_binary k.op) (eqb k.op Operator.conditional_else && is_right_of_question p) h (λ e. binary-other k.op e)
    (λ e. is-other Operator.conditional_else refl k.op (both (eqb k.op Operator.conditional_else) (is_right_of_question p) e).0))
    (λ e. is-other Operator.assignment refl k.op (both (eqb k.op Operator.assignment) (is_under_semicolon p) e).0)

operand-hosts : (b : Bool) (k : Token) (cs : Forest)
    → ((r : List Token) → host_tokens (written k cs r) ≡ host_nodes (node k cs nil) (host_tokens r))
    → (r : List Token) → host_tokens (operand_tokens b k cs (written k cs) r) ≡ host_nodes (node k cs nil) (host_tokens r)
unfolding operand_tokens host_tokens opener_for closer_for spanning is_named
operand-hosts true k cs h r = h r
operand-hosts false k cs h r =
    named-skipped Operator.left_parenthesis refl (opener_for k cs) refl (host_tokens (written k cs (closer_for k cs ∷ r)))
    ∙ h (closer_for k cs ∷ r)
    ∙ ap (host_nodes (node k cs nil)) (named-skipped Operator.right_parenthesis refl (closer_for k cs) refl (host_tokens r))

expression-hosts : (p : Seat) (n : ℕ) (k : Token) (cs : Forest) → PlainExpression p n k cs → (r : List Token)
    → host_tokens (written k cs r) ≡ host_nodes (node k cs nil) (host_tokens r)
unfolding host_tokens host_nodes unclosed closed_by closer_of spanning is_named is_bracket
expression-hosts p n k nil e r = split (is_bracket k.op) refl
  where
    split : (b : Bool) → is_bracket k.op ≡ b → host_tokens (written k nil r) ≡ host_before k (host_tokens r)
    split true h =
        let round = eqb-true k.op Operator.left_parenthesis h in
        ap host_tokens (written_none true k r h)
        ∙ (named-skipped Operator.left_parenthesis refl (unclosed k) round (host_tokens (closer_of k ∷ r))
        ∙ named-skipped Operator.right_parenthesis refl (closer_of k) refl (host_tokens r)
        ∙ sym (named-skipped Operator.left_parenthesis refl k round (host_tokens r)))
    split false h = ap host_tokens (written_none false k r h)
expression-hosts p n k (node x xs nil) e r =
    let a = inner k 0 n x xs nil e.other e.below in
    split (is_bracket k.op) refl (expression-hosts (seat_under k 0) (suc n) x xs a.0)
  where
    split : (b : Bool) → is_bracket k.op ≡ b → ((r : List Token) → host_tokens (written x xs r) ≡ host_nodes (node x xs nil) (host_tokens r))
        → host_tokens (written k (node x xs nil) r) ≡ host_before k (host_nodes (node x xs nil) (host_tokens r))
    split true h i =
        let round = eqb-true k.op Operator.left_parenthesis h in
        ap host_tokens (written_one true k x xs r h)
        ∙ (named-skipped Operator.left_parenthesis refl (unclosed k) round (host_tokens (written x xs (closer_of k ∷ r)))
        ∙ i (closer_of k ∷ r)
        ∙ ap (host_nodes (node x xs nil)) (named-skipped Operator.right_parenthesis refl (closer_of k) refl (host_tokens r))
        ∙ sym (named-skipped Operator.left_parenthesis refl k round (host_nodes (node x xs nil) (host_tokens r))))
    split false h i =
        ap host_tokens (written_one false k x xs r h) ∙ ap (host_before k) (operand-hosts (stands_alone x xs) x xs i r)
expression-hosts p n k (node x xs (node y ys nil)) e r =
    let a = inner k 0 n x xs (node y ys nil) e.other e.below in
    let b = inner k 1 (suc n + size xs) y ys nil e.other a.1 in
    let other = two-other p k x xs y ys e.form in
    let right = host_nodes (node y ys nil) (host_tokens r) in
    ap host_tokens (written-two k x xs y ys r)
    ∙ (operand-hosts (stands_left k x xs) x xs (expression-hosts (seat_under k 0) (suc n) x xs a.0)
    (k ∷ operand_tokens (stands_right k y ys) y ys (written y ys) r)
    ∙ ap (host_nodes (node x xs nil))
    (skipped k other _
    ∙ operand-hosts (stands_right k y ys) y ys (expression-hosts (seat_under k 1) (suc (suc n + size xs)) y ys b.0) r)
    ∙ sym (skipped k other (host_nodes (node x xs nil) right)))
expression-hosts p n k (node x xs (node y ys (node z zs rest))) e r = absurd (false≢true (unfold expression_form in e.form))

statements-hosts : (cs : Forest) → PlainStatements cs → (r : List Token)
    → host_tokens (written_statements cs r) ≡ host_nodes cs (host_tokens r)
unfolding written_statements host_tokens host_nodes bare is_named
statements-hosts nil finished r = refl
statements-hosts (node s nil rest) x3 r = elim x3 [ ]
statements-hosts (node s (node x xs (node _ _ _)) rest) x10 r = elim x10 [ ]
statements-hosts (node s (node x xs nil) rest) (statement _ n _ h e others) r =
    expression-hosts under_semicolon n x xs e (bare Operator.semicolon x ∷ written_statements rest r)
    ∙ ap (host_nodes (node x xs nil))
    (named-skipped Operator.semicolon refl (bare Operator.semicolon x) refl (host_tokens (written_statements rest r))
    ∙ statements-hosts rest others r)
    ∙ sym (named-skipped Operator.semicolon refl s h (host_nodes (node x xs nil) (host_nodes rest (host_tokens r))))

-- OF A PLAIN TREE THE WRITTEN TOKENS WITH THESE NUMBERS, IN LIST ORDER, ARE ITS NODES, IN TREE ORDER.
pub written-hosts : (k : Token) (cs : Forest) → unplain_at k cs ≡ none → host_tokens (written_tree k cs) ≡ host_nodes (node k cs nil) []
unfolding host_tokens host_nodes is_named
written-hosts k cs plain = split cs (plain-tree k cs plain)
  where
    split : (cs : Forest) → PlainTree k cs → host_tokens (written_tree k cs) ≡ host_nodes (node k cs nil) []
    split cs (expression e) = ap host_tokens (written_tree-expression k cs e.other) ∙ expression-hosts at_root 1 k cs e []
    split cs (script h s) =
        ap host_tokens (written_tree-script k cs h)
        ∙ (statements-hosts cs s []
        ∙ sym (named-skipped Operator.semicolon refl k (eqb-true k.op Operator.semicolon h) (host_nodes cs [])))
