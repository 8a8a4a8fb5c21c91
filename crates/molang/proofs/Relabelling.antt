-- Reading commutes with relabelling: tokens may be exchanged for others that the passes cannot tell from them, with other payloads or a
-- host's number for 76; the answer is the same with the same tokens exchanged in it.
use Prim.Native.Nat.{ℕ, suc, ◌+◌, ◌≤◌, ◌<◌, min, max}
use mathlib.Core.{Path.{◌≡◌, refl, ap, sym, ◌∙◌}, Bool.{Bool, true, false, ◌||◌, ◌&&◌, not, true≢false, false≢true}}
use mathlib.Core.{List.{List, [], ◌∷◌, ◌++◌}, Option.{Option, none, some, get_or}}
use native.Mathlib.Omega.{arith}
use lib.{Dec.{eqb, leb}, IntN.{ℤ}}
use borrow.Author.Tests.{eq-eqb, ne_eqb, leb-true, not-true}
use Rattle.molang.specs.Operator
use Rattle.molang.specs.Operator.{any, is_one_of, is_math_call, is_bracket, has_members, is_query_or_loop, closing_of, is_closer, BeforeMinus}
use Rattle.molang.specs.Operator.{operand, operator, minus, unknown, before_minus}
use Rattle.molang.specs.Forest.{Token, Forest, nil, node, renamed, bare, closed_by, leaves, turned_onto, in_order, count, size}
use Rattle.molang.specs.Message.{Message, multiple_roots, complex_must_end_with_semicolon, leading_member_accessor, closing_mismatch}
use Rattle.molang.specs.Message.{section_not_closed, no_closing_symbol, empty_parameter_list, math_at_end, math_without_parenthesis}
use Rattle.molang.specs.Message.{leading_semicolon, empty_array_index, binary_at_end, negate_without_operand, not_without_operand}
use Rattle.molang.specs.Message.{unknown_operation, unary_without_operand, ternary_without_operands, Result, ok, fail, closer}
use Rattle.molang.specs.Level.{Step, stop, on, into, Level, walk, through, Gathered, gathered, waiting, nothing}
use Rattle.molang.specs.Sections.{with_member, members, Open, outside, section, placed, position, outermost, Walked, going, mismatch}
use Rattle.molang.specs.Sections.{closing, bracket, closed, sections}
use Rattle.molang.specs.Calls.{CallKind, query_or_loop, math, calls, call_leaf, call_step, call_resume, call_finish, call_level, Indexing}
use Rattle.molang.specs.Calls.{unindexed, named, indexed, flushed, is_index, starts_with_index, empty_index, next_index, index, array_step}
use Rattle.molang.specs.Calls.{array_resume, array_finish, array_level}
use Rattle.molang.specs.Statements.{Split, unsplit, after, inside, split_of, is_entered, gather, end_statement, enter_split}
use Rattle.molang.specs.Statements.{statement_step, statement_resume, statement_finish, statement_level}
use Rattle.molang.specs.Unary.{Unary, done, undone, minus_after, not_before, unary_leaf, turned, unary_node, unary, unary_pass, return_step}
use Rattle.molang.specs.Unary.{return_resume, return_finish, return_level}
use Rattle.molang.specs.Binary.{first_leaf, unfolded, joined, operator_after, binary_step, binary_resume, binary_finish, binary_level}
use Rattle.molang.specs.Conditional.{is_token, starts_with, under, pair_else, scan, folded_from, dangling, undangled, conditional_step}
use Rattle.molang.specs.Conditional.{conditional_finish, conditional_level}
use Rattle.molang.specs.Order.{rules, Pass, last_token, member_accessors, sectioning, call_pass, statements, arrays, pointer, math_calls}
use Rattle.molang.specs.Order.{unary_minus_and_not, addition, conditional, returns, binary, comparisons, logic, conditionals, order}
use Rattle.molang.specs.Order.{runs, last_of, ends_with_semicolon, apply}
use Rattle.molang.specs.Read.{Answer, tree, messages, lowest_start, highest_end, last_end, rooted, ends_reading, grouped, read}
use Rattle.molang.proofs.Booleans.{eight-ways}
use Rattle.molang.proofs.{Trees.{both, either}, Walks.{back, onward, walk-onward, after_run}, Unary.{in_node, at_node}}
use Rattle.molang.proofs.{Conditional.{scanned, scan-once}, Sections.{after_member, after_bracket}, OperatorNumbers.{no-math}}

-- ---- What the passes can see of an operator's number

-- An operator that some test names: every one but 76.
unfoldable pub is_named : ℕ → Bool
is_named n = leb n 110 && not (eqb n Operator.this)

unfoldable pub all_named : List ℕ → Bool
all_named [] = true
all_named (o ∷ os) = is_named o && all_named os

-- The passes see n as m: they are the same, or m is 76 and n above all operators.
pub data Seen (m n : ℕ) : Type 0 where
  itself : m ≡ n → Seen m n
  as_this : m ≡ Operator.this → 110 < n → Seen m n

pub named-low : (c : ℕ) → is_named c ≡ true → (c ≤ 110) × (eqb c Operator.this ≡ false)
unfolding is_named
named-low c h = let e = both (leb c 110) (not (eqb c Operator.this)) h in (leb-true c 110 e.0, not-true (eqb c Operator.this) e.1)

unlike-this : (c : ℕ) → is_named c ≡ true → Operator.this ≡ c → ⊥
unlike-this c h e = true≢false (sym (eq-eqb c Operator.this (sym e)) ∙ (named-low c h).1)

pub eqb-seen : (c : ℕ) → is_named c ≡ true → {m n : ℕ} → Seen m n → eqb m c ≡ eqb n c
eqb-seen c h (itself e) = ap (λ (x : ℕ). eqb x c) e
eqb-seen c h {m} {n} (as_this e l) =
    let low = (named-low c h).0 in
    ne_eqb m c (λ q. unlike-this c h (sym e ∙ q)) ∙ sym (ne_eqb n c (λ q. omega arith))

pub eqb-seen-right : (c : ℕ) → is_named c ≡ true → {m n : ℕ} → Seen m n → eqb c m ≡ eqb c n
eqb-seen-right c h (itself e) = ap (eqb c) e
eqb-seen-right c h {m} {n} (as_this e l) =
    let low = (named-low c h).0 in
    ne_eqb c m (λ q. unlike-this c h (sym e ∙ sym q)) ∙ sym (ne_eqb c n (λ q. omega arith))

or-both : {a b c d : Bool} → a ≡ b → c ≡ d → (a || c) ≡ (b || d)
or-both p q = rw (p, q) refl

pub one_of-seen : (os : List ℕ) → all_named os ≡ true → {m n : ℕ} → Seen m n → is_one_of os m ≡ is_one_of os n
unfolding is_one_of any all_named
one_of-seen [] h s = refl
one_of-seen (o ∷ os) h s = let e = both (is_named o) (all_named os) h in or-both (eqb-seen o e.0 s) (one_of-seen os e.1 s)

this-no-math : is_math_call Operator.this ≡ false
this-no-math = unfold is_math_call Operator.between in refl

pub math-seen : {m n : ℕ} → Seen m n → is_math_call m ≡ is_math_call n
math-seen (itself e) = ap is_math_call e
math-seen {m} {n} (as_this e l) = ap is_math_call e ∙ this-no-math ∙ sym (no-math n l)

-- ---- The operators of the passes

-- A level's operators are such as the passes name.
unfoldable pub is_quiet : Pass → Bool
is_quiet last_token = true
is_quiet member_accessors = true
is_quiet sectioning = true
is_quiet call_pass = true
is_quiet statements = true
is_quiet arrays = true
is_quiet pointer = true
is_quiet math_calls = true
is_quiet unary_minus_and_not = true
is_quiet addition = true
is_quiet conditional = true
is_quiet returns = true
is_quiet (binary ops) = all_named ops

unfoldable pub all_quiet : List Pass → Bool
all_quiet [] = true
all_quiet (p ∷ ps) = is_quiet p && all_quiet ps

pub order-quiet : (a b c : Bool) → all_quiet (order (record { comparisons_first = a; and_first = b; pairs_right = c })) ≡ true
unfolding order comparisons logic conditionals all_quiet is_quiet all_named is_named
order-quiet = eight-ways (λ a b c. all_quiet (order (record { comparisons_first = a; and_first = b; pairs_right = c })) ≡ true)
    refl refl refl refl refl refl refl refl

-- ---- Choices that agree

-- Two choices by tests that agree, between values of which the one is got from the other by g.
pub pick : {A B : Type 0} (g : A → B) (b b' : Bool) {x y : A} {x' y' : B} → b' ≡ b → x' ≡ g x → y' ≡ g y
    → (elim b' [ true ↦ x' | false ↦ y' ]) ≡ g (elim b [ true ↦ x | false ↦ y ])
pick g true true e p q = p
pick g true false e p q = absurd (false≢true e)
pick g false true e p q = absurd (true≢false e)
pick g false false e p q = q

pub closing-seen : {m n : ℕ} → Seen m n → closing_of m ≡ closing_of n
unfolding closing_of is_named
closing-seen s =
    pick (λ x. x) _ _ (eqb-seen Operator.left_brace refl s) refl
    (pick (λ x. x) _ _ (eqb-seen Operator.left_bracket refl s) refl (pick (λ x. x) _ _ (eqb-seen Operator.left_parenthesis refl s) refl refl))

pub before-seen : {m n : ℕ} → Seen m n → before_minus m ≡ before_minus n
unfolding before_minus is_named all_named
before-seen s =
    pick (λ x. x) _ _ (eqb-seen Operator.negate refl s) refl
    (pick (λ x. x) _ _ (one_of-seen (Operator.continue ∷ Operator.expression_array ∷ []) refl s) refl
    (pick (λ x. x) _ _ (one_of-seen Operator.operators_before refl s) refl refl))

-- ---- Relabelling

module _ (φ : Token → Token) where
  unfoldable pub relabelled : Forest → Forest
  relabelled nil = nil
  relabelled (node k cs rest) = node (φ k) (relabelled cs) (relabelled rest)

  unfoldable pub message_of : Message → Message
  message_of (multiple_roots from to roots) = multiple_roots from to roots
  message_of (complex_must_end_with_semicolon from to) = complex_must_end_with_semicolon from to
  message_of (leading_member_accessor k) = leading_member_accessor (φ k)
  message_of (closing_mismatch o i k j) = closing_mismatch (φ o) i (φ k) j
  message_of (section_not_closed o) = section_not_closed (φ o)
  message_of (no_closing_symbol o i) = no_closing_symbol (φ o) i
  message_of (empty_parameter_list k b) = empty_parameter_list (φ k) (φ b)
  message_of (math_at_end k) = math_at_end (φ k)
  message_of (math_without_parenthesis k) = math_without_parenthesis (φ k)
  message_of (leading_semicolon k) = leading_semicolon (φ k)
  message_of (empty_array_index k i) = empty_array_index (φ k) (φ i)
  message_of (binary_at_end k) = binary_at_end (φ k)
  message_of (negate_without_operand k) = negate_without_operand (φ k)
  message_of (not_without_operand k) = not_without_operand (φ k)
  message_of (unknown_operation k p) = unknown_operation (φ k) (φ p)
  message_of (unary_without_operand k) = unary_without_operand (φ k)
  message_of (ternary_without_operands k) = ternary_without_operands (φ k)

  unfoldable pub messages_of : List Message → List Message
  messages_of [] = []
  messages_of (m ∷ ms) = message_of m ∷ messages_of ms

  unfoldable pub result_of : Result → Result
  result_of (ok f) = ok (relabelled f)
  result_of (fail ms) = fail (messages_of ms)

  unfoldable pub answer_of : Answer → Answer
  answer_of (tree k cs) = tree (φ k) (relabelled cs)
  answer_of (messages ms) = messages (messages_of ms)

  unfoldable pub step_of : {S : Type 0} → (S → S) → Step S → Step S
  step_of g (stop ms) = stop (messages_of ms)
  step_of g (on t) = on (g t)
  step_of g (into t u) = into (g t) (g u)

  unfoldable pub option_of : Option Token → Option Token
  option_of o = elim o [ some k ↦ some (φ k) | none ↦ none ]

  unfoldable pub tokens_for : List Token → List Token
  tokens_for [] = []
  tokens_for (k ∷ ks) = φ k ∷ tokens_for ks

  -- As many trees and as many nodes as before.
  pub rel-count : (f : Forest) → count (relabelled f) ≡ count f
  unfolding count relabelled
  rel-count nil = refl
  rel-count (node k cs rest) = ap suc (rel-count rest)

  pub rel-size : (f : Forest) → size (relabelled f) ≡ size f
  unfolding size relabelled
  rel-size nil = refl
  rel-size (node k cs rest) = rw (rel-size cs, rel-size rest) refl

-- An exchange of tokens that the passes do not notice: an operator is seen as before, spans stay, and the tokens that the passes make are
-- exchanged as what they are made of.
pub record Unnoticed (φ : Token → Token) : Type 0 where
  pub op : (k : Token) → Seen (φ k).op k.op
  pub start : (k : Token) → (φ k).start ≡ k.start
  pub end : (k : Token) → (φ k).end ≡ k.end
  pub renames : (o : ℕ) (k : Token) → o ≤ 110 → φ (renamed o k) ≡ renamed o (φ k)
  pub bares : (o : ℕ) (k : Token) → o ≤ 110 → φ (bare o k) ≡ bare o (φ k)
  pub closes : (k o : Token) → φ (closed_by k o) ≡ closed_by (φ k) (φ o)

module _ (φ : Token → Token) (A : Unnoticed φ) where
  -- ---- Lists of trees

  rel-turned : (d f : Forest) → relabelled φ (turned_onto d f) ≡ turned_onto (relabelled φ d) (relabelled φ f)
  unfolding relabelled turned_onto
  rel-turned nil f = refl
  rel-turned (node k cs d) f = rel-turned d (node k cs f)

  rel-in_order : (d : Forest) → relabelled φ (in_order d) ≡ in_order (relabelled φ d)
  rel-in_order d = unfold in_order relabelled in rel-turned d nil

  rel-leaves : (ks : List Token) → leaves (tokens_for φ ks) ≡ relabelled φ (leaves ks)
  unfolding leaves tokens_for relabelled
  rel-leaves [] = refl
  rel-leaves (k ∷ ks) = ap (node (φ k) nil) (rel-leaves ks)

  is_seen : (c : ℕ) → is_named c ≡ true → (k : Token) → eqb (φ k).op c ≡ eqb k.op c
  is_seen c h k = eqb-seen c h (A.op k)

  among-seen : (os : List ℕ) → all_named os ≡ true → (k : Token) → is_one_of os (φ k).op ≡ is_one_of os k.op
  among-seen os h k = one_of-seen os h (A.op k)

  done-in_order : (d : Forest) → ok (in_order (relabelled φ d)) ≡ result_of φ (ok (in_order d))
  done-in_order d = unfold result_of in ap ok (sym (rel-in_order d))

  -- ---- A level from the left

  record Natural {S : Type 0} (L : Level S) : Type 1 where
    state : S → S
    begins : (f : Forest) → L.start (relabelled φ f) ≡ state (L.start f)
    steps : (s : S) (k : Token) (cs : Forest) → L.step (state s) (φ k) (relabelled φ cs) ≡ step_of φ state (L.step s k cs)
    resumes : (s : S) (k : Token) (kids : Forest) → L.resume (state s) (φ k) (relabelled φ kids) ≡ state (L.resume s k kids)
    ends : (s : S) → L.finish (state s) ≡ result_of φ (L.finish s)

  module _ {S : Type 0} (L : Level S) (N : Natural L) where
    back-natural : (t : S) (k : Token) (rest : Forest) (x : Result)
        → ((t : S) → walk L (N.state t) (relabelled φ rest) ≡ result_of φ (walk L t rest))
        → back L (N.state t) (φ k) (relabelled φ rest) (result_of φ x) ≡ result_of φ (back L t k rest x)
    unfolding back result_of
    back-natural t k rest (fail ms) later = refl
    back-natural t k rest (ok kids) later = ap (λ (s : S). walk L s (relabelled φ rest)) (N.resumes t k kids) ∙ later (L.resume t k kids)

    onward-natural : (k : Token) (cs rest : Forest) (x : Step S)
        → ((t : S) → walk L (N.state t) (relabelled φ rest) ≡ result_of φ (walk L t rest))
        → ((t : S) → walk L (N.state t) (relabelled φ cs) ≡ result_of φ (walk L t cs))
        → onward L (φ k) (relabelled φ cs) (relabelled φ rest) (step_of φ N.state x) ≡ result_of φ (onward L k cs rest x)
    unfolding onward step_of result_of
    onward-natural k cs rest (stop ms) later below = refl
    onward-natural k cs rest (on t) later below = later t
    onward-natural k cs rest (into t u) later below =
        ap (back L (N.state t) (φ k) (relabelled φ rest)) (below u) ∙ back-natural t k rest (walk L u cs) later

    walk-natural : (s : S) (f : Forest) → walk L (N.state s) (relabelled φ f) ≡ result_of φ (walk L s f)
    unfolding walk relabelled
    walk-natural s nil = N.ends s
    walk-natural s (node k cs rest) =
        walk-onward L (N.state s) (φ k) (relabelled φ cs) (relabelled φ rest)
        ∙ ap (onward L (φ k) (relabelled φ cs) (relabelled φ rest)) (N.steps s k cs)
        ∙ onward-natural k cs rest (L.step s k cs) (λ t. walk-natural t rest) (λ t. walk-natural t cs)
        ∙ ap (result_of φ) (sym (walk-onward L s k cs rest))

    through-natural : (f : Forest) → through L (relabelled φ f) ≡ result_of φ (through L f)
    through-natural f = unfold through in ap (λ (s : S). walk L s (relabelled φ f)) (N.begins f) ∙ walk-natural (L.start f) f

  unfoldable gathered_of : Gathered → Gathered
  gathered_of (gathered d) = gathered (relabelled φ d)
  gathered_of (waiting d q) = waiting (relabelled φ d) (φ q)

  -- ---- Calls

  call-seen : (kind : CallKind) (k : Token) → calls kind (φ k).op ≡ calls kind k.op
  unfolding calls is_query_or_loop is_named all_named
  call-seen query_or_loop k = among-seen (Operator.query_function ∷ Operator.loop ∷ Operator.for_each ∷ []) refl k
  call-seen math k = math-seen (A.op k)

  bracket-seen : (k : Token) → is_bracket (φ k).op ≡ is_bracket k.op
  bracket-seen k = unfold is_bracket is_named in is_seen Operator.left_parenthesis refl k

  leaf-natural : (kind : CallKind) (d : Forest) (k : Token) → call_leaf kind (relabelled φ d) (φ k) ≡ step_of φ gathered_of (call_leaf kind d k)
  leaf-natural kind d k = unfold call_leaf step_of gathered_of relabelled in pick (step_of φ gathered_of) _ _ (call-seen kind k) refl refl

  call-steps : (kind : CallKind) (s : Gathered) (k : Token) (cs : Forest)
      → call_step kind (gathered_of s) (φ k) (relabelled φ cs) ≡ step_of φ gathered_of (call_step kind s k cs)
  unfolding call_step step_of gathered_of relabelled messages_of message_of
  call-steps kind (gathered d) k nil = leaf-natural kind d k
  call-steps kind (gathered d) k (node c cs r) = refl
  call-steps query_or_loop (waiting d q) k nil =
      pick (step_of φ gathered_of) _ _ (bracket-seen k) refl (leaf-natural query_or_loop (node q nil d) k)
  call-steps query_or_loop (waiting d q) k (node c cs r) = pick (step_of φ gathered_of) _ _ (bracket-seen k) refl refl
  call-steps math (waiting d q) k nil = pick (step_of φ gathered_of) _ _ (bracket-seen k) refl refl
  call-steps math (waiting d q) k (node c cs r) = pick (step_of φ gathered_of) _ _ (bracket-seen k) refl refl

  call-resumes : (s : Gathered) (k : Token) (kids : Forest)
      → call_resume (gathered_of s) (φ k) (relabelled φ kids) ≡ gathered_of (call_resume s k kids)
  unfolding call_resume gathered_of relabelled
  call-resumes (gathered d) k kids = refl
  call-resumes (waiting d q) k kids = refl

  call_ends : (kind : CallKind) (s : Gathered) → call_finish kind (gathered_of s) ≡ result_of φ (call_finish kind s)
  unfolding call_finish gathered_of result_of messages_of message_of relabelled
  call_ends kind (gathered d) = done-in_order d
  call_ends query_or_loop (waiting d q) = done-in_order (node q nil d)
  call_ends math (waiting d q) = refl

  call-natural : (kind : CallKind) → Natural (call_level kind)
  unfolding call_level nothing gathered_of relabelled
  call-natural kind =
      record { state = gathered_of; begins = λ f. refl; steps = call-steps kind; resumes = call-resumes; ends = call_ends kind }

  -- ---- Binary levels

  module _ (ops : List ℕ) (n : all_named ops ≡ true) where
    first-natural : (f : Forest) → first_leaf ops (relabelled φ f) ≡ option_of φ (first_leaf ops f)
    unfolding first_leaf relabelled option_of
    first-natural nil = refl
    first-natural (node k (node c cs r) rest) = found (first_leaf ops (node c cs r)) _ _ _ (first-natural (node c cs r)) (first-natural rest)
      where
        found : (o o' x x' : Option Token) → o' ≡ option_of φ o → x' ≡ option_of φ x
            → (elim o' [ some t ↦ some t | none ↦ x' ]) ≡ option_of φ (elim o [ some t ↦ some t | none ↦ x ])
        found none o' x x' e h = unfold option_of in rw e h
        found (some t) o' x x' e h = unfold option_of in rw e refl
    first-natural (node k nil rest) = pick (option_of φ) _ _ (among-seen ops n k) refl (first-natural rest)

    unfolded-natural : (d : Forest) → unfolded ops (relabelled φ d) ≡ option_of φ (unfolded ops d)
    unfolding unfolded relabelled option_of
    unfolded-natural nil = refl
    unfolded-natural (node l ls d) = first-natural ls

    joined-natural : (d : Forest) (q k : Token) (cs : Forest)
        → joined (relabelled φ d) (φ q) (φ k) (relabelled φ cs) ≡ relabelled φ (joined d q k cs)
    unfolding joined relabelled
    joined-natural nil q k cs = refl
    joined-natural (node l ls d) q k cs = refl

    after-natural : (d : Forest) (k : Token) → operator_after (relabelled φ d) (φ k) ≡ step_of φ gathered_of (operator_after d k)
    unfolding operator_after relabelled step_of gathered_of messages_of message_of
    after-natural nil k = refl
    after-natural (node l ls d) k = refl

    -- Where an operator token is unfolded below the left side, or not.
    left-natural : (d : Forest) (x x' : Step Gathered) → x' ≡ step_of φ gathered_of x
        → (elim (unfolded ops (relabelled φ d)) [ some t ↦ stop (binary_at_end t ∷ []) | none ↦ x' ])
        ≡ step_of φ gathered_of (elim (unfolded ops d) [ some t ↦ stop (binary_at_end t ∷ []) | none ↦ x ])
    left-natural d x x' e = found (unfolded ops d) (unfolded-natural d)
      where
        found : (o : Option Token) {o' : Option Token} → o' ≡ option_of φ o
            → (elim o' [ some t ↦ stop (binary_at_end t ∷ []) | none ↦ x' ])
            ≡ step_of φ gathered_of (elim o [ some t ↦ stop (binary_at_end t ∷ []) | none ↦ x ])
        found none h = unfold option_of in rw h e
        found (some t) h = unfold option_of step_of messages_of message_of in rw h refl

    binary-steps : (s : Gathered) (k : Token) (cs : Forest)
        → binary_step ops (gathered_of s) (φ k) (relabelled φ cs) ≡ step_of φ gathered_of (binary_step ops s k cs)
    unfolding binary_step step_of gathered_of relabelled
    binary-steps (gathered d) k nil = pick (step_of φ gathered_of) _ _ (among-seen ops n k) (after-natural d k) refl
    binary-steps (gathered d) k (node c cs r) = refl
    binary-steps (waiting d q) k nil = left-natural d _ _ (ap (λ (f : Forest). on (gathered f)) (joined-natural d q k nil))
    binary-steps (waiting d q) k (node c cs r) = left-natural d _ _ refl

    binary-resumes : (s : Gathered) (k : Token) (kids : Forest)
        → binary_resume (gathered_of s) (φ k) (relabelled φ kids) ≡ gathered_of (binary_resume s k kids)
    unfolding binary_resume gathered_of relabelled
    binary-resumes (gathered d) k kids = refl
    binary-resumes (waiting d q) k kids = ap gathered (joined-natural d q k kids)

    binary-ends : (s : Gathered) → binary_finish (gathered_of s) ≡ result_of φ (binary_finish s)
    unfolding binary_finish gathered_of result_of messages_of message_of
    binary-ends (gathered d) = done-in_order d
    binary-ends (waiting d q) = refl

    binary-natural : Natural (binary_level ops)
    unfolding binary_level nothing gathered_of relabelled
    binary-natural = record { state = gathered_of; begins = λ f. refl; steps = binary-steps; resumes = binary-resumes; ends = binary-ends }

  -- ---- Return

  return-steps : (s : Gathered) (k : Token) (cs : Forest)
      → return_step (gathered_of s) (φ k) (relabelled φ cs) ≡ step_of φ gathered_of (return_step s k cs)
  unfolding return_step step_of gathered_of relabelled is_named
  return-steps (gathered d) k nil = pick (step_of φ gathered_of) _ _ (is_seen Operator.return refl k) refl refl
  return-steps (gathered d) k (node c cs r) = refl
  return-steps (waiting d q) k cs = refl

  return-resumes : (s : Gathered) (k : Token) (kids : Forest)
      → return_resume (gathered_of s) (φ k) (relabelled φ kids) ≡ gathered_of (return_resume s k kids)
  unfolding return_resume gathered_of relabelled
  return-resumes (gathered d) k kids = refl
  return-resumes (waiting d q) k kids = refl

  return-ends : (s : Gathered) → return_finish (gathered_of s) ≡ result_of φ (return_finish s)
  unfolding return_finish gathered_of result_of messages_of message_of
  return-ends (gathered d) = done-in_order d
  return-ends (waiting d q) = refl

  return-natural : Natural return_level
  unfolding return_level nothing gathered_of relabelled
  return-natural = record { state = gathered_of; begins = λ f. refl; steps = return-steps; resumes = return-resumes; ends = return-ends }

  -- ---- The conditional

  token-seen : (o : ℕ) → is_named o ≡ true → (k : Token) (cs : Forest) → is_token o (φ k) (relabelled φ cs) ≡ is_token o k cs
  unfolding is_token relabelled
  token-seen o h k nil = is_seen o h k
  token-seen o h k (node c cs r) = refl

  starts-seen : (o : ℕ) → is_named o ≡ true → (f : Forest) → starts_with o (relabelled φ f) ≡ starts_with o f
  unfolding starts_with relabelled
  starts-seen o h nil = refl
  starts-seen o h (node k cs r) = token-seen o h k cs

  under-natural : (k l : Token) (ls right : Forest)
      → under (φ k) (φ l) (relabelled φ ls) (relabelled φ right) ≡ relabelled φ (under k l ls right)
  unfolding under relabelled
  under-natural k l ls nil = refl
  under-natural k l ls (node x xs r) = refl

  pair-natural : (f : Forest) → pair_else (relabelled φ f) ≡ relabelled φ (pair_else f)
  unfolding pair_else relabelled is_named
  pair-natural nil = refl
  pair-natural (node f fs nil) = refl
  pair-natural (node f fs (node c cs nil)) = refl
  pair-natural (node f fs (node c cs (node x xs r))) = pick (relabelled φ) _ _ (token-seen Operator.conditional_else refl c cs) refl refl

  scanned-natural : (x y z : Bool) (a : Token) (aa : Forest) (b : Token) (bs left right : Forest)
      → ((r : Forest) → scan (relabelled φ left) (relabelled φ r) ≡ relabelled φ (scan left r))
      → ((r : Forest) → scan (relabelled φ (node b bs left)) (relabelled φ r) ≡ relabelled φ (scan (node b bs left) r))
      → scanned x y z (φ a) (relabelled φ aa) (φ b) (relabelled φ bs) (relabelled φ left) (relabelled φ right)
      ≡ relabelled φ (scanned x y z a aa b bs left right)
  unfolding scanned relabelled
  scanned-natural true y true a aa b bs left right far near =
      ap (scan (relabelled φ left)) (ap pair_else (under-natural a b bs right) ∙ pair-natural (under a b bs right)) ∙ far _
  scanned-natural true y false a aa b bs left right far near = ap (scan (relabelled φ left)) (under-natural a b bs right) ∙ far _
  scanned-natural false true true a aa b bs left right far near = ap (scan (relabelled φ left)) (under-natural a b bs right) ∙ far _
  scanned-natural false true false a aa b bs left right far near = near (node a aa right)
  scanned-natural false false z a aa b bs left right far near = near (node a aa right)

  scan-natural : (left right : Forest) → scan (relabelled φ left) (relabelled φ right) ≡ relabelled φ (scan left right)
  unfolding scan relabelled is_named
  scan-natural nil right = refl
  scan-natural (node a aa nil) right = refl
  scan-natural (node a aa (node b bs left)) right =
      scan-once (φ a) (relabelled φ aa) (φ b) (relabelled φ bs) (relabelled φ left) (relabelled φ right)
      ∙ rw (
        token-seen Operator.conditional refl a aa,
        token-seen Operator.conditional_else refl a aa,
        starts-seen Operator.conditional refl left,
      )
      (scanned-natural _ _ _ a aa b bs left right (λ r. scan-natural left r) (λ r. scan-natural (node b bs left) r))
      ∙ ap (relabelled φ) (sym (scan-once a aa b bs left right))

  folded-natural : (d : Forest) → folded_from (relabelled φ d) ≡ relabelled φ (folded_from d)
  unfolding folded_from relabelled
  folded-natural nil = refl
  folded-natural (node a aa nil) = refl
  folded-natural (node a aa (node b bs nil)) = refl
  folded-natural (node a aa (node b bs (node c cs left))) = scan-natural (node b bs (node c cs left)) (node a aa nil)

  dangling-natural : (f : Forest) → dangling (relabelled φ f) ≡ option_of φ (dangling f)
  unfolding dangling relabelled option_of is_named
  dangling-natural nil = refl
  dangling-natural (node k cs rest) =
      pick (option_of φ) _ _ (or-both (token-seen Operator.conditional refl k cs) (token-seen Operator.conditional_else refl k cs)) refl
      (dangling-natural rest)

  undangled-natural : (f : Forest) → undangled (relabelled φ f) ≡ result_of φ (undangled f)
  unfolding undangled
  undangled-natural f = found (dangling f) (dangling-natural f)
    where
      found : (o : Option Token) {o' : Option Token} → o' ≡ option_of φ o
          → (elim o' [ none ↦ ok (relabelled φ f) | some k ↦ fail (ternary_without_operands k ∷ []) ])
          ≡ result_of φ (elim o [ none ↦ ok f | some k ↦ fail (ternary_without_operands k ∷ []) ])
      found none h = unfold option_of result_of in rw h refl
      found (some t) h = unfold option_of result_of messages_of message_of in rw h refl

  conditional-steps : (d : Forest) (k : Token) (cs : Forest)
      → conditional_step (relabelled φ d) (φ k) (relabelled φ cs) ≡ step_of φ (relabelled φ) (conditional_step d k cs)
  unfolding conditional_step step_of relabelled
  conditional-steps d k nil = refl
  conditional-steps d k (node c cs r) = refl

  conditional-ends : (d : Forest) → conditional_finish (relabelled φ d) ≡ result_of φ (conditional_finish d)
  conditional-ends d = unfold conditional_finish in ap undangled (folded-natural d) ∙ undangled-natural (folded_from d)

  conditional-natural : Natural conditional_level
  unfolding conditional_level relabelled
  conditional-natural =
      record { state = relabelled φ; begins = λ f. refl; steps = conditional-steps; resumes = λ d k kids. refl; ends = conditional-ends }

  -- ---- Arrays

  unfoldable indexing_of : Indexing → Indexing
  indexing_of (unindexed d) = unindexed (relabelled φ d)
  indexing_of (named d q) = named (relabelled φ d) (φ q)
  indexing_of (indexed d q contents) = indexed (relabelled φ d) (φ q) (relabelled φ contents)

  abbrev array_of : Step Indexing → Step Indexing
  array_of = step_of φ indexing_of

  flushed-natural : (s : Indexing) → flushed (indexing_of s) ≡ relabelled φ (flushed s)
  unfolding flushed indexing_of relabelled
  flushed-natural (unindexed d) = refl
  flushed-natural (named d q) = refl
  flushed-natural (indexed d q contents) = ap (λ (f : Forest). node (φ q) f (relabelled φ d)) (sym (rel-in_order contents))

  index-seen : (k : Token) → is_index (φ k) ≡ is_index k
  index-seen k = unfold is_index is_named in is_seen Operator.left_bracket refl k

  starts-index-seen : (f : Forest) → starts_with_index (relabelled φ f) ≡ starts_with_index f
  unfolding starts_with_index relabelled
  starts-index-seen nil = refl
  starts-index-seen (node k cs r) = index-seen k

  array-renamed : (k : Token) → φ (renamed Operator.array k) ≡ renamed Operator.array (φ k)
  array-renamed k = A.renames Operator.array k (omega arith)

  empty-natural : (s : Indexing) (k : Token) → empty_index (indexing_of s) (φ k) ≡ array_of (empty_index s k)
  unfolding empty_index indexing_of step_of relabelled messages_of message_of
  empty-natural (unindexed d) k = refl
  empty-natural (named d q) k = ap (λ (t : Token). stop (empty_array_index t (φ k) ∷ [])) (sym (array-renamed q))
  empty-natural (indexed d q contents) k = refl

  next-natural : (d : Forest) (q : Token) (contents cs : Forest)
      → next_index (relabelled φ d) (φ q) (relabelled φ contents) (relabelled φ cs) ≡ array_of (next_index d q contents cs)
  unfolding next_index indexing_of step_of relabelled is_named
  next-natural d q nil cs = refl
  next-natural d q (node l (node x xs y) contents) cs = refl
  next-natural d q (node l nil contents) cs =
      pick array_of _ _ (is_seen Operator.array_variable refl l) (pick array_of _ _ (starts-index-seen cs) refl refl) refl

  index-natural : (s : Indexing) (cs : Forest) → index (indexing_of s) (relabelled φ cs) ≡ array_of (index s cs)
  unfolding index indexing_of step_of relabelled
  index-natural (unindexed d) cs = refl
  index-natural (named d q) cs = ap (λ (t : Token). into (indexed (relabelled φ d) t nil) (unindexed nil)) (sym (array-renamed q))
  index-natural (indexed d q contents) cs = next-natural d q contents cs

  array_steps : (s : Indexing) (k : Token) (cs : Forest) → array_step (indexing_of s) (φ k) (relabelled φ cs) ≡ array_of (array_step s k cs)
  unfolding array_step indexing_of step_of relabelled is_named
  array_steps s k nil =
      pick array_of _ _ (index-seen k) (empty-natural s k)
      (pick array_of _ _ (is_seen Operator.array_variable refl k) (ap (λ (f : Forest). on (named f (φ k))) (flushed-natural s))
      (ap (λ (f : Forest). on (unindexed (node (φ k) nil f))) (flushed-natural s)))
  array_steps s k (node c cs r) =
      pick array_of _ _ (index-seen k) (index-natural s (node c cs r))
      (ap (λ (f : Forest). into (unindexed f) (unindexed nil)) (flushed-natural s))

  array-resumes : (s : Indexing) (k : Token) (kids : Forest)
      → array_resume (indexing_of s) (φ k) (relabelled φ kids) ≡ indexing_of (array_resume s k kids)
  unfolding array_resume indexing_of relabelled
  array-resumes (unindexed d) k kids = refl
  array-resumes (named d q) k kids = refl
  array-resumes (indexed d q contents) k kids = ap (indexed (relabelled φ d) (φ q)) (sym (rel-turned kids contents))

  array-ends : (s : Indexing) → array_finish (indexing_of s) ≡ result_of φ (array_finish s)
  array-ends s = unfold array_finish in ap (λ (f : Forest). ok (in_order f)) (flushed-natural s) ∙ done-in_order (flushed s)

  array-natural : Natural array_level
  unfolding array_level indexing_of relabelled
  array-natural = record { state = indexing_of; begins = λ f. refl; steps = array_steps; resumes = array-resumes; ends = array-ends }

  -- ---- Statements

  unfoldable split_for : Split → Split
  split_for (unsplit d) = unsplit (relabelled φ d)
  split_for (after q ended) = after (φ q) (relabelled φ ended)
  split_for (inside q ended s d) = inside (φ q) (relabelled φ ended) (φ s) (relabelled φ d)

  semicolon-bare : (k : Token) → φ (bare Operator.semicolon k) ≡ bare Operator.semicolon (φ k)
  semicolon-bare k = A.bares Operator.semicolon k (omega arith)

  split-natural : (f : Forest) → split_of (relabelled φ f) ≡ split_for (split_of f)
  unfolding split_of relabelled split_for is_named
  split-natural nil = refl
  split-natural (node k (node c cs r) rest) = split-natural rest
  split-natural (node k nil rest) =
      pick split_for _ _ (is_seen Operator.semicolon refl k) (ap (λ (t : Token). after t nil) (sym (semicolon-bare k))) (split-natural rest)

  gather-natural : (k : Token) (cs : Forest) (m : Split) → gather (φ k) (relabelled φ cs) (split_for m) ≡ split_for (gather k cs m)
  unfolding gather split_for relabelled
  gather-natural k cs (unsplit d) = refl
  gather-natural k cs (after q ended) =
      ap (λ (t : Token). inside (φ q) (relabelled φ ended) t (node (φ k) (relabelled φ cs) nil)) (sym (semicolon-bare k))
  gather-natural k cs (inside q ended s d) = refl

  end-natural : (k : Token) (m : Split) → end_statement (φ k) (split_for m) ≡ step_of φ split_for (end_statement k m)
  unfolding end_statement split_for relabelled step_of messages_of message_of
  end-natural k (unsplit d) = refl
  end-natural k (after q nil) = refl
  end-natural k (after q (node t ts ended)) = refl
  end-natural k (inside q ended s d) =
      ap (λ (f : Forest). on (after (φ q) (node (φ s) f (relabelled φ ended)))) (sym (rel-in_order d))

  entered-seen : (k : Token) → is_entered (φ k).op ≡ is_entered k.op
  unfolding is_entered is_named all_named
  entered-seen k = among-seen (Operator.left_brace ∷ Operator.left_parenthesis ∷ Operator.loop ∷ Operator.for_each ∷ []) refl k

  enter-natural : (m : Split) (k : Token) (cs : Forest)
      → enter_split (split_for m) (φ k) (relabelled φ cs) ≡ step_of φ split_for (enter_split m k cs)
  unfolding enter_split step_of
  enter-natural m k cs =
      pick (step_of φ split_for) _ _ (entered-seen k) (ap (into (split_for m)) (split-natural cs)) (ap on (gather-natural k cs m))

  statement-steps : (m : Split) (k : Token) (cs : Forest)
      → statement_step (split_for m) (φ k) (relabelled φ cs) ≡ step_of φ split_for (statement_step m k cs)
  unfolding statement_step split_for relabelled step_of is_named
  statement-steps m k nil =
      pick (step_of φ split_for) _ _ (is_seen Operator.semicolon refl k) (end-natural k m) (ap on (gather-natural k nil m))
  statement-steps (unsplit d) k (node c cs r) = ap (into (unsplit (relabelled φ d))) (split-natural (node c cs r))
  statement-steps (after q ended) k (node c cs r) = enter-natural (after q ended) k (node c cs r)
  statement-steps (inside q ended s d) k (node c cs r) = enter-natural (inside q ended s d) k (node c cs r)

  statement-resumes : (m : Split) (k : Token) (kids : Forest)
      → statement_resume (split_for m) (φ k) (relabelled φ kids) ≡ split_for (statement_resume m k kids)
  statement-resumes m k kids = unfold statement_resume in gather-natural k kids m

  statement-ends : (m : Split) → statement_finish (split_for m) ≡ result_of φ (statement_finish m)
  unfolding statement_finish split_for result_of relabelled
  statement-ends (unsplit d) = done-in_order d
  statement-ends (after q ended) = ap (λ (f : Forest). ok (node (φ q) f nil)) (sym (rel-in_order ended))
  statement-ends (inside q ended s d) =
      ap (λ (f : Forest). ok (node (φ q) (in_order (node (φ s) f (relabelled φ ended))) nil)) (sym (rel-in_order d))
      ∙ ap (λ (f : Forest). ok (node (φ q) f nil)) (sym (rel-in_order (node s (in_order d) ended)))

  statement-natural : Natural statement_level
  unfolding statement_level
  statement-natural =
      record { state = split_for; begins = split-natural; steps = statement-steps; resumes = statement-resumes; ends = statement-ends }

  -- ---- Unary minus and not

  unfoldable unary_of : Unary → Unary
  unary_of (done pair r) = done pair (relabelled φ r)
  unary_of (undone ms) = undone (messages_of φ ms)

  minus-natural : (p : Option Token) (k : Token) (r : Forest)
      → minus_after (option_of φ p) (φ k) (relabelled φ r) ≡ unary_of (minus_after p k r)
  unfolding minus_after option_of relabelled unary_of messages_of message_of
  minus-natural none k nil = refl
  minus-natural (some p) k nil = refl
  minus-natural none k (node n ns r) = refl
  minus-natural (some p) k (node n ns r) = by (before_minus p.op) _ (before-seen (A.op p))
    where
      by : (b b' : BeforeMinus) → b' ≡ b
          → (elim b' [
            | operator ↦ done false (node (φ k) (node (φ n) (relabelled φ ns) nil) (relabelled φ r))
            | operand ↦ done false
                (node (renamed Operator.add (φ k)) nil
                (node (bare Operator.negate (φ k)) (node (φ n) (relabelled φ ns) nil) (relabelled φ r)))
            | minus ↦ done true (node (φ n) (relabelled φ ns) (relabelled φ r))
            | unknown ↦ undone (unknown_operation (φ k) (φ p) ∷ [])
          ])
          ≡ unary_of (elim b [
            | operator ↦ done false (node k (node n ns nil) r)
            | operand ↦ done false (node (renamed Operator.add k) nil (node (bare Operator.negate k) (node n ns nil) r))
            | minus ↦ done true (node n ns r)
            | unknown ↦ undone (unknown_operation k p ∷ [])
          ])
      by operator b' e = unfold unary_of relabelled in rw e refl
      by operand b' e = unfold unary_of relabelled in rw
          (e, A.renames Operator.add k (omega arith), A.bares Operator.negate k (omega arith)) refl
      by minus b' e = unfold unary_of relabelled in rw e refl
      by unknown b' e = unfold unary_of messages_of message_of in rw e refl

  not-natural : (k : Token) (r : Forest) → not_before (φ k) (relabelled φ r) ≡ unary_of (not_before k r)
  unfolding not_before relabelled unary_of messages_of message_of
  not-natural k nil = refl
  not-natural k (node n ns r) = refl

  turned-natural : (pair : Bool) (k : Token) → turned pair (φ k) ≡ φ (turned pair k)
  unfolding turned
  turned-natural true k = sym (A.renames Operator.add k (omega arith))
  turned-natural false k = refl

  node-natural : (p : Option Token) (k : Token) (cs kids r : Forest)
      → unary_node (option_of φ p) (φ k) (relabelled φ cs) (relabelled φ kids) (relabelled φ r) ≡ unary_of (unary_node p k cs kids r)
  unfolding unary_node unary_leaf relabelled unary_of is_named
  node-natural p k nil kids r =
      pick unary_of _ _ (is_seen Operator.negate refl k) (minus-natural p k r)
      (pick unary_of _ _ (is_seen Operator.logical_not refl k) (not-natural k r) refl)
  node-natural p k (node c cs rest) kids r = refl

  at_node-natural : (p : Option Token) (k : Token) (cs : Forest) (x y : Unary)
      → at_node (option_of φ p) (φ k) (relabelled φ cs) (unary_of x) (unary_of y) ≡ unary_of (at_node p k cs x y)
  unfolding at_node in_node unary_of
  at_node-natural p k cs (undone ms) y = refl
  at_node-natural p k cs (done pair r) (undone ms) = refl
  at_node-natural p k cs (done pair r) (done inner kids) =
      ap (λ (t : Token). unary_node (option_of φ p) t (relabelled φ cs) (relabelled φ kids) (relabelled φ r)) (turned-natural pair k)
      ∙ node-natural p (turned pair k) cs kids r

  unary-natural : (p : Option Token) (f : Forest) → unary (option_of φ p) (relabelled φ f) ≡ unary_of (unary p f)
  unfolding unary at_node in_node relabelled unary_of option_of
  unary-natural p nil = refl
  unary-natural p (node k cs rest) =
      ap (λ (x : Unary). at_node (option_of φ p) (φ k) (relabelled φ cs) x (unary none (relabelled φ cs))) (unary-natural (some k) rest)
      ∙ ap (at_node (option_of φ p) (φ k) (relabelled φ cs) (unary_of (unary (some k) rest))) (unary-natural none cs)
      ∙ at_node-natural p k cs (unary (some k) rest) (unary none cs)

  unary_pass-natural : (f : Forest) → unary_pass (relabelled φ f) ≡ result_of φ (unary_pass f)
  unfolding unary_pass option_of
  unary_pass-natural f = by (unary none f) _ (unary-natural none f)
    where
      by : (x x' : Unary) → x' ≡ unary_of x
          → (elim x' [ undone m ↦ fail m | done pair r ↦ ok r ]) ≡ result_of φ (elim x [ undone m ↦ fail m | done pair r ↦ ok r ])
      by (undone ms) x' e = unfold unary_of result_of in rw e refl
      by (done pair r) x' e = unfold unary_of result_of in rw e refl

  -- ---- Members and sections

  members-seen : (k : Token) → has_members (φ k).op ≡ has_members k.op
  unfolding has_members is_named all_named
  members-seen k =
      among-seen
      (Operator.query_function ∷ Operator.context_variable ∷ Operator.entity_variable ∷ Operator.temp_variable ∷ Operator.member_accessor
      ∷ []) refl k

  unfoldable forest_for : Option Forest → Option Forest
  forest_for none = none
  forest_for (some e) = some (relabelled φ e)

  member-natural : (k : Token) (d : Forest) → with_member (φ k) (relabelled φ d) ≡ forest_for (with_member k d)
  unfolding with_member relabelled forest_for
  member-natural k nil = refl
  member-natural k (node x xs d) = pick forest_for _ _ (members-seen x) refl refl

  after_member-natural : (ms : List Message) (rest : Forest) (x : Option Forest)
      → ((e : Forest) → members (relabelled φ e) (relabelled φ rest) ≡ result_of φ (members e rest))
      → after_member (messages_of φ ms) (relabelled φ rest) (forest_for x) ≡ result_of φ (after_member ms rest x)
  unfolding after_member forest_for result_of
  after_member-natural ms rest none later = refl
  after_member-natural ms rest (some e) later = later e

  members-natural : (d f : Forest) → members (relabelled φ d) (relabelled φ f) ≡ result_of φ (members d f)
  unfolding members relabelled is_named after_member messages_of message_of
  members-natural d nil = done-in_order d
  members-natural d (node k cs rest) =
      pick (result_of φ) _ _ (is_seen Operator.member_accessor refl k)
      (ap (after_member (leading_member_accessor (φ k) ∷ []) (relabelled φ rest)) (member-natural k d)
      ∙ after_member-natural (leading_member_accessor k ∷ []) rest (with_member k d) (λ e. members-natural e rest))
      (members-natural (node k cs d) rest)

  unfoldable open_for : Open → Open
  open_for (outside d) = outside (relabelled φ d)
  open_for (section o i d s) = section (φ o) i (relabelled φ d) (open_for s)

  unfoldable walked_for : Walked → Walked
  walked_for (going s) = going (open_for s)
  walked_for (mismatch ms) = mismatch (messages_of φ ms)

  closer-seen : (o : Token) → closer (φ o) ≡ closer o
  closer-seen o = unfold closer in ap (λ (c : Option ℕ). get_or c 0) (closing-seen (A.op o))

  position-natural : (i : ℕ) (s : Open) → position i (open_for s) ≡ position i s
  unfolding position open_for
  position-natural i (outside d) = rel-count φ d
  position-natural i (section o j d s) = refl

  outermost-natural : (o : Token) (s : Open) → outermost (φ o) (open_for s) ≡ φ (outermost o s)
  unfolding outermost open_for
  outermost-natural o (outside d) = refl
  outermost-natural o (section p j d s) = outermost-natural p s

  placed-natural : (k : Token) (cs : Forest) (s : Open) → placed (φ k) (relabelled φ cs) (open_for s) ≡ open_for (placed k cs s)
  unfolding placed open_for relabelled
  placed-natural k cs (outside d) = refl
  placed-natural k cs (section o i d s) = refl

  closers-named : (o : Token) → is_named (closer o) ≡ true
  unfolding closer closing_of is_named
  closers-named o =
      either NamedOr (eqb o.op Operator.left_brace) _ _ refl
      (either NamedOr (eqb o.op Operator.left_bracket) _ _ refl (either NamedOr (eqb o.op Operator.left_parenthesis) _ _ refl refl))
    where
      NamedOr : Option ℕ → Type 0
      NamedOr c = is_named (get_or c 0) ≡ true

  match-seen : (o k : Token) → eqb (closer (φ o)) (φ k).op ≡ eqb (closer o) k.op
  match-seen o k = ap (λ (c : ℕ). eqb c (φ k).op) (closer-seen o) ∙ eqb-seen-right (closer o) (closers-named o) (A.op k)

  closing-natural : (k : Token) (cs : Forest) (i : ℕ) (s : Open)
      → closing (φ k) (relabelled φ cs) i (open_for s) ≡ walked_for (closing k cs i s)
  unfolding closing open_for walked_for relabelled messages_of message_of
  closing-natural k cs i (outside d) = refl
  closing-natural k cs i (section o j d s) =
      pick walked_for _ _ (match-seen o k)
      (ap (λ (q : Token). going (placed q (in_order (relabelled φ d)) (open_for s))) (sym (A.closes k o))
      ∙ ap (λ (f : Forest). going (placed (φ (closed_by k o)) f (open_for s))) (sym (rel-in_order d))
      ∙ ap going (placed-natural (closed_by k o) (in_order d) s))
      (ap (λ (t : Token). mismatch (closing_mismatch (φ o) j (φ k) i ∷ section_not_closed t ∷ [])) (outermost-natural o s))

  closers-seen : (k : Token) → is_closer (φ k).op ≡ is_closer k.op
  unfolding is_closer is_named all_named
  closers-seen k = among-seen (Operator.right_brace ∷ Operator.right_bracket ∷ Operator.right_parenthesis ∷ []) refl k

  bracket-natural : (k : Token) (cs : Forest) (i : ℕ) (s : Open)
      → bracket (φ k) (relabelled φ cs) i (open_for s) ≡ walked_for (bracket k cs i s)
  unfolding bracket
  bracket-natural k cs i s = by (closing_of k.op) _ (closing-seen (A.op k))
    where
      unopened :
          (elim (is_closer (φ k).op)
          [ true ↦ closing (φ k) (relabelled φ cs) i (open_for s) | false ↦ going (placed (φ k) (relabelled φ cs) (open_for s)) ])
          ≡ walked_for (elim (is_closer k.op) [ true ↦ closing k cs i s | false ↦ going (placed k cs s) ])
      unopened = unfold walked_for in pick walked_for _ _ (closers-seen k) (closing-natural k cs i s) (ap going (placed-natural k cs s))

      by : (c c' : Option ℕ) → c' ≡ c
          → (elim c' [
            | some x ↦ going (section (φ k) (i + 1) nil (open_for s))
            | none ↦ elim
                (is_closer (φ k).op)
                [ true ↦ closing (φ k) (relabelled φ cs) i (open_for s) | false ↦ going (placed (φ k) (relabelled φ cs) (open_for s)) ]
          ])
          ≡ walked_for (elim c [
            | some x ↦ going (section k (i + 1) nil s)
            | none ↦ elim (is_closer k.op) [ true ↦ closing k cs i s | false ↦ going (placed k cs s) ]
          ])
      by none c' e = rw e unopened
      by (some x) c' e = unfold walked_for open_for relabelled in rw e refl

  closed-natural : (s : Open) → closed (open_for s) ≡ result_of φ (closed s)
  unfolding closed open_for result_of messages_of message_of
  closed-natural (outside d) = done-in_order d
  closed-natural (section o i d s) =
      ap (λ (t : Token). fail (no_closing_symbol (φ o) i ∷ section_not_closed t ∷ [])) (outermost-natural o s)

  after_bracket-natural : (i : ℕ) (rest : Forest) (x : Walked)
      → ((t : Open) → sections i (open_for t) (relabelled φ rest) ≡ result_of φ (sections i t rest))
      → after_bracket i (relabelled φ rest) (walked_for x) ≡ result_of φ (after_bracket i rest x)
  unfolding after_bracket walked_for result_of
  after_bracket-natural i rest (going t) later = later t
  after_bracket-natural i rest (mismatch ms) later = refl

  sections-natural : (i : ℕ) (s : Open) (f : Forest) → sections i (open_for s) (relabelled φ f) ≡ result_of φ (sections i s f)
  unfolding sections after_bracket relabelled
  sections-natural i s nil = closed-natural s
  sections-natural i s (node k cs rest) =
      ap (λ (j : ℕ). after_bracket j (relabelled φ rest) (bracket (φ k) (relabelled φ cs) j (open_for s))) (position-natural i s)
      ∙ ap (after_bracket (position i s) (relabelled φ rest)) (bracket-natural k cs (position i s) s)
      ∙ after_bracket-natural (position i s) rest (bracket k cs (position i s) s) (λ t. sections-natural (position i s) t rest)

  -- ---- The last token, and the roots

  last-natural : (p : Option Token) (f : Forest) → last_of (option_of φ p) (relabelled φ f) ≡ option_of φ (last_of p f)
  unfolding last_of relabelled option_of
  last-natural p nil = refl
  last-natural p (node k cs rest) = last-natural (some k) rest

  ends-natural : (l : ℕ) (f : Forest) → ends_with_semicolon l (relabelled φ f) ≡ result_of φ (ends_with_semicolon l f)
  unfolding ends_with_semicolon option_of
  ends-natural l f = by (last_of none f) _ (last-natural none f)
    where
      by : (o o' : Option Token) → o' ≡ option_of φ o
          → (elim o' [
            | none ↦ fail (complex_must_end_with_semicolon 0 l ∷ [])
            | some k ↦ elim
                (eqb k.op Operator.semicolon)
                [ true ↦ ok (relabelled φ f) | false ↦ fail (complex_must_end_with_semicolon k.start k.end ∷ []) ]
          ])
          ≡ result_of φ (elim o [
            | none ↦ fail (complex_must_end_with_semicolon 0 l ∷ [])
            | some k ↦ elim
                (eqb k.op Operator.semicolon) [ true ↦ ok f | false ↦ fail (complex_must_end_with_semicolon k.start k.end ∷ []) ]
          ])
      by none o' e = unfold option_of result_of messages_of message_of in rw e refl
      by (some k) o' e =
          unfold option_of result_of messages_of message_of is_named in
          rw e (pick (result_of φ) _ _ (is_seen Operator.semicolon refl k) refl
          (rw (A.start k, A.end k) refl))

  start-natural : (m : ℕ) (f : Forest) → lowest_start m (relabelled φ f) ≡ lowest_start m f
  unfolding lowest_start relabelled
  start-natural m nil = refl
  start-natural m (node k cs rest) =
      rw (A.start k, start-natural (min m k.start) cs) (start-natural (lowest_start (min m k.start) cs) rest)

  end-of-natural : (m : ℕ) (f : Forest) → highest_end m (relabelled φ f) ≡ highest_end m f
  unfolding highest_end relabelled
  end-of-natural m nil = refl
  end-of-natural m (node k cs rest) =
      rw (A.end k, end-of-natural (max m k.end) cs) (end-of-natural (highest_end (max m k.end) cs) rest)

  last_end-natural : (k : Token) (cs rest : Forest) → last_end (φ k) (relabelled φ cs) (relabelled φ rest) ≡ last_end k cs rest
  unfolding last_end relabelled
  last_end-natural k cs nil = rw (A.end k) (end-of-natural k.end cs)
  last_end-natural k cs (node l ls rest) = last_end-natural l ls rest

  messages-append : (xs ys : List Message) → messages_of φ (xs ++ ys) ≡ messages_of φ xs ++ messages_of φ ys
  unfolding messages_of
  messages-append [] ys = refl
  messages-append (x ∷ xs) ys = ap (λ (ms : List Message). message_of φ x ∷ ms) (messages-append xs ys)

  rooted-natural : (l : ℕ) (so_far : List Message) (f : Forest)
      → rooted l (messages_of φ so_far) (relabelled φ f) ≡ answer_of φ (rooted l so_far f)
  unfolding rooted relabelled answer_of messages_of message_of lowest_start last_end count
  rooted-natural l so_far nil = ap messages (sym (messages-append so_far (multiple_roots 0 l 0 ∷ [])))
  rooted-natural l so_far (node k cs nil) = refl
  rooted-natural l so_far (node k cs (node x xs rest)) =
      rw (A.start k, start-natural k.start cs, last_end-natural x xs rest, rel-count φ (node k cs (node x xs rest)))
      (ap messages (sym (messages-append so_far _)))

  -- ---- All passes

  pub apply-natural : (l : ℕ) (p : Pass) (f : Forest) → is_quiet p ≡ true → apply l p (relabelled φ f) ≡ result_of φ (apply l p f)
  unfolding apply is_quiet all_named is_named open_for relabelled
  apply-natural l last_token f h = ends-natural l f
  apply-natural l member_accessors f h = members-natural nil f
  apply-natural l sectioning f h = sections-natural 0 (outside nil) f
  apply-natural l call_pass f h = through-natural (call_level query_or_loop) (call-natural query_or_loop) f
  apply-natural l statements f h = through-natural statement_level statement-natural f
  apply-natural l arrays f h = through-natural array_level array-natural f
  apply-natural l pointer f h = through-natural (binary_level (Operator.pointer ∷ [])) (binary-natural (Operator.pointer ∷ []) refl) f
  apply-natural l math_calls f h = through-natural (call_level math) (call-natural math) f
  apply-natural l unary_minus_and_not f h = unary_pass-natural f
  apply-natural l addition f h = through-natural (binary_level (Operator.add ∷ [])) (binary-natural (Operator.add ∷ []) refl) f
  apply-natural l conditional f h = through-natural conditional_level conditional-natural f
  apply-natural l returns f h = through-natural return_level return-natural f
  apply-natural l (binary ops) f h = through-natural (binary_level ops) (binary-natural ops h) f

  module _ (l : ℕ) (u : ℕ → Bool) where
    after_run-natural : (p : Pass) (ps : List Pass) (so_far : List Message) (x : Result)
        → ((so_far : List Message) (g : Forest)
        → grouped l u ps (messages_of φ so_far) (relabelled φ g) ≡ answer_of φ (grouped l u ps so_far g))
        → after_run l u p ps (messages_of φ so_far) (result_of φ x) ≡ answer_of φ (after_run l u p ps so_far x)
    unfolding after_run result_of answer_of relabelled
    after_run-natural p ps so_far (ok g) later = later so_far g
    after_run-natural p ps so_far (fail m) later =
        pick (answer_of φ) (ends_reading p) _ refl (ap messages (sym (messages-append so_far m)))
        (ap (λ (ms : List Message). grouped l u ps ms nil) (sym (messages-append so_far m)) ∙ later (so_far ++ m) nil)

    grouped-natural : (ps : List Pass) (so_far : List Message) (f : Forest) → all_quiet ps ≡ true
        → grouped l u ps (messages_of φ so_far) (relabelled φ f) ≡ answer_of φ (grouped l u ps so_far f)
    unfolding grouped after_run all_quiet
    grouped-natural [] so_far f h = rooted-natural l so_far f
    grouped-natural (p ∷ ps) so_far f h =
        let e = both (is_quiet p) (all_quiet ps) h in
        pick (answer_of φ) (runs u p) _ refl
        (ap (after_run l u p ps (messages_of φ so_far)) (apply-natural l p f e.0)
        ∙ after_run-natural p ps so_far (apply l p f) (λ sf g. grouped-natural ps sf g e.1))
        (grouped-natural ps so_far f e.1)

  -- READING COMMUTES WITH AN EXCHANGE OF TOKENS THAT THE PASSES DO NOT NOTICE.
  pub read-natural : (tokens : List Token) (u : ℕ → Bool) (version : ℤ) (source_length : ℕ)
      → read (tokens_for φ tokens) u version source_length ≡ answer_of φ (read tokens u version source_length)
  unfolding read messages_of
  read-natural ts u v l =
      ap (grouped l u (order (rules v)) []) (rel-leaves ts)
      ∙ grouped-natural l u (order (rules v)) [] (leaves ts)
      (order-quiet (rules v).comparisons_first (rules v).and_first (rules v).pairs_right)
