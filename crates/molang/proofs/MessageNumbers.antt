-- No message names a number above all operators: what a record names is the operator of a token that a test has named.
use Prim.Native.Nat.{ℕ, ◌+◌, ◌≤◌, ◌<◌}
use mathlib.Core.{Path.{◌≡◌, refl, sym, ◌∙◌}, Bool.{Bool, true, false, ◌||◌, true≢false}, List.{List, [], ◌∷◌, ◌++◌}}
use mathlib.Core.Option.{Option, none, some}
use native.Mathlib.Omega.{arith}
use lib.{Dec.{eqb, leb}, IntN.{ℤ}}
use borrow.Author.Tests.{eqb-true, leb-true, leb-false}
use Rattle.molang.specs.Operator
use Rattle.molang.specs.Operator.{any, is_one_of, is_math_call, is_query_or_loop, is_bracket, closing_of, is_closer, unknown, before_minus}
use Rattle.molang.specs.Forest.{Token, Forest, nil, node, closed_by, leaves, in_order}
use Rattle.molang.specs.Message.{Message, multiple_roots, complex_must_end_with_semicolon, leading_member_accessor, closing_mismatch}
use Rattle.molang.specs.Message.{section_not_closed, no_closing_symbol, empty_parameter_list, math_at_end, math_without_parenthesis}
use Rattle.molang.specs.Message.{leading_semicolon, empty_array_index, binary_at_end, negate_without_operand, not_without_operand}
use Rattle.molang.specs.Message.{unknown_operation, unary_without_operand, ternary_without_operands, Result, ok, fail, closer}
use Rattle.molang.specs.Level.{Step, stop, on, into, Level, walk, through, Gathered, gathered, waiting, nothing}
use Rattle.molang.specs.Sections.{with_member, members, Open, outside, section, placed, position, outermost, Walked, going, mismatch}
use Rattle.molang.specs.Sections.{closing, bracket, closed, sections}
use Rattle.molang.specs.Calls.{CallKind, query_or_loop, math, calls, call_leaf, call_step, call_resume, call_finish, call_level, Indexing}
use Rattle.molang.specs.Calls.{unindexed, named, indexed, is_index, starts_with_index, empty_index, next_index, index, array_step}
use Rattle.molang.specs.Calls.{array_finish, array_level}
use Rattle.molang.specs.Statements.{Split, unsplit, after, inside, is_entered, end_statement, enter_split, statement_step}
use Rattle.molang.specs.Statements.{statement_finish, statement_level}
use Rattle.molang.specs.Unary.{Unary, done, undone, minus_after, not_before, unary_leaf, turned, unary_node, unary, unary_pass, return_step}
use Rattle.molang.specs.Unary.{return_resume, return_finish, return_level}
use Rattle.molang.specs.Binary.{first_leaf, unfolded, operator_after, binary_step, binary_resume, binary_finish, binary_level}
use Rattle.molang.specs.Conditional.{is_token, folded_from, dangling, undangled, conditional_step, conditional_finish, conditional_level}
use Rattle.molang.specs.Order.{rules, Pass, last_token, member_accessors, sectioning, call_pass, statements, arrays, pointer, math_calls}
use Rattle.molang.specs.Order.{unary_minus_and_not, addition, conditional, returns, binary, order, runs, last_of, ends_with_semicolon}
use Rattle.molang.specs.{Order.{apply}, Read.{Answer, tree, messages, rooted, ends_reading, grouped, read}}
use Rattle.molang.proofs.Booleans
use Rattle.molang.proofs.{Trees.{decided, either, maybe, both}, FirstFailure.{All}, Walks.{back, onward, walk-onward}}
use Rattle.molang.proofs.Unary.{before_cases, in_node, at_node}
use Rattle.molang.proofs.Relabelling.{is_named, all_named, named-low, as_this, one_of-seen, math-seen, closing-seen, before-seen}
use Rattle.molang.proofs.Relabelling.{is_quiet, all_quiet, order-quiet}

-- ---- What is named

-- An operator of document 01.
abbrev pub Low : Token → Type 0
Low k = k.op ≤ 110

-- The operators that a message's record names are such.
abbrev pub NamesLow : Message → Type 0
NamesLow (multiple_roots from to roots) = Unit {0}
NamesLow (complex_must_end_with_semicolon from to) = Unit {0}
NamesLow (leading_member_accessor k) = Unit {0}
NamesLow (closing_mismatch o i k j) = Low o × Low k
NamesLow (section_not_closed o) = Low o
NamesLow (no_closing_symbol o i) = Low o
NamesLow (empty_parameter_list k b) = Low k
NamesLow (math_at_end k) = Low k
NamesLow (math_without_parenthesis k) = Low k
NamesLow (leading_semicolon k) = Unit {0}
NamesLow (empty_array_index k i) = Unit {0}
NamesLow (binary_at_end k) = Low k
NamesLow (negate_without_operand k) = Unit {0}
NamesLow (not_without_operand k) = Unit {0}
NamesLow (unknown_operation k p) = Low p
NamesLow (unary_without_operand k) = Low k
NamesLow (ternary_without_operands k) = Low k

abbrev pub AllLow : List Message → Type 0
AllLow [] = Unit {0}
AllLow (m ∷ ms) = NamesLow m × AllLow ms

all_append : (xs ys : List Message) → AllLow xs → AllLow ys → AllLow (xs ++ ys)
all_append [] ys h g = g
all_append (x ∷ xs) ys h g = (h.0, all_append xs ys h.1 g)

-- A pass's messages, if it has any, name such operators.
abbrev ResultLow : Result → Type 0
ResultLow (ok f) = Unit {0}
ResultLow (fail ms) = AllLow ms

-- ---- What a test names

-- A number above all operators is seen as 76: so a test that does not name 76 names no such number.
low-unless : (n : ℕ) → (110 < n → ⊥) → n ≤ 110
low-unless n h = Booleans.either (leb n 110) (λ e. leb-true n 110 e) (λ e. absurd (h (leb-false n 110 e)))

call-low : (kind : CallKind) (n : ℕ) → calls kind n ≡ true → n ≤ 110
unfolding calls is_query_or_loop is_math_call Operator.between is_one_of any all_named is_named
call-low query_or_loop n h =
    low-unless n
    λ l. true≢false (sym h ∙ sym (one_of-seen (Operator.query_function ∷ Operator.loop ∷ Operator.for_each ∷ []) refl (as_this refl l)))
call-low math n h = low-unless n λ l. true≢false (sym h ∙ sym (math-seen (as_this refl l)))

among-low : (os : List ℕ) → all_named os ≡ true → (n : ℕ) → is_one_of os n ≡ true → n ≤ 110
unfolding is_one_of any all_named
among-low [] a n h = Booleans.false-true h
among-low (o ∷ os) a n h =
    let e = both (is_named o) (all_named os) a in
    Booleans.either (eqb n o) (λ t. omega (arith, eqb-true n o t, (named-low o e.0).0))
    (λ f. among-low os e.1 n (rw f at h))

opener-low : (n c : ℕ) → closing_of n ≡ some c → n ≤ 110
unfolding closing_of
opener-low n c h = low-unless n λ l. let e = sym h ∙ sym (closing-seen (as_this refl l)) in let z : ◌≡◌ {A = ℕ} 0 1 = cc in omega arith

closer-low : (n : ℕ) → is_closer n ≡ true → n ≤ 110
unfolding is_closer all_named is_named
closer-low n h = among-low (Operator.right_brace ∷ Operator.right_bracket ∷ Operator.right_parenthesis ∷ []) refl n h

unknown-low : (n : ℕ) → before_minus n ≡ unknown → n ≤ 110
unfolding before_minus is_one_of any
unknown-low n h = low-unless n λ l. let e = sym h ∙ sym (before-seen (as_this refl l)) in let z : ◌≡◌ {A = ℕ} 0 1 = cc in omega arith

-- ---- A level from the left

-- What a step keeps of what a level says of its states, whatever the lists are.
abbrev StepLow : {S : Type 0} → Level S → (S → Type 0) → Token → Step S → Type 0
StepLow L Holds k (stop ms) = AllLow ms
StepLow L Holds k (on t) = Holds t
StepLow {S} L Holds k (into t u) = Holds u × ((kids : Forest) → Holds (L.resume t k kids))

record Speaks {S : Type 0} (L : Level S) : Type 1 where
  Holds : S → Type 0
  begins : (f : Forest) → Holds (L.start f)
  steps : (s : S) (k : Token) (cs : Forest) → Holds s → StepLow L Holds k (L.step s k cs)
  ends : (s : S) → Holds s → ResultLow (L.finish s)

module _ {S : Type 0} (L : Level S) (A : Speaks L) where
  back_low : (t : S) (k : Token) (rest : Forest) (x : Result) → ResultLow x
      → ((kids : Forest) → ResultLow (walk L (L.resume t k kids) rest)) → ResultLow (back L t k rest x)
  unfolding back
  back_low t k rest (fail ms) h next = h
  back_low t k rest (ok kids) h next = next kids

  onward-low : (k : Token) (cs rest : Forest) (x : Step S) → StepLow L A.Holds k x
      → ((t : S) → A.Holds t → ResultLow (walk L t rest)) → ((u : S) → A.Holds u → ResultLow (walk L u cs))
      → ResultLow (onward L k cs rest x)
  unfolding onward
  onward-low k cs rest (stop ms) h later below = h
  onward-low k cs rest (on t) h later below = later t h
  onward-low k cs rest (into t u) h later below =
      back_low t k rest (walk L u cs) (below u h.0) λ kids. later (L.resume t k kids) (h.1 kids)

  walk-low : (s : S) (f : Forest) → A.Holds s → ResultLow (walk L s f)
  unfolding walk
  walk-low s nil h = A.ends s h
  walk-low s (node k cs rest) h =
      rw (walk-onward L) (onward-low k cs rest (L.step s k cs) (A.steps s k cs h) (λ t h. walk-low t rest h) (λ u h. walk-low u cs h))

  through-low : (f : Forest) → ResultLow (through L f)
  through-low f = unfold through in walk-low (L.start f) f (A.begins f)

-- What waits is such an operator.
abbrev WaitsLow : Gathered → Type 0
WaitsLow (gathered d) = Unit {0}
WaitsLow (waiting d q) = Low q

-- ---- The levels

leaf-low : (kind : CallKind) (d : Forest) (k : Token) → StepLow (call_level kind) WaitsLow k (call_leaf kind d k)
unfolding call_leaf
leaf-low kind d k = decided (StepLow (call_level kind) WaitsLow k) (calls kind k.op) _ _ (λ e. call-low kind k.op e) (λ e. tt)

call-steps : (kind : CallKind) (s : Gathered) (k : Token) (cs : Forest) → WaitsLow s
    → StepLow (call_level kind) WaitsLow k (call_step kind s k cs)
unfolding call_step call_level call_resume
call-steps kind (gathered d) k nil h = leaf-low kind d k
call-steps kind (gathered d) k (node c cs r) h = (tt, λ kids. tt)
call-steps query_or_loop (waiting d q) k nil h =
    either (StepLow (call_level query_or_loop) WaitsLow k) (is_bracket k.op) _ _ (h, tt) (leaf-low query_or_loop (node q nil d) k)
call-steps query_or_loop (waiting d q) k (node c cs r) h =
    either (StepLow (call_level query_or_loop) WaitsLow k) (is_bracket k.op) _ _ (tt, λ kids. tt) (tt, λ kids. tt)
call-steps math (waiting d q) k nil h = either (StepLow (call_level math) WaitsLow k) (is_bracket k.op) _ _ tt (h, tt)
call-steps math (waiting d q) k (node c cs r) h =
    either (StepLow (call_level math) WaitsLow k) (is_bracket k.op) _ _ (tt, λ kids. tt) (h, tt)

call_ends : (kind : CallKind) (s : Gathered) → WaitsLow s → ResultLow (call_finish kind s)
unfolding call_finish
call_ends kind (gathered d) h = tt
call_ends query_or_loop (waiting d q) h = tt
call_ends math (waiting d q) h = (h, tt)

call-speaks : (kind : CallKind) → Speaks (call_level kind)
call-speaks kind = unfold call_level nothing in record { Holds = WaitsLow; begins = λ f. tt; steps = call-steps kind; ends = call_ends kind }

module _ (ops : List ℕ) (named : all_named ops ≡ true) where
  first-low : (f : Forest) → All Low (first_leaf ops f)
  unfolding first_leaf
  first-low nil = tt
  first-low (node k (node c cs r) rest) =
      or_else (first_leaf ops (node c cs r)) (first_leaf ops rest) (first-low (node c cs r)) (first-low rest)
    where
      or_else : (o x : Option Token) → All Low o → All Low x → All Low (elim o [ some t ↦ some t | none ↦ x ])
      or_else none x h g = g
      or_else (some t) x h g = h
  first-low (node k nil rest) = decided (All Low) (is_one_of ops k.op) _ _ (λ e. among-low ops named k.op e) (λ e. first-low rest)

  unfolded-low : (d : Forest) → All Low (unfolded ops d)
  unfolding unfolded
  unfolded-low nil = tt
  unfolded-low (node l ls d) = first-low ls

  again-low : (d : Forest) (k : Token) (x : Step Gathered) → StepLow (binary_level ops) WaitsLow k x
      → StepLow (binary_level ops) WaitsLow k (elim (unfolded ops d) [ some t ↦ stop (binary_at_end t ∷ []) | none ↦ x ])
  again-low d k x h = by (unfolded ops d) (unfolded-low d)
    where
      by : (o : Option Token) → All Low o → StepLow (binary_level ops) WaitsLow k (elim o [ some t ↦ stop (binary_at_end t ∷ []) | none ↦ x ])
      by none g = h
      by (some t) g = (g, tt)

  after-low : (d : Forest) (k : Token) → Low k → StepLow (binary_level ops) WaitsLow k (operator_after d k)
  unfolding operator_after
  after-low nil k h = (h, tt)
  after-low (node l ls d) k h = h

  binary-steps : (s : Gathered) (k : Token) (cs : Forest) → WaitsLow s → StepLow (binary_level ops) WaitsLow k (binary_step ops s k cs)
  unfolding binary_step binary_level binary_resume
  binary-steps (gathered d) k nil h =
      decided (StepLow (binary_level ops) WaitsLow k) (is_one_of ops k.op) _ _
      (λ e. after-low d k (among-low ops named k.op e)) (λ e. tt)
  binary-steps (gathered d) k (node c cs r) h = (tt, λ kids. tt)
  binary-steps (waiting d q) k nil h = again-low d k _ tt
  binary-steps (waiting d q) k (node c cs r) h = again-low d k _ (tt, λ kids. tt)

  binary-ends : (s : Gathered) → WaitsLow s → ResultLow (binary_finish s)
  unfolding binary_finish
  binary-ends (gathered d) h = tt
  binary-ends (waiting d q) h = (h, tt)

  binary-speaks : Speaks (binary_level ops)
  binary-speaks = unfold binary_level nothing in record { Holds = WaitsLow; begins = λ f. tt; steps = binary-steps; ends = binary-ends }

return-steps : (s : Gathered) (k : Token) (cs : Forest) → WaitsLow s → StepLow return_level WaitsLow k (return_step s k cs)
unfolding return_step return_level return_resume
return-steps (gathered d) k nil h =
    decided (StepLow return_level WaitsLow k) (eqb k.op Operator.return) _ _
    (λ e. omega (arith, eqb-true k.op Operator.return e)) (λ e. tt)
return-steps (gathered d) k (node c cs r) h = (tt, λ kids. tt)
return-steps (waiting d q) k cs h = tt

return-ends : (s : Gathered) → WaitsLow s → ResultLow (return_finish s)
unfolding return_finish
return-ends (gathered d) h = tt
return-ends (waiting d q) h = (h, tt)

return-speaks : Speaks return_level
return-speaks = unfold return_level nothing in record { Holds = WaitsLow; begins = λ f. tt; steps = return-steps; ends = return-ends }

token-low : (o : ℕ) → o ≤ 110 → (k : Token) (cs : Forest) → is_token o k cs ≡ true → Low k
unfolding is_token
token-low o l k nil e = omega (arith, eqb-true k.op o e)
token-low o l k (node c cs r) e = Booleans.false-true e

dangling-low : (f : Forest) → All Low (dangling f)
unfolding dangling
dangling-low nil = tt
dangling-low (node k cs rest) =
    decided (All Low) (is_token Operator.conditional k cs || is_token Operator.conditional_else k cs) _ _
    (λ e. Booleans.either (is_token Operator.conditional k cs) (λ t. token-low Operator.conditional (omega arith) k cs t)
    (λ t. token-low Operator.conditional_else (omega arith) k cs (rw t at e))) (λ e. dangling-low rest)

conditional-ends : (d : Forest) → ResultLow (conditional_finish d)
unfolding conditional_finish undangled
conditional-ends d = by (folded_from d) (dangling (folded_from d)) (dangling-low (folded_from d))
  where
    by : (f : Forest) (o : Option Token) → All Low o → ResultLow (elim o [ none ↦ ok f | some k ↦ fail (ternary_without_operands k ∷ []) ])
    by f none h = tt
    by f (some k) h = (h, tt)

conditional-steps : (d : Forest) (k : Token) (cs : Forest) → StepLow conditional_level (λ s. Unit {0}) k (conditional_step d k cs)
unfolding conditional_step
conditional-steps d k nil = tt
conditional-steps d k (node c cs r) = (tt, λ kids. tt)

conditional-speaks : Speaks conditional_level
unfolding conditional_level
conditional-speaks =
    record { Holds = λ s. Unit {0}; begins = λ f. tt; steps = λ s k cs h. conditional-steps s k cs; ends = λ s h. conditional-ends s }

-- Arrays and statements have messages without numbers.
abbrev ArrayLow : Token → Step Indexing → Type 0
ArrayLow k = StepLow array_level (λ s. Unit {0}) k

next_low : (d : Forest) (q : Token) (contents cs : Forest) (k : Token) → ArrayLow k (next_index d q contents cs)
unfolding next_index
next_low d q nil cs k = (tt, λ kids. tt)
next_low d q (node l (node x xs y) contents) cs k = (tt, λ kids. tt)
next_low d q (node l nil contents) cs k =
    either (ArrayLow k) (eqb l.op Operator.array_variable) _ _
    (either (ArrayLow k) (starts_with_index cs) _ _ (tt, λ kids. tt) (tt, λ kids. tt)) (tt, λ kids. tt)

index-low : (s : Indexing) (cs : Forest) (k : Token) → ArrayLow k (index s cs)
unfolding index
index-low (unindexed d) cs k = (tt, λ kids. tt)
index-low (named d q) cs k = (tt, λ kids. tt)
index-low (indexed d q contents) cs k = next_low d q contents cs k

empty-low : (s : Indexing) (k : Token) → ArrayLow k (empty_index s k)
unfolding empty_index
empty-low (unindexed d) k = tt
empty-low (named d q) k = (tt, tt)
empty-low (indexed d q contents) k = (tt, tt)

array_steps : (s : Indexing) (k : Token) (cs : Forest) → ArrayLow k (array_step s k cs)
unfolding array_step
array_steps s k nil =
    either (ArrayLow k) (is_index k) _ _ (empty-low s k) (either (ArrayLow k) (eqb k.op Operator.array_variable) _ _ tt tt)
array_steps s k (node c cs r) = either (ArrayLow k) (is_index k) _ _ (index-low s (node c cs r) k) (tt, λ kids. tt)

array-speaks : Speaks array_level
unfolding array_level array_finish
array-speaks = record { Holds = λ s. Unit {0}; begins = λ f. tt; steps = λ s k cs h. array_steps s k cs; ends = λ s h. tt }

abbrev SplitLow : Token → Step Split → Type 0
SplitLow k = StepLow statement_level (λ s. Unit {0}) k

end_low : (k : Token) (m : Split) → SplitLow k (end_statement k m)
unfolding end_statement
end_low k (unsplit d) = tt
end_low k (after q nil) = (tt, tt)
end_low k (after q (node t ts ended)) = tt
end_low k (inside q ended s d) = tt

enter-low : (m : Split) (k : Token) (cs : Forest) → SplitLow k (enter_split m k cs)
enter-low m k cs = unfold enter_split in either (SplitLow k) (is_entered k.op) _ _ (tt, λ kids. tt) tt

statement-steps : (m : Split) (k : Token) (cs : Forest) → SplitLow k (statement_step m k cs)
unfolding statement_step
statement-steps m k nil = either (SplitLow k) (eqb k.op Operator.semicolon) _ _ (end_low k m) tt
statement-steps (unsplit d) k (node c cs r) = (tt, λ kids. tt)
statement-steps (after q ended) k (node c cs r) = enter-low (after q ended) k (node c cs r)
statement-steps (inside q ended s d) k (node c cs r) = enter-low (inside q ended s d) k (node c cs r)

statement-ends : (m : Split) → ResultLow (statement_finish m)
unfolding statement_finish
statement-ends (unsplit d) = tt
statement-ends (after q ended) = tt
statement-ends (inside q ended s d) = tt

statement-speaks : Speaks statement_level
unfolding statement_level
statement-speaks =
    record { Holds = λ s. Unit {0}; begins = λ f. tt; steps = λ s k cs h. statement-steps s k cs; ends = λ s h. statement-ends s }

-- ---- Unary minus and not

abbrev UnaryLow : Unary → Type 0
UnaryLow (done pair r) = Unit {0}
UnaryLow (undone ms) = AllLow ms

minus-low : (p : Option Token) (k : Token) (r : Forest) → UnaryLow (minus_after p k r)
unfolding minus_after
minus-low p k nil = (tt, tt)
minus-low none k (node n ns r) = tt
minus-low (some p) k (node n ns r) =
    before_cases UnaryLow (before_minus p.op) _ _ _ _ (λ e. tt) (λ e. tt) (λ e. tt) (λ e. (unknown-low p.op e, tt))

not_low : (k : Token) (r : Forest) → UnaryLow (not_before k r)
unfolding not_before
not_low k nil = (tt, tt)
not_low k (node n ns r) = tt

node-low : (p : Option Token) (k : Token) (cs kids r : Forest) → UnaryLow (unary_node p k cs kids r)
unfolding unary_node unary_leaf
node-low p k nil kids r =
    either UnaryLow (eqb k.op Operator.negate) _ _ (minus-low p k r)
    (either UnaryLow (eqb k.op Operator.logical_not) _ _ (not_low k r) tt)
node-low p k (node x xs y) kids r = tt

at_node-low : (p : Option Token) (k : Token) (cs : Forest) (x y : Unary) → UnaryLow x → UnaryLow y → UnaryLow (at_node p k cs x y)
unfolding at_node in_node
at_node-low p k cs (undone ms) y h g = h
at_node-low p k cs (done pair r) (undone ms) h g = g
at_node-low p k cs (done pair r) (done inner kids) h g = node-low p (turned pair k) cs kids r

unary-low : (p : Option Token) (f : Forest) → UnaryLow (unary p f)
unfolding unary at_node in_node
unary-low p nil = tt
unary-low p (node k cs rest) = at_node-low p k cs (unary (some k) rest) (unary none cs) (unary-low (some k) rest) (unary-low none cs)

unary_pass-low : (f : Forest) → ResultLow (unary_pass f)
unfolding unary_pass
unary_pass-low f = by (unary none f) (unary-low none f)
  where
    by : (x : Unary) → UnaryLow x → ResultLow (elim x [ undone m ↦ fail m | done pair r ↦ ok r ])
    by (undone ms) h = h
    by (done pair r) h = tt

-- ---- Members, sections and the last token

members-low : (d f : Forest) → ResultLow (members d f)
unfolding members
members-low d nil = tt
members-low d (node k cs rest) =
    either ResultLow (eqb k.op Operator.member_accessor) _ _ (by (with_member k d) (λ e. members-low e rest))
    (members-low (node k cs d) rest)
  where
    by : (x : Option Forest) → ((e : Forest) → ResultLow (members e rest))
        → ResultLow (elim x [ none ↦ fail (leading_member_accessor k ∷ []) | some e ↦ members e rest ])
    by none later = (tt, tt)
    by (some e) later = later e

-- The openers of the open sections are such operators.
abbrev OpenLow : Open → Type 0
OpenLow (outside d) = Unit {0}
OpenLow (section o i d s) = Low o × OpenLow s

abbrev WalkedLow : Walked → Type 0
WalkedLow (going s) = OpenLow s
WalkedLow (mismatch ms) = AllLow ms

outermost-low : (o : Token) (s : Open) → Low o → OpenLow s → Low (outermost o s)
unfolding outermost
outermost-low o (outside d) h g = h
outermost-low o (section p j d s) h g = outermost-low p s g.0 g.1

placed-low : (k : Token) (cs : Forest) (s : Open) → OpenLow s → OpenLow (placed k cs s)
unfolding placed
placed-low k cs (outside d) h = tt
placed-low k cs (section o i d s) h = h

closing-low : (k : Token) (cs : Forest) (i : ℕ) (s : Open) → Low k → OpenLow s → WalkedLow (closing k cs i s)
unfolding closing
closing-low k cs i (outside d) l h = tt
closing-low k cs i (section o j d s) l h =
    either WalkedLow (eqb (closer o) k.op) _ _ (placed-low (closed_by k o) (in_order d) s h.1)
    ((h.0, l), (outermost-low o s h.0 h.1, tt))

bracket-low : (k : Token) (cs : Forest) (i : ℕ) (s : Open) → OpenLow s → WalkedLow (bracket k cs i s)
unfolding bracket
bracket-low k cs i s h = by (closing_of k.op) refl
  where
    by : (o : Option ℕ) → closing_of k.op ≡ o
        → WalkedLow (elim o [
          | some c ↦ going (section k (i + 1) nil s)
          | none ↦ elim (is_closer k.op) [ true ↦ closing k cs i s | false ↦ going (placed k cs s) ]
        ])
    by (some c) e = (opener-low k.op c e, h)
    by none e =
        decided WalkedLow (is_closer k.op) _ _ (λ t. closing-low k cs i s (closer-low k.op t) h) (λ t. placed-low k cs s h)

closed-low : (s : Open) → OpenLow s → ResultLow (closed s)
unfolding closed
closed-low (outside d) h = tt
closed-low (section o i d s) h = (h.0, (outermost-low o s h.0 h.1, tt))

sections-low : (i : ℕ) (s : Open) (f : Forest) → OpenLow s → ResultLow (sections i s f)
unfolding sections
sections-low i s nil h = closed-low s h
sections-low i s (node k cs rest) h =
    by (bracket k cs (position i s) s) (bracket-low k cs (position i s) s h) (λ t g. sections-low (position i s) t rest g)
  where
    by : (x : Walked) → WalkedLow x → ((t : Open) → OpenLow t → ResultLow (sections (position i s) t rest))
        → ResultLow (elim x [ going t ↦ sections (position i s) t rest | mismatch m ↦ fail m ])
    by (going t) g later = later t g
    by (mismatch ms) g later = g

ends_low : (l : ℕ) (f : Forest) → ResultLow (ends_with_semicolon l f)
unfolding ends_with_semicolon
ends_low l f =
    maybe ResultLow (last_of none f) _ _ (λ k. either ResultLow (eqb k.op Operator.semicolon) _ _ tt (tt, tt)) (tt, tt)

-- ---- All passes

apply-low : (l : ℕ) (p : Pass) (f : Forest) → is_quiet p ≡ true → ResultLow (apply l p f)
unfolding apply is_quiet all_named is_named
apply-low l last_token f q = ends_low l f
apply-low l member_accessors f q = members-low nil f
apply-low l sectioning f q = sections-low 0 (outside nil) f tt
apply-low l call_pass f q = through-low (call_level query_or_loop) (call-speaks query_or_loop) f
apply-low l statements f q = through-low statement_level statement-speaks f
apply-low l arrays f q = through-low array_level array-speaks f
apply-low l pointer f q = through-low (binary_level (Operator.pointer ∷ [])) (binary-speaks (Operator.pointer ∷ []) refl) f
apply-low l math_calls f q = through-low (call_level math) (call-speaks math) f
apply-low l unary_minus_and_not f q = unary_pass-low f
apply-low l addition f q = through-low (binary_level (Operator.add ∷ [])) (binary-speaks (Operator.add ∷ []) refl) f
apply-low l conditional f q = through-low conditional_level conditional-speaks f
apply-low l returns f q = through-low return_level return-speaks f
apply-low l (binary ops) f q = through-low (binary_level ops) (binary-speaks ops q) f

abbrev pub AnswerLow : Answer → Type 0
AnswerLow (tree k cs) = Unit {0}
AnswerLow (messages ms) = AllLow ms

rooted-low : (l : ℕ) (so_far : List Message) (f : Forest) → AllLow so_far → AnswerLow (rooted l so_far f)
unfolding rooted
rooted-low l so_far nil h = all_append so_far _ h (tt, tt)
rooted-low l so_far (node k cs nil) h = tt
rooted-low l so_far (node k cs (node x xs rest)) h = all_append so_far _ h (tt, tt)

grouped-low : (l : ℕ) (u : ℕ → Bool) (ps : List Pass) (so_far : List Message) (f : Forest) → all_quiet ps ≡ true → AllLow so_far
    → AnswerLow (grouped l u ps so_far f)
unfolding grouped all_quiet
grouped-low l u [] so_far f q h = rooted-low l so_far f h
grouped-low l u (p ∷ ps) so_far f q h =
    let e = both (is_quiet p) (all_quiet ps) q in
    either AnswerLow (runs u p) _ _ (by (apply l p f) (apply-low l p f e.0) (λ ms g low. grouped-low l u ps ms g e.1 low))
    (grouped-low l u ps so_far f e.1 h)
  where
    by : (x : Result) → ResultLow x → ((ms : List Message) (g : Forest) → AllLow ms → AnswerLow (grouped l u ps ms g))
        → AnswerLow (elim x [
          | ok g ↦ grouped l u ps so_far g
          | fail m ↦ elim (ends_reading p) [ true ↦ messages (so_far ++ m) | false ↦ grouped l u ps (so_far ++ m) nil ]
        ])
    by (ok g) k later = later so_far g h
    by (fail m) k later =
        let all = all_append so_far m h k in either AnswerLow (ends_reading p) _ _ all (later (so_far ++ m) nil all)

-- NO MESSAGE OF A READING NAMES AN OPERATOR ABOVE 110.
pub read_low : (tokens : List Token) (u : ℕ → Bool) (version : ℤ) (source_length : ℕ) → AnswerLow (read tokens u version source_length)
unfolding read
read_low ts u v l =
    grouped-low l u (order (rules v)) [] (leaves ts)
    (order-quiet (rules v).comparisons_first (rules v).and_first (rules v).pairs_right) tt
