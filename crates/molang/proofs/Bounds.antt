-- What reading can give at most: three nodes for each token, and one or two messages. A leaf `;` may become three nodes and a leaf `-` two,
-- so by that weight the bound follows from what each pass keeps.
use Prim.Native.Nat.{ℕ, ◌+◌, ◌*◌, ◌≤◌}
use mathlib.Core.{Path.{◌≡◌, refl}, Bool.{Bool, true, false}, List.{List, [], ◌∷◌, ◌++◌}, Option.{none}}
use native.Mathlib.Omega.{arith}
use lib.{Dec.{eqb}, IntN.{ℤ}, ListN.{length, length-append}}
use Rattle.molang.specs.Operator
use Rattle.molang.specs.Forest.{Token, Forest, nil, node, leaves, size}
use Rattle.molang.specs.Message.{Message, multiple_roots, complex_must_end_with_semicolon, leading_member_accessor, closing_mismatch}
use Rattle.molang.specs.Message.{section_not_closed, no_closing_symbol, empty_parameter_list, math_at_end, math_without_parenthesis}
use Rattle.molang.specs.Message.{leading_semicolon, empty_array_index, binary_at_end, negate_without_operand, not_without_operand}
use Rattle.molang.specs.Message.{unknown_operation, unary_without_operand, ternary_without_operands, Result, ok, fail, record8, about}
use Rattle.molang.specs.Message.{message_record}
use Rattle.molang.specs.Order.{Rules, rules, Pass, last_token, member_accessors, sectioning, comparisons, logic, conditionals, order}
use Rattle.molang.specs.Order.{runs, last_of, ends_with_semicolon, apply}
use Rattle.molang.specs.Read.{Answer, tree, messages, rooted, ends_reading, grouped, read}
use Rattle.molang.specs.{Words.{token_words, node_words_of, tree_words}, Parse.{record_words}, Free.{flat}}
use Rattle.molang.specs.Weight.{weight, nodes_of, nodes-some, node_weight}
use Rattle.molang.proofs.{Trees.{either, maybe, both}, Walks.{Outcome, failed, fine}}
use Rattle.molang.proofs.Sections.{leaves-flat, members-light, sections-light}
use Rattle.molang.proofs.Passes.{is_nested, apply-light, all_nested, grouped-nil}

nodes-few : (n : ℕ) → nodes_of n ≤ 3
unfolding nodes_of
nodes-few n =
    either (λ m. 1 + m ≤ 3) (eqb n Operator.semicolon) _ _ (omega arith)
    (either (λ m. 1 + m ≤ 3) (eqb n Operator.negate) _ _ (omega arith) (omega arith))

pub size-weight : (f : Forest) → size f ≤ weight node_weight f
unfolding size weight
size-weight nil = omega arith
size-weight (node k nil rest) = omega (arith, size-weight rest, nodes-some k.op)
size-weight (node k (node c cs r) rest) = omega (arith, size-weight (node c cs r), size-weight rest)

pub leaves-weight : (ks : List Token) → weight node_weight (leaves ks) ≤ 3 * length ks
unfolding leaves weight
leaves-weight [] = omega arith
leaves-weight (k ∷ ks) = omega (arith, nodes-few k.op, leaves-weight ks)

-- A tree of at most n nodes, or one or two messages.
pub data Bounded (n : ℕ) : Answer → Type 0 where
  few_nodes : {k : Token} {cs : Forest} → size (node k cs nil) ≤ n → Bounded n (tree k cs)
  few_messages : {ms : List Message} → 1 ≤ length ms → length ms ≤ 2 → Bounded n (messages ms)

module _ (source_length : ℕ) (u : ℕ → Bool) where
  -- `grouped` after a pass that fails, and after a pass.
  unfoldable pub after_fail : Pass → List Pass → List Message → Answer
  after_fail p ps m = elim (ends_reading p) [ true ↦ messages ([] ++ m) | false ↦ grouped source_length u ps ([] ++ m) nil ]

  after_pass : Pass → List Pass → Result → Answer
  unfolding after_fail
  after_pass p ps x = elim x [ ok g ↦ grouped source_length u ps [] g | fail m ↦ after_fail p ps m ]

  module _ (P : Answer → Type 0) (p : Pass) (ps : List Pass) (f : Forest) where
    -- A pass runs or not; it fails with so many messages, or gives a list of which Q holds.
    pub pass-cases : (c : ℕ) (Q : Forest → Type 0) → Outcome c Q (apply source_length p f) → P (grouped source_length u ps [] f)
        → ((m : List Message) → apply source_length p f ≡ fail m → length m ≡ c → P (after_fail p ps m))
        → ((g : Forest) → Q g → P (grouped source_length u ps [] g))
        → P (grouped source_length u (p ∷ ps) [] f)
    unfolding grouped after_pass after_fail
    pass-cases c Q o unrun unable able = either P (runs u p) _ _ (passed refl o) unrun
      where
        passed : {x : Result} → apply source_length p f ≡ x → Outcome c Q x → P (after_pass p ps x)
        passed is (failed {m = m} e) = unable m is e
        passed is (fine {g = g} q) = able g q

pub ends-outcome : (source_length : ℕ) (f : Forest) → Outcome 1 (λ g. g ≡ f) (ends_with_semicolon source_length f)
unfolding ends_with_semicolon
ends-outcome l f =
    maybe (Outcome 1 (λ g. g ≡ f)) (last_of none f) _ _
    (λ k. either (Outcome 1 (λ g. g ≡ f)) (eqb k.op Operator.semicolon) _ _ (fine refl) (failed refl)) (failed refl)

module _ (source_length : ℕ) (u : ℕ → Bool) (n : ℕ) where
  counted : (ms : List Message) → 1 ≤ length ms → length ms ≤ 2 → Bounded n (messages ms)
  counted ms a b = few_messages a b

  rooted-bounded : (f : Forest) → weight node_weight f ≤ n → Bounded n (rooted source_length [] f)
  unfolding rooted
  rooted-bounded nil h = counted _ (omega arith) (omega arith)
  rooted-bounded (node k cs nil) h = few_nodes {k = k} {cs = cs} (omega (arith, size-weight (node k cs nil)))
  rooted-bounded (node k cs (node l ls rest)) h = counted _ (omega arith) (omega arith)

  pass-bounded : (p : Pass) (ps : List Pass) (f : Forest) (c : ℕ) (Q : Forest → Type 0) → Outcome c Q (apply source_length p f)
      → Bounded n (grouped source_length u ps [] f)
      → ((m : List Message) → length m ≡ c → Bounded n (after_fail source_length u p ps m))
      → ((g : Forest) → Q g → Bounded n (grouped source_length u ps [] g))
      → Bounded n (grouped source_length u (p ∷ ps) [] f)
  pass-bounded p ps f c Q o unrun unable able =
      pass-cases source_length u (Bounded n) p ps f c Q o unrun (λ m is e. unable m e) able

  grouped-bounded : (ps : List Pass) (f : Forest) → all_nested ps ≡ true → weight node_weight f ≤ n
      → Bounded n (grouped source_length u ps [] f)
  unfolding grouped all_nested nodes_of after_fail
  grouped-bounded [] f e h = rooted-bounded f h
  grouped-bounded (p ∷ ps) f e h =
      let i = both (is_nested p) (all_nested ps) e in
      pass-bounded p ps f 1 _ (apply-light node_weight (omega arith) (omega arith) source_length p f i.0) (grouped-bounded ps f i.1 h)
      (λ m o. either (Bounded n) (ends_reading p) _ _ (counted m (omega arith) (omega arith))
      (rw (grouped-nil source_length u ps m i.1)
      (counted _ (omega (arith, length-append m (multiple_roots 0 source_length 0 ∷ [])))
      (omega (arith, length-append m (multiple_roots 0 source_length 0 ∷ []))))))
      (λ g w. grouped-bounded ps g i.1 (omega (arith, w.0)))

  -- The passes over the flat list come first.
  sections-bounded : (ps : List Pass) (f : Forest) → all_nested ps ≡ true → flat f ≡ true → weight node_weight f ≤ n
      → Bounded n (grouped source_length u (sectioning ∷ ps) [] f)
  unfolding apply after_fail ends_reading
  sections-bounded ps f e i h =
      pass-bounded sectioning ps f 2 _ (sections-light node_weight f i) (grouped-bounded ps f e h)
      (λ m o. counted m (omega arith) (omega arith))
      (λ g w. grouped-bounded ps g e (omega arith))

  members-bounded : (ps : List Pass) (ks : List Token) → all_nested ps ≡ true → weight node_weight (leaves ks) ≤ n
      → Bounded n (grouped source_length u (member_accessors ∷ sectioning ∷ ps) [] (leaves ks))
  unfolding apply after_fail ends_reading weight flat
  members-bounded ps ks e h =
      pass-bounded member_accessors (sectioning ∷ ps) (leaves ks) 1 _ (members-light node_weight ks nil n (omega arith) refl)
      (sections-bounded ps (leaves ks) e (leaves-flat ks) h) (λ m o. counted m (omega arith) (omega arith))
      (λ g w. sections-bounded ps g e w.1 w.0)

  flat-bounded : (ps : List Pass) (ks : List Token) → all_nested ps ≡ true → weight node_weight (leaves ks) ≤ n
      → Bounded n (grouped source_length u (last_token ∷ member_accessors ∷ sectioning ∷ ps) [] (leaves ks))
  unfolding apply after_fail ends_reading
  flat-bounded ps ks e h =
      let later = members-bounded ps ks e h in
      pass-bounded last_token (member_accessors ∷ sectioning ∷ ps) (leaves ks) 1 _ (ends-outcome source_length (leaves ks)) later
      (λ m o. counted m (omega arith) (omega arith)) (λ g w. rw w later)

nested-append : (ps qs : List Pass) → all_nested ps ≡ true → all_nested qs ≡ true → all_nested (ps ++ qs) ≡ true
unfolding all_nested
nested-append [] qs h k = k
nested-append (p ∷ ps) qs h k = let e = both (is_nested p) (all_nested ps) h in rw e.0 (nested-append ps qs e.1 k)

comparisons-nested : (b : Bool) → all_nested (comparisons b) ≡ true
unfolding comparisons all_nested is_nested
comparisons-nested true = refl
comparisons-nested false = refl

logic-nested : (b : Bool) → all_nested (logic b) ≡ true
unfolding logic all_nested is_nested
logic-nested true = refl
logic-nested false = refl

conditionals-nested : (b : Bool) → all_nested (conditionals b) ≡ true
unfolding conditionals all_nested is_nested
conditionals-nested true = refl
conditionals-nested false = refl

-- The order begins with the three passes over the flat list; those after them go through nested lists.
pub order-parts : (r : Rules)
    → (later : List Pass) × (order r ≡ last_token ∷ member_accessors ∷ sectioning ∷ later) × (all_nested later ≡ true)
unfolding order all_nested is_nested
order-parts r = (
  _,
  refl,
  nested-append (comparisons r.comparisons_first) _ (comparisons-nested r.comparisons_first)
      (nested-append (logic r.and_first) _ (logic-nested r.and_first)
      (nested-append (conditionals r.pairs_right) _ (conditionals-nested r.pairs_right) refl)),
)

-- THE BOUND
pub read-bounded : (tokens : List Token) (u : ℕ → Bool) (version : ℤ) (source_length : ℕ)
    → Bounded (3 * length tokens) (read tokens u version source_length)
unfolding read
read-bounded ts u v l =
    let p = order-parts (rules v) in
    rw p.1 (flat-bounded l u (3 * length ts) p.0 ts p.2 (leaves-weight ts))

pub read-tree : (tokens : List Token) (u : ℕ → Bool) (version : ℤ) (source_length : ℕ) (k : Token) (cs : Forest)
    → read tokens u version source_length ≡ tree k cs → size (node k cs nil) ≤ 3 * length tokens
read-tree ts u v l k cs e = nodes (rw e at (read-bounded ts u v l))
  where
    nodes : {n : ℕ} → Bounded n (tree k cs) → size (node k cs nil) ≤ n
    nodes (few_nodes h) = h

pub read-messages : (tokens : List Token) (u : ℕ → Bool) (version : ℤ) (source_length : ℕ) (ms : List Message)
    → read tokens u version source_length ≡ messages ms → (1 ≤ length ms) × (length ms ≤ 2)
read-messages ts u v l ms e = records (rw e at (read-bounded ts u v l))
  where
    records : {n : ℕ} → Bounded n (messages ms) → (1 ≤ length ms) × (length ms ≤ 2)
    records (few_messages a b) = (a, b)

pub record-length : (m : Message) → length (message_record m) ≡ 8
unfolding message_record record8 about
record-length (multiple_roots from to roots) = refl
record-length (complex_must_end_with_semicolon from to) = refl
record-length (leading_member_accessor k) = refl
record-length (closing_mismatch o i k j) = refl
record-length (section_not_closed o) = refl
record-length (no_closing_symbol o i) = refl
record-length (empty_parameter_list k b) = refl
record-length (math_at_end k) = refl
record-length (math_without_parenthesis k) = refl
record-length (leading_semicolon k) = refl
record-length (empty_array_index k i) = refl
record-length (binary_at_end k) = refl
record-length (negate_without_operand k) = refl
record-length (not_without_operand k) = refl
record-length (unknown_operation k p) = refl
record-length (unary_without_operand k) = refl
record-length (ternary_without_operands k) = refl

pub records-length : (ms : List Message) → length (record_words ms) ≡ 8 * length ms
unfolding record_words
records-length [] = refl
records-length (m ∷ ms) = omega (arith, length-append (message_record m) (record_words ms), record-length m, records-length ms)

-- The trees' words, seven to a node.
pub tree_words-length : (f : Forest) → length (tree_words f) ≡ 7 * size f
unfolding tree_words node_words_of token_words size
tree_words-length nil = refl
tree_words-length (node k cs rest) = omega (arith, length-append (tree_words cs) (tree_words rest), tree_words-length cs, tree_words-length rest)
