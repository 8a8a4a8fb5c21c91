-- A walk along the words of nodes that stops at the first word which cannot stand there: what answers 12 and 24 have in common. Seven legal
-- words are passed as a node, and seven that were passed are the words of one.
use Prim.Native.Nat.{ℕ, suc, ◌+◌, ◌*◌, ◌/◌, ◌%◌, ◌^◌, ◌≤◌, ◌<◌}
use mathlib.Core.{Path.{◌≡◌, refl, ap, sym, ◌∙◌}, Bool.{Bool, true, false, ◌&&◌}, List.{List, [], ◌∷◌, ◌++◌}, Option.{Option, none, some}}
use native.Mathlib.Omega.{arith}
use lib.{Dec.{eqb, leb, ltb}, ListN.{length, take}}
use borrow.Author.Tests.{eqb-true, eq-eqb, leb-true, le-leb, ltb-true, lt-ltb}
use Rattle.molang.specs.{Forest.{Token}, Operator.{is_operator}}
use Rattle.molang.specs.Words.{operator_bits, number_in, word, low_of, token_words, node_words_of, node_of, Field, operator_field, start_field}
use Rattle.molang.specs.Words.{end_field, upper_field, lower_field, count_field, close_field, field_kind, low_fault, word_fault, variant_after}
use Rattle.molang.specs.{Legal.{Legal}, FirstFailure.{must, first_of}, WriteEntry.{most_nodes, next_in_node}}
use Rattle.molang.proofs.{Trees.{decided, some-none, both, and-true-true}, Booleans.{false-true}}
use Rattle.molang.proofs.FirstFailure.{must-true, must-none, must-some, first-none, then-none, passed, passes, all-passed}
use Rattle.molang.proofs.FirstFailure.{must-false, found, after_none, one_of}
use Rattle.molang.proofs.Words.{low_word, kind-word, operator-small, bits-number, bits-variant, bits-room, low-bound, word_back}
use Rattle.molang.proofs.Words.{word-faultless, five-legal, five-back, five-faultless}

-- ---- The words of a legal node

-- A word of the right kind whose low bits have no fault.
word-passes : (field : Field) (v low : ℕ) → low < 2 ^ 29 → low_fault field v low ≡ none
    → word_fault field v (word (field_kind field) low) ≡ none
unfolding word_fault
word-passes field v low b h =
    passes _ 8 _ (eq-eqb _ _ (kind-word (field_kind field) low b)) (then-none _ [] (rw (low_word (field_kind field) low b) h) all-passed)

-- Half of a payload value.
half-passes : (v low : ℕ) → low < 2 ^ 16 → (v ≡ 0 → low ≡ 0)
    → must {A = ℕ} (ltb low (elim (eqb v 0) [ true ↦ 1 | false ↦ 2 ^ 16 ])) 11 ≡ none
half-passes v low b z =
    decided (λ bound. must {A = ℕ} (ltb low bound) 11 ≡ none) (eqb v 0) 1 (2 ^ 16)
    (λ e. must-true _ 11 (lt-ltb low 1 (omega (arith, z (eqb-true v 0 e))))) (λ e. must-true _ 11 (lt-ltb low (2 ^ 16) b))

module _ (k : Token) (h : Legal k) where
  operator-passes : (v : ℕ) → word_fault operator_field v (word 1 (operator_bits k.op k.variant)) ≡ none
  unfolding field_kind low_fault
  operator-passes v =
      let low = operator_bits k.op k.variant in
      let small = operator-small k.op h.op in
      let legal : is_operator (number_in low) ≡ true =
      rw (bits-number k.op k.variant (omega arith) (omega (arith, h.variant))) h.op
      in
      let few : low / 2 ^ 8 % 2 ^ 4 ≤ 12 = rw (bits-variant k.op k.variant (omega (arith, h.variant))) h.variant in
      let room = bits-room k.op k.variant (omega arith) (omega (arith, h.variant)) in
      word-passes operator_field v low (omega arith)
      (passes _ 9 _ legal (passes _ 10 _ (le-leb _ _ few) (passes _ 11 [] (lt-ltb low (2 ^ 16) room) all-passed)))

  start-passes : (v : ℕ) → word_fault start_field v (word 2 k.start) ≡ none
  start-passes v = unfold field_kind low_fault in word-passes start_field v k.start h.start refl

  end-passes : (v : ℕ) → word_fault end_field v (word 3 k.end) ≡ none
  end-passes v = unfold field_kind low_fault in word-passes end_field v k.end h.end refl

  upper-passes : word_fault upper_field k.variant (word 4 (k.value / 2 ^ 16)) ≡ none
  unfolding field_kind low_fault
  upper-passes =
      word-passes upper_field k.variant (k.value / 2 ^ 16) (omega arith)
      (half-passes k.variant (k.value / 2 ^ 16) (omega arith) (λ e. omega (arith, h.no_payload e)))

  lower-passes : word_fault lower_field k.variant (word 5 (k.value % 2 ^ 16)) ≡ none
  unfolding field_kind low_fault
  lower-passes =
      word-passes lower_field k.variant (k.value % 2 ^ 16) (omega arith)
      (half-passes k.variant (k.value % 2 ^ 16) (omega arith) (λ e. omega (arith, h.no_payload e)))

  close-passes : (v : ℕ) → word_fault close_field v (word 7 k.close) ≡ none
  close-passes v = unfold field_kind low_fault in word-passes close_field v k.close h.close refl

  variant-read : (v : ℕ) → variant_after operator_field v (word 1 (operator_bits k.op k.variant)) ≡ k.variant
  unfolding variant_after
  variant-read v =
      let small = operator-small k.op h.op in
      let room = bits-room k.op k.variant (omega arith) (omega (arith, h.variant)) in
      rw (low_word 1 (operator_bits k.op k.variant) (omega arith)) (bits-variant k.op k.variant (omega (arith, h.variant)))

pub count-passes : (v n : ℕ) → n < 2 ^ 14 → word_fault count_field v (word 6 n) ≡ none
count-passes v n b = unfold field_kind low_fault in word-passes count_field v n (omega arith) (must-true _ 11 (lt-ltb n (2 ^ 14) b))

-- A word of zeros is legal in every field.
zero-low : (field : Field) (v : ℕ) → low_fault field v 0 ≡ none
unfolding low_fault first_of must is_operator number_in
zero-low operator_field v = refl
zero-low start_field v = refl
zero-low end_field v = refl
zero-low upper_field v = half-passes v 0 (omega arith) (λ e. refl)
zero-low lower_field v = half-passes v 0 (omega arith) (λ e. refl)
zero-low count_field v = refl
zero-low close_field v = refl

pub zero-passes : (field : Field) (v : ℕ) → word_fault field v (word (field_kind field) 0) ≡ none
zero-passes field v = word-passes field v 0 (omega arith) (zero-low field v)

-- ---- Words, one after the other

-- The field after words.
abbrev field_after : Field → List ℕ → Field
field_after field [] = field
field_after field (w ∷ ws) = field_after (next_in_node field) ws

-- Each word is legal in its field.
abbrev AllLegal : Field → ℕ → List ℕ → Type 0
AllLegal field v [] = Unit {0}
AllLegal field v (w ∷ ws) = (word_fault field v w ≡ none) × AllLegal (next_in_node field) (variant_after field v w) ws

-- The seven words of a legal node are.
node-legal : (k : Token) → Legal k → (n : ℕ) → n < 2 ^ 14 → (v : ℕ) → AllLegal operator_field v (node_words_of k n)
unfolding node_words_of token_words next_in_node variant_after
node-legal k h n b v =
    let counts = word 6 n ∷ word 7 k.close ∷ [] in
    let counted : AllLegal count_field k.variant counts = (count-passes k.variant n b, (close-passes k h k.variant, tt)) in
    let valued : AllLegal upper_field k.variant (word 4 (k.value / 2 ^ 16) ∷ word 5 (k.value % 2 ^ 16) ∷ counts) =
    (upper-passes k h, (lower-passes k h, counted))
    in
    rw (variant-read k h v) (operator-passes k h v, (start-passes k h k.variant, (end-passes k h k.variant, valued)))

-- Seven legal words are those of a legal node.
pub record NodeRead (a b c d e n g : ℕ) : Type 0 where
  pub legal : Legal (node_of a b c d e g)
  pub few : low_of n < 2 ^ 14
  pub words : node_words_of (node_of a b c d e g) (low_of n) ≡ a ∷ b ∷ c ∷ d ∷ e ∷ n ∷ g ∷ []

node-read : (v a b c d e n g : ℕ) → AllLegal operator_field v (a ∷ b ∷ c ∷ d ∷ e ∷ n ∷ g ∷ []) → NodeRead a b c d e n g
unfolding node_of node_words_of token_words field_kind low_fault next_in_node variant_after
node-read v a b c d e n g (ha, (hb, (hc, (hd, (he, (hn, (hg, z))))))) =
    let five = five-faultless v a b c d e ha hb hc hd he in
    let k = five-legal a b c d e five in
    let counted = word-faultless count_field _ n hn in
    let closed = word-faultless close_field _ g hg in
    record {
      legal =
          record {
            op = k.op;
            variant = k.variant;
            value = k.value;
            no_payload = k.no_payload;
            start = k.start;
            end = k.end;
            close = low-bound g;
          };
      few = ltb-true (low_of n) (2 ^ 14) (must-none _ 11 counted.1);
      words =
          rw (word_back 6 n counted.0, word_back 7 g closed.0)
          (ap (λ (ws : List ℕ). ws ++ (n ∷ g ∷ [])) (five-back a b c d e five));
    }

-- ---- The walk

-- What holds of each field.
pub by_field : (P : Field → Type 0) → P operator_field → P start_field → P end_field → P upper_field → P lower_field → P count_field
    → P close_field
    → (field : Field)
    → P field
by_field P a b c d e n g operator_field = a
by_field P a b c d e n g start_field = b
by_field P a b c d e n g end_field = c
by_field P a b c d e n g upper_field = d
by_field P a b c d e n g lower_field = e
by_field P a b c d e n g count_field = n
by_field P a b c d e n g close_field = g

-- No node has begun that has not ended.
abbrev pub Between : Field → Type 0
Between operator_field = Unit {0}
Between start_field = ⊥
Between end_field = ⊥
Between upper_field = ⊥
Between lower_field = ⊥
Between count_field = ⊥
Between close_field = ⊥

-- The nodes that a word begins.
abbrev pub begins : Field → ℕ
begins operator_field = 1
begins start_field = 0
begins end_field = 0
begins upper_field = 0
begins lower_field = 0
begins count_field = 0
begins close_field = 0

-- A walk: its state after a word, the nodes that have begun, and its fault. A word is passed that is legal, asks for no more than is there
-- and leaves a tree of no more nodes than fit; the words end where a node does.
pub record Walk (S : Type 0) : Type 0 where
  pub after : Field → ℕ → S → S
  pub begun : S → ℕ
  pub asked : Field → ℕ → S → ℕ
  pub there : Field → ℕ → S → ℕ
  pub nodes : Field → ℕ → S → ℕ
  pub whole : Field → S → Bool
  pub fault : ℕ → Field → ℕ → S → List ℕ → Option ℕ
  pub at-end : (i : ℕ) (field : Field) (v : ℕ) (s : S) → fault i field v s [] ≡ must (whole field s) i
  pub at-word : (i : ℕ) (field : Field) (v : ℕ) (s : S) (w : ℕ) (ws : List ℕ)
      → fault i field v s (w ∷ ws)
      ≡ first_of
      (must (elim (word_fault field v w)
      [ some n ↦ false | none ↦ leb (asked field w s) (there field w s) && leb (nodes field w s) most_nodes ]) i
      ∷ fault (suc i) (next_in_node field) (variant_after field v w) (after field w s) ws
      ∷ [])
  pub between : (field : Field) (s : S) → whole field s ≡ true → Between field
  pub more : (field : Field) (w : ℕ) (s : S) → begun (after field w s) ≡ begun s + begins field
  pub few : (field : Field) (w : ℕ) (s : S) → asked field w s ≤ there field w s → begun (after field w s) ≤ nodes field w s

-- The words that a node begun still lacks.
abbrev lacks : Field → ℕ
lacks operator_field = 0
lacks start_field = 6
lacks end_field = 5
lacks upper_field = 4
lacks lower_field = 3
lacks count_field = 2
lacks close_field = 1

-- One word on: the words so far and those that the node still lacks are no more than seven for each node that has begun.
taken : (field : Field) (i n : ℕ) → i + lacks field ≤ 7 * n → suc i + lacks (next_in_node field) ≤ 7 * (n + begins field)
unfolding next_in_node
taken field i n =
    by_field (λ f. i + lacks f ≤ 7 * n → suc i + lacks (next_in_node f) ≤ 7 * (n + begins f)) (λ h. omega arith) (λ h. omega arith)
    (λ h. omega arith) (λ h. omega arith) (λ h. omega arith) (λ h. omega arith) (λ h. omega arith) field

-- A legal word of two tests.
tested : (o : Option ℕ) (a b : Bool) → o ≡ none → (a ≡ true) × (b ≡ true) → ◌≡◌ {A = Bool} (elim o [ some n ↦ false | none ↦ a && b ]) true
tested none a b e t = and-true-true a b t.0 t.1
tested (some n) a b e t = some-none e

pub tests : (o : Option ℕ) (a b : Bool) → ◌≡◌ {A = Bool} (elim o [ some n ↦ false | none ↦ a && b ]) true
    → (o ≡ none) × (a ≡ true) × (b ≡ true)
tests none a b e = let t = both a b e in (refl, t.0, t.1)
tests (some n) a b e = false-true e

module _ {S : Type 0} (W : Walk S) where
  -- What is asked of a word beside being legal.
  abbrev pub Fits : Field → ℕ → S → Type 0
  Fits field w s = (W.asked field w s ≤ W.there field w s) × (W.nodes field w s ≤ most_nodes)

  -- The fault of the words after a word.
  abbrev later : ℕ → Field → ℕ → S → ℕ → List ℕ → Option ℕ
  later i field v s w ws = W.fault (suc i) (next_in_node field) (variant_after field v w) (W.after field w s) ws

  goes : (i : ℕ) (field : Field) (v : ℕ) (s : S) (w : ℕ) (ws : List ℕ) → word_fault field v w ≡ none → Fits field w s
      → W.fault i field v s (w ∷ ws) ≡ later i field v s w ws
  goes i field v s w ws e f =
      W.at-word i field v s w ws
      ∙ after_none _ _ (must-true _ i (tested (word_fault field v w) _ _ e (le-leb _ _ f.0, le-leb _ _ f.1)))

  went : (i : ℕ) (field : Field) (v : ℕ) (s : S) (w : ℕ) (ws : List ℕ) → W.fault i field v s (w ∷ ws) ≡ none
      → (word_fault field v w ≡ none) × Fits field w s × (later i field v s w ws ≡ none)
  went i field v s w ws h =
      let x = passed _ i _ (sym (W.at-word i field v s w ws) ∙ h) in
      let t = tests (word_fault field v w) _ _ x.0 in
      (t.0, (leb-true _ _ t.1, leb-true _ _ t.2), (first-none _ [] x.1).0)

  ends : (i : ℕ) (field : Field) (v : ℕ) (s : S) → W.fault i field v s [] ≡ none → W.whole field s ≡ true
  ends i field v s h = must-none _ i (sym (W.at-end i field v s) ∙ h)

  -- A fault's place: no node begins after the last that fits.
  pub place : (p : ℕ) (ws : List ℕ) (i : ℕ) (field : Field) (v : ℕ) (s : S) → W.begun s ≤ most_nodes → i + lacks field ≤ 7 * W.begun s
      → W.fault i field v s ws ≡ some p
      → p ≤ 86016
  place p [] i field v s b h e = omega (arith, must-some _ i p (sym (W.at-end i field v s) ∙ e))
  place p (w ∷ ws) i field v s b h e =
      one_of _ i p _ (sym (W.at-word i field v s w ws) ∙ e) (λ t here. omega arith)
      (λ t below.
      let x = tests (word_fault field v w) _ _ t in
      let few = W.few field w s (leb-true _ _ x.1) in
      let room : W.nodes field w s ≤ most_nodes = leb-true _ _ x.2 in
      place p ws (suc i) (next_in_node field) (variant_after field v w) (W.after field w s) (omega arith)
      (rw (W.more field w s) (taken field i (W.begun s) h)) below)

  -- Words that the walk can end with.
  pub record Ending (field : Field) (s : S) : Type 0 where
    pub words : List ℕ
    pub unfaulted : (i v : ℕ) → W.fault i field v s words ≡ none

  pub one_more : (field : Field) (s : S) (w : ℕ) → ((v : ℕ) → word_fault field v w ≡ none) → Fits field w s
      → Ending (next_in_node field) (W.after field w s)
      → Ending field s
  one_more field s w legal fits e =
      record { words = w ∷ e.words; unfaulted = λ i v. goes i field v s w e.words (legal v) fits ∙ e.unfaulted _ _ }

  -- Where a fault is: before the word the walk could have ended without fault, with it, it cannot.
  pub record Placed (i : ℕ) (field : Field) (v : ℕ) (s : S) (ws : List ℕ) (p : ℕ) : Type 0 where
    pub passed : ℕ
    pub is : p ≡ i + passed
    pub within : passed ≤ length ws
    pub rest : List ℕ
    pub going : W.fault i field v s (take passed ws ++ rest) ≡ none
    pub stops : passed < length ws → (us : List ℕ) → W.fault i field v s (take (suc passed) ws ++ us) ≡ some p

  pub placed : (Going : Field → S → Type 0) → ((field : Field) (s : S) → Going field s → Ending field s)
      → ((field : Field) (w : ℕ) (s : S) → Going field s → Fits field w s → Going (next_in_node field) (W.after field w s))
      → (ws : List ℕ) (i : ℕ) (field : Field) (v : ℕ) (s : S) (p : ℕ) → Going field s → W.fault i field v s ws ≡ some p
      → Placed i field v s ws p
  placed Going ending keeps [] i field v s p g e =
      let here = must-some _ i p (sym (W.at-end i field v s) ∙ e) in
      let x = ending field s g in
      record {
        passed = 0;
        is = omega arith;
        within = omega arith;
        rest = x.words;
        going = x.unfaulted i v;
        stops = λ h us. absurd (omega arith);
      }
  placed Going ending keeps (w ∷ ws) i field v s p g e =
      one_of _ i p _ (sym (W.at-word i field v s w ws) ∙ e)
      (λ t here.
      let x = ending field s g in
      record {
        passed = 0;
        is = omega arith;
        within = omega arith;
        rest = x.words;
        going = x.unfaulted i v;
        stops = λ h us. W.at-word i field v s w us ∙ (found _ i _ (must-false _ i t) ∙ ap some here);
      })
      (λ t below.
      let x = tests (word_fault field v w) _ _ t in
      let fits : Fits field w s = (leb-true _ _ x.1, leb-true _ _ x.2) in
      let y = placed Going ending keeps ws (suc i) (next_in_node field) (variant_after field v w) (W.after field w s) p
      (keeps field w s g fits) below
      in
      record {
        passed = suc y.passed;
        is = omega (arith, y.is);
        within = omega (arith, y.within);
        rest = y.rest;
        going = goes i field v s w _ x.0 fits ∙ y.going;
        stops = λ h us. goes i field v s w _ x.0 fits ∙ y.stops (omega arith) us;
      })

  -- The state after words.
  abbrev pub after_all : Field → List ℕ → S → S
  after_all field [] s = s
  after_all field (w ∷ ws) s = after_all (next_in_node field) ws (W.after field w s)

  -- Each word fits.
  abbrev pub AllFit : Field → List ℕ → S → Type 0
  AllFit field [] s = Unit {0}
  AllFit field (w ∷ ws) s = Fits field w s × AllFit (next_in_node field) ws (W.after field w s)

  -- Words that are legal and fit are passed.
  all_go : (xs ws : List ℕ) (i : ℕ) (field : Field) (v : ℕ) (s : S) → AllLegal field v xs → AllFit field xs s
      → ((i v : ℕ) → W.fault i (field_after field xs) v (after_all field xs s) ws ≡ none)
      → W.fault i field v s (xs ++ ws) ≡ none
  all_go [] ws i field v s l f later = later i v
  all_go (x ∷ xs) ws i field v s l f later =
      goes i field v s x (xs ++ ws) l.0 f.0
      ∙ all_go xs ws (suc i) (next_in_node field) (variant_after field v x) (W.after field x s) l.1 f.1 later

  -- Words that were passed are legal and fit.
  all-went : (xs ws : List ℕ) (i : ℕ) (field : Field) (v : ℕ) (s : S) → W.fault i field v s (xs ++ ws) ≡ none
      → AllLegal field v xs × AllFit field xs s
      × ((j : ℕ) × (u : ℕ) × (W.fault j (field_after field xs) u (after_all field xs s) ws ≡ none))
  all-went [] ws i field v s h = (tt, tt, (i, v, h))
  all-went (x ∷ xs) ws i field v s h =
      let here = went i field v s x (xs ++ ws) h in
      let later = all-went xs ws (suc i) (next_in_node field) (variant_after field v x) (W.after field x s) here.2 in
      ((here.0, later.0), (here.1, later.1), later.2)

  -- The words end where a node does.
  all_end : (xs : List ℕ) (i : ℕ) (field : Field) (v : ℕ) (s : S) → W.fault i field v s xs ≡ none → Between (field_after field xs)
  all_end [] i field v s h = W.between field s (ends i field v s h)
  all_end (x ∷ xs) i field v s h = all_end xs (suc i) (next_in_node field) _ _ (went i field v s x xs h).2

  -- A legal node whose words fit is passed.
  pub node-goes : (k : Token) → Legal k → (n : ℕ) → n < 2 ^ 14 → (i v : ℕ) (s : S) (ws : List ℕ)
      → AllFit operator_field (node_words_of k n) s
      → ((i v : ℕ) → W.fault i operator_field v (after_all operator_field (node_words_of k n) s) ws ≡ none)
      → W.fault i operator_field v s (node_words_of k n ++ ws) ≡ none
  unfolding node_words_of token_words next_in_node
  node-goes k h n b i v s ws f later = all_go (node_words_of k n) ws i operator_field v s (node-legal k h n b v) f later

  -- What holds of no words, and of a legal node's before any of which it holds, holds of words without fault.
  pub along : (P : S → List ℕ → Type 0) → ((s : S) → W.whole operator_field s ≡ true → P s [])
      → ((a b c d e n g : ℕ) (ws : List ℕ) (s : S) → NodeRead a b c d e n g → Fits operator_field a s
      → Fits count_field n (after_all operator_field (a ∷ b ∷ c ∷ d ∷ e ∷ []) s)
      → P (after_all operator_field (a ∷ b ∷ c ∷ d ∷ e ∷ n ∷ g ∷ []) s) ws → P s (a ∷ b ∷ c ∷ d ∷ e ∷ n ∷ g ∷ ws))
      → (i v : ℕ) (s : S) (ws : List ℕ) → W.fault i operator_field v s ws ≡ none → P s ws
  unfolding next_in_node
  along P last more i v s [] h = last s (ends i operator_field v s h)
  along P last more i v s (a ∷ []) h = absurd (all_end (a ∷ []) i operator_field v s h)
  along P last more i v s (a ∷ b ∷ []) h = absurd (all_end (a ∷ b ∷ []) i operator_field v s h)
  along P last more i v s (a ∷ b ∷ c ∷ []) h = absurd (all_end (a ∷ b ∷ c ∷ []) i operator_field v s h)
  along P last more i v s (a ∷ b ∷ c ∷ d ∷ []) h = absurd (all_end (a ∷ b ∷ c ∷ d ∷ []) i operator_field v s h)
  along P last more i v s (a ∷ b ∷ c ∷ d ∷ e ∷ []) h = absurd (all_end (a ∷ b ∷ c ∷ d ∷ e ∷ []) i operator_field v s h)
  along P last more i v s (a ∷ b ∷ c ∷ d ∷ e ∷ n ∷ []) h = absurd (all_end (a ∷ b ∷ c ∷ d ∷ e ∷ n ∷ []) i operator_field v s h)
  along P last more i v s (a ∷ b ∷ c ∷ d ∷ e ∷ n ∷ g ∷ ws) h =
      let x = all-went (a ∷ b ∷ c ∷ d ∷ e ∷ n ∷ g ∷ []) ws i operator_field v s h in
      more a b c d e n g ws s (node-read v a b c d e n g x.0) x.1.0 x.1.1.1.1.1.1.0
      (along P last more x.2.0 x.2.1 _ ws x.2.2)
