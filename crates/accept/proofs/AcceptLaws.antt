-- The table of refusals, row by row: its rows by lengths, by values, the words and the brackets token by token, what decides it of a call,
-- and what is known of a call that no row turns back. Assumes nothing.
use mathlib.Core.{Path.{◌≡◌, refl, sym, ap, ◌∙◌}, List.{List, [], ◌∷◌, ◌++◌}, Option.{Option, none, some}}
use Prim.Native.Nat.{ℕ, ◌+◌, ◌*◌, ◌/◌, ◌%◌, ◌^◌, ◌≤◌, ◌<◌}
use native.Mathlib.{Numerals.{add-one}, Omega.{arith}}
use lib.{Dec.{eqb, leb, ltb}, ListN.{length, drop, get_or, length-replicate}, Seq.{drop-cons, drop-length}}
use borrow.Author.Tests.{eqb-true, leb-true, le-leb, lt-leb}
use Rattle.std.specs.Prelude.{Err}
use Rattle.molang.specs.FirstFailure.{must, first_of}
use Rattle.molang.specs.Operator.{left_brace, left_bracket, left_parenthesis, right_brace, right_bracket, right_parenthesis, is_closer}
use Rattle.molang.specs.Words.{operator_bits, Refusal, row, operator_field, word_fault, low_fault, variant_after, words_refusal, token_of}
use Rattle.molang.specs.{Words.{tokens_of}, Nesting.{open_after, first_above, too_deep}}
use Rattle.molang.specs.Parse.{Call, most_tokens, is_limit, length_rows, value_rows, refusal}
use Rattle.molang.proofs.FirstFailure.{must-true, must-false, found, passed, after_none, in_parts, behind}
use Rattle.molang.proofs.{ListWords.{tokens-count}, Accepted.{call-accepted}, Nesting.{opens_one, short-within}}
use Rattle.ops.{specs.declared.sets.OpSet.{OpSet}, proofs.OperatorLaws.{Apart, apart, no-closer}}
use Rattle.words.specs.Fields.{operator_of, variant_of}
use Rattle.words.proofs.{FieldLaws.{same-by-bits}, CheckLaws.{good-token, token-refused, token-passed}}
use Rattle.words.specs.declared.refusals.Refusal as code
use Rattle.accept.specs.declared.Sizes.{Sizes}
use Rattle.accept.specs.Accepting.{Verdict, is_read, is_refused, verdict_of, verdict, call_of, length_refusal, value_refusal}
use Rattle.accept.specs.Accepting.{nesting_refusal}

-- What the checks are given of a call.
abbrev pub sizes_of : Call → Sizes
sizes_of c = record { tree = length c.tree; messages = length c.messages; work = length c.work; source = c.source_length }

abbrev checked_of : Call → Call
checked_of c = call_of c.list (sizes_of c) (record { low = c.used_low; high = c.used_high }) c.limit

-- ---- The rows

-- The table in four parts: by lengths, by values, by the words, by the brackets.
pub table : (list : List ℕ) (sizes : Sizes) (used : OpSet) (limit : ℕ)
    → refusal (call_of list sizes used limit)
    ≡ first_of
    (length_refusal list sizes
    ∷ value_refusal sizes.source used limit
    ∷ words_refusal 0 operator_field 0 list
    ∷ nesting_refusal limit list
    ∷ [])
unfolding refusal length_rows value_rows value_refusal
table list sizes used limit =
    let values =
    must (ltb (used.high * 2 ^ 64 + used.low) (2 ^ 111)) (row 6 0)
    ∷ must (leb sizes.source 536870911) (row 7 0)
    ∷ must (is_limit limit) (row 17 0)
    ∷ []
    in
    let later = words_refusal 0 operator_field 0 list ∷ nesting_refusal limit list ∷ [] in
    in_parts (length_rows (call_of list sizes used limit)) (values ++ later)
    ∙ behind (length_refusal list sizes) (values ++ later) (first_of values ∷ later) (in_parts values later)

-- Answers 1 to 5 are by the lengths of the list and the buffers.
pub same-lengths : (c : Call) → length_refusal c.list (sizes_of c) ≡ first_of (length_rows c)
unfolding length_rows
same-lengths c =
    rw (
      length-replicate {A = ℕ} (length c.tree) 0,
      length-replicate {A = ℕ} (length c.messages) 0,
      length-replicate {A = ℕ} (length c.work) 0,
    )

-- A refusal depends on the lengths of the buffers, and not on the version.
pub same-refusal : (c : Call) → refusal (checked_of c) ≡ refusal c
unfolding refusal length_rows value_rows
same-refusal c =
    rw (
      length-replicate {A = ℕ} (length c.tree) 0,
      length-replicate {A = ℕ} (length c.messages) 0,
      length-replicate {A = ℕ} (length c.work) 0,
    )

-- ---- Answers

-- Only the answer without a refusal has a number of tokens, and one with a refusal has its number and place.
pub accepted : (n m : ℕ) (o : Option Refusal) → is_read n ≡ verdict m o → (n ≡ m) × (o ≡ none)
accepted n m none e = (cc, refl)
accepted n m (some r) e = absurd (let z : ◌≡◌ {A = ℕ} 0 1 = cc in omega arith)

pub refused_as : (number place n : ℕ) (o : Option Refusal) → is_refused number place ≡ verdict n o → o ≡ some (row number place)
refused_as number place n none e = absurd (let z : ◌≡◌ {A = ℕ} 0 1 = cc in omega arith)
refused_as number place n (some r) e =
    let same_number : r.number ≡ number = cc in
    let same_place : r.place ≡ place = cc in
    λ i. some (row (same_number i) (same_place i))

-- A refusal by the first row is the whole table's.
pub refused-first : (x : code.Refusal) (n : ℕ) (o : Option Refusal) (later : List (Option Refusal))
    → verdict_of (Err x) ≡ verdict n o → verdict_of (Err x) ≡ verdict n (first_of (o ∷ later))
unfolding first_of
refused-first x n none later e = absurd (let z : ◌≡◌ {A = ℕ} 0 1 = cc in omega arith)
refused-first x n (some r) later e = e

-- The lengths refuse nothing.
pub whole-tokens : (list : List ℕ) (sizes : Sizes) (n : ℕ) → is_read n ≡ verdict (length list / 5) (length_refusal list sizes)
    → (length list ≡ 5 * n) × (n ≤ 4096)
unfolding length_rows
whole-tokens list sizes n whole =
    let told = accepted n (length list / 5) (length_refusal list sizes) whole in
    let one = passed (eqb (length list % 5) 0) (row 1 0) _ told.1 in
    let two = passed (leb (length list / 5) most_tokens) (row 2 0) _ one.1 in
    let count = told.0 in
    (omega (arith, eqb-true (length list % 5) 0 one.0), omega (arith, leb-true (length list / 5) most_tokens two.0))

-- ---- The words, token by token

-- The payload variant before a token's first word does not matter.
any-variant : (i v : ℕ) (ws : List ℕ) → words_refusal i operator_field v ws ≡ words_refusal i operator_field 0 ws
unfolding words_refusal word_fault low_fault variant_after
any-variant i v [] = refl
any-variant i v (w ∷ ws) = refl

-- The check of the words from `at` on, where a token starts.
abbrev pub check_from : List ℕ → ℕ → Option Refusal
check_from list at = words_refusal at operator_field 0 (drop at list)

-- The first i of n tokens are without fault.
pub record PassedTo (list : List ℕ) (n i : ℕ) : Type 0 where
  pub within : i ≤ n
  pub rest : check_from list 0 ≡ check_from list (5 * i)

abbrev pub token_at : List ℕ → ℕ → List ℕ
token_at list at = get_or list at 0 ∷ get_or list (at + 1) 0 ∷ get_or list (at + 2) 0 ∷ get_or list (at + 3) 0 ∷ get_or list (at + 4) 0 ∷ []

module _ (list : List ℕ) where
  next : (j k : ℕ) → k ≡ j + 1 → j < length list → drop j list ≡ get_or list j 0 ∷ drop k list
  next j k e h = drop-cons list j 0 h ∙ ap (λ (m : ℕ). get_or list j 0 ∷ drop m list) (sym (e ∙ add-one j))

  module _ (at : ℕ) (fits : at + 4 < length list) where
    opens : drop at list ≡ token_at list at ++ drop (at + 5) list
    opens =
        next at (at + 1) refl (omega arith)
        ∙ ap (λ (l : List ℕ). get_or list at 0 ∷ l)
        (next (at + 1) (at + 2) (omega arith) (omega arith)
        ∙ ap (λ (l : List ℕ). get_or list (at + 1) 0 ∷ l)
        (next (at + 2) (at + 3) (omega arith) (omega arith)
        ∙ ap (λ (l : List ℕ). get_or list (at + 2) 0 ∷ l)
        (next (at + 3) (at + 4) (omega arith) (omega arith)
        ∙ ap (λ (l : List ℕ). get_or list (at + 3) 0 ∷ l) (next (at + 4) (at + 5) (omega arith) (omega arith)))))

    -- A token without fault hands the check on, and any other ends it.
    pub token-good : none ≡ words_refusal at operator_field 0 (token_at list at) → check_from list at ≡ check_from list (at + 5)
    token-good good =
        ap (words_refusal at operator_field 0) opens
        ∙ (token-passed at 0 (get_or list at 0) (get_or list (at + 1) 0) (get_or list (at + 2) 0) (get_or list (at + 3) 0) (get_or list (at + 4) 0)
        (drop (at + 5) list)
        (good-token at (get_or list at 0) (get_or list (at + 1) 0) (get_or list (at + 2) 0) (get_or list (at + 3) 0) (get_or list (at + 4) 0)
        (sym good))
        ∙ any-variant (at + 5) (variant_of (get_or list at 0)) (drop (at + 5) list))

    pub token-bad : (r : Refusal) → some r ≡ words_refusal at operator_field 0 (token_at list at) → check_from list at ≡ some r
    token-bad r bad =
        ap (words_refusal at operator_field 0) opens
        ∙ token-refused at 0 (get_or list at 0) (get_or list (at + 1) 0) (get_or list (at + 2) 0) (get_or list (at + 3) 0) (get_or list (at + 4) 0)
        (drop (at + 5) list) r (sym bad)

  pub all-good : (at : ℕ) → length list ≡ at → check_from list at ≡ none
  all-good at e = unfold words_refusal in rw (← e, drop-length list)

-- ---- The brackets, token by token

-- What the brackets answer from token i on, so many being open before it.
abbrev pub deep_from : List ℕ → ℕ → ℕ → ℕ → Option ℕ
deep_from list limit i depth = first_above limit i depth (tokens_of (drop (5 * i) list))

-- The first i of n tokens are within the limit, and so many brackets are open after them.
pub record WithinTo (list : List ℕ) (limit n i depth : ℕ) : Type 0 where
  pub within : i ≤ n
  pub shallow : depth ≤ i
  pub rest : too_deep limit (tokens_of list) ≡ deep_from list limit i depth

-- No bracket is open before the first token. No more are open than there are tokens, so a list no longer than the limit is within it.
module _ (list : List ℕ) (limit n : ℕ) where
  pub within_first : WithinTo list limit n 0 0
  within_first = unfold too_deep in record { within = omega arith; shallow = omega arith; rest = refl }

  pub within-short : length list ≡ 5 * n → n ≤ limit → too_deep limit (tokens_of list) ≡ none
  within-short long few = unfold too_deep in short-within limit 0 0 (tokens_of list) (omega (arith, tokens-count list))

  pub within-last : (depth : ℕ) → length list ≡ 5 * n → WithinTo list limit n n depth → too_deep limit (tokens_of list) ≡ none
  within-last depth long w = unfold first_above tokens_of in w.rest ∙ rw (← long, drop-length list)

  module _ (i depth : ℕ) (w : WithinTo list limit n i depth) (long : length list ≡ 5 * n) (more : i < n) where
    abbrev pub open_here : ℕ
    open_here = open_after depth (operator_of (get_or list (5 * i) 0))

    -- Token i, and then those after it.
    token-deep : deep_from list limit i depth ≡ first_of (must (leb open_here limit) i ∷ deep_from list limit (i + 1) open_here ∷ [])
    unfolding first_above tokens_of token_of operator_of
    token-deep =
        let on : 5 * i + 5 ≡ 5 * (i + 1) = omega arith in
        let later = tokens_of (drop (5 * (i + 1)) list) in
        rw (opens list (5 * i) (omega arith), on)
        (ap (λ (j : ℕ). first_of (must (leb open_here limit) i ∷ first_above limit j open_here later ∷ [])) (sym (add-one i)))

    pub within_on : open_here ≤ limit → WithinTo list limit n (i + 1) open_here
    within_on h =
        let most = opens_one depth (operator_of (get_or list (5 * i) 0)) in
        let passes = must-true (leb open_here limit) i (le-leb open_here limit h) in
        record {
          within = omega arith;
          shallow = omega (arith, w.shallow);
          rest = w.rest ∙ (token-deep ∙ after_none (must (leb open_here limit) i) _ passes);
        }

    pub goes_above : limit < open_here → too_deep limit (tokens_of list) ≡ some i
    goes_above h =
        w.rest ∙ (token-deep ∙ found (must (leb open_here limit) i) i _ (must-false (leb open_here limit) i (lt-leb open_here limit h)))

-- An operator that is no bracket leaves the count as it is.
no-bracket : (depth n : ℕ) → 6 ≤ n → open_after depth n ≡ depth
unfolding open_after is_closer
no-bracket depth n above =
    let openers : Apart n (left_brace ∷ left_bracket ∷ left_parenthesis ∷ []) =
    ((λ e. omega arith), ((λ e. omega arith), ((λ e. omega arith), tt)))
    in
    let closers : Apart n (right_brace ∷ right_bracket ∷ right_parenthesis ∷ []) =
    ((λ e. omega arith), ((λ e. omega arith), ((λ e. omega arith), tt)))
    in
    rw (no-closer n openers, open_after) (rw (← apart _ n closers, open_after))

-- The operator's bits where they stand in a word count as the operator does.
pub same-open : (depth w : ℕ) → open_after depth (operator_bits (operator_of w) 0) ≡ open_after depth (operator_of w)
same-open depth w = same-by-bits (open_after depth) depth (λ n h. no-bracket depth n (omega arith)) (operator_of w)

-- ---- What acceptance gives

-- A call that is read, of n tokens.
pub record Readable (c : Call) (n : ℕ) : Type 0 where
  pub words : length c.list ≡ 5 * n
  pub tokens : n ≤ 4096
  pub tree : 21 * n ≤ length c.tree
  pub messages : 16 ≤ length c.messages
  pub work : 64 * n + 64 ≤ length c.work
  pub used : c.used_high * 2 ^ 64 + c.used_low < 2 ^ 111
  pub source : c.source_length ≤ 536870911
  pub good : words_refusal 0 operator_field 0 c.list ≡ none

pub readable : (c : Call) → refusal c ≡ none → Readable c (length c.list / 5)
readable c e =
    let a = call-accepted c e in
    record {
      words = omega (arith, a.whole);
      tokens = a.tokens;
      tree = a.tree;
      messages = a.messages;
      work = a.work;
      used = a.used;
      source = a.source_length;
      good = a.words;
    }

-- What the answer of the checks says of the call: it is read, or this is its refusal.
abbrev pub checked : Call → Verdict
checked c = verdict (length c.list / 5) (refusal (checked_of c))

pub reads-call : (c : Call) (n : ℕ) → is_read n ≡ checked c → (refusal c ≡ none) × Readable c n
reads-call c n e =
    let told = accepted n _ _ e in
    let none-refused = sym (same-refusal c) ∙ told.1 in
    (none-refused, rw told.0 (readable c none-refused))

pub refuses-call : (c : Call) (number place : ℕ) → is_refused number place ≡ checked c → refusal c ≡ some (row number place)
refuses-call c number place e = sym (same-refusal c) ∙ refused_as number place _ _ e
