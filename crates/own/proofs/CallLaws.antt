-- The call of the entry on a list at its own used set: its halves are those of the set's number; and where the list has at most 128 tokens
-- and the buffers are long enough, only its words can turn it back. Assumes nothing.
use Prim.Native.Nat.{ℕ, ◌+◌, ◌*◌, ◌/◌, ◌%◌, ◌^◌, ◌≤◌, ◌<◌}
use mathlib.Core.{Path.{◌≡◌, refl, ap, fun_ext}, Bool.{Bool}, List.{List}}
use native.Mathlib.Omega.{arith}
use lib.{IntN.{ℤ}, ListN.{length}}
use borrow.Author.Tests.{eq-eqb, le-leb, lt-ltb}
use Rattle.molang.specs.{FirstFailure.{must, first_of}, Words.{operator_field, words_refusal, tokens_of}, Read.{read}, Nesting.{too_deep}}
use Rattle.molang.specs.Parse.{Call, in_halves, most_tokens, is_limit, length_rows, value_rows, refusal, reading, told, answered, tree_in}
use Rattle.molang.specs.Parse.{tree_after, messages_in, messages_after, work_in, work_after}
use Rattle.molang.proofs.{UsedSet.{exact-halves, halves-exact}, ListWords.{tokens-count}, Nesting.{never-18}}
use Rattle.molang.proofs.FirstFailure.{before-none, without-number}
use Rattle.derived.{specs.Derived.{named, highest}, proofs.WordLaws.{named-few, exact-few, highest-few}}
use Rattle.parse.specs.{declared.Answer.{Answer}, Answers.{call, HasParsed}}
use Rattle.words.specs.declared.refusals.Refusal.{Refusal}
use Rattle.std.specs.Prelude.{Result}
use Rattle.own.specs.Own.{named_call, own_call, reading_of, Readable}

-- A promise of the parse entry about a call is one about the same call.
pub same-call : {c d : Call} → c ≡ d → {r : Result Answer Refusal} {tree messages work : List ℕ} → HasParsed c r tree messages work
    → HasParsed d r tree messages work
same-call e p = rw e at p

module _ (list tree messages work : List ℕ) where
  -- The halves of a set are the list's where their bits are the operators that its words name.
  pub named-call : (source low high : ℕ) → low < 2 ^ 64 → ((n : ℕ) → in_halves low high n ≡ named operator_field list n)
      → {passed version : ℤ} → passed ≡ version
      → (limit : ℕ)
      → call list tree messages work source passed low high limit ≡ named_call list tree messages work source version limit
  unfolding named_call
  named-call source low high fits bits v limit =
      let e = exact-halves low high (named operator_field list) fits (named-few operator_field list) bits in rw (v, e.0, e.1) refl

  -- At the highest of its ends that is its own call.
  pub own-call : {source : ℕ} → source ≡ highest operator_field 0 list → {passed version : ℤ} → passed ≡ version → (limit : ℕ)
      → named_call list tree messages work source passed limit ≡ own_call list tree messages work version limit
  own-call s v limit i = unfold own_call in named_call list tree messages work (s i) (v i) limit

-- A LIST OF AT MOST 128 TOKENS with buffers that are long enough: of the entry's checks only those of the words are left.
module _ (list tree messages work : List ℕ) (ok : Readable list tree messages work) (version : ℤ) where
  abbrev called : Call
  called = own_call list tree messages work version most_tokens

  own_bits : (n : ℕ) → in_halves called.used_low called.used_high n ≡ named operator_field list n
  own_bits = unfold own_call named_call in halves-exact (named operator_field list) (named-few operator_field list)

  pub own-refusal : refusal called ≡ words_refusal 0 operator_field 0 list
  unfolding refusal length_rows value_rows is_limit must first_of own_call named_call
  own-refusal =
      let few : length list / 5 ≤ 128 = omega (arith, ok.few) in
      rw (
        eq-eqb (length list % 5) 0 ok.whole,
        le-leb (length list / 5) 4096 (omega arith),
        le-leb (21 * (length list / 5)) (length tree) ok.tree_room,
        le-leb 16 (length messages) ok.message_room,
        le-leb (64 * (length list / 5) + 64) (length work) ok.work_room,
        lt-ltb (called.used_high * 2 ^ 64 + called.used_low) (2 ^ 111) (exact-few called.used_low called.used_high list own_bits),
        le-leb (highest operator_field 0 list) 536870911 (highest-few operator_field 0 list (omega arith)),
      )
      (before-none (words_refusal 0 operator_field 0 list) _
      (without-number 18 (too_deep most_tokens (tokens_of list)) (never-18 (tokens_of list) (omega (arith, tokens-count list, ok.few)))))

  pub own-reading : reading called ≡ reading_of list version
  unfolding reading reading_of own_call named_call
  own-reading = ap (λ (u : ℕ → Bool). read (tokens_of list) u version (highest operator_field 0 list)) (fun_ext own_bits)

  pub told-own : answered called ≡ told (words_refusal 0 operator_field 0 list) (reading_of list version)
  told-own = unfold answered in rw (own-refusal, own-reading) refl

  pub tree-own : tree_after called ≡ tree_in (words_refusal 0 operator_field 0 list) (reading_of list version) tree
  tree-own = unfold tree_after own_call named_call in rw (own-refusal, own-reading) refl

  pub messages-own : messages_after called ≡ messages_in (words_refusal 0 operator_field 0 list) (reading_of list version) messages
  messages-own = unfold messages_after own_call named_call in rw (own-refusal, own-reading) refl

  pub work-own : work_after called ≡ work_in (words_refusal 0 operator_field 0 list) work
  work-own = unfold work_after own_call named_call in rw own-refusal refl
