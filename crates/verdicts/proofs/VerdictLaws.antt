-- The verdict on a call by what it told and left, on a call with fresh buffers, on the parts of a line, and on the calls at one version
-- after another. Assumes nothing.
use Prim.Native.Nat.{ℕ, zero, suc, ◌+◌, ◌-◌, ◌*◌, ◌/◌, ◌≤◌}
use mathlib.Core.{Path.{◌≡◌, refl, sym, ap, ◌∙◌}, List.{List, [], ◌∷◌}, Option.{Option, none}}
use native.Mathlib.{Nat.{sub-zero}, Omega.{arith}}
use lib.{IntN.{ℤ}, ListN.{length, take, drop, replicate, length-drop}, Seq.{take_all}}
use Rattle.molang.specs.Parse.{Call, Told, answered, tree_after, messages_after, work_after}
use Rattle.molang.{specs.WriteEntry.{WriteCall, WriteTold, write_answered, list_after}, specs.Lines.{list_mark, call_for, version_of}}
use Rattle.molang.{specs.FirstFailure.{first_of}, proofs.FirstFailure.{after_none}}
use Rattle.own.specs.Own.{named_call}
use Rattle.parse.specs.{Answers.{told_of, HasParsed}, declared.Answer.{Answer as Told'}}
use Rattle.write.specs.Answers.{call}
use Rattle.table.specs.{Marked.{unmarked, second_at, marked_count, first_words, fitting}, Answers.{holding, is_left}}
use Rattle.std.specs.Prelude.{Result, Err}
use Rattle.words.specs.declared.refusals.Refusal.{Refusal}
use Rattle.verdicts.specs.declared.Difference as code
use Rattle.verdicts.specs.declared.Difference.TheVariants.{Answer, Words}
use Rattle.verdicts.specs.Verdicts.{verdict, is_read, read_verdict, is_written, write_verdict, lent_call, list_call, tree_call, Difference}
use Rattle.verdicts.specs.Verdicts.{verdict_of, asked_words, from_version, asked_verdict, line_verdict}

-- ---- What a call told and left

pub read-judged : (c : Call) (r : Result Told' Refusal) (tree messages work said : List ℕ) → HasParsed c r tree messages work
    → verdict (is_read (told_of r) said) (is_left tree messages work said) ≡ read_verdict c said
unfolding read_verdict
read-judged c r tree messages work said h =
    let left : is_left tree messages work said ≡ is_left (tree_after c) (messages_after c) (work_after c) said =
    rw (h.tree, h.messages, h.work) refl
    in
    ap (λ (t : Told). verdict (is_read t said) (is_left tree messages work said)) h.told ∙ ap (verdict (is_read (answered c) said)) left

pub write-judged : (c : WriteCall) (t : WriteTold) (list said : List ℕ) → t ≡ write_answered c → list ≡ list_after c
    → verdict (is_written t said) (holding list_mark said 0 list) ≡ write_verdict c said
write-judged c t list said told left = unfold write_verdict in rw (told, left) refl

-- ---- Fresh buffers

-- The front of a buffer of one value is such a buffer.
front : (n m k : ℕ) → n ≤ m → take n (replicate m k) ≡ replicate n k
front zero m k h = refl
front (suc n) zero k h = absurd (omega arith)
front (suc n) (suc m) k h = ap (k ∷◌) (front n m k (omega arith))

-- A part from the start on.
pub part : (n m k : ℕ) (buffer : List ℕ) → buffer ≡ replicate m k → n ≤ m → take (n - 0) buffer ≡ replicate n k
part n m k buffer e h = rw (sub-zero n, e) (front n m k h)

pub read-fresh : (list said : List ℕ) {tree work : List ℕ} (limit : ℕ) {passed version : ℤ} → passed ≡ version
    → tree ≡ replicate (21 * (length list / 5)) 0 → work ≡ replicate (64 * (length list / 5) + 64) 1
    → read_verdict (lent_call list passed limit tree work) said ≡ read_verdict (list_call list version limit) said
read-fresh list said limit v t w = unfold named_call list_call call_for in rw (v, t, w) refl

pub write-fresh : (tree said : List ℕ) {list : List ℕ} → list ≡ replicate (length tree / 7 * 15) 0
    → write_verdict (call tree list) said ≡ write_verdict (tree_call tree) said
write-fresh tree said e = unfold tree_call in rw e refl

pub asked-words : (words laid asked : List ℕ) (n : ℕ) → length words ≡ 20485 → laid ≡ first_words (length words) asked
    → n ≡ fitting (length words) (marked_count asked) → take (n - 0) laid ≡ asked_words asked
asked-words words laid asked n long is fits = unfold asked_words in rw (sub-zero n, is, fits, long) refl

-- ---- A line and its two parts

pub no_line : (line : List ℕ) → length line ≡ 0 → asked_verdict line line ≡ line_verdict line
unfolding line_verdict second_at unmarked
no_line [] h = refl
no_line (n ∷ ns) h = absurd (omega arith)

pub line-parts : (line : List ℕ) (middle : ℕ) → middle ≡ second_at line → middle ≤ length line
    → asked_verdict (take (middle - 0) line) (take (length line - middle) (drop middle line)) ≡ line_verdict line
unfolding line_verdict
line-parts line middle is h =
    rw (sub-zero middle, take_all (length line - middle) (drop middle line) (omega (arith, length-drop middle line)), is) refl

-- ---- One version after another

-- What is found first stands.
found : (d : code.Difference) (later : Option Difference) → verdict_of (Err d) ≡ first_of (verdict_of (Err d) ∷ later ∷ [])
unfolding first_of
found Answer later = refl
found Words later = refl

module _ (list : List ℕ) (limit : ℕ) (said : List ℕ) (bits last : ℕ) where
  abbrev from : ℕ → ℕ → Option Difference
  from n b = from_version n b list limit said

  -- The version at which it is read, and those after it.
  turn : bits ≤ last
      → from (last + 1 - bits) bits ≡ first_of (read_verdict (list_call list (version_of bits) limit) said ∷ from (last - bits) (bits + 1) ∷ [])
  turn h = unfold from_version in let e : last + 1 - bits ≡ suc (last - bits) = omega arith in rw e refl

  module _ (h : bits ≤ last) where
    pub found-same : none ≡ read_verdict (list_call list (version_of bits) limit) said
        → from (last + 1 - bits) bits ≡ from (last + 1 - (bits + 1)) (bits + 1)
    found-same is =
        let n : last + 1 - (bits + 1) ≡ last - bits = omega arith in
        rw n (turn h ∙ after_none _ (from (last - bits) (bits + 1)) (sym is))

    pub found-other : (d : code.Difference) → verdict_of (Err d) ≡ read_verdict (list_call list (version_of bits) limit) said
        → verdict_of (Err d) ≡ from (last + 1 - bits) bits
    found-other d is =
        let later = from (last - bits) (bits + 1) in
        found d later ∙ (ap (λ (x : Option Difference). first_of (x ∷ later ∷ [])) is ∙ sym (turn h))

  pub none_left : last + 1 ≤ bits → none ≡ from (last + 1 - bits) bits
  none_left h = unfold from_version in let e : last + 1 - bits ≡ 0 = omega arith in rw e refl
