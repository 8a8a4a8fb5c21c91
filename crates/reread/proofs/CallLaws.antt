-- The calls that the functions make are the definition's: a list's own operators, and the buffers that are handed on.
-- Assumes nothing.
use mathlib.Core.{Path.{◌≡◌, refl, sym, ap, subst, ◌∙◌, fun_ext}, List.{List}}
use Prim.Native.Nat.{ℕ, ◌*◌, ◌≤◌}
use native.Mathlib.Omega.{arith}
use lib.{IntN.{ℤ}, ListN.{length, take, length-take}}
use Rattle.molang.specs.{Read.{uses}, Words.{operator_field, tokens_of}, Parse.{Call, a_tree}}
use Rattle.molang.specs.WriteEntry.{tokens, unwritten, write_answered, list_after}
use Rattle.molang.specs.Reread.{Handed, writer_call, exact_call, second_call, Rereading, handed, RereadLeft, stopped, second_told, after_writing}
use Rattle.molang.specs.Reread.{after_first, reread}
use Rattle.molang.proofs.{HandedTree.{unwritten-list}, Reread.{Readable, written-readable, demand-3}}
use Rattle.derived.{specs.Derived.{named}, proofs.WordLaws.{legal-list}}
use Rattle.parse.specs.{declared.Answer.{Answer}, declared.Answer.TheVariants.{Messages as Messages-of}, Answers.{told_of, HasParsed}}
use Rattle.std.specs.Prelude.{Result, Ok, Err}
use Rattle.std.specs.Result.{MatchResult, IsErrAnd}
use Rattle.words.specs.{Refusals.{reason_number}, declared.refusals.Refusal.{Refusal}}
use Rattle.reread.specs.{declared.Outcome.{Outcome}, declared.Outcome.TheVariants.{Messages}}
use Rattle.reread.specs.{declared.TurnedBack.{TurnedBack}, declared.TurnedBack.TheVariants.{First, Write}, Answers.{reread_of, left_of, handed_of}}
use Rattle.reread.specs.Promises.{CanGoOn, HasReread}
use Rattle.own.specs.Own.{named_call}

-- The words of a legal list name its tokens' operators.
pub exact-call : (list : List ℕ) (count : ℕ) → Readable list count → (tree messages work : List ℕ) (source_length : ℕ) {passed version : ℤ}
    → passed ≡ version
    → (limit : ℕ)
    → named_call list tree messages work source_length passed limit ≡ exact_call list tree messages work source_length version limit
unfolding exact_call named_call
exact-call list count can tree messages work source_length v limit =
    let same : named operator_field list ≡ uses (tokens_of list) =
    fun_ext (legal-list 0 0 0 list can.legal (omega (arith, can.long))).operators
    in
    rw (v, same) refl

-- ---- THE WRITER AND THE SECOND READING

-- What was written of a tree stands within the lent list, and is legal.
module _ (h : Handed) (nodes count : ℕ) (can : CanGoOn (a_tree nodes) h.tree)
    (wrote : tokens count ≡ write_answered (writer_call h nodes)) where
  pub written-list : Readable (take (5 * count) (list_after (writer_call h nodes))) count
  unfolding writer_call
  written-list = written-readable can.first (writer_call h nodes) nodes count can.says (ap (take (7 * nodes)) can.left) (sym wrote)

  pub written-room : 5 * count ≤ length (list_after (writer_call h nodes))
  written-room = omega (arith, written-list.long, length-take (5 * count) (list_after (writer_call h nodes)))

module _ (h : Handed) (nodes : ℕ) (list : List ℕ) (left : list ≡ list_after (writer_call h nodes)) where
  -- The writer is turned back.
  pub has-unwritten : (r : Refusal) → unwritten (reason_number r.reason) r.place ≡ write_answered (writer_call h nodes)
      → left_of (Err (Write r)) h.tree list h.again h.messages h.work ≡ after_first h (a_tree nodes)
  unfolding after_first after_writing stopped writer_call
  has-unwritten r e =
      let kept : list ≡ h.written = left ∙ unwritten-list (writer_call h nodes) (reason_number r.reason) r.place (sym e) in
      rw (← e, kept) refl

  -- What it wrote is read.
  pub has-written : (count : ℕ) → tokens count ≡ write_answered (writer_call h nodes)
      → (r : Result Outcome TurnedBack) {second : Result Answer Refusal} {again messages work : List ℕ}
      → HasParsed (exact_call (take (5 * count) list) h.again h.messages h.work h.source_length h.version h.limit)
      second again messages work
      → reread_of r ≡ second_told nodes count (told_of second)
      → left_of r h.tree list again messages work ≡ after_first h (a_tree nodes)
  unfolding after_first after_writing second_call
  has-written count e r read said = rw (← e, said, read.told, read.tree, read.messages, read.work, left) refl

-- ---- ALL THREE

-- What the first call told and left is handed on, and so the three calls are made.
pub has-reread : (c : Rereading) {first : Result Answer Refusal} {tree messages work : List ℕ} → HasParsed c.first first tree messages work
    → {passed : ℤ} → passed ≡ c.version → {l : RereadLeft}
    → l ≡ after_first (handed_of tree c.written c.again messages work c.source_length passed c.limit) (told_of first)
    → HasReread c l
unfolding reread handed
has-reread c p v {l} e =
    let left : l ≡ reread c = e ∙ rw (p.told, p.tree, p.messages, p.work, v) refl in
    record { left = left; demand3 = rw left (demand-3 c) }

-- The same of an answer that is known.
pub parsed-as : {k : Call} {first r : Result Answer Refusal} {tree messages work : List ℕ} → first ≡ r
    → HasParsed k first tree messages work → HasParsed k r tree messages work
parsed-as {k} {tree} {messages} {work} e p = subst (λ (x : Result Answer Refusal). HasParsed k x tree messages work) e p

-- The first call is turned back, or gives messages: nothing more is done.
pub turned-first : (h : Handed) (r : Refusal)
    → left_of (Err (First r)) h.tree h.written h.again h.messages h.work ≡ after_first h (told_of (Err r))
unfolding after_first stopped
turned-first h r = refl

pub first-messages : (h : Handed) (records : ℕ)
    → left_of (Ok (Messages records)) h.tree h.written h.again h.messages h.work ≡ after_first h (told_of (Ok (Messages-of records)))
unfolding after_first stopped
first-messages h records = refl

-- ---- AN ERROR THAT IS NAMED AFTER ITS CALL

-- What `map_err` gives, by what it was given.
module _ {T E D : Type 0} (P : E → D → Type 0) (r : Result T E) (s : Result T D)
    (h : MatchResult r (λ x. s ≡ Ok x) (λ e. IsErrAnd s (P e))) where
  pub ok-before : {n : T} → s ≡ Ok n → r ≡ Ok n
  ok-before {n} y = by r h
    where
      by : (r : Result T E) → MatchResult r (λ x. s ≡ Ok x) (λ e. IsErrAnd s (P e)) → r ≡ Ok n
      by (Ok x) h = let e : Ok x ≡ Ok n = sym h ∙ y in cc
      by (Err e) h = absurd (rw y at h)

  pub err-before : {d : D} → s ≡ Err d → (e : E) × (r ≡ Err e) × P e d
  err-before {d} y = by r h
    where
      by : (r : Result T E) → MatchResult r (λ x. s ≡ Ok x) (λ e. IsErrAnd s (P e)) → (e : E) × (r ≡ Err e) × P e d
      by (Ok x) h = absurd (let e : ◌≡◌ {A = Result T D} (Ok x) (Err d) = sym h ∙ y in cc)
      by (Err e) h = (e, refl, rw y at h)
