-- What the reports leave in the message buffer: one record in its front, or two, which are those of the messages that what the passes left
-- stands for.
use Prim.Native.Nat.{ℕ, ◌%◌, ◌≤◌}
use mathlib.Core.{Path.{◌≡◌, refl, sym, ap, ◌∙◌}, List.{List, [], ◌∷◌, ◌++◌, append_assoc, append-nil}, Option.{none}}
use native.Mathlib.Omega.{arith}
use lib.ListN.{length}
use Rattle.std.specs.Prelude.{Err}
use Rattle.molang.specs.Forest.{Token}
use Rattle.molang.specs.Message.{Message, message_record, multiple_roots, closing_mismatch, section_not_closed, no_closing_symbol, record8}
use Rattle.molang.specs.{Message.{about}, Read.{Answer, messages}, Parse.{record_words, in_front, messages_in}}
use Rattle.molang.proofs.Bounds.{record-length, records-length}
use Rattle.words.specs.{Records.{unnamed, words_of, laid_at}, declared.records.Record.{Record}}
use Rattle.words.proofs.RecordLaws.{laid-front, laid-after}
use Rattle.nodes.{specs.Store.{TokenAt}, proofs.Tokens.{token-op, token-start, token_end}}
use Rattle.levels.specs.Failures as failures
use Rattle.grouping.specs.Grouped.{tells, StandsFor, failed, mismatched, unclosed, pointer_failed}
use Rattle.levels.specs.declared.failure.Fault.TheVariants.{Failed, Mismatched, Unclosed as Unclosing, PointerFailed}
use Rattle.levels.specs.{declared.failure.Failure.{Failure}, declared.failure.Mismatch.{Mismatch}, declared.failure.Unclosed.{Unclosed}}
use Rattle.parse.specs.{Records.{Within, open_record, mismatch_record, unclosed_record, Named, record_for}, Reports.{CanReport, Reported}}
use Rattle.parse.proofs.RecordLaws.{slot-within, closer-token, says-slots, says-words, tells-one}

-- ---- words in front

-- One record, then another.
two-laid : (vs ws l m m' : List ℕ) → length vs ≡ 8 → m ≡ in_front vs l → m' ≡ laid_at 8 ws m → m' ≡ in_front (vs ++ ws) l
two-laid vs ws l m m' e f g = g ∙ (ap (laid_at 8 ws) f ∙ (rw (← e) (laid-after vs ws l)))

records-then : (ms : List Message) (m : Message) → record_words (ms ++ (m ∷ [])) ≡ record_words ms ++ message_record m
unfolding record_words
records-then [] m = append-nil (message_record m)
records-then (k ∷ ms) m =
    ap (λ (ws : List ℕ). message_record k ++ ws) (records-then ms m)
    ∙ sym (append_assoc (message_record k) (record_words ms) (message_record m))

pub one-record : (m : Message) → record_words (m ∷ []) ≡ message_record m
one-record m = unfold record_words in append-nil (message_record m)

two_records : (m k : Message) → record_words (m ∷ k ∷ []) ≡ message_record m ++ message_record k
two_records m k = records-then (m ∷ []) k ∙ ap (λ (ws : List ℕ). ws ++ message_record k) (one-record m)

-- ---- a failure

pub failed-slots : {W m : List ℕ} {source_length : ℕ} {f : Failure} → CanReport W m source_length (Err (Failed f)) → Named W f
failed-slots p = go p.stands p.whole p.some
  where
    go : {W : List ℕ} {hi n source_length : ℕ} {f : Failure} {a : Answer} → StandsFor W hi n source_length (Err (Failed f)) a → length W % 8 ≡ 0
        → 8 ≤ length W
        → Named W f
    go (failed s) whole some = says-slots s whole some

pub failed-reported : (W m m' : List ℕ) (source_length : ℕ) (f : Failure) (r : Record) → m' ≡ laid_at 0 (words_of r) m
    → r ≡ record_for W source_length f
    → Reported W m source_length (Err (Failed f)) m'
unfolding messages_in
failed-reported W m m' source_length f r e g = record { records = go }
  where
    go : (hi n : ℕ) (a : Answer) → StandsFor W hi n source_length (Err (Failed f)) a → m' ≡ messages_in none a m
    go hi n a (failed s) = e ∙ (laid-front (words_of r) m ∙ ap (λ (ws : List ℕ). in_front ws m) (ap words_of g ∙ says-words W source_length s))

-- ---- a failed pointer pass

pub no-roots-words : (source_length : ℕ) → words_of (unnamed 1 0 source_length) ≡ message_record (multiple_roots 0 source_length 0)
no-roots-words source_length = unfold words_of message_record in refl

pub pointer-fails : {W m : List ℕ} {source_length : ℕ} {f : Failure} → CanReport W m source_length (Err (PointerFailed f))
    → CanReport W m source_length (Err (Failed f))
pointer-fails {W} {m} {source_length} {f} p = go p.stands
  where
    go : {hi n : ℕ} {a : Answer} → StandsFor W hi n source_length (Err (PointerFailed f)) a → CanReport W m source_length (Err (Failed f))
    go {hi} {n} (pointer_failed {ms = ms} t) =
        record { hi = hi; n = n; answer = messages ms; stands = failed (tells t); whole = p.whole; some = p.some; room = p.room }

pub pointer-reported : (W m m' m'' : List ℕ) (source_length : ℕ) (f : Failure) → Reported W m source_length (Err (Failed f)) m'
    → m'' ≡ laid_at 8 (message_record (multiple_roots 0 source_length 0)) m' → Reported W m source_length (Err (PointerFailed f)) m''
unfolding messages_in
pointer-reported W m m' m'' source_length f v e = record { records = go }
  where
    go : (hi n : ℕ) (a : Answer) → StandsFor W hi n source_length (Err (PointerFailed f)) a → m'' ≡ messages_in none a m
    go hi n a (pointer_failed {ms = ms} t) =
        let long : length (record_words ms) ≡ 8 = omega (arith, records-length ms, tells-one t) in
        two-laid (record_words ms) (message_record (multiple_roots 0 source_length 0)) m m' m'' long
        (v.records hi n (messages ms) (failed (tells t))) e
        ∙ ap (λ (ws : List ℕ). in_front ws m) (sym (records-then ms (multiple_roots 0 source_length 0)))

-- ---- brackets that do not match

open-words : {W : List ℕ} {s : ℕ} {k : Token} → TokenAt W s k → words_of (open_record W s) ≡ message_record (section_not_closed k)
open-words t = unfold words_of message_record about record8 in rw (closer-token t, token-start t, token_end t, token-op t)

-- Two messages, of which the second is that a section is not closed.
two-reported : (W m m' m'' : List ℕ) (r q : Record) (s : ℕ) (k : Message) {p : Token} → m' ≡ laid_at 0 (words_of r) m
    → m'' ≡ laid_at 8 (words_of q) m'
    → words_of r ≡ message_record k → q ≡ open_record W s → TokenAt W s p → m'' ≡ in_front (record_words (k ∷ section_not_closed p ∷ [])) m
two-reported W m m' m'' r q s k {p} e f g h t =
    two-laid (message_record k) (message_record (section_not_closed p)) m m' m'' (record-length k)
    (e ∙ (laid-front (words_of r) m ∙ ap (λ (ws : List ℕ). in_front ws m) g))
    (f ∙ ap (λ (ws : List ℕ). laid_at 8 ws m') (ap words_of h ∙ open-words t))
    ∙ ap (λ (ws : List ℕ). in_front ws m) (sym (two_records k (section_not_closed p)))

pub mismatch-slots : {W l : List ℕ} {source_length : ℕ} {m : Mismatch} → CanReport W l source_length (Err (Mismatched m))
    → Within W m.opener × Within W m.closer × Within W m.outer
mismatch-slots {W} {l} {source_length} {m} p = go p.stands
  where
    go : {hi n : ℕ} {a : Answer} → StandsFor W hi n source_length (Err (Mismatched m)) a
        → Within W m.opener × Within W m.closer × Within W m.outer
    go (mismatched (failures.mismatched t u v)) = (slot-within t p.whole, slot-within u p.whole, slot-within v p.whole)

mismatch-words : {W : List ℕ} (m : Mismatch) {o k : Token} → TokenAt W m.opener o → TokenAt W m.closer k
    → words_of (mismatch_record W m) ≡ message_record (closing_mismatch o m.start k m.index)
mismatch-words m t u = unfold words_of message_record record8 in rw (closer-token t, token-start t, token_end u, token-op t, token-op u)

pub mismatch-reported : (W l l' l'' : List ℕ) (m : Mismatch) (r q : Record) → l' ≡ laid_at 0 (words_of r) l → r ≡ mismatch_record W m
    → l'' ≡ laid_at 8 (words_of q) l' → q ≡ open_record W m.outer → (source_length : ℕ) → Reported W l source_length (Err (Mismatched m)) l''
unfolding messages_in
mismatch-reported W l l' l'' m r q e g f h source_length = record { records = go }
  where
    go : (hi n : ℕ) (a : Answer) → StandsFor W hi n source_length (Err (Mismatched m)) a → l'' ≡ messages_in none a l
    go hi n a (mismatched (failures.mismatched {o = o} {k = k} t u v)) =
        two-reported W l l' l'' r q m.outer (closing_mismatch o m.start k m.index) e f (ap words_of g ∙ mismatch-words m t u) h v

pub unclosed-slots : {W l : List ℕ} {source_length : ℕ} {u : Unclosed} → CanReport W l source_length (Err (Unclosing u))
    → Within W u.inner × Within W u.outer
unclosed-slots {W} {l} {source_length} {u} p = go p.stands
  where
    go : {hi n : ℕ} {a : Answer} → StandsFor W hi n source_length (Err (Unclosing u)) a → Within W u.inner × Within W u.outer
    go (unclosed (failures.unclosed t v)) = (slot-within t p.whole, slot-within v p.whole)

unclosed-words : {W : List ℕ} (u : Unclosed) {o : Token} → TokenAt W u.inner o
    → words_of (unclosed_record W u) ≡ message_record (no_closing_symbol o u.start)
unclosed-words u t = unfold words_of message_record record8 in rw (closer-token t, token-start t, token_end t, token-op t)

pub unclosed-reported : (W l l' l'' : List ℕ) (u : Unclosed) (r q : Record) → l' ≡ laid_at 0 (words_of r) l → r ≡ unclosed_record W u
    → l'' ≡ laid_at 8 (words_of q) l' → q ≡ open_record W u.outer → (source_length : ℕ) → Reported W l source_length (Err (Unclosing u)) l''
unfolding messages_in
unclosed-reported W l l' l'' u r q e g f h source_length = record { records = go }
  where
    go : (hi n : ℕ) (a : Answer) → StandsFor W hi n source_length (Err (Unclosing u)) a → l'' ≡ messages_in none a l
    go hi n a (unclosed (failures.unclosed {o = o} t v)) =
        two-reported W l l' l'' r q u.outer (no_closing_symbol o u.start) e f (ap words_of g ∙ unclosed-words u t) h v
