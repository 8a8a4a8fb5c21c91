-- WHAT IS TOLD IS THE DEFINITION'S LIFT: the two readings are those of molang's `Lift`, the writer's tree is the old reading's, and what it
-- writes is within the limit just where the definition says so. Assumes nothing.
use Prim.Native.Nat.{ℕ, ◌+◌, ◌*◌, ◌/◌, ◌%◌, ◌^◌, ◌≤◌, min}
use mathlib.Core.{Path.{◌≡◌, refl, sym, ap, ◌∙◌, fun_ext}, Bool.{Bool, true, false, ◌&&◌, and-false}, List.{List, [], ◌∷◌}}
use mathlib.Core.Option.{Option, none, some}
use native.Mathlib.Omega.{arith}
use lib.{Dec.{eqb, leb}, IntN.{ℤ}, ListN.{length, take, replicate, length-replicate}}
use borrow.Author.Tests.{eqb-true, eq-eqb, leb-true, leb-false, le-leb, lt-ltb}
use Rattle.molang.specs.{Forest.{Token, Forest, nil, node, size}, FirstFailure.{must, first_of}, Nesting.{too_deep}}
use Rattle.molang.specs.Words.{Refusal, row, with_number, operator_field, words_refusal, tokens_of, list_words, tree_words}
use Rattle.molang.specs.{Read.{Answer, tree, messages, read, uses}, Plain.{unplain_at}, Write.{written_tree}}
use Rattle.molang.specs.Parse.{Call, in_halves, most_tokens, is_limit, length_rows, value_rows, refusal, reading, told, answered, a_tree}
use Rattle.molang.specs.Parse.{tree_after, messages_in, messages_after, work_in, work_after}
use Rattle.molang.specs.WriteEntry.{WriteCall, tokens, unwritten, write_answered, list_after}
use Rattle.molang.specs.Lift.{own_reading, are_same, lift_refusal, unwritable, same, lifted, or_behind, or_written, after_old, lift_of}
use Rattle.molang.specs.Lift.{refused_list, has_messages, too_deep_as_it_is, not_written, CanCome}
use Rattle.molang.proofs.{FirstFailure.{passed, last_one}, UsedSet.{halves-exact}, Words.{tokens-back}}
use Rattle.molang.proofs.HandedTree.{Parsed, Wrote, tree-front, writer-tells, write_done, write-of-told, tree-written-legal}
use Rattle.molang.proofs.{HandedTree.{tree-written-ends}, Lift.{Entered, entered, can_write, reason-behind}}
use Rattle.derived.{specs.Derived.{named, highest}, proofs.WordLaws.{named-few, exact-few, highest-few, legal-list}}
use Rattle.own.specs.Own.{named_call, own_call}
use Rattle.lift.specs.Lifting.{LiftCall, room_refusal, first_limit, first_call, handed, second_call, writer_call, stays_behind, OutputLeft}
use Rattle.lift.specs.Lifting.{after_writing, written_out, same_told, or_written_out, after_second, after_first, stopped, by_room, lift_left}
use Rattle.lift.specs.Lifting.{IsLift}
use Rattle.lift.proofs.Within.{IsLiftWithin, by_lengths, by_output, list_stays, list_comes, list_told, list_behind, within-lift}

-- ---- The table's rows

-- Rows 1 to 5 pass.
pub record Room (list tree messages work : List ℕ) : Type 0 where
  pub whole : length list % 5 ≡ 0
  pub tokens : length list / 5 ≤ most_tokens
  pub tree_room : 21 * (length list / 5) ≤ length tree
  pub message_room : 16 ≤ length messages
  pub work_room : 64 * (length list / 5) + 64 ≤ length work

-- Then of a list's own call the rows are left that speak of the limit and the words.
module _ (list tree' messages' work : List ℕ) (ok : Room list tree' messages' work) (version : ℤ) (limit : ℕ) where
  abbrev called : Call
  called = own_call list tree' messages' work version limit

  own_bits : (n : ℕ) → in_halves called.used_low called.used_high n ≡ named operator_field list n
  unfolding own_call named_call
  own_bits = halves-exact (named operator_field list) (named-few operator_field list)

  own-rows : refusal called
      ≡ first_of
      (must (is_limit limit) (row 17 0) ∷ words_refusal 0 operator_field 0 list ∷ with_number 18 (too_deep limit (tokens_of list)) ∷ [])
  unfolding refusal length_rows value_rows must first_of own_call named_call
  own-rows =
      rw (
        eq-eqb (length list % 5) 0 ok.whole,
        le-leb (length list / 5) 4096 ok.tokens,
        le-leb (21 * (length list / 5)) (length tree') ok.tree_room,
        le-leb 16 (length messages') ok.message_room,
        le-leb (64 * (length list / 5) + 64) (length work) ok.work_room,
        lt-ltb (called.used_high * 2 ^ 64 + called.used_low) (2 ^ 111) (exact-few called.used_low called.used_high list own_bits),
        le-leb (highest operator_field 0 list) 536870911 (highest-few operator_field 0 list (omega arith)),
      )
      refl

  -- It reads the list as the definition does, where its words are legal.
  own-reads : words_refusal 0 operator_field 0 list ≡ none → reading called ≡ own_reading version list
  unfolding reading own_reading own_call named_call
  own-reads legal =
      let of = legal-list 0 0 0 list legal ok.whole in
      let used : in_halves called.used_low called.used_high ≡ uses (tokens_of list) = fun_ext (λ n. own_bits n ∙ of.operators n) in
      (λ i. read (tokens_of list) (used i) version (of.end i))

-- Two tests that hold.
pub after-rows : (a b : Bool) (later : List (Option Refusal)) → a ≡ true → b ≡ true
    → first_of (must a (row 1 0) ∷ must b (row 2 0) ∷ later) ≡ first_of later
unfolding must first_of
after-rows a b later e f = rw (e, f) refl

and-true : (b : Bool) → (b && true) ≡ b
and-true true = refl
and-true false = refl

-- Of three rows the last is left.
only-last : (b : Bool) (words last : Option Refusal) → b ≡ true → words ≡ none → first_of (must b (row 17 0) ∷ words ∷ last ∷ []) ≡ last
unfolding must first_of
only-last b words last e f = rw (e, f) (last_one last)

-- The rows of the first reading are the lift's.
pub limit-rows : (f t : ℕ) (words : Option Refusal) (ks : List Token)
    → first_of (must (is_limit (first_limit f t)) (row 17 0) ∷ words ∷ with_number 18 (too_deep (first_limit f t) ks) ∷ [])
    ≡ first_of (must (is_limit f && is_limit t) (row 17 0) ∷ words ∷ with_number 18 (too_deep f ks) ∷ [])
unfolding first_limit
limit-rows f t words ks = split (is_limit t) refl
  where
    split : (b : Bool) → is_limit t ≡ b
        → first_of (must (is_limit (first_limit f t)) (row 17 0) ∷ words ∷ with_number 18 (too_deep (first_limit f t) ks) ∷ [])
        ≡ first_of (must (is_limit f && is_limit t) (row 17 0) ∷ words ∷ with_number 18 (too_deep f ks) ∷ [])
    split true e =
        let is : first_limit f t ≡ f = rw (e, first_limit) refl in
        let both : (is_limit f && is_limit t) ≡ is_limit f = rw (e, and-true (is_limit f)) refl in
        rw (is, both) refl
    split false e =
        let is : first_limit f t ≡ 0 = rw (e, first_limit) refl in
        let both : (is_limit f && is_limit t) ≡ false = rw (e, and-false (is_limit f)) refl in
        rw (is, both) (unfold is_limit must first_of in refl)

module _ (c : LiftCall) (free : room_refusal c ≡ none) where
  pub rooms : Room c.list c.tree c.messages c.work × (21 * (length c.list / 5) ≤ length c.again)
  unfolding room_refusal length_rows
  rooms =
      let n = length c.list / 5 in
      let one = passed (eqb (length c.list % 5) 0) (row 1 0) _ free in
      let two = passed (leb n most_tokens) (row 2 0) _ one.1 in
      let three = passed (leb (21 * n) (length (replicate (min (length c.tree) (length c.again)) 0))) (row 3 0) _ two.1 in
      let four = passed (leb 16 (length (replicate (length c.messages) 0))) (row 4 0) _ three.1 in
      let five = passed (leb (64 * n + 64) (length (replicate (length c.work) 0))) (row 5 0) _ four.1 in
      let trees = leb-true (21 * n) (length (replicate (min (length c.tree) (length c.again)) 0)) three.0 in
      let records = leb-true 16 (length (replicate (length c.messages) 0)) four.0 in
      let works = leb-true (64 * n + 64) (length (replicate (length c.work) 0)) five.0 in
      let shorter = length-replicate {A = ℕ} (min (length c.tree) (length c.again)) 0 in (
        record {
          whole = eqb-true (length c.list % 5) 0 one.0;
          tokens = leb-true n most_tokens two.0;
          tree_room = omega arith;
          message_room = omega (arith, length-replicate {A = ℕ} (length c.messages) 0);
          work_room = omega (arith, length-replicate {A = ℕ} (length c.work) 0);
        },
        omega arith,
      )

  pub first-refusal : refusal (first_call c) ≡ lift_refusal c.from c.to c.list
  unfolding first_call lift_refusal
  first-refusal =
      let ok = rooms.0 in
      own-rows c.list c.tree c.messages c.work ok c.from.version (first_limit c.from.limit c.to.limit)
      ∙ limit-rows c.from.limit c.to.limit (words_refusal 0 operator_field 0 c.list) (tokens_of c.list)
      ∙ sym
      (after-rows (eqb (length c.list % 5) 0) (leb (length c.list / 5) most_tokens) _ (eq-eqb _ _ ok.whole)
      (le-leb _ _ ok.tokens))

  -- A list that enters is read by both calls as the definition reads it.
  module _ (enters : lift_refusal c.from c.to c.list ≡ none) where
    abbrev in_table : Entered c.from c.to c.list
    in_table = entered c.from c.to c.list enters

    first_reads : reading (first_call c) ≡ own_reading c.from.version c.list
    unfolding first_call
    first_reads =
        own-reads c.list c.tree c.messages c.work rooms.0 c.from.version (first_limit c.from.limit c.to.limit)
        in_table.words

    module _ (k : Token) (cs : Forest) (reads : own_reading c.from.version c.list ≡ tree k cs) where
      first-parsed : Parsed (first_call c) k cs
      first-parsed = record { accepted = first-refusal ∙ enters; reads = first_reads ∙ reads }

      second-room : Room c.list c.again (messages_after (first_call c)) (work_after (first_call c))
      unfolding messages_after messages_in work_after work_in first_call own_call named_call
      second-room =
          let ok = rooms.0 in
          let p = first-parsed in
          record {
            whole = ok.whole;
            tokens = ok.tokens;
            tree_room = rooms.1;
            message_room = rw (p.accepted, p.reads) ok.message_room;
            work_room = rw p.accepted (omega (arith, ok.work_room, length-replicate {A = ℕ} (length c.work) 0));
          }

      second-refusal : refusal (second_call (handed c)) ≡ with_number 18 (too_deep c.to.limit (tokens_of c.list))
      unfolding second_call handed
      second-refusal =
          own-rows c.list c.again (messages_after (first_call c)) (work_after (first_call c)) second-room c.to.version c.to.limit
          ∙ only-last (is_limit c.to.limit) (words_refusal 0 operator_field 0 c.list) _ in_table.new in_table.words

      second_reads : reading (second_call (handed c)) ≡ own_reading c.to.version c.list
      unfolding second_call handed
      second_reads =
          own-reads c.list c.again (messages_after (first_call c)) (work_after (first_call c)) second-room c.to.version c.to.limit
          in_table.words

-- ---- EVERY CALL

-- What is written of the tree that the first reading gave.
module _ (c : LiftCall) (k : Token) (cs : Forest) (p : Parsed (first_call c) k cs)
    (can : CanCome c.from c.to c.list k cs)
    (other : are_same (tree k cs) (own_reading c.to.version c.list) ≡ false) where
  abbrev nodes : ℕ
  nodes = size (node k cs nil)

  abbrev writing : WriteCall
  writing = writer_call (tree_after (first_call c)) c.output nodes

  abbrev out : OutputLeft
  out = written_out (tree_after (first_call c)) c.output c.to.limit nodes

  got : writing.tree ≡ tree_words (node k cs nil)
  unfolding writer_call
  got = tree-front p

  not-out : (number place : ℕ) → write_answered writing ≡ unwritten number place → out.told ≡ stays_behind number place
  unfolding written_out after_writing
  not-out number place e = rw e refl

  is-unwritten : (number place : ℕ) → write_answered writing ≡ unwritten number place
      → unwritable c.to.limit k cs ≡ some (row number place)
      → IsLiftWithin c out.told out.output
  is-unwritten number place e u =
      list_behind (reason-behind c.from c.to c.list number place (not_written can.accepted can.reads can.within other u))
      (not-out number place e)

  lifts : unplain_at k cs ≡ none → length (written_tree k cs) ≤ most_tokens → too_deep c.to.limit (written_tree k cs) ≡ none
      → lift_of c.from c.to c.list ≡ lifted (list_words (written_tree k cs))
  unfolding lift_of after_old or_behind or_written
  lifts plain few within =
      let u = can_write c.to.limit k cs (record { plain = plain; few = few; within = within }) in
      rw (can.accepted, can.reads, can.within, other, u) refl

  is-written : unplain_at k cs ≡ none → length (written_tree k cs) ≤ most_tokens → 5 * length (written_tree k cs) ≤ length c.output
      → (o : Option ℕ) → too_deep c.to.limit (written_tree k cs) ≡ o
      → IsLiftWithin c out.told out.output
  unfolding written_out after_writing unwritable must first_of writer_call
  is-written plain few room o e =
      let n = length (written_tree k cs) in
      let tells = (writer-tells p writing got).writes plain few room in
      let wrote = write_done p writing got (write-of-told writing n tells) in
      let back = tokens-back (written_tree k cs) (tree-written-legal p) (tree-written-ends p plain) in
      let deep : too_deep c.to.limit (tokens_of (take (5 * n) (list_after writing))) ≡ o = rw (wrote.front, back) e in
      split o e deep tells wrote
    where
      split : (o : Option ℕ) → too_deep c.to.limit (written_tree k cs) ≡ o
          → too_deep c.to.limit (tokens_of (take (5 * length (written_tree k cs)) (list_after writing))) ≡ o
          → write_answered writing ≡ tokens (length (written_tree k cs))
          → Wrote k cs writing
          → IsLiftWithin c out.told out.output
      split (some place) e deep tells wrote =
          list_behind (reason-behind c.from c.to c.list 18 place
          (not_written can.accepted can.reads can.within other
          (rw (plain, le-leb (length (written_tree k cs)) most_tokens few, e) refl)))
          (rw (tells, deep) refl)
      split none e deep tells wrote =
          list_comes {count = length (written_tree k cs)} (rw tells (rw wrote.front (lifts plain few e))) room (rw (tells, deep) refl)

  -- The writer's four ways.
  is-out : IsLiftWithin c out.told out.output
  unfolding unwritable must first_of writer_call
  is-out = plainly (unplain_at k cs) refl
    where
      n : ℕ
      n = length (written_tree k cs)

      roomy : unplain_at k cs ≡ none → n ≤ most_tokens → (b : Bool) → leb (5 * n) (length c.output) ≡ b
          → IsLiftWithin c out.told out.output
      roomy plain few true e = is-written plain few (leb-true (5 * n) _ e) (too_deep c.to.limit (written_tree k cs)) refl
      roomy plain few false e =
          let short = leb-false (5 * n) (length c.output) e in
          by_output can.reads plain few short (not-out 15 0 ((writer-tells p writing got).no_room plain few short))

      fewer : unplain_at k cs ≡ none → (b : Bool) → leb n most_tokens ≡ b → IsLiftWithin c out.told out.output
      fewer plain true e = roomy plain (leb-true n most_tokens e) (leb (5 * n) (length c.output)) refl
      fewer plain false e =
          is-unwritten 14 0 ((writer-tells p writing got).too_many plain (leb-false n most_tokens e)) (rw (plain, e) refl)

      plainly : (o : Option ℕ) → unplain_at k cs ≡ o → IsLiftWithin c out.told out.output
      plainly (some i) e = is-unwritten 13 i ((writer-tells p writing got).unplain i e) (rw e refl)
      plainly none e = fewer e (leb n most_tokens) refl

is_same_lem : (c : LiftCall) (k : Token) (cs : Forest) → CanCome c.from c.to c.list k cs
    → are_same (tree k cs) (own_reading c.to.version c.list) ≡ true
    → lift_of c.from c.to c.list ≡ same
unfolding lift_of after_old or_behind or_written
is_same_lem c k cs can e = rw (can.accepted, can.reads, can.within, e) refl

-- Two trees in front of their buffers are compared as the definition compares the readings.
trees-same : {c d : Call} {k l : Token} {cs ds : Forest} → Parsed c k cs → Parsed d l ds
    → same_told (size (node k cs nil)) (a_tree (size (node l ds nil))) (tree_after c) (tree_after d) ≡ are_same (tree k cs) (tree l ds)
unfolding same_told are_same
trees-same p q = rw (tree-front p, tree-front q) refl

-- THE LIFT.
pub lift-within : (c : LiftCall) → IsLiftWithin c (lift_left c).told (lift_left c).output
unfolding lift_left by_room after_first after_second or_written_out stopped handed answered told
lift-within c = by (room_refusal c) refl
  where
    compared : (k : Token) (cs : Forest) (free : room_refusal c ≡ none) (can : CanCome c.from c.to c.list k cs) (a : Answer)
        → own_reading c.to.version c.list ≡ a
        → IsLiftWithin c (lift_left c).told (lift_left c).output
    compared k cs free can a g =
        let p = first-parsed c free can.accepted k cs can.reads in
        let within : refusal (second_call (handed c)) ≡ none =
        second-refusal c free can.accepted k cs can.reads ∙ ap (with_number 18) can.within
        in
        let reads = second_reads c free can.accepted k cs can.reads ∙ g in
        split a g p within reads
      where
        beside : (l : Token) (ds : Forest) → Parsed (first_call c) k cs → Parsed (second_call (handed c)) l ds
            → own_reading c.to.version c.list ≡ tree l ds
            → (b : Bool) → are_same (tree k cs) (tree l ds) ≡ b
            → IsLiftWithin c (lift_left c).told (lift_left c).output
        beside l ds p q g true e =
            rw (free, p.accepted, p.reads, q.accepted, q.reads, trees-same p q ∙ e)
            (list_stays (is_same_lem c k cs can (rw g e)) refl)
        beside l ds p q g false e =
            rw (free, p.accepted, p.reads, q.accepted, q.reads, trees-same p q ∙ e) (is-out c k cs p can (rw g e))

        split : (a : Answer) → own_reading c.to.version c.list ≡ a → Parsed (first_call c) k cs
            → refusal (second_call (handed c)) ≡ none
            → reading (second_call (handed c)) ≡ a
            → IsLiftWithin c (lift_left c).told (lift_left c).output
        split (messages ms) g p within reads =
            rw (free, p.accepted, p.reads, within, reads) (is-out c k cs p can (rw g (unfold are_same in refl)))
        split (tree l ds) g p within reads =
            beside l ds p (record { accepted = within; reads = reads }) g (are_same (tree k cs) (tree l ds)) refl

    deep : (k : Token) (cs : Forest) → room_refusal c ≡ none → lift_refusal c.from c.to c.list ≡ none
        → own_reading c.from.version c.list ≡ tree k cs
        → (o : Option ℕ) → too_deep c.to.limit (tokens_of c.list) ≡ o
        → IsLiftWithin c (lift_left c).told (lift_left c).output
    deep k cs free a g (some place) d =
        let p = first-parsed c free a k cs g in
        let above : refusal (second_call (handed c)) ≡ some (row 18 place) = second-refusal c free a k cs g ∙ ap (with_number 18) d in
        rw (free, p.accepted, p.reads, above)
        (list_behind (reason-behind c.from c.to c.list 18 place (too_deep_as_it_is a g d refl)) refl)
    deep k cs free a g none d =
        compared k cs free (record { accepted = a; reads = g; within = d }) (own_reading c.to.version c.list) refl

    read_as : room_refusal c ≡ none → lift_refusal c.from c.to c.list ≡ none → (a : Answer)
        → own_reading c.from.version c.list ≡ a
        → IsLiftWithin c (lift_left c).told (lift_left c).output
    read_as free a (messages ms) g =
        rw (free, first-refusal c free ∙ a, first_reads c free a ∙ g)
        (list_told (reason-behind c.from c.to c.list 0 (length ms) (has_messages a g refl refl)) refl)
    read_as free a (tree k cs) g = deep k cs free a g (too_deep c.to.limit (tokens_of c.list)) refl

    enter : room_refusal c ≡ none → (o : Option Refusal) → lift_refusal c.from c.to c.list ≡ o
        → IsLiftWithin c (lift_left c).told (lift_left c).output
    enter free (some r) a =
        rw (free, first-refusal c free ∙ a)
        (list_behind (reason-behind c.from c.to c.list r.number r.place (refused_list a)) refl)
    enter free none a = read_as free a (own_reading c.from.version c.list) refl

    by : (o : Option Refusal) → room_refusal c ≡ o → IsLiftWithin c (lift_left c).told (lift_left c).output
    by (some r) e = by_lengths e (rw e refl)
    by none e = enter e (lift_refusal c.from c.to c.list) refl

-- The definition's lift is told, as the contract says it.
pub lift-is : (c : LiftCall) → IsLift c (lift_left c).told (lift_left c).output
lift-is c = within-lift (lift-within c)
