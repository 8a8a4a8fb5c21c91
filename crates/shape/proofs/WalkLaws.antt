-- The loops over words that look for the first fault, in every order: what the tests of a word come to, and the fault of all words by where a
-- loop stands.
use Prim.Native.Nat.{ℕ, suc, ◌+◌, ◌≤◌, ◌<◌}
use mathlib.Core.{Path.{◌≡◌, refl, sym, ◌∙◌}, Bool.{Bool, true, false, true≢false}, List.{List, [], ◌∷◌}, Option.{Option, none, some}}
use native.Mathlib.{Numerals.{add-one}, Omega.{arith}}
use lib.{ListN.{length, get_or, drop, drop_of_length-le}, Seq.{drop-cons}}
use Rattle.molang.specs.Words.{Field, operator_field, word_fault}
use Rattle.molang.specs.{Words.{low_fault, variant_after}, WriteEntry.{next_in_node}}
use Rattle.molang.specs.FirstFailure.{must}
use Rattle.molang.proofs.FirstFailure.{must-true, must-false, found, after_none}
use Rattle.shape.specs.{Answers.{is_legal}, Seen.{LegalNode}, Walks.{goes_on, IsWalk, NodeFits, IsAfterNode, Seen}}

-- The two tests of a word, one after the other.
by-fit : (o : Option ℕ) (b : Bool) → is_legal o ≡ true → b ≡ elim o [ some n ↦ false | none ↦ b ]
by-fit none b h = refl
by-fit (some n) b h = absurd (true≢false (sym h))

illegal : (o : Option ℕ) (b : Bool) → is_legal o ≡ false → false ≡ elim o [ some n ↦ false | none ↦ b ]
illegal none b h = absurd (true≢false h)
illegal (some n) b h = refl

fitting : (o : Option ℕ) (b : Bool) → ◌≡◌ {A = Bool} (elim o [ some n ↦ false | none ↦ b ]) true → b ≡ true
fitting none b h = h
fitting (some n) b h = absurd (true≢false (sym h))

module _ {S : Type 0} (fits : Field → ℕ → S → Bool) (field : Field) (v : ℕ) (s : S) (w : ℕ) where
  pub goes-by-fit : is_legal (word_fault field v w) ≡ true → fits field w s ≡ goes_on fits field v s w
  goes-by-fit = by-fit (word_fault field v w) _

  pub stops-illegal : is_legal (word_fault field v w) ≡ false → false ≡ goes_on fits field v s w
  stops-illegal = illegal (word_fault field v w) _

  pub goes-fitting : goes_on fits field v s w ≡ true → fits field w s ≡ true
  goes-fitting = fitting (word_fault field v w) _

module _ {S : Type 0} {start : S} {after : Field → ℕ → S → S} {fits : Field → ℕ → S → Bool} {whole : Field → S → Bool}
    {fault : ℕ → Field → ℕ → S → List ℕ → Option ℕ} {Holds : Field → S → Type 0} (walk : IsWalk start after fits whole fault Holds) where
  -- The fault of the words from i on is that of all.
  module _ (ws : List ℕ) (field : Field) (v i : ℕ) (s : S) {all : Option ℕ} (same : fault i field v s (drop i ws) ≡ all) where
    at-word : i < length ws → fault i field v s (get_or ws i 0 ∷ drop (suc i) ws) ≡ all
    at-word h = rw (drop-cons ws i 0 h) at same

    fault-here : i < length ws → goes_on fits field v s (get_or ws i 0) ≡ false → some i ≡ all
    fault-here h e = sym (walk.at_word i field v s (get_or ws i 0) (drop (suc i) ws) ∙ found _ i _ (must-false _ i e)) ∙ at-word h

    -- After a word that can stand next.
    fault-later : (j : ℕ) → j ≡ i + 1 → i < length ws → goes_on fits field v s (get_or ws i 0) ≡ true
        → fault j (next_in_node field) (variant_after field v (get_or ws i 0)) (after field (get_or ws i 0) s) (drop j ws) ≡ all
    fault-later j ej h e =
        rw (ej, add-one) (sym (walk.at_word i field v s (get_or ws i 0) (drop (suc i) ws) ∙ after_none _ _ (must-true _ i e)) ∙ at-word h)

    -- At the words' end.
    fault-end : length ws ≤ i → must (whole field s) i ≡ all
    fault-end h = sym (walk.at_end i field v s) ∙ (rw (drop_of_length-le ws h) at same)

  -- Where a node begins, the variant of the node before it does not matter.
  any-variant : (i u v : ℕ) (s : S) (ws : List ℕ) → fault i operator_field u s ws ≡ fault i operator_field v s ws
  unfolding word_fault low_fault variant_after
  any-variant i u v s [] = walk.at_end i operator_field u s ∙ sym (walk.at_end i operator_field v s)
  any-variant i u v s (w ∷ ws) = walk.at_word i operator_field u s w ws ∙ sym (walk.at_word i operator_field v s w ws)

  -- ---- What a loop has seen

  pub seen-start : (words : List ℕ) → Seen Holds fault start words operator_field 0 start 0
  seen-start words = record { within = omega arith; holds = walk.starts; same = refl }

  module _ {words : List ℕ} {field : Field} {v i : ℕ} {s : S} (seen : Seen Holds fault start words field v s i) where
    pub stops : i < length words → goes_on fits field v s (get_or words i 0) ≡ false → some i ≡ fault 0 operator_field 0 start words
    stops h e = fault-here words field v i s seen.same h e

    pub ends-whole : i ≡ length words → whole field s ≡ true → none ≡ fault 0 operator_field 0 start words
    ends-whole h e = sym (must-true _ i e) ∙ fault-end words field v i s seen.same (omega (arith, h))

    pub ends-short : i ≡ length words → whole field s ≡ false → some (length words) ≡ fault 0 operator_field 0 start words
    ends-short h e = rw (← h) (sym (must-false _ i e) ∙ fault-end words field v i s seen.same (omega (arith, h)))

    -- After a word that can stand next.
    pub seen-more : (j : ℕ) → j ≡ i + 1 → i < length words → goes_on fits field v s (get_or words i 0) ≡ true
        → {field' : Field} {v' : ℕ} {s' : S} → field' ≡ next_in_node field → v' ≡ variant_after field v (get_or words i 0)
        → s' ≡ after field (get_or words i 0) s
        → Seen Holds fault start words field' v' s' j
    seen-more j ej h e ef ev es =
        record {
          within = omega (arith, ej);
          holds = rw (ef, es) (walk.kept field (get_or words i 0) s seen.holds (goes-fitting fits field v s (get_or words i 0) e));
          same = rw (ef, ev, es) (fault-later words field v i s seen.same j ej h e);
        }

    seen-legal : (j : ℕ) → j ≡ i + 1 → i < length words → is_legal (word_fault field v (get_or words i 0)) ≡ true
        → fits field (get_or words i 0) s ≡ true
        → {s' : S} → s' ≡ after field (get_or words i 0) s
        → Seen Holds fault start words (next_in_node field) (variant_after field v (get_or words i 0)) s' j
    seen-legal j ej h l f es =
        seen-more j ej h (sym (goes-by-fit fits field v s (get_or words i 0) l) ∙ f) refl refl es

  -- After a legal node whose words fit.
  pub seen-node : {words : List ℕ} {at : ℕ} {s : S} → Seen Holds fault start words operator_field 0 s at → at + 7 ≤ length words
      → LegalNode words at
      → NodeFits after fits (get_or words (at + 5) 0) s
      → {s' : S} → IsAfterNode after (get_or words (at + 5) 0) s s'
      → Seen Holds fault start words operator_field 0 s' (at + 7)
  unfolding word_fault low_fault next_in_node variant_after
  seen-node {words = ws} {at = at} {s = s} seen h legal node_fits {s' = s'} is =
      let w : ℕ → ℕ = λ k. get_or ws (at + k) 0 in
      let (fa, (fb, (fc, (fd, (fe, (fn, (fg, z))))))) = node_fits (get_or ws at 0) (w 1) (w 2) (w 3) (w 4) (w 6) in
      let a = seen-legal seen (at + 1) (omega arith) (omega arith) legal.operator fa refl in
      let b = seen-legal a (at + 2) (omega arith) (omega arith) legal.start fb refl in
      let c = seen-legal b (at + 3) (omega arith) (omega arith) legal.end fc refl in
      let d = seen-legal c (at + 4) (omega arith) (omega arith) legal.upper fd refl in
      let e = seen-legal d (at + 5) (omega arith) (omega arith) legal.lower fe refl in
      let n = seen-legal e (at + 6) (omega arith) (omega arith) legal.count fn refl in
      let g = seen-legal n (at + 7) (omega arith) (omega arith) legal.close fg (is (get_or ws at 0) (w 1) (w 2) (w 3) (w 4) (w 6)) in
      record { within = h; holds = g.holds; same = any-variant (at + 7) 0 _ _ _ ∙ g.same }
