-- The words of records are those of the trees that the records stand for, if the list's words are legal and every record has the places of
-- tokens.
use Prim.Native.Nat.{ℕ, zero, suc, ◌+◌, ◌*◌, ◌/◌, ◌%◌, ◌^◌, ◌<◌}
use mathlib.Core.{Path.{◌≡◌, refl, ap, ap₂, sym, subst, ◌∙◌}, Bool.{Bool, true, false}, List.{List, [], ◌∷◌, ◌++◌, append_assoc, append-nil}}
use native.Mathlib.Omega.{arith}
use lib.{ListN.{length, get_or}, Dec.{ltb}}
use borrow.Author.Tests.{ltb-false}
use Rattle.molang.specs.{Forest.{Token, Forest, nil, node, count, size, renamed, bare, closed_by}, Legal.{Legal}}
use Rattle.molang.specs.Words.{word, low_of, operator_bits, token_words, list_words, node_words_of, tree_words}
use Rattle.molang.proofs.Words.{LegalTokens, token, AtEnds, operator-small, low_word}
use Rattle.words.proofs.FieldLaws.{renamed-word}
use Rattle.words.specs.{Tokens.{token_words_at, five_words}, declared.tokens.TokenWords.{TokenWords}}
use Rattle.scan.specs.{Records.{is_section, token_place, closer_place, children_of, form_of}, Laid.{Entry, laid_onto}, Entries.{nth, token_at, label_of, record_entry, entries_of}}
use Rattle.scan.specs.Emit.{label_words, words_of_record, words_of_records}
use Rattle.scan.proofs.Placing.{IsPlace, AllPlaced, none, more, Stands}

-- The words k are those of the token t, which is legal and closes at its end.
record Holds (k : TokenWords) (t : Token) : Type 0 where
  operator : k.operator ≡ word 1 (operator_bits t.op t.variant)
  start : k.start ≡ word 2 t.start
  end : k.end ≡ word 3 t.end
  upper : k.upper ≡ word 4 (t.value / 2 ^ 16)
  lower : k.lower ≡ word 5 (t.value % 2 ^ 16)
  legal : Legal t
  closes : t.close ≡ t.end

-- The words behind a token's five.
behind : (a b c d e : ℕ) (ws : List ℕ) (i j : ℕ) → get_or (a ∷ b ∷ c ∷ d ∷ e ∷ ws) (5 * suc i + j) 0 ≡ get_or ws (5 * i + j) 0
behind a b c d e ws i j = let n : 5 * suc i + j ≡ suc (suc (suc (suc (suc (5 * i + j))))) = omega arith in rw n refl

-- The words of a token's place.
held_at : (ks : List Token) → LegalTokens ks → AtEnds ks → (i : ℕ) → i < length ks → Holds (token_words_at (list_words ks) (5 * i)) (nth ks i)
unfolding list_words token_words nth
held_at [] l a i h = absurd (omega arith)
held_at (k ∷ ks) (token x l) a zero h =
    record { operator = refl; start = refl; end = refl; upper = refl; lower = refl; legal = x; closes = a.0 }
held_at (k ∷ ks) (token x l) a (suc i) h =
    let r = held_at ks l a.1 i (omega arith) in
    let first : 5 * suc i ≡ 5 * suc i + 0 = omega arith in
    let same : 5 * i + 0 ≡ 5 * i = omega arith in
    let on = behind _ _ _ _ _ (list_words ks) i in
    record {
      operator = ap (λ (n : ℕ). get_or (list_words (k ∷ ks)) n 0) first ∙ on 0 ∙ ap (λ (n : ℕ). get_or (list_words ks) n 0) same ∙ r.operator;
      start = on 1 ∙ r.start;
      end = on 2 ∙ r.end;
      upper = on 3 ∙ r.upper;
      lower = on 4 ∙ r.lower;
      legal = r.legal;
      closes = r.closes;
    }

-- The words of a label.
labelled : (form : ℕ) (k : TokenWords) (t : Token) → Holds k t → five_words (label_words form k) ≡ token_words (label_of form t)
unfolding label_words label_of token_words renamed bare
labelled zero k t h = rw (h.operator, h.start, h.end, h.upper, h.lower) refl
labelled (suc zero) k t h =
    let o = operator-small t.op h.legal.op in
    let v = h.legal.variant in
    rw (h.operator, h.start, h.end, h.upper, h.lower, renamed-word t.op t.variant 9 (omega (arith, o)) (omega (arith, v)) (omega arith)) refl
labelled (suc (suc zero)) k t h = unfold operator_bits in rw (h.start, h.end) refl
labelled (suc (suc (suc zero))) k t h = unfold operator_bits in rw (h.start, h.end) refl
labelled (suc (suc (suc (suc n)))) k t h =
    let o = operator-small t.op h.legal.op in
    let v = h.legal.variant in
    rw (h.operator, h.start, h.end, h.upper, h.lower, renamed-word t.op t.variant 63 (omega (arith, o)) (omega (arith, v)) (omega arith)) refl

label-closes : (form : ℕ) (t : Token) → t.close ≡ t.end → (label_of form t).close ≡ t.end
unfolding label_of renamed bare
label-closes zero t e = e
label-closes (suc zero) t e = e
label-closes (suc (suc zero)) t e = refl
label-closes (suc (suc (suc zero))) t e = refl
label-closes (suc (suc (suc (suc n)))) t e = e

-- What is no section closes with its own token.
closes-itself : (w : ℕ) → is_section w ≡ false → token_place w ≡ closer_place w
unfolding token_place closer_place
closes-itself w e = rw (e, closer_place) refl

-- A section's label has the words of its opener.
same-words : (o c : Token) → token_words (label_of 0 o) ≡ token_words (closed_by c o)
unfolding label_of token_words closed_by
same-words o c = refl

few-children : (w : ℕ) → children_of w < 2 ^ 14
unfolding children_of is_section
few-children w = by (ltb 2147483647 w) refl
  where
    by : (b : Bool) → ltb 2147483647 w ≡ b → children_of w < 2 ^ 14
    by true e = rw (e, children_of) (omega arith)
    by false e = let l = ltb-false 2147483647 w e in rw (e, children_of) (omega (arith, l))

-- ---- records

module _ (ks : List Token) (legal : LegalTokens ks) (ends : AtEnds ks) where
  abbrev words : List ℕ
  words = list_words ks

  held : (at : ℕ) → IsPlace (5 * length ks) at → Holds (token_words_at words at) (token_at ks at)
  unfolding token_at
  held at p =
      let e : 5 * (at / 5) ≡ at = omega (arith, p.whole) in
      let h = held_at ks legal ends (at / 5) (omega (arith, p.inside)) in
      subst (λ (n : ℕ). Holds (token_words_at words n) (nth ks (at / 5))) e h

  -- Where a node closes.
  record Closes (w : ℕ) : Type 0 where
    label : Token
    same : (record_entry ks w).label ≡ label
    words-of : five_words (label_words (form_of w) (token_words_at words (token_place w))) ≡ token_words label
    end : label.close ≡ (token_at ks (closer_place w)).end

  closes : (w : ℕ) → Stands (5 * length ks) w → Closes w
  unfolding record_entry form_of is_section
  closes w s = by (ltb 2147483647 w) refl
    where
      by : (b : Bool) → ltb 2147483647 w ≡ b → Closes w
      by true e =
          let c = token_at ks (closer_place w) in
          let o = held (token_place w) s.token in
          record {
            label = closed_by c (token_at ks (token_place w));
            same = rw (e, record_entry) refl;
            words-of = rw (e, form_of) (labelled 0 _ _ o ∙ same-words (token_at ks (token_place w)) c);
            end = unfold closed_by in refl;
          }
      by false e =
          let o = held (token_place w) s.token in
          record {
            label = label_of (form_of w) (token_at ks (token_place w));
            same = rw (e, record_entry) refl;
            words-of = labelled (form_of w) _ _ o;
            end = label-closes (form_of w) _ o.closes ∙ ap (λ (at : ℕ). (token_at ks at).end) (closes-itself w e);
          }

  pub record-words : (w : ℕ) → Stands (5 * length ks) w → words_of_record words w ≡ node_words_of (record_entry ks w).label (record_entry ks w).children
  unfolding words_of_record node_words_of record_entry
  record-words w s =
      let c = closes w s in
      let h = held (closer_place w) s.closer in
      let n = few-children w in
      let few : children_of w % 2 ^ 14 ≡ children_of w = omega (arith, n) in
      let end : low_of (get_or words (closer_place w + 2) 0) ≡ c.label.close =
      ap low_of h.end ∙ low_word 3 _ h.legal.end ∙ sym c.end
      in
      ap₂ (λ (xs : List ℕ) (y : ℕ). xs ++ (word 6 (children_of w % 2 ^ 14) ∷ word 7 y ∷ [])) c.words-of end
      ∙ ap₂ (λ (k : Token) (m : ℕ). token_words k ++ (word 6 m ∷ word 7 k.close ∷ [])) (sym c.same) few

  -- The words of nodes in a row.
  unfoldable words_of : List Entry → List ℕ
  words_of [] = []
  words_of (e ∷ L) = node_words_of e.label e.children ++ words_of L

  words-onto : (f : Forest) (L : List Entry) → words_of (laid_onto f L) ≡ tree_words f ++ words_of L
  unfolding laid_onto words_of tree_words
  words-onto nil L = refl
  words-onto (node k cs rest) L =
      ap (λ (ws : List ℕ). node_words_of k (count cs) ++ ws)
      (words-onto cs (laid_onto rest L) ∙ ap (λ (ws : List ℕ). tree_words cs ++ ws) (words-onto rest L)
      ∙ sym (append_assoc (tree_words cs) (tree_words rest) (words_of L)))
      ∙ sym (append_assoc (node_words_of k (count cs)) (tree_words cs ++ tree_words rest) (words_of L))

  entries-words : (R : List ℕ) → AllPlaced (Stands (5 * length ks)) R → words_of_records words R ≡ words_of (entries_of ks R)
  unfolding words_of_records words_of entries_of
  entries-words [] none = refl
  entries-words (w ∷ R) (more s p) = ap₂ (λ (a b : List ℕ). a ++ b) (record-words w s) (entries-words R p)

  -- THE WORDS of records that stand for trees.
  pub trees-words : (R : List ℕ) (f : Forest) → AllPlaced (Stands (5 * length ks)) R → entries_of ks R ≡ laid_onto f [] → words_of_records words R ≡ tree_words f
  unfolding words_of
  trees-words R f p e = entries-words R p ∙ ap words_of e ∙ words-onto f [] ∙ append-nil (tree_words f)

  -- There are as many records as nodes.
  onto-long : (f : Forest) (L : List Entry) → length (laid_onto f L) ≡ size f + length L
  unfolding laid_onto size
  onto-long nil L = omega arith
  onto-long (node k cs rest) L = let a = onto-long cs (laid_onto rest L) in let b = onto-long rest L in omega (arith, a, b)

  entries-long : (R : List ℕ) → length (entries_of ks R) ≡ length R
  unfolding entries_of
  entries-long [] = refl
  entries-long (w ∷ R) = ap suc (entries-long R)

  pub trees-long : (R : List ℕ) (f : Forest) → entries_of ks R ≡ laid_onto f [] → length R ≡ size f
  trees-long R f e =
      let a = sym (entries-long R) ∙ ap (λ (L : List Entry). length L) e ∙ onto-long f [] in omega (arith, a)
