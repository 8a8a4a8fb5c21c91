-- How far one name can reach: the trees of two lists that differ in payloads only differ in payloads only, and in no more nodes than the
-- lists in tokens. Both lists are read as one list of numbered tokens is, with their payloads put in.
use Prim.Native.Nat.{ℕ, zero, suc, ◌+◌, ◌≤◌}
use mathlib.Core.{Path.{◌≡◌, refl, ap, sym, ◌∙◌}, Bool.{Bool, true, false, ◌&&◌}, List.{List, [], ◌∷◌}}
use native.Mathlib.Omega.{arith}
use lib.{Dec.{eqb}, IntN.{ℤ}}
use Rattle.molang.specs.{Forest.{Token, Forest, nil, node, renamed, bare, closed_by, leaves}, Message.{Message}}
use Rattle.molang.specs.Read.{Answer, tree, messages, read}
use Rattle.molang.proofs.Relabelling.{Unnoticed, itself, relabelled, messages_of, answer_of, tokens_for, read-natural}
use Rattle.molang.proofs.Marks.{Marking, marks, ReadMarked, told, grown, read-marked}

-- ---- the statement

-- The token without its payload.
unfoldable pub blank : Token → Token
blank k = record { op = k.op; variant = 0; value = 0; start = k.start; end = k.end; close = k.close }

-- 1 where two tokens' payloads differ, else 0.
unfoldable pub apart : Token → Token → ℕ
apart k l = elim (eqb k.variant l.variant && eqb k.value l.value) [ true ↦ 0 | false ↦ 1 ]

-- In how many tokens two lists differ, token by token.
unfoldable pub tokens_apart : List Token → List Token → ℕ
tokens_apart [] ls = 0
tokens_apart (k ∷ ks) [] = 0
tokens_apart (k ∷ ks) (l ∷ ls) = apart k l + tokens_apart ks ls

-- In how many nodes two forests of one shape differ.
unfoldable pub nodes_apart : Forest → Forest → ℕ
nodes_apart nil g = 0
nodes_apart (node k cs rest) nil = 0
nodes_apart (node k cs rest) (node l ds more) = apart k l + nodes_apart cs ds + nodes_apart rest more

-- Answers of one kind that differ in payloads only, trees in at most n nodes: the same messages with the payloads of φ and of ψ put in.
pub data Near (n : ℕ) : Answer → Answer → Type 0 where
  trees : {k l : Token} {cs ds : Forest} → relabelled blank (node k cs nil) ≡ relabelled blank (node l ds nil)
      → nodes_apart (node k cs nil) (node l ds nil) ≤ n
      → Near n (tree k cs) (tree l ds)
  told-both : (φ ψ : Token → Token) → ((k : Token) → blank (φ k) ≡ blank (ψ k)) → (ms : List Message)
      → Near n (messages (messages_of φ ms)) (messages (messages_of ψ ms))

-- ---- numbered tokens, and payloads by number

-- The token k with the payload of p.
abbrev with_payload : Token → Token → Token
with_payload p k = record { op = k.op; variant = p.variant; value = p.value; start = k.start; end = k.end; close = k.close }

-- The payload n.
abbrev the_number : ℕ → Token
the_number n = record { op = 0; variant = 1; value = n; start = 0; end = 0; close = 0 }

-- Token i has the number i + n for its payload.
unfoldable numbered : ℕ → List Token → List Token
numbered n [] = []
numbered n (k ∷ ks) = with_payload (the_number n) k ∷ numbered (suc n) ks

-- The n-th token of a list, counted from 1; no payload for 0.
unfoldable nowhere : Token
nowhere = record { op = 0; variant = 0; value = 0; start = 0; end = 0; close = 0 }

-- The token with the payload that stands under its number.
unfoldable paid : (ℕ → Token) → Token → Token
paid at k = with_payload (at k.value) k

unfoldable nth : List Token → ℕ → Token
nth [] n = nowhere
nth (k ∷ ks) zero = k
nth (k ∷ ks) (suc n) = nth ks n

unfoldable from1 : List Token → ℕ → Token
from1 ks zero = nowhere
from1 ks (suc n) = nth ks n

unnoticed : (ks : List Token) → Unnoticed (paid (from1 ks))
unfolding paid from1 nowhere renamed bare closed_by
unnoticed ks =
    record {
      op = λ k. itself refl;
      start = λ k. refl;
      end = λ k. refl;
      renames = λ o k l. refl;
      bares = λ o k l. refl;
      closes = λ k o. refl;
    }

paid-back : (at : ℕ → Token) (n : ℕ) (ks : List Token) → ((j : ℕ) → at (n + j) ≡ nth ks j) → tokens_for (paid at) (numbered n ks) ≡ ks
unfolding tokens_for numbered paid nth
paid-back at n [] h = refl
paid-back at n (k ∷ ks) h =
    let here : n ≡ n + 0 = omega arith in
    let next : (j : ℕ) → suc n + j ≡ n + suc j = λ j. omega arith in
    let first : at n ≡ k = ap at here ∙ h 0 in
    ap (λ (t : Token). with_payload t k ∷ tokens_for (paid at) (numbered (suc n) ks)) first
    ∙ ap (λ (ts : List Token). k ∷ ts) (paid-back at (suc n) ks (λ j. ap at (next j) ∙ h (suc j)))

numbered-blank : (n : ℕ) (ks : List Token) → numbered n (tokens_for blank ks) ≡ numbered n ks
unfolding numbered tokens_for blank
numbered-blank n [] = refl
numbered-blank n (k ∷ ks) = ap (λ (ts : List Token). with_payload (the_number n) k ∷ ts) (numbered-blank (suc n) ks)

list_back : (ks : List Token) → tokens_for (paid (from1 ks)) (numbered 1 ks) ≡ ks
list_back ks = paid-back (from1 ks) 1 ks (λ j. step j)
  where
    step : (j : ℕ) → from1 ks (1 + j) ≡ nth ks j
    step j = let e : 1 + j ≡ suc j = omega arith in ap (from1 ks) e ∙ (unfold from1 in refl)

-- ---- what is apart of the answers

module _ (xs ys : List Token) where
  -- A numbered token is marked where its payloads in the two lists differ.
  between : Marking
  unfolding paid from1 nowhere renamed bare closed_by apart
  between =
      record {
        of = λ k. apart (paid (from1 xs) k) (paid (from1 ys) k);
        kept = λ o k. refl;
        none-new = λ o k. refl;
        kept-closed = λ k o. refl;
      }

  marks-apart : (f : Forest) → nodes_apart (relabelled (paid (from1 xs)) f) (relabelled (paid (from1 ys)) f) ≡ marks between f
  unfolding nodes_apart relabelled marks between
  marks-apart nil = refl
  marks-apart (node k cs rest) = rw (marks-apart cs, marks-apart rest) refl

  leaves-apart : (ks : List Token)
      → tokens_apart (tokens_for (paid (from1 xs)) ks) (tokens_for (paid (from1 ys)) ks) ≡ marks between (leaves ks)
  unfolding tokens_apart tokens_for marks leaves between
  leaves-apart [] = refl
  leaves-apart (k ∷ ks) = omega (arith, leaves-apart ks)

  blanks : (f : Forest) → relabelled blank (relabelled (paid (from1 xs)) f) ≡ relabelled blank (relabelled (paid (from1 ys)) f)
  unfolding relabelled blank paid
  blanks nil = refl
  blanks (node k cs rest) = rw (blanks cs, blanks rest) refl

  near : (n : ℕ) (a : Answer) → ReadMarked between n a → Near n (answer_of (paid (from1 xs)) a) (answer_of (paid (from1 ys)) a)
  unfolding answer_of relabelled
  near n (messages ms) told = told-both (paid (from1 xs)) (paid (from1 ys)) (λ k. unfold blank paid in refl) ms
  near n (tree k cs) (grown h) =
      let few : nodes_apart (relabelled (paid (from1 xs)) (node k cs nil)) (relabelled (paid (from1 ys)) (node k cs nil)) ≤ n =
      omega (arith, marks-apart (node k cs nil))
      in
      trees (blanks (node k cs nil)) few

  -- HOW FAR PAYLOADS REACH: lists that differ in payloads only are answered alike, with payloads apart in no more nodes than tokens.
  pub reach : tokens_for blank xs ≡ tokens_for blank ys → (u : ℕ → Bool) (version : ℤ) (source_length : ℕ)
      → Near (tokens_apart xs ys) (read xs u version source_length) (read ys u version source_length)
  reach e u v l =
      let ks = numbered 1 xs in
      let same : numbered 1 ys ≡ ks = sym (numbered-blank 1 ys) ∙ ap (numbered 1) (sym e) ∙ numbered-blank 1 xs in
      let first : tokens_for (paid (from1 xs)) ks ≡ xs = list_back xs in
      let second : tokens_for (paid (from1 ys)) ks ≡ ys = ap (tokens_for (paid (from1 ys))) (sym same) ∙ list_back ys in
      let count : marks between (leaves ks) ≡ tokens_apart xs ys =
      sym (leaves-apart ks)
      ∙ ap (λ (ts : List Token). tokens_apart ts (tokens_for (paid (from1 ys)) ks)) first
      ∙ ap (tokens_apart xs) second
      in
      let one : read xs u v l ≡ answer_of (paid (from1 xs)) (read ks u v l) =
      ap (λ (ts : List Token). read ts u v l) (sym first) ∙ read-natural (paid (from1 xs)) (unnoticed xs) ks u v l
      in
      let two : read ys u v l ≡ answer_of (paid (from1 ys)) (read ks u v l) =
      ap (λ (ts : List Token). read ts u v l) (sym second) ∙ read-natural (paid (from1 ys)) (unnoticed ys) ks u v l
      in
      rw (one, two, ← count) (near (marks between (leaves ks)) (read ks u v l) (read-marked between ks u v l))
