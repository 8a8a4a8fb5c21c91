-- Words apart in one payload at most: those of legal tokens that differ in one payload at most, and of legal trees that do, both ways.
use Prim.Native.Nat.{ℕ, zero, suc, ◌+◌, ◌*◌, ◌/◌, ◌%◌, ◌^◌, ◌≤◌, ◌<◌}
use mathlib.Core.{Path.{◌≡◌, refl, ap, sym, ◌∙◌}, Bool.{Bool, true, false, ◌||◌, ◌&&◌}}
use mathlib.Core.List.{List, [], ◌∷◌, ◌++◌, append_assoc, append-nil, map}
use native.Mathlib.{Nat.{mul-zero, mul-suc, mul-add}, Omega.{arith}}
use lib.{Dec.{eqb}, ListN.{length, take, drop, length-append, length-map, length-take, length-drop, take-append-drop}}
use borrow.Author.Tests.{eqb-true, eq-eqb}
use Rattle.molang.specs.Forest.{Token, Forest, nil, node, count, size}
use Rattle.molang.specs.Words.{word, operator_bits, token_words, token_of, node_words_of, node_of, tokens_of, list_words, tree_words}
use Rattle.molang.specs.{Legal.{Legal, LegalTrees, no_trees, legal_tree}, WriteEntry.{trees_of}}
use Rattle.molang.specs.Payloads.{without_payload, PayloadAt, PayloadApart, equal_words, one_payload}
use Rattle.molang.proofs.Trees.{both, either}
use Rattle.molang.proofs.Words.{LegalTokens, no_tokens, token, AtEnds, kind-word, operator-small, bits-room, node-back, tokens-back}
use Rattle.molang.proofs.{Words.{trees-back}, Bounds.{tree_words-length}, Relabelling.{relabelled, tokens_for, rel-count}}
use Rattle.molang.proofs.OneName.{blank, apart, tokens_apart, nodes_apart}

-- ---- A word without its payload

-- What is left of a word, by its kind.
operator-without : (n v : ℕ) → n < 2 ^ 12 → v < 2 ^ 4 → without_payload (word 1 (operator_bits n v)) ≡ word 1 (operator_bits n 0)
unfolding without_payload
operator-without n v b c =
    rw (kind-word 1 (operator_bits n v) (omega (arith, bits-room n v b c)), without_payload) (unfold word operator_bits in omega arith)

upper-without : (half : ℕ) → half < 2 ^ 16 → without_payload (word 4 half) ≡ word 4 0
unfolding without_payload
upper-without half b = let is = kind-word 4 half (omega arith) in rw (is, without_payload, is) (unfold word in omega arith)

lower-without : (half : ℕ) → half < 2 ^ 16 → without_payload (word 5 half) ≡ word 5 0
unfolding without_payload
lower-without half b = let is = kind-word 5 half (omega arith) in rw (is, without_payload, is) (unfold word in omega arith)

other-without : (kind low : ℕ) → low < 2 ^ 29 → eqb kind 1 ≡ false → (eqb kind 4 || eqb kind 5) ≡ false
    → without_payload (word kind low) ≡ word kind low
other-without kind low h a b = unfold without_payload in let is = kind-word kind low h in rw (is, without_payload, a, is, b) refl

-- What is left of a legal token's words, and of a node's.
blank-words : (k : Token) → Legal k → map without_payload (token_words k) ≡ token_words (blank k)
unfolding token_words blank
blank-words k h =
    let small = operator-small k.op h.op in
    let a = operator-without k.op k.variant (omega arith) (omega (arith, h.variant)) in
    let d = upper-without (k.value / 2 ^ 16) (omega (arith, h.value)) in
    let e = lower-without (k.value % 2 ^ 16) (omega arith) in
    rw (a, d, e, other-without 2 k.start h.start refl refl, other-without 3 k.end h.end refl refl) refl

map-append : (f : ℕ → ℕ) (xs ys : List ℕ) → map f (xs ++ ys) ≡ map f xs ++ map f ys
map-append f [] ys = refl
map-append f (x ∷ xs) ys = ap (λ (l : List ℕ). f x ∷ l) (map-append f xs ys)

blank-node : (k : Token) (n : ℕ) → Legal k → n < 2 ^ 14 → map without_payload (node_words_of k n) ≡ node_words_of (blank k) n
unfolding node_words_of
blank-node k n h b =
    rw (map-append without_payload (token_words k) (word 6 n ∷ word 7 k.close ∷ []), blank-words k h)
    (rw (other-without 6 n (omega arith) refl refl, other-without 7 k.close h.close refl refl) (unfold blank in refl))

pub blank-list : {ks : List Token} → LegalTokens ks → map without_payload (list_words ks) ≡ list_words (tokens_for blank ks)
unfolding list_words tokens_for
blank-list no_tokens = refl
blank-list (token {k = k} {ks = ks} h hs) =
    map-append without_payload (token_words k) (list_words ks) ∙ (rw (blank-words k h, blank-list hs) refl)

blank-trees : {f : Forest} → LegalTrees f → map without_payload (tree_words f) ≡ tree_words (relabelled blank f)
unfolding tree_words relabelled
blank-trees no_trees = refl
blank-trees (legal_tree {k = k} {cs = cs} {rest = rest} h n below after) =
    map-append without_payload (node_words_of k (count cs)) (tree_words cs ++ tree_words rest)
    ∙ (rw (
      blank-node k (count cs) h n,
      map-append without_payload (tree_words cs) (tree_words rest),
      blank-trees below,
      blank-trees after,
      rel-count blank cs,
    ) refl)

-- Blank tokens and trees are legal.
blank-legal : (k : Token) → Legal k → Legal (blank k)
unfolding blank
blank-legal k h =
    record {
      op = h.op;
      variant = omega arith;
      value = omega arith;
      no_payload = λ e. refl;
      start = h.start;
      end = h.end;
      close = h.close;
    }

blank-tokens-legal : {ks : List Token} → LegalTokens ks → LegalTokens (tokens_for blank ks)
unfolding tokens_for
blank-tokens-legal no_tokens = no_tokens
blank-tokens-legal (token {k = k} h hs) = token (blank-legal k h) (blank-tokens-legal hs)

blank-ends : (ks : List Token) → AtEnds ks → AtEnds (tokens_for blank ks)
unfolding tokens_for blank
blank-ends [] e = tt
blank-ends (k ∷ ks) e = (e.0, blank-ends ks e.1)

blank-trees-legal : {f : Forest} → LegalTrees f → LegalTrees (relabelled blank f)
unfolding relabelled
blank-trees-legal no_trees = no_trees
blank-trees-legal (legal_tree {k = k} {cs = cs} h n below after) =
    legal_tree {cs = relabelled blank cs} (blank-legal k h) (rw (rel-count blank cs) n) (blank-trees-legal below) (blank-trees-legal after)

-- ---- From words to tokens and trees

-- Words apart in one payload are the same without payloads.
pub without-same : {width items : ℕ} {xs ys : List ℕ} → PayloadApart width items xs ys → map without_payload ys ≡ map without_payload xs
without-same (equal_words e) = ap (map without_payload) e
without-same (one_payload at h p) =
    let f = without_payload in
    let items : map f (p.other ++ p.behind) ≡ map f (p.item ++ p.behind) =
    map-append f p.other p.behind
    ∙ (ap (λ (l : List ℕ). l ++ map f p.behind) p.alike ∙ sym (map-append f p.item p.behind))
    in
    ap (map f) p.second
    ∙ (map-append f p.front (p.other ++ p.behind) ∙ (ap (λ (l : List ℕ). map f p.front ++ l) items
    ∙ (sym (map-append f p.front (p.item ++ p.behind)) ∙ ap (map f) (sym p.first))))

pub other-wide : {width at : ℕ} {xs ys : List ℕ} (p : PayloadAt width at xs ys) → length p.other ≡ width
other-wide p = sym (length-map p.other without_payload) ∙ (ap length p.alike ∙ (length-map p.item without_payload ∙ p.wide))

-- So their tokens are the same but for payloads, and their trees.
pub list-blank : {width items : ℕ} (ks ls : List Token) → LegalTokens ks → LegalTokens ls → AtEnds ks → AtEnds ls
    → PayloadApart width items (list_words ks) (list_words ls)
    → tokens_for blank ks ≡ tokens_for blank ls
list-blank ks ls h g d e p =
    sym (tokens-back (tokens_for blank ks) (blank-tokens-legal h) (blank-ends ks d))
    ∙ (ap tokens_of (sym (blank-list h) ∙ sym (without-same p) ∙ blank-list g)
    ∙ tokens-back (tokens_for blank ls) (blank-tokens-legal g) (blank-ends ls e))

pub trees-blank : {width items : ℕ} (f g : Forest) → LegalTrees f → LegalTrees g → PayloadApart width items (tree_words f) (tree_words g)
    → relabelled blank f ≡ relabelled blank g
trees-blank f g h i p =
    sym (trees-back (relabelled blank f) (blank-trees-legal h))
    ∙ (ap trees_of (sym (blank-trees h) ∙ sym (without-same p) ∙ blank-trees i) ∙ trees-back (relabelled blank g) (blank-trees-legal i))

-- ---- In how many tokens and nodes

pub apart-itself : (k : Token) → apart k k ≡ 0
apart-itself k = unfold apart in rw (eq-eqb k.variant k.variant refl, eq-eqb k.value k.value refl, apart) refl

apart-one : (k l : Token) → apart k l ≤ 1
unfolding apart
apart-one k l = either (λ (n : ℕ). n ≤ 1) (eqb k.variant l.variant && eqb k.value l.value) 0 1 (omega arith) (omega arith)

pub list-itself : (ks : List Token) → tokens_apart ks ks ≡ 0
unfolding tokens_apart
list-itself [] = refl
list-itself (k ∷ ks) = omega (arith, apart-itself k, list-itself ks)

-- R reads one token off `width` words, whatever follows.
abbrev Takes : ℕ → (List ℕ → List Token) → Type 0
Takes width R = (ws : List ℕ) → length ws ≡ width → (k : Token) × ((r : List ℕ) → R (ws ++ r) ≡ k ∷ R r)

-- Where one item differs, what is read differs in one token at most.
item-apart : (width : ℕ) (R : List ℕ → List Token) → Takes width R → (at : ℕ) (front item other behind : List ℕ)
    → length front ≡ width * at
    → length item ≡ width
    → length other ≡ width
    → tokens_apart (R (front ++ (item ++ behind))) (R (front ++ (other ++ behind))) ≤ 1
unfolding tokens_apart
item-apart width R takes zero (w ∷ front) item other behind n i o = absurd (omega (arith, n, mul-zero width))
item-apart width R takes zero [] item other behind n i o =
    let k = takes item i in
    let l = takes other o in
    rw (k.1 behind, l.1 behind) (omega (arith, apart-one k.0 l.0, list-itself (R behind)))
item-apart width R takes (suc at) front item other behind n i o =
    let long : length front ≡ width * at + width = n ∙ mul-suc width at in
    let k = takes (take width front) (length-take width front ∙ (omega arith)) in
    let later = item-apart width R takes at (drop width front) item other behind (length-drop width front ∙ (omega arith)) i o in
    let cut : (r : List ℕ) → R (front ++ r) ≡ k.0 ∷ R (drop width front ++ r) =
    λ r. ap R (ap (λ (l : List ℕ). l ++ r) (sym (take-append-drop width front)) ∙ append_assoc (take width front) (drop width front) r)
    ∙ k.1 (drop width front ++ r)
    in
    rw (cut (item ++ behind), cut (other ++ behind)) (omega (arith, apart-itself k.0))

reads-apart : {width items : ℕ} {xs ys : List ℕ} (R : List ℕ → List Token) → Takes width R → PayloadApart width items xs ys
    → tokens_apart (R xs) (R ys) ≤ 1
reads-apart {xs} R takes (equal_words e) = rw e (omega (arith, list-itself (R xs)))
reads-apart {width} R takes (one_payload at h p) =
    rw (p.first, p.second) (item-apart width R takes at p.front p.item p.other p.behind p.index p.wide (other-wide p))

-- Five words are a token.
token-takes : Takes 5 tokens_of
unfolding tokens_of
token-takes [] n = absurd (omega arith)
token-takes (a ∷ []) n = absurd (omega arith)
token-takes (a ∷ b ∷ []) n = absurd (omega arith)
token-takes (a ∷ b ∷ c ∷ []) n = absurd (omega arith)
token-takes (a ∷ b ∷ c ∷ d ∷ []) n = absurd (omega arith)
token-takes (a ∷ b ∷ c ∷ d ∷ e ∷ []) n = (token_of a b c d e, λ r. refl)
token-takes (a ∷ b ∷ c ∷ d ∷ e ∷ f ∷ ws) n = absurd (omega arith)

-- Lists apart in one payload have tokens that are.
pub list-apart : {items : ℕ} (ks ls : List Token) → LegalTokens ks → LegalTokens ls → AtEnds ks → AtEnds ls
    → PayloadApart 5 items (list_words ks) (list_words ls)
    → tokens_apart ks ls ≤ 1
list-apart ks ls h g d e p = rw (tokens-back ks h d, tokens-back ls g e) at (reads-apart tokens_of token-takes p)

-- The labels of node words, and of trees, before others.
unfoldable labels_of : List ℕ → List Token
labels_of [] = []
labels_of (a ∷ []) = []
labels_of (a ∷ b ∷ []) = []
labels_of (a ∷ b ∷ c ∷ []) = []
labels_of (a ∷ b ∷ c ∷ d ∷ []) = []
labels_of (a ∷ b ∷ c ∷ d ∷ e ∷ []) = []
labels_of (a ∷ b ∷ c ∷ d ∷ e ∷ n ∷ []) = []
labels_of (a ∷ b ∷ c ∷ d ∷ e ∷ n ∷ g ∷ ws) = node_of a b c d e g ∷ labels_of ws

node-takes : Takes 7 labels_of
unfolding labels_of
node-takes [] n = absurd (omega arith)
node-takes (a ∷ []) n = absurd (omega arith)
node-takes (a ∷ b ∷ []) n = absurd (omega arith)
node-takes (a ∷ b ∷ c ∷ []) n = absurd (omega arith)
node-takes (a ∷ b ∷ c ∷ d ∷ []) n = absurd (omega arith)
node-takes (a ∷ b ∷ c ∷ d ∷ e ∷ []) n = absurd (omega arith)
node-takes (a ∷ b ∷ c ∷ d ∷ e ∷ f ∷ []) n = absurd (omega arith)
node-takes (a ∷ b ∷ c ∷ d ∷ e ∷ n ∷ g ∷ []) m = (node_of a b c d e g, λ r. refl)
node-takes (a ∷ b ∷ c ∷ d ∷ e ∷ f ∷ g ∷ w ∷ ws) n = absurd (omega arith)

unfoldable labels : Forest → List Token → List Token
labels nil r = r
labels (node k cs rest) r = k ∷ labels cs (labels rest r)

labels-back : {f : Forest} → LegalTrees f → (ws : List ℕ) → labels_of (tree_words f ++ ws) ≡ labels f (labels_of ws)
unfolding labels_of labels tree_words node_words_of token_words
labels-back no_trees ws = refl
labels-back (legal_tree {k = k} {cs = cs} {rest = rest} h n below after) ws =
    let later : labels_of ((tree_words cs ++ tree_words rest) ++ ws) ≡ labels cs (labels rest (labels_of ws)) =
    rw (append_assoc (tree_words cs) (tree_words rest) ws)
    (labels-back below (tree_words rest ++ ws) ∙ ap (labels cs) (labels-back after ws))
    in
    rw (node-back k h, later) refl

-- Trees of one shape whose labels differ in payloads only.
pub data Alike : Forest → Forest → Type 0 where
  both_nil : Alike nil nil
  both_node : {k l : Token} {cs ds rest more : Forest} → blank k ≡ blank l → Alike cs ds → Alike rest more
      → Alike (node k cs rest) (node l ds more)

pub alike : (f g : Forest) → relabelled blank f ≡ relabelled blank g → Alike f g
unfolding relabelled
alike nil nil e = both_nil
alike nil (node l ds more) e = let z : ◌≡◌ {A = ℕ} 0 1 = cc in absurd (omega arith)
alike (node k cs rest) nil e = let z : ◌≡◌ {A = ℕ} 0 1 = cc in absurd (omega arith)
alike (node k cs rest) (node l ds more) e =
    let here : blank k ≡ blank l = cc in
    let below : relabelled blank cs ≡ relabelled blank ds = cc in
    let after : relabelled blank rest ≡ relabelled blank more = cc in
    both_node here (alike cs ds below) (alike rest more after)

labels_apart : {f g : Forest} → Alike f g → (r s : List Token) → tokens_apart (labels f r) (labels g s) ≡ nodes_apart f g + tokens_apart r s
unfolding labels nodes_apart tokens_apart
labels_apart both_nil r s = omega arith
labels_apart (both_node {rest = rest} {more = more} e below after) r s =
    omega (arith, labels_apart below (labels rest r) (labels more s), labels_apart after r s)

-- Trees apart in one payload have nodes that are.
pub trees-apart : {items : ℕ} (f g : Forest) → LegalTrees f → LegalTrees g → PayloadApart 7 items (tree_words f) (tree_words g)
    → nodes_apart f g ≤ 1
unfolding tokens_apart labels_of
trees-apart f g h i p =
    let one = reads-apart labels_of node-takes p in
    let x : labels_of (tree_words f) ≡ labels f [] = ap labels_of (sym (append-nil (tree_words f))) ∙ labels-back h [] in
    let y : labels_of (tree_words g) ≡ labels g [] = ap labels_of (sym (append-nil (tree_words g))) ∙ labels-back i [] in
    let same = labels_apart (alike f g (trees-blank f g h i p)) [] [] in
    omega (arith, rw (x, y) at one)

-- ---- From tokens and trees to words

-- Labels that differ in payloads only and are not apart are the same.
token-same : (k l : Token) → blank k ≡ blank l → apart k l ≡ 0 → k ≡ l
unfolding apart blank
token-same k l e n = by (eqb k.variant l.variant && eqb k.value l.value) refl n
  where
    by : (b : Bool) → (eqb k.variant l.variant && eqb k.value l.value) ≡ b
        → ◌≡◌ {A = ℕ} (elim b [ true ↦ 0 | false ↦ 1 ]) 0
        → k ≡ l
    by false h z = absurd (omega arith)
    by true h z =
        let t = both (eqb k.variant l.variant) (eqb k.value l.value) h in
        let variant = eqb-true k.variant l.variant t.0 in
        let value = eqb-true k.value l.value t.1 in
        λ i. record {
          op = (e i).op;
          variant = variant i;
          value = value i;
          start = (e i).start;
          end = (e i).end;
          close = (e i).close;
        }

list_same : (ks ls : List Token) → tokens_for blank ks ≡ tokens_for blank ls → tokens_apart ks ls ≡ 0 → ks ≡ ls
unfolding tokens_apart tokens_for
list_same [] [] e n = refl
list_same [] (l ∷ ls) e n = let z : ◌≡◌ {A = ℕ} 0 1 = cc in absurd (omega arith)
list_same (k ∷ ks) [] e n = let z : ◌≡◌ {A = ℕ} 0 1 = cc in absurd (omega arith)
list_same (k ∷ ks) (l ∷ ls) e n =
    let here : blank k ≡ blank l = cc in
    let after : tokens_for blank ks ≡ tokens_for blank ls = cc in
    let first = token-same k l here (omega arith) in
    let later = list_same ks ls after (omega arith) in
    rw (first, later) refl

trees-same : {f g : Forest} → Alike f g → nodes_apart f g ≡ 0 → f ≡ g
unfolding nodes_apart
trees-same both_nil n = refl
trees-same (both_node {k = k} {l = l} e below after) n =
    rw (token-same k l e (omega arith), trees-same below (omega arith), trees-same after (omega arith)) refl

module _ {width : ℕ} where
  -- Whole items in front, words behind, and more items to count.
  pub in-front : {items : ℕ} {xs ys : List ℕ} (m : ℕ) (front : List ℕ) → length front ≡ width * m → PayloadApart width items xs ys
      → PayloadApart width (m + items) (front ++ xs) (front ++ ys)
  in-front m front n (equal_words e) = equal_words (ap (λ (l : List ℕ). front ++ l) e)
  in-front m front n (one_payload at h p) =
      let long = length-append front p.front in
      one_payload (m + at) (omega arith)
      (record {
        front = front ++ p.front;
        item = p.item;
        other = p.other;
        behind = p.behind;
        first = ap (λ (l : List ℕ). front ++ l) p.first ∙ sym (append_assoc front p.front (p.item ++ p.behind));
        second = ap (λ (l : List ℕ). front ++ l) p.second ∙ sym (append_assoc front p.front (p.other ++ p.behind));
        index = omega (arith, p.index, mul-add width m at);
        wide = p.wide;
        alike = p.alike;
      })

  pub before : {items : ℕ} {xs ys : List ℕ} (rest : List ℕ) → PayloadApart width items xs ys
      → PayloadApart width items (xs ++ rest) (ys ++ rest)
  before rest (equal_words e) = equal_words (ap (λ (l : List ℕ). l ++ rest) e)
  before rest (one_payload at h p) =
      one_payload at h
      (record {
        front = p.front;
        item = p.item;
        other = p.other;
        behind = p.behind ++ rest;
        first = ap (λ (l : List ℕ). l ++ rest) p.first ∙ regroup p.item;
        second = ap (λ (l : List ℕ). l ++ rest) p.second ∙ regroup p.other;
        index = p.index;
        wide = p.wide;
        alike = p.alike;
      })
    where
      regroup : (item : List ℕ) → (p.front ++ (item ++ p.behind)) ++ rest ≡ p.front ++ (item ++ (p.behind ++ rest))
      regroup item = simp append_assoc

  pub of-more : {items more : ℕ} {xs ys : List ℕ} → items ≤ more → PayloadApart width items xs ys → PayloadApart width more xs ys
  of-more b (equal_words e) = equal_words e
  of-more b (one_payload at h p) = one_payload at (omega arith) p

  -- One item that differs, before the same words.
  item-first : (item other rest : List ℕ) → length item ≡ width → map without_payload other ≡ map without_payload item
      → PayloadApart width 1 (item ++ rest) (other ++ rest)
  item-first item other rest n e =
      one_payload 0 (omega arith)
      (record {
        front = [];
        item = item;
        other = other;
        behind = rest;
        first = refl;
        second = refl;
        index = sym (mul-zero width);
        wide = n;
        alike = e;
      })

-- Legal tokens that are apart in one payload at most have words that are.
pub list-words : {ks ls : List Token} → LegalTokens ks → LegalTokens ls → tokens_for blank ks ≡ tokens_for blank ls → tokens_apart ks ls ≤ 1
    → PayloadApart 5 (length ks) (list_words ks) (list_words ls)
unfolding tokens_apart tokens_for list_words
list-words no_tokens no_tokens e n = equal_words refl
list-words no_tokens (token i is) e n = let z : ◌≡◌ {A = ℕ} 0 1 = cc in absurd (omega arith)
list-words (token h hs) no_tokens e n = let z : ◌≡◌ {A = ℕ} 0 1 = cc in absurd (omega arith)
list-words (token {k = k} {ks = ks} h hs) (token {k = l} {ks = ls} i is) e n =
    let here : blank k ≡ blank l = cc in
    let after : tokens_for blank ks ≡ tokens_for blank ls = cc in
    by here after (apart k l) refl (list-words hs is after)
  where
    by : blank k ≡ blank l → tokens_for blank ks ≡ tokens_for blank ls → (a : ℕ) → apart k l ≡ a
        → (tokens_apart ks ls ≤ 1 → PayloadApart 5 (length ks) (list_words ks) (list_words ls))
        → PayloadApart 5 (suc (length ks)) (token_words k ++ list_words ks) (token_words l ++ list_words ls)
    by here after zero a later =
        rw (← token-same k l here a)
        (of-more (omega arith) (in-front 1 (token_words k) (unfold token_words in refl) (later (omega arith))))
    by here after (suc a) b later =
        rw (← list_same ks ls after (omega arith))
        (of-more (omega arith) (item-first (token_words k) (token_words l) (list_words ks) (unfold token_words in refl)
        (blank-words l i ∙ ap token_words (sym here) ∙ sym (blank-words k h))))

alike-count : {f g : Forest} → Alike f g → count g ≡ count f
unfolding count
alike-count both_nil = refl
alike-count (both_node e below after) = ap suc (alike-count after)

-- Legal trees that are.
pub trees-words : {f g : Forest} → Alike f g → LegalTrees f → LegalTrees g → nodes_apart f g ≤ 1
    → PayloadApart 7 (size f) (tree_words f) (tree_words g)
unfolding tree_words size nodes_apart
trees-words both_nil no_trees no_trees n = equal_words refl
trees-words (both_node {k = k} {l = l} {cs = cs} {ds = ds} {rest = rest} {more = more} e below after) (legal_tree h p hb ha)
    (legal_tree i q ib ia) n =
    by (apart k l) (nodes_apart cs ds) refl refl (trees-words below hb ib) (trees-words after ha ia)
  where
    by : (a b : ℕ) → apart k l ≡ a → nodes_apart cs ds ≡ b
        → (nodes_apart cs ds ≤ 1 → PayloadApart 7 (size cs) (tree_words cs) (tree_words ds))
        → (nodes_apart rest more ≤ 1 → PayloadApart 7 (size rest) (tree_words rest) (tree_words more))
        → PayloadApart 7 (1 + size cs + size rest) (node_words_of k (count cs) ++ (tree_words cs ++ tree_words rest))
        (node_words_of l (count ds) ++ (tree_words ds ++ tree_words more))
    by zero zero a b kids others =
        rw (← token-same k l e a, ← trees-same below b)
        (of-more (omega arith)
        (in-front 1 (node_words_of k (count cs)) (unfold node_words_of token_words in refl)
        (in-front (size cs) (tree_words cs) (tree_words-length cs) (others (omega arith)))))
    by zero (suc b) a c kids others =
        rw (← token-same k l e a, ← trees-same after (omega arith), alike-count below)
        (of-more (omega arith)
        (in-front 1 (node_words_of k (count cs)) (unfold node_words_of token_words in refl) (before (tree_words rest) (kids (omega arith)))))
    by (suc a) b c d kids others =
        rw (← trees-same below (omega arith), ← trees-same after (omega arith))
        (of-more (omega arith)
        (item-first (node_words_of k (count cs)) (node_words_of l (count cs)) (tree_words cs ++ tree_words rest)
        (unfold node_words_of token_words in refl)
        (blank-node l (count cs) i (rw (alike-count below) at q) ∙ ap (λ (t : Token). node_words_of t (count cs)) (sym e)
        ∙ sym (blank-node k (count cs) h p))))
