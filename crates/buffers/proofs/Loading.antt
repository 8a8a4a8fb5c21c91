-- Loading: what one token's stores leave, the loop over the tokens, and THE LOADED LIST (`load-done`): leaves in three slots each are the
-- forest of the list's tokens, since a list without fault is the words of its tokens.
use Prim.Native.Nat.{ℕ, zero, suc, ◌+◌, ◌*◌, ◌/◌, ◌%◌, ◌^◌, ◌≤◌, ◌<◌}
use mathlib.Core.{Path.{◌≡◌, refl, sym, ap, ap₂, ◌∙◌}, Logic.{◌≢◌, ◌⊎◌, inl, inr}, List.{List, [], ◌∷◌, ◌++◌}}
use native.Mathlib.{Omega.{arith}, Nat.{add-zero, le_refl}}
use borrow.Author.Count.{below_more}
use lib.{ListN.{length, get_or, drop, set, length-set}, Seq.{get_or-drop, drop-drop}}
use Rattle.molang.specs.{Forest.{Token, nil, leaves}, Words.{word, low_of, operator_bits, token_words, tokens_of, list_words}}
use Rattle.molang.proofs.{Words.{LegalTokens, no_tokens, token, AtEnds, words_back, tokens-end}, ListWords.{list_words-length}}
use Rattle.words.{specs.Fields.{operator_of, half_of, value_of}, proofs.FieldLaws.{same-by-bits}, specs.Tokens.{token_words_at}}
use Rattle.ops.{specs.Classes.{bit_at, in_class, class_table, entry_of}, proofs.ClassLaws.{entry_past, entry-bits}}
use Rattle.nodes.specs.Store.{wd, slot_words, slot_start, slot_end, first_word, classes_word, classes_at, TokenAt, Seg, RepF, ends, InArray}
use Rattle.nodes.{specs.Stored.{stored_of}, specs.Slots.{Laid}, proofs.Runs.{wd-same, wd-other}, proofs.Tokens.{token-of-words, token-op}}
use Rattle.nodes.{proofs.Classes.{notes-leaf}, proofs.Store.{reserve-most, tree-more}, proofs.Trees.{leaf-tree}}
use Rattle.buffers.specs.Load.{token_slots, LeafAt, CanLoadToken, TokenLoaded, CanLoad, Loaded}

-- ---- one token

module _ (list W table : List ℕ) (i stack : ℕ) (p : CanLoadToken list W table i stack) where
  -- The token's words laid down at its slot, and the slot put on the stack.
  pub token-stores : (W1 : List ℕ) (slot n b : ℕ) → slot ≡ 3 * i + 3
      → Laid W slot (stored_of (token_words_at list (5 * i))) n W1
      → b ≡ operator_bits (operator_of (wd list (5 * i))) 0 → n ≡ entry_of table b
      → TokenLoaded list W i stack (set W1 (stack + i) slot)
  token-stores W1 slot n b e v eb noted =
      let op = operator_of (wd list (5 * i)) in
      let entry : n ≡ entry_of class_table op =
      noted ∙ rw (p.classes, eb) (same-by-bits (entry_of class_table) 0 (λ m h. sym (entry_past class_table m (omega arith))) op)
      in
      let bits : (c : ℕ) → bit_at n c ≡ in_class c op = λ c. ap (λ (w : ℕ). bit_at w c) entry ∙ entry-bits op c in
      let s = 3 * i + 3 in
      let u : Laid W s (stored_of (token_words_at list (5 * i))) n W1 = rw e at v in
      let W2 = set W1 (stack + i) slot in
      let below = p.below in
      let other : (j : ℕ) → j ≢ stack + i → wd W2 j ≡ wd W1 j = λ j h. wd-other W1 (stack + i) slot j h in
      let long = u.long in
      let room = p.room in
      let mark : classes_at W2 s ≡ n = other (classes_word s) (omega arith) ∙ u.classes in
      record {
        leaf = record {
          words = λ o h. other (slot_start s + o) (omega arith) ∙ u.words o h;
          first = other (first_word s) (omega arith) ∙ u.first;
          classes = λ c. ap (λ (w : ℕ). bit_at w c) mark ∙ bits c;
        };
        slot = wd-same W1 (stack + i) slot (omega arith) ∙ e;
        same = λ j o h. other j h ∙ u.same j (apart j o);
        long = length-set W1 (stack + i) slot ∙ long;
      }
    where
      apart : (j : ℕ) → (j < 24 * i + 24) ⊎ (24 * i + 32 ≤ j) → (j < slot_start (3 * i + 3)) ⊎ (slot_end (3 * i + 3) ≤ j)
      apart j (inl h) = inl (omega arith)
      apart j (inr h) = inr (omega arith)

-- ---- the loop

pub record LoadAt (list W : List ℕ) (n : ℕ) (Z : List ℕ) (i : ℕ) : Type 0 where
  pub most : i ≤ n
  pub leaf : (j : ℕ) → j < i → LeafAt list Z j
  pub slot : (j : ℕ) → j < i → wd Z (24 * n + 24 + j) ≡ 3 * j + 3
  pub same : (j : ℕ) → j < 24 → wd Z j ≡ wd W j
  pub long : length Z ≡ length W

pub load-start : (list W : List ℕ) (n : ℕ) → LoadAt list W n W 0
load-start list W n =
    record {
      most = omega arith;
      leaf = λ j h. absurd (omega arith);
      slot = λ j h. absurd (omega arith);
      same = λ j h. refl;
      long = refl;
    }

pub load-in : {list W table : List ℕ} {n : ℕ} {Z : List ℕ} {i : ℕ} → CanLoad list W n → LoadAt list W n Z i → i < n → table ≡ class_table
    → CanLoadToken list Z table i (24 * n + 24)
load-in p v h e =
    record {
      classes = e;
      few = omega (arith, p.few);
      within = omega (arith, p.tokens);
      below = omega arith;
      room = omega (arith, p.room, v.long);
    }

leaf-keep : (list Z Z' : List ℕ) (j : ℕ) → ((o : ℕ) → o < slot_words → wd Z' (slot_start (3 * j + 3) + o) ≡ wd Z (slot_start (3 * j + 3) + o))
    → LeafAt list Z j → LeafAt list Z' j
leaf-keep list Z Z' j h v =
    record {
      words = λ o b. h o (omega arith) ∙ v.words o b;
      first = h 5 (omega arith) ∙ v.first;
      classes = λ c. ap (λ (w : ℕ). bit_at w c) (h 7 (omega arith)) ∙ v.classes c;
    }

pub load_step : {list W : List ℕ} {n : ℕ} {Z : List ℕ} {i : ℕ} {Z' : List ℕ} → LoadAt list W n Z i → i < n
    → TokenLoaded list Z i (24 * n + 24) Z'
    → LoadAt list W n Z' (i + 1)
load_step {list} {W} {n} {Z} {i} {Z'} v h w =
    record {
      most = omega arith;
      leaf = below_more (λ (j : ℕ). LeafAt list Z' j) i
          (λ j b. leaf-keep list Z Z' j (λ o c. w.same (slot_start (3 * j + 3) + o) (inl (omega arith)) (omega arith)) (v.leaf j b))
          w.leaf;
      slot = below_more (λ (j : ℕ). wd Z' (24 * n + 24 + j) ≡ 3 * j + 3) i
          (λ j b. w.same (24 * n + 24 + j) (inr (omega arith)) (omega arith) ∙ v.slot j b) w.slot;
      same = λ j b. w.same j (inl (omega arith)) (omega arith) ∙ v.same j b;
      long = w.long ∙ v.long;
    }

-- ---- the loaded list

slots-seg : (W : List ℕ) (at i n : ℕ) → ((j : ℕ) → j < n → wd W (at + j) ≡ 3 * (i + j) + 3) → Seg W at (token_slots i n)
unfolding token_slots
slots-seg W at i zero h = tt
slots-seg W at i (suc n) h =
    let here : wd W at ≡ 3 * i + 3 = rw (add-zero at, add-zero i) at (h 0 (omega arith)) in
    let later : (j : ℕ) → j < n → wd W (at + 1 + j) ≡ 3 * (suc i + j) + 3
    = λ j b. let e : at + 1 + j ≡ at + suc j = omega arith in rw e (h (suc j) (omega arith) ∙ omega arith) in
    (here, slots-seg W (at + 1) (suc i) n later)

pub slots_length : (i n : ℕ) → length (token_slots i n) ≡ n
unfolding token_slots
slots_length i zero = refl
slots_length i (suc n) = ap suc (slots_length (suc i) n)

-- The words of a value's two halves give it back, and a token of a list closes at its end.
halves-back : (v : ℕ) → v < 2 ^ 32 → value_of (word 4 (v / 2 ^ 16)) (word 5 (v % 2 ^ 16)) ≡ v
halves-back v h = unfold value_of half_of low_of word in omega arith

end_back : (e c : ℕ) → e < 2 ^ 29 → c ≡ e → word 7 (low_of (word 3 e)) ≡ word 7 c
end_back e c h same = unfold low_of word in omega arith

-- A leaf at its slot is the token k where the list's words from there on begin with those of k, and k closes at its end.
leaf-token : (list W : List ℕ) (i : ℕ) (k : Token) (ks : List Token) → drop (5 * i) list ≡ list_words (k ∷ ks) → LegalTokens (k ∷ ks)
    → k.close ≡ k.end → LeafAt list W i
    → TokenAt W (3 * i + 3) k
unfolding list_words token_words
leaf-token list W i k ks e (token legal later) close v =
    let here : (o : ℕ) → wd list (5 * i + o) ≡ get_or (token_words k ++ list_words ks) o 0
    = λ o. sym (get_or-drop (5 * i) list o 0) ∙ ap (λ (l : List ℕ). get_or l o 0) e in
    token-of-words
    (rw add-zero at (v.words 0 (omega arith)) ∙ rw add-zero at (here 0))
    (v.words 1 (omega arith) ∙ here 1)
    (v.words 2 (omega arith) ∙ here 2)
    (v.words 3 (omega arith) ∙ ap₂ value_of (here 3) (here 4) ∙ halves-back k.value legal.value)
    (v.words 4 (omega arith) ∙ ap (λ (w : ℕ). word 7 (low_of w)) (here 2) ∙ end_back k.end k.close legal.end close)
    legal

drop_token : (list : List ℕ) (i : ℕ) (k : Token) (ks : List Token) → drop (5 * i) list ≡ list_words (k ∷ ks)
    → drop (5 * suc i) list ≡ list_words ks
unfolding list_words token_words
drop_token list i k ks e =
    let g : 5 * suc i ≡ 5 * i + 5 = omega arith in
    rw g (sym (drop-drop 5 (5 * i) list) ∙ ap (λ (l : List ℕ). drop 5 l) e)

tokens-rep : (list W : List ℕ) (i : ℕ) (ks : List Token) → drop (5 * i) list ≡ list_words ks → LegalTokens ks → AtEnds ks
    → ((j : ℕ) → j < i + length ks → LeafAt list W j)
    → RepF W (0 ∷ []) (token_slots i (length ks)) (3 * i + 3) (3 * (i + length ks) + 3) (leaves ks)
unfolding token_slots leaves
tokens-rep list W i [] e no_tokens closes h = let g : 3 * i + 3 ≤ 3 * (i + 0) + 3 = omega arith in ends g
tokens-rep list W i (k ∷ ks) e (token legal later) closes h =
    let b = 3 * i + 3 in
    let v = h i (omega arith) in
    let t = leaf-token list W i k ks e (token legal later) closes.0 v in
    let most = reserve-most k nil in
    let op : operator_of (wd list (5 * i)) ≡ k.op
    = ap operator_of (sym (rw (add-zero (slot_start b)) at (v.words 0 (omega arith)))) ∙ token-op t in
    let leaf = leaf-tree {W = W} {X = 0 ∷ []} {b = b} {l = b} {m = 3 * suc i + 3} {t = k} (le_refl b) (omega arith) (omega arith)
    (λ s x y. (omega arith, tt)) t
    (notes-leaf (λ c x. v.classes c ∙ ap (λ (o : ℕ). in_class c o) op)) v.first in
    let g : 3 * (i + suc (length ks)) + 3 ≡ 3 * (suc i + length ks) + 3 = omega arith in
    rw g (tree-more (le_refl b) leaf (tokens-rep list W (suc i) ks (drop_token list i k ks e) later closes.1 (λ j x. h j (omega arith))))

pub load-done : {list W : List ℕ} {n : ℕ} {Z : List ℕ} {i : ℕ} → CanLoad list W n → LoadAt list W n Z i → n ≤ i → Loaded list W n Z
load-done {list} {W} {n} {Z} {i} p v h =
    let ks = tokens_of list in
    let whole = words_back 0 0 list p.faultless (omega (arith, p.tokens)) in
    let count : length ks ≡ n = omega (arith, list_words-length ks, ap length whole.0, p.tokens) in
    let rep = tokens-rep list Z 0 ks (sym whole.0) whole.1 (tokens-end list) (λ j x. v.leaf j (omega arith)) in
    let here : RepF Z (0 ∷ []) (token_slots 0 (length ks)) 3 (3 * (0 + length ks) + 3) (leaves ks) = rep in
    let z : 0 + length ks ≡ n = omega arith in
    record {
      seg = slots-seg Z (24 * n + 24) 0 n (λ j x. v.slot j (omega arith) ∙ omega arith);
      rep = rw (z, count) at here;
      same = v.same;
      long = v.long;
    }

-- What is loaded is a list under work.
pub loaded-array : {list W : List ℕ} {n : ℕ} {W' : List ℕ} → Loaded list W n W'
    → InArray W' (0 ∷ []) (24 * n + 24) n 3 (3 * n + 3) (leaves (tokens_of list))
loaded-array {n = n} v = record { bs = token_slots 0 n; seg = v.seg; count = sym (slots_length 0 n); rep = v.rep }
