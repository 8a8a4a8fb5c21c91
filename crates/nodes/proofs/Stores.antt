-- Straight-line code, store by store: the words that `set_leaf`, `attach`, `attach_two` and `push` leave. Each list is the one before
-- with one store, or with words laid into it.
use Prim.Native.Nat.{ℕ, zero, suc, ◌+◌, ◌≤◌, ◌<◌}
use mathlib.Core.{Path.{◌≡◌, refl, ap, ap₂, ◌∙◌}, Logic.{◌≢◌}, Bool.{◌||◌}, List.{List, [], ◌∷◌, ◌++◌}}
use native.Mathlib.{Omega.{arith}, Nat.{add-zero}}
use lib.ListN.{length, get_or, set}
use Rattle.words.{specs.Records.{laid_at}, proofs.LaidLaws.{laid-long, laid_in, laid_out, laid_more}}
use Rattle.ops.specs.Classes.{bit_at}
use Rattle.nodes.specs.Store.{wd, first_field, next_field, classes_field, slot_start, slot_end, first_word, next_word, classes_word}
use Rattle.nodes.specs.{Store.{classes_at}, Stored.{stored_list}, Slots.{Laid}, Children.{Attached, AttachedTwo}, Frames.{Pushed}}
use Rattle.nodes.specs.{declared.stored.StoredWords.{StoredWords}, declared.frames.List.{List as WorkList}}
use Rattle.nodes.specs.declared.frames.Held.{Held}
use Rattle.nodes.proofs.Runs.{set_same, set_other, set_long}

module _ (W W1 W2 W3 : List ℕ) (p c x : ℕ) (own : slot_end p ≤ length W) (child : slot_end c ≤ length W)
    (e1 : W1 ≡ set W (first_word p) c) (e2 : W2 ≡ set W1 (next_word c) 0) (ex : x ≡ classes_at W2 c) (e3 : W3 ≡ set W2 (classes_word p) x) where
  pub attach-words : Attached W p c W3
  attach-words =
      let n1 = set_long W W1 (first_word p) c e1 in
      let n2 = set_long W1 W2 (next_word c) 0 e2 in
      let n3 = set_long W2 W3 (classes_word p) x e3 in
      let o1 = set_other W W1 (first_word p) c e1 in
      let o2 = set_other W1 W2 (next_word c) 0 e2 in
      let o3 = set_other W2 W3 (classes_word p) x e3 in
      record {
        first = o3 (first_word p) (omega arith) ∙ o2 (first_word p) (omega arith) ∙ set_same W W1 (first_word p) c e1 (omega arith);
        last = o3 (next_word c) (omega arith) ∙ set_same W1 W2 (next_word c) 0 e2 (omega arith);
        classes =
            set_same W2 W3 (classes_word p) x e3 (omega arith) ∙ ex ∙ o2 (classes_word c) (omega arith) ∙ o1 (classes_word c) (omega arith);
        same = λ j a b d. o3 j d ∙ o2 j b ∙ o1 j a;
        long = n3 ∙ n2 ∙ n1;
      }

module _ (W W1 W2 W3 W4 : List ℕ) (p l r x y z : ℕ) (own : slot_end p ≤ length W) (left : slot_end l ≤ length W)
    (right : slot_end r ≤ length W) (apart : l ≢ r)
    (e1 : W1 ≡ set W (first_word p) l) (e2 : W2 ≡ set W1 (next_word l) r) (e3 : W3 ≡ set W2 (next_word r) 0)
    (ex : x ≡ classes_at W3 l) (ey : y ≡ classes_at W3 r) (ez : (i : ℕ) → bit_at z i ≡ (bit_at x i || bit_at y i))
    (e4 : W4 ≡ set W3 (classes_word p) z) where
  pub attach-two-words : AttachedTwo W p l r W4
  attach-two-words =
      let n1 = set_long W W1 (first_word p) l e1 in
      let n2 = set_long W1 W2 (next_word l) r e2 in
      let n3 = set_long W2 W3 (next_word r) 0 e3 in
      let n4 = set_long W3 W4 (classes_word p) z e4 in
      let o1 = set_other W W1 (first_word p) l e1 in
      let o2 = set_other W1 W2 (next_word l) r e2 in
      let o3 = set_other W2 W3 (next_word r) 0 e3 in
      let o4 = set_other W3 W4 (classes_word p) z e4 in
      let word : classes_at W4 p ≡ z = set_same W3 W4 (classes_word p) z e4 (omega arith) in
      let old : (s : ℕ) → classes_at W3 s ≡ classes_at W s
      = λ s. o3 (classes_word s) (omega arith) ∙ o2 (classes_word s) (omega arith) ∙ o1 (classes_word s) (omega arith) in
      record {
        first =
            o4 (first_word p) (omega arith) ∙ o3 (first_word p) (omega arith) ∙ o2 (first_word p) (omega arith)
            ∙ set_same W W1 (first_word p) l e1 (omega arith);
        next = o4 (next_word l) (omega arith) ∙ o3 (next_word l) (omega arith) ∙ set_same W1 W2 (next_word l) r e2 (omega arith);
        last = o4 (next_word r) (omega arith) ∙ set_same W2 W3 (next_word r) 0 e3 (omega arith);
        classes = λ i. ap (λ (w : ℕ). bit_at w i) word ∙ ez i ∙ ap₂ (λ (a : ℕ) (b : ℕ). bit_at a i || bit_at b i) (ex ∙ old l) (ey ∙ old r);
        same = λ j a b d f. o4 j f ∙ o3 j d ∙ o2 j b ∙ o1 j a;
        long = n4 ∙ n3 ∙ n2 ∙ n1;
      }

-- ---- a whole slot

-- The words of a leaf's slot.
abbrev leaf_words : StoredWords → ℕ → List ℕ
leaf_words k n = k.operator ∷ k.start ∷ k.end ∷ k.value ∷ k.close ∷ 0 ∷ 0 ∷ n ∷ []

module _ (W W1 : List ℕ) (s : ℕ) (k : StoredWords) (n : ℕ) (room : slot_end s ≤ length W)
    (e : W1 ≡ laid_at (slot_start s) (stored_list k) W) where
  laid_leaf : set (set (set W1 (first_word s) 0) (next_word s) 0) (classes_word s) n ≡ laid_at (slot_start s) (leaf_words k n) W
  laid_leaf =
      let at = slot_start s in
      rw
      (e, laid_more (stored_list k) W at 0 (omega arith), laid_more (stored_list k ++ (0 ∷ [])) W at 0 (omega arith))
      (laid_more (stored_list k ++ (0 ∷ 0 ∷ [])) W at n (omega arith))

  pub laid-words : Laid W s k n (set (set (set W1 (first_word s) 0) (next_word s) 0) (classes_word s) n)
  laid-words =
      let ws = leaf_words k n in
      let at = slot_start s in
      let word = laid_in ws W at room in
      rw laid_leaf
      (record {
        words = five;
        first = word first_field (omega arith);
        next = word next_field (omega arith);
        classes = word classes_field (omega arith);
        same = laid_out ws W at room;
        long = laid-long ws W at room;
      })
    where
      five : (i : ℕ) → i < 5 → wd (laid_at (slot_start s) (leaf_words k n) W) (slot_start s + i) ≡ get_or (stored_list k) i 0
      five zero h = laid_in (leaf_words k n) W (slot_start s) room 0 (omega arith)
      five (suc zero) h = laid_in (leaf_words k n) W (slot_start s) room 1 (omega arith)
      five (suc (suc zero)) h = laid_in (leaf_words k n) W (slot_start s) room 2 (omega arith)
      five (suc (suc (suc zero))) h = laid_in (leaf_words k n) W (slot_start s) room 3 (omega arith)
      five (suc (suc (suc (suc zero)))) h = laid_in (leaf_words k n) W (slot_start s) room 4 (omega arith)
      five (suc (suc (suc (suc (suc i))))) h = absurd (omega arith)

-- ---- a frame

-- The words of a frame.
abbrev pub frame_words : WorkList → Held → List ℕ
frame_words l h = l.owner ∷ l.base ∷ l.read ∷ l.write ∷ h.first ∷ h.second ∷ []

module _ (W W' : List ℕ) (l : WorkList) (h : Held) (room : l.base + l.len + 6 ≤ length W)
    (e : W' ≡ laid_at (l.base + l.len) (frame_words l h) W) where
  pub pushed-words : Pushed W l h (l.base + l.len + 6) W'
  pushed-words =
      let ws = frame_words l h in
      let top = l.base + l.len in
      let word = laid_in ws W top room in
      rw e
      (record {
        past = refl;
        frame =
            record {
              above = refl;
              owner-word = rw add-zero at (word 0 (omega arith));
              base_word = word 1 (omega arith);
              read_word = word 2 (omega arith);
              write_word = word 3 (omega arith);
              first-word = word 4 (omega arith);
              second_word = word 5 (omega arith);
            };
        same = laid_out ws W top room;
        long = laid-long ws W top room;
      })
