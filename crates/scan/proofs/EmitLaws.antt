-- The words of records: one label by its form; a record more behind others; and that they are the words of the trees that the records
-- stand for, if the list's words are legal.
use Prim.Native.Nat.{ℕ, zero, suc, ◌+◌, ◌*◌, ◌-◌, ◌≤◌, ◌<◌}
use mathlib.Core.{Path.{◌≡◌, refl, ap, sym, ◌∙◌}, List.{List, [], ◌∷◌, ◌++◌, append_assoc, append-nil}}
use native.Mathlib.{Omega.{arith}}
use lib.{ListN.{length, get_or, take, drop, length-drop}, Seq.{take-suc, get_or-drop, length-take-le}}
use Rattle.molang.specs.Parse.{in_front}
use Rattle.words.{specs.Records.{laid_at}, specs.declared.tokens.TokenWords.{TokenWords}}
use Rattle.words.proofs.RecordLaws.{laid-after, laid-length}
use Rattle.scan.specs.Emit.{renamed_words, label_words, words_of_record, words_of_records}

-- The last form.
pub label-other : (n : ℕ) (k : TokenWords) → 3 < n → label_words n k ≡ renamed_words 63 k
unfolding label_words
label-other zero k h = absurd (omega arith)
label-other (suc zero) k h = absurd (omega arith)
label-other (suc (suc zero)) k h = absurd (omega arith)
label-other (suc (suc (suc zero))) k h = absurd (omega arith)
label-other (suc (suc (suc (suc n)))) k h = refl

-- A node is seven words, and laying them leaves the buffer as long as it was.
pub record-kept : (list tree : List ℕ) (w to : ℕ) → to + 7 ≤ length tree → length (laid_at to (words_of_record list w) tree) ≡ length tree
unfolding words_of_record
record-kept list tree w to room = laid-length to (words_of_record list w) tree room

pub records-long : (list ws : List ℕ) → length (words_of_records list ws) ≡ 7 * length ws
unfolding words_of_records words_of_record
records-long list [] = refl
records-long list (w ∷ ws) = let i = records-long list ws in omega arith

-- A record more.
pub records-more : (list ws : List ℕ) (w : ℕ) → words_of_records list (ws ++ (w ∷ [])) ≡ words_of_records list ws ++ words_of_record list w
unfolding words_of_records
records-more list [] w = append-nil (words_of_record list w)
records-more list (v ∷ ws) w =
    ap (λ (l : List ℕ). words_of_record list v ++ l) (records-more list ws w)
    ∙ sym (append_assoc (words_of_record list v) (words_of_records list ws) (words_of_record list w))

-- ---- the loop

module _ (list W tree₀ : List ℕ) (from : ℕ) where
  -- The buffer after the records from `from` up to r.
  unfoldable pub emitted : ℕ → List ℕ
  emitted r = in_front (words_of_records list (take (r - from) (drop from W))) tree₀

  pub none_emitted : tree₀ ≡ emitted from
  unfolding emitted in_front words_of_records
  none_emitted = let e : from - from ≡ 0 = omega arith in rw e refl

  pub one-emitted : (r to : ℕ) → from ≤ r → r < length W → to ≡ 7 * (r - from)
      → laid_at to (words_of_record list (get_or W r 0)) (emitted r) ≡ emitted (r + 1)
  unfolding emitted
  one-emitted r to a b e =
      let R = drop from W in
      let i = r - from in
      let long = length-drop from W in
      let few = length-take-le i R (omega (arith, long)) in
      let many : to ≡ length (words_of_records list (take i R)) = e ∙ sym (records-long list (take i R) ∙ ap (λ (n : ℕ). 7 * n) few) in
      let there : from + i ≡ r = omega (arith, a) in
      let here : get_or R i 0 ≡ get_or W r 0 = get_or-drop from W i 0 ∙ ap (λ (n : ℕ). get_or W n 0) there in
      let more : r + 1 - from ≡ suc i = omega (arith, a) in
      let next : take (r + 1 - from) R ≡ take i R ++ (get_or W r 0 ∷ []) =
      ap (λ (n : ℕ). take n R) more ∙ take-suc R i 0 (omega (arith, long)) ∙ ap (λ (w : ℕ). take i R ++ (w ∷ [])) here
      in
      rw (many, next, records-more list (take i R) (get_or W r 0)) (laid-after (words_of_records list (take i R)) (words_of_record list (get_or W r 0)) tree₀)

  pub all-emitted : (r : ℕ) → r ≡ length W → emitted r ≡ in_front (words_of_records list (drop from W)) tree₀
  unfolding emitted
  all-emitted r e =
      let long = length-drop from W in
      ap (λ (ws : List ℕ). in_front (words_of_records list ws) tree₀) (take_whole (drop from W) (r - from) (omega (arith, e, long)))
    where
      take_whole : (l : List ℕ) (n : ℕ) → n ≡ length l → take n l ≡ l
      take_whole [] zero h = refl
      take_whole [] (suc n) h = refl
      take_whole (x ∷ l) zero h = absurd (omega arith)
      take_whole (x ∷ l) (suc n) h = ap (λ (r : List ℕ). x ∷ r) (take_whole l n (omega arith))
