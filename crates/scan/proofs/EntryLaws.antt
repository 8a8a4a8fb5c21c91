-- The node that a record of each kind stands for, and what the words of operators become.
use Prim.Native.Nat.{ℕ, ◌+◌, ◌*◌, ◌/◌, ◌%◌, ◌<◌}
use mathlib.Core.{Path.{◌≡◌, refl, ap, ap₂, ◌∙◌}, Bool.{Bool, true, false, true≢false, false≢true}, List.{List}}
use native.Mathlib.Omega.{arith}
use borrow.Author.Tests.{lt-ltb, le-ltb}
use Rattle.molang.specs.Operator
use Rattle.molang.specs.Forest.{Token, renamed, bare, closed_by}
use Rattle.scan.specs.{Records.{is_section, token_place, closer_place, children_of, form_of}, Entries.{token_at, label_of, record_entry}}
use Rattle.scan.proofs.{Frames.{placed}, Settling.{Operates, Pairs}}

-- The record of a closed section.
abbrev pub section_record : ℕ → ℕ → ℕ → ℕ
section_record at closer child = 2147483648 + 1073741824 * child + closer * 32768 + at

-- That of any other node.
abbrev pub node_record : ℕ → ℕ → ℕ → ℕ
node_record at form count = 262144 * count + 32768 * form + at

first : (b : Bool) (s l : Token) → b ≡ true → elim b [ true ↦ s | false ↦ l ] ≡ s
first true s l e = refl
first false s l e = absurd (false≢true e)

second : (b : Bool) (s l : Token) → b ≡ false → elim b [ true ↦ s | false ↦ l ] ≡ l
second true s l e = absurd (true≢false e)
second false s l e = refl

module _ (T : List Token) (at : ℕ) (a : at < 32768) where
  module _ (form count : ℕ) (f : form < 8) (c : count < 8192) where
    no-section : is_section (node_record at form count) ≡ false
    unfolding is_section
    no-section = le-ltb 2147483647 (node_record at form count) (omega (arith, a, f, c))

    node-place : token_place (node_record at form count) ≡ at
    unfolding token_place
    node-place = omega (arith, a)

    node-form : form_of (node_record at form count) ≡ form
    unfolding form_of
    node-form = rw (no-section, form_of) (omega (arith, a, f, c))

    node-children : children_of (node_record at form count) ≡ count
    unfolding children_of
    node-children = rw (no-section, children_of) (omega (arith, a, f, c))

    pub node-entry : record_entry T (node_record at form count) ≡ placed (label_of form (token_at T at)) count
    unfolding record_entry
    node-entry =
        ap₂ (λ (l : Token) (n : ℕ). placed l n)
        (second (is_section (node_record at form count)) _ _ no-section
        ∙ ap₂ (λ (n : ℕ) (q : ℕ). label_of n (token_at T q)) node-form node-place)
        node-children

  pub leaf-entry : record_entry T at ≡ placed (token_at T at) 0
  unfolding label_of
  leaf-entry = let e : at ≡ node_record at 0 0 = omega arith in ap (record_entry T) e ∙ node-entry 0 0 (omega arith) (omega arith)

  pub over-entry : record_entry T (at + 262144) ≡ placed (token_at T at) 1
  unfolding label_of
  over-entry =
      let e : at + 262144 ≡ node_record at 0 1 = omega arith in ap (record_entry T) e ∙ node-entry 0 1 (omega arith) (omega arith)

  pub minus-entry : record_entry T (at + 327680) ≡ placed (bare Operator.negate (token_at T at)) 1
  unfolding label_of
  minus-entry =
      let e : at + 327680 ≡ node_record at 2 1 = omega arith in ap (record_entry T) e ∙ node-entry 2 1 (omega arith) (omega arith)

  module _ (closer child : ℕ) (c : closer < 32768) (d : child < 2) where
    a-section : is_section (section_record at closer child) ≡ true
    unfolding is_section
    a-section = lt-ltb 2147483647 (section_record at closer child) (omega arith)

    pub section-entry : record_entry T (section_record at closer child) ≡ placed (closed_by (token_at T closer) (token_at T at)) child
    unfolding record_entry token_place closer_place children_of
    section-entry =
        let w = section_record at closer child in
        let p : token_place w ≡ at = omega (arith, a) in
        let h : w / 32768 ≡ 65536 + 32768 * child + closer = omega (arith, a) in
        let m : (65536 + 32768 * child + closer) % 32768 ≡ closer = omega (arith, c) in
        let q : closer_place w ≡ closer = rw (a-section, closer_place) (ap (λ (n : ℕ). n % 32768) h ∙ m) in
        let i : w / 1073741824 ≡ 2 + child = omega (arith, a, c) in
        let j : (2 + child) % 2 ≡ child = omega (arith, d) in
        let n : children_of w ≡ child = rw (a-section, children_of) (ap (λ (n : ℕ). n % 2) i ∙ j) in
        ap₂ (λ (l : Token) (n : ℕ). placed l n)
        (first (is_section w) _ _ a-section ∙ ap₂ (λ (i j : ℕ). closed_by (token_at T i) (token_at T j)) q p) n

  -- The word of an operator that is what its token says.
  pub operates : (g : ℕ) → Operates T (at + (524288 + g * 134217728)) g (token_at T at)
  unfolding label_of
  operates g =
      let half : (at + (524288 + g * 134217728)) / 67108864 ≡ 2 * g = omega (arith, a) in
      let even : 2 * g % 2 ≡ 0 = omega arith in
      let low : (at + (524288 + g * 134217728)) % 67108864 ≡ node_record at 0 2 = omega (arith, a) in
      record {
        grade = omega (arith, a);
        plain = ap (λ (n : ℕ). n % 2) half ∙ even;
        entry = ap (record_entry T) low ∙ node-entry 0 2 (omega arith) (omega arith);
      }

  -- That of a minus that is a plus.
  pub operates-minus : (g : ℕ) → Operates T (at + (557056 + g * 134217728)) g (renamed Operator.add (token_at T at))
  unfolding label_of
  operates-minus g =
      let half : (at + (557056 + g * 134217728)) / 67108864 ≡ 2 * g = omega (arith, a) in
      let even : 2 * g % 2 ≡ 0 = omega arith in
      let low : (at + (557056 + g * 134217728)) % 67108864 ≡ node_record at 1 2 = omega (arith, a) in
      record {
        grade = omega (arith, a);
        plain = ap (λ (n : ℕ). n % 2) half ∙ even;
        entry = ap (record_entry T) low ∙ node-entry 1 2 (omega arith) (omega arith);
      }

  -- That of a `:` that waits for its `?`.
  pub pairs-word : Pairs T (at + 67633152) (token_at T at)
  unfolding label_of
  pairs-word =
      let low : (at + 67633152) % 67108864 ≡ node_record at 0 2 = omega (arith, a) in
      record { grade = omega (arith, a); entry = ap (record_entry T) low ∙ node-entry 0 2 (omega arith) (omega arith) }
