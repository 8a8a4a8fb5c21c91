-- The open sections in the words: what a change elsewhere keeps, one tree more in the innermost, one section more, and what the marks of
-- the innermost and the outermost name.
use Prim.Native.Nat.{ℕ, ◌+◌, ◌*◌, ◌-◌, ◌≤◌, ◌<◌}
use mathlib.Core.{Path.{◌≡◌, refl, sym, ap, ◌∙◌}, Logic.{◌≢◌, inr}, Bool.{true}, List.{List, [], ◌∷◌}}
use native.Mathlib.{Omega.{arith}, Nat.{le_refl}}
use lib.ListN.{length}
use Rattle.molang.{specs.Forest.{Token, Forest, nil, in_order}, specs.Message.{section_not_closed, no_closing_symbol, ok, fail}}
use Rattle.molang.{specs.Sections.{Open, section, placed, position, outermost, closed}, proofs.OpenCount.{depth_of}}
use Rattle.ops.specs.Operators.{is_opener}
use Rattle.nodes.{specs.Store.{wd, slot_start, TokenAt, RepT}, proofs.Store.{tree-below, back-le, back_count}, proofs.Keeping.{tree-beside}}
use Rattle.sections.specs.Flat.{FlatTells, unclosed, Fails, Written, Opener, Standing, outer, inner, NamedAt, Named}
use Rattle.levels.specs.declared.failure.Fault.TheVariants.{Unclosed as Unclosing}
use Rattle.levels.specs.Failures as failures
use Rattle.levels.specs.declared.failure.Unclosed.{Unclosed}
use Rattle.sections.proofs.SectionWritten.{written_none, written-raise, written-keep, written-put}

-- ---- numbers

-- an opener's interval reaches past it
pub opener-le : {W X : List ℕ} {base marks l m k' w' k i : ℕ} {o : Token} (x : Opener W X base marks l m k' w' k o i)
    → (l ≤ x.q) × (x.q < m)
opener-le x = (x.leaf.low, tree-below x.leaf)

pub standing-le : {W X : List ℕ} {base marks lo hi k w : ℕ} {s : Open} → Standing W X base marks lo hi k w s → lo ≤ hi
standing-le (outer v e) = back-le v.done
standing-le (inner st x v e) = let a = standing-le st in let b = opener-le x in let c = back-le v.done in omega arith

-- each open section's opener is written
pub standing-written : {W X : List ℕ} {base marks lo hi k w : ℕ} {s : Open} → Standing W X base marks lo hi k w s → k ≤ w
standing-written (outer v e) = omega arith
standing-written (inner st x v e) = let a = standing-written st in omega (arith, x.level)

pub standing-depth : {W X : List ℕ} {base marks lo hi k w : ℕ} {s : Open} → Standing W X base marks lo hi k w s → k ≡ depth_of s
unfolding depth_of
standing-depth (outer v e) = e
standing-depth (inner st x v e) = let a = standing-depth st in omega (arith, x.level)

-- the position that the code counts is the definition's
pub standing-position : {W X : List ℕ} {base marks lo hi k w : ℕ} {s : Open} → Standing W X base marks lo hi k w s → (i r : ℕ)
    → (k ≡ 0 → r ≡ w) → (k ≢ 0 → r ≡ i + 1)
    → r ≡ position i s
unfolding position
standing-position (outer v e) i r a b = a e ∙ v.wrote ∙ back_count v.done
standing-position (inner st x v e) i r a b = b (omega (arith, x.level))

-- ---- a change elsewhere

opener-keep : (W W' : List ℕ) {X : List ℕ} {base marks l m k' w' k i : ℕ} {o : Token} → ((j : ℕ) → j < slot_start m → wd W' j ≡ wd W j)
    → wd W' (base + w') ≡ wd W (base + w')
    → wd W' (marks + 2 * k') ≡ wd W (marks + 2 * k') → wd W' (marks + 2 * k' + 1) ≡ wd W (marks + 2 * k' + 1)
    → Opener W X base marks l m k' w' k o i → Opener W' X base marks l m k' w' k o i
opener-keep W W' {m = m} low slot word start x =
    record {
      q = x.q;
      slot = slot ∙ x.slot;
      leaf = tree-beside W W' [] 0 0 (slot_start m) (λ j f h. low j h) (le_refl (slot_start m)) (inr (omega arith)) x.leaf;
      opens = x.opens;
      level = x.level;
      word = word ∙ x.word;
      start = start ∙ x.start;
    }

pub standing-keep : (W W' : List ℕ) {X : List ℕ} {base marks lo hi k w : ℕ} {s : Open} → ((j : ℕ) → j < slot_start hi → wd W' j ≡ wd W j)
    → ((j : ℕ) → base ≤ j → j < base + w → wd W' j ≡ wd W j) → ((j : ℕ) → marks ≤ j → j < marks + 2 * k → wd W' j ≡ wd W j)
    → Standing W X base marks lo hi k w s → Standing W' X base marks lo hi k w s
standing-keep W W' low array mark (outer v e) = outer (written-keep W W' low array v) e
standing-keep W W' {base = base} {marks = marks} low array mark (inner {k' = k'} {w' = w'} st x v e) =
    let b = opener-le x in
    let c = back-le v.done in
    let level = x.level in
    inner (standing-keep W W' (λ j h. low j (omega arith)) (λ j a h. array j a (omega arith)) (λ j a h. mark j a (omega arith)) st)
    (opener-keep W W' (λ j h. low j (omega arith)) (array (base + w') (omega arith) (omega arith))
    (mark (marks + 2 * k') (omega arith) (omega arith))
    (mark (marks + 2 * k' + 1) (omega arith) (omega arith)) x)
    (written-keep W W' low (λ j a h. array j (omega arith) (omega arith)) v)
    e

-- an interval that goes on
pub standing-raise : {W X : List ℕ} {base marks lo hi hi' k w : ℕ} {s : Open} → hi ≤ hi' → Standing W X base marks lo hi k w s
    → Standing W X base marks lo hi' k w s
standing-raise h (outer v e) = outer (written-raise h v) e
standing-raise h (inner st x v e) = inner st x (written-raise h v) e

-- ---- one tree more, one section more

pub standing-placed : {W X : List ℕ} {base marks lo l m k w q : ℕ} {s : Open} {t : Token} {cs : Forest} → Standing W X base marks lo l k w s
    → RepT W X q l m t cs
    → wd W (base + w) ≡ q → Standing W X base marks lo m k (w + 1) (placed t cs s)
unfolding placed
standing-placed (outer v e) t h = outer (written-put v t h) e
standing-placed {base = base} {w = w} (inner {w' = w'} {v = n} st x v e) t h =
    let at : base + (w' + 1) + n ≡ base + w = omega arith in
    let more : w + 1 ≡ w' + 1 + (n + 1) = omega arith in
    inner st x (written-put v t (rw at h)) more

pub standing-open : {W X : List ℕ} {base marks lo l m k w q i : ℕ} {s : Open} {o : Token} → Standing W X base marks lo l k w s
    → RepT W X q l m o nil → is_opener o.op ≡ true
    → wd W (base + w) ≡ q → wd W (marks + 2 * k) ≡ w → wd W (marks + 2 * k + 1) ≡ i
    → Standing W X base marks lo m (k + 1) (w + 1) (section o i nil s)
standing-open {m = m} {k = k} {w = w} {q = q} st t opens slot word start =
    let more : w + 1 ≡ w + 1 + 0 = omega arith in
    inner {k = k + 1} st (record { q = q; slot = slot; leaf = t; opens = opens; level = refl; word = word; start = start })
    (written_none m) more

-- ---- what the marks name

module _ {W X : List ℕ} {base marks l m k' w' k i : ℕ} {o : Token} (x : Opener W X base marks l m k' w' k o i) where
  last : k - 1 ≡ k'
  last = omega (arith, x.level)

  pub innermost-word : wd W (marks + 2 * (k - 1)) ≡ w'
  innermost-word = rw last x.word

  pub innermost-start : wd W (marks + 2 * (k - 1) + 1) ≡ i
  innermost-start = rw last x.start

  pub innermost-slot : wd W (base + wd W (marks + 2 * (k - 1))) ≡ x.q
  innermost-slot = rw innermost-word x.slot

record Outermost (W : List ℕ) (base marks w : ℕ) (t : Token) : Type 0 where
  inside : wd W (marks + 2 * 0) < w
  token : TokenAt W (wd W (base + wd W (marks + 2 * 0))) t

outermost-of : {W X : List ℕ} {base marks lo l m k' w' k w i : ℕ} {s : Open} {o : Token} → Standing W X base marks lo l k' w' s
    → Opener W X base marks l m k' w' k o i → w' < w
    → Outermost W base marks w (outermost o s)
unfolding outermost
outermost-of {W} {marks = marks} {w' = w'} (outer v e) x h =
    let first : wd W (marks + 2 * 0) ≡ w' = ap (λ (n : ℕ). wd W (marks + 2 * n)) (sym e) ∙ x.word in
    record { inside = omega arith; token = rw (first, x.slot) x.leaf.token }
outermost-of {w' = w'} (inner {w' = u} st y v e) x h =
    let below : u < w' = omega arith in
    let r = outermost-of st y below in
    record { inside = omega (arith, r.inside); token = r.token }

pub standing-named : {W X : List ℕ} {base marks lo hi k w : ℕ} {s : Open} → Standing W X base marks lo hi k w s → k ≢ 0
    → base + w ≤ length W → marks + 2 * k ≤ length W
    → NamedAt W base marks k
standing-named (outer v e) n room within = absurd (n e)
standing-named {w = w} (inner {w' = w'} st x v e) n room within =
    let h : w' < w = omega arith in
    record {
      some = omega arith;
      within = within;
      innermost = omega (arith, innermost-word x);
      outermost = omega (arith, (outermost-of st x h).inside);
    }

-- the tokens and the number that the messages give
pub record Names (W : List ℕ) (u : Unclosed) (o : Token) (i : ℕ) (p : Token) : Type 0 where
  pub inner-token : TokenAt W u.inner o
  pub start : u.start ≡ i
  pub outer-token : TokenAt W u.outer p

pub names : {W X : List ℕ} {base marks lo l m k' w' k i : ℕ} {s : Open} {o : Token} {u : Unclosed} → Standing W X base marks lo l k' w' s
    → Opener W X base marks l m k' w' k o i
    → Named W base marks k u → Names W u o i (outermost o s)
names {w' = w'} st x n =
    let h : w' < w' + 1 = omega arith in
    record {
      inner-token = rw (n.inner, innermost-slot x) x.leaf.token;
      start = n.start ∙ innermost-start x;
      outer-token = rw n.outer (outermost-of st x h).token;
    }

-- ---- the end of the list

pub standing-unclosed : {W X : List ℕ} {base marks lo hi k w : ℕ} {s : Open} {u : Unclosed} → Standing W X base marks lo hi k w s → k ≢ 0
    → Named W base marks k u
    → Fails (FlatTells W) (closed s) (Unclosing u)
unfolding closed
standing-unclosed (outer v e) n a = absurd (n e)
standing-unclosed {u = u} (inner {o = o} {s = s} st x v e) n a =
    let b = names st x a in
    record {
      messages = no_closing_symbol o u.start ∷ section_not_closed (outermost o s) ∷ [];
      is = ap (λ (i : ℕ). fail (no_closing_symbol o i ∷ section_not_closed (outermost o s) ∷ [])) (sym b.start);
      told = unclosed (failures.unclosed b.inner-token b.outer-token);
    }

pub standing-outside : {W X : List ℕ} {base marks lo hi k w : ℕ} {s : Open} → Standing W X base marks lo hi k w s → k ≡ 0
    → (d : Forest) × (closed s ≡ ok (in_order d)) × Written W X base lo hi d w
unfolding closed
standing-outside (outer {d = d} v e) z = (d, refl, v)
standing-outside (inner st x v e) z = absurd (omega (arith, x.level))
