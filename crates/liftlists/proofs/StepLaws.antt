-- A word of the file, by the cases of the code. Assumes nothing.
use Prim.Native.Nat.{ℕ, ◌+◌, ◌≤◌, ◌<◌}
use mathlib.Core.{Path.{◌≡◌, refl, ap, sym, ◌∙◌}, Bool.{false}, List.{List, [], ◌∷◌, ◌++◌, append_assoc}}
use native.Mathlib.{Numerals.{add-one}, Omega.{arith}}
use lib.{ListN.{length, take, set, length-append}, Seq.{take-suc-set, take_all, append_snoc}}
use borrow.Author.Tests.{eq-eqb, ne_eqb, le-ltb}
use Rattle.molang.specs.Words.{kind_of}
use Rattle.text.{specs.Text.{Wrote}, proofs.TextLaws.{wrote_none, wrote_then}}
use Rattle.liftlists.specs.{declared.step.Stage.TheVariants.{Passing, InList}, declared.step.Step.{Step}}
use Rattle.liftlists.specs.LiftedFile.{opens_list, is_version_word, file_list, all_words, bytes_of, carried}
use Rattle.liftlists.specs.Steps.{OpenNone, none_kept, ListHeld, Took}
use Rattle.liftlists.proofs.{PutLaws.{bytes-append, bytes-length}, CutLaws.{kept_more, version-opens, passes_on, closes-on, long-on}}

-- WHERE NO LIST IS KEPT: a version opens one,
pub opened-took : (w : ℕ) (out : List ℕ) (at to : ℕ) (list : List ℕ) → w < 65536
    → Took to [] w 4 out at (record { stage = InList w 0; at = at }) list out
unfolding bytes_of
opened-took w out at to list h =
    record {
      gave = [];
      few = omega arith;
      wrote = wrote_none out at;
      fine = record { version = h; few = omega arith; kept = none_kept };
      on = λ rest. refl;
    }

-- and any other word goes through.
pub passed-took : (w : ℕ) {out out' : List ℕ} {at end : ℕ} (to : ℕ) (list : List ℕ) → 65536 ≤ w
    → Wrote out at (bytes_of (w ∷ [])) end out'
    → Took to [] w 4 out at (record { stage = Passing; at = end }) list out'
unfolding is_version_word
passed-took w to list h wrote =
    record {
      gave = w ∷ [];
      few = omega (arith, wrote.ends, bytes-length (w ∷ []));
      wrote = wrote;
      fine = _;
      on = λ rest. passes_on to w rest (le-ltb w 65536 h);
    }

module _ (opener n : ℕ) (list : List ℕ) (held : ListHeld opener n list) (size : length list ≡ 20480) (w to : ℕ) where
  abbrev before : List ℕ
  before = opener ∷ take n list

  not-opening : (kind_of w ≡ 0 → ⊥) → opens_list w ≡ false
  unfolding opens_list
  not-opening h = ne_eqb (kind_of w) 0 h

  -- A WORD OF THE LIST that is kept,
  pub kept-took : (out : List ℕ) (at : ℕ) → (kind_of w ≡ 0 → ⊥) → n < 20480
      → Took to before w 81928 out at (record { stage = InList opener (n + 1); at = at }) (set list n w) out
  unfolding bytes_of
  kept-took out at h few =
      let more : take (n + 1) (set list n w) ≡ take n list ++ (w ∷ []) = rw (add-one n) (take-suc-set list n w (omega arith)) in
      record {
        gave = [];
        few = omega arith;
        wrote = wrote_none out at;
        fine = record {
          version = held.version;
          few = omega arith;
          kept = rw more (kept_more held.kept w (not-opening h));
        };
        on = λ rest. rw (more, append_snoc (take n list) w rest) refl;
      }

  -- and one word too many.
  pub long-took : {out between out' : List ℕ} {at middle end : ℕ} → (kind_of w ≡ 0 → ⊥) → 20480 ≤ n → at ≤ length out
      → Wrote out at (bytes_of (opener ∷ list)) middle between
      → Wrote between middle (bytes_of (w ∷ [])) end out'
      → Took to before w 81928 out at (record { stage = Passing; at = end }) list out'
  long-took h many room first second =
      let all : take n list ≡ list = take_all n list (omega arith) in
      let words = list ++ (w ∷ []) in
      let kept : OpenNone words = kept_more (rw all at held.kept) w (not-opening h) in
      record {
        gave = opener ∷ words;
        few = omega (arith, first.ends, second.ends, bytes-length (opener ∷ list), bytes-length (w ∷ []));
        wrote = rw (bytes-append (opener ∷ list) (w ∷ [])) (wrote_then room first second);
        fine = _;
        on = λ rest.
            rw (all, ← append_snoc list w rest)
            (long-on to opener words (version-opens opener held.version) kept (omega (arith, length-append list (w ∷ []))) rest);
      }

  -- THE NEXT OPENER closes the list, and is taken where no list is kept.
  pub closed-took : {out between out' : List ℕ} {at middle : ℕ} {step : Step} → kind_of w ≡ 0 → at ≤ length out → middle ≤ at + 81924
      → Wrote out at (bytes_of (all_words (carried to (file_list opener (take n list))))) middle between
      → Took to [] w 4 between middle step list out'
      → Took to before w 81928 out at step list out'
  unfolding opens_list
  closed-took {step = step} h room few first t =
      let list' = all_words (carried to (file_list opener (take n list))) in
      record {
        gave = list' ++ t.gave;
        few = omega (arith, t.few);
        wrote = rw (bytes-append list' t.gave) (wrote_then room first t.wrote);
        fine = t.fine;
        on = λ rest.
            closes-on to opener (take n list) (version-opens opener held.version) held.kept w rest (eq-eqb (kind_of w) 0 h)
            ∙ ap (λ (l : List ℕ). list' ++ l) (t.on rest)
            ∙ sym (append_assoc list' t.gave _);
      }

-- A word that gives little.
pub took-little : {to w at : ℕ} {before out list out' : List ℕ} {step : Step} → Took to before w 4 out at step list out'
    → Took to before w 81928 out at step list out'
took-little t = record { gave = t.gave; few = omega (arith, t.few); wrote = t.wrote; fine = t.fine; on = t.on }
