-- The lifted words of a file, from its front on: which words go through, and where a list is closed. Assumes nothing.
use Prim.Native.Nat.{ℕ, ◌/◌, ◌%◌, ◌^◌, ◌<◌}
use mathlib.Core.{Path.{◌≡◌, refl, ap, sym, ◌∙◌}, Bool.{Bool, true, false}, List.{List, [], ◌∷◌, ◌++◌, append_assoc, append-nil}}
use native.Mathlib.Omega.{arith}
use lib.{Dec.{eqb}, ListN.{length, length-append}}
use borrow.Author.Tests.{eq-eqb, ne_eqb, eqb-true, lt-leb}
use Rattle.molang.specs.{FirstFailure.{must, first_of}, Words.{kind_of}, Parse.{most_tokens}}
use Rattle.molang.specs.Lift.{Engine, lift_refusal, lift_of, or_behind}
use Rattle.liftlists.specs.LiftedFile.{opens_list, is_version_word, FileList, file_list, all_words, file_cut, joined_lists, engine_of, carried_by, carried}
use Rattle.liftlists.specs.{LiftedFile.{carried_all, lifted_words}, Steps.{IsBehind, OpenNone, none_kept, one_kept}}

-- THE CUT at an opener, at another word, and behind words that open none.
pub cut_opened : (w : ℕ) (words : List ℕ) → opens_list w ≡ true
    → file_cut (w ∷ words) ≡ record { before = []; lists = file_list w (file_cut words).before ∷ (file_cut words).lists }
unfolding file_cut
cut_opened w words e = rw (e, file_cut)

pub cut-kept : (w : ℕ) (words : List ℕ) → opens_list w ≡ false
    → file_cut (w ∷ words) ≡ record { before = w ∷ (file_cut words).before; lists = (file_cut words).lists }
unfolding file_cut
cut-kept w words e = rw (e, file_cut)

pub cut-behind : {p : List ℕ} → OpenNone p → (rest : List ℕ)
    → file_cut (p ++ rest) ≡ record { before = p ++ (file_cut rest).before; lists = (file_cut rest).lists }
cut-behind none_kept rest = refl
cut-behind (one_kept {w} {words} e k) rest = cut-kept w (words ++ rest) e ∙ rw (cut-behind k rest) refl

pub kept_more : {p : List ℕ} → OpenNone p → (w : ℕ) → opens_list w ≡ false → OpenNone (p ++ (w ∷ []))
kept_more none_kept w e = one_kept e none_kept
kept_more (one_kept f k) w e = one_kept f (kept_more k w e)

-- A version word opens a list.
pub version-opens : (w : ℕ) → w < 65536 → opens_list w ≡ true
unfolding opens_list kind_of
version-opens w h = eq-eqb (w / 2 ^ 29) 0 (omega arith)

-- WHAT STAYS BEHIND: a list that is no whole tokens, and one of more than 20,480 words.
pub not-whole : (from to : Engine) (list : List ℕ) → (length list % 5 ≡ 0 → ⊥) → IsBehind (lift_of from to list)
unfolding lift_of lift_refusal must first_of or_behind
not-whole from to list h = record { number = 1; place = 0; is = rw (ne_eqb (length list % 5) 0 h) refl }

too_long : (from to : Engine) (list : List ℕ) → 20480 < length list → IsBehind (lift_of from to list)
unfolding lift_of lift_refusal must first_of or_behind
too_long from to list h = by (eqb (length list % 5) 0) refl
  where
    by : (b : Bool) → eqb (length list % 5) 0 ≡ b → IsBehind (lift_of from to list)
    by false e = record { number = 1; place = 0; is = rw e refl }
    by true e =
        let whole = eqb-true (length list % 5) 0 e in
        let many : most_tokens < length list / 5 = omega arith in
        record { number = 2; place = 0; is = rw (e, lt-leb (length list / 5) most_tokens many) refl }

pub carried-behind : (v : ℕ) (l : FileList) → IsBehind (lift_of (engine_of l.opener) (engine_of v) l.words) → carried v l ≡ l
unfolding carried carried_by
carried-behind v l b = by (is_version_word l.opener) refl
  where
    by : (t : Bool) → is_version_word l.opener ≡ t → carried v l ≡ l
    by true e = rw (e, carried, b.is) refl
    by false e = rw (e, carried) refl

module _ (v : ℕ) where
  -- A WORD THAT IS NO VERSION goes through, where no list is kept.
  pub passes_on : (w : ℕ) (rest : List ℕ) → is_version_word w ≡ false → lifted_words v (w ∷ rest) ≡ w ∷ lifted_words v rest
  unfolding lifted_words carried_all joined_lists carried
  passes_on w rest e = by (opens_list w) refl
    where
      by : (b : Bool) → opens_list w ≡ b → lifted_words v (w ∷ rest) ≡ w ∷ lifted_words v rest
      by false f = rw (cut-kept w rest f) refl
      by true f = rw (cut_opened w rest f, e, carried) refl

  -- A LIST and what follows.
  module _ (o : ℕ) (p : List ℕ) (opening : opens_list o ≡ true) (k : OpenNone p) where
    behind-opener : (rest : List ℕ)
        → lifted_words v (o ∷ (p ++ rest))
        ≡ all_words (carried v (file_list o (p ++ (file_cut rest).before))) ++ joined_lists (carried_all v (file_cut rest).lists)
    unfolding lifted_words carried_all joined_lists
    behind-opener rest = rw (cut_opened o (p ++ rest) opening, cut-behind k rest) refl

    -- It is closed by the next opener,
    pub closes-on : (w : ℕ) (rest : List ℕ) → opens_list w ≡ true
        → lifted_words v (o ∷ (p ++ (w ∷ rest))) ≡ all_words (carried v (file_list o p)) ++ lifted_words v (w ∷ rest)
    unfolding lifted_words
    closes-on w rest e = behind-opener (w ∷ rest) ∙ rw (cut_opened w rest e, append-nil p) refl

    -- by the end of the file,
    pub closes-last : lifted_words v (o ∷ p) ≡ all_words (carried v (file_list o p))
    unfolding file_cut carried_all joined_lists
    closes-last =
        ap (λ (l : List ℕ). lifted_words v (o ∷ l)) (sym (append-nil p))
        ∙ behind-opener []
        ∙ rw (append-nil p) (append-nil (all_words (carried v (file_list o p))))

    -- or it is too long, and goes through.
    pub long-on : 20480 < length p → (rest : List ℕ) → lifted_words v (o ∷ (p ++ rest)) ≡ (o ∷ p) ++ lifted_words v rest
    unfolding lifted_words
    long-on long rest =
        let all = p ++ (file_cut rest).before in
        let many : 20480 < length all = omega (arith, length-append p (file_cut rest).before) in
        behind-opener rest
        ∙ rw (carried-behind v (file_list o all) (too_long (engine_of o) (engine_of v) all many))
        (ap (λ (l : List ℕ). o ∷ l) (append_assoc p (file_cut rest).before (joined_lists (carried_all v (file_cut rest).lists))))
