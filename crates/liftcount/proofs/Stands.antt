-- That the text stands for the whole input: what the run prints at the end of an input is what is printed for it, whatever the chunks that
-- it came in (`stands`), and so is what `read_input` came to (`reached-came`, `came-prints`).
use Prim.Native.Nat.{ℕ, suc, ◌+◌, ◌*◌, ◌%◌, ◌^◌, ◌≤◌, ◌<◌}
use mathlib.Core.{Path.{◌≡◌, refl, ap, sym, ◌∙◌}, Bool.{Bool, true, false}, List.{List, [], ◌∷◌, ◌++◌, append-nil, flatten, foldl}}
use mathlib.Core.Option.{Option, none, some}
use native.Mathlib.{Nat.{zero-add}, Omega.{arith}}
use lib.{Dec.{eqb}, IntN.{ℤ}, ListN.{length, take, get_or}}
use Rattle.std.specs.Prelude.{Result, Ok, Err}
use Rattle.molang.specs.{FirstFailure.{must, first_of}, Words.{Refusal, row}, Lines.{version_of}}
use Rattle.molang.proofs.FirstFailure.{after_none}
use Rattle.listing.specs.Lists.{words_in}
use Rattle.liftcount.specs.{declared.run.Stage.{Stage}, declared.run.Stage.TheVariants.{First, Second, Opener, InList}}
use Rattle.liftcount.specs.declared.run.Counts.{Counts}
use Rattle.liftcount.specs.Counting.{opens, Cut, cut, lists_in, is_version, begins, first_fault, input_fault, count_text, refusal_line}
use Rattle.liftcount.specs.Counting.{printed}
use Rattle.liftcount.specs.Running.{Progress, version_taken, word_taken, State, byte_taken, fed, started, lines_of, progress_text, end_text}
use Rattle.liftcount.specs.Steps.{Reached, Came, after_word}
use Rattle.liftcount.proofs.{ByteLaws.{with_word, fed-four, fed-chunks}, Adding.{counted_all, counted-all}}
use Rattle.liftcount.proofs.Cutting.{words_taken, text_of, refused-stays, cut_opened, cut-few, line_or, outcome, run_on}

-- BYTES AND WORDS: what is printed after words, which bytes of a word that is not whole are answered before.
unfoldable ended : Progress → List ℕ → Bool → List ℕ
ended p words true = text_of (words_taken p words)
ended p words false = refusal_line 1 0

word_on : (p : Progress) (w : ℕ) (words : List ℕ) (whole : Bool) → ended (with_word p w) words whole ≡ ended p (w ∷ words) whole
unfolding ended words_taken
word_on p w words true = refl
word_on p w words false = refl

fed-bytes : (p : Progress) (bytes : List ℕ) → end_text (fed (after_word p) bytes) ≡ ended p (words_in bytes) (eqb (length bytes % 4) 0)
unfolding end_text fed byte_taken words_in words_taken ended
fed-bytes p [] = refl
fed-bytes p (a ∷ []) = refl
fed-bytes p (a ∷ b ∷ []) = refl
fed-bytes p (a ∷ b ∷ c ∷ []) = refl
fed-bytes p (a ∷ b ∷ c ∷ d ∷ bytes) =
    let w = a + 2 ^ 8 * b + 2 ^ 16 * c + 2 ^ 24 * d in
    let size : suc (suc (suc (suc (length bytes)))) % 4 ≡ length bytes % 4 = omega arith in
    ap end_text (fed-four (after_word p) a b c d bytes refl (omega arith))
    ∙ fed-bytes (with_word p w) bytes
    ∙ word_on p w (words_in bytes) (eqb (length bytes % 4) 0)
    ∙ ap (λ (n : ℕ). ended p (w ∷ words_in bytes) (eqb n 0)) (sym size)

words-few : (bytes : List ℕ) → length (words_in bytes) ≤ length bytes
unfolding words_in
words-few [] = omega arith
words-few (a ∷ []) = omega arith
words-few (a ∷ b ∷ []) = omega arith
words-few (a ∷ b ∷ c ∷ []) = omega arith
words-few (a ∷ b ∷ c ∷ d ∷ bytes) = omega (arith, words-few bytes)

-- WHAT IS PRINTED, by the words alone.
abbrev counts_of : List ℕ → List ℕ
counts_of words = count_text (version_of (get_or words 0 0)) (version_of (get_or words 1 0)) (lists_in words)

unfoldable words_text : List ℕ → List ℕ
words_text words = line_or (first_of (must (begins words) (row 8 0) ∷ first_fault (lists_in words) ∷ [])) (counts_of words)

line-or : (o : Option Refusal) (text : List ℕ) → elim o [ some r ↦ refusal_line r.number r.place | none ↦ text ] ≡ line_or o text
unfolding line_or
line-or none text = refl
line-or (some r) text = refl

printed-is : (bytes : List ℕ) → printed bytes ≡ line_or (input_fault bytes) (counts_of (words_in bytes))
printed-is bytes = unfold printed in line-or (input_fault bytes) (counts_of (words_in bytes))

printed-by : (bytes : List ℕ) (p : Progress) → text_of (words_taken p (words_in bytes)) ≡ words_text (words_in bytes) → (whole : Bool)
    → eqb (length bytes % 4) 0 ≡ whole
    → ended p (words_in bytes) whole ≡ printed bytes
unfolding ended input_fault words_text line_or must first_of
printed-by bytes p h true e = h ∙ sym (printed-is bytes ∙ rw e)
printed-by bytes p h false e = sym (printed-is bytes ∙ rw e)

-- The counts where no list is read.
abbrev zeros : Counts
zeros = record { read = 0; same = 0; different = 0; one = 0; both = 0 }

-- Words that do not begin an input, and words that do.
turned-back : (words : List ℕ) → begins words ≡ false → words_text words ≡ refusal_line 8 0
turned-back words e = unfold words_text line_or must first_of in rw e

counts-over : (from to : ℤ) (ls : List (List ℕ)) → length ls < 2 ^ 64 → lines_of (counted_all from to ls zeros) ≡ count_text from to ls
counts-over from to ls few = unfold lines_of count_text in rw (counted-all from to ls zeros (omega arith)) (simp zero-add)

taken_in : (words : List ℕ) → begins words ≡ true → length (lists_in words) < 2 ^ 64
    → words_text words ≡ outcome (version_of (get_or words 0 0)) (version_of (get_or words 1 0)) (lists_in words) zeros
unfolding words_text must outcome
taken_in words e few =
    rw (
      e,
      after_none none (first_fault (lists_in words)) refl,
      counts-over (version_of (get_or words 0 0)) (version_of (get_or words 1 0)) (lists_in words) few,
    )

-- THE FIRST WORDS. No list is read, and the run is at this stage.
abbrev at_stage : List ℕ → Result Stage Refusal → Progress
at_stage list stage = record { stage = stage; counts = zeros; list = list }

-- A word that brings the run to the next progress, and one that is no version or no opener where that has to be.
word_in : (p q : Progress) (w : ℕ) (words all : List ℕ) → with_word p w ≡ q → text_of (words_taken q words) ≡ words_text all
    → text_of (words_taken p (w ∷ words)) ≡ words_text all
word_in p q w words all e rest = unfold words_taken in ap (λ (r : Progress). text_of (words_taken r words)) e ∙ rest

refused-8 : (list : List ℕ) (p : Progress) (w : ℕ) (words all : List ℕ) → with_word p w ≡ at_stage list (Err (row 8 0)) → begins all ≡ false
    → text_of (words_taken p (w ∷ words)) ≡ words_text all
refused-8 list p w words all e turned =
    word_in p (at_stage list (Err (row 8 0))) w words all e (refused-stays (row 8 0) zeros list words ∙ sym (turned-back all turned))

module _ (list : List ℕ) (room : 640 ≤ length list) where
  module _ (v w : ℕ) (first : is_version v ≡ true) where
    -- Behind two versions: an opener, and the lists from there on.
    module _ (second : is_version w ≡ true) where
      at-opener : (o : ℕ) (words : List ℕ) → suc (length words) < 2 ^ 64 → (b : Bool) → opens o ≡ b
          → text_of (words_taken (at_stage list (Ok (Opener (version_of v) (version_of w)))) (o ∷ words)) ≡ words_text (v ∷ w ∷ o ∷ words)
      unfolding word_taken begins lists_in
      at-opener o words few true e =
          let lists : (cut (o ∷ words)).lists ≡ (cut words).before ∷ (cut words).lists = ap (λ (c : Cut). c.lists) (cut_opened o words e) in
          word_in (at_stage list (Ok (Opener (version_of v) (version_of w)))) (at_stage list (Ok (InList (version_of v) (version_of w) 0))) o words
          (v ∷ w ∷ o ∷ words) (rw (e, word_taken))
          (run_on (version_of v) (version_of w) words [] zeros list room (omega arith) (λ none_yet. refl)
          ∙ ap (λ (ls : List (List ℕ)). outcome (version_of v) (version_of w) ls zeros) (sym lists)
          ∙ sym (taken_in (v ∷ w ∷ o ∷ words) (rw (first, second, e)) (omega (arith, cut-few (o ∷ words)))))
      at-opener o words few false e =
          refused-8 list (at_stage list (Ok (Opener (version_of v) (version_of w)))) o words (v ∷ w ∷ o ∷ words) (rw (e, word_taken))
          (rw (first, second, e))

      after-second : (words : List ℕ) → length words < 2 ^ 64
          → text_of (words_taken (at_stage list (Ok (Opener (version_of v) (version_of w)))) words) ≡ words_text (v ∷ w ∷ words)
      unfolding words_taken begins lists_in cut outcome first_fault line_or progress_text counted_all
      after-second [] few = sym (taken_in (v ∷ w ∷ []) (rw (first, second)) (omega arith))
      after-second (o ∷ words) few = at-opener o words few (opens o) refl

    -- The second version.
    faulty-second : (words : List ℕ) → is_version w ≡ false → begins (v ∷ w ∷ words) ≡ false
    unfolding begins
    faulty-second [] e = rw (first, e)
    faulty-second (o ∷ words) e = rw (first, e)

    at_second : (words : List ℕ) → length words < 2 ^ 64 → (b : Bool) → is_version w ≡ b
        → text_of (words_taken (at_stage list (Ok (Second (version_of v)))) (w ∷ words)) ≡ words_text (v ∷ w ∷ words)
    unfolding word_taken version_taken
    at_second words few true e =
        word_in (at_stage list (Ok (Second (version_of v)))) (at_stage list (Ok (Opener (version_of v) (version_of w)))) w words (v ∷ w ∷ words)
        (rw (e, version_taken)) (after-second e words few)
    at_second words few false e =
        refused-8 list (at_stage list (Ok (Second (version_of v)))) w words (v ∷ w ∷ words) (rw (e, version_taken)) (faulty-second words e)

  -- The first version.
  after_first : (v : ℕ) (words : List ℕ) → length words < 2 ^ 64 → is_version v ≡ true
      → text_of (words_taken (at_stage list (Ok (Second (version_of v)))) words) ≡ words_text (v ∷ words)
  unfolding words_taken progress_text begins
  after_first v [] few first = sym (turned-back (v ∷ []) refl)
  after_first v (w ∷ words) few first = at_second v w first words (omega arith) (is_version w) refl

  faulty-first : (v : ℕ) (words : List ℕ) → is_version v ≡ false → begins (v ∷ words) ≡ false
  unfolding begins
  faulty-first v [] e = refl
  faulty-first v (w ∷ []) e = rw e
  faulty-first v (w ∷ o ∷ words) e = rw e

  at_first : (v : ℕ) (words : List ℕ) → length words < 2 ^ 64 → (b : Bool) → is_version v ≡ b
      → text_of (words_taken (at_stage list (Ok First)) (v ∷ words)) ≡ words_text (v ∷ words)
  unfolding word_taken version_taken
  at_first v words few true e =
      word_in (at_stage list (Ok First)) (at_stage list (Ok (Second (version_of v)))) v words (v ∷ words) (rw (e, version_taken)) (after_first v words few e)
  at_first v words few false e = refused-8 list (at_stage list (Ok First)) v words (v ∷ words) (rw (e, version_taken)) (faulty-first v words e)

  -- THE WORDS OF AN INPUT, taken from its beginning on, come to what is printed for them.
  from_start : (words : List ℕ) → length words < 2 ^ 64 → text_of (words_taken (at_stage list (Ok First)) words) ≡ words_text words
  unfolding words_taken progress_text begins
  from_start [] few = sym (turned-back [] refl)
  from_start (v ∷ words) few = at_first v words (omega arith) (is_version v) refl

-- THE TEXT STANDS FOR THE WHOLE INPUT, whatever the chunks that it came in and whatever the buffer of 640 words held before.
pub stands : (input : List ℕ) → length input < 2 ^ 64 → (chunks : List (List ℕ)) → flatten chunks ≡ input → (list : List ℕ)
    → length list ≡ 640
    → end_text (foldl fed (started list) chunks) ≡ printed input
unfolding started
stands input few chunks e list size =
    ap end_text (fed-chunks (started list) chunks ∙ ap (fed (started list)) e)
    ∙ fed-bytes (at_stage list (Ok First)) input
    ∙ printed-by input (at_stage list (Ok First)) (from_start list (omega arith) (words_in input) (omega (arith, words-few input)))
    (eqb (length input % 4) 0) refl

-- WHAT CHUNKS LED TO is what a whole input leads to, and what is printed then is what is printed for that input.
pub reached-came : (list space : List ℕ) (last : ℕ) (s : State) → length list ≡ 640 → Reached list space last s → Came s
reached-came list space last s room r =
    record { list = list; room = room; input = r.before ++ take last space; few = r.few; is = r.is }

pub came-prints : (s : State) (c : Came s) → end_text s ≡ printed c.input
unfolding flatten
came-prints s c =
    ap end_text c.is ∙ stands c.input (omega (arith, c.few)) (c.input ∷ []) (append-nil c.input) c.list c.room
