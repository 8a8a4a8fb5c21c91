-- What a walk over words that are to be one tree is, whatever the order of the nodes: its state after a word, whether a legal word fits, and
-- the fault of words by these two.
use Rattle.std.specs.Prelude.{ℕ, suc, ◌≤◌, ◌≡◌, Bool, true, false, ⊤, List, [], ◌∷◌, length, drop}
use Rattle.std.proofs.Math.Option.{Option, none, some}
use Rattle.molang.specs.Words.{Field, operator_field, word_fault, variant_after}
use Rattle.molang.specs.WriteEntry.{next_in_node}
use Rattle.molang.specs.FirstFailure.{must, first_of}

module _ {S : Type 0} where
  -- The word can stand next: it is legal, and it fits.
  abbrev pub goes_on : (Field → ℕ → S → Bool) → Field → ℕ → S → ℕ → Bool
  goes_on fits field v s w =
      elim (word_fault field v w) [
        | some n ↦ false
        | none ↦ fits field w s
      ]

  -- What each `Walk` shows: what holds at the start and is kept by a word that fits; and the fault is at the first word that cannot stand
  -- next, or where the words run out.
  pub record IsWalk (start : S) (after : Field → ℕ → S → S) (fits : Field → ℕ → S → Bool) (whole : Field → S → Bool)
      (fault : ℕ → Field → ℕ → S → List ℕ → Option ℕ) (Holds : Field → S → Type 0)
      : Type 0 where
    pub starts : Holds operator_field start
    pub kept : (field : Field) (w : ℕ) (s : S) → Holds field s → fits field w s ≡ true → Holds (next_in_node field) (after field w s)
    pub at_end : (i : ℕ) (field : Field) (v : ℕ) (s : S) → fault i field v s [] ≡ must (whole field s) i
    pub at_word : (i : ℕ) (field : Field) (v : ℕ) (s : S) (w : ℕ) (ws : List ℕ)
        → fault i field v s (w ∷ ws)
        ≡ first_of
        (must (goes_on fits field v s w) i ∷ fault (suc i) (next_in_node field) (variant_after field v w) (after field w s) ws ∷ [])

  -- The state after words.
  abbrev pub after_all : (Field → ℕ → S → S) → Field → List ℕ → S → S
  after_all after field [] s = s
  after_all after field (w ∷ ws) s = after_all after (next_in_node field) ws (after field w s)

  -- Each word fits.
  abbrev pub AllFit : (Field → ℕ → S → S) → (Field → ℕ → S → Bool) → Field → List ℕ → S → Type 0
  AllFit after fits field [] s = ⊤
  AllFit after fits field (w ∷ ws) s = (fits field w s ≡ true) × AllFit after fits (next_in_node field) ws (after field w s)

  -- The seven words of any node of this child count fit.
  abbrev pub NodeFits : (Field → ℕ → S → S) → (Field → ℕ → S → Bool) → ℕ → S → Type 0
  NodeFits after fits n s = (a b c d e g : ℕ) → AllFit after fits operator_field (a ∷ b ∷ c ∷ d ∷ e ∷ n ∷ g ∷ []) s

  -- The state after the seven words of any node of this child count.
  abbrev pub IsAfterNode : (Field → ℕ → S → S) → ℕ → S → S → Type 0
  IsAfterNode after n s t = (a b c d e g : ℕ) → t ≡ after_all after operator_field (a ∷ b ∷ c ∷ d ∷ e ∷ n ∷ g ∷ []) s

  -- What was seen of the words before i, in a node of this variant: the fault of the words that are left is the fault of all.
  pub record Seen (Holds : Field → S → Type 0) (fault : ℕ → Field → ℕ → S → List ℕ → Option ℕ) (start : S)
      (words : List ℕ) (field : Field) (variant : ℕ) (s : S) (i : ℕ)
      : Type 0 where
    pub within : i ≤ length words
    pub holds : Holds field s
    pub same : fault i field variant s (drop i words) ≡ fault 0 operator_field 0 start words
