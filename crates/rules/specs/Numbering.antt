-- What the entry's parts ask and ensure: where a call is turned back before it is read, and the bytes that are put beside a tree.
use Rattle.std.specs.Prelude.{ℕ, ◌*◌, ◌/◌, ◌≤◌, List, [], ◌∷◌, leb, ℤ, length, take}
use Rattle.std.proofs.Math.Option.{Option}
use Rattle.molang.specs.FirstFailure.{must, first_of}
use Rattle.molang.specs.Order.{rules}
use Rattle.molang.specs.Words.{Refusal, row}
use Rattle.molang.specs.Parse.{in_front}
use Rattle.accept.specs.declared.Sizes.{Sizes}
use Rattle.accept.specs.Accepting.{length_refusal}
use Rattle.parse.specs.declared.Answer.{Answer}
use Rattle.parse.specs.declared.Answer.TheVariants.{Tree, Messages}
use Rattle.rules.specs.Nodes.{word_rules}

-- Answers 1 to 5, and 16 to a rule buffer of so many bytes.
unfoldable pub room_refusal : List ℕ → Sizes → ℕ → Option Refusal
room_refusal list sizes bytes = first_of (length_refusal list sizes ∷ must (leb (3 * (length list / 5)) bytes) (row 16 0) ∷ [])

-- A tree of so many nodes stands in front of the tree buffer, and the rule buffer has a byte for each.
abbrev pub CanNumber : Answer → List ℕ → List ℕ → Type 0
CanNumber (Tree nodes) tree bytes = (7 * nodes ≤ length tree) × (nodes ≤ length bytes)
CanNumber (Messages records) tree bytes = Unit {0}

-- The rule buffer with the numbers of the tree's nodes in front, by their words; where no tree came, as it was.
abbrev pub numbered : Answer → ℤ → List ℕ → List ℕ → List ℕ
numbered (Tree nodes) version tree bytes = in_front (word_rules (rules version).comparisons_first (take (7 * nodes) tree)) bytes
numbered (Messages records) version tree bytes = bytes
