-- A call takes its arguments: the words that `called` leaves, path by path.
use Rattle.std.specs.Prelude.{ℕ, ◌+◌, ◌<◌, ◌≡◌, true, false, List, set}
use Rattle.ops.specs.Classes.{shares}
use Rattle.nodes.specs.Store.{wd, classes_at}
use Rattle.nodes.specs.Children.{Attached}
use Rattle.nodes.specs.declared.frames.List.{List as Items}
use Rattle.levels.specs.Passes.{walk_of, moved_to, classes_of}
use Rattle.levels.specs.declared.turns.Pass.{Pass}
use Rattle.levels.specs.declared.turns.Turn.{Turn}
use Rattle.levels.specs.declared.turns.Turn.TheVariants.{On, Enter}
use Rattle.passes.specs.TokenTurns.{AtToken}

-- The next item, at the slot c, is the section.
pub record CanCall (W : List ℕ) (v : Items) (b c : ℕ) : Type 0 where
  pub token : AtToken W v b
  pub left : v.read < v.len
  pub next : wd W (v.base + v.read) ≡ c

-- The call at the slot b takes the section. It is entered where tokens of the pass are below it, else it is done.
pub data Called (W : List ℕ) (v : Items) (b c : ℕ) (pass : Pass) (r : Turn) (W' : List ℕ) : Type 0 where
  opens : Attached W b c W' → shares (classes_at W' b) (classes_of pass) ≡ true
      → r ≡ Enter (walk_of (moved_to v (v.read + 1) v.write) pass) b → Called W v b c pass r W'
  stays : {W1 : List ℕ} → Attached W b c W1 → shares (classes_at W1 b) (classes_of pass) ≡ false → W' ≡ set W1 (v.base + v.write) b
      → r ≡ On (walk_of (moved_to v (v.read + 1) (v.write + 1)) pass) → Called W v b c pass r W'
