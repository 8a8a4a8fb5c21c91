-- What a loop over a reader's nodes knows of the words that the reader was made of.
use Rattle.std.proofs.Common.{ℕ, ◌+◌, ◌≤◌, ◌<◌, ◌≡◌, List, length, ap, ◌∙◌}
use Rattle.std.specs.Prelude.{Some, None}
use Rattle.words.specs.Tokens.{node_length}
use Rattle.write.specs.{declared.reader.TreeReader.{TreeReader}, declared.reader.NodeView.{NodeView}, Reading.{view_at, PassesNode}}

-- A node was passed.
pub record Passes (tree : List ℕ) (at : ℕ) (seen : NodeView) (new : TreeReader) : Type 0 where
  pub whole : at + node_length ≤ length tree
  pub is_seen : seen ≡ view_at tree at
  pub words : new.words.now ≡ tree
  pub behind : new.at ≡ at + node_length

pub passes : {tree : List ℕ} {seen : NodeView} {old new : TreeReader} → old.words.now ≡ tree → PassesNode old (Some seen) new
    → Passes tree old.at seen new
passes {new = new} e p =
    record {
      whole = rw e at p.0;
      is_seen = rw e at p.1;
      words = ap (λ (r : TreeReader). r.words.now) p.2 ∙ e;
      behind = ap (λ (r : TreeReader). r.at) p.2;
    }

-- None is left.
pub passes-none : {tree : List ℕ} {old new : TreeReader} → old.words.now ≡ tree → PassesNode old None new → length tree < old.at + node_length
passes-none e p = rw e at p.0
