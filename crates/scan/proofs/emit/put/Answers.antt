-- `scan::emit::put` meets its contract: field by field. Assumes nothing.
use Rattle.scan.specs.Emit.{words_of_record}
use Rattle.scan.proofs.emit.put.Goals as goal

pub returns : goal.returns
unfolding words_of_record
returns c =
    rw (
      ← c.place.ensures,
      ← c.closer-end.ensures,
      ← c.form.ensures,
      ← c.children.ensures,
      ← c.at.ensures,
      ← c.label-token.ensures,
      ← c.close_word-close.ensures,
    )
    c.lay_node.ensures
