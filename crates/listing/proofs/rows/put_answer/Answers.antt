-- `listing::rows::put_answer` meets its contract: the name, the numbers of its line, and the lines after it.
use Rattle.std.proofs.Common.{◌≡◌, ◌∙◌, ap, Ok, arith}
use Rattle.parse.specs.declared.Answer.TheVariants.{Tree, Messages}
use Rattle.listing.specs.Rows.{answer_text}
use Rattle.text.proofs.TextLaws.{numbered-length}
use Rattle.listing.proofs.RowLaws.{node-rows-length, record-rows-length, three}
use Rattle.listing.proofs.rows.put_answer.Goals as goal

pub put_nodes-requires : goal.put_nodes-requires
put_nodes-requires c =
    let is : c.args.answered ≡ Ok (Tree c.in-Ok-Tree.n) =
    c.in-Ok-Tree.is ∙ ap Ok (rw c.in-Ok-Tree.is at c.in-Ok-Tree.field-0-is)
    in
    let room = rw is at c.requires in
    (omega (arith, c.put_bytes-named.ensures.ends, c.put_number-counted.ensures.ends, numbered-length c.in-Ok-Tree.n 10), room.1)

pub put_records-requires : goal.put_records-requires
put_records-requires c =
    let is : c.args.answered ≡ Ok (Messages c.in-Ok-Messages.n) =
    c.in-Ok-Messages.is ∙ ap Ok (rw c.in-Ok-Messages.is at c.in-Ok-Messages.field-0-is)
    in
    let room = rw is at c.requires in (
      omega (
        arith,
        c.put_bytes-named-in-Ok-Messages.ensures.ends,
        c.put_number-counted-in-Ok-Messages.ensures.ends,
        numbered-length c.in-Ok-Messages.n 10,
      ),
      room.1,
    )

pub put_number-requires : goal.put_number-requires
put_number-requires c =
    let room = rw c.in-Err.is at c.requires in
    omega (
      arith,
      c.put_bytes-named-in-Err.ensures.ends,
      c.put_number-numbered.ensures.ends,
      numbered-length c.wide.result 32,
    )

pub returns-in-Ok-Tree-clause-upper_bound : goal.returns-in-Ok-Tree-clause-upper_bound
returns-in-Ok-Tree-clause-upper_bound c =
    let is : c.args.answered ≡ Ok (Tree c.in-Ok-Tree.n) =
    c.in-Ok-Tree.is ∙ ap Ok (rw c.in-Ok-Tree.is at c.in-Ok-Tree.field-0-is)
    in
    let room = rw is at c.requires in
    omega (
      arith,
      node-rows-length c.in-Ok-Tree.n c.args.tree.now,
      numbered-length c.in-Ok-Tree.n 10,
      c.put_bytes-named.ensures.ends,
      c.put_number-counted.ensures.ends,
      c.put_nodes.ensures.ends,
    )

pub returns-in-Ok-Tree-clause-wrote : goal.returns-in-Ok-Tree-clause-wrote
unfolding answer_text
returns-in-Ok-Tree-clause-wrote c =
    let is : c.args.answered ≡ Ok (Tree c.in-Ok-Tree.n) =
    c.in-Ok-Tree.is ∙ ap Ok (rw c.in-Ok-Tree.is at c.in-Ok-Tree.field-0-is)
    in
    let room = rw is at c.requires in
    rw is (three (omega arith) c.put_bytes-named.ensures c.put_number-counted.ensures c.put_nodes.ensures)

pub returns-in-Ok-Messages-clause-upper_bound : goal.returns-in-Ok-Messages-clause-upper_bound
returns-in-Ok-Messages-clause-upper_bound c =
    let is : c.args.answered ≡ Ok (Messages c.in-Ok-Messages.n) =
    c.in-Ok-Messages.is ∙ ap Ok (rw c.in-Ok-Messages.is at c.in-Ok-Messages.field-0-is)
    in
    let room = rw is at c.requires in
    omega (
      arith,
      record-rows-length c.in-Ok-Messages.n c.args.messages.now room.1,
      numbered-length c.in-Ok-Messages.n 10,
      c.put_bytes-named-in-Ok-Messages.ensures.ends,
      c.put_number-counted-in-Ok-Messages.ensures.ends,
      c.put_records.ensures.ends,
    )

pub returns-in-Ok-Messages-clause-wrote : goal.returns-in-Ok-Messages-clause-wrote
unfolding answer_text
returns-in-Ok-Messages-clause-wrote c =
    let is : c.args.answered ≡ Ok (Messages c.in-Ok-Messages.n) =
    c.in-Ok-Messages.is ∙ ap Ok (rw c.in-Ok-Messages.is at c.in-Ok-Messages.field-0-is)
    in
    let room = rw is at c.requires in
    rw is
    (three (omega arith) c.put_bytes-named-in-Ok-Messages.ensures c.put_number-counted-in-Ok-Messages.ensures c.put_records.ensures)

pub returns-in-Err-clause-upper_bound : goal.returns-in-Err-clause-upper_bound
returns-in-Err-clause-upper_bound c =
    let room = rw c.in-Err.is at c.requires in
    omega (
      arith,
      numbered-length c.wide.result 32,
      numbered-length c.in-Err.refusal.place 10,
      c.put_bytes-named-in-Err.ensures.ends,
      c.put_number-numbered.ensures.ends,
      c.put_number.ensures.ends,
    )

pub returns-in-Err-clause-wrote : goal.returns-in-Err-clause-wrote
unfolding answer_text
returns-in-Err-clause-wrote c =
    let room = rw c.in-Err.is at c.requires in
    let number = rw (c.wide.ensures ∙ c.from.ensures) at c.put_number-numbered.ensures in
    rw c.in-Err.is (three (omega arith) c.put_bytes-named-in-Err.ensures number c.put_number.ensures)
