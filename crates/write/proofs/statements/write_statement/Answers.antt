-- `write::statements::write_statement` meets its contract: what the statement holds, then its semicolon. Assumes nothing.
use Rattle.std.proofs.Common.{arith}
use Rattle.write.specs.Spelling.{node_written}
use Rattle.words.specs.Tokens.{node_length}
use Rattle.write.proofs.StepLaws.{Writes, tail}
use Rattle.write.proofs.StatementLaws.{statement-long, held-room, semicolon-long, semicolon-room, statement-within, statement-writes}
use Rattle.write.proofs.statements.write_statement.Goals as goal
use Rattle.write.proofs.statements.write_statement.Goals.{After-write_node-written}

wrote : (c : After-write_node-written) → Writes (node_written (tail node_length c.args.words.now)) (tail node_length c.args.words.now)
    c.args.list.now c.args.pen.now.to c.write_node-written.result.now c.write_node-written.new.list c.write_node-written.new.pen.to
wrote c =
    let e = c.write_node-written.ensures in
    (e.result_value, (e.list_after, e.to_after))

pub slice_bounds-held-count : goal.slice_bounds-held-count
slice_bounds-held-count c = statement-long c.requires

pub slice_bounds-held-start : goal.slice_bounds-held-start
slice_bounds-held-start c = statement-long c.requires

pub write_node-written-requires : goal.write_node-written-requires
write_node-written-requires c = held-room c.requires

pub at-requires : goal.at-requires
at-requires c = semicolon-long c.requires

pub put-requires : goal.put-requires
put-requires c = semicolon-room c.requires (wrote (goal.at.put-requires c).After-write_node-written)

pub overflow_add-result : goal.overflow_add-result
overflow_add-result c =
    omega (arith, c.well_formed, statement-within c.requires (wrote (goal.at.overflow_add-result c).After-write_node-written))

pub returns : goal.returns
returns c =
    let parts =
    statement-writes c.requires (wrote (goal.at.returns c).After-write_node-written)
    (rw (c.bare.ensures, c.at.ensures) at c.put.ensures.list_after, c.put.ensures.to_after)
    in
    record { value = parts.0; list_after = parts.1.0; to_after = parts.1.1 }
