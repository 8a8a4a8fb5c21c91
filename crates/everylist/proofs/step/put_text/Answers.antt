-- `everylist::step::put_text` meets its contract: the line, the reading of the list, and the answer behind the line. Assumes nothing.
use Prim.Native.Nat.{◌*◌}
use mathlib.Core.Path.{◌≡◌}
use native.Mathlib.Omega.{arith}
use lib.ListN.{length, take, length-take, replicate}
use mir.Facts.{to_z-of_z}
use Rattle.molang.specs.Words.{operator_field, words_refusal}
use Rattle.listing.proofs.AnswerLaws.{can-put}
use Rattle.everylist.proofs.{HeadLaws.{head-length}, ListLaws.{text-laid}}
use Rattle.everylist.proofs.step.put_text.Goals as goal

pub slice_bounds-read_list-end : goal.slice_bounds-read_list-end
slice_bounds-read_list-end c =
    let a = c.args in omega (arith, length-take (5 * a.tokens) a.list.now)

pub read_list-answered-requires : goal.read_list-answered-requires
read_list-answered-requires c =
    let a = c.args in
    let size : length (take (5 * a.tokens) a.list.now) ≡ 5 * a.tokens = omega (arith, length-take (5 * a.tokens) a.list.now) in
    record {
      few = omega arith;
      whole = omega arith;
      tree_room = omega arith;
      message_room = omega arith;
      work_room = omega arith;
    }

pub put_answer-requires : goal.put_answer-requires
put_answer-requires c =
    let a = c.args in
    let list = take (5 * a.tokens) a.list.now in
    let size : length list ≡ 5 * a.tokens = omega (arith, length-take (5 * a.tokens) a.list.now) in
    let long = head-length a.tokens a.list.now in
    let ends = c.put_head-end.ensures.ends in
    rw c.read_list-answered.ensures.result_value
    (can-put (words_refusal 0 operator_field 0 list) list _ c.put_head-end.result _ _ _ (omega arith) (omega arith) (omega arith)
    (omega arith))

pub returns : goal.returns
returns c =
    let put = c.put_answer.ensures in
    let a = c.args in
    let told = rw (to_z-of_z c.ranges.version) at c.read_list-answered.ensures in
    record {
      upper_bound = put.upper_bound;
      wrote = text-laid a.version a.tokens a.list.now (omega arith) (omega arith) c.put_head-end.ensures (replicate 126 0)
          (replicate 16 0) told.result_value told.tree_after told.messages_after put.wrote;
    }
