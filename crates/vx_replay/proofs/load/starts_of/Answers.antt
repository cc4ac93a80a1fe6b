use Rattle.std.proofs.Common.{◌+◌, ◌∙◌, arith, List}
use Rattle.vx_layout.specs.LogForms.{AfterImage}
use Rattle.vx_replay.proofs.Loading.{length_next, length_part, starts_more}
use Rattle.vx_replay.proofs.load.starts_of.Goals as goal

pub overflow_add-position : goal.overflow_add-position
overflow_add-position c =
    let i = c.loop-record.record-index in
    omega (arith, c.requires, c.len.ensures, length_next c.args.tail c.args.records.now i c.record-item.result c.loop-record-test.true c.record-item.is, length_part c.args.tail (i + 1) c.args.records.now)

pub overflow_add-position-in-loop-record : goal.overflow_add-position-in-loop-record
overflow_add-position-in-loop-record c =
    let i = c.loop-record.record-index in
    omega (arith, c.requires, c.len.ensures, c.loop-record.invariant.position, length_next c.args.tail c.args.records.now i c.record-item.result c.loop-record-test.true c.record-item.is, length_part c.args.tail (i + 1) c.args.records.now)

pub loop-record-preserved : goal.loop-record-preserved
loop-record-preserved c =
    let lt = c.loop-record-test.true in
    let rs : List (List AfterImage) = c.args.records.now in
    let i = c.loop-record.record-index in
    let r : List AfterImage = c.record-item.result in
    record {
      position = omega (arith, c.len.ensures, c.loop-record.invariant.position, length_next c.args.tail rs i r lt c.record-item.is);
      starts = c.in_ok-push.ensures.items ∙ starts_more c.args.tail rs i r c.loop-record.position c.loop-record.starts.items lt c.record-item.is c.loop-record.invariant.position c.loop-record.invariant.starts;
      room = omega (arith, c.loop-record.invariant.room, c.in_ok-push.ensures.capacity);
    }
