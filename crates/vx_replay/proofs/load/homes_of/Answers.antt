use Rattle.std.proofs.Common.{◌≡◌, ◌+◌, ◌≤◌, length, take, sym, subst, ap, ◌∙◌, arith, List}
use Rattle.vx_layout.specs.LogForms.{AfterImage}
use Rattle.vx_log.specs.Batches.{with_notes}
use Rattle.vx_replay.specs.LogReads.{image_count}
use Rattle.vx_replay.proofs.Loading.{noted_more, few_more, count_next}
use Rattle.vx_replay.proofs.load.homes_of.Goals as goal

pub note_all-requires : goal.note_all-requires
note_all-requires c =
    omega (arith, c.loop-record.invariant.few, c.requires, count_next c.args.records.now c.loop-record.record-index c.record-item.result c.loop-record-test.true c.record-item.is, ap (λ (l : List AfterImage). length l) c.as_slice.ensures)

pub loop-record-preserved : goal.loop-record-preserved
loop-record-preserved c =
    let lt = c.loop-record-test.true in
    let rs : List (List AfterImage) = c.args.records.now in
    let i = c.loop-record.record-index in
    let r : List AfterImage = c.record-item.result in
    let homes : List AfterImage = c.loop-record.homes in
    let noted : c.note_all.new.self ≡ with_notes homes r = c.note_all.ensures ∙ ap (with_notes homes) c.as_slice.ensures in
    record {
      homes = noted ∙ noted_more c.note_laws.ensures rs i r homes lt c.record-item.is c.loop-record.invariant.homes;
      few = subst (λ (l : List AfterImage). length l ≤ image_count (take (i + 1) rs)) (sym noted) (few_more c.note_laws.ensures rs i r homes lt c.record-item.is c.loop-record.invariant.few);
    }
