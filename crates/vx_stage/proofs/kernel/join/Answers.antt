use Rattle.std.proofs.Common.{◌≡◌, ◌∙◌, ◌+◌, [], ◌++◌, ◌∷◌, List, length, take, ap, sym, inr, arith, length-take}
use Rattle.std.proofs.lemmas.List.{take_more}
use Rattle.vx_layout.specs.LogForms.{AfterImage}
use Rattle.vx_log.specs.Batches.{batch_set}
use Rattle.vx_log.specs.Batches.{with_notes}
use Rattle.vx_stage.proofs.kernel.join.Goals as goal

pub set-requires : goal.set-requires
set-requires c =
    let first = c.args.batch.now in
    let front : List AfterImage = take c.loop-entry.entry-index c.args.transaction.now in
    let now : length c.loop-entry.batch ≡ length (with_notes first front) = ap (λ (h : List AfterImage). length h) c.loop-entry.invariant in
    inr (omega (arith, now, c.note_laws.ensures.length first front, length-take c.loop-entry.entry-index c.args.transaction.now, c.loop-entry-test.true, c.requires))

pub loop-entry-preserved : goal.loop-entry-preserved
loop-entry-preserved c =
    let batch = c.args.transaction.now in
    let first = c.args.batch.now in
    let i = c.loop-entry.entry-index in
    let e : AfterImage = c.entry-item.result in
    let front : List AfterImage = take i batch in
    let more : take (i + 1) batch ≡ front ++ e ∷ [] = take_more batch i e c.loop-entry-test.true ∙ ap (λ (x : AfterImage). front ++ x ∷ []) (sym c.entry-item.is) in
    c.set.ensures ∙ ap (λ (h : List AfterImage). batch_set h e.0 e.1) c.loop-entry.invariant ∙ sym (c.note_laws.ensures.push first front e) ∙ ap (with_notes first) (sym more)
