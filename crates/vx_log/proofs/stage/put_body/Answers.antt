use Rattle.std.proofs.Common.{◌≡◌, ◌+◌, ◌<◌, ◌≤◌, ℕ, length, ◌∙◌, ap, arith}
use Rattle.vx_layout.specs.LogForms.{body_of, log_at}
use Rattle.vx_log.proofs.Bodies.{length-body}
use Rattle.vx_log.proofs.StageLemmas.{stage_more, stage_failed, on_err_any}
use Rattle.vx_log.proofs.stage.put_body.Goals as goal

pub returns-in_err-write-clause-err : goal.returns-in_err-write-clause-err
returns-in_err-write-clause-err g c =
    let body = body_of c.args.head c.args.batch.now in
    let size : length body ≡ _ = length-body c.args.head c.args.batch.now in
    let within : c.loop-i.i < length body = omega (arith, size, c.loop-i-test.true, c.requires.within) in
    let end : c.args.end ≤ length body = omega (arith, size, c.requires.within) in
    let at : c.log_sector-at.result ≡ log_at c.args.sectors (c.args.head + c.loop-i.i) = c.log_sector-at.ensures.place ∙ ap (λ (p : ℕ). log_at c.args.sectors (c.args.head + p)) c.from.ensures in
    on_err_any c.from_residual.result
    (stage_failed c.run_laws.ensures c.args.sectors c.args.head c.args.from c.loop-i.i body c.body_sector.result c.loop-i.auto.i within c.body_sector.ensures c.log_sector-at.result at c.args.end
    (g.D.BlockDev.state c.args.dev.now) (g.D.BlockDev.state c.loop-i.dev) (g.D.BlockDev.state c.write.new.self) c.loop-i-test.true end
    c.loop-i.invariant.ran c.loop-i.invariant.certain c.in_err-write.ensures.failed c.write.ensures.size)

pub loop-i-preserved : goal.loop-i-preserved
loop-i-preserved g c =
    let body = body_of c.args.head c.args.batch.now in
    let within : c.loop-i.i < length body = omega (arith, length-body c.args.head c.args.batch.now, c.loop-i-test.true, c.requires.within) in
    let at : c.log_sector-at.result ≡ log_at c.args.sectors (c.args.head + c.loop-i.i) = c.log_sector-at.ensures.place ∙ ap (λ (p : ℕ). log_at c.args.sectors (c.args.head + p)) c.from.ensures in
    record {
      ran = stage_more c.run_laws.ensures c.args.sectors c.args.head c.args.from c.loop-i.i body c.body_sector.result c.loop-i.auto.i within c.body_sector.ensures c.log_sector-at.result at
          (g.D.BlockDev.state c.args.dev.now) (g.D.BlockDev.state c.loop-i.dev) (g.D.BlockDev.state c.write.new.self)
          c.loop-i.invariant.ran c.in_ok-write.ensures.put c.write.ensures.size;
      certain = c.in_ok-write.ensures.certain ∙ c.loop-i.invariant.certain;
      reads = c.write.ensures.reads ∙ c.loop-i.invariant.reads;
      fine = c.in_ok-write.ensures.fine ∙ c.loop-i.invariant.fine;
    }
