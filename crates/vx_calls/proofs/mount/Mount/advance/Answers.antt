use Rattle.std.proofs.Common.{◌∙◌, Some, arith}
use Rattle.vx_calls.specs.Potentials.{waits}
use Rattle.vx_calls.proofs.Keeping.{not_left, staged_at, used_still}
use Rattle.vx_calls.proofs.Spending.{broken_owed, broken_promised, failed_not, stage_less, stage_owed, stage_promised, stage_some}
use Rattle.vx_calls.proofs.mount.Mount.advance.Goals as goal

pub pass-requires-clause-used : goal.pass-requires-clause-used
pass-requires-clause-used g c =
    let m = c.args.self.now in
    let o = c.requires.used.opening in
    let at = c.requires.used.at in
    record {
      opening = o;
      at = staged_at o (g.D.BlockDev.state c.args.dev.now) (g.D.BlockDev.state c.stage.new.dev) m at c.requires.enabled c.stage.new.self c.in-Ok.ensures.done c.stage.ensures.history (c.stage.ensures.run o at.run) (c.stage.ensures.live o at.run at.live) c.stage.ensures.fit;
      in_use = used_still o m.kernel c.stage.new.self c.stage.ensures.history c.requires.used.in_use;
    }

pub returns-in-Ok-clause-at : goal.returns-in-Ok-clause-at
returns-in-Ok-clause-at g c = λ o at used.
    let m = c.args.self.now in
    c.pass.ensures.at o
    (staged_at o (g.D.BlockDev.state c.args.dev.now) (g.D.BlockDev.state c.stage.new.dev) m at c.requires.enabled c.stage.new.self c.in-Ok.ensures.done c.stage.ensures.history (c.stage.ensures.run o at.run) (c.stage.ensures.live o at.run at.live) c.stage.ensures.fit)
    (used_still o m.kernel c.stage.new.self c.stage.ensures.history used)

pub returns-in-Ok-clause-owed : goal.returns-in-Ok-clause-owed
returns-in-Ok-clause-owed g c = stage_owed c.note_laws.ensures c.args.self.now c.pass.new.self c.stage.new.self c.requires.used.at.fit.job c.in-Ok.ensures.done c.pass.ensures.kernel c.pass.ensures.waits

pub returns-in-Ok-clause-less : goal.returns-in-Ok-clause-less
returns-in-Ok-clause-less g c = λ has. stage_less c.note_laws.ensures c.args.self.now c.pass.new.self c.stage.new.self c.requires.used.at.fit.job c.in-Ok.ensures.done c.pass.ensures.kernel c.pass.ensures.waits has

pub returns-in-Ok-clause-promised : goal.returns-in-Ok-clause-promised
returns-in-Ok-clause-promised g c =
    let m = c.args.self.now in
    let o = c.requires.used.opening in
    let at = c.requires.used.at in
    stage_promised m c.pass.new.self c.stage.new.self c.len-noted.result at.fit.job (not_left o (g.D.BlockDev.state c.args.dev.now) m at c.requires.used.in_use) (at.enabled c.requires.enabled) c.in-Ok.ensures.done c.stage.ensures.history c.len-noted.ensures.number
    c.pass.ensures.promised c.pass.ensures.tail

pub returns-in-Ok-clause-failed : goal.returns-in-Ok-clause-failed
returns-in-Ok-clause-failed g c = failed_not c.args.self.now.disabled c.pass.new.self.disabled (g.D.BlockDev.state c.args.dev.now) (g.D.BlockDev.state c.stage.new.dev) c.requires.enabled (c.pass.ensures.disabled ∙ c.requires.enabled) c.in-Ok.ensures.cause.fine

pub returns-in-Err-clause-promised : goal.returns-in-Err-clause-promised
returns-in-Err-clause-promised g c =
    let m = c.args.self.now in
    broken_promised m (record m { kernel = c.stage.new.self; disabled = Some (g.D.BlockDev.state c.stage.new.dev).write_faults }) c.in-Err.ensures.broken c.stage.ensures.history

pub returns-in-Err-clause-owed : goal.returns-in-Err-clause-owed
returns-in-Err-clause-owed g c = omega (arith, broken_owed c.stage.new.self (waits c.args.self.now.meta) c.in-Err.ensures.broken)

pub returns-in-Err-clause-less : goal.returns-in-Err-clause-less
returns-in-Err-clause-less g c = λ has. omega (arith, broken_owed c.stage.new.self (waits c.args.self.now.meta) c.in-Err.ensures.broken, stage_some c.args.self.now.kernel (waits c.args.self.now.meta) has)
