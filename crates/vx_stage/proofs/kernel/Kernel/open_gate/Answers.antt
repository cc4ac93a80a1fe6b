use Rattle.vx_stage.proofs.Counts.{failed_few}
use Rattle.std.proofs.Common.{false, sym, arith, ◌≡◌, ◌+◌, ◌∙◌, ap, subst, cond, Option, Some, None, []}
use Rattle.std.specs.Prelude.{◌&&◌, is_some, IfSome, All}
use Rattle.vx_log.specs.Logs.{LogView, IsClosing, opened, closing_length, has_spare}
use Rattle.vx_log.specs.declared.log.Closing.{Closing}
use Rattle.vx_log.specs.Batches.{with_notes}
use Rattle.vx_stage.specs.declared.kernel.Job.{Job}
use Rattle.vx_stage.specs.Kernels.{JobFits, IsInside}
use Rattle.vx_stage.specs.Staged.{closing_batch}
use Rattle.vx_stage.proofs.Stages.{closing_out, same_batch}
use Rattle.vx_stage.proofs.Commits.{gate_written, gate_failed}
use Rattle.vx_stage.proofs.Fits.{gate_fit, gate_broken_fit}
use Rattle.vx_stage.proofs.Closes.{run_with, failed_later}
use Rattle.vx_stage.specs.declared.kernel.Job.TheVariants as jobs
use Rattle.vx_stage.proofs.kernel.Kernel.open_gate.Goals as goal

pub returns-clause-live : goal.returns-clause-live
returns-clause-live g c = λ o run told.
    let k = c.args.self.now in
    let out = subst (λ (j : Job). JobFits j k) c.requires.job c.requires.fit.job in
    let there = closing_out k.log.closing out.0 in
    let batch_is = same_batch k.log.closing there.0 c.in-Some.batch.now c.in-Some.ensures there.1 in
    let homes_is : c.note_all.new.self ≡ with_notes k.homes there.0.batch = c.note_all.ensures ∙ ap (with_notes k.homes) (c.entries.ensures ∙ batch_is) in
    let left = c.take_back.ensures.left in
    let opened_is = c.in_ok-open_gate.ensures.opened in
    gate_written c.kernel_laws.ensures o k (g.D.BlockDev.state c.args.dev.now) c.requires.fit.sizes run (g.met.D.BlockDev.in_step c.args.dev.now) (g.D.BlockDev.state c.open_gate.new.dev) c.requires.job (c.kernel_laws.ensures.sizes_fit k.sizes c.requires.fit.sizes) there.0 there.1 c.requires.fit.sectors
    (subst (λ (x : Option Closing). IfSome x (λ b. All (IsInside k.sizes) b.batch)) there.1 c.requires.fit.batch)
    (subst (λ (x : Option Closing). IfSome x (IsClosing k.log.sectors k.log.tail k.log.head)) there.1 c.head-head.ensures.log.closing)
    c.take_back.new.self c.note_all.new.self c.take_back.result homes_is
    (ap (λ (l : LogView). l.closing) left ∙ ap (λ (l : LogView). l.closing) opened_is)
    (ap (λ (l : LogView). l.serial) left ∙ ap (λ (l : LogView). l.serial) opened_is)
    (ap (λ (l : LogView). l.tail) left ∙ ap (λ (l : LogView). l.tail) opened_is)
    (ap (λ (l : LogView). l.head) left ∙ ap (λ (l : LogView). l.head) opened_is ∙ ap (λ (x : Option Closing). k.log.head + closing_length x) there.1)
    c.in_ok-open_gate.ensures.put told

pub returns-in_err-open_gate-clause-live : goal.returns-in_err-open_gate-clause-live
returns-in_err-open_gate-clause-live g c = λ o run told.
    let k = c.args.self.now in
    let out = subst (λ (j : Job). JobFits j k) c.requires.job c.requires.fit.job in
    let there = closing_out k.log.closing out.0 in
    gate_failed c.kernel_laws.ensures o k (g.D.BlockDev.state c.args.dev.now) c.requires.fit.sizes run (g.met.D.BlockDev.in_step c.args.dev.now) (g.D.BlockDev.state c.open_gate.new.dev) c.requires.job (c.kernel_laws.ensures.sizes_fit k.sizes c.requires.fit.sizes) there.0 there.1 c.requires.fit.sectors
    (subst (λ (x : Option Closing). IfSome x (λ b. All (IsInside k.sizes) b.batch)) there.1 c.requires.fit.batch)
    (subst (λ (x : Option Closing). IfSome x (IsClosing k.log.sectors k.log.tail k.log.head)) there.1 c.head-head.ensures.log.closing)
    c.open_gate.new.self c.note_all.new.self c.in_err-open_gate.ensures.failed told

pub returns-clause-fit : goal.returns-clause-fit
returns-clause-fit g c =
    let k = c.args.self.now in
    let out = subst (λ (j : Job). JobFits j k) c.requires.job c.requires.fit.job in
    let there = closing_out k.log.closing out.0 in
    let batch_is = same_batch k.log.closing there.0 c.in-Some.batch.now c.in-Some.ensures there.1 in
    let homes_is : c.note_all.new.self ≡ with_notes k.homes there.0.batch = c.note_all.ensures ∙ ap (with_notes k.homes) (c.entries.ensures ∙ batch_is) in
    let left = c.take_back.ensures.left in
    let opened_is = c.in_ok-open_gate.ensures.opened in
    gate_fit c.note_laws.ensures k (g.D.BlockDev.state c.args.dev.now) (g.D.BlockDev.state c.open_gate.new.dev) c.requires.fit c.open_gate.ensures.size there.0 there.1 out.1 c.note_all.new.self homes_is
    c.take_back.new.self c.take_back.result
    (ap (λ (l : LogView). l.sectors) left ∙ ap (λ (l : LogView). l.sectors) opened_is)
    (ap (λ (l : LogView). l.closing) left ∙ ap (λ (l : LogView). l.closing) opened_is)
    (ap (λ (l : LogView). l.tail) left ∙ ap (λ (l : LogView). l.tail) opened_is)
    (ap (λ (l : LogView). l.head) left ∙ ap (λ (l : LogView). l.head) opened_is ∙ ap (λ (x : Option Closing). k.log.head + closing_length x) there.1)
    (c.take_back.ensures.batch ∙ ap (λ (l : LogView). cond (has_spare l) (Some []) None) opened_is)

pub returns-in_err-open_gate-clause-fit : goal.returns-in_err-open_gate-clause-fit
returns-in_err-open_gate-clause-fit g c =
    let k = c.args.self.now in
    let out = subst (λ (j : Job). JobFits j k) c.requires.job c.requires.fit.job in
    let there = closing_out k.log.closing out.0 in
    let batch_is = same_batch k.log.closing there.0 c.in-Some.batch.now c.in-Some.ensures there.1 in
    let homes_is : c.note_all.new.self ≡ with_notes k.homes there.0.batch = c.note_all.ensures ∙ ap (with_notes k.homes) (c.entries.ensures ∙ batch_is) in
    gate_broken_fit c.note_laws.ensures k (g.D.BlockDev.state c.args.dev.now) (g.D.BlockDev.state c.open_gate.new.dev) c.requires.fit c.open_gate.ensures.size there.0 there.1 out.1 c.note_all.new.self homes_is
    c.open_gate.new.self c.in_err-open_gate.ensures.same

pub returns-clause-run : goal.returns-clause-run
returns-clause-run g c = λ o run.
    let k = c.args.self.now in
    run_with o (g.D.BlockDev.state c.args.dev.now) (g.D.BlockDev.state c.open_gate.new.dev) k run (omega (arith, c.in_ok-open_gate.ensures.put.count)) c.take_back.new.self c.note_all.new.self k.gathered c.take_back.result jobs.HeadOut k.committed k.closing (omega arith) run.order run.within

pub returns-in_err-open_gate-clause-run : goal.returns-in_err-open_gate-clause-run
returns-in_err-open_gate-clause-run g c = λ o run.
    let k = c.args.self.now in
    run_with o (g.D.BlockDev.state c.args.dev.now) (g.D.BlockDev.state c.open_gate.new.dev) k run (failed_later _ _ _ _ c.in_err-open_gate.ensures.failed) c.open_gate.new.self c.note_all.new.self k.gathered k.ready jobs.Broken k.committed k.closing (omega arith) run.order run.within

pub returns-clause-done : goal.returns-clause-done
returns-clause-done g c =
    let k = c.args.self.now in
    let out = subst (λ (j : Job). JobFits j k) c.requires.job c.requires.fit.job in
    let there = closing_out k.log.closing out.0 in
    let batch_is = same_batch k.log.closing there.0 c.in-Some.batch.now c.in-Some.ensures there.1 in
    let opened_is = c.in_ok-open_gate.ensures.opened in
    let homes_is : c.note_all.new.self ≡ with_notes k.homes (closing_batch k.log.closing) =
    c.note_all.ensures ∙ ap (with_notes k.homes) (c.entries.ensures ∙ batch_is) ∙ ap (λ (x : Option Closing). with_notes k.homes (closing_batch x)) (sym there.1) in
    let log_is : c.take_back.new.self ≡ record (opened k.log) { spare = false } = c.take_back.ensures.left ∙ ap (λ (l : LogView). record l { spare = l.spare && is_some l.closing }) opened_is in
    let ready_is : c.take_back.result ≡ Some [] = c.take_back.ensures.batch ∙ ap (λ (l : LogView). cond (has_spare l) (Some []) None) opened_is in
    λ i. record k { log = log_is i; homes = homes_is i; ready = ready_is i; job = jobs.HeadOut }

pub returns-in_err-open_gate-clause-few : goal.returns-in_err-open_gate-clause-few
returns-in_err-open_gate-clause-few g c = failed_few _ _ _ _ c.in_err-open_gate.ensures.failed

pub returns-in_err-open_gate-clause-later : goal.returns-in_err-open_gate-clause-later
returns-in_err-open_gate-clause-later g c = failed_later _ _ _ _ c.in_err-open_gate.ensures.failed
