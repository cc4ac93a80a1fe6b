use Rattle.std.proofs.Common.{◌≡◌, ◌<◌, ◌∙◌, false, List, [], length, ℕ, refl, sym, subst, arith}
use Rattle.std.specs.Prelude.{All, IfSome, IsSome}
use Rattle.std.proofs.lemmas.Bool.{ne_eqb}
use Rattle.std.proofs.lemmas.List.Elements.{All-nil}
use Rattle.vx_layout.specs.LogForms.{log_length}
use Rattle.vx_log.specs.Logs.{LogView, is_body_out}
use Rattle.vx_layout.specs.LogForms.{AfterImage}
use Rattle.vx_dev.specs.Moments.{Told}
use Rattle.vx_log.specs.Logs.{closed}
use Rattle.std.proofs.Common.{ap}
use Rattle.vx_stage.specs.declared.kernel.Job.{Job}
use Rattle.vx_stage.specs.declared.kernel.Job.TheVariants.{Body}
use Rattle.vx_stage.specs.Kernels.{IsInside, JobFits, IsLive}
use Rattle.vx_stage.proofs.Closes.{run_with, close_live, ready_empty}
use Rattle.vx_stage.proofs.kernel.Kernel.close.Goals as goal

pub returns-clause-live : goal.returns-clause-live
returns-clause-live c = λ o d run told.
    let k = c.args.self.now in
    let fits = subst (λ (j : Job). JobFits j k) c.requires.job c.requires.fit.job in
    let empty : c.replace-batch.new.dest ≡ [] = c.replace-batch.ensures.after ∙ ready_empty k.ready c.in-Some.batch c.in-Some.ensures.value fits.2 in
    subst (λ (g : List AfterImage). Told d (IsLive o (record k { log = c.close_batch.new.self; gathered = g; ready = c.take.new.self; job = Body; closing = c.len.result }))) (sym empty)
    (subst (λ (n : ℕ). Told d (IsLive o (record k { log = c.close_batch.new.self; gathered = []; ready = c.take.new.self; job = Body; closing = n }))) (sym (c.len.ensures ∙ k.history.ok.0))
    (close_live o d k run c.requires.job fits.1 c.close_batch.new.self c.take.new.self (c.close_batch.ensures ∙ ap (closed k.log) c.replace-batch.ensures.value) told))

pub returns-clause-run : goal.returns-clause-run
returns-clause-run c = λ o d run.
    let k = c.args.self.now in
    run_with o d d k run (omega arith) c.close_batch.new.self k.homes c.replace-batch.new.dest c.take.new.self Body k.committed c.len.result (omega arith) (omega (arith, run.order, run.within, c.len.ensures, k.history.ok.0)) (omega (arith, c.len.ensures, k.history.ok.0))

-- the first stage has something to write
unwritten : (batch : List AfterImage) (log log2 : LogView) (gathered : List AfterImage) → log2 ≡ closed log batch → batch ≡ gathered → 0 < length gathered → is_body_out log2.closing ≡ false
unwritten batch log log2 gathered is same some = ap (λ (l : LogView). is_body_out l.closing) is ∙ ne_eqb 0 (log_length (length batch)) (λ none. omega (arith, none, some, ap (λ (b : List AfterImage). length b) same))

pub returns-clause-fit : goal.returns-clause-fit
returns-clause-fit c =
    let k = c.args.self.now in
    let fits = subst (λ (j : Job). JobFits j k) c.requires.job c.requires.fit.job in
    let empty : c.replace-batch.new.dest ≡ [] = c.replace-batch.ensures.after ∙ ready_empty k.ready c.in-Some.batch c.in-Some.ensures.value fits.2 in
    let log : c.close_batch.new.self ≡ closed k.log c.replace-batch.result = c.close_batch.ensures in
    record {
      sizes = c.requires.fit.sizes;
      sectors = ap (λ (l : LogView). l.sectors) log ∙ c.requires.fit.sectors;
      homes = c.requires.fit.homes;
      gathered = subst (All (IsInside k.sizes)) (sym empty) (All-nil (IsInside k.sizes));
      batch = subst (λ (l : LogView). IfSome l.closing (λ x. All (IsInside k.sizes) x.batch)) (sym log) (subst (All (IsInside k.sizes)) (sym c.replace-batch.ensures.value) c.requires.fit.gathered);
      job = (
        subst (λ (l : LogView). IsSome l.closing) (sym log) refl,
        omega (arith, fits.3, ap (λ (l : LogView). l.tail) log, ap (λ (l : LogView). l.head) log),
        unwritten c.replace-batch.result k.log c.close_batch.new.self k.gathered log c.replace-batch.ensures.value c.requires.some,
      );
    }
