use Rattle.std.proofs.Common.{◌≡◌, ◌*◌, ◌≤◌, ◌<◌, ◌^◌, not, ◌&&◌, [], None, is_some, refl, sym, ◌∙◌, ap, subst, arith}
use Rattle.vx_dev.specs.Moments.{Told, Always}
use Rattle.vx_model.specs.Allowed.{IsAllowed}
use Rattle.vx_model.specs.Legal.{after_all}
use Rattle.vx_mount.specs.Cores.{Opening, IsDriven}
use Rattle.vx_mount.specs.Runs.{TakesLines, AnswersLines}
use Rattle.vx_mount.specs.Sessions.{is_stopped}
use Rattle.vx_mount.specs.Views.{CoreView}
use Rattle.vx_core.specs.Facts as core
use Rattle.vx_stage.specs.declared.kernel.Kernel.{Kernel}
use Rattle.vx_calls.specs.declared.mount.Mount.{Mount}
use Rattle.vx_calls.specs.Mounts.{IsAt}
use Rattle.vx_calls.specs.Potentials.{debt}
use Rattle.vx_run.specs.Ends.{schedule_of}
use Rattle.vx_run.specs.Mounted.{Keeps, view_of}
use Rattle.vx_run.proofs.Scripts.{core_script, all_lines}
use Rattle.vx_run.proofs.Founding.{meta_new, plain_new, none_promised, keeps_new}
use Rattle.vx_run.proofs.Finishing.{begun_is, none_held, later_than, came_between, ended_by, never_both, in_order, fine_if, rose_if, phase_unmounted, told_left}
use Rattle.vx_run.proofs.turns.play.Goals as goal

pub new-core-requires-clause-script : goal.new-core-requires-clause-script
new-core-requires-clause-script g c = core_script c.args.script c.requires.form

pub new-core-requires-clause-free : goal.new-core-requires-clause-free
new-core-requires-clause-free g c = let m = c.requires.memory in none_held (128 * m.0) c.args.memory.locks m.1.locks

pub new-core-requires-clause-room : goal.new-core-requires-clause-room
new-core-requires-clause-room g c =
    let o = c.requires.begins.world in
    let b = c.requires.begins.begins in
    let d0 = g.D.BlockDev.state c.args.dev in
    let k = c.args.kernel in
    let m = c.new-mount.result in
    let room = c.args.room in
    let new = c.requires.new in
    let kernel_is : m.kernel ≡ k = ap (λ (x : Mount). x.kernel) c.new-mount.ensures.same in
    let owes : debt m ≡ 0 = c.new-mount.ensures.debt o.state b.meta b.nothing_waits new.gathered new.homes new.closing in
    let none = none_promised o room d0 k m kernel_is new.history owes in
    omega (arith, c.requires.room, none)

pub drive-requires-clause-sound : goal.drive-requires-clause-sound
drive-requires-clause-sound g c =
    let o = c.requires.begins.world in
    let b = c.requires.begins.begins in
    let d0 = g.D.BlockDev.state c.args.dev in
    let k = c.args.kernel in
    let m = c.new-mount.result in
    let room = c.args.room in
    let new = c.requires.new in
    let kernel_is : m.kernel ≡ k = ap (λ (x : Mount). x.kernel) c.new-mount.ensures.same in
    let owes : debt m ≡ 0 = c.new-mount.ensures.debt o.state b.meta b.nothing_waits new.gathered new.homes new.closing in
    let at : IsAt o d0 m = c.new-mount.ensures.at o d0 b.run b.live b.fit (meta_new o k c.args.meta new.history b.meta) (plain_new o k new.history b.plain) in
    let small : room < 2 ^ 32 = (let all = all_lines c.args.script c.requires.form in omega (arith, all, c.requires.room)) in
    let keeps1 : Keeps o room m d0 = keeps_new o room d0 k m kernel_is new.history owes at c.requires.capacity small b.first b.begun.phase in
    let opened : Opening = record { world = o; write_faults = d0.write_faults; logging = k.logging } in
    c.new-core.ensures.sound opened b.begun keeps1

pub returns-clause-short : goal.returns-clause-short
returns-clause-short g c =
    let o = c.requires.begins.world in
    let b = c.requires.begins.begins in
    let d0 = g.D.BlockDev.state c.args.dev in
    let k = c.args.kernel in
    let m = c.new-mount.result in
    let room = c.args.room in
    let new = c.requires.new in
    let kernel_is : m.kernel ≡ k = ap (λ (x : Mount). x.kernel) c.new-mount.ensures.same in
    let owes : debt m ≡ 0 = c.new-mount.ensures.debt o.state b.meta b.nothing_waits new.gathered new.homes new.closing in
    let at : IsAt o d0 m = c.new-mount.ensures.at o d0 b.run b.live b.fit (meta_new o k c.args.meta new.history b.meta) (plain_new o k new.history b.plain) in
    let small : room < 2 ^ 32 = (let all = all_lines c.args.script c.requires.form in omega (arith, all, c.requires.room)) in
    let keeps1 : Keeps o room m d0 = keeps_new o room d0 k m kernel_is new.history owes at c.requires.capacity small b.first b.begun.phase in
    let opened : Opening = record { world = o; write_faults = d0.write_faults; logging = m.kernel.logging } in
    let begun = c.new-core.ensures.kept opened b.begun keeps1 refl refl in
    let kept = c.unmount.ensures.kept opened (c.drive.ensures.kept opened begun) in
    let few = kept.facts.keeps.few in
    let bound = kept.facts.keeps.small in
    omega (arith, few, bound)

pub returns-clause-played : goal.returns-clause-played
returns-clause-played g c = λ o b.
    let d0 = g.D.BlockDev.state c.args.dev in
    let k = c.args.kernel in
    let m = c.new-mount.result in
    let room = c.args.room in
    let new = c.requires.new in
    let kernel_is : m.kernel ≡ k = ap (λ (x : Mount). x.kernel) c.new-mount.ensures.same in
    let owes : debt m ≡ 0 = c.new-mount.ensures.debt o.state b.meta b.nothing_waits new.gathered new.homes new.closing in
    let at : IsAt o d0 m = c.new-mount.ensures.at o d0 b.run b.live b.fit (meta_new o k c.args.meta new.history b.meta) (plain_new o k new.history b.plain) in
    let small : room < 2 ^ 32 = (let all = all_lines c.args.script c.requires.form in omega (arith, all, c.requires.room)) in
    let keeps1 : Keeps o room m d0 = keeps_new o room d0 k m kernel_is new.history owes at c.requires.capacity small b.first b.begun.phase in
    let opened : Opening = record { world = o; write_faults = d0.write_faults; logging = k.logging } in
    let mode1 : m.kernel.logging ≡ k.logging = ap (λ (x : Kernel). x.logging) kernel_is in
    let begun = c.new-core.ensures.kept opened b.begun keeps1 refl mode1 in
    let kept = c.unmount.ensures.kept opened (c.drive.ensures.kept opened begun) in
    let last = c.unmount.new.core in
    let d = g.D.BlockDev.state last.mount.dev in
    let m2 = last.mount.mount in
    let h = m2.kernel.history.items in
    let v = view_of last.mount.room m2 d in
    let keeps = kept.facts.keeps in
    let run = keeps.at.run in
    let off_is : c.is_some-disabled.result ≡ is_some m2.disabled = c.is_some-disabled.ensures in
    let view0 : CoreView = record { lines = c.args.script.lines; history = []; logging = k.logging; count = d0.count; write_faults = d0.write_faults; disabled = None; locks = c.args.memory.locks } in
    let core0 = c.new-core.result in
    let lines0 : core.view_of (view_of core0.mount.room core0.mount.mount (g.D.BlockDev.state core0.mount.dev)) core0.lines core0.locks ≡ view0 =
    begun_is (core.view_of (view_of core0.mount.room core0.mount.mount (g.D.BlockDev.state core0.mount.dev)) core0.lines core0.locks) view0
    c.new-core.ensures.lines (ap (λ x. x.mount.kernel.history.items) c.new-core.ensures.mount ∙ ap (λ (x : Kernel). x.history.items) kernel_is ∙ new.history)
    (ap (λ x. x.mount.kernel.logging) c.new-core.ensures.mount ∙ mode1)
    (ap (λ x. (g.D.BlockDev.state x.dev).count) c.new-core.ensures.mount) (ap (λ x. (g.D.BlockDev.state x.dev).write_faults) c.new-core.ensures.mount)
    (ap (λ x. x.mount.disabled) c.new-core.ensures.mount ∙ ap (λ (x : Mount). x.disabled) c.new-mount.ensures.same) c.new-core.ensures.locks in
    let mid = c.drive.new.core in
    let view1 : CoreView = core.view_of (view_of mid.mount.room mid.mount.mount (g.D.BlockDev.state mid.mount.dev)) mid.lines mid.locks in
    let view2 : CoreView = core.view_of v last.lines last.locks in
    let driven : IsDriven view0 (schedule_of c.args.script.schedule) view1 = subst (λ a. IsDriven view0 a view1) c.actors.ensures (subst (λ a. IsDriven a c.actors.result.now view1) lines0 c.drive.ensures.driven) in
    let takes0 = subst (λ (a : CoreView). TakesLines a.lines a.history) (sym lines0) (c.lines_of_turns.ensures.none c.args.script.lines) in
    let answered1 : AnswersLines c.args.script.lines view1.history = subst (λ (a : CoreView). AnswersLines a.lines view1.history) lines0 (c.drive.ensures.answers takes0) in
    let answered2 : AnswersLines view1.lines view2.history = c.unmount.ensures.answers (subst (λ l. AnswersLines l view1.history) (sym driven.turns.same_lines) answered1) in
    record {
      legal = run.legal;
      taken = record { middle = view1; driven = driven; end = view2; left = c.unmount.ensures.unmounted; history_is = refl; count_is = refl; write_faults_is = refl; disabled_is = sym off_is };
      answers = subst (λ l. AnswersLines l h) driven.turns.same_lines answered2;
      ended_by = ended_by o v last.lines view2.lines last.locks last.stopped kept.facts.course kept.order.ended c.unmount.ensures.unmounted.ended ∙ ap (λ b. not b && not (is_stopped h)) (sym off_is);
      never_both = λ on. never_both o v view2.lines last.stopped kept.facts.course kept.order.ended (sym off_is ∙ on);
      faults = in_order m2.disabled v d view2.lines refl refl kept.order.order;
      fine = λ off. fine_if d0.write_faults d.write_faults m2.disabled kept.order.faults (sym off_is ∙ off);
      rose = λ on. rose_if d0.write_faults d.write_faults m2.disabled kept.order.faults (sym off_is ∙ on);
      later = (let low : o.at ≤ (after_all o h).at = later_than o h run.legal in let high = run.at in omega (arith, low, high));
      came = came_between o h d.count run.legal run.come;
      crash = subst (λ mode. Told d (Always o.at (IsAllowed mode o h))) kept.logging
          (subst (λ n. Told d (Always n (IsAllowed m2.kernel.logging o h))) keeps.first (c.facts.ensures.crash o run keeps.at.live));
      clean = λ yes. (let left = keeps.left (phase_unmounted (after_all o h).phase yes) in told_left c.allowed_laws.ensures c.state_reads.ensures.own o m2.kernel d run.mounted_now.consistent.laid_out keeps.at.plain left.job left.committed keeps.at.live);
    }
