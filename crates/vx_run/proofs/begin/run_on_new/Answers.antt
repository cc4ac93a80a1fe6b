use Rattle.std.proofs.Common.{◌≡◌, ◌+◌, ◌≤◌, [], None, refl, sym, ◌∙◌, ap, subst, arith}
use Rattle.vx_dev.specs.Tape as dev
use Rattle.vx_model.specs.Legal.{opening}
use Rattle.vx_model.specs.State.{directory_blocks, fresh_of}
use Rattle.vx_mount.specs.Views.{CoreView}
use Rattle.vx_stage.specs.declared.kernel.Kernel.{Kernel}
use Rattle.vx_run.specs.Ends.{beginning, begun_view, first_of, new_super}
use Rattle.vx_run.specs.Mounted.{BeginsIn}
use Rattle.vx_run.specs.declared.words.Asked.{Asked}
use Rattle.vx_run.specs.declared.words.Verb.TheVariants as verb
use Rattle.vx_run.proofs.Finishing.{begun_is, played_from}
use Rattle.vx_run.proofs.begin.run_on_new.Goals as goal

pub play-dev-requires-clause-begins : goal.play-dev-requires-clause-begins
play-dev-requires-clause-begins g c =
    let d0 = g.D.BlockDev.state c.args.dev in
    let d1 = g.D.BlockDev.state c.new_mount.new.dev in
    record {
      world = opening d1.count (fresh_of new_super directory_blocks d0.size);
      begins = record {
        begun = record { phase = refl; next = refl; waiting = refl };
        run = c.in-Ok-new_mount.ensures.run;
        live = c.in-Ok-new_mount.ensures.live;
        fit = c.in-Ok-new_mount.ensures.fit;
        meta = c.in-Ok.ensures.meta d0.size;
        plain = c.fresh_reads.ensures.plain new_super directory_blocks d0.size;
        nothing_waits = λ b. refl;
        first = ap (λ (x : Kernel). x.first) c.in-Ok-new_mount.ensures.same;
      };
    }

pub returns-clause-ended : goal.returns-clause-ended
returns-clause-ended g c = λ s faults same asks.
    let d0 = g.D.BlockDev.state c.args.dev in
    let d1 = g.D.BlockDev.state c.new_mount.new.dev in
    let d2 = g.D.BlockDev.state c.play-dev.result.dev in
    let k = c.in-Ok-new_mount.kernel in
    let world = opening d1.count (fresh_of new_super directory_blocks d0.size) in
    let begins : BeginsIn world k c.in-Ok.memory.0 d1 = record {
      begun = record { phase = refl; next = refl; waiting = refl };
      run = c.in-Ok-new_mount.ensures.run;
      live = c.in-Ok-new_mount.ensures.live;
      fit = c.in-Ok-new_mount.ensures.fit;
      meta = c.in-Ok.ensures.meta d0.size;
      plain = c.fresh_reads.ensures.plain new_super directory_blocks d0.size;
      nothing_waits = λ b. refl;
      first = ap (λ (x : Kernel). x.first) c.in-Ok-new_mount.ensures.same;
    } in
    let asked : Asked = record { verb = verb.Fresh; logging = c.args.logging } in
    let count_is : d1.count ≡ first_of s verb.Fresh = c.in-Ok-new_mount.ensures.count ∙ ap (λ (x : dev.State). x.count + 70) (sym same) in
    let world_is : world ≡ beginning s = ap (λ n. opening n (fresh_of new_super directory_blocks d0.size)) count_is ∙ ap (λ (x : dev.State). opening (first_of s verb.Fresh) (fresh_of new_super directory_blocks x.size)) (sym same) in
    let view0 : CoreView = record { lines = c.args.script.lines; history = []; logging = k.logging; count = d1.count; write_faults = d1.write_faults; disabled = None; locks = c.in-Ok.memory.1.turns.locks } in
    let view_is : view0 ≡ begun_view s asked 1 c.args.script.lines =
    begun_is view0 (begun_view s asked 1 c.args.script.lines) refl refl (ap (λ (x : Kernel). x.logging) c.in-Ok-new_mount.ensures.same) count_is
    (c.in-Ok-new_mount.ensures.cause.fine ∙ ap (λ (x : dev.State). x.write_faults) (sym same)) refl c.in-Ok.ensures.memory.turns.locks in
    let size_is : d0.size ≡ s.device.size = ap (λ (x : dev.State). x.size) (sym same) in
    let enough = c.if-have-lt-SECTORS.false in
    let have = c.sectors-have.ensures in
    let size : 9220 ≤ d0.size = omega (arith, enough, have) in
    record {
      asked = asked;
      script = c.args.script;
      asks = asks;
      world = beginning s;
      units = 1;
      begins = record { size = subst (λ n. 9220 ≤ n) size_is size; world_is = refl; units_are = refl };
      played = played_from world (beginning s) view0 (begun_view s asked 1 c.args.script.lines) c.args.script d0.size s.device.size d2 c.play-dev.result.disabled c.play-dev.result.history.items world_is view_is size_is (c.play-dev.ensures.played world begins);
    }
