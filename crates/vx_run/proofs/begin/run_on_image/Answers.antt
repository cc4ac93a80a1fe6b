use Rattle.std.proofs.Common.{◌≡◌, ◌+◌, ◌<◌, [], length, None, refl, sym, ◌∙◌, ap, subst, inr, arith}
use Rattle.vx_dev.specs.Moments.{Told, Always}
use Rattle.vx_dev.specs.Tape as dev
use Rattle.vx_dev.specs.Tape.{Tape, now}
use Rattle.vx_log.specs.Logs.{LogView}
use Rattle.vx_model.specs.Legal.{opening}
use Rattle.vx_model.specs.Replays.{ReplaysAs}
use Rattle.vx_mount.specs.Views.{CoreView}
use Rattle.vx_replay.specs.LogReads.{IsRead, Shows}
use Rattle.vx_load.specs.Loads.{IsRefused}
use Rattle.vx_script.specs.declared.start.StartRefusal.{StartRefusal}
use Rattle.vx_stage.specs.Kernels.{IsLeftAs, IsLive}
use Rattle.vx_stage.specs.declared.kernel.Kernel.{Kernel}
use Rattle.vx_run.specs.Ends.{HasEnded, IsAsked, IsFoundState, IsMarked, begun_view, first_of, refused}
use Rattle.vx_run.specs.Mounted.{BeginsIn}
use Rattle.vx_run.specs.declared.words.Asked.{Asked}
use Rattle.vx_run.specs.declared.words.Verb.TheVariants as verb
use Rattle.vx_run.proofs.Finishing.{begun_is, played_from}
use Rattle.vx_run.proofs.Owning.{kept_own}
use Rattle.vx_run.proofs.Imaging.{ended_unloaded, found, left_as, mounted, rose_from, told_by}
use Rattle.vx_run.proofs.begin.run_on_image.Goals as goal

pub returns-in-Err-clause-ended : goal.returns-in-Err-clause-ended
returns-in-Err-clause-ended g c = λ s faults same asks.
    let d1 = g.D.BlockDev.state c.load.new.dev in
    let asked : IsAsked s verb.Mount = record { asked = record { verb = verb.Mount; logging = c.args.logging }; script = c.args.script; asks = asks; verb_is = refl } in
    subst (λ (why : StartRefusal). HasEnded s d1 faults (refused why)) (sym c.refusal_of.ensures)
    (ended_unloaded s d1 faults c.in-Err.why asked (subst (λ (x : dev.State). IsRefused x d1 c.in-Err.why) (sym same) c.in-Err.ensures.refused) (subst (λ (x : dev.State). IsRead x d1) (sym same) c.load.ensures.read))

pub returns-in-Err-mount_image-clause-ended : goal.returns-in-Err-mount_image-clause-ended
returns-in-Err-mount_image-clause-ended g c = λ s faults same asks.
    let d0 = g.D.BlockDev.state c.args.dev in
    let d1 = g.D.BlockDev.state c.load.new.dev in
    let d2 = g.D.BlockDev.state c.mount_image.new.dev in
    let l = c.in-Ok.loaded in
    let is = c.in-Ok.ensures.loaded in
    let read = c.load.ensures.read in
    let asked : IsAsked s verb.Mount = record { asked = record { verb = verb.Mount; logging = c.args.logging }; script = c.args.script; asks = asks; verb_is = refl } in
    let fewer = c.in-Err-mount_image.ensures.fewer in
    let count : d1.count ≡ s.device.count = read.count ∙ ap (λ (x : dev.State). x.count) (sym same) in
    let few : d2.count < first_of s verb.Mount = omega (arith, fewer, count) in
    inr (record {
      sizes = l.front.superblock;
      state = is.state;
      found = subst (λ (x : dev.State). IsFoundState x l.front.superblock is.state) (sym same) (found d0 l is);
      failed = record {
        asked = asked;
        rose = rose_from s.device.write_faults d1.write_faults d2.write_faults (read.writes ∙ ap (λ (x : dev.State). x.write_faults) (sym same)) c.in-Err-mount_image.ensures.cause.failed;
        fewer = few;
      };
    })

pub play-dev-requires-clause-begins : goal.play-dev-requires-clause-begins
play-dev-requires-clause-begins g c =
    let d0 = g.D.BlockDev.state c.args.dev in
    let d1 = g.D.BlockDev.state c.load.new.dev in
    let d2 = g.D.BlockDev.state c.mount_image.new.dev in
    let l = c.in-Ok.loaded in
    let is = c.in-Ok.ensures.loaded in
    let read = c.load.ensures.read in
    let made = c.in-Ok-mount_image.ensures in
    let k = c.in-Ok-mount_image.kernel in
    let log = c.in-Ok-memory_of.memory.kernel.log in
    let log_is = c.in-Ok-memory_of.ensures.log_is in
    let world = opening d2.count is.state in
    let left : (t : Tape) → Shows d0 t → IsLeftAs l.front.superblock is.state log.serial log.head (now t) = left_as d0 l is log.serial log.head (ap (λ (x : LogView). x.serial) log_is) (ap (λ (x : LogView). x.head) log_is) in
    let live : Told d2 (IsLive world k) = told_by d1 d2 (IsLive world k) c.mount_image.ensures.untold
    (λ t told. made.live is.state t (mounted d0 l is) told (left t (record { told = sym read.told ∙ told; certain = c.requires.certain }))) in
    record {
      world = world;
      begins = record {
        begun = record { phase = refl; next = refl; waiting = refl };
        run = made.run is.state (mounted d0 l is) is.is.nothing_waits;
        live = live;
        fit = made.fit;
        meta = is.meta;
        plain = (let well = is.is.well_formed in well.plain);
        nothing_waits = is.is.nothing_waits;
        first = ap (λ (x : Kernel). x.first) made.same;
      };
    }

pub returns-clause-ended : goal.returns-clause-ended
returns-clause-ended g c = λ s faults same asks.
    let d0 = g.D.BlockDev.state c.args.dev in
    let d1 = g.D.BlockDev.state c.load.new.dev in
    let d2 = g.D.BlockDev.state c.mount_image.new.dev in
    let d3 = g.D.BlockDev.state c.play-dev.result.dev in
    let l = c.in-Ok.loaded in
    let is = c.in-Ok.ensures.loaded in
    let read = c.load.ensures.read in
    let made = c.in-Ok-mount_image.ensures in
    let k = c.in-Ok-mount_image.kernel in
    let log = c.in-Ok-memory_of.memory.kernel.log in
    let log_is = c.in-Ok-memory_of.ensures.log_is in
    let world = opening d2.count is.state in
    let left : (t : Tape) → Shows d0 t → IsLeftAs l.front.superblock is.state log.serial log.head (now t) = left_as d0 l is log.serial log.head (ap (λ (x : LogView). x.serial) log_is) (ap (λ (x : LogView). x.head) log_is) in
    let live : Told d2 (IsLive world k) = told_by d1 d2 (IsLive world k) c.mount_image.ensures.untold
    (λ t told. made.live is.state t (mounted d0 l is) told (left t (record { told = sym read.told ∙ told; certain = c.requires.certain }))) in
    let begins : BeginsIn world k l.meta d2 = record {
      begun = record { phase = refl; next = refl; waiting = refl };
      run = made.run is.state (mounted d0 l is) is.is.nothing_waits;
      live = live;
      fit = made.fit;
      meta = is.meta;
      plain = (let well = is.is.well_formed in well.plain);
      nothing_waits = is.is.nothing_waits;
      first = ap (λ (x : Kernel). x.first) made.same;
    } in
    let asked : Asked = record { verb = verb.Mount; logging = c.args.logging } in
    let units = l.front.superblock.units in
    let count0 : d2.count ≡ d0.count + 3 = made.count ∙ ap (λ n. n + 3) read.count in
    let count_is : d2.count ≡ first_of s verb.Mount = count0 ∙ ap (λ (x : dev.State). x.count + 3) (sym same) in
    let view0 : CoreView = record { lines = c.args.script.lines; history = []; logging = k.logging; count = d2.count; write_faults = d2.write_faults; disabled = None; locks = c.in-Ok-memory_of.memory.turns.locks } in
    let view_is : view0 ≡ begun_view s asked units c.args.script.lines =
    begun_is view0 (begun_view s asked units c.args.script.lines) refl refl (ap (λ (x : Kernel). x.logging) made.same) count_is
    (made.cause.fine ∙ read.writes ∙ ap (λ (x : dev.State). x.write_faults) (sym same)) refl c.in-Ok-memory_of.ensures.turns.locks in
    let size_is : is.state.layout.device_sectors ≡ s.device.size = is.is.device ∙ ap (λ (x : dev.State). x.size) (sym same) in
    let well = is.is.well_formed in
    let kept : (t : Tape) → Shows d0 t → Told d2 (Always (length t.ops + 1) (λ m image. ReplaysAs d0.size image is.state.tree)) = λ t shown.
    subst (λ n. Told d2 (Always (length t.ops + 1) (λ m image. ReplaysAs n image is.state.tree))) is.is.device (kept_own c.state_reads.ensures.own is.state well.laid_out well.plain d2 (length t.ops + 1) (c.mount_image.ensures.kept is.state t (mounted d0 l is) (read.told ∙ shown.told) (left t shown))) in
    let marked : IsMarked d0 is.state d2 = record { count = count0; kept = kept } in
    record {
      asked = asked;
      script = c.args.script;
      asks = asks;
      world = opening (first_of s verb.Mount) is.state;
      units = units;
      begins = record {
        sizes = l.front.superblock;
        state = is.state;
        found = subst (λ (x : dev.State). IsFoundState x l.front.superblock is.state) (sym same) (found d0 l is);
        begun = d2;
        marked = subst (λ (x : dev.State). IsMarked x is.state d2) (sym same) marked;
        world_is = refl;
        units_are = refl;
      };
      played = played_from world (opening (first_of s verb.Mount) is.state) view0 (begun_view s asked units c.args.script.lines) c.args.script is.state.layout.device_sectors s.device.size d3 c.play-dev.result.disabled c.play-dev.result.history.items
          (ap (λ n. opening n is.state) count_is) view_is size_is (c.play-dev.ensures.played world begins);
    }
