use Rattle.std.proofs.Common.{◌≡◌, ◌<◌, ℕ, subst, arith}
use Rattle.std.specs.List.{flat_map, AllByRecursion}
use Rattle.vx_sound.specs.FirstFault.{numbers}
use Rattle.vx_sound.specs.Checks.{Holds, bitmap_checks}
use Rattle.vx_sound.proofs.Faults as faults
use Rattle.vx_check.proofs.Going.{no_read, read_on, still_readable, stops_at}
use Rattle.vx_check.proofs.bitmaps.check_bitmaps.Goals as goal

pub loop-u-init : goal.loop-u-init
loop-u-init g c = record { read = no_read (g.D.Sectors.view c.args.dev.now); known = λ strict image known. tt }

pub check_bitmap-requires-clause-readable : goal.check_bitmap-requires-clause-readable
check_bitmap-requires-clause-readable g c = still_readable c.args.volume.now (g.D.Sectors.view c.args.dev.now) (g.D.Sectors.view c.loop-u.dev) c.loop-u.invariant.read c.requires.readable

pub check_bitmap-requires-clause-marks : goal.check_bitmap-requires-clause-marks
check_bitmap-requires-clause-marks g c = λ image now. c.requires.marks image (c.loop-u.invariant.read.seen image now)

pub returns-in-Err-clause-finds : goal.returns-in-Err-clause-finds
returns-in-Err-clause-finds g c = λ strict image known.
    let less : c.loop-u.u < c.args.volume.now.units = omega arith in
    stops_at strict c.args.volume.now image bitmap_checks c.args.volume.now.units c.loop-u.u c.in-Err.stop less (c.loop-u.invariant.known strict image (c.check_bitmap.ensures.read.seen image known)) (c.in-Err.ensures.finds strict image known)

pub loop-u-preserved : goal.loop-u-preserved
loop-u-preserved g c = record {
  read = read_on (g.D.Sectors.view c.args.dev.now) (g.D.Sectors.view c.loop-u.dev) (g.D.Sectors.view c.check_bitmap.new.dev) c.loop-u.invariant.read c.check_bitmap.ensures.read;
  known = λ strict image known. faults.more_from_0 (Holds strict c.args.volume.now image) bitmap_checks c.loop-u.u (c.loop-u.invariant.known strict image (c.check_bitmap.ensures.read.seen image known)) (c.in-Ok.ensures.finds strict image known);
}

pub returns-clause-finds : goal.returns-clause-finds
returns-clause-finds g c = λ strict image known.
    let end : c.loop-u.u ≡ c.args.volume.now.units = omega arith in
    subst (λ (n : ℕ). AllByRecursion (Holds strict c.args.volume.now image) (flat_map bitmap_checks (numbers 0 n))) end (c.loop-u.invariant.known strict image known)
