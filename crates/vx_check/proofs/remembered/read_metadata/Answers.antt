use Rattle.std.proofs.Common.{refl}
use Rattle.std.specs.Prelude.{Some}
use Rattle.vx_dev.specs.Tape.{now}
use Rattle.vx_check.specs.Remembering.{seen_of}
use Rattle.vx_check.proofs.Answering.{image_found, found_agrees, found_shown, device_agrees, one_answer, nothing_read, says_found, on_device, one_image}
use Rattle.vx_check.proofs.remembered.read_metadata.Goals as goal

pub returns-in_default-clause-answered : goal.returns-in_default-clause-answered
returns-in_default-clause-answered g c = nothing_read c.args.volume.now (g.D.BlockDev.state c.args.dev.now)

pub returns-clause-found : goal.returns-clause-found
returns-clause-found g c =
    let v = c.args.volume.now in
    let d = g.D.BlockDev.state c.args.dev.now in
    let e = g.D.BlockDev.state c.check_metadata.new.dev.dev.now in
    let sectors = c.sectors.result in
    let kept = c.check_metadata.new.dev.kept.now in
    let seen = Some (seen_of kept) in
    let says = says_found v seen c.check_metadata.result c.check_metadata.ensures.finds c.check_metadata.ensures.inodes c.check_metadata.ensures.children (c.check_metadata.ensures.contents refl) in
    one_image v seen d (image_found _ _ d e sectors c.in-Ok.kept kept c.check_metadata.ensures.read c.in-Ok.ensures) (found_agrees _ _ d e sectors c.in-Ok.kept kept c.check_metadata.ensures.read c.in-Ok.ensures)
    (found_shown _ _ d e sectors c.in-Ok.kept kept c.check_metadata.ensures.read c.in-Ok.ensures) c.check_metadata.result says c.check_metadata.ensures.inodes_count (c.check_metadata.ensures.contents_count refl)

pub returns-clause-shown : goal.returns-clause-shown
returns-clause-shown g c =
    let v = c.args.volume.now in
    let d = g.D.BlockDev.state c.args.dev.now in
    let e = g.D.BlockDev.state c.check_metadata.new.dev.dev.now in
    let kept = c.check_metadata.new.dev.kept.now in
    let seen = Some (seen_of kept) in
    let says = says_found v seen c.check_metadata.result c.check_metadata.ensures.finds c.check_metadata.ensures.inodes c.check_metadata.ensures.children (c.check_metadata.ensures.contents refl) in
    on_device v seen d (device_agrees _ _ d e c.sectors.result c.in-Ok.kept kept c.check_metadata.ensures.read c.in-Ok.ensures) c.check_metadata.result says

pub returns-clause-answered : goal.returns-clause-answered
returns-clause-answered g c =
    let d = g.D.BlockDev.state c.args.dev.now in
    let e = g.D.BlockDev.state c.check_metadata.new.dev.dev.now in
    one_answer _ _ d e c.sectors.result c.in-Ok.kept c.check_metadata.new.dev.kept.now c.check_metadata.ensures.read c.in-Ok.ensures c.args.volume.now c.check_metadata.result c.check_metadata.ensures.finds

pub returns-clause-finds : goal.returns-clause-finds
returns-clause-finds g c = λ t told none.
    let d = g.D.BlockDev.state c.args.dev.now in
    let e = g.D.BlockDev.state c.check_metadata.new.dev.dev.now in
    c.check_metadata.ensures.finds (now t) (device_agrees _ _ d e c.sectors.result c.in-Ok.kept c.check_metadata.new.dev.kept.now c.check_metadata.ensures.read c.in-Ok.ensures t told none)
