use Rattle.std.proofs.Common.{ℕ, List, subst}
use Rattle.vx_dev.specs.declared.device.Operation.TheVariants.{Put}
use Rattle.vx_dev.specs.Tape.{Did}
use Rattle.vx_layout.specs.Supers.{volume_of}
use Rattle.vx_mkfs.proofs.Formatted.{formatted, left, on_ok}
use Rattle.vx_mkfs.proofs.formatting.make.Goals as goal

pub returns-clause-new : goal.returns-clause-new
returns-clause-new g c =
    let units = g.D.BlockDev.state c.put_units.new.dev in
    let head = g.D.BlockDev.state c.put.new.dev in
    let settled = g.D.BlockDev.state c.pass.new.dev in
    let super = g.D.BlockDev.state c.put-2.new.dev in
    let new = g.D.BlockDev.state c.pass-2.new.dev in
    let first = subst (λ (bytes : List ℕ). Did (Put 2 bytes) units head) c.head_sector.ensures c.in_ok-put.ensures.did in
    let third = subst (λ (bytes : List ℕ). Did (Put 0 bytes) settled super) c.write.ensures c.in_ok-put-2.ensures.did in
    on_ok c.pass-2.result _ _
    (λ last. formatted c.tape_laws.ensures c.args.superblock.now units head settled super new c.in_ok-put_units.ensures.units first c.in_ok-pass.ensures.did third last)
    c.pass-2.ensures.did

pub returns-clause-left : goal.returns-clause-left
returns-clause-left g c = λ clean.
    on_ok c.pass-2.result _ _
    (λ new. left c.args.superblock.now c.requires.is (g.D.BlockDev.state c.args.dev.now).size c.requires.size clean
    (λ image is. c.sound_laws.ensures.weaker (volume_of c.args.superblock.now) image (c.history_sound.ensures.formatted c.args.superblock.now image c.requires.is is))
    (λ image is. c.fresh_reads.ensures.reads c.args.superblock.now image c.requires.is is) (g.D.BlockDev.state c.pass-2.new.dev) new)
    (returns-clause-new g c)
