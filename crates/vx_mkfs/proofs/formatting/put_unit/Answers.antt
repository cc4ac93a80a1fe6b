use Rattle.std.proofs.Common.{◌≡◌, ◌+◌, ◌<◌, ℕ, List, subst, arith, rules}
use Rattle.vx_dev.specs.declared.device.Operation.TheVariants.{Put}
use Rattle.vx_dev.specs.Tape.{Did}
use Rattle.vx_layout.specs.Supers.{volume_of}
use Rattle.vx_dev.specs.Moments.{Told}
use Rattle.vx_model.specs.Contents.{unit_bytes}
use Rattle.vx_mkfs.proofs.Formatted.{IsWithin, unit_more, unit_done}
use Rattle.vx_mkfs.proofs.formatting.put_unit.Goals as goal

pub loop-i-preserved : goal.loop-i-preserved
loop-i-preserved g c =
    let old = g.D.BlockDev.state c.loop-i.dev in
    let new = g.D.BlockDev.state c.put.new.dev in
    let superblock = c.args.superblock.now in
    let low : c.loop-i.i < 66 = omega (arith, c.loop-i-test.true) in
    let bytes = subst (λ (bytes : List ℕ). Did (Put (c.get-start.result + c.loop-i.i) bytes) old new) c.unit_sector.ensures c.in_ok-put.ensures.did in
    let there = subst (λ (start : ℕ). Did (Put (start + c.loop-i.i) (unit_bytes 2 c.args.u c.loop-i.i)) old new) c.loop-i.invariant.start bytes in
    record {
      start = c.loop-i.invariant.start;
      limit = omega (arith, c.loop-i-test.true);
      within = unit_more c.tape_laws.ensures superblock c.args.u c.loop-i.i old new low there c.loop-i.invariant.within;
      onward = search rules;
      count = omega (arith, c.in_ok-put.ensures.count, c.loop-i.invariant.count);
      fine = search rules;
    }

pub returns-clause-units : goal.returns-clause-units
returns-clause-units g c =
    let v = volume_of c.args.superblock.now in
    let state = g.D.BlockDev.state c.loop-i.dev in
    let last : c.loop-i.i ≡ 66 = omega (arith, c.loop-i.auto.i-end, c.loop-i-test.false) in
    unit_done v c.args.u state (subst (λ (i : ℕ). Told state (IsWithin v c.args.u i)) last c.loop-i.invariant.within)
