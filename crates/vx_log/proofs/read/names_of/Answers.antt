use Rattle.std.proofs.Common.{arith}
use Rattle.vx_log.proofs.ReadSectors.{numbers_are}
use Rattle.vx_log.proofs.read.names_of.Goals as goal

pub returns : goal.returns
returns c = numbers_are c.args.count 16 c.args.sector.now c.loop-i.homes (omega (arith, c.requires, c.loop-i.invariant.long)) (λ k lt. c.loop-i.invariant.each k (omega (arith, lt, c.loop-i-test.false)))
