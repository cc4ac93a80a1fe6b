use Rattle.std.proofs.Common.{arith}
use Rattle.vx_alloc.proofs.Placing.{none_past_end}
use Rattle.vx_alloc.proofs.free_map.FreeMap.following.Goals as goal

pub returns-then-get-eq4294967295-clause-none : goal.returns-then-get-eq4294967295-clause-none
returns-then-get-eq4294967295-clause-none c = none_past_end c.args.self.now c.args.block (omega arith)
