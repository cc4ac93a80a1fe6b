use Rattle.vx_alloc.proofs.Placing.{none_free, placed_free}
use Rattle.vx_alloc.proofs.free_map.FreeMap.take_next.Goals as goal

pub take_block-requires : goal.take_block-requires
take_block-requires c = placed_free c.args.self.now c.args.after c.args.first c.in-Some.b c.in-Some.ensures.found

pub returns-in-Some-clause-free : goal.returns-in-Some-clause-free
returns-in-Some-clause-free c = placed_free c.args.self.now c.args.after c.args.first c.in-Some.b c.in-Some.ensures.found

pub returns-in-None-clause-full : goal.returns-in-None-clause-full
returns-in-None-clause-full c = none_free c.args.self.now c.in-None.ensures.full
