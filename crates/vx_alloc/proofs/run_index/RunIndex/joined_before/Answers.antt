use Rattle.std.proofs.Common.{refl, arith}
use Rattle.vx_alloc.proofs.Joins.{joined_front}
use Rattle.vx_alloc.proofs.run_index.RunIndex.joined_before.Goals as goal

pub returns-clause-joined : goal.returns-clause-joined
returns-clause-joined c =
    let before = c.remove_holder-before in
    joined_front c.args.self.now.runs before.new.self.runs before.result c.args.run _ (omega arith) c.requires.some c.requires.free before.ensures.has before.ensures.covers before.ensures.clear refl
