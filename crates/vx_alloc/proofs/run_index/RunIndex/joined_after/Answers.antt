use Rattle.std.proofs.Common.{refl}
use Rattle.vx_alloc.proofs.Joins.{joined_back}
use Rattle.vx_alloc.proofs.run_index.RunIndex.joined_after.Goals as goal

pub returns-clause-joined : goal.returns-clause-joined
returns-clause-joined c =
    let after = c.remove_holder-after in
    joined_back c.args.self.now.room c.args.self.now.runs after.new.self.runs c.args.run after.result _ _ c.requires.some c.requires.free c.requires.before refl after.ensures.has after.ensures.covers after.ensures.clear after.ensures.end refl
