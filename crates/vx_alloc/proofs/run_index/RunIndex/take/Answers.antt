use Rattle.std.proofs.Common.{refl}
use Rattle.vx_alloc.proofs.Joins.{back_clear}
use Rattle.vx_alloc.proofs.run_index.RunIndex.take.Goals as goal

pub put_back-requires-2-clause-clear : goal.put_back-requires-2-clause-clear
put_back-requires-2-clause-clear c =
    let held = c.remove_holder-run in
    back_clear c.args.self.now.runs held.new.self.runs c.put_back.new.self.runs held.result c.args.start c.args.len _ _ _ c.requires.some c.requires.covered held.ensures.has held.ensures.covers held.ensures.clear refl refl refl c.put_back.ensures.covers
