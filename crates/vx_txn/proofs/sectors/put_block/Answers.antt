use Rattle.std.proofs.Common.{inr}
use Rattle.vx_txn.proofs.Gains.{set_room}
use Rattle.vx_txn.proofs.sectors.put_block.Goals as goal

pub set-requires-2 : goal.set-requires-2
set-requires-2 c = inr (set_room c.args.batch.now c.set.new.self _ _ c.set.ensures c.requires.room)
