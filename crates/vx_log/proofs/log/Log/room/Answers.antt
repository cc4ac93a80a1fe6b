use Rattle.vx_log.proofs.LogLemmas.{tail_below}
use Rattle.vx_log.proofs.log.Log.room.Goals as goal

pub overflow_sub-result : goal.overflow_sub-result
overflow_sub-result c = tail_below _ c.self.invariant.0
