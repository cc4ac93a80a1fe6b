use Rattle.vx_filemaps.proofs.Gives.{can_wait, wait, can_go, go}
use Rattle.vx_filemaps.proofs.laws.give_laws.Goals as goal

pub returns : goal.returns
returns c = record { can_wait = can_wait; wait = wait; can_go = can_go; go = go }
