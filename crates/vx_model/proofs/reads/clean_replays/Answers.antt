use Rattle.vx_model.proofs.Replaying.{clean_replays}
use Rattle.vx_model.proofs.reads.clean_replays.Goals as goal

pub returns : goal.returns
returns c = clean_replays
