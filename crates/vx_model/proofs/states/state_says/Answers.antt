use Rattle.vx_model.proofs.SaidState.{state_says}
use Rattle.vx_model.proofs.states.state_says.Goals as goal

pub returns : goal.returns
returns c = state_says (record { block = c.claims.ensures.block; map_block = c.claims.ensures.map_block; decoding = c.decoding_laws.ensures })
