use Rattle.vx_model.proofs.Claims.{claim_law, block_law, map_law, owned_law}
use Rattle.vx_model.proofs.BlockClaims.{claimed_on_device, device_within}
use Rattle.vx_model.proofs.states.claims.Goals as goal

pub returns-clause-claimed : goal.returns-clause-claimed
returns-clause-claimed c s n k it is at = claim_law s is n k it at

pub returns-clause-block : goal.returns-clause-block
returns-clause-block c s n i d is at = block_law s is n i d at

pub returns-clause-map_block : goal.returns-clause-map_block
returns-clause-map_block c s n k it is at = map_law s is n k it at

pub returns-clause-owned : goal.returns-clause-owned
returns-clause-owned c s b is on_device = owned_law s.layout on_device b

pub returns-clause-on_device : goal.returns-clause-on_device
returns-clause-on_device c s b = claimed_on_device s.layout b

pub returns-clause-within : goal.returns-clause-within
returns-clause-within c s n b is = device_within s is n b
