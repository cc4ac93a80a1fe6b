use Rattle.vx_model.proofs.GivenUp.{stays, stays_released, released_data}
use Rattle.vx_model.proofs.StepWaits.{step_waits}
use Rattle.vx_model.proofs.FileWaits.{settled_waits}
use Rattle.vx_model.proofs.Apart.{data_apart, formed_named}
use Rattle.vx_model.proofs.waiting.waiting_laws.Goals as goal

pub returns : goal.returns
returns c = record { step = step_waits; settled = settled_waits; stays = stays; stays_released = stays_released; released = released_data; formed = formed_named; apart = λ s b j is. data_apart s b j }
