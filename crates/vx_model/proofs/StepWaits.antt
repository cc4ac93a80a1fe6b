-- What each call gives up waits.
use Rattle.std.proofs.Common.{◌≡◌, ℕ, Some}
use Rattle.vx_base.specs.declared.call.Call.{Call}
use Rattle.vx_model.specs.State.{State, Done}
use Rattle.vx_model.specs.Step.{step}
use Rattle.vx_model.specs.Waiting.{Waits}
use Rattle.vx_model.proofs.GivenUp.{step_waits_by}
use Rattle.vx_model.proofs.FileWaits.{file_waits}

pub step_waits : (s : State) (place session : ℕ) (c : Call) (done : Done) → step s place session c ≡ Some done → Waits place s done.state
step_waits s place session c done h = step_waits_by s place (file_waits s place) session c done h
