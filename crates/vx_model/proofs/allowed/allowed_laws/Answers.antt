use Rattle.vx_model.proofs.Allowing.{later, front, device, come, placed}
use Rattle.vx_model.proofs.allowed.allowed_laws.Goals as goal

pub returns : goal.returns
returns c = record { later = later; front = front; device = device; come = come; placed = placed }
