use Rattle.vx_model.proofs.SameReading.{reads_same}
use Rattle.vx_model.proofs.reads.reads_alike.Goals as goal

pub returns : goal.returns
returns c = λ strict v a b t is alike sound. reads_same c.alike_laws.ensures strict v is a b alike sound t
