use Rattle.std.proofs.Common.{List, subst}
use Rattle.std.specs.Prelude.{Contains}
use Rattle.vx_dev.specs.declared.device.Operation.{Operation}
use Rattle.vx_dev.specs.declared.device.Operation.TheVariants.{Put}
use Rattle.vx_dev.proofs.memory.MemDisk.operations.Goals as goal

pub returns-clause-within : goal.returns-clause-within
returns-clause-within c = λ s bytes has. c.args.self.now.within s bytes (subst (λ (o : List Operation). Contains o (Put s bytes)) c.as_slice.ensures.value has)
