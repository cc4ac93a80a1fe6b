use Rattle.vx_mount.proofs.Single.{goes_on}
use Rattle.vx_mount.proofs.tests.SingleTurns.facts.Goals as goal

pub returns : goal.returns
returns c = goes_on c.args.self.now.unmounted
