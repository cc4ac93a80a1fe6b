use Rattle.std.proofs.Common.{arith}
use Rattle.vx_core.proofs.ScriptLines.{length_script}
use Rattle.vx_core.proofs.engine.Core.session_count.Goals as goal

pub returns : goal.returns
returns g c =
    let core = c.args.self.now in
    let few = c.requires.1.few in
    let long = length_script core.lines (g.M.Calls.view core.mount).history in
    omega arith
