use Rattle.vx_admin.proofs.Ending.{reason_of}
use Rattle.vx_admin.proofs.top.checked.Goals as goal

pub returns-in-Ok-clause-cause : goal.returns-in-Ok-clause-cause
returns-in-Ok-clause-cause g c =
    let e = c.replay.ensures in
    reason_of (g.D.BlockDev.state c.args.dev.now) (g.D.BlockDev.state c.replay.new.dev) c.replay.result e.left e.counted e.clean e.settled e.sound e.unwritten c.in-Ok.recovered c.in-Ok.is c.in-Ok.ensures.refused
