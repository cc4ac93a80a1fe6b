use Rattle.vx_mount.proofs.Taking.{answers_unmounted}
use Rattle.vx_mount.proofs.driver.unmount.Goals as goal

pub returns-clause-answers : goal.returns-clause-answers
returns-clause-answers g c = λ a. answers_unmounted (g.T.Turns.view c.args.core.now) (g.T.Turns.view c.take_unmount_turns.new.core) c.take_unmount_turns.ensures.unmounted.on a
