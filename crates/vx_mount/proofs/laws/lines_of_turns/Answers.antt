use Rattle.vx_mount.proofs.Taking.{takes_none, takes_turn, takes_steps, takes_unmount}
use Rattle.vx_mount.proofs.laws.lines_of_turns.Goals as goal

pub returns-clause-none : goal.returns-clause-none
returns-clause-none c = takes_none

pub returns-clause-turn : goal.returns-clause-turn
returns-clause-turn c = takes_turn

pub returns-clause-steps : goal.returns-clause-steps
returns-clause-steps c = takes_steps

pub returns-clause-unmount : goal.returns-clause-unmount
returns-clause-unmount c = takes_unmount
