use Rattle.vx_model.proofs.Replies.{stat_leaves, list_leaves, mount_fine}
use Rattle.vx_model.proofs.laws.asking_leaves.Goals as goal

pub returns-clause-stat : goal.returns-clause-stat
returns-clause-stat c = stat_leaves

pub returns-clause-list : goal.returns-clause-list
returns-clause-list c = list_leaves

pub returns-clause-mount : goal.returns-clause-mount
returns-clause-mount c = mount_fine
