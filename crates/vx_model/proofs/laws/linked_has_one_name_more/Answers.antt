use Rattle.vx_model.proofs.LinkChanges.{link_links}
use Rattle.vx_model.proofs.laws.linked_has_one_name_more.Goals as goal

pub returns : goal.returns
returns c = link_links
