use Rattle.std.proofs.Common.{sym}
use Rattle.vx_flush.proofs.Rising.{number_found}
use Rattle.vx_flush.proofs.page_numbers.number_of.Goals as goal

pub returns-in-Ok : goal.returns-in-Ok
returns-in-Ok c = sym (number_found c.args.ino c.args.page c.args.entries.now c.in-Ok.at c.index-entries-at.result c.requires c.in-Ok.ensures.found)
