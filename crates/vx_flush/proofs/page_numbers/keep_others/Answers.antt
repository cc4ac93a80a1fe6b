use Rattle.std.proofs.Common.{rules}
use Rattle.std.proofs.lemmas.Fn.{filter_same}
use Rattle.vx_flush.specs.Entries.{stays}
use Rattle.vx_flush.proofs.page_numbers.keep_others.Goals as goal

pub returns-clause-items : goal.returns-clause-items
returns-clause-items c = filter_same _ (stays c.args.ino c.args.page) _ (λ x b f' k. search rules) _ _ c.retain.ensures.filtered
