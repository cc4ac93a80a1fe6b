use Rattle.std.proofs.Common.{ℕ, rules}
use Rattle.std.specs.Prelude.{nat_le}
use Rattle.std.proofs.lemmas.Fn.{filter_same}
use Rattle.vx_log.proofs.log.drop_below.Goals as goal

pub returns-clause-items : goal.returns-clause-items
returns-clause-items c = filter_same _ (λ (start : ℕ). nat_le c.args.to start) _ (λ x b f' k. search rules) _ _ c.retain.ensures.filtered
