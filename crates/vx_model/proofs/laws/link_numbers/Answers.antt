use Rattle.vx_model.proofs.LinkNumbers.{fresh_links, step_links, settled_links, released_links, history_links}
use Rattle.vx_model.proofs.laws.link_numbers.Goals as goal

pub returns-clause-fresh : goal.returns-clause-fresh
returns-clause-fresh c = fresh_links

pub returns-clause-step : goal.returns-clause-step
returns-clause-step c = step_links

pub returns-clause-settled : goal.returns-clause-settled
returns-clause-settled c = settled_links

pub returns-clause-released : goal.returns-clause-released
returns-clause-released c = released_links

pub returns-clause-history : goal.returns-clause-history
returns-clause-history c = history_links
