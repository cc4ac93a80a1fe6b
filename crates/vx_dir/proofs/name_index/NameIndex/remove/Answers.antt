use Rattle.std.proofs.Common.{sym, ◌∙◌, ap}
use Rattle.std.specs.FinMap as map
use Rattle.vx_dir.specs.Index.{Spots}
use Rattle.vx_dir.proofs.NameMap.{get_name, one_taken}
use Rattle.vx_dir.proofs.name_index.NameIndex.remove.Goals as goal

pub returns-clause-spot : goal.returns-clause-spot
returns-clause-spot c =
    c.remove.ensures.value ∙ sym (get_name c.self.inside.spots.entries c.args.name.now)
    ∙ ap (λ (m : Spots). map.get m c.args.name.now) c.self.view_is

pub returns-clause-removed : goal.returns-clause-removed
returns-clause-removed c =
    one_taken c.self.inside.spots.entries c.remove.new.self.entries c.args.name.now c.remove.ensures.updates.0
    ∙ ap (λ (m : Spots). map.remove m c.args.name.now) c.self.view_is
