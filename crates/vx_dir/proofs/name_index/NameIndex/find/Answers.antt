use Rattle.std.proofs.Common.{sym, ◌∙◌, ap}
use Rattle.std.specs.FinMap as map
use Rattle.vx_dir.specs.Index.{Spots}
use Rattle.vx_dir.proofs.NameMap.{get_name}
use Rattle.vx_dir.proofs.name_index.NameIndex.find.Goals as goal

pub returns : goal.returns
returns c =
    c.copied.ensures ∙ c.get.ensures.value ∙ sym (get_name c.self.inside.spots.entries c.args.name.now)
    ∙ ap (λ (m : Spots). map.get m c.args.name.now) c.self.view_is
