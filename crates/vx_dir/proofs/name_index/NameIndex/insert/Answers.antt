use Rattle.std.proofs.Common.{◌≡◌, rules, ◌∙◌, ap}
use Rattle.std.specs.FinMap as map
use Rattle.vx_base.specs.Paths.{FileName}
use Rattle.vx_dir.specs.Index.{Spots}
use Rattle.vx_dir.proofs.NameMap.{one_given}
use Rattle.vx_dir.proofs.name_index.NameIndex.insert.Goals as goal

pub returns-clause-ok : goal.returns-clause-ok
returns-clause-ok c =
    let same : c.in_ok-clone.field-0 ≡ c.args.name.now = search rules in
    one_given c.self.inside.spots.entries c.insert.new.self.entries c.in_ok-clone.field-0 c.args.spot c.in_ok-insert.ensures.updates.0
    ∙ ap (λ (k : FileName). map.insert (map.from_entries c.self.inside.spots.entries) k c.args.spot) same
    ∙ ap (λ (m : Spots). map.insert m c.args.name.now c.args.spot) c.self.view_is
