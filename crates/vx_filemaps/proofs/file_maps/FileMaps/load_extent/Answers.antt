use Rattle.std.proofs.Common.{◌≡◌, ◌++◌, sym, ◌∙◌, ap, subst}
use Rattle.vx_extents.specs.Extents.{ExtentMapView, run}
use Rattle.vx_extents.specs.Uses.{AreAbsent, with_pages}
use Rattle.vx_filemaps.specs.Files.{FileView}
use Rattle.vx_filemaps.proofs.Loads.{last_pages, none_behind}
use Rattle.vx_filemaps.proofs.file_maps.FileMaps.load_extent.Goals as goal

pub put_run-requires-clause-absent : goal.put_run-requires-clause-absent
put_run-requires-clause-absent c =
    let same : c.reserve-2.new.self.pages ≡ c.args.self.now.space.present = ap (λ (v : ExtentMapView). v.pages) c.in_ok-reserve-2.ensures.ok ∙ ap (λ (m : FileView). m.space.present) c.self.view_is in
    subst (AreAbsent c.args.extent.now.page c.args.extent.now.len) (sym same) (none_behind c.args.extent.now.page c.args.extent.now.len c.args.self.now.space.present c.requires.behind)

pub returns-clause-ok : goal.returns-clause-ok
returns-clause-ok c =
    let e = c.args.extent.now in
    let pages : c.put_run.new.self.pages ≡ c.args.self.now.space.present ++ run e.len e.page e.start e.kind =
    ap (λ (v : ExtentMapView). v.pages) c.put_run.ensures.added
    ∙ ap (with_pages e.len e.page e.start e.kind) (ap (λ (v : ExtentMapView). v.pages) c.in_ok-reserve-2.ensures.ok ∙ ap (λ (m : FileView). m.space.present) c.self.view_is)
    ∙ last_pages e.len e.page e.start e.kind c.args.self.now.space.present c.requires.behind in
    let settled : c.reserve.new.self.pages ≡ c.self.inside.settled.pages = ap (λ (v : ExtentMapView). v.pages) c.in_ok-reserve.ensures.ok in
    (λ i. record { space = record { settled = settled i; present = pages i; size = c.self.inside.size }; maps = c.self.inside.chain.items })
    ∙ ap (λ (m : FileView). record m { space = record m.space { present = c.args.self.now.space.present ++ run e.len e.page e.start e.kind } }) c.self.view_is
