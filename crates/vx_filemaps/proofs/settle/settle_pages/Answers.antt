use Rattle.std.proofs.Common.{◌≡◌, Bool, sym, ap, ◌∙◌}
use Rattle.vx_extents.specs.Extents.{ExtentMapView}
use Rattle.vx_space.specs.Leaving.{lasting}
use Rattle.vx_filemaps.proofs.Settled.{all_last}
use Rattle.vx_filemaps.proofs.settle.settle_pages.Goals as goal

pub returns-else-noreserve-clause-pages : goal.returns-else-noreserve-clause-pages
returns-else-noreserve-clause-pages c =
    let pages = c.args.present.now.pages in
    let all : pages ≡ lasting c.args.noreserve pages = all_last pages ∙ ap (λ (b : Bool). lasting b pages) (sym c.if-noreserve.false) in
    let none : c.set_from.new.self.reserved ≡ 0 = ap (λ (v : ExtentMapView). v.reserved) c.set_from.ensures in
    c.set_from.ensures ∙ (λ i. record { pages = all i; reserved = sym none i; limit = c.args.settled.now.limit; page_limit = c.args.settled.now.page_limit })
