use Rattle.std.proofs.Common.{◌≡◌, Some, sym, ap, ◌∙◌}
use Rattle.vx_base.specs.declared.kind.Kind.{Kind}
use Rattle.vx_base.specs.declared.kind.Kind.TheVariants.{Data}
use Rattle.vx_filemaps.proofs.Pages.{page_kept, not_reserved}
use Rattle.vx_filemaps.proofs.place.write_page.Goals as goal

pub returns-else-is_reserved-clause-placed : goal.returns-else-is_reserved-clause-placed
returns-else-is_reserved-clause-placed c = λ r maps is same.
    let holds : c.in-Some.found.1 ≡ Data = not_reserved c.in-Some.found.1 (sym c.is_reserved.ensures ∙ c.if-is_reserved.false) in
    page_kept r c.args.free.now c.args.first c.args.p c.args.pages.now.pages maps is c.in-Some.found.0
    (sym c.find.ensures ∙ c.in-Some.is ∙ ap (λ (k : Kind). Some (c.in-Some.found.0, k)) holds)
