use Rattle.std.proofs.Common.{◌≡◌, ◌++◌, ◌∷◌, [], ℕ, List, Option, Ok, sym, ap, rules, ◌∙◌, subst}
use Rattle.vx_alloc.specs.FreeMaps.{FreeMapView, IsPlaced}
use Rattle.vx_base.specs.declared.kind.Kind.TheVariants.{Data}
use Rattle.vx_extents.specs.Extents.{ExtentMapView, with_page}
use Rattle.vx_space.specs.Placing.{block_before, first_for}
use Rattle.vx_filemaps.specs.FileMaps.{filling_in, IsTaken}
use Rattle.vx_filemaps.proofs.Free.{taken_more}
use Rattle.vx_filemaps.proofs.Pages.{page_placed, page_refused}
use Rattle.vx_filemaps.proofs.place.place_page.Goals as goal

pub returns-in-Some-clause-placed : goal.returns-in-Some-clause-placed
returns-in-Some-clause-placed c = λ r maps is same.
    let v = c.args.free.now in
    let pages = c.args.pages.now.pages in
    let b = c.in-Some.b in
    let goes : IsPlaced v (block_before pages c.args.p) (first_for pages c.args.first) b =
    subst (λ (o : Option ℕ). IsPlaced v (block_before pages c.args.p) o b) c.first_for-start.ensures (subst (λ (o : Option ℕ). IsPlaced v o c.first_for-start.result b) c.block_before-before.ensures c.in-Some.ensures.placed) in
    page_placed r v c.args.first c.args.p pages maps is b c.requires.first c.requires.ready c.requires.absent goes c.in-Some.ensures.free
    ∙ ap (λ (w : FreeMapView). Ok (filling_in w (with_page (record { page = c.args.p; block = b; kind = Data }) pages) maps)) (sym c.in-Some.ensures.taken)
    ∙ ap (λ (m : ExtentMapView). Ok (filling_in c.take_next.new.self m.pages maps)) (sym c.put.ensures.added)

pub returns-in-Some-clause-taken : goal.returns-in-Some-clause-taken
returns-in-Some-clause-taken c = λ base is.
    let b = c.in-Some.b in
    let items : c.push.new.self.items ≡ c.args.taken.now.items ++ b ∷ [] = search rules in
    subst (λ (bs : List ℕ). IsTaken base bs c.take_next.new.self) (sym items)
    (subst (λ (w : FreeMapView). IsTaken base (c.args.taken.now.items ++ b ∷ []) w) (sym c.in-Some.ensures.taken) (taken_more base c.args.taken.now.items c.args.free.now b is c.in-Some.ensures.free))

pub returns-in-None-clause-full : goal.returns-in-None-clause-full
returns-in-None-clause-full c = λ r maps is same.
    page_refused r c.args.free.now c.args.first c.args.p c.args.pages.now.pages maps is c.requires.first c.requires.ready c.requires.absent c.in-None.ensures.full
