use Rattle.std.proofs.Common.{◌≡◌, ◌+◌, ◌-◌, ℕ, List, Some, true, refl, arith, sym, ap, ◌∙◌}
use Rattle.std.specs.Prelude.{is_some, option_map}
use Rattle.vx_base.specs.declared.kind.Kind.{Kind}
use Rattle.vx_base.specs.declared.kind.Kind.TheVariants.{Data}
use Rattle.vx_extents.specs.declared.stretch.Stretch.{Stretch}
use Rattle.vx_extents.specs.Extents.{Mapped, ExtentMapView, expand, mapped_at, begun_before, with_add}
use Rattle.vx_extents.specs.Uses.{used_pages, pages_without}
use Rattle.vx_extents.proofs.Removes.{Found, found, begins_zero, expand_rises, used_is, kind_there}
use Rattle.vx_extents.proofs.extent_map.ExtentMap.use_page.Goals as goal

abbrev view_of : ℕ → ℕ → ℕ → List Mapped → ExtentMapView
view_of reserved limit page_limit pages = record { pages = pages; reserved = reserved; limit = limit; page_limit = page_limit }

pub block_in-b-requires-clause-fits : goal.block_in-b-requires-clause-fits
block_in-b-requires-clause-fits c =
    let items = c.self.inside.extents.items in
    let there : is_some (mapped_at (expand items) c.args.p) ≡ true = ap (λ (v : ExtentMapView). is_some (mapped_at v.pages c.args.p)) c.self.view_is ∙ c.requires.there in
    let f : Found c.args.p c.self.inside.page_limit items (begun_before (c.args.p + 1) items) = found c.args.p c.self.inside.page_limit items (begun_before (c.args.p + 1) items) c.self.invariant.maximal c.self.invariant.below there refl in
    omega (arith, f.inside_limit, c.self.invariant.fits, c.get.ensures)

pub put-requires-clause-within : goal.put-requires-clause-within
put-requires-clause-within c =
    let items = c.self.inside.extents.items in
    let there : is_some (mapped_at (expand items) c.args.p) ≡ true = ap (λ (v : ExtentMapView). is_some (mapped_at v.pages c.args.p)) c.self.view_is ∙ c.requires.there in
    let f : Found c.args.p c.self.inside.page_limit items (begun_before (c.args.p + 1) items) = found c.args.p c.self.inside.page_limit items (begun_before (c.args.p + 1) items) c.self.invariant.maximal c.self.invariant.below there refl in
    let limit : c.self.inside.page_limit ≡ c.args.self.now.page_limit = ap (λ (v : ExtentMapView). v.page_limit) c.self.view_is in
    let now : c.remove.new.self.page_limit ≡ c.args.self.now.page_limit = ap (λ (v : ExtentMapView). v.page_limit) c.remove.ensures.removed in
    omega (arith, f.inside_limit, limit, now)

pub returns-clause-used : goal.returns-clause-used
returns-clause-used c =
    let items = c.self.inside.extents.items in
    let old = c.args.self.now in
    let at : option_map (λ (m : ℕ × Kind). m.0) (mapped_at (expand items) c.args.p) ≡ Some c.block_in-b.result =
    ap (λ (es : List Stretch). option_map (λ (m : ℕ × Kind). m.0) (mapped_at (expand es) c.args.p)) (sym c.as_slice.ensures.value) ∙ ap (λ (q : ℕ). option_map (λ (m : ℕ × Kind). m.0) (mapped_at (expand c.as_slice.result.now) q)) (sym c.get.ensures) ∙ c.block_in-b.ensures in
    let two : old.reserved - 1 - 1 ≡ old.reserved - 2 = omega arith in
    let view : expand items ≡ old.pages = ap (λ (v : ExtentMapView). v.pages) c.self.view_is in
    let k = kind_there (mapped_at (expand items) c.args.p) c.block_in-b.result at in
    c.put.ensures.added
    ∙ ap (λ (v : ExtentMapView). with_add v c.args.p c.block_in-b.result Data) c.remove.ensures.removed
    ∙ ap (λ (ms : List Mapped). with_add (view_of (old.reserved - 1) old.limit old.page_limit (pages_without c.args.p ms)) c.args.p c.block_in-b.result Data) (sym view)
    ∙ ap (λ (ms : List Mapped). view_of (old.reserved - 1 - 1) old.limit old.page_limit ms) (used_is c.args.p c.block_in-b.result (expand items) 0 k.0 (expand_rises 0 items c.self.invariant.maximal (begins_zero items)) k.1 ∙ ap (used_pages c.args.p) view)
    ∙ ap (λ (n : ℕ). view_of n old.limit old.page_limit (used_pages c.args.p old.pages)) two
