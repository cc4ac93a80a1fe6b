use Rattle.std.proofs.Common.{◌≡◌, ◌++◌, ℕ, List, length, arith, sym, ap, ◌∙◌, subst}
use Rattle.vx_extents.specs.declared.stretch.Stretch.{Stretch}
use Rattle.vx_extents.specs.Extents.{Mapped, ExtentMapView, expand, extent_count, AreMaximal, AreBelow}
use Rattle.vx_extents.proofs.Removes.{below_more}
use Rattle.vx_extents.proofs.Stretches.{count_is_length}
use Rattle.vx_extents.proofs.extent_map.ExtentMap.set_from.Goals as goal

abbrev view_of : ℕ → ℕ → ℕ → List Mapped → ExtentMapView
view_of reserved limit page_limit pages = record { pages = pages; reserved = reserved; limit = limit; page_limit = page_limit }

pub push_all-requires : goal.push_all-requires
push_all-requires c =
    let items = c.self.inside.extents.items in
    let others = c.other.inside.extents.items in
    let count : extent_count c.args.self.now.pages ≡ length items = ap (λ (v : ExtentMapView). extent_count v.pages) (sym c.self.view_is) ∙ count_is_length items c.self.invariant.maximal in
    let other_count : extent_count c.args.other.now.pages ≡ length others = ap (λ (v : ExtentMapView). extent_count v.pages) (sym c.other.view_is) ∙ count_is_length others c.other.invariant.maximal in
    let reserved : c.self.inside.reserved ≡ c.args.self.now.reserved = ap (λ (v : ExtentMapView). v.reserved) c.self.view_is in
    let none = ap length c.clear.ensures.items in
    let some = ap length c.as_slice.ensures.value in
    record { room = omega (arith, count, other_count, reserved, none, some, c.requires.memory, c.self.invariant.room, c.clear.ensures.capacity) }

pub invariant_of-self : goal.invariant_of-self
invariant_of-self c =
    let items = c.self.inside.extents.items in
    let others = c.other.inside.extents.items in
    let count : extent_count c.args.self.now.pages ≡ length items = ap (λ (v : ExtentMapView). extent_count v.pages) (sym c.self.view_is) ∙ count_is_length items c.self.invariant.maximal in
    let other_count : extent_count c.args.other.now.pages ≡ length others = ap (λ (v : ExtentMapView). extent_count v.pages) (sym c.other.view_is) ∙ count_is_length others c.other.invariant.maximal in
    let reserved : c.self.inside.reserved ≡ c.args.self.now.reserved = ap (λ (v : ExtentMapView). v.reserved) c.self.view_is in
    let all : c.push_all.new.extents.items ≡ others = c.push_all.ensures.items ∙ ap (λ (es : List Stretch). es ++ c.as_slice.result.now) c.clear.ensures.items ∙ c.as_slice.ensures.value in
    let len = ap length all in
    let limit : c.self.inside.limit ≡ c.args.self.now.limit = ap (λ (v : ExtentMapView). v.limit) c.self.view_is in
    let other_limit : c.other.inside.limit ≡ c.args.other.now.limit = ap (λ (v : ExtentMapView). v.limit) c.other.view_is in
    let page_limit : c.self.inside.page_limit ≡ c.args.self.now.page_limit = ap (λ (v : ExtentMapView). v.page_limit) c.self.view_is in
    let other_page_limit : c.other.inside.page_limit ≡ c.args.other.now.page_limit = ap (λ (v : ExtentMapView). v.page_limit) c.other.view_is in
    record {
      maximal = subst AreMaximal (sym all) c.other.invariant.maximal;
      below = subst (AreBelow c.self.inside.page_limit) (sym all) (below_more c.other.inside.page_limit c.self.inside.page_limit others (omega (arith, page_limit, other_page_limit, c.requires.page_limit)) c.other.invariant.below);
      fits = c.self.invariant.fits;
      small = c.self.invariant.small;
      few = omega (arith, len, limit, other_limit, c.requires.limit, c.other.invariant.few);
      room = omega (arith, len, count, other_count, reserved, c.requires.memory, c.self.invariant.room, c.clear.ensures.capacity, c.push_all.ensures.capacity);
    }

pub returns : goal.returns
returns c =
    let items = c.self.inside.extents.items in
    let others = c.other.inside.extents.items in
    let count : extent_count c.args.self.now.pages ≡ length items = ap (λ (v : ExtentMapView). extent_count v.pages) (sym c.self.view_is) ∙ count_is_length items c.self.invariant.maximal in
    let other_count : extent_count c.args.other.now.pages ≡ length others = ap (λ (v : ExtentMapView). extent_count v.pages) (sym c.other.view_is) ∙ count_is_length others c.other.invariant.maximal in
    let reserved : c.self.inside.reserved ≡ c.args.self.now.reserved = ap (λ (v : ExtentMapView). v.reserved) c.self.view_is in
    let all : c.push_all.new.extents.items ≡ others = c.push_all.ensures.items ∙ ap (λ (es : List Stretch). es ++ c.as_slice.result.now) c.clear.ensures.items ∙ c.as_slice.ensures.value in
    let len = ap length all in
    ap (λ (ms : List Mapped). view_of c.args.more c.self.inside.limit c.self.inside.page_limit ms) (ap expand all ∙ ap (λ (v : ExtentMapView). v.pages) c.other.view_is)
    ∙ ap (λ (v : ExtentMapView). view_of c.args.more v.limit v.page_limit c.args.other.now.pages) c.self.view_is
