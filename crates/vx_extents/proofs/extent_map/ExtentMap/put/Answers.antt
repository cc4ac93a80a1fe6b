use Rattle.std.proofs.Common.{◌≡◌, ◌-◌, ◌<◌, ℕ, List, length, None, arith, sym, ap, ◌∙◌, subst}
use Rattle.vx_extents.specs.Extents.{Mapped, ExtentMapView, expand, with_add, mapped_at, extent_count, IsStretch, AreMaximal, AreBelow}
use Rattle.vx_extents.proofs.Adds.{one, expand_added, added_maximal, most}
use Rattle.vx_extents.proofs.Limits.{added_below}
use Rattle.vx_extents.proofs.Stretches.{count_is_length}
use Rattle.vx_extents.proofs.extent_map.ExtentMap.put.Goals as goal

abbrev view_of : ℕ → ℕ → ℕ → List Mapped → ExtentMapView
view_of reserved limit page_limit pages = record { pages = pages; reserved = reserved; limit = limit; page_limit = page_limit }

pub invariant_of-self : goal.invariant_of-self
invariant_of-self c =
    let items = c.self.inside.extents.items in
    let some : IsStretch (one c.args.p c.args.b c.args.kind) = record { pages = omega arith; blocks = omega arith } in
    let absent : mapped_at (expand items) c.args.p ≡ None = ap (λ (v : ExtentMapView). mapped_at v.pages c.args.p) c.self.view_is ∙ c.requires.absent in
    let len = ap length c.insert_joined.ensures.added in
    let reserved : c.self.inside.reserved ≡ c.args.self.now.reserved = ap (λ (v : ExtentMapView). v.reserved) c.self.view_is in
    let limit : c.self.inside.limit ≡ c.args.self.now.limit = ap (λ (v : ExtentMapView). v.limit) c.self.view_is in
    let page_limit : c.self.inside.page_limit ≡ c.args.self.now.page_limit = ap (λ (v : ExtentMapView). v.page_limit) c.self.view_is in
    let count : extent_count c.args.self.now.pages ≡ length items = ap (λ (v : ExtentMapView). extent_count v.pages) (sym c.self.view_is) ∙ count_is_length items c.self.invariant.maximal in
    let within : c.args.p < c.self.inside.page_limit = omega (arith, page_limit, c.requires.within) in
    let all = most c.args.p c.args.b c.args.kind items c.self.invariant.maximal in
    record {
      maximal = subst AreMaximal (sym c.insert_joined.ensures.added) (added_maximal c.args.p c.args.b c.args.kind items some c.self.invariant.maximal absent);
      below = subst (AreBelow c.self.inside.page_limit) (sym c.insert_joined.ensures.added) (added_below c.self.inside.page_limit c.args.p c.args.b c.args.kind items within c.self.invariant.below);
      fits = c.self.invariant.fits;
      small = c.self.invariant.small;
      few = omega (arith, len, all, count, limit, c.requires.room);
      room = omega (arith, len, reserved, c.requires.reserved, all, c.self.invariant.room, c.insert_joined.ensures.capacity);
    }

pub returns-clause-added : goal.returns-clause-added
returns-clause-added c =
    let items = c.self.inside.extents.items in
    let absent : mapped_at (expand items) c.args.p ≡ None = ap (λ (v : ExtentMapView). mapped_at v.pages c.args.p) c.self.view_is ∙ c.requires.absent in
    ap (λ (ms : List Mapped). view_of (c.self.inside.reserved - 1) c.self.inside.limit c.self.inside.page_limit ms) (ap expand c.insert_joined.ensures.added ∙ expand_added c.args.p c.args.b c.args.kind items absent)
    ∙ ap (λ (v : ExtentMapView). with_add v c.args.p c.args.b c.args.kind) c.self.view_is

pub returns-clause-count : goal.returns-clause-count
returns-clause-count c =
    let items = c.self.inside.extents.items in
    let some : IsStretch (one c.args.p c.args.b c.args.kind) = record { pages = omega arith; blocks = omega arith } in
    let absent : mapped_at (expand items) c.args.p ≡ None = ap (λ (v : ExtentMapView). mapped_at v.pages c.args.p) c.self.view_is ∙ c.requires.absent in
    let maximal : AreMaximal c.insert_joined.new.stretches.items = subst AreMaximal (sym c.insert_joined.ensures.added) (added_maximal c.args.p c.args.b c.args.kind items some c.self.invariant.maximal absent) in
    let now = count_is_length c.insert_joined.new.stretches.items maximal in
    let len = ap length c.insert_joined.ensures.added in
    let all = most c.args.p c.args.b c.args.kind items c.self.invariant.maximal in
    let count : extent_count c.args.self.now.pages ≡ length items = ap (λ (v : ExtentMapView). extent_count v.pages) (sym c.self.view_is) ∙ count_is_length items c.self.invariant.maximal in
    omega (arith, now, len, all, count)
