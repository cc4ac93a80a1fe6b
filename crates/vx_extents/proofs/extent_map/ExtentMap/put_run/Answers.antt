use Rattle.std.proofs.Common.{◌≡◌, ◌-◌, ℕ, suc, List, length, arith, sym, ap, ◌∙◌, subst}
use Rattle.vx_extents.specs.Extents.{Mapped, ExtentMapView, mapped_at, expand, extent_count, IsStretch, AreMaximal, AreBelow}
use Rattle.vx_extents.specs.Uses.{AreAbsent, with_pages}
use Rattle.vx_extents.proofs.LongAdds.{long, expand_long, long_maximal, long_below, long_most}
use Rattle.vx_extents.proofs.Stretches.{count_is_length}
use Rattle.vx_extents.proofs.extent_map.ExtentMap.put_run.Goals as goal

abbrev view_of : ℕ → ℕ → ℕ → List Mapped → ExtentMapView
view_of reserved limit page_limit pages = record { pages = pages; reserved = reserved; limit = limit; page_limit = page_limit }

pub invariant_of-self : goal.invariant_of-self
invariant_of-self c =
    let items = c.self.inside.extents.items in
    let k : ℕ = c.args.n - 1 in
    let page_limit : c.self.inside.page_limit ≡ c.args.self.now.page_limit = ap (λ (v : ExtentMapView). v.page_limit) c.self.view_is in
    let some : IsStretch (long k c.args.p c.args.b c.args.kind) = record { pages = omega (arith, page_limit, c.requires.within, c.requires.some, c.self.invariant.fits); blocks = omega (arith, c.requires.blocks, c.requires.some) } in
    let all : c.args.n ≡ suc k = omega (arith, c.requires.some) in
    let absent : AreAbsent c.args.p (suc k) (expand items) = λ q low high. ap (λ (v : ExtentMapView). mapped_at v.pages q) c.self.view_is ∙ c.requires.absent q low (omega (arith, all, high)) in
    let len = ap length c.insert_joined.ensures.added in
    let reserved : c.self.inside.reserved ≡ c.args.self.now.reserved = ap (λ (v : ExtentMapView). v.reserved) c.self.view_is in
    let limit : c.self.inside.limit ≡ c.args.self.now.limit = ap (λ (v : ExtentMapView). v.limit) c.self.view_is in
    let count : extent_count c.args.self.now.pages ≡ length items = ap (λ (v : ExtentMapView). extent_count v.pages) (sym c.self.view_is) ∙ count_is_length items c.self.invariant.maximal in
    let most = long_most k c.args.p c.args.b c.args.kind items c.self.invariant.maximal in
    record {
      maximal = subst AreMaximal (sym c.insert_joined.ensures.added) (long_maximal k c.args.p c.args.b c.args.kind items some c.self.invariant.maximal absent);
      below = subst (AreBelow c.self.inside.page_limit) (sym c.insert_joined.ensures.added) (long_below k c.args.p c.args.b c.args.kind c.self.inside.page_limit items (omega (arith, page_limit, all, c.requires.within)) c.self.invariant.below);
      fits = c.self.invariant.fits;
      small = c.self.invariant.small;
      few = omega (arith, len, most, count, limit, c.requires.room);
      room = omega (arith, len, reserved, c.requires.reserved, most, c.self.invariant.room, c.insert_joined.ensures.capacity);
    }

pub returns-clause-added : goal.returns-clause-added
returns-clause-added c =
    let items = c.self.inside.extents.items in
    let k : ℕ = c.args.n - 1 in
    let all : c.args.n ≡ suc k = omega (arith, c.requires.some) in
    let absent : AreAbsent c.args.p (suc k) (expand items) = λ q low high. ap (λ (v : ExtentMapView). mapped_at v.pages q) c.self.view_is ∙ c.requires.absent q low (omega (arith, all, high)) in
    ap (λ (ms : List Mapped). view_of (c.self.inside.reserved - 1) c.self.inside.limit c.self.inside.page_limit ms) (ap expand c.insert_joined.ensures.added ∙ expand_long k c.args.p c.args.b c.args.kind items absent)
    ∙ ap (λ (v : ExtentMapView). view_of (v.reserved - 1) v.limit v.page_limit (with_pages (suc k) c.args.p c.args.b c.args.kind v.pages)) c.self.view_is
    ∙ ap (λ (j : ℕ). view_of (c.args.self.now.reserved - 1) c.args.self.now.limit c.args.self.now.page_limit (with_pages j c.args.p c.args.b c.args.kind c.args.self.now.pages)) (sym all)

pub returns-clause-count : goal.returns-clause-count
returns-clause-count c =
    let items = c.self.inside.extents.items in
    let k : ℕ = c.args.n - 1 in
    let page_limit : c.self.inside.page_limit ≡ c.args.self.now.page_limit = ap (λ (v : ExtentMapView). v.page_limit) c.self.view_is in
    let some : IsStretch (long k c.args.p c.args.b c.args.kind) = record { pages = omega (arith, page_limit, c.requires.within, c.requires.some, c.self.invariant.fits); blocks = omega (arith, c.requires.blocks, c.requires.some) } in
    let all : c.args.n ≡ suc k = omega (arith, c.requires.some) in
    let absent : AreAbsent c.args.p (suc k) (expand items) = λ q low high. ap (λ (v : ExtentMapView). mapped_at v.pages q) c.self.view_is ∙ c.requires.absent q low (omega (arith, all, high)) in
    let maximal : AreMaximal c.insert_joined.new.stretches.items = subst AreMaximal (sym c.insert_joined.ensures.added) (long_maximal k c.args.p c.args.b c.args.kind items some c.self.invariant.maximal absent) in
    let now = count_is_length c.insert_joined.new.stretches.items maximal in
    let len = ap length c.insert_joined.ensures.added in
    let most = long_most k c.args.p c.args.b c.args.kind items c.self.invariant.maximal in
    let count : extent_count c.args.self.now.pages ≡ length items = ap (λ (v : ExtentMapView). extent_count v.pages) (sym c.self.view_is) ∙ count_is_length items c.self.invariant.maximal in
    omega (arith, now, len, most, count)
