use Rattle.std.proofs.Common.{◌≡◌, ◌+◌, ◌-◌, ◌≤◌, ℕ, List, length, get_or, true, refl, arith, sym, ap, ◌∙◌, subst}
use Rattle.std.specs.Prelude.{is_some}
use Rattle.vx_extents.specs.declared.stretch.Stretch.{Stretch}
use Rattle.vx_extents.specs.Extents.{Mapped, ExtentMapView, expand, mapped_at, extent_count, begun_before, AreMaximal, AreBelow}
use Rattle.vx_extents.specs.Uses.{pages_without}
use Rattle.vx_extents.proofs.Adds.{each_is}
use Rattle.vx_extents.proofs.Stretches.{count_is_length}
use Rattle.vx_extents.proofs.Removes.{Found, found, expand_removed, removed_maximal, removed_most, removed_below, gone, other_default}
use Rattle.vx_extents.proofs.extent_map.ExtentMap.remove.Goals as goal

abbrev view_of : ℕ → ℕ → ℕ → List Mapped → ExtentMapView
view_of reserved limit page_limit pages = record { pages = pages; reserved = reserved; limit = limit; page_limit = page_limit }

pub overflow_add-get : goal.overflow_add-get
overflow_add-get c =
    let items = c.self.inside.extents.items in
    let there : is_some (mapped_at (expand items) c.args.p) ≡ true = ap (λ (v : ExtentMapView). is_some (mapped_at v.pages c.args.p)) c.self.view_is ∙ c.requires.there in
    let f : Found c.args.p c.self.inside.page_limit items (begun_before (c.args.p + 1) items) = found c.args.p c.self.inside.page_limit items (begun_before (c.args.p + 1) items) c.self.invariant.maximal c.self.invariant.below there refl in
    omega (arith, f.inside_limit, c.self.invariant.fits, c.get.ensures)

pub overflow_sub-at : goal.overflow_sub-at
overflow_sub-at c =
    let items = c.self.inside.extents.items in
    let n = c.begun_before-at.result in
    let there : is_some (mapped_at (expand items) c.args.p) ≡ true = ap (λ (v : ExtentMapView). is_some (mapped_at v.pages c.args.p)) c.self.view_is ∙ c.requires.there in
    let begun : n ≡ begun_before (c.args.p + 1) items = c.begun_before-at.ensures ∙ ap (λ (es : List Stretch). begun_before (c.get.result + 1) es) c.as_slice.ensures.value ∙ ap (λ (q : ℕ). begun_before (q + 1) items) c.get.ensures in
    let f : Found c.args.p c.self.inside.page_limit items n = found c.args.p c.self.inside.page_limit items n c.self.invariant.maximal c.self.invariant.below there begun in
    f.some

pub index-requires : goal.index-requires
index-requires c =
    let items = c.self.inside.extents.items in
    let n = c.begun_before-at.result in
    let there : is_some (mapped_at (expand items) c.args.p) ≡ true = ap (λ (v : ExtentMapView). is_some (mapped_at v.pages c.args.p)) c.self.view_is ∙ c.requires.there in
    let begun : n ≡ begun_before (c.args.p + 1) items = c.begun_before-at.ensures ∙ ap (λ (es : List Stretch). begun_before (c.get.result + 1) es) c.as_slice.ensures.value ∙ ap (λ (q : ℕ). begun_before (q + 1) items) c.get.ensures in
    let f : Found c.args.p c.self.inside.page_limit items n = found c.args.p c.self.inside.page_limit items n c.self.invariant.maximal c.self.invariant.below there begun in
    omega (arith, f.bound, c.as_slice.ensures.len, ap length c.as_slice.ensures.value)

pub overflow_sub-before : goal.overflow_sub-before
overflow_sub-before c =
    let items = c.self.inside.extents.items in
    let n = c.begun_before-at.result in
    let there : is_some (mapped_at (expand items) c.args.p) ≡ true = ap (λ (v : ExtentMapView). is_some (mapped_at v.pages c.args.p)) c.self.view_is ∙ c.requires.there in
    let begun : n ≡ begun_before (c.args.p + 1) items = c.begun_before-at.ensures ∙ ap (λ (es : List Stretch). begun_before (c.get.result + 1) es) c.as_slice.ensures.value ∙ ap (λ (q : ℕ). begun_before (q + 1) items) c.get.ensures in
    let f : Found c.args.p c.self.inside.page_limit items n = found c.args.p c.self.inside.page_limit items n c.self.invariant.maximal c.self.invariant.below there begun in
    let page : c.get-3.result ≡ (get_or items (n - 1) c.index.result.now).page = c.get-3.ensures ∙ ap (λ (g : Stretch). g.page) c.index.ensures in
    let low = f.low c.index.result.now in
    omega (arith, page, low, c.get-2.ensures)

pub remove_page-requires-clause-each : goal.remove_page-requires-clause-each
remove_page-requires-clause-each c =
    let items = c.self.inside.extents.items in
    let n = c.begun_before-at.result in
    let there : is_some (mapped_at (expand items) c.args.p) ≡ true = ap (λ (v : ExtentMapView). is_some (mapped_at v.pages c.args.p)) c.self.view_is ∙ c.requires.there in
    let begun : n ≡ begun_before (c.args.p + 1) items = c.begun_before-at.ensures ∙ ap (λ (es : List Stretch). begun_before (c.get.result + 1) es) c.as_slice.ensures.value ∙ ap (λ (q : ℕ). begun_before (q + 1) items) c.get.ensures in
    let f : Found c.args.p c.self.inside.page_limit items n = found c.args.p c.self.inside.page_limit items n c.self.invariant.maximal c.self.invariant.below there begun in
    each_is items c.self.invariant.maximal

pub remove_page-requires-clause-bound : goal.remove_page-requires-clause-bound
remove_page-requires-clause-bound c =
    let items = c.self.inside.extents.items in
    let n = c.begun_before-at.result in
    let there : is_some (mapped_at (expand items) c.args.p) ≡ true = ap (λ (v : ExtentMapView). is_some (mapped_at v.pages c.args.p)) c.self.view_is ∙ c.requires.there in
    let begun : n ≡ begun_before (c.args.p + 1) items = c.begun_before-at.ensures ∙ ap (λ (es : List Stretch). begun_before (c.get.result + 1) es) c.as_slice.ensures.value ∙ ap (λ (q : ℕ). begun_before (q + 1) items) c.get.ensures in
    let f : Found c.args.p c.self.inside.page_limit items n = found c.args.p c.self.inside.page_limit items n c.self.invariant.maximal c.self.invariant.below there begun in
    f.bound

pub remove_page-requires-clause-inside : goal.remove_page-requires-clause-inside
remove_page-requires-clause-inside c =
    let items = c.self.inside.extents.items in
    let n = c.begun_before-at.result in
    let there : is_some (mapped_at (expand items) c.args.p) ≡ true = ap (λ (v : ExtentMapView). is_some (mapped_at v.pages c.args.p)) c.self.view_is ∙ c.requires.there in
    let begun : n ≡ begun_before (c.args.p + 1) items = c.begun_before-at.ensures ∙ ap (λ (es : List Stretch). begun_before (c.get.result + 1) es) c.as_slice.ensures.value ∙ ap (λ (q : ℕ). begun_before (q + 1) items) c.get.ensures in
    let f : Found c.args.p c.self.inside.page_limit items n = found c.args.p c.self.inside.page_limit items n c.self.invariant.maximal c.self.invariant.below there begun in
    let e = c.index.result.now in
    let page : c.get-3.result ≡ (get_or items (n - 1) e).page = c.get-3.ensures ∙ ap (λ (g : Stretch). g.page) c.index.ensures in
    let k = c.get-2.result - c.get-3.result in
    let low : (get_or items (n - 1) e).page ≤ c.args.p = f.low e in
    let at : (get_or items (n - 1) e).page + k ≡ c.args.p = omega (arith, page, low, c.get-2.ensures) in
    let inside : k ≤ (get_or items (n - 1) e).more = let high = f.high e in omega (arith, page, high, c.get-2.ensures) in
    λ d.
    let same : get_or items (n - 1) e ≡ get_or items (n - 1) d = other_default items (n - 1) e d f.bound in
    subst (λ (g : Stretch). k ≤ g.more) same inside

pub invariant_of-self : goal.invariant_of-self
invariant_of-self c =
    let items = c.self.inside.extents.items in
    let n = c.begun_before-at.result in
    let there : is_some (mapped_at (expand items) c.args.p) ≡ true = ap (λ (v : ExtentMapView). is_some (mapped_at v.pages c.args.p)) c.self.view_is ∙ c.requires.there in
    let begun : n ≡ begun_before (c.args.p + 1) items = c.begun_before-at.ensures ∙ ap (λ (es : List Stretch). begun_before (c.get.result + 1) es) c.as_slice.ensures.value ∙ ap (λ (q : ℕ). begun_before (q + 1) items) c.get.ensures in
    let f : Found c.args.p c.self.inside.page_limit items n = found c.args.p c.self.inside.page_limit items n c.self.invariant.maximal c.self.invariant.below there begun in
    let e = c.index.result.now in
    let page : c.get-3.result ≡ (get_or items (n - 1) e).page = c.get-3.ensures ∙ ap (λ (g : Stretch). g.page) c.index.ensures in
    let k = c.get-2.result - c.get-3.result in
    let low : (get_or items (n - 1) e).page ≤ c.args.p = f.low e in
    let at : (get_or items (n - 1) e).page + k ≡ c.args.p = omega (arith, page, low, c.get-2.ensures) in
    let inside : k ≤ (get_or items (n - 1) e).more = let high = f.high e in omega (arith, page, high, c.get-2.ensures) in
    let len = ap length c.remove_page.ensures.removed in
    let all = removed_most items (n - 1) k in
    let count : extent_count c.args.self.now.pages ≡ length items = ap (λ (v : ExtentMapView). extent_count v.pages) (sym c.self.view_is) ∙ count_is_length items c.self.invariant.maximal in
    let limit : c.self.inside.limit ≡ c.args.self.now.limit = ap (λ (v : ExtentMapView). v.limit) c.self.view_is in
    let reserved : c.self.inside.reserved ≡ c.args.self.now.reserved = ap (λ (v : ExtentMapView). v.reserved) c.self.view_is in
    record {
      maximal = subst AreMaximal (sym c.remove_page.ensures.removed) (removed_maximal items (n - 1) k e c.self.invariant.maximal f.bound inside);
      below = subst (AreBelow c.self.inside.page_limit) (sym c.remove_page.ensures.removed) (removed_below c.self.inside.page_limit items (n - 1) k e f.bound inside c.self.invariant.below);
      fits = c.self.invariant.fits;
      small = c.self.invariant.small;
      few = omega (arith, len, all, count, limit, c.requires.room);
      room = omega (arith, len, all, reserved, c.requires.reserved, c.self.invariant.room, c.remove_page.ensures.capacity);
    }

pub returns-clause-removed : goal.returns-clause-removed
returns-clause-removed c =
    let items = c.self.inside.extents.items in
    let n = c.begun_before-at.result in
    let there : is_some (mapped_at (expand items) c.args.p) ≡ true = ap (λ (v : ExtentMapView). is_some (mapped_at v.pages c.args.p)) c.self.view_is ∙ c.requires.there in
    let begun : n ≡ begun_before (c.args.p + 1) items = c.begun_before-at.ensures ∙ ap (λ (es : List Stretch). begun_before (c.get.result + 1) es) c.as_slice.ensures.value ∙ ap (λ (q : ℕ). begun_before (q + 1) items) c.get.ensures in
    let f : Found c.args.p c.self.inside.page_limit items n = found c.args.p c.self.inside.page_limit items n c.self.invariant.maximal c.self.invariant.below there begun in
    let e = c.index.result.now in
    let page : c.get-3.result ≡ (get_or items (n - 1) e).page = c.get-3.ensures ∙ ap (λ (g : Stretch). g.page) c.index.ensures in
    let k = c.get-2.result - c.get-3.result in
    let low : (get_or items (n - 1) e).page ≤ c.args.p = f.low e in
    let at : (get_or items (n - 1) e).page + k ≡ c.args.p = omega (arith, page, low, c.get-2.ensures) in
    let inside : k ≤ (get_or items (n - 1) e).more = let high = f.high e in omega (arith, page, high, c.get-2.ensures) in
    ap (λ (ms : List Mapped). view_of (c.self.inside.reserved - 1) c.self.inside.limit c.self.inside.page_limit ms) (ap expand c.remove_page.ensures.removed ∙ expand_removed c.args.p items (n - 1) k e c.self.invariant.maximal f.bound at inside)
    ∙ ap (λ (v : ExtentMapView). record v { pages = pages_without c.args.p v.pages; reserved = v.reserved - 1 }) c.self.view_is

pub returns-clause-count : goal.returns-clause-count
returns-clause-count c =
    let items = c.self.inside.extents.items in
    let n = c.begun_before-at.result in
    let there : is_some (mapped_at (expand items) c.args.p) ≡ true = ap (λ (v : ExtentMapView). is_some (mapped_at v.pages c.args.p)) c.self.view_is ∙ c.requires.there in
    let begun : n ≡ begun_before (c.args.p + 1) items = c.begun_before-at.ensures ∙ ap (λ (es : List Stretch). begun_before (c.get.result + 1) es) c.as_slice.ensures.value ∙ ap (λ (q : ℕ). begun_before (q + 1) items) c.get.ensures in
    let f : Found c.args.p c.self.inside.page_limit items n = found c.args.p c.self.inside.page_limit items n c.self.invariant.maximal c.self.invariant.below there begun in
    let e = c.index.result.now in
    let page : c.get-3.result ≡ (get_or items (n - 1) e).page = c.get-3.ensures ∙ ap (λ (g : Stretch). g.page) c.index.ensures in
    let k = c.get-2.result - c.get-3.result in
    let low : (get_or items (n - 1) e).page ≤ c.args.p = f.low e in
    let at : (get_or items (n - 1) e).page + k ≡ c.args.p = omega (arith, page, low, c.get-2.ensures) in
    let inside : k ≤ (get_or items (n - 1) e).more = let high = f.high e in omega (arith, page, high, c.get-2.ensures) in
    let len = ap length c.remove_page.ensures.removed in
    let all = removed_most items (n - 1) k in
    let count : extent_count c.args.self.now.pages ≡ length items = ap (λ (v : ExtentMapView). extent_count v.pages) (sym c.self.view_is) ∙ count_is_length items c.self.invariant.maximal in
    let limit : c.self.inside.limit ≡ c.args.self.now.limit = ap (λ (v : ExtentMapView). v.limit) c.self.view_is in
    let reserved : c.self.inside.reserved ≡ c.args.self.now.reserved = ap (λ (v : ExtentMapView). v.reserved) c.self.view_is in
    let maximal : AreMaximal c.remove_page.new.extents.items = subst AreMaximal (sym c.remove_page.ensures.removed) (removed_maximal items (n - 1) k e c.self.invariant.maximal f.bound inside) in
    let now = count_is_length c.remove_page.new.extents.items maximal in
    omega (arith, now, len, all, count)

pub returns-clause-absent : goal.returns-clause-absent
returns-clause-absent c =
    let items = c.self.inside.extents.items in
    let n = c.begun_before-at.result in
    let there : is_some (mapped_at (expand items) c.args.p) ≡ true = ap (λ (v : ExtentMapView). is_some (mapped_at v.pages c.args.p)) c.self.view_is ∙ c.requires.there in
    let begun : n ≡ begun_before (c.args.p + 1) items = c.begun_before-at.ensures ∙ ap (λ (es : List Stretch). begun_before (c.get.result + 1) es) c.as_slice.ensures.value ∙ ap (λ (q : ℕ). begun_before (q + 1) items) c.get.ensures in
    let f : Found c.args.p c.self.inside.page_limit items n = found c.args.p c.self.inside.page_limit items n c.self.invariant.maximal c.self.invariant.below there begun in
    let e = c.index.result.now in
    let page : c.get-3.result ≡ (get_or items (n - 1) e).page = c.get-3.ensures ∙ ap (λ (g : Stretch). g.page) c.index.ensures in
    let k = c.get-2.result - c.get-3.result in
    let low : (get_or items (n - 1) e).page ≤ c.args.p = f.low e in
    let at : (get_or items (n - 1) e).page + k ≡ c.args.p = omega (arith, page, low, c.get-2.ensures) in
    let inside : k ≤ (get_or items (n - 1) e).more = let high = f.high e in omega (arith, page, high, c.get-2.ensures) in
    ap (λ (ms : List Mapped). mapped_at ms c.args.p) (ap expand c.remove_page.ensures.removed ∙ expand_removed c.args.p items (n - 1) k e c.self.invariant.maximal f.bound at inside) ∙ gone c.args.p (expand items)
