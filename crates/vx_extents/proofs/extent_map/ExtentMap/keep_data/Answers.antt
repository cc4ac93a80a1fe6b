use Rattle.std.proofs.Common.{◌≡◌, ℕ, List, length, arith, rules, sym, ap, ◌∙◌, subst}
use Rattle.std.proofs.lemmas.List.Elements.{filter_from_retain}
use Rattle.vx_extents.specs.declared.stretch.Stretch.{Stretch}
use Rattle.vx_extents.specs.Extents.{Mapped, ExtentMapView, expand, extent_count, AreMaximal, AreBelow}
use Rattle.vx_extents.specs.Uses.{is_data_kind, data_pages}
use Rattle.vx_extents.proofs.Stretches.{count_is_length}
use Rattle.vx_extents.proofs.Kept.{kept, expand_kept, kept_maximal, kept_below, kept_fewer}
use Rattle.vx_extents.proofs.extent_map.ExtentMap.keep_data.Goals as goal

abbrev view_of : ℕ → ℕ → ℕ → List Mapped → ExtentMapView
view_of reserved limit page_limit pages = record { pages = pages; reserved = reserved; limit = limit; page_limit = page_limit }

pub with_freed-self-inside-requires-clause-fewer : goal.with_freed-self-inside-requires-clause-fewer
with_freed-self-inside-requires-clause-fewer c =
    let items = c.self.inside.extents.items in
    let left : c.retain.new.self.items ≡ kept items = filter_from_retain _ (λ (e : Stretch). is_data_kind e.kind) (λ p x b q h. search rules) _ items c.retain.new.self.items c.retain.ensures.filtered in
    let len = ap length left in
    let fewer = kept_fewer items in
    omega (arith, len, fewer, c.len-before.ensures, c.len.ensures, c.self.inside.extents.ok.0, c.retain.new.self.ok.0)

pub invariant_of-self : goal.invariant_of-self
invariant_of-self c =
    let items = c.self.inside.extents.items in
    let left : c.retain.new.self.items ≡ kept items = filter_from_retain _ (λ (e : Stretch). is_data_kind e.kind) (λ p x b q h. search rules) _ items c.retain.new.self.items c.retain.ensures.filtered in
    let fewer = kept_fewer items in
    let len = ap length left in
    record {
      maximal = subst AreMaximal (sym left) (kept_maximal items c.self.invariant.maximal);
      below = subst (AreBelow c.self.inside.page_limit) (sym left) (kept_below c.self.inside.page_limit items c.self.invariant.below);
      fits = c.self.invariant.fits;
      small = c.self.invariant.small;
      few = omega (arith, len, fewer, c.self.invariant.few);
      room = omega (arith, len, fewer, c.self.invariant.room, c.retain.ensures.capacity, c.with_freed-self-inside.ensures, c.len-before.ensures, c.len.ensures, c.self.inside.extents.ok.0, c.retain.new.self.ok.0);
    }

pub returns-clause-pages : goal.returns-clause-pages
returns-clause-pages c =
    let items = c.self.inside.extents.items in
    let left : c.retain.new.self.items ≡ kept items = filter_from_retain _ (λ (e : Stretch). is_data_kind e.kind) (λ p x b q h. search rules) _ items c.retain.new.self.items c.retain.ensures.filtered in
    let more : ℕ = c.with_freed-self-inside.result in
    ap (view_of more c.self.inside.limit c.self.inside.page_limit) (ap expand left ∙ expand_kept items)
    ∙ ap (λ (v : ExtentMapView). view_of more v.limit v.page_limit (data_pages v.pages)) c.self.view_is

pub returns-clause-count : goal.returns-clause-count
returns-clause-count c =
    let items = c.self.inside.extents.items in
    let left : c.retain.new.self.items ≡ kept items = filter_from_retain _ (λ (e : Stretch). is_data_kind e.kind) (λ p x b q h. search rules) _ items c.retain.new.self.items c.retain.ensures.filtered in
    let maximal : AreMaximal c.retain.new.self.items = subst AreMaximal (sym left) (kept_maximal items c.self.invariant.maximal) in
    let now = count_is_length c.retain.new.self.items maximal in
    let len = ap length left in
    let count : extent_count c.args.self.now.pages ≡ length items = ap (λ (v : ExtentMapView). extent_count v.pages) (sym c.self.view_is) ∙ count_is_length items c.self.invariant.maximal in
    let fewer = kept_fewer items in
    omega (arith, now, len, count, fewer)

pub returns-clause-memory : goal.returns-clause-memory
returns-clause-memory c =
    let items = c.self.inside.extents.items in
    let left : c.retain.new.self.items ≡ kept items = filter_from_retain _ (λ (e : Stretch). is_data_kind e.kind) (λ p x b q h. search rules) _ items c.retain.new.self.items c.retain.ensures.filtered in
    let maximal : AreMaximal c.retain.new.self.items = subst AreMaximal (sym left) (kept_maximal items c.self.invariant.maximal) in
    let now = count_is_length c.retain.new.self.items maximal in
    let len = ap length left in
    let count : extent_count c.args.self.now.pages ≡ length items = ap (λ (v : ExtentMapView). extent_count v.pages) (sym c.self.view_is) ∙ count_is_length items c.self.invariant.maximal in
    let reserved : c.self.inside.reserved ≡ c.args.self.now.reserved = ap (λ (v : ExtentMapView). v.reserved) c.self.view_is in
    let fewer = kept_fewer items in
    omega (arith, now, len, count, fewer, reserved, c.with_freed-self-inside.ensures, c.len-before.ensures, c.len.ensures, c.self.inside.extents.ok.0, c.retain.new.self.ok.0)
