use Rattle.std.proofs.Common.{◌≡◌, ◌≤◌, ◌*◌, ◌∙◌, length, sym, ap, arith}
use Rattle.std.specs.List.{count_by}
use Rattle.std.specs.Option.{is_some}
use Rattle.vx_alloc.specs.FreeMaps.{FreeMapView}
use Rattle.vx_alloc.proofs.Counts.{is_set}
use Rattle.vx_alloc.proofs.Indexes.{none_due, none_released, released_index, length-free_with, length-still_pending}
use Rattle.vx_alloc.proofs.free_map.FreeMap.release.Goals as goal

pub returns-then-self-eq0-clause-count : goal.returns-then-self-eq0-clause-count
returns-then-self-eq0-clause-count c =
    let none = sym (ap (λ (v : FreeMapView). count_by is_some v.pending) c.self.view_is) ∙ sym c.self.invariant.1.pending_counted ∙ c.if-self-eq0.true in
    none_due c.args.upto c.args.self.now.pending none

pub returns-then-self-eq0-clause-released : goal.returns-then-self-eq0-clause-released
returns-then-self-eq0-clause-released c =
    let none = sym (ap (λ (v : FreeMapView). count_by is_some v.pending) c.self.view_is) ∙ sym c.self.invariant.1.pending_counted ∙ c.if-self-eq0.true in
    none_released c.args.self.now c.args.upto none

pub count_set-self-inside-requires : goal.count_set-self-inside-requires
count_set-self-inside-requires c =
    let fields = c.self.inside in
    let sound = c.self.invariant.0 in
    let fits : fields.units ≤ fields.room = sound.fits in
    let most : fields.room ≤ 64 = sound.rooms in
    let bits : length fields.free.items ≡ 4096 * fields.units = sound.bits in
    let long : length c.as_slice.result.now ≡ length fields.free.items = ap length (c.as_slice.ensures.value ∙ c.release_before-count.ensures.free) ∙ length-free_with c.args.upto fields.pending.items fields.free.items in
    omega arith

pub invariant_of-self : goal.invariant_of-self
invariant_of-self c =
    let fields = c.self.inside in
    let sound = c.self.invariant.0 in
    let done = c.release_before-count in
    let counted = c.count_set-self-inside.ensures ∙ ap (count_by is_set) c.as_slice.ensures.value in
    let pending_counted = c.count_waiting-self-inside.ensures ∙ ap (count_by is_some) c.as_slice-2.ensures.value in (
      record {
        addresses = sound.addresses;
        data_blocks = sound.data_blocks;
        fits = sound.fits;
        rooms = sound.rooms;
        bits = ap length done.ensures.free ∙ length-free_with c.args.upto fields.pending.items fields.free.items ∙ sound.bits;
        places = ap length done.ensures.pending ∙ length-still_pending c.args.upto fields.pending.items ∙ sound.places;
        bits_room = omega (arith, sound.bits_room, done.ensures.free_capacity);
        places_room = omega (arith, sound.places_room, done.ensures.pending_capacity);
      },
      released_index c.args.upto fields.per_unit fields.room fields.free_count fields.pending_count c.count_set-self-inside.result c.count_waiting-self-inside.result fields.free.items done.new.free.items fields.pending.items done.new.pending.items fields.runs done.new.runs c.self.invariant.1
          done.ensures.free done.ensures.pending done.ensures.covered done.ensures.room counted pending_counted,
    )
