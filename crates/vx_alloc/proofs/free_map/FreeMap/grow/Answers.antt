use Rattle.std.proofs.Common.{◌≡◌, ◌*◌, ◌-◌, ◌+◌, ◌<◌, ◌≤◌, ◌++◌, ◌∙◌, ℕ, Bool, List, Option, None, length, replicate, subst, sym, ap, arith}
use Rattle.std.proofs.lemmas.List.{length-append, length-replicate}
use Rattle.std.specs.List.{count_by}
use Rattle.std.specs.Option.{is_some}
use Rattle.vx_alloc.specs.FreeMaps.{FreeMapView, data_bits}
use Rattle.vx_alloc.specs.RunIndexes.{IsIndexed}
use Rattle.vx_alloc.proofs.Counts.{is_set}
use Rattle.vx_alloc.proofs.Indexes.{length-grown, grown_index}
use Rattle.vx_alloc.proofs.free_map.FreeMap.grow.Goals as goal

pub count_set-self-inside-requires : goal.count_set-self-inside-requires
count_set-self-inside-requires c =
    let fields = c.self.inside in
    let sound = c.self.invariant.0 in
    let more : fields.units < c.args.units = subst (λ (v : FreeMapView). v.units < c.args.units) (sym c.self.view_is) c.requires.more in
    let room : c.args.units ≤ fields.room = subst (λ (v : FreeMapView). c.args.units ≤ v.room) (sym c.self.view_is) c.requires.room in
    let most : fields.room ≤ 64 = sound.rooms in
    let long : length c.as_slice.result.now ≡ 4096 * c.args.units = ap length (c.as_slice.ensures.value ∙ c.push_data_blocks.ensures.items) ∙ length-grown fields.per_unit fields.units c.args.units fields.free.items sound.bits more in
    omega arith

pub invariant_of-self : goal.invariant_of-self
invariant_of-self c =
    let fields = c.self.inside in
    let sound = c.self.invariant.0 in
    let more : fields.units < c.args.units = subst (λ (v : FreeMapView). v.units < c.args.units) (sym c.self.view_is) c.requires.more in
    let room : c.args.units ≤ fields.room = subst (λ (v : FreeMapView). c.args.units ≤ v.room) (sym c.self.view_is) c.requires.room in
    let n : ℕ = 4096 * (c.args.units - fields.units) in
    let none : Option ℕ = None in
    let waiting : length c.push_none.new.places.items ≡ length fields.pending.items + n = ap length c.push_none.ensures.items ∙ length-append fields.pending.items (replicate n none) ∙ ap (λ (m : ℕ). length fields.pending.items + m) (length-replicate n none) in
    let places : length fields.pending.items ≡ 4096 * fields.units = sound.places in
    let counted = c.count_set-self-inside.ensures ∙ ap (count_by is_set) (c.as_slice.ensures.value ∙ c.push_data_blocks.ensures.items) in
    let pending_counted = c.count_waiting-self-inside.ensures ∙ ap (count_by is_some) (c.as_slice-2.ensures.value ∙ c.push_none.ensures.items) in
    let index = grown_index fields.per_unit fields.units c.args.units fields.free.items sound.bits more fields.room fields.free_count fields.pending_count c.count_set-self-inside.result c.count_waiting-self-inside.result fields.pending.items fields.runs c.add_units.new.runs sound.places c.self.invariant.1
    c.add_units.ensures.covers c.add_units.ensures.room counted pending_counted in (
      record {
        addresses = sound.addresses;
        data_blocks = sound.data_blocks;
        fits = room;
        rooms = sound.rooms;
        bits = ap length c.push_data_blocks.ensures.items ∙ length-grown fields.per_unit fields.units c.args.units fields.free.items sound.bits more;
        places = omega arith;
        bits_room = omega (arith, sound.bits_room, c.push_data_blocks.ensures.capacity);
        places_room = omega (arith, sound.places_room, c.push_none.ensures.capacity);
      },
      subst (λ (xs : List Bool). IsIndexed fields.per_unit fields.room xs c.push_none.new.places.items c.add_units.new.runs c.count_set-self-inside.result c.count_waiting-self-inside.result) (sym c.push_data_blocks.ensures.items)
          (subst (λ (ys : List (Option ℕ)). IsIndexed fields.per_unit fields.room (fields.free.items ++ data_bits fields.per_unit n) ys c.add_units.new.runs c.count_set-self-inside.result c.count_waiting-self-inside.result) (sym c.push_none.ensures.items) index),
    )
