use Rattle.std.proofs.Common.{◌≡◌, ◌+◌, ◌-◌, ◌<◌, ◌≤◌, ◌*◌, ◌∙◌, ℕ, Bool, List, true, false, length, get_or, subst, sym, ap, arith}
use Rattle.std.specs.List.{count_by}
use Rattle.vx_alloc.specs.FreeMaps.{FreeMapView, IsFreeRun, cleared}
use Rattle.vx_alloc.specs.RunIndexes.{IsIndexed}
use Rattle.vx_alloc.proofs.RunLists.{within_parts}
use Rattle.vx_alloc.proofs.Counts.{is_set, run_bits, run_fits, length-cleared, count_cleared}
use Rattle.vx_alloc.proofs.Indexes.{taken_index}
use Rattle.vx_alloc.proofs.free_map.FreeMap.take_blocks.Goals as goal

pub take-requires-clause-covered : goal.take-requires-clause-covered
take-requires-clause-covered c i is =
    let fields = c.self.inside in
    let view : FreeMapView = record { first = fields.first; per_unit = fields.per_unit; units = fields.units; room = fields.room; free = fields.free.items; pending = fields.pending.items; bar = fields.bar } in
    let run : IsFreeRun view c.args.b c.args.n = subst (λ (v : FreeMapView). IsFreeRun v c.args.b c.args.n) (sym c.self.view_is) c.requires.free in
    let from_is : c.get.result ≡ c.args.b = c.get.ensures in
    let between = within_parts (c.get.result - fields.first) c.args.n i is in
    let low : c.get.result - fields.first ≤ i = between.low in
    let high : i < (c.get.result - fields.first) + c.args.n = between.high in
    c.self.invariant.1.covered i ∙ run_bits view c.args.b c.args.n c.requires.some run i (omega arith) (omega arith)

pub overflow_sub-self : goal.overflow_sub-self
overflow_sub-self c =
    let fields = c.self.inside in
    let view : FreeMapView = record { first = fields.first; per_unit = fields.per_unit; units = fields.units; room = fields.room; free = fields.free.items; pending = fields.pending.items; bar = fields.bar } in
    let run : IsFreeRun view c.args.b c.args.n = subst (λ (v : FreeMapView). IsFreeRun v c.args.b c.args.n) (sym c.self.view_is) c.requires.free in
    let fits : (c.args.b - fields.first) + c.args.n ≤ 4096 * fields.units = run_fits view c.args.b c.args.n c.requires.some run in
    let bits : length fields.free.items ≡ 4096 * fields.units = c.self.invariant.0.bits in
    let count : fields.free_count ≡ count_by is_set fields.free.items = c.self.invariant.1.counted in
    let fewer : count_by is_set (cleared fields.free.items (c.args.b - fields.first) c.args.n) + c.args.n ≡ count_by is_set fields.free.items = count_cleared fields.free.items (c.args.b - fields.first) c.args.n (omega arith) (run_bits view c.args.b c.args.n c.requires.some run) in
    omega arith

pub invariant_of-self : goal.invariant_of-self
invariant_of-self c =
    let fields = c.self.inside in
    let view : FreeMapView = record { first = fields.first; per_unit = fields.per_unit; units = fields.units; room = fields.room; free = fields.free.items; pending = fields.pending.items; bar = fields.bar } in
    let run : IsFreeRun view c.args.b c.args.n = subst (λ (v : FreeMapView). IsFreeRun v c.args.b c.args.n) (sym c.self.view_is) c.requires.free in
    let from : ℕ = c.get.result - fields.first in
    let same : c.args.b - fields.first ≡ from = ap (λ (b : ℕ). b - fields.first) (sym c.get.ensures) in
    let fits : (c.args.b - fields.first) + c.args.n ≤ 4096 * fields.units = run_fits view c.args.b c.args.n c.requires.some run in
    let sound = c.self.invariant.0 in
    let bits : length fields.free.items ≡ 4096 * fields.units = sound.bits in
    let long : length c.clear.new.bits.items ≡ length fields.free.items = ap length c.clear.ensures.items ∙ length-cleared fields.free.items from c.args.n in
    let in_run : (i : ℕ) → from ≤ i → i < from + c.args.n → get_or fields.free.items i false ≡ true = λ i low high. run_bits view c.args.b c.args.n c.requires.some run i (omega arith) (omega arith) in
    let index = taken_index fields.per_unit fields.room fields.free.items fields.pending.items fields.runs c.take.new.self fields.free_count fields.pending_count from c.args.n c.self.invariant.1 (omega arith) in_run c.take.ensures.covers c.take.ensures.free c.take.ensures.room in (
      record {
        addresses = sound.addresses;
        data_blocks = sound.data_blocks;
        fits = sound.fits;
        rooms = sound.rooms;
        bits = long ∙ bits;
        places = sound.places;
        bits_room = omega (arith, sound.bits_room, c.clear.ensures.capacity);
        places_room = sound.places_room;
      },
      subst (λ (xs : List Bool). IsIndexed fields.per_unit fields.room xs fields.pending.items c.take.new.self (fields.free_count - c.args.n) fields.pending_count) (sym c.clear.ensures.items) index,
    )
