use Rattle.std.proofs.Common.{◌≤◌, ap, ◌∙◌, arith, length}
use Rattle.vx_layout.specs.Maps.{next_from, map_places}
use Rattle.vx_codec.proofs.MapLaws.{begun, grown, is_map_of}
use Rattle.vx_codec.proofs.map.map_of.Goals as goal

pub loop-index-init : goal.loop-index-init
loop-index-init c =
    begun c.args.bytes.now c.next_of.result c.new.result c.new-value.result c.new-value.ensures (c.next_of.ensures ∙ ap next_from c.u32_at.ensures) (c.new.ensures ∙ c.u32_at-2.ensures)

pub loop-index-preserved : goal.loop-index-preserved
loop-index-preserved c =
    grown c.args.bytes.now c.loop-index.index c.loop-index.value c.push.new.self c.extent_of.result c.loop-index.invariant c.in_ok-push.ensures.ok c.extent_of.ensures

pub returns-clause-is : goal.returns-clause-is
returns-clause-is c some_each =
    let low : 1 ≤ c.loop-index.index = omega (arith, c.requires.some, c.loop-index-test.false) in
    let high : c.loop-index.index ≤ map_places (length c.args.bytes.now) = omega (arith, c.requires.room, c.loop-index.auto.index-end) in
    is_map_of (length c.args.bytes.now) c.loop-index.index c.args.bytes.now c.loop-index.value c.loop-index.invariant (λ i. omega (arith, c.type_inv.bytes i)) low high some_each
