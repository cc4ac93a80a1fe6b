use Rattle.std.proofs.lemmas.List.{get_or_read}
use Rattle.vx_txn.proofs.Paged.{has_room, touched_next, all_touched, none_touched}
use Rattle.vx_txn.proofs.edits.touch_blocks.Goals as goal

pub loop-i-init : goal.loop-i-init
loop-i-init c = none_touched c.args.first c.args.from c.args.blocks.now c.args.touched.now

pub add_unit-requires : goal.add_unit-requires
add_unit-requires c = has_room c.args.first c.args.from c.loop-i.i c.args.blocks.now c.args.touched.now c.loop-i.touched c.loop-i.invariant c.loop-i-test.true c.requires.few

pub loop-i-preserved : goal.loop-i-preserved
loop-i-preserved c =
    touched_next c.args.first c.args.from c.loop-i.i c.args.blocks.now c.args.touched.now c.loop-i.touched c.loop-i.invariant c.index-blocks-i.result c.unit_of.result c.add_unit.new.self c.loop-i-test.true
    (get_or_read c.args.blocks.now c.loop-i.i c.index-blocks-i.result c.loop-i-test.true c.index-blocks-i.is 0) c.unit_of.ensures c.add_unit.ensures

pub returns : goal.returns
returns c = all_touched c.args.first c.args.from c.loop-i.i c.args.blocks.now c.args.touched.now c.loop-i.touched c.loop-i.invariant c.loop-i-test.false
