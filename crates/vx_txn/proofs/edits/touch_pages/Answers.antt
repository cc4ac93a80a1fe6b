use Rattle.std.proofs.Common.{◌≡◌, ℕ, ◌<◌, length, ◌∙◌, ap, subst, arith}
use Rattle.vx_dir.specs.Directories.{Directory}
use Rattle.vx_extents.specs.Extents.{mapped_at}
use Rattle.vx_filemaps.specs.Files.{FileView}
use Rattle.vx_space.specs.Space.{page_blocks}
use Rattle.vx_txn.proofs.Paged.{found_block, has_room, length_blocks, never_none, touched_next, all_touched, none_touched}
use Rattle.vx_txn.proofs.edits.touch_pages.Goals as goal

within : (d : Directory) (e : Directory) (i end : ℕ) → i < end → end ≡ length d.blocks → d ≡ e → i < length e.blocks
within d e i end lt is same = subst (λ (x : Directory). i < length x.blocks) same (subst (λ (n : ℕ). i < n) is lt)

pub loop-i-init : goal.loop-i-init
loop-i-init c = none_touched c.args.first c.args.from (page_blocks c.args.directory.now.maps.space.present) c.args.touched.now

pub add_unit-requires : goal.add_unit-requires
add_unit-requires c =
    let d = c.args.directory.now in
    let lt : c.loop-i.i < length d.names.blocks = within c.names.result.now d.names c.loop-i.i c.blocks-i-end.result c.loop-i-test.true c.blocks-i-end.ensures c.names.ensures in
    let count = length_blocks d c.requires.paged in
    has_room c.args.first c.args.from c.loop-i.i (page_blocks d.maps.space.present) c.args.touched.now c.loop-i.touched c.loop-i.invariant (omega arith) c.requires.few

pub unreachable-requires : goal.unreachable-requires
unreachable-requires c =
    let d = c.args.directory.now in
    let lt : c.loop-i.i < length d.names.blocks = within c.names.result.now d.names c.loop-i.i c.blocks-i-end.result c.loop-i-test.true c.blocks-i-end.ensures c.names.ensures in
    never_none d c.requires.paged c.loop-i.i c.new.result c.find.result lt c.new.ensures (c.find.ensures ∙ ap (λ (m : FileView). mapped_at m.space.present c.new.result) c.maps.ensures) c.in-None.is

pub loop-i-preserved : goal.loop-i-preserved
loop-i-preserved c =
    let d = c.args.directory.now in
    let lt : c.loop-i.i < length d.names.blocks = within c.names.result.now d.names c.loop-i.i c.blocks-i-end.result c.loop-i-test.true c.blocks-i-end.ensures c.names.ensures in
    let count = length_blocks d c.requires.paged in
    let b = found_block d c.requires.paged c.loop-i.i c.new.result c.in-Some.found.0 c.in-Some.found.1 c.find.result lt c.new.ensures (c.find.ensures ∙ ap (λ (m : FileView). mapped_at m.space.present c.new.result) c.maps.ensures) c.in-Some.is in
    touched_next c.args.first c.args.from c.loop-i.i (page_blocks d.maps.space.present) c.args.touched.now c.loop-i.touched c.loop-i.invariant c.in-Some.found.0 c.unit_of.result c.add_unit.new.self (omega arith) b c.unit_of.ensures c.add_unit.ensures

pub returns : goal.returns
returns c =
    let d = c.args.directory.now in
    let count = length_blocks d c.requires.paged in
    let end = c.blocks-i-end.ensures in
    let same = ap (λ (x : Directory). length x.blocks) c.names.ensures in
    all_touched c.args.first c.args.from c.loop-i.i (page_blocks d.maps.space.present) c.args.touched.now c.loop-i.touched c.loop-i.invariant (let past = c.loop-i-test.false in omega arith)
