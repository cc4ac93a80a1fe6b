use Rattle.std.proofs.Common.{◌≡◌, ℕ, ◌<◌, ◌+◌, length, drop, ◌∙◌, sym, ap, subst, arith}
use Rattle.vx_dir.specs.Directories.{Directory}
use Rattle.vx_extents.specs.Extents.{mapped_at}
use Rattle.vx_filemaps.specs.Files.{FileView}
use Rattle.vx_filemaps.specs.Settles.{CanWait, pended}
use Rattle.vx_space.specs.Space.{page_blocks}
use Rattle.vx_txn.proofs.Paged.{found_block, length_blocks, never_none, wait_first, wait_next, wait_rest}
use Rattle.vx_txn.proofs.edits.pend_pages.Goals as goal

within : (d : Directory) (e : Directory) (i end : ℕ) → i < end → end ≡ length d.blocks → d ≡ e → i < length e.blocks
within d e i end lt is same = subst (λ (x : Directory). i < length x.blocks) same (subst (λ (n : ℕ). i < n) is lt)

pub pend-requires : goal.pend-requires
pend-requires c =
    let d = c.args.directory.now in
    let blocks = page_blocks d.maps.space.present in
    let lt : c.loop-i.i < length d.names.blocks = within c.names.result.now d.names c.loop-i.i c.blocks-i-end.result c.loop-i-test.true c.blocks-i-end.ensures c.names.ensures in
    let count = length_blocks d c.requires.paged in
    let b = found_block d c.requires.paged c.loop-i.i c.new.result c.in-Some.found.0 c.in-Some.found.1 c.find.result lt c.new.ensures (c.find.ensures ∙ ap (λ (m : FileView). mapped_at m.space.present c.new.result) c.maps.ensures) c.in-Some.is in
    wait_first c.args.place blocks c.loop-i.i c.in-Some.found.0 c.loop-i.free (omega arith) b c.loop-i.invariant.used

pub unreachable-requires : goal.unreachable-requires
unreachable-requires c =
    let d = c.args.directory.now in
    let lt : c.loop-i.i < length d.names.blocks = within c.names.result.now d.names c.loop-i.i c.blocks-i-end.result c.loop-i-test.true c.blocks-i-end.ensures c.names.ensures in
    never_none d c.requires.paged c.loop-i.i c.new.result c.find.result lt c.new.ensures (c.find.ensures ∙ ap (λ (m : FileView). mapped_at m.space.present c.new.result) c.maps.ensures) c.in-None.is

pub loop-i-preserved : goal.loop-i-preserved
loop-i-preserved c =
    let d = c.args.directory.now in
    let blocks = page_blocks d.maps.space.present in
    let lt : c.loop-i.i < length d.names.blocks = within c.names.result.now d.names c.loop-i.i c.blocks-i-end.result c.loop-i-test.true c.blocks-i-end.ensures c.names.ensures in
    let count = length_blocks d c.requires.paged in
    let inside : c.loop-i.i < length blocks = omega arith in
    let b = found_block d c.requires.paged c.loop-i.i c.new.result c.in-Some.found.0 c.in-Some.found.1 c.find.result lt c.new.ensures (c.find.ensures ∙ ap (λ (m : FileView). mapped_at m.space.present c.new.result) c.maps.ensures) c.in-Some.is in
    record {
      left = c.loop-i.invariant.left ∙ wait_next c.args.place blocks c.loop-i.i c.in-Some.found.0 c.loop-i.free inside b ∙ ap (pended c.args.place (drop (c.loop-i.i + 1) blocks)) (sym c.pend.ensures);
      used = subst (CanWait c.args.place (drop (c.loop-i.i + 1) blocks)) (sym c.pend.ensures) (wait_rest c.args.place blocks c.loop-i.i c.in-Some.found.0 c.loop-i.free inside b c.loop-i.invariant.used);
    }
