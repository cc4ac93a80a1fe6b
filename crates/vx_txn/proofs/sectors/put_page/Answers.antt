use Rattle.std.proofs.Common.{◌≡◌, get_or, Some, sym, ap, ◌∙◌}
use Rattle.std.specs.Prelude.{slice_get}
use Rattle.std.specs.Option.{option_and_then}
use Rattle.vx_extents.specs.Extents.{mapped_at}
use Rattle.vx_filemaps.specs.Files.{FileView}
use Rattle.vx_layout.specs.Dirs.{dir_bytes}
use Rattle.vx_model.specs.Contents.{parsed_of}
use Rattle.vx_model.specs.Layout.{Claim, volume}
use Rattle.vx_space.specs.Space.{page_blocks}
use Rattle.vx_txn.specs.Staged.{with_parts}
use Rattle.vx_txn.proofs.BlockSectors.{adds_block, block_low, has_block, has_parts, holds, if_some, map_some}
use Rattle.vx_txn.proofs.Paged.{found_block, never_none}
use Rattle.vx_txn.proofs.StateLaws.{directory_here}
use Rattle.vx_txn.proofs.UnitSectors.{is_volume}
use Rattle.vx_txn.proofs.sectors.put_page.Goals as goal

pub unreachable-requires : goal.unreachable-requires
unreachable-requires c =
    let d = c.args.directory.now in
    let i = c.args.place.now.index in
    let shape = (directory_here c.args.meta.now c.requires.sound.state c.requires.sound.stands c.args.place.now.ino d c.requires.there).shape in
    never_none d (record { same_count = shape.same_count; pages = shape.pages }) i c.new.result c.find.result c.requires.inside (c.new.ensures ∙ c.index-i.ensures)
    (c.find.ensures ∙ ap (λ (x : FileView). mapped_at x.space.present c.new.result) c.maps.ensures) c.in-None.is

pub names_block-bytes-requires : goal.names_block-bytes-requires
names_block-bytes-requires c =
    let meta = c.args.meta.now in
    let d = c.args.directory.now in
    let n = c.args.place.now.ino in
    let i = c.args.place.now.index in
    let es = c.block.result.now in
    let b = c.in-Some.found.0 in
    let shape = (directory_here meta c.requires.sound.state c.requires.sound.stands n d c.requires.there).shape in
    let got : slice_get d.names.blocks i ≡ Some es = (λ k. slice_get (sym c.names.ensures k).blocks (sym c.index-i.ensures k)) ∙ c.block.ensures.entries in
    let at : b ≡ get_or (page_blocks d.maps.space.present) i 0 =
    found_block d (record { same_count = shape.same_count; pages = shape.pages }) i c.new.result b c.in-Some.found.1 c.find.result c.requires.inside (c.new.ensures ∙ c.index-i.ensures)
    (c.find.ensures ∙ ap (λ (x : FileView). mapped_at x.space.present c.new.result) c.maps.ensures) c.in-Some.is in
    let s = c.requires.sound.state in
    let stands = c.requires.sound.stands in
    let forms = ap (option_and_then (λ (x : Claim). x.form)) (c.claims.ensures.block s n i (record { block = b; entries = es }) stands.laid_out (holds meta n d c.requires.there i es got b at s stands)) in
    let spelled = if_some _ ((parsed_of s).forms b) _ forms ((c.state_says.ensures.spelled s stands.laid_out).forms b) in
    spelled.0

pub put_block-requires-clause-low : goal.put_block-requires-clause-low
put_block-requires-clause-low c =
    let meta = c.args.meta.now in
    let d = c.args.directory.now in
    let n = c.args.place.now.ino in
    let i = c.args.place.now.index in
    let es = c.block.result.now in
    let b = c.in-Some.found.0 in
    let shape = (directory_here meta c.requires.sound.state c.requires.sound.stands n d c.requires.there).shape in
    let got : slice_get d.names.blocks i ≡ Some es = (λ k. slice_get (sym c.names.ensures k).blocks (sym c.index-i.ensures k)) ∙ c.block.ensures.entries in
    let at : b ≡ get_or (page_blocks d.maps.space.present) i 0 =
    found_block d (record { same_count = shape.same_count; pages = shape.pages }) i c.new.result b c.in-Some.found.1 c.find.result c.requires.inside (c.new.ensures ∙ c.index-i.ensures)
    (c.find.ensures ∙ ap (λ (x : FileView). mapped_at x.space.present c.new.result) c.maps.ensures) c.in-Some.is in
    let s = c.requires.sound.state in
    let stands = c.requires.sound.stands in
    let forms = ap (option_and_then (λ (x : Claim). x.form)) (c.claims.ensures.block s n i (record { block = b; entries = es }) stands.laid_out (holds meta n d c.requires.there i es got b at s stands)) in
    let spelled = if_some _ ((parsed_of s).forms b) _ forms ((c.state_says.ensures.spelled s stands.laid_out).forms b) in
    block_low s b stands.laid_out spelled.1

pub returns-clause-adds : goal.returns-clause-adds
returns-clause-adds c =
    let meta = c.args.meta.now in
    let d = c.args.directory.now in
    let n = c.args.place.now.ino in
    let i = c.args.place.now.index in
    let es = c.block.result.now in
    let b = c.in-Some.found.0 in
    let shape = (directory_here meta c.requires.sound.state c.requires.sound.stands n d c.requires.there).shape in
    let got : slice_get d.names.blocks i ≡ Some es = (λ k. slice_get (sym c.names.ensures k).blocks (sym c.index-i.ensures k)) ∙ c.block.ensures.entries in
    let at : b ≡ get_or (page_blocks d.maps.space.present) i 0 =
    found_block d (record { same_count = shape.same_count; pages = shape.pages }) i c.new.result b c.in-Some.found.1 c.find.result c.requires.inside (c.new.ensures ∙ c.index-i.ensures)
    (c.find.ensures ∙ ap (λ (x : FileView). mapped_at x.space.present c.new.result) c.maps.ensures) c.in-Some.is in
    adds_block c.args.batch.now c.put_block.new.batch b (dir_bytes 1024 es) (c.put_block.ensures ∙ ap (with_parts c.args.batch.now b) c.names_block-bytes.ensures) meta (λ s stands.
    let forms = ap (option_and_then (λ (x : Claim). x.form)) (c.claims.ensures.block s n i (record { block = b; entries = es }) stands.laid_out (holds meta n d c.requires.there i es got b at s stands)) in
    let spelled = if_some _ ((parsed_of s).forms b) _ forms ((c.state_says.ensures.spelled s stands.laid_out).forms b) in
    λ j lt. map_some _ _ _ _ forms (c.sector_contents.ensures.parts (volume s.layout) (parsed_of s) b j (is_volume s.layout) spelled.1 lt))

pub returns-clause-has : goal.returns-clause-has
returns-clause-has c =
    let meta = c.args.meta.now in
    let d = c.args.directory.now in
    let n = c.args.place.now.ino in
    let i = c.args.place.now.index in
    let es = c.block.result.now in
    let b = c.in-Some.found.0 in
    let shape = (directory_here meta c.requires.sound.state c.requires.sound.stands n d c.requires.there).shape in
    let got : slice_get d.names.blocks i ≡ Some es = (λ k. slice_get (sym c.names.ensures k).blocks (sym c.index-i.ensures k)) ∙ c.block.ensures.entries in
    let at : b ≡ get_or (page_blocks d.maps.space.present) i 0 =
    found_block d (record { same_count = shape.same_count; pages = shape.pages }) i c.new.result b c.in-Some.found.1 c.find.result c.requires.inside (c.new.ensures ∙ c.index-i.ensures)
    (c.find.ensures ∙ ap (λ (x : FileView). mapped_at x.space.present c.new.result) c.maps.ensures) c.in-Some.is in
    has_block meta n d c.requires.there i es got b at c.put_block.new.batch
    (has_parts c.args.batch.now c.put_block.new.batch b (dir_bytes 1024 es) (c.put_block.ensures ∙ ap (with_parts c.args.batch.now b) c.names_block-bytes.ensures))
