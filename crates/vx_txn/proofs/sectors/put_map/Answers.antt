use Rattle.std.proofs.Common.{◌≡◌, ℕ, List, drop, Some, None, sym, ap, subst, ◌∙◌}
use Rattle.std.specs.Prelude.{slice_get}
use Rattle.std.specs.Option.{option_and_then}
use Rattle.vx_base.specs.declared.inode.Extent.{Extent}
use Rattle.vx_extents.specs.Extents.{Mapped, stretches}
use Rattle.vx_filemaps.specs.Files.{FileView}
use Rattle.vx_layout.specs.Maps.{IsMap, map_bytes}
use Rattle.vx_layout.specs.Places.{sector_part}
use Rattle.vx_model.specs.Contents.{parsed_of}
use Rattle.vx_model.specs.Layout.{Claim, Claimed, volume}
use Rattle.vx_txn.specs.Staged.{with_parts}
use Rattle.vx_txn.proofs.BlockSectors.{adds_block, all_extents, block_low, extents, has_map, has_parts, if_some, map_some, one_block}
use Rattle.vx_txn.proofs.UnitSectors.{is_volume}
use Rattle.vx_txn.proofs.sectors.put_map.Goals as goal

pub map_block-bytes-requires : goal.map_block-bytes-requires
map_block-bytes-requires c =
    let meta = c.args.meta.now in
    let d = c.args.directory.now in
    let n = c.args.ino in
    let b = c.in-Some.b.now in
    let chain : c.chain.result.now ≡ d.maps.maps = c.chain.ensures ∙ ap (λ (x : FileView). x.maps) c.maps.ensures in
    let first : slice_get d.maps.maps 0 ≡ Some b = ap (λ (xs : List ℕ). slice_get xs 0) (sym chain) ∙ sym c.in-Some.ensures.value in
    let pages : drop 6 (stretches d.maps.space.present) ≡ drop 6 (stretches c.present.result.now.pages) = ap (λ (p : List Mapped). drop 6 (stretches p)) (sym (c.present.ensures ∙ ap (λ (x : FileView). x.space.present) c.maps-in-Some.ensures)) in
    let s = c.requires.sound.state in
    let stands = c.requires.sound.stands in
    let forms = ap (option_and_then (λ (x : Claim). x.form)) (c.claims.ensures.map_block s n 0 _ stands.laid_out (ap (λ (cs : List Claimed). slice_get cs 0) (one_block meta n d c.requires.there b first s stands))) in
    let spelled = if_some _ ((parsed_of s).forms b) _ forms ((c.state_says.ensures.spelled s stands.laid_out).forms b) in
    record { is = subst (λ (es : List Extent). IsMap 1024 (record { next = None; ino = n; extents = es })) (all_extents meta n d c.requires.there b first s stands ∙ pages) spelled.0 }

pub put_block-requires-clause-low : goal.put_block-requires-clause-low
put_block-requires-clause-low c =
    let meta = c.args.meta.now in
    let d = c.args.directory.now in
    let n = c.args.ino in
    let b = c.in-Some.b.now in
    let chain : c.chain.result.now ≡ d.maps.maps = c.chain.ensures ∙ ap (λ (x : FileView). x.maps) c.maps.ensures in
    let first : slice_get d.maps.maps 0 ≡ Some b = ap (λ (xs : List ℕ). slice_get xs 0) (sym chain) ∙ sym c.in-Some.ensures.value in
    let s = c.requires.sound.state in
    let stands = c.requires.sound.stands in
    let forms = ap (option_and_then (λ (x : Claim). x.form)) (c.claims.ensures.map_block s n 0 _ stands.laid_out (ap (λ (cs : List Claimed). slice_get cs 0) (one_block meta n d c.requires.there b first s stands))) in
    let spelled = if_some _ ((parsed_of s).forms b) _ forms ((c.state_says.ensures.spelled s stands.laid_out).forms b) in
    block_low s b stands.laid_out spelled.1

pub returns-in-Some-clause-adds : goal.returns-in-Some-clause-adds
returns-in-Some-clause-adds c =
    let meta = c.args.meta.now in
    let d = c.args.directory.now in
    let n = c.args.ino in
    let b = c.in-Some.b.now in
    let chain : c.chain.result.now ≡ d.maps.maps = c.chain.ensures ∙ ap (λ (x : FileView). x.maps) c.maps.ensures in
    let first : slice_get d.maps.maps 0 ≡ Some b = ap (λ (xs : List ℕ). slice_get xs 0) (sym chain) ∙ sym c.in-Some.ensures.value in
    let pages : drop 6 (stretches d.maps.space.present) ≡ drop 6 (stretches c.present.result.now.pages) = ap (λ (p : List Mapped). drop 6 (stretches p)) (sym (c.present.ensures ∙ ap (λ (x : FileView). x.space.present) c.maps-in-Some.ensures)) in
    let bytes : c.map_block-bytes.result ≡ map_bytes 1024 (record { next = None; ino = n; extents = extents meta n d c.requires.there b first }) =
    c.map_block-bytes.ensures ∙ ap (λ (es : List Extent). map_bytes 1024 (record { next = None; ino = n; extents = es })) (sym pages) in
    adds_block c.args.batch.now c.put_block.new.batch b _ (c.put_block.ensures ∙ ap (with_parts c.args.batch.now b) bytes) meta (λ s stands.
    let forms = ap (option_and_then (λ (x : Claim). x.form)) (c.claims.ensures.map_block s n 0 _ stands.laid_out (ap (λ (cs : List Claimed). slice_get cs 0) (one_block meta n d c.requires.there b first s stands))) in
    let spelled = if_some _ ((parsed_of s).forms b) _ forms ((c.state_says.ensures.spelled s stands.laid_out).forms b) in
    λ j lt. map_some _ _ _ _ forms (c.sector_contents.ensures.parts (volume s.layout) (parsed_of s) b j (is_volume s.layout) spelled.1 lt)
    ∙ ap (λ (es : List Extent). Some (sector_part j (map_bytes 1024 (record { next = None; ino = n; extents = es })))) (all_extents meta n d c.requires.there b first s stands))

pub returns-in-Some-clause-has : goal.returns-in-Some-clause-has
returns-in-Some-clause-has c =
    let meta = c.args.meta.now in
    let d = c.args.directory.now in
    let n = c.args.ino in
    let b = c.in-Some.b.now in
    let chain : c.chain.result.now ≡ d.maps.maps = c.chain.ensures ∙ ap (λ (x : FileView). x.maps) c.maps.ensures in
    let first : slice_get d.maps.maps 0 ≡ Some b = ap (λ (xs : List ℕ). slice_get xs 0) (sym chain) ∙ sym c.in-Some.ensures.value in
    let pages : drop 6 (stretches d.maps.space.present) ≡ drop 6 (stretches c.present.result.now.pages) = ap (λ (p : List Mapped). drop 6 (stretches p)) (sym (c.present.ensures ∙ ap (λ (x : FileView). x.space.present) c.maps-in-Some.ensures)) in
    let bytes : c.map_block-bytes.result ≡ map_bytes 1024 (record { next = None; ino = n; extents = extents meta n d c.requires.there b first }) =
    c.map_block-bytes.ensures ∙ ap (λ (es : List Extent). map_bytes 1024 (record { next = None; ino = n; extents = es })) (sym pages) in
    has_map meta n d c.requires.there b first c.put_block.new.batch (has_parts c.args.batch.now c.put_block.new.batch b _ (c.put_block.ensures ∙ ap (with_parts c.args.batch.now b) bytes))
