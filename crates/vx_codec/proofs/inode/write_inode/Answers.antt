use Rattle.std.proofs.Common.{◌≡◌, ◌++◌, refl, sym, ap, ◌∙◌, length, arith, rules}
use Rattle.std.specs.Prelude.{unwrap_or}
use Rattle.std.specs.Int.{w32, to_le_bytes}
use Rattle.std.specs.List.{flat_map}
use Rattle.vx_layout.specs.Inodes.{inode_head, place_bytes, inode_bytes}
use Rattle.vx_codec.proofs.Lengths.{padded, length-text}
use Rattle.vx_codec.proofs.inode.write_inode.Goals as goal

pub returns : goal.returns
unfolding inode_bytes
returns c =
    let v = c.args.value.now in
    let text : c.put_u32.new.self ≡ inode_head v ++ flat_map place_bytes v.first ++ to_le_bytes w32 (unwrap_or v.map 0) =
    rw (c.put_u32.ensures, c.put-2.ensures, c.put.ensures, c.new-sheet.ensures, c.head_text.ensures, c.extents_text.ensures, c.number_of_block.ensures) refl in
    let long : length c.extents_text.result ≡ 96 = search rules in
    let six : length (flat_map place_bytes v.first) ≡ 96 = ap length (sym c.extents_text.ensures) ∙ long in
    let whole = length-text v six in
    c.finish.ensures ∙ padded _ _ 256 124 text (omega (arith, whole))
