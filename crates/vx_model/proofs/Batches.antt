-- What the sectors of each thing hold.
use Rattle.std.proofs.Common.{◌≡◌, ℕ, ◌+◌, ◌*◌, ◌/◌, ◌<◌, ◌++◌, Some, ap}
use Rattle.std.specs.Prelude.{IsTrue}
use Rattle.std.specs.Option.{option_map}
use Rattle.vx_layout.specs.Places.{Volume, per_block, block_sector, bitmap_sector, inode_sector, is_data, IsVolume, sector_part}
use Rattle.vx_layout.specs.Bits.{bits_bytes}
use Rattle.vx_layout.specs.Inodes.{slot_bytes}
use Rattle.vx_layout.proofs.Standing.{place_bits, place_inode, place_part}
use Rattle.vx_sound.specs.Reading.{form_bytes, used_in}
use Rattle.vx_model.specs.Images.{Parsed, content, content_at}

pub bitmap_content : (v : Volume) (p : Parsed) (u : ℕ) → IsVolume v → u < v.units → content_at v p (bitmap_sector v u) ≡ Some (bits_bytes (used_in v p u))
bitmap_content v p u is lt = ap (content v p) (place_bits v u is lt)

pub inode_content : (v : Volume) (p : Parsed) (n : ℕ) → IsVolume v → n < 128 * v.units
    → content_at v p (inode_sector v n) ≡ Some (slot_bytes (p.inodes (2 * (n / 2))) ++ slot_bytes (p.inodes (2 * (n / 2) + 1)))
inode_content v p n is lt = ap (content v p) (place_inode v n is lt)

pub part_content : (v : Volume) (p : Parsed) (b i : ℕ) → IsVolume v → IsTrue (is_data v b) → i < per_block v
    → content_at v p (block_sector (per_block v) b + i) ≡ option_map (λ x. sector_part i (form_bytes v.block x)) (p.forms b)
part_content v p b i is data_ lt = ap (content v p) (place_part v b i is data_ lt)
