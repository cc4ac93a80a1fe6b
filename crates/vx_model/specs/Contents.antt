-- What an image of a state says.
use Rattle.std.specs.Prelude.{◌≡◌, ℕ, ◌+◌, ◌*◌, ◌<◌, ◌==◌, ◌&&◌, nat_lt, List, [], ◌∷◌, ◌++◌, length, replicate, slice_get, Option, Some, None, if◌then◌else◌}
use Rattle.std.specs.Option.{option_map, option_and_then}
use Rattle.std.specs.FinMap as map
use Rattle.vx_base.specs.declared.kind.FileKind.TheVariants.{File, Directory}
use Rattle.vx_base.specs.declared.inode.Extent.{Extent}
use Rattle.vx_base.specs.declared.inode.Inode.{Inode}
use Rattle.vx_base.specs.declared.inode.InodeValue.{InodeValue}
use Rattle.vx_layout.specs.Places.{Volume, bitmap_sector, first_data, per_block}
use Rattle.vx_layout.specs.Bits.{bits_bytes}
use Rattle.vx_layout.specs.Inodes.{slot_bytes}
use Rattle.vx_extents.specs.Extents.{stretches}
use Rattle.vx_model.specs.Tree.{Node, IsFile, IsDirectory, no_attrs, new_directory}
use Rattle.vx_model.specs.Layout.{Layout, Claim, blocks_at, space_at, settled_at, settled_maps, first_of, claim_of}
use Rattle.vx_model.specs.Shapes.{kept_attrs}
use Rattle.vx_model.specs.State.{State}
use Rattle.vx_model.specs.Images.{Parsed}

-- ---- inodes

-- the six places for extents
abbrev pub places : List Extent → List (Option Extent)
places es = slice_get es 0 ∷ slice_get es 1 ∷ slice_get es 2 ∷ slice_get es 3 ∷ slice_get es 4 ∷ slice_get es 5 ∷ []

-- what the device says that an inode takes up: its extents, its map blocks, and its size in bytes
pub record Held : Type 0 where
  pub extents : List Extent
  pub maps : List ℕ
  pub size : ℕ

abbrev pub settled_of : Layout → ℕ → Held
settled_of l n = record { extents = stretches (settled_at l n); maps = settled_maps l n; size = 1024 * length (blocks_at l n) + (space_at l n).size }

-- what an inode says that takes up so much
abbrev pub value_of : Held → Inode → InodeValue
value_of h inode = record { inode = inode; maps = length h.maps; extents = length h.extents; first = places h.extents; map = first_of h.maps }

-- the inode of a node that takes up so much
abbrev pub inode_for : Held → Node → InodeValue
inode_for h (IsFile f) = value_of h (record { kind = File; mode = f.mode; nlink = f.nlink; size = h.size; attrs = kept_attrs f.attrs })
inode_for h (IsDirectory d) = value_of h (record { kind = Directory; mode = d.mode; nlink = 1; size = h.size; attrs = no_attrs })

abbrev pub inode_value : State → ℕ → Option InodeValue
inode_value s n = option_map (inode_for (settled_of s.layout n)) (map.get s.tree.nodes n)

-- ---- all of it

abbrev pub parsed_of : State → Parsed
parsed_of s = record {
  inodes = inode_value s;
  forms = λ b. option_and_then (λ (c : Claim). c.form) (claim_of s.layout b);
  claims = λ b. option_map (λ (c : Claim). c.ino) (claim_of s.layout b);
}

-- ---- a new image

abbrev pub fresh_root : InodeValue
fresh_root = inode_for (record { extents = []; maps = []; size = 0 }) (new_directory 493)

-- the bitmap of a new unit: its own block and those of the inodes are in use
abbrev pub new_bitmap : (per_block : ℕ) → List ℕ
new_bitmap per_block = bits_bytes (λ j. nat_lt j (first_data per_block))

-- Sector i of new unit u. The unit's bitmap stands first. The only inode in use is the root, which is inode 2, the first of the
-- second pair of unit 0.
abbrev pub unit_bytes : (per_block u i : ℕ) → List ℕ
unit_bytes per_block u i =
    if i == 0 then new_bitmap per_block else (if u == 0 && i == per_block + 1 then slot_bytes (Some fresh_root) ++ slot_bytes None else replicate 512 0)

-- the sectors of a unit that formatting writes: those of its bitmap's block, and one for each pair of inodes
abbrev pub unit_sectors : Volume → ℕ
unit_sectors v = per_block v + 64

-- the bitmap and the inodes of each unit are those of a new file system
abbrev pub IsFormatted : Volume → (ℕ → List ℕ) → Type 0
IsFormatted v image = (u i : ℕ) → u < v.units → i < unit_sectors v → image (bitmap_sector v u + i) ≡ unit_bytes (per_block v) u i
