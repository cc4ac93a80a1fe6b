-- What the sectors of an image say, read by places. The log's records are laid over them before. Each of these is a value for any
-- bytes; that the bytes are of the form is a fact of its own.
use Rattle.std.specs.Prelude.{ℕ, zero, suc, ◌+◌, ◌-◌, ◌*◌, ◌%◌, ◌==◌, nat_lt, Bool, List, [], ◌∷◌, ◌++◌, take, Option, Some, None, if◌then◌else◌}
use Rattle.std.specs.Option.{option_and_then, unwrap_or}
use Rattle.std.specs.List.{flat_map, count_by, list_any}
use Rattle.vx_base.specs.declared.kind.FileKind.{FileKind}
use Rattle.vx_base.specs.declared.kind.FileKind.TheVariants.{File, Directory}
use Rattle.vx_base.specs.declared.inode.Extent.{Extent}
use Rattle.vx_base.specs.declared.inode.InodeValue.{InodeValue}
use Rattle.vx_base.specs.declared.inode.DirEntry.{DirEntry}
use Rattle.vx_layout.specs.Places.{Volume, per_block, block_sector, inode_sector}
use Rattle.vx_layout.specs.Inodes.{half_of, slot_at, layout1}
use Rattle.vx_layout.specs.Maps.{MapBlock, map_block_at, map_places}
use Rattle.vx_layout.specs.Dirs.{dir_at}
use Rattle.vx_sound.specs.FirstFault.{numbers}

-- the sectors of a device, by number
abbrev pub Image : Type 0
Image = ℕ → List ℕ

abbrev pub among : List ℕ → ℕ → Bool
among xs x = list_any (λ y. x == y) xs

-- the number of inodes
abbrev pub inode_count : Volume → ℕ
inode_count v = 128 * v.units

-- the bytes of a block
abbrev pub block_bytes : Volume → Image → ℕ → List ℕ
block_bytes v image b = flat_map (λ i. image (block_sector (per_block v) b + i)) (numbers 0 (per_block v))

-- ---- inodes

abbrev pub inode_bytes_at : Volume → Image → ℕ → List ℕ
inode_bytes_at v image n = half_of (image (inode_sector v n)) (n % 2)

abbrev pub slot_said : Volume → Image → ℕ → Option (Option InodeValue)
slot_said v image n = slot_at layout1 (inode_bytes_at v image n)

-- the inode in use at n; none where it is free, its bytes are of no form, or the units end before
unfoldable pub inode_said : Volume → Image → ℕ → Option InodeValue
inode_said v image n = if nat_lt n (inode_count v) then option_and_then (λ s. s) (slot_said v image n) else None

-- ---- map blocks and extents

abbrev pub map_said : Volume → Image → ℕ → MapBlock
map_said v image b = map_block_at (block_bytes v image b)

-- up to k map blocks, each named by the one before
abbrev pub chain_from : Volume → Image → (k : ℕ) → Option ℕ → List ℕ
chain_from v image zero at = []
chain_from v image (suc k) None = []
chain_from v image (suc k) (Some b) = b ∷ chain_from v image k (map_said v image b).next

-- an inode's map blocks, in order
abbrev pub chain_said : Volume → Image → InodeValue → List ℕ
chain_said v image i = chain_from v image i.maps i.map

-- how many extents the k-th map block of an inode with so many extents has: all but the last are full
abbrev pub share_of : Volume → (extents k : ℕ) → ℕ
share_of v extents k =
    if nat_lt (extents - 6 - map_places v.block * k) (map_places v.block) then extents - 6 - map_places v.block * k else map_places v.block

abbrev pub in_place : Option Extent → List Extent
in_place None = []
in_place (Some e) = e ∷ []

-- an inode's extents: those in its six places, and those of its map blocks
abbrev pub extents_said : Volume → Image → InodeValue → List Extent
extents_said v image i = flat_map in_place i.first ++ flat_map (λ b. (map_said v image b).extents) (chain_said v image i)

abbrev pub extent_blocks : Extent → List ℕ
extent_blocks e = numbers e.start e.len

-- an inode's blocks in page order, reserved pages among them
abbrev pub blocks_said : Volume → Image → InodeValue → List ℕ
blocks_said v image i = flat_map extent_blocks (extents_said v image i)

-- ---- claims

abbrev pub claimed_by : Volume → Image → Option InodeValue → List ℕ
claimed_by v image None = []
claimed_by v image (Some i) = chain_said v image i ++ blocks_said v image i

-- the blocks that the inodes below n claim: of each its map blocks, and then its pages
unfoldable pub claims_below : Volume → Image → ℕ → List ℕ
claims_below v image n = flat_map (λ m. claimed_by v image (inode_said v image m)) (numbers 0 n)

-- ---- names

abbrev pub entries_said : Volume → Image → ℕ → List DirEntry
entries_said v image b = unwrap_or (dir_at (block_bytes v image b)) []

-- a directory's blocks; a file has none of these
abbrev pub blocks_by_kind : Volume → Image → InodeValue → FileKind → List ℕ
blocks_by_kind v image i File = []
blocks_by_kind v image i Directory = blocks_said v image i

abbrev pub directory_blocks : Volume → Image → Option InodeValue → List ℕ
directory_blocks v image None = []
directory_blocks v image (Some i) = blocks_by_kind v image i i.inode.kind

-- the entries of inode n's first k directory blocks
abbrev pub entries_below : Volume → Image → ℕ → ℕ → List DirEntry
entries_below v image n k = flat_map (entries_said v image) (take k (directory_blocks v image (inode_said v image n)))

-- all entries of inode n
unfoldable pub entries_of : Volume → Image → ℕ → List DirEntry
entries_of v image n = flat_map (entries_said v image) (directory_blocks v image (inode_said v image n))

-- how many entries name inode n
unfoldable pub names_of : Volume → Image → ℕ → ℕ
names_of v image n = count_by (λ (e : DirEntry). e.ino == n) (flat_map (entries_of v image) (numbers 0 (inode_count v)))
