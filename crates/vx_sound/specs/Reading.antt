-- What an image says, as one value of which each metadata sector is a function.
use Rattle.std.specs.Prelude.{◌≡◌, ℕ, zero, suc, ◌+◌, ◌*◌, ◌<◌, ◌≤◌, ◌||◌, nat_lt, Bool, true, IsTrue, List, ◌++◌, replicate, Option, Some, None, is_some, IfSome, if◌then◌else◌}
use Rattle.std.specs.Option.{option_map, option_and_then}
use Rattle.vx_base.specs.declared.kind.FileKind.{FileKind}
use Rattle.vx_base.specs.declared.kind.FileKind.TheVariants.{File, Directory}
use Rattle.vx_base.specs.declared.inode.InodeValue.{InodeValue}
use Rattle.vx_base.specs.declared.inode.DirEntry.{DirEntry}
use Rattle.vx_layout.specs.Places.{Volume, Place, outside, blank, bits, slots, part, per_block, unit_block, first_data, is_data, place_of, sector_part, IsVolume}
use Rattle.vx_layout.specs.Bits.{bits_bytes}
use Rattle.vx_layout.specs.Inodes.{layout1, slot_bytes, IsInode}
use Rattle.vx_layout.specs.Maps.{MapBlock, IsMap, map_bytes}
use Rattle.vx_layout.specs.Dirs.{IsDir, dir_bytes}
use Rattle.vx_sound.specs.Said.{Image, among, block_bytes, inode_count, inode_said, map_said, chain_said, claimed_by, entries_said}
use Rattle.vx_sound.specs.Sound.{IsSound}

-- a data block that holds metadata
pub data Form : Type 0 where
  Entries : List DirEntry → Form
  Extents : MapBlock → Form

-- Exactly what an image says, by number: the inodes in use, the forms of the blocks that hold metadata, and which inode has each
-- data block in use.
pub record Parsed : Type 0 where
  pub inodes : ℕ → Option InodeValue
  pub forms : ℕ → Option Form
  pub claims : ℕ → Option ℕ

abbrev pub form_bytes : ℕ → Form → List ℕ
form_bytes size (Entries es) = dir_bytes size es
form_bytes size (Extents m) = map_bytes size m

abbrev pub used_in : Volume → Parsed → ℕ → ℕ → Bool
used_in v p u j = nat_lt j (first_data (per_block v)) || is_some (p.claims (unit_block v u + j))

-- what stands at a place, where the metadata say so
abbrev pub content : Volume → Parsed → Place → Option (List ℕ)
content v p outside = None
content v p blank = Some (replicate 512 0)
content v p (bits u) = Some (bits_bytes (used_in v p u))
content v p (slots k) = Some (slot_bytes (p.inodes (2 * k)) ++ slot_bytes (p.inodes (2 * k + 1)))
content v p (part b index) = option_map (λ x. sector_part index (form_bytes v.block x)) (p.forms b)

abbrev pub Stands : Volume → Parsed → Image → Type 0
Stands v p image = (s : ℕ) → IfSome (content v p (place_of v s)) (λ bytes. image s ≡ bytes)

-- ---- what an image says

-- the greatest inode below n that claims the block
unfoldable pub owner_below : Volume → Image → ℕ → ℕ → Option ℕ
owner_below v image b zero = None
owner_below v image b (suc n) = if among (claimed_by v image (inode_said v image n)) b then Some n else owner_below v image b n

abbrev pub owner : Volume → Image → ℕ → Option ℕ
owner v image b = owner_below v image b (inode_count v)

abbrev pub form_by_kind : Volume → Image → ℕ → FileKind → Option Form
form_by_kind v image b File = None
form_by_kind v image b Directory = Some (Entries (entries_said v image b))

-- the form of an inode's block: a map block, a directory's block, or none
abbrev pub form_in : Volume → Image → ℕ → InodeValue → Option Form
form_in v image b i = if among (chain_said v image i) b then Some (Extents (map_said v image b)) else form_by_kind v image b i.inode.kind

unfoldable pub form_said : Volume → Image → ℕ → Option Form
form_said v image b = option_and_then (λ n. option_and_then (form_in v image b) (inode_said v image n)) (owner v image b)

abbrev pub said : Volume → Image → Parsed
said v image = record { inodes = inode_said v image; forms = form_said v image; claims = owner v image }

-- ---- laws

-- the blocks of a volume are whole numbers of sectors, and of at most 64 KiB
pub record HasWholeBlocks (v : Volume) : Type 0 where
  pub volume : IsVolume v
  pub whole : v.block ≡ 512 * per_block v
  pub high : v.block ≤ 65536

pub record ReadingLaws : Type 0 where
  -- a sound image holds, at each metadata sector, what it says
  pub stands : (strict : Bool) (v : Volume) (image : Image) → HasWholeBlocks v → IsSound strict v image → Stands v (said v image) image

pub record ClaimLaws : Type 0 where
  -- the owner of a block is the one inode that claims it, and the block is a data block
  pub claimed : (v : Volume) (image : Image) (b n : ℕ) → owner v image b ≡ Some n → (n < inode_count v) × (among (claimed_by v image (inode_said v image n)) b ≡ true)
  pub owner_is : (strict : Bool) (v : Volume) (image : Image) (b n : ℕ) → IsSound strict v image → n < inode_count v → among (claimed_by v image (inode_said v image n)) b ≡ true → owner v image b ≡ Some n
  pub data_blocks : (strict : Bool) (v : Volume) (image : Image) (b n : ℕ) → IsSound strict v image → owner v image b ≡ Some n → IsTrue (is_data v b)

-- ---- and back: an image that holds what is said says it

abbrev pub IsForm : ℕ → Form → Type 0
IsForm size (Entries es) = IsDir size es
IsForm size (Extents m) = IsMap size m

-- inodes and forms have a spelling and a place
pub record IsSpelled (v : Volume) (p : Parsed) : Type 0 where
  pub inodes : (n : ℕ) → IfSome (p.inodes n) (λ i. IsInode layout1 i × (n < inode_count v))
  pub forms : (b : ℕ) → IfSome (p.forms b) (λ x. IsForm v.block x × IsTrue (is_data v b))

pub record DecodingLaws : Type 0 where
  pub inodes : (v : Volume) (p : Parsed) (image : Image) → HasWholeBlocks v → IsSpelled v p → Stands v p image → (n : ℕ) → inode_said v image n ≡ p.inodes n
  pub blocks : (v : Volume) (p : Parsed) (image : Image) → HasWholeBlocks v → IsSpelled v p → Stands v p image → (b : ℕ) → IfSome (p.forms b) (λ x. block_bytes v image b ≡ form_bytes v.block x)
  pub entries : (v : Volume) (p : Parsed) (image : Image) → HasWholeBlocks v → IsSpelled v p → Stands v p image → (b : ℕ) (es : List DirEntry) → p.forms b ≡ Some (Entries es) → entries_said v image b ≡ es
  pub maps : (v : Volume) (p : Parsed) (image : Image) → HasWholeBlocks v → IsSpelled v p → Stands v p image → (b : ℕ) (m : MapBlock) → p.forms b ≡ Some (Extents m) → map_said v image b ≡ m
