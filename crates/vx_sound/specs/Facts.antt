-- The facts that make the metadata of an image sound.
use Rattle.std.specs.Prelude.{◌&&◌, not, Contains, option_map, ◌≡◌, ◌≢◌, ℕ, zero, suc, ◌+◌, ◌*◌, ◌<◌, ◌≤◌, ◌==◌, ◌||◌, nat_lt, Bool, true, false, IsTrue, List, [], ◌∷◌, ◌++◌, length, get_or, take, map, replicate, bit_and, Option, Some, None, is_some, IfSome}
use Rattle.std.specs.List.{AllByRecursion, list_any}
use Rattle.std.specs.Str.{bytes_eq}
use Rattle.vx_base.specs.declared.kind.FileKind.{FileKind}
use Rattle.vx_base.specs.declared.kind.FileKind.TheVariants.{File, Directory}
use Rattle.vx_base.specs.declared.kind.Kind.TheVariants.{Data, Reserved}
use Rattle.vx_base.specs.declared.inode.Extent.{Extent}
use Rattle.vx_base.specs.declared.inode.InodeValue.{InodeValue}
use Rattle.vx_base.specs.declared.inode.DirEntry.{DirEntry}
use Rattle.vx_base.specs.Paths.{FileName, is_name}
use Rattle.vx_layout.specs.Places.{Volume, per_block, first_data, is_data, block_sector, inode_sector, bitmap_sector, unit_block}
use Rattle.vx_layout.specs.Bits.{bits_bytes}
use Rattle.vx_layout.specs.Inodes.{layout1, IsSlot, slot_bytes}
use Rattle.vx_layout.specs.Maps.{MapBlock, IsMap, map_bytes}
use Rattle.vx_layout.specs.Dirs.{IsDir, dir_bytes}
use Rattle.vx_sound.specs.Said.{Image, among, inode_count, block_bytes, inode_bytes_at, inode_said, chain_said, share_of, extents_said, blocks_said, claims_below, directory_blocks, entries_said, entries_below, entries_of, names_of}

-- the root's inode
abbrev pub root : ℕ
root = 2

-- ---- one inode

-- its bytes spell a free inode or one in use, and 0 and 1 are free
pub record IsInodeRight (v : Volume) (image : Image) (n : ℕ) : Type 0 where
  pub slot : Option InodeValue
  pub is_slot : IsSlot layout1 slot
  pub spelled : inode_bytes_at v image n ≡ slot_bytes slot
  pub whole : length (image (inode_sector v n)) ≡ 512
  pub first_two : n < 2 → slot ≡ None

-- a block that may be claimed after those of `before`
pub record IsClaimable (v : Volume) (before : List ℕ) (b : ℕ) : Type 0 where
  pub is_data : IsTrue (is_data v b)
  pub new : among before b ≡ false

-- none of these stands among those, nor twice, and each is a data block
abbrev pub AreClaimable : Volume → List ℕ → List ℕ → Type 0
AreClaimable v before [] = Unit {0}
AreClaimable v before (b ∷ bs) = IsClaimable v before b × AreClaimable v (before ++ b ∷ []) bs

-- the k-th map block of inode n is a data block that nothing before claims
abbrev pub IsMapInPlace : Volume → Image → ℕ → ℕ → InodeValue → Type 0
IsMapInPlace v image n k i = IsClaimable v (claims_below v image n ++ take k (chain_said v image i)) (get_or (chain_said v image i) k 0)

-- each sector of a block is whole
abbrev pub IsWholeBlock : Volume → Image → ℕ → Type 0
IsWholeBlock v image b = (i : ℕ) → i < per_block v → length (image (block_sector (per_block v) b + i)) ≡ 512

-- a map block's bytes spell one of this inode, with its share of the extents, and a next one exactly where there is one
pub record IsMapRight (v : Volume) (image : Image) (n k : ℕ) (i : InodeValue) : Type 0 where
  pub map : MapBlock
  pub is_map : IsMap v.block map
  pub spelled : block_bytes v image (get_or (chain_said v image i) k 0) ≡ map_bytes v.block map
  pub whole : IsWholeBlock v image (get_or (chain_said v image i) k 0)
  pub owner : map.ino ≡ n
  pub share : length map.extents ≡ share_of v i.extents k
  pub next : is_some map.next ≡ nat_lt (k + 1) i.maps

-- some pages below the end of the largest file; data of a file begins below its size, and a file that keeps no reservation has no
-- reserved page (that a run stays within its unit follows from its blocks being data blocks)
pub record IsExtentRight (v : Volume) (i : InodeValue) (e : Extent) : Type 0 where
  pub some : 1 ≤ e.len
  pub pages : e.page + e.len ≤ 65536
  pub below_size : e.kind ≡ Data → v.block * (e.page + e.len) < i.inode.size + v.block
  pub kept : e.kind ≡ Reserved → bit_and i.inode.attrs.flags 8 ≡ 0

-- the next extent: its pages come later, and it does not go on where this one ends
pub record Follows (e f : Extent) : Type 0 where
  pub later : e.page + e.len ≤ f.page
  pub apart : e.page + e.len ≡ f.page → e.start + e.len ≡ f.start → e.kind ≢ f.kind

abbrev pub AreInOrder : List Extent → Type 0
AreInOrder [] = Unit {0}
AreInOrder (e ∷ []) = Unit {0}
AreInOrder (e ∷ f ∷ es) = Follows e f × AreInOrder (f ∷ es)

-- data from a page on, without a hole
abbrev pub AreWithoutHoles : ℕ → List Extent → Type 0
AreWithoutHoles at [] = Unit {0}
AreWithoutHoles at (e ∷ es) = (e.page ≡ at) × (e.kind ≡ Data) × AreWithoutHoles (at + e.len) es

-- a directory's blocks are its first pages, and its size is theirs
pub record IsDirectoryExtents (v : Volume) (i : InodeValue) (blocks : List ℕ) (es : List Extent) : Type 0 where
  pub whole : AreWithoutHoles 0 es
  pub size : i.inode.size ≡ v.block * length blocks
  pub few : length blocks ≤ 64

abbrev pub FitKind : FileKind → Volume → InodeValue → List ℕ → List Extent → Type 0
FitKind File v i blocks es = Unit {0}
FitKind Directory v i blocks es = IsDirectoryExtents v i blocks es

-- an inode's extents are of the form, and their blocks are data blocks that nothing before claims
pub record AreExtentsRight (v : Volume) (image : Image) (n : ℕ) (i : InodeValue) : Type 0 where
  pub each : AllByRecursion (IsExtentRight v i) (extents_said v image i)
  pub order : AreInOrder (extents_said v image i)
  pub kind : FitKind i.inode.kind v i (blocks_said v image i) (extents_said v image i)
  pub claims : AreClaimable v (claims_below v image n ++ chain_said v image i) (blocks_said v image i)

-- ---- directory blocks

-- a component of a path: a name without a slash
abbrev pub is_legal : FileName → Bool
is_legal name = is_name name && not (list_any (λ b. b == 47) name)

abbrev pub is_name_among : FileName → List DirEntry → Bool
is_name_among name es = list_any (λ (e : DirEntry). bytes_eq name e.name) es

-- each name is legal, and stands neither among those before nor twice
abbrev pub AreNamesRight : List DirEntry → List DirEntry → Type 0
AreNamesRight before [] = Unit {0}
AreNamesRight before (e ∷ es) = (is_legal e.name ≡ true) × (is_name_among e.name before ≡ false) × AreNamesRight (before ++ e ∷ []) es

abbrev pub block_at : Volume → Image → ℕ → ℕ → ℕ
block_at v image n k = get_or (directory_blocks v image (inode_said v image n)) k 0

-- the k-th block of directory n spells entries with such names
pub record AreEntriesRight (v : Volume) (image : Image) (n k : ℕ) : Type 0 where
  pub entries : List DirEntry
  pub is_dir : IsDir v.block entries
  pub spelled : block_bytes v image (block_at v image n k) ≡ dir_bytes v.block entries
  pub whole : IsWholeBlock v image (block_at v image n k)
  pub names : AreNamesRight (entries_below v image n k) entries

-- the entry names an inode in use
abbrev pub HasTarget : Volume → Image → DirEntry → Type 0
HasTarget v image e = is_some (inode_said v image e.ino) ≡ true

abbrev pub AreTargetsRight : Volume → Image → ℕ → ℕ → Type 0
AreTargetsRight v image n k = AllByRecursion (HasTarget v image) (entries_said v image (block_at v image n k))

-- ---- names and inodes

-- inode n is named by an entry of inode d
abbrev pub IsNamedBy : Volume → Image → ℕ → ℕ → Type 0
IsNamedBy v image n d = Contains (map (λ (e : DirEntry). e.ino) (entries_of v image d)) n

-- so many names lead from the root to n
abbrev pub ReachedIn : Volume → Image → (names : ℕ) → ℕ → Type 0
ReachedIn v image zero n = n ≡ root
ReachedIn v image (suc k) n = (d : ℕ) × ReachedIn v image k d × IsNamedBy v image n d

pub record IsReached (v : Volume) (image : Image) (n : ℕ) : Type 0 where
  pub names : ℕ
  pub way : ReachedIn v image names n

-- a directory other than the root has one name, and is reached from the root
pub record HasOneName (v : Volume) (image : Image) (n : ℕ) : Type 0 where
  pub one : names_of v image n ≡ 1
  pub reached : IsReached v image n

-- a file has as many names as its link number says, and in a clean image one at least
pub record HasLinks (strict : Bool) (v : Volume) (image : Image) (n nlink : ℕ) : Type 0 where
  pub links : names_of v image n ≡ nlink
  pub some : strict ≡ true → 1 ≤ nlink

abbrev pub FitNames : (strict : Bool) → Volume → Image → ℕ → InodeValue → FileKind → Type 0
FitNames strict v image n i File = HasLinks strict v image n i.inode.nlink
FitNames strict v image n i Directory = HasOneName v image n

-- the root is a directory without a name
pub record IsRoot (v : Volume) (image : Image) (slot : Option InodeValue) : Type 0 where
  pub directory : option_map (λ (i : InodeValue). i.inode.kind) slot ≡ Some Directory
  pub no_name : names_of v image root ≡ 0

-- the names of inode n, if it is in use, are as many as they should be
pub record AreLinksRight (strict : Bool) (v : Volume) (image : Image) (n : ℕ) : Type 0 where
  pub root_is : n ≡ root → IsRoot v image (inode_said v image n)
  pub other : n ≢ root → IfSome (inode_said v image n) (λ i. FitNames strict v image n i i.inode.kind)

-- ---- bitmaps

-- block j of a unit is in use: the bitmap's, the inodes', and a claimed data block
abbrev pub used_in : Volume → Image → ℕ → ℕ → Bool
used_in v image u j = nat_lt j (first_data (per_block v)) || among (claims_below v image (inode_count v)) (unit_block v u + j)

-- a unit's bitmap says the blocks in use, and the rest of its block is zeros
pub record IsBitmapRight (v : Volume) (image : Image) (u : ℕ) : Type 0 where
  pub bits : image (bitmap_sector v u) ≡ bits_bytes (used_in v image u)
  pub rest : (i : ℕ) → 0 < i → i < per_block v → image (bitmap_sector v u + i) ≡ replicate 512 0
