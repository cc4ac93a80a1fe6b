-- What files and directories take up on the device (docs/FILES.md).
use Rattle.std.specs.Prelude.{ℕ, zero, suc, ◌+◌, ◌*◌, Bool, false, not, ◌&&◌, ◌||◌, ◌==◌, nat_le, nat_lt, List, [], ◌∷◌, ◌++◌, map, take, drop, filter, length, Option, Some, None, is_none, Ok, if◌then◌else◌}
use Rattle.std.specs.Option.{unwrap_or}
use Rattle.std.specs.Str.{bytes_eq}
use Rattle.vx_base.specs.declared.refusal.Refusal.TheVariants as no
use Rattle.vx_base.specs.declared.inode.DirEntry.{DirEntry}
use Rattle.vx_base.specs.declared.inode.Extent.{Extent}
use Rattle.vx_base.specs.declared.kind.Kind.TheVariants.{Data}
use Rattle.vx_base.specs.Paths.{FileName}
pub use Rattle.vx_base.specs.Rules.{entry_size, used_by}
use Rattle.vx_layout.specs.Places.{Volume, is_data}
use Rattle.vx_sound.specs.Said.{among}
use Rattle.vx_sound.specs.Reading.{Form, Entries, Extents}
use Rattle.vx_extents.specs.Extents.{Mapped, mapped_at, stretches}
use Rattle.vx_space.specs.Space.{Space, no_space, page_blocks, map_room, maps_for}
use Rattle.vx_space.specs.Placing.{Filling, Request, block_of, place_fill, request_of}
use Rattle.vx_model.specs.Outcome.{Maybe, unless, ◌>>=◌}
use Rattle.vx_model.specs.Tree.{no_attrs}

-- a block of a directory, and its entries in the order in which they stand there
pub record DirectoryBlock : Type 0 where
  pub block : ℕ
  pub entries : List DirEntry

-- The layout state. A directory's blocks stand in page order, by its inode number; so do a file's pages, and the map blocks of either.
-- A block that was freed waits, with the place of the event that freed it, until the log has passed that event. The device's number of
-- sectors never changes.
pub record Layout : Type 0 where
  pub log_blocks : ℕ
  pub units : ℕ
  pub device_sectors : ℕ
  pub directory_limit : ℕ
  pub directories : ℕ → List DirectoryBlock
  pub files : ℕ → Space
  pub maps : ℕ → List ℕ
  pub pending : ℕ → Option ℕ

-- the units stand behind the superblock, the log's head and the log
abbrev pub volume : Layout → Volume
volume l = record { block = 1024; first = 2 + l.log_blocks; units = l.units }

abbrev pub blocks_at : Layout → ℕ → List DirectoryBlock
blocks_at l ino = l.directories ino

abbrev pub space_at : Layout → ℕ → Space
space_at l ino = l.files ino

abbrev pub maps_at : Layout → ℕ → List ℕ
maps_at l ino = l.maps ino

abbrev pub block_numbers : List DirectoryBlock → List ℕ
block_numbers blocks = map (λ (d : DirectoryBlock). d.block) blocks

-- ---- which blocks are free

-- the blocks of an inode, held or on the device; the settled pages are among the present ones
abbrev pub owned : Layout → ℕ → List ℕ
owned l n = block_numbers (blocks_at l n) ++ (page_blocks (space_at l n).present ++ maps_at l n)

-- an inode below n has the block
unfoldable pub is_owned_below : Layout → ℕ → ℕ → Bool
is_owned_below l b zero = false
is_owned_below l b (suc n) = among (owned l n) b || is_owned_below l b n

abbrev pub is_owned : Layout → ℕ → Bool
is_owned l b = is_owned_below l b (128 * l.units)

-- a data block that no inode has and that doesn't wait
unfoldable pub is_free : Layout → ℕ → Bool
is_free l b = is_data (volume l) b && (not (is_owned l b) && is_none (l.pending b))

-- ---- what the device says of an inode's blocks

-- a directory's pages, from one on; they are all on the device
abbrev pub pages_from : ℕ → List DirectoryBlock → List Mapped
pages_from page [] = []
pages_from page (d ∷ ds) = record { page = page; block = d.block; kind = Data } ∷ pages_from (page + 1) ds

-- the pages that the device says an inode has, and as many map blocks as they need: the others are held
abbrev pub settled_at : Layout → ℕ → List Mapped
settled_at l n = pages_from 0 (blocks_at l n) ++ (space_at l n).settled

abbrev pub settled_maps : Layout → ℕ → List ℕ
settled_maps l n = take (maps_for (settled_at l n)) (maps_at l n)

-- a block in use, and what stands there where it holds metadata
pub record Claimed : Type 0 where
  pub block : ℕ
  pub form : Option Form

abbrev pub first_of : List ℕ → Option ℕ
first_of [] = None
first_of (b ∷ bs) = Some b

-- map blocks with these extents, each as many as it holds
abbrev pub chain_of : ℕ → List Extent → List ℕ → List Claimed
chain_of ino extents [] = []
chain_of ino extents (b ∷ bs) =
    record { block = b; form = Some (Extents (record { next = first_of bs; ino = ino; extents = take map_room extents })) } ∷ chain_of ino (drop map_room extents) bs

abbrev pub names_claimed : DirectoryBlock → Claimed
names_claimed d = record { block = d.block; form = Some (Entries d.entries) }

abbrev pub page_claimed : Mapped → Claimed
page_claimed m = record { block = m.block; form = None }

-- the map blocks of an inode that are on the device, with the extents behind the six that stand in the inode
abbrev pub chain_at : Layout → ℕ → List Claimed
chain_at l n = chain_of n (drop 6 (stretches (settled_at l n))) (settled_maps l n)

-- all that the device says an inode has
abbrev pub claimed_at : Layout → ℕ → List Claimed
claimed_at l n = map names_claimed (blocks_at l n) ++ (map page_claimed (space_at l n).settled ++ chain_at l n)

-- the blocks of these, its map blocks first
abbrev pub device_blocks : Layout → ℕ → List ℕ
device_blocks l n = settled_maps l n ++ page_blocks (settled_at l n)

-- the device says that an inode below n has the block
unfoldable pub is_on_device_below : Layout → ℕ → ℕ → Bool
is_on_device_below l b zero = false
is_on_device_below l b (suc n) = among (device_blocks l n) b || is_on_device_below l b n

abbrev pub is_on_device : Layout → ℕ → Bool
is_on_device l b = is_on_device_below l b (128 * l.units)

-- the inode that has a block, and what stands there
pub record Claim : Type 0 where
  pub ino : ℕ
  pub form : Option Form

abbrev pub claim_among : ℕ → ℕ → List Claimed → Option Claim
claim_among n b [] = None
claim_among n b (c ∷ cs) = if b == c.block then Some (record { ino = n; form = c.form }) else claim_among n b cs

abbrev pub or_claim : Option Claim → Option Claim → Option Claim
or_claim None other = other
or_claim (Some c) other = Some c

-- the claim of a block by an inode below n
unfoldable pub claim_below : Layout → ℕ → ℕ → Option Claim
claim_below l b zero = None
claim_below l b (suc n) = or_claim (claim_among n b (claimed_at l n)) (claim_below l b n)

abbrev pub claim_of : Layout → ℕ → Option Claim
claim_of l b = claim_below l b (128 * l.units)

-- ---- room for an entry

-- the bytes that a block has for entries
abbrev pub entry_room : ℕ
entry_room = 1020

abbrev pub has_room : DirectoryBlock → DirEntry → Bool
has_room b e = nat_le (used_by b.entries + entry_size e) entry_room

-- the place of the first block with room for the entry, or behind the last one
abbrev pub room_place : List DirectoryBlock → DirEntry → ℕ
room_place [] e = 0
room_place (b ∷ bs) e = if has_room b e then 0 else suc (room_place bs e)

abbrev pub behind : DirectoryBlock → Option (List DirectoryBlock) → Option (List DirectoryBlock)
behind b None = None
behind b (Some more) = Some (b ∷ more)

-- the blocks with one entry more, behind the others of the first block with room; none where no block has room
abbrev pub with_entry : List DirectoryBlock → DirEntry → Option (List DirectoryBlock)
with_entry [] e = None
with_entry (b ∷ bs) e = if has_room b e then Some (record b { entries = b.entries ++ e ∷ [] } ∷ bs) else behind b (with_entry bs e)

-- ---- an entry more

abbrev pub with_blocks : Layout → ℕ → List DirectoryBlock → Layout
with_blocks l ino blocks = record l { directories = λ n. if n == ino then blocks else l.directories n }

abbrev pub with_space : Layout → ℕ → Space → Layout
with_space l ino x = record l { files = λ n. if n == ino then x else l.files n }

abbrev pub with_maps : Layout → ℕ → List ℕ → Layout
with_maps l ino blocks = record l { maps = λ n. if n == ino then blocks else l.maps n }

-- a directory's pages and map blocks, as a call finds them
abbrev pub directory_filling : Layout → ℕ → Filling
directory_filling l ino = record { free = is_free l; pages = pages_from 0 (blocks_at l ino); maps = maps_at l ino }

-- one block is asked for; `first` is the length that a first extent is to have
abbrev pub directory_request : Layout → ℕ → Request
directory_request l first = request_of (volume l) (is_free l) no_attrs first 1

-- A directory's next block is a page of it, and its map blocks are placed as a file's.
unfoldable pub next_block : Layout → ℕ → ℕ → Maybe Filling
next_block l first ino = place_fill (directory_request l first) no_space (length (blocks_at l ino)) 1 (directory_filling l ino)

-- the block of a page
abbrev pub block_of_page : List Mapped → ℕ → ℕ
block_of_page pages p = unwrap_or (block_of (mapped_at pages p)) 0

-- the entry in a new last block
abbrev pub with_last : Layout → ℕ → DirEntry → Filling → Layout
with_last l ino e f =
    with_maps (with_blocks l ino (blocks_at l ino ++ record { block = block_of_page f.pages (length (blocks_at l ino)); entries = e ∷ [] } ∷ [])) ino f.maps

-- the blocks with a new last one, where the directory may have one more and the blocks are there
abbrev pub with_new_block : Layout → ℕ → ℕ → DirEntry → Maybe Layout
with_new_block l first ino e =
    unless (nat_le (length (blocks_at l ino) + 1) l.directory_limit) (no.TooBig (1024 * (length (blocks_at l ino) + 1))) (
    next_block l first ino >>= (λ f. Ok (with_last l ino e f)))

abbrev pub filled_or_new : Layout → ℕ → ℕ → DirEntry → Option (List DirectoryBlock) → Maybe Layout
filled_or_new l first ino e (Some filled) = Ok (with_blocks l ino filled)
filled_or_new l first ino e None = with_new_block l first ino e

-- the layout with one entry more in a directory, or why there is no place for it
abbrev pub add_entry : Layout → ℕ → ℕ → DirEntry → Maybe Layout
add_entry l first ino e = filled_or_new l first ino e (with_entry (blocks_at l ino) e)

-- ---- an entry less

abbrev pub other_name : FileName → DirEntry → Bool
other_name name e = not (bytes_eq e.name name)

abbrev pub without_name : FileName → DirectoryBlock → DirectoryBlock
without_name name b = record b { entries = filter (other_name name) b.entries }

-- a block that has no entry left stays
abbrev pub remove_entry : Layout → ℕ → FileName → Layout
remove_entry l ino name = with_blocks l ino (map (without_name name) (blocks_at l ino))

-- ---- blocks that are given up

-- these blocks wait, freed by the event at this place
abbrev pub pended : ℕ → List ℕ → (ℕ → Option ℕ) → ℕ → Option ℕ
pended place blocks pending b = if among blocks b then Some place else pending b

-- the blocks of an inode that wait when it gives all of them up
abbrev pub given_up : Layout → ℕ → List ℕ
given_up l n = page_blocks (settled_at l n) ++ maps_at l n

-- An inode gives all its blocks up. Those on the device, and all map blocks, wait; the blocks of held pages are free.
abbrev pub freed : Layout → ℕ → ℕ → Layout
freed l place ino =
    record (with_maps (with_space (with_blocks l ino []) ino no_space) ino []) { pending = pended place (given_up l ino) l.pending }

abbrev pub kept_pending : ℕ → Option ℕ → Option ℕ
kept_pending upto None = None
kept_pending upto (Some place) = if nat_lt place upto then None else Some place

-- what was freed by events at places below `upto` is free
abbrev pub released : Layout → ℕ → Layout
released l upto = record l { pending = λ b. kept_pending upto (l.pending b) }
