-- The blocks of a directory, and where a name stands and goes.
use Rattle.std.specs.Prelude.{◌≡◌, ℕ, ◌+◌, ◌-◌, ◌*◌, ◌≤◌, Bool, ◌||◌, nat_lt, nat_le, bytes_eq, if◌then◌else◌, List, [], ◌∷◌, ◌++◌, length, map, Option, Result, Ok, Err, slice_get, slice_set, slice_index_or}
use Rattle.std.specs.List.{sum_by, count_by, position_or_len, All, remove, flat_map, fold}
use Rattle.std.specs.List.Sorted.{IsPermutation, IsSorted}
use Rattle.std.specs.Cmp.Lexicographic.{slice_cmp}
use Rattle.std.specs.Ordering.{nat_cmp}
use Rattle.std.specs.declared.cmp.Ordering.{Ordering}
use Rattle.std.specs.Option.{option_map}
use Rattle.vx_base.specs.Paths.{FileName}
use Rattle.vx_base.specs.declared.inode.DirEntry.{DirEntry}
use Rattle.vx_dir.specs.Sizes.{Entries, entry_size, used_by}
use Rattle.vx_dir.specs.declared.refusal.DirRefusal.{DirRefusal}
use Rattle.vx_dir.specs.declared.refusal.DirRefusal.TheVariants as no

pub record Directory : Type 0 where
  -- bytes in a block
  pub block_size : ℕ
  -- the most blocks that the directory may have
  pub limit : ℕ
  -- the entries of each block, in the order in which they stand there
  pub blocks : List Entries

abbrev pub empty : ℕ → ℕ → Directory
empty block_size limit = record { block_size = block_size; limit = limit; blocks = [] }

-- ---- sizes

-- the bytes that a block has for entries
abbrev pub entry_room : ℕ → ℕ
entry_room block_size = block_size - 4

abbrev pub has_room : ℕ → ℕ → Entries → Bool
has_room room size entries = nat_le (used_by entries + size) room

abbrev pub entry_count : Directory → ℕ
entry_count d = sum_by (λ (b : Entries). length b) d.blocks

-- ---- where a name stands

abbrev pub is_named : FileName → DirEntry → Bool
is_named name e = bytes_eq e.name name

-- the place of the first entry of that name, or the number of entries
abbrev pub place_of : FileName → Entries → ℕ
place_of name entries = position_or_len (is_named name) entries

abbrev pub holds : FileName → Entries → Bool
holds name entries = nat_lt (place_of name entries) (length entries)

-- the first block that holds the name, or the number of blocks
abbrev pub block_of : FileName → List Entries → ℕ
block_of name blocks = position_or_len (holds name) blocks

abbrev pub block_at : List Entries → ℕ → Entries
block_at blocks i = slice_index_or blocks i []

abbrev pub is_there : Directory → FileName → Bool
is_there d name = nat_lt (block_of name d.blocks) (length d.blocks)

abbrev pub inode_in : FileName → Entries → Option ℕ
inode_in name entries = option_map (λ e. e.ino) (slice_get entries (place_of name entries))

-- the inode that a name means
abbrev pub inode_of : Directory → FileName → Option ℕ
inode_of d name = inode_in name (block_at d.blocks (block_of name d.blocks))

-- how many entries have the name
abbrev pub name_count : FileName → List Entries → ℕ
name_count name blocks = sum_by (λ b. count_by (is_named name) b) blocks

abbrev pub HasDistinctNames : List Entries → Type 0
HasDistinctNames blocks = (name : FileName) → name_count name blocks ≤ 1

abbrev pub IsShort : DirEntry → Type 0
IsShort e = length e.name ≤ 255

abbrev pub HasShortNames : Entries → Type 0
HasShortNames entries = All IsShort entries

-- ---- a further block and a further entry

abbrev pub with_block : Directory → Entries → Directory
with_block d entries = record d { blocks = d.blocks ++ entries ∷ [] }

-- the first block with room for so many bytes, or the number of blocks
abbrev pub place_for : Directory → ℕ → ℕ
place_for d size = position_or_len (has_room (entry_room d.block_size) size) d.blocks

-- the entry stands behind the others of block i, or in a new last one
abbrev pub blocks_with : List Entries → ℕ → DirEntry → List Entries
blocks_with blocks i e = if nat_lt i (length blocks) then slice_set blocks i (block_at blocks i ++ e ∷ []) else blocks ++ (e ∷ []) ∷ []

abbrev pub with_entry : Directory → DirEntry → Directory
with_entry d e = record d { blocks = blocks_with d.blocks (place_for d (entry_size e)) e }

-- whether a block has room, or there may be one more
abbrev pub has_place : Directory → ℕ → Bool
has_place d size = nat_lt (place_for d size) (length d.blocks) || nat_lt (length d.blocks) d.limit

-- what an add is answered, but for want of memory: the block of the new entry, or why there is none
abbrev pub add_answer : Directory → FileName → Result ℕ DirRefusal
add_answer d name =
    if is_there d name then Err no.Exist
    else (if has_place d (5 + length name) then Ok (place_for d (5 + length name)) else Err (no.TooBig (d.block_size * (length d.blocks + 1))))

-- ---- an entry less

abbrev pub without_entry : FileName → Entries → Entries
without_entry name entries = remove entries (place_of name entries)

-- the first block that holds the name is without its entry
abbrev pub without_name : Directory → FileName → Directory
without_name d name =
    let i = block_of name d.blocks in record d { blocks = slice_set d.blocks i (without_entry name (block_at d.blocks i)) }

-- ---- all names

abbrev pub all_entries : Directory → Entries
all_entries d = flat_map (λ b. b) d.blocks

-- the names of all entries, in the order of their bytes
pub record AreNames (d : Directory) (names : List FileName) : Type 0 where
  pub same : IsPermutation (map (λ e. e.name) (all_entries d)) names
  pub sorted : IsSorted (slice_cmp nat_cmp) names

-- ---- packing

-- the last block if it has room, or else the number of blocks; with no block yet both are 0
abbrev pub last_place : ℕ → ℕ → List Entries → ℕ
last_place room size blocks = if has_room room size (block_at blocks (length blocks - 1)) then length blocks - 1 else length blocks

-- an entry behind the last one, or in a new block where it does not fit
abbrev pub put_last : ℕ → List Entries → DirEntry → List Entries
put_last room blocks e = blocks_with blocks (last_place room (entry_size e) blocks) e

-- the blocks of these entries, each put behind the last
abbrev pub packed : ℕ → Entries → List Entries
packed room entries = fold (put_last room) [] entries

abbrev pub by_name : DirEntry → DirEntry → Ordering
by_name a b = slice_cmp nat_cmp a.name b.name

-- the directory with these blocks, if they are fewer than its own
abbrev pub with_fewer : Directory → List Entries → Directory
with_fewer d blocks = if nat_lt (length blocks) (length d.blocks) then record d { blocks = blocks } else d

-- the directory packed in the order of the names' bytes, or as it was where that saves no block
pub record IsTightened (before after : Directory) : Type 0 where
  pub entries : Entries
  pub same : IsPermutation (all_entries before) entries
  pub sorted : IsSorted by_name entries
  pub blocks : after ≡ with_fewer before (packed (entry_room before.block_size) entries)

-- ---- what is always so

pub record IsKept (d : Directory) : Type 0 where
  pub least_size : 1024 ≤ d.block_size
  pub greatest_size : d.block_size ≤ 8192
  pub few_blocks : d.limit ≤ 64
  pub within : length d.blocks ≤ d.limit
  pub fits : All (λ b. used_by b ≤ entry_room d.block_size) d.blocks
  pub short : All HasShortNames d.blocks
  pub distinct : HasDistinctNames d.blocks
