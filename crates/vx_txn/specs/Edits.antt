-- What the edits of the metadata do.
use Rattle.std.specs.Prelude.{◌≡◌, ◌≢◌, ◌≤◌, ◌*◌, ◌-◌, ◌/◌, ℕ, false, List, [], ◌++◌, drop, length, map, Option, Some, None, Result, Ok, Err, alloc_error}
use Rattle.vx_base.specs.declared.inode.Inode.{Inode}
use Rattle.vx_base.specs.declared.kind.FileKind.{FileKind}
use Rattle.vx_base.specs.declared.kind.FileKind.TheVariants as kind
use Rattle.vx_inode.specs.Tables.{inode_at, with_inode}
use Rattle.vx_inode.specs.declared.table.MakeRefusal.{MakeRefusal}
use Rattle.vx_inode.specs.declared.table.MakeRefusal.TheVariants as make
use Rattle.vx_model.specs.Legal.{is_any_time}
use Rattle.vx_base.specs.declared.reply.Reply.{Reply}
use Rattle.vx_base.specs.declared.reply.Reply.TheVariants as say
use Rattle.std.specs.declared.alloc.AllocError.{AllocError}
use Rattle.vx_model.specs.Making.{make_along}
use Rattle.vx_model.specs.Outcome.{Maybe, ◌>>=◌}
use Rattle.vx_model.specs.State.{State, Done}
use Rattle.vx_model.specs.Walks.{names_of}
use Rattle.vx_model.specs.Touching.{Touched}
use Rattle.vx_model.specs.Layout.{pages_from}
use Rattle.vx_model.specs.Tree.{Node, new_file, new_directory, lowest_unused}
use Rattle.vx_alloc.specs.FreeMaps.{FreeMapView}
use Rattle.vx_base.specs.Paths.{FileName}
use Rattle.vx_base.specs.declared.refusal.Refusal.{Refusal}
use Rattle.vx_base.specs.declared.refusal.Refusal.TheVariants as no
use Rattle.vx_base.specs.declared.inode.DirEntry.{DirEntry}
use Rattle.vx_dir.specs.Directories.{Directory, add_answer, empty, with_entry}
use Rattle.vx_dir.specs.declared.refusal.DirRefusal.{DirRefusal}
use Rattle.vx_dir.specs.declared.refusal.DirRefusal.TheVariants as dir
use Rattle.vx_filemaps.specs.FileMaps.{HasTaken, IsRefusal, IsRequest, filling_of}
use Rattle.vx_filemaps.specs.declared.place.PlaceRefusal.{PlaceRefusal}
use Rattle.vx_filemaps.specs.declared.place.PlaceRefusal.TheVariants as place
use Rattle.vx_space.specs.Placing.{Request, place_fill}
use Rattle.vx_space.specs.Space.{no_space, page_blocks}
use Rattle.vx_txn.specs.Calls.{HasGone}
use Rattle.vx_txn.specs.Directories.{DirectoryValue, placed}
use Rattle.vx_txn.specs.Metas.{directory_of}
use Rattle.vx_txn.specs.declared.edits.EditRefusal.{EditRefusal}
use Rattle.vx_txn.specs.declared.edits.EditRefusal.TheVariants as edit
use Rattle.vx_txn.specs.declared.meta.Meta.{Meta}

-- the edit was done
abbrev pub IsEdited : State → Maybe State → Meta → Touched → Type 0
IsEdited base (Ok new) m t = HasGone base new m t
IsEdited base (Err why) m t = ⊥

-- the edit is refused, unless memory is short
abbrev pub IsRefused : Maybe State → EditRefusal → Type 0
IsRefused edited (edit.Refused why) = (edited ≡ Err why) × (is_any_time why ≡ false)
IsRefused edited edit.NoMemory = Unit {0}

abbrev pub new_node : FileKind → ℕ → Node
new_node kind.File mode = new_file mode
new_node kind.Directory mode = new_directory mode

-- there is an inode more
pub record IsMade (old new : Meta) (ino : ℕ) : Type 0 where
  pub inode : Inode
  pub inodes : new.inodes ≡ with_inode old.inodes ino inode
  pub unused : inode_at old.inodes ino ≡ None
  pub directories : (n : ℕ) → n ≢ ino → directory_of new n ≡ directory_of old n
  pub free : new.free ≡ old.free
  pub first : new.first ≡ old.first

-- each number has an inode, unless memory is short
abbrev pub IsFullOf : State → MakeRefusal → Type 0
IsFullOf s (make.NoInodes in_use) = (in_use ≡ 128 * s.layout.units - 2) × (128 * s.layout.units ≤ lowest_unused s.layout.units s.tree.nodes)
IsFullOf s make.NoMemory = Unit {0}

-- ---- a name more

abbrev pub refused_as : Result ℕ DirRefusal → Result ℕ Refusal
refused_as (Ok i) = Ok i
refused_as (Err dir.Exist) = Err no.Exist
refused_as (Err (dir.TooBig end)) = Err (no.TooBig end)
refused_as (Err dir.NoMemory) = Err no.NoMemory

-- the place of the first block with room for the name, or behind the last one; or why there may be no further block
abbrev pub place_answer : Directory → FileName → Result ℕ Refusal
place_answer d name = refused_as (add_answer d name)

abbrev pub HasAnswer : Result ℕ Refusal → FileName → Option DirectoryValue → Type 0
HasAnswer answer name None = ⊥
HasAnswer answer name (Some d) = place_answer d.names name ≡ answer

-- ---- blocks more

-- what is wanted of the free blocks for a directory's next block
abbrev pub IsWanted : Request → FreeMapView → DirectoryValue → Type 0
IsWanted r free d = IsRequest r d.maps.space.present free 8 (length d.names.blocks) 1

-- the directory's next block was placed, with the map blocks that are needed then, and it has the entry alone
pub record HasGrown (e : DirEntry) (d new : DirectoryValue) (free free_new : FreeMapView) : Type 0 where
  pub placed : (r : Request) → IsWanted r free d → place_fill r d.maps.space (length d.names.blocks) 1 (filling_of free d.maps) ≡ Ok (filling_of free_new new.maps)
  pub names : new.names ≡ with_entry d.names e
  pub space : new.maps.space ≡ record d.maps.space { present = new.maps.space.present }
  pub taken : HasTaken free free_new

abbrev pub IsGrownTo : DirEntry → DirectoryValue → Option DirectoryValue → FreeMapView → FreeMapView → Type 0
IsGrownTo e d None free free_new = ⊥
IsGrownTo e d (Some new) free free_new = HasGrown e d new free free_new

-- no block was placed, unless memory is short
abbrev pub IsFull : DirectoryValue → FreeMapView → PlaceRefusal → Type 0
IsFull d free why = (r : Request) → IsWanted r free d → IsRefusal (place_fill r d.maps.space (length d.names.blocks) 1 (filling_of free d.maps)) why

abbrev pub refusal_of : PlaceRefusal → EditRefusal
refusal_of (place.Refused why) = edit.Refused why
refusal_of place.NoMemory = edit.NoMemory

-- the units of blocks, from the first block of unit 0 on
abbrev pub units_from : ℕ → List ℕ → List ℕ
units_from first blocks = map (λ (b : ℕ). (b - first) / 4096) blocks

-- each block is a page
pub record HasPages (d : DirectoryValue) : Type 0 where
  pub same_count : length d.maps.space.present ≡ length d.names.blocks
  pub pages : d.maps.space.present ≡ pages_from 0 (placed d.maps.space.present d.names.blocks)

abbrev pub AreBlocks : Option DirectoryValue → Type 0
AreBlocks None = Unit {0}
AreBlocks (Some d) = HasPages d

-- the blocks of pages from one on, and the map blocks from one on
abbrev pub blocks_past : ℕ → ℕ → Option DirectoryValue → List ℕ
blocks_past pages maps None = []
blocks_past pages maps (Some d) = drop pages (page_blocks d.maps.space.present) ++ drop maps d.maps.maps

-- ---- an inode more and less

-- a directory without a block
abbrev pub empty_directory : DirectoryValue
empty_directory = record { names = empty 1024 64; maps = record { space = no_space; maps = [] } }

abbrev pub new_directory_at : FileKind → Option DirectoryValue → Option DirectoryValue
new_directory_at kind.File before = before
new_directory_at kind.Directory before = Some empty_directory

-- all blocks of a directory
abbrev pub all_blocks : Option DirectoryValue → List ℕ
all_blocks None = []
all_blocks (Some d) = page_blocks d.maps.space.present ++ d.maps.maps

-- ---- calls

-- create or mkdir
abbrev pub make_path : State → List ℕ → Node → Maybe Done
make_path s path node = names_of path >>= make_along s node

abbrev pub refusal_reply : EditRefusal → Result Reply AllocError
refusal_reply (edit.Refused why) = Ok (say.Refused why)
refusal_reply edit.NoMemory = Err alloc_error
