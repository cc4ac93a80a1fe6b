-- The state that the metadata in memory stand for.
use Rattle.std.specs.Prelude.{◌≡◌, ℕ, ◌+◌, ◌*◌, length, Option, Some, None}
use Rattle.std.specs.Option.{option_map}
use Rattle.vx_base.specs.declared.inode.InodeValue.{InodeValue}
use Rattle.vx_base.specs.declared.kind.FileKind.TheVariants.{File, Directory}
use Rattle.vx_base.specs.declared.inode.Inode.{Inode}
use Rattle.vx_alloc.specs.FreeMaps as alloc
use Rattle.vx_inode.specs.Tables.{inode_at}
use Rattle.vx_model.specs.Layout.{blocks_at, maps_at, is_free}
use Rattle.vx_model.specs.State.{State}
use Rattle.vx_model.specs.Contents.{inode_value}
use Rattle.vx_model.specs.LaidOut.{IsLaidOut, IsPlain}
use Rattle.vx_txn.specs.Directories.{DirectoryValue, IsDirectory, blocks_in, maps_in, directory_at}
use Rattle.vx_txn.specs.declared.meta.Meta.{Meta}

-- a directory has its blocks there, and nothing else has
abbrev pub HasDirectory : Option Inode → Option DirectoryValue → Type 0
HasDirectory None None = Unit {0}
HasDirectory None (Some d) = ⊥
HasDirectory (Some i) None = i.kind ≡ File
HasDirectory (Some i) (Some d) = (i.kind ≡ Directory) × IsDirectory d

-- what inode n is
abbrev pub directory_of : Meta → ℕ → Option DirectoryValue
directory_of m n = directory_at m.directories.items n

pub record IsStateOf (m : Meta) (s : State) : Type 0 where
  pub inodes : (n : ℕ) → inode_at m.inodes n ≡ option_map (λ (v : InodeValue). v.inode) (inode_value s n)
  pub blocks : (n : ℕ) → blocks_at s.layout n ≡ blocks_in (directory_of m n)
  pub maps : (n : ℕ) → maps_at s.layout n ≡ maps_in (directory_of m n)
  pub kinds : (n : ℕ) → HasDirectory (inode_at m.inodes n) (directory_of m n)
  pub free : (b : ℕ) → alloc.is_free m.free b ≡ is_free s.layout b
  pub pending : (b : ℕ) → alloc.place_of m.free b ≡ s.layout.pending b
  pub units : s.layout.units ≡ m.inodes.units
  pub free_units : m.free.units ≡ m.inodes.units
  pub first : m.first ≡ 2 + s.layout.log_blocks
  pub free_first : m.free.first ≡ m.first
  pub per_unit : m.free.per_unit ≡ 4063
  pub bar : m.free.bar ≡ None
  pub bits : length m.free.free ≡ 4096 * m.free.units
  pub places : length m.free.pending ≡ 4096 * m.free.units
  pub limit : s.layout.directory_limit ≡ 64

-- the metadata stand for a state that can be laid out, in which no file has bytes
pub record Stands (m : Meta) (s : State) : Type 0 where
  pub laid_out : IsLaidOut s
  pub plain : IsPlain s
  pub is : IsStateOf m s

pub record IsSound (m : Meta) : Type 0 where
  pub state : State
  pub stands : Stands m state

-- nothing has changed
pub record IsUnchanged (old new : Meta) : Type 0 where
  pub inodes : new.inodes ≡ old.inodes
  pub directories : (n : ℕ) → directory_of new n ≡ directory_of old n
  pub free : new.free ≡ old.free
  pub first : new.first ≡ old.first
