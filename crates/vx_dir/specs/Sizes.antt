-- The bytes that entries take in a block.
use Rattle.std.specs.Prelude.{List}
use Rattle.vx_base.specs.declared.inode.DirEntry.{DirEntry}
pub use Rattle.vx_base.specs.Rules.{entry_size, used_by}

abbrev pub Entries : Type 0
Entries = List DirEntry
