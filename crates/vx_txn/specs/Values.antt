-- What the slot of an inode in use says, by what is kept in memory.
use Rattle.std.specs.Prelude.{ℕ, ◌<◌, ◌^◌, Bool, false, [], length, Option, Some, None}
use Rattle.vx_base.specs.declared.call.Call.{Call}
use Rattle.vx_base.specs.declared.call.Call.TheVariants as call
use Rattle.vx_base.specs.declared.inode.Inode.{Inode}
use Rattle.vx_base.specs.declared.inode.InodeValue.{InodeValue}
use Rattle.vx_extents.specs.Extents.{stretches}
use Rattle.vx_model.specs.Contents.{Held, value_of}
use Rattle.vx_model.specs.Step.{is_of_names}
use Rattle.vx_txn.specs.Directories.{DirectoryValue}

-- the extents of the pages, and the map blocks
abbrev pub held_by : Option DirectoryValue → ℕ → Held
held_by None size = record { extents = []; maps = []; size = size }
held_by (Some d) size = record { extents = stretches d.maps.space.present; maps = d.maps.maps; size = size }

-- the map blocks can be counted
abbrev pub AreFew : Option DirectoryValue → Type 0
AreFew None = Unit {0}
AreFew (Some d) = length d.maps.maps < 2 ^ 16

abbrev pub value_by : Inode → Option DirectoryValue → InodeValue
value_by inode directory = value_of (held_by directory inode.size) inode

-- a call that is built and whose reply takes no memory
abbrev pub has_short_step : Call → Bool
has_short_step (call.List path) = false
has_short_step c = is_of_names c
