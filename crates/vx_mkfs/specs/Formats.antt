-- A device as formatting leaves it.
use Rattle.std.specs.Prelude.{◌≡◌, ◌+◌, ◌*◌, ◌<◌, ◌≤◌, ℕ, List}
use Rattle.vx_dev.specs.Tape.{State, Tape, MayHold, now, Settles}
use Rattle.vx_layout.specs.declared.superblock.Super.{Super}
use Rattle.vx_layout.specs.LogForms.{head_sector}
use Rattle.vx_layout.specs.Places.{Volume, per_block, bitmap_sector}
use Rattle.vx_layout.specs.Supers.{super_bytes, volume_of}
use Rattle.vx_model.specs.Contents.{unit_sectors, unit_bytes, IsFormatted}

-- the operations of formatting: the sectors of each unit, the log's head, a barrier, the superblock and a barrier
abbrev pub format_operations : Super → ℕ
format_operations v = unit_sectors (volume_of v) * v.units + 4

-- a crash leaves one image, which has this superblock, the head of an empty log that was never written, and new units
pub record IsNewImage (v : Super) (t : Tape) : Type 0 where
  pub one : (s : ℕ) (x : List ℕ) → MayHold t s x → x ≡ now t s
  pub superblock : now t 0 ≡ super_bytes v
  pub head : now t 2 ≡ head_sector 1 0 0
  pub units : IsFormatted (volume_of v) (now t)

-- a barrier now would leave the first n sectors of new unit u
abbrev pub HasUnit : Volume → ℕ → ℕ → Tape → Type 0
HasUnit v u n t = (i : ℕ) → i < n → Settles t (bitmap_sector v u + i) (unit_bytes (per_block v) u i)

-- it would leave each unit before this one
abbrev pub HasUnits : Volume → ℕ → Tape → Type 0
HasUnits v n t = (u : ℕ) → u < n → HasUnit v u (unit_sectors v) t
