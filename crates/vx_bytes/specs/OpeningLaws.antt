-- Where a mount begins.
use Rattle.std.specs.Prelude.{ℕ, []}
use Rattle.vx_base.specs.declared.mode.Logging.{Logging}
use Rattle.vx_dev.specs.Tape.{Tape}
use Rattle.vx_layout.specs.declared.superblock.Super.{Super}
use Rattle.vx_model.specs.LaidOut.{IsLaidOut}
use Rattle.vx_model.specs.Legal.{World, opening}
use Rattle.vx_model.specs.State.{fresh_of}
use Rattle.vx_bytes.specs.BlockUse.{UsesBlocks}
use Rattle.vx_bytes.specs.Kept.{HoldsFiles, IsOpened, at_start, sinces_from}

pub record OpeningLaws : Type 0 where
  -- the opening's files are on the device as they are
  pub files : (mode : Logging) (o : World) (t : Tape) → IsOpened o.state t → HoldsFiles mode o [] at_start (sinces_from 0) t
  pub blocks : (o : World) → IsLaidOut o.state → UsesBlocks o [] 0 0
  -- so it is of a new file system, which has none
  pub fresh : (mode : Logging) (at : ℕ) (v : Super) (limit device_sectors : ℕ) (t : Tape) → HoldsFiles mode (opening at (fresh_of v limit device_sectors)) [] at_start (sinces_from 0) t
  pub fresh_blocks : (at : ℕ) (v : Super) (limit device_sectors : ℕ) → IsLaidOut (fresh_of v limit device_sectors) → UsesBlocks (opening at (fresh_of v limit device_sectors)) [] 0 0
