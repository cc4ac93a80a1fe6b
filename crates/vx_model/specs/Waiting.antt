-- Blocks that held metadata wait before they may hold bytes.
use Rattle.std.specs.Prelude.{◌≡◌, ◌⊎◌, ℕ, ◌+◌, true, false, ◌<◌, is_some, Some}
use Rattle.vx_base.specs.declared.call.Call.{Call}
use Rattle.vx_layout.specs.Places.{block_sector}
use Rattle.vx_model.specs.Layout.{volume}
use Rattle.vx_model.specs.LaidOut.{HoldsData, IsLaidOut, named}
use Rattle.vx_model.specs.State.{State, Done}
use Rattle.vx_model.specs.Step.{step}
use Rattle.vx_model.specs.Settling.{settle}
use Rattle.vx_model.specs.Legal.{with_released}
use Rattle.vx_model.specs.Images.{among, is_metadata}
use Rattle.vx_model.specs.Contents.{parsed_of}

-- the block holds metadata
abbrev pub IsNamed : State → ℕ → Type 0
IsNamed s b = (n : ℕ) × (among (named s.layout n) b ≡ true)

-- a block that held metadata does so still or waits for the event at this place, and no other begins or ceases to wait
pub record Waits (place : ℕ) (s new : State) : Type 0 where
  pub same_volume : volume new.layout ≡ volume s.layout
  pub same_device : new.layout.device_sectors ≡ s.layout.device_sectors
  pub named : (b : ℕ) → IsNamed s b → IsNamed new b ⊎ (new.layout.pending b ≡ Some place)
  pub pending : (b : ℕ) → (new.layout.pending b ≡ s.layout.pending b) ⊎ (new.layout.pending b ≡ Some place)

pub record WaitingLaws : Type 0 where
  pub step : (s : State) (place session : ℕ) (call : Call) (done : Done) → step s place session call ≡ Some done → Waits place s done.state
  -- and so does a settle: the block of a page that was held is free at once
  pub settled : (s : State) (place ino : ℕ) → Waits place s (settle s place ino)
  -- a block that may hold bytes after the call might before it, and so it is when what waited for earlier events is released in both
  pub stays : (s new : State) (place b : ℕ) → Waits place s new → HoldsData new.layout b → HoldsData s.layout b
  pub stays_released : (s new : State) (place b : ℕ) → Waits place s new → HoldsData (with_released new place).layout b → HoldsData (with_released s place).layout b
  -- a release adds to such blocks those that waited for earlier events alone
  pub released : (s : State) (upto b : ℕ) → HoldsData (with_released s upto).layout b → (HoldsData s.layout b) ⊎ ((place : ℕ) × (s.layout.pending b ≡ Some place) × (place < upto))
  -- a block with a form is one of the metadata of some inode
  pub formed : (s : State) (b : ℕ) → is_some ((parsed_of s).forms b) ≡ true → IsNamed s b
  -- and where a block holds no metadata none of its sectors does
  pub apart : (s : State) (b j : ℕ) → IsLaidOut s → HoldsData s.layout b → j < 2 → is_metadata (volume s.layout) (parsed_of s) (block_sector 2 b + j) ≡ false
