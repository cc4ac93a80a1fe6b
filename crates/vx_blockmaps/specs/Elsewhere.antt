-- What stays where the blocks of one file change.
use Rattle.std.specs.Prelude.{◌≡◌, ◌≢◌, ℕ, Bool}
use Rattle.vx_filemaps.specs.Files.{FileView}
use Rattle.vx_space.specs.Placing.{Filling}
use Rattle.vx_model.specs.Tree.{File}
use Rattle.vx_model.specs.Layout.{Layout, blocks_at, space_at, maps_at, freed}
use Rattle.vx_model.specs.Opened.{pages_gone}
use Rattle.vx_model.specs.Bytes.{filled, cut_layout}
use Rattle.vx_model.specs.Settling.{settled_layout}
use Rattle.vx_blockmaps.specs.BlockMaps.{IsMapsOf}

-- every other inode has what it had, and maps in memory that stand for one do so still
pub record IsElsewhere (ino : ℕ) (l k : Layout) : Type 0 where
  pub directories : (n : ℕ) → n ≢ ino → blocks_at k n ≡ blocks_at l n
  pub spaces : (n : ℕ) → n ≢ ino → space_at k n ≡ space_at l n
  pub maps : (n : ℕ) → n ≢ ino → maps_at k n ≡ maps_at l n
  pub kept : (m : FileView) (n : ℕ) → n ≢ ino → IsMapsOf m l n → IsMapsOf m k n

pub record Others : Type 0 where
  pub cut : (l : Layout) (place ino size : ℕ) → IsElsewhere ino l (cut_layout l place ino size)
  pub settled : (l : Layout) (place ino : ℕ) (f : File) → IsElsewhere ino l (settled_layout l place ino f)
  pub given_up : (l : Layout) (place ino : ℕ) → IsElsewhere ino l (freed l place ino)
  pub written : (l : Layout) (ino : ℕ) (g : Filling) → IsElsewhere ino l (filled l ino g)
  pub closed : (l : Layout) (place ino : ℕ) (goes : ℕ → Bool) → IsElsewhere ino l (pages_gone l place ino goes)
