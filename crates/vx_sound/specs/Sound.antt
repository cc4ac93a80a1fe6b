-- Sound metadata.
use Rattle.std.specs.Prelude.{◌≡◌, ℕ, ◌<◌, Bool, true, false, []}
use Rattle.std.specs.List.{AllByRecursion}
use Rattle.vx_layout.specs.Places.{Volume}
use Rattle.vx_sound.specs.FirstFault.{FailsFirst}
use Rattle.vx_sound.specs.Said.{Image, inode_count, inode_said, directory_blocks, claims_below}
use Rattle.vx_sound.specs.Facts.{IsInodeRight, IsMapInPlace, IsMapRight, AreExtentsRight, AreEntriesRight, AreTargetsRight, AreLinksRight, IsBitmapRight, AreClaimable}
use Rattle.vx_sound.specs.Checks.{Check, Holds, sector_of, checks}
use Rattle.std.specs.Prelude.{IfSome, length}

-- all that is said of an inode is right, and so is each of its map blocks and directory blocks
pub record IsInodeSound (v : Volume) (image : Image) (n : ℕ) : Type 0 where
  pub slot : IsInodeRight v image n
  pub map_places : (k : ℕ) → IfSome (inode_said v image n) (λ i. k < i.maps → IsMapInPlace v image n k i)
  pub maps : (k : ℕ) → IfSome (inode_said v image n) (λ i. k < i.maps → IsMapRight v image n k i)
  pub extents : IfSome (inode_said v image n) (AreExtentsRight v image n)
  pub entries : (k : ℕ) → k < length (directory_blocks v image (inode_said v image n)) → AreEntriesRight v image n k
  pub targets : (k : ℕ) → k < length (directory_blocks v image (inode_said v image n)) → AreTargetsRight v image n k

-- The metadata of an image are sound. Where `strict`, no file is without a name.
pub record IsSound (strict : Bool) (v : Volume) (image : Image) : Type 0 where
  pub inodes : (n : ℕ) → n < inode_count v → IsInodeSound v image n
  pub links : (n : ℕ) → n < inode_count v → AreLinksRight strict v image n
  pub bitmaps : (u : ℕ) → u < v.units → IsBitmapRight v image u

-- the first check that fails names this sector
pub record IsBadMeta (strict : Bool) (v : Volume) (image : Image) (sector : ℕ) : Type 0 where
  pub check : Check
  pub first : FailsFirst (Holds strict v image) (checks v image) check
  pub sector_is : sector ≡ sector_of v image check

pub record SoundLaws : Type 0 where
  -- sound is what passes every check
  pub passes : (strict : Bool) (v : Volume) (image : Image) → IsSound strict v image → AllByRecursion (Holds strict v image) (checks v image)
  pub passed : (strict : Bool) (v : Volume) (image : Image) → AllByRecursion (Holds strict v image) (checks v image) → IsSound strict v image
  -- and an image that does not has one sector that is named
  pub refused : (strict : Bool) (v : Volume) (image : Image) (s : ℕ) → IsSound strict v image → IsBadMeta strict v image s → ⊥
  pub one : (strict : Bool) (v : Volume) (image : Image) (s t : ℕ) → IsBadMeta strict v image s → IsBadMeta strict v image t → s ≡ t
  -- no block is claimed twice, and each that is claimed is a data block
  pub claimed_once : (strict : Bool) (v : Volume) (image : Image) → IsSound strict v image → AreClaimable v [] (claims_below v image (inode_count v))
  -- the same with no regard to names, where some inode may have none
  pub weaker : (v : Volume) (image : Image) → IsSound true v image → IsSound false v image
