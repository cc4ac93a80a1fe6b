-- What is read of a device.
use Rattle.std.specs.Prelude.{◌≡◌, ◌≤◌, true, List, [], length, Option, Some, Result}
use Rattle.vx_base.specs.declared.inode.InodeValue.{InodeValue}
use Rattle.vx_dev.specs.Tape.{State, Tape, now}
use Rattle.vx_layout.specs.Places.{Volume}
use Rattle.vx_sound.specs.Said.{Image, inode_count}
use Rattle.vx_sound.specs.Sound.{IsSound}
use Rattle.vx_check.specs.declared.stop.Stop.{Stop}
use Rattle.vx_check.specs.Parts.{IsChecked}
use Rattle.vx_check.specs.Reaching.{Children}
use Rattle.vx_check.specs.Links.{AreInodes, AreChildren}
use Rattle.vx_check.specs.Contents.{InodeContents, AreContents}

-- nothing but reads lies between
pub record HasOnlyRead (old new : State) : Type 0 where
  pub told : new.told ≡ old.told
  pub count : new.count ≡ old.count
  pub doubt : new.doubt ≡ old.doubt
  pub size : new.size ≡ old.size
  pub write_faults : new.write_faults ≡ old.write_faults
  pub read_faults : old.read_faults ≤ new.read_faults

-- of the image that a device shows: one that tells what it has done, with no write of it in doubt
abbrev pub OnDevice : State → (Image → Type 0) → Type 0
OnDevice d P = (t : Tape) → d.told ≡ Some t → d.doubt ≡ [] → P (now t)

-- The answer, also one that refuses, is right of one image; where the device shows an image, it is that one.
pub record IsOfOneImage {T : Type 0} (v : Volume) (d : State) (result : Result T Stop) : Type 0 where
  pub image : Image
  pub checked : IsChecked true v image result
  pub shown : OnDevice d (λ real. image ≡ real)

-- the metadata of the image are sound, and it says these inodes, the numbers that their entries name, and their contents
pub record AreSaid (v : Volume) (image : Image) (inodes : List (Option InodeValue)) (children : Children) (contents : List InodeContents) : Type 0 where
  pub sound : IsSound true v image
  pub inodes_are : AreInodes inodes v image
  pub children_are : AreChildren children v image
  pub contents_are : AreContents contents v image

-- One image says all these, whatever the device answered; where the device shows an image, it is that one.
pub record AreFound (v : Volume) (d : State) (inodes : List (Option InodeValue)) (children : Children) (contents : List InodeContents) : Type 0 where
  pub image : Image
  pub are : AreSaid v image inodes children contents
  pub shown : OnDevice d (λ real. image ≡ real)
  pub inodes_count : length inodes ≡ inode_count v
  pub contents_count : length contents ≡ inode_count v
