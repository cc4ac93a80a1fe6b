-- The slots of inodes that were read.
use Rattle.std.specs.Prelude.{◌≡◌, ℕ, ◌<◌, nat_le, is_some, get_or, Bool, true, false, List, length, Option, Some, None}
use Rattle.vx_base.specs.declared.inode.InodeValue.{InodeValue}
use Rattle.vx_layout.specs.Places.{Volume, inode_sector}
use Rattle.vx_layout.specs.Inodes.{layout1, IsSlot, slot_bytes}
use Rattle.vx_sound.specs.Said.{Image, inode_bytes_at, inode_said}

-- what is known of a slot that was read, where the image is known
pub record IsSlotRead (v : Volume) (image : Image) (n : ℕ) (value : Option InodeValue) (bad : Bool) : Type 0 where
  pub said : inode_said v image n ≡ value
  pub spelled : bad ≡ false → inode_bytes_at v image n ≡ slot_bytes value
  pub whole : length (image (inode_sector v n)) ≡ 512
  pub none : bad ≡ true → (o : Option InodeValue) → IsSlot layout1 o → inode_bytes_at v image n ≡ slot_bytes o → ⊥
  pub only : bad ≡ false → (o : Option InodeValue) → IsSlot layout1 o → inode_bytes_at v image n ≡ slot_bytes o → o ≡ value

-- 0 and 1 are free
abbrev pub slot_fits : ℕ → Option InodeValue → Bool
slot_fits n None = true
slot_fits n (Some i) = nat_le 2 n

-- ---- all slots

-- the slots of the inodes below n as they were read: what stands there, whether the bytes are of no form, whether there is an inode
pub record AreSlotsRead (v : Volume) (image : Image) (n : ℕ) (values : List (Option InodeValue)) (bad used : List Bool) : Type 0 where
  pub each : (m : ℕ) → m < n → IsSlotRead v image m (get_or values m None) (get_or bad m false)
  pub used_is : (m : ℕ) → m < n → get_or used m false ≡ is_some (get_or values m None)

abbrev pub HaveForms : List (Option InodeValue) → Type 0
HaveForms values = (n : ℕ) → IsSlot layout1 (get_or values n None)

-- n of each
pub record AreLong (n : ℕ) (values : List (Option InodeValue)) (bad used : List Bool) : Type 0 where
  pub values_are : length values ≡ n
  pub bad_are : length bad ≡ n
  pub used_are : length used ≡ n
