-- What an image says, and whether it is sound, is for the sectors of its volume to say.
use Rattle.std.specs.Prelude.{◌≡◌, ◌≢◌, ℕ, Bool, true, Some}
use Rattle.vx_base.specs.declared.inode.InodeValue.{InodeValue}
use Rattle.vx_layout.specs.Places.{Volume, outside, place_of, IsVolume}
use Rattle.vx_sound.specs.Said.{Image, among, block_bytes, inode_said, extents_said, blocks_said, entries_of}
use Rattle.vx_sound.specs.Sound.{IsSound}

-- the images differ outside the volume alone
abbrev pub AreAlike : Volume → Image → Image → Type 0
AreAlike v a b = (s : ℕ) → place_of v s ≢ outside → a s ≡ b s

pub record AlikeLaws : Type 0 where
  pub sound : (strict : Bool) (v : Volume) (a b : Image) → IsVolume v → AreAlike v a b → IsSound strict v a → IsSound strict v b
  pub inodes : (strict : Bool) (v : Volume) (a b : Image) → IsVolume v → AreAlike v a b → IsSound strict v a → (n : ℕ) → inode_said v b n ≡ inode_said v a n
  pub extents : (strict : Bool) (v : Volume) (a b : Image) → IsVolume v → AreAlike v a b → IsSound strict v a → (n : ℕ) (i : InodeValue) → inode_said v a n ≡ Some i
      → extents_said v b i ≡ extents_said v a i
  -- the bytes of an inode's blocks
  pub blocks : (strict : Bool) (v : Volume) (a b : Image) → IsVolume v → AreAlike v a b → IsSound strict v a → (n : ℕ) (i : InodeValue) → inode_said v a n ≡ Some i
      → (x : ℕ) → among (blocks_said v a i) x ≡ true → block_bytes v b x ≡ block_bytes v a x
  pub entries : (strict : Bool) (v : Volume) (a b : Image) → IsVolume v → AreAlike v a b → IsSound strict v a → (n : ℕ) → entries_of v b n ≡ entries_of v a n
