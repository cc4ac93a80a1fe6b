-- Images whose files have no bytes.
use Rattle.std.specs.Prelude.{◌≡◌, ℕ, IfSome}
use Rattle.vx_base.specs.declared.kind.FileKind.{FileKind}
use Rattle.vx_base.specs.declared.kind.FileKind.TheVariants.{File, Directory}
use Rattle.vx_base.specs.declared.inode.InodeValue.{InodeValue}
use Rattle.vx_layout.specs.Places.{Volume}
use Rattle.vx_sound.specs.Said.{Image, inode_said}
use Rattle.vx_model.specs.Tree.{no_attrs}

-- An inode with no extent, no byte and no attribute. All files are so until files are read and written: the states of the model have
-- no page of a file before.
pub record IsPlain (i : InodeValue) : Type 0 where
  pub extents : i.extents ≡ 0
  pub size : i.inode.size ≡ 0
  pub attrs : i.inode.attrs ≡ no_attrs

abbrev pub IsPlainIfFile : FileKind → InodeValue → Type 0
IsPlainIfFile File i = IsPlain i
IsPlainIfFile Directory i = Unit {0}

-- each file in use is so
abbrev pub HasPlainFiles : Volume → Image → Type 0
HasPlainFiles v image = (n : ℕ) → IfSome (inode_said v image n) (λ i. IsPlainIfFile i.inode.kind i)
