-- Files with bytes among the inodes that were read.
use Rattle.std.specs.Prelude.{◌≡◌, ◌<◌, ℕ, ◌==◌, ◌&&◌, Bool, true, false, List, get_or, Option, Some, None}
use Rattle.vx_base.specs.declared.call.ExtAttrs.{ExtAttrs}
use Rattle.vx_base.specs.declared.inode.InodeValue.{InodeValue}
use Rattle.vx_base.specs.declared.kind.FileKind.{FileKind}
use Rattle.vx_base.specs.declared.kind.FileKind.TheVariants.{File, Directory}

abbrev pub has_none : ExtAttrs → Bool
has_none a = (a.fixed == 0) && ((a.reserve == 0) && (a.flags == 0))

abbrev pub is_plain_file : FileKind → InodeValue → Bool
is_plain_file File i = (i.extents == 0) && ((i.inode.size == 0) && has_none i.inode.attrs)
is_plain_file Directory i = true

-- no file with an extent, a byte or an attribute
abbrev pub is_plain : Option InodeValue → Bool
is_plain None = true
is_plain (Some i) = is_plain_file i.inode.kind i

abbrev pub ArePlain : List (Option InodeValue) → Type 0
ArePlain inodes = (n : ℕ) → is_plain (get_or inodes n None) ≡ true

-- there is one at this number, and none below it
pub record IsHeldAt (inodes : List (Option InodeValue)) (n : ℕ) : Type 0 where
  pub here : is_plain (get_or inodes n None) ≡ false
  pub before : (k : ℕ) → k < n → is_plain (get_or inodes k None) ≡ true
