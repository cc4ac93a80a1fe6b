-- Images that hold whole blocks of their files' pages.
use Rattle.std.specs.Prelude.{◌≡◌, ℕ, IfSome}
use Rattle.std.specs.List.{AllByRecursion}
use Rattle.vx_base.specs.declared.kind.FileKind.TheVariants.{File}
use Rattle.vx_base.specs.declared.kind.Kind.TheVariants.{Data}
use Rattle.vx_layout.specs.Places.{Volume}
use Rattle.vx_extents.specs.Extents.{Mapped}
use Rattle.vx_sound.specs.Said.{Image, inode_said}
use Rattle.vx_sound.specs.Facts.{IsWholeBlock}
use Rattle.vx_model.specs.Reads.{pages_said}

-- the block of a page that holds data has whole sectors
abbrev pub IsWholePage : Volume → Image → Mapped → Type 0
IsWholePage v image m = m.kind ≡ Data → IsWholeBlock v image m.block

-- Each block of a file's data does. A device's sectors are whole, and the image check does not look at these.
abbrev pub HasWholePages : Volume → Image → Type 0
HasWholePages v image = (n : ℕ) → IfSome (inode_said v image n) (λ i. i.inode.kind ≡ File → AllByRecursion (IsWholePage v image) (pages_said v image i))
