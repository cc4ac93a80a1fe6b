-- How many names an inode has, and how many it should have.
use Rattle.std.specs.Prelude.{◌≡◌, ℕ, ◌-◌, ◌^◌, ◌<◌, ◌==◌, ◌&&◌, ◌||◌, not, nat_le, min, Bool, List, [], length, get_or, map, Option, Some, None, if◌then◌else◌}
use Rattle.std.specs.List.{sum_by, count_by}
use Rattle.vx_base.specs.declared.kind.FileKind.{FileKind}
use Rattle.vx_base.specs.declared.kind.FileKind.TheVariants.{File, Directory}
use Rattle.vx_base.specs.declared.inode.InodeValue.{InodeValue}
use Rattle.vx_base.specs.declared.inode.DirEntry.{DirEntry}
use Rattle.vx_layout.specs.Places.{Volume}
use Rattle.vx_sound.specs.Said.{Image, inode_said, entries_of}
use Rattle.vx_check.specs.Reaching.{Children}

-- these are the inodes of the image
abbrev pub AreInodes : List (Option InodeValue) → Volume → Image → Type 0
AreInodes values v image = (n : ℕ) → get_or values n None ≡ inode_said v image n

-- these are the numbers that the image's directories name
abbrev pub AreChildren : Children → Volume → Image → Type 0
AreChildren g v image = (d : ℕ) → get_or g d [] ≡ map (λ (e : DirEntry). e.ino) (entries_of v image d)

abbrev pub count_of : List ℕ → ℕ → ℕ
count_of ts n = count_by (λ x. x == n) ts

-- how often a number is named
abbrev pub names_in : Children → ℕ → ℕ
names_in g n = sum_by (λ ts. count_of ts n) g

-- a count stops at the greatest u32
abbrev pub AreCounts : List ℕ → (ℕ → ℕ) → Type 0
AreCounts counts f = (n : ℕ) → n < length counts → get_or counts n 0 ≡ min (f n) (2 ^ 32 - 1)

abbrev pub kind_fits : Bool → ℕ → FileKind → ℕ → ℕ → Bool → Bool
kind_fits strict n File nlink names reached = not (n == 2) && (names == nlink && (not strict || nat_le 1 nlink))
kind_fits strict n Directory nlink names reached = if n == 2 then names == 0 else (names == 1 && reached)

abbrev pub links_fit : Bool → ℕ → Option InodeValue → ℕ → Bool → Bool
links_fit strict n None names reached = not (n == 2)
links_fit strict n (Some i) names reached = kind_fits strict n i.inode.kind i.inode.nlink names reached
