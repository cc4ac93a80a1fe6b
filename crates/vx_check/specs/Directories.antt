-- The names and the targets of directory blocks.
use Rattle.std.specs.Prelude.{◌≡◌, ◌<◌, ℕ, Bool, true, false, List, get_or, is_some, map}
use Rattle.std.specs.List.{list_any, AllByRecursion}
use Rattle.std.specs.BTreeMap.{is_at}
use Rattle.std.specs.Cmp.Lexicographic.{slice_cmp}
use Rattle.std.specs.Ordering.{nat_cmp}
use Rattle.vx_base.specs.Paths.{FileName}
use Rattle.vx_base.specs.declared.inode.DirEntry.{DirEntry}
use Rattle.vx_layout.specs.Places.{Volume}
use Rattle.vx_sound.specs.Said.{Image, inode_said}
use Rattle.vx_sound.specs.Facts.{is_name_among}

-- whether a name is one of these
abbrev pub has : List FileName → FileName → Bool
has names q = list_any (is_at (slice_cmp nat_cmp q)) names

-- the names are those of these entries
abbrev pub AreNamesOf : List FileName → List DirEntry → Type 0
AreNamesOf names es = (q : FileName) → has names q ≡ is_name_among q es

-- the entry names a number that is marked
abbrev pub IsMarked : List Bool → DirEntry → Type 0
IsMarked used e = get_or used e.ino false ≡ true

-- the inodes that are marked are those in use
abbrev pub AreUsed : List Bool → Volume → Image → Type 0
AreUsed used v image = (n : ℕ) → get_or used n false ≡ is_some (inode_said v image n)

-- the numbers that entries name
abbrev pub targets_of : List DirEntry → List ℕ
targets_of es = map (λ (e : DirEntry). e.ino) es

-- each of the numbers is below n
abbrev pub AreBelow : ℕ → List ℕ → Type 0
AreBelow n xs = AllByRecursion (λ x. x < n) xs
