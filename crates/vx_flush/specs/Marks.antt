-- Which pages of files were put on the device, and which are stable there.
use Rattle.std.specs.Prelude.{◌≡◌, ℕ, ◌<◌, ◌*◌, ◌+◌, ◌⊎◌, Bool, true, false, nat_lt, if◌then◌else◌, List, [], ◌∷◌, length, map, Option, Some, None, is_some}
use Rattle.vx_layout.specs.Places.{sector_part}
use Rattle.vx_flush.specs.Entries.{Entry, Numbers, kept_at}

-- what is known of a page since it was put: a barrier is still owed, or one has passed
pub data Mark : Type 0 where
  Owed : Mark
  Stable : Mark

-- the pages that have a mark, each with its mark, rising in inode and page
abbrev pub Marks : Type 0
Marks = List (Entry Mark)

-- the mark of a page
abbrev pub mark_at : ℕ → ℕ → Marks → Option Mark
mark_at ino page marks = kept_at ino page marks

abbrev pub is_stable : Option Mark → Bool
is_stable None = false
is_stable (Some Owed) = false
is_stable (Some Stable) = true

-- the mark after a barrier
abbrev pub passed : Mark → Mark
passed m = Stable

-- the page has a mark, or there is a place for one more
abbrev pub HasRoom : Marks → ℕ → ℕ → Type 0
HasRoom marks ino page = (is_some (mark_at ino page marks) ≡ true) ⊎ (length marks < 262144)

-- the writes of a page to the two sectors of its block
abbrev pub page_writes : ℕ → List ℕ → List (ℕ × List ℕ)
page_writes at page = (2 * at, sector_part 0 page) ∷ (2 * at + 1, sector_part 1 page) ∷ []

-- A page that was put before so many barriers as this number, where so many have passed now.
abbrev pub mark_of : ℕ → ℕ → Mark
mark_of barriers n = if nat_lt n barriers then Stable else Owed

abbrev pub marks_of : ℕ → Numbers → Marks
marks_of barriers es = map (λ e. (e.0, mark_of barriers e.1)) es
