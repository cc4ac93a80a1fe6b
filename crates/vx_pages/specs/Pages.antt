-- The pages that are kept in memory, most recent first.
use Rattle.std.specs.Prelude.{◌≡◌, ℕ, ◌+◌, ◌≤◌, ⊤, Bool, true, false, ◌&&◌, ◌==◌, nat_le, if◌then◌else◌, not, List, [], ◌∷◌, ◌++◌, length, take, drop, filter, Option, Some, None}
use Rattle.std.specs.List.{AllByRecursion}
use Rattle.std.specs.Option.{option_map_or}

-- a page of a file, its bytes, and whether they were changed in memory since they last stood on the device
pub record Entry : Type 0 where
  pub ino : ℕ
  pub page : ℕ
  pub bytes : List ℕ
  pub changed : Bool

-- the bytes in a page, and the pages, most recent first
pub record Pages : Type 0 where
  pub block : ℕ
  pub entries : List Entry

abbrev pub is_page : ℕ → ℕ → Entry → Bool
is_page ino page e = (e.ino == ino) && (e.page == page)

abbrev pub find : ℕ → ℕ → List Entry → Option Entry
find ino page [] = None
find ino page (e ∷ es) = if is_page ino page e then Some e else find ino page es

abbrev pub without : ℕ → ℕ → List Entry → List Entry
without ino page [] = []
without ino page (e ∷ es) = if is_page ino page e then es else e ∷ without ino page es

-- the page goes first
abbrev pub to_front : ℕ → ℕ → List Entry → List Entry
to_front ino page es = option_map_or (λ e. e ∷ without ino page es) (find ino page es) es

-- the page is changed in its place
abbrev pub edit : ℕ → ℕ → (Entry → Entry) → List Entry → List Entry
edit ino page f [] = []
edit ino page f (e ∷ es) = if is_page ino page e then f e ∷ es else e ∷ edit ino page f es

-- the bytes from a place on are these
abbrev pub overwritten : ℕ → List ℕ → List ℕ → List ℕ
overwritten from new old = take from old ++ new ++ drop (from + length new) old

abbrev pub written : ℕ → List ℕ → Entry → Entry
written from new e = record { ino = e.ino; page = e.page; bytes = overwritten from new e.bytes; changed = true }

abbrev pub cleaned : Entry → Entry
cleaned e = record { ino = e.ino; page = e.page; bytes = e.bytes; changed = false }

-- a page of the file from this one on
abbrev pub is_from : ℕ → ℕ → Entry → Bool
is_from ino page e = (e.ino == ino) && nat_le page e.page

abbrev pub dropped_from : ℕ → ℕ → List Entry → List Entry
dropped_from ino page = filter (λ e. not (is_from ino page e))

-- without the last page that is unchanged, if there is one
abbrev pub without_unchanged : List Entry → Option (List Entry)
without_unchanged [] = None
without_unchanged (e ∷ es) = option_map_or (λ rest. Some (e ∷ rest)) (without_unchanged es) (if e.changed then None else Some es)

-- with room for one page more: in a full cache the least recently used unchanged page goes
abbrev pub with_room : List Entry → Option (List Entry)
with_room es = if length es == 1024 then without_unchanged es else Some es

abbrev pub with_put : Entry → List Entry → List Entry
with_put e es = option_map_or (λ rest. e ∷ rest) (with_room es) es

-- the last page that is changed
abbrev pub last_changed : List Entry → Option (ℕ × ℕ)
last_changed [] = None
last_changed (e ∷ es) = option_map_or (λ p. Some p) (last_changed es) (if e.changed then Some (e.ino, e.page) else None)

-- no page comes twice
abbrev pub IsOnce : List Entry → Type 0
IsOnce [] = ⊤
IsOnce (e ∷ es) = AllByRecursion (λ d. is_page e.ino e.page d ≡ false) es × IsOnce es

-- what always holds of the pages in memory
pub record IsCache (v : Pages) : Type 0 where
  pub few : length v.entries ≤ 1024
  pub sizes : AllByRecursion (λ (e : Entry). length e.bytes ≡ v.block) v.entries
  pub once : IsOnce v.entries
