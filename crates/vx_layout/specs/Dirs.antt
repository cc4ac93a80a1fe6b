-- How a directory block is spelled.
use Rattle.std.specs.Prelude.{ℕ, zero, suc, ◌+◌, ◌-◌, ◌<◌, ◌≤◌, ◌^◌, List, [], ◌∷◌, ◌++◌, length, replicate, take, drop, slice_index, nat_lt, if◌then◌else◌, Option, Some, None}
use Rattle.std.specs.Int.{w16, w32, to_le_bytes}
use Rattle.std.specs.List.{flat_map, AllByRecursion}
use Rattle.std.specs.Option.{option_map, option_and_then}
use Rattle.vx_layout.specs.Fields.{number_at}
use Rattle.vx_base.specs.declared.inode.DirEntry.{DirEntry}

unfoldable pub entry_bytes : DirEntry → List ℕ
entry_bytes e = to_le_bytes w32 e.ino ++ length e.name ∷ e.name

abbrev pub entries_bytes : List DirEntry → List ℕ
entries_bytes es = flat_map entry_bytes es

-- a block of `size` bytes: how many entries, how many bytes they take, and the entries
unfoldable pub dir_bytes : ℕ → List DirEntry → List ℕ
dir_bytes size es =
    to_le_bytes w16 (length es) ++ to_le_bytes w16 (length (entries_bytes es)) ++ entries_bytes es
    ++ replicate (size - (4 + length (entries_bytes es))) 0

-- ---- reading, from left to right

-- the first entry of s, and the bytes behind it
unfoldable pub entry_at : List ℕ → Option (DirEntry × List ℕ)
entry_at s =
    if nat_lt (length s) 5 then None
    else (if nat_lt (length (drop 5 s)) (slice_index s 4) then None
    else Some (record { ino = number_at w32 0 s; name = take (slice_index s 4) (drop 5 s) }, drop (slice_index s 4) (drop 5 s)))

unfoldable pub entries_at : ℕ → List ℕ → Option (List DirEntry)
entries_at zero s = Some []
entries_at (suc n) s = option_and_then (λ x. option_map (λ es. x.0 ∷ es) (entries_at n x.1)) (entry_at s)

unfoldable pub dir_at : List ℕ → Option (List DirEntry)
dir_at s = entries_at (number_at w16 0 s) (drop 4 s)

-- the values that have a spelling in a block of `size` bytes
pub record IsEntry (e : DirEntry) : Type 0 where
  pub ino : e.ino < 2 ^ 32
  pub name : length e.name < 256

pub record IsDir (size : ℕ) (es : List DirEntry) : Type 0 where
  pub each : AllByRecursion IsEntry es
  pub room : 4 + length (entries_bytes es) ≤ size
  pub count : length es < 2 ^ 16
