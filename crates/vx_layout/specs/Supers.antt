-- How the superblock is spelled.
use Rattle.std.specs.Prelude.{ℕ, ◌≤◌, ◌+◌, Bool, List, [], ◌∷◌, ◌++◌, if◌then◌else◌, replicate, take, drop, slice_index, ◌==◌, ◌&&◌, nat_le, Result, Ok, Err}
use Rattle.std.specs.List.{list_all}
use Rattle.std.specs.Str.{bytes_eq}
use Rattle.std.specs.Int.{w32, to_le_bytes}
use Rattle.vx_layout.specs.Fields.{number_at}
use Rattle.vx_layout.specs.Places.{Volume}
use Rattle.vx_layout.specs.declared.superblock.Super.{Super}
use Rattle.vx_layout.specs.declared.superblock.BadSuper.{BadSuper}

-- the values that a superblock may have
pub record IsSuper (v : Super) : Type 0 where
  pub log_low : 256 ≤ v.log_blocks
  pub log_high : v.log_blocks ≤ 2048
  pub units_low : 1 ≤ v.units
  pub units_high : v.units ≤ 64

-- VXPROF01
abbrev pub magic : List ℕ
magic = 86 ∷ 88 ∷ 80 ∷ 82 ∷ 79 ∷ 70 ∷ 48 ∷ 49 ∷ []

abbrev pub flag_byte : Bool → List ℕ
flag_byte b = (if b then 1 else 0) ∷ []

-- layout 1, blocks of 1024 bytes, and a log that starts at block 2
abbrev pub super_fields : Super → List ℕ
super_fields v =
    magic ++ to_le_bytes w32 1 ++ to_le_bytes w32 1024
    ++ to_le_bytes w32 v.log_blocks ++ to_le_bytes w32 v.units ++ to_le_bytes w32 2 ++ flag_byte v.clean

abbrev pub super_bytes : Super → List ℕ
super_bytes v = super_fields v ++ replicate 483 0

-- the units start behind the superblock, the log's head and the log
abbrev pub volume_of : Super → Volume
volume_of v = record { block = 1024; first = 2 + v.log_blocks; units = v.units }

-- the superblock that s reads as, or the first bad field
abbrev pub super_at : List ℕ → Result Super BadSuper
super_at s =
    if bytes_eq (take 8 s) magic then
    (if number_at w32 8 s == 1 then
    (if number_at w32 12 s == 1024 then
    (if nat_le 256 (number_at w32 16 s) && nat_le (number_at w32 16 s) 2048 then
    (if nat_le 1 (number_at w32 20 s) && nat_le (number_at w32 20 s) 64 then
    (if number_at w32 24 s == 2 then
    (if nat_le (slice_index s 28) 1 then
    (if list_all (λ b. b == 0) (drop 29 s) then
    Ok (record { log_blocks = number_at w32 16 s; units = number_at w32 20 s; clean = slice_index s 28 == 1 })
    else Err (record { field = 8 }))
    else Err (record { field = 7 }))
    else Err (record { field = 6 }))
    else Err (record { field = 5 }))
    else Err (record { field = 4 }))
    else Err (record { field = 3 }))
    else Err (record { field = 2 }))
    else Err (record { field = 1 })
