-- What a head sector and a descriptor say when they are read.
use Rattle.std.specs.Prelude.{ℕ, ◌+◌, ◌-◌, ◌<◌, ◌≤◌, ◌^◌, Bool, false, ◌&&◌, nat_le, None, List, length}
use Rattle.std.specs.Int.{w64}
use Rattle.std.specs.List.{AllByRecursion}
use Rattle.std.specs.List.Sorted.{IsStrictlyIncreasing}
use Rattle.vx_layout.specs.Fields.{number_at}
use Rattle.vx_layout.specs.LogForms.{IsNameable, head_sector}
use Rattle.vx_log.specs.Logs.{LogView}
use Rattle.vx_log.specs.declared.read.Ends.{Ends}

-- the ends of a log of n sectors
pub record IsEnds (n : ℕ) (e : Ends) : Type 0 where
  pub serial : e.serial < 2 ^ 64
  pub order : e.tail ≤ e.head
  pub fits : e.head ≤ e.tail + n
  pub limit : e.head ≤ 2 ^ 62

-- the head sector that says them
abbrev pub ends_bytes : Ends → List ℕ
ends_bytes e = head_sector e.serial e.tail e.head

-- a log that stands so on an image, with batches that begin at these positions
abbrev pub standing_log : ℕ → Ends → List ℕ → LogView
standing_log n e starts = record { sectors = n; serial = e.serial; tail = e.tail; head = e.head; starts = starts; closing = None; spare = false }

-- the fields at their places
abbrev pub ends_at : List ℕ → Ends
ends_at s = record { serial = number_at w64 8 s; tail = number_at w64 16 s; head = number_at w64 24 s }

abbrev pub ends_fit : ℕ → Ends → Bool
ends_fit n e = nat_le e.head (2 ^ 62) && (nat_le e.tail e.head && nat_le (e.head - e.tail) n)

-- what a descriptor of a log of n sectors names, on a device of so many sectors
pub record AreNames (n size : ℕ) (homes : List ℕ) : Type 0 where
  pub some : 1 ≤ length homes
  pub few : length homes ≤ 124
  pub rising : IsStrictlyIncreasing homes
  pub each : AllByRecursion (IsNameable n size) homes
