-- The maximal runs of a set of blocks, which are numbered from the start of unit 0.
use Rattle.std.specs.Prelude.{◌≡◌, ℕ, ◌+◌, ◌-◌, ◌*◌, ◌%◌, ◌<◌, ◌≤◌, Bool, true, false, ◌&&◌, ◌||◌, nat_le, nat_lt, min, Option, Some, None, is_some, List, length, slice_index_or}
use Rattle.std.specs.List.{All, Contains, count_by, list_any, sum_by}
use Rattle.std.specs.List.Sorted.{IsNonDecreasingBy}
use Rattle.vx_alloc.specs.FreeMaps.{FreeMapView, is_multiple}
use Rattle.vx_alloc.specs.declared.run_index.Run.{Run}

-- the runs in the order of their starts, and how many blocks there may be
pub record RunIndexView : Type 0 where
  pub runs : List Run
  pub room : ℕ

-- whether a number is one of the n from `start` on
abbrev pub is_within : ℕ → ℕ → ℕ → Bool
is_within start n i = nat_le start i && nat_lt i (start + n)

abbrev pub in_run : ℕ → Run → Bool
in_run i run = is_within run.start run.len i

-- whether one of the runs has the block
abbrev pub covers : List Run → ℕ → Bool
covers runs i = list_any (in_run i) runs

-- the longer run has the higher rank, and of two of one length the lower one
abbrev pub rank : Run → ℕ
rank run = run.len * 4294967296 + (4294967295 - run.start)

-- in the order of their starts, with at least one block between two
abbrev pub AreApart : List Run → Type 0
AreApart runs = (j k : ℕ) (d : Run) → j < k → k < length runs → (slice_index_or runs j d).start + (slice_index_or runs j d).len < (slice_index_or runs k d).start

-- no run is empty, and all end by `room`
pub record IsInside (room : ℕ) (run : Run) : Type 0 where
  pub some : 0 < run.len
  pub end : run.start + run.len ≤ room

abbrev pub AreInside : ℕ → List Run → Type 0
AreInside room runs = All (IsInside room) runs

-- every run starts below 2 ^ 32
abbrev pub AreLow : List Run → Type 0
AreLow runs = All (λ run. run.start < 4294967296) runs

-- p of the runs, which are in the order of their starts, start before a block
pub record IsPlace (runs : List Run) (start p : ℕ) : Type 0 where
  pub bound : p ≤ length runs
  pub before : (k : ℕ) (d : Run) → k < p → (slice_index_or runs k d).start < start
  pub after : (k : ℕ) (d : Run) → p ≤ k → k < length runs → start ≤ (slice_index_or runs k d).start

-- p of them start before a block or at it
pub record IsEndPlace (runs : List Run) (block p : ℕ) : Type 0 where
  pub bound : p ≤ length runs
  pub before : (k : ℕ) (d : Run) → k < p → (slice_index_or runs k d).start ≤ block
  pub after : (k : ℕ) (d : Run) → p ≤ k → k < length runs → block < (slice_index_or runs k d).start

-- the same runs, each as often, in any order
abbrev pub AreSame : List Run → List Run → Type 0
AreSame runs others = (f : Run → ℕ) → sum_by f runs ≡ sum_by f others

-- no block of the run, nor the one before or after it, is in one of the runs
abbrev pub IsClear : Run → List Run → Type 0
IsClear run runs = (i : ℕ) → run.start ≤ i + 1 → i ≤ run.start + run.len → covers runs i ≡ false

-- no block of the run is in one of the runs
abbrev pub IsFree : Run → List Run → Type 0
IsFree run runs = (i : ℕ) → in_run i run ≡ true → covers runs i ≡ false

-- `joined` is a run with the run that ended where it began, if one did, which is no longer among the others
pub record IsJoinedBefore (old new : List Run) (run joined : Run) : Type 0 where
  pub keeps : (i : ℕ) → in_run i joined || covers new i ≡ in_run i run || covers old i
  pub free : IsFree joined new
  pub before : (i : ℕ) → i + 1 ≡ joined.start → covers new i ≡ false
  pub end : joined.start + joined.len ≡ run.start + run.len
  pub some : 0 < joined.len

-- `joined` is a run with the run that began where it ended, if one did, and touches no other
pub record IsJoinedAfter (room : ℕ) (old new : List Run) (run joined : Run) : Type 0 where
  pub keeps : (i : ℕ) → in_run i joined || covers new i ≡ in_run i run || covers old i
  pub clear : IsClear joined new
  pub end : joined.start + joined.len ≤ room
  pub some : 0 < joined.len

-- the run is the longest of those that start below a limit, and of the longest the lowest
pub record IsLongestRun (runs : List Run) (limit : ℕ) (run : Run) : Type 0 where
  pub has : Contains runs run
  pub below : run.start < limit
  pub most : (k : ℕ) (d : Run) → k < length runs → (slice_index_or runs k d).start < limit → rank (slice_index_or runs k d) ≤ rank run

abbrev pub HasNoneBelow : List Run → ℕ → Type 0
HasNoneBelow runs limit = (k : ℕ) (d : Run) → k < length runs → limit ≤ (slice_index_or runs k d).start

-- the last run of a list that starts below a limit
pub record IsLastBelow (runs : List Run) (limit : ℕ) (run : Run) : Type 0 where
  pub at : ℕ
  pub bound : at < length runs
  pub is : run ≡ slice_index_or runs at run
  pub below : run.start < limit
  pub later : (k : ℕ) (d : Run) → at < k → k < length runs → limit ≤ (slice_index_or runs k d).start

-- all blocks are in one unit, and none is its first
pub record IsInUnit (run : Run) : Type 0 where
  pub past : 0 < run.start % 4096
  pub end : (run.start % 4096) + run.len ≤ 4096

abbrev pub AreInUnits : List Run → Type 0
AreInUnits runs = All IsInUnit runs

-- a block stands a multiple of `align` from the start of its unit
abbrev pub IsAligned : ℕ → ℕ → Type 0
IsAligned align i = is_multiple (i % 4096) align ≡ true

-- the lowest place of n blocks in a run that is aligned
pub record IsLowestIn (run : Run) (n align start : ℕ) : Type 0 where
  pub low : run.start ≤ start
  pub end : start + n ≤ run.start + run.len
  pub aligned : IsAligned align start
  pub lowest : (c : ℕ) → run.start ≤ c → c < start → IsAligned align c → ⊥

abbrev pub HasNoneIn : Run → ℕ → ℕ → Type 0
HasNoneIn run n align = (c : ℕ) → run.start ≤ c → c + n ≤ run.start + run.len → IsAligned align c → ⊥

-- the n blocks from c on are in one of the runs that start below a limit
pub record IsFit (runs : List Run) (limit n c : ℕ) : Type 0 where
  pub run : Run
  pub has : Contains runs run
  pub low : run.start ≤ c
  pub end : c + n ≤ run.start + run.len
  pub below : run.start < limit

-- the lowest such place that is aligned
pub record IsFirstFit (runs : List Run) (limit n align c : ℕ) : Type 0 where
  pub fit : IsFit runs limit n c
  pub aligned : IsAligned align c
  pub lowest : (b : ℕ) → b < c → IsAligned align b → IsFit runs limit n b → ⊥

abbrev pub HasNoFit : List Run → ℕ → ℕ → ℕ → Type 0
HasNoFit runs limit n align = (c : ℕ) → IsAligned align c → IsFit runs limit n c → ⊥

-- what the two lists of runs keep
pub record IsRunIndex (room : ℕ) (by_start by_length : List Run) (start_room length_room : ℕ) : Type 0 where
  pub most : room ≤ 4096 * 64
  pub apart : AreApart by_start
  pub inside : AreInside room by_start
  pub ranked : IsNonDecreasingBy rank by_length
  pub same : AreSame by_start by_length
  pub as_many : length by_length ≡ length by_start
  pub start_rooms : room ≤ 2 * start_room
  pub length_rooms : room ≤ 2 * length_room

-- ---- of a map of free blocks

-- whether the block at a place of its unit holds data
abbrev pub is_data_place : ℕ → ℕ → Bool
is_data_place per_unit i = nat_le (4096 - per_unit) (i % 4096)

-- whether it is a data block of one of the units from one to another
abbrev pub is_unit_data : ℕ → ℕ → ℕ → ℕ → Bool
is_unit_data per_unit from to i = (nat_le (4096 * from) i && nat_lt i (4096 * to)) && is_data_place per_unit i

-- the first unit that isn't there or is barred
abbrev pub open_units : ℕ → Option ℕ → ℕ
open_units units None = units
open_units units (Some bar) = min bar units

-- the free blocks below this one are not barred
abbrev pub limit_of : FreeMapView → ℕ
limit_of view = 4096 * open_units view.units view.bar

-- what the lists of a map keep with its runs and its counts
pub record IsIndexed (per_unit room : ℕ) (free : List Bool) (pending : List (Option ℕ)) (index : RunIndexView) (free_count pending_count : ℕ) : Type 0 where
  pub covered : (i : ℕ) → covers index.runs i ≡ slice_index_or free i false
  pub blocks : index.room ≡ 4096 * room
  pub placed : (i : ℕ) → slice_index_or free i false ≡ true → is_data_place per_unit i ≡ true
  pub pending_placed : (i : ℕ) → is_some (slice_index_or pending i None) ≡ true → is_data_place per_unit i ≡ true
  -- no block is free and waits to be
  pub apart : (i : ℕ) → slice_index_or free i false ≡ true → is_some (slice_index_or pending i None) ≡ false
  pub counted : free_count ≡ count_by (λ bit. bit) free
  pub pending_counted : pending_count ≡ count_by is_some pending
