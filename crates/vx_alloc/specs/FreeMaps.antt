-- The free blocks of allocation units, and which of them a call takes.
use Rattle.std.specs.Prelude.{◌≡◌, ℕ, zero, suc, ◌+◌, ◌-◌, ◌*◌, ◌/◌, ◌%◌, ◌<◌, ◌≤◌, max, Bool, true, false, not, ◌&&◌, ◌||◌, ◌⊎◌, nat_eq, nat_lt, nat_le, if◌then◌else◌, Option, Some, None, is_some, List, ◌++◌, map, length, replicate, take, slice_index_or, slice_set}
use Rattle.std.specs.List.{range_with_len}
use Rattle.vx_base.specs.Rules.{is_data_block}

-- each unit has 4096 blocks, and its data blocks are the last `per_unit` of them
pub record FreeMapView : Type 0 where
  -- the first block of unit 0
  pub first : ℕ
  pub per_unit : ℕ
  -- how many units there are, and for how many there is memory
  pub units : ℕ
  pub room : ℕ
  -- of each block of the units, whether it is in the set of free blocks
  pub free : List Bool
  -- of each block of the units, the place for which it waits, if it does
  pub pending : List (Option ℕ)
  -- the first unit that is barred, if any is
  pub bar : Option ℕ

abbrev pub unit_of : FreeMapView → ℕ → ℕ
unit_of view b = (b - view.first) / 4096

-- how far a block stands from the start of its unit
abbrev pub place_in_unit : FreeMapView → ℕ → ℕ
place_in_unit view b = (b - view.first) % 4096

abbrev pub is_data : FreeMapView → ℕ → Bool
is_data view b = is_data_block view.first view.units (4096 - view.per_unit) b

abbrev pub is_at_or_past : Option ℕ → ℕ → Bool
is_at_or_past None unit = false
is_at_or_past (Some bar) unit = nat_le bar unit

abbrev pub is_barred : FreeMapView → ℕ → Bool
is_barred view b = is_at_or_past view.bar (unit_of view b)

abbrev pub is_in_set : FreeMapView → ℕ → Bool
is_in_set view b = slice_index_or view.free (b - view.first) false

-- a barred block counts as not free
abbrev pub is_free : FreeMapView → ℕ → Bool
is_free view b = is_data view b && (not (is_barred view b) && is_in_set view b)

-- the place for which a block waits
abbrev pub place_of : FreeMapView → ℕ → Option ℕ
place_of view b = slice_index_or view.pending (b - view.first) None

-- a data block that is neither in the set of free blocks nor pending; whether it is barred makes no difference
abbrev pub is_used : FreeMapView → ℕ → Bool
is_used view b = is_data view b && (not (is_in_set view b) && not (is_some (place_of view b)))

-- how many of the numbers below n pass a test
abbrev pub count_below : (ℕ → Bool) → ℕ → ℕ
count_below test zero = 0
count_below test (suc n) = count_below test n + (if test n then 1 else 0)

abbrev pub free_blocks : FreeMapView → ℕ
free_blocks view = count_below (λ i. is_free view (view.first + i)) (4096 * view.units)

-- which of the first n blocks of units are data blocks
abbrev pub data_bits : ℕ → ℕ → List Bool
data_bits per_unit n = map (λ i. nat_le (4096 - per_unit) (i % 4096)) (range_with_len 0 n)

-- more units, whose data blocks are all free
abbrev pub grown : FreeMapView → ℕ → FreeMapView
grown view units =
    let more = 4096 * (units - view.units) in record view { units = units; free = view.free ++ data_bits view.per_unit more; pending = view.pending ++ replicate more None }

-- every data block is free
abbrev pub all_free : ℕ → ℕ → ℕ → FreeMapView
all_free first per_unit units =
    record { first = first; per_unit = per_unit; units = units; room = units; free = data_bits per_unit (4096 * units); pending = replicate (4096 * units) None; bar = None }

-- no data block of the units from one on is in use
abbrev pub IsUnusedFrom : FreeMapView → ℕ → Type 0
IsUnusedFrom view units = (b : ℕ) → is_data view b ≡ true → units ≤ unit_of view b → (is_in_set view b || is_some (place_of view b)) ≡ true

-- fewer units, and no bar
abbrev pub shrunk : FreeMapView → ℕ → FreeMapView
shrunk view units =
    record view { units = units; free = take (4096 * units) view.free; pending = take (4096 * units) view.pending; bar = None }

-- the n blocks from b on are free
abbrev pub IsFreeRun : FreeMapView → ℕ → ℕ → Type 0
IsFreeRun view b n = (k : ℕ) → k < n → is_free view (b + k) ≡ true

-- whether a block stands a multiple of `align` from the start of its unit
abbrev pub is_multiple : ℕ → ℕ → Bool
is_multiple n align = if nat_eq align 0 then nat_eq n 0 else nat_eq (n % align) 0

abbrev pub is_aligned : FreeMapView → ℕ → ℕ → Bool
is_aligned view align b = is_multiple (place_in_unit view b) align

-- b is the lowest start of n free blocks
pub record IsLowestRun (view : FreeMapView) (n b : ℕ) : Type 0 where
  pub free : IsFreeRun view b n
  pub lowest : (c : ℕ) → c < b → IsFreeRun view c n → ⊥

abbrev pub HasNoRun : FreeMapView → ℕ → Type 0
HasNoRun view n = (c : ℕ) → IsFreeRun view c n → ⊥

-- b is the lowest aligned start of n free blocks
pub record IsLowestAligned (view : FreeMapView) (n align b : ℕ) : Type 0 where
  pub free : IsFreeRun view b n
  pub aligned : is_aligned view align b ≡ true
  pub lowest : (c : ℕ) → c < b → is_aligned view align c ≡ true → IsFreeRun view c n → ⊥

abbrev pub HasNoAligned : FreeMapView → ℕ → ℕ → Type 0
HasNoAligned view n align = (c : ℕ) → is_aligned view align c ≡ true → IsFreeRun view c n → ⊥

-- n is the length of the longest free run, 0 where nothing is free
pub record IsLongest (view : FreeMapView) (n : ℕ) : Type 0 where
  pub start : ℕ
  pub free : IsFreeRun view start n
  pub most : (b m : ℕ) → IsFreeRun view b m → m ≤ n

-- b is the first block of the longest free run, the lowest such on a tie
pub record IsAtLongest (view : FreeMapView) (b : ℕ) : Type 0 where
  pub run : ℕ
  pub some : 0 < run
  pub longest : IsLongest view run
  pub lowest : IsLowestRun view run b

-- whether the block after the preceding page's is a free data block of the same unit
abbrev pub can_follow : FreeMapView → Option ℕ → Bool
can_follow view None = false
can_follow view (Some block) = is_free view (block + 1) && nat_eq (unit_of view block) (unit_of view (block + 1))

abbrev pub IsAfter : Option ℕ → ℕ → Type 0
IsAfter None b = ⊥
IsAfter (Some block) b = b ≡ block + 1

-- Where a page that can't follow goes. In a file without any block, `first` is the length of its first extent.
abbrev pub IsStart : FreeMapView → Option ℕ → ℕ → Type 0
IsStart view None b = IsAtLongest view b
IsStart view (Some n) b = IsLowestRun view (max n 1) b ⊎ (HasNoRun view (max n 1) × IsAtLongest view b)

-- b is where the page goes
pub record IsPlaced (view : FreeMapView) (after first : Option ℕ) (b : ℕ) : Type 0 where
  pub following : can_follow view after ≡ true → IsAfter after b
  pub starting : can_follow view after ≡ false → IsStart view first b

-- the set of free blocks with or without one block
abbrev pub with_bit : FreeMapView → ℕ → Bool → FreeMapView
with_bit view b bit = record view { free = slice_set view.free (b - view.first) bit }

-- n bits are false from one on
abbrev pub cleared : List Bool → ℕ → ℕ → List Bool
cleared bits from zero = bits
cleared bits from (suc n) = slice_set (cleared bits from n) (from + n) false

-- the set of free blocks without n blocks from b on
abbrev pub without_run : FreeMapView → ℕ → ℕ → FreeMapView
without_run view b n = record view { free = cleared view.free (b - view.first) n }

abbrev pub with_place : FreeMapView → ℕ → ℕ → FreeMapView
with_place view b place = record view { pending = slice_set view.pending (b - view.first) (Some place) }

-- waiting for a place below `upto`
abbrev pub is_before : ℕ → Option ℕ → Bool
is_before upto None = false
is_before upto (Some place) = nat_lt place upto

-- the blocks that still wait
abbrev pub still_pending : ℕ → List (Option ℕ) → List (Option ℕ)
still_pending upto pending = map (λ place. if is_before upto place then None else place) pending

-- the set of free blocks, with those that wait no longer
abbrev pub free_with : ℕ → List (Option ℕ) → List Bool → List Bool
free_with upto pending free =
    map (λ i. is_before upto (slice_index_or pending i None) || slice_index_or free i false) (range_with_len 0 (length free))

abbrev pub released : FreeMapView → ℕ → FreeMapView
released view upto = record view { free = free_with upto view.pending view.free; pending = still_pending upto view.pending }

-- what the fields of a map keep among them
pub record IsSound (first per_unit units room free pending free_room pending_room : ℕ) : Type 0 where
  pub addresses : first + 4096 * 64 ≤ 4294967296
  pub data_blocks : per_unit < 4096
  pub fits : units ≤ room
  pub rooms : room ≤ 64
  pub bits : free ≡ 4096 * units
  pub places : pending ≡ 4096 * units
  pub bits_room : 4096 * room ≤ free_room
  pub places_room : 4096 * room ≤ pending_room
