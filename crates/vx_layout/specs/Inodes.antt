-- How an inode is spelled, in 256 bytes.
use Rattle.std.specs.Prelude.{◌≡◌, ℕ, ◌+◌, ◌*◌, ◌%◌, ◌<◌, ◌≤◌, ◌^◌, Bool, true, false, ◌==◌, ◌&&◌, ◌||◌, nat_le, nat_lt, if◌then◌else◌, bit_and, IsTrue, List, [], ◌∷◌, ◌++◌, length, replicate, take, drop, slice_index, Option, Some, None, unwrap_or, is_some, IfSome}
use Rattle.std.specs.Str.{bytes_eq}
use Rattle.std.specs.Int.{w16, w32, w64, to_le_bytes}
use Rattle.std.specs.List.{flat_map, list_all}
use Rattle.vx_base.specs.declared.kind.FileKind.{FileKind}
use Rattle.vx_base.specs.declared.kind.FileKind.TheVariants.{File, Directory}
use Rattle.vx_base.specs.declared.kind.Kind.{Kind}
use Rattle.vx_base.specs.declared.kind.Kind.TheVariants.{Data, Reserved}
use Rattle.vx_base.specs.declared.inode.Extent.{Extent}
use Rattle.vx_base.specs.declared.inode.InodeValue.{InodeValue}
use Rattle.vx_base.specs.declared.inode.Inode.{Inode}
use Rattle.vx_base.specs.declared.call.ExtAttrs.{ExtAttrs}
use Rattle.vx_base.specs.declared.geom.Geom.{Geom}
use Rattle.vx_base.specs.Rules.{chain_len}
pub use Rattle.vx_base.specs.Rules.{layout1, places_each, extents_limit}
use Rattle.vx_layout.specs.Fields.{number_at}

abbrev pub kind_number : Kind → ℕ
kind_number Data = 0
kind_number Reserved = 1

abbrev pub file_kind_number : FileKind → ℕ
file_kind_number File = 1
file_kind_number Directory = 2

unfoldable pub extent_bytes : Extent → List ℕ
extent_bytes e = to_le_bytes w32 e.page ++ to_le_bytes w32 e.start ++ to_le_bytes w32 e.len ++ to_le_bytes w32 (kind_number e.kind)

-- one of an inode's six places for an extent
abbrev pub place_bytes : Option Extent → List ℕ
place_bytes None = replicate 16 0
place_bytes (Some e) = extent_bytes e

unfoldable pub inode_head : InodeValue → List ℕ
inode_head v =
    file_kind_number v.inode.kind ∷ v.inode.attrs.flags ∷ []
    ++ to_le_bytes w16 v.inode.mode ++ to_le_bytes w16 v.inode.nlink ++ to_le_bytes w16 v.maps ++ to_le_bytes w64 v.inode.size
    ++ to_le_bytes w32 v.inode.attrs.fixed ++ to_le_bytes w32 v.inode.attrs.reserve ++ to_le_bytes w32 v.extents ++ to_le_bytes w32 0

unfoldable pub inode_bytes : InodeValue → List ℕ
inode_bytes v = inode_head v ++ flat_map place_bytes v.first ++ to_le_bytes w32 (unwrap_or v.map 0) ++ replicate 124 0

-- half an inode sector; a free inode is all zeros
abbrev pub slot_bytes : Option InodeValue → List ℕ
slot_bytes None = replicate 256 0
slot_bytes (Some v) = inode_bytes v

-- half of an inode sector
abbrev pub half_of : List ℕ → ℕ → List ℕ
half_of s half = take 256 (drop (256 * half) s)

-- ---- which values an inode's own bytes say; that its extents are in order, and that they and a directory's size fit its blocks,
-- is a rule of the whole list of them

abbrev pub is_directory : FileKind → Bool
is_directory File = false
is_directory Directory = true

-- a directory's size is that of whole blocks, as many as it may have at most
abbrev pub is_directory_size : Geom → ℕ → Bool
is_directory_size g size = size % g.block == 0 && nat_le size (g.dirs * g.block)

-- what a file or a directory allows; a file has no more pages reserved than it may have
abbrev pub attrs_fit : Geom → Inode → Bool
attrs_fit g i =
    if is_directory i.kind then is_directory_size g i.size && (i.attrs.flags == 0 && (i.nlink == 1 && (i.attrs.fixed == 0 && i.attrs.reserve == 0)))
    else nat_le i.size g.limit && (nat_le i.attrs.fixed g.per_unit && (nat_le i.attrs.reserve 65536
    && (nat_le (i.attrs.reserve * g.block) g.limit && (bit_and i.attrs.flags 8 == 0 || i.attrs.reserve == 0))))

-- the map blocks that so many extents need
abbrev pub maps_needed : Geom → ℕ → ℕ
maps_needed g extents = chain_len (places_each g) extents

-- an extent has a block at least
abbrev pub has_length : Extent → Bool
has_length e = nat_lt 0 e.len

abbrev pub place_has_length : Option Extent → Bool
place_has_length None = true
place_has_length (Some e) = has_length e

-- 0 is the number of no map block
abbrev pub is_map_number : Option ℕ → Bool
is_map_number None = true
is_map_number (Some b) = nat_lt 0 b

unfoldable pub inode_fits : Geom → InodeValue → Bool
inode_fits g v =
    nat_lt v.inode.attrs.flags 32 && (nat_le v.inode.mode 4095 && (nat_le v.inode.nlink 32767
    && (nat_le v.extents (extents_limit g) && (v.maps == maps_needed g v.extents && (is_map_number v.map
    && (list_all place_has_length v.first && attrs_fit g v.inode))))))

pub record IsExtent (e : Extent) : Type 0 where
  pub page : e.page < 2 ^ 32
  pub start : e.start < 2 ^ 32
  pub some : 1 ≤ e.len
  pub len : e.len < 2 ^ 32

-- of n extents the i-th has a place of its own, and the place is empty where there is no such extent
abbrev pub IsPlace : ℕ → ℕ → Option Extent → Type 0
IsPlace n i None = n ≤ i
IsPlace n i (Some e) = (i < n) × IsExtent e

abbrev pub ArePlaces : ℕ → ℕ → List (Option Extent) → Type 0
ArePlaces n i [] = Unit {0}
ArePlaces n i (p ∷ ps) = IsPlace n i p × ArePlaces n (i + 1) ps

pub record IsInode (g : Geom) (v : InodeValue) : Type 0 where
  pub fits : IsTrue (inode_fits g v)
  pub mode : v.inode.mode < 2 ^ 16
  pub nlink : v.inode.nlink < 2 ^ 16
  pub size : v.inode.size < 2 ^ 64
  pub fixed : v.inode.attrs.fixed < 2 ^ 32
  pub reserve : v.inode.attrs.reserve < 2 ^ 32
  pub maps : v.maps < 2 ^ 16
  pub extents : v.extents < 2 ^ 32
  pub six : length v.first ≡ 6
  pub places : ArePlaces v.extents 0 v.first
  pub map : IfSome v.map (λ b. (0 < b) × (b < 2 ^ 32))
  pub chained : is_some v.map ≡ nat_lt 0 v.maps

abbrev pub IsSlot : Geom → Option InodeValue → Type 0
IsSlot g None = Unit {0}
IsSlot g (Some v) = IsInode g v

-- ---- reading by places

abbrev pub kind_from : ℕ → Kind
kind_from n = if n == 0 then Data else Reserved

abbrev pub file_kind_from : ℕ → FileKind
file_kind_from n = if n == 1 then File else Directory

abbrev pub extent_at : ℕ → List ℕ → Extent
extent_at at s = record { page = number_at w32 at s; start = number_at w32 (at + 4) s; len = number_at w32 (at + 8) s; kind = kind_from (number_at w32 (at + 12) s) }

abbrev pub place_at : ℕ → ℕ → ℕ → List ℕ → Option Extent
place_at n i at s = if nat_lt i n then Some (extent_at at s) else None

abbrev pub places_at : ℕ → ℕ → List ℕ → List (Option Extent)
places_at n at s =
    place_at n 0 at s ∷ place_at n 1 (at + 16) s ∷ place_at n 2 (at + 32) s ∷ place_at n 3 (at + 48) s ∷ place_at n 4 (at + 64) s ∷ place_at n 5 (at + 80) s ∷ []

abbrev pub attrs_at : List ℕ → ExtAttrs
attrs_at s = record { fixed = number_at w32 16 s; reserve = number_at w32 20 s; flags = slice_index s 1 }

abbrev pub fields_at : List ℕ → Inode
fields_at s = record { kind = file_kind_from (slice_index s 0); mode = number_at w16 2 s; nlink = number_at w16 4 s; size = number_at w64 8 s; attrs = attrs_at s }

abbrev pub map_at : ℕ → List ℕ → Option ℕ
map_at maps s = if nat_lt 0 maps then Some (number_at w32 128 s) else None

unfoldable pub inode_at : List ℕ → InodeValue
inode_at s = record {
  inode = fields_at s;
  maps = number_at w16 6 s;
  extents = number_at w32 24 s;
  first = places_at (number_at w32 24 s) 32 s;
  map = map_at (number_at w16 6 s) s;
}

-- the fields at their places, where they spell the same bytes
abbrev pub slot_at : Geom → List ℕ → Option (Option InodeValue)
slot_at g s =
    if slice_index s 0 == 0 then
    (if list_all (λ b. b == 0) s then Some None else None)
    else
    (if inode_fits g (inode_at s) && bytes_eq (inode_bytes (inode_at s)) s then Some (Some (inode_at s)) else None)
