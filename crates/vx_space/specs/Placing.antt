-- Which blocks a call gets for a file's pages and for map blocks (docs/FILES.md).
use Rattle.std.specs.Prelude.{ℕ, zero, suc, ◌+◌, ◌-◌, ◌*◌, ◌/◌, Bool, not, ◌&&◌, ◌||◌, ◌==◌, nat_le, nat_lt, min, max, bit_and, List, [], ◌∷◌, ◌++◌, length, Option, Some, None, is_none, Ok, if◌then◌else◌}
use Rattle.std.specs.Option.{option_map, option_and_then}
use Rattle.std.specs.List.{list_any}
use Rattle.vx_base.specs.declared.call.ExtAttrs.{ExtAttrs}
use Rattle.vx_base.specs.declared.kind.Kind.{Kind}
use Rattle.vx_base.specs.declared.kind.Kind.TheVariants.{Data, Reserved}
use Rattle.vx_base.specs.declared.refusal.Refusal.TheVariants as no
use Rattle.vx_layout.specs.Places.{Volume}
use Rattle.vx_extents.specs.Extents.{Mapped, mapped_at, with_page}
use Rattle.vx_extents.specs.Uses.{used_pages}
use Rattle.vx_space.specs.Outcome.{Maybe, unless, ◌>>=◌, need}
use Rattle.vx_space.specs.Placement.{page_place, run_start, aligned_start, longest_run, longest_length, free_count}
use Rattle.vx_space.specs.Space.{Space, extents_in, maps_needed, most_extents, most_pages}

-- A set of free blocks, and what is made of it: a file's pages, and its map blocks.
pub record Filling : Type 0 where
  pub free : ℕ → Bool
  pub pages : List Mapped
  pub maps : List ℕ

abbrev pub without : (ℕ → Bool) → ℕ → ℕ → Bool
without free b c = free c && not (c == b)

-- ---- pages

abbrev pub block_of : Option (ℕ × Kind) → Option ℕ
block_of None = None
block_of (Some m) = Some m.0

-- the block of the page before
abbrev pub block_before : List Mapped → ℕ → Option ℕ
block_before pages zero = None
block_before pages (suc p) = block_of (mapped_at pages p)

-- a file without any block begins with a run of so many
abbrev pub first_for : List Mapped → ℕ → Option ℕ
first_for [] first = Some first
first_for (m ∷ pages) first = None

-- the page gets this block
abbrev pub with_block : Kind → ℕ → Filling → ℕ → Filling
with_block kind p f b = record f { free = without f.free b; pages = with_page (record { page = p; block = b; kind = kind }) f.pages }

-- the page gets a block by the page rule
abbrev pub place_page : Volume → ℕ → Kind → ℕ → Filling → Option Filling
place_page v first kind p f = option_map (with_block kind p f) (page_place v f.free (block_before f.pages p) (first_for f.pages first))

-- so many pages get the blocks from one on
abbrev pub with_run : Kind → ℕ → ℕ → Filling → ℕ → Filling
with_run kind zero p f b = f
with_run kind (suc n) p f b = with_run kind n (p + 1) (with_block kind p f b) (b + 1)

-- ---- groups of a fixed size

abbrev pub is_set : ℕ → ExtAttrs → Bool
is_set flag attrs = not (bit_and attrs.flags flag == 0)

abbrev pub group_start : ℕ → ℕ → ℕ
group_start fixed p = fixed * (p / fixed)

-- the last group is cut at the greatest page
abbrev pub group_length : ℕ → ℕ → ℕ
group_length fixed p = min fixed (most_pages - group_start fixed p)

abbrev pub is_within : ℕ → ℕ → ℕ → Bool
is_within from n p = nat_le from p && nat_lt p (from + n)

-- no page of the group of page p has a block
abbrev pub is_empty_group : ℕ → List Mapped → ℕ → Bool
is_empty_group fixed pages p = not (list_any (λ (m : Mapped). is_within (group_start fixed p) (group_length fixed p) m.page) pages)

-- a whole group is placed, where the file has a fixed size and the group has no block yet
abbrev pub takes_group : ExtAttrs → List Mapped → ℕ → Bool
takes_group attrs pages p = not (attrs.fixed == 0) && is_empty_group attrs.fixed pages p

-- the start of a free run, with align at a multiple of the fixed size
abbrev pub run_for : Volume → ExtAttrs → (ℕ → Bool) → ℕ → Option ℕ
run_for v attrs free n = if is_set 1 attrs then aligned_start v free attrs.fixed n else run_start v free n

-- all pages of the group are reserved in one run
abbrev pub place_group : Volume → ExtAttrs → ℕ → Filling → Option Filling
place_group v attrs p f =
    option_map (with_run Reserved (group_length attrs.fixed p) (group_start attrs.fixed p) f) (run_for v attrs f.free (group_length attrs.fixed p))

-- ---- one page after the other

-- what a refusal says of the blocks before the call, and of what it needs
pub record Request : Type 0 where
  pub volume : Volume
  pub attrs : ExtAttrs
  pub first : ℕ
  pub need : ℕ
  pub free : ℕ
  pub longest : ℕ

-- the page gets a block of this kind, or with it its whole group, reserved
abbrev pub place_one : Request → Kind → ℕ → Filling → Maybe Filling
place_one r kind p f =
    if takes_group r.attrs f.pages p then need (place_group r.volume r.attrs p f) (no.NoRun (group_length r.attrs.fixed p) r.longest)
    else need (place_page r.volume r.first kind p f) (no.NoSpace r.need r.free)

-- a page that has a block holds data
abbrev pub with_data : ℕ → Filling → Filling
with_data p f = record f { pages = used_pages p f.pages }

abbrev pub place_missing : Request → Kind → ℕ → Filling → Option (ℕ × Kind) → Maybe Filling
place_missing r kind p f None = place_one r kind p f
place_missing r kind p f (Some m) = Ok f

-- a page that is written has a block, and holds data
abbrev pub write_page : Request → ℕ → Filling → Maybe Filling
write_page r p f = place_missing r Data p f (mapped_at f.pages p) >>= (λ placed. Ok (with_data p placed))

-- a page that is reserved has a block
abbrev pub reserve_page : Request → ℕ → Filling → Maybe Filling
reserve_page r p f = place_missing r Reserved p f (mapped_at f.pages p)

-- each of so many pages, in rising order; the first that can't be placed decides
abbrev pub each_page : (ℕ → Filling → Maybe Filling) → ℕ → ℕ → Filling → Maybe Filling
each_page one zero p f = Ok f
each_page one (suc n) p f = one p f >>= each_page one n (p + 1)

-- ---- map blocks

abbrev pub with_map : Filling → ℕ → Filling
with_map f b = record f { free = without f.free b; maps = f.maps ++ b ∷ [] }

-- so many map blocks more, each at the start of the longest run
abbrev pub place_maps : Volume → ℕ → Filling → Option Filling
place_maps v zero f = Some f
place_maps v (suc n) f = option_and_then (place_maps v n) (option_map (with_map f) (longest_run v f.free))

-- the chain is as long as the longer of the file's lists needs
abbrev pub place_chain : Request → Space → Filling → Maybe Filling
place_chain r x f =
    unless (nat_le (extents_in (record x { present = f.pages })) most_extents) (no.MapFull (extents_in (record x { present = f.pages }))) (
    need (place_maps r.volume (maps_needed (record x { present = f.pages }) - length f.maps) f)
    (no.NoSpace (r.need + (maps_needed (record x { present = f.pages }) - length f.maps)) r.free))

-- ---- how many blocks a call has to place

abbrev pub is_missing : List Mapped → ℕ → Bool
is_missing pages p = is_none (mapped_at pages p)

-- a page that gets a block when so many pages from one on are asked for: it is one of them, or stands in the empty group of one
abbrev pub gets_block : ExtAttrs → List Mapped → ℕ → ℕ → ℕ → Bool
gets_block attrs pages from n p =
    is_missing pages p && (is_within from n p
    || (takes_group attrs pages p && (nat_lt (max from (group_start attrs.fixed p)) (min (from + n) (group_start attrs.fixed p + group_length attrs.fixed p)))))

abbrev pub count_pages : (ℕ → Bool) → ℕ → ℕ
count_pages test zero = 0
count_pages test (suc n) = (if test n then 1 else 0) + count_pages test n

abbrev pub pages_needed : ExtAttrs → List Mapped → ℕ → ℕ → ℕ
pages_needed attrs pages from n = count_pages (gets_block attrs pages from n) most_pages

-- how many of so many pages from one on have no block
abbrev pub missing_in : List Mapped → ℕ → ℕ → ℕ
missing_in pages from zero = 0
missing_in pages from (suc n) = (if is_missing pages from then 1 else 0) + missing_in pages (from + 1) n

-- ---- calls

-- the blocks that a write of so many pages from one on gets
abbrev pub place_fill : Request → Space → ℕ → ℕ → Filling → Maybe Filling
place_fill r x from n f = each_page (write_page r) n from f >>= place_chain r x

-- what a refusal says, where so many blocks are wanted
abbrev pub request_of : Volume → (ℕ → Bool) → ExtAttrs → ℕ → ℕ → Request
request_of v free attrs first need = record {
  volume = v;
  attrs = attrs;
  first = first;
  need = need;
  free = free_count v free;
  longest = longest_length v free;
}

-- a write of so many pages of a file that has these pages and map blocks
abbrev pub place_write : Volume → (ℕ → Bool) → ExtAttrs → ℕ → Space → List ℕ → ℕ → ℕ → Maybe Filling
place_write v free attrs first x maps from n =
    place_fill (request_of v free attrs first (pages_needed attrs x.present from n)) x from n (record { free = free; pages = x.present; maps = maps })
