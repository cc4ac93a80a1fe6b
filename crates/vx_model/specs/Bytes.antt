-- read, write, truncate, fsync: the bytes of files.
use Rattle.std.specs.Prelude.{ℕ, ◌+◌, ◌-◌, ◌*◌, ◌/◌, Bool, not, ◌||◌, nat_le, nat_lt, min, List, ◌++◌, length, take, drop, replicate, Ok, if◌then◌else◌}
use Rattle.vx_base.specs.declared.call.Payload.{Payload}
use Rattle.vx_base.specs.declared.call.Payload.TheVariants as payload
use Rattle.vx_base.specs.declared.refusal.Refusal.TheVariants as no
use Rattle.vx_base.specs.declared.reply.Reply.TheVariants as say
use Rattle.vx_space.specs.Placing.{Filling, Request, is_set, request_of, pages_needed, place_fill}
use Rattle.vx_space.specs.Leaving.{cut_space, waiting_then}
use Rattle.vx_model.specs.Outcome.{Maybe, unless, ◌>>=◌}
use Rattle.vx_model.specs.Tree.{File, IsFile, Opened}
use Rattle.vx_model.specs.Layout.{Layout, volume, space_at, maps_at, is_free, with_space, with_maps}
use Rattle.vx_model.specs.State.{State, Done, most_bytes}
use Rattle.vx_model.specs.Walks.{file_at}
use Rattle.vx_model.specs.Edits.{set_node}
use Rattle.vx_model.specs.Removing.{fine}
use Rattle.vx_model.specs.Opened.{opened_at, left_with, pages_of, with_reserve}

-- ---- lists of bytes

-- so many bytes: the first ones, or with zeros behind
abbrev pub resized : ℕ → List ℕ → List ℕ
resized size bytes = take size bytes ++ replicate (size - length bytes) 0

-- from an offset on these bytes, with zeros between the old end and the offset
abbrev pub overwritten : ℕ → (new old : List ℕ) → List ℕ
overwritten offset new old = resized offset old ++ (new ++ drop (offset + length new) old)

-- so many bytes from an offset on, as far as there are any
abbrev pub bytes_from : (offset count : ℕ) → List ℕ → List ℕ
bytes_from offset count bytes = take count (drop offset bytes)

abbrev pub payload_bytes : Payload → List ℕ
payload_bytes (payload.Given bytes) = bytes
payload_bytes (payload.Fill byte count) = replicate count byte

-- ---- read

abbrev pub read_file : State → (offset count : ℕ) → File → Maybe Done
read_file s offset count f = Ok (record { state = s; reply = say.Got (bytes_from offset count f.bytes) })

abbrev pub read_opened : State → (offset count : ℕ) → Opened → Maybe Done
read_opened s offset count o = file_at s.tree.nodes o.ino >>= read_file s offset count

abbrev pub read : State → (session handle offset count : ℕ) → Maybe Done
read s session handle offset count = opened_at s.tree session handle >>= read_opened s offset count

-- ---- where a file may end

-- a file with noextend has no byte past its reservation
abbrev pub may_end_at : File → ℕ → Bool
may_end_at f end = not (is_set 4 f.attrs) || nat_le end (1024 * f.attrs.reserve)

-- the rest where the call may end a file there
abbrev pub if_fits : File → ℕ → Maybe Done → Maybe Done
if_fits f end rest = unless (may_end_at f end) (no.NoExtend (1024 * f.attrs.reserve)) (unless (nat_le end most_bytes) (no.TooBig end) rest)

-- ---- write

-- the pages that so many bytes from an offset on stand in: the first, and how many
abbrev pub first_page : ℕ → ℕ
first_page offset = offset / 1024

abbrev pub page_count : (offset count : ℕ) → ℕ
page_count offset count = pages_of (offset + count) - first_page offset

-- a file's pages and map blocks, as a call finds them
abbrev pub file_filling : Layout → ℕ → Filling
file_filling l ino = record { free = is_free l; pages = (space_at l ino).present; maps = maps_at l ino }

-- `first` is the length that a first extent is to have
abbrev pub file_request : Layout → (first ino : ℕ) → File → (from n : ℕ) → Request
file_request l first ino f from n = request_of (volume l) (is_free l) f.attrs first (pages_needed f.attrs (space_at l ino).present from n)

-- the blocks that a write of so many pages gets
unfoldable pub write_filling : Layout → (first ino : ℕ) → File → (from n : ℕ) → Maybe Filling
write_filling l first ino f from n = place_fill (file_request l first ino f from n) (space_at l ino) from n (file_filling l ino)

-- the file has the pages and map blocks that were placed; they are held
abbrev pub filled : Layout → ℕ → Filling → Layout
filled l ino g = with_maps (with_space l ino (record (space_at l ino) { present = g.pages })) ino g.maps

abbrev pub written : State → (ino offset : ℕ) → (new : List ℕ) → File → Filling → Done
written s ino offset new f g = record {
  state = record (set_node s ino (IsFile (record f { bytes = overwritten offset new f.bytes }))) { layout = filled s.layout ino g };
  reply = say.Wrote (length new);
}

abbrev pub write_file : State → (ino offset : ℕ) → (new : List ℕ) → File → Maybe Done
write_file s ino offset new f =
    if_fits f (offset + length new) (
    write_filling s.layout s.tree.tunables.initial_extent_size ino f (first_page offset) (page_count offset (length new)) >>= (λ g.
    Ok (written s ino offset new f g)))

abbrev pub write_opened : State → (offset : ℕ) → (new : List ℕ) → Opened → Maybe Done
write_opened s offset new o = file_at s.tree.nodes o.ino >>= write_file s o.ino offset new

abbrev pub write : State → (session handle offset : ℕ) → Payload → Maybe Done
write s session handle offset p = opened_at s.tree session handle >>= write_opened s offset (payload_bytes p)

-- ---- truncate

-- all pages past the new end go, and the size on the device is no larger
abbrev pub cut_layout : Layout → (place ino size : ℕ) → Layout
cut_layout l place ino size =
    left_with l place ino (cut_space (pages_of size) size (space_at l ino)) (maps_at l ino) (waiting_then (nat_le (pages_of size)) (space_at l ino))

abbrev pub cut_file : ℕ → File → File
cut_file size f = record f { bytes = take size f.bytes; attrs = with_reserve f.attrs (min f.attrs.reserve (pages_of size)) }

abbrev pub cut : State → (place ino size : ℕ) → File → State
cut s place ino size f = record (set_node s ino (IsFile (cut_file size f))) { layout = cut_layout s.layout place ino size }

-- at the size that the file has, nothing goes
abbrev pub sized : State → (place ino size : ℕ) → File → State
sized s place ino size f = if nat_lt size (length f.bytes) then cut s place ino size f else set_node s ino (IsFile (record f { bytes = resized size f.bytes }))

abbrev pub truncate_file : State → (place ino size : ℕ) → File → Maybe Done
truncate_file s place ino size f = if_fits f size (Ok (fine (sized s place ino size f)))

abbrev pub truncate_opened : State → (place size : ℕ) → Opened → Maybe Done
truncate_opened s place size o = file_at s.tree.nodes o.ino >>= truncate_file s place o.ino size

abbrev pub truncate : State → (place session handle size : ℕ) → Maybe Done
truncate s place session handle size = opened_at s.tree session handle >>= truncate_opened s place size

-- ---- fsync: its settles and commits are events and stages of their own

abbrev pub fsync : State → (session handle : ℕ) → Maybe Done
fsync s session handle = opened_at s.tree session handle >>= (λ o. Ok (fine s))
