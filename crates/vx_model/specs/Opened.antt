-- open, close, and what files give up.
use Rattle.std.specs.Prelude.{ℕ, Bool, ◌==◌, nat_lt, min, List, length, is_none, Ok, if◌then◌else◌}
use Rattle.std.specs.Int.{div_ceil}
use Rattle.std.specs.FinMap as map
use Rattle.vx_base.specs.declared.call.ExtAttrs.{ExtAttrs}
use Rattle.vx_base.specs.declared.call.Flag.{Flag}
use Rattle.vx_base.specs.declared.refusal.Refusal.TheVariants as no
use Rattle.vx_base.specs.Paths.{FileName}
use Rattle.vx_space.specs.Space.{Space}
use Rattle.vx_space.specs.Placing.{is_set}
use Rattle.vx_space.specs.Leaving.{reserved_from, space_but, waiting_then}
use Rattle.vx_model.specs.Outcome.{Maybe, unless, ◌>>=◌, need}
use Rattle.vx_model.specs.Tree.{File, IsFile, HandleKey, Opened, Handles, Tree}
use Rattle.vx_model.specs.Handles.{key_of, is_open}
use Rattle.vx_model.specs.Layout.{Layout, space_at, maps_at, with_space, with_maps, pended}
use Rattle.vx_model.specs.State.{State, Done}
use Rattle.vx_model.specs.Walks.{root, walk, names_of, file_at}
use Rattle.vx_model.specs.Edits.{set_node, drop_node}
use Rattle.vx_model.specs.Removing.{fine}

-- ---- handles

-- the most handles that are open at a time
abbrev pub most_open : ℕ
most_open = 256

abbrev pub with_handles : State → Handles → State
with_handles s handles = record s { tree = record s.tree { handles = handles } }

-- what a session's handle is open on
abbrev pub opened_at : Tree → (session handle : ℕ) → Maybe Opened
opened_at t session handle = need (map.get t.handles (key_of session handle)) no.BadHandle

-- ---- open

abbrev pub open_file : State → HandleKey → Flag → ℕ → File → Maybe Done
open_file s key flag ino f =
    unless (nat_lt (map.len s.tree.handles) most_open) (no.TooManyOpen (map.len s.tree.handles)) (
    Ok (fine (with_handles s (map.insert s.tree.handles key (record { ino = ino; flag = flag })))))

abbrev pub open_inode : State → HandleKey → Flag → ℕ → Maybe Done
open_inode s key flag ino = file_at s.tree.nodes ino >>= open_file s key flag ino

abbrev pub open_along : State → HandleKey → Flag → List FileName → Maybe Done
open_along s key flag names = walk s.tree.nodes root names >>= open_inode s key flag

-- a handle that the session has open is refused before the path is looked at
abbrev pub open_path : State → (session handle : ℕ) → List ℕ → Flag → Maybe Done
open_path s session handle path flag =
    unless (is_none (map.get s.tree.handles (key_of session handle))) no.BadHandle (
    names_of path >>= open_along s (key_of session handle) flag)

-- ---- what a file gives up

-- the file has this space and these map blocks now, and what it gave up waits for the event at this place
abbrev pub left_with : Layout → (place ino : ℕ) → Space → (maps gone : List ℕ) → Layout
left_with l place ino x maps gone = record (with_maps (with_space l ino x) ino maps) { pending = pended place gone l.pending }

-- The pages go whose numbers pass the test. A block that the device says waits, and a held one is free.
abbrev pub pages_gone : Layout → (place ino : ℕ) → (ℕ → Bool) → Layout
pages_gone l place ino goes = left_with l place ino (space_but goes (space_at l ino)) (maps_at l ino) (waiting_then goes (space_at l ino))

-- ---- close

-- how many pages a file of so many bytes takes
abbrev pub pages_of : ℕ → ℕ
pages_of size = div_ceil size 1024

abbrev pub with_reserve : ExtAttrs → ℕ → ExtAttrs
with_reserve attrs reserve = record attrs { reserve = reserve }

-- the file has this reservation, and its reserved pages from one on go
abbrev pub unreserved : State → (place ino : ℕ) → File → (reserve from : ℕ) → State
unreserved s place ino f reserve from =
    record (set_node s ino (IsFile (record f { attrs = with_reserve f.attrs reserve }))) { layout = pages_gone s.layout place ino (reserved_from from (space_at s.layout ino).present) }

-- What the last close of a file leaves: one without a name goes; one with noreserve keeps no reservation, and one with trim none past
-- its end.
abbrev pub last_closed : State → (place ino : ℕ) → File → State
last_closed s place ino f =
    if f.nlink == 0 then drop_node s place ino
    else (if is_set 8 f.attrs then unreserved s place ino f 0 0
    else (if is_set 16 f.attrs then unreserved s place ino f (min f.attrs.reserve (pages_of (length f.bytes))) (pages_of (length f.bytes))
    else s))

abbrev pub closed_by : State → (place ino : ℕ) → File → Done
closed_by s place ino f = fine (if is_open s.tree ino then s else last_closed s place ino f)

abbrev pub close_opened : State → ℕ → HandleKey → Opened → Maybe Done
close_opened s place key o = file_at s.tree.nodes o.ino >>= (λ f. Ok (closed_by (with_handles s (map.remove s.tree.handles key)) place o.ino f))

abbrev pub close : State → (place session handle : ℕ) → Maybe Done
close s place session handle = opened_at s.tree session handle >>= close_opened s place (key_of session handle)
