-- What an event promises of a file's size and bytes once it has returned, by the logging mode, on a mount whose writes are delayed and
-- whose closes don't flush.
use Rattle.std.specs.Prelude.{ℕ, ◌+◌, Bool, true, false, not, ◌&&◌, ◌==◌, nat_lt, nat_le, length, bit_and, Option, Some, Ok, Err}
use Rattle.vx_base.specs.declared.call.Call.{Call}
use Rattle.vx_base.specs.declared.call.Call.TheVariants as call
use Rattle.vx_base.specs.declared.call.ExtAttrs.{ExtAttrs}
use Rattle.vx_base.specs.declared.event.Event.{Event}
use Rattle.vx_base.specs.declared.event.Event.TheVariants as event
use Rattle.vx_base.specs.declared.mode.Logging.{Logging}
use Rattle.vx_model.specs.Allowed.{has_front, is_log, is_refusal}
use Rattle.vx_model.specs.Outcome.{Maybe}
use Rattle.vx_model.specs.Tree.{File, Opened}
use Rattle.vx_model.specs.State.{State}
use Rattle.vx_model.specs.Walks.{file_at, inode_of}
use Rattle.vx_model.specs.Opened.{opened_at}
use Rattle.vx_model.specs.Bytes.{payload_bytes}

-- the file of an inode number
abbrev pub file_in : State → ℕ → Maybe File
file_in s n = file_at s.tree.nodes n

-- ---- which file a call names

abbrev pub is_on : Maybe Opened → ℕ → Bool
is_on (Ok o) n = o.ino == n
is_on (Err why) n = false

abbrev pub is_inode : Maybe ℕ → ℕ → Bool
is_inode (Ok ino) n = ino == n
is_inode (Err why) n = false

-- ---- which files' bytes and sizes are stable behind it

-- a rename promises those of the file that it moves
abbrev pub promises_bytes : Logging → State → ℕ → Call → ℕ → Bool
promises_bytes mode s session (call.Fsync handle) n = is_on (opened_at s.tree session handle) n
promises_bytes mode s session call.Sync n = true
promises_bytes mode s session (call.Rename old new) n = has_front mode (call.Rename old new) && is_inode (inode_of s.tree.nodes old) n
promises_bytes mode s session _ n = false

-- the flag by which a setext changes the size
abbrev pub sets_size : ExtAttrs → Bool
sets_size attrs = not (bit_and attrs.flags 32 == 0)

-- a tick promises every file's size, where it makes durable
abbrev pub promises_size : Logging → State → ℕ → Call → ℕ → Bool
promises_size mode s session (call.Truncate handle size) n = is_log mode && is_on (opened_at s.tree session handle) n
promises_size mode s session (call.Setext path attrs) n = is_log mode && (sets_size attrs && is_inode (inode_of s.tree.nodes path) n)
promises_size mode s session call.Tick n = has_front mode call.Tick
promises_size mode s session c n = promises_bytes mode s session c n

-- the unmounting promises all of every file
abbrev pub fixes_bytes : Logging → State → Option Event → ℕ → Bool
fixes_bytes mode s (Some (event.Do at session line c reply)) n = promises_bytes mode s session c n
fixes_bytes mode s (Some (event.Unmounted at)) n = true
fixes_bytes mode s _ n = false

abbrev pub fixes_size : Logging → State → Option Event → ℕ → Bool
fixes_size mode s (Some (event.Do at session line c reply)) n = promises_size mode s session c n
fixes_size mode s (Some (event.Unmounted at)) n = true
fixes_size mode s _ n = false

-- a tick also promises what writes that made the file larger wrote before it
abbrev pub is_tick : Logging → Option Event → Bool
is_tick mode (Some (event.Do at session line call.Tick reply)) = has_front mode call.Tick
is_tick mode _ = false

-- a write of the file that covers the offset
abbrev pub covers_in : State → ℕ → Call → ℕ → ℕ → Bool
covers_in s session (call.Write handle offset payload) n o = is_on (opened_at s.tree session handle) n && (nat_le offset o && nat_lt o (offset + length (payload_bytes payload)))
covers_in s session _ n o = false

abbrev pub covers : State → Option Event → ℕ → ℕ → Bool
covers s (Some (event.Do at session line c reply)) n o = covers_in s session c n o
covers s _ n o = false

-- ---- which events have returned

abbrev pub answers : ℕ → Event → Bool
answers place (event.Ret at p answer) = (p == place) && not (is_refusal answer)
answers place _ = false

abbrev pub is_unmounting : Option Event → Bool
is_unmounting (Some (event.Unmounted at)) = true
is_unmounting _ = false

-- ---- closes that make durable

-- the file left the tree, or its reservation changed
abbrev pub is_altered : Maybe File → Maybe File → Bool
is_altered (Ok was) (Ok is) = not (was.attrs.reserve == is.attrs.reserve)
is_altered (Ok was) (Err why) = true
is_altered (Err why) _ = false

abbrev pub altered_by : State → State → Maybe Opened → Bool
altered_by old new (Ok o) = is_altered (file_in old o.ino) (file_in new o.ino)
altered_by old new (Err why) = false

-- In `log` a close that removes its file or changes its reservation makes durable, with all that came before it: the states before and
-- after it say whether it does.
abbrev pub is_durable_close : Logging → State → State → Option Event → Bool
is_durable_close mode old new (Some (event.Do at session line (call.Close handle) reply)) = is_log mode && altered_by old new (opened_at old.tree session handle)
is_durable_close mode old new _ = false
