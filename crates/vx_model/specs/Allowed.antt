-- What a crash may leave, by the history.
use Rattle.std.specs.Prelude.{◌≡◌, ℕ, ◌<◌, ◌≤◌, Bool, true, false, not, ◌&&◌, nat_le, List, length, take, filter, slice_get, Contains, Option, Some, None, IfSome}
use Rattle.std.specs.Option.{option_and_then}
use Rattle.vx_base.specs.declared.call.Call.{Call}
use Rattle.vx_base.specs.declared.call.Call.TheVariants as call
use Rattle.vx_base.specs.declared.event.Event.{Event}
use Rattle.vx_base.specs.declared.event.Event.TheVariants as event
use Rattle.vx_base.specs.declared.mode.Logging.{Logging}
use Rattle.vx_base.specs.declared.mode.Logging.TheVariants.{Log, TmpLog}
use Rattle.vx_base.specs.declared.reply.Reply.{Reply}
use Rattle.vx_base.specs.declared.reply.Reply.TheVariants as say
use Rattle.vx_model.specs.Legal.{World, at_of, after_all}
use Rattle.vx_model.specs.Tree.{Tree}
use Rattle.vx_model.specs.Shapes.{shape}
use Rattle.vx_model.specs.Replays.{ReplaysAs}

-- how many events had come when the device had done m operations
abbrev pub come_by : List Event → ℕ → ℕ
come_by history m = length (filter (λ e. nat_le (at_of e) m) history)

abbrev pub call_of : Event → Option Call
call_of (event.Do at session line c reply) = Some c
call_of _ = None

-- the call that came at a place of the history
abbrev pub call_at : List Event → ℕ → Option Call
call_at history place = option_and_then call_of (slice_get history place)

-- calls that change names and attributes
abbrev pub is_change : Call → Bool
is_change (call.Create path mode) = true
is_change (call.Mkdir path mode) = true
is_change (call.Unlink path) = true
is_change (call.Rmdir path) = true
is_change (call.Link old new) = true
is_change (call.Rename old new) = true
is_change (call.Chmod path mode) = true
is_change (call.Truncate handle size) = true
is_change (call.Setext path attrs) = true
is_change _ = false

abbrev pub is_log : Logging → Bool
is_log Log = true
is_log _ = false

abbrev pub is_tmplog : Logging → Bool
is_tmplog TmpLog = true
is_tmplog _ = false

-- Whether such a call, once it has returned, is durable with all that came before it. Every tick counts as long as no call sets the
-- number of ticks. A close and a write, for which it is for more than the call to say, can't come yet.
abbrev pub has_front : Logging → Call → Bool
has_front mode call.Sync = true
has_front mode (call.Fsync handle) = true
has_front mode call.Tick = not (is_tmplog mode)
has_front mode (call.Rename old new) = not (is_tmplog mode)
has_front mode c = is_log mode && is_change c

abbrev pub is_refusal : Reply → Bool
is_refusal (say.Refused why) = true
is_refusal _ = false

-- the first k events hold each such call that has returned by then, and the unmounting
pub record HoldsFront (mode : Logging) (history : List Event) (m k : ℕ) : Type 0 where
  pub returned : (at place : ℕ) (answer : Reply) → Contains history (event.Ret at place answer) → at ≤ m → is_refusal answer ≡ false
      → IfSome (call_at history place) (λ c. has_front mode c ≡ true → place < k)
  pub unmounted : (at place : ℕ) → slice_get history place ≡ Some (event.Unmounted at) → at ≤ m → place < k

-- What a crash may leave when the device has done m operations: an image that replays, on the device of the opening state, as a
-- tree whose names and attributes are those after the first events of the history, as many as are durable or more, and no more
-- than had come.
pub record IsAllowed (mode : Logging) (opening : World) (history : List Event) (m : ℕ) (image : ℕ → List ℕ) : Type 0 where
  pub tree : Tree
  pub replays : ReplaysAs opening.state.layout.device_sectors image tree
  pub events : ℕ
  pub durable : HoldsFront mode history m events
  pub come : events ≤ come_by history m
  pub shape_is : (n : ℕ) → shape tree n ≡ shape (after_all opening (take events history)).state.tree n
