-- What a crash may leave, with the sizes and bytes of files, by the history.
use Rattle.std.specs.Prelude.{◌≡◌, ℕ, ◌<◌, ◌≤◌, ◌+◌, true, false, List, length, get_or, slice_get, Contains, Ok}
use Rattle.vx_base.specs.declared.event.Event.{Event}
use Rattle.vx_base.specs.declared.event.Event.TheVariants as event
use Rattle.vx_base.specs.declared.mode.Logging.{Logging}
use Rattle.vx_base.specs.declared.reply.Reply.{Reply}
use Rattle.vx_model.specs.Allowed.{HoldsFront, IsAllowed, is_refusal}
use Rattle.vx_model.specs.Legal.{World}
use Rattle.vx_model.specs.Tree.{File, Tree}
use Rattle.vx_model.specs.Walks.{file_at}
use Rattle.vx_bytes.specs.Course.{May, SizeMay}
use Rattle.vx_bytes.specs.Stories.{size_course, byte_course}
use Rattle.vx_bytes.specs.Promises.{is_durable_close}
use Rattle.vx_bytes.specs.Histories.{state_at, story, seen}

-- each file of the tree has a size and bytes that a crash may leave of it where the first k events of this history count
pub record HasCandidates (mode : Logging) (opening : World) (history : List Event) (k : ℕ) (t : Tree) : Type 0 where
  pub sizes : (n : ℕ) (f : File) → file_at t.nodes n ≡ Ok f → SizeMay 0 (size_course (story mode opening history n)) k (length f.bytes)
  pub bytes : (n o : ℕ) (f : File) → file_at t.nodes n ≡ Ok f → o < length f.bytes → May 0 (byte_course (story mode opening history n) o) k (get_or f.bytes o 0)

-- the first k events hold each close that makes durable and has returned by then
abbrev pub HoldsCloses : Logging → World → List Event → ℕ → ℕ → Type 0
HoldsCloses mode opening history m k =
    (at place : ℕ) (answer : Reply) → Contains history (event.Ret at place answer) → at ≤ m → is_refusal answer ≡ false
    → is_durable_close mode (state_at opening history place) (state_at opening history (place + 1)) (slice_get history place) ≡ true → place < k

-- the first k events hold all that is durable when the device has done m operations
pub record HoldsDurable (mode : Logging) (opening : World) (history : List Event) (m k : ℕ) : Type 0 where
  pub front : HoldsFront mode history m k
  pub closes : HoldsCloses mode opening history m k

-- What a crash may leave when the device has done m operations: an image of a tree whose names and attributes are those after the first
-- events of the history, as many as are durable or more, and no more than had come. Each file of it has a size and bytes that it had
-- where those count, none older than what was made stable last.
pub record IsCrashOutcome (mode : Logging) (opening : World) (history : List Event) (m : ℕ) (image : ℕ → List ℕ) : Type 0 where
  pub allowed : IsAllowed mode opening history m image
  pub closes : HoldsCloses mode opening history m allowed.events
  pub candidates : HasCandidates mode opening (seen history m) allowed.events allowed.tree
