-- What the files go through in a history.
use Rattle.std.specs.Prelude.{ℕ, zero, suc, ◌+◌, Bool, true, false, not, ◌&&◌, ◌||◌, if◌then◌else◌, nat_lt, nat_le, List, length, take, get_or, slice_get, Ok, Err}
use Rattle.std.specs.List.{list_any}
use Rattle.vx_base.specs.declared.event.Event.{Event}
use Rattle.vx_base.specs.declared.mode.Logging.{Logging}
use Rattle.vx_model.specs.Outcome.{Maybe}
use Rattle.vx_model.specs.Tree.{File}
use Rattle.vx_model.specs.Allowed.{come_by}
use Rattle.vx_model.specs.Legal.{World, after_all}
use Rattle.vx_model.specs.State.{State}
use Rattle.vx_bytes.specs.Stories.{Story}
use Rattle.vx_bytes.specs.Promises.{file_in, fixes_bytes, fixes_size, is_tick, covers, answers, is_unmounting}

-- the state after the first k events
unfoldable pub state_at : World → List Event → ℕ → State
state_at opening history k = (after_all opening (take k history)).state

-- the state after all of them
abbrev pub present : World → List Event → State
present opening history = state_at opening history (length history)

abbrev pub size_of : Maybe File → ℕ
size_of (Ok f) = length f.bytes
size_of (Err why) = 0

-- past the end, and where there is no file, 0
abbrev pub byte_of : Maybe File → ℕ → ℕ
byte_of (Ok f) o = get_or f.bytes o 0
byte_of (Err why) o = 0

-- the file becomes smaller, or comes or goes
abbrev pub is_cut : Maybe File → Maybe File → Bool
is_cut (Ok was) (Ok is) = nat_lt (length is.bytes) (length was.bytes)
is_cut (Err a) (Err b) = false
is_cut _ _ = true

-- ... and now ends at the offset or before it
abbrev pub is_removed : Maybe File → Maybe File → ℕ → Bool
is_removed (Ok was) (Ok is) o = nat_lt (length is.bytes) (length was.bytes) && nat_le (length is.bytes) o
is_removed (Err a) (Err b) o = false
is_removed _ _ o = true

-- the file comes or goes
abbrev pub is_made : Maybe File → Maybe File → Bool
is_made (Ok was) (Ok is) = false
is_made (Err a) (Err b) = false
is_made _ _ = true

-- the file stays, and becomes smaller
abbrev pub is_shorter : Maybe File → Maybe File → Bool
is_shorter (Ok was) (Ok is) = nat_lt (length is.bytes) (length was.bytes)
is_shorter _ _ = false

-- behind the last of the first k places that pass the test; 0 where none does
abbrev pub behind_last : (ℕ → Bool) → ℕ → ℕ
behind_last test zero = 0
behind_last test (suc k) = if test k then suc k else behind_last test k

-- of these places below i, one that covers has none that removes after it
abbrev pub is_raised : (ℕ → Bool) → (ℕ → Bool) → ℕ → Bool
is_raised removes covers zero = false
is_raised removes covers (suc i) = not (removes i) && (covers i || is_raised removes covers i)

-- the call of that place has returned, not by a refusal; or it is the unmounting
unfoldable pub has_returned : List Event → ℕ → Bool
has_returned history i = is_unmounting (slice_get history i) || list_any (answers i) history

module _ (opening : World) (history : List Event) (n : ℕ) where
  abbrev pub file_after : ℕ → Maybe File
  file_after k = file_in (state_at opening history k) n

  abbrev pub removes_at : ℕ → ℕ → Bool
  removes_at o i = is_removed (file_after i) (file_after (i + 1)) o

  abbrev pub raises_at : ℕ → ℕ → Bool
  raises_at o i = nat_lt (size_of (file_after i)) (size_of (file_after (i + 1))) && covers (state_at opening history i) (slice_get history i) n o

  abbrev pub cuts_at : ℕ → Bool
  cuts_at i = is_cut (file_after i) (file_after (i + 1))

  -- the prefix behind the file's last cut, behind its last making or end, and behind its last smaller truncate
  unfoldable pub last_cut : ℕ
  last_cut = behind_last cuts_at (length history)

  unfoldable pub last_made : ℕ
  last_made = behind_last (λ i. is_made (file_after i) (file_after (i + 1))) (length history)

  unfoldable pub last_shorter : ℕ
  last_shorter = behind_last (λ i. is_shorter (file_after i) (file_after (i + 1))) (length history)

module _ (mode : Logging) (opening : World) (history : List Event) (n : ℕ) where
  -- the event promises the byte, once it has returned
  abbrev pub promises_at : ℕ → ℕ → Bool
  promises_at o i =
      fixes_bytes mode (state_at opening history i) (slice_get history i) n
      || (is_tick mode (slice_get history i) && is_raised (removes_at opening history n o) (raises_at opening history n o) i)

  abbrev pub promises_size_at : ℕ → Bool
  promises_size_at i = fixes_size mode (state_at opening history i) (slice_get history i) n

  unfoldable pub story : Story
  story = record {
    ends = length history;
    size = λ k. size_of (file_after opening history n k);
    byte = λ o k. byte_of (file_after opening history n k) o;
    shrinks = λ i. cuts_at opening history n i;
    removes = λ o i. removes_at opening history n o i;
    fixes_size = λ i. promises_size_at i && has_returned history i;
    fixes = λ o i. promises_at o i && has_returned history i;
  }

-- the events that had come when the device had done m operations
abbrev pub seen : List Event → ℕ → List Event
seen history m = take (come_by history m) history
