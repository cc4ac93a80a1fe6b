-- How much candidates leave open: nothing of what was made stable and has not changed since.
use Rattle.std.specs.Prelude.{◌≡◌, ◌≤◌, ◌<◌, ℕ, true, false, List, length, slice_get, Contains, Some, Ok}
use Rattle.vx_base.specs.declared.call.Call.TheVariants as call
use Rattle.vx_base.specs.declared.event.Event.{Event}
use Rattle.vx_base.specs.declared.event.Event.TheVariants as event
use Rattle.vx_base.specs.declared.mode.Logging.{Logging}
use Rattle.vx_base.specs.declared.reply.Reply.{Reply}
use Rattle.vx_model.specs.Allowed.{come_by, is_refusal}
use Rattle.vx_model.specs.Legal.{World}
use Rattle.vx_model.specs.Tree.{File, Opened, Tree}
use Rattle.vx_model.specs.Walks.{file_at}
use Rattle.vx_model.specs.Opened.{opened_at}
use Rattle.vx_bytes.specs.Histories.{state_at, has_returned, promises_at, promises_size_at}
use Rattle.vx_bytes.specs.Outcomes.{HasCandidates, IsCrashOutcome}
use Rattle.vx_bytes.specs.Promises.{file_in}

-- the file has these bytes after the event at that place, and ever since
abbrev pub HasBytesSince : World → List Event → (n place : ℕ) → List ℕ → Type 0
HasBytesSince o h n place bytes = (j : ℕ) → place < j → j ≤ length h → (f : File) × (file_in (state_at o h j) n ≡ Ok f) × (f.bytes ≡ bytes)

pub record CandidateLaws : Type 0 where
  -- where an event that promises all of a file has returned, and the file has not changed since
  pub stable : (mode : Logging) (o : World) (h : List Event) (n place k : ℕ) (t : Tree) (f : File) (bytes : List ℕ) → place < k → k ≤ length h → promises_size_at mode o h n place ≡ true → ((i : ℕ) → promises_at mode o h n i place ≡ true) → has_returned h place ≡ true
      → HasBytesSince o h n place bytes → HasCandidates mode o h k t → file_at t.nodes n ≡ Ok f → f.bytes ≡ bytes
  -- so it is of a file behind a fsync that was answered with success: a crash leaves exactly its bytes
  pub fsynced : (mode : Logging) (o : World) (h : List Event) (m : ℕ) (image : ℕ → List ℕ) (place at session line handle returned : ℕ) (reply answer : Reply) (opened : Opened) (f : File) (bytes : List ℕ)
      → slice_get h place ≡ Some (event.Do at session line (call.Fsync handle) reply) → Contains h (event.Ret returned place answer) → returned ≤ m → is_refusal answer ≡ false → opened_at (state_at o h place).tree session handle ≡ Ok opened
      → come_by h m ≡ length h → HasBytesSince o h opened.ino place bytes → (c : IsCrashOutcome mode o h m image) → file_at c.allowed.tree.nodes opened.ino ≡ Ok f → f.bytes ≡ bytes
