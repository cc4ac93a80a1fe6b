-- From what is held of every file to what a crash may leave, and how that goes on as the history grows.
use Rattle.std.specs.Prelude.{◌≡◌, ◌≤◌, ◌<◌, ℕ, All, List, [], ◌∷◌, ◌++◌, length}
use Rattle.std.specs.List.{AllByRecursion}
use Rattle.vx_base.specs.declared.event.Event.{Event}
use Rattle.vx_base.specs.declared.mode.Logging.{Logging}
use Rattle.vx_dev.specs.Tape.{Tape, IsImage}
use Rattle.vx_model.specs.Allowed.{come_by}
use Rattle.vx_model.specs.AllowedLaws.{IsPlaced, IsQuiet}
use Rattle.vx_model.specs.Legal.{World, at_of}
use Rattle.vx_model.specs.Settled.{ReplaysSettled}
use Rattle.vx_bytes.specs.Events.{IsUnpromising}
use Rattle.vx_bytes.specs.Histories.{state_at}
use Rattle.vx_bytes.specs.Images.{IsClearOfFiles}
use Rattle.vx_bytes.specs.Kept.{Progress, Sinces, HoldsFiles}
use Rattle.vx_bytes.specs.Outcomes.{HoldsDurable, IsCrashOutcome}

pub record OutcomeLaws : Type 0 where
  -- An image that a crash may leave now, and that replays as the committed state with what is settled, where all that is durable is
  -- committed and no record of the log names a sector of a file.
  pub committed : (mode : Logging) (opening : World) (history : List Event) (p : Progress) (since : Sinces) (t : Tape) (m : ℕ) (image : ℕ → List ℕ) → HoldsFiles mode opening history p since t → come_by history m ≡ length history → IsImage t image
      → p.committed ≤ length history → HoldsDurable mode opening history m p.committed → (r : ReplaysSettled (state_at opening history p.committed) image) → IsClearOfFiles (state_at opening history p.committed) r.replays.records image → IsCrashOutcome mode opening history m image
  -- so it is of the closing state, while a barrier is owed behind its head sector
  pub closing : (mode : Logging) (opening : World) (history : List Event) (p : Progress) (since : Sinces) (t : Tape) (m : ℕ) (image : ℕ → List ℕ) → HoldsFiles mode opening history p since t → come_by history m ≡ length history → IsImage t image
      → p.closing ≤ length history → HoldsDurable mode opening history m p.closing → (r : ReplaysSettled (state_at opening history p.closing) image) → IsClearOfFiles (state_at opening history p.closing) r.replays.records image → IsCrashOutcome mode opening history m image
  -- an outcome stays one by events of later moments
  pub later : (mode : Logging) (opening : World) (history events : List Event) (m : ℕ) (image : ℕ → List ℕ) → All (IsPlaced (length history)) history → AllByRecursion (λ e. m < at_of e) events
      → IsCrashOutcome mode opening history m image → IsCrashOutcome mode opening (history ++ events) m image
  -- and by an event of this moment that promises nothing, as a refusal
  pub unpromising : (mode : Logging) (opening : World) (history : List Event) (e : Event) (m : ℕ) (image : ℕ → List ℕ) → All (IsPlaced (length history)) history → IsUnpromising e → come_by history m ≡ length history → at_of e ≤ m → IsQuiet m e
      → IsCrashOutcome mode opening history m image → IsCrashOutcome mode opening (history ++ e ∷ []) m image
