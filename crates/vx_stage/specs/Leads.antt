-- Batches that lead from one state to a later one, over the transactions of several calls.
use Rattle.std.specs.Prelude.{◌≡◌, ◌⊎◌, ◌<◌, ◌≤◌, ◌+◌, ℕ, List, take, Option, Some, None, IfSome, IsTrue}
use Rattle.vx_base.specs.declared.event.Event.{Event}
use Rattle.vx_layout.specs.Places.{Volume, is_data, block_sector}
use Rattle.vx_layout.specs.LogForms.{AfterImage}
use Rattle.vx_log.specs.Batches.{noted_at}
use Rattle.vx_model.specs.Images.{Parsed, content_at, IsSame}
use Rattle.vx_model.specs.Layout.{volume}
use Rattle.vx_model.specs.Legal.{World, after_all}
use Rattle.vx_model.specs.State.{State}
use Rattle.vx_model.specs.Waiting.{IsNamed}

-- What the batch has of a sector is right for what is said now, where that says anything of it: a sector that was metadata for a
-- while may have an image still. What the batch lacks is as it was.
abbrev pub IsRight : Volume → Parsed → Parsed → ℕ → Option (List ℕ) → Type 0
IsRight v old new s (Some image) = IfSome (content_at v new s) (λ bytes. bytes ≡ image)
IsRight v old new s None = IsSame v old new s

abbrev pub Leads : Volume → Parsed → Parsed → List AfterImage → Type 0
Leads v old new batch = (s : ℕ) → IsRight v old new s (noted_at batch s)

-- The block holds metadata, or it waits for an event at this place or later.
abbrev pub IsYoung : State → ℕ → ℕ → Type 0
IsYoung s place b = IsNamed s b ⊎ ((p : ℕ) × ((s.layout.pending b ≡ Some p) × (place ≤ p)))

-- each data block that the batch has a sector of is one of these
abbrev pub AreYoung : State → ℕ → List AfterImage → Type 0
AreYoung s place batch = (b i : ℕ) → IsTrue (is_data (volume s.layout) b) → i < 2 → IfSome (noted_at batch (block_sector 2 b + i)) (λ _. IsYoung s place b)

-- the state after the first events
abbrev pub state_at : World → List Event → ℕ → State
state_at opening history k = (after_all opening (take k history)).state
