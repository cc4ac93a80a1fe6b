-- The use of blocks by the pages of files, in the three states of a mount.
use Rattle.std.specs.Prelude.{◌≡◌, ◌⊎◌, ◌≤◌, ℕ, List, length, Some}
use Rattle.vx_base.specs.declared.event.Event.{Event}
use Rattle.vx_base.specs.declared.kind.Kind.TheVariants.{Data}
use Rattle.vx_extents.specs.Extents.{mapped_at}
use Rattle.vx_space.specs.Laws.{IsPart, AreRising}
use Rattle.vx_model.specs.Layout.{space_at}
use Rattle.vx_model.specs.LaidOut.{IsOnceUsed}
use Rattle.vx_model.specs.Legal.{World}
use Rattle.vx_model.specs.State.{State}
use Rattle.vx_bytes.specs.Histories.{state_at, last_made}

-- the device gives this block to a page of the file, which holds data
abbrev pub HasBlock : State → (n page b : ℕ) → Type 0
HasBlock s n page b = mapped_at (space_at s.layout n).settled page ≡ Some (b, Data)

-- A block that the device gives to a page in the first state is that page's on the device in the second one too, and the file was not
-- made since; or it waits for an event from that prefix on.
abbrev pub IsStillUsed : (ℕ → ℕ) → State → State → ℕ → Type 0
IsStillUsed made was is from = (n page b : ℕ) → HasBlock was n page b → (HasBlock is n page b × (made n ≤ from)) ⊎ ((p : ℕ) × (is.layout.pending b ≡ Some p) × (from ≤ p))

-- The event at that place leaves each such page, or its block waits for it; what waits does so still, or for it.
pub record GivesUp (old new : State) (place : ℕ) : Type 0 where
  pub pages : (n page b : ℕ) → HasBlock old n page b → HasBlock new n page b ⊎ (new.layout.pending b ≡ Some place)
  pub waits : (b p : ℕ) → old.layout.pending b ≡ Some p → (new.layout.pending b ≡ Some p) ⊎ (new.layout.pending b ≡ Some place)

-- what the device says of each file is part of what it has
abbrev pub AreSpaces : State → Type 0
AreSpaces s = (n : ℕ) → IsPart (space_at s.layout n).settled (space_at s.layout n).present × AreRising 0 (space_at s.layout n).present

-- each block serves one purpose now, and what the earlier states give to pages is theirs still
pub record UsesBlocks (o : World) (h : List Event) (committed closing : ℕ) : Type 0 where
  pub once : IsOnceUsed (state_at o h (length h)).layout
  pub spaces : AreSpaces (state_at o h (length h))
  pub still : IsStillUsed (last_made o h) (state_at o h committed) (state_at o h (length h)) committed
  pub still_closing : IsStillUsed (last_made o h) (state_at o h closing) (state_at o h (length h)) closing
