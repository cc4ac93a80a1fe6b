-- How the use of blocks by pages goes on.
use Rattle.std.specs.Prelude.{◌≡◌, ◌≤◌, ℕ, false, List, [], ◌∷◌, ◌++◌, length}
use Rattle.vx_base.specs.declared.event.Event.{Event}
use Rattle.vx_base.specs.declared.event.Event.TheVariants as event
use Rattle.vx_model.specs.LaidOut.{IsLaidOut}
use Rattle.vx_model.specs.Legal.{World}
use Rattle.vx_bytes.specs.BlockUse.{HasBlock, GivesUp, UsesBlocks}
use Rattle.vx_bytes.specs.Histories.{present, is_made}
use Rattle.vx_bytes.specs.Promises.{file_in}

pub record BlockLaws : Type 0 where
  -- an event that gives up only what waits for it, and neither makes nor ends a file whose blocks stay on the device
  pub happens : (o : World) (h : List Event) (e : Event) (committed closing : ℕ) → committed ≤ length h → closing ≤ length h → IsLaidOut (present o (h ++ e ∷ [])) → GivesUp (present o h) (present o (h ++ e ∷ [])) (length h)
      → ((n page b : ℕ) → HasBlock (present o h) n page b → HasBlock (present o (h ++ e ∷ [])) n page b → is_made (file_in (present o h) n) (file_in (present o (h ++ e ∷ [])) n) ≡ false) → UsesBlocks o h committed closing → UsesBlocks o (h ++ e ∷ []) committed closing
  -- a release up to the committed prefix
  pub release : (o : World) (h : List Event) (at committed closing : ℕ) → committed ≤ closing → closing ≤ length h → UsesBlocks o h committed closing → UsesBlocks o (h ++ event.Release at committed ∷ []) committed closing
  pub close : (o : World) (h : List Event) (committed closing : ℕ) → UsesBlocks o h committed closing → UsesBlocks o h committed (length h)
  pub commit : (o : World) (h : List Event) (committed closing : ℕ) → UsesBlocks o h committed closing → UsesBlocks o h closing closing
