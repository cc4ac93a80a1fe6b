-- What the sectors of a volume hold.
use Rattle.std.specs.Prelude.{ℕ, false, List}
use Rattle.vx_layout.specs.Places.{Volume}
use Rattle.vx_model.specs.Reads.{ImageReadsAs}
use Rattle.vx_model.specs.Tree.{Tree}
use Rattle.vx_sound.specs.Sound.{IsSound}

-- the metadata are sound, and read as the tree
pub record HoldsTree (v : Volume) (image : ℕ → List ℕ) (t : Tree) : Type 0 where
  pub sound : IsSound false v image
  pub reads : ImageReadsAs v image t
