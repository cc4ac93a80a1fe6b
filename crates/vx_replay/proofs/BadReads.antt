-- What was read of an image that is refused.
use Rattle.std.proofs.Common.{◌≡◌, ℕ, List, sym, ap, ◌∙◌}
use Rattle.std.specs.Prelude.{Result}
use Rattle.std.proofs.lemmas.Bool.{ne_eqb}
use Rattle.vx_layout.specs.declared.superblock.Super.{Super}
use Rattle.vx_layout.specs.declared.superblock.BadSuper.{BadSuper}
use Rattle.vx_replay.specs.BadImages.{checked_super, first_super}

-- a device with sectors has the superblock that its first sector holds
pub first_read : (size : ℕ) (image : ℕ → List ℕ) (sector : List ℕ) (o : Result Super BadSuper) → (size ≡ 0 → ⊥) → sector ≡ image 0 → o ≡ checked_super size sector → first_super size image ≡ o
first_read size image sector o some here is = rw (ne_eqb size 0 some) (sym (is ∙ ap (checked_super size) here))
