-- Each block serves one purpose.
use Rattle.std.specs.Prelude.{◌≡◌, ◌≤◌, ◌+◌, ◌==◌, ℕ, List, [], ◌∷◌, ◌++◌, if◌then◌else◌}
use Rattle.vx_space.specs.Space.{page_blocks}
use Rattle.vx_space.specs.Placing.{Filling}

-- how many times a number stands in a list
abbrev pub uses : List ℕ → ℕ → ℕ
uses [] b = 0
uses (c ∷ cs) b = (if b == c then 1 else 0) + uses cs b

-- the blocks that a file has
abbrev pub blocks_in : Filling → List ℕ
blocks_in f = page_blocks f.pages ++ f.maps

-- how many purposes a block has here: it is free, or it is a page's or a map block
abbrev pub purposes : Filling → ℕ → ℕ
purposes f b = (if f.free b then 1 else 0) + uses (blocks_in f) b

-- Blocks that were free are the file's now, and nothing else has changed: each has as many purposes as it had, and the file lost none.
pub record IsGrown (old new : Filling) : Type 0 where
  pub purposes_kept : (b : ℕ) → purposes new b ≡ purposes old b
  pub kept : (b : ℕ) → uses (blocks_in old) b ≤ uses (blocks_in new) b
