-- The memory that is kept for what a call touches.
use Rattle.std.specs.Prelude.{ℕ, ◌≤◌}

pub record HasRoom (inodes blocks maps units : ℕ) : Type 0 where
  pub for_inodes : 4 ≤ inodes
  pub for_blocks : 4 ≤ blocks
  pub for_maps : 4 ≤ maps
  pub for_units : 70 ≤ units
