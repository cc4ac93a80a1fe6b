use Rattle.std.proofs.Common.{◌≡◌, take}
use Rattle.std.specs.List.{flat_map}
use Rattle.vx_dir.specs.Sizes.{Entries}
use Rattle.vx_dir.proofs.dir_blocks.entries_of.Given as goal

-- the entries of the blocks so far
abbrev pub invariant-loop-block : goal.invariant-loop-block
invariant-loop-block l = l.entries.items ≡ flat_map (λ (b : Entries). b) (take l.block-index l.blocks)
