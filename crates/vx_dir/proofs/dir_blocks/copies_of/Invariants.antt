use Rattle.std.proofs.Common.{◌≡◌, take}
use Rattle.vx_dir.proofs.dir_blocks.copies_of.Given as goal

abbrev pub invariant-loop-block : goal.invariant-loop-block
invariant-loop-block l = l.copies.items ≡ take l.block-index l.blocks
