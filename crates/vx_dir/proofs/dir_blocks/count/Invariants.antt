use Rattle.std.proofs.Common.{◌≡◌, ◌≤◌, ◌*◌, take, length}
use Rattle.std.specs.List.{sum_by}
use Rattle.vx_dir.specs.Sizes.{Entries}
use Rattle.vx_dir.proofs.dir_blocks.count.Given as goal

-- the entries so far are counted
abbrev pub invariant-loop-block : goal.invariant-loop-block
invariant-loop-block l = record { counted : l.count ≡ sum_by (λ (b : Entries). length b) (take l.block-index l.blocks); few : l.count ≤ 8192 * l.block-index }
