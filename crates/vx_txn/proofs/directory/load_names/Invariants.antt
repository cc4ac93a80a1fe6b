use Rattle.std.proofs.Common.{◌≡◌, take}
use Rattle.vx_txn.proofs.directory.load_names.Given as goal

-- the blocks so far
abbrev pub invariant-loop-block : goal.invariant-loop-block
invariant-loop-block l = l.names ≡ record { block_size = 1024; limit = 64; blocks = take l.block-index l.blocks }
