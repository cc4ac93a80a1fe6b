use Rattle.std.proofs.Common.{◌≡◌, ◌++◌, take}
use Rattle.vx_txn.proofs.directory.load_maps.Given as goal

-- the blocks so far
abbrev pub invariant-loop-block : goal.invariant-loop-block
invariant-loop-block l = l.pages ≡ record l.initial.pages { maps = l.initial.pages.maps ++ take l.block-index l.maps }
