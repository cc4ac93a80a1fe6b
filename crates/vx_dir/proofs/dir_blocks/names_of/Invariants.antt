use Rattle.std.proofs.Common.{◌≡◌, take, map}
use Rattle.std.specs.List.{flat_map}
use Rattle.vx_base.specs.declared.inode.DirEntry.{DirEntry}
use Rattle.vx_dir.specs.Sizes.{Entries}
use Rattle.vx_dir.proofs.dir_blocks.names_of.Given as goal

-- the names of the blocks so far
abbrev pub invariant-loop-block : goal.invariant-loop-block
invariant-loop-block l = l.names.items ≡ map (λ (e : DirEntry). e.name) (flat_map (λ (b : Entries). b) (take l.block-index l.blocks))
