use Rattle.std.proofs.Common.{map, List, ◌∙◌, ap}
use Rattle.std.specs.List.{flat_map}
use Rattle.std.proofs.lemmas.List.{take_all}
use Rattle.vx_base.specs.declared.inode.DirEntry.{DirEntry}
use Rattle.vx_dir.specs.Sizes.{Entries}
use Rattle.vx_dir.proofs.dir_blocks.names_of.Goals as goal

pub returns : goal.returns
returns c =
    c.loop-block.invariant ∙ ap (λ (bs : List Entries). map (λ (e : DirEntry). e.name) (flat_map (λ (b : Entries). b) bs)) (take_all c.loop-block.block-index c.args.blocks.now c.loop-block-test.false)
