use Rattle.std.proofs.Common.{List, ◌∙◌, ap}
use Rattle.std.specs.List.{flat_map}
use Rattle.std.proofs.lemmas.List.{take_all}
use Rattle.vx_dir.specs.Sizes.{Entries}
use Rattle.vx_dir.proofs.dir_blocks.entries_of.Goals as goal

pub returns : goal.returns
returns c =
    c.loop-block.invariant ∙ ap (λ (bs : List Entries). flat_map (λ (b : Entries). b) bs) (take_all c.loop-block.block-index c.args.blocks.now c.loop-block-test.false)
