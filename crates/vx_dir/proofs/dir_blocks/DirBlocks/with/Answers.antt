use Rattle.std.proofs.Common.{List, [], sym, subst}
use Rattle.vx_dir.specs.Sizes.{Entries}
use Rattle.vx_dir.specs.Directories.{IsKept}
use Rattle.vx_dir.specs.Index.{Indexes}
use Rattle.vx_dir.proofs.Indexing.{kept_empty, no_index}
use Rattle.vx_dir.proofs.dir_blocks.DirBlocks.with.Goals as goal

pub invariant_of-result : goal.invariant_of-result
invariant_of-result c = (
  subst (λ (bs : List Entries). IsKept (record { block_size = c.args.geom.block; limit = c.args.geom.dirs; blocks = bs })) (sym c.new.ensures.items)
      (kept_empty c.args.geom.block c.args.geom.dirs c.requires.least c.requires.greatest c.requires.few),
  subst (λ (bs : List Entries). Indexes bs c.new-2.result) (sym c.new.ensures.items) (subst (Indexes []) (sym c.new-2.ensures) no_index),
)
