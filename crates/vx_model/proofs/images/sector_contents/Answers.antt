use Rattle.vx_model.proofs.Batches.{bitmap_content, inode_content, part_content}
use Rattle.vx_model.proofs.images.sector_contents.Goals as goal

pub returns-clause-bitmap : goal.returns-clause-bitmap
returns-clause-bitmap c = bitmap_content

pub returns-clause-inodes : goal.returns-clause-inodes
returns-clause-inodes c = inode_content

pub returns-clause-parts : goal.returns-clause-parts
returns-clause-parts c = part_content
