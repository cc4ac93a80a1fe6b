use Rattle.std.proofs.Common.{refl}
use Rattle.vx_layout.specs.Inodes.{inode_at}
use Rattle.vx_codec.proofs.inode.inode_of.Goals as goal

pub returns : goal.returns
unfolding inode_at
returns c = rw (c.fields_of.ensures, c.places_of.ensures, c.map_of.ensures, c.u16_at-maps.ensures, c.u32_at-extents.ensures) refl
