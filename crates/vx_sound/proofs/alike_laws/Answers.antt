use Rattle.vx_sound.proofs.Alike as alike
use Rattle.vx_sound.proofs.Alike.{sector_places}
use Rattle.vx_sound.proofs.alike_laws.Goals as goal

pub returns : goal.returns
returns c = record {
  sound = λ strict v a b is. alike.sound_alike strict v (sector_places v is) a b;
  inodes = λ strict v a b is. alike.inodes_same strict v (sector_places v is) a b;
  extents = λ strict v a b is. alike.extents_same strict v (sector_places v is) a b;
  blocks = λ strict v a b is. alike.block_same_bytes strict v (sector_places v is) a b;
  entries = λ strict v a b is. alike.entries_of_same strict v (sector_places v is) a b;
}
