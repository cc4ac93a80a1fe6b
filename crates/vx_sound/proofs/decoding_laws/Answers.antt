use Rattle.vx_sound.proofs.Decoding as decoding
use Rattle.vx_sound.proofs.Volumes.{places}
use Rattle.vx_sound.proofs.decoding_laws.Goals as goal

pub returns : goal.returns
returns c = record {
  inodes = λ v p image whole. decoding.inodes v p image (places v whole);
  blocks = λ v p image whole. decoding.blocks v p image (places v whole);
  entries = λ v p image whole. decoding.entries v p image (places v whole);
  maps = λ v p image whole. decoding.maps v p image (places v whole);
}
