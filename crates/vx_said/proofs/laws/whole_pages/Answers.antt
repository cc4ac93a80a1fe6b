use Rattle.vx_said.proofs.WholeSectors.{sound_pages, state_pages}
use Rattle.vx_said.proofs.laws.whole_pages.Goals as goal

pub returns : goal.returns
returns c = record {
  sound = λ strict v image sound sectors. sound_pages v image sectors strict sound;
  said = λ s image is sectors. state_pages c.state_says.ensures s image is sectors;
}
