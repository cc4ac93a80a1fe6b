use Rattle.vx_blockmaps.proofs.Elsewhere.{changed_elsewhere, freed_elsewhere}
use Rattle.vx_blockmaps.proofs.laws.others.Goals as goal

pub returns : goal.returns
returns c = record {
  cut = λ l place ino size. changed_elsewhere l ino _ _ _;
  settled = λ l place ino f. changed_elsewhere l ino _ _ _;
  given_up = freed_elsewhere;
  written = λ l ino g. changed_elsewhere l ino _ _ _;
  closed = λ l place ino goes. changed_elsewhere l ino _ _ _;
}
