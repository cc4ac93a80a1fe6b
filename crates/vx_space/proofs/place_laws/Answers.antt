use Rattle.vx_space.specs.Placing.{place_fill}
use Rattle.vx_space.specs.Uses.{IsGrown}
use Rattle.vx_space.proofs.Chains.{always_ok}
use Rattle.vx_space.proofs.Grows.{fill_grown}
use Rattle.vx_space.proofs.Maps.{fill_has}
use Rattle.vx_space.proofs.Needed.{needed_is}
use Rattle.vx_space.proofs.Written.{fill_written}
use Rattle.vx_space.proofs.place_laws.Goals as goal

pub returns : goal.returns
returns c = record {
  grows = λ r x from n f g some is. always_ok (place_fill r x from n f) (IsGrown f) g (fill_grown r x from n f some) is;
  maps = fill_has;
  writes = fill_written;
  needs = λ attrs pages from n plain within. needed_is attrs pages from n plain within;
}
