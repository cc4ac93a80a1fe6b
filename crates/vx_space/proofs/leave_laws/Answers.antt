use Rattle.vx_space.proofs.Leaves.{listed, only, stays, gone}
use Rattle.vx_space.proofs.leave_laws.Goals as goal

pub returns : goal.returns
returns c = record {
  listed = λ goes x p b kind passes is. listed goes p b kind x.settled passes is;
  only = λ goes x b rising some. only goes 0 b x.settled rising some;
  stays = λ goes pages p not_going. stays goes pages p not_going;
  goes = λ goes pages p passes. gone goes pages p passes;
}
