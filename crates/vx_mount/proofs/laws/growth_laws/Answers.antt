use Rattle.vx_mount.proofs.Growing.{slice_get-longer, slice_get-here, placed-more, stopping-more, begun-do, answered-do, begun-ret, answered-ret, begun-other, answered-other}
use Rattle.std.proofs.Common.{[]}
use Rattle.vx_mount.proofs.Taking.{calls_counted}
use Rattle.vx_mount.proofs.laws.growth_laws.Goals as goal

pub returns : goal.returns
returns c = record {
  stays = λ history more place e is. slice_get-longer history more place e is;
  here = λ history e. slice_get-here history e [];
  placed = placed-more;
  stopping = stopping-more;
  begun_do = begun-do;
  answered_do = answered-do;
  begun_ret = begun-ret;
  answered_ret = answered-ret;
  begun_other = begun-other;
  answered_other = answered-other;
  counted = calls_counted;
}
