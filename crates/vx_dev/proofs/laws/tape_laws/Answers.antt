use Rattle.std.proofs.Common.{sym, ◌∙◌}
use Rattle.vx_dev.proofs.Tapes.{may_now, now-barrier, may_put, may_barrier, may_less, settles_put, settles_put_other, settles_barrier, put_writes, tried_writes, may_hold_sector, earlier_sectors}
use Rattle.vx_dev.proofs.laws.tape_laws.Goals as goal

pub returns : goal.returns
returns c = record {
  put_settles = settles_put;
  put_elsewhere = settles_put_other;
  barrier_settles = settles_barrier;
  put_adds = may_put;
  failed_adds = λ t u s bytes x may. (tried_writes u bytes).may t s x may;
  put_writes = put_writes;
  failed_writes = tried_writes;
  barrier_adds = may_less;
  barrier_leaves_one = λ t s x may. may_barrier t s x may ∙ sym (now-barrier t s);
  barrier_keeps = now-barrier;
  now_may = may_now;
  may_hold_sector = may_hold_sector;
  earlier_sectors = earlier_sectors;
}
