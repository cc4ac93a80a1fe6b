use Rattle.vx_log.proofs.Operations.{reads, reads_either, stands_put, stands_barrier}
use Rattle.vx_log.proofs.laws.image_laws.Goals as goal

pub returns-clause-stands : goal.returns-clause-stands
returns-clause-stands c = reads c.tape_laws.ensures

pub returns-clause-either : goal.returns-clause-either
returns-clause-either c = reads_either c.tape_laws.ensures

pub returns-clause-written : goal.returns-clause-written
returns-clause-written c = stands_put c.tape_laws.ensures

pub returns-clause-barrier : goal.returns-clause-barrier
returns-clause-barrier c = stands_barrier c.tape_laws.ensures

pub returns-clause-fewer : goal.returns-clause-fewer
returns-clause-fewer c = λ n r is_metadata t less s. record {
  holds = record {
    apart = λ u there. s.holds.apart u (less u there);
    ends = s.holds.ends;
    fits = s.holds.fits;
    whole = s.holds.whole;
    metadata = λ u x there may. s.holds.metadata u x (less u there) may;
  };
  head_is = s.head_is;
}
