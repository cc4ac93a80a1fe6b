use Rattle.vx_model.proofs.Replaying.{Laws, replays_once}
use Rattle.vx_model.proofs.reads.replays_once.Goals as goal

pub returns : goal.returns
returns c = λ m n image t u a b.
    let laws : Laws = record {
      supers = c.super_spelling.ensures.unique;
      heads = c.log_spelling.ensures.head;
      records = c.log_spelling.ensures.records;
      reads = c.reads_once.ensures;
    } in
    replays_once laws image m n t u a b
