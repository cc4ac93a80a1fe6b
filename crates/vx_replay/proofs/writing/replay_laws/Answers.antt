use Rattle.std.specs.Prelude.{false}
use Rattle.vx_replay.proofs.writing.replay_laws.Goals as goal

pub returns : goal.returns
returns c = record {
  tape = c.tape_laws.ensures;
  notes = c.note_laws.ensures;
  image_reads = c.image_laws.ensures.stands;
  written = c.image_laws.ensures.written;
  barrier = c.image_laws.ensures.barrier;
  fewer = c.image_laws.ensures.fewer;
  homes = c.home_laws.ensures.stage;
  homes_broken = c.home_laws.ensures.broken;
  either = c.image_laws.ensures.either;
  home_stable = c.home_laws.ensures.stable;
  all_home = c.home_laws.ensures.home;
  emptied = c.head_laws.ensures.emptied;
  head_written = c.head_laws.ensures.written;
  head_failed = c.head_laws.ensures.failed;
  head_passed = c.head_laws.ensures.passed;
  values = c.value_laws.ensures.stage;
  values_broken = c.value_laws.ensures.broken;
  supers = c.super_spelling.ensures.unique;
  heads = c.log_spelling.ensures.head;
  records = c.log_spelling.ensures.records;
  volume = c.super_places.ensures.volume;
  past_log = c.super_places.ensures.past_log;
  alike = λ v a b t is_volume same h. record { sound = c.sound_alike.ensures false v a b is_volume same h.sound; reads = c.reads_alike.ensures false v a b t is_volume same h.sound h.reads };
}
