use Rattle.std.proofs.Common.{◌*◌}
use Rattle.vx_layout.specs.Supers.{volume_of}
use Rattle.vx_stage.proofs.laws.kernel_laws.Goals as goal

pub returns : goal.returns
returns c = record {
  past_log = λ v p s there. c.super_places.ensures.past_log v s (c.metadata.ensures.inside (volume_of v) p s there);
  sizes_fit = c.super_places.ensures.fits;
  says_stands = λ v p r image says reads. c.log_says.ensures.stands (2 * v.log_blocks) (volume_of v) p r image says reads;
  parts = λ v p b i data_ lt. c.sector_contents.ensures.parts (volume_of v) p b i (c.super_places.ensures.volume v) data_ lt;
  formed = c.waiting_laws.ensures.formed;
  reads = c.state_reads.ensures.reads;
  tree = c.state_reads.ensures.tree;
  shape_is = c.state_reads.ensures.shape;
  sound = c.state_sound.ensures.sound;
  released = λ s upto. c.edit_laws.ensures.released_says s upto;
  records = c.batch_laws.ensures.records;
  decides = c.batch_laws.ensures.decides;
  body_length = c.batch_laws.ensures.length;
  form = c.batch_laws.ensures.form;
  image_reads = c.image_laws.ensures.stands;
  image_either = c.image_laws.ensures.either;
  barrier = c.image_laws.ensures.barrier;
  fewer = c.image_laws.ensures.fewer;
  certain = c.body_laws.ensures.certain;
  body = c.body_laws.ensures.stage;
  body_broken = c.body_laws.ensures.broken;
  holds_grown = c.head_laws.ensures.grown;
  head_grown = c.head_laws.ensures.grown_head;
  holds_emptied = c.head_laws.ensures.emptied;
  written = c.head_laws.ensures.written;
  failed = c.head_laws.ensures.failed;
  passed = c.head_laws.ensures.passed;
  homes = c.home_laws.ensures.stage;
  homes_broken = c.home_laws.ensures.broken;
  stable = c.home_laws.ensures.stable;
  home = c.home_laws.ensures.home;
  tape = c.tape_laws.ensures;
  notes = c.note_laws.ensures;
  allowed = c.allowed_laws.ensures;
}
