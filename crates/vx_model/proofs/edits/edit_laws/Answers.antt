use Rattle.vx_model.proofs.TouchedBatch.{touched_batch}
use Rattle.vx_model.proofs.EditKeeps as keeps
use Rattle.vx_model.proofs.NameKeeps as names
use Rattle.vx_model.proofs.EditTouches as touches
use Rattle.vx_model.proofs.PlainEdits as plain
use Rattle.vx_model.proofs.edits.edit_laws.Goals as goal

pub returns : goal.returns
returns c = record {
  added = names.added c.place_laws.ensures;
  added_touches = touches.added_touches;
  removed = names.removed;
  removed_touches = touches.removed_touches;
  file_set = keeps.file_set;
  plain_file = keeps.plain_file;
  links_set = keeps.links_set;
  directory_set = keeps.directory_set;
  mode_set = keeps.mode_set;
  set_touches = touches.set_touches;
  dropped = keeps.dropped;
  dropped_touches = λ s place ino is. touches.dropped_touches s place ino;
  released = keeps.released_laid;
  released_says = touches.released_says;
  added_plain = plain.added_plain;
  removed_plain = plain.removed_plain;
  file_plain = plain.file_plain;
  directory_plain = plain.directory_plain;
  mode_plain = plain.mode_plain;
  dropped_plain = plain.dropped_plain;
  released_plain = plain.released_plain;
  same = touches.same;
  next = touches.next_edit;
  batch = λ old new t batch before after is right has. touched_batch old new t batch (record {
    block = λ n i d there. c.claims.ensures.block old n i d before there;
    map_block = λ n k x there. c.claims.ensures.map_block old n k x before there;
  }) is has right;
}
