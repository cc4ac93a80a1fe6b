use Rattle.std.proofs.Common.{◌≡◌, ◌*◌, ◌<◌, ℕ, List, [], length, sym, subst, ap, ◌∙◌, arith}
use Rattle.std.specs.Prelude.{All, Err}
use Rattle.vx_layout.specs.LogForms.{AfterImage, overlay_all}
use Rattle.vx_log.specs.Logs.{LogView, AreStarts}
use Rattle.vx_log.specs.Batches.{noted_at}
use Rattle.vx_replay.specs.BadImages.{checked_again}
use Rattle.vx_replay.specs.LogReads.{image_count, starts_at}
use Rattle.vx_replay.specs.Stopped.{noted_all}
use Rattle.vx_replay.proofs.Loading.{length_counts, are_starts}
use Rattle.vx_replay.proofs.Reread.{IsNoteOf, noted_by, note_is, inside_all}
use Rattle.vx_replay.proofs.load.loaded.Goals as goal

pub homes_of-requires : goal.homes_of-requires
homes_of-requires c =
    let rs : List (List AfterImage) = c.args.front.log.records.items in
    omega (arith, length_counts c.args.front.log.ends.tail rs, c.requires.are.ends, c.requires.ends.fits, c.requires.is.log_high, ap image_count c.as_slice-records.ensures.value)

pub standing-requires-clause-starts : goal.standing-requires-clause-starts
standing-requires-clause-starts c =
    let rs : List (List AfterImage) = c.args.front.log.records.items in
    let tail = c.args.front.log.ends.tail in
    let items : c.in-Ok-starts_of.starts.items ≡ starts_at tail rs = c.in-Ok-starts_of.ensures.starts ∙ ap (starts_at tail) c.as_slice-records.ensures.value in
    subst (λ (l : List ℕ). AreStarts tail l c.args.front.log.ends.head) (sym items)
    (subst (AreStarts tail (starts_at tail rs)) (sym c.requires.are.ends) (are_starts (2 * c.args.front.first.log_blocks) c.args.size tail rs c.requires.are.form))

pub overflow_cast-result : goal.overflow_cast-result
overflow_cast-result c =
    let rs : List (List AfterImage) = c.args.front.log.records.items in
    omega (arith, length_counts c.args.front.log.ends.tail rs, c.requires.are.ends, c.requires.ends.fits, c.requires.is.log_high, ap (λ (l : List (List AfterImage)). length l) c.as_slice-records.ensures.value)

pub overflow_cast-result-in-Ok-checked_again-2 : goal.overflow_cast-result-in-Ok-checked_again-2
overflow_cast-result-in-Ok-checked_again-2 c =
    let rs : List (List AfterImage) = c.args.front.log.records.items in
    omega (arith, length_counts c.args.front.log.ends.tail rs, c.requires.are.ends, c.requires.ends.fits, c.requires.is.log_high, ap (λ (l : List (List AfterImage)). length l) c.as_slice-records.ensures.value)

pub overflow_sub-result-in-Ok-checked_again : goal.overflow_sub-result-in-Ok-checked_again
overflow_sub-result-in-Ok-checked_again c =
    let rs : List (List AfterImage) = c.args.front.log.records.items in
    omega (arith, length_counts c.args.front.log.ends.tail rs, c.requires.are.ends, ap (λ (l : List (List AfterImage)). length l) c.as_slice-records.ensures.value)

pub returns-in-Ok-checked_again-clause-read : goal.returns-in-Ok-checked_again-clause-read
returns-in-Ok-checked_again-clause-read c = λ image h.
    let rs : List (List AfterImage) = c.args.front.log.records.items in
    let n = 2 * c.args.front.first.log_blocks in
    let homes : c.in-Ok.homes ≡ noted_all [] rs = c.in-Ok.ensures ∙ ap (noted_all []) c.as_slice-records.ensures.value in
    let note : IsNoteOf rs 0 (noted_at c.in-Ok.homes 0) = subst (λ (l : List AfterImage). IsNoteOf rs 0 (noted_at l 0)) (sym homes) (noted_by c.note_laws.ensures n c.args.size rs 0 c.requires.are.form) in
    let count : length c.as_slice-records.result.now ≡ length rs = ap (λ (l : List (List AfterImage)). length l) c.as_slice-records.ensures.value in
    let found = c.in-Ok-checked_again.ensures.found in
    record {
      first = c.args.front.first;
      is_first = c.requires.is;
      first_is = h.here ∙ h.spelled;
      first_room = c.requires.room;
      checked = h.checked;
      ends = c.args.front.log.ends;
      is_ends = c.requires.ends;
      head_is = h.head_is;
      records = rs;
      are = c.requires.are;
      stand = h.stand;
      superblock_is = ap (overlay_all rs 0) h.here ∙ sym (note_is rs 0 (noted_at c.in-Ok.homes 0) c.args.front.first_sector note) ∙ sym c.last_super.ensures ∙ found.1;
      same_log = found.3;
      room = found.2;
      sectors = ap (λ (l : LogView). l.sectors) c.standing.ensures;
      serial = ap (λ (l : LogView). l.serial) c.standing.ensures;
      tail = ap (λ (l : LogView). l.tail) c.standing.ensures;
      head = ap (λ (l : LogView). l.head) c.standing.ensures;
      homes = homes;
      descriptors = count;
      images = omega (arith, length_counts c.args.front.log.ends.tail rs, c.requires.are.ends, count);
    }

pub returns-in-Ok-checked_again-clause-sound : goal.returns-in-Ok-checked_again-clause-sound
returns-in-Ok-checked_again-clause-sound c =
    let rs : List (List AfterImage) = c.args.front.log.records.items in
    let homes : c.in-Ok.homes ≡ noted_all [] rs = c.in-Ok.ensures ∙ ap (noted_all []) c.as_slice-records.ensures.value in
    record {
      closing = ap (λ (l : LogView). l.closing) c.standing.ensures;
      area = let sectors = ap (λ (l : LogView). l.sectors) c.standing.ensures in omega (arith, sectors, c.requires.room);
      inside = subst (All (λ e. e.0 < c.args.size)) (sym homes) (inside_all c.note_laws.ensures (2 * c.args.front.first.log_blocks) c.args.size rs c.requires.are.form);
      superblock = c.in-Ok-checked_again.ensures.found.0;
      room = c.in-Ok-checked_again.ensures.found.2;
    }

pub returns-clause-bad : goal.returns-clause-bad
returns-clause-bad c = λ field is.
    let rs : List (List AfterImage) = c.args.front.log.records.items in
    let n = 2 * c.args.front.first.log_blocks in
    let homes : c.in-Ok.homes ≡ noted_all [] rs = c.in-Ok.ensures ∙ ap (noted_all []) c.as_slice-records.ensures.value in
    let note : IsNoteOf rs 0 (noted_at c.in-Ok.homes 0) = subst (λ (l : List AfterImage). IsNoteOf rs 0 (noted_at l 0)) (sym homes) (noted_by c.note_laws.ensures n c.args.size rs 0 c.requires.are.form) in
    let last : overlay_all rs 0 c.args.front.first_sector ≡ c.last_super.result = sym (note_is rs 0 (noted_at c.in-Ok.homes 0) c.args.front.first_sector note) ∙ sym c.last_super.ensures in
    let same : c.in-Err.bad.field ≡ field = cc in
    ap (checked_again c.args.size c.args.front.first.log_blocks) last ∙ sym c.checked_again.ensures.exact ∙ c.in-Err.is ∙ ap (λ (f : ℕ). Err (record { field = f })) same
