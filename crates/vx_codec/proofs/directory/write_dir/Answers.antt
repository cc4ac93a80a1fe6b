use Rattle.std.proofs.Common.{rules, ◌≡◌, ◌+◌, length, take, arith, ap}
use Rattle.vx_layout.specs.Dirs.{entries_bytes}
use Rattle.vx_codec.proofs.Entries.{count_below, used_within}
use Rattle.vx_codec.proofs.directory.write_dir.Goals as goal

pub overflow_cast-entries : goal.overflow_cast-entries
overflow_cast-entries g c = omega (arith, count_below c.args.entries.now, c.requires.size, c.requires.room)

pub put_entry-requires : goal.put_entry-requires
put_entry-requires g c =
    let es = c.args.entries.now in
    let i = c.loop-entry.entry-index in
    let within = used_within es i c.entry-item.result c.loop-entry-test.true c.entry-item.is in
    let so_far : length c.loop-entry.sheet ≡ 4 + length (entries_bytes (take i es)) = omega (arith, ap length c.loop-entry.invariant) in
    (search rules, (rw c.entry-item.is (c.requires.short i _ c.loop-entry-test.true), omega (arith, within, so_far, c.requires.room)))
