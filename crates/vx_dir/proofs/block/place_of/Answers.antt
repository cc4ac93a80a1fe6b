use Rattle.std.proofs.Common.{[], ap, sym, ◌∙◌}
use Rattle.vx_base.specs.declared.inode.DirEntry.{DirEntry}
use Rattle.vx_dir.specs.Directories.{is_named}
use Rattle.vx_dir.proofs.Places.{found, none_passes}
use Rattle.vx_dir.proofs.block.place_of.Goals as goal

pub returns-then-eq : goal.returns-then-eq
returns-then-eq c =
    found (is_named c.args.name.now) c.args.entries.now c.index-entries-i.result c.loop-i.i c.index-entries-i.result c.loop-i-test.true c.index-entries-i.is
    (c.loop-i.invariant c.index-entries-i.result) (ap (is_named c.args.name.now) c.index-entries-i.is ∙ sym c.if-eq.ensures)

pub returns : goal.returns
returns c =
    let none : DirEntry = record { ino = 0; name = [] } in none_passes (is_named c.args.name.now) c.args.entries.now none c.loop-i.i c.loop-i-test.false (c.loop-i.invariant none)
