use Rattle.std.proofs.Common.{◌≡◌, true, [], arith}
use Rattle.std.proofs.lemmas.Bool.Decides.{nat_tests}
use Rattle.vx_dir.specs.Directories.{has_room}
use Rattle.vx_dir.proofs.Places.{found, none_passes}
use Rattle.vx_dir.proofs.dir_blocks.place_for.Goals as goal

pub returns-then-used-room : goal.returns-then-used-room
returns-then-used-room c =
    let here : has_room c.args.room c.args.size c.index-blocks-i.result ≡ true = grind (arith, nat_tests) in
    found (has_room c.args.room c.args.size) c.args.blocks.now [] c.loop-i.i c.index-blocks-i.result c.loop-i-test.true c.index-blocks-i.is c.loop-i.invariant here

pub returns : goal.returns
returns c = none_passes (has_room c.args.room c.args.size) c.args.blocks.now [] c.loop-i.i c.loop-i-test.false c.loop-i.invariant
