use Rattle.std.proofs.Common.{sym, subst, arith}
use Rattle.vx_filemaps.specs.FileMaps.{IsReady}
use Rattle.vx_filemaps.proofs.Free.{new_ready}
use Rattle.vx_filemaps.proofs.tests.two_files_in_turn.Goals as goal

pub loop-p-init : goal.loop-p-init
loop-p-init g c = subst IsReady (sym c.in_ok-free.ensures) (new_ready c.new.result 4063 1 (omega arith))
