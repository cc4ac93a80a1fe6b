use Rattle.std.proofs.Common.{sym, subst, arith}
use Rattle.vx_filemaps.specs.FileMaps.{IsReady}
use Rattle.vx_filemaps.proofs.Free.{new_ready}
use Rattle.vx_filemaps.proofs.tests.nothing_changes_where_space_is_short.Goals as goal

pub loop-i-init : goal.loop-i-init
loop-i-init g c = subst IsReady (sym c.in_ok-free.ensures) (new_ready c.new.result 4063 1 (omega arith))
