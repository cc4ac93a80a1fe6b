use Rattle.std.proofs.Common.{◌≡◌}
use Rattle.vx_filedev.proofs.tests.writes_and_reads_a_file.Given as goal

abbrev pub invariant-loop-s : goal.invariant-loop-s
invariant-loop-s g l = l.dev.sectors ≡ 200
