use Rattle.std.proofs.Common.{◌≡◌, replicate}
use Rattle.vx_dev.proofs.image.Image.zeroed.Given as goal

abbrev pub invariant-loop-n : goal.invariant-loop-n
invariant-loop-n l = l.zeros.items ≡ replicate l._n (replicate 512 0)
